-- The clause on contents holds in the middle of a collection, for both generations.
use Rattle.std.proofs.Common.{◌≡◌, ◌≤◌, ◌<◌, ◌+◌, ◌*◌, ◌==◌, ℕ, zero, suc, Bool, true, false, List, [], ◌∷◌, length, slice_index, refl, sym, ◌∙◌, ap, inl, inr, arith, Option, None}
use Rattle.std.proofs.lemmas.Bool.{false≢true, eqb-true}
use Rattle.std.proofs.lemmas.List.{get_or_past}
use Rattle.std.specs.Option.{option_or}
use Rattle.log_entry.specs.WordBytes.{word_bytes}
use Rattle.log_image.specs.Entries.{direct_meaning}
use Rattle.log_image.proofs.HoldingLemmas.{names_none}
use Rattle.persistence.specs.Memory.{cell}
use Rattle.std.specs.Prelude.{slice_index_or}
use Rattle.log_core.specs.Entries.{no_entry, entry_by}
use Rattle.log_core.specs.May.{is_log_entry_by}
use Rattle.log_core.specs.Origin.{Owner, Free, Header, InChain, OwnedBy, LeftTo}
use Rattle.log_core.specs.Files.{entries, history_map_at, byte_in}
use Rattle.log_core.specs.Contents.{IsStillTaken, AreRecorded, EntriesSay, HoldsFileAt}
use Rattle.log_core.specs.worked_rows.Samples.{image_a, small_shape}
use Rattle.log_core.specs.worked_rows.Rows.{collected, to_first}
use Rattle.log_core.specs.worked_rows.Accepted.{ContentsStand}
use Rattle.log_core.proofs.row_checks.RowChecks.{all_below, below_all, below_same, in_all, all_in, is_certain, certain_by}

abbrev is_still : Owner → Bool
is_still InChain = true
is_still (LeftTo seat) = true
is_still _ = false

still_taken : (whose : Owner) → is_still whose ≡ true → IsStillTaken whose
still_taken InChain still = inl refl
still_taken (LeftTo seat) still = inr (seat, refl)
still_taken Free still = absurd (false≢true still)
still_taken Header still = absurd (false≢true still)
still_taken (OwnedBy seat) still = absurd (false≢true still)

-- the words of some blocks are the recorded ones, where each is
recorded_by : (blocks : List ℕ) → all_in (λ b. all_below 8 (λ k. is_certain (cell collected.memory (b * 8 + k)) (slice_index (collected.recorded b) k))) blocks ≡ true
    → AreRecorded small_shape (λ word. cell collected.memory word) collected.recorded blocks
recorded_by blocks all block k named within =
    certain_by (cell collected.memory (block * 8 + k)) (slice_index (collected.recorded block) k)
    (below_all 8 (λ j. is_certain (cell collected.memory (block * 8 + j)) (slice_index (collected.recorded block) j)) k
    (in_all (λ b. all_below 8 (λ j. is_certain (cell collected.memory (b * 8 + j)) (slice_index (collected.recorded b) j))) blocks block all named) within)

held_bytes : (virt at : ℕ) → at < 64 → byte_in collected.recorded (history_map_at image_a (entries image_a collected.history) 1 virt) at ≡ slice_index (170 ∷ []) (virt * 64 + at)
held_bytes zero at within = below_same 64 (λ k. slice_index (word_bytes (collected.recorded 1)) k) (λ k. slice_index (170 ∷ []) (0 * 64 + k)) at refl within
held_bytes (suc virt) at within =
    ap (λ (found : Option ℕ). byte_in collected.recorded (option_or None found) at) (names_none (direct_meaning to_first) (suc virt) (omega arith))
    ∙ sym (get_or_past (170 ∷ []) (suc virt * 64 + at) 0 (omega arith))

holds_file : (position : ℕ) → position ≤ 1 → HoldsFileAt image_a collected.history collected.recorded position
holds_file zero to = record { early = λ before. absurd (omega (arith, before)); held = λ from. record { each = λ virt at within. refl }; size_is = refl }
holds_file (suc zero) to = record { early = λ before. absurd (omega (arith, before)); held = λ from. record { each = held_bytes }; size_is = refl }
holds_file (suc (suc position)) to = absurd (omega (arith, to))

entry_says : EntriesSay small_shape collected.recorded 0 (entries image_a collected.history)
entry_says = record { same = same; form = form }
  where
    same : (k : ℕ) → 0 ≤ k → k < 1 → slice_index_or (entries image_a collected.history) k no_entry ≡ entry_by collected.recorded (slice_index_or (entries image_a collected.history) k no_entry).word
    same zero from less = refl
    same (suc k) from less = absurd (omega (arith, less))

    form : (k : ℕ) → 0 ≤ k → k < 1 → is_log_entry_by collected.recorded small_shape (slice_index_or (entries image_a collected.history) k no_entry).word ≡ true
    form zero from less = refl
    form (suc k) from less = absurd (omega (arith, less))

pub contents_stand : ContentsStand
contents_stand zero kept = record {
  taken = λ block named. still_taken (collected.owner block) (in_all (λ b. is_still (collected.owner b)) (3 ∷ 4 ∷ 1 ∷ []) block refl named);
  whole = λ block named. eqb-true (length (collected.recorded block)) 8 (in_all (λ b. length (collected.recorded b) == 8) (3 ∷ 4 ∷ 1 ∷ []) block refl named);
  words = recorded_by (1 ∷ []) refl;
  entries_say = entry_says;
  snapshot = record { whole = λ some. absurd (omega (arith, some)); empty = λ none. (refl, refl, λ virt. refl); size_is = refl; shared_is = refl };
  files = λ position from to. holds_file position to;
}
contents_stand (suc zero) kept = record {
  taken = λ block named. still_taken (collected.owner block) (in_all (λ b. is_still (collected.owner b)) (5 ∷ 4 ∷ 1 ∷ []) block refl named);
  whole = λ block named. eqb-true (length (collected.recorded block)) 8 (in_all (λ b. length (collected.recorded b) == 8) (5 ∷ 4 ∷ 1 ∷ []) block refl named);
  words = recorded_by (5 ∷ 1 ∷ []) refl;
  entries_say = record { same = λ k from less. absurd (omega (arith, from, less)); form = λ k from less. absurd (omega (arith, from, less)) };
  snapshot = record {
    whole = λ some. record { some = omega arith; words = (refl, refl, refl, refl, tt); map_is = λ virt. refl };
    empty = λ none. absurd (omega (arith, none));
    size_is = refl;
    shared_is = refl;
  };
  files = λ position from to. holds_file position to;
}
contents_stand (suc (suc place)) kept = absurd (let inside = kept.inside in omega (arith, inside))
