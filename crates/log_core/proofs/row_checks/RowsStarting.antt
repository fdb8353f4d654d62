-- A start with a snapshot, runs in a block, a seal and a link, and all seats made.
use Rattle.std.proofs.Common.{◌≡◌, ◌⊎◌, ◌≤◌, ◌<◌, ◌+◌, ◌==◌, ◌&&◌, nat_lt, if◌then◌else◌, ℕ, zero, suc, true, List, [], ◌∷◌, length, slice_index, refl, ap, ◌∙◌, inl, inr, arith, Option, None}
use Rattle.std.specs.List.{slice_get, AllByRecursion}
use Rattle.std.specs.Option.{option_or}
use Rattle.std.proofs.lemmas.Bool.{and_parts, or_cases, eqb-true, ltb-true}
use Rattle.log_image.specs.Header.{shape_of}
use Rattle.log_image.specs.Entries.{Meaning, direct_meaning}
use Rattle.log_image.specs.Maps.{map_of, block_in}
use Rattle.log_image.specs.Stands.{StandsBy}
use Rattle.log_image.specs.Tails.{tail_of, is_after}
use Rattle.log_image.specs.Taken.{bit_of, is_taken}
use Rattle.log_image.proofs.HoldingLemmas.{names_none, holds_by}
use Rattle.log_core.specs.Starts.{IsStart}
use Rattle.log_core.specs.worked_rows.Starting.{image_c, EachKindStarts}
use Rattle.log_core.proofs.row_checks.RowChecks.{below_same, below_implied}
use Rattle.log_core.proofs.row_checks.RowsStart.{each_small}
use Rattle.log_core.proofs.starts.StartMeets.{start_meets}

abbrev run_entry : Meaning
run_entry = record { holder = 5 ∷ []; virt = 4; blocks = 1 ∷ 3 ∷ []; leftover = 0 }

abbrev all_entries : List Meaning
all_entries = direct_meaning 1835009 ∷ direct_meaning 524293 ∷ direct_meaning 1048585 ∷ direct_meaning 1572877 ∷ run_entry ∷ []

-- past the last block of each entry they map nothing
all_past : (entries : List Meaning) (virt : ℕ) → AllByRecursion (λ (entry : Meaning). entry.virt + length entry.blocks ≤ virt) entries → map_of entries virt ≡ None
all_past [] virt past = refl
all_past (entry ∷ entries) virt past = ap (λ (o : Option ℕ). option_or o (block_in entry virt)) (all_past entries virt past.1) ∙ ap (λ (o : Option ℕ). option_or None o) (names_none entry virt past.0)

six_mapped : (virt : ℕ) → map_of all_entries virt ≡ slice_get (7 ∷ 2 ∷ 4 ∷ 6 ∷ 1 ∷ 3 ∷ []) virt
six_mapped zero = refl
six_mapped (suc zero) = refl
six_mapped (suc (suc zero)) = refl
six_mapped (suc (suc (suc zero))) = refl
six_mapped (suc (suc (suc (suc zero)))) = refl
six_mapped (suc (suc (suc (suc (suc zero))))) = refl
six_mapped (suc (suc (suc (suc (suc (suc virt)))))) = all_past all_entries (suc (suc (suc (suc (suc (suc virt)))))) (omega arith, (omega arith, (omega arith, (omega arith, (omega arith, tt)))))

stands : StandsBy image_c.words image_c.chain image_c.file 8
stands = record {
  header = record { magic = refl; version = refl; unnamed = refl; allowed = refl; whole = refl; head_unnamed = refl; generation = omega arith };
  stands = record {
    is_chain = record { linked = (refl, (refl, refl, (refl, refl, refl))); different = refl; snapshots = ((refl, refl), tt); logs = (refl, refl, (refl, refl, tt)) };
    format = record { areas = refl; kinds = refl; snapshots = refl; logs = refl; named_once = refl; below_limit = omega arith };
    ends_at = refl;
    ends_with = refl;
    holds = holds_by image_c.words (shape_of image_c.words) all_entries image_c.file (7 ∷ 2 ∷ 4 ∷ 6 ∷ 1 ∷ 3 ∷ []) 0 six_mapped refl refl (omega arith);
  };
}

-- what stands after the tail is in block 12
after_inside : (place : ℕ) → is_after (shape_of image_c.words) (tail_of image_c.words (shape_of image_c.words) image_c.chain) place ≡ true → place < 104
after_inside place after = by (or_cases (place == 96) (nat_lt 99 place && nat_lt place 104) after)
  where
    by : ((place == 96) ≡ true) ⊎ ((nat_lt 99 place && nat_lt place 104) ≡ true) → place < 104
    by (inl link) = (let same = eqb-true place 96 link in omega (arith, same))
    by (inr slot) = ltb-true place 104 (and_parts (nat_lt 99 place) (nat_lt place 104) slot).1

starts : IsStart image_c
starts = record {
  small = each_small image_c.words refl;
  stands = stands;
  same_shape = record { same_data = refl; same_log = refl; same_bytes = refl };
  clear = λ place after. eqb-true (slice_index image_c.words place) 0
      (below_implied 104 (λ k. is_after (shape_of image_c.words) (tail_of image_c.words (shape_of image_c.words) image_c.chain) k) (λ k. slice_index image_c.words k == 0) place refl (after_inside place after) after);
  bitmap = record { room = omega arith; bits = λ block less. below_same 32 (λ b. bit_of image_c.taken b) (λ b. if is_taken image_c.words (shape_of image_c.words) image_c.chain b then 1 else 0) block refl less };
  seats = record { some = omega arith; few = omega arith; made = inr refl };
}

pub each_kind_starts : EachKindStarts
each_kind_starts = (starts, start_meets image_c starts, refl, refl, refl, refl, refl, refl)
