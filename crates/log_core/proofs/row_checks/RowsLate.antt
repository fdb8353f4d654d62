-- Rows of a seat with an old pin that writes, syncs, and then walks anew.
use Rattle.std.proofs.Common.{◌≡◌, ◌⊎◌, ◌≤◌, ◌<◌, ◌+◌, ◌*◌, ℕ, zero, suc, true, List, [], ◌∷◌, replicate, slice_index, refl, sym, ◌∙◌, ap, subst, inl, inr, arith, Option, None, Some}
use Rattle.std.proofs.lemmas.Bool.{false≢true}
use Rattle.std.proofs.lemmas.List.{get_or_past}
use Rattle.std.specs.Option.{option_or}
use Rattle.log_entry.specs.WordBytes.{word_bytes}
use Rattle.log_entry.specs.declared.calls.Op.TheVariants.{Pwrite as PwriteOp}
use Rattle.log_entry.specs.declared.calls.Reply.TheVariants.{Wrote, Synced}
use Rattle.log_image.specs.Entries.{direct_meaning}
use Rattle.log_image.specs.Image.{is_in_data}
use Rattle.log_image.specs.Maps.{block_in, map_of}
use Rattle.log_image.proofs.HoldingLemmas.{names_none}
use Rattle.pmem_words.specs.Maps.{map_at as mapped_at}
use Rattle.persistence.specs.Memory.{cell}
use Rattle.log_core.specs.Views.{view_of}
use Rattle.log_core.specs.Files.{byte_in, entries}
use Rattle.log_core.specs.Cores.{IsPinned, generation_at}
use Rattle.log_core.specs.Steps.{content_of}
use Rattle.log_core.specs.May.{MayCommit, is_fenced}
use Rattle.log_core.specs.Walks.{read_meanings}
use Rattle.log_core.specs.Certain.{IsCertain}
use Rattle.log_core.specs.Invariant.{names_by}
use Rattle.log_core.specs.Synced.{IsSynced, SyncHolds}
use Rattle.log_core.specs.worked_rows.Samples.{image_a, small_shape}
use Rattle.log_core.specs.worked_rows.Rows.{to_second}
use Rattle.log_core.specs.worked_rows.Accepted.{late_found, late_synced, late_reading, late_walked, LateWrite, LateSync, LateWalk}
use Rattle.log_core.proofs.row_checks.RowChecks.{in_all, below_same}
use Rattle.log_core.proofs.row_checks.RowTells.{none_not_some, some_not_none, number_of, said, is_written}
use Rattle.log_core.proofs.row_checks.RowsWrong.{one_part}

-- a block with this byte first, and no other, holds the file of that byte
pub bytes_held : (content : ℕ → List ℕ) → content 2 ≡ 187 ∷ replicate 7 0 → (virt block at : ℕ) → block_in (direct_meaning to_second) virt ≡ Some block → at < 64
    → byte_in content (Some block) at ≡ slice_index (187 ∷ []) (virt * 64 + at)
bytes_held content is zero block at found inside =
    subst (λ (b : ℕ). byte_in content (Some b) at ≡ slice_index (187 ∷ []) (0 * 64 + at)) (ap number_of found)
    (subst (λ (words : List ℕ). slice_index (word_bytes words) at ≡ slice_index (187 ∷ []) (0 * 64 + at)) (sym is)
    (below_same 64 (λ k. slice_index (word_bytes (187 ∷ replicate 7 0)) k) (λ k. slice_index (187 ∷ []) (0 * 64 + k)) at refl inside))
bytes_held content is (suc virt) block at found inside = absurd (none_not_some block (sym (names_none (direct_meaning to_second) (suc virt) (omega arith)) ∙ found))

-- where the entry gives no block, the file stays as it is
pub rest_held : (virt at : ℕ) → block_in (direct_meaning to_second) virt ≡ None → at < 64 → slice_index (170 ∷ []) (virt * 64 + at) ≡ slice_index (187 ∷ []) (virt * 64 + at)
rest_held zero at none inside = absurd (some_not_none 2 none)
rest_held (suc virt) at none inside = get_or_past (170 ∷ []) (suc virt * 64 + at) 0 (omega arith) ∙ sym (get_or_past (187 ∷ []) (suc virt * 64 + at) 0 (omega arith))

late_commit : MayCommit image_a late_found.history (view_of late_found.views 1).seat 35 to_second
late_commit = record {
  at_tail = record { valid = refl; ready = refl; not_won = refl; at_tail = refl };
  slot = refl;
  inside = omega arith;
  small = omega arith;
  op = PwriteOp 0 (187 ∷ []);
  job = refl;
  is_write = refl;
  allowed = refl;
  form = refl;
  owned = λ block named. in_all (λ b. is_fenced (view_of late_found.views 1).seat.blocks.owned b) (2 ∷ []) block refl named;
  in_data = λ block named. in_all (λ b. is_in_data small_shape b) (2 ∷ []) block refl named;
  once = refl;
  size_is = refl;
  holds = bytes_held (λ other. content_of (view_of late_found.views 1).seat other) refl;
  rest = rest_held;
}

pub late_write : LateWrite
late_write = (
  refl,
  refl,
  refl,
  refl,
  refl,
  refl,
  record {
    made = omega arith;
    unspent = one_part 1;
    step = record {
      begins = record { works = []; may = tt; gives = refl };
      number = refl;
      may = (λ seal. absurd (omega (arith, seal)), λ entry. late_commit);
      enters = record {
        last = _;
        computed = record { works = []; may = tt; gives = refl };
        going_on = refl;
        adds_are = record { at_tail = refl; position = refl; seat = refl; number = refl; op = refl; fits = refl };
        seat_is = refl;
      };
    };
  },
  refl,
  refl,
  refl,
  refl,
  refl,
  refl,
  refl,
  refl,
  refl,
)

slot_sure : (k : ℕ) → k < 1 → 1 + k < 2 → IsCertain (cell late_synced.memory (32 + (k + 3))) (slice_index (to_second ∷ []) k)
slot_sure zero less before = record { present = refl; before = λ j from to. absurd (omega (arith, from, to)) }
slot_sure (suc k) less before = absurd (omega (arith, less))

words : IsSynced small_shape (λ word. cell late_synced.memory word) late_synced.generations late_synced.logs 1 2
words zero number from inside cut within = absurd (omega (arith, from))
words (suc zero) zero from inside cut within = absurd (omega (arith, cut))
words (suc zero) (suc zero) from inside cut within = record { slots = slot_sure; link = λ some. absurd (some refl) }
words (suc zero) (suc (suc number)) from inside cut within = absurd (omega (arith, within))
words (suc (suc place)) number from inside cut within = absurd (omega (arith, inside))

no_sync : (position : ℕ) → Wrote 1 ≡ Synced position → ⊥
no_sync position same = false≢true (sym (ap is_written same))

views : (seat : ℕ) → SyncHolds 8 (names_by image_a late_synced.logs (entries image_a late_synced.history) late_synced.generations) (λ word. cell late_synced.memory word) late_synced.memory.past late_synced.memory.pending 2 seat (view_of late_synced.views seat)
views zero = record { to = λ position same. absurd (none_not_some position same); marks = λ sync. tt; valid = λ sync some. absurd (some refl); answered = (λ position same. absurd (no_sync position same), tt) }
views (suc zero) = record {
  to = λ position same. absurd (none_not_some position same);
  marks = λ sync. tt;
  valid = λ sync some. absurd (some refl);
  answered = (λ position same. absurd (no_sync position same), (λ position same. (let two = ap said same in omega (arith, two)), tt));
}
views (suc (suc seat)) = record { to = λ position same. absurd (none_not_some position same); marks = λ sync. tt; valid = λ sync some. absurd (some refl); answered = tt }

pub late_sync : LateSync
late_sync = (
  refl,
  refl,
  record { from_first = omega arith; to_end = omega arith; words = words; views_hold = views },
  λ syncs. (let other = ((syncs.words 1 1 (omega arith) (omega arith) (omega arith) (omega arith)).slots 0 (omega arith) (omega arith)).before 1 (omega arith) (omega arith) in omega (arith, other)),
)

table : (virt : ℕ) → mapped_at (view_of late_reading.views 1).seat.walk.map virt
    ≡ map_of (read_meanings late_reading.recorded (generation_at image_a late_reading.generations 2).snapshots 5 4) virt
table zero = refl
table (suc zero) = refl
table (suc (suc zero)) = refl
table (suc (suc (suc zero))) = refl
table (suc (suc (suc (suc virt)))) = sym (ap (λ (o : Option ℕ). option_or None o) (names_none (direct_meaning 262145) (suc (suc (suc (suc virt)))) (omega arith)))

-- seat 1 has the pin of the second generation then
none_old : (seat : ℕ) → (view_of late_walked.views seat).seat.hold.valid ≡ true → (view_of late_walked.views seat).seat.hold.generation ≡ 1 → ⊥
none_old zero valid same = false≢true valid
none_old (suc zero) valid same = omega (arith, same)
none_old (suc (suc seat)) valid same = false≢true valid

not_kept : (1 ≤ 0) ⊎ IsPinned image_a late_walked.views 0 → ⊥
not_kept (inl above) = omega (arith, above)
not_kept (inr pinned) = none_old pinned.seat pinned.valid pinned.same

pub late_walk : LateWalk
late_walk = (
  refl,
  refl,
  refl,
  refl,
  record { inside = omega arith; block = refl; from = omega arith; upto = omega arith; table = table; size_is = refl; position_is = refl },
  refl,
  refl,
  refl,
  refl,
  refl,
  refl,
  refl,
  record { at_tail = refl; position = refl; seat = refl; number = refl; op = refl; fits = refl },
  record { inside = omega arith; why = inr (record { seat = 1; valid = refl; same = refl }) },
  λ kept. not_kept kept.why,
)
