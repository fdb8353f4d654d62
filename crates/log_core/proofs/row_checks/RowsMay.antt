-- Rows of conditions of steps.
use Rattle.std.proofs.Common.{◌≡◌, ◌⊎◌, ◌<◌, ◌+◌, ◌*◌, ℕ, zero, suc, List, [], ◌∷◌, length, replicate, refl, sym, ◌∙◌, subst, inl, inr, arith, ap, None, Some}
use Rattle.std.specs.Prelude.{slice_index, max}
use Rattle.std.proofs.lemmas.Bool.{false≢true}
use Rattle.std.proofs.lemmas.List.{get_or_past}
use Rattle.log_entry.specs.Legal.{file_after}
use Rattle.log_entry.specs.WordBytes.{word_bytes}
use Rattle.log_entry.specs.declared.calls.Op.{Op}
use Rattle.log_entry.specs.declared.calls.Op.TheVariants.{Pwrite as PwriteOp}
use Rattle.log_image.specs.Entries.{direct_meaning}
use Rattle.log_image.specs.Maps.{block_in, entry_end}
use Rattle.log_image.specs.Image.{is_in_data}
use Rattle.log_image.proofs.HoldingLemmas.{names_none}
use Rattle.pmem_words.specs.Seats.{Seat}
use Rattle.log_core.specs.Views.{MarkedWord, op_in, view_of}
use Rattle.log_core.specs.Files.{byte_in, file_at, accepted_reply}
use Rattle.log_core.specs.Works.{seat_shape}
use Rattle.log_core.specs.Steps.{content_of, new_meaning}
use Rattle.log_core.specs.After.{op_or_size}
use Rattle.log_core.specs.May.{MayCommit, MayMark, OfOwned, OfNewHead, OfHead, OfTrail, is_fenced, walked_trail}
use Rattle.log_core.specs.worked_rows.Samples.{image_a, small_shape}
use Rattle.log_core.specs.worked_rows.Rows.{racing, stored_words, syncing, to_first}
use Rattle.log_core.specs.worked_rows.Refused.{seat_zero}
use Rattle.log_core.specs.worked_rows.Accepted.{writer_of, PinMayBeStored, WordMayBeLoaded, WordMayBeMarked, EntryMayBePut}
use Rattle.log_core.proofs.row_checks.RowChecks.{in_all, below_same}
use Rattle.log_core.proofs.row_checks.RowTells.{none_not_some, some_not_none, number_of, is_sync}

no_pin : (value : ℕ) → value ≡ 2 → (A : Type 0) → (value ≡ 0) ⊎ (A × (value ≡ 1)) → ⊥
no_pin value two A (inl none) = omega (arith, two, none)
no_pin value two A (inr pinned) = (let one = pinned.1 in omega (arith, two, one))

pub pin_may_be_stored : PinMayBeStored
pin_may_be_stored = (
  record { value_is = inr (λ none. omega (arith, none), refl); no_marks = λ sync. refl },
  record { value_is = inl refl; no_marks = λ sync. refl },
  λ may. no_pin 2 refl _ may.value_is,
  λ may. (let none = ap (λ (marks : List MarkedWord). length marks) (may.no_marks refl) in omega (arith, none)),
)

pub word_may_be_loaded : WordMayBeLoaded
word_may_be_loaded = (
  record { valid = refl; named = refl },
  λ may. false≢true may.named,
  λ may. false≢true may.valid,
)

no_head_mark : MayMark (walked_trail image_a stored_words (seat_zero stored_words)) (view_of stored_words.views 0).ghost (seat_zero stored_words) 3 → ⊥
no_head_mark (OfOwned owned other) = false≢true owned
no_head_mark (OfNewHead same put) = put refl
no_head_mark (OfHead same sync valid) = false≢true (ap is_sync sync)
no_head_mark (OfTrail walked sync valid) = false≢true walked

no_empty_mark : MayMark (walked_trail image_a syncing (seat_zero syncing)) (view_of syncing.views 0).ghost (seat_zero syncing) 28 → ⊥
no_empty_mark (OfOwned owned other) = false≢true owned
no_empty_mark (OfNewHead same put) = put refl
no_empty_mark (OfHead same sync valid) = omega (arith, same)
no_empty_mark (OfTrail walked sync valid) = false≢true walked

pub word_may_be_marked : WordMayBeMarked
word_may_be_marked = (
  record { owned = refl; small = omega arith },
  λ may. false≢true may.owned,
  OfOwned refl (λ sync. false≢true (ap is_sync sync)),
  no_head_mark,
  OfHead refl refl refl,
  OfTrail refl refl refl,
  no_empty_mark,
)

bytes_held : (virt block at : ℕ) → block_in (direct_meaning to_first) virt ≡ Some block → at < 64
    → byte_in (λ other. content_of (seat_zero racing) other) (Some block) at ≡ slice_index (170 ∷ []) (virt * 64 + at)
bytes_held zero block at found inside =
    subst (λ (b : ℕ). byte_in (λ other. content_of (seat_zero racing) other) (Some b) at ≡ slice_index (170 ∷ []) (0 * 64 + at)) (ap number_of found)
    (below_same 64 (λ k. slice_index (word_bytes (content_of (seat_zero racing) 1)) k) (λ k. slice_index (170 ∷ []) (0 * 64 + k)) at refl inside)
bytes_held (suc virt) block at found inside = absurd (none_not_some block (sym (names_none (direct_meaning to_first) (suc virt) (omega arith)) ∙ found))

pub rest_held : (virt at : ℕ) → block_in (direct_meaning to_first) virt ≡ None → at < 64 → slice_index [] (virt * 64 + at) ≡ slice_index (170 ∷ []) (virt * 64 + at)
rest_held zero at none inside = absurd (some_not_none 1 none)
rest_held (suc virt) at none inside = sym (get_or_past (170 ∷ []) (suc virt * 64 + at) 0 (omega arith))

-- what a condition says of the bytes and of the size, by the call that runs
byte_of : (s : Seat) (entry : ℕ) (op : Op) → op_in s ≡ Some op → MayCommit image_a [] s 27 entry → (virt block at : ℕ) → block_in (new_meaning s entry) virt ≡ Some block → at < s.geometry.block_bytes
    → byte_in (λ other. content_of s other) (Some block) at ≡ slice_index (file_after (file_at image_a [] s.walk.position) op (accepted_reply op s.walk.size)) (virt * s.geometry.block_bytes + at)
byte_of s entry op job may virt block at found inside =
    subst (λ (o : Op). byte_in (λ other. content_of s other) (Some block) at ≡ slice_index (file_after (file_at image_a [] s.walk.position) o (accepted_reply o s.walk.size)) (virt * s.geometry.block_bytes + at))
    (ap op_or_size (sym may.job ∙ job)) (may.holds virt block at found inside)

pub size_of : (s : Seat) (entry : ℕ) (op : Op) → op_in s ≡ Some op → MayCommit image_a [] s 27 entry
    → max s.walk.size (entry_end (seat_shape s) (new_meaning s entry)) ≡ length (file_after (file_at image_a [] s.walk.position) op (accepted_reply op s.walk.size))
size_of s entry op job may =
    subst (λ (o : Op). max s.walk.size (entry_end (seat_shape s) (new_meaning s entry)) ≡ length (file_after (file_at image_a [] s.walk.position) o (accepted_reply o s.walk.size)))
    (ap op_or_size (sym may.job ∙ job)) may.size_is

pub entry_may_be_put : EntryMayBePut
entry_may_be_put = (
  record {
    at_tail = record { valid = refl; ready = refl; not_won = refl; at_tail = refl };
    slot = refl;
    inside = omega arith;
    small = omega arith;
    op = PwriteOp 0 (170 ∷ []);
    job = refl;
    is_write = refl;
    allowed = refl;
    form = refl;
    owned = λ block named. in_all (λ b. is_fenced (seat_zero racing).blocks.owned b) (1 ∷ []) block refl named;
    in_data = λ block named. in_all (λ b. is_in_data small_shape b) (1 ∷ []) block refl named;
    once = refl;
    size_is = refl;
    holds = bytes_held;
    rest = rest_held;
  },
  λ may. (let byte = byte_of (writer_of (171 ∷ replicate 7 0)) to_first (PwriteOp 0 (170 ∷ [])) refl may 0 1 0 refl (omega arith) in omega (arith, byte)),
  λ may. (let byte = byte_of (writer_of (426 ∷ replicate 7 0)) to_first (PwriteOp 0 (170 ∷ [])) refl may 0 1 1 refl (omega arith) in omega (arith, byte)),
  λ may. false≢true (may.owned 1 refl),
  λ may. false≢true (may.owned 2 refl),
  λ may. (let size = size_of (seat_zero racing) 272678883950593 (PwriteOp 0 (170 ∷ [])) refl may in omega (arith, size)),
  λ may. (let same = may.slot in omega (arith, same)),
)
