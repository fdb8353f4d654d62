-- Wrong states are refused by their clauses: views, owned blocks, giving back, records and syncs.
use Rattle.std.proofs.Common.{◌≡◌, ◌≢◌, ◌⊎◌, ◌<◌, ◌+◌, slice_index, ℕ, zero, suc, List, [], ◌∷◌, length, refl, inl, inr, arith, ap}
use Rattle.std.proofs.lemmas.Bool.{false≢true, true≢false}
use Rattle.persistence.specs.Memory.{cell}
use Rattle.log_core.specs.Views.{MarkedWord}
use Rattle.log_core.specs.Synced.{IsSynced}
use Rattle.log_core.specs.Certain.{IsCertain}
use Rattle.log_core.specs.worked_rows.Samples.{small_shape}
use Rattle.log_core.specs.worked_rows.Rows.{synced, to_first}
use Rattle.log_core.specs.worked_rows.Refused.{ViewOfAnother, StoredNotPresent, ReplacedStillNamed, RecordOfNoWrite, SyncedMayBeLost}
use Rattle.log_core.proofs.row_checks.RowTells.{none_not_some, marked_of, first_byte}

pub one_part : (part : ℕ) → part ∷ [] ≢ []
one_part part none = (let long = ap (λ (parts : List ℕ). length parts) none in omega (arith, long))

-- a word that is neither the present one nor 0
no_kept : (A : Type 0) (word present : ℕ) → word ≢ present → word ≢ 0 → (word ≡ present) ⊎ ((word ≡ 0) × A) → ⊥
no_kept A word present other some (inl same) = other same
no_kept A word present other some (inr none) = some none.0

pub view_of_another : ViewOfAnother
view_of_another = (
  λ views. (let block = ((views 0 (one_part 0)).walked (λ none. omega (arith, none)) refl).block in omega (arith, block)),
  λ views. none_not_some 1 (((views 0 (one_part 0)).walked (λ none. omega (arith, none)) refl).table 0),
  λ views. (let past = (views 0 (one_part 0)).to_end in omega (arith, past)),
  λ views. no_kept _ _ _ (λ same. omega (arith, same)) (λ same. omega (arith, same)) ((views 0 (one_part 0)).kept_words refl).0.word_is,
)

pub stored_not_present : StoredNotPresent
stored_not_present = (
  λ owned. (let present = (owned 0).stored.0.present in omega (arith, present)),
  λ owned. false≢true (ap marked_of (((owned 0).filled 0 (omega arith) refl).each 0 (omega arith))),
  λ owned. (let other = ((owned 0).fenced 0 0 (omega arith) refl (omega arith)).before 0 (omega arith) (omega arith) in omega (arith, other)),
)

pub replaced_still_named : ReplacedStillNamed
replaced_still_named = (
  λ givings. true≢false ((givings.lists 0).replaced 1 2 refl (omega arith) (omega arith)),
  λ givings. (let sure = (givings.lists 0).replaced_sure refl in omega (arith, sure)),
  λ givings. (let later = (givings.scans 0 1).replaced (omega arith) (inl refl) refl in omega (arith, later)),
)

pub record_of_no_write : RecordOfNoWrite
record_of_no_write = (
  λ records. (let inside = ((records.writes 0).recorded.0 refl).1 in omega (arith, inside)),
  λ records. (let times = records.writes_once 0 (one_part 0) 1 (omega arith) (omega arith) in omega (arith, times)),
  λ records. (let times = records.writes_once 0 (one_part 0) 1 (omega arith) (omega arith) in omega (arith, times)),
  λ records. (let byte = ap first_byte (records.records 0).1.0.answers in omega (arith, byte)),
  λ records. (let times = records.collected_once 2 (omega arith) (omega arith) in omega (arith, times)),
  λ records. (let many = ap (λ (marks : List MarkedWord). length marks) (records.marks 0) in omega (arith, many)),
)

slot_sure : (k : ℕ) → k < 1 → 0 + k < 1 → IsCertain (cell synced.memory (24 + (k + 3))) (slice_index (to_first ∷ []) k)
slot_sure zero less before = record { present = refl; before = λ j from to. absurd (omega (arith, from, to)) }
slot_sure (suc k) less before = absurd (omega (arith, less))

pub is_synced : IsSynced small_shape (λ word. cell synced.memory word) synced.generations synced.logs 0 1
is_synced zero zero from inside cut number_inside = record { slots = slot_sure; link = λ some. absurd (some refl) }
is_synced zero (suc number) from inside cut number_inside = absurd (omega (arith, number_inside))
is_synced (suc place) number from inside cut number_inside = absurd (omega (arith, inside))

pub synced_may_be_lost : SyncedMayBeLost
synced_may_be_lost = (
  λ syncs. (let other = ((syncs.words 0 0 (omega arith) (omega arith) (omega arith) (omega arith)).slots 0 (omega arith) (omega arith)).before 0 (omega arith) (omega arith) in omega (arith, other)),
  λ syncs. (let low = (syncs.views_hold 0).answered.0 1 refl in omega (arith, low)),
  λ syncs. (let past = syncs.to_end in omega (arith, past)),
  is_synced,
)
