-- Rows of what a call computes: entries, snapshots, the bytes of a read and the present content.
use Rattle.std.proofs.Common.{◌≡◌, ◌≢◌, ◌⊎◌, ◌<◌, ◌+◌, ℕ, zero, suc, List, [], ◌∷◌, refl, sym, ◌∙◌, length, subst, inl, inr, arith, ap, Option, None, Some}
use Rattle.std.specs.Prelude.{slice_index}
use Rattle.std.proofs.lemmas.Bool.{false≢true}
use Rattle.pmem_words.specs.Seats.{Seat}
use Rattle.log_core.specs.Works.{kept_at, IsByteAt, MayLay, IsKeptWhole}
use Rattle.log_core.specs.worked_rows.Rows.{kept, reader, far_reader, with_runs_kept, EntryTakenIn, ReadLays, BaseWords, SnapshotRead}
use Rattle.log_core.proofs.row_checks.RowTells.{some_not_none, number_of, offset_of, asked_count}

kept_whole : IsKeptWhole with_runs_kept 5
kept_whole zero less = some_not_none 8590065668
kept_whole (suc zero) less = some_not_none 65537
kept_whole (suc (suc zero)) less = some_not_none 65539
kept_whole (suc (suc (suc zero))) less = some_not_none 0
kept_whole (suc (suc (suc (suc zero)))) less = some_not_none 0
kept_whole (suc (suc (suc (suc (suc zero))))) less = some_not_none 0
kept_whole (suc (suc (suc (suc (suc (suc zero)))))) less = some_not_none 0
kept_whole (suc (suc (suc (suc (suc (suc (suc zero))))))) less = some_not_none 0
kept_whole (suc (suc (suc (suc (suc (suc (suc (suc slot)))))))) less = absurd (omega (arith, less))

pub entry_taken_in : EntryTakenIn
entry_taken_in = (
  (record { free = record { not_won = refl; none_laid = refl; no_sync = refl; no_head = refl }; valid = refl; ready = refl; inside = λ same. omega (arith, same); used = λ same. omega (arith, same) }, λ same. omega (arith, same), λ indirect. kept_whole),
  refl,
  refl,
  refl,
  refl,
  refl,
  λ may. may.2 refl 0 (omega arith) refl,
  λ may. may.0.used refl,
  λ may. may.1 refl,
  (record { free = record { not_won = refl; none_laid = refl; no_sync = refl; no_head = refl }; valid = refl; ready = refl; inside = λ same. omega (arith, same); used = λ same. omega (arith, same) }, refl),
  refl,
  refl,
)

-- the first byte that a read from byte 0 on may lay
pub first_laid : (s : Seat) (bytes : List ℕ) (byte : ℕ) → slice_index bytes 0 ≡ byte → 0 < length bytes → offset_of s.calling.job ≡ 0 → MayLay s bytes → IsByteAt s (0 + length s.calling.bytes + 0) byte
first_laid s bytes byte same some from may =
    subst (λ (b : ℕ). IsByteAt s (0 + length s.calling.bytes + 0) b) same
    (subst (λ (o : ℕ). IsByteAt s (o + length s.calling.bytes + 0) (slice_index bytes 0)) (sym (ap offset_of may.job) ∙ from) (may.each 0 some))

two_laid : (k : ℕ) → k < 2 → IsByteAt (reader (kept 7 0 170 ∷ [])) (0 + 0 + k) (slice_index (170 ∷ 0 ∷ []) k)
two_laid zero less = (some_not_none 170, refl)
two_laid (suc zero) less = (some_not_none 170, refl)
two_laid (suc (suc k)) less = absurd (omega (arith, less))

one_laid : (k : ℕ) → k < 1 → IsByteAt far_reader (0 + 64 + k) (slice_index (0 ∷ []) k)
one_laid zero less = refl
one_laid (suc k) less = absurd (omega (arith, less))

pub read_lays : ReadLays
read_lays = (
  record { reads = record { valid = refl; own_table = refl; at_tail = refl }; offset = 0; count = 65; job = refl; few = omega arith; inside = omega arith; each = two_laid },
  refl,
  λ may. (let byte = (first_laid (reader (kept 7 0 170 ∷ [])) (171 ∷ []) 171 refl (omega arith) refl may).1 in omega (arith, byte)),
  λ may. (first_laid (reader []) (0 ∷ []) 0 refl (omega arith) refl may).0 refl,
  λ may. false≢true may.reads.at_tail,
  record { reads = record { valid = refl; own_table = refl; at_tail = refl }; offset = 0; count = 65; job = refl; few = omega arith; inside = omega arith; each = one_laid },
  λ may. (let byte = first_laid far_reader (1 ∷ []) 1 refl (omega arith) refl may in omega (arith, byte)),
  λ may. (let asked = ap asked_count may.job in let few = may.few in omega (arith, asked, few)),
)

pub base_words : BaseWords
base_words = (
  record { reads = record { valid = refl; own_table = refl; at_tail = refl }; few = omega arith; whole = refl; other = λ place less. absurd (omega (arith, less)) },
  record { reads = record { valid = refl; own_table = refl; at_tail = refl }; begun = omega arith; inside = omega arith; known = λ block same. subst (λ (b : ℕ). kept_at (kept 7 0 170 ∷ []) b 0 ≢ None) (ap number_of same) (some_not_none 170) },
  refl,
  refl,
  λ may. may.known 7 refl refl,
  λ may. omega (arith, may.whole),
  refl,
  refl,
  refl,
)

no_end : (slot : ℕ) (found : Option ℕ) → slot ≡ 7 → number_of found ≡ 1835009 → (slot ≡ 8) ⊎ (found ≡ Some 0) → ⊥
no_end slot found seven number (inl same) = omega (arith, seven, same)
no_end slot found seven number (inr same) = (let none = ap number_of same in omega (arith, number, none))

pub snapshot_read : SnapshotRead
snapshot_read = (
  refl,
  refl,
  (record { valid = refl; reading = refl; pinned = refl }, λ same. omega (arith, same)),
  refl,
  refl,
  λ may. may.1 refl,
  record { reading = record { valid = refl; reading = refl; pinned = refl }; no_more = inr refl; followed = record { link = some_not_none 10; next = some_not_none 4611686018427387911; kind_is = refl } },
  λ may. no_end 7 (Some 1835009) refl refl may.no_more,
  refl,
  refl,
  refl,
)
