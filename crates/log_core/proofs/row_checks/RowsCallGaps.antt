-- What one clause alone refuses of computations and of views: tables, bases, tails, tasks and numbers.
use Rattle.std.proofs.Common.{refl, ap, arith}
use Rattle.std.proofs.lemmas.Bool.{false≢true, true≢false}
use Rattle.log_core.specs.worked_rows.CallGaps.{TableOfAnother, BaseFromBefore, BasesDropped, BaseLeftOver, FirstBaseShort, TailNotWalked, HeadOfNoCollection, SyncOfNoSync, CallOfNoNumber}
use Rattle.log_core.proofs.row_checks.RowTells.{some_not_none, none_not_some, is_op, is_put, is_sync, is_collect, said}
use Rattle.log_core.proofs.row_checks.RowsWrong.{one_part}

pub table_of_another : TableOfAnother
table_of_another = (
  refl,
  refl,
  refl,
  (some_not_none 171, refl),
  λ may. false≢true may.reads.own_table,
  λ may. false≢true may.reads.own_table,
)

pub base_from_before : BaseFromBefore
base_from_before = (
  refl,
  refl,
  refl,
  refl,
  λ holds. (let byte = holds.bytes (λ none. true≢false (ap is_op none)) 0 1 (omega arith) (omega arith) (omega arith) in omega (arith, byte)),
  λ may. false≢true may.reads.at_tail,
  λ may. false≢true may.reads.at_tail,
  λ holds. (let late = holds.from_first (one_part 0) in omega (arith, late)),
)

pub bases_dropped : BasesDropped
bases_dropped = (
  λ may. (let few = may.few in omega (arith, few)),
  tt,
  record { reads = record { valid = refl; own_table = refl; at_tail = refl }; few = omega arith; whole = refl; other = λ place less. absurd (omega (arith, less)) },
)

pub base_left_over : BaseLeftOver
base_left_over = (
  refl,
  refl,
  record { most = omega arith; whole = omega arith; from_first = λ some. omega arith; bytes = λ running. absurd (running refl) },
  record { most = omega arith; whole = omega arith; from_first = λ some. omega arith; bytes = λ running. absurd (running refl) },
  λ holds. (let byte = holds.bytes (λ none. true≢false (ap is_op none)) 0 1 (omega arith) (omega arith) (omega arith) in omega (arith, byte)),
)

pub first_base_short : FirstBaseShort
first_base_short = (
  record { reads = record { valid = refl; own_table = refl; at_tail = refl }; begun = omega arith; inside = omega arith; known = λ block same. absurd (none_not_some block same) },
  refl,
  refl,
  λ holds. (let byte = holds.bytes (λ none. true≢false (ap is_op none)) 0 0 (omega arith) (omega arith) (omega arith) in omega (arith, byte)),
  λ holds. (let whole = holds.whole in omega (arith, whole)),
)

pub tail_not_walked : TailNotWalked
tail_not_walked = (
  record { at_tail = refl; position = refl; seat = refl; number = refl; op = refl; fits = refl },
  refl,
  λ holds. (let size = ap said holds.answers in omega (arith, size)),
  λ tail. (tail refl).walked refl,
  λ tail. (let late = (tail refl).from_first in omega (arith, late)),
  λ holds. (let late = holds.from_first in omega (arith, late)),
)

pub head_of_no_collection : HeadOfNoCollection
head_of_no_collection = (
  record { at_tail = refl; position = refl; seat = refl; number = refl; op = refl; fits = refl },
  refl,
  refl,
  λ task. false≢true (ap is_collect (task.put_collects (λ none. true≢false (ap is_put none)))),
)

pub sync_of_no_sync : SyncOfNoSync
sync_of_no_sync = (
  refl,
  refl,
  λ syncs. (let same = ((syncs.views_hold 0).to 0 refl).0 in omega (arith, same)),
  λ task. false≢true (ap is_sync (task.synced_syncs (some_not_none 0))),
)

pub call_of_no_number : CallOfNoNumber
call_of_no_number = (
  record { at_tail = refl; position = refl; seat = refl; number = refl; op = refl; fits = refl },
  λ never. (let rises = (never.0 refl).1 in omega (arith, rises)),
  λ fits. (let some = fits.some (λ none. true≢false (ap is_op none)) in omega (arith, some)),
)
