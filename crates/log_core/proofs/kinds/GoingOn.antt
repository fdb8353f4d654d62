-- A computation that goes on with a call: what a core knows of the seat stays, and the call is the same.
use Rattle.std.proofs.Common.{◌≡◌, ◌≢◌, ℕ, Bool, true, false, List, [], ◌∷◌, refl, sym, ap, Option, Some, None}
use Rattle.pmem_words.specs.declared.keeps.Task.{Task}
use Rattle.pmem_words.specs.Seats.{Seat}
use Rattle.log_core.specs.Views.{Ghost, view_of, op_in, op_of}
use Rattle.log_core.specs.Origin.{Origin}
use Rattle.log_core.specs.Cores.{Core}
use Rattle.log_core.specs.Works.{Work, Begins, KeepsTable, StartsFromLog, StartsFromSnapshot, ReadsRun, NextSnapshot, EndsReading, SeeksFirst, SeeksNext, FindsFirst, TakesEntry, TakesSeal, Follows, Forgets, OpensBase, AddsBaseWord, DropsBases, Lays, SetsWord, CountsFilled, NotesNamed, KeepsReplaced, NotesHeld, IsFree, state_after_work, MayWork, is_going_on}
use Rattle.log_core.specs.Steps.{call_if}
use Rattle.log_core.specs.Invariant.{Invariant}
use Rattle.log_core.specs.Knows.{Knows}
use Rattle.log_core.proofs.Facts.{forget_facts}
use Rattle.log_core.proofs.kinds.SetsWord.{set_word_facts}
use Rattle.log_core.proofs.kinds.CountsFilled.{count_filled_facts}
use Rattle.log_core.proofs.kinds.Bases.{open_facts, add_facts}
use Rattle.log_core.proofs.kinds.DropsBases.{drop_facts}
use Rattle.log_core.proofs.kinds.Lays.{lay_facts}
use Rattle.log_core.proofs.kinds.NotesNamed.{named_facts}
use Rattle.log_core.proofs.kinds.NotesHeld.{held_facts}
use Rattle.log_core.proofs.kinds.KeepsReplaced.{replaced_facts}
use Rattle.log_core.proofs.kinds.KeepsTable.{table_facts}
use Rattle.log_core.proofs.kinds.StartsFromLog.{log_facts}
use Rattle.log_core.proofs.kinds.StartsFromSnapshot.{snapshot_facts}
use Rattle.log_core.proofs.kinds.NotesSnapshot.{run_facts, next_facts, end_facts}
use Rattle.log_core.proofs.kinds.SeeksFirst.{seek_first_facts, seek_next_facts, find_first_facts}
use Rattle.log_core.proofs.kinds.TakesEntry.{entry_facts}
use Rattle.log_core.proofs.kinds.AtTail.{seal_facts, follow_facts}

-- a computation begins a call, or goes on with one
pub begins_or_goes_on : (P : Work → Type 0) → ((task : Task) (bytes : List ℕ) → P (Begins task bytes)) → ((work : Work) → is_going_on work ≡ true → P work) → (work : Work) → P work
begins_or_goes_on P begins goes_on (Begins task bytes) = begins task bytes
begins_or_goes_on P begins goes_on KeepsTable = goes_on KeepsTable refl
begins_or_goes_on P begins goes_on StartsFromLog = goes_on StartsFromLog refl
begins_or_goes_on P begins goes_on StartsFromSnapshot = goes_on StartsFromSnapshot refl
begins_or_goes_on P begins goes_on ReadsRun = goes_on ReadsRun refl
begins_or_goes_on P begins goes_on NextSnapshot = goes_on NextSnapshot refl
begins_or_goes_on P begins goes_on EndsReading = goes_on EndsReading refl
begins_or_goes_on P begins goes_on SeeksFirst = goes_on SeeksFirst refl
begins_or_goes_on P begins goes_on SeeksNext = goes_on SeeksNext refl
begins_or_goes_on P begins goes_on FindsFirst = goes_on FindsFirst refl
begins_or_goes_on P begins goes_on TakesEntry = goes_on TakesEntry refl
begins_or_goes_on P begins goes_on TakesSeal = goes_on TakesSeal refl
begins_or_goes_on P begins goes_on Follows = goes_on Follows refl
begins_or_goes_on P begins goes_on Forgets = goes_on Forgets refl
begins_or_goes_on P begins goes_on (OpensBase virt) = goes_on (OpensBase virt) refl
begins_or_goes_on P begins goes_on AddsBaseWord = goes_on AddsBaseWord refl
begins_or_goes_on P begins goes_on DropsBases = goes_on DropsBases refl
begins_or_goes_on P begins goes_on (Lays bytes) = goes_on (Lays bytes) refl
begins_or_goes_on P begins goes_on (SetsWord place word value) = goes_on (SetsWord place word value) refl
begins_or_goes_on P begins goes_on (CountsFilled place) = goes_on (CountsFilled place) refl
begins_or_goes_on P begins goes_on (NotesNamed words) = goes_on (NotesNamed words) refl
begins_or_goes_on P begins goes_on KeepsReplaced = goes_on KeepsReplaced refl
begins_or_goes_on P begins goes_on (NotesHeld held) = goes_on (NotesHeld held) refl

-- a read that lays bytes asks the same
same_read : (task task_again : Task) (before after : List ℕ) → task ≡ task_again → op_of task_again after ≡ op_of task_again before → op_of task after ≡ op_of task before
same_read task task_again before after is same = Rattle.std.proofs.Common.subst (λ (t : Task). op_of t after ≡ op_of t before) (sym is) same

pub op_stays : (g : Ghost) (s : Seat) (work : Work) → is_going_on work ≡ true → MayWork g s work → op_in (state_after_work s work) ≡ op_in s
op_stays g s (Begins task bytes) going may = cc
op_stays g s KeepsTable going may = refl
op_stays g s StartsFromLog going may = refl
op_stays g s StartsFromSnapshot going may = refl
op_stays g s ReadsRun going may = refl
op_stays g s NextSnapshot going may = refl
op_stays g s EndsReading going may = refl
op_stays g s SeeksFirst going may = refl
op_stays g s SeeksNext going may = refl
op_stays g s FindsFirst going may = refl
op_stays g s TakesEntry going may = refl
op_stays g s TakesSeal going may = refl
op_stays g s Follows going may = refl
op_stays g s Forgets going may = refl
op_stays g s (OpensBase virt) going may = refl
op_stays g s AddsBaseWord going may = refl
op_stays g s DropsBases going may = refl
op_stays g s (Lays bytes) going may = same_read s.calling.job _ s.calling.bytes _ may.job refl
op_stays g s (SetsWord place word value) going may = refl
op_stays g s (CountsFilled place) going may = refl
op_stays g s (NotesNamed words) going may = refl
op_stays g s KeepsReplaced going may = refl
op_stays g s (NotesHeld held) going may = refl

-- a computation may be made also where the call has only just begun: that has put in no head and stored nothing
module _ (g : Ghost) (begun : Bool) (number : ℕ) where
  abbrev pub ghost_if : Ghost
  ghost_if = record g { call = call_if begun g.call number }

  no_head_if : (b : Bool) → g.call.put ≡ None → (call_if b g.call number).put ≡ None
  no_head_if true none = refl
  no_head_if false none = none

  pub free_begun : (s : Seat) → IsFree g s.calling → IsFree ghost_if s.calling
  free_begun s r = record { not_won = r.not_won; none_laid = r.none_laid; no_sync = r.no_sync; no_head = no_head_if begun r.no_head }

  pub may_begun : (s : Seat) (work : Work) → is_going_on work ≡ true → MayWork g s work → MayWork ghost_if s work
  may_begun s (Begins task bytes) going may = cc
  may_begun s KeepsTable going may = may
  may_begun s StartsFromLog going may = record { at_front = may.at_front; free = free_begun s may.free; no_bases = may.no_bases; kind_is = may.kind_is }
  may_begun s StartsFromSnapshot going may =
      (record { at_front = may.0.at_front; free = free_begun s may.0.free; no_bases = may.0.no_bases; kind_is = may.0.kind_is }, may.1)
  may_begun s ReadsRun going may = may
  may_begun s NextSnapshot going may = may
  may_begun s EndsReading going may = may
  may_begun s SeeksFirst going may = may
  may_begun s SeeksNext going may = may
  may_begun s FindsFirst going may = may
  may_begun s TakesEntry going may =
      (record { free = free_begun s may.0.free; valid = may.0.valid; ready = may.0.ready; inside = may.0.inside; used = may.0.used }, may.1, may.2)
  may_begun s TakesSeal going may =
      (record { free = free_begun s may.0.free; valid = may.0.valid; ready = may.0.ready; inside = may.0.inside; used = may.0.used }, may.1)
  may_begun s Follows going may = record { free = free_begun s may.free; valid = may.valid; ready = may.ready; at_end = may.at_end; linked = may.linked }
  may_begun s Forgets going may = may
  may_begun s (OpensBase virt) going may = may
  may_begun s AddsBaseWord going may = may
  may_begun s DropsBases going may = may
  may_begun s (Lays bytes) going may = may
  may_begun s (SetsWord place word value) going may = may
  may_begun s (CountsFilled place) going may = record { owned = may.owned; each = may.each }
  may_begun s (NotesNamed words) going may = may
  may_begun s KeepsReplaced going may = may
  may_begun s (NotesHeld held) going may = may

module _ (o : Origin) (c : Core) (n pin began : ℕ) (g : Ghost) (inv : Invariant o c) (unspent : (view_of c.views n).parts ≢ []) where
  pub going_facts : (s : Seat) (work : Work) → is_going_on work ≡ true → MayWork g s work → Knows o c n s g pin began → Knows o c n (state_after_work s work) g pin began
  going_facts s (Begins task bytes) going may f = cc
  going_facts s KeepsTable going may f = table_facts o c n s g pin began inv f may.0 may.1 may.2 may.3
  going_facts s StartsFromLog going may f = log_facts o c n s g pin began inv f may
  going_facts s StartsFromSnapshot going may f = snapshot_facts o c n s g pin began inv f may.0 may.1
  going_facts s ReadsRun going may f = run_facts o c n s g pin began inv f may.0 may.1
  going_facts s NextSnapshot going may f = next_facts o c n s g pin began inv f may.reading may
  going_facts s EndsReading going may f = end_facts o c n s g pin began inv f may.reading may
  going_facts s SeeksFirst going may f = seek_first_facts o c n s g pin began inv f may
  going_facts s SeeksNext going may f = seek_next_facts o c n s g pin began inv f may
  going_facts s FindsFirst going may f = find_first_facts o c n s g pin began inv f may
  going_facts s TakesEntry going may f = entry_facts o c n s g pin began inv unspent f may.0 may.1 may.2
  going_facts s TakesSeal going may f = seal_facts o c n s g pin began inv f may.0.valid may.0.ready may.0.inside may.1
  going_facts s Follows going may f = follow_facts o c n s g pin began inv f may.valid may.ready may.at_end may.linked
  going_facts s Forgets going may f = forget_facts o c n s g pin began f
  going_facts s (OpensBase virt) going may f = open_facts o c n s g pin began inv f unspent virt may
  going_facts s AddsBaseWord going may f = add_facts o c n s g pin began inv f unspent may
  going_facts s DropsBases going may f = drop_facts o c n s g pin began f
  going_facts s (Lays bytes) going may f = lay_facts o c n s g pin began inv unspent bytes f may
  going_facts s (SetsWord place word value) going may f = set_word_facts o c n s g pin began place word value f may
  going_facts s (CountsFilled place) going may f = count_filled_facts o c n s g pin began place f may
  going_facts s (NotesNamed words) going may f = named_facts o c n s g pin began words f may
  going_facts s KeepsReplaced going may f = replaced_facts o c n s g pin began f may
  going_facts s (NotesHeld held) going may f = held_facts o c n s g pin began held f
