-- A seat of a world begins to look.
use Rattle.std.proofs.Common.{◌≡◌, ◌≢◌, ◌<◌, ◌≤◌, ℕ, List, [], length, refl, sym, ◌∙◌, ap, subst, arith, Option, Some, None, false}
use Rattle.std.proofs.lemmas.List.{get_or-set_same}
use Rattle.std.proofs.lemmas.Option.{same_Some}
use Rattle.log_entry.specs.declared.calls.Op.{Op}
use Rattle.log_entry.specs.declared.calls.Op.TheVariants.{Pread as PreadOp, Size as SizeOp}
use Rattle.pmem_words.specs.declared.keeps.Task.{Task}
use Rattle.pmem_words.specs.declared.keeps.Task.TheVariants.{Pread, Size as SizeTask, Sync, Collect}
use Rattle.pmem_words.specs.Seats.{Seat, new_seat}
use Rattle.log_core.specs.Views.{HeadPut, no_geometry, op_of}
use Rattle.log_core.specs.Within.{no_record}
use Rattle.log_core.specs.Works.{Begins, is_quiet, laid_bytes, state_after_work}
use Rattle.crash_model.specs.Worlds.{WorldNow, seat_of, set_seat}
use Rattle.crash_model.specs.Led.{Held, Rests, Runs, IsAmong, IsResting, HasLeft, HasNoMarks}
use Rattle.crash_model.proofs.Leading.{at_hand, begins_among}
use Rattle.crash_model.proofs.Resting.{begun_rests, no_marks_known}
use Rattle.read_validate.specs.declared.look.Look.{Look}
use Rattle.read_validate.specs.declared.query.Query.{Query}
use Rattle.read_validate.specs.declared.query.Query.TheVariants.{Size, Range}
use Rattle.read_validate.specs.Looking.{look_of, look_script}
use Rattle.read_validate.specs.LookWithin.{MayLook, HasLooked}
use Rattle.read_validate.proofs.LookServes.{looks_within}
use Rattle.write_any.specs.declared.stage.Target.TheVariants.{At}
use Rattle.write_any.specs.Writing.{write_of}
use Rattle.world_tests.specs.AloneSeats.{RunsAlone}
use Rattle.world_tests.specs.LookSeats.{task_of, IsShort, IsToLook}
use Rattle.world_tests.specs.WriteSeats.{IsToWrite}
use Rattle.world_tests.proofs.PairLemmas.{to_one}
use Rattle.world_tests.proofs.WriteLemmas.{Writes, write_begins}

abbrev pub Looks : Look → Held
Looks m = Runs look_script no_record (λ out t v. HasLeft out t v) m

-- a look makes steps
loud : (query : Query) (block_bytes : ℕ) (op : Op) → op_of (task_of query) [] ≡ Some op → is_quiet block_bytes op ≡ false
loud Size block_bytes op is = subst (λ (o : Op). is_quiet block_bytes o ≡ false) (same_Some SizeOp op is) refl
loud (Range offset count) block_bytes op is = subst (λ (o : Op). is_quiet block_bytes o ≡ false) (same_Some (PreadOp offset count) op is) refl

none_laid : (query : Query) → laid_bytes (task_of query) [] ≡ []
none_laid Size = refl
none_laid (Range offset count) = refl

-- a seat of a world at rest begins its call
module _ (w : WorldNow) (seat : ℕ) (query : Query) (may : RunsAlone seat (seat_of w seat)) (inside : seat < length w.seats) where
  abbrev begun : Seat
  begun = state_after_work (seat_of w seat) (Begins (task_of query) [])

  pub begun_look_rests : HasNoMarks w seat → IsResting w → IsResting (set_seat w seat begun)
  begun_look_rests no_marks resting = begun_rests w seat (task_of query) [] inside (record {
    none_runs = may.none_runs;
    no_marks = no_marks;
    none_laid = none_laid query;
    steps = loud query (seat_of w seat).geometry.block_bytes;
  }) resting

to_look : (query : Query) (seat : ℕ) (s : Seat) → RunsAlone seat s → IsShort query → IsToLook query seat (state_after_work s (Begins (task_of query) []))
to_look Size seat s may short = record { number = may.number; asks = λ sync. cc; job = refl; none_laid = refl; no_bases = refl; not_won = refl; no_sync = refl }
to_look (Range offset count) seat s may short = record { number = may.number; asks = (refl, refl, short); job = refl; none_laid = refl; no_bases = refl; not_won = refl; no_sync = refl }

pub begun_to_look : (w : WorldNow) (seat : ℕ) (query : Query) → RunsAlone seat (seat_of w seat) → seat < length w.seats → IsShort query →
    IsToLook query seat (seat_of (set_seat w seat (state_after_work (seat_of w seat) (Begins (task_of query) []))) seat)
begun_to_look w seat query may inside short = subst (λ (s : Seat). IsToLook query seat s)
    (sym (get_or-set_same w.seats seat (state_after_work (seat_of w seat) (Begins (task_of query) [])) (new_seat no_geometry 0 0 0) inside)) (to_look query seat (seat_of w seat) may short)

-- a look has put no head in place
no_put : (query : Query) (job : Task) (put : Option HeadPut) → job ≡ task_of query → (put ≢ None → job ≡ Collect) → put ≡ None
no_put query job None is collects = refl
no_put Size job (Some head) is collects = (let never : SizeTask ≡ Collect = sym is ∙ collects (λ none. cc) in cc)
no_put (Range offset count) job (Some head) is collects = (let never : Pread offset count ≡ Collect = sym is ∙ collects (λ none. cc) in cc)

-- its machine begins, whatever the others are in the middle of
pub look_begins : (F : Held) (w : WorldNow) (seat : ℕ) (query : Query) → IsToLook query seat (seat_of w seat) → IsAmong F seat Rests w → IsAmong F seat (Looks (look_of query)) w
look_begins F w seat query to among = begins_among F seat look_script (look_of query) (MayLook query) (HasLooked query) w (looks_within query)
    (λ o c g known. record {
      number = to.number;
      asks = to.asks;
      no_bases = to.no_bases;
      free = record {
        not_won = to.not_won;
        none_laid = to.none_laid;
        no_sync = to.no_sync;
        no_head = no_put query (seat_of w seat).calling.job g.call.put to.job known.knows.calls.task.put_collects;
      };
    }) among

-- at a world of two seats at rest one is to look and one to write: both begin, before either makes a step
pub look_and_write : (w : WorldNow) (query : Query) (offset : ℕ) → length w.seats ≡ 2 → IsResting w → IsToLook query 0 (seat_of w 0) → IsToWrite offset 1 (seat_of w 1) → HasNoMarks w 1 →
    IsAmong (Looks (look_of query)) 1 (Writes (write_of (At offset))) w
look_and_write w query offset many resting look write no_marks =
    write_begins (Looks (look_of query)) w 1 offset write no_marks
    (to_one Rests (Looks (look_of query)) w many
    (look_begins Rests w 0 query look
    (at_hand Rests 0 w (omega (arith, many)) resting)))
