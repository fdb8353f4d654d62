-- The machine that fills blocks, at a seat of a world.
use Rattle.std.proofs.Common.{◌≡◌, ◌≢◌, ◌<◌, ◌≤◌, ◌+◌, ◌^◌, nat_lt, ℕ, Bool, true, false, List, [], ◌∷◌, length, refl, subst, slice_index, None}
use Rattle.std.proofs.Math.Bridge.{le_prop}
use Rattle.pmem_words.specs.declared.keeps.Task.{Task}
use Rattle.pmem_words.specs.declared.keeps.Task.TheVariants.{Sync}
use Rattle.pmem_words.specs.Seats.{Seat, q_of}
use Rattle.pmem_words.specs.declared.machine.Turn.TheVariants.{Done}
use Rattle.persistence.proofs.FenceLaws.{fences_forget_own_marks}
use Rattle.log_core.specs.Views.{Ghost, MarkedWord, op_of}
use Rattle.log_core.specs.Origin.{Origin}
use Rattle.log_core.specs.Cores.{Core}
use Rattle.log_core.specs.Steps.{is_head_marked}
use Rattle.log_core.specs.Within.{no_record}
use Rattle.crash_model.specs.Worlds.{WorldNow, seat_of, turned, told_in}
use Rattle.crash_model.specs.Led.{IsLed, IsResting, HasLeft, HasNoMarks}
use Rattle.crash_model.proofs.Leading.{begins_led}
use Rattle.crash_model.proofs.Resting.{IsKnown, no_marks_known}
use Rattle.block_bitmap.specs.declared.fill.Fill.{Fill}
use Rattle.block_bitmap.specs.declared.fill.Fill.TheVariants.{Store, Mark, Fence}
use Rattle.block_bitmap.specs.Filling.{HasBlocks, fill_of, fill_admits, fill_script, marked_after}
use Rattle.block_bitmap.specs.FillWithin.{MayFill, IsCalm, IsFilled}
use Rattle.world_tests.specs.AloneSeats.{RunsAlone, AreAlone}
use Rattle.block_bitmap.proofs.FillWithinCore.{fills_within}

-- a seat that runs no call syncs nothing
no_sync_in : (task : Task) (bytes : List ℕ) → op_of task bytes ≡ None → task ≢ Sync
no_sync_in task bytes none same = (let never = subst (λ (t : Task). op_of t bytes ≡ None) same none in cc)

no_head : (generation : ℕ) (marks : List MarkedWord) → marks ≡ [] → is_head_marked generation marks ≡ true → ⊥
no_head generation [] none marked = cc
no_head generation (mark ∷ marks) none marked = cc

-- where it begins
pub fill_led : (w : WorldNow) (seat first count : ℕ) → seat < length w.seats → IsResting w → 0 < count → first + count ≤ length (seat_of w seat).blocks.owned →
    ((k : ℕ) → slice_index (seat_of w seat).blocks.contents k < 2 ^ 64) → AreAlone w → IsLed seat fill_script no_record (λ out t v. HasLeft out t v) (fill_of first count) w
fill_led w seat first count inside resting some owned small alone = begins_led seat fill_script (fill_of first count) (λ o n s g. MayFill first count s g) (λ o n s0 g0 out s g. IsFilled first count s0 out s g) w (fills_within first count)
    (λ o c g known. record { some = some; owned = owned; calm = calm o c g known }) inside resting
  where
    calm : (o : Origin) (c : Core) (g : Ghost) → IsKnown w o c seat g → IsCalm (seat_of w seat) g
    calm o c g known = record {
      no_sync = no_sync_in (seat_of w seat).calling.job (seat_of w seat).calling.bytes (alone.run seat inside).none_runs;
      no_head = λ marked. absurd (no_head (seat_of w seat).giving.replaced_generation g.marks (no_marks_known w o c seat g known (alone.no_marks seat inside)) marked);
      small = small;
    }

-- what it admits is said once
has_blocks_one : (place left word : ℕ) (s : Seat) → IsProp (HasBlocks place left word s)
has_blocks_one place left word s = λ x y. λ i. record { some = le_prop x.some y.some i; owned = le_prop x.owned y.owned i; few = le_prop x.few y.few i; inside = le_prop x.inside y.inside i }

pub fill_one : (m : Fill) (s : Seat) (a : ℕ) → IsProp (fill_admits m s a)
fill_one (Store place left word) s a = has_blocks_one place left word s
fill_one (Mark place left word) s a = has_blocks_one place left word s
fill_one Fence s a = λ x y. refl

-- its turns leave the seat's call
marked_keeps : (b : Bool) (place left word : ℕ) (s : Seat) (seat : ℕ) → RunsAlone seat s → RunsAlone seat (marked_after b place left word s).seat
marked_keeps true place left word s seat runs = runs
marked_keeps false place left word s seat runs = record { number = runs.number; none_runs = runs.none_runs }

pub fill_keeps : (m : Fill) (s : Seat) (a seat : ℕ) → RunsAlone seat s → RunsAlone seat (fill_script.after m s a).seat
fill_keeps (Store place left word) s a seat runs = record { number = runs.number; none_runs = runs.none_runs }
fill_keeps (Mark place left word) s a seat runs = marked_keeps (nat_lt (word + 1) (q_of s.geometry)) place left word s seat runs
fill_keeps Fence s a seat runs = record { number = runs.number; none_runs = runs.none_runs }

-- it ends with its fence, after which the seat has no marks
marked_goes : (b : Bool) (place left word : ℕ) (s : Seat) (out : Unit {0}) → (marked_after b place left word s).turn ≡ Done out → ⊥
marked_goes true place left word s out done = cc
marked_goes false place left word s out done = cc

pub fill_fenced : (m : Fill) (w : WorldNow) (seat : ℕ) (out : Unit {0}) → (told_in fill_script w seat m).turn ≡ Done out → HasNoMarks (turned fill_script w seat m) seat
fill_fenced (Store place left word) w seat out done = cc
fill_fenced (Mark place left word) w seat out done = absurd (marked_goes (nat_lt (word + 1) (q_of (seat_of w seat).geometry)) place left word (seat_of w seat) out done)
fill_fenced Fence w seat out done = (fences_forget_own_marks w.cells.memory seat).0
