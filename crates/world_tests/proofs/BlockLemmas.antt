-- Machines that run alone at the seats of a world.
use Rattle.std.proofs.Common.{◌≡◌, ◌<◌, ◌^◌, ℕ, List, [], length, refl, sym, ◌∙◌, ap, subst, arith, None}
use Rattle.std.proofs.lemmas.List.{get_or-set_same, get_or-set_other, length-set, set-get_or}
use Rattle.std.proofs.lemmas.List.FromFn.{get_or-map-range_with_len}
use Rattle.log_entry.specs.declared.shapes.Geometry.{Geometry}
use Rattle.pmem_words.specs.declared.keeps.Task.{Task}
use Rattle.pmem_words.specs.declared.keeps.Task.TheVariants.{Idle as IdleTask, Pwrite as PwriteTask, Append as AppendTask, Pread as PreadTask, Size as SizeTask, Sync as SyncTask, Collect as CollectTask, Pin as PinTask, Unpin as UnpinTask, Scan as ScanTask, Take as TakeTask, Give as GiveTask, Fill as FillTask, Walk as WalkTask, Offer as OfferTask, Grow as GrowTask, Seal as SealTask}
use Rattle.pmem_words.specs.Seats.{Seat, new_seat}
use Rattle.persistence.specs.Memory.{pending_of}
use Rattle.log_core.specs.Views.{op_of, no_geometry}
use Rattle.log_core.specs.Works.{Begins, SetsWord, laid_bytes, state_after_work}
use Rattle.log_core.proofs.clauses.OneView.{same_or_other}
use Rattle.crash_model.specs.Worlds.{WorldNow, seat_of, set_seat, new_world}
use Rattle.crash_model.specs.Led.{IsResting, IsTurnOf, HasNoMarks}
use Rattle.crash_model.proofs.Resting.{begun_rests, word_rests}
use Rattle.log_core.proofs.BlockWords.{q_range}
use Rattle.world_tests.specs.AloneSeats.{RunsAlone, AreAlone, AreAloneBut}

-- seats of a world in which nothing was done
module _ (geometry : Geometry) (words taken : List ℕ) (position seats seat : ℕ) (inside : seat < seats) where
  pub new_state : seat_of (new_world geometry words taken position seats) seat ≡ new_seat geometry seat seats position
  new_state = get_or-map-range_with_len (λ (number : ℕ). new_seat geometry number seats position) 0 seats seat seat (new_seat no_geometry 0 0 0) inside (omega arith)

  pub new_runs : RunsAlone seat (seat_of (new_world geometry words taken position seats) seat)
  new_runs = subst (λ (s : Seat). RunsAlone seat s) (sym new_state) (record { number = refl; none_runs = refl })

  pub new_owned : (seat_of (new_world geometry words taken position seats) seat).blocks.owned ≡ []
  new_owned = ap (λ (s : Seat). s.blocks.owned) new_state

-- a seat's state that is lent and stays
pub same_seat : (w : WorldNow) (seat : ℕ) → set_seat w seat (seat_of w seat) ≡ w
same_seat w seat = ap (λ (seats : List Seat). record w { seats = seats }) (set-get_or w.seats seat (new_seat no_geometry 0 0 0))

-- each runs alone still where one has another state
pub set_alone : (w : WorldNow) (seat : ℕ) (s : Seat) → seat < length w.seats → RunsAlone seat s → AreAlone w → AreAlone (set_seat w seat s)
set_alone w seat s inside runs alone = record {
  run = λ other low. same_or_other other seat
      (λ same. subst (λ (k : ℕ). RunsAlone k (seat_of (set_seat w seat s) k)) (sym same) (subst (λ (t : Seat). RunsAlone seat t) (sym (get_or-set_same w.seats seat s (new_seat no_geometry 0 0 0) inside)) runs))
      (λ apart. subst (λ (t : Seat). RunsAlone other t) (sym (get_or-set_other w.seats seat other s (new_seat no_geometry 0 0 0) apart)) (alone.run other (here other low)));
  no_marks = λ other low. alone.no_marks other (here other low);
}
  where
    here : (other : ℕ) → other < length (set_seat w seat s).seats → other < length w.seats
    here other low = (let same = length-set w.seats seat s in omega (arith, same, low))

-- or makes a turn
pub turn_alone_but : (w v : WorldNow) (seat : ℕ) → IsTurnOf RunsAlone w v seat → AreAloneBut w seat → AreAloneBut v seat
turn_alone_but w v seat turn alone = record {
  run = λ other low. same_or_other other seat
      (λ same. subst (λ (k : ℕ). RunsAlone k (seat_of v k)) (sym same) (turn.may (subst (λ (k : ℕ). RunsAlone k (seat_of w k)) same (alone.run other (here other low)))))
      (λ apart. subst (λ (s : Seat). RunsAlone other s) (sym (turn.others other apart)) (alone.run other (here other low)));
  no_marks = λ other apart low. turn.marks other apart ∙ alone.no_marks other apart (here other low);
}
  where
    here : (other : ℕ) → other < length v.seats → other < length w.seats
    here other low = (let same = turn.many in omega (arith, same, low))

pub alone_but : (w : WorldNow) (seat : ℕ) → AreAlone w → AreAloneBut w seat
alone_but w seat alone = record { run = alone.run; no_marks = λ other apart low. alone.no_marks other low }

pub all_alone : (w : WorldNow) (seat : ℕ) → AreAloneBut w seat → HasNoMarks w seat → AreAlone w
all_alone w seat alone none = record {
  run = alone.run;
  no_marks = λ other low. same_or_other other seat (λ same. subst (λ (k : ℕ). HasNoMarks w k) (sym same) none) (λ apart. alone.no_marks other apart low);
}

-- that leaves its marks
pub turn_alone : (w v : WorldNow) (seat : ℕ) → seat < length w.seats → IsTurnOf RunsAlone w v seat → pending_of seat v.cells.memory.pending ≡ pending_of seat w.cells.memory.pending → AreAlone w → AreAlone v
turn_alone w v seat inside turn marks alone = all_alone v seat (turn_alone_but w v seat turn (alone_but w seat alone)) (marks ∙ alone.no_marks seat inside)

-- a word of the one owned block is set
pub word_rest : (w : WorldNow) (seat word value : ℕ) → seat < length w.seats → length (seat_of w seat).blocks.owned ≡ 1 → word < 8 → value < 2 ^ 64 → IsResting w → IsResting (set_seat w seat (state_after_work (seat_of w seat) (SetsWord 0 word value)))
word_rest w seat word value inside one low small resting = word_rests w seat 0 word value inside
    (record { owned = omega (arith, one); inside = (let wide = (q_range (seat_of w seat).geometry).0 in omega (arith, low, wide)); small = small }) resting

-- no task has laid bytes where there are none
no_bytes : (task : Task) → laid_bytes task [] ≡ []
no_bytes IdleTask = refl
no_bytes (PwriteTask offset) = refl
no_bytes AppendTask = refl
no_bytes (PreadTask offset count) = refl
no_bytes SizeTask = refl
no_bytes SyncTask = refl
no_bytes CollectTask = refl
no_bytes PinTask = refl
no_bytes UnpinTask = refl
no_bytes (ScanTask generation) = refl
no_bytes (TakeTask area count) = refl
no_bytes (GiveTask from) = refl
no_bytes (FillTask first count) = refl
no_bytes WalkTask = refl
no_bytes (OfferTask entry) = refl
no_bytes (GrowTask block) = refl
no_bytes SealTask = refl

-- a task begins
pub begun_alone : (w : WorldNow) (seat : ℕ) (task : Task) → seat < length w.seats → op_of task [] ≡ None → AreAlone w → AreAlone (set_seat w seat (state_after_work (seat_of w seat) (Begins task [])))
begun_alone w seat task inside none alone = set_alone w seat (state_after_work (seat_of w seat) (Begins task [])) inside (record { number = (alone.run seat inside).number; none_runs = none }) alone

pub begun_rest : (w : WorldNow) (seat : ℕ) (task : Task) → seat < length w.seats → op_of task [] ≡ None → AreAlone w → IsResting w → IsResting (set_seat w seat (state_after_work (seat_of w seat) (Begins task [])))
begun_rest w seat task inside none alone resting = begun_rests w seat task [] inside
    (record { none_runs = (alone.run seat inside).none_runs; no_marks = alone.no_marks seat inside; none_laid = no_bytes task; steps = λ op some. cc }) resting

pub begun_seat : (w v : WorldNow) (seat : ℕ) (task : Task) → seat < length w.seats → v ≡ set_seat w seat (state_after_work (seat_of w seat) (Begins task [])) → seat_of v seat ≡ state_after_work (seat_of w seat) (Begins task [])
begun_seat w v seat task inside same = ap (λ (x : WorldNow). seat_of x seat) same ∙ get_or-set_same w.seats seat (state_after_work (seat_of w seat) (Begins task [])) (new_seat no_geometry 0 0 0) inside

pub begun_inside : (w v : WorldNow) (seat : ℕ) (task : Task) → seat < length w.seats → v ≡ set_seat w seat (state_after_work (seat_of w seat) (Begins task [])) → seat < length v.seats
begun_inside w v seat task inside same = subst (λ (n : ℕ). seat < n) (sym (ap (λ (x : WorldNow). length x.seats) same ∙ length-set w.seats seat (state_after_work (seat_of w seat) (Begins task [])))) inside
