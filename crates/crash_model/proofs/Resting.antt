-- Worlds at rest, and what seats compute there.
use Rattle.std.proofs.Common.{◌≡◌, ◌≢◌, ◌<◌, ◌≤◌, ◌+◌, ◌^◌, get_or, map, ℕ, Bool, true, false, List, [], ◌∷◌, ◌++◌, length, refl, sym, ◌∙◌, ap, subst, arith, slice_index, slice_set, Option, Some, None}
use Rattle.std.proofs.Math.Logic.{∥∥₁_map}
use Rattle.std.specs.List.{range_with_len}
use Rattle.std.proofs.lemmas.List.{get_or-set_same, get_or-set_other, length-set}
use Rattle.std.proofs.lemmas.List.FromFn.{get_or-map-range_with_len, length-map-range_with_len}
use Rattle.log_entry.specs.declared.shapes.Geometry.{Geometry}
use Rattle.log_image.specs.KeepsStart.{KeepsStart}
use Rattle.pmem_words.specs.declared.keeps.Task.{Task}
use Rattle.pmem_words.specs.declared.keeps.Task.TheVariants.{Collect}
use Rattle.pmem_words.specs.Seats.{Seat, new_seat}
use Rattle.pmem_words.specs.declared.TheConstants.{SEATS}
use Rattle.persistence.specs.Memory.{Memory, PendingMark, cell, pending_of}
use Rattle.persistence.specs.Cells.{CellsNow, fresh_memory}
use Rattle.log_core.specs.Views.{View, Ghost, view_of, spent_view, new_view, no_geometry, op_in, op_of}
use Rattle.log_core.specs.Origin.{Origin, first_position, first_views, made_by}
use Rattle.log_core.specs.Files.{end_of}
use Rattle.log_core.specs.Cores.{Core, first_core}
use Rattle.log_core.specs.Works.{Work, Begins, SetsWord, MaySetWord, MayWork, state_after_work}
use Rattle.log_core.specs.Steps.{is_begun, ghost_begun}
use Rattle.log_core.specs.After.{began_if}
use Rattle.log_core.specs.Records.{mark_of}
use Rattle.log_core.specs.Runs.{MayNumber}
use Rattle.log_core.specs.Invariant.{Invariant}
use Rattle.log_core.specs.Knows.{Knows}
use Rattle.log_core.specs.Starts.{origin_of}
use Rattle.log_core.proofs.clauses.OneView.{same_or_other}
use Rattle.log_core.proofs.machines.Parts.{worked_more, may_more}
use Rattle.log_core.proofs.machines.Serving.{knows_here, reached_keeps}
use Rattle.log_core.proofs.starts.StartKept.{same_position}
use Rattle.log_core.proofs.starts.StartMeets.{start_meets}
use Rattle.crash_model.specs.Worlds.{WorldNow, StandsForCore, seat_of, set_seat, new_world}
use Rattle.crash_model.specs.Led.{IsComputed, Rests, IsIn, EachIn, IsResting, HasNoMarks, MayBeginAt}
use Rattle.crash_model.proofs.Standing.{stands_with, new_stands_by}

-- a seat has computed nothing where its state is its view's
pub left_computed : (v : View) (s : Seat) → v.parts ≢ [] → s ≡ v.seat → IsComputed v s
left_computed v s unspent same = record { unspent = unspent; begins = record { works = []; may = tt; gives = same } }

-- the number of the call that a seat's next step is of: a greater one, where the seat has begun a call
abbrev number_by : Bool → ℕ → ℕ
number_by true number = number + 1
number_by false number = number

may_by : (begun : Bool) (number : ℕ) → MayNumber begun number (number_by begun number)
may_by true number = omega arith
may_by false number = refl

abbrev pub number_next : View → Seat → ℕ
number_next v s = number_by (is_begun (op_in v.seat) (op_in s)) v.ghost.call.number

pub next_may : (v : View) (s : Seat) → MayNumber (is_begun (op_in v.seat) (op_in s)) v.ghost.call.number (number_next v s)
next_may v s = may_by (is_begun (op_in v.seat) (op_in s)) v.ghost.call.number

-- what a core that the world stands for knows of a seat, with what contracts alone see of it
pub record IsKnown (w : WorldNow) (o : Origin) (c : Core) (seat : ℕ) (g : Ghost) : Type 0 where
  pub stands : StandsForCore w o c
  pub holds : Invariant o c
  pub pin : ℕ
  pub began : ℕ
  pub knows : Knows o c seat (seat_of w seat) g pin began

-- it knows a seat at rest, at its next step
pub known_in : (w : WorldNow) (o : Origin) (c : Core) (seat : ℕ) → StandsForCore w o c → IsIn Rests w o c seat →
    IsKnown w o c seat (ghost_begun (view_of c.views seat).ghost (view_of c.views seat).seat (seat_of w seat) (number_next (view_of c.views seat) (seat_of w seat)))
known_in w o c seat stands at =
    (let v = view_of c.views seat in
    let start = start_meets o stands.start in
    let inv = reached_keeps o start c stands.reached in
    record {
      stands = stands;
      holds = inv;
      pin = slice_index c.memory.now.pins seat;
      began = slice_index (began_if (is_begun (op_in v.seat) (op_in (seat_of w seat))) c.began seat (end_of o c.history)) seat;
      knows = knows_here o start seat (number_next v (seat_of w seat)) c (seat_of w seat) inv at.made at.holds.unspent at.holds.begins (next_may v (seat_of w seat));
    })

pub known_at_rest : (w : WorldNow) (o : Origin) (c : Core) (seat : ℕ) → seat < length w.seats → EachIn Rests w o c →
    IsKnown w o c seat (ghost_begun (view_of c.views seat).ghost (view_of c.views seat).seat (seat_of w seat) (number_next (view_of c.views seat) (seat_of w seat)))
known_at_rest w o c seat inside rests = known_in w o c seat rests.stands (rests.seats seat inside)

none_unless : {A : Type 0} (x : Option A) → (x ≢ None → ⊥) → x ≡ None
none_unless None never = refl
none_unless (Some a) never = absurd (never (λ none. cc))

false_unless : (b : Bool) → (b ≡ true → ⊥) → b ≡ false
false_unless false never = refl
false_unless true never = absurd (never refl)

collect_runs : (task : Task) (bytes : List ℕ) → task ≡ Collect → op_of task bytes ≡ None → ⊥
collect_runs task bytes is none = (let never : op_of Collect bytes ≡ None = subst (λ (t : Task). op_of t bytes ≡ None) is none in cc)

-- where no call runs, the seat has won no exchange of a slot, and put no head in place
module _ (w : WorldNow) (o : Origin) (c : Core) (seat : ℕ) (g : Ghost) (known : IsKnown w o c seat g) where
  pub not_won_known : op_in (seat_of w seat) ≡ None → (seat_of w seat).calling.won ≡ false
  not_won_known none = false_unless (seat_of w seat).calling.won (λ won. known.knows.calls.task.won_runs won none)

  pub no_head_known : op_in (seat_of w seat) ≡ None → g.call.put ≡ None
  no_head_known none = none_unless g.call.put (λ some. collect_runs (seat_of w seat).calling.job (seat_of w seat).calling.bytes (known.knows.calls.task.put_collects some) none)

  -- what contracts see of marks is in the memory
  pub no_marks_known : HasNoMarks w seat → g.marks ≡ []
  no_marks_known none = known.knows.marks
      ∙ ap (λ (pending : List PendingMark). map (mark_of (λ word. cell c.memory word) c.memory.past) pending) (ap (λ (m : Memory). pending_of seat m.pending) known.stands.memory ∙ none)

-- a world at rest stays so where a seat computes
module _ (w : WorldNow) (seat : ℕ) (work : Work) (inside : seat < length w.seats) where
  abbrev computed : WorldNow
  computed = set_seat w seat (state_after_work (seat_of w seat) work)

  computed_at : (o : Origin) (c : Core) → IsIn Rests w o c seat → MayWork (view_of c.views seat).ghost (seat_of w seat) work → IsComputed (view_of c.views seat) (state_after_work (seat_of w seat) work)
  computed_at o c at may =
      (let v = view_of c.views seat in
      let begins = at.holds.begins in
      record {
        unspent = at.holds.unspent;
        begins = record {
          works = begins.works ++ work ∷ [];
          may = may_more v.ghost v.seat begins.works (work ∷ []) begins.may (subst (λ (s : Seat). MayWork v.ghost s work) begins.gives may, tt);
          gives = ap (λ (s : Seat). state_after_work s work) begins.gives ∙ sym (worked_more v.seat begins.works (work ∷ []));
        };
      })

  rests_computed : (o : Origin) (c : Core) → MayWork (view_of c.views seat).ghost (seat_of w seat) work → EachIn Rests w o c → EachIn Rests computed o c
  rests_computed o c may rests = record {
    stands = stands_with w (slice_set w.seats seat (state_after_work (seat_of w seat) work)) (length-set w.seats seat (state_after_work (seat_of w seat) work)) o c rests.stands;
    seats = λ other low. same_or_other other seat
        (λ same. subst (λ (k : ℕ). IsIn Rests computed o c k) (sym same) (let at = rests.seats seat inside in record {
          made = at.made;
          holds = subst (λ (s : Seat). IsComputed (view_of c.views seat) s) (sym (get_or-set_same w.seats seat (state_after_work (seat_of w seat) work) (new_seat no_geometry 0 0 0) inside)) (computed_at o c at may);
        }))
        (λ apart. (let at = rests.seats other (subst (λ (n : ℕ). other < n) (length-set w.seats seat (state_after_work (seat_of w seat) work)) low) in record {
          made = at.made;
          holds = subst (λ (s : Seat). IsComputed (view_of c.views other) s) (sym (get_or-set_other w.seats seat other (state_after_work (seat_of w seat) work) (new_seat no_geometry 0 0 0) apart)) at.holds;
        }));
  }

  pub computed_rests : ((o : Origin) (c : Core) → EachIn Rests w o c → MayWork (view_of c.views seat).ghost (seat_of w seat) work) → IsResting w → IsResting computed
  computed_rests may resting = ∥∥₁_map resting (λ r. (r.0, r.1, rests_computed r.0 r.1 (may r.0 r.1 r.2) r.2))

-- it sets a word of an owned block, or begins a task
pub word_rests : (w : WorldNow) (seat place word value : ℕ) → seat < length w.seats → MaySetWord (seat_of w seat) place word value → IsResting w → IsResting (set_seat w seat (state_after_work (seat_of w seat) (SetsWord place word value)))
word_rests w seat place word value inside may resting = computed_rests w seat (SetsWord place word value) inside (λ o c rests. may) resting

pub begun_rests : (w : WorldNow) (seat : ℕ) (task : Task) (bytes : List ℕ) → seat < length w.seats → MayBeginAt w seat task bytes → IsResting w → IsResting (set_seat w seat (state_after_work (seat_of w seat) (Begins task bytes)))
begun_rests w seat task bytes inside may resting = computed_rests w seat (Begins task bytes) inside
    (λ o c rests. (let v = view_of c.views seat in
    let g = ghost_begun v.ghost v.seat (seat_of w seat) (number_next v (seat_of w seat)) in
    let known = known_at_rest w o c seat inside rests in
    record {
      none_runs = may.none_runs;
      not_won = not_won_known w o c seat g known may.none_runs;
      no_head = sym known.knows.same_put ∙ no_head_known w o c seat g known may.none_runs;
      no_marks = no_marks_known w o c seat g known may.no_marks;
      none_laid = may.none_laid;
      steps = may.steps;
    })) resting

-- room is no part of rest
pub rests_room : (w : WorldNow) (room : ℕ) → IsResting w → IsResting (record w { cells = record (w.cells) { room = room } })
rests_room w room resting = ∥∥₁_map resting (λ r. (
  r.0,
  r.1,
  record {
    stands = (let s = r.2.stands in record { start = s.start; geometry = s.geometry; seats = s.seats; reached = s.reached; memory = s.memory; position = s.position; synced = s.synced });
    seats = λ seat inside. (let at = r.2.seats seat inside in record { made = at.made; holds = at.holds });
  },
))

-- a world in which nothing was done is at rest
pub new_rests : (geometry : Geometry) (words taken : List ℕ) (generation position size seats : ℕ) → ((place : ℕ) → get_or words place 0 < 2 ^ 64) → 0 < seats → seats ≤ SEATS →
    ∥ KeepsStart geometry words taken generation position size ∥₁ → IsResting (new_world geometry words taken position seats)
new_rests geometry words taken generation position size seats small some few kept = ∥∥₁_map kept (λ k. (origin k, first_core (origin k), rests k))
  where
    origin : KeepsStart geometry words taken generation position size → Origin
    origin k = origin_of geometry seats seats words taken k.chain k.file

    rests : (k : KeepsStart geometry words taken generation position size) → EachIn Rests (new_world geometry words taken position seats) (origin k) (first_core (origin k))
    rests k = (let st = new_stands_by geometry words taken generation position size seats small some few k in
        let same = same_position geometry words taken generation position size seats seats k in record {
          stands = st;
          seats = λ seat low. (let inside : seat < seats = (let e = length-map-range_with_len (λ (n : ℕ). new_seat geometry n seats position) 0 seats in omega (arith, e, low)) in
              let view_is : view_of (first_views (origin k)) seat ≡ new_view geometry seats (first_position (origin k)) (made_by seats seat) seat =
              get_or-map-range_with_len (λ (n : ℕ). new_view geometry seats (first_position (origin k)) (made_by seats n) n) 0 seats seat seat spent_view inside (omega arith) in
              record {
                made = (let e = length-map-range_with_len (λ (n : ℕ). new_view geometry seats (first_position (origin k)) (made_by seats n) n) 0 seats in omega (arith, e, inside));
                holds = left_computed (view_of (first_views (origin k)) seat) (seat_of (new_world geometry words taken position seats) seat) (subst (λ (v : View). v.parts ≢ []) (sym view_is) (λ none. cc))
                    (get_or-map-range_with_len (λ (n : ℕ). new_seat geometry n seats position) 0 seats seat seat (new_seat no_geometry 0 0 0) inside (omega arith)
                    ∙ (ap (λ (p : ℕ). new_seat geometry seat seats p) (sym same) ∙ ap (λ (v : View). v.seat) (sym view_is)));
              });
        })

pub made_rests : (geometry : Geometry) (words taken : List ℕ) (generation position size seats : ℕ) → ((place : ℕ) → get_or words place 0 < 2 ^ 64) → 0 < seats → seats ≤ SEATS →
    ∥ KeepsStart geometry words taken generation position size ∥₁ → (g : Geometry) (p : ℕ) (cells : CellsNow) (states : List Seat) → g ≡ geometry → p ≡ position →
    cells ≡ record { memory = fresh_memory words taken seats; room = 0 } → states ≡ map (λ (n : ℕ). new_seat g n seats p) (range_with_len 0 seats) →
    IsResting (record { geometry = g; cells = cells; seats = states; position = p; synced = p })
made_rests geometry words taken generation position size seats small some few kept g p cells states g_is p_is cells_is states_is =
    rw (states_is, cells_is, g_is, p_is) (new_rests geometry words taken generation position size seats small some few kept)
