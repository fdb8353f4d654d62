-- The stages of a write that take blocks, where it alone makes steps: it is refused exactly where too few were clear at first.
use Rattle.std.proofs.Common.{◌≡◌, ◌≢◌, ℕ, ◌+◌, ◌-◌, ◌==◌, Bool, true, false, List, [], ◌∷◌, ◌++◌, length, slice_index, Some, refl, sym, ap, subst, ◌∙◌, arith}
use Rattle.std.proofs.lemmas.Bool.{false_from_ne_true, eq-eqb, or_left, or_right}
use Rattle.std.proofs.lemmas.List.{length-map, nil_from_length}
use Rattle.log_entry.specs.Legal.{last_position}
use Rattle.log_entry.specs.declared.shapes.Area.{Area}
use Rattle.log_entry.specs.declared.shapes.Area.TheVariants.{Data, Log}
use Rattle.log_entry.specs.declared.calls.WriteRefusal.TheVariants.{NoSpace as RefusesSpace}
use Rattle.log_image.specs.Image.{shape_by, words_in}
use Rattle.log_image.specs.Chains.{is_listed}
use Rattle.pmem_words.specs.declared.keeps.Task.{Task}
use Rattle.pmem_words.specs.declared.machine.Turn.TheVariants.{Done}
use Rattle.pmem_words.specs.declared.owned.OwnedBlock.{OwnedBlock}
use Rattle.pmem_words.specs.Seats.{Seat, Walk as WalkState}
use Rattle.persistence.specs.Memory.{found_answer}
use Rattle.log_core.specs.Views.{Ghost, view_of}
use Rattle.log_core.specs.Origin.{Origin, shape, q_of_origin, OwnedBy, LogBlock}
use Rattle.log_core.specs.Files.{end_of}
use Rattle.log_core.specs.Cores.{Core, is_full}
use Rattle.log_core.specs.Needs.{is_one_run, owned_numbers, owned_in, lacking}
use Rattle.log_core.specs.Steps.{Note, Does, kind_of_ask}
use Rattle.log_core.specs.May.{May}
use Rattle.log_core.specs.Knows.{Knows}
use Rattle.log_core.specs.Within.{ghost_found}
use Rattle.log_core.specs.After.{after}
use Rattle.log_core.specs.Works.{seat_shape, words_of}
use Rattle.log_core.specs.Invariant.{Invariant}
use Rattle.log_core.proofs.machines.MachineLaws.{HasBegun, Told}
use Rattle.block_bitmap.specs.declared.take.Take.{Take}
use Rattle.block_bitmap.specs.declared.take.Taken.{Taken}
use Rattle.block_bitmap.specs.declared.take.Taken.TheVariants.{Taken as HasTaken, NoSpace}
use Rattle.block_bitmap.specs.TakeScript.{take_script}
use Rattle.block_bitmap.specs.TakeWithin.{HasEnded}
use Rattle.block_bitmap.proofs.TakeMarks.{has_both}
use Rattle.write_any.specs.declared.stage.Target.{Target}
use Rattle.write_any.specs.declared.stage.Stage.TheVariants.{Taking, TakingRuns, TakingLog}
use Rattle.write_any.specs.Composing.{block_count, are_one_run, composed}
use Rattle.write_any.specs.Writing.{at_stage, offset_of, taken_stage, taken_seat, taken_so, taken_runs_so, taken_log_so, stage_after, write_script}
use Rattle.write_any.specs.WriteWithin.{MayWrite, unwritten}
use Rattle.pmem_words.specs.Parts.{Into}
use Rattle.write_any.proofs.AloneBits.{KnowsBits}
use Rattle.write_any.proofs.AloneMoves.{FitsOn, MovesTo, moves_onward, open_moves}
use Rattle.write_any.proofs.AloneSpace.{one_run_numbers, few_clear, one_run_clear, apart_clear, more_clear, no_more_clear, log_clear, no_log_clear}
use Rattle.write_any.proofs.AloneStanding.{IsFor, IsAtLogEnd, IsTakingMore, HasData, IsEnded, EndsAlone, WriteStandsAlone}
use Rattle.log_core.specs.Owners.{SeatOwns}
use Rattle.write_any.proofs.AloneSteps.{take_bits, take_history, take_owns}
use Rattle.write_any.proofs.Composed.{composed_bare}
use Rattle.write_any.proofs.ComposedBlocks.{OwnsZeros}
use Rattle.write_any.proofs.LimitLaw.{taking_log_law}
use Rattle.write_any.proofs.LostStages.{told_so}
use Rattle.write_any.proofs.OpenTail.{last_of, IsOpenTail}
use Rattle.write_any.proofs.PartLaws.{taking_law}
use Rattle.write_any.proofs.Riding.{StepsOn, HasStepped, next_core, ghost_on, found_of}
use Rattle.write_any.proofs.RisingNumbers.{one_run_in_order}
use Rattle.write_any.proofs.RoundFalls.{take_unfound}
use Rattle.write_any.proofs.TakenBlocks.{owns_no_zeros, owns_taken, owns_more}
use Rattle.write_any.proofs.TakenInOrder.{ordered_law}
use Rattle.write_any.proofs.WriteStanding.{BeforeTake, BeforeTakeRuns, AtEnd}

module _ (offset : ℕ) (o : Origin) (seat number : ℕ) (s0 : Seat) (g0 : Ghost) (may : MayWrite offset o seat s0 g0) (c0 : Core) (inv0 : Invariant o c0) (shape_is : shape_by s0.geometry ≡ shape o) (none_mine : (block : ℕ) → c0.owner block ≢ OwnedBy seat) where
  abbrev AtLogEnd : Seat → Core → Type 0
  AtLogEnd s c = IsAtLogEnd offset o seat number s0 c0 s c

  still : (p : Take) (s : Seat) (c : Core) (note : Note) (g : Ghost) (pin began : ℕ) (inv : Invariant o c) → Knows o c seat s g pin began → (view_of c.views seat).parts ≢ [] →
      May o c g s (kind_of_ask (q_of_origin o) seat (take_script.asks p s)) → AtLogEnd s c →
      AtLogEnd (take_script.after p s (found_answer c.memory (take_script.asks p s))).seat (after o c (Does seat (take_script.asks p s) note))
  still p s c note g pin began inv knows unspent allowed x =
      (let same = take_unfound p s (found_answer c.memory (take_script.asks p s)) in
      let stays = take_history o c seat s g pin began inv knows unspent c0.owner note p.known p in
      record {
        unput = record {
          history = stays.0 ∙ x.unput.history;
          logs = stays.1 ∙ x.unput.logs;
          none_lost = ap (λ (v : Seat). v.calling.lost) same ∙ x.unput.none_lost;
          bits = take_bits o c seat s g pin began inv knows unspent c0.owner note p.known p allowed x.unput.bits;
        };
        opens = open_moves o c.history _ c.logs _ s.walk _ stays.0 stays.1 (ap (λ (v : Seat). v.walk.position) same) (ap (λ (v : Seat). v.walk.tail_base) same) (ap (λ (v : Seat). v.walk.tail_slot) same) x.opens;
      })

  -- it is refused for this cause
  refused : (area : Area) (t : Seat) (d : Core) → AtLogEnd t d → IsFor offset o seat number s0 c0 (RefusesSpace area) t.walk.position → IsEnded offset o seat number s0 c0 (Some (RefusesSpace area)) t d
  refused area t d x cause = record {
    none_lost = x.unput.none_lost;
    ends = record { history = x.unput.history; position_is = x.opens.position ∙ ap (λ (h : _). end_of o h) x.unput.history; cause = cause };
  }

  -- blocks that are composed are the same but for their content
  composed_end : (at : ℕ) (t : Seat) (d : Core) → AtLogEnd t d → AtLogEnd (composed at t) d
  composed_end at t d x =
      (let same = composed_bare at t in
      record {
        unput = record {
          history = x.unput.history;
          logs = x.unput.logs;
          none_lost = ap (λ (v : Seat). v.calling.lost) same ∙ x.unput.none_lost;
          bits = subst (λ (l : List ℕ). KnowsBits o seat c0.owner l d.owner) (sym (ap (λ (v : Seat). v.blocks.found) same)) x.unput.bits;
        };
        opens = subst (λ (w : WalkState). IsOpenTail o d.history d.logs w) (sym (ap (λ (v : Seat). v.walk) same)) x.opens;
      })

  -- the data blocks
  module _ (t : Target) (p : Take) (s : Seat) (c : Core) (at : HasBegun (ordered_law Data (block_count s0)) o seat (BeforeTake offset o seat s0 g0) p s (ghost_on seat number c s)) (st : StepsOn o seat number write_script (at_stage t (Taking p)) s c)
      (x : AtLogEnd s c) where
    abbrev a : ℕ
    a = found_answer c.memory (take_script.asks p s)

    abbrev v : Seat
    v = (take_script.after p s a).seat

    abbrev e : Core
    e = next_core o seat number write_script (at_stage t (Taking p)) s c

    module _ (stepped : HasStepped o seat number write_script (at_stage t (Taking p)) s c e) where
      mine : SeatOwns e.owner seat v
      mine = take_owns p.known (view_of c.views seat).ghost.marks e.owner (q_of_origin o) seat p s a stepped.owns

      told : Told (ordered_law Data (block_count s0)) o seat (BeforeTake offset o seat s0 g0) p s (ghost_on seat number c s) at a
      told = told_so (ordered_law Data (block_count s0)) o seat (BeforeTake offset o seat s0 g0) p s (ghost_on seat number c s) a at (found_of o seat number write_script (at_stage t (Taking p)) s c st)

      now : AtLogEnd v e
      now = still p s c _ (ghost_on seat number c s) st.pin st.began st.holds st.knows st.unspent st.may x

      module _ (out : Taken) (done : (take_script.after p s a).turn ≡ Done out) where
        abbrev ended : HasEnded Data (block_count s0) at.start out v (ghost_found o seat (take_script.asks p s) s (ghost_on seat number c s) a)
        ended = (told.ends out done).0.0.ended

        owns : OwnsZeros offset o seat s0 g0 (0 + length ended.blocks) v
        owns = owns_more offset o seat s0 g0 0 at.start v ended.blocks (owns_no_zeros offset o seat s0 g0 at.start at.before.writing.rest at.before.owns) ended.grown ended.once

        many : length (owned_numbers v.blocks.owned) ≡ length ended.blocks
        many = (let long = length-map v.blocks.owned (λ (b : OwnedBlock). b.block) in let all = owns.many_are in omega (arith, long, all))

        same_image : seat_shape v ≡ shape_by s0.geometry
        same_image = ap seat_shape owns.rest

        position : v.walk.position ≢ last_position
        position last = at.before.here.below (sym (ap (λ (w : Seat). w.walk.position) ended.grown.seat) ∙ last)

      taken_by : (one : Bool) → (done : (take_script.after p s a).turn ≡ Done HasTaken) → are_one_run v.blocks.owned ≡ one → FitsOn (λ m w. WriteStandsAlone offset o seat number s0 c0 m w e) (λ out w. EndsAlone offset o seat number s0 c0 out w e) (Into (at_stage t (taken_stage one v)) (taken_seat one t v))
      taken_by true done one =
          (let all : length (owned_numbers v.blocks.owned) ≡ block_count s0 = many HasTaken done ∙ (ended HasTaken done).taken refl in
          let some = may.whole.some in
          let long = length-map v.blocks.owned (λ (b : OwnedBlock). b.block) in
          record {
            at_end = composed_end (offset_of t) v e now;
            data_space = one_run_clear offset o seat number s0 c0 inv0 shape_is none_mine v e.owner now.unput.bits mine (same_image HasTaken done) (owns HasTaken done).numbers (owns HasTaken done).once all
                (one_run_numbers v.blocks.owned (omega (arith, all, some, long)) one);
          })
      taken_by false done apart =
          (let all : length (owned_numbers v.blocks.owned) ≡ block_count s0 = many HasTaken done ∙ (ended HasTaken done).taken refl in
          let rises = (told.ends HasTaken done).1.rises at.before.owns.owned in
          record {
            at_end = now;
            apart = apart_clear offset o seat number s0 c0 inv0 shape_is none_mine v e.owner now.unput.bits mine (same_image HasTaken done) (owns HasTaken done).numbers (owns HasTaken done).once all
                (false_from_ne_true (is_one_run (owned_numbers v.blocks.owned)) (λ one. (let both : true ≡ false = sym (one_run_in_order v.blocks.owned rises one) ∙ apart in cc)));
          })

      by : (out : Taken) → (take_script.after p s a).turn ≡ Done out → FitsOn (λ m w. WriteStandsAlone offset o seat number s0 c0 m w e) (λ out w. EndsAlone offset o seat number s0 c0 out w e) (taken_so t out v)
      by HasTaken done = taken_by (are_one_run v.blocks.owned) done refl
      by (NoSpace area) done =
          (let none = (ended (NoSpace area) done).no_space area refl in
          let all = many (NoSpace area) done in
          let fewer = none.1 in
          subst (λ (which : Area). IsEnded offset o seat number s0 c0 (Some (RefusesSpace which)) v e) (sym none.0)
          (refused Data v e now (
            position (NoSpace area) done,
            few_clear offset o seat number s0 c0 inv0 shape_is none_mine v e.owner now.unput.bits mine (same_image (NoSpace area) done) (owns (NoSpace area) done).numbers (owns (NoSpace area) done).once (omega (arith, all, fewer)) none.2,
          )))

      pub taking_moves : MovesTo (λ m w. WriteStandsAlone offset o seat number s0 c0 m w e) (λ out w. EndsAlone offset o seat number s0 c0 out w e) (stage_after t (Taking p) s a)
      taking_moves = moves_onward (λ m w. WriteStandsAlone offset o seat number s0 c0 m w e) (λ out w. EndsAlone offset o seat number s0 c0 out w e) (λ n. at_stage t (Taking n)) (taken_so t) (take_script.after p s a) (λ go. now) by

  -- one more, for the words of their runs
  module _ (t : Target) (p : Take) (s : Seat) (c : Core) (at : HasBegun (taking_law Data 1) o seat (BeforeTakeRuns offset o seat s0 g0) p s (ghost_on seat number c s)) (st : StepsOn o seat number write_script (at_stage t (TakingRuns p)) s c)
      (x : IsTakingMore offset o seat number s0 c0 s c) where
    abbrev a2 : ℕ
    a2 = found_answer c.memory (take_script.asks p s)

    abbrev v2 : Seat
    v2 = (take_script.after p s a2).seat

    abbrev e2 : Core
    e2 = next_core o seat number write_script (at_stage t (TakingRuns p)) s c

    module _ (stepped : HasStepped o seat number write_script (at_stage t (TakingRuns p)) s c e2) where
      mine2 : SeatOwns e2.owner seat v2
      mine2 = take_owns p.known (view_of c.views seat).ghost.marks e2.owner (q_of_origin o) seat p s a2 stepped.owns

      told_more : Told (taking_law Data 1) o seat (BeforeTakeRuns offset o seat s0 g0) p s (ghost_on seat number c s) at a2
      told_more = told_so (taking_law Data 1) o seat (BeforeTakeRuns offset o seat s0 g0) p s (ghost_on seat number c s) a2 at (found_of o seat number write_script (at_stage t (TakingRuns p)) s c st)

      now_more : AtLogEnd v2 e2
      now_more = still p s c _ (ghost_on seat number c s) st.pin st.began st.holds st.knows st.unspent st.may x.at_end

      module _ (out : Taken) (done : (take_script.after p s a2).turn ≡ Done out) where
        abbrev one_more : HasEnded Data 1 at.start out v2 (ghost_found o seat (take_script.asks p s) s (ghost_on seat number c s) a2)
        one_more = (told_more.ends out done).0.ended

        owns_now : OwnsZeros offset o seat s0 g0 (block_count s0 + length one_more.blocks) v2
        owns_now = owns_more offset o seat s0 g0 (block_count s0) at.start v2 one_more.blocks (owns_taken offset o seat s0 g0 at.start at.before.writing.rest at.before.taken at.before.zeros) one_more.grown one_more.once

        many_now : length (owned_numbers v2.blocks.owned) ≡ block_count s0 + length one_more.blocks
        many_now = (let long = length-map v2.blocks.owned (λ (b : OwnedBlock). b.block) in let all = owns_now.many_are in omega (arith, long, all))

        image_now : seat_shape v2 ≡ shape_by s0.geometry
        image_now = ap seat_shape owns_now.rest

        position_now : v2.walk.position ≢ last_position
        position_now last = at.before.here.below (sym (ap (λ (w : Seat). w.walk.position) one_more.grown.seat) ∙ last)

      by_more : (out : Taken) → (take_script.after p s a2).turn ≡ Done out → FitsOn (λ m w. WriteStandsAlone offset o seat number s0 c0 m w e2) (λ out w. EndsAlone offset o seat number s0 c0 out w e2) (taken_runs_so t out v2)
      by_more HasTaken done =
          (let all = many_now HasTaken done in
          let one = (one_more HasTaken done).taken refl in
          record {
            at_end = composed_end (offset_of t) v2 e2 now_more;
            data_space = more_clear offset o seat number s0 c0 inv0 shape_is none_mine v2 e2.owner now_more.unput.bits mine2 (image_now HasTaken done) (owns_now HasTaken done).numbers (owns_now HasTaken done).once (omega (arith, all, one));
          })
      by_more (NoSpace area) done =
          (let none = (one_more (NoSpace area) done).no_space area refl in
          let all = many_now (NoSpace area) done in
          let fewer = none.1 in
          subst (λ (which : Area). IsEnded offset o seat number s0 c0 (Some (RefusesSpace which)) v2 e2) (sym none.0)
          (refused Data v2 e2 now_more (
            position_now (NoSpace area) done,
            no_more_clear offset o seat number s0 c0 inv0 shape_is none_mine v2 e2.owner now_more.unput.bits mine2 (image_now (NoSpace area) done) (owns_now (NoSpace area) done).numbers (owns_now (NoSpace area) done).once (omega (arith, all, fewer)) none.2 x.apart,
          )))

      pub taking_runs_moves : MovesTo (λ m w. WriteStandsAlone offset o seat number s0 c0 m w e2) (λ out w. EndsAlone offset o seat number s0 c0 out w e2) (stage_after t (TakingRuns p) s a2)
      taking_runs_moves = moves_onward (λ m w. WriteStandsAlone offset o seat number s0 c0 m w e2) (λ out w. EndsAlone offset o seat number s0 c0 out w e2) (λ n. at_stage t (TakingRuns n)) (taken_runs_so t) (take_script.after p s a2)
          (λ go. record { at_end = now_more; apart = x.apart }) by_more

  -- the log block
  first_listed : (l : List ℕ) → length l ≡ 1 → is_listed l (slice_index l 0) ≡ true
  first_listed [] one = absurd (omega (arith, one))
  first_listed (y ∷ l) one = or_left (y == y) (is_listed l y) (eq-eqb y y refl)

  module _ (t : Target) (p : Take) (s : Seat) (c : Core) (at : HasBegun taking_log_law o seat (AtEnd offset o seat s0 g0) p s (ghost_on seat number c s)) (st : StepsOn o seat number write_script (at_stage t (TakingLog p)) s c)
      (x : HasData offset o seat number s0 c0 s c) where
    abbrev a3 : ℕ
    a3 = found_answer c.memory (take_script.asks p s)

    abbrev v3 : Seat
    v3 = (take_script.after p s a3).seat

    abbrev e3 : Core
    e3 = next_core o seat number write_script (at_stage t (TakingLog p)) s c

    module _ (stepped : HasStepped o seat number write_script (at_stage t (TakingLog p)) s c e3) where
      mine3 : SeatOwns e3.owner seat v3
      mine3 = take_owns p.known (view_of c.views seat).ghost.marks e3.owner (q_of_origin o) seat p s a3 stepped.owns

      told_log : Told taking_log_law o seat (AtEnd offset o seat s0 g0) p s (ghost_on seat number c s) at a3
      told_log = told_so taking_log_law o seat (AtEnd offset o seat s0 g0) p s (ghost_on seat number c s) a3 at (found_of o seat number write_script (at_stage t (TakingLog p)) s c st)

      now_log : AtLogEnd v3 e3
      now_log = still p s c _ (ghost_on seat number c s) st.pin st.began st.holds st.knows st.unspent st.may x.at_end

      module _ (out : Taken) (done : (take_script.after p s a3).turn ≡ Done out) where
        abbrev log_ended : HasEnded Log 1 at.start out v3 (ghost_found o seat (take_script.asks p s) s (ghost_on seat number c s) a3)
        log_ended = (told_log.ends out done).0.0.ended

        log_rest : unwritten v3 ≡ unwritten s0
        log_rest = ap unwritten log_ended.grown.seat ∙ at.before.writing.rest

        log_image : seat_shape v3 ≡ shape_by s0.geometry
        log_image = ap seat_shape log_rest

        log_position : v3.walk.position ≢ last_position
        log_position last = at.before.here.below (sym (ap (λ (w : Seat). w.walk.position) log_ended.grown.seat) ∙ last)

        -- it had none of the log area
        none_before : owned_in at.start Log ≡ []
        none_before = nil_from_length (owned_in at.start Log)
            (let lacks = at.may.lacks in
            let is : lacking at.start at.start.calling.job Log ≡ 1 - length (owned_in at.start Log) = ap (λ (job : Task). lacking at.start job Log) (ap (λ (w : Seat). w.calling.job) at.before.writing.rest ∙ may.job) in
            omega (arith, lacks, is))

        -- the tail is a block's end
        at_block_end : v3.walk.tail_slot ≡ words_in (shape o)
        at_block_end = ap (λ (w : Seat). w.walk.tail_slot) log_ended.grown.seat ∙ (at.before.at_end ∙ (ap words_of at.before.writing.rest ∙ ap words_in shape_is))

      by_log : (out : Taken) → (take_script.after p s a3).turn ≡ Done out → FitsOn (λ m w. WriteStandsAlone offset o seat number s0 c0 m w e3) (λ out w. EndsAlone offset o seat number s0 c0 out w e3) (taken_log_so t out v3)
      by_log HasTaken done =
          (let blocks = (log_ended HasTaken done).blocks in
          let one = (log_ended HasTaken done).taken refl in
          let listed : is_listed (owned_in v3 Log) (slice_index blocks 0) ≡ true =
          ap (λ (l : List ℕ). is_listed l (slice_index blocks 0)) (log_ended HasTaken done).grown.more
          ∙ (has_both (owned_in at.start Log) blocks (slice_index blocks 0)
          ∙ or_right (is_listed (owned_in at.start Log) (slice_index blocks 0)) (is_listed blocks (slice_index blocks 0)) (first_listed blocks one)) in
          record {
            at_end = record { unput = record { history = now_log.unput.history; logs = now_log.unput.logs; none_lost = now_log.unput.none_lost; bits = now_log.unput.bits }; opens = now_log.opens };
            data_space = x.data_space;
            log_space = log_clear offset o seat number s0 c0 inv0 shape_is none_mine v3 e3.owner now_log.unput.bits mine3 (log_image HasTaken done) (slice_index blocks 0) listed;
          })
      by_log (NoSpace area) done =
          (let none = (log_ended (NoSpace area) done).no_space area refl in
          let no_blocks : (log_ended (NoSpace area) done).blocks ≡ [] = nil_from_length (log_ended (NoSpace area) done).blocks (let fewer = none.1 in omega (arith, fewer)) in
          let none_owned : owned_in v3 Log ≡ [] = (log_ended (NoSpace area) done).grown.more ∙ (ap (λ (l : List ℕ). l ++ (log_ended (NoSpace area) done).blocks) (none_before (NoSpace area) done) ∙ no_blocks) in
          subst (λ (which : Area). IsEnded offset o seat number s0 c0 (Some (RefusesSpace which)) v3 e3) (sym none.0)
          (refused Log v3 e3 now_log (
            log_position (NoSpace area) done,
            x.data_space,
            record {
              full = subst (λ (l : List LogBlock). is_full (shape o) (last_of l).slots ≡ true) now_log.unput.logs (now_log.opens.closes (at_block_end (NoSpace area) done));
              none_clear = no_log_clear offset o seat number s0 c0 inv0 shape_is none_mine v3 e3.owner now_log.unput.bits mine3 (log_image (NoSpace area) done) none_owned none.2;
            },
          )))

      pub taking_log_moves : MovesTo (λ m w. WriteStandsAlone offset o seat number s0 c0 m w e3) (λ out w. EndsAlone offset o seat number s0 c0 out w e3) (stage_after t (TakingLog p) s a3)
      taking_log_moves = moves_onward (λ m w. WriteStandsAlone offset o seat number s0 c0 m w e3) (λ out w. EndsAlone offset o seat number s0 c0 out w e3) (λ n. at_stage t (TakingLog n)) (taken_log_so t) (take_script.after p s a3)
          (λ go. record { at_end = now_log; data_space = x.data_space }) by_log
