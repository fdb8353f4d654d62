-- Each step of a write keeps where it stands, where it alone makes steps.
use Rattle.std.proofs.Common.{◌≡◌, ◌≢◌, inl, inr, ℕ, ◌==◌, Bool, true, false, if◌then◌else◌, List, length, slice_index, Option, refl, sym, ap, subst, ◌∙◌, arith}
use Rattle.std.proofs.lemmas.Bool.{eqb-true, eqb-false}
use Rattle.log_entry.specs.Legal.{last_position}
use Rattle.log_entry.specs.declared.calls.WriteRefusal.{WriteRefusal}
use Rattle.log_entry.specs.declared.layouts.TheConstants.{EMPTY}
use Rattle.log_image.specs.Image.{shape_by, words_in}
use Rattle.pmem_words.specs.declared.owned.OwnedBlock.{OwnedBlock}
use Rattle.pmem_words.specs.declared.written.Written.{Written}
use Rattle.pmem_words.specs.Seats.{Seat, q_of}
use Rattle.persistence.specs.Memory.{found_answer}
use Rattle.log_core.specs.Entries.{place_in}
use Rattle.log_core.specs.Origin.{Origin, shape, q_of_origin, OwnedBy}
use Rattle.log_core.specs.Files.{Write as WriteOf, end_of}
use Rattle.log_core.specs.Cores.{Core, is_full}
use Rattle.log_core.specs.Works.{seat_shape, words_of}
use Rattle.log_core.specs.Invariant.{Invariant}
use Rattle.log_core.specs.Within.{no_record, note_of}
use Rattle.log_core.specs.Views.{view_of}
use Rattle.log_core.specs.Steps.{Note}
use Rattle.log_core.proofs.TailEnds.{same_words, walked}
use Rattle.pins.specs.declared.pin.Pin.{Pin}
use Rattle.pins.specs.declared.unpin.Unpin.{Unpin}
use Rattle.pins.specs.Pinning.{pin_script}
use Rattle.pins.specs.Unpinning.{unpin_script}
use Rattle.block_bitmap.specs.declared.fill.Fill.{Fill}
use Rattle.block_bitmap.specs.declared.give.Give.{Give}
use Rattle.block_bitmap.specs.Filling.{fill_script}
use Rattle.block_bitmap.specs.Giving.{give_script}
use Rattle.log_blocks.specs.declared.walk.Walk.{Walk}
use Rattle.log_blocks.specs.declared.walk.Walk.TheVariants.{Begin}
use Rattle.log_blocks.specs.Walking.{walk_script, walk_asks, walk_after}
use Rattle.write_any.specs.declared.stage.Target.{Target}
use Rattle.write_any.specs.declared.stage.Stage.{Stage}
use Rattle.write_any.specs.declared.stage.Stage.TheVariants.{Pinning, Walking, Taking, TakingRuns, Filling, TakingLog, FillingLog, Growing, GivingLog, Offering, Unpinning, Giving}
use Rattle.write_any.specs.declared.write.Write.{Write}
use Rattle.write_any.specs.Writing.{at_stage, pinned_so, walked_by, walked_so, tail_by, filled_so, filled_log_so, unpinned_by, unpinned_so, given_so, stage_after, write_script}
use Rattle.write_any.specs.WriteWithin.{MayWrite}
use Rattle.write_any.proofs.AloneMoves.{FitsOn, MovesTo, moves_onward, IsAside, pin_aside, walk_aside, IsWalkEnd, walk_end, open_moves, unput_stays, at_end_stays, ends_stay}
use Rattle.write_any.proofs.AlonePuts.{growing_moves, offering_moves}
use Rattle.write_any.proofs.AloneStanding.{IsStarting, IsAtLogEnd, HasData, HasBoth, IsEnded, EndsAlone, StageAlone, WriteStandsAlone}
use Rattle.write_any.proofs.AloneSteps.{Stays, plain_stays, pin_plain, unpin_plain, walk_plain, fill_plain}
use Rattle.write_any.proofs.AloneTakes.{taking_moves, taking_runs_moves, taking_log_moves}
use Rattle.write_any.proofs.OpenTail.{last_of, IsOpenTail, open_at_slot, open_at_link}
use Rattle.write_any.proofs.Riding.{StepsOn, HasStepped, next_core, ghost_on}
use Rattle.write_any.proofs.RoundFalls.{fill_bare}
use Rattle.write_any.proofs.WriteStanding.{StageStands}

module _ (offset : ℕ) (o : Origin) (seat number : ℕ) (s0 : Seat) (g0 : Rattle.log_core.specs.Views.Ghost) (may : MayWrite offset o seat s0 g0) (c0 : Core) (inv0 : Invariant o c0) (shape_is : shape_by s0.geometry ≡ shape o) (none_mine : (block : ℕ) → c0.owner block ≢ OwnedBy seat) where
  abbrev K : Core → Write → Seat → Type 0
  K d m v = WriteStandsAlone offset o seat number s0 c0 m v d

  abbrev E : Core → Written → Seat → Type 0
  E d out v = EndsAlone offset o seat number s0 c0 out v d

  abbrev Steps : Target → Stage → Seat → Core → Type 0
  Steps t stage s c = StepsOn o seat number write_script (at_stage t stage) s c

  abbrev next : Target → Stage → Seat → Core → Core
  next t stage s c = next_core o seat number write_script (at_stage t stage) s c

  abbrev answer : Target → Stage → Seat → Core → ℕ
  answer t stage s c = found_answer c.memory (write_script.asks (at_stage t stage) s)

  abbrev noted : Target → Stage → Seat → Core → Note
  noted t stage s c = note_of o seat number write_script no_record (at_stage t stage) s (view_of c.views seat).ghost (answer t stage s c)

  -- the tail's place, by whether it is a block's end
  is_empty : (s : Seat) (c : Core) (end : Bool) → (s.walk.tail_slot == words_of s) ≡ end → found_answer c.memory (walk_asks Begin s) ≡ EMPTY → s.walk.ready ≡ true →
      slice_index c.memory.now.words (place_in (seat_shape s) s.walk.tail_block (if end then 0 else s.walk.tail_slot)) ≡ 0
  is_empty s c end is empty ready =
      ap (λ (b : Bool). slice_index c.memory.now.words (place_in (seat_shape s) s.walk.tail_block (if b then 0 else s.walk.tail_slot))) (sym is)
      ∙ (ap (λ (b : Bool). slice_index c.memory.now.words (place_in (seat_shape s) (if b then s.walk.tail_block else Rattle.log_core.specs.Works.front s) (if b then Rattle.log_core.specs.Works.tail_index s else 1))) (sym ready) ∙ empty)

  -- where a walk has ended it is at the end of the log
  module _ (t : Target) (p : Walk) (s : Seat) (c : Core) (st : Steps t (Walking p) s c) (valid : s.hold.valid ≡ true) (x : IsStarting offset o seat number s0 c0 s c) where
    abbrev d : Core
    d = next t (Walking p) s c

    abbrev f : ℕ
    f = answer t (Walking p) s c

    abbrev u : Seat
    u = (walk_after p s f).seat

    aside : IsAside s u
    aside = walk_aside p s f

    stays : Stays c d
    stays = plain_stays o c seat (walk_asks p s) (noted t (Walking p) s c) (walk_plain (q_of_origin o) seat p s)

    opens_by : s.walk.ready ≡ true → found_answer c.memory (walk_asks Begin s) ≡ EMPTY → (end : Bool) → (s.walk.tail_slot == words_of s) ≡ end → IsOpenTail o c.history c.logs s.walk
    opens_by ready empty true is = open_at_link o c seat s (ghost_on seat number c s) st.pin st.began st.holds st.knows st.unspent valid ready (eqb-true s.walk.tail_slot (words_of s) is) (is_empty s c true is empty ready)
    opens_by ready empty false is = open_at_slot o c seat s (ghost_on seat number c s) st.pin st.began st.holds st.knows st.unspent valid ready
        (let upto = (walked o c seat s (ghost_on seat number c s) st.pin st.began st.holds st.knows st.unspent valid ready).upto in
        let same = same_words o c seat s (ghost_on seat number c s) st.pin st.began st.holds st.knows st.unspent valid ready in
        let other = eqb-false s.walk.tail_slot (words_of s) is in omega (arith, upto, same, other))
        (is_empty s c false is empty ready)

    at_end : IsWalkEnd p s f → IsAtLogEnd offset o seat number s0 c0 u d
    at_end end = record {
      unput = unput_stays offset o seat number s0 c0 s u c d stays aside.lost aside.found x.unput;
      opens = open_moves o c.history d.history c.logs d.logs s.walk u.walk stays.history stays.logs (ap (λ (w : Seat). w.walk.position) end.seat) (ap (λ (w : Seat). w.walk.tail_base) end.seat) (ap (λ (w : Seat). w.walk.tail_slot) end.seat)
          (opens_by end.ready (subst (λ (m : Walk). found_answer c.memory (walk_asks m s) ≡ EMPTY) end.begins end.empty) (s.walk.tail_slot == words_of s) refl);
    }

    walked_to : IsAtLogEnd offset o seat number s0 c0 u d → (limit none : Bool) → (u.walk.position == last_position) ≡ limit → (length u.blocks.owned == 0) ≡ none → StageAlone offset o seat number s0 c0 (walked_by limit none t u) u d
    walked_to end true none is owned = record {
      none_lost = end.unput.none_lost;
      ends = record { history = end.unput.history; position_is = end.opens.position ∙ ap (λ (h : List WriteOf). end_of o h) end.unput.history; cause = eqb-true u.walk.position last_position is };
    }
    walked_to end false true is owned = end
    walked_to end false false is owned = absurd (eqb-false (length u.blocks.owned) 0 owned (ap (λ (l : List OwnedBlock). length l) (aside.owned ∙ x.none_owned)))

    walking_moves : MovesTo (K d) (E d) (stage_after t (Walking p) s f)
    walking_moves = moves_onward (K d) (E d) (λ n. at_stage t (Walking n)) (walked_so t) (walk_script.after p s f)
        (λ go. record { unput = unput_stays offset o seat number s0 c0 s u c d stays aside.lost aside.found x.unput; none_owned = aside.owned ∙ x.none_owned })
        (λ out done. walked_to (at_end (walk_end p s f out done)) (u.walk.position == last_position) (length u.blocks.owned == 0) refl refl)

  module _ (t : Target) (p : Pin) (s : Seat) (c : Core) (x : IsStarting offset o seat number s0 c0 s c) where
    pin_next : IsStarting offset o seat number s0 c0 (pin_script.after p s (answer t (Pinning p) s c)).seat (next t (Pinning p) s c)
    pin_next = (let aside = pin_aside p s (answer t (Pinning p) s c) in record {
      unput = unput_stays offset o seat number s0 c0 s _ c _ (plain_stays o c seat (pin_script.asks p s) (noted t (Pinning p) s c) (pin_plain (q_of_origin o) seat p s)) aside.lost aside.found x.unput;
      none_owned = aside.owned ∙ x.none_owned;
    })

    pinning_moves : MovesTo (K (next t (Pinning p) s c)) (E (next t (Pinning p) s c)) (stage_after t (Pinning p) s (answer t (Pinning p) s c))
    pinning_moves = moves_onward (K (next t (Pinning p) s c)) (E (next t (Pinning p) s c)) (λ n. at_stage t (Pinning n)) (pinned_so t) (pin_script.after p s (answer t (Pinning p) s c)) (λ go. pin_next) (λ out done. pin_next)

  -- filling
  module _ (p : Fill) (s : Seat) (c : Core) (note : Note) (x : IsAtLogEnd offset o seat number s0 c0 s c) where
    filled_next : IsAtLogEnd offset o seat number s0 c0 (fill_script.after p s (found_answer c.memory (fill_script.asks p s))).seat (Rattle.log_core.specs.After.after o c (Rattle.log_core.specs.Steps.Does seat (fill_script.asks p s) note))
    filled_next = (let same = fill_bare p s (found_answer c.memory (fill_script.asks p s)) in
        at_end_stays offset o seat number s0 c0 s _ c _ (plain_stays o c seat (fill_script.asks p s) note (fill_plain (q_of_origin o) seat p s))
        (ap (λ (v : Seat). v.calling.lost) same) (ap (λ (v : Seat). v.blocks.found) same) (ap (λ (v : Seat). v.walk) same) x)

  -- at a slot an entry is offered; no log block is to be linked
  tail_to : (t : Target) (v : Seat) (d : Core) → words_of v ≡ words_in (shape o) → HasData offset o seat number s0 c0 v d → (end : Bool) → (v.walk.tail_slot == words_of v) ≡ end → StageAlone offset o seat number s0 c0 (tail_by end t v) v d
  tail_to t v d wide x true is = x
  tail_to t v d wide x false is = record {
    history = x.at_end.unput.history;
    none_lost = x.at_end.unput.none_lost;
    opens = x.at_end.opens;
    data_space = x.data_space;
    log_space = λ none. (let other = eqb-false v.walk.tail_slot (words_of v) is in
        let opens : is_full (shape o) (last_of c0.logs).slots ≡ false = subst (λ (l : List Rattle.log_core.specs.Origin.LogBlock). is_full (shape o) (last_of l).slots ≡ false) x.at_end.unput.logs (x.at_end.opens.opens (λ end. other (end ∙ sym wide))) in
        let both : true ≡ false = sym none.full ∙ opens in cc);
  }

  module _ (t : Target) (p : Fill) (s : Seat) (c : Core) (st : Steps t (Filling p) s c) (x : HasData offset o seat number s0 c0 s c) where
    filling_next : HasData offset o seat number s0 c0 (fill_script.after p s (answer t (Filling p) s c)).seat (next t (Filling p) s c)
    filling_next = record { at_end = filled_next p s c (noted t (Filling p) s c) x.at_end; data_space = x.data_space }

    wide_now : words_of (fill_script.after p s (answer t (Filling p) s c)).seat ≡ words_in (shape o)
    wide_now = ap words_of (fill_bare p s (answer t (Filling p) s c)) ∙ ap q_of (st.knows.fits st.unspent).geometry

    filling_moves : MovesTo (K (next t (Filling p) s c)) (E (next t (Filling p) s c)) (stage_after t (Filling p) s (answer t (Filling p) s c))
    filling_moves = moves_onward (K (next t (Filling p) s c)) (E (next t (Filling p) s c)) (λ n. at_stage t (Filling n)) (filled_so t) (fill_script.after p s (answer t (Filling p) s c)) (λ go. filling_next)
        (λ out done. (let v = (fill_script.after p s (answer t (Filling p) s c)).seat in tail_to t v (next t (Filling p) s c) wide_now filling_next (v.walk.tail_slot == words_of v) refl))

  module _ (t : Target) (p : Fill) (s : Seat) (c : Core) (x : HasBoth offset o seat number s0 c0 s c) where
    filling_log_next : HasBoth offset o seat number s0 c0 (fill_script.after p s (answer t (FillingLog p) s c)).seat (next t (FillingLog p) s c)
    filling_log_next = record { at_end = filled_next p s c (noted t (FillingLog p) s c) x.at_end; data_space = x.data_space; log_space = x.log_space }

    filling_log_moves : MovesTo (K (next t (FillingLog p) s c)) (E (next t (FillingLog p) s c)) (stage_after t (FillingLog p) s (answer t (FillingLog p) s c))
    filling_log_moves = moves_onward (K (next t (FillingLog p) s c)) (E (next t (FillingLog p) s c)) (λ n. at_stage t (FillingLog n)) (filled_log_so t) (fill_script.after p s (answer t (FillingLog p) s c)) (λ go. filling_log_next) (λ out done. filling_log_next)

  -- the ends
  module _ (t : Target) (refusal : Option WriteRefusal) (p : Unpin) (s : Seat) (c : Core) (x : IsEnded offset o seat number s0 c0 refusal s c) where
    abbrev e : Core
    e = next t (Unpinning refusal p) s c

    same_history : e.history ≡ c.history
    same_history = (plain_stays o c seat (unpin_script.asks p s) (noted t (Unpinning refusal p) s c) (unpin_plain (q_of_origin o) seat p s)).history

    still : IsEnded offset o seat number s0 c0 refusal (unpin_script.after p s (answer t (Unpinning refusal p) s c)).seat e
    still = record { none_lost = x.none_lost; ends = ends_stay offset o seat number s0 c0 refusal s.walk.position c e same_history x.ends }

    unpinned_to : (none : Bool) → FitsOn (K e) (E e) (unpinned_by none t refusal (unpin_script.after p s (answer t (Unpinning refusal p) s c)).seat)
    unpinned_to true = record { none_lost = still.none_lost; ends = still.ends }
    unpinned_to false = still

    unpinning_moves : MovesTo (K e) (E e) (stage_after t (Unpinning refusal p) s (answer t (Unpinning refusal p) s c))
    unpinning_moves = moves_onward (K e) (E e) (λ n. at_stage t (Unpinning refusal n)) (unpinned_so t refusal) (unpin_script.after p s (answer t (Unpinning refusal p) s c)) (λ go. still) (λ out done. unpinned_to (length s.blocks.owned == 0))

  module _ (t : Target) (refusal : Option WriteRefusal) (p : Give) (s : Seat) (c : Core) (x : IsEnded offset o seat number s0 c0 refusal s c) where
    giving_moves : MovesTo (K (next t (Giving refusal p) s c)) (E (next t (Giving refusal p) s c)) (stage_after t (Giving refusal p) s (answer t (Giving refusal p) s c))
    giving_moves = moves_onward (K (next t (Giving refusal p) s c)) (E (next t (Giving refusal p) s c)) (λ n. at_stage t (Giving refusal n)) (given_so t refusal) (give_script.after p s (answer t (Giving refusal p) s c))
        (λ go. record { none_lost = x.none_lost; ends = ends_stay offset o seat number s0 c0 refusal s.walk.position c (next t (Giving refusal p) s c) refl x.ends })
        (λ out done. record { none_lost = x.none_lost; ends = ends_stay offset o seat number s0 c0 refusal s.walk.position c (next t (Giving refusal p) s c) refl x.ends })

  -- a valid pin while it walks
  walk_valid : (p : Walk) (s : Seat) (c : Core) → StageStands offset o seat s0 g0 (Walking p) s (ghost_on seat number c s) → s.hold.valid ≡ true
  walk_valid p s c (inl at) = ap (λ (w : Seat). w.hold.valid) at.stands.on_way.left ∙ at.may.valid
  walk_valid p s c (inr (word, at)) = ap (λ (w : Seat). w.hold.valid) at.stands.0.on_way.left ∙ at.may.valid

  pub stage_moves : (t : Target) (stage : Stage) (s : Seat) (c : Core) → StageStands offset o seat s0 g0 stage s (ghost_on seat number c s) → Steps t stage s c →
      HasStepped o seat number write_script (at_stage t stage) s c (next t stage s c) → StageAlone offset o seat number s0 c0 stage s c →
      MovesTo (K (next t stage s c)) (E (next t stage s c)) (stage_after t stage s (answer t stage s c))
  stage_moves t (Pinning p) s c at st stepped x = pinning_moves t p s c x
  stage_moves t (Walking p) s c at st stepped x = walking_moves t p s c st (walk_valid p s c at) x
  stage_moves t (Taking p) s c at st stepped x = taking_moves offset o seat number s0 g0 may c0 inv0 shape_is none_mine t p s c at st x stepped
  stage_moves t (TakingRuns p) s c at st stepped x = taking_runs_moves offset o seat number s0 g0 may c0 inv0 shape_is none_mine t p s c at st x stepped
  stage_moves t (Filling p) s c at st stepped x = filling_moves t p s c st x
  stage_moves t (TakingLog p) s c at st stepped x = taking_log_moves offset o seat number s0 g0 may c0 inv0 shape_is none_mine t p s c at st x stepped
  stage_moves t (FillingLog p) s c at st stepped x = filling_log_moves t p s c x
  stage_moves t (Growing p) s c at st stepped x = growing_moves offset o seat number s0 g0 may c0 t p s c at.0 at.1 st x
  stage_moves t (GivingLog p) s c at st stepped x = absurd x
  stage_moves t (Offering p) s c at st stepped x = offering_moves offset o seat number s0 g0 may c0 t p s c at.0 at.1 st x
  stage_moves t (Unpinning refusal p) s c at st stepped x = unpinning_moves t refusal p s c x
  stage_moves t (Giving refusal p) s c at st stepped x = giving_moves t refusal p s c x
