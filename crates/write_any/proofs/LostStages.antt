-- Each step of a write keeps the bound on the exchanges that it has lost since it first found the tail.
use Rattle.std.proofs.Common.{◌≡◌, ◌≢◌, ℕ, ◌<◌, ◌==◌, Bool, true, false, length, Option, refl, sym, ap, subst, ◌∙◌, arith}
use Rattle.std.proofs.lemmas.Bool.{ne_eqb, eqb-true, eqb-false}
use Rattle.log_entry.specs.Fields.{field}
use Rattle.log_entry.specs.Legal.{last_position}
use Rattle.log_entry.specs.declared.layouts.TheConstants.{EMPTY, ENTRY_KIND, INDIRECT, SEAL}
use Rattle.log_entry.specs.declared.shapes.Area.{Area}
use Rattle.log_entry.specs.declared.calls.WriteRefusal.{WriteRefusal}
use Rattle.pmem_words.specs.Scripts.{After, Script}
use Rattle.pmem_words.specs.Seats.{Seat, Hold}
use Rattle.pmem_words.specs.Parts.{Next, Into, End, moved, onward_at, onward}
use Rattle.pmem_words.specs.declared.machine.Turn.{Turn}
use Rattle.pmem_words.specs.declared.machine.Turn.TheVariants.{Go, Done}
use Rattle.pmem_words.specs.declared.written.Written.{Written}
use Rattle.log_core.specs.Works.{words_of}
use Rattle.log_core.specs.Views.{Ghost}
use Rattle.log_core.specs.Origin.{Origin}
use Rattle.log_core.specs.Within.{no_record, IsFound}
use Rattle.log_core.proofs.machines.Framing.{Frames}
use Rattle.log_core.proofs.machines.MachineLaws.{Law, HasBegun, Told}
use Rattle.block_bitmap.specs.declared.take.Take.{Take}
use Rattle.block_bitmap.specs.declared.take.Taken.{Taken}
use Rattle.block_bitmap.specs.declared.take.Taken.TheVariants.{Taken as HasTaken, NoSpace}
use Rattle.block_bitmap.specs.declared.fill.Fill.{Fill}
use Rattle.block_bitmap.specs.TakeScript.{take_script}
use Rattle.block_bitmap.specs.Filling.{fill_script}
use Rattle.block_bitmap.specs.Giving.{give_script}
use Rattle.pins.specs.Unpinning.{unpin_script}
use Rattle.log_blocks.specs.declared.walk.Walk.{Walk}
use Rattle.log_blocks.specs.declared.grow.Grow.{Grow}
use Rattle.log_blocks.specs.declared.offer.Offer.{Offer}
use Rattle.log_blocks.specs.declared.offer.Offered.TheVariants.{Overtaken}
use Rattle.log_blocks.specs.Committing.{away}
use Rattle.log_blocks.specs.Walking.{walk_after, walk_script}
use Rattle.log_blocks.specs.Growing.{grow_after}
use Rattle.log_blocks.specs.Offering.{counted, offer_after, offer_script}
use Rattle.write_any.specs.declared.stage.Target.{Target}
use Rattle.write_any.specs.declared.stage.Stage.{Stage}
use Rattle.write_any.specs.declared.stage.Stage.TheVariants.{Pinning, Walking, Taking, TakingRuns, Filling, TakingLog, FillingLog, Growing, GivingLog, Offering, Unpinning, Giving}
use Rattle.write_any.specs.declared.write.Write.{Write}
use Rattle.write_any.specs.GivingOne.{give_one_script}
use Rattle.write_any.specs.Composing.{are_one_run}
use Rattle.write_any.specs.Writing.{at_stage, offset_of, tail_by, walked_by, walked_so, taken_stage, taken_seat, taken_so, taken_runs_so, filled_so, taken_log_so, filled_log_so, grown_so, given_log_so, offered_so, unpinned_by, unpinned_so, given_so, stage_asks, stage_after, write_script}
use Rattle.write_any.specs.WriteWithin.{HasWritten}
use Rattle.write_any.specs.LosingFew.{HasLostFew}
use Rattle.write_any.proofs.Composed.{composed_bare}
use Rattle.write_any.proofs.RoundFalls.{take_unfound, fill_bare}
use Rattle.write_any.proofs.OfferLaw.{offering_law}
use Rattle.write_any.proofs.OfferStage.{ends_lost}
use Rattle.write_any.proofs.FewLost.{past_seal, seals_passed, LostAtTail, WalkLost, WalkKeeps, walk_keeps, overtaken_keeps, first_slot, refused_few, committed_few}
use Rattle.write_any.proofs.SameHold.{walk_hold, lost_hold}
use Rattle.write_any.proofs.WriteStanding.{AtSlot, WriteStands, StageStands}

-- what is to hold where the whole goes on, and where it ends
module _ {C Out : Type 0} (K : C → Seat → Type 0) (E : Seat → Type 0) where
  abbrev pub KeepsOn : Next C Out → Type 0
  KeepsOn (Into m s) = K m s
  KeepsOn (End out s) = E s

  pub record Keeps (r : After C Out) : Type 0 where
    pub goes : r.turn ≡ Go → K r.machine r.seat
    pub ends : (out : Out) → r.turn ≡ Done out → E r.seat

  keeps_moved : (m : C) (n : Next C Out) → KeepsOn n → Keeps (moved m n)
  keeps_moved m (Into c s) h = record { goes = λ go. h; ends = λ out done. cc }
  keeps_moved m (End out s) h = record { goes = λ go. cc; ends = λ other done. h }

  module _ {A OutA : Type 0} (inject : A → C) (next : OutA → Seat → Next C Out) where
    keeps_at : (m : A) (s : Seat) (t : Turn OutA) → (t ≡ Go → K (inject m) s) → ((out : OutA) → t ≡ Done out → KeepsOn (next out s)) → Keeps (onward_at inject next m s t)
    keeps_at m s Go goes ends = record { goes = λ go. goes refl; ends = λ out done. cc }
    keeps_at m s (Done out) goes ends = keeps_moved (inject m) (next out s) (ends out refl)

    -- a step of a stage keeps what the part's own steps keep, where what follows its end has it
    pub keeps_onward : (r : After A OutA) → (r.turn ≡ Go → K (inject r.machine) r.seat) → ((out : OutA) → r.turn ≡ Done out → KeepsOn (next out r.seat)) → Keeps (onward inject next r)
    keeps_onward r goes ends = keeps_at r.machine r.seat r.turn goes ends

-- the seat is of this generation, and the bound holds where it is tied to the first position
module _ (generation first before : ℕ) (Tied : Type 0) where
  abbrev Held : Seat → Type 0
  Held s = s.hold.generation ≡ generation

  abbrev TailLost : Seat → Type 0
  TailLost s = Held s × (Tied → LostAtTail first before s)

  abbrev pub EndLost : Seat → Type 0
  EndLost s = Held s × (Tied → HasLostFew first before s)

  abbrev pub StageLost : Stage → Seat → Type 0
  StageLost (Pinning p) s = ⊥
  StageLost (Walking p) s = Held s × (Tied → WalkLost first before p s)
  StageLost (Taking p) s = TailLost s
  StageLost (TakingRuns p) s = TailLost s
  StageLost (Filling p) s = TailLost s
  StageLost (TakingLog p) s = TailLost s
  StageLost (FillingLog p) s = TailLost s
  StageLost (Growing p) s = TailLost s
  StageLost (GivingLog p) s = TailLost s
  StageLost (Offering p) s = TailLost s
  StageLost (Unpinning refusal p) s = EndLost s
  StageLost (Giving refusal p) s = EndLost s

  abbrev pub WriteLost : Write → Seat → Type 0
  WriteLost m s = StageLost m.stage s

  abbrev pub Kept : After Write Written → Type 0
  Kept r = Keeps WriteLost EndLost r

  refused : (s : Seat) → TailLost s → EndLost s
  refused s x = (x.0, λ tied. refused_few first before s (x.1 tied))

  module _ (t : Target) where
    tail_lost : (end : Bool) (s : Seat) → TailLost s → StageLost (tail_by end t s) s
    tail_lost true s x = x
    tail_lost false s x = x

    walked_lost : (limit none : Bool) (s : Seat) → TailLost s → StageLost (walked_by limit none t s) s
    walked_lost true none s x = refused s x
    walked_lost false true s x = x
    walked_lost false false s x = tail_lost (s.walk.tail_slot == words_of s) s x

    taken_lost : (one : Bool) (s : Seat) → TailLost s → StageLost (taken_stage one s) (taken_seat one t s)
    taken_lost true s x = subst (λ (u : Seat). TailLost u) (sym (composed_bare (offset_of t) s)) x
    taken_lost false s x = x

    walking : (p : Walk) (s : Seat) (f : ℕ) → StageLost (Walking p) s → Kept (stage_after t (Walking p) s f)
    walking p s f x = keeps_onward WriteLost EndLost (λ n. at_stage t (Walking n)) (walked_so t) (walk_script.after p s f) (λ go. (held, λ tied. (kept tied).goes go))
        (λ out done. walked_lost ((walk_script.after p s f).seat.walk.position == last_position) (length (walk_script.after p s f).seat.blocks.owned == 0) (walk_script.after p s f).seat (held, λ tied. (kept tied).ends out done))
      where
        held : Held (walk_script.after p s f).seat
        held = ap (λ (h : Hold). h.generation) (walk_hold p s f) ∙ x.0

        kept : Tied → WalkKeeps first before (walk_after p s f)
        kept tied = walk_keeps first before p s f (x.1 tied)

    module _ (p : Take) (s : Seat) (f : ℕ) (x : TailLost s) where
      abbrev u : Seat
      u = (take_script.after p s f).seat

      still : TailLost u
      still = subst (λ (v : Seat). TailLost v) (sym (take_unfound p s f)) x

      from_take : (inject : Take → Stage) (next : Taken → Seat → Next Write Written) → StageLost (inject (take_script.after p s f).machine) u → KeepsOn WriteLost EndLost (next HasTaken u) → ((area : Area) → KeepsOn WriteLost EndLost (next (NoSpace area) u)) →
          Kept (onward (λ n. at_stage t (inject n)) next (take_script.after p s f))
      from_take inject next goes taken lacks = keeps_onward WriteLost EndLost (λ n. at_stage t (inject n)) next (take_script.after p s f) (λ go. goes) by
        where
          by : (out : Taken) → (take_script.after p s f).turn ≡ Done out → KeepsOn WriteLost EndLost (next out u)
          by HasTaken done = taken
          by (NoSpace area) done = lacks area

      taking : Kept (stage_after t (Taking p) s f)
      taking = from_take (λ n. Taking n) (taken_so t) still (taken_lost (are_one_run u.blocks.owned) u still) (λ area. refused u still)

      taking_runs : Kept (stage_after t (TakingRuns p) s f)
      taking_runs = from_take (λ n. TakingRuns n) (taken_runs_so t) still (taken_lost true u still) (λ area. refused u still)

      taking_log : Kept (stage_after t (TakingLog p) s f)
      taking_log = from_take (λ n. TakingLog n) (taken_log_so t) still still (λ area. refused u still)

    module _ (p : Fill) (s : Seat) (f : ℕ) (x : TailLost s) where
      abbrev v : Seat
      v = (fill_script.after p s f).seat

      same : TailLost v
      same = subst (λ (w : Seat). TailLost w) (sym (fill_bare p s f)) x

      filling_some : Kept (stage_after t (Filling p) s f)
      filling_some = keeps_onward WriteLost EndLost (λ n. at_stage t (Filling n)) (filled_so t) (fill_script.after p s f) (λ go. same) (λ out done. tail_lost (v.walk.tail_slot == words_of v) v same)

      filling_log : Kept (stage_after t (FillingLog p) s f)
      filling_log = keeps_onward WriteLost EndLost (λ n. at_stage t (FillingLog n)) (filled_log_so t) (fill_script.after p s f) (λ go. same) (λ out done. same)

    growing : (won : Bool) (p : Grow) (s : Seat) (f : ℕ) → TailLost s → Kept (onward (λ n. at_stage t (Growing n)) (grown_so t) (grow_after won p s f))
    growing true p s f x = record { goes = λ go. (x.0, λ tied. first_slot first before s (grow_after true p s f).seat.walk (3 == words_of s) (x.1 tied) refl refl); ends = λ out done. cc }
    growing false p s f x = record { goes = λ go. (x.0, λ tied. first_slot first before s (grow_after false p s f).seat.walk (3 == words_of s) (x.1 tied) refl refl); ends = λ out done. cc }

    offering : (won : Bool) (p : Offer) (s : Seat) (f : ℕ) → (won ≡ false → f ≡ SEAL → seals_passed s ≡ 0) → TailLost s → Kept (onward (λ n. at_stage t (Offering n)) (offered_so t) (offer_after won p s f))
    offering true p s f late x = record {
      goes = λ go. (x.0, λ tied. committed_few first before p.entry s (x.1 tied));
      ends = λ out done. cc;
    }
    offering false p s f late x = record {
      goes = λ go. (
        ap (λ (h : Hold). h.generation) (lost_hold (f == SEAL) (field ENTRY_KIND f == INDIRECT) f (away (counted s))) ∙ x.0,
        λ tied. overtaken_keeps first before (f == SEAL) (field ENTRY_KIND f == INDIRECT) f s (λ seal. late refl (eqb-true f SEAL seal)) (x.1 tied),
      );
      ends = λ out done. cc;
    }

    unpinned_lost : (none : Bool) (refusal : Option WriteRefusal) (s : Seat) → EndLost s → KeepsOn WriteLost EndLost (unpinned_by none t refusal s)
    unpinned_lost true refusal s x = x
    unpinned_lost false refusal s x = x

    -- a seal is found later than in a block's first slot alone, and at no block's end
    stage_keeps : (stage : Stage) (s : Seat) (f : ℕ) → ((p : Offer) → stage ≡ Offering p → f ≢ EMPTY → f ≡ SEAL → seals_passed s ≡ 0) → StageLost stage s → Kept (stage_after t stage s f)
    stage_keeps (Pinning p) s f late x = absurd x
    stage_keeps (Walking p) s f late x = walking p s f x
    stage_keeps (Taking p) s f late x = taking p s f x
    stage_keeps (TakingRuns p) s f late x = taking_runs p s f x
    stage_keeps (Filling p) s f late x = filling_some p s f x
    stage_keeps (TakingLog p) s f late x = taking_log p s f x
    stage_keeps (FillingLog p) s f late x = filling_log p s f x
    stage_keeps (Growing p) s f late x = growing (f == EMPTY) p s f x
    stage_keeps (GivingLog p) s f late x = keeps_onward WriteLost EndLost (λ n. at_stage t (GivingLog n)) (given_log_so t) (give_one_script.after p s f) (λ go. x) (λ out done. x)
    stage_keeps (Offering p) s f late x = offering (f == EMPTY) p s f (λ other seal. late p refl (eqb-false f EMPTY other) seal) x
    stage_keeps (Unpinning refusal p) s f late x = keeps_onward WriteLost EndLost (λ n. at_stage t (Unpinning refusal n)) (unpinned_so t refusal) (unpin_script.after p s f)
        (λ go. cc)
        (λ out done. unpinned_lost (length s.blocks.owned == 0) refusal (unpin_script.after p s f).seat ((x.0, λ tied. (let lost = x.1 tied in record { from = lost.from; few = lost.few }))))
    stage_keeps (Giving refusal p) s f late x = keeps_onward WriteLost EndLost (λ n. at_stage t (Giving refusal n)) (given_so t refusal) (give_script.after p s f)
        (λ go. (x.0, λ tied. (let lost = x.1 tied in record { from = lost.from; few = lost.few })))
        (λ out done. (x.0, λ tied. (let lost = x.1 tied in record { from = lost.from; few = lost.few })))

-- a part stands so, or has ended so, by what was found
pub told_so : {A OutA : Type 0} {part : Script A OutA} {start : A} (law : Law part start) (o : Origin) (seat : ℕ) (Before : Seat → Ghost → Type 0) (m : A) (s : Seat) (g : Ghost) (f : ℕ) (at : HasBegun law o seat Before m s g) →
    IsFound o seat s g (part.asks m s) f → Told law o seat Before m s g at f
told_so {part = part} law o seat Before m s g f at found =
    (let laws = law.serves o seat at.start at.ghost at.may m s g at.stands in
    let admits : part.admits m s f = subst (λ (a : ℕ). part.admits m s a) found.is (laws.admitted found.core found.pin found.began found.holds found.unspent found.knows) in
    record { goes = λ go. laws.goes f found admits go; ends = λ out done. laws.ends f out found admits done })

module _ (offset : ℕ) (o : Origin) (seat : ℕ) (s0 : Seat) (g0 : Ghost) where
  -- a seal that is found at the tail's slot is not in a block's first slot
  late_seal : (entry : ℕ) (p : Offer) (s : Seat) (g : Ghost) (f : ℕ) → HasBegun (offering_law entry) o seat (AtSlot offset o seat s0 g0) p s g → IsFound o seat s g (offer_script.asks p s) f → f ≢ EMPTY → f ≡ SEAL → seals_passed s ≡ 0
  late_seal entry p s g f at found some seal =
      ap (λ (b : Bool). past_seal b (s.walk.tail_slot == 3)) (ne_eqb s.walk.tail_slot (words_of s) (λ end. at.before.inside (sym same ∙ (end ∙ ap words_of at.stands.0.seat))))
      ∙ ap (λ (b : Bool). past_seal false b) (ne_eqb s.walk.tail_slot 3 (λ three. (let low = late in let is = same in omega (arith, three, low, is))))
    where
      same : s.walk.tail_slot ≡ at.start.walk.tail_slot
      same = ap (λ (u : Seat). u.walk.tail_slot) at.stands.0.seat

      late : 3 < at.start.walk.tail_slot
      late = ((told_so (offering_law entry) o seat (AtSlot offset o seat s0 g0) p s g f at found).ends (Overtaken f) (ends_lost p s f some)).1.late f refl seal

  -- so each step keeps the bound, from where it once holds
  module _ (generation first before : ℕ) (Tied : Type 0) (m : Write) (s : Seat) (g : Ghost) (f : ℕ) (stands : WriteStands offset o seat s0 g0 m s g) (x : WriteLost generation first before Tied m s) (found : IsFound o seat s g (write_script.asks m s) f) where
    late : (p : Offer) → m.stage ≡ Offering p → f ≢ EMPTY → f ≡ SEAL → seals_passed s ≡ 0
    late p is some seal =
        (let here = subst (λ (stage : Stage). StageStands offset o seat s0 g0 stage s g) is stands.1 in
        late_seal here.0 p s g f here.1 (subst (λ (stage : Stage). IsFound o seat s g (stage_asks stage s) f) is found) some seal)

    pub lost_frames : Frames o seat write_script no_record (λ m s g. WriteStands offset o seat s0 g0 m s g) (HasWritten offset o seat s0 g0) (λ m s g. WriteLost generation first before Tied m s) (λ out s g. EndLost generation first before Tied s) m s g f
    lost_frames = (let kept = stage_keeps generation first before Tied m.target m.stage s f late x in record { goes = kept.goes; ends = kept.ends })
