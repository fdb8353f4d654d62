-- A write whose seat was ready loses few exchanges from its begin on where it finds the same generation, if the write is lawful.
use Rattle.std.proofs.Common.{◌≡◌, ◌⊎◌, inl, inr, ℕ, ◌==◌, true, refl, sym, ap, subst, ◌∙◌, arith}
use Rattle.std.proofs.lemmas.Bool.{eq-eqb, and_from}
use Rattle.pmem_words.specs.Seats.{Seat}
use Rattle.pmem_words.specs.declared.machine.Turn.TheVariants.{Done}
use Rattle.log_core.specs.Views.{Ghost}
use Rattle.log_core.specs.Origin.{Origin}
use Rattle.log_core.specs.Within.{no_record, IsFound, Serves}
use Rattle.log_core.proofs.machines.Framing.{Frames, serves_with, serves_as}
use Rattle.log_core.proofs.machines.MachineLaws.{Law, IsUnmoved, HasBegun, has_begun, promised}
use Rattle.pins.specs.declared.pin.Pin.{Pin}
use Rattle.pins.specs.Pinning.{pin_script}
use Rattle.pins.specs.Steps.{generation_in}
use Rattle.pins.specs.Endings.{pinned}
use Rattle.pins.proofs.PinWithin.{pin_law}
use Rattle.log_blocks.specs.declared.walk.Walk.TheVariants.{Begin}
use Rattle.write_any.specs.declared.stage.Target.TheVariants.{At}
use Rattle.write_any.specs.declared.stage.Stage.{Stage}
use Rattle.write_any.specs.declared.stage.Stage.TheVariants.{Pinning, Walking, Taking, TakingRuns, Filling, TakingLog, FillingLog, Growing, GivingLog, Offering, Unpinning, Giving}
use Rattle.write_any.specs.declared.write.Write.{Write}
use Rattle.write_any.specs.Writing.{at_stage, write_of, pinned_so, stage_asks, stage_after, write_script, write_lowers}
use Rattle.write_any.specs.WriteWithin.{MayWrite, HasWritten}
use Rattle.write_any.specs.LosingFew.{HasLostFewFrom, LosesFewFromBegin}
use Rattle.write_any.proofs.EndStages.{may_pin}
use Rattle.write_any.proofs.LostStages.{Keeps, keeps_onward, told_so, WriteLost, EndLost, lost_frames}
use Rattle.write_any.proofs.WriteStanding.{StageStands, WriteStands}

-- a stage after the pin
abbrev IsPast : Stage → Type 0
IsPast (Pinning p) = ⊥
IsPast _ = Unit {0}

past_or_pin : (stage : Stage) → IsPast stage ⊎ ((p : Pin) × (stage ≡ Pinning p))
past_or_pin (Pinning p) = inr (p, refl)
past_or_pin (Walking p) = inl tt
past_or_pin (Taking p) = inl tt
past_or_pin (TakingRuns p) = inl tt
past_or_pin (Filling p) = inl tt
past_or_pin (TakingLog p) = inl tt
past_or_pin (FillingLog p) = inl tt
past_or_pin (Growing p) = inl tt
past_or_pin (GivingLog p) = inl tt
past_or_pin (Offering p) = inl tt
past_or_pin (Unpinning refusal p) = inl tt
past_or_pin (Giving refusal p) = inl tt

module _ (s0 : Seat) where
  -- the pin is of the generation of the table that the seat had
  abbrev IsSame : ℕ → Type 0
  IsSame generation = (s0.walk.ready ≡ true) × (generation ≡ s0.hold.generation)

  record Since (m : Write) (s : Seat) : Type 0 where
    pub generation : ℕ
    pub lost : WriteLost generation s0.walk.position s0.calling.lost (IsSame generation) m s

  record Ended (s : Seat) : Type 0 where
    pub generation : ℕ
    pub lost : EndLost generation s0.walk.position s0.calling.lost (IsSame generation) s

  abbrev Follows : Write → Seat → Type 0
  Follows m s = IsPast m.stage → Since m s

  ended_few : (s : Seat) → Ended s → HasLostFewFrom s0 s
  ended_few s x ready same = x.lost.1 (ready, sym x.lost.0 ∙ same)

  module _ (offset : ℕ) (o : Origin) (seat : ℕ) (g0 : Ghost) (may : MayWrite offset o seat s0 g0) where
    pinned_since : (t : Seat) → t ≡ pinned s0 t.hold.head → Since (at_stage (At offset) (Walking Begin)) t
    pinned_since t at = record {
      generation = t.hold.generation;
      lost = (
        refl,
        λ same. record {
          ready = ap (λ (u : Seat). u.walk.ready) at ∙ and_from (s0.hold.generation == generation_in t.hold.head) s0.walk.ready (eq-eqb s0.hold.generation (generation_in t.hold.head) (sym same.1 ∙ ap (λ (u : Seat). u.hold.generation) at)) same.0;
          not_won = ap (λ (u : Seat). u.calling.won) at ∙ may.free.not_won;
          from = (let is = ap (λ (u : Seat). u.walk.position) at in omega (arith, is));
          few = (let is = ap (λ (u : Seat). u.calling.lost) at in omega (arith, is));
        },
      );
    }

    module _ (m : Write) (s : Seat) (g : Ghost) (f : ℕ) (stands : WriteStands offset o seat s0 g0 m s g) (found : IsFound o seat s g (write_script.asks m s) f) where
      abbrev Frame : Type 0
      Frame = Frames o seat write_script no_record (λ m s g. WriteStands offset o seat s0 g0 m s g) (HasWritten offset o seat s0 g0) (λ m s g. Follows m s) (λ out s g. Ended s) m s g f

      past : IsPast m.stage → Follows m s → Frame
      past is follows =
          (let since = follows is in
          let frames = lost_frames offset o seat s0 g0 since.generation s0.walk.position s0.calling.lost (IsSame since.generation) m s g f stands since.lost found in
          record { goes = λ go next. record { generation = since.generation; lost = frames.goes go }; ends = λ out done. record { generation = since.generation; lost = frames.ends out done } })

      at_pin : (p : Pin) → m.stage ≡ Pinning p → Frame
      at_pin p is = record { goes = kept.goes; ends = kept.ends }
        where
          begun : HasBegun pin_law o seat (IsUnmoved s0 g0) p s g
          begun = subst (λ (stage : Stage). StageStands offset o seat s0 g0 stage s g) is stands.1

          left : (out : Rattle.log_entry.specs.declared.words.Head.Head) → (pin_script.after p s f).turn ≡ Done out → (pin_script.after p s f).seat ≡ pinned s0 (pin_script.after p s f).seat.hold.head
          left out done = ((told_so pin_law o seat (IsUnmoved s0 g0) p s g f begun (subst (λ (stage : Stage). IsFound o seat s g (stage_asks stage s) f) is found)).ends out done).left
              ∙ ap (λ (u : Seat). pinned u (pin_script.after p s f).seat.hold.head) begun.before.seat

          here : Keeps Follows Ended (stage_after m.target (Pinning p) s f)
          here = keeps_onward Follows Ended (λ n. at_stage m.target (Pinning n)) (pinned_so m.target) (pin_script.after p s f) (λ go next. absurd next) (λ out done next. (let since = pinned_since (pin_script.after p s f).seat (left out done) in record { generation = since.generation; lost = since.lost }))

          kept : Keeps Follows Ended (stage_after m.target m.stage s f)
          kept = subst (λ (stage : Stage). Keeps Follows Ended (stage_after m.target stage s f)) (sym is) here

      follow_frames : Follows m s → Frame
      follow_frames follows = by (past_or_pin m.stage)
        where
          by : IsPast m.stage ⊎ ((p : Pin) × (m.stage ≡ Pinning p)) → Frame
          by (inl is) = past is follows
          by (inr pin) = at_pin pin.0 pin.1

-- a write that is lawful
module _ (whole : (offset : ℕ) (o : Origin) (seat : ℕ) (s0 : Seat) (g0 : Ghost) → MayWrite offset o seat s0 g0 → Serves o seat write_script no_record (WriteStands offset o seat s0 g0) (HasWritten offset o seat s0 g0)) where
  abbrev from_law : (offset : ℕ) → Law write_script (write_of (At offset))
  from_law offset = record {
    may = MayWrite offset;
    stands = λ o seat s0 g0 m s g. WriteStands offset o seat s0 g0 m s g × Follows s0 m s;
    left = λ o seat s0 g0 out s g. HasWritten offset o seat s0 g0 out s g × HasLostFewFrom s0 s;
    begins = λ o seat s g may. ((refl, has_begun pin_law o seat (IsUnmoved s g) s g (record { seat = refl; ghost = refl }) (may_pin offset o seat s g may s g refl)), λ next. absurd next);
    serves = λ o seat s0 g0 may. serves_as o seat write_script no_record (λ m s g. WriteStands offset o seat s0 g0 m s g × Follows s0 m s) (λ out s g. HasWritten offset o seat s0 g0 out s g × Ended s0 s) (λ out s g. HasWritten offset o seat s0 g0 out s g × HasLostFewFrom s0 s)
        (λ out s g left. (left.0, ended_few s0 s left.1))
        (serves_with o seat write_script no_record (WriteStands offset o seat s0 g0) (HasWritten offset o seat s0 g0) (λ m s g. Follows s0 m s) (λ out s g. Ended s0 s)
        (λ m s g f stands follows found. follow_frames s0 offset o seat g0 may m s g f stands found follows) (whole offset o seat s0 g0 may));
    lowers = write_lowers;
  }

  pub loses_few_from_begin : LosesFewFromBegin
  loses_few_from_begin offset = promised write_script (write_of (At offset)) (from_law offset)
