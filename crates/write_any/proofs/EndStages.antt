-- The last stages of a write are lawful: it gives its pin up, and the blocks that it did not put into the log.
use Rattle.std.proofs.Common.{◌≡◌, ℕ, ◌==◌, Bool, true, false, [], length, Option, Some, None, refl, sym, ap, subst, ◌∙◌, arith}
use Rattle.std.proofs.lemmas.Bool.{eqb-true, eqb-false}
use Rattle.std.proofs.lemmas.List.{nil_from_length}
use Rattle.log_entry.specs.declared.shapes.Area.{Area}
use Rattle.log_entry.specs.declared.calls.WriteRefusal.{WriteRefusal}
use Rattle.log_entry.specs.declared.calls.WriteRefusal.TheVariants.{TooLong, TooLarge, NoSpace, PositionLimit}
use Rattle.pmem_words.specs.Seats.{Seat}
use Rattle.log_core.specs.Views.{Ghost, RunningCall}
use Rattle.log_core.specs.Origin.{Origin}
use Rattle.log_core.specs.Answers.{HasLacked}
use Rattle.log_core.specs.Within.{no_record, Lawful, FitsNext}
use Rattle.log_core.proofs.machines.Entering.{enters_same}
use Rattle.log_core.proofs.machines.MachineLaws.{HasBegun, has_begun, lawful_stage}
use Rattle.pins.specs.declared.unpin.Unpin.{Unpin}
use Rattle.pins.specs.Steps.{pin_stored}
use Rattle.pins.specs.Within.{MayPin, HasUnpinned}
use Rattle.pins.proofs.PinWithin.{unpin_law}
use Rattle.block_bitmap.specs.declared.give.Give.{Give}
use Rattle.block_bitmap.specs.declared.give.GiveFrom.TheVariants.{Owned}
use Rattle.block_bitmap.specs.Given.{emptied}
use Rattle.write_any.specs.declared.stage.Target.TheVariants.{At}
use Rattle.write_any.specs.declared.stage.Stage.TheVariants.{Unpinning, Giving}
use Rattle.write_any.specs.declared.write.Write.{Write}
use Rattle.write_any.specs.Writing.{at_stage, write_script, written, unpinned_by}
use Rattle.write_any.specs.WriteWithin.{MayWrite, HasCause, HasWritten, unwritten}
use Rattle.write_any.proofs.Embedding.{at_unpin, at_give}
use Rattle.write_any.proofs.PartLaws.{giving_law}
use Rattle.write_any.proofs.RoundFalls.{unpinning_falls, giving_falls}
use Rattle.write_any.proofs.WriteStanding.{IsEnding, IsUnpinned, WriteStands}

-- a cause stays one
cause_unpinned : (refusal : Option WriteRefusal) (s : Seat) (g : Ghost) → HasCause refusal s g → HasCause refusal (pin_stored s 0) g
cause_unpinned None s g cause = cause
cause_unpinned (Some (TooLong blocks)) s g cause = cause
cause_unpinned (Some (TooLarge end)) s g cause = cause
cause_unpinned (Some (NoSpace area)) s g cause = cause
cause_unpinned (Some PositionLimit) s g cause = cause

lacked_too : (area : Area) (g h : Ghost) → h.call ≡ g.call → HasLacked g area → HasLacked h area
lacked_too area g h same lacked = subst (λ (c : RunningCall). HasLacked (record g { call = c }) area) (sym same) lacked

cause_emptied : (refusal : Option WriteRefusal) (s : Seat) (g h : Ghost) → h.call ≡ g.call → HasCause refusal s g → HasCause refusal (emptied s) h
cause_emptied None s g h same cause = cause
cause_emptied (Some (TooLong blocks)) s g h same cause = cause
cause_emptied (Some (TooLarge end)) s g h same cause = cause
cause_emptied (Some (NoSpace area)) s g h same cause = (cause.0, cause.1, cause.2, lacked_too area g h same cause.3)
cause_emptied (Some PositionLimit) s g h same cause = cause

module _ (offset : ℕ) (o : Origin) (seat : ℕ) (s0 : Seat) (g0 : Ghost) (may : MayWrite offset o seat s0 g0) where
  abbrev Stands : Write → Seat → Ghost → Type 0
  Stands m s g = WriteStands offset o seat s0 g0 m s g

  -- a call that is no sync may store its pin word
  pub may_pin : (s : Seat) (g : Ghost) → unwritten s ≡ unwritten s0 → MayPin o seat s g
  may_pin s g rest = record {
    number = ap (λ (u : Seat). u.number) rest ∙ may.number;
    no_marks = λ sync. (let job = sym (ap (λ (u : Seat). u.calling.job) rest ∙ may.job) ∙ sync in cc);
  }

  module _ (refusal : Option WriteRefusal) where
    -- the end
    ends_so : (t : Seat) (h : Ghost) → IsUnpinned offset o seat s0 g0 refusal t h → t.blocks.owned ≡ [] → HasWritten offset o seat s0 g0 (written (At offset) refusal t) t h
    ends_so t h now none = record {
      out_is = refl;
      cause = now.ending.cause;
      unpinned = now.unpinned;
      at_tail = now.ending.at_tail;
      none_owned = none;
      none_kept = now.ending.none_kept;
      rest = now.ending.rest;
      no_marks = now.ending.no_marks;
      number = now.ending.number;
      no_head = now.ending.no_head;
    }

    unpinned_fits : (none : Bool) (t : Seat) (h : Ghost) → (length t.blocks.owned == 0) ≡ none → IsUnpinned offset o seat s0 g0 refusal t h →
        FitsNext no_record Stands (HasWritten offset o seat s0 g0) t h (unpinned_by none (At offset) refusal t)
    unpinned_fits true t h e now = (enters_same h t t refl, ends_so t h now (nil_from_length t.blocks.owned (eqb-true (length t.blocks.owned) 0 e)))
    unpinned_fits false t h e now = (
      enters_same h t t refl,
      (refl, has_begun (giving_law Owned) o seat (IsUnpinned offset o seat s0 g0 refusal) t h now (record { some = (let some = eqb-false (length t.blocks.owned) 0 e in omega (arith, some)) })),
    )

    now_unpinned : (start : Seat) (ghost : Ghost) (t : Seat) (h : Ghost) → IsEnding offset o seat s0 g0 refusal start ghost → HasUnpinned o seat start ghost tt t h → IsUnpinned offset o seat s0 g0 refusal t h
    now_unpinned start ghost t h before left =
        subst (λ (u : Seat). IsUnpinned offset o seat s0 g0 refusal u h) (sym left.left)
        (subst (λ (i : Ghost). IsUnpinned offset o seat s0 g0 refusal (pin_stored start 0) i) (sym left.ghost)
        (record {
          ending = record {
            rest = before.rest;
            cause = cause_unpinned refusal start ghost before.cause;
            at_tail = before.at_tail;
            none_kept = refl;
            few = before.few;
            no_marks = before.no_marks;
            number = before.number;
            no_head = before.no_head;
          };
          unpinned = refl;
        }))

    pub unpin_stage : (p : Unpin) (s : Seat) (g : Ghost) → HasBegun unpin_law o seat (IsEnding offset o seat s0 g0 refusal) p s g →
        Lawful o seat write_script no_record Stands (HasWritten offset o seat s0 g0) (at_stage (At offset) (Unpinning refusal p)) s g
    unpin_stage = lawful_stage o seat no_record Stands (HasWritten offset o seat s0 g0) unpin_law (IsEnding offset o seat s0 g0 refusal) (at_unpin (At offset) refusal)
        (λ p t a admits. admits.part)
        (λ p t h a at told admits. record {
          part = admits;
          joint = tt;
          falls = unpinning_falls (At offset) refusal p t a (let few = at.before.few in let same = ap (λ (u : Seat). length u.blocks.owned) at.stands.seat in omega (arith, few, same));
        })
        (λ p t h at. (refl, at))
        (λ start ghost out t h before may' left. unpinned_fits (length t.blocks.owned == 0) t h refl (now_unpinned start ghost t h before left))

    pub give_stage : (p : Give) (s : Seat) (g : Ghost) → HasBegun (giving_law Owned) o seat (IsUnpinned offset o seat s0 g0 refusal) p s g →
        Lawful o seat write_script no_record Stands (HasWritten offset o seat s0 g0) (at_stage (At offset) (Giving refusal p)) s g
    give_stage = lawful_stage o seat no_record Stands (HasWritten offset o seat s0 g0) (giving_law Owned) (IsUnpinned offset o seat s0 g0 refusal) (at_give (At offset) refusal)
        (λ p t a admits. admits.part)
        (λ p t h a at told admits. record { part = admits; joint = tt; falls = giving_falls (At offset) refusal p t a admits })
        (λ p t h at. (refl, at))
        (λ start ghost out t h before may' left. (
          enters_same h t t refl,
          subst (λ (u : Seat). HasWritten offset o seat s0 g0 (written (At offset) refusal u) u h) (sym left.0.given.seat)
              (ends_so (emptied start) h (record {
                ending = record {
                  rest = before.ending.rest;
                  cause = cause_emptied refusal start ghost h left.1.call before.ending.cause;
                  at_tail = before.ending.at_tail;
                  none_kept = before.ending.none_kept;
                  few = omega arith;
                  no_marks = left.0.marks ∙ before.ending.no_marks;
                  number = ap (λ (c : RunningCall). c.number) left.1.call ∙ before.ending.number;
                  no_head = ap (λ (c : RunningCall). c.put) left.1.call ∙ before.ending.no_head;
                };
                unpinned = before.unpinned;
              }) refl),
        ))
