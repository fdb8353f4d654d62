-- A write of whole blocks is refused exactly where the words that it begins at say so, where no other seat makes a step.
use Rattle.std.proofs.Common.{◌≡◌, ◌≢◌, ◌↔◌, ℕ, List, length, Option, Some, None, refl, sym, ap, subst, ◌∙◌}
use Rattle.log_entry.specs.Legal.{last_position}
use Rattle.log_entry.specs.declared.shapes.Area.TheVariants.{Data, Log, Spare}
use Rattle.log_entry.specs.declared.calls.WriteRefusal.{WriteRefusal}
use Rattle.log_entry.specs.declared.calls.WriteRefusal.TheVariants.{TooLong, TooLarge, NoSpace, PositionLimit}
use Rattle.log_image.specs.Header.{shape_of}
use Rattle.log_image.specs.Stands.{StandsBy}
use Rattle.log_image.specs.Tails.{tail_of}
use Rattle.asks.specs.SharedWords.{SharedWords}
use Rattle.pmem_words.specs.Courses.{over}
use Rattle.pmem_words.specs.PlainWords.{plain}
use Rattle.pmem_words.proofs.LeadsLemmas.{leads_weaker}
use Rattle.pmem_words.specs.Seats.{Seat}
use Rattle.log_core.specs.Origin.{shape}
use Rattle.log_core.specs.Files.{end_of}
use Rattle.log_core.specs.Cores.{Core, is_full}
use Rattle.log_core.specs.Alone.{IsAlone}
use Rattle.log_core.proofs.machines.OnCore.{EndsOver}
use Rattle.write_any.specs.Writing.{write_script}
use Rattle.write_any.specs.WriteAlone.{BeginsWrite}
use Rattle.write_any.specs.LackingAlone.{LacksData, LacksLog, IsRefusedExactly, LacksAlone, is_at_link}
use Rattle.write_any.proofs.AloneAnswers.{position_is}
use Rattle.write_any.proofs.AloneLeads.{HasEnded, alone_ends, holds}
use Rattle.write_any.proofs.AloneStanding.{NoLog, EndsBy}
use Rattle.write_any.proofs.OpenTail.{last_of}
use Rattle.write_any.proofs.TailOfWords.{tail_full}

module _ (offset : ℕ) (s : Seat) (p : SharedWords) (at : IsAlone (BeginsWrite offset) s p) (chain file : List ℕ) (position : ℕ) (stands : StandsBy p.words chain file position) where
  abbrev c0 : Core
  c0 = at.core

  end_is : position ≡ end_of at.origin c0.history
  end_is = position_is offset at.origin at.seat at.number s c0 c0 at.start at.linked.fits.may.whole at.reached at.reached p.words file position at.agrees.words (chain, stands)

  tail_is : is_at_link (tail_of p.words (shape_of p.words) chain) ≡ is_full (shape at.origin) (last_of c0.logs).slots
  tail_is = subst (λ (l : List ℕ). StandsBy l chain file position → is_at_link (tail_of l (shape_of l) chain) ≡ is_full (shape at.origin) (last_of c0.logs).slots) (sym at.agrees.words)
      (λ there. tail_full at.origin c0 at.start (holds offset s p at) chain there.stands.is_chain) stands

  abbrev NoDataHere : Type 0
  NoDataHere = LacksData s c0.memory.now.taken

  abbrev Nothing : Type 0
  Nothing = NoLog offset at.origin at.seat at.number s c0

  -- what is lacking is so by the words
  data_to : LacksData s p.taken → NoDataHere
  data_to lacks = subst (λ (l : List ℕ). LacksData s l) at.agrees.taken lacks

  data_from : NoDataHere → LacksData s p.taken
  data_from lacks = subst (λ (l : List ℕ). LacksData s l) (sym at.agrees.taken) lacks

  log_to : LacksLog s p.words p.taken chain → Nothing
  log_to lacks = record { full = sym tail_is ∙ lacks.at_link; none_clear = ap (λ (l : List ℕ). length (Rattle.block_bitmap.specs.TakeAlone.free_blocks s.geometry Log l)) (sym at.agrees.taken) ∙ lacks.none_clear }

  log_from : Nothing → LacksLog s p.words p.taken chain
  log_from none = record { at_link = tail_is ∙ none.full; none_clear = ap (λ (l : List ℕ). length (Rattle.block_bitmap.specs.TakeAlone.free_blocks s.geometry Log l)) at.agrees.taken ∙ none.none_clear }

  exactly : (d : Core) (refusal : Option WriteRefusal) (at_position : ℕ) → EndsBy offset at.origin at.seat at.number s c0 refusal at_position d →
      ((refusal ≡ Some PositionLimit) ↔ (position ≡ last_position))
      × ((refusal ≡ Some (NoSpace Data)) ↔ ((position ≢ last_position) × LacksData s p.taken))
      × ((refusal ≡ Some (NoSpace Log)) ↔ ((position ≢ last_position) × (LacksData s p.taken → ⊥) × LacksLog s p.words p.taken chain))
  exactly d None there x = (
    ((λ e. cc), (λ last. absurd (x.below (sym end_is ∙ last)))),
    ((λ e. cc), (λ lacks. absurd (x.data_space (data_to lacks.1)))),
    ((λ e. cc), (λ lacks. absurd (x.log_space (log_to lacks.2)))),
  )
  exactly d (Some PositionLimit) there x =
      (let last : position ≡ last_position = end_is ∙ (sym x.position_is ∙ x.cause) in (
        ((λ e. last), (λ is. refl)),
        ((λ e. cc), (λ lacks. absurd (lacks.0 last))),
        ((λ e. cc), (λ lacks. absurd (lacks.0 last))),
      ))
  exactly d (Some (NoSpace Data)) there x =
      (let below : position ≢ last_position = (λ last. x.cause.0 (x.position_is ∙ (sym end_is ∙ last))) in (
        ((λ e. cc), (λ last. absurd (below last))),
        ((λ e. (below, data_from x.cause.1)), (λ lacks. refl)),
        ((λ e. cc), (λ lacks. absurd (lacks.1 (data_from x.cause.1)))),
      ))
  exactly d (Some (NoSpace Log)) there x =
      (let below : position ≢ last_position = (λ last. x.cause.0 (x.position_is ∙ (sym end_is ∙ last))) in (
        ((λ e. cc), (λ last. absurd (below last))),
        ((λ e. cc), (λ lacks. absurd (x.cause.1 (data_to lacks.1)))),
        ((λ e. (below, (λ lacks. x.cause.1 (data_to lacks)), log_from x.cause.2)), (λ lacks. refl)),
      ))
  exactly d (Some (NoSpace Spare)) there x = absurd x.cause
  exactly d (Some (TooLong blocks)) there x = absurd x.cause
  exactly d (Some (TooLarge end)) there x = absurd x.cause

pub lacks_alone : LacksAlone
lacks_alone offset s p at = leads_weaker write_script (over write_script plain) (EndsOver (HasEnded offset s p at))
    (λ out t q. (chain file : List ℕ) (position : ℕ) → StandsBy p.words chain file position → IsRefusedExactly s p out chain position)
    (λ out t q ends chain file position stands. (let all = exactly offset s p at chain file position stands ends.core out.refusal out.position ends.ends.1.ends in
    record { limit = all.0; data_space = all.1; log_space = all.2 }))
    (alone_ends offset s p at)
