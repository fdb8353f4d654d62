use Rattle.std.proofs.Common.{◌∙◌, sym}
use Rattle.std.proofs.lemmas.Bool.{or_from, ne_eqb}
use Rattle.log_entry.specs.declared.layouts.TheConstants.{SEAL}
use Rattle.opening_rules.specs.SlotChecks.{is_bad_slot}
use Rattle.log_image.specs.Image.{shape_by}
use Rattle.recovery.proofs.SlotsLemmas.{slot_read}
use Rattle.recovery.proofs.slots.read_log_slot.Goals as goal

pub returns-clause-answer : goal.returns-clause-answer
returns-clause-answer c = λ chain size entries has.
    slot_read c.take_log_entry.result c.args.words.now (shape_by c.args.geometry) c.args.slot.block c.args.position c.args.after_seal c.args.slot.number c.args.slot.word c.take_log_entry.new.table c.take_log_entry.new.taken chain size entries
    (or_from c.args.after_seal (is_bad_slot c.args.words.now (shape_by c.args.geometry) c.args.position c.args.slot.number c.args.slot.word) c.if-after_seal.false (sym c.is_bad_slot.ensures ∙ c.if-is_bad_slot.false))
    (ne_eqb c.args.slot.word SEAL c.if-slot-eq-SEAL.false)
    (c.take_log_entry.ensures chain size entries has)
