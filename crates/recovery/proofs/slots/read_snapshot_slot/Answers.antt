use Rattle.std.proofs.Common.{◌∙◌, sym}
use Rattle.log_image.specs.Image.{shape_by}
use Rattle.recovery.proofs.SnapshotLemmas.{entry_read}
use Rattle.recovery.proofs.slots.read_snapshot_slot.Goals as goal

pub returns-then-is_snapshot_entry : goal.returns-then-is_snapshot_entry
returns-then-is_snapshot_entry c = λ chain size entries has.
    entry_read c.take_snapshot_entry.result (shape_by c.args.geometry) c.take_snapshot_entry.new.table c.take_snapshot_entry.new.taken chain size entries c.args.slot.block c.args.used c.args.slot.number c.args.slot.word
    c.if-used.true (sym c.is_snapshot_entry.ensures ∙ c.if-is_snapshot_entry.true) (c.take_snapshot_entry.ensures chain size entries has)
