use Rattle.std.proofs.Common.{ℕ, List}
use Rattle.log_image.specs.Entries.{Meaning}
use Rattle.log_image.specs.Image.{shape_by}
use Rattle.recovery.specs.Slots.{HasEntries}
use Rattle.recovery.proofs.SnapshotLemmas.{SnapshotTo}
use Rattle.recovery.proofs.slots.read_snapshot_slots.Given as goal

abbrev pub invariant-loop-i : goal.invariant-loop-i
invariant-loop-i l = (chain : List ℕ) (size : ℕ) (entries : List Meaning) → HasEntries (shape_by l.geometry) l.fn.table l.fn.taken chain size entries →
    SnapshotTo (shape_by l.geometry) l.block chain size entries l.count l.slots l.table l.taken l.i
