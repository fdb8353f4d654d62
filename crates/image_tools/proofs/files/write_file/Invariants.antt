use Rattle.std.proofs.Common.{◌≡◌, ◌≤◌, ◌++◌, ℕ, List}
use Rattle.io_ends.specs.Faults.{Stays}
use Rattle.io_ends.specs.Giving.{Gives}
use Rattle.log_image.specs.Image.{shape_by}
use Rattle.image_tools.proofs.FileLemmas.{AreLaid}
use Rattle.image_tools.proofs.files.write_file.Given as goal

abbrev pub invariant-loop-virt : goal.invariant-loop-virt
invariant-loop-virt g l = ((given : List ℕ) × AreLaid l.words (shape_by l.geometry) l.read.table l.size l.virt (given ++ l.piece.items) × Gives (g.K.Sink.written l.initial.sink) (g.K.Sink.written l.sink) given)
    × (g.K.Sink.faults l.initial.sink ≤ g.K.Sink.faults l.sink) × Stays g.K.Sink.exact (g.K.Sink.faults l.initial.sink) (g.K.Sink.faults l.sink)
