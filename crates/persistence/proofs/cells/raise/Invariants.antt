use Rattle.std.proofs.Common.{◌≡◌, length, drop}
use Rattle.persistence.specs.Memory.{floors_raised_by}
use Rattle.persistence.proofs.cells.raise.Given as goal

-- the marks that are left, over the floors so far, come to what all marks come to over the first floors
abbrev pub invariant-loop-note : goal.invariant-loop-note
invariant-loop-note l =
    (floors_raised_by l.seat (drop l.note-index l.pending) l.floors ≡ floors_raised_by l.seat l.pending l.initial.floors) × (length l.floors ≡ length l.initial.floors)
