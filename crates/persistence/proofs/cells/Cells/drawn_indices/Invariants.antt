use Rattle.std.proofs.Common.{◌≡◌, ℕ, ◌<◌, ◌≤◌, length, slice_index}
use Rattle.persistence.specs.Memory.{cell}
use Rattle.persistence.specs.Choices.{generator_at, chosen_index}
use Rattle.persistence.specs.declared.survivors.Choice.TheVariants.{Drawn}
use Rattle.persistence.proofs.cells.Cells.drawn_indices.Given as goal

-- the words before this one have their drawn values, the others those at their floors
abbrev pub invariant-loop-word : goal.invariant-loop-word
invariant-loop-word l =
    (length l.indices.items ≡ length l.fn.self.memory.now.words)
    × (l.generator ≡ generator_at l.seed l.fn.self.memory l.word)
    × ((w : ℕ) → w < l.word → slice_index l.indices.items w ≡ chosen_index (Drawn l.seed) l.fn.self.memory w)
    × ((w : ℕ) → l.word ≤ w → w < length l.fn.self.memory.now.words → slice_index l.indices.items w ≡ (cell l.fn.self.memory w).floor)
