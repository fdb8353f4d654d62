use Rattle.std.proofs.Common.{◌∙◌}
use Rattle.asks.specs.Asks.{place, becomes}
use Rattle.persistence.specs.Memory.{found}
use Rattle.persistence.proofs.FenceLaws.{words_stay}
use Rattle.drive_bench.proofs.cells.turn.Goals as goal

pub returns-clause-words : goal.returns-clause-words
returns-clause-words c =
    rw c.perform.ensures.cells
    (words_stay c.args.cells.now.memory.now (place 0 c.drawn_ask.result) (becomes c.drawn_ask.result (found c.args.cells.now.memory c.drawn_ask.result)) ∙ c.requires.words)
