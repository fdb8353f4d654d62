use Rattle.asks.specs.Asks.{place, becomes}
use Rattle.persistence.specs.Memory.{found}
use Rattle.persistence.proofs.FenceLaws.{words_stay}
use Rattle.persistence.proofs.tests.step.Goals as goal

pub returns-clause-words : goal.returns-clause-words
returns-clause-words c =
    rw c.perform.ensures.cells
    (words_stay c.args.cells.now.memory.now (place 0 c.args.ask) (becomes c.args.ask (found c.args.cells.now.memory c.args.ask)))
