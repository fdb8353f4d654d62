use Rattle.std.proofs.Common.{sym, ap, arith}
use Rattle.pmem_words.specs.Scripts.{After}
use Rattle.block_bitmap.specs.declared.take.Take.{Take}
use Rattle.block_bitmap.specs.declared.take.Taken.{Taken}
use Rattle.block_bitmap.proofs.TakeSteps.{last_at, settled_some, settled_next, settled_last}
use Rattle.block_bitmap.proofs.take.Take.settle.Goals as goal

pub returns-then-open_bits-ne0-clause-machine : goal.returns-then-open_bits-ne0-clause-machine
returns-then-open_bits-ne0-clause-machine c =
    sym (ap (λ (a : After Take Taken). a.machine) (settled_some c.args.self.now c.args.seat.now c.args.known c.word-word.result c.open_bits.result c.geometry.result.now c.word-word.ensures c.geometry.ensures c.open_bits.ensures (omega arith) (omega arith)))

pub returns-then-open_bits-ne0-clause-turn : goal.returns-then-open_bits-ne0-clause-turn
returns-then-open_bits-ne0-clause-turn c =
    sym (ap (λ (a : After Take Taken). a.turn) (settled_some c.args.self.now c.args.seat.now c.args.known c.word-word.result c.open_bits.result c.geometry.result.now c.word-word.ensures c.geometry.ensures c.open_bits.ensures (omega arith) (omega arith)))

pub returns-then-word-last_word-clause-machine : goal.returns-then-word-last_word-clause-machine
returns-then-word-last_word-clause-machine c =
    sym (ap (λ (a : After Take Taken). a.machine) (settled_next c.args.self.now c.args.seat.now c.args.known c.word-word.result c.open_bits.result c.geometry.result.now c.word-word.ensures c.geometry.ensures c.open_bits.ensures (omega arith) (omega (arith, last_at c.args.self.now.area c.args.seat.now c.geometry-else-open_bits-ne0.result.now c.last_word.result c.geometry-else-open_bits-ne0.ensures c.last_word.ensures, c.if-word-last_word.true))))

pub returns-else-word-last_word-clause-machine : goal.returns-else-word-last_word-clause-machine
returns-else-word-last_word-clause-machine c =
    sym (ap (λ (a : After Take Taken). a.machine) (settled_last c.args.self.now c.args.seat.now c.args.known c.word-word.result c.open_bits.result c.geometry.result.now c.word-word.ensures c.geometry.ensures c.open_bits.ensures (omega arith) (omega (arith, last_at c.args.self.now.area c.args.seat.now c.geometry-else-open_bits-ne0.result.now c.last_word.result c.geometry-else-open_bits-ne0.ensures c.last_word.ensures, c.if-word-last_word.false))))

pub returns-else-word-last_word-clause-turn : goal.returns-else-word-last_word-clause-turn
returns-else-word-last_word-clause-turn c =
    sym (ap (λ (a : After Take Taken). a.turn) (settled_last c.args.self.now c.args.seat.now c.args.known c.word-word.result c.open_bits.result c.geometry.result.now c.word-word.ensures c.geometry.ensures c.open_bits.ensures (omega arith) (omega (arith, last_at c.args.self.now.area c.args.seat.now c.geometry-else-open_bits-ne0.result.now c.last_word.result c.geometry-else-open_bits-ne0.ensures c.last_word.ensures, c.if-word-last_word.false))))
