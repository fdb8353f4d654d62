use Rattle.std.proofs.Common.{length, sym, ap, ◌∙◌, arith}
use Rattle.std.specs.Prelude.{bit_or}
use Rattle.pmem_words.specs.Scripts.{After}
use Rattle.block_bitmap.specs.declared.take.Take.{Take}
use Rattle.block_bitmap.specs.declared.take.Taken.{Taken}
use Rattle.block_bitmap.specs.TakeScript.{less}
use Rattle.block_bitmap.proofs.TakeSteps.{few_gained, gained_is, told_all, told_some, settled_seat}
use Rattle.block_bitmap.proofs.take.TakeMachine.tell.Goals as goal

pub own_blocks-gained-requires-clause-room : goal.own_blocks-gained-requires-clause-room
own_blocks-gained-requires-clause-room c =
    (let few = few_gained c.args.self.now c.args.seat.now c.in-Some.known c.args.answer in
    let gained = ap length (gained_is c.args.self.now c.args.seat.now c.in-Some.known c.word-word.result c.wanted-bits.result c.args.answer c.word-word.ensures c.wanted-bits.ensures c.ranges.answer.fits) in
    let room = c.requires.room in omega (arith, few, gained, room))

pub overflow_sub-self : goal.overflow_sub-self
overflow_sub-self c =
    (let few = few_gained c.args.self.now c.args.seat.now c.in-Some.known c.args.answer in
    let gained = ap length (gained_is c.args.self.now c.args.seat.now c.in-Some.known c.word-word.result c.wanted-bits.result c.args.answer c.word-word.ensures c.wanted-bits.ensures c.ranges.answer.fits) in
    let count = c.own_blocks-gained.ensures.count in omega (arith, few, gained, count))

pub returns-then-self-eq0-clause-machine : goal.returns-then-self-eq0-clause-machine
returns-then-self-eq0-clause-machine c =
    ap (λ (a : After Take Taken). a.machine) (told_all c.args.self.now c.args.seat.now c.own_blocks-gained.new.seat c.add_found-in-Some.new.self c.in-Some.known c.word-word.result c.wanted-bits.result c.args.answer c.own_blocks-gained.result c.word-word.ensures c.wanted-bits.ensures c.ranges.answer.fits c.in-Some.is c.own_blocks-gained.ensures.seat c.add_found-in-Some.ensures c.own_blocks-gained.ensures.count c.if-self-eq0.true)

pub returns-then-self-eq0-clause-seat : goal.returns-then-self-eq0-clause-seat
returns-then-self-eq0-clause-seat c =
    ap (λ (a : After Take Taken). a.seat) (told_all c.args.self.now c.args.seat.now c.own_blocks-gained.new.seat c.add_found-in-Some.new.self c.in-Some.known c.word-word.result c.wanted-bits.result c.args.answer c.own_blocks-gained.result c.word-word.ensures c.wanted-bits.ensures c.ranges.answer.fits c.in-Some.is c.own_blocks-gained.ensures.seat c.add_found-in-Some.ensures c.own_blocks-gained.ensures.count c.if-self-eq0.true)

pub returns-then-self-eq0-clause-turn : goal.returns-then-self-eq0-clause-turn
returns-then-self-eq0-clause-turn c =
    ap (λ (a : After Take Taken). a.turn) (told_all c.args.self.now c.args.seat.now c.own_blocks-gained.new.seat c.add_found-in-Some.new.self c.in-Some.known c.word-word.result c.wanted-bits.result c.args.answer c.own_blocks-gained.result c.word-word.ensures c.wanted-bits.ensures c.ranges.answer.fits c.in-Some.is c.own_blocks-gained.ensures.seat c.add_found-in-Some.ensures c.own_blocks-gained.ensures.count c.if-self-eq0.true)

pub returns-else-self-eq0-clause-machine : goal.returns-else-self-eq0-clause-machine
returns-else-self-eq0-clause-machine c =
    c.settle-else-self-eq0.ensures.machine ∙ ap (λ (a : After Take Taken). a.machine) (told_some c.args.self.now c.args.seat.now c.own_blocks-gained.new.seat c.add_found-in-Some.new.self c.in-Some.known c.word-word.result c.wanted-bits.result c.args.answer c.own_blocks-gained.result c.word-word.ensures c.wanted-bits.ensures c.ranges.answer.fits c.in-Some.is c.own_blocks-gained.ensures.seat c.add_found-in-Some.ensures c.own_blocks-gained.ensures.count c.if-self-eq0.false)

pub returns-else-self-eq0-clause-seat : goal.returns-else-self-eq0-clause-seat
returns-else-self-eq0-clause-seat c =
    sym (settled_seat (less c.args.self.now c.own_blocks-gained.result) c.add_found-in-Some.new.self (bit_or c.in-Some.known (bit_or c.args.answer c.wanted-bits.result)))
    ∙ ap (λ (a : After Take Taken). a.seat) (told_some c.args.self.now c.args.seat.now c.own_blocks-gained.new.seat c.add_found-in-Some.new.self c.in-Some.known c.word-word.result c.wanted-bits.result c.args.answer c.own_blocks-gained.result c.word-word.ensures c.wanted-bits.ensures c.ranges.answer.fits c.in-Some.is c.own_blocks-gained.ensures.seat c.add_found-in-Some.ensures c.own_blocks-gained.ensures.count c.if-self-eq0.false)

pub returns-else-self-eq0-clause-turn : goal.returns-else-self-eq0-clause-turn
returns-else-self-eq0-clause-turn c =
    c.settle-else-self-eq0.ensures.turn ∙ ap (λ (a : After Take Taken). a.turn) (told_some c.args.self.now c.args.seat.now c.own_blocks-gained.new.seat c.add_found-in-Some.new.self c.in-Some.known c.word-word.result c.wanted-bits.result c.args.answer c.own_blocks-gained.result c.word-word.ensures c.wanted-bits.ensures c.ranges.answer.fits c.in-Some.is c.own_blocks-gained.ensures.seat c.add_found-in-Some.ensures c.own_blocks-gained.ensures.count c.if-self-eq0.false)
