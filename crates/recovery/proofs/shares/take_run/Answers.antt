use Rattle.std.proofs.Common.{◌≡◌, ℕ, arith, subst, Ok, Err}
use Rattle.std.specs.List.{range_with_len}
use Rattle.std.proofs.lemmas.Result.{err_from_is_err_and}
use Rattle.recovery.specs.Names.{TakesNames}
use Rattle.recovery.proofs.NamesLemmas.{row_more, row_shared}
use Rattle.recovery.proofs.shares.take_run.Goals as goal

pub returns-in_err-take_block : goal.returns-in_err-take_block
returns-in_err-take_block c = λ shape chain named good has.
    let p = err_from_is_err_and c.from_residual.result c.from_residual.ensures.1 in
    let found = row_more (Err c.in_err-take_block.field-0.0) shape c.args.taken.now c.loop-place.taken c.take_block.new.taken chain named c.args.first c.args.count c.loop-place.place
    c.loop-place.invariant c.loop-place-test.true good has (c.in_err-take_block.ensures shape) in
    rw (p.1, p.2) (row_shared c.in_err-take_block.field-0.0 named c.args.first c.args.count c.loop-place.place c.loop-place-test.true found)

pub loop-place-preserved : goal.loop-place-preserved
loop-place-preserved c = λ shape chain named good has.
    row_more (Ok tt) shape c.args.taken.now c.loop-place.taken c.take_block.new.taken chain named c.args.first c.args.count c.loop-place.place
    c.loop-place.invariant c.loop-place-test.true good has (c.in_ok-take_block.ensures shape)

pub returns : goal.returns
returns c = λ shape chain named good has.
    let e : c.loop-place.place ≡ c.args.count = omega arith in
    subst (λ (n : ℕ). TakesNames (Ok tt) shape c.loop-place.taken chain named (range_with_len c.args.first n)) e (c.loop-place.invariant shape chain named good has)
