use Rattle.std.proofs.Common.{◌++◌, sym, ◌∙◌}
use Rattle.recovery.proofs.NamesLemmas.{data_below, bit_says, one_shared, one_named}
use Rattle.recovery.proofs.shares.take_block.Goals as goal

pub returns-then-is_set : goal.returns-then-is_set
returns-then-is_set c = λ shape chain named good has.
    one_shared named c.args.block (sym (bit_says shape c.args.taken.now chain named c.args.block good has) ∙ sym c.is_set.ensures ∙ c.if-is_set.true)

pub returns : goal.returns
returns c = λ shape chain named good has.
    one_named shape c.args.taken.now c.set.new.taken chain named c.args.block good has
    (sym (bit_says shape c.args.taken.now chain named c.args.block good has) ∙ sym c.is_set.ensures ∙ c.if-is_set.false)
    (c.set.ensures shape (chain ++ named) (data_below shape c.args.block good).1 has.bits)
