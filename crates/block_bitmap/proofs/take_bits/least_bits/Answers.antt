use Rattle.std.proofs.Common.{◌≡◌, ℕ, sym, ap, ◌∙◌, arith, take}
use Rattle.std.specs.Prelude.{bit_or}
use Rattle.block_bitmap.specs.TakeBits.{bits_of, blocks_in}
use Rattle.block_bitmap.proofs.TakeSteps.{one_chosen, all_chosen_so, none_wanted}
use Rattle.block_bitmap.proofs.take_bits.least_bits.Goals as goal

pub loop-rest-preserved : goal.loop-rest-preserved
loop-rest-preserved c = λ word. one_chosen word c.loop-rest.least c.loop-rest.rest c.loop-rest.left (omega arith) (omega arith) (omega arith) ∙ c.loop-rest.invariant word

pub returns-else-left-ne0 : goal.returns-else-left-ne0
returns-else-left-ne0 c = λ word.
    (let none : c.loop-rest.left ≡ 0 = omega arith in
    sym (none_wanted word c.loop-rest.least c.loop-rest.rest) ∙ ap (λ (left : ℕ). bit_or c.loop-rest.least (bits_of (take left (blocks_in word c.loop-rest.rest)))) (sym none) ∙ c.loop-rest.invariant word)

pub returns-after-loop-rest : goal.returns-after-loop-rest
returns-after-loop-rest c = λ word.
    (let none : c.loop-rest.rest ≡ 0 = omega arith in
    sym (all_chosen_so word c.loop-rest.least c.loop-rest.left) ∙ ap (λ (rest : ℕ). bit_or c.loop-rest.least (bits_of (take c.loop-rest.left (blocks_in word rest)))) (sym none) ∙ c.loop-rest.invariant word)
