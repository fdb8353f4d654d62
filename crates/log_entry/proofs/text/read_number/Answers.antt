use Rattle.std.proofs.Common.{sym, ◌∙◌, ◌+◌, ◌*◌, ◌^◌, ◌≤◌, get_or, arith}
use Rattle.std.proofs.lemmas.Grind.{common_steps}
use Rattle.std.specs.Char.{digit_value}
use Rattle.log_entry.proofs.NumberLemmas.{too_great, all_read}
use Rattle.log_entry.proofs.text.read_number.Goals as goal

pub returns-in_err-checked_mul : goal.returns-in_err-checked_mul
returns-in_err-checked_mul c =
    let loop = c.loop-digit in
    let great : 2 ^ 64 ≤ loop.value * 10 + digit_value (get_or c.args.text.now loop.digit-index 0) = omega (arith, c.in_err-checked_mul.ensures) in
    c.from_residual.ensures ∙ sym (too_great loop.value loop.digit-index c.args.text.now loop.invariant.value c.loop-digit-test.true great)

pub returns-in_err-value : goal.returns-in_err-value
returns-in_err-value c =
    let loop = c.loop-digit in
    let great : 2 ^ 64 ≤ loop.value * 10 + digit_value (get_or c.args.text.now loop.digit-index 0) = grind (arith, common_steps, c.in_err-value.ensures) in
    c.from_residual-in_err-value.ensures ∙ sym (too_great loop.value loop.digit-index c.args.text.now loop.invariant.value c.loop-digit-test.true great)

pub returns : goal.returns
returns c =
    let loop = c.loop-digit in
    all_read loop.value loop.digit-index c.args.text.now loop.invariant.value loop.invariant.digits c.loop-digit-test.false (grind (arith, common_steps)) loop.invariant.small
