use Rattle.std.proofs.Common.{◌≡◌, ◌+◌, ◌-◌, ℕ, ◌∙◌, get_or, ap, sym, arith}
use Rattle.plain_engine.specs.Bytes.{byte_of}
use Rattle.plain_engine.proofs.WordLemmas.{laid_inside}
use Rattle.plain_engine.proofs.stores.laid_word.Goals as goal

pub returns-then-place-end : goal.returns-then-place-end
returns-then-place-end c = λ k inside.
    let place : c.args.place + k - c.args.offset ≡ c.args.place - c.args.offset + k = omega arith in
    c.whole_word.ensures k inside ∙ sym (laid_inside c.args.offset c.args.bytes.now (c.args.place + k) (byte_of c.args.word k) (omega arith) (omega arith) ∙ ap (λ (n : ℕ). get_or c.args.bytes.now n 0) place)
