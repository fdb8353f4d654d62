use Rattle.std.proofs.Common.{ℕ, List, ◌≡◌, ◌∙◌, ap, length, arith}
use Rattle.std.proofs.lemmas.Grind.{common_steps}
use Rattle.log_entry.proofs.WordBytesLemmas.{eight_each, word_bytes-next}
use Rattle.log_entry.specs.WordBytes.{word_bytes}
use Rattle.log_entry.proofs.word_bytes.to_bytes.Goals as goal

pub loop-word-preserved : goal.loop-word-preserved
loop-word-preserved c = rw (word_bytes-next c.args.words.now c.loop-word.word-index c.loop-word-test.true) (grind (arith, common_steps))

pub returns-clause-eight_each : goal.returns-clause-eight_each
returns-clause-eight_each c =
    let value : c.loop-word.bytes.items ≡ word_bytes c.args.words.now = grind (arith, common_steps) in
    ap (λ (bytes : List ℕ). length bytes) value ∙ eight_each c.args.words.now
