use Rattle.std.proofs.Common.{ℕ, List, [], ◌∷◌, ◌++◌, ◌≡◌, ◌∙◌, ap, sym, ◌+◌, ◌*◌, ◌<◌, ◌≤◌, ◌^◌, length, get_or, arith}
use Rattle.std.proofs.lemmas.Grind.{common_steps}
use Rattle.log_entry.proofs.WordBytesLemmas.{eight_each, words_back, bytes-next, fit-more}
use Rattle.log_entry.specs.WordBytes.{word_bytes}
use Rattle.log_entry.proofs.word_bytes.of_bytes.Goals as goal

pub loop-index-preserved : goal.loop-index-preserved
loop-index-preserved c =
    let loop = c.loop-index in
    let word = c.read_u64.result in
    let more : c.push.new.self.items ≡ loop.words.items ++ (word ∷ []) = c.in_ok-push.ensures.items in
    let inside : 8 * loop.index + 8 ≤ length c.args.bytes.now = omega arith in
    let small : (k : ℕ) → get_or c.args.bytes.now k 0 < 256 = λ k. omega (arith, c.type_inv.bytes k) in
    let below : word < 2 ^ 64 = omega (arith, c.read_u64.type_inv) in
    record {
      read = rw more (bytes-next loop.words.items c.args.bytes.now loop.index word inside small loop.invariant.read (grind (arith, common_steps, c.read_u64.ensures)));
      fit = rw more (fit-more loop.words.items word loop.invariant.fit below);
    }

pub returns-clause-each : goal.returns-clause-each
returns-clause-each c = λ other fits same. words_back _ other c.loop-index.invariant.fit fits (grind (arith, common_steps, same))

pub returns-clause-eight_each : goal.returns-clause-eight_each
returns-clause-eight_each c =
    let whole : word_bytes c.loop-index.words.items ≡ c.args.bytes.now = grind (arith, common_steps) in
    sym (eight_each c.loop-index.words.items) ∙ ap (λ (bytes : List ℕ). length bytes) whole
