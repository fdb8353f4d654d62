-- The bytes from a place on are those of the word that has it, without the lower ones, and those of the words after it.
use Rattle.std.proofs.Common.{◌<◌, ◌^◌, ℕ, get_or, sym, ◌∙◌, arith}
use Rattle.recovery.proofs.ByteLemmas.{nonzero_first, nonzero_later, nonzero_past}
use Rattle.recovery.proofs.slacks.has_byte_from.Goals as goal

pub returns-then-whole-words : goal.returns-then-whole-words
returns-then-whole-words c = sym (nonzero_past c.args.words.now c.args.kept c.if-whole-words.true)

pub returns-then-words-whole-ne0 : goal.returns-then-words-whole-ne0
returns-then-words-whole-ne0 c =
    let small : (index : ℕ) → get_or c.args.words.now index 0 < 2 ^ 64 = λ index. omega (arith, c.type_inv.words index) in
    sym (nonzero_first c.args.words.now c.args.kept small c.if-whole-words.false c.if-words-whole-ne0.true)

pub returns-else-words-whole-ne0 : goal.returns-else-words-whole-ne0
returns-else-words-whole-ne0 c =
    let small : (index : ℕ) → get_or c.args.words.now index 0 < 2 ^ 64 = λ index. omega (arith, c.type_inv.words index) in
    c.has_word.ensures ∙ sym (nonzero_later c.args.words.now c.args.kept small c.if-whole-words.false c.if-words-whole-ne0.false)
