use Rattle.std.proofs.Common.{◌≡◌, ◌==◌, ◌∙◌, ap, ℕ, sym}
use Rattle.opening_rules.specs.BlockChecks.{is_first}
use Rattle.log_image.specs.Image.{shape_by}
use Rattle.recovery.proofs.BlockLemmas.{first_by, second_found, third_found}
use Rattle.recovery.proofs.blocks.check_words.Goals as goal

pub returns-then-is_bad_second : goal.returns-then-is_bad_second
returns-then-is_bad_second c = λ place agrees.
    let begins : is_first place.before ≡ c.is_empty-first.result = sym (c.is_empty-first.ensures ∙ ap (λ (n : ℕ). n == 0) c.args.reading.now.chain.ok.0 ∙ first_by c.args.reading.now.chain.items ∙ ap is_first agrees.chain) in
    second_found (shape_by c.args.geometry) place c.args.block c.args.own.now (sym (c.is_bad_second.ensures place (sym agrees.in_logs) begins (sym agrees.position)) ∙ c.if-is_bad_second.true)

pub returns-then-is_bad_third : goal.returns-then-is_bad_third
returns-then-is_bad_third c = λ place agrees.
    let begins : is_first place.before ≡ c.is_empty-first.result = sym (c.is_empty-first.ensures ∙ ap (λ (n : ℕ). n == 0) c.args.reading.now.chain.ok.0 ∙ first_by c.args.reading.now.chain.items ∙ ap is_first agrees.chain) in
    third_found (shape_by c.args.geometry) place c.args.block c.args.own.now (sym (c.is_bad_second.ensures place (sym agrees.in_logs) begins (sym agrees.position)) ∙ c.if-is_bad_second.false)
    (sym (c.is_bad_third.ensures place begins (sym (c.size.ensures ∙ agrees.size))) ∙ c.if-is_bad_third.true)

pub returns : goal.returns
returns c = λ place agrees.
    let begins : is_first place.before ≡ c.is_empty-first.result = sym (c.is_empty-first.ensures ∙ ap (λ (n : ℕ). n == 0) c.args.reading.now.chain.ok.0 ∙ first_by c.args.reading.now.chain.items ∙ ap is_first agrees.chain) in (
      sym (c.is_bad_second.ensures place (sym agrees.in_logs) begins (sym agrees.position)) ∙ c.if-is_bad_second.false,
      sym (c.is_bad_third.ensures place begins (sym (c.size.ensures ∙ agrees.size))) ∙ c.if-is_bad_third.false,
    )
