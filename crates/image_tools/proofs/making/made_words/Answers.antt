use Rattle.std.proofs.Common.{◌≡◌, ◌<◌, ◌≤◌, ◌+◌, ◌*◌, ℕ, List, set, sym, ap, ◌∙◌, subst, arith}
use Rattle.log_image.specs.Image.{total, words_in, shape_by}
use Rattle.log_image.specs.JustMade.{first_log, IsJustMade}
use Rattle.log_image.specs.declared.header.TheConstants.{MAGIC}
use Rattle.image_tools.proofs.MadeLemmas.{is_made, log_inside}
use Rattle.image_tools.proofs.making.made_words.Goals as goal

pub returns : goal.returns
returns c =
    let count : ℕ = c.total.result * c.q.result in
    let at : ℕ = c.first-log.result * c.q-2.result + 1 in
    let whole : c.total.result * c.q.result ≡ total (shape_by c.args.geometry) * words_in (shape_by c.args.geometry) = ap (λ (n : ℕ). n * c.q.result) c.total.ensures.value ∙ ap (λ (n : ℕ). total (shape_by c.args.geometry) * n) c.q.ensures in
    let place : c.first-log.result * c.q-2.result + 1 ≡ first_log (shape_by c.args.geometry) * words_in (shape_by c.args.geometry) + 1 =
    ap (λ (n : ℕ). n * c.q-2.result + 1) c.first-log.ensures ∙ ap (λ (n : ℕ). first_log (shape_by c.args.geometry) * n + 1) c.q-2.ensures in
    subst (λ (l : List ℕ). IsJustMade (shape_by c.args.geometry) (set (set (set (set (set l at c.encode.result) 3 c.encode-2.result) 2 (c.with.result + c.with-2.result)) 1 (c.with-3.result + c.with-4.result)) 0 MAGIC)) (sym c.in_ok-words.ensures)
    (is_made (shape_by c.args.geometry) count at c.encode.result c.encode-2.result (c.with.result + c.with-2.result) (c.with-3.result + c.with-4.result)
    whole place
    (subst (λ (n : ℕ). n < count) (sym place) (subst (λ (n : ℕ). first_log (shape_by c.args.geometry) * words_in (shape_by c.args.geometry) + 1 < n) (sym whole) (log_inside c.args.geometry).0))
    (subst (λ (n : ℕ). 4 ≤ n) (sym whole) (log_inside c.args.geometry).1)
    (sym c.encode.ensures.same)
    (sym c.encode-2.ensures.same ∙ omega (arith, c.first-log.ensures))
    (omega (arith, c.with.ensures, c.with-2.ensures, c.from.ensures, c.from-2.ensures, c.count.ensures, c.count-2.ensures))
    (omega (arith, c.with-3.ensures, c.with-4.ensures, c.power_of.ensures)))
