use Rattle.std.proofs.Common.{ℕ, List, ap, ◌∙◌}
use Rattle.std.proofs.lemmas.List.{take-replicate}
use Rattle.read_validate.specs.Ranges.{with_laid}
use Rattle.read_validate.proofs.range.lay_few.Goals as goal

pub returns : goal.returns
returns c = c.lay_bytes.ensures ∙ ap (λ (l : List ℕ). with_laid l c.args.seat.now) (take-replicate c.args.count 64 0 c.requires.few)
