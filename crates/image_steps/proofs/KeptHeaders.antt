-- The shape and the generation of words whose first four are those of others, and of which there are as many.
use Rattle.std.proofs.Common.{ℕ, List, ap, arith}
use Rattle.log_entry.specs.Fields.{field}
use Rattle.log_entry.specs.declared.layouts.TheConstants.{HEAD_GENERATION}
use Rattle.log_image.specs.SameWords.{SameHeader}
use Rattle.log_image.proofs.HeaderSteps.{header_shape}
use Rattle.image_steps.specs.Steps.{KeepsHeader}

pub keeps_header : (old new : List ℕ) → SameHeader old new → KeepsHeader old new
keeps_header old new same = record {
  same_shape = header_shape old new same;
  same_generation = ap (λ (w : ℕ). field HEAD_GENERATION w) (same.each 3 (omega arith));
}
