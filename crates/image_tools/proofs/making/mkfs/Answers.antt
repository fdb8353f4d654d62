use Rattle.std.proofs.Common.{ℕ, subst, arith}
use Rattle.log_image.specs.Image.{total, shape_by}
use Rattle.image_tools.specs.Made.{HasBitsOf}
use Rattle.image_tools.proofs.MadeLemmas.{made_kept}
use Rattle.image_tools.proofs.making.mkfs.Goals as goal

pub new-requires : goal.new-requires
new-requires c =
    ∣ made_kept c.args.geometry c.in_ok-words.words.items c.in_ok-taken.taken.items c.in_ok-words.ensures
    (subst (λ (n : ℕ). HasBitsOf (total (shape_by c.args.geometry)) n c.in_ok-taken.taken.items) (omega arith) c.in_ok-taken.ensures) ∣₁
