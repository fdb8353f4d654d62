-- The blocks that a seat owns in a core are of the image, and few.
use Rattle.std.proofs.Common.{◌≡◌, ◌<◌, ◌≤◌, ℕ, true, length, sym, ◌∙◌, arith}
use Rattle.std.proofs.lemmas.List.{length-map}
use Rattle.log_image.specs.Image.{total}
use Rattle.pmem_words.specs.declared.owned.OwnedBlock.{OwnedBlock}
use Rattle.pmem_words.specs.Seats.{Seat}
use Rattle.log_image.specs.Chains.{is_listed}
use Rattle.log_core.specs.Views.{Ghost}
use Rattle.log_core.specs.Origin.{Origin, shape, OwnedBy, Free}
use Rattle.log_core.specs.Cores.{Core}
use Rattle.log_core.specs.Needs.{owned_numbers}
use Rattle.log_core.specs.Invariant.{Invariant}
use Rattle.log_core.specs.Knows.{Knows}
use Rattle.log_core.proofs.FewBlocks.{few_different}

module _ (o : Origin) (seat : ℕ) (c : Core) (s : Seat) (g : Ghost) (pin began : ℕ) (inv : Invariant o c) (knows : Knows o c seat s g pin began) where
  pub low_block : (b : ℕ) → is_listed (owned_numbers s.blocks.owned) b ≡ true → b < total (shape o)
  low_block b mine = inv.owners.bits.inside b (λ free. (let both : OwnedBy seat ≡ Free = sym (knows.owns.owned.listed b mine) ∙ free in cc))

  pub few_owned : length s.blocks.owned ≤ 65535
  few_owned =
      (let few = few_different (total (shape o)) (owned_numbers s.blocks.owned) knows.owns.owned.once low_block in
      let long = length-map s.blocks.owned (λ (x : OwnedBlock). x.block) in
      let most = o.geometry.few_blocks in
      omega (arith, few, long, most))
