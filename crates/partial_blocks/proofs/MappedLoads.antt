-- The block that the map of a seat at its tail gives a virtual block is named by the pinned generation.
use Rattle.std.proofs.Common.{◌≡◌, ◌≤◌, ◌==◌, ℕ, Bool, true, false, Some, refl, sym, ◌∙◌, arith}
use Rattle.std.proofs.lemmas.Bool.{eqb-true, eqb-false}
use Rattle.log_image.specs.Image.{words_in}
use Rattle.pmem_words.specs.Maps.{map_at}
use Rattle.pmem_words.specs.Seats.{Seat}
use Rattle.log_core.specs.Views.{Ghost}
use Rattle.log_core.specs.Origin.{Origin, shape, Generation}
use Rattle.log_core.specs.Files.{entries}
use Rattle.log_core.specs.Cores.{chain_names, data_names}
use Rattle.log_core.specs.Order.{nth_generation}
use Rattle.log_core.specs.Walks.{HasWalked, WalkHolds}
use Rattle.log_core.specs.Invariant.{around}
use Rattle.log_core.proofs.PinnedChains.{place, kept}
use Rattle.log_core.proofs.TailEnds.{walked}
use Rattle.log_core.proofs.MappedBlocks.{mapped_named}
use Rattle.log_core.proofs.clauses.Apart.{has_right}
use Rattle.log_blocks.proofs.Loading.{NamesAlways}

module _ (o : Origin) (seat : ℕ) (s : Seat) (g : Ghost) (valid : s.hold.valid ≡ true) (ready : s.walk.ready ≡ true) (virt block : ℕ) (is : map_at s.walk.map virt ≡ Some block) where
  pub mapped_always : (slot : ℕ) → NamesAlways o seat s g block slot
  mapped_always slot c pin began inv unspent f =
      has_right (chain_names c.logs pinned) (data_names o (entries o c.history) pinned) block
      (mapped_named o c inv (place o c seat s g pin began inv f valid) (kept o c seat s g pin began inv f valid) s.walk.position virt block base_low (sym (here.table virt) ∙ is))
    where
      pinned : Generation
      pinned = nth_generation c.generations (place o c seat s g pin began inv f valid)

      here : HasWalked o (entries o c.history) c.logs s.walk
      here = walked o c seat s g pin began inv f unspent valid ready

      holds : WalkHolds (around o c) s.hold s.walk
      holds = f.walk unspent

      base_low : pinned.base ≤ s.walk.position
      base_low = go (s.walk.tail_slot == words_in (shape o)) refl
        where
          go : (b : Bool) → (s.walk.tail_slot == words_in (shape o)) ≡ b → pinned.base ≤ s.walk.position
          go true e = (let at = (here.at_end (eqb-true s.walk.tail_slot (words_in (shape o)) e)).1 in
              let base = holds.ready_base ready in let low = holds.ready_tail ready in omega (arith, at, base, low))
          go false e = (let at = (here.inside (eqb-false s.walk.tail_slot (words_in (shape o)) e)).0 in
              let base = holds.ready_base ready in let low = holds.ready_tail ready in omega (arith, at, base, low))
