use Rattle.std.proofs.Common.{ℕ, ◌*◌, ap, arith, sym, ◌∙◌}
use Rattle.pmem_words.specs.Owned.{is_among}
use Rattle.pmem_words.proofs.LeavingLemmas.{many_left}
use Rattle.pmem_words.proofs.owned.OwnedBlocks.disown_in_word.Goals as goal

pub invariant_of-self : goal.invariant_of-self
invariant_of-self c = (
  omega arith,
  omega arith,
  rw (c.keep_contents.new.contents.ok.0, c.keep_blocks.new.blocks.ok.0, c.keep_contents.ensures.items, c.as_slice.ensures.value, c.keep_blocks.ensures.items)
      (many_left c.self.inside.block_words (is_among c.args.word c.args.bits) c.self.inside.blocks.items c.self.inside.contents.items
      (sym c.self.inside.contents.ok.0 ∙ c.self.invariant.2 ∙ ap (λ (n : ℕ). n * c.self.inside.block_words) c.self.inside.blocks.ok.0)),
)
