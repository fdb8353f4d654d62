use Rattle.std.proofs.Common.{ℕ, ◌*◌, ap, arith, sym, ◌∙◌}
use Rattle.pmem_words.specs.Runs.{is_in_runs}
use Rattle.pmem_words.proofs.LeavingLemmas.{many_left}
use Rattle.pmem_words.proofs.owned.OwnedBlocks.disown_runs.Goals as goal

pub invariant_of-self : goal.invariant_of-self
invariant_of-self c = (
  omega arith,
  omega arith,
  rw (c.keep_contents_outside.new.contents.ok.0, c.keep_blocks_outside.new.blocks.ok.0, c.keep_contents_outside.ensures.items, c.as_slice.ensures.value, c.keep_blocks_outside.ensures.items)
      (many_left c.self.inside.block_words (is_in_runs c.args.first c.args.count c.args.runs.now) c.self.inside.blocks.items c.self.inside.contents.items
      (sym c.self.inside.contents.ok.0 ∙ c.self.invariant.2 ∙ ap (λ (n : ℕ). n * c.self.inside.block_words) c.self.inside.blocks.ok.0)),
)
