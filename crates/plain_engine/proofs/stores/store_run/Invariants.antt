use Rattle.std.proofs.Common.{◌≡◌, ℕ, ◌+◌, ◌*◌, ◌<◌, ◌≤◌, ◌⊎◌, get_or}
use Rattle.block_table.specs.FileMap.{block_at}
use Rattle.log_image.specs.Image.{block_words, block_content, shape_by}
use Rattle.plain_engine.specs.Bytes.{laid_byte, present_byte}
use Rattle.plain_engine.proofs.stores.store_run.Given as goal

abbrev pub invariant-loop-k : goal.invariant-loop-k
invariant-loop-k l = record {
  others : (block : ℕ) → (block < l.run.block) ⊎ (l.run.block + l.k ≤ block) → block_words l.words (shape_by l.geometry) block ≡ block_words l.fn.words (shape_by l.geometry) block;
  stored : (k at : ℕ) → k < l.k → at < l.geometry.block_bytes → get_or (block_content l.words (shape_by l.geometry) (l.run.block + k)) at 0
      ≡ laid_byte l.offset l.bytes ((l.run.virt + k) * l.geometry.block_bytes + at) (present_byte l.fn.words (shape_by l.geometry) (block_at l.table (l.run.virt + k)) at);
}
