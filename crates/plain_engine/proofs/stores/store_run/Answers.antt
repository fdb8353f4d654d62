use Rattle.std.proofs.Common.{arith, ap, ◌∙◌, ◌*◌, ◌+◌, ℕ}
use Rattle.block_table.specs.FileMap.{block_at}
use Rattle.log_image.specs.Image.{shape_by}
use Rattle.plain_engine.proofs.StoreLemmas.{RunTo, source_by, run_by, eight_words}
use Rattle.plain_engine.proofs.stores.store_run.Goals as goal

pub store_block-requires-clause-source : goal.store_block-requires-clause-source
store_block-requires-clause-source c =
    source_by (shape_by c.args.geometry) c.loop-k.words (block_at c.args.table.now) (c.args.run.virt + c.loop-k.k) c.args.run.block c.loop-k.k c.args.run.count c.q-count.result c.first_word-source.result
    (c.loop-k.auto.words ∙ c.requires.whole) (omega arith) (record { each = c.requires.apart }) c.q-count.ensures c.first_word-source.ensures

pub loop-k-preserved : goal.loop-k-preserved
loop-k-preserved c =
    let done : RunTo (shape_by c.args.geometry) c.args.words.now c.store_block.new.words (block_at c.args.table.now) c.args.run.virt c.args.run.block (c.loop-k.k + 1) c.args.offset c.args.bytes.now =
    run_by (shape_by c.args.geometry) c.args.words.now c.loop-k.words c.store_block.new.words (block_at c.args.table.now) c.args.run.virt c.args.run.block c.loop-k.k c.args.run.count c.args.offset c.args.bytes.now
    c.q-count.result (c.from.result * c.from-in-loop-k.result) c.first_word-source.result (eight_words c.args.geometry.block_bytes c.args.geometry.block_allowed) c.requires.whole c.loop-k.auto.words c.store_block.auto.words
    c.requires.in_image (omega arith) (record { each = c.requires.apart }) (record { others = c.loop-k.invariant.others; stored = c.loop-k.invariant.stored })
    c.q-count.ensures c.first_word-source.ensures (ap (λ (n : ℕ). n * c.from-in-loop-k.result) c.from.ensures ∙ ap (λ (n : ℕ). (c.args.run.virt + c.loop-k.k) * n) (c.from-in-loop-k.ensures ∙ c.block_bytes.ensures.value))
    c.store_block.ensures.stored c.store_block.ensures.others in
    record { others = done.others; stored = done.stored }
