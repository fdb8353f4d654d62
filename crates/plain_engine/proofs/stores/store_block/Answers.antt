use Rattle.plain_engine.proofs.StoreLemmas.{StoredTo, stored_more}
use Rattle.std.proofs.Common.{arith, ◌+◌, ◌*◌, set, subst, ℕ}
use Rattle.plain_engine.specs.Bytes.{IsLaid}
use Rattle.plain_engine.proofs.stores.store_block.Goals as goal

pub loop-index-preserved : goal.loop-index-preserved
loop-index-preserved c =
    let done : StoredTo c.args.words.now (set c.loop-index.words (c.args.first + c.loop-index.index) c.laid_word.result) c.args.source c.args.first (c.loop-index.index + 1) c.args.place c.args.offset c.args.bytes.now =
    stored_more c.args.words.now c.loop-index.words c.args.source c.args.first c.loop-index.index c.args.count c.args.place c.args.offset c.args.bytes.now c.laid_word.result
    c.loop-index.auto.words c.requires.room (omega arith) (record { each = c.requires.source })
    (record { stored = c.loop-index.invariant.stored; others = c.loop-index.invariant.others })
    (subst (λ (w : ℕ). IsLaid c.args.offset c.args.bytes.now (c.args.place + 8 * c.loop-index.index) w c.laid_word.result) c.word_from-word.ensures c.laid_word.ensures) in
    record { stored = done.stored; others = done.others }
