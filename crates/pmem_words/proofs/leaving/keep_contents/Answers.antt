use Rattle.std.proofs.Common.{sym, ◌∙◌, arith}
use Rattle.pmem_words.specs.Owned.{is_among}
use Rattle.pmem_words.proofs.LeavingLemmas.{gone, stays, higher}
use Rattle.pmem_words.proofs.leaving.keep_contents.Goals as goal
use Rattle.pmem_words.proofs.leaving.keep_contents.Goals.{then-not-is_in_word, else-not-is_in_word}

pub loop-place-preserved : goal.loop-place-preserved
loop-place-preserved c = let i = c.loop-place.invariant in elim c.if-not-is_in_word.branch [
  | then-not-is_in_word w ↦ rw (w.contents-is, w.to-is) (record {
    low = higher c.args.block_words c.loop-place.place c.loop-place.to i.low;
    many = w.copy_within.ensures.len ∙ i.many;
    room = omega (arith, i.room, w.copy_within.ensures.capacity);
    kept = rw w.copy_within.ensures.items (sym (stays c.args.block_words (is_among c.args.word c.args.bits) c.args.blocks.now c.loop-place.place c.loop-place-test.true c.loop-place.contents.items c.loop-place.to (sym c.is_in_word.ensures ∙ w.if-not-is_in_word.true) i.low (sym c.loop-place.contents.ok.0 ∙ i.many)) ∙ i.kept);
  })
  | else-not-is_in_word w ↦ rw (w.contents-is, w.to-is) (record {
    low = omega (arith, i.low, higher c.args.block_words c.loop-place.place c.loop-place.to i.low);
    many = i.many;
    room = i.room;
    kept = sym (gone c.args.block_words (is_among c.args.word c.args.bits) c.args.blocks.now c.loop-place.place c.loop-place-test.true c.loop-place.contents.items c.loop-place.to (sym c.is_in_word.ensures ∙ w.if-not-is_in_word.false)) ∙ i.kept;
  })
]
