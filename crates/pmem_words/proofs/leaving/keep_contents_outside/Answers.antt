use Rattle.std.proofs.Common.{sym, ◌∙◌, arith}
use Rattle.pmem_words.specs.Runs.{is_in_runs}
use Rattle.pmem_words.proofs.LeavingLemmas.{gone, stays, higher}
use Rattle.pmem_words.proofs.leaving.keep_contents_outside.Goals as goal
use Rattle.pmem_words.proofs.leaving.keep_contents_outside.Goals.{then-not-is_in_runs, else-not-is_in_runs}

pub loop-place-preserved : goal.loop-place-preserved
loop-place-preserved c = let i = c.loop-place.invariant in elim c.if-not-is_in_runs.branch [
  | then-not-is_in_runs w ↦ rw (w.contents-is, w.to-is) (record {
    low = higher c.args.block_words c.loop-place.place c.loop-place.to i.low;
    many = w.copy_within.ensures.len ∙ i.many;
    room = omega (arith, i.room, w.copy_within.ensures.capacity);
    kept = rw w.copy_within.ensures.items (sym (stays c.args.block_words (is_in_runs c.args.first c.args.count c.args.runs.now) c.args.blocks.now c.loop-place.place c.loop-place-test.true c.loop-place.contents.items c.loop-place.to (sym c.is_in_runs.ensures ∙ w.if-not-is_in_runs.true) i.low (sym c.loop-place.contents.ok.0 ∙ i.many)) ∙ i.kept);
  })
  | else-not-is_in_runs w ↦ rw (w.contents-is, w.to-is) (record {
    low = omega (arith, i.low, higher c.args.block_words c.loop-place.place c.loop-place.to i.low);
    many = i.many;
    room = i.room;
    kept = sym (gone c.args.block_words (is_in_runs c.args.first c.args.count c.args.runs.now) c.args.blocks.now c.loop-place.place c.loop-place-test.true c.loop-place.contents.items c.loop-place.to (sym c.is_in_runs.ensures ∙ w.if-not-is_in_runs.false)) ∙ i.kept;
  })
]
