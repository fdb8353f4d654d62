use Rattle.std.proofs.Common.{◌≡◌, ◌∷◌, arith, drop, drop-cons, get_or, suc}
use Rattle.std.proofs.lemmas.Result.{err_from_is_err_and}
use Rattle.std.proofs.Math.ListN.{drop_of_length-le}
use Rattle.recovery.proofs.SnapshotLemmas.{snapshot_more, snapshot_refused, snapshot_read}
use Rattle.recovery.proofs.slots.read_snapshot_slots.Goals as goal

pub returns-in_err-read_snapshot_slot : goal.returns-in_err-read_snapshot_slot
returns-in_err-read_snapshot_slot c = λ chain size entries has.
    let far = c.loop-i.invariant chain size entries has in
    let front : drop c.loop-i.i c.args.slots.now ≡ get_or c.args.slots.now c.loop-i.i 0 ∷ drop (suc c.loop-i.i) c.args.slots.now =
    drop-cons c.args.slots.now c.loop-i.i 0 c.loop-i-test.true in
    let p = err_from_is_err_and c.from_residual.result c.from_residual.ensures.1 in
    rw (p.1, p.2) (snapshot_refused _ _ _ _ _ _ _ _ _ _ far _ c.in_err-read_snapshot_slot.field-0.0 front (c.in_err-read_snapshot_slot.ensures chain size far.now far.has))

pub loop-i-preserved : goal.loop-i-preserved
loop-i-preserved c = λ chain size entries has.
    let far = c.loop-i.invariant chain size entries has in
    let front : drop c.loop-i.i c.args.slots.now ≡ get_or c.args.slots.now c.loop-i.i 0 ∷ drop (suc c.loop-i.i) c.args.slots.now =
    drop-cons c.args.slots.now c.loop-i.i 0 c.loop-i-test.true in
    snapshot_more _ _ _ _ _ _ _ _ _ _ far _ _ _ front (c.in_ok-read_snapshot_slot.ensures chain size far.now far.has)

pub returns : goal.returns
returns c = λ chain size entries has.
    let far = c.loop-i.invariant chain size entries has in
    snapshot_read _ _ _ _ _ _ _ _ _ _ far (drop_of_length-le c.args.slots.now (omega arith))
