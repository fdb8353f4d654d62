use Rattle.std.proofs.Common.{◌++◌, take, arith, length-take}
use Rattle.io_ends.proofs.TakingLemmas.{takes-twice, length-with_taken}
use Rattle.io_ends.proofs.sources.read_all.Goals as goal

pub returns-then-count-room-clause-part : goal.returns-then-count-room-clause-part
returns-then-count-room-clause-part g c =
    let so_far = c.loop-count.invariant in
    let step = c.in-Bytes.ensures in
    let last = take c.in-Bytes.count c.read.new.into in
    let window = take c.one_more.result c.deref_mut.result.now in
    let total = length-with_taken c.loop-count.bytes.items window c.read.new.into c.in-Bytes.count step.count.1 c.read.auto.into in (
      c.loop-count.bytes.items ++ last,
      omega (arith, total, so_far.1, c.if-count-room.true, step.count.1, c.one_more.ensures.excess, c.len.ensures, c.loop-count.bytes.ok, length-take c.one_more.result c.deref_mut.result.now),
      takes-twice (g.S.Source.left c.args.source.now) (g.S.Source.left c.loop-count.source) (g.S.Source.left c.read.new.self) c.loop-count.bytes.items last so_far.2 step.bytes,
    )

pub returns-in-Err-extend_from_slice-clause-part :
    goal.returns-in-Err-extend_from_slice-clause-part
returns-in-Err-extend_from_slice-clause-part g c =
    let so_far = c.loop-count.invariant in
    let step = c.in-Bytes.ensures in
    let last = take c.in-Bytes.count c.read.new.into in
    let window = take c.one_more.result c.deref_mut.result.now in
    let total = length-with_taken c.loop-count.bytes.items window c.read.new.into c.in-Bytes.count step.count.1 c.read.auto.into in (
      c.loop-count.bytes.items ++ last,
      omega (arith, total, so_far.1, c.if-count-room.false, c.len.ensures, c.loop-count.bytes.ok),
      takes-twice (g.S.Source.left c.args.source.now) (g.S.Source.left c.loop-count.source) (g.S.Source.left c.read.new.self) c.loop-count.bytes.items last so_far.2 step.bytes,
    )
