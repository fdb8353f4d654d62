use Rattle.std.proofs.Common.{◌≡◌, ◌<◌, length, refl, arith}
use Rattle.std.proofs.lemmas.List.{get_or_read}
use Rattle.trace_reader.specs.Lines.{fields_of}
use Rattle.trace_reader.proofs.CallLemmas.{call_readable}
use Rattle.trace_reader.proofs.TraceLemmas.{so_far_next, so_far_small}
use Rattle.trace_reader.proofs.reading.read_trace.Goals as goal

pub index-requires : goal.index-requires
index-requires c =
    let below = (call_readable c.args.seats c.lines.next (fields_of c.split_line.result.0.now) c.in-Some.call (rw c.in-Some.is at c.in_ok-found.ensures.call)).0 in
    let long : length c.lines.counts.items ≡ c.args.seats = c.lines.invariant.seated in
    omega (arith, c.from-seat.ensures)

pub overflow_add-number : goal.overflow_add-number
overflow_add-number c =
    let seat = (call_readable c.args.seats c.lines.next (fields_of c.split_line.result.0.now) c.in-Some.call (rw c.in-Some.is at c.in_ok-found.ensures.call)).0 in
    let below : c.from-seat.result < c.args.seats = omega (arith, c.from-seat.ensures) in
    let long : length c.lines.counts.items ≡ c.args.seats = c.lines.invariant.seated in
    let small = so_far_small c.args.seats c.args.bytes.now c.lines.jobs.items c.lines.counts.items c.lines.total c.lines.next c.lines.rest.now c.from-seat.result c.lines.invariant below in
    let read = get_or_read c.lines.counts.items c.from-seat.result c.index.result.now (omega arith) c.index.ensures 0 in
    omega arith

pub index_mut-requires : goal.index_mut-requires
index_mut-requires c =
    let below = (call_readable c.args.seats c.lines.next (fields_of c.split_line.result.0.now) c.in-Some.call (rw c.in-Some.is at c.in_ok-found.ensures.call)).0 in
    let long : length c.lines.counts.items ≡ c.args.seats = c.lines.invariant.seated in
    omega (arith, c.from-seat.ensures)

pub lines-preserved : goal.lines-preserved
lines-preserved c =
    so_far_next c.args.seats c.args.bytes.now c.lines.jobs.items c.lines.counts.items c.lines.total c.lines.next c.lines.rest.now c.split_line.result.0.now c.split_line.result.1.now c.in-Some.call c.push.new.self.items c.from-seat.result c.index.result.now c.length_of-length.result _
    c.lines.invariant c.split_line.ensures.lines c.split_line.ensures.shorter (rw c.in-Some.is at c.in_ok-found.ensures.call) c.from-seat.ensures c.index.ensures c.length_of-length.ensures c.if-total-length-gt-MAX_READS.false refl c.in-Ok.ensures.items
