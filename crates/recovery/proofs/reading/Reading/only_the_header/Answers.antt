-- The first word has the lowest bit alone, and the others none.
use Rattle.std.proofs.Common.{◌≡◌, ◌≤◌, ◌*◌, length, arith}
use Rattle.log_image.specs.Image.{total, shape_by}
use Rattle.recovery.proofs.HeaderBits.{only_header}
use Rattle.recovery.proofs.reading.Reading.only_the_header.Goals as goal

pub returns : goal.returns
returns c =
    let count : length c.in_ok-taken.taken.items ≡ c.div_ceil.result = c.in_ok-taken.ensures.len in
    let room : total (shape_by c.args.geometry) ≤ 64 * length c.in_ok-taken.taken.items = omega (arith, count, c.div_ceil.ensures, c.total.ensures.value) in
    only_header (shape_by c.args.geometry) c.in_ok-taken.taken.items c.in_ok-taken.ensures.words room (omega (arith, room))
