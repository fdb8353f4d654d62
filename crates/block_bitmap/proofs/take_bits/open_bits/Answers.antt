use Rattle.std.proofs.Common.{◌+◌, arith}
use Rattle.log_entry.specs.Geometry.{count_of, first_of}
use Rattle.block_bitmap.proofs.TakeWords.{below_grows, open_is}
use Rattle.block_bitmap.proofs.take_bits.open_bits.Goals as goal

pub overflow_sub-bits : goal.overflow_sub-bits
overflow_sub-bits c =
    rw (c.bits_below.ensures, c.bits_below-2.ensures, c.first-first.ensures, c.count.ensures)
    (below_grows c.args.word (first_of c.args.geometry.now c.args.area) (first_of c.args.geometry.now c.args.area + count_of c.args.geometry.now c.args.area) (omega arith))

pub returns : goal.returns
returns c = rw (c.bits_below.ensures, c.bits_below-2.ensures, c.first-first.ensures, c.count.ensures) (open_is c.args.geometry.now c.args.area c.args.word c.args.known c.ranges.known.fits)
