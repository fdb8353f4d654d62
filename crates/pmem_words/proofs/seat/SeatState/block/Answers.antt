use Rattle.std.proofs.Common.{◌∙◌, ap, sym, arith}
use Rattle.pmem_words.specs.Seats.{Seat}
use Rattle.pmem_words.specs.Maps.{map_at}
use Rattle.pmem_words.proofs.MapLemmas.{map_at_of}
use Rattle.pmem_words.proofs.seat.SeatState.block.Goals as goal

pub returns : goal.returns
returns c =
    c.block.ensures
    ∙ (sym (map_at_of c.self.inside.table c.args.virt (omega (arith, c.ranges.virt.fits)))
    ∙ ap (λ (s : Seat). map_at s.walk.map c.args.virt) c.self.view_is)
