use Rattle.std.proofs.Common.{◌∙◌, ap}
use Rattle.pmem_words.specs.Seats.{Seat}
use Rattle.pmem_words.specs.Maps.{unmapped}
use Rattle.pmem_words.specs.contracts.seat.SeatState.{the_view}
use Rattle.pmem_words.proofs.MapLemmas.{unmapped_of}
use Rattle.pmem_words.proofs.seat.SeatState.reset_table.Goals as goal

pub returns : goal.returns
returns c =
    let seat : Seat = the_view c.self.inside in
    let none = unmapped_of c.reset.new.self c.reset.ensures.unmapped in
    (λ i. record seat { walk = record seat.walk { map = none i; size = c.reset.ensures.size i } })
    ∙ ap (λ (s : Seat). record s { walk = record s.walk { map = unmapped; size = c.args.size } }) c.self.view_is
