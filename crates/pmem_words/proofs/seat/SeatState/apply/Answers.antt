use Rattle.std.proofs.Common.{◌∙◌, ap}
use Rattle.pmem_words.specs.Seats.{Seat}
use Rattle.pmem_words.specs.Maps.{with_run}
use Rattle.pmem_words.specs.contracts.seat.SeatState.{the_view}
use Rattle.pmem_words.proofs.MapLemmas.{run_of}
use Rattle.pmem_words.proofs.seat.SeatState.apply.Goals as goal

pub returns : goal.returns
returns c =
    let seat : Seat = the_view c.self.inside in
    let more = run_of c.self.inside.table c.apply.new.self c.args.virt c.args.block c.args.count c.apply.ensures.blocks in
    (λ i. record seat { walk = record seat.walk { map = more i; size = c.apply.ensures.size i } })
    ∙ ap (λ (s : Seat). record s { walk = record s.walk { map = with_run c.args.virt c.args.block c.args.count s.walk.map } }) c.self.view_is
