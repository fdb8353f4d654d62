use Rattle.std.proofs.Common.{◌∙◌, ap, max}
use Rattle.block_table.specs.FileMap.{FileMap, block_at}
use Rattle.pmem_words.specs.Seats.{Seat}
use Rattle.pmem_words.specs.contracts.seat.SeatState.{the_view}
use Rattle.pmem_words.proofs.MapLemmas.{same_map}
use Rattle.pmem_words.proofs.seat.SeatState.grow.Goals as goal

pub returns : goal.returns
returns c =
    let seat : Seat = the_view c.self.inside in
    let same = same_map c.self.inside.table c.grow.new.self (λ v. ap (λ (t : FileMap). block_at t v) c.grow.ensures.grown) in
    let size = ap (λ (t : FileMap). t.size) c.grow.ensures.grown in
    (λ i. record seat { walk = record seat.walk { map = same i; size = size i } })
    ∙ ap (λ (s : Seat). record s { walk = record s.walk { size = max s.walk.size c.args.end } }) c.self.view_is
