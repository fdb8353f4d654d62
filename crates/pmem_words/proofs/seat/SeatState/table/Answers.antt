use Rattle.std.proofs.Common.{◌∙◌, ap, sym, length}
use Rattle.pmem_words.specs.Seats.{Seat}
use Rattle.pmem_words.specs.Maps.{map_at}
use Rattle.pmem_words.proofs.MapLaws.{length_map}
use Rattle.pmem_words.proofs.MapLemmas.{map_at_of}
use Rattle.pmem_words.proofs.seat.SeatState.table.Goals as goal

pub returns-clause-map : goal.returns-clause-map
returns-clause-map c = λ v h. sym (map_at_of c.self.inside.table v h) ∙ ap (λ (s : Seat). map_at s.walk.map v) c.self.view_is

pub returns-clause-len : goal.returns-clause-len
returns-clause-len c = ap (λ (s : Seat). length s.walk.map) (sym c.self.view_is) ∙ length_map c.self.inside.table
