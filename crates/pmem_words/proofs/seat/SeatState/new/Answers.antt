use Rattle.std.proofs.Common.{◌∙◌, ap, ℕ, replicate}
use Rattle.pmem_words.specs.Seats.{Seat, new_seat}
use Rattle.pmem_words.proofs.MapLemmas.{unmapped_of}
use Rattle.pmem_words.proofs.seat.SeatState.new.Goals as goal

pub returns : goal.returns
returns c =
    let seat : Seat = new_seat c.args.geometry c.args.number c.args.seats c.args.position in
    let none = unmapped_of c.in_ok-table.table c.in_ok-table.ensures.unmapped in
    let words = ap (λ (n : ℕ). replicate n 0) c.bitmap_words-bitmap_words.ensures in
    let found = c.in_ok-found.ensures.items_if_clones_equal (λ y h. h) ∙ words in
    let named = c.in_ok-named.ensures.items_if_clones_equal (λ y h. h) ∙ words in
    λ i. record seat {
      walk = record seat.walk { map = none i; size = c.in_ok-table.ensures.size i; kept = c.in_ok-kept.ensures.items i };
      calling = record seat.calling { bytes = c.in_ok-bytes.ensures.items i; bases = c.in_ok-bases.ensures.items i; base_words = c.in_ok-base_words.ensures.items i };
      blocks = record seat.blocks { owned = (c.in_ok-owned.ensures i).blocks; contents = (c.in_ok-owned.ensures i).contents; found = found i; named = named i };
      giving = record seat.giving { replaced = c.in_ok-replaced.ensures.items i; limbo = c.in_ok-limbo.ensures.items i; pins_seen = c.in_ok-pins_seen.ensures.items i };
    }
