-- What a fill makes of the seat.
use Rattle.std.specs.Prelude.{ℕ, zero, suc, ◌+◌}
use Rattle.pmem_words.specs.Seats.{Seat}
use Rattle.block_bitmap.specs.OwnedWords.{unfilled, with_filled_block, all_fenced}

-- the seat with a block that was stored and marked since, and not fenced
abbrev pub filled_anew : Seat → ℕ → Seat
filled_anew s place = with_filled_block (unfilled s place) place

-- with n such blocks from a place of the list on
abbrev pub filled_from : Seat → ℕ → ℕ → Seat
filled_from s place zero = s
filled_from s place (suc n) = filled_from (filled_anew s place) (place + 1) n

-- and after the fence: these blocks, and all that were filled before, are fenced
abbrev pub filled_seat : Seat → ℕ → ℕ → Seat
filled_seat s place n = all_fenced (filled_from s place n)
