-- What a step on the head or on a pin word makes of a seat.
use Rattle.std.specs.Prelude.{ℕ, ◌==◌, ◌&&◌, if◌then◌else◌, List, [], ◌∷◌, ◌++◌, take, Bool, true, false, not}
use Rattle.log_entry.specs.Fields.{field}
use Rattle.log_entry.specs.declared.layouts.TheConstants.{HEAD_BLOCK, HEAD_GENERATION}
use Rattle.log_entry.specs.declared.words.Head.{Head}
use Rattle.pmem_words.specs.Seats.{Seat}

-- the generation that a head word has
abbrev pub generation_in : ℕ → ℕ
generation_in word = field HEAD_GENERATION word

-- the generation and the block that a head word has
abbrev pub head_of : ℕ → Head
head_of word = record { generation = field HEAD_GENERATION word; block = field HEAD_BLOCK word }

-- the seat after a load of the head, by whether its pin is of the generation found: if so the pin is valid, and a map of another
-- generation is not ready, nor its first log block known
abbrev pub head_found_if : Bool → Seat → ℕ → Seat
head_found_if pinned s word = record s {
  hold = record s.hold {
    head = word;
    generation = if pinned then s.hold.pin else s.hold.generation;
    valid = if pinned then true else s.hold.valid;
  };
  walk = record s.walk {
    ready = if pinned && not (s.hold.generation == s.hold.pin) then false else s.walk.ready;
    first_log = if pinned && not (s.hold.generation == s.hold.pin) then 0 else s.walk.first_log;
  };
}

-- the seat after a load of the head that found this word
abbrev pub head_found : Seat → ℕ → Seat
head_found s word = head_found_if (s.hold.pin == generation_in word) s word

-- the seat after this generation was stored in its pin word, 0 for none
abbrev pub pin_stored : Seat → ℕ → Seat
pin_stored s pin = record s { hold = record s.hold { pin = pin; valid = false }; walk = record s.walk { kept = [] } }

-- the pin words seen after that of seat t was loaded: a scan goes from seat 0 on
abbrev pub seen_after : ℕ → List ℕ → ℕ → List ℕ
seen_after t seen word = take t seen ++ word ∷ []

-- the seat with these pin words seen
abbrev pub with_seen : Seat → List ℕ → Seat
with_seen s seen = record s { giving = record s.giving { pins_seen = seen } }

-- the seat after a load of seat t's pin word that found this word
abbrev pub pin_found : Seat → ℕ → ℕ → Seat
pin_found s t word = with_seen s (seen_after t s.giving.pins_seen word)
