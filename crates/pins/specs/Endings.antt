-- How the machines end.
use Rattle.std.specs.Prelude.{ℕ, ◌≡◌, ◌+◌, ◌<◌, ◌≤◌, ◌==◌, ◌&&◌, ◌⊎◌, if◌then◌else◌, List, [], length, slice_index, true}
use Rattle.log_entry.specs.declared.calls.Held.{Held}
use Rattle.pmem_words.specs.Seats.{Seat}
use Rattle.pins.specs.declared.scan.Scanned.{Scanned}
use Rattle.pins.specs.declared.scan.Scanned.TheVariants.{Clear, Held as HeldBy}
use Rattle.pins.specs.Steps.{generation_in}

-- the seat with a valid pin of the generation of this head word; a map of another generation is not ready, nor its first log block known,
-- and no word is kept
abbrev pub pinned : Seat → ℕ → Seat
pinned s word = record s {
  hold = record { head = word; pin = generation_in word; generation = generation_in word; valid = true };
  walk = record s.walk {
    ready = s.hold.generation == generation_in word && s.walk.ready;
    first_log = if s.hold.generation == generation_in word then s.walk.first_log else 0;
    kept = [];
  };
}

-- a pin word that needs no block of a generation: it is 0, or greater
abbrev pub NeedsNone : ℕ → ℕ → Type 0
NeedsNone generation word = (word ≡ 0) ⊎ (generation < word)

-- the first n of these pin words
abbrev pub AreFree : ℕ → ℕ → List ℕ → Type 0
AreFree generation n words = (k : ℕ) → k < n → NeedsNone generation (slice_index words k)

-- the first of these pin words that is not free, of the seats below `seats`
pub record IsHeld (generation seats : ℕ) (words : List ℕ) (held : Held) : Type 0 where
  pub seat : held.seat < seats
  pub before : AreFree generation held.seat words
  pub word : slice_index words held.seat ≡ held.generation
  pub some : 0 < held.generation
  pub most : held.generation ≤ generation

-- what is found in pin words, of which place k is seat k's
abbrev pub IsScan : ℕ → ℕ → List ℕ → Scanned → Type 0
IsScan generation seats words Clear = AreFree generation seats words
IsScan generation seats words (HeldBy held) = IsHeld generation seats words held

-- how many pin words are loaded for it
abbrev pub loads : ℕ → Scanned → ℕ
loads seats Clear = seats
loads seats (HeldBy held) = held.seat + 1

-- the list is the first n of these words
pub record IsFirst (n : ℕ) (words seen : List ℕ) : Type 0 where
  pub count : length seen ≡ n
  pub each : (k : ℕ) → k < n → slice_index seen k ≡ slice_index words k
