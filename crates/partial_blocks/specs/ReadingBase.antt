-- What it means to read one virtual block that a write touches in part.
use Rattle.std.specs.Prelude.{ℕ, ◌+◌, ◌-◌, ◌*◌, ◌<◌, ◌≡◌, nat_lt, Bool, true, false, [], ◌∷◌, ◌++◌, length}
use Rattle.asks.specs.declared.ask.Ask.TheVariants.{Load}
use Rattle.asks.specs.declared.ask.Place.TheVariants.{Image}
use Rattle.pmem_words.specs.Seats.{Seat}
use Rattle.pmem_words.specs.Scripts.{After, Script, Lowers}
use Rattle.pmem_words.specs.declared.machine.Turn.TheVariants.{Go, Done}
use Rattle.log_core.specs.Entries.{place_in}
use Rattle.log_core.specs.Works.{seat_shape, words_of}
use Rattle.partial_blocks.specs.declared.read_base.ReadBase.{ReadBase}

abbrev pub read_base_of : ℕ → ReadBase
read_base_of block = record { block = block; word = 0 }

-- a base word more
abbrev pub base_word_added : ℕ → Seat → Seat
base_word_added word s = record s { calling = record s.calling { base_words = s.calling.base_words ++ word ∷ [] } }

-- with the last word it has ended
abbrev pub base_after : Bool → ReadBase → Seat → After ReadBase (Unit {0})
base_after true m s = record { machine = record m { word = m.word + 1 }; seat = s; turn = Go }
base_after false m s = record { machine = m; seat = s; turn = Done tt }

-- there is a free place for the word
pub record ReadBaseAdmits (m : ReadBase) (s : Seat) (f : ℕ) : Type 0 where
  pub room : length s.calling.base_words < 2 * words_of s
  pub inside : m.word < words_of s

abbrev pub read_base_script : Script ReadBase (Unit {0})
read_base_script = record {
  asks = λ m s. Load (Image (place_in (seat_shape s) m.block m.word));
  admits = ReadBaseAdmits;
  after = λ m s f. base_after (nat_lt (m.word + 1) (words_of s)) m (base_word_added f s);
  measure = λ m s. words_of s - m.word;
}

lowers_by : (more : Bool) (m : ReadBase) (s t : Seat) → words_of t ≡ words_of s → m.word < words_of s → (base_after more m t).turn ≡ Go → words_of (base_after more m t).seat - (base_after more m t).machine.word < words_of s - m.word
lowers_by true m s t same inside go = omega (Rattle.std.proofs.Common.arith, same, inside)
lowers_by false m s t same inside go = cc

pub read_base_lowers : Lowers read_base_script
read_base_lowers m s f admits go = lowers_by (nat_lt (m.word + 1) (words_of s)) m s (base_word_added f s) Rattle.std.proofs.Common.refl admits.inside go
