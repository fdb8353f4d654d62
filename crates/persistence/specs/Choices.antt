-- What one crash leaves: of each word the value that a choice takes among those that may be left.
use Rattle.std.specs.Prelude.{ℕ, zero, suc, ◌+◌, ◌-◌, ◌%◌, nat_lt, if◌then◌else◌, List, length, map}
use Rattle.std.specs.List.{range_with_len}
use Rattle.rand_pcg.specs.Lcg.{Lcg, started, increment_of}
use Rattle.rand_pcg.specs.Pcg.{multiplier_64, pcg32}
use Rattle.persistence.specs.Memory.{Memory, Cell, cell}
use Rattle.persistence.specs.Survivors.{value_at}
use Rattle.persistence.specs.declared.survivors.Choice.{Choice}
use Rattle.persistence.specs.declared.survivors.Choice.TheVariants.{Oldest, Newest, Drawn}

-- how many values a crash may leave of a word: those at or after its floor
abbrev pub left_count : Cell → ℕ
left_count c = length c.past + 1 - c.floor

-- which of them is drawn, counted from the floor: nothing is drawn where there is one alone
abbrev pub drawn_place : Lcg → Cell → ℕ
drawn_place generator c = if nat_lt 1 (left_count c) then (pcg32 generator).0 % left_count c else 0

-- the generator after that
abbrev pub drawn_on : Lcg → Cell → Lcg
drawn_on generator c = if nat_lt 1 (left_count c) then (pcg32 generator).1 else generator

-- the generator of a seed when it comes to a word: the words are visited in ascending order
abbrev pub generator_at : ℕ → Memory → ℕ → Lcg
generator_at seed memory zero = started 64 multiplier_64 seed (increment_of 64 0)
generator_at seed memory (suc word) = drawn_on (generator_at seed memory word) (cell memory word)

-- the number of the value of a word that a choice takes, among all that the word has held
abbrev pub chosen_index : Choice → Memory → ℕ → ℕ
chosen_index Oldest memory word = (cell memory word).floor
chosen_index Newest memory word = length (cell memory word).past
chosen_index (Drawn seed) memory word = (cell memory word).floor + drawn_place (generator_at seed memory word) (cell memory word)

-- that value
abbrev pub chosen_value : Choice → Memory → ℕ → ℕ
chosen_value choice memory word = value_at (cell memory word) (chosen_index choice memory word)

-- the values of all words
abbrev pub chosen : Choice → Memory → List ℕ
chosen choice memory = map (chosen_value choice memory) (range_with_len 0 (length memory.now.words))
