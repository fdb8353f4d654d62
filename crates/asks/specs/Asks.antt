-- The word that an ask is on, and what the ask makes of it. This is said once, for every memory.
use Rattle.std.specs.Prelude.{ℕ, ◌-◌, ◌^◌, ◌==◌, if◌then◌else◌, bit_and, bit_or}
use Rattle.asks.specs.declared.ask.Place.{Place}
use Rattle.asks.specs.declared.ask.Place.TheVariants.{Image, FenceOf}
use Rattle.asks.specs.declared.ask.Ask.{Ask}
use Rattle.asks.specs.declared.ask.Ask.TheVariants.{Load, Store, Exchange, SetBits, ClearBits, Mark, Fence}

-- the word that an ask of this seat is on; a fence is on the seat's fence word
abbrev pub place : ℕ → Ask → Place
place seat (Load p) = p
place seat (Store p value) = p
place seat (Exchange p before after) = p
place seat (SetBits p bits) = p
place seat (ClearBits p bits) = p
place seat (Mark word) = Image word
place seat Fence = FenceOf seat

-- a word without these bits
abbrev pub without_bits : ℕ → ℕ → ℕ
without_bits found bits = bit_and found (2 ^ 64 - 1 - bits)

-- what the word becomes, of what was found there
abbrev pub becomes : Ask → ℕ → ℕ
becomes (Load p) found = found
becomes (Store p value) found = value
becomes (Exchange p before after) found = if found == before then after else found
becomes (SetBits p bits) found = bit_or found bits
becomes (ClearBits p bits) found = without_bits found bits
becomes (Mark word) found = found
becomes Fence found = found

-- the answer, of what was found there
abbrev pub answer : Ask → ℕ → ℕ
answer (Load p) found = found
answer (Store p value) found = 0
answer (Exchange p before after) found = found
answer (SetBits p bits) found = found
answer (ClearBits p bits) found = found
answer (Mark word) found = found
answer Fence found = 0
