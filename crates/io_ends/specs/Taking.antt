-- What a source has left, where it tells that, and what was taken of it.
use Rattle.std.specs.Prelude.{◌≡◌, ℕ, ◌+◌, ◌<◌, ◌≤◌, List, [], ◌++◌, length, take, ⊤, None, Some, Option}
use Rattle.io_ends.specs.declared.sources.Got.{Got}
use Rattle.io_ends.specs.declared.sources.Got.TheVariants.{Bytes, End, Failed}
use Rattle.io_ends.specs.declared.sources.ReadAll.{ReadAll}
use Rattle.io_ends.specs.declared.sources.ReadAll.TheVariants.{ReadFault, TooLong, NoMemory}

-- what is left, where that is known, with bytes before it
abbrev pub with_front : List ℕ → Option (List ℕ) → Option (List ℕ)
with_front bytes None = None
with_front bytes (Some left) = Some (bytes ++ left)

-- exactly these bytes were taken: what was left is these bytes and then what is left now
abbrev pub Takes : Option (List ℕ) → Option (List ℕ) → List ℕ → Type 0
Takes before after bytes = before ≡ with_front bytes after

-- nothing is left, where that is known
abbrev pub IsAtEnd : Option (List ℕ) → Type 0
IsAtEnd None = ⊤
IsAtEnd (Some left) = left ≡ []

-- all that was left was taken, and it is these bytes
abbrev pub TakesAll : Option (List ℕ) → Option (List ℕ) → List ℕ → Type 0
TakesAll None after bytes = after ≡ None
TakesAll (Some left) after bytes = (bytes ≡ left) × (after ≡ Some [])

-- the first so many bytes were taken
abbrev pub TakesCount : Option (List ℕ) → Option (List ℕ) → ℕ → Type 0
TakesCount before after count = (bytes : List ℕ) × (length bytes ≡ count) × Takes before after bytes

-- some first bytes were taken, no more than so many
abbrev pub TakesUpTo : Option (List ℕ) → Option (List ℕ) → ℕ → Type 0
TakesUpTo before after most = (bytes : List ℕ) × (length bytes ≤ most) × Takes before after bytes

-- a read gives from one byte up to as many as there is room for
abbrev pub IsGivenCount : Got → ℕ → Type 0
IsGivenCount (Bytes count) room = (0 < count) × (count ≤ room)
IsGivenCount End room = ⊤
IsGivenCount Failed room = ⊤

-- a read takes the bytes that it lays at the front of the buffer, and none at the end or where it failed
abbrev pub ReadTakes : Got → Option (List ℕ) → Option (List ℕ) → List ℕ → Type 0
ReadTakes (Bytes count) before after buffer = Takes before after (take count buffer)
ReadTakes End before after buffer = (after ≡ before) × IsAtEnd before
ReadTakes Failed before after buffer = after ≡ before

-- a read to the end that failed took a first part: one byte more than the limit where that is the cause,
-- and otherwise no more than the limit
abbrev pub ReadAllTakes : ReadAll → Option (List ℕ) → Option (List ℕ) → ℕ → Type 0
ReadAllTakes ReadFault before after limit = TakesUpTo before after limit
ReadAllTakes TooLong before after limit = TakesCount before after (limit + 1)
ReadAllTakes NoMemory before after limit = TakesUpTo before after limit
