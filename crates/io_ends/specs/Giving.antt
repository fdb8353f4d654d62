-- What was written to a sink, where it tells that, and what was appended to it.
use Rattle.std.specs.Prelude.{◌≡◌, ℕ, ◌<◌, ◌≤◌, List, ◌++◌, length, take, ⊤, None, Some, Option}
use Rattle.io_ends.specs.declared.sinks.Put.{Put}
use Rattle.io_ends.specs.declared.sinks.Put.TheVariants.{Took, Failed, NoMemory}

-- what was written, where that is known, with bytes after it
abbrev pub with_back : Option (List ℕ) → List ℕ → Option (List ℕ)
with_back None bytes = None
with_back (Some written) bytes = Some (written ++ bytes)

-- exactly these bytes were appended
abbrev pub Gives : Option (List ℕ) → Option (List ℕ) → List ℕ → Type 0
Gives before after bytes = after ≡ with_back before bytes

-- some first part of these bytes was appended
abbrev pub GivesPrefix : Option (List ℕ) → Option (List ℕ) → List ℕ → Type 0
GivesPrefix before after bytes = (count : ℕ) × (count ≤ length bytes) × Gives before after (take count bytes)

-- a write takes from one byte up to the whole piece
abbrev pub IsTakenCount : Put → ℕ → Type 0
IsTakenCount (Took count) size = (0 < count) × (count ≤ size)
IsTakenCount Failed size = ⊤
IsTakenCount NoMemory size = ⊤

-- a write appends the first bytes of the piece that it took, and none where it failed or found no memory
abbrev pub WriteGives : Put → Option (List ℕ) → Option (List ℕ) → List ℕ → Type 0
WriteGives (Took count) before after piece = Gives before after (take count piece)
WriteGives Failed before after piece = after ≡ before
WriteGives NoMemory before after piece = after ≡ before
