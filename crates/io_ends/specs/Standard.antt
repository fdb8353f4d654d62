-- What a read of a reader of std takes, and what a write to a writer of std gives, where those tell it.
use Rattle.std.specs.Prelude.{ℕ, ◌≤◌, List, [], length, take, Option}
use Rattle.std.specs.Io.KnownBytes.{Keeps, Appends, Consumes, IsAtEnd}
use Rattle.io_ends.specs.declared.sources.Got.{Got}
use Rattle.io_ends.specs.declared.sources.Got.TheVariants.{Bytes, End, Failed}
use Rattle.io_ends.specs.declared.sinks.Put.{Put}
use Rattle.io_ends.specs.declared.sinks.Put.TheVariants.{Took, Failed as PutFailed, NoMemory}

-- the reader lost the bytes that lie in the buffer, is at its end, or lost nothing
abbrev pub ReaderLoses : Got → Option (List ℕ) → Option (List ℕ) → List ℕ → Type 0
ReaderLoses (Bytes count) before after buffer = Consumes before after (take count buffer)
ReaderLoses End before after buffer = Consumes before after [] × IsAtEnd after
ReaderLoses Failed before after buffer = Keeps before after

-- some first part of the piece was appended
abbrev pub AppendsPrefix : Option (List ℕ) → Option (List ℕ) → List ℕ → Type 0
AppendsPrefix before after piece = (count : ℕ) × (count ≤ length piece) × Appends before after (take count piece)

-- the writer gained the bytes that were taken, and where it failed some first part of the piece
abbrev pub WriterGains : Put → Option (List ℕ) → Option (List ℕ) → List ℕ → Type 0
WriterGains (Took count) before after piece = Appends before after (take count piece)
WriterGains PutFailed before after piece = AppendsPrefix before after piece
WriterGains NoMemory before after piece = ⊥
