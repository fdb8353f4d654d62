-- Counts of faults: a count never falls, and stands still at the last value of a counter of 64 bits. What is exact counts nothing else.
use Rattle.std.specs.Prelude.{◌≡◌, ℕ, ◌+◌, ◌-◌, ◌^◌, ◌≤◌, min, Bool, IsTrue, MatchResult, Result}
use Rattle.io_ends.specs.declared.sources.Got.{Got}
use Rattle.io_ends.specs.declared.sources.Got.TheVariants.{Bytes, End, Failed}
use Rattle.io_ends.specs.declared.sources.ReadAll.{ReadAll}
use Rattle.io_ends.specs.declared.sources.ReadAll.TheVariants.{ReadFault, TooLong, NoMemory}
use Rattle.io_ends.specs.declared.sinks.Put.{Put}
use Rattle.io_ends.specs.declared.sinks.Put.TheVariants.{Took, Failed as PutFailed, NoMemory as PutNoMemory}
use Rattle.io_ends.specs.declared.sinks.WriteAll.{WriteAll}
use Rattle.io_ends.specs.declared.sinks.WriteAll.TheVariants.{WriteFault, NoMemory as WriteNoMemory}

-- the count after one more
abbrev pub counted : ℕ → ℕ
counted before = min (before + 1) (2 ^ 64 - 1)

-- the count rose, or stands at the last value of a counter
abbrev pub Rose : ℕ → ℕ → Type 0
Rose before now = counted before ≤ now

-- the count stays where it is exact, as no fault was answered
abbrev pub Stays : Bool → ℕ → ℕ → Type 0
Stays exact before now = IsTrue exact → now ≡ before

-- a read that failed counted a fault, and one that did not counted none where the count is exact
abbrev pub ReadCounts : Bool → Got → ℕ → ℕ → Type 0
ReadCounts exact (Bytes count) before now = Stays exact before now
ReadCounts exact End before now = Stays exact before now
ReadCounts exact Failed before now = Rose before now

-- a write that failed counted a fault, and one that did not counted none where the count is exact
abbrev pub WriteCounts : Bool → Put → ℕ → ℕ → Type 0
WriteCounts exact (Took count) before now = Stays exact before now
WriteCounts exact PutFailed before now = Rose before now
WriteCounts exact PutNoMemory before now = Stays exact before now

-- a read to the end that failed for this cause counted a fault where a read failed, and else none where the count is exact
abbrev pub ReadAllCounts : Bool → ReadAll → ℕ → ℕ → Type 0
ReadAllCounts exact ReadFault before now = Rose before now
ReadAllCounts exact TooLong before now = Stays exact before now
ReadAllCounts exact NoMemory before now = Stays exact before now

-- a write of all that failed for this cause counted a fault where a write failed, and else none where the count is exact
abbrev pub WriteAllCounts : Bool → WriteAll → ℕ → ℕ → Type 0
WriteAllCounts exact WriteFault before now = Rose before now
WriteAllCounts exact WriteNoMemory before now = Stays exact before now

-- the fault of a read to the end is one that the count shows, and without one an exact count stays
abbrev pub ReadAllFaults : {T : Type 0} → Bool → Result T ReadAll → ℕ → ℕ → Type 0
ReadAllFaults exact r before now = MatchResult r (λ _. Stays exact before now) (λ cause. ReadAllCounts exact cause before now)

-- the fault of a write of all is one that the count shows, and without one an exact count stays
abbrev pub WriteAllFaults : {T : Type 0} → Bool → Result T WriteAll → ℕ → ℕ → Type 0
WriteAllFaults exact r before now = MatchResult r (λ _. Stays exact before now) (λ cause. WriteAllCounts exact cause before now)
