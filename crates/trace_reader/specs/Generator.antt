-- Work from a number: the jobs that are generated, line by line.
use Rattle.std.specs.Prelude.{ℕ, zero, suc, ◌+◌, ◌*◌, ◌/◌, ◌%◌, ◌^◌, ◌==◌, ◌≤◌, nat_lt, if◌then◌else◌, List, [], ◌∷◌, ◌++◌, Ok}
use Rattle.log_entry.specs.declared.calls.Op.{Op}
use Rattle.log_entry.specs.declared.calls.Op.TheVariants.{Pwrite, Append, Pread, Size, Sync, Collect}
use Rattle.log_entry.specs.declared.calls.Job.{Job}
use Rattle.trace_reader.specs.TraceText.{trace_text}
use Rattle.trace_reader.specs.Reading.{ReadsTrace}

-- the number that a line is drawn by, below 2^32, and its upper half
abbrev pub drawn : ℕ → ℕ → ℕ
drawn number line = (number * 40503 + line * 2654435761) % 2 ^ 32

abbrev pub upper_half : ℕ → ℕ
upper_half draw = draw / 65536

-- where a seat reads and writes: within its own 65,536 bytes
abbrev pub place_of_draw : ℕ → ℕ → ℕ
place_of_draw seat draw = seat * 65536 + draw % 63488

-- so many bytes, each one more than the one before it modulo 256, from this number on
abbrev pub rising_bytes : ℕ → ℕ → List ℕ
rising_bytes first zero = []
rising_bytes first (suc count) = rising_bytes first count ++ (first + count) % 256 ∷ []

-- the operation of a seat's turn, counted from 0, on a line: four writes, an append, a read, and two calls without operands; among eight
-- turns
abbrev pub turn_op : ℕ → ℕ → ℕ → ℕ → ℕ → Op
turn_op number line seat turn draw =
    if nat_lt (turn % 8) 4 then Pwrite (place_of_draw seat draw) (rising_bytes (number + line) (1 + upper_half draw % 2048))
    else if turn % 8 == 4 then Append (rising_bytes (number + line) (1 + upper_half draw % 256))
    else if turn % 8 == 5 then Pread (place_of_draw seat draw) (1 + upper_half draw % 2048)
    else if turn % 8 == 6 then (if turn % 16 == 14 then Sync else Size)
    else (if turn % 512 == 511 then Collect else Size)

-- the job on the line after so many: the seats take turns
abbrev pub generated_job : ℕ → ℕ → ℕ → Job
generated_job number seats before = record {
  line = before + 1;
  seat = before % seats;
  number = before / seats + 1;
  op = turn_op number (before + 1) (before % seats) (before / seats) (drawn number (before + 1));
}

-- so many jobs from a number, one a line
abbrev pub generated : ℕ → ℕ → ℕ → List Job
generated number seats zero = []
generated number seats (suc calls) = generated number seats calls ++ generated_job number seats calls ∷ []

-- what is printed of at most 20,000 generated jobs of 1 to 16 seats is read as them
abbrev pub GeneratedAreRead : Type 0
GeneratedAreRead = (number seats calls : ℕ) → 1 ≤ seats → seats ≤ 16 → calls ≤ 20000 → ReadsTrace seats (trace_text (generated number seats calls)) (Ok (generated number seats calls))
