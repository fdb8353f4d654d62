-- Worked traces: what their bytes are read as.
use Rattle.std.specs.Prelude.{◌≡◌, List, [], ◌∷◌, Ok, Err, codes}
use Rattle.log_entry.specs.Rows.{asks}
use Rattle.log_entry.specs.declared.calls.Op.TheVariants.{Pwrite, Append, Pread, Size, Sync, Collect}
use Rattle.log_entry.specs.declared.calls.Job.{Job}
use Rattle.trace_reader.specs.TraceText.{trace_text}
use Rattle.trace_reader.specs.Reading.{ReadsTrace}
use Rattle.trace_reader.specs.declared.refusals.BadTrace.TheVariants.{BadLine, BadSeat, BadNumber, BadHex}

-- a write of three bytes and a read of ten
abbrev pub two_jobs : List Job
two_jobs = asks 1 (Pwrite 0 (97 ∷ 98 ∷ 99 ∷ [])) ∷ asks 2 (Pread 0 10) ∷ []

-- what is printed of them
abbrev pub TwoLines : Type 0
TwoLines = trace_text two_jobs ≡ codes "0 pwrite 0 616263\n0 pread 0 10\n"

-- what is printed of the other operations, and of a write of no bytes
abbrev pub OtherLines : Type 0
OtherLines =
    trace_text (asks 1 (Pwrite 5 []) ∷ asks 2 (Append (171 ∷ [])) ∷ asks 3 Size ∷ asks 4 Sync ∷ asks 5 Collect ∷ [])
    ≡ codes "0 pwrite 5 -\n0 append ab\n0 size\n0 sync\n0 collect\n"

-- the two lines are read as the two jobs
abbrev pub TwoLinesRead : Type 0
TwoLinesRead = ReadsTrace 1 (codes "0 pwrite 0 616263\n0 pread 0 10\n") (Ok two_jobs)

-- a comment, blanks, leading zeros, digits of upper case, and a last line without its newline
abbrev pub ByHandRead : Type 0
ByHandRead = ReadsTrace 1 (codes "# by hand\n\n 00\tappend  aB \n0 size") (Ok (record { line = 3; seat = 0; number = 1; op = Append (171 ∷ []) } ∷ record { line = 4; seat = 0; number = 2; op = Size } ∷ []))

-- no bytes are the trace of no jobs
abbrev pub NothingRead : Type 0
NothingRead = ReadsTrace 1 [] (Ok [])

-- an odd count of digits
abbrev pub OddDigits : Type 0
OddDigits = ReadsTrace 1 (codes "0 pwrite 0 abc\n") (Err (BadHex 1))

-- a seat that the volume has not
abbrev pub OtherSeat : Type 0
OtherSeat = ReadsTrace 1 (codes "1 size\n") (Err (BadSeat 1 1))

-- a read of too many bytes
abbrev pub LongRead : Type 0
LongRead = ReadsTrace 1 (codes "0 pread 0 1048577\n") (Err (BadNumber 1))

-- an operation that there is not
abbrev pub OtherOperation : Type 0
OtherOperation = ReadsTrace 1 (codes "0 fsync\n") (Err (BadLine 1))
