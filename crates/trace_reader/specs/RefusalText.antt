-- How a refusal of a trace is printed: its name, the line, and of a seat the seat.
use Rattle.std.specs.Prelude.{ℕ, List, ◌++◌, codes, decimal}
use Rattle.trace_reader.specs.declared.refusals.BadTrace.{BadTrace}
use Rattle.trace_reader.specs.declared.refusals.BadTrace.TheVariants.{BadLine, BadSeat, BadNumber, BadHex, TooMuch, TooLong}

abbrev pub bad_trace_text : BadTrace → List ℕ
bad_trace_text (BadLine line) = codes "BadLine " ++ decimal line
bad_trace_text (BadSeat line seat) = codes "BadSeat " ++ decimal line ++ codes " " ++ decimal seat
bad_trace_text (BadNumber line) = codes "BadNumber " ++ decimal line
bad_trace_text (BadHex line) = codes "BadHex " ++ decimal line
bad_trace_text (TooMuch line) = codes "TooMuch " ++ decimal line
bad_trace_text TooLong = codes "TooLong"
