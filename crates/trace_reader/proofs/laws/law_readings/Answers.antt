use Rattle.std.proofs.Common.{◌≡◌, false, [], nat_lt, length}
use Rattle.trace_reader.specs.TraceText.{trace_text}
use Rattle.trace_reader.specs.Reading.{trace_limit}
use Rattle.trace_reader.proofs.LawLemmas.{first_is_refused}
use Rattle.trace_reader.proofs.PrintLemmas.{printed_is_read}
use Rattle.trace_reader.proofs.TraceLemmas.{not_more}
use Rattle.trace_reader.proofs.laws.law_readings.Goals as goal

pub returns-clause-printed_is_read : goal.returns-clause-printed_is_read
returns-clause-printed_is_read c = λ seats jobs few good lines short.
    let not_long : nat_lt trace_limit (length (trace_text jobs)) ≡ false = not_more trace_limit (length (trace_text jobs)) short in
    rw not_long (printed_is_read seats jobs [] 1 few good lines)

pub returns-clause-first_is_refused : goal.returns-clause-first_is_refused
returns-clause-first_is_refused c = first_is_refused
