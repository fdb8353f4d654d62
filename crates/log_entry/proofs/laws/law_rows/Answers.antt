use Rattle.log_entry.proofs.TracePartLemmas.{part_of_trace}
use Rattle.log_entry.proofs.laws.law_rows.Goals as goal

pub returns-clause-call_twice : goal.returns-clause-call_twice
returns-clause-call_twice c = λ h. cc (h 0)

pub returns-clause-part_of_trace : goal.returns-clause-part_of_trace
returns-clause-part_of_trace c = part_of_trace
