use Rattle.log_entry.proofs.TracePartLemmas.{whole_is_part, long_part_is_whole}
use Rattle.log_entry.proofs.laws.law_traces.Goals as goal

pub returns : goal.returns
returns c = record { whole = whole_is_part; long_part = long_part_is_whole }
