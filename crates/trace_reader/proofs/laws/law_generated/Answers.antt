use Rattle.trace_reader.proofs.GeneratorLemmas.{generated_are_read}
use Rattle.trace_reader.proofs.laws.law_generated.Goals as goal

pub returns : goal.returns
returns c = generated_are_read
