use Rattle.image_steps.proofs.EntryStep.{entries_are_writes}
use Rattle.image_steps.proofs.laws.law_entries.Goals as goal

pub returns : goal.returns
returns c = entries_are_writes
