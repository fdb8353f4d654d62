use Rattle.partial_blocks.proofs.KeptBytes.{taking_keeps, keeps_place, reading_keeps}
use Rattle.partial_blocks.proofs.laws.law_kept.Goals as goal

pub returns-clause-taking : goal.returns-clause-taking
returns-clause-taking c = taking_keeps

pub returns-clause-place : goal.returns-clause-place
returns-clause-place c = keeps_place

pub returns-clause-reading : goal.returns-clause-reading
returns-clause-reading c = reading_keeps
