use Rattle.partial_blocks.proofs.EntersComposed.{enters_place, enters_composed}
use Rattle.partial_blocks.proofs.HeldPlaces.{composes_place, composes_write}
use Rattle.partial_blocks.proofs.laws.law_composed.Goals as goal

pub returns-clause-place : goal.returns-clause-place
returns-clause-place c = composes_place

pub returns-clause-write : goal.returns-clause-write
returns-clause-write c = composes_write

pub returns-clause-may : goal.returns-clause-may
returns-clause-may c = λ offset s g small. ((λ place inside. enters_place g offset place s inside small), (λ least. enters_composed g offset s small least))
