use Rattle.persistence.proofs.CellLaws.{stores_grow_cells, others_leave_cells}
use Rattle.persistence.proofs.FenceLaws.{fences_raise_floors, fences_forget_own_marks}
use Rattle.persistence.proofs.laws.law_cells.Goals as goal

pub returns-clause-stores : goal.returns-clause-stores
returns-clause-stores c = stores_grow_cells

pub returns-clause-others : goal.returns-clause-others
returns-clause-others c = others_leave_cells

pub returns-clause-fences : goal.returns-clause-fences
returns-clause-fences c = fences_raise_floors

pub returns-clause-marks : goal.returns-clause-marks
returns-clause-marks c = fences_forget_own_marks
