use Rattle.std.proofs.Common.{sym, ◌∙◌, ap, subst, arith}
use Rattle.pmem_words.specs.Seats.{Seat}
use Rattle.persistence.specs.Memory.{pending_of}
use Rattle.persistence.specs.Cells.{CellsNow}
use Rattle.world_tests.specs.WriteSeats.{MayBeginWrite, IsToWrite}
use Rattle.world_tests.proofs.WriteLemmas.{both_write}
use Rattle.world_tests.proofs.write_tests.begin_both.Goals as goal

pub begin_write-of_zero-requires-clause-may : goal.begin_write-of_zero-requires-clause-may
begin_write-of_zero-requires-clause-may c = c.requires.may 0 (omega arith) c.args.slower.now c.requires.slower

pub begin_write-of_one-requires-clause-may : goal.begin_write-of_one-requires-clause-may
begin_write-of_one-requires-clause-may c = subst (λ (s : Seat). MayBeginWrite 0 c.args.faster.now 1 s) (sym (c.begin_write-of_zero.ensures.others 1 (λ e. omega (arith, e))))
    (c.requires.may 1 (omega arith) c.args.faster.now c.requires.faster)

pub returns-clause-led : goal.returns-clause-led
returns-clause-led c = rw (c.begin_write-of_one.ensures.write, c.begin_write-of_zero.ensures.write)
    (both_write c.begin_write-of_one.new.world 0 0 (c.begin_write-of_one.ensures.many ∙ c.begin_write-of_zero.ensures.many ∙ c.requires.many) c.begin_write-of_one.ensures.resting
    (subst (λ (s : Seat). IsToWrite 0 0 s) (sym (c.begin_write-of_one.ensures.others 0 (λ e. omega (arith, e)))) c.begin_write-of_zero.ensures.begun)
    (ap (λ (cells : CellsNow). pending_of 0 cells.memory.pending) (c.begin_write-of_one.ensures.cells ∙ c.begin_write-of_zero.ensures.cells) ∙ c.requires.no_marks 0)
    c.begin_write-of_one.ensures.begun
    (ap (λ (cells : CellsNow). pending_of 1 cells.memory.pending) (c.begin_write-of_one.ensures.cells ∙ c.begin_write-of_zero.ensures.cells) ∙ c.requires.no_marks 1))
