use Rattle.std.proofs.Common.{sym, ◌∙◌, ap, subst, arith}
use Rattle.pmem_words.specs.Seats.{Seat}
use Rattle.persistence.specs.Memory.{pending_of}
use Rattle.persistence.specs.Cells.{CellsNow}
use Rattle.world_tests.specs.LookSeats.{IsToLook}
use Rattle.world_tests.specs.WriteSeats.{MayBeginWrite}
use Rattle.world_tests.proofs.LookLemmas.{look_and_write}
use Rattle.world_tests.proofs.look_tests.begin_both.Goals as goal

pub begin_look-look-requires-clause-may : goal.begin_look-look-requires-clause-may
begin_look-look-requires-clause-may c = (c.requires.may 0 (omega arith) c.args.bytes.now c.requires.bytes).alone

pub begin_write-write-requires-clause-may : goal.begin_write-write-requires-clause-may
begin_write-write-requires-clause-may c = subst (λ (s : Seat). MayBeginWrite 0 c.args.bytes.now 1 s) (sym (c.begin_look-look.ensures.others 1 (λ e. omega (arith, e))))
    (c.requires.may 1 (omega arith) c.args.bytes.now c.requires.bytes)

pub returns-clause-led : goal.returns-clause-led
returns-clause-led c = rw (c.begin_write-write.ensures.write, c.begin_look-look.ensures.look)
    (look_and_write c.begin_write-write.new.world c.args.query 0 (c.begin_write-write.ensures.many ∙ c.begin_look-look.ensures.many ∙ c.requires.many) c.begin_write-write.ensures.resting
    (subst (λ (s : Seat). IsToLook c.args.query 0 s) (sym (c.begin_write-write.ensures.others 0 (λ e. omega (arith, e)))) c.begin_look-look.ensures.begun)
    c.begin_write-write.ensures.begun
    (ap (λ (cells : CellsNow). pending_of 1 cells.memory.pending) (c.begin_write-write.ensures.cells ∙ c.begin_look-look.ensures.cells) ∙ c.requires.no_marks 1))
