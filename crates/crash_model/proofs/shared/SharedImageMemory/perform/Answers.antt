use Rattle.std.proofs.Common.{subst, sym, arith}
use Rattle.log_core.specs.Steps.{kind_of_ask}
use Rattle.crash_model.specs.Images.{SharedNow, IsOfSomeRun, ImageStep}
use Rattle.crash_model.proofs.ImageStanding.{takes, low, rises_small, stands_some, step_made, image_is}
use Rattle.crash_model.proofs.shared.SharedImageMemory.perform.Goals as goal

pub perform-answer-requires-clause-place : goal.perform-answer-requires-clause-place
perform-answer-requires-clause-place c = let may = rw (← c.self.view_is) at c.requires.may in
    takes (record { geometry = c.self.inside.geometry; cells = c.self.inside.cells; position = c.self.inside.position; synced = c.self.inside.synced }) c.args.seat.now.number c.args.seat.now c.args.ask may

pub overflow_add-self : goal.overflow_add-self
overflow_add-self c = let may = rw (← c.self.view_is) at c.requires.may in
    let under = low (record { geometry = c.self.inside.geometry; cells = c.self.inside.cells; position = c.self.inside.position; synced = c.self.inside.synced }) c.args.seat.now.number c.args.seat.now c.args.ask may in
    let small = rises_small (kind_of_ask c.q.result c.number-2.result c.args.ask) c.perform-answer.result in
    let is = c.rise.ensures in
    omega (arith, under, small, is)

pub invariant_of-self : goal.invariant_of-self
invariant_of-self c = let may = rw (← c.self.view_is) at c.requires.may in
    let i : SharedNow = (record { geometry = c.self.inside.geometry; cells = c.self.inside.cells; position = c.self.inside.position; synced = c.self.inside.synced }) in
    subst (λ (x : SharedNow). IsOfSomeRun x) (sym (image_is i c.args.seat.now c.args.ask c.perform-answer.new.self c.perform-answer.result c.q.result c.rise.result c.synced_by-self-inside.result c.number.result
    c.number.ensures c.perform-answer.ensures.cells c.perform-answer.ensures.answer c.q.ensures (rw c.number.ensures (rw c.number-2.ensures at c.rise.ensures)) (c.synced_by-self-inside.ensures c.q.result c.number.result)))
    (stands_some i c.args.seat.now.number c.args.seat.now c.args.ask may)

pub returns : goal.returns
returns c =
    let i : SharedNow = (record { geometry = c.self.inside.geometry; cells = c.self.inside.cells; position = c.self.inside.position; synced = c.self.inside.synced }) in
    rw (← c.self.view_is)
    (subst (λ (x : SharedNow). ImageStep i c.args.seat.now c.args.ask c.perform-answer.result x) (sym (image_is i c.args.seat.now c.args.ask c.perform-answer.new.self c.perform-answer.result c.q.result c.rise.result c.synced_by-self-inside.result c.number.result
    c.number.ensures c.perform-answer.ensures.cells c.perform-answer.ensures.answer c.q.ensures (rw c.number.ensures (rw c.number-2.ensures at c.rise.ensures)) (c.synced_by-self-inside.ensures c.q.result c.number.result)))
    (rw c.perform-answer.ensures.answer (step_made i c.args.seat.now c.args.ask)))
