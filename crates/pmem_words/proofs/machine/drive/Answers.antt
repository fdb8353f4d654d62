use Rattle.std.proofs.Common.{[], ◌∷◌, ◌++◌, sym}
use Rattle.pmem_words.specs.Courses.{over}
use Rattle.pmem_words.proofs.GoesMore.{goes_more}
use Rattle.pmem_words.proofs.machine.drive.Goals as goal

pub loop-out-preserved : goal.loop-out-preserved
loop-out-preserved g c =
    let ask_is = c.ask-ask.ensures in
    let st = rw ask_is at c.perform-answer.ensures in
    let more = goes_more g.M.Machine.script (over g.M.Machine.script g.W.Memory.store) c.loop-out.invariant.0 c.args.machine c.args.seat.now c.args.memory.now c.loop-out.machine c.loop-out.seat c.loop-out.memory c.perform-answer.result c.perform-answer.new.self c.loop-out.invariant.1 st (sym c.in-Go.ensures.turn) in
    (c.loop-out.invariant.0 ++ c.perform-answer.result ∷ [], rw (c.in-Go.ensures.machine, c.in-Go.ensures.seat) more)

pub returns-in-Done : goal.returns-in-Done
returns-in-Done g c = record {
  answers = c.loop-out.invariant.0;
  machine = c.loop-out.machine;
  seat = c.loop-out.seat;
  memory = c.loop-out.memory;
  goes = c.loop-out.invariant.1;
  last = c.perform-answer.result;
  steps = rw c.ask-ask.ensures at c.perform-answer.ensures;
  ends = sym c.in-Done.ensures.turn;
  leaves = sym c.tell.ensures.seat;
}
