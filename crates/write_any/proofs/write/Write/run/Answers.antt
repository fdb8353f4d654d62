use Rattle.std.proofs.Common.{◌++◌, subst}
use Rattle.pmem_words.specs.Courses.{over}
use Rattle.pmem_words.specs.Drives.{Ends, RanOn, RanPart}
use Rattle.pmem_words.specs.declared.machine.Turn.{Turn}
use Rattle.pmem_words.specs.declared.written.Written.{Written}
use Rattle.pmem_words.proofs.Stages.{goes_join, ends_from, safe_from}
use Rattle.write_any.specs.Writing.{write_script}
use Rattle.write_any.proofs.write.Write.run.Goals as goal

pub run_part-requires : goal.run_part-requires
run_part-requires g c = safe_from write_script (over write_script g.W.Memory.store) c.loop-written.invariant.0 _ _ _ _ _ _ c.loop-written.invariant.1 c.requires

pub loop-written-preserved : goal.loop-written-preserved
loop-written-preserved g c =
    (let ran : RanOn write_script (over write_script g.W.Memory.store) c.loop-written.self c.loop-written.seat c.loop-written.memory c.run_part.new.self c.run_part.new.seat c.run_part.new.memory =
    subst (λ (t : Turn Written). RanPart write_script (over write_script g.W.Memory.store) c.loop-written.self c.loop-written.seat c.loop-written.memory t c.run_part.new.self c.run_part.new.seat c.run_part.new.memory) c.in-Go.is c.run_part.ensures in
    (c.loop-written.invariant.0 ++ ran.answers, goes_join write_script (over write_script g.W.Memory.store) c.loop-written.invariant.0 _ _ _ _ _ _ ran.answers _ _ _ c.loop-written.invariant.1 ran.goes))

pub returns-in-Done : goal.returns-in-Done
returns-in-Done g c =
    (let ended : Ends write_script (over write_script g.W.Memory.store) c.loop-written.self c.loop-written.seat c.loop-written.memory c.in-Done.written c.run_part.new.seat c.run_part.new.memory =
    subst (λ (t : Turn Written). RanPart write_script (over write_script g.W.Memory.store) c.loop-written.self c.loop-written.seat c.loop-written.memory t c.run_part.new.self c.run_part.new.seat c.run_part.new.memory) c.in-Done.is c.run_part.ensures in
    ends_from write_script (over write_script g.W.Memory.store) c.loop-written.invariant.0 _ _ _ _ _ _ _ _ _ c.loop-written.invariant.1 ended)
