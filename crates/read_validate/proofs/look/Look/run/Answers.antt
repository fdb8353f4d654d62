use Rattle.std.proofs.Common.{◌++◌, subst}
use Rattle.pmem_words.specs.Courses.{over}
use Rattle.pmem_words.specs.Drives.{Ends, RanOn, RanPart}
use Rattle.pmem_words.specs.declared.machine.Turn.{Turn}
use Rattle.read_validate.specs.declared.query.Seen.{Seen}
use Rattle.pmem_words.proofs.Stages.{goes_join, ends_from, safe_from}
use Rattle.read_validate.specs.Looking.{look_script}
use Rattle.read_validate.proofs.look.Look.run.Goals as goal

pub run_part-requires : goal.run_part-requires
run_part-requires g c = safe_from look_script (over look_script g.W.Memory.store) c.loop-seen.invariant.0 _ _ _ _ _ _ c.loop-seen.invariant.1 c.requires

pub loop-seen-preserved : goal.loop-seen-preserved
loop-seen-preserved g c =
    (let ran : RanOn look_script (over look_script g.W.Memory.store) c.loop-seen.self c.loop-seen.seat c.loop-seen.memory c.run_part.new.self c.run_part.new.seat c.run_part.new.memory =
    subst (λ (t : Turn Seen). RanPart look_script (over look_script g.W.Memory.store) c.loop-seen.self c.loop-seen.seat c.loop-seen.memory t c.run_part.new.self c.run_part.new.seat c.run_part.new.memory) c.in-Go.is c.run_part.ensures in
    (c.loop-seen.invariant.0 ++ ran.answers, goes_join look_script (over look_script g.W.Memory.store) c.loop-seen.invariant.0 _ _ _ _ _ _ ran.answers _ _ _ c.loop-seen.invariant.1 ran.goes))

pub returns-in-Done : goal.returns-in-Done
returns-in-Done g c =
    (let ended : Ends look_script (over look_script g.W.Memory.store) c.loop-seen.self c.loop-seen.seat c.loop-seen.memory c.in-Done.seen c.run_part.new.seat c.run_part.new.memory =
    subst (λ (t : Turn Seen). RanPart look_script (over look_script g.W.Memory.store) c.loop-seen.self c.loop-seen.seat c.loop-seen.memory t c.run_part.new.self c.run_part.new.seat c.run_part.new.memory) c.in-Done.is c.run_part.ensures in
    ends_from look_script (over look_script g.W.Memory.store) c.loop-seen.invariant.0 _ _ _ _ _ _ _ _ _ c.loop-seen.invariant.1 ended)
