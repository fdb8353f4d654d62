use Rattle.std.proofs.Common.{◌∙◌}
use Rattle.crash_model.specs.Led.{Rests}
use Rattle.world_tests.proofs.PairLemmas.{to_zero}
use Rattle.world_tests.proofs.LookLemmas.{Looks}
use Rattle.world_tests.proofs.look_tests.seen.Goals as goal

pub end_look-requires-clause-led : goal.end_look-requires-clause-led
end_look-requires-clause-led c = to_zero (Looks c.begin_both.result.0) Rests c.end_write.new.world (c.in_ok-end_write.ensures.many ∙ c.begin_both.ensures.many) c.in_ok-end_write.ensures.rests
