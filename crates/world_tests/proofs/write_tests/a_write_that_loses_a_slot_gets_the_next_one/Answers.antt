use Rattle.std.proofs.Common.{length, sym, ◌∙◌, ap, subst}
use Rattle.crash_model.specs.Worlds.{WorldNow}
use Rattle.crash_model.specs.Led.{Rests, IsAmong}
use Rattle.world_tests.proofs.PairLemmas.{to_one, to_zero}
use Rattle.world_tests.proofs.WriteLemmas.{Writes}
use Rattle.world_tests.proofs.write_tests.a_write_that_loses_a_slot_gets_the_next_one.Goals as goal

pub end_write-requires-clause-led : goal.end_write-requires-clause-led
end_write-requires-clause-led g c = subst (λ (w : WorldNow). IsAmong (Writes c.go_on_writing.new.write) 1 (Writes c.begin_both.result.1) w) (sym c.asked.ensures.same)
    (to_one (Writes c.begin_both.result.1) (Writes c.go_on_writing.new.write) c.go_on_writing.new.world (c.in_ok-go_on_writing.ensures.many ∙ c.begin_both.ensures.many) c.in_ok-go_on_writing.ensures.led)

pub end_write-requires-2-clause-led : goal.end_write-requires-2-clause-led
end_write-requires-2-clause-led g c = to_zero (Writes c.go_on_writing.new.write) Rests c.end_write.new.world
    (c.in_ok-written.ensures.many ∙ ap (λ (w : WorldNow). length w.seats) c.asked.ensures.same ∙ c.in_ok-go_on_writing.ensures.many ∙ c.begin_both.ensures.many) c.in_ok-written.ensures.rests
