use Rattle.std.proofs.Common.{sym, ◌∙◌, ap, subst}
use Rattle.pmem_words.specs.declared.keeps.Task.TheVariants.{Take as TakeTask}
use Rattle.pmem_words.specs.Seats.{Seat}
use Rattle.log_core.specs.Within.{no_record}
use Rattle.crash_model.specs.Led.{IsLed, HasLeft}
use Rattle.block_bitmap.specs.declared.take.Take.{Take}
use Rattle.block_bitmap.specs.TakeScript.{take_script}
use Rattle.world_tests.proofs.BlockLemmas.{begun_seat, begun_inside}
use Rattle.world_tests.proofs.Takes.{take_led}
use Rattle.world_tests.proofs.block_turns.take_in.Goals as goal

pub turn_take-requires-clause-led : goal.turn_take-requires-clause-led
turn_take-requires-clause-led c =
    (let begun = begun_seat c.args.world.now c.begin_in.new.world c.args.seat (TakeTask c.args.area c.args.count) c.requires.inside c.begin_in.ensures.same in
    subst (λ (m : Take). IsLed c.args.seat take_script no_record (λ out t v. HasLeft out t v) m c.begin_in.new.world) (sym c.new-take.ensures)
    (take_led c.begin_in.new.world c.args.seat c.args.count c.args.area (begun_inside c.args.world.now c.begin_in.new.world c.args.seat (TakeTask c.args.area c.args.count) c.requires.inside c.begin_in.ensures.same)
    c.begin_in.ensures.resting c.requires.some c.requires.few (ap (λ (s : Seat). s.calling.job) begun) (ap (λ (s : Seat). s.blocks.owned) begun ∙ c.requires.owned)))
