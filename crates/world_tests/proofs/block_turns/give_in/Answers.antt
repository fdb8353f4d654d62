use Rattle.std.proofs.Common.{◌≡◌, length, sym, ◌∙◌, ap, subst, arith}
use Rattle.pmem_words.specs.declared.keeps.GiveFrom.TheVariants.{Owned as Listed}
use Rattle.pmem_words.specs.declared.keeps.Task.TheVariants.{Give as GiveTask}
use Rattle.pmem_words.specs.Seats.{Seat}
use Rattle.log_core.specs.Within.{no_record}
use Rattle.crash_model.specs.Worlds.{seat_of}
use Rattle.crash_model.specs.Led.{IsLed, HasLeft}
use Rattle.block_bitmap.specs.declared.give.Give.{Give}
use Rattle.block_bitmap.specs.declared.give.GiveFrom.TheVariants.{Owned}
use Rattle.block_bitmap.specs.Giving.{give_script}
use Rattle.world_tests.proofs.BlockLemmas.{begun_seat, begun_inside}
use Rattle.world_tests.proofs.Gives.{give_led}
use Rattle.world_tests.proofs.block_turns.give_in.Goals as goal

pub turn_give-requires-clause-led : goal.turn_give-requires-clause-led
turn_give-requires-clause-led c =
    (let begun = begun_seat c.args.world.now c.begin_in.new.world c.args.seat (GiveTask Listed) c.requires.inside c.begin_in.ensures.same in
    let owned : length (seat_of c.begin_in.new.world c.args.seat).blocks.owned ≡ 1 = ap (λ (s : Seat). length s.blocks.owned) begun ∙ c.requires.owned in
    subst (λ (m : Give). IsLed c.args.seat give_script no_record (λ out t v. HasLeft out t v) m c.begin_in.new.world) (sym c.new-give.ensures)
    (give_led c.begin_in.new.world c.args.seat Owned (begun_inside c.args.world.now c.begin_in.new.world c.args.seat (GiveTask Listed) c.requires.inside c.begin_in.ensures.same) c.begin_in.ensures.resting (omega (arith, owned))))
