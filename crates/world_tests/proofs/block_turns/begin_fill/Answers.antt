use Rattle.std.proofs.Common.{◌≡◌, ◌^◌, ◌<◌, ℕ, List, length, slice_index, sym, ◌∙◌, ap, subst, arith}
use Rattle.pmem_words.specs.declared.keeps.Task.TheVariants.{Fill as FillTask}
use Rattle.pmem_words.specs.Seats.{Seat}
use Rattle.log_core.specs.Within.{no_record}
use Rattle.crash_model.specs.Worlds.{WorldNow, seat_of, set_seat}
use Rattle.crash_model.specs.Led.{IsLed, HasLeft}
use Rattle.block_bitmap.specs.declared.fill.Fill.{Fill}
use Rattle.block_bitmap.specs.Filling.{fill_script}
use Rattle.world_tests.proofs.BlockLemmas.{begun_seat, begun_inside, same_seat}
use Rattle.world_tests.proofs.Fills.{fill_led}
use Rattle.world_tests.proofs.block_turns.begin_fill.Goals as goal

pub returns-clause-led : goal.returns-clause-led
returns-clause-led c =
    (let begun = begun_seat c.args.world.now c.begin_in.new.world c.args.seat (FillTask 0 1) c.requires.inside c.begin_in.ensures.same in
    let owned : length (seat_of c.begin_in.new.world c.args.seat).blocks.owned ≡ 1 = ap (λ (s : Seat). length s.blocks.owned) begun ∙ c.requires.owned in
    let small : (k : ℕ) → slice_index (seat_of c.begin_in.new.world c.args.seat).blocks.contents k < 2 ^ 64 =
    subst (λ (s : Seat). (k : ℕ) → slice_index s.blocks.contents k < 2 ^ 64) c.seat.ensures.value (subst (λ (words : List ℕ). (k : ℕ) → slice_index words k < 2 ^ 64) c.contents.ensures.words c.bound.ensures) in
    subst (λ (w : WorldNow). IsLed c.args.seat fill_script no_record (λ out t v. HasLeft out t v) c.new.result w)
    (sym (ap (λ (s : Seat). set_seat c.begin_in.new.world c.args.seat s) c.seat.ensures.value ∙ same_seat c.begin_in.new.world c.args.seat))
    (subst (λ (m : Fill). IsLed c.args.seat fill_script no_record (λ out t v. HasLeft out t v) m c.begin_in.new.world) (sym c.new.ensures)
    (fill_led c.begin_in.new.world c.args.seat 0 1 (begun_inside c.args.world.now c.begin_in.new.world c.args.seat (FillTask 0 1) c.requires.inside c.begin_in.ensures.same) c.begin_in.ensures.resting
    (omega arith) (omega (arith, owned)) small c.begin_in.ensures.alone)))
