use Rattle.std.proofs.Common.{List, sym, subst, ◌∙◌}
use Rattle.pmem_words.specs.Seats.{Seat}
use Rattle.crash_model.specs.Images.{SharedNow}
use Rattle.crash_model.specs.Worlds.{image_of, world_of}
use Rattle.crash_model.specs.Led.{IsResting}
use Rattle.world_tests.proofs.pin_tests.a_pin_is_driven_at_one_seat.Goals as goal

pub pin_at-head-requires-clause-resting : goal.pin_at-head-requires-clause-resting
pin_at-head-requires-clause-resting g c = subst (λ (i : SharedNow). IsResting (world_of i c.as_mut_slice.result.now)) (sym c.into_parts-image.ensures.image)
    (subst (λ (seats : List Seat). IsResting (world_of (image_of c.in_ok-world.world) seats)) (sym (c.as_mut_slice.ensures.value ∙ c.into_parts-image.ensures.seats)) c.in_ok-world.ensures.resting)
