use Rattle.std.proofs.Common.{◌≡◌, ℕ, sym, ◌∙◌, ap, subst, arith}
use Rattle.pmem_words.specs.Seats.{Seat}
use Rattle.crash_model.specs.Worlds.{WorldNow, seat_of}
use Rattle.crash_model.specs.Led.{IsResting}
use Rattle.world_tests.proofs.block_tests.a_filled_block_outlasts_a_crash.Goals as goal

-- the second seat is not the first
other : ◌≡◌ {A = ℕ} 1 0 → ⊥
other same = omega (arith, same)

pub set_all-requires-clause-resting : goal.set_all-requires-clause-resting
set_all-requires-clause-resting g c = subst (λ (w : WorldNow). IsResting w) (sym c.owns_only.ensures.same) c.in_ok-taken.ensures.resting

pub take_in-requires-2-clause-owned : goal.take_in-requires-2-clause-owned
take_in-requires-2-clause-owned g c =
    ap (λ (s : Seat). s.blocks.owned) (c.in_ok-end_fill.ensures.others 1 other ∙ c.in_ok-go_on.ensures.others 1 other ∙ c.begin_fill-fill.ensures.others 1 other ∙ c.set_all.ensures.others 1 other
    ∙ ap (λ (w : WorldNow). seat_of w 1) c.owns_only.ensures.same ∙ c.in_ok-taken.ensures.others 1 other)
    ∙ c.in_ok-world.ensures.owned 1 (omega arith)

pub give_in-requires-clause-resting : goal.give_in-requires-clause-resting
give_in-requires-clause-resting g c = subst (λ (w : WorldNow). IsResting w) (sym c.owns_only-2.ensures.same) c.in_ok-taken-2.ensures.resting
