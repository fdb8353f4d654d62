use Rattle.std.proofs.Common.{arith}
use Rattle.world_tests.proofs.PinLemmas.{looks_still}
use Rattle.world_tests.proofs.pin_tests.a_pin_is_found_by_another_seat.Goals as goal

pub scan_in-requires-clause-may : goal.scan_in-requires-clause-may
scan_in-requires-clause-may g c = looks_still c.in_ok-world.world c.pin_in.new.world 1 2 c.in_ok-world.ensures.many c.in_ok-head.ensures.many
    (c.in_ok-head.ensures.others 1 (λ e. omega (arith, e))) c.in_ok-world.ensures.scan
