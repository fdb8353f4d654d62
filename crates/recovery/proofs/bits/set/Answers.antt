use Rattle.std.proofs.Common.{◌≡◌, ◌<◌, ◌/◌, length, arith}
use Rattle.recovery.proofs.BitsLemmas.{bit_added}
use Rattle.recovery.proofs.bits.set.Goals as goal

pub returns-then-place-taken : goal.returns-then-place-taken
returns-then-place-taken c = λ shape blocks below has.
    let place : c.from-place.result ≡ c.args.block / 64 = omega arith in
    let inside : c.args.block / 64 < length c.args.taken.now = omega arith in
    rw place (bit_added shape c.args.taken.now blocks c.args.block inside has)
