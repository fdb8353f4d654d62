use Rattle.std.proofs.Common.{◌≡◌, ◌-◌, ◌+◌, ◌++◌, ℕ, List, replicate, ap, ◌∙◌, arith}
use Rattle.std.proofs.lemmas.List.{replicate-append-replicate, append_assoc}
use Rattle.pmem_words.specs.Seats.{Seat}
use Rattle.read_validate.proofs.range.lay_zeros.Goals as goal

pub loop-left-preserved : goal.loop-left-preserved
loop-left-preserved c =
    (let few = c.loop-left.invariant.few in
    let some = c.min-some.ensures in
    let s : Seat = c.args.seat.now in
    let first : ℕ = c.args.count - c.loop-left.left in
    record {
      few = omega (arith, few);
      seat = rw (c.lay_few.ensures, c.loop-left.invariant.seat)
          (ap (λ (l : List ℕ). record s { calling = record s.calling { bytes = l } })
          (append_assoc s.calling.bytes (replicate first 0) (replicate c.min-some.result 0)
          ∙ ap (λ (l : List ℕ). s.calling.bytes ++ l) (replicate-append-replicate first c.min-some.result 0 ∙ ap (λ (n : ℕ). replicate n 0) (let sum : first + c.min-some.result ≡ c.args.count - (c.loop-left.left - c.min-some.result) = omega (arith, few, some) in sum))));
    })
