use Rattle.std.proofs.Common.{◌≡◌, ℕ, Option, sym, ap, ◌∙◌, arith}
use Rattle.pmem_words.specs.Seats.{Seat}
use Rattle.read_validate.specs.declared.range.ReadRange.{ReadRange}
use Rattle.read_validate.specs.Ranges.{next_mapped}
use Rattle.read_validate.proofs.NextMapped.{next_at_least, next_at_most, until, until_is}
use Rattle.read_validate.proofs.range.ReadRange.begin.Goals as goal
use Rattle.read_validate.proofs.range.ReadRange.begin.Goals.{in-Some, in-None}

pub overflow_sub-until : goal.overflow_sub-until
overflow_sub-until c =
    (let end : ℕ = c.args.end in
    let place : ℕ = c.args.place in
    let s : Seat = c.args.seat.now in
    let least = next_at_least end place s c.requires.upto in
    let is : c.match-next.until ≡ next_mapped end place s = elim c.match-next.branch [
      | in-Some w ↦ w.until-is ∙ (ap (λ (r : Option ReadRange). until end place s r) (sym w.in-Some.is ∙ c.next_mapped-next.ensures) ∙ until_is end place s)
      | in-None w ↦ w.until-is ∙ (ap (λ (r : Option ReadRange). until end place s r) (sym w.in-None.is ∙ c.next_mapped-next.ensures) ∙ until_is end place s)
    ] in
    omega (arith, least, is))

pub lay_zeros-requires : goal.lay_zeros-requires
lay_zeros-requires c =
    (let end : ℕ = c.args.end in
    let place : ℕ = c.args.place in
    let s : Seat = c.args.seat.now in
    let most = next_at_most end place s c.requires.upto in
    let room = c.requires.room in
    let is : c.match-next.until ≡ next_mapped end place s = elim c.match-next.branch [
      | in-Some w ↦ w.until-is ∙ (ap (λ (r : Option ReadRange). until end place s r) (sym w.in-Some.is ∙ c.next_mapped-next.ensures) ∙ until_is end place s)
      | in-None w ↦ w.until-is ∙ (ap (λ (r : Option ReadRange). until end place s r) (sym w.in-None.is ∙ c.next_mapped-next.ensures) ∙ until_is end place s)
    ] in
    omega (arith, most, room, is))
