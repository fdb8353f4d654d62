use Rattle.std.proofs.Common.{◌≡◌, ◌+◌, ℕ, length, suc, ap, ◌∙◌, arith}
use Rattle.pmem_words.specs.Seats.{Seat}
use Rattle.partial_blocks.specs.Composing.{place_composed, places_composed}
use Rattle.partial_blocks.proofs.WordsLaid.{place_bare, place_long}
use Rattle.partial_blocks.proofs.composing.compose.Goals as goal

pub loop-place-preserved : goal.loop-place-preserved
loop-place-preserved c =
    let i = c.loop-place.invariant in
    let place : ℕ = c.loop-place.place in
    let is = c.compose_place.ensures in
    let next : suc place ≡ place + 1 = omega arith in
    let same = place_bare c.args.offset place c.loop-place.seat in
    record {
      seat = is ∙ (ap (λ (u : Seat). place_composed c.args.offset place u) i.seat ∙ ap (λ (n : ℕ). places_composed c.args.offset n c.args.seat.now) next);
      many = ap (λ (u : Seat). length u.blocks.owned) is ∙ (place_long c.args.offset place c.loop-place.seat ∙ i.many);
      geometry = ap (λ (u : Seat). u.geometry) is ∙ (ap (λ (u : Seat). u.geometry) same ∙ i.geometry);
      calling = ap (λ (u : Seat). u.calling) is ∙ (ap (λ (u : Seat). u.calling) same ∙ i.calling);
    }
