-- The present head: it is the present generation's.
use Rattle.std.proofs.Common.{◌≡◌, ◌<◌, ◌≤◌, ◌+◌, ◌^◌, ℕ, length, refl, sym, ◌∙◌, ap, subst, arith, ◌⊎◌, inl, inr}
use Rattle.std.proofs.lemmas.List.{get_or_push}
use Rattle.log_entry.specs.Fields.{field}
use Rattle.log_entry.specs.Words.{head_word}
use Rattle.log_entry.specs.declared.layouts.TheConstants.{HEAD_GENERATION}
use Rattle.persistence.specs.Memory.{Cell, cell}
use Rattle.persistence.specs.Survivors.{value_at}
use Rattle.log_core.specs.Entries.{head_place}
use Rattle.log_core.specs.Views.{view_of}
use Rattle.log_core.specs.Origin.{Origin, first_generation}
use Rattle.log_core.specs.Cores.{Core, current, head_floor, IsPinned}
use Rattle.log_core.specs.Order.{nth_generation, front_of}
use Rattle.log_core.specs.Pins.{WasHead, PinHolds}
use Rattle.log_core.specs.Invariant.{Invariant, KeptIn}

-- the present value is the last one
pub last_value : (c : Cell) → value_at c (length c.past) ≡ c.present
last_value c = get_or_push c.past c.present 0 (length c.past) refl

pub generation_field : (generation block : ℕ) → generation < 2 ^ 32 → block < 2 ^ 16 → field HEAD_GENERATION (head_word (record { generation = generation; block = block })) ≡ generation
generation_field generation block few small = omega (arith, few, small)

module _ (o : Origin) (c : Core) (inv : Invariant o c) where
  abbrev head : Cell
  head = cell c.memory head_place

  -- the present generation has the last place
  pub last_place : length c.generations ≡ length head.past + 1
  last_place = inv.order.heads.count

  pub current_is : current o c.generations ≡ first_generation o + length head.past
  current_is = (let e = last_place in omega (arith, e))

  pub current_kept : KeptIn o c (length head.past)
  current_kept = record { inside = (let e = last_place in omega (arith, e)); why = inl inv.order.heads.floor }

  front_small : front_of c.logs (nth_generation c.generations (length head.past)) < 2 ^ 16
  front_small = inv.order.heads.small (length head.past) current_kept.inside

  -- the head word has the present generation
  pub head_generation : field HEAD_GENERATION head.present ≡ current o c.generations
  head_generation =
      (let e = sym (last_value head) ∙ inv.order.heads.each (length head.past) current_kept.inside in
      let few = inv.order.heads.few in
      let count = last_place in
      ap (field HEAD_GENERATION) e ∙ (generation_field (first_generation o + length head.past) _ (omega (arith, few, count)) front_small ∙ sym current_is))

  pub was_head : WasHead head head.present
  was_head = record { place = length head.past; inside = omega arith; same = last_value head }

  pub some_generation : 0 < current o c.generations
  some_generation = (let some = inv.order.heads.some in let e = current_is in omega (arith, some, e))

  -- the place of the present generation is kept
  pub kept_current : (place : ℕ) → current o c.generations ≡ first_generation o + place → KeptIn o c place
  kept_current place e = subst (λ (k : ℕ). KeptIn o c k) (let is = current_is in omega (arith, e, is)) current_kept

  pub present_place : (place : ℕ) → current o c.generations ≡ first_generation o + place → place + 1 ≡ length c.generations
  present_place place e = (let is = current_is in let last = last_place in omega (arith, e, is, last))

  -- the generation of a valid pin is kept
  pub kept_place : (place : ℕ) → (place + 1 ≡ length c.generations) ⊎ IsPinned o c.views place → KeptIn o c place
  kept_place place (inl last) = record { inside = omega (arith, last); why = inl (let floor = inv.order.heads.floor in let e = last_place in omega (arith, floor, e, last)) }
  kept_place place (inr pin) = record { inside = pinned_inside (inv.pins.holds pin.seat); why = inr pin }
    where
      pinned_inside : PinHolds (first_generation o) (current o c.generations) head (view_of c.views pin.seat).seat.hold → place < length c.generations
      pinned_inside holds = (let low = holds.to_current (holds.valid_some pin.valid) in let same = pin.same in let last = last_place in omega (arith, low, same, last))

  -- each head that a crash may leave is of the present generation at most
  pub floor_low : first_generation o + head_floor c.memory ≤ current o c.generations
  floor_low = (let floor = inv.order.heads.floor in let is = current_is in omega (arith, floor, is))

  -- a word that the head was is not 0, and of the present generation at most
  pub was_low : (word : ℕ) → WasHead head word → field HEAD_GENERATION word ≤ current o c.generations
  was_low word was =
      (let inside : was.place < length c.generations = (let e = last_place in let low = was.inside in omega (arith, e, low)) in
      let e = sym was.same ∙ inv.order.heads.each was.place inside in
      let few = inv.order.heads.few in
      let is = current_is in
      let low = was.inside in
      let count = last_place in
      let generation : field HEAD_GENERATION word ≡ first_generation o + was.place =
      ap (field HEAD_GENERATION) e ∙ generation_field (first_generation o + was.place) (front_of c.logs (nth_generation c.generations was.place)) (omega (arith, few, low, count)) (inv.order.heads.small was.place inside) in
      omega (arith, generation, is, low))
