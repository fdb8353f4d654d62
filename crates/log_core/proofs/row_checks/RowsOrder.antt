-- The clauses on order and pins hold in the middle of a collection.
use Rattle.std.proofs.Common.{◌^◌, ◌≡◌, ◌≢◌, ◌≤◌, ◌<◌, ◌+◌, ◌-◌, ℕ, zero, suc, true, length, slice_index, refl, arith}
use Rattle.std.proofs.lemmas.Bool.{false≢true}
use Rattle.std.specs.Prelude.{slice_index_or}
use Rattle.log_entry.specs.Words.{head_word}
use Rattle.log_entry.specs.declared.layouts.TheConstants.{EMPTY, SEAL}
use Rattle.persistence.specs.Memory.{cell}
use Rattle.persistence.specs.Survivors.{value_at}
use Rattle.log_core.specs.Entries.{no_entry, head_place}
use Rattle.log_core.specs.Files.{entries}
use Rattle.log_core.specs.Cores.{nth_log, entries_used, is_full}
use Rattle.log_core.specs.Order.{nth_generation, front_of, HeadsInOrder, GenerationsRise, LogInOrder, LogStands}
use Rattle.log_core.specs.Pins.{PinHolds}
use Rattle.log_core.specs.Views.{view_of}
use Rattle.log_core.specs.worked_rows.Samples.{image_a, small_shape}
use Rattle.log_core.specs.worked_rows.Rows.{collected}
use Rattle.log_core.specs.worked_rows.Accepted.{OrderStands, PinsStand}
use Rattle.log_core.proofs.row_checks.RowChecks.{below_all, is_certain, is_growing, certain_by, growing_by}

each_head : (place : ℕ) → place < 2 → value_at (cell collected.memory head_place) place ≡ head_word (record { generation = 1 + place; block = front_of collected.logs (nth_generation collected.generations place) })
each_head zero less = refl
each_head (suc zero) less = refl
each_head (suc (suc place)) less = absurd (omega (arith, less))

small : (place : ℕ) → place < 2 → front_of collected.logs (nth_generation collected.generations place) < 2 ^ 16
small zero less = omega arith
small (suc zero) less = omega arith
small (suc (suc place)) less = absurd (omega (arith, less))

heads : HeadsInOrder image_a (λ word. cell collected.memory word) collected.generations collected.logs
heads = record {
  header = λ word less. certain_by (cell collected.memory word) (slice_index image_a.words word) (below_all 3 (λ w. is_certain (cell collected.memory w) (slice_index image_a.words w)) word refl less);
  some = omega arith;
  few = omega arith;
  count = refl;
  floor = omega arith;
  small = small;
  each = each_head;
}

to_end : (place : ℕ) → place < 2 → (nth_generation collected.generations place).base ≤ 1
to_end zero less = omega arith
to_end (suc zero) less = omega arith
to_end (suc (suc place)) less = absurd (omega (arith, less))

rise : (place : ℕ) → place + 1 < 2 → (nth_generation collected.generations place).base < (nth_generation collected.generations (place + 1)).base
rise zero less = omega arith
rise (suc place) less = absurd (omega (arith, less))

cuts_rise : (place : ℕ) → place + 1 < 2 → (nth_generation collected.generations place).cut ≤ (nth_generation collected.generations (place + 1)).cut
cuts_rise zero less = omega arith
cuts_rise (suc place) less = absurd (omega (arith, less))

cut_inside : (place : ℕ) → place < 2 → (nth_generation collected.generations place).cut < 2
cut_inside zero less = omega arith
cut_inside (suc zero) less = omega arith
cut_inside (suc (suc place)) less = absurd (omega (arith, less))

cut_base : (place : ℕ) → place < 2 → (nth_log collected.logs (nth_generation collected.generations place).cut).base ≡ (nth_generation collected.generations place).base
cut_base zero less = refl
cut_base (suc zero) less = refl
cut_base (suc (suc place)) less = absurd (omega (arith, less))

generations_rise : GenerationsRise image_a 1 collected.generations collected.logs
generations_rise = record { from_first = λ place less. omega arith; to_end = to_end; rise = rise; cuts_rise = cuts_rise; cut_inside = cut_inside; cut_base = cut_base }

next : (number : ℕ) → number + 1 < 2 → (nth_log collected.logs (number + 1)).base ≡ (nth_log collected.logs number).base + entries_used (nth_log collected.logs number)
next zero less = refl
next (suc number) less = absurd (omega (arith, less))

full : (number : ℕ) → number + 1 < 2 → is_full small_shape (nth_log collected.logs number).slots ≡ true
full zero less = refl
full (suc number) less = absurd (omega (arith, less))

inside : (number : ℕ) → number < 2 → length (nth_log collected.logs number).slots + 3 ≤ 8
inside zero less = omega arith
inside (suc zero) less = omega arith
inside (suc (suc number)) less = absurd (omega (arith, less))

used : (number k : ℕ) → k < length (nth_log collected.logs number).slots → slice_index (nth_log collected.logs number).slots k ≢ EMPTY
used zero zero less = λ same. omega (arith, same)
used zero (suc zero) less = λ same. omega (arith, same)
used zero (suc (suc k)) less = absurd (omega (arith, less))
used (suc zero) k less = absurd (omega (arith, less))
used (suc (suc number)) k less = absurd (omega (arith, less))

seal_last : (number k : ℕ) → slice_index (nth_log collected.logs number).slots k ≡ SEAL → (k + 1 ≡ length (nth_log collected.logs number).slots) × (0 < k)
seal_last zero zero same = absurd (omega (arith, same))
seal_last zero (suc zero) same = (refl, omega arith)
seal_last zero (suc (suc k)) same = absurd (omega (arith, same))
seal_last (suc zero) k same = absurd (omega (arith, same))
seal_last (suc (suc number)) k same = absurd (omega (arith, same))

each_entry : (number k : ℕ) → k < length (nth_log collected.logs number).slots → slice_index (nth_log collected.logs number).slots k ≢ SEAL
    → slice_index (nth_log collected.logs number).slots k ≡ (slice_index_or (entries image_a collected.history) ((nth_log collected.logs number).base + k - 0) no_entry).word
each_entry zero zero less entry = refl
each_entry zero (suc zero) less entry = absurd (entry refl)
each_entry zero (suc (suc k)) less entry = absurd (omega (arith, less))
each_entry (suc zero) k less entry = absurd (omega (arith, less))
each_entry (suc (suc number)) k less entry = absurd (omega (arith, less))

log_in_order : LogInOrder image_a (entries image_a collected.history) 1 collected.logs
log_in_order = record {
  count = refl;
  limit = omega arith;
  some = omega arith;
  first = refl;
  next = next;
  last = refl;
  full = full;
  inside = inside;
  used = used;
  seal_last = seal_last;
  entries = each_entry;
}

stands : (number : ℕ) → number < 2 → LogStands small_shape (λ word. cell collected.memory word) (nth_log collected.logs number) (nth_log collected.logs (number + 1)).block
stands zero less = record {
  base = certain_by (cell collected.memory 25) 4611686018427387904 refl;
  zero = certain_by (cell collected.memory 26) 0 refl;
  link = growing_by (cell collected.memory 24) 4 refl;
  slots = λ k within near. growing_by (cell collected.memory (24 + (k + 3))) (slice_index (nth_log collected.logs 0).slots k)
      (below_all 5 (λ j. is_growing (cell collected.memory (24 + (j + 3))) (slice_index (nth_log collected.logs 0).slots j)) k refl (omega (arith, within)));
}
stands (suc zero) less = record {
  base = certain_by (cell collected.memory 33) 4611686018427387905 refl;
  zero = certain_by (cell collected.memory 34) 0 refl;
  link = growing_by (cell collected.memory 32) 0 refl;
  slots = λ k within near. growing_by (cell collected.memory (32 + (k + 3))) (slice_index (nth_log collected.logs 1).slots k)
      (below_all 5 (λ j. is_growing (cell collected.memory (32 + (j + 3))) (slice_index (nth_log collected.logs 1).slots j)) k refl (omega (arith, within)));
}
stands (suc (suc number)) less = absurd (omega (arith, less))

pub order_stands : OrderStands
order_stands = record { heads = heads; generations_rise = generations_rise; log = log_in_order; chains = λ place kept number from to. stands number to }

words : (seat : ℕ) → seat < 2 → slice_index collected.memory.now.pins seat ≡ (view_of collected.views seat).seat.hold.pin
words zero less = refl
words (suc zero) less = refl
words (suc (suc seat)) less = absurd (omega (arith, less))

holds : (seat : ℕ) → PinHolds 1 2 (cell collected.memory head_place) (view_of collected.views seat).seat.hold
holds zero = record {
  was = λ some. record { place = 0; inside = omega arith; same = refl };
  valid_is = λ valid. refl;
  valid_some = λ valid none. omega (arith, none);
  from_first = λ some. omega arith;
  to_current = λ some. omega arith;
}
holds (suc zero) = record {
  was = λ some. record { place = 0; inside = omega arith; same = refl };
  valid_is = λ valid. refl;
  valid_some = λ valid none. omega (arith, none);
  from_first = λ some. omega arith;
  to_current = λ some. omega arith;
}
holds (suc (suc seat)) = record {
  was = λ some. absurd (some refl);
  valid_is = λ valid. refl;
  valid_some = λ valid none. false≢true valid;
  from_first = λ some. absurd (some refl);
  to_current = λ some. absurd (some refl);
}

pub pins_stand : PinsStand
pins_stand = record { words = words; holds = holds }
