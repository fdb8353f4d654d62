-- Bytes of a range, by their blocks and words.
use Rattle.std.proofs.Common.{◌≡◌, ◌⊎◌, inl, inr, ℕ, zero, suc, ◌+◌, ◌-◌, ◌*◌, ◌/◌, ◌%◌, ◌<◌, ◌≤◌, nat_lt, Bool, true, false, Option, Some, None, refl, ap, subst, ◌∙◌, arith}
use Rattle.std.specs.Int.{◌∣◌}
use Rattle.std.proofs.Math.Nat.{dvd-mul_right, mod-mod_of_dvd, div-add-mod', div-mul-le_self}
use Rattle.std.proofs.lemmas.Bool.{ltb-false, cases_lt}
use Rattle.std.proofs.lemmas.Nat.{mod_below, div-mul-add, mod-mul-add, le-div}
use Rattle.pmem_words.specs.Maps.{map_at}
use Rattle.pmem_words.specs.Seats.{Seat}
use Rattle.log_core.specs.Works.{words_of}
use Rattle.log_core.proofs.BlockWords.{q_range}
use Rattle.log_core.proofs.WordBytesAt.{eight_words}
use Rattle.read_validate.specs.Ranges.{virt_of, next_block, is_unmapped, further, next_from}

-- a byte before the next block is in the same one
same_block : (place p size : ℕ) → 0 < size → place ≤ p → p < (place / size + 1) * size → p / size ≡ place / size
same_block place p size some from low =
    (let split = div-add-mod' place size in
    let rest : p ≡ place / size * size + (p - place / size * size) = omega (arith, split, from) in
    ap (λ (n : ℕ). n / size) rest ∙ div-mul-add (place / size) size (p - place / size * size) (omega (arith, low, some)))

module _ (s : Seat) where
  abbrev size : ℕ
  size = s.geometry.block_bytes

  some_size : 0 < size
  some_size = (let wide = (q_range s.geometry).0 in omega (arith, wide))

  low_virt : (place p : ℕ) → place ≤ p → virt_of s place ≤ virt_of s p
  low_virt place p from = le-div (virt_of s place) p size some_size (let whole = div-mul-le_self place size in omega (arith, whole, from))

  is_none : (found : Option ℕ) → is_unmapped found ≡ true → found ≡ None
  is_none None is = refl
  is_none (Some block) is = cc

  is_some : (found : Option ℕ) → is_unmapped found ≡ false → (block : ℕ) × (found ≡ Some block)
  is_some None is = cc
  is_some (Some block) is = (block, refl)

  -- blocks that are passed over are unmapped
  pub unmapped_between : (blocks end place p : ℕ) → 65536 ≤ virt_of s place + blocks → virt_of s p < 65536 → place ≤ p → p < next_from blocks end place s → map_at s.walk.map (virt_of s p) ≡ None
  unmapped_between zero end place p all few from low = absurd (let up = low_virt place p from in omega (arith, all, few, up))
  unmapped_between (suc blocks) end place p all few from low =
      by (λ past. unmapped_between blocks end (next_block s place) p (let next = virt_next place in omega (arith, all, next)) few past) (nat_lt place end) (is_unmapped (map_at s.walk.map (virt_of s place))) refl refl low (cases_lt p (next_block s place))
    where
      virt_next : (n : ℕ) → virt_of s (next_block s n) ≡ virt_of s n + 1
      virt_next n = ap (λ (k : ℕ). k / size) (let same : next_block s n ≡ (virt_of s n + 1) * size + 0 = omega arith in same) ∙ div-mul-add (virt_of s n + 1) size 0 some_size

      by : (next_block s place ≤ p → p < next_from blocks end (next_block s place) s → map_at s.walk.map (virt_of s p) ≡ None) → (under unmapped : Bool) → nat_lt place end ≡ under → is_unmapped (map_at s.walk.map (virt_of s place)) ≡ unmapped
          → p < further under unmapped (next_from blocks end (next_block s place) s) place end → (p < next_block s place) ⊎ (next_block s place ≤ p) → map_at s.walk.map (virt_of s p) ≡ None
      by later true true e f below (inl here) = ap (λ (v : ℕ). map_at s.walk.map v) (same_block place p size some_size from here) ∙ is_none (map_at s.walk.map (virt_of s place)) f
      by later true true e f below (inr past) = later past below
      by later true false e f below where_is = absurd (omega (arith, below, from))
      by later false unmapped e f below where_is = absurd (let past = ltb-false place end e in omega (arith, below, past, from))

  -- and the next one is mapped
  pub next_is_mapped : (blocks end place : ℕ) → next_from blocks end place s < end → (block : ℕ) × (map_at s.walk.map (virt_of s (next_from blocks end place s)) ≡ Some block)
  next_is_mapped zero end place low = absurd (omega (arith, low))
  next_is_mapped (suc blocks) end place low = by (next_is_mapped blocks end (next_block s place)) (nat_lt place end) (is_unmapped (map_at s.walk.map (virt_of s place))) refl low
    where
      by : (next_from blocks end (next_block s place) s < end → (block : ℕ) × (map_at s.walk.map (virt_of s (next_from blocks end (next_block s place) s)) ≡ Some block)) → (under unmapped : Bool) → is_unmapped (map_at s.walk.map (virt_of s place)) ≡ unmapped
          → further under unmapped (next_from blocks end (next_block s place) s) place end < end → (block : ℕ) × (map_at s.walk.map (virt_of s (further under unmapped (next_from blocks end (next_block s place) s) place end)) ≡ Some block)
      by later true true f below = later below
      by later true false f below = is_some (map_at s.walk.map (virt_of s place)) f
      by later false unmapped f below = absurd (omega (arith, below))

  -- a byte of the word at a place, by the block's word and its byte there
  pub in_word : (place k : ℕ) → place % 8 + k < 8 → (virt_of s (place + k) ≡ virt_of s place) × ((place + k) % size / 8 ≡ place % size / 8) × ((place + k) % size % 8 ≡ place % 8 + k) × (place % size / 8 < words_of s)
  in_word place k few = (
    ap (λ (n : ℕ). n / size) whole ∙ div-mul-add (place / size) size (place % size + k) inside,
    ap (λ (n : ℕ). n / 8) rest ∙ (let same : (place % size + k) / 8 ≡ place % size / 8 = omega (arith, aligned, few) in same),
    ap (λ (n : ℕ). n % 8) rest ∙ (let same : (place % size + k) % 8 ≡ place % 8 + k = omega (arith, aligned, few) in same),
    (let low = mod_below place size some_size in let eight = eight_words size s.geometry.block_allowed in omega (arith, low, eight)),
  )
    where
      aligned : place % size % 8 ≡ place % 8
      aligned = mod-mod_of_dvd 8 place (subst (λ (n : ℕ). 8 ∣ n) (eight_words size s.geometry.block_allowed) (dvd-mul_right 8 (size / 8)))

      inside : place % size + k < size
      inside = (let low = mod_below place size some_size in let eight = eight_words size s.geometry.block_allowed in let same = aligned in omega (arith, low, eight, same, few))

      whole : place + k ≡ place / size * size + (place % size + k)
      whole = (let split = div-add-mod' place size in omega (arith, split))

      rest : (place + k) % size ≡ place % size + k
      rest = ap (λ (n : ℕ). n % size) whole ∙ mod-mul-add (place / size) size (place % size + k) inside
