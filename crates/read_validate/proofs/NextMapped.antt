-- The next mapped byte of a range, block by block.
use Rattle.std.proofs.Common.{◌≡◌, ◌⊎◌, inl, inr, ℕ, zero, suc, ◌+◌, ◌-◌, ◌*◌, ◌/◌, ◌%◌, ◌<◌, ◌≤◌, ◌==◌, nat_lt, Bool, true, false, Option, Some, None, refl, sym, ap, ◌∙◌, arith}
use Rattle.std.proofs.lemmas.Bool.{lt-ltb, cases_lt, ne_eqb, eq-eqb, eqb-true}
use Rattle.std.proofs.lemmas.Nat.{div-mul-add}
use Rattle.pmem_words.specs.Maps.{map_at}
use Rattle.pmem_words.specs.Seats.{Seat}
use Rattle.log_core.specs.Works.{words_of}
use Rattle.log_core.proofs.BlockWords.{q_range}
use Rattle.read_validate.specs.declared.range.ReadRange.{ReadRange}
use Rattle.read_validate.specs.Ranges.{virt_of, next_block, is_unmapped, further, next_from, next_mapped, word_in_block, reading_at, rest_of}
use Rattle.read_validate.specs.RangeLowering.{past_end, next_least}

-- no further than the end
further_most : (low unmapped : Bool) (next place end : ℕ) → next ≤ end → place ≤ end → further low unmapped next place end ≤ end
further_most true true next place end most upto = most
further_most true false next place end most upto = upto
further_most false unmapped next place end most upto = omega arith

next_most : (blocks end place : ℕ) (s : Seat) → place ≤ end → next_from blocks end place s ≤ end
next_most zero end place s upto = omega arith
next_most (suc blocks) end place s upto = further_most (nat_lt place end) (is_unmapped (map_at s.walk.map (virt_of s place))) (next_from blocks end (next_block s place) s) place end (by (λ inside. next_most blocks end (next_block s place) s inside) (cases_lt end (next_block s place))) upto
  where
    by : (next_block s place ≤ end → next_from blocks end (next_block s place) s ≤ end) → (end < next_block s place) ⊎ (next_block s place ≤ end) → next_from blocks end (next_block s place) s ≤ end
    by later (inr inside) = later inside
    by later (inl past) = (let is = past_end blocks end (next_block s place) s (omega (arith, past)) in omega (arith, is))

module _ (end place : ℕ) (s : Seat) where
  some_size : 0 < s.geometry.block_bytes
  some_size = (let wide = (q_range s.geometry).0 in omega (arith, wide))

  -- between the place and the end
  pub next_at_least : place ≤ end → place ≤ next_mapped end place s
  next_at_least upto = next_least (65536 - virt_of s place) end place s some_size upto

  pub next_at_most : place ≤ end → next_mapped end place s ≤ end
  next_at_most upto = next_most (65536 - virt_of s place) end place s upto

  -- behind the end
  pub next_past : end ≤ place → next_mapped end place s ≡ end
  next_past past = past_end (65536 - virt_of s place) end place s past

  -- behind the file that there may be
  pub next_beyond : 65536 ≤ virt_of s place → next_mapped end place s ≡ end
  next_beyond past = ap (λ (n : ℕ). next_from n end place s) (let none : 65536 - virt_of s place ≡ 0 = omega (arith, past) in none)

  module _ (low : place < end) (few : virt_of s place < 65536) where
    one_more : 65536 - virt_of s place ≡ suc (65536 - (virt_of s place + 1))
    one_more = omega (arith, few)

    here : next_mapped end place s ≡ further true (is_unmapped (map_at s.walk.map (virt_of s place))) (next_from (65536 - (virt_of s place + 1)) end (next_block s place) s) place end
    here = ap (λ (n : ℕ). next_from n end place s) one_more
        ∙ ap (λ (b : Bool). further b (is_unmapped (map_at s.walk.map (virt_of s place))) (next_from (65536 - (virt_of s place + 1)) end (next_block s place) s) place end) (lt-ltb place end low)

    -- in a mapped block
    next_here : (block : ℕ) → map_at s.walk.map (virt_of s place) ≡ Some block → next_mapped end place s ≡ place
    next_here block is = here ∙ ap (λ (b : Option ℕ). further true (is_unmapped b) (next_from (65536 - (virt_of s place + 1)) end (next_block s place) s) place end) is

    -- and in an unmapped one
    next_on : map_at s.walk.map (virt_of s place) ≡ None → next_mapped end place s ≡ next_mapped end (next_block s place) s
    next_on is = here ∙ (ap (λ (b : Option ℕ). further true (is_unmapped b) (next_from (65536 - (virt_of s place + 1)) end (next_block s place) s) place end) is
        ∙ ap (λ (v : ℕ). next_from (65536 - v) end (next_block s place) s) (sym virt_next))
      where
        virt_next : virt_of s (next_block s place) ≡ virt_of s place + 1
        virt_next = ap (λ (n : ℕ). n / s.geometry.block_bytes) (let same : next_block s place ≡ (virt_of s place + 1) * s.geometry.block_bytes + 0 = omega arith in same) ∙ div-mul-add (virt_of s place + 1) s.geometry.block_bytes 0 some_size

    -- so what is left is there, or is what is left from the next block on
    pub rest_here : (block : ℕ) → Some block ≡ map_at s.walk.map (virt_of s place) → rest_of end place s ≡ Some (record { place = place; end = end; word = block * words_of s + place % s.geometry.block_bytes / 8 })
    rest_here block is = ap (λ (n : ℕ). reading_at (n == end) end n s) (next_here block (sym is))
        ∙ (ap (λ (b : Bool). reading_at b end place s) (ne_eqb place end (λ same. omega (arith, low, same)))
        ∙ ap (λ (b : Option ℕ). Some (record { place = place; end = end; word = word_in_block b (place % s.geometry.block_bytes) s })) (sym is))

    pub rest_on : None ≡ map_at s.walk.map (virt_of s place) → rest_of end place s ≡ rest_of end (next_block s place) s
    rest_on is = ap (λ (n : ℕ). reading_at (n == end) end n s) (next_on (sym is))

  -- and none behind the end
  rest_none : next_mapped end place s ≡ end → rest_of end place s ≡ None
  rest_none is = ap (λ (n : ℕ). reading_at (n == end) end n s) is ∙ ap (λ (b : Bool). reading_at b end end s) (eq-eqb end end refl)

  pub rest_past : end ≤ place → rest_of end place s ≡ None
  rest_past past = rest_none (next_past past)

  pub rest_beyond : 65536 ≤ virt_of s place → rest_of end place s ≡ None
  rest_beyond past = rest_none (next_beyond past)

  -- up to which zeros are laid
  abbrev pub until : Option ReadRange → ℕ
  until None = end
  until (Some range) = range.place

  pub until_is : until (rest_of end place s) ≡ next_mapped end place s
  until_is = by (next_mapped end place s == end) refl
    where
      by : (b : Bool) → (next_mapped end place s == end) ≡ b → until (reading_at b end (next_mapped end place s) s) ≡ next_mapped end place s
      by true e = sym (eqb-true (next_mapped end place s) end e)
      by false e = refl
