-- Reading a range ends: each word that is loaded has a byte of it.
use Rattle.std.proofs.Common.{◌≡◌, ◌⊎◌, inl, inr, ℕ, zero, suc, ◌+◌, ◌-◌, ◌*◌, ◌/◌, ◌<◌, ◌≤◌, ◌==◌, nat_lt, Bool, true, false, refl, ap, arith}
use Rattle.std.proofs.Math.Nat.{mod-eq-sub-div-mul}
use Rattle.std.proofs.lemmas.Nat.{mod_below}
use Rattle.std.proofs.lemmas.Bool.{le-ltb, cases_lt}
use Rattle.log_core.proofs.BlockWords.{q_range}
use Rattle.pmem_words.specs.Maps.{map_at}
use Rattle.pmem_words.specs.Seats.{Seat}
use Rattle.pmem_words.specs.Scripts.{Lowers}
use Rattle.pmem_words.specs.declared.machine.Turn.TheVariants.{Go}
use Rattle.read_validate.specs.Ranges.{virt_of, next_block, is_unmapped, further, next_from, next_mapped, reading_at, after_laid, taken_of, word_laid, zeros_laid, range_script}

-- the next block is further on
next_further : (block_bytes place : ℕ) → 0 < block_bytes → place < (place / block_bytes + 1) * block_bytes
next_further block_bytes place some = (let split = mod-eq-sub-div-mul place block_bytes in let low = mod_below place block_bytes some in omega (arith, split, low))

-- behind the end there is nothing
pub past_end : (blocks end place : ℕ) (s : Seat) → end ≤ place → next_from blocks end place s ≡ end
past_end zero end place s past = refl
past_end (suc blocks) end place s past =
    ap (λ (low : Bool). further low (is_unmapped (map_at s.walk.map (virt_of s place))) (next_from blocks end (next_block s place) s) place end) (le-ltb place end past)

-- a place only moves on
pub next_least : (blocks end place : ℕ) (s : Seat) → 0 < s.geometry.block_bytes → place ≤ end → place ≤ next_from blocks end place s
next_least zero end place s some upto = upto
next_least (suc blocks) end place s some upto = by (λ inside. next_least blocks end (next_block s place) s some inside) (nat_lt place end) (is_unmapped (map_at s.walk.map (virt_of s place)))
  where
    further_on : (next_block s place ≤ end → next_block s place ≤ next_from blocks end (next_block s place) s) → (end < next_block s place) ⊎ (next_block s place ≤ end) → place ≤ next_from blocks end (next_block s place) s
    further_on later (inr inside) = (let on = next_further s.geometry.block_bytes place some in let least = later inside in omega (arith, on, least))
    further_on later (inl past) = (let is = past_end blocks end (next_block s place) s (omega (arith, past)) in omega (arith, is, upto))

    by : (next_block s place ≤ end → next_block s place ≤ next_from blocks end (next_block s place) s) → (low unmapped : Bool) → place ≤ further low unmapped (next_from blocks end (next_block s place) s) place end
    by later true true = further_on later (cases_lt end (next_block s place))
    by later true false = omega arith
    by later false unmapped = upto

pub range_lowers : Lowers range_script
range_lowers m s a admits go = by (next_mapped m.end (m.place + taken_of m) (word_laid m s a) == m.end) go
  where
    some : 0 < s.geometry.block_bytes
    some = (let wide = (q_range s.geometry).0 in omega (arith, wide))

    on : m.place + 1 ≤ next_mapped m.end (m.place + taken_of m) (word_laid m s a)
    on = (let inside = admits.0 in let at = mod_below m.place 8 (omega arith) in
        let least = next_least (65536 - virt_of s (m.place + taken_of m)) m.end (m.place + taken_of m) (word_laid m s a) some (omega (arith, inside)) in
        omega (arith, least, inside, at))

    by : (done : Bool) → (after_laid (reading_at done m.end (next_mapped m.end (m.place + taken_of m) (word_laid m s a)) (word_laid m s a)) m (zeros_laid m.end (m.place + taken_of m) (word_laid m s a))).turn ≡ Go →
        range_script.measure (after_laid (reading_at done m.end (next_mapped m.end (m.place + taken_of m) (word_laid m s a)) (word_laid m s a)) m (zeros_laid m.end (m.place + taken_of m) (word_laid m s a))).machine (zeros_laid m.end (m.place + taken_of m) (word_laid m s a)) < m.end - m.place
    by true e = cc
    by false e = (let low = admits.0 in let further = on in omega (arith, low, further))
