-- Bytes of a range that are in no mapped block are laid as zeros, by the call's own rule.
use Rattle.std.proofs.Common.{◌≡◌, ◌⊎◌, inl, inr, ℕ, ◌+◌, ◌-◌, ◌/◌, ◌%◌, ◌<◌, ◌≤◌, length, replicate, slice_index, Option, None, sym, subst, arith}
use Rattle.std.proofs.lemmas.Bool.{cases_lt}
use Rattle.std.proofs.lemmas.List.{get_or_past, get_or-replicate, length-replicate}
use Rattle.pmem_words.specs.Maps.{map_at}
use Rattle.pmem_words.specs.Seats.{Seat}
use Rattle.pmem_words.specs.declared.keeps.Task.TheVariants.{Pread}
use Rattle.log_core.specs.Works.{MayReadFile, MayLay, IsByteIn, IsByteAt}
use Rattle.read_validate.specs.Looking.{count_in}
use Rattle.read_validate.specs.Ranges.{virt_of, next_mapped}
use Rattle.read_validate.proofs.NextMapped.{next_at_most}
use Rattle.read_validate.proofs.RangePlaces.{unmapped_between}

-- a seat's map has a place for each virtual block
abbrev pub HasWholeMap : Seat → Type 0
HasWholeMap s = length s.walk.map ≡ 65536

-- up to the next mapped byte all are unmapped
pub none_mapped : (s : Seat) → HasWholeMap s → (end place p : ℕ) → place ≤ p → p < next_mapped end place s → map_at s.walk.map (virt_of s p) ≡ None
none_mapped s whole end place p from low = by (cases_lt (virt_of s p) 65536)
  where
    by : (virt_of s p < 65536) ⊎ (65536 ≤ virt_of s p) → map_at s.walk.map (virt_of s p) ≡ None
    by (inl few) = unmapped_between s (65536 - virt_of s place) end place p (omega arith) few from low
    by (inr past) = get_or_past s.walk.map (virt_of s p) None (omega (arith, whole, past))

-- and 0
pub zero_at : (s : Seat) (p byte : ℕ) → map_at s.walk.map (p / s.geometry.block_bytes) ≡ None → byte ≡ 0 → IsByteAt s p byte
zero_at s p byte none zero = subst (λ (found : Option ℕ). IsByteIn s found (p % s.geometry.block_bytes) byte) (sym none) zero

module _ (offset count end : ℕ) (s : Seat) (reads : MayReadFile s) (job : s.calling.job ≡ Pread offset count) (whole : HasWholeMap s) where
  abbrev place : ℕ
  place = offset + length s.calling.bytes

  abbrev next : ℕ
  next = next_mapped end place s

  pub may_lay_zeros : place ≤ end → end ≡ offset + count_in offset count s → 0 < count_in offset count s → MayLay s (replicate (next - place) 0)
  may_lay_zeros upto end_is some =
      (let most = next_at_most end place s upto in
      let long = length-replicate {A = ℕ} (next - place) 0 in
      record {
        reads = reads;
        offset = offset;
        count = count;
        job = job;
        few = omega (arith, most, long, end_is);
        inside = omega (arith, most, long, end_is, some);
        each = λ k low. zero_at s (place + k) (slice_index (replicate (next - place) 0) k) (none_mapped s whole end place (place + k) (omega arith) (omega (arith, low, long)))
            (get_or-replicate (next - place) k 0 0 (omega (arith, low, long)));
      })
