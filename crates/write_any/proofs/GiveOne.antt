-- Giving one owned block back is lawful within a core.
use Rattle.std.proofs.Common.{◌≡◌, ◌≢◌, ℕ, ◌*◌, ◌/◌, ◌%◌, ◌^◌, ◌<◌, ◌==◌, ◌||◌, not, Bool, true, false, List, [], ◌∷◌, length, refl, sym, ap, subst, arith}
use Rattle.std.specs.List.{list_all, range_with_len}
use Rattle.std.specs.Int.{bit_at}
use Rattle.std.proofs.Math.Pow.{pow-lt}
use Rattle.std.proofs.lemmas.Bool.{eqb-true, eqb-false, and_parts, and_from}
use Rattle.std.proofs.lemmas.Nat.Bits.{bit_at-pow_other}
use Rattle.pmem_words.specs.Owned.{is_among}
use Rattle.pmem_words.specs.Seats.{Seat}
use Rattle.log_image.specs.Chains.{is_listed}
use Rattle.log_core.specs.Views.{Ghost, view_of}
use Rattle.log_core.specs.Origin.{Origin}
use Rattle.log_core.specs.Cores.{Core}
use Rattle.log_core.specs.Needs.{owned_numbers}
use Rattle.log_core.specs.Steps.{ClearsBits, effect, ghost_after, give_if, not_found}
use Rattle.log_core.specs.May.{OfOwned}
use Rattle.log_core.specs.Invariant.{Invariant}
use Rattle.log_core.specs.Knows.{Knows}
use Rattle.log_core.specs.Within.{no_record, Serves}
use Rattle.log_core.proofs.machines.Entering.{enters_same}
use Rattle.log_core.proofs.machines.MachineLaws.{Law, promised}
use Rattle.block_bitmap.proofs.OwnedInCore.{low_block}
use Rattle.log_blocks.proofs.OneExchange.{IsAtFirst, at_first, serves_at_first}
use Rattle.write_any.specs.GivingOne.{give_one_of, one_given, give_one_script, give_one_lowers}
use Rattle.write_any.specs.GiveOneWithin.{MayGiveOne, HasGivenOne, GivesOneWithin}

-- the bit is of the block alone
pub one_bit : (block other : ℕ) → is_among (block / 64) (2 ^ (block % 64)) other ≡ true → other ≡ block
one_bit block other among = by (other % 64 == block % 64) refl
  where
    word : other / 64 ≡ block / 64
    word = eqb-true (other / 64) (block / 64) (and_parts (other / 64 == block / 64) (bit_at (2 ^ (block % 64)) (other % 64) == 1) among).0

    bit : bit_at (2 ^ (block % 64)) (other % 64) ≡ 1
    bit = eqb-true (bit_at (2 ^ (block % 64)) (other % 64)) 1 (and_parts (other / 64 == block / 64) (bit_at (2 ^ (block % 64)) (other % 64) == 1) among).1

    by : (b : Bool) → (other % 64 == block % 64) ≡ b → other ≡ block
    by true e = (let same = eqb-true (other % 64) (block % 64) e in let w = word in omega (arith, same, w))
    by false e = absurd (let none = bit_at-pow_other (block % 64) (other % 64) (eqb-false (other % 64) (block % 64) e) in let one = bit in omega (arith, none, one))

module _ (block : ℕ) where
  abbrev mine : ℕ → Bool
  mine other = is_among (block / 64) (2 ^ (block % 64)) other

  of_owned : (s : Seat) → is_listed (owned_numbers s.blocks.owned) block ≡ true → (other : ℕ) → mine other ≡ true → is_listed (owned_numbers s.blocks.owned) other ≡ true
  of_owned s owned other among = subst (λ (b : ℕ). is_listed (owned_numbers s.blocks.owned) b ≡ true) (sym (one_bit block other among)) owned

  each_owned : (s : Seat) → is_listed (owned_numbers s.blocks.owned) block ≡ true → (blocks : List ℕ) → list_all (λ (other : ℕ). not (mine other) || is_listed (owned_numbers s.blocks.owned) other) blocks ≡ true
  each_owned s owned [] = refl
  each_owned s owned (b ∷ blocks) = and_from (not (mine b) || is_listed (owned_numbers s.blocks.owned) b) (list_all (λ (other : ℕ). not (mine other) || is_listed (owned_numbers s.blocks.owned) other) blocks) (by (mine b) refl) (each_owned s owned blocks)
    where
      by : (yes : Bool) → mine b ≡ yes → (not yes || is_listed (owned_numbers s.blocks.owned) b) ≡ true
      by true is = of_owned s owned b is
      by false is = refl

  effect_is : (s : Seat) (g : Ghost) (f : ℕ) → is_listed (owned_numbers s.blocks.owned) block ≡ true → effect g.marks s (ClearsBits (block / 64) (2 ^ (block % 64))) f ≡ one_given block s
  effect_is s g f owned = ap (λ (b : Bool). not_found (give_if b s (block / 64) (2 ^ (block % 64))) (block / 64) (2 ^ (block % 64))) (each_owned s owned (range_with_len (block / 64 * 64) 64))

  module _ (o : Origin) (seat : ℕ) (s : Seat) (g : Ghost) (may : MayGiveOne block o seat s g) where
    inside : (c : Core) (pin began : ℕ) → Invariant o c → (view_of c.views seat).parts ≢ [] → Knows o c seat s g pin began → block / 64 < length s.blocks.found
    inside c pin began inv unspent knows = (let low = low_block o seat c s g pin began inv knows block may.owned in let long = (knows.fits unspent).found in omega (arith, low, long))

    pub give_one_serves : Serves o seat give_one_script no_record (λ m t h. IsAtFirst (give_one_of block) s g m t h) (HasGivenOne block o seat s g)
    give_one_serves = serves_at_first o seat give_one_script (HasGivenOne block o seat s g) (give_one_of block) s g (ClearsBits (block / 64) (2 ^ (block % 64)))
        (λ c pin began inv unspent knows. refl)
        (λ c pin began inv unspent knows. record { inside = inside c pin began inv unspent knows; small = pow-lt {j = 64} (omega arith); given = OfOwned (of_owned s may.owned) })
        inside
        (λ f found admits. enters_same (ghost_after g s (effect g.marks s (ClearsBits (block / 64) (2 ^ (block % 64))) f) (ClearsBits (block / 64) (2 ^ (block % 64))) f)
        (effect g.marks s (ClearsBits (block / 64) (2 ^ (block % 64))) f) (one_given block s) (effect_is s g f may.owned))
        (λ f go. cc)
        (λ f out found admits done. record { left = refl; ghost = refl })

abbrev pub give_one_law : (block : ℕ) → Law give_one_script (give_one_of block)
give_one_law block = record {
  may = MayGiveOne block;
  stands = λ o seat s0 g0 m s g. IsAtFirst (give_one_of block) s0 g0 m s g;
  left = HasGivenOne block;
  begins = λ o seat s g may. at_first (give_one_of block) s g;
  serves = λ o seat s0 g0 may. give_one_serves block o seat s0 g0 may;
  lowers = give_one_lowers;
}

pub gives_one_within : GivesOneWithin
gives_one_within block = promised give_one_script (give_one_of block) (give_one_law block)
