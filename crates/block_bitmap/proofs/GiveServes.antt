-- Giving owned blocks back is lawful within a core.
use Rattle.std.proofs.Common.{◌≡◌, ◌≢◌, ◌<◌, ◌≤◌, ◌+◌, ◌*◌, ◌/◌, ◌⊎◌, inl, inr, ◌==◌, ◌||◌, not, ℕ, Bool, true, false, List, [], ◌∷◌, length, refl, sym, ap, ◌∙◌, arith}
use Rattle.std.specs.List.{AllByRecursion, list_all, range_with_len}
use Rattle.std.proofs.lemmas.Bool.{eqb-true, eqb-false, eq-eqb, and_parts, and_from, or_left, or_right}
use Rattle.std.proofs.lemmas.List.{nil_from_length}
use Rattle.pmem_words.specs.Owned.{is_among}
use Rattle.pmem_words.specs.declared.owned.OwnedBlock.{OwnedBlock}
use Rattle.pmem_words.specs.Seats.{Seat}
use Rattle.pmem_words.specs.declared.machine.Turn.{Turn}
use Rattle.pmem_words.specs.declared.machine.Turn.TheVariants.{Go, Done}
use Rattle.log_image.specs.Chains.{is_listed}
use Rattle.log_core.specs.Views.{Ghost, view_of}
use Rattle.log_core.specs.Origin.{Origin}
use Rattle.log_core.specs.Cores.{Core}
use Rattle.log_core.specs.Needs.{owned_numbers}
use Rattle.log_core.specs.Steps.{ClearsBits, effect, ghost_after, is_of_owned, give_if, not_found}
use Rattle.log_core.specs.May.{OfOwned}
use Rattle.log_core.specs.Invariant.{Invariant}
use Rattle.log_core.specs.Knows.{Knows}
use Rattle.log_core.specs.Within.{no_record, Serves}
use Rattle.log_core.proofs.machines.Entering.{enters_turn}
use Rattle.block_bitmap.specs.declared.give.Give.{Give}
use Rattle.block_bitmap.specs.BitsIn.{has_block, among_in, least_is}
use Rattle.block_bitmap.specs.Giving.{next_word, next_bits, given_seat, given_count, give_turn, give_script}
use Rattle.block_bitmap.specs.GiveLowering.{left_few}
use Rattle.block_bitmap.specs.Given.{AreInside, emptied}
use Rattle.block_bitmap.specs.GiveWithin.{IsGiven}
use Rattle.block_bitmap.proofs.OwnedInCore.{low_block, few_owned}
use Rattle.block_bitmap.proofs.GivenLemmas.{small_from, word_inside}
use Rattle.block_bitmap.proofs.GiveSteps.{step_emptied, step_ended}

-- the bits given are of owned blocks
has_numbers : (owned : List OwnedBlock) (block : ℕ) → has_block block owned ≡ is_listed (owned_numbers owned) block
has_numbers [] block = refl
has_numbers (o ∷ owned) block = ap (λ (b : Bool). (o.block == block) || b) (has_numbers owned block)

of_owned : (s : Seat) (block : ℕ) → is_among (next_word s) (next_bits s) block ≡ true → is_listed (owned_numbers s.blocks.owned) block ≡ true
of_owned s block among =
    sym (has_numbers s.blocks.owned block) ∙ (and_parts (block / 64 == next_word s) (has_block block s.blocks.owned) (sym (among_in (next_word s) block s.blocks.owned) ∙ among)).1

all_of : (f g : ℕ → Bool) (blocks : List ℕ) → ((b : ℕ) → f b ≡ true → g b ≡ true) → list_all (λ (b : ℕ). not (f b) || g b) blocks ≡ true
all_of f g [] implies = refl
all_of f g (b ∷ blocks) implies = and_from (not (f b) || g b) (list_all (λ (x : ℕ). not (f x) || g x) blocks) (by (f b) refl) (all_of f g blocks implies)
  where
    by : (yes : Bool) → f b ≡ yes → (not yes || g b) ≡ true
    by true is = implies b is
    by false is = refl

given_owned : (s : Seat) → is_of_owned s (next_word s) (next_bits s) ≡ true
given_owned s = all_of (λ block. is_among (next_word s) (next_bits s) block) (λ block. is_listed (owned_numbers s.blocks.owned) block) (range_with_len (next_word s * 64) 64) (λ block among. of_owned s block among)

-- a fact of each number is one of each block
each_block : (P : ℕ → Type 0) (owned : List OwnedBlock) → ((b : ℕ) → is_listed (owned_numbers owned) b ≡ true → P b) → AllByRecursion (λ (o : OwnedBlock). P o.block) owned
each_block P [] each = tt
each_block P (o ∷ owned) each = (
  each o.block (or_left (o.block == o.block) (is_listed (owned_numbers owned) o.block) (eq-eqb o.block o.block refl)),
  each_block P owned (λ b h. each b (or_right (o.block == b) (is_listed (owned_numbers owned) b) h)),
)

-- where a giving stands: the blocks given so far and those that are left are those that the seat owned, no more than an image has; and
-- the seat without the ones left is as it will be without all
pub record GiveStands (start : Seat) (m : Give) (s : Seat) (g : Ghost) : Type 0 where
  pub some : 0 < length s.blocks.owned
  pub count : m.given + length s.blocks.owned ≡ length start.blocks.owned
  pub few : (m.given ≡ 0) ⊎ (length start.blocks.owned ≤ 65535)
  pub rest : emptied s ≡ emptied start

module _ (o : Origin) (seat : ℕ) (start : Seat) where
  -- the seat's bits have the words of its blocks
  are_inside : (c : Core) (s : Seat) (g : Ghost) (pin began : ℕ) → Invariant o c → (view_of c.views seat).parts ≢ [] → Knows o c seat s g pin began → AreInside (length s.blocks.found) s.blocks.owned
  are_inside c s g pin began inv unspent knows = each_block (λ b. b / 64 < length s.blocks.found) s.blocks.owned (λ b mine. (let low = low_block o seat c s g pin began inv knows b mine in let long = (knows.fits unspent).found in omega (arith, low, long)))

  effect_is : (s : Seat) (g : Ghost) (f : ℕ) → effect g.marks s (ClearsBits (next_word s) (next_bits s)) f ≡ given_seat s
  effect_is s g f = ap (λ (b : Bool). not_found (give_if b s (next_word s) (next_bits s)) (next_word s) (next_bits s)) (given_owned s)

  module _ (m : Give) (s : Seat) (g : Ghost) (stands : GiveStands start m s g) where
    abbrev turn : Turn ℕ
    turn = give_turn (length (given_seat s).blocks.owned == 0) (given_count m s)

    abbrev next : ℕ → Ghost
    next f = ghost_after g s (effect g.marks s (ClearsBits (next_word s) (next_bits s)) f) (ClearsBits (next_word s) (next_bits s)) f

    counted : given_count m s + length (given_seat s).blocks.owned ≡ length start.blocks.owned
    counted = (let few = left_few s in let all = stands.count in omega (arith, few, all))

    -- how many there were is known from the first step on
    few_all : length s.blocks.owned ≤ 65535 → (m.given ≡ 0) ⊎ (length start.blocks.owned ≤ 65535) → length start.blocks.owned ≤ 65535
    few_all now (inl none) = (let all = stands.count in omega (arith, now, none, all))
    few_all now (inr few) = few

    goes_on : (b : Bool) → (length (given_seat s).blocks.owned == 0) ≡ b → (h : Ghost) → length s.blocks.owned ≤ 65535 → give_turn b (given_count m s) ≡ Go → GiveStands start (record m { given = given_count m s }) (given_seat s) h
    goes_on true is h few go = cc
    goes_on false is h few go = record {
      some = (let more = eqb-false (length (given_seat s).blocks.owned) 0 is in omega (arith, more));
      count = counted;
      few = inr (few_all few stands.few);
      rest = step_emptied s stands.some ∙ stands.rest;
    }

    ends_so : (b : Bool) → (length (given_seat s).blocks.owned == 0) ≡ b → (h : Ghost) (out : ℕ) → give_turn b (given_count m s) ≡ Done out → IsGiven start out (given_seat s) h
    ends_so true is h out done = (let same : given_count m s ≡ out = cc in let none = eqb-true (length (given_seat s).blocks.owned) 0 is in let all = counted in record {
      count = omega (arith, same, none, all);
      seat = step_ended s stands.some (nil_from_length (given_seat s).blocks.owned none) ∙ stands.rest;
    })
    ends_so false is h out done = cc

  pub give_serves : Serves o seat give_script no_record (GiveStands start) (IsGiven start)
  give_serves m s g stands = record {
    may = λ c pin began inv unspent knows. record {
      inside = word_inside (length s.blocks.found) (next_word s) s.blocks.owned (are_inside c s g pin began inv unspent knows) (least_is s.blocks.owned stands.some);
      small = small_from (next_word s) 0 s.blocks.owned (omega arith);
      given = OfOwned (of_owned s);
    };
    admitted = λ c pin began inv unspent knows. record {
      some = stands.some;
      inside = word_inside (length s.blocks.found) (next_word s) s.blocks.owned (are_inside c s g pin began inv unspent knows) (least_is s.blocks.owned stands.some);
      few = (let all = stands.count in let low = few_all m s g stands (few_owned o seat c s g pin began inv knows) stands.few in omega (arith, all, low));
    };
    enters = λ f found admits. enters_turn (next m s g stands f) (effect g.marks s (ClearsBits (next_word s) (next_bits s)) f) (given_seat s) (turn m s g stands) (effect_is s g f);
    goes = λ f found admits go. goes_on m s g stands (length (given_seat s).blocks.owned == 0) refl (next m s g stands f) (few_owned o seat found.core s g found.pin found.began found.holds found.knows) go;
    ends = λ f out found admits done. ends_so m s g stands (length (given_seat s).blocks.owned == 0) refl (next m s g stands f) out done;
  }
