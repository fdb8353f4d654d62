-- Who has each block after bits of the bitmap are set: a seat has the blocks gained.
use Rattle.std.proofs.Common.{◌≡◌, ◌≢◌, ◌⊎◌, ℕ, ◌<◌, ◌++◌, ◌==◌, ◌||◌, Bool, true, false, if◌then◌else◌, List, length, map, refl, sym, ◌∙◌, arith, inl, inr, subst, slice_index, slice_set, bit_or}
use Rattle.std.proofs.lemmas.Bool.{false≢true, or_cases, or_left, or_right, and_parts, false_from_ne_true}
use Rattle.std.proofs.lemmas.List.Folds.{list_any-append}
use Rattle.log_image.specs.Image.{Shape, total}
use Rattle.log_image.specs.Taken.{bit_of}
use Rattle.log_image.proofs.NameLemmas.{different_join}
use Rattle.pmem_words.specs.Owned.{is_among}
use Rattle.pmem_words.specs.declared.owned.OwnedBlock.{OwnedBlock}
use Rattle.log_image.specs.Chains.{is_listed}
use Rattle.log_core.specs.Origin.{Owner, Free, Header, InChain, OwnedBy, LeftTo}
use Rattle.log_core.specs.Needs.{owned_numbers}
use Rattle.log_core.specs.Steps.{is_gained, gained, taken_block}
use Rattle.log_core.specs.Owners.{bit_for, BitsFit, IsListOf}
use Rattle.log_core.proofs.clauses.BitWords.{taken_set, gained_clear}
use Rattle.log_core.proofs.BlockLists.{has_gained, gained_once, numbers_taken}

-- a clear bit is that of a block that nobody has
free_from_bit : (whose : Owner) → bit_for whose ≡ 0 → whose ≡ Free
free_from_bit Free e = refl
free_from_bit Header e = cc
free_from_bit InChain e = cc
free_from_bit (OwnedBy seat) e = cc
free_from_bit (LeftTo seat) e = cc

not_header : (n : ℕ) → OwnedBy n ≡ Header → ⊥
not_header n e = cc

not_free : (n : ℕ) → OwnedBy n ≡ Free → ⊥
not_free n e = cc

-- who has each block then: a seat sets bits of a word, of which some were set
abbrev pub owner_set : (ℕ → Owner) → ℕ → ℕ → ℕ → ℕ → ℕ → Owner
owner_set owner n word bits found block = if is_gained word bits found block then OwnedBy n else owner block

module _ (image : Shape) (taken : List ℕ) (owner : ℕ → Owner) (n word bits : ℕ) (fits : BitsFit image taken owner) (inside : word < length taken)
    (in_image : (block : ℕ) → is_among word bits block ≡ true → (0 < block) × (block < total image)) where
  abbrev gains : ℕ → Bool
  gains block = is_gained word bits (slice_index taken word) block

  abbrev whose : ℕ → Owner
  whose block = owner_set owner n word bits (slice_index taken word) block

  gained_inside : (block : ℕ) → gains block ≡ true → (0 < block) × (block < total image)
  gained_inside block is = in_image block (and_parts (is_among word bits block) _ is).0

  pub was_free : (block : ℕ) → gains block ≡ true → owner block ≡ Free
  was_free block is = free_from_bit (owner block) (sym (fits.bits block (gained_inside block is).1) ∙ gained_clear taken word inside bits block is)

  pub set_bits : BitsFit image (slice_set taken word (bit_or (slice_index taken word) bits)) whose
  set_bits = record {
    bits = λ block low. taken_set taken word inside bits block ∙ bit_is block (gains block) low;
    inside = λ block some. inside_is block (gains block) refl some;
    header = header_is (gains 0) refl;
    only = λ block is. only_is block (gains block) is;
  }
    where
      bit_is : (block : ℕ) (is : Bool) → block < total image → (if is then 1 else bit_of taken block) ≡ bit_for (if is then OwnedBy n else owner block)
      bit_is block true low = refl
      bit_is block false low = fits.bits block low

      inside_is : (block : ℕ) (is : Bool) → gains block ≡ is → (if is then OwnedBy n else owner block) ≢ Free → block < total image
      inside_is block true e some = (gained_inside block e).1
      inside_is block false e some = fits.inside block some

      header_is : (is : Bool) → gains 0 ≡ is → (if is then OwnedBy n else owner 0) ≡ Header
      header_is true e = absurd (omega (arith, (gained_inside 0 e).0))
      header_is false e = fits.header

      only_is : (block : ℕ) (is : Bool) → (if is then OwnedBy n else owner block) ≡ Header → block ≡ 0
      only_is block true is = absurd (not_header n is)
      only_is block false is = fits.only block is

  -- a block stays with whom it was, or was free and is the seat's
  pub set_changes : (block : ℕ) → (whose block ≡ owner block) ⊎ (((owner block ≡ Free) ⊎ (owner block ≡ OwnedBy n)) × ((whose block ≡ Free) ⊎ (whose block ≡ OwnedBy n)))
  set_changes block = go (gains block) refl
    where
      go : (is : Bool) → gains block ≡ is →
          ((if is then OwnedBy n else owner block) ≡ owner block) ⊎ (((owner block ≡ Free) ⊎ (owner block ≡ OwnedBy n)) × (((if is then OwnedBy n else owner block) ≡ Free) ⊎ ((if is then OwnedBy n else owner block) ≡ OwnedBy n)))
      go true is = inr (inl (was_free block is), inr refl)
      go false is = inl refl

  -- the seat's owned blocks are those before, and the blocks gained
  pub set_list : (areas : Shape) (owned : List OwnedBlock) → IsListOf owner (owned_numbers owned) (OwnedBy n) →
      IsListOf whose (owned_numbers (owned ++ map (taken_block areas) (gained word bits (slice_index taken word)))) (OwnedBy n)
  set_list areas owned list = subst (λ (blocks : List ℕ). IsListOf whose blocks (OwnedBy n)) (sym (numbers_taken areas owned (gained word bits (slice_index taken word)))) (record {
    listed = λ block some. listed_is block (gains block) refl (or_cases (is_listed (owned_numbers owned) block) (is_listed (gained word bits (slice_index taken word)) block) (sym (joined block) ∙ some));
    all = λ block is. joined block ∙ all_is block (gains block) refl is;
    once = different_join (owned_numbers owned) (gained word bits (slice_index taken word)) list.once (gained_once word bits (slice_index taken word)) apart;
  })
    where
      joined : (block : ℕ) → is_listed (owned_numbers owned ++ gained word bits (slice_index taken word)) block ≡ (is_listed (owned_numbers owned) block || is_listed (gained word bits (slice_index taken word)) block)
      joined block = list_any-append (λ (other : ℕ). other == block) (owned_numbers owned) (gained word bits (slice_index taken word))

      listed_is : (block : ℕ) (is : Bool) → gains block ≡ is → (is_listed (owned_numbers owned) block ≡ true) ⊎ (is_listed (gained word bits (slice_index taken word)) block ≡ true) → (if is then OwnedBy n else owner block) ≡ OwnedBy n
      listed_is block true e some = refl
      listed_is block false e (inl before) = list.listed block before
      listed_is block false e (inr new) = absurd (false≢true (sym e ∙ (sym (has_gained word bits (slice_index taken word) block) ∙ new)))

      all_is : (block : ℕ) (is : Bool) → gains block ≡ is → (if is then OwnedBy n else owner block) ≡ OwnedBy n → (is_listed (owned_numbers owned) block || is_listed (gained word bits (slice_index taken word)) block) ≡ true
      all_is block true e is = or_right (is_listed (owned_numbers owned) block) (is_listed (gained word bits (slice_index taken word)) block) (has_gained word bits (slice_index taken word) block ∙ e)
      all_is block false e is = or_left (is_listed (owned_numbers owned) block) (is_listed (gained word bits (slice_index taken word)) block) (list.all block is)

      apart : (block : ℕ) → is_listed (owned_numbers owned) block ≡ true → is_listed (gained word bits (slice_index taken word)) block ≡ false
      apart block before = has_gained word bits (slice_index taken word) block ∙ false_from_ne_true (gains block) (λ is. not_free n (sym (list.listed block before) ∙ was_free block is))
