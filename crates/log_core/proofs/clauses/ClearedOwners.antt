-- Who has each block after bits of some blocks of one owner are cleared: nobody has those blocks.
use Rattle.std.proofs.Common.{◌≡◌, ◌≢◌, ◌⊎◌, ℕ, ◌^◌, ◌<◌, ◌&&◌, not, Bool, true, false, if◌then◌else◌, List, length, filter, refl, sym, ◌∙◌, inl, inr, slice_index, slice_set}
use Rattle.std.proofs.lemmas.Bool.{and_parts}
use Rattle.log_image.specs.Image.{Shape, total}
use Rattle.log_image.specs.Taken.{bit_of}
use Rattle.pmem_words.specs.Owned.{is_among}
use Rattle.asks.specs.Asks.{without_bits}
use Rattle.log_image.specs.Chains.{is_listed}
use Rattle.log_core.specs.Origin.{Owner, Free, Header}
use Rattle.log_core.specs.Owners.{bit_for, BitsFit, IsListOf}
use Rattle.log_core.proofs.clauses.BitWords.{taken_cleared}
use Rattle.log_core.proofs.BlockLists.{has_filter, different_filter}

-- who has each block then: these bits of a word are cleared
abbrev pub owner_cleared : (ℕ → Owner) → ℕ → ℕ → ℕ → Owner
owner_cleared owner word bits block = if is_among word bits block then Free else owner block

module _ (image : Shape) (taken : List ℕ) (owner : ℕ → Owner) (word bits : ℕ) (blocks : List ℕ) (holder : Owner) (fits : BitsFit image taken owner) (inside : word < length taken) (small : bits < 2 ^ 64)
    (list : IsListOf owner blocks holder) (mine : (block : ℕ) → is_among word bits block ≡ true → is_listed blocks block ≡ true) (some : holder ≢ Free) (other : holder ≢ Header) where
  abbrev among : ℕ → Bool
  among block = is_among word bits block

  abbrev whose : ℕ → Owner
  whose block = owner_cleared owner word bits block

  was_mine : (block : ℕ) → among block ≡ true → owner block ≡ holder
  was_mine block is = list.listed block (mine block is)

  pub cleared_bits : BitsFit image (slice_set taken word (without_bits (slice_index taken word) bits)) whose
  cleared_bits = record {
    bits = λ block low. taken_cleared taken word inside bits block small ∙ bit_is block (among block) low;
    inside = λ block some. inside_is block (among block) some;
    header = header_is (among 0) refl;
    only = λ block is. only_is block (among block) is;
  }
    where
      bit_is : (block : ℕ) (is : Bool) → block < total image → (if is then 0 else bit_of taken block) ≡ bit_for (if is then Free else owner block)
      bit_is block true low = refl
      bit_is block false low = fits.bits block low

      inside_is : (block : ℕ) (is : Bool) → (if is then Free else owner block) ≢ Free → block < total image
      inside_is block true some = absurd (some refl)
      inside_is block false some = fits.inside block some

      header_is : (is : Bool) → among 0 ≡ is → (if is then Free else owner 0) ≡ Header
      header_is true e = absurd (other (sym (was_mine 0 e) ∙ fits.header))
      header_is false e = fits.header

      only_is : (block : ℕ) (is : Bool) → (if is then Free else owner block) ≡ Header → block ≡ 0
      only_is block true is = cc
      only_is block false is = fits.only block is

  -- a block stays with whom it was, or was the holder's and is free
  pub cleared_each : (block : ℕ) → (whose block ≡ owner block) ⊎ ((owner block ≡ holder) × (whose block ≡ Free))
  cleared_each block = go (among block) refl
    where
      go : (is : Bool) → among block ≡ is → ((if is then Free else owner block) ≡ owner block) ⊎ ((owner block ≡ holder) × ((if is then Free else owner block) ≡ Free))
      go true is = inr (was_mine block is, refl)
      go false is = inl refl

  -- the holder's blocks are the others
  pub cleared_list : IsListOf whose (filter (λ (block : ℕ). not (among block)) blocks) holder
  cleared_list = record {
    listed = λ block some. listed_is block (among block) (and_parts (not (among block)) (is_listed blocks block) (sym (has_filter (λ (other : ℕ). not (among other)) blocks block) ∙ some));
    all = λ block is. has_filter (λ (other : ℕ). not (among other)) blocks block ∙ all_is block (among block) is;
    once = different_filter (λ (other : ℕ). not (among other)) blocks list.once;
  }
    where
      listed_is : (block : ℕ) (is : Bool) → (not is ≡ true) × (is_listed blocks block ≡ true) → (if is then Free else owner block) ≡ holder
      listed_is block true parts = (let never : false ≡ true = parts.0 in cc)
      listed_is block false parts = list.listed block parts.1

      all_is : (block : ℕ) (is : Bool) → (if is then Free else owner block) ≡ holder → (not is && is_listed blocks block) ≡ true
      all_is block true is = absurd (some (sym is))
      all_is block false is = list.all block is
