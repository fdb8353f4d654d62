-- The blocks of an entry: what it gives a virtual block, that they are of the data area, and that its word is no seal.
use Rattle.std.proofs.Common.{◌≡◌, ◌≢◌, ◌<◌, ◌≤◌, ◌+◌, ◌-◌, ◌==◌, ◌&&◌, ◌⊎◌, inl, inr, nat_le, nat_lt, ℕ, Bool, true, false, List, length, slice_index, if◌then◌else◌, Some, None, refl, sym, ap, ◌∙◌, subst, arith}
use Rattle.std.specs.List.{slice_get, list_all}
use Rattle.std.proofs.lemmas.Bool.{cases_lt, le-leb, lt-ltb, leb-true, and_parts}
use Rattle.std.proofs.lemmas.Option.{slice_get_within, get_or_from_slice_get, slice_get-get_or}
use Rattle.log_entry.specs.Fields.{field}
use Rattle.log_entry.specs.Shape.{longest_of}
use Rattle.log_entry.specs.Words.{entry_unnamed}
use Rattle.log_entry.specs.declared.layouts.TheConstants.{ENTRY_KIND, DIRECT, INDIRECT_BLOCK, SEAL}
use Rattle.log_image.specs.Image.{Shape, is_in_data}
use Rattle.log_image.specs.Entries.{Meaning, indirect_meaning, names}
use Rattle.log_image.specs.Maps.{block_in}
use Rattle.log_image.specs.Format.{fits, is_direct, is_indirect, is_indirect_block}
use Rattle.log_core.specs.Entries.{meaning_by}
use Rattle.log_core.specs.May.{is_log_entry_by}

-- an entry gives a virtual block the block at its place
pub record IsGiven (meaning : Meaning) (virt block : ℕ) : Type 0 where
  pub from : meaning.virt ≤ virt
  pub inside : virt - meaning.virt < length meaning.blocks
  pub is : slice_index meaning.blocks (virt - meaning.virt) ≡ block

pub given : (meaning : Meaning) (virt block : ℕ) → block_in meaning virt ≡ Some block → IsGiven meaning virt block
given meaning virt block found = go (nat_le meaning.virt virt) refl found
  where
    go : (late : Bool) → nat_le meaning.virt virt ≡ late → (if late then slice_get meaning.blocks (virt - meaning.virt) else None) ≡ Some block → IsGiven meaning virt block
    go true e is = record {
      from = leb-true meaning.virt virt e;
      inside = slice_get_within meaning.blocks (virt - meaning.virt) block is;
      is = get_or_from_slice_get meaning.blocks (virt - meaning.virt) block 0 is;
    }
    go false e is = cc

-- and nothing a virtual block before or behind its own
pub not_given : (meaning : Meaning) (virt : ℕ) → block_in meaning virt ≡ None → (virt < meaning.virt) ⊎ (meaning.virt + length meaning.blocks ≤ virt)
not_given meaning virt none = go (cases_lt virt meaning.virt) (cases_lt (virt - meaning.virt) (length meaning.blocks))
  where
    go : (virt < meaning.virt) ⊎ (meaning.virt ≤ virt) → (virt - meaning.virt < length meaning.blocks) ⊎ (length meaning.blocks ≤ virt - meaning.virt) →
        (virt < meaning.virt) ⊎ (meaning.virt + length meaning.blocks ≤ virt)
    go (inl before) second = inl before
    go (inr late) (inr past) = inr (omega (arith, late, past))
    go (inr late) (inl inside) =
        (let here = ap (λ (b : Bool). if b then slice_get meaning.blocks (virt - meaning.virt) else None) (le-leb meaning.virt virt late) in
        let some = sym none ∙ (here ∙ slice_get-get_or meaning.blocks (virt - meaning.virt) 0 inside) in
        cc)

-- the numbers of an entry that fits
pub record Fitting (image : Shape) (longest : ℕ) (meaning : Meaning) : Type 0 where
  pub some : 1 ≤ length meaning.blocks
  pub few : length meaning.blocks ≤ longest
  pub in_data : list_all (is_in_data image) meaning.blocks ≡ true

pub fitting : (image : Shape) (longest : ℕ) (meaning : Meaning) → fits image longest meaning ≡ true → Fitting image longest meaning
fitting image longest meaning good =
    (let some = nat_le 1 (length meaning.blocks) in
    let few = nat_le (length meaning.blocks) longest in
    let inside = nat_le (meaning.virt + length meaning.blocks) 65536 in
    let area = list_all (is_in_data image) meaning.blocks in
    let four = and_parts (some && few && inside && area) (nat_lt meaning.leftover image.block_bytes) good in
    let three = and_parts (some && few && inside) area four.0 in
    let two = and_parts some few (and_parts (some && few) inside three.0).0 in
    record { some = leb-true 1 (length meaning.blocks) two.0; few = leb-true (length meaning.blocks) longest two.1; in_data = three.1 })

-- and an entry of such numbers fits
pub fits_by : (image : Shape) (longest : ℕ) (meaning : Meaning) → 1 ≤ length meaning.blocks → length meaning.blocks ≤ longest → meaning.virt + length meaning.blocks ≤ 65536 →
    list_all (is_in_data image) meaning.blocks ≡ true → meaning.leftover < image.block_bytes → fits image longest meaning ≡ true
fits_by image longest meaning some few inside area low =
    rw (le-leb 1 (length meaning.blocks) some, le-leb (length meaning.blocks) longest few, le-leb (meaning.virt + length meaning.blocks) 65536 inside, area, lt-ltb meaning.leftover image.block_bytes low) refl

held_then : (kind unnamed held : Bool) → kind ≡ false → (if kind && unnamed then true else held) ≡ true → held ≡ true
held_then true unnamed held is form = cc
held_then false unnamed held is form = form

module _ (content : ℕ → List ℕ) (image : Shape) (word : ℕ) (good : is_log_entry_by content image word ≡ true) where
  abbrev runs : Bool
  runs = is_indirect_block image (content (field INDIRECT_BLOCK word))

  abbrev held : Bool
  held = is_indirect word && is_in_data image (field INDIRECT_BLOCK word) && runs

  form_parts : ((if is_direct word then true else held) ≡ true) × (fits image (longest_of image.block_bytes) (meaning_by content word) ≡ true)
  form_parts = and_parts (if is_direct word then true else held) (fits image (longest_of image.block_bytes) (meaning_by content word)) good

  -- the entry of a log block fits
  pub form_fits : fits image (longest_of image.block_bytes) (meaning_by content word) ≡ true
  form_fits = form_parts.1

  blocks_in_data : list_all (is_in_data image) (meaning_by content word).blocks ≡ true
  blocks_in_data = (fitting image (longest_of image.block_bytes) (meaning_by content word) form_fits).in_data

  -- each block that it names is of the data area
  pub names_in_data : list_all (is_in_data image) (names (meaning_by content word)) ≡ true
  names_in_data = go (field ENTRY_KIND word == DIRECT) refl form_parts.0 blocks_in_data
    where
      go : (direct : Bool) → (field ENTRY_KIND word == DIRECT) ≡ direct → (if is_direct word then true else held) ≡ true → list_all (is_in_data image) (meaning_by content word).blocks ≡ true →
          list_all (is_in_data image) (names (meaning_by content word)) ≡ true
      go true is form all = rw is (rw is at all)
      go false is form all =
          (let parts : held ≡ true = held_then (field ENTRY_KIND word == DIRECT) (entry_unnamed word == 0) held is form in
          let holder = (and_parts (is_indirect word) (is_in_data image (field INDIRECT_BLOCK word)) (and_parts (is_indirect word && is_in_data image (field INDIRECT_BLOCK word)) runs parts).0).1 in
          let rest : list_all (is_in_data image) (indirect_meaning (field INDIRECT_BLOCK word) (content (field INDIRECT_BLOCK word))).blocks ≡ true = rw is at all in
          rw is (rw (holder, rest) refl))

  -- its word is no seal
  pub no_seal : word ≢ SEAL
  no_seal e = (let form : (if is_direct SEAL then true else is_indirect SEAL && is_in_data image (field INDIRECT_BLOCK SEAL) && is_indirect_block image (content (field INDIRECT_BLOCK SEAL))) ≡ true =
      subst (λ (w : ℕ). (if is_direct w then true else is_indirect w && is_in_data image (field INDIRECT_BLOCK w) && is_indirect_block image (content (field INDIRECT_BLOCK w))) ≡ true) e form_parts.0 in
      cc)
