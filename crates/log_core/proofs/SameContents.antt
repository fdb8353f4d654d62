-- What blocks say is the same where their words are.
use Rattle.std.proofs.Common.{◌≡◌, ◌-◌, ◌==◌, ◌&&◌, ◌||◌, if◌then◌else◌, ℕ, Bool, true, false, List, [], ◌∷◌, ◌++◌, map, take, refl, sym, ◌∙◌, ap, subst, slice_index, Option, Some, None}
use Rattle.std.proofs.lemmas.Bool.{and_parts, and_from, eqb-true, eq-eqb}
use Rattle.log_entry.specs.Fields.{field}
use Rattle.log_entry.specs.Shape.{longest_of}
use Rattle.log_entry.specs.Words.{entry_unnamed, snapshot_word}
use Rattle.log_entry.specs.WordBytes.{word_bytes}
use Rattle.log_entry.specs.declared.layouts.TheConstants.{ENTRY_KIND, INDIRECT, INDIRECT_BLOCK}
use Rattle.log_image.specs.Image.{Shape, is_in_data}
use Rattle.log_image.specs.Entries.{Meaning, direct_meaning}
use Rattle.log_image.specs.Maps.{map_of}
use Rattle.log_image.specs.Blocks.{entry_count, slots_of}
use Rattle.log_image.specs.Chains.{is_listed}
use Rattle.log_image.specs.Format.{fits, is_direct, is_indirect, is_indirect_block, is_snapshot_block}
use Rattle.log_core.specs.Entries.{meaning_by}
use Rattle.log_core.specs.Files.{byte_in}
use Rattle.log_core.specs.After.{snapshot_meanings}
use Rattle.log_core.specs.Snapshots.{AreSnapshotBlocks, IsSnapshot}
use Rattle.log_core.specs.May.{is_log_entry_by}
use Rattle.log_core.specs.Walks.{read_meanings}
use Rattle.log_core.proofs.kinds.TakesEntry.{same_meaning}
use Rattle.log_core.proofs.clauses.Apart.{has_right}

-- the form of an entry of a log block, which depends on its indirect block alone
pub same_form : (first second : ℕ → List ℕ) (image : Shape) (word : ℕ) → is_log_entry_by second image word ≡ true →
    (field ENTRY_KIND word ≡ INDIRECT → first (field INDIRECT_BLOCK word) ≡ second (field INDIRECT_BLOCK word)) → is_log_entry_by first image word ≡ true
same_form first second image word good same = and_from (form first (is_direct word)) (fits image (longest_of image.block_bytes) (meaning_by first word)) (part (is_direct word) parts.0)
    (subst (λ (m : Meaning). fits image (longest_of image.block_bytes) m ≡ true) (sym (same_meaning first second image word good same)) parts.1)
  where
    form : (ℕ → List ℕ) → Bool → Bool
    form content direct = if direct then true else is_indirect word && is_in_data image (field INDIRECT_BLOCK word) && is_indirect_block image (content (field INDIRECT_BLOCK word))

    parts : (form second (is_direct word) ≡ true) × (fits image (longest_of image.block_bytes) (meaning_by second word) ≡ true)
    parts = and_parts (form second (is_direct word)) (fits image (longest_of image.block_bytes) (meaning_by second word)) good

    part : (direct : Bool) → form second direct ≡ true → form first direct ≡ true
    part true p = refl
    part false p =
        (let both = and_parts (is_indirect word && is_in_data image (field INDIRECT_BLOCK word)) (is_indirect_block image (second (field INDIRECT_BLOCK word))) p in
        let kind = eqb-true (field ENTRY_KIND word) INDIRECT (and_parts (field ENTRY_KIND word == INDIRECT) (entry_unnamed word == 0)
        (and_parts (is_indirect word) (is_in_data image (field INDIRECT_BLOCK word)) both.0).0).0 in
        ap (λ (words : List ℕ). is_indirect word && is_in_data image (field INDIRECT_BLOCK word) && is_indirect_block image words) (same kind) ∙ p)

-- the first of some blocks is among them
first_listed : (block : ℕ) (blocks : List ℕ) → is_listed (block ∷ blocks) block ≡ true
first_listed block blocks = ap (λ (b : Bool). b || is_listed blocks block) (eq-eqb block block refl)

module _ (image : Shape) (content other : ℕ → List ℕ) where
  -- the words of each of some blocks are the same
  abbrev pub SameIn : List ℕ → Type 0
  SameIn blocks = (block : ℕ) → is_listed blocks block ≡ true → other block ≡ content block

  same_rest : (block : ℕ) (blocks : List ℕ) → SameIn (block ∷ blocks) → SameIn blocks
  same_rest block blocks same later listed = same later (has_right (block ∷ []) blocks later listed)

  -- the entries of snapshot blocks
  pub same_meanings : (blocks : List ℕ) → SameIn blocks → snapshot_meanings other blocks ≡ snapshot_meanings content blocks
  same_meanings [] same = refl
  same_meanings (block ∷ blocks) same = ap (λ (words : List ℕ). map direct_meaning (take (entry_count words) (slots_of words)) ++ snapshot_meanings other blocks) (same block (first_listed block blocks))
      ∙ ap (λ (l : List Meaning). map direct_meaning (take (entry_count (content block)) (slots_of (content block))) ++ l) (same_meanings blocks (same_rest block blocks same))

  -- their words
  pub same_snapshot_blocks : (base size : ℕ) (blocks : List ℕ) (following : ℕ) → SameIn blocks → AreSnapshotBlocks image content base size blocks following → AreSnapshotBlocks image other base size blocks following
  same_snapshot_blocks base size [] following same are = tt
  same_snapshot_blocks base size (block ∷ blocks) following same are = (let is = same block (first_listed block blocks) in (
    ap (λ (words : List ℕ). slice_index words 0) is ∙ are.0,
    ap (λ (words : List ℕ). slice_index words 1) is ∙ are.1,
    subst (λ (words : List ℕ). slice_index words 2 ≡ snapshot_word (record { count = entry_count words; size = size })) (sym is) are.2,
    ap (λ (words : List ℕ). is_snapshot_block image words) is ∙ are.3,
    same_snapshot_blocks base size blocks following (same_rest block blocks same) are.4,
  ))

  -- and a snapshot of them
  pub same_snapshot : (base size : ℕ) (blocks : List ℕ) (following next : ℕ) (held later : ℕ → Option ℕ) → SameIn blocks → next ≡ following → ((virt : ℕ) → later virt ≡ held virt) →
      IsSnapshot image content base size blocks following held → IsSnapshot image other base size blocks next later
  same_snapshot base size blocks following next held later same next_is later_is r = record {
    some = r.some;
    words = subst (λ (block : ℕ). AreSnapshotBlocks image other base size blocks block) (sym next_is) (same_snapshot_blocks base size blocks following same r.words);
    map_is = λ virt. ap (λ (l : List Meaning). map_of l virt) (same_meanings blocks same) ∙ (r.map_is virt ∙ sym (later_is virt));
  }

  -- what was read of a snapshot
  pub same_read : (blocks : List ℕ) (at slot : ℕ) → SameIn blocks → read_meanings other blocks at slot ≡ read_meanings content blocks at slot
  same_read [] at slot same = refl
  same_read (block ∷ blocks) at slot same = go (block == at) (same_read blocks at slot (same_rest block blocks same))
    where
      here : other block ≡ content block
      here = same block (first_listed block blocks)

      go : (b : Bool) → read_meanings other blocks at slot ≡ read_meanings content blocks at slot → (if b then map direct_meaning (take (slot - 3) (slots_of (other block))) else map direct_meaning (take (entry_count (other block)) (slots_of (other block))) ++ read_meanings other blocks at slot)
          ≡ (if b then map direct_meaning (take (slot - 3) (slots_of (content block))) else map direct_meaning (take (entry_count (content block)) (slots_of (content block))) ++ read_meanings content blocks at slot)
      go true rest = ap (λ (words : List ℕ). map direct_meaning (take (slot - 3) (slots_of words))) here
      go false rest = ap (λ (words : List ℕ). map direct_meaning (take (entry_count words) (slots_of words)) ++ read_meanings other blocks at slot) here
          ∙ ap (λ (l : List Meaning). map direct_meaning (take (entry_count (content block)) (slots_of (content block))) ++ l) rest

  -- a byte of a block of a map
  pub same_byte : (found : Option ℕ) (at : ℕ) → ((block : ℕ) → found ≡ Some block → other block ≡ content block) → byte_in other found at ≡ byte_in content found at
  same_byte None at same = refl
  same_byte (Some block) at same = ap (λ (words : List ℕ). slice_index (word_bytes words) at) (same block refl)
