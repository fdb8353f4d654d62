-- Reading a snapshot: one entry more, and the block after another.
use Rattle.std.proofs.Common.{◌≡◌, ◌<◌, ◌≤◌, ◌⊎◌, inl, inr, ◌+◌, ◌-◌, ◌++◌, ◌==◌, ◌||◌, not, ℕ, zero, suc, ⊎_elim, Bool, true, false, if◌then◌else◌, List, [], ◌∷◌, length, map, take, drop, refl, sym, ◌∙◌, ap, subst, arith, slice_index, append-nil, append_assoc}
use Rattle.std.proofs.Math.Seq.{take-suc}
use Rattle.std.proofs.lemmas.Bool.{and_parts, not-true, eqb-true, eq-eqb}
use Rattle.std.proofs.lemmas.List.{get_or-drop, map-append}
use Rattle.std.proofs.lemmas.List.Folds.{list_any_at}
use Rattle.log_entry.specs.Words.{block_word}
use Rattle.log_entry.specs.declared.words.BlockKind.TheVariants.{Snapshot}
use Rattle.log_image.specs.Image.{Shape}
use Rattle.log_image.specs.Format.{is_snapshot_block}
use Rattle.log_image.specs.Entries.{Meaning, direct_meaning}
use Rattle.log_image.specs.Blocks.{entry_count, slots_of}
use Rattle.log_image.specs.Chains.{all_different, is_listed}
use Rattle.pmem_words.specs.Seats.{Walk}
use Rattle.log_core.specs.After.{snapshot_meanings}
use Rattle.log_core.specs.Snapshots.{first_or, AreSnapshotBlocks}
use Rattle.log_core.specs.Origin.{Generation}
use Rattle.log_core.specs.Walks.{HasRead, read_meanings}

-- the block at a place of a list is among it
pub listed_at : (blocks : List ℕ) (place block : ℕ) → place < length blocks → slice_index blocks place ≡ block → is_listed blocks block ≡ true
listed_at blocks place block inside is = list_any_at (λ (other : ℕ). other == block) blocks place 0 inside (eq-eqb (slice_index blocks place) block is)

-- the block come to is one of the snapshot
pub is_of_snapshot : (content : ℕ → List ℕ) (g : Generation) (w : Walk) → HasRead content g w → is_listed g.snapshots w.reading_block ≡ true
is_of_snapshot content g w r = listed_at g.snapshots w.reading_place w.reading_block r.inside r.block

-- the entries of a block up to a slot
abbrev upto : List ℕ → ℕ → List Meaning
upto content slot = map direct_meaning (take (slot - 3) (slots_of content))

-- up to the next slot they are one more
one_more : (content : List ℕ) (slot : ℕ) → 3 ≤ slot → slot < length content → upto content (slot + 1) ≡ upto content slot ++ direct_meaning (slice_index content slot) ∷ []
one_more content slot low inside =
    (let next : slot + 1 - 3 ≡ Rattle.std.proofs.Common.suc (slot - 3) = omega (arith, low) in
    let long : slot - 3 < length (slots_of content) = Rattle.std.proofs.Common.subst (λ (k : ℕ). slot - 3 < k) (sym (Rattle.std.proofs.lemmas.List.length-drop 3 content)) (omega (arith, low, inside)) in
    ap (λ (k : ℕ). map direct_meaning (take k (slots_of content))) next
    ∙ (ap (λ (l : List ℕ). map direct_meaning l) (take-suc (slots_of content) (slot - 3) 0 long)
    ∙ (map-append direct_meaning (take (slot - 3) (slots_of content)) (slice_index (slots_of content) (slot - 3) ∷ [])
    ∙ ap (λ (word : ℕ). upto content slot ++ direct_meaning word ∷ []) (get_or-drop 3 content (slot - 3) 0 ∙ ap (λ (k : ℕ). slice_index content k) (let same : 3 + (slot - 3) ≡ slot = omega (arith, low) in same)))))

module _ (content : ℕ → List ℕ) where
  -- the entries of a block, all that it says
  abbrev whole : ℕ → List Meaning
  whole block = map direct_meaning (take (entry_count (content block)) (slots_of (content block)))

  whole_is : (block : ℕ) → upto (content block) (3 + entry_count (content block)) ≡ whole block
  whole_is block = ap (λ (k : ℕ). map direct_meaning (take k (slots_of (content block)))) (let same : 3 + entry_count (content block) - 3 ≡ entry_count (content block) = omega arith in same)

  pub read_more : (blocks : List ℕ) (at slot : ℕ) → is_listed blocks at ≡ true → 3 ≤ slot → slot < length (content at) →
      read_meanings content blocks at (slot + 1) ≡ read_meanings content blocks at slot ++ direct_meaning (slice_index (content at) slot) ∷ []
  read_more [] at slot listed low inside = cc
  read_more (block ∷ blocks) at slot listed low inside = go (block == at) refl listed (λ more. read_more blocks at slot more low inside)
    where
      more : List Meaning
      more = direct_meaning (slice_index (content at) slot) ∷ []

      go : (same : Bool) → (block == at) ≡ same → (same || is_listed blocks at) ≡ true →
          (is_listed blocks at ≡ true → read_meanings content blocks at (slot + 1) ≡ read_meanings content blocks at slot ++ more) →
          (if same then upto (content block) (slot + 1) else whole block ++ read_meanings content blocks at (slot + 1))
          ≡ (if same then upto (content block) slot else whole block ++ read_meanings content blocks at slot) ++ more
      go true e here rest = subst (λ (b : ℕ). upto (content b) (slot + 1) ≡ upto (content b) slot ++ more) (sym (eqb-true block at e)) (one_more (content at) slot low inside)
      go false e here rest = ap (λ (l : List Meaning). whole block ++ l) (rest here) ∙ sym (append_assoc (whole block) (read_meanings content blocks at slot) more)

  -- after the last entry of a block comes the block that it links to: the first log block, and all is read, or the snapshot's next
  pub data Onward (blocks : List ℕ) (following at next : ℕ) : Type 0 where
    Last : next ≡ following → read_meanings content blocks at (3 + entry_count (content at)) ≡ snapshot_meanings content blocks → Onward blocks following at next
    Later : is_listed blocks next ≡ true → read_meanings content blocks at (3 + entry_count (content at)) ≡ read_meanings content blocks next 3 → Onward blocks following at next

  pub read_on : (image : Shape) (base size following : ℕ) (blocks : List ℕ) (at : ℕ) → AreSnapshotBlocks image content base size blocks following → all_different blocks ≡ true → is_listed blocks at ≡ true →
      Onward blocks following at (slice_index (content at) 0)
  read_on image base size following [] at are different listed = cc
  read_on image base size following (block ∷ blocks) at are different listed = go (block == at) refl listed
      (λ more. read_on image base size following blocks at are.4 parts.1 more)
    where
      parts : (not (is_listed blocks block) ≡ true) × (all_different blocks ≡ true)
      parts = and_parts (not (is_listed blocks block)) (all_different blocks) different

      unlisted : is_listed blocks block ≡ false
      unlisted = not-true (is_listed blocks block) parts.0

      -- the block stands no more after itself
      apart : (other : ℕ) → is_listed blocks other ≡ true → (block == other) ≡ false
      apart other later = by (block == other) refl
        where
          by : (b : Bool) → (block == other) ≡ b → b ≡ false
          by false e = refl
          by true e = (let again = subst (λ (k : ℕ). is_listed blocks k ≡ true) (sym (eqb-true block other e)) later in let both : true ≡ false = sym again ∙ unlisted in cc)

      here : (more : List ℕ) → blocks ≡ more → Onward (block ∷ blocks) following block (first_or blocks following)
      here [] is = Last (ap (λ (l : List ℕ). first_or l following) is)
          (rw (eq-eqb block block refl) (whole_is block ∙ (sym (append-nil (whole block)) ∙ ap (λ (l : List ℕ). whole block ++ snapshot_meanings content l) (sym is))))
      here (next ∷ more) is = (let listed_next : is_listed blocks next ≡ true = ap (λ (l : List ℕ). is_listed l next) is ∙ rw (eq-eqb next next refl) refl in
          subst (λ (k : ℕ). Onward (block ∷ blocks) following block k) (sym (ap (λ (l : List ℕ). first_or l following) is))
          (Later (rw (apart next listed_next) listed_next)
          (rw (eq-eqb block block refl, apart next listed_next)
          (whole_is block ∙ (sym (append-nil (whole block)) ∙ ap (λ (l : List Meaning). whole block ++ l) (sym (ap (λ (l : List ℕ). read_meanings content l next 3) is ∙ rw (eq-eqb next next refl) refl)))))))

      later : (onward : Onward blocks following at (slice_index (content at) 0)) → (block == at) ≡ false → Onward (block ∷ blocks) following at (slice_index (content at) 0)
      later (Last is read) other = Last is (rw other (ap (λ (l : List Meaning). whole block ++ l) read))
      later (Later listed_next read) other = Later (rw (apart (slice_index (content at) 0) listed_next) listed_next)
          (rw (other, apart (slice_index (content at) 0) listed_next) (ap (λ (l : List Meaning). whole block ++ l) read))

      go : (same : Bool) → (block == at) ≡ same → (same || is_listed blocks at) ≡ true → (is_listed blocks at ≡ true → Onward blocks following at (slice_index (content at) 0)) →
          Onward (block ∷ blocks) following at (slice_index (content at) 0)
      go true e listed rest = subst (λ (k : ℕ). Onward (block ∷ blocks) following k (slice_index (content k) 0)) (eqb-true block at e)
          (subst (λ (k : ℕ). Onward (block ∷ blocks) following block k) (sym are.0) (here blocks refl))
      go false e listed rest = later (rest listed) e

-- a block of a snapshot links to the first log block, or to the block at the next place
pub next_at : (image : Shape) (content : ℕ → List ℕ) (base size following : ℕ) (blocks : List ℕ) (place : ℕ) → AreSnapshotBlocks image content base size blocks following → place < length blocks →
    ((place + 1 ≡ length blocks) × (slice_index (content (slice_index blocks place)) 0 ≡ following)) ⊎ ((place + 1 < length blocks) × (slice_index blocks (place + 1) ≡ slice_index (content (slice_index blocks place)) 0))
next_at image content base size following [] place are inside = absurd (omega (arith, inside))
next_at image content base size following (block ∷ []) zero are inside = inl (omega arith, are.0)
next_at image content base size following (block ∷ next ∷ more) zero are inside = inr (omega arith, sym are.0)
next_at image content base size following (block ∷ blocks) (suc place) are inside =
    ⊎_elim (λ last. inl ((let end = last.0 in omega (arith, end)), last.1)) (λ later. inr (
      (let more = later.0 in omega (arith, more)),
      subst (λ (k : ℕ). slice_index (block ∷ blocks) k ≡ slice_index (content (slice_index blocks place)) 0) (let same : suc (place + 1) ≡ suc place + 1 = omega arith in same) later.1,
    )) (next_at image content base size following blocks place are.4 (omega (arith, inside)))

-- a block of a snapshot has its form
pub snapshot_form : (image : Shape) (content : ℕ → List ℕ) (base size following : ℕ) (blocks : List ℕ) (at : ℕ) → AreSnapshotBlocks image content base size blocks following → is_listed blocks at ≡ true →
    (slice_index (content at) 1 ≡ block_word (record { kind = Snapshot; base = base })) × (is_snapshot_block image (content at) ≡ true)
snapshot_form image content base size following [] at are listed = cc
snapshot_form image content base size following (block ∷ blocks) at are listed = go (block == at) refl listed (λ more. snapshot_form image content base size following blocks at are.4 more)
  where
    Form : ℕ → Type 0
    Form b = (slice_index (content b) 1 ≡ block_word (record { kind = Snapshot; base = base })) × (is_snapshot_block image (content b) ≡ true)

    go : (same : Bool) → (block == at) ≡ same → (same || is_listed blocks at) ≡ true → (is_listed blocks at ≡ true → Form at) → Form at
    go true e here rest = subst (λ (b : ℕ). Form b) (eqb-true block at e) (are.1, are.3)
    go false e here rest = rest here
