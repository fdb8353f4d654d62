-- The snapshot blocks of a chain, by the words of an image: they come first, have one base and one size, and lead on to the log.
use Rattle.std.proofs.Common.{◌≡◌, ◌<◌, ◌^◌, ℕ, true, false, List, [], ◌∷◌, ◌++◌, length, refl, sym, ◌∙◌, ap, arith, slice_index}
use Rattle.std.specs.List.{list_all, AllByRecursion}
use Rattle.log_entry.specs.Fields.{field}
use Rattle.log_entry.specs.Words.{block_word, snapshot_word}
use Rattle.log_entry.specs.declared.words.BlockKind.TheVariants.{Snapshot}
use Rattle.log_entry.specs.declared.layouts.TheConstants.{BLOCK_BASE, BLOCK_KIND, BLOCK_UNNAMED, SNAPSHOT_SIZE}
use Rattle.log_image.specs.Image.{Shape, block_words}
use Rattle.log_image.specs.Header.{head_block}
use Rattle.log_image.specs.Blocks.{kind_of, is_snapshot, entry_count}
use Rattle.log_image.specs.Chains.{snapshots_of, logs_of, LeadsAlong, IsLinked, HaveOneBase, first_base, first_size}
use Rattle.log_image.specs.Format.{is_kind_word, is_snapshot_block}
use Rattle.log_core.specs.Snapshots.{first_or, AreSnapshotBlocks}
use Rattle.log_core.proofs.Fronts.{snapshot_kind}

word_base : (base : ℕ) → base < 2 ^ 40 → field BLOCK_BASE (block_word (record { kind = Snapshot; base = base })) ≡ base
word_base base small = omega (arith, small)

word_plain : (base : ℕ) → base < 2 ^ 40 → field BLOCK_UNNAMED (block_word (record { kind = Snapshot; base = base })) ≡ 0
word_plain base small = omega (arith, small)

word_size : (count size : ℕ) → size < 2 ^ 48 → field SNAPSHOT_SIZE (snapshot_word (record { count = count; size = size })) ≡ size
word_size count size small = omega (arith, small)

module _ (words : List ℕ) (image : Shape) where
  abbrev left : ℕ → List ℕ
  left block = block_words words image block

  -- snapshot blocks and then others: which are which
  pub snapshots_are : (blocks : List ℕ) (tail : ℕ) (more : List ℕ) → AllByRecursion (λ (b : ℕ). is_snapshot (left b) ≡ true) blocks → is_snapshot (left tail) ≡ false → snapshots_of words image (blocks ++ tail ∷ more) ≡ blocks
  snapshots_are [] tail more all log = rw log refl
  snapshots_are (block ∷ blocks) tail more all log = rw all.0 (ap (λ (l : List ℕ). block ∷ l) (snapshots_are blocks tail more all.1 log))

  pub logs_are : (blocks : List ℕ) (tail : ℕ) (more : List ℕ) → AllByRecursion (λ (b : ℕ). is_snapshot (left b) ≡ true) blocks → is_snapshot (left tail) ≡ false → logs_of words image (blocks ++ tail ∷ more) ≡ tail ∷ more
  logs_are [] tail more all log = rw log refl
  logs_are (block ∷ blocks) tail more all log = rw all.0 (logs_are blocks tail more all.1 log)

  module _ (base size : ℕ) (base_small : base < 2 ^ 40) (size_small : size < 2 ^ 48) where
    snapshot : (block : ℕ) → slice_index (left block) 1 ≡ block_word (record { kind = Snapshot; base = base }) → is_snapshot (left block) ≡ true
    snapshot block is = (let kind : kind_of (left block) ≡ 2 = ap (λ (w : ℕ). field BLOCK_KIND w) is ∙ snapshot_kind base base_small in rw kind refl)

    pub all_snapshots : (blocks : List ℕ) (following : ℕ) → AreSnapshotBlocks image left base size blocks following → AllByRecursion (λ (b : ℕ). is_snapshot (left b) ≡ true) blocks
    all_snapshots [] following are = tt
    all_snapshots (block ∷ blocks) following are = (snapshot block are.1, all_snapshots blocks following are.4)

    pub one_base : (blocks : List ℕ) (following : ℕ) → AreSnapshotBlocks image left base size blocks following → HaveOneBase words image base size blocks
    one_base [] following are = tt
    one_base (block ∷ blocks) following are = (
      (ap (λ (w : ℕ). field BLOCK_BASE w) are.1 ∙ word_base base base_small, ap (λ (w : ℕ). field SNAPSHOT_SIZE w) are.2 ∙ word_size (entry_count (left block)) size size_small),
      one_base blocks following are.4,
    )

    pub snapshot_kinds : (blocks : List ℕ) (following : ℕ) → AreSnapshotBlocks image left base size blocks following → list_all (λ (b : ℕ). is_kind_word (left b)) blocks ≡ true
    snapshot_kinds [] following are = refl
    snapshot_kinds (block ∷ blocks) following are = rw (ap (λ (w : ℕ). field BLOCK_UNNAMED w) are.1 ∙ word_plain base base_small) (snapshot_kinds blocks following are.4)

    pub snapshot_forms : (blocks : List ℕ) (following : ℕ) → AreSnapshotBlocks image left base size blocks following → list_all (λ (b : ℕ). is_snapshot_block image (left b)) blocks ≡ true
    snapshot_forms [] following are = refl
    snapshot_forms (block ∷ blocks) following are = rw are.3 (snapshot_forms blocks following are.4)

    -- the base and the size of the first, where there is one
    pub base_said : (blocks : List ℕ) (following : ℕ) → AreSnapshotBlocks image left base size blocks following → (length blocks ≡ 0 → base ≡ 0) → first_base words image blocks ≡ base
    base_said [] following are none = sym (none refl)
    base_said (block ∷ blocks) following are none = (one_base (block ∷ blocks) following are).0.0

    pub size_said : (blocks : List ℕ) (following : ℕ) → AreSnapshotBlocks image left base size blocks following → (length blocks ≡ 0 → size ≡ 0) → first_size words image blocks ≡ size
    size_said [] following are none = sym (none refl)
    size_said (block ∷ blocks) following are none = (one_base (block ∷ blocks) following are).0.1

    -- each leads on, and the last to the log
    lead_on : (block : ℕ) (blocks : List ℕ) (tail : ℕ) (more : List ℕ) → AreSnapshotBlocks image left base size (block ∷ blocks) tail → LeadsAlong words image tail more → LeadsAlong words image block (blocks ++ tail ∷ more)
    lead_on block [] tail more are leads = (rw (snapshot block are.1) refl, are.0, leads)
    lead_on block (next ∷ blocks) tail more are leads = (rw (snapshot block are.1) refl, are.0, lead_on next blocks tail more are.4 leads)

    pub linked : (blocks : List ℕ) (tail : ℕ) (more : List ℕ) → AreSnapshotBlocks image left base size blocks tail → head_block words ≡ first_or blocks tail → LeadsAlong words image tail more → IsLinked words image (blocks ++ tail ∷ more)
    linked [] tail more are head leads = (head, leads)
    linked (block ∷ blocks) tail more are head leads = (head, lead_on block blocks tail more are leads)
