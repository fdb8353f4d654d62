-- The chain of an image in which the blocks before the tail are the same and the tail has the same kind and base.
use Rattle.std.proofs.Common.{◌≡◌, ◌+◌, ℕ, Bool, true, false, List, [], ◌∷◌, ◌++◌, length, get_or, if◌then◌else◌, refl, sym, ap, ◌∙◌, subst, arith, length-append}
use Rattle.std.specs.List.{flat_map}
use Rattle.log_entry.specs.Fields.{field}
use Rattle.log_entry.specs.declared.layouts.TheConstants.{BLOCK_KIND, BLOCK_BASE}
use Rattle.log_image.specs.Image.{Shape, block_words}
use Rattle.log_image.specs.Header.{head_block}
use Rattle.log_image.specs.Blocks.{link_of, is_snapshot, base_of, file_size, slots_of, entry_words, leads_on}
use Rattle.log_image.specs.Chains.{snapshots_of, logs_of, LeadsAlong, IsLinked, first_base, first_size, HaveOneBase, AreLogsFrom}
use Rattle.log_image.specs.SameWords.{SameBlocks}

-- the entries of a log block
abbrev pub log_entry_words : List ℕ → Shape → ℕ → List ℕ
log_entry_words words shape block = entry_words (slots_of (block_words words shape block))

-- a chain's snapshot blocks are before its tail, a log block
pub snapshots_front : (words : List ℕ) (shape : Shape) (front : List ℕ) (tail : ℕ) (more : List ℕ) → is_snapshot (block_words words shape tail) ≡ false → snapshots_of words shape (front ++ tail ∷ more) ≡ snapshots_of words shape front
snapshots_front words shape [] tail more log = rw log refl
snapshots_front words shape (block ∷ front) tail more log = rw (snapshots_front words shape front tail more log) refl

chosen : (snapshot : Bool) (first : List ℕ) (block : ℕ) (front back : List ℕ) (others : List ℕ) → others ≡ first ++ back → (if snapshot then others else block ∷ front ++ back) ≡ (if snapshot then first else block ∷ front) ++ back
chosen true first block front back others same = same
chosen false first block front back others same = refl

pub logs_front : (words : List ℕ) (shape : Shape) (front : List ℕ) (tail : ℕ) (more : List ℕ) → is_snapshot (block_words words shape tail) ≡ false → logs_of words shape (front ++ tail ∷ more) ≡ logs_of words shape front ++ tail ∷ more
logs_front words shape [] tail more log = rw log refl
logs_front words shape (block ∷ front) tail more log =
    chosen (is_snapshot (block_words words shape block)) (logs_of words shape front) block front (tail ∷ more) (logs_of words shape (front ++ tail ∷ more)) (logs_front words shape front tail more log)

-- the same blocks are of the same kind
pub snapshots_kept : (shape : Shape) (old new front : List ℕ) → SameBlocks shape old new front → snapshots_of new shape front ≡ snapshots_of old shape front
snapshots_kept shape old new [] same = refl
snapshots_kept shape old new (block ∷ front) same = rw (same.0, snapshots_kept shape old new front same.1) refl

pub logs_kept : (shape : Shape) (old new front : List ℕ) → SameBlocks shape old new front → logs_of new shape front ≡ logs_of old shape front
logs_kept shape old new [] same = refl
logs_kept shape old new (block ∷ front) same = rw (same.0, logs_kept shape old new front same.1) refl

-- the snapshot blocks among the same blocks are the same, and so are the log blocks
pub same_snapshots : (shape : Shape) (old new front : List ℕ) → SameBlocks shape old new front → SameBlocks shape old new (snapshots_of old shape front)
same_snapshots shape old new [] same = tt
same_snapshots shape old new (block ∷ front) same = go (is_snapshot (block_words old shape block)) (same_snapshots shape old new front same.1)
  where
    go : (snapshot : Bool) → SameBlocks shape old new (snapshots_of old shape front) → SameBlocks shape old new (if snapshot then block ∷ snapshots_of old shape front else [])
    go true rest = (same.0, rest)
    go false rest = tt

pub same_logs : (shape : Shape) (old new front : List ℕ) → SameBlocks shape old new front → SameBlocks shape old new (logs_of old shape front)
same_logs shape old new [] same = tt
same_logs shape old new (block ∷ front) same = go (is_snapshot (block_words old shape block)) (same_logs shape old new front same.1)
  where
    go : (snapshot : Bool) → SameBlocks shape old new (logs_of old shape front) → SameBlocks shape old new (if snapshot then logs_of old shape front else block ∷ front)
    go true rest = rest
    go false rest = same

leads_kept : (shape : Shape) (old new : List ℕ) (block : ℕ) (front : List ℕ) (tail : ℕ) (more : List ℕ) → SameBlocks shape old new (block ∷ front) → LeadsAlong old shape block (front ++ tail ∷ []) → LeadsAlong new shape tail more → LeadsAlong new shape block (front ++ tail ∷ more)
leads_kept shape old new block [] tail more same leads onward = (ap (λ (l : List ℕ). leads_on l) same.0 ∙ leads.0, ap (λ (l : List ℕ). link_of l) same.0 ∙ leads.1, onward)
leads_kept shape old new block (next ∷ front) tail more same leads onward =
    (ap (λ (l : List ℕ). leads_on l) same.0 ∙ leads.0, ap (λ (l : List ℕ). link_of l) same.0 ∙ leads.1, leads_kept shape old new next front tail more same.1 leads.2 onward)

-- the links before the tail are the same
pub linked_kept : (shape : Shape) (old new front : List ℕ) (tail : ℕ) (more : List ℕ) → head_block new ≡ head_block old → SameBlocks shape old new front → IsLinked old shape (front ++ tail ∷ []) → LeadsAlong new shape tail more → IsLinked new shape (front ++ tail ∷ more)
linked_kept shape old new [] tail more head same linked onward = (head ∙ linked.0, onward)
linked_kept shape old new (first ∷ front) tail more head same linked onward = (head ∙ linked.0, leads_kept shape old new first front tail more same linked.1 onward)

-- the snapshot blocks have the same base and size
pub bases_kept : (shape : Shape) (old new : List ℕ) (base size : ℕ) (blocks : List ℕ) → SameBlocks shape old new blocks → HaveOneBase old shape base size blocks → HaveOneBase new shape base size blocks
bases_kept shape old new base size [] same have = tt
bases_kept shape old new base size (block ∷ blocks) same have = ((ap (λ (l : List ℕ). base_of l) same.0 ∙ have.0.0, ap (λ (l : List ℕ). file_size l) same.0 ∙ have.0.1), bases_kept shape old new base size blocks same.1 have.1)

pub first_base_kept : (shape : Shape) (old new blocks : List ℕ) → SameBlocks shape old new blocks → first_base new shape blocks ≡ first_base old shape blocks
first_base_kept shape old new [] same = refl
first_base_kept shape old new (block ∷ blocks) same = ap (λ (l : List ℕ). base_of l) same.0

pub first_size_kept : (shape : Shape) (old new blocks : List ℕ) → SameBlocks shape old new blocks → first_size new shape blocks ≡ first_size old shape blocks
first_size_kept shape old new [] same = refl
first_size_kept shape old new (block ∷ blocks) same = ap (λ (l : List ℕ). file_size l) same.0

-- the entries of the same blocks are the same
pub words_kept : (shape : Shape) (old new blocks : List ℕ) → SameBlocks shape old new blocks → flat_map (log_entry_words new shape) blocks ≡ flat_map (log_entry_words old shape) blocks
words_kept shape old new [] same = refl
words_kept shape old new (block ∷ blocks) same = rw (same.0, words_kept shape old new blocks same.1) refl

-- the log blocks before the tail have the same bases, and what follows goes on from the entries before it
pub logs_go_on : (shape : Shape) (old new : List ℕ) (base : ℕ) (blocks : List ℕ) (tail : ℕ) (more : List ℕ) → SameBlocks shape old new blocks → get_or (block_words new shape tail) 1 0 ≡ get_or (block_words old shape tail) 1 0 →
    AreLogsFrom old shape base (blocks ++ tail ∷ []) →
    AreLogsFrom new shape (base + length (flat_map (log_entry_words old shape) blocks) + length (log_entry_words new shape tail)) more →
    AreLogsFrom new shape base (blocks ++ tail ∷ more)
logs_go_on shape old new base [] tail more same word are onward = (
  ap (λ (w : ℕ). field BLOCK_KIND w) word ∙ are.0,
  ap (λ (w : ℕ). field BLOCK_BASE w) word ∙ are.1,
  subst (λ (n : ℕ). AreLogsFrom new shape n more) (omega arith) onward,
)
logs_go_on shape old new base (block ∷ blocks) tail more same word are onward = (
  ap (λ (l : List ℕ). field BLOCK_KIND (get_or l 1 0)) same.0 ∙ are.0,
  ap (λ (l : List ℕ). base_of l) same.0 ∙ are.1,
  subst (λ (l : List ℕ). AreLogsFrom new shape (base + length (entry_words (slots_of l))) (blocks ++ tail ∷ more)) (sym same.0)
      (logs_go_on shape old new (base + length (log_entry_words old shape block)) blocks tail more same.1 word are.2
      (subst (λ (n : ℕ). AreLogsFrom new shape n more) (omega (arith, length-append (log_entry_words old shape block) (flat_map (log_entry_words old shape) blocks))) onward)),
)
