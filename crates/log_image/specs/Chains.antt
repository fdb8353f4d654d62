-- The chain of an image: the blocks that its present file is said by.
use Rattle.std.specs.Prelude.{ℕ, ◌+◌, ◌≡◌, ◌==◌, Bool, true, false, not, ◌&&◌, if◌then◌else◌, List, [], ◌∷◌, length}
use Rattle.std.specs.List.{AllByRecursion, list_any}
use Rattle.log_entry.specs.declared.layouts.TheConstants.{LOG}
use Rattle.log_image.specs.Image.{Shape, block_words}
use Rattle.log_image.specs.Header.{head_block}
use Rattle.log_image.specs.Blocks.{link_of, kind_of, is_snapshot, base_of, file_size, slots_of, entry_words, leads_on}

-- a number is in the list
abbrev pub is_listed : List ℕ → ℕ → Bool
is_listed numbers number = list_any (λ (other : ℕ). other == number) numbers

-- no number stands twice
abbrev pub all_different : List ℕ → Bool
all_different [] = true
all_different (number ∷ numbers) = not (is_listed numbers number) && all_different numbers

-- the snapshot blocks at the beginning of a list of blocks
abbrev pub snapshots_of : List ℕ → Shape → List ℕ → List ℕ
snapshots_of words shape [] = []
snapshots_of words shape (block ∷ blocks) = if is_snapshot (block_words words shape block) then block ∷ snapshots_of words shape blocks else []

-- the blocks from the first that is no snapshot block on
abbrev pub logs_of : List ℕ → Shape → List ℕ → List ℕ
logs_of words shape [] = []
logs_of words shape (block ∷ blocks) = if is_snapshot (block_words words shape block) then logs_of words shape blocks else block ∷ blocks

-- each block leads on to the next, which is the one that its link names, and the last leads on to none
abbrev pub LeadsAlong : List ℕ → Shape → ℕ → List ℕ → Type 0
LeadsAlong words shape block [] = leads_on (block_words words shape block) ≡ false
LeadsAlong words shape block (next ∷ rest) =
    (leads_on (block_words words shape block) ≡ true)
    × (link_of (block_words words shape block) ≡ next)
    × LeadsAlong words shape next rest

-- the first block is the head's; a chain has one
abbrev pub IsLinked : List ℕ → Shape → List ℕ → Type 0
IsLinked words shape [] = ⊥
IsLinked words shape (first ∷ rest) = (head_block words ≡ first) × LeadsAlong words shape first rest

-- the base that the first of some snapshot blocks says; 0 where there is none
abbrev pub first_base : List ℕ → Shape → List ℕ → ℕ
first_base words shape [] = 0
first_base words shape (block ∷ blocks) = base_of (block_words words shape block)

-- the size that the first of some snapshot blocks says; 0 where there is none
abbrev pub first_size : List ℕ → Shape → List ℕ → ℕ
first_size words shape [] = 0
first_size words shape (block ∷ blocks) = file_size (block_words words shape block)

-- the position whose map the snapshot holds; 0 where there is no snapshot
abbrev pub snapshot_base : List ℕ → Shape → List ℕ → ℕ
snapshot_base words shape chain = first_base words shape (snapshots_of words shape chain)

-- the file's size at the snapshot's position; 0 where there is no snapshot
abbrev pub snapshot_size : List ℕ → Shape → List ℕ → ℕ
snapshot_size words shape chain = first_size words shape (snapshots_of words shape chain)

-- the snapshot blocks have one base and one size
abbrev pub HaveOneBase : List ℕ → Shape → ℕ → ℕ → List ℕ → Type 0
HaveOneBase words shape base size blocks =
    AllByRecursion (λ (block : ℕ). (base_of (block_words words shape block) ≡ base) × (file_size (block_words words shape block) ≡ size)) blocks

-- log blocks, the first with this base, and each other with the base before it plus the number of entries before it
abbrev pub AreLogsFrom : List ℕ → Shape → ℕ → List ℕ → Type 0
AreLogsFrom words shape base [] = Unit {0}
AreLogsFrom words shape base (block ∷ blocks) =
    (kind_of (block_words words shape block) ≡ LOG)
    × (base_of (block_words words shape block) ≡ base)
    × AreLogsFrom words shape (base + length (entry_words (slots_of (block_words words shape block)))) blocks

-- different blocks, from the head's on by their links. Snapshot blocks come first, and have one base and one size. At least
-- one log block follows, since a snapshot block leads on. The first log block begins at the snapshot's base, or at 0. Each
-- log block but the last is full or sealed; the last is neither, or its link is 0. What stands after that is in no chain
pub record IsChain (words : List ℕ) (shape : Shape) (chain : List ℕ) : Type 0 where
  pub linked : IsLinked words shape chain
  pub different : all_different chain ≡ true
  pub snapshots : HaveOneBase words shape (snapshot_base words shape chain) (snapshot_size words shape chain) (snapshots_of words shape chain)
  pub logs : AreLogsFrom words shape (snapshot_base words shape chain) (logs_of words shape chain)
