-- The blocks that a seat owns, as contracts see them.
use Rattle.std.specs.Prelude.{ℕ, ◌+◌, ◌*◌, ◌/◌, ◌%◌, ◌==◌, ◌&&◌, ◌||◌, not, List, [], ◌∷◌, ◌++◌, map, filter, take, drop, slice_index_or, slice_set, Bool, false, if◌then◌else◌}
use Rattle.std.specs.Int.{bit_at}
use Rattle.std.specs.List.{remove_range}
use Rattle.log_entry.specs.declared.shapes.Area.TheVariants.{Data}
use Rattle.pmem_words.specs.declared.owned.OwnedBlock.{OwnedBlock}

-- blocks of so many words, at most so many, and their contents: word j of the block at place k is number k * block_words + j
pub record Owned : Type 0 where
  pub block_words : ℕ
  pub room : ℕ
  pub blocks : List OwnedBlock
  pub contents : List ℕ

-- the words of blocks of q words without those of the block at a place
abbrev pub without_block : ℕ → ℕ → List ℕ → List ℕ
without_block q k words = remove_range words (k * q) (k * q + q)

-- an owned block by its place; past the end of the list none
abbrev pub owned_at : List OwnedBlock → ℕ → OwnedBlock
owned_at owned k = slice_index_or owned k (record { block = 0; area = Data; filled = false; fenced = false })

-- the owned blocks with the one at a place filled or not
abbrev pub with_filled : List OwnedBlock → ℕ → Bool → List OwnedBlock
with_filled owned k filled = slice_set owned k (record (owned_at owned k) { filled = filled })

-- the owned blocks with the one at a place fenced or not
abbrev pub with_fenced : List OwnedBlock → ℕ → Bool → List OwnedBlock
with_fenced owned k fenced = slice_set owned k (record (owned_at owned k) { fenced = fenced })

-- the owned blocks, each filled one fenced
abbrev pub fenced_all : List OwnedBlock → List OwnedBlock
fenced_all owned = map (λ (o : OwnedBlock). record o { fenced = o.fenced || o.filled }) owned

-- whether a block's bit is among these bits of a bitmap word
abbrev pub is_among : ℕ → ℕ → ℕ → Bool
is_among word bits block = (block / 64 == word) && (bit_at bits (block % 64) == 1)

-- owned blocks, and their contents, without those of which f is true
abbrev pub owned_but : (ℕ → Bool) → List OwnedBlock → List OwnedBlock
owned_but f owned = filter (λ (o : OwnedBlock). not (f o.block)) owned

abbrev pub contents_but : ℕ → (ℕ → Bool) → List OwnedBlock → List ℕ → List ℕ
contents_but q f [] contents = []
contents_but q f (o ∷ owned) contents =
    if f o.block then contents_but q f owned (drop q contents) else take q contents ++ contents_but q f owned (drop q contents)
