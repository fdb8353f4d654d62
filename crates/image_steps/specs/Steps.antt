-- What one step on the words of an image makes of them.
use Rattle.std.specs.Prelude.{ℕ, ◌+◌, ◌*◌, ◌^◌, ◌≡◌, ◌<◌, ◌≤◌, ◌==◌, ◌&&◌, max, not, Bool, true, false, if◌then◌else◌, List, [], ◌∷◌, ◌++◌, length, slice_index, set, Some, None}
use Rattle.std.specs.List.{list_all}
use Rattle.log_entry.specs.Shape.{longest_of}
use Rattle.log_entry.specs.declared.layouts.TheConstants.{LOG}
use Rattle.log_image.specs.Image.{Shape, words_in, is_in_log, block_words, block_content}
use Rattle.log_image.specs.Header.{shape_of, generation_of}
use Rattle.log_image.specs.Entries.{direct_meaning}
use Rattle.log_image.specs.Blocks.{link_of, kind_of, base_of}
use Rattle.log_image.specs.Maps.{block_in, entry_end}
use Rattle.log_image.specs.Positions.{entries_of}
use Rattle.log_image.specs.Format.{fits, is_direct, is_kind_word}
use Rattle.log_image.specs.Stands.{StandsBy}
use Rattle.log_image.specs.Tails.{Tail, AtSlot, AtLink, tail_of, IsClear}
use Rattle.log_image.specs.Taken.{is_taken}

-- the words stand for the file at the position by the chain, and nothing stands after its tail
pub record StandsClear (words chain file : List ℕ) (position : ℕ) : Type 0 where
  pub stands : StandsBy words chain file position
  pub clear : IsClear words (shape_of words) (tail_of words (shape_of words) chain)

-- there are as many words, and each taken block has the same
pub record KeepsTaken (shape : Shape) (chain old new : List ℕ) : Type 0 where
  pub same_length : length new ≡ length old
  pub each : (block : ℕ) → is_taken old shape chain block ≡ true → block_words new shape block ≡ block_words old shape block

-- the image has the shape and the generation that it had
pub record KeepsHeader (old new : List ℕ) : Type 0 where
  pub same_shape : shape_of new ≡ shape_of old
  pub same_generation : generation_of new ≡ generation_of old

-- the words stand for what they stood for, and the entries, the blocks that the chain names, and the tail are the same
pub record StandsAsBefore (old new chain file : List ℕ) (position : ℕ) : Type 0 where
  pub header : KeepsHeader old new
  pub stands : StandsClear new chain file position
  pub entries : entries_of new (shape_of old) chain ≡ entries_of old (shape_of old) chain
  pub tail : tail_of new (shape_of old) chain ≡ tail_of old (shape_of old) chain

-- words of blocks that are not taken mean nothing
abbrev pub StoresMeanNothing : Type 0
StoresMeanNothing = (old new chain file : List ℕ) (position : ℕ) → StandsClear old chain file position → KeepsTaken (shape_of old) chain old new → StandsAsBefore old new chain file position

-- the word of a direct entry that a log block may have
abbrev pub fits_log : Shape → ℕ → Bool
fits_log shape word = is_direct word && fits shape (longest_of shape.block_bytes) (direct_meaning word)

-- the word is that of a direct entry whose blocks are not taken. They hold the new file in the virtual blocks that the entry
-- names; in others it is the file as it was
pub record IsEntryOf (words : List ℕ) (shape : Shape) (chain file new_file : List ℕ) (word : ℕ) : Type 0 where
  pub fitting : fits_log shape word ≡ true
  pub free : list_all (λ (block : ℕ). not (is_taken words shape chain block)) (direct_meaning word).blocks ≡ true
  pub size : length new_file ≡ max (length file) (entry_end shape (direct_meaning word))
  pub holds : (virt block : ℕ) → block_in (direct_meaning word) virt ≡ Some block → (at : ℕ) → at < shape.block_bytes →
      slice_index (block_content words shape block) at ≡ slice_index new_file (virt * shape.block_bytes + at)
  pub others : (virt : ℕ) → block_in (direct_meaning word) virt ≡ None → (at : ℕ) → at < shape.block_bytes →
      slice_index new_file (virt * shape.block_bytes + at) ≡ slice_index file (virt * shape.block_bytes + at)

-- the tail after a slot of a block: the next slot, or the block's link where there is none
abbrev pub next_tail : Shape → ℕ → ℕ → Tail
next_tail shape block slot = if slot + 1 == words_in shape then AtLink block else AtSlot block (slot + 1)

-- the words stand for the new file at the next position, and the chain has one entry more
pub record TakesEntry (old new chain new_file : List ℕ) (position block slot word : ℕ) : Type 0 where
  pub header : KeepsHeader old new
  pub stands : StandsClear new chain new_file (position + 1)
  pub entries : entries_of new (shape_of old) chain ≡ entries_of old (shape_of old) chain ++ direct_meaning word ∷ []
  pub tail : tail_of new (shape_of old) chain ≡ next_tail (shape_of old) block slot

-- an entry in the slot that is the tail is a write
abbrev pub EntriesAreWrites : Type 0
EntriesAreWrites = (old chain file new_file : List ℕ) (position block slot word : ℕ) → StandsClear old chain file position → tail_of old (shape_of old) chain ≡ AtSlot block slot →
    position + 1 < 2 ^ 40 → IsEntryOf old (shape_of old) chain file new_file word →
    TakesEntry old (set old (block * words_in (shape_of old) + slot) word) chain new_file position block slot word

-- the words of a log block with no entry yet, which begins at this position
pub record IsFreshLog (position : ℕ) (block : List ℕ) : Type 0 where
  pub link : link_of block ≡ 0
  pub kind : kind_of block ≡ LOG
  pub base : base_of block ≡ position
  pub named_bits : is_kind_word block ≡ true
  pub rest : (index : ℕ) → 2 ≤ index → slice_index block index ≡ 0

-- the chain has one block more, with its tail in that block's first slot; all else is as before
pub record TakesBlock (old new chain file : List ℕ) (position next : ℕ) : Type 0 where
  pub header : KeepsHeader old new
  pub stands : StandsClear new (chain ++ next ∷ []) file position
  pub entries : entries_of new (shape_of old) (chain ++ next ∷ []) ≡ entries_of old (shape_of old) chain
  pub tail : tail_of new (shape_of old) (chain ++ next ∷ []) ≡ AtSlot next 3

-- the link that is the tail, set to a fresh log block that is not taken, makes the chain longer and changes no more
abbrev pub LinksGrowTheLog : Type 0
LinksGrowTheLog = (old chain file : List ℕ) (position block next : ℕ) → StandsClear old chain file position → tail_of old (shape_of old) chain ≡ AtLink block →
    is_in_log (shape_of old) next ≡ true → is_taken old (shape_of old) chain next ≡ false → IsFreshLog position (block_words old (shape_of old) next) →
    TakesBlock old (set old (block * words_in (shape_of old)) next) chain file position next
