-- What taking blocks comes to where nobody else makes a step.
use Rattle.std.specs.Prelude.{ℕ, ◌≡◌, ◌/◌, ◌<◌, ◌≤◌, ◌⊎◌, ◌==◌, nat_le, Bool, true, false, if◌then◌else◌, List, filter, length, slice_index, bit_or}
use Rattle.std.specs.List.{range_with_len}
use Rattle.log_entry.specs.Geometry.{count_of, first_of}
use Rattle.log_entry.specs.declared.shapes.Area.{Area}
use Rattle.log_entry.specs.declared.shapes.Geometry.{Geometry}
use Rattle.log_image.specs.Taken.{bit_of}
use Rattle.pmem_words.specs.Seats.{Seat}
use Rattle.log_image.specs.Chains.{is_listed}
use Rattle.block_bitmap.specs.declared.take.Taken.{Taken}
use Rattle.block_bitmap.specs.declared.take.Taken.TheVariants.{Taken as HasTaken, NoSpace}
use Rattle.block_bitmap.specs.TakeScript.{last_word}

-- the clear blocks of an area, the least first
abbrev pub free_blocks : Geometry → Area → List ℕ → List ℕ
free_blocks g area taken = filter (λ (block : ℕ). bit_of taken block == 0) (range_with_len (first_of g area) (count_of g area))

-- all are taken, or the area has no space, by how many of its blocks are clear
abbrev pub outcome_by : Bool → Area → Taken
outcome_by true area = HasTaken
outcome_by false area = NoSpace area

abbrev pub outcome : Area → ℕ → ℕ → Taken
outcome area count free = outcome_by (nat_le count free) area

-- the bits of these blocks are set, and no other bit is changed
pub record AreSet (blocks before after : List ℕ) : Type 0 where
  pub long : length after ≡ length before
  pub bits : (block : ℕ) → bit_of after block ≡ (if is_listed blocks block then 1 else bit_of before block)

-- the seat with this found
abbrev pub found_as : List ℕ → Seat → Seat
found_as found s = record s { blocks = record s.blocks { found = found } }

-- of the words from one to another the seat found what stands there now, and of no other word anything
pub record HasFound (from to : ℕ) (taken before after : List ℕ) : Type 0 where
  pub long : length after ≡ length before
  pub passed : (word : ℕ) → from ≤ word → word ≤ to → slice_index after word ≡ bit_or (slice_index before word) (slice_index taken word)
  pub others : (word : ℕ) → (word < from) ⊎ (to < word) → slice_index after word ≡ slice_index before word

-- from the area's first word to one of its words, which is the last one where there was no space
abbrev pub HasPassed : Area → Taken → Seat → List ℕ → Seat → Type 0
HasPassed area out s taken t =
    (to : ℕ) × (first_of s.geometry area / 64 ≤ to) × (to ≤ last_word area s) × (out ≡ NoSpace area → to ≡ last_word area s) × HasFound (first_of s.geometry area / 64) to taken s.blocks.found t.blocks.found
