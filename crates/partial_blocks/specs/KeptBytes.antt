-- What a call that lost an exchange still knows of the bytes that are there.
use Rattle.std.specs.Prelude.{ℕ, ◌+◌, ◌<◌, ◌≡◌, false, List, None}
use Rattle.log_image.specs.Entries.{Meaning}
use Rattle.pmem_words.specs.Maps.{map_at}
use Rattle.pmem_words.specs.Seats.{Seat}
use Rattle.log_core.specs.Works.{words_of, content_word}
use Rattle.log_core.proofs.writes.LaidWrites.{IsBaseByte}
use Rattle.log_blocks.specs.Taking.{taken}
use Rattle.partial_blocks.specs.Touching.{IsInFile, first_touched, touched_count, lacks, HasTouchedBases}
use Rattle.partial_blocks.specs.Composing.{HasWholeBases}
use Rattle.partial_blocks.specs.Holding.{HoldsPlace}
use Rattle.partial_blocks.specs.BasesWithin.{with_bases}

-- what the later state has of bases the earlier one has, too, and no virtual block was unmapped
pub record OldBytesKept (s t : Seat) : Type 0 where
  pub map_grows : (virt : ℕ) → map_at t.walk.map virt ≡ None → map_at s.walk.map virt ≡ None
  pub bases : (virt at byte : ℕ) → at < t.geometry.block_bytes → IsBaseByte t virt at byte → IsBaseByte s virt at byte

-- it is the same write
pub record IsSameWrite (s t : Seat) : Type 0 where
  pub geometry : t.geometry ≡ s.geometry
  pub bytes : t.calling.bytes ≡ s.calling.bytes

-- an entry that is taken in keeps them, and leaves touched blocks
abbrev pub TakingKeeps : Type 0
TakingKeeps = (offset : ℕ) (s : Seat) (meaning : Meaning) → HasTouchedBases offset s → OldBytesKept s (taken s meaning) × HasTouchedBases offset (taken s meaning)

-- so a place whose virtual block is not lacking then holds it still, where its content is the same
abbrev pub KeepsPlace : Type 0
KeepsPlace = (offset place : ℕ) (s t : Seat) → IsSameWrite s t → OldBytesKept s t → HasTouchedBases offset s → HasWholeBases t → IsInFile offset t → place < touched_count offset t →
    lacks offset t (first_touched offset t + place) ≡ false → ((word : ℕ) → word < words_of s → content_word t place word ≡ content_word s place word) → HoldsPlace offset place s → HoldsPlace offset place t

-- and so it does where more was read
abbrev pub ReadingKeeps : Type 0
ReadingKeeps = (offset place : ℕ) (s : Seat) (bases words : List ℕ) → HoldsPlace offset place s → HoldsPlace offset place (with_bases bases words s)
