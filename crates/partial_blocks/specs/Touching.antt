-- Which virtual blocks the bytes of a call touch, and which of those that it touches in part it has not read.
use Rattle.std.specs.Prelude.{ℕ, ◌+◌, ◌-◌, ◌*◌, ◌/◌, ◌<◌, ◌≤◌, ◌≡◌, ◌⊎◌, ◌==◌, ◌&&◌, not, nat_le, Bool, true, if◌then◌else◌, List, [], ◌∷◌, length, Option, Some, None, is_some, is_none}
use Rattle.log_entry.specs.Shape.{limit_of}
use Rattle.log_entry.specs.Legal.{touched_blocks}
use Rattle.log_image.specs.Chains.{is_listed, all_different}
use Rattle.pmem_words.specs.Maps.{map_at}
use Rattle.pmem_words.specs.Seats.{Seat}
use Rattle.log_core.specs.Works.{words_of}

-- the bytes of the call, from this byte of the file on, are some, and within the limit of a file
pub record IsInFile (offset : ℕ) (s : Seat) : Type 0 where
  pub some : 0 < length s.calling.bytes
  pub inside : offset + length s.calling.bytes ≤ limit_of s.geometry.block_bytes

-- the first and the last virtual block that they touch, and how many they touch
abbrev pub first_touched : ℕ → Seat → ℕ
first_touched offset s = offset / s.geometry.block_bytes

abbrev pub last_touched : ℕ → Seat → ℕ
last_touched offset s = (offset + length s.calling.bytes - 1) / s.geometry.block_bytes

abbrev pub touched_count : ℕ → Seat → ℕ
touched_count offset s = touched_blocks s.geometry.block_bytes offset (length s.calling.bytes)

-- whether a byte of a virtual block is none of theirs
abbrev pub is_in_part : ℕ → Seat → ℕ → Bool
is_in_part offset s virt =
    not (nat_le offset (virt * s.geometry.block_bytes) && nat_le (virt * s.geometry.block_bytes + s.geometry.block_bytes) (offset + length s.calling.bytes))

-- the place of a virtual block among the bases, the first one where it stands
abbrev pub place_from : ℕ → List ℕ → ℕ → Option ℕ
place_from place [] virt = None
place_from place (base ∷ bases) virt = if base == virt then Some place else place_from (place + 1) bases virt

abbrev pub base_place : List ℕ → ℕ → Option ℕ
base_place bases virt = place_from 0 bases virt

-- whether a virtual block is touched in part, is mapped, and is none of the bases
abbrev pub lacks : ℕ → Seat → ℕ → Bool
lacks offset s virt = is_in_part offset s virt && is_some (map_at s.walk.map virt) && is_none (base_place s.calling.bases virt)

-- the first touched block, else the last, of which that is so
abbrev pub lacks_base : ℕ → Seat → Option ℕ
lacks_base offset s =
    if lacks offset s (first_touched offset s) then Some (first_touched offset s)
    else if lacks offset s (last_touched offset s) then Some (last_touched offset s)
    else None

-- each base is the first touched block or the last and is mapped, none stands twice, and each was read whole
pub record HasTouchedBases (offset : ℕ) (s : Seat) : Type 0 where
  pub once : all_different s.calling.bases ≡ true
  pub each : (virt : ℕ) → is_listed s.calling.bases virt ≡ true → (virt ≡ first_touched offset s) ⊎ (virt ≡ last_touched offset s)
  pub mapped : (virt : ℕ) → is_listed s.calling.bases virt ≡ true → is_some (map_at s.walk.map virt) ≡ true
  pub whole : length s.calling.base_words ≡ length s.calling.bases * words_of s
