-- The map and the size that entries make, the first entry first.
use Rattle.std.specs.Prelude.{ℕ, ◌+◌, ◌-◌, ◌*◌, nat_le, max, if◌then◌else◌, List, [], ◌∷◌, length, Option, None}
use Rattle.std.specs.List.{slice_get}
use Rattle.std.specs.Option.{option_or}
use Rattle.log_image.specs.Image.{Shape}
use Rattle.log_image.specs.Entries.{Meaning}

-- the physical block that an entry gives a virtual block, if it names it
abbrev pub block_in : Meaning → ℕ → Option ℕ
block_in entry virt = if nat_le entry.virt virt then slice_get entry.blocks (virt - entry.virt) else None

-- the physical block of a virtual block: that of the last entry that names it, if any does
abbrev pub map_of : List Meaning → ℕ → Option ℕ
map_of [] virt = None
map_of (entry ∷ entries) virt = option_or (map_of entries virt) (block_in entry virt)

-- where in the file an entry's bytes end
abbrev pub entry_end : Shape → Meaning → ℕ
entry_end shape entry = (entry.virt + length entry.blocks) * shape.block_bytes - entry.leftover

-- the size after these entries, from a size before them: each makes it at least its end
abbrev pub size_after : Shape → ℕ → List Meaning → ℕ
size_after shape size [] = size
size_after shape size (entry ∷ entries) = size_after shape (max size (entry_end shape entry)) entries
