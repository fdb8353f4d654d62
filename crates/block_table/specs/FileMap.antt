-- The map and the size that a table keeps, as clauses see them.
use Rattle.std.specs.Prelude.{ℕ, ◌+◌, Bool, ◌&&◌, ◌==◌, nat_le, nat_lt, if◌then◌else◌, List, Option, None, Some, is_some, slice_index, count_by}

-- a block's bytes, the file's size in bytes, and for each virtual block its physical block, or 0 where it is unmapped
pub record FileMap : Type 0 where
  pub block_bytes : ℕ
  pub size : ℕ
  pub blocks : List ℕ

-- what a place says: 0 that its virtual block is unmapped, any other number the physical block that holds it
abbrev pub held_by : ℕ → Option ℕ
held_by place = if place == 0 then None else Some place

-- the physical block that holds a virtual block, if it is mapped
abbrev pub block_at : FileMap → ℕ → Option ℕ
block_at map virt = held_by (slice_index map.blocks virt)

-- how many virtual blocks are mapped
abbrev pub mapped_count : FileMap → ℕ
mapped_count map = count_by (λ place. is_some (held_by place)) map.blocks

-- whether v is one of the count virtual blocks from virt on
abbrev pub is_in_range : ℕ → ℕ → ℕ → Bool
is_in_range virt count v = nat_le virt v && nat_lt v (virt + count)
