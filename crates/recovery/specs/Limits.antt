-- The limits of an entry's numbers, apart from where its blocks are.
use Rattle.std.specs.Prelude.{ℕ, ◌+◌, Bool, ◌&&◌, nat_le, nat_lt}

-- at least one block and at most so many, virtual blocks of the file, and a leftover of less than a block of so many bytes
abbrev pub are_limits : ℕ → ℕ → ℕ → ℕ → ℕ → Bool
are_limits block_bytes longest virt count leftover = nat_le 1 count && nat_le count longest && nat_le (virt + count) 65536 && nat_lt leftover block_bytes
