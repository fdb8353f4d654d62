-- A file is a list of bytes. These are POSIX's `pread` and `pwrite` on it, and an append.
use Rattle.std.specs.Prelude.{ℕ, ◌+◌, ◌-◌, List, [], ◌∷◌, ◌++◌, length, take, drop, replicate}

-- the bytes from a place on: at most so many, and none past the end
abbrev pub read : List ℕ → ℕ → ℕ → List ℕ
read file offset count = take count (drop offset file)

-- a file that is shorter than this, with zeros up to there
abbrev pub with_zeros_to : List ℕ → ℕ → List ℕ
with_zeros_to file end = file ++ replicate (end - length file) 0

-- the bytes laid over the file, from a place on that it reaches
abbrev pub with_bytes_over : List ℕ → ℕ → List ℕ → List ℕ
with_bytes_over file offset bytes = take offset file ++ bytes ++ drop (offset + length bytes) file

-- no bytes change nothing; others go over the file, after zeros where it is shorter than their place
abbrev pub write : List ℕ → ℕ → List ℕ → List ℕ
write file offset [] = file
write file offset (byte ∷ bytes) = with_bytes_over (with_zeros_to file offset) offset (byte ∷ bytes)

-- the bytes after the file
abbrev pub append : List ℕ → List ℕ → List ℕ
append file bytes = file ++ bytes
