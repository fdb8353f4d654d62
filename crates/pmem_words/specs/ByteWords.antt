-- Words set to what bytes are, eight bytes for each word, the lowest first.
use Rattle.std.specs.Prelude.{ℕ, zero, suc, ◌+◌, ◌*◌, List, drop, slice_set}
use Rattle.byteorder.specs.Endian.{little_number}

-- a word of these bytes
abbrev pub word_in : List ℕ → ℕ → ℕ
word_in bytes word = little_number 8 (drop (8 * word) bytes)

-- the words of a list from a place on, so many, as those of the bytes
abbrev pub words_set : List ℕ → List ℕ → ℕ → ℕ → List ℕ
words_set bytes words start zero = words
words_set bytes words start (suc count) = slice_set (words_set bytes words start count) (start + count) (word_in bytes count)
