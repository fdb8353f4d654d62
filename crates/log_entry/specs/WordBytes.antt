-- Words as bytes.
use Rattle.std.specs.Prelude.{ℕ, List, [], ◌∷◌, ◌++◌}
use Rattle.byteorder.specs.Endian.{little_bytes}

-- the bytes of words, eight for each, the lowest first
abbrev pub word_bytes : List ℕ → List ℕ
word_bytes [] = []
word_bytes (word ∷ words) = little_bytes 8 word ++ word_bytes words
