-- What a giving leaves.
use Rattle.std.specs.Prelude.{ℕ, ◌+◌, ◌/◌, ◌<◌, List, [], ◌∷◌, if◌then◌else◌}
use Rattle.std.specs.List.{AllByRecursion}
use Rattle.pmem_words.specs.declared.owned.OwnedBlock.{OwnedBlock}
use Rattle.pmem_words.specs.Seats.{Seat}
use Rattle.asks.specs.Asks.{without_bits}
use Rattle.block_bitmap.specs.GivenBits.{bits_in}
use Rattle.block_bitmap.specs.BitsIn.{is_in}

-- a word of the bitmap without the bits of these blocks; one in which none of them is stays
abbrev pub word_without : ℕ → List OwnedBlock → ℕ → ℕ
word_without word owned found = if is_in word owned then without_bits found (bits_in word owned) else found

-- the words from a word of the bitmap on, each without the bits of these blocks
abbrev pub cleared_from : ℕ → List OwnedBlock → List ℕ → List ℕ
cleared_from word owned [] = []
cleared_from word owned (found ∷ words) = word_without word owned found ∷ cleared_from (word + 1) owned words

abbrev pub bitmap_without : List OwnedBlock → List ℕ → List ℕ
bitmap_without owned words = cleared_from 0 owned words

-- so many words of the bitmap have the bits of these blocks
abbrev pub AreInside : ℕ → List OwnedBlock → Type 0
AreInside words owned = AllByRecursion (λ (o : OwnedBlock). o.block / 64 < words) owned

-- the seat owns no block, and its bits of blocks found taken are without those that it owned
abbrev pub emptied : Seat → Seat
emptied s = record s { blocks = record s.blocks { owned = []; contents = []; found = bitmap_without s.blocks.owned s.blocks.found } }
