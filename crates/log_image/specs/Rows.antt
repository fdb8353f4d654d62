-- Worked images: what they stand for, and images that stand for nothing.
use Rattle.std.specs.Prelude.{ℕ, ◌+◌, ◌^◌, ◌≡◌, true, false, List, [], ◌∷◌, ◌++◌, replicate, set, take, map, Some, None}
use Rattle.std.specs.List.{range_with_len}
use Rattle.log_image.specs.Header.{shape_of}
use Rattle.log_image.specs.Entries.{meaning}
use Rattle.log_image.specs.Chains.{IsChain}
use Rattle.log_image.specs.Positions.{position_of, size_at_end, map_at}
use Rattle.log_image.specs.Format.{HasFormat}
use Rattle.log_image.specs.Stands.{Stands}
use Rattle.log_image.specs.JustMade.{made_word}
use Rattle.log_image.specs.Recovered.{Recovered, IsStopped}
use Rattle.log_image.specs.declared.starts.Start.{Start}
use Rattle.log_image.specs.Tails.{AtSlot, tail_of, is_after}

-- the words with other numbers at some places
abbrev pub with_words : List (ℕ × ℕ) → List ℕ → List ℕ
with_words [] words = words
with_words (pair ∷ pairs) words = with_words pairs (set words pair.0 pair.1)

-- a just-made image of two data blocks and a log block of 64 bytes: 24 blocks of 8 words, of which block 3 is the log block
abbrev pub two_blocks : List ℕ
two_blocks = with_words ((0, 3552576303075180877) ∷ (1, 393217) ∷ (2, 4294967298) ∷ (3, 4294967299) ∷ (25, 4611686018427387904) ∷ []) (replicate 192 0)

-- it stands for the empty file at position 0
abbrev pub JustMade : Type 0
JustMade = Stands two_blocks [] 0

-- the words that the rule for a just-made image gives, place by place, are those of the worked one
abbrev pub MadeByRule : Type 0
MadeByRule = map (made_word (record { data_blocks = 2; log_blocks = 1; block_bytes = 64 })) (range_with_len 0 192) ≡ two_blocks

-- the words stand for no file at any position
abbrev pub StandForNothing : List ℕ → Type 0
StandForNothing words = (file : List ℕ) (position : ℕ) → Stands words file position → ⊥

-- an entry: virtual block 0 is block 1, and 63 bytes of it are past the end
abbrev pub one_byte : ℕ
one_byte = 277076930461697

-- four bytes at 62 of the first file of an image of 40 data blocks and four log blocks, from block 41 on: an entry of two blocks
abbrev pub four_bytes : List ℕ
four_bytes = with_words (
    (0, 3552576303075180877) ∷ (1, 393217) ∷ (2, 17179869224) ∷ (3, 4294967337) ∷ (329, 4611686018427387904)
    ∷ (331, 272696063819777) ∷ (15, 13522620831133335552) ∷ (16, 56780) ∷ []) (replicate 632 0)

-- it stands for 62 zeros and the four bytes, at position 1
abbrev pub AcrossBlocks : Type 0
AcrossBlocks = Stands four_bytes (replicate 62 0 ++ 170 ∷ 187 ∷ 204 ∷ 221 ∷ []) 1

-- after a collection: the snapshot at position 2 is in block 5, the log goes on in block 4 with one entry, and the old log is
-- still in block 3
abbrev pub collected : List ℕ
collected = with_words (
    (3, 8589934597) ∷ (8, 204) ∷ (16, 187)
    ∷ (24, 4) ∷ (27, 277076930461697) ∷ (28, 277076930723841) ∷ (29, 3)
    ∷ (33, 4611686018427387906) ∷ (35, 277076930461697)
    ∷ (40, 4) ∷ (41, 9223372036854775810) ∷ (42, 281474976710657) ∷ (43, 524289) ∷ []) two_blocks

-- it stands for one byte at position 3
abbrev pub AfterCollection : Type 0
AfterCollection = Stands collected (204 ∷ []) 3

-- seven data blocks and two log blocks; the snapshot at position 7 is in block 11, the log goes on in block 10, and its one
-- entry has its runs in block 5
abbrev pub with_runs : List ℕ
with_runs = with_words (
    (0, 3552576303075180877) ∷ (1, 393217) ∷ (2, 8589934599) ∷ (3, 8589934603)
    ∷ (40, 8590065668) ∷ (41, 65537) ∷ (42, 65539)
    ∷ (81, 4611686018427387911) ∷ (83, 22)
    ∷ (88, 10) ∷ (89, 9223372036854775815) ∷ (90, 1125899906842817) ∷ (91, 1835009) ∷ (92, 524293) ∷ (93, 1048585) ∷ (94, 1572877) ∷ []) (replicate 256 0)

-- the entry gives virtual blocks 4 and 5 the blocks 1 and 3, which block 5 says
abbrev pub RunsInBlock : Type 0
RunsInBlock =
    (meaning with_runs (shape_of with_runs) 22 ≡ record { holder = 5 ∷ []; virt = 4; blocks = 1 ∷ 3 ∷ []; leftover = 0 })
    × IsChain with_runs (shape_of with_runs) (11 ∷ 10 ∷ [])
    × HasFormat with_runs (shape_of with_runs) (11 ∷ 10 ∷ [])

-- it ends at position 8 with 384 bytes; virtual block 3 is the snapshot's, virtual block 5 is mapped from position 8 on
abbrev pub MapWithRuns : Type 0
MapWithRuns =
    (position_of with_runs (shape_of with_runs) (11 ∷ 10 ∷ []) ≡ 8)
    × (size_at_end with_runs (shape_of with_runs) (11 ∷ 10 ∷ []) ≡ 384)
    × (map_at with_runs (shape_of with_runs) (11 ∷ 10 ∷ []) 8 3 ≡ Some 6)
    × (map_at with_runs (shape_of with_runs) (11 ∷ 10 ∷ []) 8 5 ≡ Some 3)
    × (map_at with_runs (shape_of with_runs) (11 ∷ 10 ∷ []) 7 5 ≡ None)
    × (map_at with_runs (shape_of with_runs) (11 ∷ 10 ∷ []) 8 6 ≡ None)

-- an entry behind a tail does not count: the tail is slot 3 of block 3, and clearing empties slot 4
abbrev pub behind_tail : List ℕ
behind_tail = with_words ((28, one_byte) ∷ []) two_blocks

abbrev pub BehindTail : Type 0
BehindTail =
    Stands behind_tail [] 0
    × ((file : List ℕ) (position : ℕ) → Stands behind_tail file position → position ≡ 0)
    × (tail_of behind_tail (shape_of behind_tail) (3 ∷ []) ≡ AtSlot 3 3)
    × (is_after (shape_of behind_tail) (AtSlot 3 3) 28 ≡ true)
    × (is_after (shape_of behind_tail) (AtSlot 3 3) 24 ≡ true)
    × (is_after (shape_of behind_tail) (AtSlot 3 3) 27 ≡ false)
    × (is_after (shape_of behind_tail) (AtSlot 3 3) 32 ≡ false)

-- a start of the just-made image is what is recovered from these words: the empty file at position 0
abbrev pub RecoveredBeforeTail : Type 0
RecoveredBeforeTail = (start : Start) → start.words.items ≡ two_blocks → Recovered behind_tail start [] 0

-- a clearing of two words after that tail that is stopped after the second, and one that changes the tail's slot, which none does
abbrev pub two_behind : List ℕ
two_behind = with_words ((28, one_byte) ∷ (29, one_byte) ∷ []) two_blocks

abbrev pub StoppedBeforeEnd : Type 0
StoppedBeforeEnd =
    IsStopped two_behind behind_tail
    × Stands two_behind [] 0
    × (IsStopped two_behind (with_words ((27, one_byte) ∷ []) two_behind) → ⊥)

-- one number of the header is wrong: the name of the format, its version, the generation; or a word is missing
abbrev pub WrongHeader : Type 0
WrongHeader =
    StandForNothing (with_words ((0, 3552576303075180876) ∷ []) two_blocks)
    × StandForNothing (with_words ((1, 393218) ∷ []) two_blocks)
    × StandForNothing (with_words ((3, 3) ∷ []) two_blocks)
    × StandForNothing (take 191 two_blocks)

-- a seal is in the first slot
abbrev pub SealFirst : Type 0
SealFirst = StandForNothing (with_words ((27, 3) ∷ []) two_blocks)

-- a sealed block's link names the block again
abbrev pub LinkInCircle : Type 0
LinkInCircle = StandForNothing (with_words ((27, one_byte) ∷ (28, 3) ∷ (24, 3) ∷ []) two_blocks)

-- two entries name one block
abbrev pub BlockNamedTwice : Type 0
BlockNamedTwice = StandForNothing (with_words ((27, one_byte) ∷ (28, one_byte) ∷ []) two_blocks)

-- a byte past the end of the file is not 0
abbrev pub BytePastEnd : Type 0
BytePastEnd = StandForNothing (with_words ((27, one_byte) ∷ (8, 256) ∷ []) two_blocks)

-- the first log block begins at position 1, and there is no snapshot
abbrev pub BaseOffByOne : Type 0
BaseOffByOne = StandForNothing (with_words ((25, 4611686018427387905) ∷ []) two_blocks)

-- the log after the snapshot begins one position after it
abbrev pub BaseAfterSnapshot : Type 0
BaseAfterSnapshot = StandForNothing (with_words ((33, 4611686018427387907) ∷ []) collected)

-- an entry names a block of the log area
abbrev pub BlockNotInData : Type 0
BlockNotInData = StandForNothing (with_words ((27, 277076930985985) ∷ []) two_blocks)

-- an entry has a bit that no entry has
abbrev pub UnnamedBit : Type 0
UnnamedBit = StandForNothing (with_words ((27, 277076930461697 + 2 ^ 54) ∷ []) two_blocks)

-- an indirect block says three blocks, and its two runs have one each
abbrev pub RunsDoNotAddUp : Type 0
RunsDoNotAddUp = StandForNothing (with_words ((40, 8590131204) ∷ []) with_runs)
