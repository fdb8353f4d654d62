-- Worked images of 40 data blocks, four log blocks and blocks of 64 bytes, and what opening answers.
use Rattle.std.specs.Prelude.{ℕ, List, [], ◌∷◌, replicate, take}
use Rattle.log_image.specs.Rows.{with_words, one_byte}
use Rattle.opening_rules.specs.Opening.{Refuses, Accepts}
use Rattle.opening_rules.specs.declared.refusals.BadImage.TheVariants.{Short, BadMagic, BadVersion, BadGeometry, BadHead, BadLink, BadBase, BadEntry, BadShare, BadSlack, Long}

-- the just-made image, of 632 words, with other numbers at some places; its log block is block 41
abbrev pub made_with : List (ℕ × ℕ) → List ℕ
made_with changes = with_words changes (with_words ((0, 3552576303075180877) ∷ (1, 393217) ∷ (2, 17179869224) ∷ (3, 4294967337) ∷ (329, 4611686018427387904) ∷ []) (replicate 632 0))

-- an entry behind a tail is not looked at
abbrev pub BehindTailAccepted : Type 0
BehindTailAccepted = Accepts 5056 (made_with ((332, one_byte) ∷ [])) []

-- a sealed block's link names the block itself
abbrev pub LinkToItself : Type 0
LinkToItself = Refuses 5056 (made_with ((331, one_byte) ∷ (332, 3) ∷ (328, 41) ∷ [])) (BadLink 41 41)

-- two entries name one block
abbrev pub NamedTwice : Type 0
NamedTwice = Refuses 5056 (made_with ((331, one_byte) ∷ (332, one_byte) ∷ [])) (BadShare 1)

-- the second byte of a block is not 0, and the file has one byte
abbrev pub ByteBehindEnd : Type 0
ByteBehindEnd = Refuses 5056 (made_with ((331, one_byte) ∷ (8, 256) ∷ [])) (BadSlack 1)

-- the last byte is missing
abbrev pub OneByteShort : Type 0
OneByteShort = Refuses 5055 (take 631 (made_with ((331, one_byte) ∷ []))) (Short 5055)

-- one byte more
abbrev pub OneByteLong : Type 0
OneByteLong = Refuses 5057 (made_with ((331, one_byte) ∷ [])) (Long 5057)

-- a seal is in the first slot
abbrev pub SealInFirstSlot : Type 0
SealInFirstSlot = Refuses 5056 (made_with ((331, 3) ∷ [])) (BadEntry 41 3 3)

-- a slot right after a seal is used
abbrev pub SlotAfterSeal : Type 0
SlotAfterSeal = Refuses 5056 (made_with ((331, one_byte) ∷ (332, 3) ∷ (333, 5) ∷ [])) (BadEntry 41 5 5)

-- the base is 1, and there is no snapshot
abbrev pub BaseNotDue : Type 0
BaseNotDue = Refuses 5056 (made_with ((329, 4611686018427387905) ∷ [])) (BadBase 41 4611686018427387905)

-- numbers of the header: three bytes, another name, version 2, a power of 2 that no block has, generation 0
abbrev pub BadHeaders : Type 0
BadHeaders =
    Refuses 3 [] (Short 3)
    × Refuses 5056 (made_with ((0, 1) ∷ [])) BadMagic
    × Refuses 5056 (made_with ((1, 393218) ∷ [])) (BadVersion 2)
    × Refuses 5056 (made_with ((1, 458753) ∷ [])) BadGeometry
    × Refuses 5056 (made_with ((3, 41) ∷ [])) (BadHead 41)
