-- Which blocks a chain names after a write, and where its tail is then, by those before it: the least clear blocks are taken.
use Rattle.std.specs.Prelude.{ℕ, ◌+◌, ◌≡◌, ◌<◌, ◌==◌, ◌&&◌, ◌||◌, nat_le, nat_lt, Bool, false, List, [], ◌∷◌, ◌++◌, Option, Some, None}
use Rattle.log_image.specs.Image.{Shape, total}
use Rattle.log_image.specs.Tails.{Tail, AtSlot, AtLink, tail_of}
use Rattle.log_image.specs.Taken.{is_taken}
use Rattle.image_steps.specs.Steps.{next_tail}
use Rattle.plain_engine.specs.Space.{least_data, least_log}

-- whether a block is in the run of so many blocks from the first on
abbrev pub is_in_run : ℕ → ℕ → ℕ → Bool
is_in_run first count block = nat_le first block && nat_lt block (first + count)

-- whether another block is the one that is linked to make a slot: this one, if the tail is a link
abbrev pub is_linked : Tail → ℕ → ℕ → Bool
is_linked (AtSlot block slot) next other = false
is_linked (AtLink block) next other = other == next

-- the chain with a slot for an entry: it had one, or this block is linked to its end
abbrev pub slot_chain : Tail → ℕ → List ℕ → List ℕ
slot_chain (AtSlot block slot) next chain = chain
slot_chain (AtLink block) next chain = chain ++ next ∷ []

-- the slot for an entry: it was the tail, or it is the first of the block that is linked
abbrev pub slot_tail : Tail → ℕ → Tail
slot_tail (AtSlot block slot) next = AtSlot block slot
slot_tail (AtLink block) next = AtSlot next 3

-- the tail after an entry is put there: the next slot of the block, or its link after its last slot; in a block that is linked,
-- its second slot
abbrev pub entry_tail : Shape → Tail → ℕ → Tail
entry_tail shape (AtSlot block slot) next = next_tail shape block slot
entry_tail shape (AtLink block) next = AtSlot next 4

-- a slot is made: where the tail was a link, the least clear block of the log area is linked and taken
pub record MakesSlot (shape : Shape) (words chain new longer : List ℕ) : Type 0 where
  pub chain_is : longer ≡ slot_chain (tail_of words shape chain) (least_log words shape chain) chain
  pub tail : tail_of new shape longer ≡ slot_tail (tail_of words shape chain) (least_log words shape chain)
  pub taken : (block : ℕ) → block < total shape → is_taken new shape longer block ≡ (is_taken words shape chain block || is_linked (tail_of words shape chain) (least_log words shape chain) block)

-- an entry is put into the tail: the run's blocks are taken, and the tail is the one after that slot
pub record TakesRun (shape : Shape) (words chain new : List ℕ) (first count : ℕ) : Type 0 where
  pub tail : (block slot : ℕ) → tail_of words shape chain ≡ AtSlot block slot → tail_of new shape chain ≡ next_tail shape block slot
  pub taken : (block : ℕ) → block < total shape → is_taken new shape chain block ≡ (is_taken words shape chain block || is_in_run first count block)

-- the chain after a call that writes so many blocks, or writes none
abbrev pub chain_after : List ℕ → Shape → List ℕ → Option ℕ → List ℕ
chain_after words shape chain None = chain
chain_after words shape chain (Some count) = slot_chain (tail_of words shape chain) (least_log words shape chain) chain

-- its tail
abbrev pub tail_after : List ℕ → Shape → List ℕ → Option ℕ → Tail
tail_after words shape chain None = tail_of words shape chain
tail_after words shape chain (Some count) = entry_tail shape (tail_of words shape chain) (least_log words shape chain)

-- whether a block is taken after it: where it was, where it is one of so many blocks from the least clear data block on, and
-- where it is the log block that is linked
abbrev pub is_taken_after : List ℕ → Shape → List ℕ → Option ℕ → ℕ → Bool
is_taken_after words shape chain None block = is_taken words shape chain block
is_taken_after words shape chain (Some count) block =
    is_taken words shape chain block || is_in_run (least_data words shape chain) count block || is_linked (tail_of words shape chain) (least_log words shape chain) block

-- the chain, its tail and the taken blocks of the image are those that follow a call that writes so many blocks, or writes none
pub record NamesAfter (shape : Shape) (words chain : List ℕ) (written : Option ℕ) (new longer : List ℕ) : Type 0 where
  pub chain_is : longer ≡ chain_after words shape chain written
  pub tail : tail_of new shape longer ≡ tail_after words shape chain written
  pub taken : (block : ℕ) → block < total shape → is_taken new shape longer block ≡ is_taken_after words shape chain written block
