-- What is known of the words of owned blocks.
use Rattle.std.specs.Prelude.{ℕ, ◌*◌, ◌/◌, ◌==◌, ◌&&◌, ◌<◌, ◌≡◌, ◌⊎◌, true, Bool, List, length}
use Rattle.std.specs.List.{AllByRecursion, list_any}
use Rattle.pmem_words.specs.Owned.{owned_at}
use Rattle.pmem_words.specs.declared.owned.OwnedBlock.{OwnedBlock}
use Rattle.pmem_words.specs.Seats.{Seat}
use Rattle.persistence.specs.Memory.{Replaced, PendingMark, Cell, index_at, pending_of}
use Rattle.log_image.specs.Chains.{is_listed}
use Rattle.log_core.specs.Entries.{place_in}
use Rattle.log_core.specs.Views.{View, view_of, Ghost, Stored}
use Rattle.log_core.specs.Works.{seat_shape, words_of, owned_block, content_word, MayCountFilled}
use Rattle.log_core.specs.Needs.{owned_numbers}
use Rattle.log_core.specs.Steps.{area_of}
use Rattle.log_core.specs.Certain.{IsCertain}

-- whether a mark is of the word's present value
abbrev pub is_of_present : (ℕ → Cell) → List Replaced → ℕ → PendingMark → Bool
is_of_present cells past word note = (note.word == word) && (index_at past note.time word == length (cells word).past)

-- the floor of a word is at its present value, or a mark of the seat is
abbrev pub IsMarkedNow : (ℕ → Cell) → List Replaced → List PendingMark → ℕ → ℕ → Type 0
IsMarkedNow cells past pending seat word =
    ((cells word).floor ≡ length (cells word).past)
    ⊎ (list_any (λ (note : PendingMark). is_of_present cells past word note) (pending_of seat pending) ≡ true)

-- a word stored in an owned block is the present one; where it was marked since, no later fence of the seat leaves an earlier value
pub record StoredHolds (cells : ℕ → Cell) (past : List Replaced) (pending : List PendingMark) (seat q : ℕ) (owned : List ℕ) (stored : Stored) : Type 0 where
  pub mine : is_listed owned (stored.word / q) ≡ true
  pub present : (cells stored.word).present ≡ stored.value
  pub marked : stored.marked ≡ true → IsMarkedNow cells past pending seat stored.word

-- the owned blocks: their contents are of whole blocks, and each has its area; the stored words are as stored; each word of a filled
-- block was stored and marked; and only its content is possible in a fenced one
pub record OwnedHold (cells : ℕ → Cell) (past : List Replaced) (pending : List PendingMark) (seat : ℕ) (g : Ghost) (s : Seat) : Type 0 where
  pub contents : length s.blocks.contents ≡ length s.blocks.owned * words_of s
  pub areas : AllByRecursion (λ (o : OwnedBlock). o.area ≡ area_of (seat_shape s) o.block) s.blocks.owned
  pub stored : AllByRecursion (StoredHolds cells past pending seat (words_of s) (owned_numbers s.blocks.owned)) g.stored
  pub filled : (place : ℕ) → place < length s.blocks.owned → (owned_at s.blocks.owned place).filled ≡ true → MayCountFilled g s place
  pub fenced : (place word : ℕ) → place < length s.blocks.owned → (owned_at s.blocks.owned place).fenced ≡ true → word < words_of s →
      IsCertain (cells (place_in (seat_shape s) (owned_block s place) word)) (content_word s place word)

abbrev pub OwnedAllHold : (ℕ → Cell) → List Replaced → List PendingMark → List View → Type 0
OwnedAllHold cells past pending views = (seat : ℕ) → OwnedHold cells past pending seat (view_of views seat).ghost (view_of views seat).seat
