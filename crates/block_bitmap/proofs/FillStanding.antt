-- Where filling owned blocks stands.
use Rattle.std.specs.Prelude.{ℕ, zero, suc, ◌+◌, ◌<◌, ◌≤◌, ◌≡◌, nat_lt, Bool, false, length, Some}
use Rattle.pmem_words.specs.Seats.{Seat, q_of}
use Rattle.log_core.specs.Views.{Ghost}
use Rattle.log_core.specs.Works.{stored_at}
use Rattle.block_bitmap.specs.declared.fill.Fill.{Fill}
use Rattle.block_bitmap.specs.declared.fill.Fill.TheVariants.{Store, Mark, Fence}
use Rattle.block_bitmap.specs.OwnedWords.{image_word, content_at, unfilled}
use Rattle.block_bitmap.specs.Filled.{filled_from}
use Rattle.block_bitmap.specs.FillWithin.{IsCalm}

-- the seat before the store of a word of the block at a place: from the first store on, the block is not filled
abbrev pub stored_to : Seat → ℕ → ℕ → Seat
stored_to s place zero = s
stored_to s place (suc word) = unfilled s place

-- a word of a block was stored with its content, and was marked since or not
abbrev pub IsStored : Seat → Ghost → ℕ → ℕ → Bool → Type 0
IsStored s g place word marked = stored_at g.stored (image_word s place word) ≡ Some (record { word = image_word s place word; value = content_at s place word; marked = marked })

-- where a fill stands at a block: so many blocks are done
pub record IsAtBlock (first count place left word : ℕ) (s : Seat) (g : Ghost) : Type 0 where
  pub some : 0 < left
  pub owned : place + left ≤ length s.blocks.owned
  pub inside : word < q_of s.geometry
  pub calm : IsCalm s g
  pub done : ℕ
  pub at : place ≡ first + done
  pub many : done + left ≡ count

-- its words up to one are stored
pub record StoreStands (first count : ℕ) (start : Seat) (place left word : ℕ) (s : Seat) (g : Ghost) : Type 0 where
  pub here : IsAtBlock first count place left word s g
  pub seat : s ≡ stored_to (filled_from start first here.done) place word
  pub stored : (k : ℕ) → k < word → IsStored s g place k false

-- all its words are stored, and marked up to one
pub record MarkStands (first count : ℕ) (start : Seat) (place left word : ℕ) (s : Seat) (g : Ghost) : Type 0 where
  pub here : IsAtBlock first count place left word s g
  pub seat : s ≡ unfilled (filled_from start first here.done) place
  pub stored : (k : ℕ) → k < q_of s.geometry → IsStored s g place k (nat_lt k word)

-- all blocks are filled
pub record FenceStands (first count : ℕ) (start : Seat) (s : Seat) (g : Ghost) : Type 0 where
  pub calm : IsCalm s g
  pub owned : first + count ≤ length start.blocks.owned
  pub seat : s ≡ filled_from start first count

abbrev pub FillStands : ℕ → ℕ → Seat → Fill → Seat → Ghost → Type 0
FillStands first count start (Store place left word) s g = StoreStands first count start place left word s g
FillStands first count start (Mark place left word) s g = MarkStands first count start place left word s g
FillStands first count start Fence s g = FenceStands first count start s g
