-- The block that a fill is at, within a core.
use Rattle.std.proofs.Common.{◌≡◌, ◌≢◌, ◌<◌, ◌≤◌, ◌*◌, ◌/◌, ℕ, true, false, length, sym, ap, ◌∙◌, arith}
use Rattle.std.proofs.Math.Nat.{mul-le-mul_right}
use Rattle.log_image.specs.Chains.{all_different, is_listed}
use Rattle.pmem_words.specs.Seats.{Seat, q_of}
use Rattle.log_core.specs.Views.{Ghost}
use Rattle.log_core.specs.Origin.{Origin, Header, OwnedBy}
use Rattle.log_core.specs.Cores.{Core}
use Rattle.log_core.specs.Needs.{owned_numbers}
use Rattle.log_core.specs.Works.{words_of, seat_shape}
use Rattle.log_core.specs.Steps.{StoresWord, effect, owned_with}
use Rattle.log_core.specs.Invariant.{Invariant}
use Rattle.log_core.specs.Knows.{Knows}
use Rattle.log_core.proofs.clauses.OwnedLists.{block_of}
use Rattle.block_bitmap.specs.OwnedWords.{owned_block_at, image_word, content_at, unfilled}
use Rattle.block_bitmap.specs.Filling.{HasBlocks}
use Rattle.block_bitmap.proofs.FillStanding.{IsAtBlock}
use Rattle.log_core.proofs.BlockWords.{q_range}
use Rattle.block_bitmap.proofs.OwnedFlags.{both_marks, owning}
use Rattle.block_bitmap.proofs.FillOwned.{has_at, set_by_number}

-- a block that a seat owns is not the header
pub owns_no_header : (o : Origin) (c : Core) (seat : ℕ) (s : Seat) (g : Ghost) (pin began p : ℕ) → Invariant o c → Knows o c seat s g pin began → p < length s.blocks.owned → owned_block_at s p ≢ 0
owns_no_header o c seat s g pin began p inv knows inside none =
    (let mine : c.owner (owned_block_at s p) ≡ OwnedBy seat = knows.owns.owned.listed (owned_block_at s p) (has_at s.blocks.owned p inside) in
    let both : Header ≡ OwnedBy seat = sym inv.owners.bits.header ∙ ap c.owner (sym none) ∙ mine in
    cc)

-- so its words are none of the header's first
pub not_head : (s : Seat) (p word : ℕ) → owned_block_at s p ≢ 0 → image_word s p word ≢ 3
not_head s p word some same =
    (let low = (q_range s.geometry).0 in
    let times : 1 * q_of s.geometry ≤ owned_block_at s p * q_of s.geometry = mul-le-mul_right (q_of s.geometry) (omega (arith, some)) in
    omega (arith, low, times, same))

-- the words of a block are apart
pub words_apart : (s : Seat) (p k word : ℕ) → k ≢ word → image_word s p k ≢ image_word s p word
words_apart s p k word apart same = apart (omega (arith, same))

module _ (first count place left word : ℕ) (s : Seat) (g : Ghost) (here : IsAtBlock first count place left word s g) where
  pub inside : place < length s.blocks.owned
  inside = (let owned = here.owned in let some = here.some in omega (arith, owned, some))

  pub has_blocks : length s.blocks.owned ≤ 65535 → HasBlocks place left word s
  has_blocks few = record { some = here.some; owned = here.owned; few = (let owned = here.owned in omega (arith, owned, few)); inside = here.inside }

  -- the word at hand is of that block
  pub is_of : image_word s place word / words_of s ≡ owned_block_at s place
  is_of = block_of (seat_shape s) (owned_block_at s place) word here.inside

  pub mine : is_listed (owned_numbers s.blocks.owned) (image_word s place word / words_of s) ≡ true
  mine = ap (is_listed (owned_numbers s.blocks.owned)) is_of ∙ has_at s.blocks.owned place inside

  pub stores : (f : ℕ) → all_different (owned_numbers s.blocks.owned) ≡ true → effect g.marks s (StoresWord (image_word s place word) (content_at s place word)) f ≡ unfilled s place
  stores f once = ap (owning s)
      (ap (λ (block : ℕ). owned_with block (λ o. record o { filled = false; fenced = false }) s.blocks.owned) is_of
      ∙ set_by_number (λ o. record o { filled = false; fenced = false }) s.blocks.owned place inside once
      ∙ sym (both_marks s.blocks.owned place false false inside))
