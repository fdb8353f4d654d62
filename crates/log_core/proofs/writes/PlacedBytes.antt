-- Owned blocks, by their places, that hold the bytes of the call, one block after another.
use Rattle.std.proofs.Common.{◌≡◌, ◌<◌, ◌≤◌, ◌+◌, ◌*◌, ◌/◌, ◌%◌, ◌==◌, ◌||◌, ◌⊎◌, inl, inr, ℕ, suc, Bool, true, false, List, [], ◌∷◌, ◌++◌, length, take, drop, slice_index, refl, sym, ap, ◌∙◌, subst, arith}
use Rattle.std.proofs.lemmas.Bool.{eqb-true, cases_lt}
use Rattle.std.proofs.lemmas.List.{length-take, length-drop, get_or-take, get_or-drop, get_or_past, get_or_append_left}
use Rattle.byteorder.specs.Endian.{little_bytes, little_number}
use Rattle.byteorder.specs.Numbers.{little_from-take}
use Rattle.log_entry.proofs.WordBytesLemmas.{bytes_back}
use Rattle.log_entry.specs.WordBytes.{word_bytes}
use Rattle.log_entry.specs.declared.shapes.Area.TheVariants.{Data}
use Rattle.log_image.specs.Chains.{is_listed}
use Rattle.pmem_words.specs.Owned.{owned_at}
use Rattle.pmem_words.specs.Seats.{Seat}
use Rattle.log_core.specs.Works.{words_of, owned_block, content_word}
use Rattle.log_core.specs.Steps.{content_of}
use Rattle.log_core.specs.May.{is_fenced}
use Rattle.log_core.proofs.WordBytesAt.{eight_words}
use Rattle.log_core.proofs.writes.OwnContents.{OwnsWhole, content_byte, fenced_at}

-- the block is the owned one at this place, a fenced one of the data area, and the bytes of each of its words are those of the call from one on
pub record HasBytes (s : Seat) (block from : ℕ) : Type 0 where
  pub place : ℕ
  pub inside : place < length s.blocks.owned
  pub block_is : owned_block s place ≡ block
  pub fenced : (owned_at s.blocks.owned place).fenced ≡ true
  pub area : (owned_at s.blocks.owned place).area ≡ Data
  pub bytes : (index at : ℕ) → index < words_of s → at < 8 → slice_index (word_bytes (content_word s place index ∷ [])) at ≡ slice_index s.calling.bytes (from + 8 * index + at)

-- the number that eight bytes are is a word that has them
pub word_has : (bytes : List ℕ) (from : ℕ) → from + 8 ≤ length bytes → ((k : ℕ) → slice_index bytes k < 256) →
    (at : ℕ) → at < 8 → slice_index (word_bytes (little_number 8 (drop from bytes) ∷ [])) at ≡ slice_index bytes (from + at)
word_has bytes from inside small at low =
    ap (λ (l : List ℕ). slice_index (l ++ []) at) (ap (λ (n : ℕ). little_bytes 8 n) same ∙ bytes_back next eight next_small)
    ∙ (get_or_append_left next [] 0 at (omega (arith, low, eight)) ∙ (get_or-take 8 (drop from bytes) at 0 low ∙ get_or-drop from bytes at 0))
  where
    next : List ℕ
    next = take 8 (drop from bytes)

    eight : length next ≡ 8
    eight = length-take 8 (drop from bytes) ∙ (let long = length-drop from bytes in omega (arith, long, inside))

    same : little_number 8 (drop from bytes) ≡ little_number 8 next
    same = sym (little_from-take 0 8 8 (drop from bytes) (omega arith))

    next_small : (k : ℕ) → slice_index next k < 256
    next_small k = go (cases_lt k 8)
      where
        go : (k < 8) ⊎ (8 ≤ k) → slice_index next k < 256
        go (inl below) = subst (λ (byte : ℕ). byte < 256) (sym (get_or-take 8 (drop from bytes) k 0 below ∙ get_or-drop from bytes k 0)) (small (from + k))
        go (inr past) = subst (λ (byte : ℕ). byte < 256) (sym (get_or_past next k 0 (omega (arith, past, eight)))) (omega arith)

module _ (s : Seat) (owns : OwnsWhole s) (block from : ℕ) (has : HasBytes s block from) where
  pub bytes_fenced : is_fenced s.blocks.owned block ≡ true
  bytes_fenced = subst (λ (b : ℕ). is_fenced s.blocks.owned b ≡ true) has.block_is (fenced_at s owns has.place has.inside has.fenced)

  -- so each byte of its content is the call's
  pub bytes_hold : (at : ℕ) → at < s.geometry.block_bytes → slice_index (word_bytes (content_of s block)) at ≡ slice_index s.calling.bytes (from + at)
  bytes_hold at low = ap (λ (b : ℕ). slice_index (word_bytes (content_of s b)) at) (sym has.block_is)
      ∙ (content_byte s owns has.place has.inside at (omega (arith, low, eight))
      ∙ (has.bytes (at / 8) (at % 8) (omega (arith, low, eight)) (omega arith)
      ∙ ap (λ (k : ℕ). slice_index s.calling.bytes k) (let same : from + 8 * (at / 8) + at % 8 ≡ from + at = omega arith in same)))
    where
      eight : 8 * words_of s ≡ s.geometry.block_bytes
      eight = eight_words s.geometry.block_bytes s.geometry.block_allowed

-- a number that is listed stands at a place
pub listed_place : (numbers : List ℕ) (number : ℕ) → is_listed numbers number ≡ true → (place : ℕ) × (place < length numbers) × (slice_index numbers place ≡ number)
listed_place [] number listed = cc
listed_place (first ∷ numbers) number listed = go (first == number) refl listed (λ later. listed_place numbers number later)
  where
    go : (same : Bool) → (first == number) ≡ same → (same || is_listed numbers number) ≡ true → (is_listed numbers number ≡ true → (place : ℕ) × (place < length numbers) × (slice_index numbers place ≡ number)) →
        (place : ℕ) × (place < length (first ∷ numbers)) × (slice_index (first ∷ numbers) place ≡ number)
    go true is some rest = (0, omega arith, eqb-true first number is)
    go false is some rest = (let r = rest some in (suc r.0, (let low : r.0 < length numbers = r.1 in omega (arith, low)), r.2))

-- so blocks that do, one after another, are fenced, and hold them all
module _ (s : Seat) (owns : OwnsWhole s) (blocks : List ℕ) (each : (place : ℕ) → place < length blocks → HasBytes s (slice_index blocks place) (place * s.geometry.block_bytes)) where
  pub blocks_fenced : (block : ℕ) → is_listed blocks block ≡ true → is_fenced s.blocks.owned block ≡ true
  blocks_fenced block listed = (let r = listed_place blocks block listed in
      subst (λ (b : ℕ). is_fenced s.blocks.owned b ≡ true) r.2 (bytes_fenced s owns (slice_index blocks r.0) (r.0 * s.geometry.block_bytes) (each r.0 r.1)))

  pub blocks_hold : (place at : ℕ) → place < length blocks → at < s.geometry.block_bytes →
      slice_index (word_bytes (content_of s (slice_index blocks place))) at ≡ slice_index s.calling.bytes (place * s.geometry.block_bytes + at)
  blocks_hold place at inside low = bytes_hold s owns (slice_index blocks place) (place * s.geometry.block_bytes) (each place inside) at low
