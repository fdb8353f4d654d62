-- The content of an owned block, by its place among those that the seat owns.
use Rattle.std.proofs.Common.{◌≡◌, ◌≢◌, ◌<◌, ◌+◌, ◌-◌, ◌*◌, ◌/◌, ◌%◌, ◌==◌, ◌&&◌, ◌||◌, not, min, ℕ, zero, suc, Bool, true, false, List, [], ◌∷◌, length, take, drop, slice_index, refl, sym, ap, ◌∙◌, subst, arith, suc-mul}
use Rattle.std.proofs.lemmas.Bool.{eq-eqb, ne_eqb, and_parts}
use Rattle.std.proofs.lemmas.List.{length-take, length-drop, drop-drop, get_or-take, get_or-drop}
use Rattle.log_entry.specs.WordBytes.{word_bytes}
use Rattle.log_image.specs.Chains.{all_different, is_listed}
use Rattle.pmem_words.specs.Owned.{owned_at}
use Rattle.pmem_words.specs.declared.owned.OwnedBlock.{OwnedBlock}
use Rattle.pmem_words.specs.Seats.{Seat}
use Rattle.log_core.specs.Works.{words_of, owned_block, content_word}
use Rattle.log_core.specs.Needs.{owned_numbers}
use Rattle.log_core.specs.Steps.{content_from, content_of}
use Rattle.log_core.specs.May.{is_fenced}
use Rattle.log_core.proofs.Fronts.{not_again}
use Rattle.log_core.proofs.WordBytesAt.{byte_in_word}
use Rattle.log_core.proofs.clauses.Others.{owned_listed}

-- of different blocks, the content of one stands at its place
content_there : (q : ℕ) (owned : List OwnedBlock) (contents : List ℕ) (place : ℕ) → place < length owned → all_different (owned_numbers owned) ≡ true →
    content_from q (owned_at owned place).block owned contents ≡ take q (drop (place * q) contents)
content_there q [] contents place inside once = absurd (omega (arith, inside))
content_there q (o ∷ owned) contents zero inside once = rw (eq-eqb o.block o.block refl) (ap (λ (n : ℕ). take q (drop n contents)) (let none : 0 ≡ 0 * q = omega arith in none))
content_there q (o ∷ owned) contents (suc place) inside once =
    rw (ne_eqb o.block (owned_at owned place).block other)
    (content_there q owned (drop q contents) place low (and_parts (not (is_listed (owned_numbers owned) o.block)) (all_different (owned_numbers owned)) once).1
    ∙ (ap (λ (l : List ℕ). take q l) (drop-drop (place * q) q contents) ∙ ap (λ (n : ℕ). take q (drop n contents)) (let product = suc-mul place q in let same : q + place * q ≡ suc place * q = omega (arith, product) in same)))
  where
    low : place < length owned
    low = omega (arith, inside)

    other : o.block ≢ (owned_at owned place).block
    other same = not_again o.block (owned_numbers owned) once (subst (λ (b : ℕ). is_listed (owned_numbers owned) b ≡ true) (sym same) (owned_listed owned place low))

fenced_there : (owned : List OwnedBlock) (place : ℕ) → place < length owned → (owned_at owned place).fenced ≡ true → is_fenced owned (owned_at owned place).block ≡ true
fenced_there [] place inside fenced = absurd (omega (arith, inside))
fenced_there (o ∷ owned) zero inside fenced = rw (eq-eqb o.block o.block refl, fenced) refl
fenced_there (o ∷ owned) (suc place) inside fenced = later ((o.block == (owned_at owned place).block) && o.fenced) (fenced_there owned place (omega (arith, inside)) fenced)
  where
    later : (first : Bool) → is_fenced owned (owned_at owned place).block ≡ true → (first || is_fenced owned (owned_at owned place).block) ≡ true
    later true rest = refl
    later false rest = rest

-- a seat owns different blocks, with a content of a block's words for each
pub record OwnsWhole (s : Seat) : Type 0 where
  pub once : all_different (owned_numbers s.blocks.owned) ≡ true
  pub long : length s.blocks.contents ≡ length s.blocks.owned * words_of s

module _ (s : Seat) (owns : OwnsWhole s) (place : ℕ) (inside : place < length s.blocks.owned) where
  abbrev block : ℕ
  block = owned_block s place

  content_is : content_of s block ≡ take (words_of s) (drop (place * words_of s) s.blocks.contents)
  content_is = content_there (words_of s) s.blocks.owned s.blocks.contents place inside owns.once

  pub content_length : length (content_of s block) ≡ words_of s
  content_length = ap (λ (l : List ℕ). length l) content_is ∙ (length-take (words_of s) (drop (place * words_of s) s.blocks.contents)
      ∙ (ap (λ (n : ℕ). min (words_of s) n) (length-drop (place * words_of s) s.blocks.contents) ∙ room))
    where
      room : min (words_of s) (length s.blocks.contents - place * words_of s) ≡ words_of s
      room = (let long = owns.long in
          let split : length s.blocks.owned * words_of s ≡ (place + 1 + (length s.blocks.owned - (place + 1))) * words_of s = ap (λ (n : ℕ). n * words_of s) (omega (arith, inside)) in
          let apart : (place + 1 + (length s.blocks.owned - (place + 1))) * words_of s ≡ place * words_of s + words_of s + (length s.blocks.owned - (place + 1)) * words_of s = omega arith in
          omega (arith, long, split, apart))

  pub content_at : (k : ℕ) → k < words_of s → slice_index (content_of s block) k ≡ content_word s place k
  content_at k low = ap (λ (l : List ℕ). slice_index l k) content_is ∙ (get_or-take (words_of s) (drop (place * words_of s) s.blocks.contents) k 0 low ∙ get_or-drop (place * words_of s) s.blocks.contents k 0)

  -- a byte of it is one of the word that it is in
  pub content_byte : (at : ℕ) → at < 8 * words_of s → slice_index (word_bytes (content_of s block)) at ≡ slice_index (word_bytes (content_word s place (at / 8) ∷ [])) (at % 8)
  content_byte at low = byte_in_word (content_of s block) at (let long = content_length in omega (arith, low, long))
      ∙ ap (λ (word : ℕ). slice_index (word_bytes (word ∷ [])) (at % 8)) (content_at (at / 8) (omega (arith, low)))

  pub fenced_at : (owned_at s.blocks.owned place).fenced ≡ true → is_fenced s.blocks.owned block ≡ true
  fenced_at fenced = fenced_there s.blocks.owned place inside fenced
