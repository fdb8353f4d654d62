-- A word is the one that has its bytes.
use Rattle.std.proofs.Common.{◌≡◌, ℕ, ◌+◌, ◌-◌, ◌^◌, ◌<◌, ◌≤◌, ◌&&◌, nat_le, ◌⊎◌, inl, inr, Bool, true, false, if◌then◌else◌, List, [], ◌∷◌, ◌++◌, length, slice_index, drop, refl, sym, ap, ◌∙◌, arith}
use Rattle.std.proofs.lemmas.List.{get_or-drop}
use Rattle.std.proofs.lemmas.Bool.{le-leb, lt-ltb, lt-leb, le-ltb}
use Rattle.byteorder.specs.Endian.{little_bytes, little_number}
use Rattle.byteorder.specs.Numbers.{little_number-reads_back}
use Rattle.partial_blocks.specs.Bytes.{byte_of, laid_byte, word_by, laid_word}

-- a place that the bytes reach, and one that they do not
pub laid_inside : (offset : ℕ) (bytes : List ℕ) (place byte : ℕ) → offset ≤ place → place < offset + length bytes → laid_byte offset bytes place byte ≡ slice_index bytes (place - offset)
laid_inside offset bytes place byte low high = rw (le-leb offset place low, lt-ltb place (offset + length bytes) high) refl

pub laid_outside : (offset : ℕ) (bytes : List ℕ) (place byte : ℕ) → (place < offset) ⊎ (offset + length bytes ≤ place) → laid_byte offset bytes place byte ≡ byte
laid_outside offset bytes place byte (inl before) = rw (lt-leb offset place before) refl
laid_outside offset bytes place byte (inr past) = rw (le-ltb place (offset + length bytes) past) (go (nat_le offset place))
  where
    go : (b : Bool) → (if b && false then slice_index bytes (place - offset) else byte) ≡ byte
    go true = refl
    go false = refl

-- the number of eight bytes is the word that has them
pub number_is : (bytes : List ℕ) → little_number 8 bytes ≡ word_by (λ k. slice_index bytes k)
number_is bytes = refl

pub same_words : (first second : ℕ → ℕ) → ((k : ℕ) → k < 8 → first k ≡ second k) → word_by first ≡ word_by second
same_words first second same = rw (same 0 (omega arith), same 1 (omega arith), same 2 (omega arith), same 3 (omega arith), same 4 (omega arith), same 5 (omega arith), same 6 (omega arith), same 7 (omega arith)) refl

-- a word of 64 bits
pub word_back : (word : ℕ) → word < 2 ^ 64 → word ≡ word_by (λ k. byte_of word k)
word_back word small = sym (ap (λ (l : List ℕ). little_number 8 l) (append_none (little_bytes 8 word)) ∙ little_number-reads_back 8 word [] small)
  where
    append_none : (l : List ℕ) → l ≡ l ++ []
    append_none [] = refl
    append_none (x ∷ l) = ap (λ (rest : List ℕ). x ∷ rest) (append_none l)

-- bytes are laid over all of a word, over none of it
pub whole_laid : (offset : ℕ) (bytes : List ℕ) (place word : ℕ) → offset ≤ place → place + 8 ≤ offset + length bytes → little_number 8 (drop (place - offset) bytes) ≡ laid_word offset bytes place word
whole_laid offset bytes place word from inside = number_is (drop (place - offset) bytes) ∙ same_words (λ k. slice_index (drop (place - offset) bytes) k) (λ k. laid_byte offset bytes (place + k) (byte_of word k))
    (λ k low. get_or-drop (place - offset) bytes k 0
    ∙ (ap (λ (n : ℕ). slice_index bytes n) (let same : place - offset + k ≡ place + k - offset = omega (arith, from) in same)
    ∙ sym (laid_inside offset bytes (place + k) (byte_of word k) (omega (arith, from)) (omega (arith, inside, low)))))

pub none_laid : (offset : ℕ) (bytes : List ℕ) (place word : ℕ) → word < 2 ^ 64 → (place + 8 ≤ offset) ⊎ (offset + length bytes ≤ place) → word ≡ laid_word offset bytes place word
none_laid offset bytes place word small apart = word_back word small ∙ same_words (λ k. byte_of word k) (λ k. laid_byte offset bytes (place + k) (byte_of word k))
    (λ k low. sym (laid_outside offset bytes (place + k) (byte_of word k) (by apart k low)))
  where
    by : (place + 8 ≤ offset) ⊎ (offset + length bytes ≤ place) → (k : ℕ) → k < 8 → (place + k < offset) ⊎ (offset + length bytes ≤ place + k)
    by (inl before) k low = inl (omega (arith, before, low))
    by (inr past) k low = inr (omega (arith, past))

-- over eight bytes that are its own
pub part_laid : (offset : ℕ) (bytes into : List ℕ) (place word : ℕ) → ((k : ℕ) → k < 8 → slice_index into k ≡ laid_byte offset bytes (place + k) (byte_of word k)) → little_number 8 into ≡ laid_word offset bytes place word
part_laid offset bytes into place word laid = number_is into ∙ same_words (λ k. slice_index into k) (λ k. laid_byte offset bytes (place + k) (byte_of word k)) laid
