-- A block whose words are set one by one.
use Rattle.std.specs.List.{slice_range}
use Rattle.std.proofs.Common.{◌≡◌, ◌<◌, ◌+◌, ◌-◌, drop, ℕ, suc, false, List, length, slice_set, sym, ◌∙◌, ap, arith}
use Rattle.std.proofs.lemmas.List.{get_or-set_same, length-set, set-get_or, take_all, length-drop}
use Rattle.pmem_words.specs.Owned.{owned_at, with_filled, with_fenced}
use Rattle.pmem_words.specs.declared.owned.OwnedBlock.{OwnedBlock}
use Rattle.pmem_words.specs.ByteWords.{words_set, word_in}

-- one word more
pub words_more : (bytes words : List ℕ) (start count : ℕ) → slice_set (words_set bytes words start count) (start + count) (word_in bytes count) ≡ words_set bytes words start (count + 1)
words_more bytes words start count = ap (λ (n : ℕ). words_set bytes words start n) (let is : suc count ≡ count + 1 = omega arith in is)

-- a block without its marks stays so
module _ (owned : List OwnedBlock) (place : ℕ) (inside : place < length owned) where
  abbrev once : List OwnedBlock
  once = with_fenced (with_filled owned place false) place false

  filled_at : owned_at (with_filled owned place false) place ≡ record (owned_at owned place) { filled = false }
  filled_at = get_or-set_same owned place (record (owned_at owned place) { filled = false }) _ inside

  inside_too : place < length (with_filled owned place false)
  inside_too = (let same = length-set owned place (record (owned_at owned place) { filled = false }) in omega (arith, inside, same))

  now_at : owned_at once place ≡ record (owned_at owned place) { filled = false; fenced = false }
  now_at = get_or-set_same (with_filled owned place false) place (record (owned_at (with_filled owned place false) place) { fenced = false }) _ inside_too
      ∙ ap (λ (o : OwnedBlock). record o { fenced = false }) filled_at

  filled_again : with_filled once place false ≡ once
  filled_again = ap (λ (o : OwnedBlock). slice_set once place (record o { filled = false })) now_at ∙ (ap (λ (o : OwnedBlock). slice_set once place o) (sym now_at) ∙ set-get_or once place _)

  pub unmarked_again : with_fenced (with_filled once place false) place false ≡ once
  unmarked_again = ap (λ (l : List OwnedBlock). with_fenced l place false) filled_again
      ∙ (ap (λ (o : OwnedBlock). slice_set once place (record o { fenced = false })) now_at ∙ (ap (λ (o : OwnedBlock). slice_set once place o) (sym now_at) ∙ set-get_or once place _))

-- a slice up to the end
pub to_end : (bytes : List ℕ) (from : ℕ) → slice_range bytes from (length bytes) ≡ drop from bytes
to_end bytes from = take_all (length bytes - from) (drop from bytes) (let long = length-drop from bytes in omega (arith, long))
