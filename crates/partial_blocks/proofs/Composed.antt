-- What composing leaves of contents and marks.
use Rattle.std.proofs.Common.{◌≡◌, ◌≢◌, ◌⊎◌, inl, inr, ℕ, zero, suc, ◌+◌, ◌*◌, ◌<◌, ◌≤◌, Bool, true, false, List, [], ◌∷◌, length, slice_index, slice_set, refl, sym, ap, ◌∙◌, arith}
use Rattle.std.proofs.lemmas.Bool.{cases_eq}
use Rattle.std.proofs.lemmas.List.{get_or-set_same, get_or-set_other, length-set}
use Rattle.pmem_words.specs.Owned.{owned_at, with_filled, with_fenced}
use Rattle.pmem_words.specs.declared.owned.OwnedBlock.{OwnedBlock}
use Rattle.pmem_words.specs.Seats.{Seat}
use Rattle.log_core.specs.Works.{words_of}
use Rattle.partial_blocks.specs.Touching.{first_touched, is_in_part}
use Rattle.partial_blocks.specs.Composing.{new_word, words_laid, composed_by, place_composed, places_composed}
use Rattle.partial_blocks.specs.Holding.{bare, unmarked, unmarked_all, ChangesOnly}
use Rattle.partial_blocks.proofs.WordsLaid.{words_bare, place_bare}
use Rattle.partial_blocks.proofs.WordsSet.{set_long, set_apart, words_apart}

set_marked : (owned : List OwnedBlock) (place : ℕ) (o : OwnedBlock) → unmarked o ≡ unmarked (owned_at owned place) → unmarked_all (slice_set owned place o) ≡ unmarked_all owned
set_marked [] place o same = refl
set_marked (x ∷ xs) zero o same = ap (λ (y : OwnedBlock). y ∷ unmarked_all xs) same
set_marked (x ∷ xs) (suc place) o same = ap (λ (l : List OwnedBlock). unmarked x ∷ l) (set_marked xs place o same)

pub both_marks : (owned : List OwnedBlock) (place : ℕ) → unmarked_all (with_fenced (with_filled owned place false) place false) ≡ unmarked_all owned
both_marks owned place = set_marked (with_filled owned place false) place (record (owned_at (with_filled owned place false) place) { fenced = false }) refl
    ∙ set_marked owned place (record (owned_at owned place) { filled = false }) refl

-- the blocks at other places keep theirs
pub both_other : (owned : List OwnedBlock) (place other : ℕ) → other ≢ place → owned_at (with_fenced (with_filled owned place false) place false) other ≡ owned_at owned other
both_other owned place other apart = get_or-set_other (with_filled owned place false) place other (record (owned_at (with_filled owned place false) place) { fenced = false }) _ apart
    ∙ get_or-set_other owned place other (record (owned_at owned place) { filled = false }) _ apart

-- the words of a block that is laid word by word
module _ (offset place virt : ℕ) (s : Seat) where
  laid_wide : (count : ℕ) → words_of (words_laid offset place virt count s) ≡ words_of s
  laid_wide count = ap words_of (words_bare offset place virt count s)

  pub laid_long : (count : ℕ) → length (words_laid offset place virt count s).blocks.contents ≡ length s.blocks.contents
  laid_long zero = refl
  laid_long (suc count) = length-set (words_laid offset place virt count s).blocks.contents _ _ ∙ laid_long count

  -- where the words are, by the seat at first
  step : (count k : ℕ) → slice_index (words_laid offset place virt (suc count) s).blocks.contents k ≡ slice_index (slice_set (words_laid offset place virt count s).blocks.contents (place * words_of s + count) (new_word offset s virt count)) k
  step count k = ap (λ (q : ℕ). slice_index (slice_set (words_laid offset place virt count s).blocks.contents (place * q + count) (new_word offset s virt count)) k) (laid_wide count)

  pub laid_there : (count word : ℕ) → place * words_of s + count ≤ length s.blocks.contents → word < count → slice_index (words_laid offset place virt count s).blocks.contents (place * words_of s + word) ≡ new_word offset s virt word
  laid_there zero word inside low = absurd (omega (arith, low))
  laid_there (suc count) word inside low = step count (place * words_of s + word) ∙ by (cases_eq word count) (λ below. laid_there count word (omega (arith, inside)) below)
    where
      by : (word ≡ count) ⊎ (word ≢ count) → (word < count → slice_index (words_laid offset place virt count s).blocks.contents (place * words_of s + word) ≡ new_word offset s virt word) →
          slice_index (slice_set (words_laid offset place virt count s).blocks.contents (place * words_of s + count) (new_word offset s virt count)) (place * words_of s + word) ≡ new_word offset s virt word
      by (inl here) before = ap (λ (j : ℕ). slice_index (slice_set (words_laid offset place virt count s).blocks.contents (place * words_of s + count) (new_word offset s virt count)) (place * words_of s + j)) here
          ∙ (get_or-set_same (words_laid offset place virt count s).blocks.contents (place * words_of s + count) (new_word offset s virt count) 0 (let long = laid_long count in omega (arith, long, inside))
          ∙ ap (λ (j : ℕ). new_word offset s virt j) (sym here))
      by (inr other) before = get_or-set_other (words_laid offset place virt count s).blocks.contents (place * words_of s + count) (place * words_of s + word) (new_word offset s virt count) 0 (λ same. other (omega (arith, same))) ∙ before (omega (arith, low, other))

  pub laid_apart : (count k : ℕ) → (k < place * words_of s) ⊎ (place * words_of s + count ≤ k) → slice_index (words_laid offset place virt count s).blocks.contents k ≡ slice_index s.blocks.contents k
  laid_apart zero k apart = refl
  laid_apart (suc count) k apart = step count k ∙ by apart (λ a. laid_apart count k a)
    where
      by : (k < place * words_of s) ⊎ (place * words_of s + suc count ≤ k) → ((k < place * words_of s) ⊎ (place * words_of s + count ≤ k) → slice_index (words_laid offset place virt count s).blocks.contents k ≡ slice_index s.blocks.contents k) →
          slice_index (slice_set (words_laid offset place virt count s).blocks.contents (place * words_of s + count) (new_word offset s virt count)) k ≡ slice_index s.blocks.contents k
      by (inl before) rest = get_or-set_other (words_laid offset place virt count s).blocks.contents (place * words_of s + count) k (new_word offset s virt count) 0 (λ same. omega (arith, same, before)) ∙ rest (inl before)
      by (inr behind) rest = get_or-set_other (words_laid offset place virt count s).blocks.contents (place * words_of s + count) k (new_word offset s virt count) 0 (λ same. omega (arith, same, behind)) ∙ rest (inr (omega (arith, behind)))

  laid_marks : (count : ℕ) → unmarked_all (words_laid offset place virt count s).blocks.owned ≡ unmarked_all s.blocks.owned
  laid_marks zero = refl
  laid_marks (suc count) = both_marks (words_laid offset place virt count s).blocks.owned place ∙ laid_marks count

  laid_other : (count other : ℕ) → other ≢ place → owned_at (words_laid offset place virt count s).blocks.owned other ≡ owned_at s.blocks.owned other
  laid_other zero other apart = refl
  laid_other (suc count) other apart = both_other (words_laid offset place virt count s).blocks.owned place other apart ∙ laid_other count other apart

-- one place
by_only : (part : Bool) (offset place virt : ℕ) (s : Seat) → bare (composed_by part offset place virt s) ≡ bare s → ChangesOnly (λ other. other ≡ place) s (composed_by part offset place virt s)
by_only true offset place virt s rest = record {
  rest = rest;
  owned = laid_marks offset place virt s (words_of s);
  marks = λ other apart. laid_other offset place virt s (words_of s) other apart;
  long = laid_long offset place virt s (words_of s);
  others = λ other word apart low. ap (λ (q : ℕ). slice_index (words_laid offset place virt (words_of s) s).blocks.contents (other * q + word)) (ap words_of rest)
      ∙ laid_apart offset place virt s (words_of s) (other * words_of s + word) (words_apart (words_of s) place other word apart low);
}
by_only false offset place virt s rest = record {
  rest = rest;
  owned = both_marks s.blocks.owned place;
  marks = λ other apart. both_other s.blocks.owned place other apart;
  long = set_long _ s.blocks.contents (place * words_of s) (words_of s);
  others = λ other word apart low. set_apart _ s.blocks.contents (place * words_of s) (words_of s) (other * words_of s + word) (words_apart (words_of s) place other word apart low);
}

pub place_only : (offset place : ℕ) (s : Seat) → ChangesOnly (λ other. other ≡ place) s (place_composed offset place s)
place_only offset place s = by_only (is_in_part offset s (first_touched offset s + place)) offset place (first_touched offset s + place) s (place_bare offset place s)

-- and the first of them
pub places_only : (offset count : ℕ) (s : Seat) → ChangesOnly (λ other. other < count) s (places_composed offset count s)
places_only offset zero s = record { rest = refl; owned = refl; marks = λ other apart. refl; long = refl; others = λ other word apart low. refl }
places_only offset (suc count) s = more (places_only offset count s) (place_only offset count (places_composed offset count s))
  where
    more : ChangesOnly (λ other. other < count) s (places_composed offset count s) → ChangesOnly (λ other. other ≡ count) (places_composed offset count s) (places_composed offset (suc count) s) →
        ChangesOnly (λ other. other < suc count) s (places_composed offset (suc count) s)
    more first last = record {
      rest = last.rest ∙ first.rest;
      owned = last.owned ∙ first.owned;
      marks = λ other apart. last.marks other (λ same. apart (omega (arith, same))) ∙ first.marks other (λ before. apart (omega (arith, before)));
      long = last.long ∙ first.long;
      others = λ other word apart low. last.others other word (λ same. apart (omega (arith, same))) (let wide = ap words_of first.rest in omega (arith, wide, low)) ∙ first.others other word (λ before. apart (omega (arith, before))) low;
    }
