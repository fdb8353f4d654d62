-- Composing the blocks of a write changes them alone.
use Rattle.std.proofs.Common.{◌≡◌, ◌<◌, ◌≤◌, ◌+◌, ◌*◌, ℕ, zero, suc, Bool, true, false, List, length, slice_index, Option, Some, None, refl, sym, ap, ◌∙◌, arith, mul-le-mul_right}
use Rattle.std.proofs.lemmas.List.{length-set}
use Rattle.log_entry.specs.declared.shapes.Geometry.{Geometry}
use Rattle.pmem_words.specs.Seats.{Seat, Calling, q_of}
use Rattle.log_core.specs.Works.{words_of}
use Rattle.partial_blocks.specs.Touching.{first_touched, is_in_part, base_place}
use Rattle.partial_blocks.specs.Bytes.{laid_word}
use Rattle.partial_blocks.specs.Composing.{base_word, new_word, word_set, words_laid, composed_by, place_composed, places_composed, HasWholeBases}
use Rattle.partial_blocks.specs.Holding.{bare}
use Rattle.partial_blocks.proofs.BasePlaces.{found_place}

pub words_bare : (offset place virt count : ℕ) (s : Seat) → bare (words_laid offset place virt count s) ≡ bare s
words_bare offset place virt zero s = refl
words_bare offset place virt (suc count) s = words_bare offset place virt count s

by_bare : (part : Bool) (offset place virt : ℕ) (s : Seat) → bare (composed_by part offset place virt s) ≡ bare s
by_bare true offset place virt s = words_bare offset place virt (words_of s) s
by_bare false offset place virt s = refl

pub place_bare : (offset place : ℕ) (s : Seat) → bare (place_composed offset place s) ≡ bare s
place_bare offset place s = by_bare (is_in_part offset s (first_touched offset s + place)) offset place (first_touched offset s + place) s

pub places_bare : (offset count : ℕ) (s : Seat) → bare (places_composed offset count s) ≡ bare s
places_bare offset zero s = refl
places_bare offset (suc count) s = place_bare offset count (places_composed offset count s) ∙ places_bare offset count s

-- and leaves as many
pub words_long : (offset place virt count : ℕ) (s : Seat) → length (words_laid offset place virt count s).blocks.owned ≡ length s.blocks.owned
words_long offset place virt zero s = refl
words_long offset place virt (suc count) s = length-set _ place _ ∙ (length-set (words_laid offset place virt count s).blocks.owned place _ ∙ words_long offset place virt count s)

by_long : (part : Bool) (offset place virt : ℕ) (s : Seat) → length (composed_by part offset place virt s).blocks.owned ≡ length s.blocks.owned
by_long true offset place virt s = words_long offset place virt (words_of s) s
by_long false offset place virt s = length-set _ place _ ∙ length-set s.blocks.owned place _

pub place_long : (offset place : ℕ) (s : Seat) → length (place_composed offset place s).blocks.owned ≡ length s.blocks.owned
place_long offset place s = by_long (is_in_part offset s (first_touched offset s + place)) offset place (first_touched offset s + place) s

pub places_long : (offset count : ℕ) (s : Seat) → length (places_composed offset count s).blocks.owned ≡ length s.blocks.owned
places_long offset zero s = refl
places_long offset (suc count) s = place_long offset count (places_composed offset count s) ∙ places_long offset count s

-- a word of a base is there
pub base_inside : (s : Seat) (virt place word : ℕ) → HasWholeBases s → base_place s.calling.bases virt ≡ Some place → word < words_of s → (place < length s.calling.bases) × (place * words_of s + word < length s.calling.base_words)
base_inside s virt place word whole found low =
    (let inside = (found_place s.calling.bases virt place found).0 in
    let next = mul-le-mul_right (words_of s) (let fits : place + 1 ≤ length s.calling.bases = omega (arith, inside) in fits) in
    let split : (place + 1) * words_of s ≡ place * words_of s + words_of s = omega arith in
    (inside, omega (arith, whole, next, split, low)))

-- the same words by the same call
pub same_base_word : (s t : Seat) (base : Option ℕ) (word : ℕ) → t.geometry ≡ s.geometry → t.calling ≡ s.calling → base_word t base word ≡ base_word s base word
same_base_word s t None word geometry calling = refl
same_base_word s t (Some base) word geometry calling =
    ap (λ (c : Calling). slice_index c.base_words (base * words_of t + word)) calling ∙ ap (λ (g : Geometry). slice_index s.calling.base_words (base * q_of g + word)) geometry

pub same_laid : (offset : ℕ) (bytes others : List ℕ) (place here old word : ℕ) → bytes ≡ others → place ≡ here → old ≡ word → laid_word offset bytes place old ≡ laid_word offset others here word
same_laid offset bytes others place here old word same at is =
    ap (λ (l : List ℕ). laid_word offset l place old) same ∙ (ap (λ (n : ℕ). laid_word offset others n old) at ∙ ap (λ (n : ℕ). laid_word offset others here n) is)

-- one word more
pub laid_more : (offset place virt word up value : ℕ) (s t : Seat) → up ≡ suc word → t ≡ words_laid offset place virt word s → value ≡ new_word offset s virt word → word_set place word value t ≡ words_laid offset place virt up s
laid_more offset place virt word up value s t next is same =
    ap (λ (u : Seat). word_set place word value u) is ∙ (ap (λ (n : ℕ). word_set place word n (words_laid offset place virt word s)) same ∙ ap (λ (n : ℕ). words_laid offset place virt n s) (sym next))
