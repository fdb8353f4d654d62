-- Words stored one after another, and blocks.
use Rattle.std.proofs.Common.{◌≡◌, ◌≢◌, ℕ, ◌+◌, ◌*◌, ◌/◌, ◌%◌, ◌<◌, ◌≤◌, ◌⊎◌, inl, inr, List, length, get_or, set, Option, Some, None, option_map, IsTrue, refl, sym, ap, ◌∙◌, subst, arith}
use Rattle.std.proofs.lemmas.Bool.{cases_lt}
use Rattle.std.proofs.lemmas.Bool.Decides.{nat_tests}
use Rattle.log_entry.specs.WordBytes.{word_bytes}
use Rattle.std.proofs.lemmas.List.{get_or-set_same, get_or-set_other}
use Rattle.log_entry.specs.Shape.{is_block_bytes}
use Rattle.log_image.specs.Image.{Shape, words_in, total, block_words, block_content}
use Rattle.log_image.proofs.ImageLemmas.{in_block, length_range}
use Rattle.log_image.proofs.BlockLemmas.{block_inside, same_block}
use Rattle.plain_engine.specs.Bytes.{byte_of, laid_byte, present_byte, source_word, IsLaid}
use Rattle.plain_engine.proofs.WordLemmas.{block_byte, byte_of_zero}

-- words of a block so far, and the source's words, which are apart from them
pub record StoredTo (old words : List ℕ) (source : Option ℕ) (first index place offset : ℕ) (bytes : List ℕ) : Type 0 where
  pub stored : (at : ℕ) → at < index → IsLaid offset bytes (place + 8 * at) (source_word old source at) (get_or words (first + at) 0)
  pub others : (at : ℕ) → (at < first) ⊎ (first + index ≤ at) → get_or words at 0 ≡ get_or old at 0

pub record IsSource (words : List ℕ) (source : Option ℕ) (first count : ℕ) : Type 0 where
  pub each : (from : ℕ) → source ≡ Some from → (from + count ≤ length words) × ((from + count ≤ first) ⊎ (first + count ≤ from))

source_same : (old words : List ℕ) (source : Option ℕ) (first index count place offset : ℕ) (bytes : List ℕ) → StoredTo old words source first index place offset bytes → index < count → IsSource old source first count → source_word words source index ≡ source_word old source index
source_same old words None first index count place offset bytes so_far inside is = refl
source_same old words (Some from) first index count place offset bytes so_far inside is = so_far.others (from + index) (apart ((is.each from refl).1))
  where
    apart : (from + count ≤ first) ⊎ (first + count ≤ from) → (from + index < first) ⊎ (first + index ≤ from + index)
    apart (inl before) = inl (omega (arith, before, inside))
    apart (inr past) = inr (omega (arith, past, inside))

-- one word more
pub stored_more : (old words : List ℕ) (source : Option ℕ) (first index count place offset : ℕ) (bytes : List ℕ) (word : ℕ) → length words ≡ length old → first + count ≤ length old → index < count → IsSource old source first count →
    StoredTo old words source first index place offset bytes → IsLaid offset bytes (place + 8 * index) (source_word words source index) word → StoredTo old (set words (first + index) word) source first (index + 1) place offset bytes
stored_more old words source first index count place offset bytes word long room inside is so_far laid = record {
  stored = λ at before. go at before (cases_lt at index);
  others = λ at apart. get_or-set_other words (first + index) at word 0 (away at apart) ∙ so_far.others at (wider at apart);
}
  where
    away : (at : ℕ) → (at < first) ⊎ (first + (index + 1) ≤ at) → at ≢ first + index
    away at (inl before) e = omega (arith, before, e)
    away at (inr past) e = omega (arith, past, e)

    wider : (at : ℕ) → (at < first) ⊎ (first + (index + 1) ≤ at) → (at < first) ⊎ (first + index ≤ at)
    wider at (inl before) = inl before
    wider at (inr past) = inr (omega (arith, past))

    here : IsLaid offset bytes (place + 8 * index) (source_word old source index) (get_or (set words (first + index) word) (first + index) 0)
    here =
        subst (λ (w : ℕ). IsLaid offset bytes (place + 8 * index) (source_word old source index) w) (sym (get_or-set_same words (first + index) word 0 (omega (arith, long, room, inside))))
        (subst (λ (w : ℕ). IsLaid offset bytes (place + 8 * index) w word) (source_same old words source first index count place offset bytes so_far inside is) laid)

    go : (at : ℕ) → at < index + 1 → (at < index) ⊎ (index ≤ at) → IsLaid offset bytes (place + 8 * at) (source_word old source at) (get_or (set words (first + index) word) (first + at) 0)
    go at before (inl below) = subst (λ (w : ℕ). IsLaid offset bytes (place + 8 * at) (source_word old source at) w) (sym (get_or-set_other words (first + index) (first + at) word 0 (λ e. omega (arith, e, below)))) (so_far.stored at below)
    go at before (inr past) = (let same : at ≡ index = omega (arith, before, past) in subst (λ (n : ℕ). IsLaid offset bytes (place + 8 * n) (source_word old source n) (get_or (set words (first + index) word) (first + n) 0)) (sym same) here)

-- a byte of a block by the image's word
pub byte_in : (words : List ℕ) (shape : Shape) (block at : ℕ) → shape.block_bytes ≡ 8 * words_in shape → block * words_in shape + words_in shape ≤ length words → at < shape.block_bytes → get_or (block_content words shape block) at 0 ≡ byte_of (get_or words (block * words_in shape + at / 8) 0) (at % 8)
byte_in words shape block at eight whole inside =
    block_byte (block_words words shape block) at (omega (arith, length_range words (block * words_in shape) (words_in shape) whole, eight, inside))
    ∙ ap (λ (w : ℕ). byte_of w (at % 8)) (in_block words shape block (at / 8) (omega (arith, eight, inside)))

-- the content of a block whose words are stored
pub content_laid : (words new : List ℕ) (shape : Shape) (block : ℕ) (source : Option ℕ) (place offset : ℕ) (bytes : List ℕ) → shape.block_bytes ≡ 8 * words_in shape → block * words_in shape + words_in shape ≤ length new →
    ((from : ℕ) → source ≡ Some from → from * words_in shape + words_in shape ≤ length words) →
    ((index : ℕ) → index < words_in shape → IsLaid offset bytes (place + 8 * index) (source_word words (option_map (λ (b : ℕ). b * words_in shape) source) index) (get_or new (block * words_in shape + index) 0)) →
    (at : ℕ) → at < shape.block_bytes → get_or (block_content new shape block) at 0 ≡ laid_byte offset bytes (place + at) (present_byte words shape source at)
content_laid words new shape block source place offset bytes eight whole sources stored at inside =
    let small : at / 8 < words_in shape = omega (arith, eight, inside) in
    let spot : place + 8 * (at / 8) + at % 8 ≡ place + at = omega arith in
    byte_in new shape block at eight whole inside
    ∙ stored (at / 8) small (at % 8) (omega arith)
    ∙ ap (λ (n : ℕ). laid_byte offset bytes n (byte_of (source_word words (option_map (λ (b : ℕ). b * words_in shape) source) (at / 8)) (at % 8))) spot
    ∙ ap (λ (n : ℕ). laid_byte offset bytes (place + at) n) (present source sources)
  where
    present : (source : Option ℕ) → ((from : ℕ) → source ≡ Some from → from * words_in shape + words_in shape ≤ length words) → byte_of (source_word words (option_map (λ (b : ℕ). b * words_in shape) source) (at / 8)) (at % 8) ≡ present_byte words shape source at
    present None room = byte_of_zero (at % 8)
    present (Some from) room = sym (byte_in words shape from at eight (room from refl) inside)

-- the first word of a block that is there
pub first_of_source : (o : Option ℕ) (size first : ℕ) → option_map (λ (b : ℕ). b * size) o ≡ Some first → (b : ℕ) × (o ≡ Some b) × (b * size ≡ first)
first_of_source None size first is = cc
first_of_source (Some b) size first is = (b, refl, cc)

-- the bytes of a block of an allowed shape
pub eight_words : (bytes : ℕ) → IsTrue (is_block_bytes bytes) → bytes ≡ 8 * (bytes / 8)
eight_words bytes allowed = grind (arith, nat_tests, allowed)

-- a run of blocks so far
pub record RunTo (shape : Shape) (old words : List ℕ) (held : ℕ → Option ℕ) (virt block upto offset : ℕ) (bytes : List ℕ) : Type 0 where
  pub others : (other : ℕ) → (other < block) ⊎ (block + upto ≤ other) → block_words words shape other ≡ block_words old shape other
  pub stored : (k at : ℕ) → k < upto → at < shape.block_bytes → get_or (block_content words shape (block + k)) at 0 ≡ laid_byte offset bytes ((virt + k) * shape.block_bytes + at) (present_byte old shape (held (virt + k)) at)

-- what is needed of the blocks that hold the virtual blocks
pub record AreApart (shape : Shape) (held : ℕ → Option ℕ) (block count : ℕ) : Type 0 where
  pub each : (virt from : ℕ) → held virt ≡ Some from → (from < total shape) × ((from < block) ⊎ (block + count ≤ from))

-- the source of a block's words is apart from its words
pub source_apart : (shape : Shape) (words : List ℕ) (held : ℕ → Option ℕ) (virt block k count first : ℕ) → length words ≡ total shape * words_in shape → k < count → AreApart shape held block count →
    option_map (λ (b : ℕ). b * words_in shape) (held virt) ≡ Some first → (first + words_in shape ≤ length words) × ((first + words_in shape ≤ (block + k) * words_in shape) ⊎ ((block + k) * words_in shape + words_in shape ≤ first))
source_apart shape words held virt block k count first whole inside apart is =
    let source : (b : ℕ) × (held virt ≡ Some b) × (b * words_in shape ≡ first) = first_of_source (held virt) (words_in shape) first is in
    let there : (source.0 < total shape) × ((source.0 < block) ⊎ (block + count ≤ source.0)) = apart.each virt source.0 source.1 in
    subst (λ (n : ℕ). (n + words_in shape ≤ length words) × ((n + words_in shape ≤ (block + k) * words_in shape) ⊎ ((block + k) * words_in shape + words_in shape ≤ n))) source.2
    (omega (arith, whole, block_inside (words_in shape) source.0 (total shape) there.0), either source.0 there.1)
  where
    either : (b : ℕ) → (b < block) ⊎ (block + count ≤ b) → (b * words_in shape + words_in shape ≤ (block + k) * words_in shape) ⊎ ((block + k) * words_in shape + words_in shape ≤ b * words_in shape)
    either b (inl before) = inl (block_inside (words_in shape) b (block + k) (omega (arith, before)))
    either b (inr past) = inr (block_inside (words_in shape) (block + k) b (omega (arith, past, inside)))

-- one block more
pub run_more : (shape : Shape) (old words new : List ℕ) (held : ℕ → Option ℕ) (virt block k count offset : ℕ) (bytes : List ℕ) → shape.block_bytes ≡ 8 * words_in shape → length old ≡ total shape * words_in shape → length words ≡ length old → length new ≡ length words →
    block + count ≤ total shape → k < count → AreApart shape held block count → RunTo shape old words held virt block k offset bytes →
    ((index : ℕ) → index < words_in shape → IsLaid offset bytes ((virt + k) * shape.block_bytes + 8 * index) (source_word words (option_map (λ (b : ℕ). b * words_in shape) (held (virt + k))) index) (get_or new ((block + k) * words_in shape + index) 0)) →
    ((at : ℕ) → (at < (block + k) * words_in shape) ⊎ ((block + k) * words_in shape + words_in shape ≤ at) → get_or new at 0 ≡ get_or words at 0) →
    RunTo shape old new held virt block (k + 1) offset bytes
run_more shape old words new held virt block k count offset bytes eight whole same_words same_new room inside apart so_far laid kept = record {
  others = λ other away. same_other other (not_here other away) ∙ so_far.others other (wider other away);
  stored = λ j at before small. go j at before small (cases_lt j k);
}
  where
    not_here : (other : ℕ) → (other < block) ⊎ (block + (k + 1) ≤ other) → other ≢ block + k
    not_here other (inl before) e = omega (arith, before, e)
    not_here other (inr past) e = omega (arith, past, e)

    wider : (other : ℕ) → (other < block) ⊎ (block + (k + 1) ≤ other) → (other < block) ⊎ (block + k ≤ other)
    wider other (inl before) = inl before
    wider other (inr past) = inr (omega (arith, past))

    same_other : (other : ℕ) → other ≢ block + k → block_words new shape other ≡ block_words words shape other
    same_other other differ = same_block shape other words new same_new (λ index small. kept (other * words_in shape + index) (place index small (cases_lt other (block + k))))
      where
        place : (index : ℕ) → index < words_in shape → (other < block + k) ⊎ (block + k ≤ other) → (other * words_in shape + index < (block + k) * words_in shape) ⊎ ((block + k) * words_in shape + words_in shape ≤ other * words_in shape + index)
        place index small (inl before) = inl (omega (arith, small, block_inside (words_in shape) other (block + k) before))
        place index small (inr past) = inr (omega (arith, small, block_inside (words_in shape) (block + k) other (omega (arith, past, differ))))

    inside_image : (block + k) * words_in shape + words_in shape ≤ length new
    inside_image = omega (arith, same_new, same_words, whole, block_inside (words_in shape) (block + k) (total shape) (omega (arith, room, inside)))

    source_kept : (at : ℕ) → (found : Option ℕ) → held (virt + k) ≡ found → present_byte words shape found at ≡ present_byte old shape found at
    source_kept at None is = refl
    source_kept at (Some from) is = ap (λ (l : List ℕ). get_or (word_bytes l) at 0) (so_far.others from (outside ((apart.each (virt + k) from is).1)))
      where
        outside : (from < block) ⊎ (block + count ≤ from) → (from < block) ⊎ (block + k ≤ from)
        outside (inl before) = inl before
        outside (inr past) = inr (omega (arith, past, inside))

    here : (at : ℕ) → at < shape.block_bytes → get_or (block_content new shape (block + k)) at 0 ≡ laid_byte offset bytes ((virt + k) * shape.block_bytes + at) (present_byte old shape (held (virt + k)) at)
    here at small =
        content_laid words new shape (block + k) (held (virt + k)) ((virt + k) * shape.block_bytes) offset bytes eight inside_image
        (λ from is. omega (arith, same_words, whole, block_inside (words_in shape) from (total shape) (apart.each (virt + k) from is).0)) laid at small
        ∙ ap (λ (n : ℕ). laid_byte offset bytes ((virt + k) * shape.block_bytes + at) n) (source_kept at (held (virt + k)) refl)

    go : (j at : ℕ) → j < k + 1 → at < shape.block_bytes → (j < k) ⊎ (k ≤ j) → get_or (block_content new shape (block + j)) at 0 ≡ laid_byte offset bytes ((virt + j) * shape.block_bytes + at) (present_byte old shape (held (virt + j)) at)
    go j at before small (inl below) = ap (λ (l : List ℕ). get_or (word_bytes l) at 0) (same_other (block + j) (λ e. omega (arith, e, below))) ∙ so_far.stored j at below small
    go j at before small (inr past) =
        let same : j ≡ k = omega (arith, before, past) in
        subst (λ (n : ℕ). get_or (block_content new shape (block + n)) at 0 ≡ laid_byte offset bytes ((virt + n) * shape.block_bytes + at) (present_byte old shape (held (virt + n)) at)) (sym same) (here at small)

-- the same, by the numbers that the code has
pub source_by : (shape : Shape) (words : List ℕ) (held : ℕ → Option ℕ) (virt block k count size : ℕ) (source : Option ℕ) → length words ≡ total shape * words_in shape → k < count → AreApart shape held block count → size ≡ words_in shape →
    source ≡ option_map (λ (b : ℕ). b * size) (held virt) → (first : ℕ) → source ≡ Some first → (first + size ≤ length words) × ((first + size ≤ (block + k) * size) ⊎ ((block + k) * size + size ≤ first))
source_by shape words held virt block k count size source whole inside apart is_size is first found =
    subst (λ (n : ℕ). (first + n ≤ length words) × ((first + n ≤ (block + k) * n) ⊎ ((block + k) * n + n ≤ first))) (sym is_size)
    (source_apart shape words held virt block k count first whole inside apart (subst (λ (n : ℕ). option_map (λ (b : ℕ). b * n) (held virt) ≡ Some first) is_size (sym is ∙ found)))

pub run_by : (shape : Shape) (old words new : List ℕ) (held : ℕ → Option ℕ) (virt block k count offset : ℕ) (bytes : List ℕ) (size place : ℕ) (source : Option ℕ) → shape.block_bytes ≡ 8 * words_in shape → length old ≡ total shape * words_in shape → length words ≡ length old → length new ≡ length words →
    block + count ≤ total shape → k < count → AreApart shape held block count → RunTo shape old words held virt block k offset bytes →
    size ≡ words_in shape → source ≡ option_map (λ (b : ℕ). b * size) (held (virt + k)) → place ≡ (virt + k) * shape.block_bytes →
    ((index : ℕ) → index < size → IsLaid offset bytes (place + 8 * index) (source_word words source index) (get_or new ((block + k) * size + index) 0)) →
    ((at : ℕ) → (at < (block + k) * size) ⊎ ((block + k) * size + size ≤ at) → get_or new at 0 ≡ get_or words at 0) →
    RunTo shape old new held virt block (k + 1) offset bytes
run_by shape old words new held virt block k count offset bytes size place source eight whole same_words same_new room inside apart so_far is_size is_source is_place laid kept =
    run_more shape old words new held virt block k count offset bytes eight whole same_words same_new room inside apart so_far
    (subst (λ (n : ℕ). (index : ℕ) → index < n → IsLaid offset bytes ((virt + k) * shape.block_bytes + 8 * index) (source_word words (option_map (λ (b : ℕ). b * n) (held (virt + k))) index) (get_or new ((block + k) * n + index) 0)) is_size
    (subst (λ (s : Option ℕ). (index : ℕ) → index < size → IsLaid offset bytes ((virt + k) * shape.block_bytes + 8 * index) (source_word words s index) (get_or new ((block + k) * size + index) 0)) is_source
    (subst (λ (n : ℕ). (index : ℕ) → index < size → IsLaid offset bytes (n + 8 * index) (source_word words source index) (get_or new ((block + k) * size + index) 0)) is_place laid)))
    (subst (λ (n : ℕ). (at : ℕ) → (at < (block + k) * n) ⊎ ((block + k) * n + n ≤ at) → get_or new at 0 ≡ get_or words at 0) is_size kept)
