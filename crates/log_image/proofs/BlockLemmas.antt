-- The words of a block after a word of the image is set.
use Rattle.std.proofs.Common.{◌≡◌, ◌≢◌, ◌<◌, ◌≤◌, ◌+◌, ◌-◌, ◌*◌, ◌==◌, nat_lt, ℕ, Bool, true, false, List, length, get_or, drop, set, min, refl, sym, ap, ◌∙◌, arith, length-drop, length-take}
use Rattle.std.proofs.lemmas.List.{ext_get_or, get_or-set_same, get_or-set_other, length-set}
use Rattle.std.proofs.lemmas.Bool.{ltb-true, ltb-false, eqb-true, eqb-false}
use Rattle.std.proofs.Math.Nat.{mul-le-mul_right}
use Rattle.log_image.specs.Image.{Shape, words_in, block_words}
use Rattle.log_image.proofs.ImageLemmas.{in_block, length_range}

-- blocks of images of one length have as many words
pub same_long : (shape : Shape) (block : ℕ) (old new : List ℕ) → length new ≡ length old → length (block_words new shape block) ≡ length (block_words old shape block)
same_long shape block old new long =
    length-take (block * words_in shape + words_in shape - block * words_in shape) (drop (block * words_in shape) new)
    ∙ ap (λ (k : ℕ). min (block * words_in shape + words_in shape - block * words_in shape) k) (length-drop (block * words_in shape) new ∙ ap (λ (k : ℕ). k - block * words_in shape) long ∙ sym (length-drop (block * words_in shape) old))
    ∙ sym (length-take (block * words_in shape + words_in shape - block * words_in shape) (drop (block * words_in shape) old))

pub within : (shape : Shape) (block : ℕ) (words : List ℕ) (index : ℕ) → index < length (block_words words shape block) → index < words_in shape
within shape block words index inside =
    omega (arith, inside, length-take (block * words_in shape + words_in shape - block * words_in shape) (drop (block * words_in shape) words))

-- a block whose words are the same
pub same_block : (shape : Shape) (block : ℕ) (old new : List ℕ) → length new ≡ length old →
    ((index : ℕ) → index < words_in shape → get_or new (block * words_in shape + index) 0 ≡ get_or old (block * words_in shape + index) 0) →
    block_words new shape block ≡ block_words old shape block
same_block shape block old new long same =
    ext_get_or 0 (block_words new shape block) (block_words old shape block) (same_long shape block old new long) (λ index inside.
    let small : index < words_in shape = within shape block new index inside in
    in_block new shape block index small ∙ same index small ∙ sym (in_block old shape block index small))

-- places of different blocks are different
pub other_place : (size first second index other : ℕ) → first ≢ second → index < size → other < size → first * size + index ≢ second * size + other
other_place size first second index other differ small also same = go (nat_lt first second) refl
  where
    go : (before : Bool) → nat_lt first second ≡ before → ⊥
    go true is = (let times : (first + 1) * size ≤ second * size = mul-le-mul_right size (omega (arith, ltb-true first second is)) in omega (arith, times, small, also, same))
    go false is =
        let past : second < first = omega (arith, ltb-false first second is, differ) in
        let times : (second + 1) * size ≤ first * size = mul-le-mul_right size (omega (arith, past)) in
        omega (arith, times, small, also, same)

-- a word that is set is in one block
pub set_elsewhere : (shape : Shape) (old : List ℕ) (block index word other : ℕ) → index < words_in shape → other ≢ block → block_words (set old (block * words_in shape + index) word) shape other ≡ block_words old shape other
set_elsewhere shape old block index word other inside differ =
    same_block shape other old (set old (block * words_in shape + index) word) (length-set old (block * words_in shape + index) word) (λ place small.
    get_or-set_other old (block * words_in shape + index) (other * words_in shape + place) word 0 (other_place (words_in shape) other block place index differ small inside))

-- a block is within the image
pub block_inside : (size block total : ℕ) → block < total → block * size + size ≤ total * size
block_inside size block total inside =
    let times : (block + 1) * size ≤ total * size = mul-le-mul_right size (omega (arith, inside)) in
    omega (arith, times)

-- the words of a block in which one is set
pub set_here : (shape : Shape) (old : List ℕ) (block index word : ℕ) → index < words_in shape → block * words_in shape + words_in shape ≤ length old →
    block_words (set old (block * words_in shape + index) word) shape block ≡ set (block_words old shape block) index word
set_here shape old block index word inside whole =
    let long : length (block_words old shape block) ≡ words_in shape = length_range old (block * words_in shape) (words_in shape) whole in
    let same : length (set old (block * words_in shape + index) word) ≡ length old = length-set old (block * words_in shape + index) word in
    ext_get_or 0 (block_words (set old (block * words_in shape + index) word) shape block) (set (block_words old shape block) index word)
    (same_long shape block old (set old (block * words_in shape + index) word) same ∙ sym (length-set (block_words old shape block) index word))
    (λ place here.
    let small : place < words_in shape = within shape block (set old (block * words_in shape + index) word) place here in
    in_block (set old (block * words_in shape + index) word) shape block place small ∙ go place small long (place == index) refl)
  where
    go : (place : ℕ) → place < words_in shape → length (block_words old shape block) ≡ words_in shape → (same : Bool) → (place == index) ≡ same →
        get_or (set old (block * words_in shape + index) word) (block * words_in shape + place) 0 ≡ get_or (set (block_words old shape block) index word) place 0
    go place small long true is =
        let one : place ≡ index = eqb-true place index is in
        rw one (get_or-set_same old (block * words_in shape + index) word 0 (omega (arith, whole, inside)) ∙ sym (get_or-set_same (block_words old shape block) index word 0 (omega (arith, long, inside))))
    go place small long false is =
        get_or-set_other old (block * words_in shape + index) (block * words_in shape + place) word 0 (λ e. eqb-false place index is (omega (arith, e)))
        ∙ sym (in_block old shape block place small)
        ∙ sym (get_or-set_other (block_words old shape block) index place word 0 (eqb-false place index is))
