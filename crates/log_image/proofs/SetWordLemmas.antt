-- A word that is set in the tail: the other blocks stay, and the header does.
use Rattle.std.proofs.Common.{◌≡◌, ◌≢◌, ◌<◌, ◌≤◌, ◌+◌, ◌*◌, ◌==◌, not, nat_lt, ℕ, suc, Bool, true, false, List, [], ◌∷◌, ◌++◌, length, drop, set, refl, sym, ◌∙◌, subst, arith}
use Rattle.std.proofs.lemmas.Bool.{ltb-true, eqb-true, eq-eqb}
use Rattle.std.proofs.lemmas.List.{get_or-set_other, length-set}
use Rattle.std.proofs.Math.Nat.{mul-le-mul_right}
use Rattle.log_image.specs.Image.{Shape, words_in, total, is_in_data, is_in_log, block_words}
use Rattle.log_image.specs.Header.{shape_of, HasHeader}
use Rattle.log_image.specs.Entries.{all_names}
use Rattle.log_image.specs.Chains.{all_different, is_listed}
use Rattle.log_image.specs.Positions.{entries_of}
use Rattle.log_image.specs.Format.{HasFormat}
use Rattle.log_image.proofs.HoldingLemmas.{both_left, both_right}
use Rattle.log_image.specs.SameWords.{SameHeader, SameBlocks}
use Rattle.log_image.proofs.BlockLemmas.{set_elsewhere, block_inside}
use Rattle.log_image.proofs.NameLemmas.{or_left, or_right, each_in, test_in, names_in_data, not_data}

-- what drops three elements keeps a later element that is set
pub drop_set : (words : List ℕ) (index word : ℕ) → drop 3 (set words (3 + index) word) ≡ set (drop 3 words) index word
drop_set words index word = (let place : 3 + index ≡ suc (suc (suc index)) = omega arith in subst (λ (n : ℕ). drop 3 (set words n word) ≡ set (drop 3 words) index word) (sym place) (go words))
  where
    go : (words : List ℕ) → drop 3 (set words (suc (suc (suc index))) word) ≡ set (drop 3 words) index word
    go [] = refl
    go (a ∷ []) = refl
    go (a ∷ b ∷ []) = refl
    go (a ∷ b ∷ c ∷ words) = refl

pub drop_first : (words : List ℕ) (word : ℕ) → drop 3 (set words 0 word) ≡ drop 3 words
drop_first [] word = refl
drop_first (a ∷ words) word = refl

-- a block of the log or spare area is past the header, and inside the image
pub past_header : (shape : Shape) (block : ℕ) → 4 ≤ words_in shape → is_in_log shape block ≡ true → 4 ≤ block * words_in shape
past_header shape block long log =
    let past : shape.data_blocks < block = ltb-true shape.data_blocks block (both_left (nat_lt shape.data_blocks block) (nat_lt block (total shape)) log) in
    let times : 1 * words_in shape ≤ block * words_in shape = mul-le-mul_right (words_in shape) (omega (arith, past)) in
    omega (arith, times, long)

pub log_inside : (shape : Shape) (block : ℕ) → is_in_log shape block ≡ true → block < total shape
log_inside shape block log = ltb-true block (total shape) (both_right (nat_lt shape.data_blocks block) (nat_lt block (total shape)) log)

pub set_header : (shape : Shape) (old : List ℕ) (block index word : ℕ) → 4 ≤ words_in shape → is_in_log shape block ≡ true → SameHeader old (set old (block * words_in shape + index) word)
set_header shape old block index word long log = record {
  same_length = length-set old (block * words_in shape + index) word;
  each = λ place first. get_or-set_other old (block * words_in shape + index) place word 0 (λ e. omega (arith, e, first, past_header shape block long log));
}

-- a number before the last of different ones is not the last
pub not_last : (front : List ℕ) (tail : ℕ) (more : List ℕ) → all_different (front ++ tail ∷ more) ≡ true → (block : ℕ) → is_listed front block ≡ true → block ≢ tail
not_last [] tail more different block inside = λ same. (let never : false ≡ true = inside in cc)
not_last (first ∷ front) tail more different block inside = go (first == block) refl (λ later. not_last front tail more (both_right (not (is_listed (front ++ tail ∷ more) first)) (all_different (front ++ tail ∷ more)) different) block later)
  where
    never : (b : Bool) → not b ≡ true → b ≡ true → ⊥
    never b no_b is = cc

    in_back : (front : List ℕ) → is_listed (front ++ tail ∷ more) tail ≡ true
    in_back [] = or_left (tail == tail) (is_listed more tail) (eq-eqb tail tail refl)
    in_back (other ∷ front) = or_right (other == tail) (is_listed (front ++ tail ∷ more) tail) (in_back front)

    go : (same : Bool) → (first == block) ≡ same → (is_listed front block ≡ true → block ≢ tail) → block ≢ tail
    go true is rest e =
        let one : first ≡ tail = eqb-true first block is ∙ e in
        never (is_listed (front ++ tail ∷ more) first) (both_left (not (is_listed (front ++ tail ∷ more) first)) (all_different (front ++ tail ∷ more)) different)
        (subst (λ (n : ℕ). is_listed (front ++ tail ∷ more) n ≡ true) (sym one) (in_back front))
    go false is rest e = rest (rw is at inside) e

-- the blocks before the tail are the same, and so are those that the entries name
pub set_front : (shape : Shape) (old front : List ℕ) (tail index word : ℕ) → index < words_in shape → all_different (front ++ tail ∷ []) ≡ true → SameBlocks shape old (set old (tail * words_in shape + index) word) front
set_front shape old front tail index word inside different =
    each_in (λ (b : ℕ). block_words (set old (tail * words_in shape + index) word) shape b ≡ block_words old shape b) front
    (λ b here. set_elsewhere shape old tail index word b inside (not_last front tail [] different b here))

-- a block of the data area is the same
pub set_data : (shape : Shape) (old : List ℕ) (tail index word : ℕ) → index < words_in shape → is_in_log shape tail ≡ true → (block : ℕ) → is_in_data shape block ≡ true → block_words (set old (tail * words_in shape + index) word) shape block ≡ block_words old shape block
set_data shape old tail index word inside log block stored = set_elsewhere shape old tail index word block inside (not_data shape block tail stored log)

pub set_named : (shape : Shape) (old chain : List ℕ) (tail index word : ℕ) → index < words_in shape → is_in_log shape tail ≡ true → HasFormat old shape chain →
    (block : ℕ) → is_listed (all_names (entries_of old shape chain)) block ≡ true → block_words (set old (tail * words_in shape + index) word) shape block ≡ block_words old shape block
set_named shape old chain tail index word inside log format block here =
    set_data shape old tail index word inside log block (test_in (is_in_data shape) (all_names (entries_of old shape chain)) block (names_in_data old shape chain format) here)

pub set_names : (shape : Shape) (old chain : List ℕ) (tail index word : ℕ) → index < words_in shape → is_in_log shape tail ≡ true → HasFormat old shape chain →
    SameBlocks shape old (set old (tail * words_in shape + index) word) (all_names (entries_of old shape chain))
set_names shape old chain tail index word inside log format =
    each_in (λ (b : ℕ). block_words (set old (tail * words_in shape + index) word) shape b ≡ block_words old shape b) (all_names (entries_of old shape chain)) (set_named shape old chain tail index word inside log format)

-- the tail of an image with a header is inside it
pub tail_inside : (words : List ℕ) (block : ℕ) → HasHeader words → is_in_log (shape_of words) block ≡ true → block * words_in (shape_of words) + words_in (shape_of words) ≤ length words
tail_inside words block header log = omega (arith, header.whole, block_inside (words_in (shape_of words)) block (total (shape_of words)) (log_inside (shape_of words) block log))
