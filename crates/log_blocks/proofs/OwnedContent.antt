-- The content of an owned block, by its first place in the list.
use Rattle.std.proofs.Common.{◌≡◌, ◌<◌, ◌≤◌, ◌+◌, ◌*◌, ◌==◌, ◌||◌, ℕ, suc, Bool, true, false, if◌then◌else◌, List, [], ◌∷◌, ◌++◌, length, take, drop, refl, sym, ◌∙◌, ap, arith, slice_index, suc-mul}
use Rattle.std.proofs.Math.Nat.{mul-le-mul_right}
use Rattle.std.proofs.Math.Seq.{take-suc}
use Rattle.std.proofs.lemmas.List.{length-drop, length-take-le, length-take, get_or-take, get_or-drop, drop-drop}
use Rattle.pmem_words.specs.declared.owned.OwnedBlock.{OwnedBlock}
use Rattle.log_image.specs.Chains.{is_listed}
use Rattle.log_core.specs.Needs.{owned_numbers}
use Rattle.log_core.specs.Steps.{content_from}
use Rattle.log_blocks.specs.Committing.{owned_place, rows}
use Rattle.log_blocks.proofs.KeptLists.{rows_push}

-- a place below another, in words
pub within : (p n q : ℕ) → p < n → p * q + q ≤ n * q
within p n q less = (let more : suc p * q ≤ n * q = mul-le-mul_right q (omega (arith, less)) in let product = suc-mul p q in omega (arith, more, product))

pub record HasContent (q block : ℕ) (owned : List OwnedBlock) (contents : List ℕ) : Type 0 where
  pub inside : owned_place block owned < length owned
  pub content : content_from q block owned contents ≡ take q (drop (owned_place block owned * q) contents)
  pub long : length (content_from q block owned contents) ≡ q

pub has_content : (q block : ℕ) (owned : List OwnedBlock) (contents : List ℕ) → length contents ≡ length owned * q → is_listed (owned_numbers owned) block ≡ true → HasContent q block owned contents
has_content q block [] contents long listed = cc
has_content q block (o ∷ owned) contents long listed = by (o.block == block) refl listed (λ later. has_content q block owned (drop q contents) rest_long later)
  where
    rest_long : length (drop q contents) ≡ length owned * q
    rest_long = length-drop q contents ∙ (let product = suc-mul (length owned) q in omega (arith, long, product))

    by : (b : Bool) → (o.block == block) ≡ b → (b || is_listed (owned_numbers owned) block) ≡ true → (is_listed (owned_numbers owned) block ≡ true → HasContent q block owned (drop q contents)) → HasContent q block (o ∷ owned) contents
    by true e is rest = record {
      inside = rw e (omega arith);
      content = rw e (ap (λ (k : ℕ). take q (drop k contents)) (let none : 0 ≡ 0 * q = omega arith in none));
      long = rw e (length-take-le q contents (let product = suc-mul (length owned) q in omega (arith, long, product)));
    }
    by false e is rest = (let r = rest is in record {
      inside = rw e (let low = r.inside in omega (arith, low));
      content = rw e (r.content ∙ (ap (take q) (drop-drop (owned_place block owned * q) q contents) ∙ ap (λ (k : ℕ). take q (drop k contents)) (let product = suc-mul (owned_place block owned) q in omega (arith, product))));
      long = rw e r.long;
    })

-- a word of it
pub content_word : (q block : ℕ) (owned : List OwnedBlock) (contents : List ℕ) → HasContent q block owned contents → (k : ℕ) → k < q → slice_index (content_from q block owned contents) k ≡ slice_index contents (owned_place block owned * q + k)
content_word q block owned contents has k low = ap (λ (l : List ℕ). slice_index l k) has.content ∙ (get_or-take q (drop (owned_place block owned * q) contents) k 0 low ∙ get_or-drop (owned_place block owned * q) contents k 0)

-- it has no more words than a block
pub content_short : (q block : ℕ) (owned : List OwnedBlock) (contents : List ℕ) → length (content_from q block owned contents) ≤ q
content_short q block [] contents = omega arith
content_short q block (o ∷ owned) contents = by (o.block == block) (content_short q block owned (drop q contents))
  where
    by : (b : Bool) → length (content_from q block owned (drop q contents)) ≤ q → length (if b then take q contents else content_from q block owned (drop q contents)) ≤ q
    by true rest = (let few = length-take q contents in omega (arith, few))
    by false rest = rest

-- one word more is kept
pub rows_more : (block : ℕ) (content : List ℕ) (word : ℕ) → word < length content →
    rows block 0 (take word content) ++ record { block = block; slot = word; word = slice_index content word } ∷ [] ≡ rows block 0 (take (word + 1) content)
rows_more block content word low =
    ap (λ (slot : ℕ). rows block 0 (take word content) ++ record { block = block; slot = slot; word = slice_index content word } ∷ []) (let long = length-take-le word content (omega (arith, low)) in let same : word ≡ 0 + length (take word content) = omega (arith, long) in same)
    ∙ (rows_push block 0 (slice_index content word) (take word content)
    ∙ ap (rows block 0) (sym (ap (λ (k : ℕ). take k content) (let next : word + 1 ≡ suc word = omega arith in next) ∙ take-suc content word 0 low)))
