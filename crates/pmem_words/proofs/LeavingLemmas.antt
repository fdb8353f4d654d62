-- The contents of the blocks that stay, one block after the other.
use Rattle.std.proofs.Common.{ℕ, ◌≡◌, ◌+◌, ◌-◌, ◌*◌, ◌<◌, ◌≤◌, Bool, true, false, if◌then◌else◌, List, [], ◌∷◌, ◌++◌, length, take, drop, refl, ap, sym, ◌∙◌, append_assoc, add-one, arith, drop-cons, length-drop, length-append, suc, not}
use Rattle.std.proofs.Math.Nat.{mul-le-mul_right}
use Rattle.std.proofs.lemmas.List.{drop-drop, length-take-le}
use Rattle.std.proofs.Math.Seq.{paste}
use Rattle.std.proofs.lemmas.List.Edits.{take-paste, drop-paste}
use Rattle.std.specs.List.{copy_within}
use Rattle.log_entry.specs.declared.shapes.Area.TheVariants.{Data}
use Rattle.pmem_words.specs.Owned.{contents_but, owned_but, owned_at}
use Rattle.pmem_words.specs.declared.owned.OwnedBlock.{OwnedBlock}

abbrev none : OwnedBlock
none = record { block = 0; area = Data; filled = false; fenced = false }

-- a place below another, in words
within : (p n q : ℕ) → p < n → p * q + q ≤ n * q
within p n q less = (let more : (p + 1) * q ≤ n * q = mul-le-mul_right q (omega (arith, less)) in let same : (p + 1) * q ≡ p * q + q = omega arith in omega (arith, more, same))

pub higher : (q p to : ℕ) → to ≤ p * q → to + q ≤ (p + 1) * q
higher q p to low = (let same : (p + 1) * q ≡ p * q + q = omega arith in omega (arith, low, same))

-- q words copied from a later place to an earlier one
module _ (contents : List ℕ) (from q to : ℕ) (low : to ≤ from) (inside : from + q ≤ length contents) where
  lies : to ≤ length contents
  lies = omega (arith, low, inside)

  fits : q ≤ length (drop from contents)
  fits = (let long = length-drop from contents in omega (arith, long, inside))

  copied : copy_within contents from (from + q) to ≡ paste contents to (drop from contents) q
  copied = ap (paste contents to (drop from contents)) (let same : from + q - from ≡ q = omega arith in same)

  moved_front : take (to + q) (copy_within contents from (from + q) to) ≡ take to contents ++ take q (drop from contents)
  moved_front = ap (take (to + q)) copied ∙ take-paste contents to (drop from contents) q lies fits

  moved_behind : (k : ℕ) → k ≡ from + q → drop k (copy_within contents from (from + q) to) ≡ drop k contents
  moved_behind k is =
      let further : k ≡ to + q + (from - to) = omega (arith, low, is) in
      ap (λ (n : ℕ). drop n (copy_within contents from (from + q) to)) further
      ∙ sym (drop-drop (from - to) (to + q) (copy_within contents from (from + q) to))
      ∙ ap (drop (from - to)) (ap (drop (to + q)) copied ∙ drop-paste contents to (drop from contents) q lies fits)
      ∙ drop-drop (from - to) (to + q) contents
      ∙ ap (λ (n : ℕ). drop n contents) (sym further)

module _ (q : ℕ) (f : ℕ → Bool) (blocks : List OwnedBlock) (p : ℕ) (less : p < length blocks) where
  -- the words at the front, and those that stay of the ones from a place on
  abbrev Left : List ℕ → ℕ → ℕ → List ℕ
  Left contents front place = take front contents ++ contents_but q f (drop place blocks) (drop (place * q) contents)

  after : (contents : List ℕ) → drop q (drop (p * q) contents) ≡ drop ((p + 1) * q) contents
  after contents = drop-drop q (p * q) contents ∙ ap (λ (k : ℕ). drop k contents) (let same : p * q + q ≡ (p + 1) * q = omega arith in same)

  next : (contents : List ℕ) (among : Bool) → f (owned_at blocks p).block ≡ among → contents_but q f (drop p blocks) (drop (p * q) contents)
      ≡ (if among then contents_but q f (drop (p + 1) blocks) (drop q (drop (p * q) contents)) else take q (drop (p * q) contents) ++ contents_but q f (drop (p + 1) blocks) (drop q (drop (p * q) contents)))
  next contents among is = rw (drop-cons blocks p none less, add-one) (rw is refl)

  pub gone : (contents : List ℕ) (to : ℕ) → f (owned_at blocks p).block ≡ true → Left contents to p ≡ Left contents to (p + 1)
  gone contents to is = ap (λ (rest : List ℕ). take to contents ++ rest) (next contents true is ∙ ap (contents_but q f (drop (p + 1) blocks)) (after contents))

  pub stays : (contents : List ℕ) (to : ℕ) → f (owned_at blocks p).block ≡ false → to ≤ p * q → length contents ≡ length blocks * q → Left contents to p ≡ Left (copy_within contents (p * q) (p * q + q) to) (to + q) (p + 1)
  stays contents to is low many =
      let inside : p * q + q ≤ length contents = (let most = within p (length blocks) q less in omega (arith, most, many)) in
      ap (λ (rest : List ℕ). take to contents ++ rest) (next contents false is ∙ ap (λ (words : List ℕ). take q (drop (p * q) contents) ++ contents_but q f (drop (p + 1) blocks) words) (after contents))
      ∙ sym (append_assoc (take to contents) (take q (drop (p * q) contents)) _)
      ∙ ap (λ (words : List ℕ). words ++ contents_but q f (drop (p + 1) blocks) (drop ((p + 1) * q) contents)) (sym (moved_front contents (p * q) q to low inside))
      ∙ ap (λ (words : List ℕ). take (to + q) (copy_within contents (p * q) (p * q + q) to) ++ contents_but q f (drop (p + 1) blocks) words) (sym (moved_behind contents (p * q) q to low inside ((p + 1) * q) (let same : (p + 1) * q ≡ p * q + q = omega arith in same)))

many_by : (q : ℕ) (o : OwnedBlock) (words rest : List ℕ) (others : List OwnedBlock) (among : Bool) → length words ≡ q → length rest ≡ length others * q
    → length (if among then rest else words ++ rest) ≡ length (if not among then o ∷ others else others) * q
many_by q o words rest others true front behind = behind
many_by q o words rest others false front behind = (let both = length-append words rest in let more : suc (length others) * q ≡ length others * q + q = omega arith in omega (arith, both, front, behind, more))

-- as many contents stay as blocks
pub many_left : (q : ℕ) (f : ℕ → Bool) (blocks : List OwnedBlock) (words : List ℕ) → length words ≡ length blocks * q → length (contents_but q f blocks words) ≡ length (owned_but f blocks) * q
many_left q f [] words many = (let none : 0 ≡ 0 * q = omega arith in none)
many_left q f (o ∷ blocks) words many =
    let more : suc (length blocks) * q ≡ q + length blocks * q = omega arith in
    many_by q o (take q words) (contents_but q f blocks (drop q words)) (owned_but f blocks) (f o.block)
    (length-take-le q words (omega (arith, many, more)))
    (many_left q f blocks (drop q words) (let rest = length-drop q words in omega (arith, rest, many, more)))
