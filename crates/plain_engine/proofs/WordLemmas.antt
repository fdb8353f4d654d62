-- Bytes of words.
use Rattle.std.proofs.Common.{◌≡◌, ℕ, zero, suc, ◌+◌, ◌-◌, ◌*◌, ◌/◌, ◌%◌, ◌^◌, ◌<◌, ◌≤◌, ◌==◌, ◌&&◌, nat_le, nat_lt, ◌⊎◌, inl, inr, Bool, true, false, if◌then◌else◌, List, [], ◌∷◌, ◌++◌, length, get_or, take, drop, refl, sym, ap, ◌∙◌, arith, length-take, length-drop}
use Rattle.std.proofs.lemmas.List.{get_or-take, get_or-drop, get_or_past, get_or-append-add}
use Rattle.std.proofs.lemmas.Bool.{cases_lt, le-leb, lt-ltb, lt-leb, le-ltb, eqb-true}
use Rattle.std.proofs.Math.ListN.{get_or-append}
use Rattle.std.specs.List.{list_all}
use Rattle.log_image.proofs.HoldingLemmas.{both_left, both_right}
use Rattle.byteorder.specs.Endian.{little_bytes, little_number}
use Rattle.std.specs.Int.{bytes_low_first, byte_at}
use Rattle.std.proofs.Math.Nat.{mod-lt}
use Rattle.byteorder.specs.Numbers.{little_from-take}
use Rattle.log_entry.specs.WordBytes.{word_bytes}
use Rattle.log_entry.proofs.WordBytesLemmas.{bytes_back}
use Rattle.plain_engine.specs.Bytes.{byte_of, laid_byte}

-- the word of eight bytes has these bytes
pub read_back : (bytes : List ℕ) (word k : ℕ) → 8 ≤ length bytes → ((i : ℕ) → get_or bytes i 0 < 256) → word ≡ little_number 8 bytes → k < 8 → byte_of word k ≡ get_or bytes k 0
read_back bytes word k eight small is inside =
    let first : length (take 8 bytes) ≡ 8 = length-take 8 bytes ∙ omega (arith, eight) in
    let same : word ≡ little_number 8 (take 8 bytes) = is ∙ sym (little_from-take 0 8 8 bytes (omega arith)) in
    ap (λ (w : ℕ). get_or (little_bytes 8 w) k 0) same
    ∙ ap (λ (l : List ℕ). get_or l k 0) (bytes_back (take 8 bytes) first (λ i. part i))
    ∙ get_or-take 8 bytes k 0 inside
  where
    part : (i : ℕ) → get_or (take 8 bytes) i 0 < 256
    part i = elim (cases_lt i 8) [
      | inl below ↦ rw (get_or-take 8 bytes i 0 below) (small i)
      | inr past ↦ (let end : length (take 8 bytes) ≤ i = omega (arith, length-take 8 bytes, past) in rw (get_or_past (take 8 bytes) i 0 end) (omega arith))
    ]

-- a byte of a block by its word
pub block_byte : (words : List ℕ) (at : ℕ) → at < 8 * length words → get_or (word_bytes words) at 0 ≡ byte_of (get_or words (at / 8) 0) (at % 8)
block_byte [] at inside = absurd (omega (arith, inside))
block_byte (word ∷ words) at inside = go (block_byte words) (cases_lt at 8)
  where
    go : ((n : ℕ) → n < 8 * length words → get_or (word_bytes words) n 0 ≡ byte_of (get_or words (n / 8) 0) (n % 8)) → (at < 8) ⊎ (8 ≤ at) → get_or (word_bytes (word ∷ words)) at 0 ≡ byte_of (get_or (word ∷ words) (at / 8) 0) (at % 8)
    go rest (inl below) = (let first : at / 8 ≡ 0 = omega (arith, below) in let same : at % 8 ≡ at = omega (arith, below) in rw (first, same) (get_or-append (little_bytes 8 word) (word_bytes words) 0 at below))
    go rest (inr past) =
        let whole : 8 + (at - 8) ≡ at = omega (arith, past) in
        let next : at / 8 ≡ suc ((at - 8) / 8) = omega (arith, past) in
        let same : at % 8 ≡ (at - 8) % 8 = omega (arith, past) in
        ap (λ (n : ℕ). get_or (little_bytes 8 word ++ word_bytes words) n 0) (sym whole) ∙ get_or-append-add (little_bytes 8 word) (word_bytes words) (at - 8) 0
        ∙ rest (at - 8) (omega (arith, past, inside)) ∙ rw (next, same) refl

-- a place that the bytes reach, and one that they do not
pub laid_inside : (offset : ℕ) (bytes : List ℕ) (place byte : ℕ) → offset ≤ place → place < offset + length bytes → laid_byte offset bytes place byte ≡ get_or bytes (place - offset) 0
laid_inside offset bytes place byte low high = rw (le-leb offset place low, lt-ltb place (offset + length bytes) high) refl

pub laid_outside : (offset : ℕ) (bytes : List ℕ) (place byte : ℕ) → (place < offset) ⊎ (offset + length bytes ≤ place) → laid_byte offset bytes place byte ≡ byte
laid_outside offset bytes place byte (inl before) = rw (lt-leb offset place before) refl
laid_outside offset bytes place byte (inr past) = rw (le-ltb place (offset + length bytes) past) (go (nat_le offset place))
  where
    go : (b : Bool) → (if b && false then get_or bytes (place - offset) 0 else byte) ≡ byte
    go true = refl
    go false = refl

-- the bytes of a number are below 256
at_small : (i x : ℕ) → byte_at i x < 256
at_small zero x = mod-lt x (omega arith)
at_small (suc i) x = mod-lt (x / 256 ^ suc i) (omega arith)

low_small : (n i x k : ℕ) → get_or (bytes_low_first i n x) k 0 < 256
low_small zero i x k = omega arith
low_small (suc n) i x zero = at_small i x
low_small (suc n) i x (suc k) = low_small n (suc i) x k

pub byte_small : (word k : ℕ) → byte_of word k < 256
byte_small word k = low_small 8 0 word k

pub laid_small : (offset : ℕ) (bytes : List ℕ) (place byte : ℕ) → ((i : ℕ) → get_or bytes i 0 < 256) → byte < 256 → laid_byte offset bytes place byte < 256
laid_small offset bytes place byte all one = go (nat_le offset place && nat_lt place (offset + length bytes))
  where
    go : (b : Bool) → (if b then get_or bytes (place - offset) 0 else byte) < 256
    go true = all (place - offset)
    go false = one

-- the word of eight bytes over which others were laid
pub laid_back : (offset : ℕ) (bytes into : List ℕ) (place old word : ℕ) → ((i : ℕ) → get_or bytes i 0 < 256) → length into ≡ 8 → ((k : ℕ) → k < 8 → get_or into k 0 ≡ laid_byte offset bytes (place + k) (byte_of old k)) →
    word ≡ little_number 8 into → (k : ℕ) → k < 8 → byte_of word k ≡ laid_byte offset bytes (place + k) (byte_of old k)
laid_back offset bytes into place old word fit eight laid is k inside = read_back into word k (omega (arith, eight)) small is inside ∙ laid k inside
  where
    small : (i : ℕ) → get_or into i 0 < 256
    small i = elim (cases_lt i 8) [
      | inl below ↦ rw (laid i below) (laid_small offset bytes (place + i) (byte_of old i) fit (byte_small old i))
      | inr past ↦ rw (get_or_past into i 0 (omega (arith, eight, past))) (omega arith)
    ]

-- the word of eight bytes from a place on
pub whole_back : (bytes : List ℕ) (at word : ℕ) → at + 8 ≤ length bytes → ((i : ℕ) → get_or bytes i 0 < 256) → word ≡ little_number 8 (take (length bytes - at) (drop at bytes)) → (k : ℕ) → k < 8 → byte_of word k ≡ get_or bytes (at + k) 0
whole_back bytes at word room fit is k inside =
    read_back (take (length bytes - at) (drop at bytes)) word k (omega (arith, length-take (length bytes - at) (drop at bytes), length-drop at bytes, room)) small is inside
    ∙ get_or-take (length bytes - at) (drop at bytes) k 0 (omega (arith, room, inside)) ∙ get_or-drop at bytes k 0
  where
    small : (i : ℕ) → get_or (take (length bytes - at) (drop at bytes)) i 0 < 256
    small i = elim (cases_lt i (length bytes - at)) [
      | inl below ↦ rw (get_or-take (length bytes - at) (drop at bytes) i 0 below, get_or-drop at bytes i 0) (fit (at + i))
      | inr past ↦ rw (get_or_past (take (length bytes - at) (drop at bytes)) i 0 (omega (arith, length-take (length bytes - at) (drop at bytes), past))) (omega arith)
    ]

-- the bytes of 0 are 0
pub byte_of_zero : (k : ℕ) → byte_of 0 k ≡ 0
byte_of_zero k = zeros (0 ∷ 0 ∷ 0 ∷ 0 ∷ 0 ∷ 0 ∷ 0 ∷ 0 ∷ []) k refl
  where
    zeros : (bytes : List ℕ) (k : ℕ) → list_all (λ (byte : ℕ). byte == 0) bytes ≡ true → get_or bytes k 0 ≡ 0
    zeros [] k all = refl
    zeros (byte ∷ bytes) zero all = eqb-true byte 0 (both_left (byte == 0) (list_all (λ (other : ℕ). other == 0) bytes) all)
    zeros (byte ∷ bytes) (suc k) all = zeros bytes k (both_right (byte == 0) (list_all (λ (other : ℕ). other == 0) bytes) all)
