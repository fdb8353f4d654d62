-- What a seat knows of the bitmap where it alone makes steps: a block that it has found taken is taken, and of the others' blocks it has changed
-- none.
use Rattle.std.proofs.Common.{◌≡◌, ◌≢◌, ◌⊎◌, inl, inr, ℕ, ◌<◌, ◌/◌, ◌%◌, ◌==◌, Bool, true, false, List, length, slice_index, slice_set, bit_or, if◌then◌else◌, refl, sym, ap, ◌∙◌, arith}
use Rattle.std.specs.Int.{bit_at}
use Rattle.std.proofs.lemmas.Bool.{eqb-true, eqb-false, eq-eqb, and_parts, and_from}
use Rattle.std.proofs.lemmas.Nat.Bits.{bit_at_or, bit_at-lt}
use Rattle.log_image.specs.Image.{total}
use Rattle.log_image.specs.Taken.{bit_of}
use Rattle.pmem_words.specs.Owned.{is_among}
use Rattle.log_core.specs.Origin.{Origin, shape, Owner, Free, Header, InChain, OwnedBy, LeftTo}
use Rattle.log_core.specs.Owners.{BitsFit, bit_for}
use Rattle.log_core.specs.Steps.{is_gained}
use Rattle.log_core.proofs.clauses.BitWords.{taken_set, gained_clear}

-- a block has the owner that it had, or was free and is now the seat's
abbrev pub IsTakenSince : ℕ → Owner → Owner → Type 0
IsTakenSince seat before now = (now ≡ before) ⊎ ((now ≡ OwnedBy seat) × (before ≡ Free))

-- so each block; and one that the seat has found taken is not free
pub record KnowsBits (o : Origin) (seat : ℕ) (before : ℕ → Owner) (found : List ℕ) (owner : ℕ → Owner) : Type 0 where
  pub owners : (block : ℕ) → IsTakenSince seat (before block) (owner block)
  pub taken : (block : ℕ) → block < total (shape o) → bit_of found block ≡ 1 → owner block ≢ Free

-- a block whose bit is clear is free, and one whose bit is set is not
module _ (o : Origin) (taken : List ℕ) (owner : ℕ → Owner) (fits : BitsFit (shape o) taken owner) (block : ℕ) where
  pub clear_free : bit_of taken block ≡ 0 → owner block ≡ Free
  clear_free clear = by (owner block) refl
    where
      set : (whose : Owner) → owner block ≡ whose → whose ≢ Free → bit_for whose ≡ 1 → ⊥
      set whose is other one = (let same = fits.bits block (fits.inside block (λ free. other (sym is ∙ free))) in let more = ap bit_for is in omega (arith, clear, same, more, one))

      by : (whose : Owner) → owner block ≡ whose → whose ≡ Free
      by Free is = refl
      by Header is = absurd (set Header is (λ e. cc) refl)
      by InChain is = absurd (set InChain is (λ e. cc) refl)
      by (OwnedBy n) is = absurd (set (OwnedBy n) is (λ e. cc) refl)
      by (LeftTo n) is = absurd (set (LeftTo n) is (λ e. cc) refl)

  pub set_taken : block < total (shape o) → bit_of taken block ≡ 1 → owner block ≢ Free
  set_taken inside set free = (let same = fits.bits block inside in let none = ap bit_for free in omega (arith, set, same, none))

  pub free_clear : block < total (shape o) → owner block ≡ Free → bit_of taken block ≡ 0
  free_clear inside free = fits.bits block inside ∙ ap bit_for free

-- a bit among others of a word
among_bit : (word bits block : ℕ) → is_among word bits block ≡ true → (block / 64 ≡ word) × (bit_at bits (block % 64) ≡ 1)
among_bit word bits block is = (let parts = and_parts (block / 64 == word) (bit_at bits (block % 64) == 1) is in (eqb-true (block / 64) word parts.0, eqb-true (bit_at bits (block % 64)) 1 parts.1))

bit_here : (taken : List ℕ) (word block : ℕ) → block / 64 ≡ word → bit_at (slice_index taken word) (block % 64) ≡ 1 → bit_of taken block ≡ 1
bit_here taken word block near set = ap (λ (w : ℕ). bit_at (slice_index taken w) (block % 64)) near ∙ set

by_gained : (b : Bool) (now : ℕ) → (if b then 1 else now) ≡ 1 → (b ≡ true) ⊎ (now ≡ 1)
by_gained true now is = inl refl
by_gained false now is = inr is

-- bits that are found more are old ones, or some of these
found_more : (found : List ℕ) (word bits block : ℕ) → word < length found → bit_of (slice_set found word (bit_or (slice_index found word) bits)) block ≡ 1 →
    (is_among word bits block ≡ true) ⊎ (bit_of found block ≡ 1)
found_more found word bits block inside is = by (by_gained (is_gained word bits (slice_index found word) block) (bit_of found block) (sym (taken_set found word inside bits block) ∙ is))
  where
    by : (is_gained word bits (slice_index found word) block ≡ true) ⊎ (bit_of found block ≡ 1) → (is_among word bits block ≡ true) ⊎ (bit_of found block ≡ 1)
    by (inl gains) = inl (and_parts (is_among word bits block) (bit_at (slice_index found word) (block % 64) == 0) gains).0
    by (inr old) = inr old

module _ (o : Origin) (seat : ℕ) (before : ℕ → Owner) (found : List ℕ) (owner : ℕ → Owner) (taken : List ℕ) (fits : BitsFit (shape o) taken owner) (word : ℕ) (inside : word < length found) (inside_too : word < length taken)
    (knows : KnowsBits o seat before found owner) where
  abbrev f : ℕ
  f = slice_index taken word

  -- a word is loaded
  pub bits_loaded : KnowsBits o seat before (slice_set found word (bit_or (slice_index found word) (slice_index taken word))) owner
  bits_loaded = record { owners = knows.owners; taken = λ block low set. by block low (found_more found word (slice_index taken word) block inside set) }
    where
      by : (block : ℕ) → block < total (shape o) → (is_among word (slice_index taken word) block ≡ true) ⊎ (bit_of found block ≡ 1) → owner block ≢ Free
      by block low (inl new) = (let bit = among_bit word (slice_index taken word) block new in set_taken o taken owner fits block low (bit_here taken word block bit.0 bit.1))
      by block low (inr old) = knows.taken block low old

  -- bits of it are set
  module _ (bits : ℕ) where
    abbrev now : ℕ → Owner
    now block = if is_gained word bits (slice_index taken word) block then OwnedBy seat else owner block

    gains_by : (block : ℕ) (b : Bool) → is_gained word bits (slice_index taken word) block ≡ b → IsTakenSince seat (before block) (if b then OwnedBy seat else owner block)
    gains_by block false is = knows.owners block
    gains_by block true is = inr (refl, by (knows.owners block))
      where
        free : owner block ≡ Free
        free = clear_free o taken owner fits block (gained_clear taken word inside_too bits block is)

        by : IsTakenSince seat (before block) (owner block) → before block ≡ Free
        by (inl same) = sym same ∙ free
        by (inr was) = was.1

    taken_by : (block : ℕ) (b : Bool) → block < total (shape o) → is_gained word bits (slice_index taken word) block ≡ b → (is_among word (bit_or (slice_index taken word) bits) block ≡ true) ⊎ (bit_of found block ≡ 1) →
        (if b then OwnedBy seat else owner block) ≢ Free
    taken_by block true low is set = λ e. cc
    taken_by block false low is (inr old) = knows.taken block low old
    taken_by block false low is (inl new) = set_taken o taken owner fits block low (bit_here taken word block bit.0 one)
      where
        bit : (block / 64 ≡ word) × (bit_at (bit_or (slice_index taken word) bits) (block % 64) ≡ 1)
        bit = among_bit word (bit_or (slice_index taken word) bits) block new

        one : bit_at (slice_index taken word) (block % 64) ≡ 1
        one = which (bit_at (slice_index taken word) (block % 64) == 0) refl
          where
            which : (clear : Bool) → (bit_at (slice_index taken word) (block % 64) == 0) ≡ clear → bit_at (slice_index taken word) (block % 64) ≡ 1
            which false e = (let other = eqb-false (bit_at (slice_index taken word) (block % 64)) 0 e in let low = bit_at-lt (slice_index taken word) (block % 64) in omega (arith, other, low))
            which true e =
                (let none = eqb-true (bit_at (slice_index taken word) (block % 64)) 0 e in
                let all = bit_at_or (slice_index taken word) bits (block % 64) in
                let is_one = bit.1 in
                let mine : bit_at bits (block % 64) ≡ 1 = omega (arith, none, all, is_one) in
                let among : is_among word bits block ≡ true = and_from (block / 64 == word) (bit_at bits (block % 64) == 1) (eq-eqb (block / 64) word bit.0) (eq-eqb (bit_at bits (block % 64)) 1 mine) in
                let both : false ≡ true = sym is ∙ and_from (is_among word bits block) (bit_at (slice_index taken word) (block % 64) == 0) among e in
                cc)

    pub bits_set : KnowsBits o seat before (slice_set found word (bit_or (slice_index found word) (bit_or (slice_index taken word) bits))) (λ block. if is_gained word bits (slice_index taken word) block then OwnedBy seat else owner block)
    bits_set = record {
      owners = λ block. gains_by block (is_gained word bits (slice_index taken word) block) refl;
      taken = λ block low set. taken_by block (is_gained word bits (slice_index taken word) block) low refl (found_more found word (bit_or (slice_index taken word) bits) block inside set);
    }
