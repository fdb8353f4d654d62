-- Who has each block after a join: what was left to the one seat is left to the other.
use Rattle.std.proofs.Common.{◌≡◌, ◌≢◌, ◌⊎◌, inl, inr, ⊎_elim, ◌==◌, ◌||◌, ◌++◌, ℕ, Bool, true, false, if◌then◌else◌, List, [], refl, sym, ◌∙◌, ap}
use Rattle.std.proofs.lemmas.Bool.{eqb-true, eq-eqb, ne_eqb, or_left, or_right, false_from_ne_true}
use Rattle.std.proofs.lemmas.List.Folds.{list_any-append}
use Rattle.log_image.specs.Image.{Shape}
use Rattle.log_image.specs.Chains.{is_listed}
use Rattle.log_image.proofs.NameLemmas.{different_join}
use Rattle.log_core.specs.Origin.{Owner, Free, Header, InChain, OwnedBy, LeftTo}
use Rattle.log_core.specs.After.{owner_joined}
use Rattle.log_core.specs.Contents.{IsStillTaken}
use Rattle.log_core.specs.Owners.{bit_for, BitsFit, IsListOf}
use Rattle.log_core.proofs.clauses.Apart.{either_of}
use Rattle.log_core.proofs.clauses.Leaves.{left_number, others_stay}

module _ (seat other : ℕ) (apart : seat ≢ other) where
  abbrev whose : Owner → Owner
  whose w = owner_joined seat other w

  joined_bit : (w : Owner) → bit_for (whose w) ≡ bit_for w
  joined_bit Free = refl
  joined_bit Header = refl
  joined_bit InChain = refl
  joined_bit (OwnedBy n) = refl
  joined_bit (LeftTo n) = refl

  -- an owner that leaves nothing is the same before and after
  pub joined_was : (w v : Owner) → ((n : ℕ) → v ≢ LeftTo n) → whose w ≡ v → w ≡ v
  joined_was Free v none is = is
  joined_was Header v none is = is
  joined_was InChain v none is = is
  joined_was (OwnedBy n) v none is = is
  joined_was (LeftTo n) v none is = absurd (none (if n == other then seat else n) (sym is))

  pub joined_is : (w v : Owner) → ((n : ℕ) → v ≢ LeftTo n) → w ≡ v → whose w ≡ v
  joined_is Free v none is = is
  joined_is Header v none is = is
  joined_is InChain v none is = is
  joined_is (OwnedBy n) v none is = is
  joined_is (LeftTo n) v none is = absurd (none n (sym is))

  -- what is left to another seat than the two
  left_was : (w : Owner) (k : ℕ) → k ≢ seat → whose w ≡ LeftTo k → w ≡ LeftTo k
  left_was Free k other_seat is = is
  left_was Header k other_seat is = is
  left_was InChain k other_seat is = is
  left_was (OwnedBy n) k other_seat is = is
  left_was (LeftTo n) k other_seat is = go (n == other) (ap left_number is)
    where
      go : (b : Bool) → (if b then seat else n) ≡ k → LeftTo n ≡ LeftTo k
      go true same = absurd (other_seat (sym same))
      go false same = ap LeftTo same

  left_is : (w : Owner) (k : ℕ) → k ≢ other → w ≡ LeftTo k → whose w ≡ LeftTo k
  left_is w k none is = ap whose is ∙ ap (λ (b : Bool). LeftTo (if b then seat else k)) (ne_eqb k other none)

  -- what is left to the one is left to the other
  given_is : (w : Owner) → w ≡ LeftTo other → whose w ≡ LeftTo seat
  given_is w is = ap whose is ∙ ap (λ (b : Bool). LeftTo (if b then seat else other)) (eq-eqb other other refl)

  given_was : (w : Owner) → whose w ≡ LeftTo seat → (w ≡ LeftTo seat) ⊎ (w ≡ LeftTo other)
  given_was Free is = inl is
  given_was Header is = inl is
  given_was InChain is = inl is
  given_was (OwnedBy n) is = inl is
  given_was (LeftTo n) is = go (n == other) refl (ap left_number is)
    where
      go : (b : Bool) → (n == other) ≡ b → (if b then seat else n) ≡ seat → (LeftTo n ≡ LeftTo seat) ⊎ (LeftTo n ≡ LeftTo other)
      go true e same = inr (ap LeftTo (eqb-true n other e))
      go false e same = inl (ap LeftTo same)

  nothing_left : (w : Owner) → whose w ≢ LeftTo other
  nothing_left w is = (let was = left_was w other (λ same. apart (sym same)) is in let both : LeftTo seat ≡ LeftTo other = sym (given_is w was) ∙ is in apart (ap left_number both))

  pub joined_taken : (w : Owner) → IsStillTaken w → IsStillTaken (whose w)
  joined_taken w (inl chain) = inl (joined_is w InChain (λ n e. cc) chain)
  joined_taken w (inr left) = inr ((if left.0 == other then seat else left.0), ap whose left.1)

  module _ (owner : ℕ → Owner) where
    pub joined_bits : (image : Shape) (taken : List ℕ) → BitsFit image taken owner → BitsFit image taken (λ block. whose (owner block))
    joined_bits image taken fits = record {
      bits = λ block low. fits.bits block low ∙ sym (joined_bit (owner block));
      inside = λ block some. fits.inside block (λ free. some (ap whose free));
      header = joined_is (owner 0) Header (λ n e. cc) fits.header;
      only = λ block is. fits.only block (joined_was (owner block) Header (λ n e. cc) is);
    }

    -- lists of owners that leave nothing, or to another seat, stay
    pub joined_list : (blocks : List ℕ) (v : Owner) → ((n : ℕ) → v ≢ LeftTo n) → IsListOf owner blocks v → IsListOf (λ block. whose (owner block)) blocks v
    joined_list blocks v none list = others_stay owner (λ block. whose (owner block)) blocks v (λ block. joined_was (owner block) v none) (λ block. joined_is (owner block) v none) list

    pub left_list : (blocks : List ℕ) (k : ℕ) → k ≢ seat → k ≢ other → IsListOf owner blocks (LeftTo k) → IsListOf (λ block. whose (owner block)) blocks (LeftTo k)
    left_list blocks k not_seat not_other list = others_stay owner (λ block. whose (owner block)) blocks (LeftTo k) (λ block. left_was (owner block) k not_seat) (λ block. left_is (owner block) k not_other) list

    -- the two lists are one
    pub both_list : (first second : List ℕ) → IsListOf owner first (LeftTo seat) → IsListOf owner second (LeftTo other) → IsListOf (λ block. whose (owner block)) (first ++ second) (LeftTo seat)
    both_list first second mine theirs = record {
      listed = λ block listed. either_of (is_listed first block) (is_listed second block) (sym (joined block) ∙ listed)
          (λ here. left_is (owner block) seat apart (mine.listed block here)) (λ there. given_is (owner block) (theirs.listed block there));
      all = λ block is. joined block ∙ ⊎_elim (λ was. or_left (is_listed first block) (is_listed second block) (mine.all block was)) (λ was. or_right (is_listed first block) (is_listed second block) (theirs.all block was)) (given_was (owner block) is);
      once = different_join first second mine.once theirs.once (λ block here. false_from_ne_true (is_listed second block) (λ there. apart (ap left_number (sym (mine.listed block here) ∙ theirs.listed block there))));
    }
      where
        joined : (block : ℕ) → is_listed (first ++ second) block ≡ (is_listed first block || is_listed second block)
        joined block = list_any-append (λ (n : ℕ). n == block) first second

    -- and nothing is left to the seat that is spent
    pub spent_list : IsListOf (λ block. whose (owner block)) [] (LeftTo other)
    spent_list = record { listed = λ block listed. cc; all = λ block is. absurd (nothing_left (owner block) is); once = refl }
