-- The bases of a call are touched blocks: there is room for those that it lacks.
use Rattle.std.proofs.Common.{◌≡◌, ◌≢◌, ◌<◌, ◌==◌, ◌&&◌, ◌||◌, not, ◌⊎◌, inl, inr, ℕ, suc, Bool, true, false, if◌then◌else◌, List, [], ◌∷◌, ◌++◌, length, slice_index, Option, Some, None, is_some, is_none, refl, sym, ap, ◌∙◌, arith}
use Rattle.std.proofs.lemmas.Bool.{eqb-true, ne_eqb, eq-eqb}
use Rattle.log_image.specs.Chains.{is_listed, all_different}
use Rattle.log_image.proofs.NameLemmas.{or_left, or_right}
use Rattle.pmem_words.specs.Maps.{map_at}
use Rattle.pmem_words.specs.Seats.{Seat}
use Rattle.log_core.proofs.Fronts.{not_again}
use Rattle.partial_blocks.specs.Touching.{first_touched, last_touched, is_in_part, base_place, lacks, lacks_base, HasTouchedBases}
use Rattle.partial_blocks.proofs.BasePlaces.{none_place}

-- of two blocks, the bases are at most one where they lack one of them
pub few_touched : (a b v : ℕ) (bases : List ℕ) → all_different bases ≡ true → ((virt : ℕ) → is_listed bases virt ≡ true → (virt ≡ a) ⊎ (virt ≡ b)) → (v ≡ a) ⊎ (v ≡ b) →
    ((place : ℕ) → place < length bases → slice_index bases place ≢ v) → length bases < 2
few_touched a b v [] once each one apart = omega arith
few_touched a b v (x ∷ []) once each one apart = omega arith
few_touched a b v (x ∷ y ∷ bases) once each one apart = absurd (go one
    (each x (or_left (x == x) (is_listed (y ∷ bases) x) (eq-eqb x x refl)))
    (each y (or_right (x == y) (is_listed (y ∷ bases) y) (or_left (y == y) (is_listed bases y) (eq-eqb y y refl)))))
  where
    same : x ≢ y
    same is = not_again x (y ∷ bases) once (or_left (y == x) (is_listed bases x) (eq-eqb y x (sym is)))

    no_first : x ≢ v
    no_first = apart 0 (omega arith)

    no_second : y ≢ v
    no_second = apart 1 (omega arith)

    go : (v ≡ a) ⊎ (v ≡ b) → (x ≡ a) ⊎ (x ≡ b) → (y ≡ a) ⊎ (y ≡ b) → ⊥
    go (inl is) (inl here) there = no_first (here ∙ sym is)
    go (inl is) (inr here) (inl there) = no_second (there ∙ sym is)
    go (inl is) (inr here) (inr there) = same (here ∙ sym there)
    go (inr is) (inr here) there = no_first (here ∙ sym is)
    go (inr is) (inl here) (inr there) = no_second (there ∙ sym is)
    go (inr is) (inl here) (inl there) = same (here ∙ sym there)

-- what it is to lack a base
pub record IsLacking (offset : ℕ) (s : Seat) (virt : ℕ) : Type 0 where
  pub part : is_in_part offset s virt ≡ true
  pub mapped : is_some (map_at s.walk.map virt) ≡ true
  pub none : base_place s.calling.bases virt ≡ None

pub lacking : (offset : ℕ) (s : Seat) (virt : ℕ) → lacks offset s virt ≡ true → IsLacking offset s virt
lacking offset s virt is = go (is_in_part offset s virt) (is_some (map_at s.walk.map virt)) (base_place s.calling.bases virt) refl refl refl is
  where
    go : (a b : Bool) (found : Option ℕ) → is_in_part offset s virt ≡ a → is_some (map_at s.walk.map virt) ≡ b → base_place s.calling.bases virt ≡ found → (a && b && is_none found) ≡ true → IsLacking offset s virt
    go true true None part mapped none is = record { part = part; mapped = mapped; none = none }
    go true true (Some place) part mapped none is = cc
    go true false found part mapped none is = cc
    go false b found part mapped none is = cc

pub record IsLackingEnd (offset : ℕ) (s : Seat) (virt : ℕ) : Type 0 where
  pub end : (virt ≡ first_touched offset s) ⊎ (virt ≡ last_touched offset s)
  pub lacks_it : IsLacking offset s virt

pub lacking_end : (offset : ℕ) (s : Seat) (virt : ℕ) → lacks_base offset s ≡ Some virt → IsLackingEnd offset s virt
lacking_end offset s virt is = go (lacks offset s (first_touched offset s)) (lacks offset s (last_touched offset s)) refl refl is
  where
    go : (a b : Bool) → lacks offset s (first_touched offset s) ≡ a → lacks offset s (last_touched offset s) ≡ b → (if a then Some (first_touched offset s) else if b then Some (last_touched offset s) else None) ≡ Some virt → IsLackingEnd offset s virt
    go true b first last is = (let same : virt ≡ first_touched offset s = cc in record { end = inl same; lacks_it = lacking offset s virt (ap (λ (v : ℕ). lacks offset s v) same ∙ first) })
    go false true first last is = (let same : virt ≡ last_touched offset s = cc in record { end = inr same; lacks_it = lacking offset s virt (ap (λ (v : ℕ). lacks offset s v) same ∙ last) })
    go false false first last is = cc

-- where none is lacking, neither of them is
pub none_lacking : (offset : ℕ) (s : Seat) → lacks_base offset s ≡ None → (lacks offset s (first_touched offset s) ≡ false) × (lacks offset s (last_touched offset s) ≡ false)
none_lacking offset s is = go (lacks offset s (first_touched offset s)) (lacks offset s (last_touched offset s)) refl refl is
  where
    go : (a b : Bool) → lacks offset s (first_touched offset s) ≡ a → lacks offset s (last_touched offset s) ≡ b → (if a then Some (first_touched offset s) else if b then Some (last_touched offset s) else None) ≡ None →
        (lacks offset s (first_touched offset s) ≡ false) × (lacks offset s (last_touched offset s) ≡ false)
    go true b first last is = cc
    go false true first last is = cc
    go false false first last is = (first, last)

-- so there is room for one that is lacking
pub room_for : (offset : ℕ) (s : Seat) → HasTouchedBases offset s → (virt : ℕ) → lacks_base offset s ≡ Some virt → length s.calling.bases < 2
room_for offset s bases virt is = (let l = lacking_end offset s virt is in
    few_touched (first_touched offset s) (last_touched offset s) virt s.calling.bases bases.once bases.each l.end (none_place s.calling.bases virt l.lacks_it.none))

-- one more
listed_push : (bases : List ℕ) (v x : ℕ) → is_listed (bases ++ v ∷ []) x ≡ (is_listed bases x || (v == x))
listed_push [] v x = or_none (v == x)
  where
    or_none : (b : Bool) → (b || false) ≡ b
    or_none true = refl
    or_none false = refl
listed_push (base ∷ bases) v x = go (base == x) (listed_push bases v x)
  where
    go : (b : Bool) → is_listed (bases ++ v ∷ []) x ≡ (is_listed bases x || (v == x)) → (b || is_listed (bases ++ v ∷ []) x) ≡ ((b || is_listed bases x) || (v == x))
    go true same = refl
    go false same = same

pub each_push : (bases : List ℕ) (v x : ℕ) → is_listed (bases ++ v ∷ []) x ≡ true → (is_listed bases x ≡ true) ⊎ (x ≡ v)
each_push bases v x listed = go (is_listed bases x) (v == x) refl refl (sym (listed_push bases v x) ∙ listed)
  where
    go : (a b : Bool) → is_listed bases x ≡ a → (v == x) ≡ b → (a || b) ≡ true → (is_listed bases x ≡ true) ⊎ (x ≡ v)
    go true b here same some = inl here
    go false true here same some = inr (sym (eqb-true v x same))
    go false false here same some = cc

pub once_push : (bases : List ℕ) (v : ℕ) → all_different bases ≡ true → ((place : ℕ) → place < length bases → slice_index bases place ≢ v) → all_different (bases ++ v ∷ []) ≡ true
once_push [] v once apart = refl
once_push (base ∷ bases) v once apart =
    go (is_listed bases base) (all_different bases) refl once (once_push bases v) (ne_eqb v base (λ same. apart 0 (omega arith) (sym same)))
  where
    go : (a b : Bool) → is_listed bases base ≡ a → (not a && b) ≡ true → (b ≡ true → ((place : ℕ) → place < length bases → slice_index bases place ≢ v) → all_different (bases ++ v ∷ []) ≡ true) → (v == base) ≡ false →
        (not (is_listed (bases ++ v ∷ []) base) && all_different (bases ++ v ∷ [])) ≡ true
    go false true none all rest other = rw (listed_push bases v base, none, other) (rest refl (λ place low. apart (suc place) (omega (arith, low))))
    go false false none all rest other = cc
    go true b none all rest other = cc
