-- A run may start from a just-made image.
use Rattle.std.proofs.Common.{◌≡◌, ◌<◌, ◌==◌, ◌&&◌, ◌||◌, not, nat_lt, ℕ, zero, suc, Bool, true, false, List, [], ◌∷◌, length, get_or, if◌then◌else◌, refl, sym, subst, arith}
use Rattle.std.proofs.lemmas.Bool.{eqb-true, ltb-true, ltb-false}
use Rattle.std.proofs.lemmas.List.{get_or_past}
use Rattle.log_entry.specs.Geometry.{HasShape}
use Rattle.log_entry.specs.declared.shapes.Geometry.{Geometry}
use Rattle.log_image.specs.Header.{shape_of}
use Rattle.log_image.specs.Image.{Shape}
use Rattle.log_image.specs.Tails.{Tail, AtSlot, is_after, IsClear, IsCleared}
use Rattle.log_image.specs.Stands.{Stands}
use Rattle.log_image.specs.Taken.{bit_of, is_taken}
use Rattle.log_image.specs.KeepsStart.{KeepsStart}
use Rattle.log_image.specs.Rows.{two_blocks, behind_tail, RecoveredBeforeTail}
use Rattle.log_image.proofs.HoldingLemmas.{both_left, both_right}
use Rattle.log_image.proofs.JustMadeRows.{just_made_by, just_made}
use Rattle.log_image.proofs.FailingRows.{stands_behind_by}

-- a test holds of each number below another
abbrev pub each_below : (ℕ → Bool) → ℕ → Bool
each_below test zero = true
each_below test (suc count) = test count && each_below test count

-- a test that holds of a number and of each below it
at_last : (test : ℕ → Bool) (count number : ℕ) (same : Bool) → (number == count) ≡ same → test count ≡ true → (number < count → test number ≡ true) → number < suc count → test number ≡ true
at_last test count number true is last others below = subst (λ (k : ℕ). test k ≡ true) (sym (eqb-true number count is)) last
at_last test count number false is last others below = others (grind (arith, below, is))

pub at_each : (test : ℕ → Bool) (count number : ℕ) → each_below test count ≡ true → number < count → test number ≡ true
at_each test zero number all below = absurd (omega (arith, below))
at_each test (suc count) number all below =
    at_last test count number (number == count) refl (both_left (test count) (each_below test count) all)
    (at_each test count number (both_right (test count) (each_below test count) all)) below

-- the bits of a bitmap, by a test of each block
pub bits_by : (words : List ℕ) (shape : Shape) (chain taken : List ℕ) (count : ℕ) →
    each_below (λ (b : ℕ). bit_of taken b == (if is_taken words shape chain b then 1 else 0)) count ≡ true →
    (block : ℕ) → block < count → bit_of taken block ≡ (if is_taken words shape chain block then 1 else 0)
bits_by words shape chain taken count all block inside =
    eqb-true (bit_of taken block) (if is_taken words shape chain block then 1 else 0)
    (at_each (λ (b : ℕ). bit_of taken b == (if is_taken words shape chain b then 1 else 0)) count block all inside)

-- what a test says where another holds
where_so : (a b : Bool) → (not a || b) ≡ true → a ≡ true → b ≡ true
where_so true b either so = either
where_so false b either so = cc

-- nothing stands after a tail, by a test of each place
pub clear_by : (words : List ℕ) (shape : Shape) (tail : Tail) (count : ℕ) → length words ≡ count →
    each_below (λ (k : ℕ). not (is_after shape tail k) || get_or words k 0 == 0) count ≡ true → IsClear words shape tail
clear_by words shape tail count long all place after = at_place (nat_lt place count) refl
  where
    at_place : (inside : Bool) → nat_lt place count ≡ inside → get_or words place 0 ≡ 0
    at_place true is = eqb-true (get_or words place 0) 0 (where_so (is_after shape tail place) (get_or words place 0 == 0)
        (at_each (λ (k : ℕ). not (is_after shape tail k) || get_or words k 0 == 0) count place all (ltb-true place count is)) after)
    at_place false is = get_or_past words place 0 (omega (arith, long, ltb-false place count is))

pub kept_two : (geometry : Geometry) → HasShape geometry 2 1 64 → KeepsStart geometry two_blocks (9 ∷ []) 1 0 0
kept_two geometry shaped = record {
  chain = 3 ∷ [];
  file = [];
  stands = just_made_by;
  same_size = refl;
  same_geometry = shaped;
  same_generation = refl;
  clear = clear_by two_blocks (shape_of two_blocks) (AtSlot 3 3) 192 refl refl;
  bitmap = record { room = omega arith; bits = bits_by two_blocks (shape_of two_blocks) (3 ∷ []) (9 ∷ []) 24 refl };
}

pub kept_made : (geometry : Geometry) (words taken : List ℕ) → HasShape geometry 2 1 64 → words ≡ two_blocks → taken ≡ 9 ∷ [] → KeepsStart geometry words taken 1 0 0
kept_made geometry words taken shaped same_words same_taken =
    subst (λ (l : List ℕ). KeepsStart geometry l taken 1 0 0) (sym same_words) (subst (λ (l : List ℕ). KeepsStart geometry two_blocks l 1 0 0) (sym same_taken) (kept_two geometry shaped))

either_way : (b : Bool) (number : ℕ) → (if b then number else number) ≡ number
either_way true number = refl
either_way false number = refl

-- clearing the slots after the tail makes the just-made image of it
cleared_behind : IsCleared (shape_of behind_tail) (AtSlot 3 3) behind_tail two_blocks
cleared_behind = record { same_length = refl; each = λ place. at_place place (nat_lt place 192) refl }
  where
    at_place : (place : ℕ) (inside : Bool) → nat_lt place 192 ≡ inside → get_or two_blocks place 0 ≡ (if is_after (shape_of behind_tail) (AtSlot 3 3) place then 0 else get_or behind_tail place 0)
    at_place place true is = eqb-true (get_or two_blocks place 0) (if is_after (shape_of behind_tail) (AtSlot 3 3) place then 0 else get_or behind_tail place 0)
        (at_each (λ (k : ℕ). get_or two_blocks k 0 == (if is_after (shape_of behind_tail) (AtSlot 3 3) k then 0 else get_or behind_tail k 0)) 192 place refl (ltb-true place 192 is))
    at_place place false is =
        rw (get_or_past two_blocks place 0 (ltb-false place 192 is), get_or_past behind_tail place 0 (ltb-false place 192 is)) (sym (either_way (is_after (shape_of behind_tail) (AtSlot 3 3) place) 0))

pub recovered_before_tail : RecoveredBeforeTail
recovered_before_tail start same = record {
  chain = 3 ∷ [];
  of_words = stands_behind_by.stands.is_chain;
  cleared = subst (λ (l : List ℕ). IsCleared (shape_of behind_tail) (AtSlot 3 3) behind_tail l) (sym same) cleared_behind;
  stands = subst (λ (l : List ℕ). Stands l [] 0) (sym same) just_made;
}
