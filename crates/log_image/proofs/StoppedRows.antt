-- A clearing that is stopped: what it leaves is read as before.
use Rattle.std.proofs.Common.{◌≡◌, ◌==◌, ◌||◌, nat_lt, ℕ, Bool, true, false, List, [], ◌∷◌, length, get_or, refl, sym, ◌∙◌, subst, arith}
use Rattle.std.proofs.lemmas.Bool.{eqb-true, ltb-true, ltb-false}
use Rattle.std.proofs.lemmas.List.{get_or_past}
use Rattle.log_image.specs.Header.{shape_of}
use Rattle.log_image.specs.Image.{Shape}
use Rattle.log_image.specs.Tails.{Tail, AtSlot, tail_of, is_after, IsSameToTail}
use Rattle.log_image.specs.Laws.{IsReadAs}
use Rattle.log_image.specs.Rows.{with_words, one_byte, behind_tail, two_behind, StoppedBeforeEnd}
use Rattle.log_image.proofs.OneChain.{one_chain}
use Rattle.log_image.proofs.ClearedImages.{tail_keeps}
use Rattle.log_image.proofs.FailingRows.{stands_behind_by}
use Rattle.log_image.proofs.StartRows.{each_below, at_each}

-- what holds where a test does not
where_not : (a b : Bool) → (a || b) ≡ true → a ≡ false → b ≡ true
where_not true b either fails = cc
where_not false b either fails = either

-- words that are the same but after a tail, by a test of each place
same_by : (shape : Shape) (tail : Tail) (old new : List ℕ) (count : ℕ) → length old ≡ count → length new ≡ count →
    each_below (λ (k : ℕ). is_after shape tail k || (get_or new k 0 == get_or old k 0)) count ≡ true → IsSameToTail shape tail old new
same_by shape tail old new count long other_long all = record { same_length = other_long ∙ sym long; each = λ place left. at_place place left (nat_lt place count) refl }
  where
    at_place : (place : ℕ) → is_after shape tail place ≡ false → (inside : Bool) → nat_lt place count ≡ inside → get_or new place 0 ≡ get_or old place 0
    at_place place left true is = eqb-true (get_or new place 0) (get_or old place 0) (where_not (is_after shape tail place) (get_or new place 0 == get_or old place 0)
        (at_each (λ (k : ℕ). is_after shape tail k || (get_or new k 0 == get_or old k 0)) count place all (ltb-true place count is)) left)
    at_place place left false is = (let past = ltb-false place count is in get_or_past new place 0 (omega (arith, other_long, past)) ∙ sym (get_or_past old place 0 (omega (arith, long, past))))

two_reads : IsReadAs behind_tail two_behind (3 ∷ []) [] 0
two_reads = tail_keeps behind_tail two_behind (3 ∷ []) [] 0 stands_behind_by (same_by (shape_of behind_tail) (AtSlot 3 3) behind_tail two_behind 192 refl refl refl)

pub stopped_before_end : StoppedBeforeEnd
stopped_before_end = (
  (3 ∷ [], two_reads.stands.stands.is_chain, same_by (shape_of two_behind) (AtSlot 3 3) two_behind behind_tail 192 refl refl refl),
  (3 ∷ [], two_reads.stands),
  λ stopped. (let there : IsSameToTail (shape_of two_behind) (AtSlot 3 3) two_behind (with_words ((27, one_byte) ∷ []) two_behind) =
      subst (λ (chain : List ℕ). IsSameToTail (shape_of two_behind) (tail_of two_behind (shape_of two_behind) chain) two_behind (with_words ((27, one_byte) ∷ []) two_behind))
      (one_chain two_behind (shape_of two_behind) stopped.0 (3 ∷ []) stopped.1 two_reads.stands.stands.is_chain) stopped.2 in
      let same : one_byte ≡ 0 = there.each 27 refl in omega (arith, same)),
)
