-- What was seen at a step of a call, at the start: no view has walked, and none has a record.
use Rattle.std.proofs.Common.{◌≡◌, ℕ, zero, suc, true, false, List, [], ◌∷◌, map, refl, sym, ◌∙◌, subst, Some, None}
use Rattle.std.specs.List.{AllByRecursion, range_with_len}
use Rattle.log_entry.specs.declared.calls.Call.{Call}
use Rattle.log_core.specs.Views.{View, view_of, spent_view, new_view}
use Rattle.log_core.specs.Origin.{Origin, first_position, made_by}
use Rattle.log_core.specs.Cores.{first_core}
use Rattle.log_core.proofs.following.Seen.{IsCallSeen, AllSeen}

-- a fact of a view of a list, or of a spent one
pub view_or_spent : (P : View → Type 0) (views : List View) (k : ℕ) → P spent_view → AllByRecursion P views → P (view_of views k)
view_or_spent P [] k spent all = spent
view_or_spent P (v ∷ views) zero spent all = all.0
view_or_spent P (v ∷ views) (suc k) spent all = view_or_spent P views k spent all.1

-- no view has walked at the start
abbrev IsFresh : View → Type 0
IsFresh v = (v.seat.walk.at_tail ≡ false) × (v.done ≡ []) × (v.seat.calling.won ≡ false) × (v.ghost.call.put ≡ None)

all_fresh : (o : Origin) (numbers : List ℕ) → AllByRecursion IsFresh (map (λ (number : ℕ). new_view o.geometry o.seats (first_position o) (made_by o.made number) number) numbers)
all_fresh o [] = tt
all_fresh o (number ∷ numbers) = ((refl, refl, refl, refl), all_fresh o numbers)

pub seen_start : (o : Origin) → AllSeen o []
seen_start o = record {
  tails = λ seat at op asks. (let never : false ≡ true = sym (fresh seat).0 ∙ at in cc);
  stands = λ seat won. (let never : false ≡ true = sym (fresh seat).2 ∙ won in cc);
  puts = λ seat head is. (let never : None ≡ Some head = sym (fresh seat).3 ∙ is in cc);
  records = λ seat. subst (λ (calls : List Call). AllByRecursion (IsCallSeen o []) calls) (sym (fresh seat).1) tt;
}
  where
    fresh : (seat : ℕ) → IsFresh (view_of (first_core o).views seat)
    fresh seat = view_or_spent IsFresh (first_core o).views seat (refl, refl, refl, refl) (all_fresh o (range_with_len 0 o.made))
