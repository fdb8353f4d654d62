-- The views at a start: those of the seats made, which have made no step, and spent ones past them.
use Rattle.std.proofs.Common.{◌≡◌, ◌⊎◌, ℕ, zero, suc, ◌<◌, ◌≤◌, [], length, get_or, replicate, refl, sym, subst, arith, inl, inr}
use Rattle.std.proofs.lemmas.Bool.{cases_lt}
use Rattle.std.proofs.lemmas.List.{get_or_past}
use Rattle.std.proofs.lemmas.List.FromFn.{get_or-map-range_with_len, length-map-range_with_len}
use Rattle.persistence.specs.Memory.{cell, index_at}
use Rattle.log_core.specs.Views.{View, new_view, spent_view, view_of}
use Rattle.log_core.specs.Origin.{Origin, first_position, first_memory, first_views, made_by}

-- the view of a seat made
abbrev pub view_at : Origin → ℕ → View
view_at o number = new_view o.geometry o.seats (first_position o) (made_by o.made number) number

-- what holds of the views of the seats made, and of a spent one, holds of each view
pub each_view : (o : Origin) (P : ℕ → View → Type 0) → ((number : ℕ) → number < o.made → P number (view_at o number)) → ((number : ℕ) → P number spent_view) →
    (number : ℕ) → P number (view_of (first_views o) number)
each_view o P made spent number = go (cases_lt number o.made)
  where
    go : (number < o.made) ⊎ (o.made ≤ number) → P number (view_of (first_views o) number)
    go (inl inside) = subst (λ (v : View). P number v) (sym (get_or-map-range_with_len (view_at o) 0 o.made number number spent_view inside (omega arith))) (made number inside)
    go (inr past) =
        subst (λ (v : View). P number v) (sym (get_or_past (first_views o) number spent_view (omega (arith, past, length-map-range_with_len (view_at o) 0 o.made)))) (spent number)

-- there are as many as seats made
pub views_made : (o : Origin) → length (first_views o) ≡ o.made
views_made o = length-map-range_with_len (view_at o) 0 o.made

-- each word has the one value that it has now
pub start_past : (o : Origin) (word : ℕ) → (cell (first_memory o) word).past ≡ []
start_past o word = refl

pub start_floor : (o : Origin) (word : ℕ) → (cell (first_memory o) word).floor ≡ 0
start_floor o word = none (get_or (replicate (length o.words) 0) word 0)
  where
    none : (time : ℕ) → index_at [] time word ≡ 0
    none zero = refl
    none (suc time) = refl
