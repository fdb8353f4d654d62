-- What enters a view after a step: from the state that the kind of step leaves the call computes on, and the core that has it keeps the
-- invariant.
use Rattle.std.proofs.Common.{◌≡◌, ◌≢◌, ◌<◌, ℕ, true, List, [], ◌++◌, length, refl, sym, ◌∙◌, ap, subst, slice_set, slice_index}
use Rattle.std.specs.List.{list_all}
use Rattle.std.proofs.lemmas.List.{length-set, get_or-set_same, set-set}
use Rattle.pmem_words.specs.Seats.{Seat}
use Rattle.log_core.specs.Views.{View, view_of, spent_view}
use Rattle.log_core.specs.Origin.{Origin}
use Rattle.log_core.specs.Cores.{Core}
use Rattle.log_core.specs.Works.{Computes, is_going_on}
use Rattle.log_core.specs.Steps.{Note, Kind, ghost_ended, view_after}
use Rattle.log_core.specs.Runs.{MayStep, effect_at, ghost_left}
use Rattle.log_core.specs.Invariant.{Invariant}
use Rattle.log_core.specs.Knows.{with_seat}
use Rattle.log_core.proofs.clauses.Leaves.{no_changes, changes_leave, pins_leave}
use Rattle.log_core.proofs.clauses.SetCore.{set_core}
use Rattle.log_core.proofs.Facts.{facts_of}
use Rattle.log_core.proofs.kinds.Worked.{later_hold}
use Rattle.log_core.proofs.kinds.Recorded.{recorded_from}

-- a seat of a core computes
module _ (o : Origin) (d : Core) (n : ℕ) (inv : Invariant o d) (here : n < length d.views) (unspent : (view_of d.views n).parts ≢ []) where
  abbrev v : View
  v = view_of d.views n

  pub computed : (t : Seat) → (computes : Computes v.ghost v.seat t) → list_all is_going_on computes.works ≡ true →
      Invariant o (record d { views = slice_set d.views n (with_seat v t v.ghost) })
  computed t computes going = subst (λ (s : Seat). Invariant o (record d { views = slice_set d.views n (with_seat v s v.ghost) })) (sym computes.gives)
      (set_core o d n _ v.ghost d.memory d.owner d.began inv here unspent (pins_leave o d n inv d.memory.now.pins refl (λ k other. refl)) (changes_leave o d n d.memory _ d.owner (no_changes d n)) inv.owners.bits
      (later_hold o d n (slice_index d.memory.now.pins n) (slice_index d.began n) v.ghost inv unspent v.seat computes.works going computes.may (facts_of o d n inv here))
      refl (λ k other. refl) inv.records.begun)

  -- so it is with a view that the core has
  pub computed_from : (u : View) → v ≡ u → (t : Seat) → (computes : Computes u.ghost u.seat t) → list_all is_going_on computes.works ≡ true →
      Invariant o (record d { views = slice_set d.views n (with_seat u t u.ghost) })
  computed_from u is t = subst (λ (w : View). (computes : Computes w.ghost w.seat t) → list_all is_going_on computes.works ≡ true →
      Invariant o (record d { views = slice_set d.views n (with_seat w t w.ghost) })) is (λ computes going. computed t computes going)

-- after a step of a kind
module _ (o : Origin) (c : Core) (n : ℕ) (note : Note) (kind : Kind) (f : ℕ) (here : n < length c.views) (unspent : (view_of c.views n).parts ≢ [])
    (step : MayStep o c (view_of c.views n) kind note f) where
  abbrev mine : View
  mine = view_of c.views n

  -- the view that the kind leaves, and all views with it
  abbrev pub left : View
  left = with_seat mine (effect_at mine note kind f) (ghost_left mine note kind f)

  abbrev pub views_left : List View
  views_left = slice_set c.views n left

  -- what the call has computed then
  abbrev worked : View
  worked = with_seat left step.enters.last left.ghost

  abbrev views_worked : List View
  views_worked = slice_set c.views n worked

  works_entered : (d : Core) → Invariant o (record d { views = views_left }) → Invariant o (record d { views = views_worked })
  works_entered d inv = subst (λ (views : List View). Invariant o (record d { views = views })) (set-set c.views n left worked)
      (computed_from o (record d { views = views_left }) n inv (subst (λ (k : ℕ). n < k) (sym (length-set c.views n left)) here)
      (λ none. unspent (ap (λ (v : View). v.parts) (sym is_left) ∙ none)) left is_left step.enters.last step.enters.computed step.enters.going_on)
    where
      is_left : view_of views_left n ≡ left
      is_left = get_or-set_same c.views n left spent_view here

  -- and with its record, where it ends
  pub entered : (d : Core) → Invariant o (record d { views = views_left }) →
      Invariant o (record d { views = slice_set c.views n (view_after mine kind note f) })
  entered d inv = subst (λ (t : Seat). Invariant o (record d { views = slice_set c.views n (record worked { seat = t; ghost = ghost_ended note.adds worked.ghost; done = worked.done ++ note.adds }) })) (sym step.enters.seat_is)
      (subst (λ (views : List View). Invariant o (record d { views = views })) (set-set c.views n worked _)
      (recorded_from o (record d { views = views_worked }) n (works_entered d inv) (subst (λ (k : ℕ). n < k) (sym (length-set c.views n worked)) here)
      (λ none. unspent (ap (λ (v : View). v.parts) (sym is_worked) ∙ none)) worked is_worked note.adds step.enters.adds_are))
    where
      is_worked : view_of views_worked n ≡ worked
      is_worked = get_or-set_same c.views n worked spent_view here
