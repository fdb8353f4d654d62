-- Rows of a collection that is overtaken, and of the one that then gives back what it kept.
use Rattle.std.proofs.Common.{◌≡◌, ◌⊎◌, ◌==◌, ◌&&◌, ◌||◌, not, ◌<◌, ℕ, zero, suc, true, false, List, [], ◌∷◌, refl, sym, ◌∙◌, ap, subst, inl, inr, arith}
use Rattle.std.specs.Prelude.{slice_index}
use Rattle.std.proofs.lemmas.Bool.{false≢true}
use Rattle.std.proofs.lemmas.Bool.Decides.{nat_tests}
use Rattle.log_image.specs.Chains.{is_listed}
use Rattle.log_image.specs.Image.{is_in_log}
use Rattle.pmem_words.specs.declared.keeps.Task.TheVariants.{Collect}
use Rattle.pmem_words.specs.Seats.{Seat}
use Rattle.asks.specs.declared.ask.Ask.TheVariants.{Load, Store, Exchange, ClearBits}
use Rattle.asks.specs.declared.ask.Place.TheVariants.{Image, Pin, Map}
use Rattle.log_core.specs.Views.{view_of}
use Rattle.log_core.specs.Cores.{Core}
use Rattle.log_core.specs.Works.{Begins, NotesNamed, state_after_work}
use Rattle.log_core.specs.Needs.{owned_numbers}
use Rattle.log_core.specs.Steps.{is_mapped, replaced_by}
use Rattle.log_core.specs.May.{MayExchangeHead, OfOwned, OfLimbo, is_fenced}
use Rattle.log_core.specs.Runs.{IsReached}
use Rattle.log_core.specs.worked_rows.Samples.{image_a, small_shape}
use Rattle.log_core.specs.worked_rows.GivenBack.{kept_from, lost_from, emptied_from, overtaken_call, overtaken_from, begun_from, clear_from, given_from, IsOvertaken, GivenBackLater, CollectionRuns, OvertakenRuns}
use Rattle.log_core.proofs.row_checks.RowChecks.{in_all}
use Rattle.log_core.proofs.row_checks.RowsStart.{image_starts}
use Rattle.log_core.proofs.row_checks.RowsTaken.{all_among}
use Rattle.log_core.proofs.row_checks.RowsWrong.{one_part}
use Rattle.log_core.proofs.row_checks.RowsGiven.{unkept}
use Rattle.log_core.proofs.row_checks.RowsAllowed.{step_reached}
use Rattle.log_core.proofs.row_checks.RowsReached.{reached_holds}
use Rattle.log_core.proofs.row_checks.RowsStepped.{enters_reached}
use Rattle.log_core.proofs.row_checks.RowsLinked.{collect_steps}
use Rattle.log_core.proofs.row_checks.RowsHeadPut.{own_map, first_mapped, others_unmapped, one_left, put_core, head_put_is, head_runs}
use Rattle.log_core.proofs.row_checks.RowsGivenBack.{kept_reached, held_back, kept_for_later}

-- seat 1 as it is at its exchange
abbrev loser : Seat
loser = state_after_work (view_of (kept_from put_core).views 1).seat (NotesNamed (26 ∷ []))

loser_replaces : replaced_by loser ≡ 3 ∷ []
loser_replaces = one_left (is_mapped own_map 1) (is_mapped own_map 3) (is_mapped own_map 4) first_mapped (others_unmapped 3 refl) (others_unmapped 4 refl)

-- what the first generation names and its own snapshot's would not
left_over : (block : ℕ) → ((3 == block) || false) ≡ (((3 == block) || ((4 == block) || ((1 == block) || false))) && not ((6 == block) || ((4 == block) || ((1 == block) || false))))
left_over block = grind (arith, nat_tests)

may_try : MayExchangeHead image_a (kept_from put_core) (view_of (kept_from put_core).views 1).ghost loser 4294967299 8589934598
may_try = record {
  valid = refl;
  ready = refl;
  at_tail = refl;
  job = refl;
  not_put = refl;
  nothing_left = refl;
  pinned = refl;
  generation = refl;
  below_limit = omega arith;
  next_is = refl;
  above = omega arith;
  cut = refl;
  cut_block = refl;
  owned = λ block named. in_all (λ b. is_fenced loser.blocks.owned b) (6 ∷ []) block refl named;
  in_log = λ block named. in_all (λ b. is_in_log small_shape b) (6 ∷ []) block refl named;
  once = refl;
  snapshot = record { some = omega arith; words = (refl, refl, refl, refl, tt); map_is = λ virt. refl };
  apart = (λ virt touched. refl, tt);
  replaced = λ block. ap (λ (blocks : List ℕ). is_listed blocks block) loser_replaces ∙ left_over block;
}

lost_reached : IsReached image_a (lost_from put_core)
lost_reached = step_reached image_a (kept_from put_core) 1 1 (Exchange (Image 3) 4294967299 8589934598) (NotesNamed (26 ∷ []) ∷ []) kept_reached (omega arith) (one_part 1) (refl, tt) refl may_try

emptied_reached : IsReached image_a (emptied_from put_core)
emptied_reached = step_reached image_a (lost_from put_core) 1 1 (ClearBits (Map 0) 64) [] lost_reached (omega arith) (one_part 1) tt refl
    (record { inside = omega arith; small = omega arith; given = OfOwned (all_among 64 (λ block. is_listed (owned_numbers (view_of (lost_from put_core).views 1).seat.blocks.owned) block) refl) })

pub overtaken_reached : IsReached image_a (overtaken_from put_core)
overtaken_reached = enters_reached image_a (emptied_from put_core) 1 1 (Store (Pin 1) 0) [] [] (overtaken_call ∷ []) emptied_reached (omega arith) (one_part 1) tt refl
    (record { value_is = inl refl; no_marks = λ sync. refl }) tt refl
    (record { at_tail = refl; position = refl; seat = refl; number = refl; op = refl; fits = (refl, refl, ((λ same. omega (arith, same)), omega arith, refl)) })

begun_reached : IsReached image_a (begun_from put_core)
begun_reached = step_reached image_a (overtaken_from put_core) 0 3 (Load (Pin 0)) (Begins Collect [] ∷ []) overtaken_reached (omega arith) (one_part 0)
    (record { none_runs = refl; not_won = refl; no_head = refl; no_marks = refl; none_laid = refl; steps = collect_steps }, tt) (omega arith)
    (record { head_fenced = refl; unpinned = refl; in_order = inl refl; inside = omega arith })

clear_reached : IsReached image_a (clear_from put_core)
clear_reached = step_reached image_a (begun_from put_core) 0 3 (Load (Pin 1)) [] begun_reached (omega arith) (one_part 0) tt refl
    (record { head_fenced = refl; unpinned = refl; in_order = inr refl; inside = omega arith })

each_clear : (seat : ℕ) → seat < 2 → (slice_index (view_of (clear_from put_core).views 0).seat.giving.pins_seen seat ≡ 0) ⊎ (1 < slice_index (view_of (clear_from put_core).views 0).seat.giving.pins_seen seat)
each_clear zero less = inl refl
each_clear (suc zero) less = inl refl
each_clear (suc (suc seat)) less = absurd (omega (arith, less))

pub given_reached : IsReached image_a (given_from put_core)
given_reached = step_reached image_a (clear_from put_core) 0 3 (ClearBits (Map 0) 8) [] clear_reached (omega arith) (one_part 0) tt refl
    (record { inside = omega arith; small = omega arith; given = OfLimbo (all_among 8 (λ block. is_listed (view_of (clear_from put_core).views 0).seat.giving.limbo block) refl) (record { whole = refl; each = each_clear }) })

overtaken : IsOvertaken put_core
overtaken = (
  lost_reached,
  reached_holds image_a (lost_from put_core) image_starts lost_reached,
  refl,
  refl,
  refl,
  refl,
  refl,
  λ allowed. (let other = allowed.step.may.generation in omega (arith, other)),
  overtaken_reached,
  reached_holds image_a (overtaken_from put_core) image_starts overtaken_reached,
  refl,
  refl,
  refl,
  refl,
  refl,
)

pub overtaken_runs : OvertakenRuns
overtaken_runs = subst (λ (c : Core). IsOvertaken c) (sym head_put_is) overtaken

-- no seat has a valid pin
none_pinned : (seat : ℕ) → (view_of (clear_from put_core).views seat).seat.hold.valid ≡ true → ⊥
none_pinned zero valid = false≢true valid
none_pinned (suc zero) valid = false≢true valid
none_pinned (suc (suc seat)) valid = false≢true valid

given : GivenBackLater put_core
given = (
  given_reached,
  reached_holds image_a (given_from put_core) image_starts given_reached,
  refl,
  refl,
  refl,
  unkept _ _ 1 (clear_from put_core).views 0 (λ above. omega (arith, above)) none_pinned,
  refl,
  refl,
  refl,
  refl,
  refl,
)

pub collection_runs : CollectionRuns
collection_runs = (head_runs, held_back, kept_for_later, subst (λ (c : Core). GivenBackLater c) (sym head_put_is) given)
