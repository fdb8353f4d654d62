-- Rows of a collection that keeps what a pin holds, and gives it back later.
use Rattle.std.proofs.Common.{◌≡◌, ℕ, true, false, [], ◌∷◌, refl, sym, ◌∙◌, ap, subst, inl, inr, arith, Option, None, Some}
use Rattle.std.proofs.lemmas.Bool.{false≢true, true≢false}
use Rattle.log_entry.specs.declared.calls.Held.{Held}
use Rattle.log_image.specs.Chains.{is_listed}
use Rattle.pmem_words.specs.Owned.{is_among}
use Rattle.pmem_words.specs.Seats.{Seat}
use Rattle.asks.specs.declared.ask.Ask.TheVariants.{Load, Store, Mark, Fence}
use Rattle.asks.specs.declared.ask.Place.TheVariants.{Pin}
use Rattle.log_core.specs.Views.{view_of}
use Rattle.log_core.specs.Cores.{Core}
use Rattle.log_core.specs.Works.{KeepsReplaced, NotesHeld, IsHeldPin, state_after_work}
use Rattle.log_core.specs.Needs.{owned_numbers}
use Rattle.log_core.specs.May.{AreGivenBack, OfOwned, OfReplaced, OfLimbo, IsClearScan, OfNewHead}
use Rattle.log_core.specs.Runs.{IsReached}
use Rattle.log_core.specs.worked_rows.Samples.{image_a}
use Rattle.log_core.specs.worked_rows.Collecting.{head_put}
use Rattle.log_core.specs.worked_rows.GivenBack.{marked_from, sure_from, unpinned_from, half_from, held_from, kept_call, kept_from, HeldBack, KeptForLater}
use Rattle.log_core.proofs.row_checks.RowTells.{is_put}
use Rattle.log_core.proofs.row_checks.RowsStart.{image_starts}
use Rattle.log_core.proofs.row_checks.RowsWrong.{one_part}
use Rattle.log_core.proofs.row_checks.RowsGiven.{no_clear, held_by}
use Rattle.log_core.proofs.row_checks.RowsAllowed.{step_reached}
use Rattle.log_core.proofs.row_checks.RowsReached.{reached_holds}
use Rattle.log_core.proofs.row_checks.RowsStepped.{enters_reached}
use Rattle.log_core.proofs.row_checks.RowsLinked.{no_sync}
use Rattle.log_core.proofs.row_checks.RowsHeadPut.{put_core, put_core_reached, head_put_is}

marked_reached : IsReached image_a (marked_from put_core)
marked_reached = step_reached image_a put_core 0 2 (Mark 3) [] put_core_reached (omega arith) (one_part 0) tt refl (OfNewHead refl (λ none. true≢false (ap is_put none)))

sure_reached : IsReached image_a (sure_from put_core)
sure_reached = step_reached image_a (marked_from put_core) 0 2 Fence [] marked_reached (omega arith) (one_part 0) tt refl (record { in_sync = λ sync tail none. absurd (no_sync sync) })

unpinned_reached : IsReached image_a (unpinned_from put_core)
unpinned_reached = step_reached image_a (sure_from put_core) 0 2 (Store (Pin 0) 0) [] sure_reached (omega arith) (one_part 0) tt refl (record { value_is = inl refl; no_marks = λ sync. refl })

half_reached : IsReached image_a (half_from put_core)
half_reached = step_reached image_a (unpinned_from put_core) 0 2 (Load (Pin 0)) [] unpinned_reached (omega arith) (one_part 0) tt refl
    (record { head_fenced = refl; unpinned = refl; in_order = inl refl; inside = omega arith })

held_reached : IsReached image_a (held_from put_core)
held_reached = step_reached image_a (half_from put_core) 0 2 (Load (Pin 1)) [] half_reached (omega arith) (one_part 0) tt refl
    (record { head_fenced = refl; unpinned = refl; in_order = inr refl; inside = omega arith })

-- seat 0 as it keeps the block
abbrev keeper : Seat
keeper = state_after_work (view_of (held_from put_core).views 0).seat KeepsReplaced

abbrev pin_of : Option Held → Held
pin_of None = record { seat = 0; generation = 0 }
pin_of (Some pin) = pin

pub kept_reached : IsReached image_a (kept_from put_core)
kept_reached = enters_reached image_a (half_from put_core) 0 2 (Load (Pin 1)) [] (KeepsReplaced ∷ NotesHeld (Some (record { seat = 1; generation = 1 })) ∷ []) (kept_call ∷ []) half_reached (omega arith) (one_part 0) tt refl
    (record { head_fenced = refl; unpinned = refl; in_order = inr refl; inside = omega arith })
    (refl, ((λ pin same. subst (λ (held : Held). IsHeldPin keeper 1 held) (ap pin_of same) (record { other = λ own. omega (arith, own); seen = omega arith; pin = refl; some = omega arith; needs = omega arith })), tt))
    refl
    (record {
      at_tail = refl;
      position = refl;
      seat = refl;
      number = refl;
      op = refl;
      fits = record {
        put = record { generation = 2; base = 1; replaced = 1; limbo = 0 };
        put_is = refl;
        generation = refl;
        none_left = refl;
        all = refl;
        one = inl refl;
        limbo = refl;
        held = (omega arith, record { other = λ same. omega (arith, same); seen = omega arith; pin = refl; some = omega arith; needs = omega arith });
      };
    })

-- a block that is on the list of those kept for later alone, where the scan is not clear of pins that may need them
not_of_limbo : (s : Seat) (bits block : ℕ) → is_among 0 bits block ≡ true → is_listed (owned_numbers s.blocks.owned) block ≡ false → is_listed s.giving.replaced block ≡ false
    → (IsClearScan s 2 s.giving.limbo_generation → ⊥) → AreGivenBack s 2 0 bits → ⊥
not_of_limbo s bits block among owned replaced unclear (OfOwned all) = false≢true (sym owned ∙ all block among)
not_of_limbo s bits block among owned replaced unclear (OfReplaced all sure scan) = false≢true (sym replaced ∙ all block among)
not_of_limbo s bits block among owned replaced unclear (OfLimbo all scan) = unclear scan

held : HeldBack put_core
held = (
  held_reached,
  reached_holds image_a (held_from put_core) image_starts held_reached,
  refl,
  refl,
  refl,
  refl,
  record { inside = omega arith; why = inr (record { seat = 1; valid = refl; same = refl }) },
  λ allowed. no_clear (view_of (held_from put_core).views 0).seat 8 3 refl refl refl (λ member sure scan. held_by 1 refl (scan.each 1 (omega arith))) allowed.step.may,
)

pub held_back : HeldBack head_put
held_back = subst (λ (c : Core). HeldBack c) (sym head_put_is) held

kept : KeptForLater put_core
kept = (
  kept_reached,
  reached_holds image_a (kept_from put_core) image_starts kept_reached,
  refl,
  refl,
  refl,
  refl,
  refl,
  refl,
  refl,
  λ allowed. not_of_limbo (view_of (kept_from put_core).views 0).seat 8 3 refl refl refl (λ scan. held_by 1 refl (scan.each 1 (omega arith))) allowed.step.may.given,
)

pub kept_for_later : KeptForLater head_put
kept_for_later = subst (λ (c : Core). KeptForLater c) (sym head_put_is) kept
