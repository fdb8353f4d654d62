-- Rows of a collection while another seat stands at the same slot: up to its new head.
use Rattle.std.proofs.Common.{◌≡◌, List, [], ◌∷◌, refl, ap, ◌∙◌, subst, arith, ℕ}
use Rattle.log_entry.specs.declared.shapes.Area.TheVariants.{Spare}
use Rattle.log_image.specs.Chains.{is_listed}
use Rattle.log_image.specs.Image.{is_in_log}
use Rattle.pmem_words.specs.Seats.{Seat}
use Rattle.pmem_words.specs.declared.keeps.Task.TheVariants.{Collect}
use Rattle.asks.specs.declared.ask.Ask.TheVariants.{Load, Exchange, SetBits, Fence}
use Rattle.asks.specs.declared.ask.Place.TheVariants.{Image, Map}
use Rattle.log_core.specs.Views.{view_of}
use Rattle.log_core.specs.Cores.{Core}
use Rattle.log_core.specs.Works.{Begins, CountsFilled, NotesNamed, seat_shape, state_after_work}
use Rattle.log_core.specs.Needs.{is_in_area}
use Rattle.log_core.specs.Steps.{is_mapped, replaced_by}
use Rattle.log_core.specs.May.{MayExchangeHead, is_fenced}
use Rattle.log_core.specs.Runs.{IsReached}
use Rattle.log_core.specs.worked_rows.Samples.{image_a, small_shape}
use Rattle.log_core.specs.worked_rows.Rows.{log_words, snapshot_words}
use Rattle.log_core.specs.worked_rows.TwoWriters.{one_put}
use Rattle.log_core.specs.worked_rows.OldPins.{seal_asked, seal_put, next_taken, next_marked, next_fenced, next_linked, snapshot_taken, snapshot_marked, snapshot_fenced, new_head}
use Rattle.log_core.proofs.row_checks.RowChecks.{in_all}
use Rattle.log_core.proofs.row_checks.RowsTaken.{all_among}
use Rattle.log_core.proofs.row_checks.RowsWrong.{one_part}
use Rattle.log_core.proofs.row_checks.RowsAllowed.{step_reached}
use Rattle.log_core.proofs.row_checks.RowsFilled.{fills_block, all_filled}
use Rattle.log_core.proofs.row_checks.RowsLinked.{collect_steps, no_sync}
use Rattle.log_core.proofs.row_checks.RowsHeadPut.{own_map, first_mapped, others_unmapped, one_left, left_over, with_replaced}
use Rattle.log_core.proofs.row_checks.RowsBothPut.{one_put_reached}

asked_reached : IsReached image_a seal_asked
asked_reached = step_reached image_a one_put 0 2 (Load (Image 28)) (Begins Collect [] ∷ []) one_put_reached (omega arith) (one_part 0)
    (record { none_runs = refl; not_won = refl; no_head = refl; no_marks = refl; none_laid = refl; steps = collect_steps }, tt) (omega arith) (record { valid = refl; named = refl })

seal_reached : IsReached image_a seal_put
seal_reached = step_reached image_a seal_asked 0 2 (Exchange (Image 28) 0 3) [] asked_reached (omega arith) (one_part 0) tt refl
    (λ seal. record { at_tail = record { valid = refl; ready = refl; not_won = refl; at_tail = refl }; slot = refl; later = omega arith; inside = omega arith; job = refl }, λ entry. absurd (entry refl))

next_taken_reached : IsReached image_a next_taken
next_taken_reached = step_reached image_a seal_put 0 2 (SetBits (Map 0) 16) [] seal_reached (omega arith) (one_part 0) tt refl
    (record { inside = omega arith; area = Spare; in_area = all_among 16 (λ block. is_in_area (seat_shape (view_of seal_put.views 0).seat) Spare block) refl; few = omega arith })

next_marked_reached : IsReached image_a next_marked
next_marked_reached = fills_block image_a 0 0 4 log_words next_taken (omega arith) refl
    (record { run = next_taken_reached; made = omega arith; owns = record { unspent = one_part 0; no_sync = no_sync; words = refl; inside = omega arith; owned = refl } })

next_fenced_reached : IsReached image_a next_fenced
next_fenced_reached = step_reached image_a next_marked 0 2 Fence (CountsFilled 0 ∷ []) next_marked_reached (omega arith) (one_part 0)
    (record { owned = omega arith; each = all_filled next_marked 0 0 4 refl refl refl refl refl refl refl refl }, tt) refl (record { in_sync = λ sync tail none. absurd (no_sync sync) })

linked_reached : IsReached image_a next_linked
linked_reached = step_reached image_a next_fenced 0 2 (Exchange (Image 24) 0 4) [] next_fenced_reached (omega arith) (one_part 0) tt refl
    (record { valid = refl; ready = refl; link = refl; at_end = refl; owned = refl; in_log = refl; content = refl })

snapshot_taken_reached : IsReached image_a snapshot_taken
snapshot_taken_reached = step_reached image_a next_linked 0 2 (SetBits (Map 0) 32) [] linked_reached (omega arith) (one_part 0) tt refl
    (record { inside = omega arith; area = Spare; in_area = all_among 32 (λ block. is_in_area (seat_shape (view_of next_linked.views 0).seat) Spare block) refl; few = omega arith })

snapshot_marked_reached : IsReached image_a snapshot_marked
snapshot_marked_reached = fills_block image_a 0 0 5 snapshot_words snapshot_taken (omega arith) refl
    (record { run = snapshot_taken_reached; made = omega arith; owns = record { unspent = one_part 0; no_sync = no_sync; words = refl; inside = omega arith; owned = refl } })

snapshot_fenced_reached : IsReached image_a snapshot_fenced
snapshot_fenced_reached = step_reached image_a snapshot_marked 0 2 Fence (CountsFilled 0 ∷ []) snapshot_marked_reached (omega arith) (one_part 0)
    (record { owned = omega arith; each = all_filled snapshot_marked 0 0 5 refl refl refl refl refl refl refl refl }, tt) refl (record { in_sync = λ sync tail none. absurd (no_sync sync) })

-- seat 0 as it is at its exchange
abbrev collector : Seat
collector = state_after_work (view_of snapshot_fenced.views 0).seat (NotesNamed (26 ∷ []))

collector_replaces : replaced_by collector ≡ 3 ∷ []
collector_replaces = one_left (is_mapped own_map 1) (is_mapped own_map 3) (is_mapped own_map 4) first_mapped (others_unmapped 3 refl) (others_unmapped 4 refl)

may_put : MayExchangeHead image_a snapshot_fenced (view_of snapshot_fenced.views 0).ghost collector 4294967299 8589934597
may_put = record {
  valid = refl;
  ready = refl;
  at_tail = refl;
  job = refl;
  not_put = refl;
  nothing_left = refl;
  pinned = refl;
  generation = refl;
  below_limit = omega arith;
  next_is = refl;
  above = omega arith;
  cut = refl;
  cut_block = refl;
  owned = λ block named. in_all (λ b. is_fenced collector.blocks.owned b) (5 ∷ []) block refl named;
  in_log = λ block named. in_all (λ b. is_in_log small_shape b) (5 ∷ []) block refl named;
  once = refl;
  snapshot = record { some = omega arith; words = (refl, refl, refl, refl, tt); map_is = λ virt. refl };
  apart = (λ virt touched. refl, tt);
  replaced = λ block. ap (λ (blocks : List ℕ). is_listed blocks block) collector_replaces ∙ left_over block;
}

-- the core after it
abbrev pub head_core : Core
head_core = with_replaced snapshot_fenced new_head (3 ∷ [])

pub new_head_is : new_head ≡ head_core
new_head_is = ap (λ (blocks : List ℕ). with_replaced snapshot_fenced new_head blocks) collector_replaces

pub head_core_reached : IsReached image_a head_core
head_core_reached = subst (λ (c : Core). IsReached image_a c) new_head_is
    (step_reached image_a snapshot_fenced 0 2 (Exchange (Image 3) 4294967299 8589934597) (NotesNamed (26 ∷ []) ∷ []) snapshot_fenced_reached (omega arith) (one_part 0) (refl, tt) refl may_put)
