-- What a weaker rule would let through: a block that is named twice, a snapshot that names more than the map, a write of no seat.
use Rattle.std.proofs.Common.{◌≡◌, ◌==◌, ◌&&◌, ◌||◌, not, [], ◌∷◌, ℕ, zero, suc, false, refl, arith, ap}
use Rattle.std.proofs.lemmas.Bool.{false≢true, true≢false}
use Rattle.std.proofs.lemmas.Bool.Decides.{nat_tests}
use Rattle.log_image.specs.Image.{is_in_log}
use Rattle.log_core.specs.May.{is_fenced}
use Rattle.log_core.specs.Views.{view_of}
use Rattle.log_core.specs.Records.{WritesOnce}
use Rattle.log_core.specs.worked_rows.Samples.{small_shape}
use Rattle.log_core.specs.worked_rows.Refused.{early, one_made, right_snapshot, NamedTwice, SnapshotNamesMore, WriteOfNoSeat}
use Rattle.log_core.proofs.row_checks.RowChecks.{in_all}
use Rattle.log_core.proofs.row_checks.RowTells.{is_some}
use Rattle.log_core.proofs.row_checks.RowsWrong.{one_part}

pub named_twice : NamedTwice
named_twice = (refl, refl, refl, refl, λ may. false≢true may.once)

-- what the first generation names and the second does not
left_over : (block : ℕ) → ((3 == block) || false) ≡ (((3 == block) || ((4 == block) || ((1 == block) || false))) && not ((5 == block) || ((4 == block) || ((1 == block) || false))))
left_over block = grind (arith, nat_tests)

pub snapshot_names_more : SnapshotNamesMore
snapshot_names_more = (
  refl,
  refl,
  refl,
  λ may. true≢false (may.apart.0 0 refl),
  λ may. true≢false (ap is_some (may.snapshot.map_is 1)),
  λ may. false≢true may.snapshot.words.3,
  record {
    valid = refl;
    ready = refl;
    at_tail = refl;
    job = refl;
    not_put = refl;
    nothing_left = refl;
    pinned = refl;
    generation = refl;
    below_limit = omega arith;
    next_is = refl;
    above = omega arith;
    cut = refl;
    cut_block = refl;
    owned = λ block named. in_all (λ b. is_fenced right_snapshot.blocks.owned b) (5 ∷ []) block refl named;
    in_log = λ block named. in_all (λ b. is_in_log small_shape b) (5 ∷ []) block refl named;
    once = refl;
    snapshot = record { some = omega arith; words = (refl, refl, refl, refl, tt); map_is = λ virt. refl };
    apart = (λ virt touched. refl, tt);
    replaced = left_over;
  },
)

once_of_one : WritesOnce one_made early.history (view_of early.views 0)
once_of_one some zero from to = absurd (omega (arith, from))
once_of_one some (suc zero) from to = refl
once_of_one some (suc (suc position)) from to = absurd (omega (arith, to))

pub write_of_no_seat : WriteOfNoSeat
write_of_no_seat = (
  once_of_one,
  refl,
  refl,
  refl,
  λ once. (let times = once (one_part 1) 1 (omega arith) (omega arith) in omega (arith, times)),
  λ seats. (let inside = seats.writes.0 in omega (arith, inside)),
)
