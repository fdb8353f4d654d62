-- Rows of a run with a synced write and one that is not: its oldest words, its newest, and mixed ones.
use Rattle.std.proofs.Common.{◌≡◌, ℕ, [], ◌∷◌, ◌+◌, List, refl, inl, arith}
use Rattle.asks.specs.declared.ask.Ask.TheVariants.{Load, Store, Exchange, Mark, Fence}
use Rattle.asks.specs.declared.ask.Place.TheVariants.{Image, Pin}
use Rattle.pmem_words.specs.declared.keeps.Task.TheVariants.{Sync, Collect}
use Rattle.log_image.specs.Header.{shape_of}
use Rattle.log_image.specs.Chains.{IsLinked}
use Rattle.log_image.specs.Positions.{position_of}
use Rattle.log_image.specs.Stands.{Stands}
use Rattle.persistence.specs.Survivors.{Survives}
use Rattle.log_core.specs.Views.{view_of}
use Rattle.log_core.specs.Origin.{first_position}
use Rattle.log_core.specs.Works.{Begins}
use Rattle.log_core.specs.May.{OfHead, OfTrail}
use Rattle.log_core.specs.Runs.{IsReached}
use Rattle.log_core.specs.Crashes.{file_after_first}
use Rattle.log_core.proofs.row_checks.RowsLinked.{collect_steps}
use Rattle.log_core.specs.worked_rows.Samples.{image_a}
use Rattle.log_core.specs.worked_rows.Rows.{to_second}
use Rattle.log_core.specs.worked_rows.TwoWriters.{next_found, second_call}
use Rattle.log_core.specs.worked_rows.Crashed.{without_slot, one_entry_marked, one_fenced, sync_call, one_synced, one_unsynced, sealing_behind, sealed_behind, oldest_words, SyncedAndUnsynced}
use Rattle.log_core.proofs.crashes.Recovered.{present_left}
use Rattle.log_core.proofs.row_checks.RowsWrong.{one_part}
use Rattle.log_core.proofs.row_checks.RowsAllowed.{step_reached}
use Rattle.log_core.proofs.row_checks.RowsStepped.{enters_reached}
use Rattle.log_core.proofs.row_checks.RowsBothPut.{found_reached, may_put_next}
use Rattle.log_core.proofs.row_checks.RowsCrashed.{set_left, stands_after, left_after, sync_steps, one_marked, not_lost}

marked_reached : IsReached image_a one_entry_marked
marked_reached =
    let begun = step_reached image_a next_found 0 2 (Load (Image 28)) (Begins Sync [] ∷ []) found_reached (omega arith) (one_part 0)
    (record { none_runs = refl; not_won = refl; no_head = refl; no_marks = refl; none_laid = refl; steps = sync_steps }, tt) (omega arith) (record { valid = refl; named = refl }) in
    let head = step_reached image_a _ 0 2 (Mark 3) [] begun (omega arith) (one_part 0) tt refl (OfHead refl refl refl) in
    step_reached image_a _ 0 2 (Mark 27) [] head (omega arith) (one_part 0) tt refl (OfTrail refl refl refl)

fenced_reached : IsReached image_a one_fenced
fenced_reached = step_reached image_a one_entry_marked 0 2 Fence [] marked_reached (omega arith) (one_part 0) tt refl (record { in_sync = λ job tail none. (refl, refl, record { head = refl; each = one_marked (view_of one_entry_marked.views 0).ghost.marks refl }) })

synced_reached : IsReached image_a one_synced
synced_reached = enters_reached image_a one_fenced 0 2 (Store (Pin 0) 0) [] [] (sync_call ∷ []) fenced_reached (omega arith) (one_part 0) tt refl
    (record { value_is = inl refl; no_marks = λ sync. refl }) tt refl (record { at_tail = refl; position = refl; seat = refl; number = refl; op = refl; fits = (refl, refl) })

unsynced_reached : IsReached image_a one_unsynced
unsynced_reached = enters_reached image_a one_synced 1 1 (Exchange (Image 28) 0 to_second) [] [] (second_call ∷ []) synced_reached (omega arith) (one_part 1) tt refl
    (λ seal. absurd (omega (arith, seal)), λ entry. may_put_next) tt refl (record { at_tail = refl; position = refl; seat = refl; number = refl; op = refl; fits = refl })

sealing_reached : IsReached image_a sealing_behind
sealing_reached = step_reached image_a one_unsynced 1 2 (Load (Image 29)) (Begins Collect [] ∷ []) unsynced_reached (omega arith) (one_part 1)
    (record { none_runs = refl; not_won = refl; no_head = refl; no_marks = refl; none_laid = refl; steps = collect_steps }, tt) (omega arith) (record { valid = refl; named = refl })

behind_reached : IsReached image_a sealed_behind
behind_reached = step_reached image_a sealing_behind 1 2 (Exchange (Image 29) 0 3) [] sealing_reached (omega arith) (one_part 1) tt refl
    (λ seal. record { at_tail = record { valid = refl; ready = refl; not_won = refl; at_tail = refl }; slot = refl; later = omega arith; inside = omega arith; job = refl }, λ entry. absurd (entry refl))

present : Survives sealed_behind.memory sealed_behind.memory.now.words
present = present_left sealed_behind.memory

entry_lost : Survives sealed_behind.memory (without_slot sealed_behind 28)
entry_lost = set_left sealed_behind.memory sealed_behind.memory.now.words 28 0 present (omega arith) (record { index = 0; above = omega arith; inside = omega arith; same = refl })

both_lost : Survives sealed_behind.memory (oldest_words sealed_behind.memory)
both_lost = set_left sealed_behind.memory (without_slot sealed_behind 28) 29 0 entry_lost (omega arith) (record { index = 0; above = omega arith; inside = omega arith; same = refl })

-- a word of the image stands for the file as far as its chain says
stands_by_chain : (words : List ℕ) → Survives sealed_behind.memory words → (count : ℕ) → IsLinked words (shape_of words) (3 ∷ []) → position_of words (shape_of words) (3 ∷ []) ≡ first_position image_a + count →
    Stands words (file_after_first image_a sealed_behind count) (first_position image_a + count)
stands_by_chain words left count linked at = stands_after image_a sealed_behind words (left_after sealed_behind words behind_reached left) (3 ∷ []) count linked at

pub synced_and_unsynced : SyncedAndUnsynced
synced_and_unsynced = (
  behind_reached,
  refl,
  refl,
  both_lost,
  stands_by_chain (oldest_words sealed_behind.memory) both_lost 1 (refl, refl) refl,
  present,
  stands_by_chain sealed_behind.memory.now.words present 2 (refl, refl) refl,
  entry_lost,
  stands_by_chain (without_slot sealed_behind 28) entry_lost 1 (refl, refl) refl,
  not_lost sealed_behind behind_reached refl (refl, refl) refl,
)
