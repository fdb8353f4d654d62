-- Rows of what crashes may leave of runs.
use Rattle.std.proofs.Common.{◌≡◌, ◌<◌, ◌+◌, ℕ, ◌==◌, ◌||◌, Bool, true, false, List, [], ◌∷◌, length, set, refl, sym, ◌∙◌, ap, subst, arith, slice_index, Some}
use Rattle.std.proofs.lemmas.Bool.{eqb-true}
use Rattle.std.proofs.lemmas.List.{get_or-set_same, get_or-set_other, length-set}
use Rattle.asks.specs.declared.ask.Place.TheVariants.{Image}
use Rattle.asks.specs.declared.ask.Ask.TheVariants.{Load, Mark, Fence}
use Rattle.pmem_words.specs.declared.keeps.Task.TheVariants.{Sync}
use Rattle.log_entry.specs.declared.calls.Op.{Op}
use Rattle.log_image.specs.Header.{shape_of}
use Rattle.log_image.specs.Chains.{IsLinked}
use Rattle.log_image.specs.Positions.{position_of}
use Rattle.log_image.specs.Stands.{Stands}
use Rattle.log_image.proofs.OneChain.{one_linked}
use Rattle.persistence.specs.Memory.{Memory, cell}
use Rattle.persistence.specs.Survivors.{IsPossible, Survives}
use Rattle.log_core.specs.Views.{MarkedWord, view_of, op_of}
use Rattle.log_core.specs.Origin.{Origin, first_position}
use Rattle.log_core.specs.Cores.{Core}
use Rattle.log_core.specs.Works.{Begins, is_quiet}
use Rattle.log_core.specs.After.{op_or_size}
use Rattle.log_core.specs.May.{OfHead, OfTrail, is_marked}
use Rattle.log_core.specs.Runs.{IsReached}
use Rattle.log_core.specs.Crashes.{file_after_first, IsRecovered}
use Rattle.log_core.specs.worked_rows.Samples.{image_a}
use Rattle.log_core.specs.worked_rows.Written.{own_put}
use Rattle.log_core.specs.worked_rows.TwoWriters.{both_put}
use Rattle.log_core.specs.worked_rows.Collecting.{head_put}
use Rattle.log_core.specs.worked_rows.Crashed.{without_slot, with_old_head, EitherHeadStands, own_syncing, own_head_marked, own_entry_marked, own_synced, WriteMayBeLost, LaterWriteAlone, SyncedWriteStays}
use Rattle.log_core.proofs.clauses.OneView.{same_or_other}
use Rattle.log_core.proofs.crashes.Recovered.{recovered, present_left}
use Rattle.log_core.proofs.row_checks.RowsWrong.{one_part}
use Rattle.log_core.proofs.row_checks.RowsAllowed.{step_reached}
use Rattle.log_core.proofs.row_checks.RowsStart.{image_starts}
use Rattle.log_core.proofs.row_checks.RowsReached.{reached_holds}
use Rattle.log_core.proofs.row_checks.RowsWritten.{put_reached}
use Rattle.log_core.proofs.row_checks.RowsBothPut.{both_reached}
use Rattle.log_core.proofs.row_checks.RowsHeadPut.{head_reached}

-- words that a crash may leave, and with one that a word may be
pub set_left : (memory : Memory) (words : List ℕ) (word value : ℕ) → Survives memory words → word < length words → IsPossible (cell memory word) value → Survives memory (set words word value)
set_left memory words word value left inside possible = record {
  same_length = length-set words word value ∙ left.same_length;
  each = λ other small. same_or_other other word
      (λ same. subst (λ (k : ℕ). IsPossible (cell memory k) (slice_index (set words word value) k)) (sym same)
      (subst (λ (v : ℕ). IsPossible (cell memory word) v) (sym (get_or-set_same words word value 0 inside)) possible))
      (λ apart. subst (λ (v : ℕ). IsPossible (cell memory other) v) (sym (get_or-set_other words word other value 0 apart))
      (left.each other (let long = length-set words word value in omega (arith, small, long))));
}

-- what is left is after as many writes as its chain says
module _ (o : Origin) (c : Core) (words : List ℕ) (is : IsRecovered o c words) (chain : List ℕ) (count : ℕ) (linked : IsLinked words (shape_of words) chain) (at : position_of words (shape_of words) chain ≡ first_position o + count) where
  same_chain : is.opens.stands.0 ≡ chain
  same_chain = one_linked words (shape_of words) is.opens.stands.0 chain is.opens.stands.1.stands.is_chain.linked linked

  pub many : is.writes ≡ count
  many = (let ends : position_of words (shape_of words) chain ≡ first_position o + is.writes = subst (λ (l : List ℕ). position_of words (shape_of words) l ≡ first_position o + is.writes) same_chain is.opens.stands.1.stands.ends_at in
      omega (arith, ends, at))

  pub stands_after : Stands words (file_after_first o c count) (first_position o + count)
  stands_after = subst (λ (k : ℕ). Stands words (file_after_first o c k) (first_position o + k)) many is.opens.stands

-- after a run
pub left_after : (c : Core) (words : List ℕ) → IsReached image_a c → Survives c.memory words → IsRecovered image_a c words
left_after c words reached left = recovered image_a c image_starts (reached_holds image_a c image_starts reached) words left

put_lost : Survives own_put.memory (without_slot own_put 27)
put_lost = set_left own_put.memory own_put.memory.now.words 27 0 (present_left own_put.memory) (omega arith) (record { index = 0; above = omega arith; inside = omega arith; same = refl })

pub write_may_be_lost : WriteMayBeLost
write_may_be_lost = (
  present_left own_put.memory,
  stands_after image_a own_put own_put.memory.now.words (left_after own_put own_put.memory.now.words put_reached (present_left own_put.memory)) (3 ∷ []) 1 (refl, refl) refl,
  put_lost,
  stands_after image_a own_put (without_slot own_put 27) (left_after own_put (without_slot own_put 27) put_reached put_lost) (3 ∷ []) 0 (refl, refl) refl,
)

later_lost : Survives both_put.memory (without_slot both_put 28)
later_lost = set_left both_put.memory both_put.memory.now.words 28 0 (present_left both_put.memory) (omega arith) (record { index = 0; above = omega arith; inside = omega arith; same = refl })

earlier_lost : Survives both_put.memory (without_slot both_put 27)
earlier_lost = set_left both_put.memory both_put.memory.now.words 27 0 (present_left both_put.memory) (omega arith) (record { index = 0; above = omega arith; inside = omega arith; same = refl })

pub later_write_alone : LaterWriteAlone
later_write_alone = (
  later_lost,
  stands_after image_a both_put (without_slot both_put 28) (left_after both_put (without_slot both_put 28) both_reached later_lost) (3 ∷ []) 1 (refl, refl) refl,
  earlier_lost,
  stands_after image_a both_put (without_slot both_put 27) (left_after both_put (without_slot both_put 27) both_reached earlier_lost) (3 ∷ []) 0 (refl, refl) refl,
  refl,
)

pub sync_steps : (op : Op) → op_of Sync [] ≡ Some op → is_quiet 64 op ≡ false
sync_steps op same = subst (λ (other : Op). is_quiet 64 other ≡ false) (ap op_or_size same) refl

-- the words that a walk of one entry has read are marked with that
pub one_marked : (marks : List MarkedWord) → is_marked marks 27 ≡ true → (place : ℕ) → ((27 == place) || false) ≡ true → is_marked marks place ≡ true
one_marked marks marked place on = by (27 == place) refl on
  where
    by : (same : Bool) → (27 == place) ≡ same → (same || false) ≡ true → is_marked marks place ≡ true
    by true is found = subst (λ (k : ℕ). is_marked marks k ≡ true) (eqb-true 27 place is) marked
    by false is found = cc

synced_reached : IsReached image_a own_synced
synced_reached =
    let begun : IsReached image_a own_syncing = step_reached image_a own_put 0 2 (Load (Image 28)) (Begins Sync [] ∷ []) put_reached (omega arith) (one_part 0)
    (record { none_runs = refl; not_won = refl; no_head = refl; no_marks = refl; none_laid = refl; steps = sync_steps }, tt) (omega arith) (record { valid = refl; named = refl }) in
    let head : IsReached image_a own_head_marked = step_reached image_a own_syncing 0 2 (Mark 3) [] begun (omega arith) (one_part 0) tt refl (OfHead refl refl refl) in
    let entry : IsReached image_a own_entry_marked = step_reached image_a own_head_marked 0 2 (Mark 27) [] head (omega arith) (one_part 0) tt refl (OfTrail refl refl refl) in
    step_reached image_a own_entry_marked 0 2 Fence [] entry (omega arith) (one_part 0) tt refl (record { in_sync = λ job tail none. (refl, refl, record { head = refl; each = one_marked (view_of own_entry_marked.views 0).ghost.marks refl }) })

marked_lost : Survives own_entry_marked.memory (without_slot own_entry_marked 27)
marked_lost = set_left own_entry_marked.memory own_entry_marked.memory.now.words 27 0 (present_left own_entry_marked.memory) (omega arith) (record { index = 0; above = omega arith; inside = omega arith; same = refl })

-- without its first entry the log of a run with a synced one says that none is left
pub not_lost : (c : Core) → IsReached image_a c → c.synced ≡ 1 → IsLinked (without_slot c 27) (shape_of (without_slot c 27)) (3 ∷ []) →
    position_of (without_slot c 27) (shape_of (without_slot c 27)) (3 ∷ []) ≡ first_position image_a + 0 → Survives c.memory (without_slot c 27) → ⊥
not_lost c reached to linked at left = (let is : IsRecovered image_a c (without_slot c 27) = left_after c (without_slot c 27) reached left in
    let none = many image_a c (without_slot c 27) is (3 ∷ []) 0 linked at in
    let synced = is.synced in
    let first : first_position image_a ≡ 0 = refl in
    omega (arith, none, synced, to, first))

pub synced_write_stays : SyncedWriteStays
synced_write_stays = (synced_reached, refl, refl, marked_lost, not_lost own_synced synced_reached refl (refl, refl) refl)

-- where a collection's head is not fenced yet
entry_lost : Survives head_put.memory (without_slot head_put 27)
entry_lost = set_left head_put.memory head_put.memory.now.words 27 0 (present_left head_put.memory) (omega arith) (record { index = 0; above = omega arith; inside = omega arith; same = refl })

head_lost : (words : List ℕ) → Survives head_put.memory words → 3 < length words → Survives head_put.memory (with_old_head words)
head_lost words left inside = set_left head_put.memory words 3 4294967299 left inside (record { index = 0; above = omega arith; inside = omega arith; same = refl })

old_left : Survives head_put.memory (with_old_head head_put.memory.now.words)
old_left = head_lost head_put.memory.now.words (present_left head_put.memory) (omega arith)

both_lost : Survives head_put.memory (with_old_head (without_slot head_put 27))
both_lost = head_lost (without_slot head_put 27) entry_lost (omega arith)

pub either_head_stands : EitherHeadStands
either_head_stands = (
  head_reached,
  present_left head_put.memory,
  stands_after image_a head_put head_put.memory.now.words (left_after head_put head_put.memory.now.words head_reached (present_left head_put.memory)) (5 ∷ 4 ∷ []) 1 (refl, (refl, refl, refl)) refl,
  old_left,
  stands_after image_a head_put (with_old_head head_put.memory.now.words) (left_after head_put (with_old_head head_put.memory.now.words) head_reached old_left) (3 ∷ 4 ∷ []) 1 (refl, (refl, refl, refl)) refl,
  entry_lost,
  stands_after image_a head_put (without_slot head_put 27) (left_after head_put (without_slot head_put 27) head_reached entry_lost) (5 ∷ 4 ∷ []) 1 (refl, (refl, refl, refl)) refl,
  both_lost,
  stands_after image_a head_put (with_old_head (without_slot head_put 27)) (left_after head_put (with_old_head (without_slot head_put 27)) head_reached both_lost) (3 ∷ []) 0 (refl, refl) refl,
)
