-- Neither a walk nor an exchange that lost changes the pin.
use Rattle.std.proofs.Common.{◌≡◌, ℕ, ◌+◌, ◌==◌, nat_lt, Bool, true, false, refl}
use Rattle.log_entry.specs.Fields.{field}
use Rattle.log_entry.specs.declared.layouts.TheConstants.{BLOCK_BASE, BLOCK_KIND, EMPTY, ENTRY_KIND, INDIRECT, SEAL, SNAPSHOT}
use Rattle.pmem_words.specs.Seats.{Seat}
use Rattle.log_core.specs.Works.{words_of}
use Rattle.log_blocks.specs.declared.walk.Walk.{Walk}
use Rattle.log_blocks.specs.declared.walk.Walk.TheVariants.{Begin, Size, Run, Link, Next, Indirect}
use Rattle.log_blocks.specs.Committing.{lost_by}
use Rattle.log_blocks.specs.Walking.{walk_after, keeps_table, front_after, run_after, next_after, slot_after, tail_after, begin_after, indirect_after}
use Rattle.log_blocks.specs.Taking.{with_kept}

front_hold : (keeps snapshot : Bool) (s : Seat) (f : ℕ) → (front_after keeps snapshot s f).seat.hold ≡ s.hold
front_hold true snapshot s f = refl
front_hold false true s f = refl
front_hold false false s f = refl

slot_hold : (seal indirect : Bool) (s : Seat) (f : ℕ) → (slot_after seal indirect s f).seat.hold ≡ s.hold
slot_hold true indirect s f = refl
slot_hold false true s f = refl
slot_hold false false s f = refl

tail_hold : (empty last : Bool) (s : Seat) (f : ℕ) → (tail_after empty last s f).seat.hold ≡ s.hold
tail_hold true last s f = refl
tail_hold false true s f = refl
tail_hold false false s f = slot_hold (f == SEAL) (field ENTRY_KIND f == INDIRECT) s f

begin_hold : (ready : Bool) (s : Seat) (f : ℕ) → (begin_after ready s f).seat.hold ≡ s.hold
begin_hold true s f = tail_hold (f == EMPTY) (s.walk.tail_slot == words_of s) s f
begin_hold false s f = front_hold (keeps_table s (field BLOCK_BASE f)) (field BLOCK_KIND f == SNAPSHOT) s f

run_hold : (empty : Bool) (s : Seat) (f : ℕ) → (run_after empty s f).seat.hold ≡ s.hold
run_hold true s f = refl
run_hold false s f = refl

next_hold : (snapshot : Bool) (block : ℕ) (s : Seat) → (next_after snapshot block s).seat.hold ≡ s.hold
next_hold true block s = refl
next_hold false block s = refl

indirect_hold : (more : Bool) (block word : ℕ) (s : Seat) → (indirect_after more block word s).seat.hold ≡ s.hold
indirect_hold true block word s = refl
indirect_hold false block word s = refl

pub walk_hold : (p : Walk) (s : Seat) (f : ℕ) → (walk_after p s f).seat.hold ≡ s.hold
walk_hold Begin s f = begin_hold s.walk.ready s f
walk_hold (Size base) s f = refl
walk_hold Run s f = run_hold (f == EMPTY) s f
walk_hold Link s f = refl
walk_hold (Next block) s f = next_hold (field BLOCK_KIND f == SNAPSHOT) block s
walk_hold (Indirect block word) s f = indirect_hold (nat_lt (word + 1) (words_of s)) block word (with_kept s block word f)

pub lost_hold : (seal indirect : Bool) (word : ℕ) (s : Seat) → (lost_by seal indirect word s).hold ≡ s.hold
lost_hold true indirect word s = refl
lost_hold false true word s = refl
lost_hold false false word s = refl
