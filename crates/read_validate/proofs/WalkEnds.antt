-- Where a walk ends, its last step has left its table as it was; and any step of a walk has a measure that is not small.
use Rattle.std.proofs.Common.{◌≡◌, ℕ, ◌+◌, ◌≤◌, ◌==◌, nat_lt, Bool, true, false, refl, arith}
use Rattle.log_entry.specs.Fields.{field}
use Rattle.log_entry.specs.declared.layouts.TheConstants.{EMPTY, ENTRY_KIND, INDIRECT, SEAL, BLOCK_BASE, BLOCK_KIND, SNAPSHOT}
use Rattle.pmem_words.specs.Seats.{Seat}
use Rattle.pmem_words.specs.declared.machine.Turn.TheVariants.{Done}
use Rattle.log_core.specs.Works.{words_of}
use Rattle.log_blocks.specs.declared.walk.Tail.{Tail}
use Rattle.log_blocks.specs.declared.walk.Walk.{Walk}
use Rattle.log_blocks.specs.declared.walk.Walk.TheVariants.{Begin, Size, Run, Link, Next, Indirect}
use Rattle.log_blocks.specs.Taking.{with_kept, tail_found}
use Rattle.log_blocks.specs.Walking.{walk_after, walk_measure, begin_measure, begin_after, tail_after, slot_after, front_after, run_after, next_after, indirect_after, keeps_table}

-- the last step of a walk: at the tail, which it has found with this word
pub record IsLastStep (m : Walk) (s : Seat) (f : ℕ) : Type 0 where
  pub begins : m ≡ Begin
  pub ready : s.walk.ready ≡ true
  pub empty : f ≡ EMPTY
  pub seat : (walk_after m s f).seat ≡ tail_found s
  pub some : 1000 ≤ walk_measure m s

slot_never : (seal indirect : Bool) (s : Seat) (f : ℕ) (out : Tail) → (slot_after seal indirect s f).turn ≡ Done out → ⊥
slot_never true indirect s f out done = cc
slot_never false true s f out done = cc
slot_never false false s f out done = cc

front_never : (keeps snapshot : Bool) (s : Seat) (f : ℕ) (out : Tail) → (front_after keeps snapshot s f).turn ≡ Done out → ⊥
front_never true snapshot s f out done = cc
front_never false true s f out done = cc
front_never false false s f out done = cc

run_never : (empty : Bool) (s : Seat) (f : ℕ) (out : Tail) → (run_after empty s f).turn ≡ Done out → ⊥
run_never true s f out done = cc
run_never false s f out done = cc

next_never : (snapshot : Bool) (block : ℕ) (s : Seat) (out : Tail) → (next_after snapshot block s).turn ≡ Done out → ⊥
next_never true block s out done = cc
next_never false block s out done = cc

indirect_never : (more : Bool) (block word : ℕ) (s : Seat) (out : Tail) → (indirect_after more block word s).turn ≡ Done out → ⊥
indirect_never true block word s out done = cc
indirect_never false block word s out done = cc

tail_last : (empty last : Bool) (s : Seat) (f : ℕ) (out : Tail) → (tail_after empty last s f).turn ≡ Done out → (empty ≡ true) × ((tail_after empty last s f).seat ≡ tail_found s)
tail_last true last s f out done = (refl, refl)
tail_last false true s f out done = cc
tail_last false false s f out done = absurd (slot_never (f == SEAL) (field ENTRY_KIND f == INDIRECT) s f out done)

begin_last : (ready : Bool) (s : Seat) (f : ℕ) (out : Tail) → (begin_after ready s f).turn ≡ Done out → (ready ≡ true) × (f ≡ EMPTY) × ((begin_after ready s f).seat ≡ tail_found s) × (1000 ≤ begin_measure ready s)
begin_last true s f out done =
    (let last = tail_last (f == EMPTY) (s.walk.tail_slot == words_of s) s f out done in
    (refl, Rattle.std.proofs.lemmas.Bool.eqb-true f EMPTY last.0, last.1, omega arith))
begin_last false s f out done = absurd (front_never (keeps_table s (field BLOCK_BASE f)) (field BLOCK_KIND f == SNAPSHOT) s f out done)

pub walk_ends : (m : Walk) (s : Seat) (f : ℕ) (out : Tail) → (walk_after m s f).turn ≡ Done out → IsLastStep m s f
walk_ends Begin s f out done = (let last = begin_last s.walk.ready s f out done in record { begins = refl; ready = last.0; empty = last.1; seat = last.2; some = last.3 })
walk_ends (Size base) s f out done = cc
walk_ends Run s f out done = absurd (run_never (f == EMPTY) s f out done)
walk_ends Link s f out done = cc
walk_ends (Next block) s f out done = absurd (next_never (field BLOCK_KIND f == SNAPSHOT) block s out done)
walk_ends (Indirect block word) s f out done = absurd (indirect_never (nat_lt (word + 1) (words_of s)) block word (with_kept s block word f) out done)
