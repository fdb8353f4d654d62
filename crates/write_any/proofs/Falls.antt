-- Each step of a write lowers its measure.
use Rattle.std.proofs.Common.{◌≡◌, ℕ, ◌+◌, ◌*◌, ◌^◌, ◌<◌, ◌≤◌, ◌==◌, nat_lt, Bool, true, false, length, refl, ap, arith}
use Rattle.log_entry.specs.Legal.{last_position}
use Rattle.log_entry.specs.Fields.{field}
use Rattle.log_entry.specs.declared.layouts.TheConstants.{EMPTY, ENTRY_KIND, INDIRECT, SEAL, BLOCK_BASE, BLOCK_KIND, SNAPSHOT}
use Rattle.log_entry.specs.declared.shapes.Area.TheVariants.{Data, Log}
use Rattle.pmem_words.specs.Seats.{Seat}
use Rattle.pmem_words.specs.Parts.{lowers_onward}
use Rattle.pmem_words.specs.declared.machine.Turn.TheVariants.{Go, Done}
use Rattle.log_core.specs.Works.{words_of}
use Rattle.pins.specs.declared.pin.Pin.{Pin}
use Rattle.pins.specs.Pinning.{pin_script, pin_lowers}
use Rattle.block_bitmap.specs.TakeScript.{take_of, take_script}
use Rattle.log_blocks.specs.declared.walk.Tail.{Tail}
use Rattle.log_blocks.specs.declared.walk.Walk.{Walk}
use Rattle.log_blocks.specs.declared.walk.Walk.TheVariants.{Begin, Size, Run, Link, Next, Indirect}
use Rattle.log_blocks.specs.Walking.{walk_script, walk_after, walk_measure, begin_measure, begin_after, tail_after, slot_after, front_after, run_after, next_after, indirect_after, keeps_table, log_left, rank_by}
use Rattle.log_blocks.specs.Taking.{with_kept}
use Rattle.write_any.specs.declared.stage.Target.{Target}
use Rattle.write_any.specs.declared.stage.Stage.{Stage}
use Rattle.write_any.specs.declared.stage.Stage.TheVariants.{Pinning, Walking}
use Rattle.write_any.specs.Composing.{block_count}
use Rattle.write_any.specs.Writing.{at_stage, pinned_so, walked_so, walked_by, tail_by, stage_measure, stage_after, write_measure}

-- the measure is lower after an answer after which the whole goes on
abbrev pub Falls : Target → Stage → Seat → ℕ → Type 0
Falls t stage s a = (stage_after t stage s a).turn ≡ Go → write_measure (stage_after t stage s a).machine (stage_after t stage s a).seat < stage_measure stage s

pub rank_small : (end first : Bool) → rank_by end first ≤ 2
rank_small true first = omega arith
rank_small false true = omega arith
rank_small false false = omega arith

-- a walk that begins has no more left than a whole log and a snapshot
begin_low : (ready : Bool) (s : Seat) → begin_measure ready s < (2 * Rattle.log_blocks.specs.Walking.whole_log + 2)
begin_low true s = (let few = rank_small (s.walk.tail_slot == words_of s) (s.walk.tail_slot == 3) in omega (arith, few))
begin_low false s = omega arith

pub pin_falls : (t : Target) (p : Pin) (s : Seat) (a : ℕ) → pin_script.admits p s a → Falls t (Pinning p) s a
pin_falls t p s a admits go =
    lowers_onward (λ n. at_stage t (Pinning n)) (pinned_so t) write_measure (stage_measure (Pinning p) s) (pin_script.after p s a)
    (λ g. let falls = pin_lowers p s a admits g in omega (arith, falls))
    (λ head done. let low = begin_low (pin_script.after p s a).seat.walk.ready (pin_script.after p s a).seat in omega (arith, low)) go

-- a walk ends at the tail, with what is left there
slot_never : (seal indirect : Bool) (s : Seat) (f : ℕ) (out : Tail) → (slot_after seal indirect s f).turn ≡ Done out → ⊥
slot_never true indirect s f out done = cc
slot_never false true s f out done = cc
slot_never false false s f out done = cc

tail_done : (empty last : Bool) (s : Seat) (f : ℕ) (out : Tail) → (tail_after empty last s f).turn ≡ Done out → log_left s ≡ log_left (tail_after empty last s f).seat
tail_done true last s f out done = refl
tail_done false true s f out done = cc
tail_done false false s f out done = absurd (slot_never (f == SEAL) (field ENTRY_KIND f == INDIRECT) s f out done)

front_never : (keeps snapshot : Bool) (s : Seat) (f : ℕ) (out : Tail) → (front_after keeps snapshot s f).turn ≡ Done out → ⊥
front_never true snapshot s f out done = cc
front_never false true s f out done = cc
front_never false false s f out done = cc

begin_done : (ready : Bool) (s : Seat) (f : ℕ) (out : Tail) → (begin_after ready s f).turn ≡ Done out → begin_measure ready s ≡ log_left (begin_after ready s f).seat * 1024 + 1000
begin_done true s f out done = ap (λ (n : ℕ). n * 1024 + 1000) (tail_done (f == EMPTY) (s.walk.tail_slot == words_of s) s f out done)
begin_done false s f out done = absurd (front_never (keeps_table s (field BLOCK_BASE f)) (field BLOCK_KIND f == SNAPSHOT) s f out done)

run_never : (empty : Bool) (s : Seat) (f : ℕ) (out : Tail) → (run_after empty s f).turn ≡ Done out → ⊥
run_never true s f out done = cc
run_never false s f out done = cc

next_never : (snapshot : Bool) (block : ℕ) (s : Seat) (out : Tail) → (next_after snapshot block s).turn ≡ Done out → ⊥
next_never true block s out done = cc
next_never false block s out done = cc

indirect_never : (more : Bool) (block word : ℕ) (s : Seat) (out : Tail) → (indirect_after more block word s).turn ≡ Done out → ⊥
indirect_never true block word s out done = cc
indirect_never false block word s out done = cc

pub walk_done : (p : Walk) (s : Seat) (f : ℕ) (out : Tail) → (walk_after p s f).turn ≡ Done out → walk_measure p s ≡ log_left (walk_after p s f).seat * 1024 + 1000
walk_done Begin s f out done = begin_done s.walk.ready s f out done
walk_done (Size base) s f out done = cc
walk_done Run s f out done = absurd (run_never (f == EMPTY) s f out done)
walk_done Link s f out done = cc
walk_done (Next block) s f out done = absurd (next_never (field BLOCK_KIND f == SNAPSHOT) block s out done)
walk_done (Indirect block word) s f out done = absurd (indirect_never (nat_lt (word + 1) (words_of s)) block word (with_kept s block word f) out done)

-- a pass has at most so many steps
pub data_low : (n : ℕ) (s : Seat) → take_script.measure (take_of Data n) s < 2 ^ 17
data_low n s = (let few = s.geometry.few_blocks in omega (arith, few))

pub log_low : (n : ℕ) (s : Seat) → take_script.measure (take_of Log n) s < 2 ^ 17
log_low n s = (let few = s.geometry.few_blocks in omega (arith, few))

pub walk_falls : (t : Target) (p : Walk) (s : Seat) (a : ℕ) → walk_script.admits p s a → Falls t (Walking p) s a
walk_falls t p s a admits go =
    lowers_onward (λ n. at_stage t (Walking n)) (walked_so t) write_measure (stage_measure (Walking p) s) (walk_script.after p s a)
    (λ g. let falls = admits.falls g in omega (arith, falls))
    (λ out done. by (walk_done p s a out done) ((walk_script.after p s a).seat.walk.position == last_position) (length (walk_script.after p s a).seat.blocks.owned == 0)) go
  where
    u : Seat
    u = (walk_script.after p s a).seat

    at_end : walk_measure p s ≡ log_left u * 1024 + 1000 → (end : Bool) → stage_measure (tail_by end t u) u < walk_measure p s * 2 ^ 24
    at_end is true = (let low = log_low 1 u in omega (arith, is, low))
    at_end is false = omega (arith, is)

    by : walk_measure p s ≡ log_left u * 1024 + 1000 → (limit first : Bool) → stage_measure (walked_by limit first t u) u < walk_measure p s * 2 ^ 24
    by is true first = omega (arith, is)
    by is false true = (let low = data_low (block_count u) u in omega (arith, is, low))
    by is false false = at_end is (u.walk.tail_slot == words_of u)
