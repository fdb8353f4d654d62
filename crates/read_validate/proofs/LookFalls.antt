-- Each step of a look lowers its measure.
use Rattle.std.proofs.Common.{◌≡◌, ℕ, ◌+◌, ◌*◌, ◌^◌, ◌<◌, ◌≤◌, ◌==◌, Bool, true, false, refl, arith}
use Rattle.std.proofs.lemmas.Bool.{eqb-false}
use Rattle.pmem_words.specs.Seats.{Seat}
use Rattle.pmem_words.specs.Parts.{LowersOn, lowers_onward}
use Rattle.pmem_words.specs.declared.machine.Turn.TheVariants.{Go}
use Rattle.log_core.specs.Works.{words_of}
use Rattle.pins.specs.declared.pin.Pin.{Pin}
use Rattle.pins.specs.declared.unpin.Unpin.{Unpin}
use Rattle.pins.specs.Pinning.{pin_script, pin_lowers}
use Rattle.log_blocks.specs.declared.walk.Tail.{Tail}
use Rattle.log_blocks.specs.declared.walk.Walk.{Walk}
use Rattle.log_blocks.specs.Walking.{walk_script, begin_measure, rank_by, whole_log}
use Rattle.read_validate.specs.declared.query.Query.{Query}
use Rattle.read_validate.specs.declared.query.Query.TheVariants.{Size, Range}
use Rattle.read_validate.specs.declared.query.Stage.{Stage}
use Rattle.read_validate.specs.declared.query.Stage.TheVariants.{Pinning, Walking, Reading, Unpinning}
use Rattle.read_validate.specs.declared.range.ReadRange.{ReadRange}
use Rattle.read_validate.specs.Looking.{at_stage, count_in, pinned_so, walked_so, range_by, reading_so, read_so, stage_measure, stage_after, look_measure, MayReadAt, JointAdmits}
use Rattle.read_validate.specs.Ranges.{IsInRange, next_mapped, reading_at, zeros_laid, range_script}
use Rattle.read_validate.specs.RangeLowering.{range_lowers}
use Rattle.read_validate.proofs.NextMapped.{next_at_least}
use Rattle.read_validate.proofs.WalkEnds.{walk_ends}

-- the measure is lower after an answer after which the look goes on
abbrev pub Falls : Query → Stage → Seat → ℕ → Type 0
Falls q stage s a = (stage_after q stage s a).turn ≡ Go → look_measure (stage_after q stage s a).machine (stage_after q stage s a).seat < stage_measure stage s

rank_small : (end first : Bool) → rank_by end first ≤ 2
rank_small true first = omega arith
rank_small false true = omega arith
rank_small false false = omega arith

-- a walk that begins has no more left than a whole log and a snapshot
begin_low : (ready : Bool) (s : Seat) → begin_measure ready s < 2 * whole_log + 2
begin_low true s = (let few = rank_small (s.walk.tail_slot == words_of s) (s.walk.tail_slot == 3) in omega (arith, few))
begin_low false s = omega arith

pub pin_falls : (q : Query) (p : Pin) (s : Seat) (a : ℕ) → pin_script.admits p s a → Falls q (Pinning p) s a
pin_falls q p s a admits go =
    lowers_onward (λ n. at_stage q (Pinning n)) (pinned_so q) look_measure (stage_measure (Pinning p) s) (pin_script.after p s a)
    (λ g. let falls = pin_lowers p s a admits g in omega (arith, falls))
    (λ head done. let low = begin_low (pin_script.after p s a).seat.walk.ready (pin_script.after p s a).seat in omega (arith, low)) go

-- a range that is asked has fewer bytes than a step of a walk counts
reading_low : (query : Query) (end place : ℕ) (s : Seat) (bound : ℕ) → 2 ^ 24 ≤ bound → IsInRange end place s → (b : Bool) → LowersOn look_measure bound (reading_so query (reading_at b end (next_mapped end place s) s) (zeros_laid end place s))
reading_low query end place s bound wide inside true = omega (arith, wide)
reading_low query end place s bound wide inside false = (let least = next_at_least end place s inside.upto in let room = inside.room in omega (arith, wide, least, room))

range_low : (offset count : ℕ) (s : Seat) (bound : ℕ) → 2 ^ 24 ≤ bound → MayReadAt (Range offset count) s → (none : Bool) → (count_in offset count s == 0) ≡ none →
    LowersOn look_measure bound (range_by none (Range offset count) offset (offset + count_in offset count s) s)
range_low offset count s bound wide may true is = omega (arith, wide)
range_low offset count s bound wide may false is =
    reading_low (Range offset count) (offset + count_in offset count s) offset s bound wide
    (may (let other = eqb-false (count_in offset count s) 0 is in omega (arith, other)))
    (next_mapped (offset + count_in offset count s) offset s == offset + count_in offset count s)

walked_low : (q : Query) (s : Seat) (bound : ℕ) → 2 ^ 24 ≤ bound → MayReadAt q s → LowersOn look_measure bound (walked_so q s)
walked_low Size s bound wide may = omega (arith, wide)
walked_low (Range offset count) s bound wide may = range_low offset count s bound wide may (count_in offset count s == 0) refl

pub walk_falls : (q : Query) (p : Walk) (s : Seat) (a : ℕ) → walk_script.admits p s a → JointAdmits q (Walking p) s a → Falls q (Walking p) s a
walk_falls q p s a admits joint go =
    lowers_onward (λ n. at_stage q (Walking n)) (λ (tail : Tail) (t : Seat). walked_so q t) look_measure (stage_measure (Walking p) s) (walk_script.after p s a)
    (λ g. let falls = admits.falls g in omega (arith, falls))
    (λ out done. walked_low q (walk_script.after p s a).seat (stage_measure (Walking p) s) (let some = (walk_ends p s a out done).some in omega (arith, some)) (joint out done)) go

pub range_falls : (q : Query) (p : ReadRange) (s : Seat) (a : ℕ) → range_script.admits p s a → Falls q (Reading p) s a
range_falls q p s a admits go =
    lowers_onward (λ n. at_stage q (Reading n)) (read_so q) look_measure (stage_measure (Reading p) s) (range_script.after p s a)
    (λ g. let falls = range_lowers p s a admits g in omega (arith, falls))
    (λ out done. omega arith) go

pub unpin_falls : (q : Query) (p : Unpin) (s : Seat) (a : ℕ) → Falls q (Unpinning p) s a
unpin_falls q p s a go = cc
