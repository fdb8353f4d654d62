-- What a write means: it is said by what its parts mean.
use Rattle.std.specs.Prelude.{ℕ, ◌+◌, ◌*◌, ◌^◌, ◌<◌, ◌≡◌, ◌==◌, Bool, true, false, length, Option, Some, None}
use Rattle.log_entry.specs.declared.shapes.Area.TheVariants.{Data, Log}
use Rattle.log_entry.specs.Legal.{last_position}
use Rattle.log_entry.specs.declared.words.Head.{Head}
use Rattle.log_entry.specs.declared.calls.WriteRefusal.{WriteRefusal}
use Rattle.log_entry.specs.declared.calls.WriteRefusal.TheVariants.{NoSpace as RefusesSpace, PositionLimit}
use Rattle.asks.specs.declared.ask.Ask.{Ask}
use Rattle.pmem_words.specs.Seats.{Seat}
use Rattle.pmem_words.specs.Scripts.{After, Script, Lowers}
use Rattle.pmem_words.specs.Parts.{Next, Into, End, onward}
use Rattle.pmem_words.specs.declared.written.Written.{Written}
use Rattle.pmem_words.specs.declared.machine.Turn.TheVariants.{Go, Done}
use Rattle.log_core.specs.Works.{words_of}
use Rattle.pins.specs.declared.pin.Pin.TheVariants.{Begin as BeginPin}
use Rattle.pins.specs.Pinning.{pin_script}
use Rattle.pins.specs.Unpinning.{unpin_of, unpin_script}
use Rattle.block_bitmap.specs.declared.take.Taken.{Taken}
use Rattle.block_bitmap.specs.declared.take.Taken.TheVariants.{Taken as HasTaken, NoSpace}
use Rattle.block_bitmap.specs.declared.give.GiveFrom.TheVariants.{Owned}
use Rattle.block_bitmap.specs.TakeScript.{take_of, take_script}
use Rattle.block_bitmap.specs.Filling.{fill_of, fill_script}
use Rattle.block_bitmap.specs.Giving.{give_of, give_script}
use Rattle.log_blocks.specs.declared.walk.Tail.{Tail}
use Rattle.log_blocks.specs.declared.walk.Walk.TheVariants.{Begin as BeginWalk}
use Rattle.log_blocks.specs.declared.grow.Grown.{Grown}
use Rattle.log_blocks.specs.declared.grow.Grown.TheVariants.{Linked, Overtaken as OvertakenBy}
use Rattle.log_blocks.specs.declared.offer.Offered.{Offered}
use Rattle.log_blocks.specs.declared.offer.Offered.TheVariants.{Committed, Overtaken}
use Rattle.log_blocks.specs.Walking.{walk_from, walk_script, log_left, whole_log}
use Rattle.log_blocks.specs.Growing.{grow_of, grow_script}
use Rattle.log_blocks.specs.Offering.{offer_of, offer_script}
use Rattle.write_any.specs.declared.stage.Target.{Target}
use Rattle.write_any.specs.declared.stage.Target.TheVariants.{At}
use Rattle.write_any.specs.declared.stage.Stage.{Stage}
use Rattle.write_any.specs.declared.stage.Stage.TheVariants.{Pinning, Walking, Taking, TakingRuns, Filling, TakingLog, FillingLog, Growing, GivingLog, Offering, Unpinning, Giving}
use Rattle.write_any.specs.declared.write.Write.{Write}
use Rattle.write_any.specs.GivingOne.{give_one_of, give_one_script}
use Rattle.write_any.specs.Composing.{block_count, IsWhole, HasBlocks, HasLast, are_one_run, composed, last_place, last_block, log_composed, entry_for}

-- the byte of the file at which a write begins
abbrev pub offset_of : Target → ℕ
offset_of (At offset) = offset

abbrev pub at_stage : Target → Stage → Write
at_stage target stage = record { target = target; stage = stage }

-- a write that has not begun
abbrev pub write_of : Target → Write
write_of target = at_stage target (Pinning BeginPin)

-- how it goes on from the tail, and once it is done or refused
abbrev pub tail_by : Bool → Target → Seat → Stage
tail_by true target s = TakingLog (take_of Log 1)
tail_by false target s = Offering (offer_of (entry_for (offset_of target) s))

abbrev pub tail_stage : Target → Seat → Stage
tail_stage target s = tail_by (s.walk.tail_slot == words_of s) target s

abbrev pub ended : Option WriteRefusal → Stage
ended refusal = Unpinning refusal unpin_of

abbrev pub written : Target → Option WriteRefusal → Seat → Written
written target refusal s = record { position = s.walk.position; at = offset_of target; lost = s.calling.lost; refusal = refusal }

-- after each part
abbrev pub pinned_so : Target → Head → Seat → Next Write Written
pinned_so target head s = Into (at_stage target (Walking BeginWalk)) s

abbrev pub walked_by : Bool → Bool → Target → Seat → Stage
walked_by true first target s = ended (Some PositionLimit)
walked_by false true target s = Taking (take_of Data (block_count s))
walked_by false false target s = tail_stage target s

abbrev pub walked_so : Target → Tail → Seat → Next Write Written
walked_so target tail s = Into (at_stage target (walked_by (s.walk.position == last_position) (length s.blocks.owned == 0) target s)) s

abbrev pub filling : Seat → Stage
filling s = Filling (fill_of 0 (length s.blocks.owned))

abbrev pub taken_stage : Bool → Seat → Stage
taken_stage true s = filling s
taken_stage false s = TakingRuns (take_of Data 1)

abbrev pub taken_seat : Bool → Target → Seat → Seat
taken_seat true target s = composed (offset_of target) s
taken_seat false target s = s

abbrev pub taken_so : Target → Taken → Seat → Next Write Written
taken_so target HasTaken s =
    Into (at_stage target (taken_stage (are_one_run s.blocks.owned) s)) (taken_seat (are_one_run s.blocks.owned) target s)
taken_so target (NoSpace area) s = Into (at_stage target (ended (Some (RefusesSpace area)))) s

abbrev pub taken_runs_so : Target → Taken → Seat → Next Write Written
taken_runs_so target HasTaken s = Into (at_stage target (filling s)) (composed (offset_of target) s)
taken_runs_so target (NoSpace area) s = Into (at_stage target (ended (Some (RefusesSpace area)))) s

abbrev pub filled_so : Target → Unit {0} → Seat → Next Write Written
filled_so target out s = Into (at_stage target (tail_stage target s)) s

abbrev pub taken_log_so : Target → Taken → Seat → Next Write Written
taken_log_so target HasTaken s = Into (at_stage target (FillingLog (fill_of (last_place s) 1))) (log_composed s)
taken_log_so target (NoSpace area) s = Into (at_stage target (ended (Some (RefusesSpace area)))) s

abbrev pub filled_log_so : Target → Unit {0} → Seat → Next Write Written
filled_log_so target out s = Into (at_stage target (Growing (grow_of (last_block s)))) s

abbrev pub grown_so : Target → Grown → Seat → Next Write Written
grown_so target Linked s = Into (at_stage target (Offering (offer_of (entry_for (offset_of target) s)))) s
grown_so target (OvertakenBy block) s = Into (at_stage target (GivingLog (give_one_of (last_block s)))) s

abbrev pub given_log_so : Target → Unit {0} → Seat → Next Write Written
given_log_so target out s = Into (at_stage target (Walking BeginWalk)) s

abbrev pub offered_so : Target → Offered → Seat → Next Write Written
offered_so target (Committed position) s = Into (at_stage target (ended None)) s
offered_so target (Overtaken word) s = Into (at_stage target (Walking (walk_from word))) s

-- where it owns no block it has ended
abbrev pub still_giving : Bool → Option WriteRefusal → Option Stage
still_giving true refusal = None
still_giving false refusal = Some (Giving refusal (give_of Owned))

abbrev pub unpinned_by : Bool → Target → Option WriteRefusal → Seat → Next Write Written
unpinned_by true target refusal s = End (written target refusal s) s
unpinned_by false target refusal s = Into (at_stage target (Giving refusal (give_of Owned))) s

abbrev pub unpinned_so : Target → Option WriteRefusal → Unit {0} → Seat → Next Write Written
unpinned_so target refusal out s = unpinned_by (length s.blocks.owned == 0) target refusal s

abbrev pub given_so : Target → Option WriteRefusal → ℕ → Seat → Next Write Written
given_so target refusal given s = End (written target refusal s) s

abbrev pub stage_asks : Stage → Seat → Ask
stage_asks (Pinning p) s = pin_script.asks p s
stage_asks (Walking p) s = walk_script.asks p s
stage_asks (Taking p) s = take_script.asks p s
stage_asks (TakingRuns p) s = take_script.asks p s
stage_asks (Filling p) s = fill_script.asks p s
stage_asks (TakingLog p) s = take_script.asks p s
stage_asks (FillingLog p) s = fill_script.asks p s
stage_asks (Growing p) s = grow_script.asks p s
stage_asks (GivingLog p) s = give_one_script.asks p s
stage_asks (Offering p) s = offer_script.asks p s
stage_asks (Unpinning refusal p) s = unpin_script.asks p s
stage_asks (Giving refusal p) s = give_script.asks p s

abbrev pub stage_after : Target → Stage → Seat → ℕ → After Write Written
stage_after t (Pinning p) s a = onward (λ n. at_stage t (Pinning n)) (pinned_so t) (pin_script.after p s a)
stage_after t (Walking p) s a = onward (λ n. at_stage t (Walking n)) (walked_so t) (walk_script.after p s a)
stage_after t (Taking p) s a = onward (λ n. at_stage t (Taking n)) (taken_so t) (take_script.after p s a)
stage_after t (TakingRuns p) s a = onward (λ n. at_stage t (TakingRuns n)) (taken_runs_so t) (take_script.after p s a)
stage_after t (Filling p) s a = onward (λ n. at_stage t (Filling n)) (filled_so t) (fill_script.after p s a)
stage_after t (TakingLog p) s a = onward (λ n. at_stage t (TakingLog n)) (taken_log_so t) (take_script.after p s a)
stage_after t (FillingLog p) s a = onward (λ n. at_stage t (FillingLog n)) (filled_log_so t) (fill_script.after p s a)
stage_after t (Growing p) s a = onward (λ n. at_stage t (Growing n)) (grown_so t) (grow_script.after p s a)
stage_after t (GivingLog p) s a = onward (λ n. at_stage t (GivingLog n)) (given_log_so t) (give_one_script.after p s a)
stage_after t (Offering p) s a = onward (λ n. at_stage t (Offering n)) (offered_so t) (offer_script.after p s a)
stage_after t (Unpinning refusal p) s a = onward (λ n. at_stage t (Unpinning refusal n)) (unpinned_so t refusal) (unpin_script.after p s a)
stage_after t (Giving refusal p) s a = onward (λ n. at_stage t (Giving refusal n)) (given_so t refusal) (give_script.after p s a)

-- how far a write is from its end: rounds by how far the log's end is from the tail, and in a round by its stage. A number of steps of
-- a stage is below 2 ^ 24
abbrev pub round_left : Seat → ℕ
round_left s = log_left s * 1024 * 2 ^ 24 + 999 * 2 ^ 24

abbrev pub stage_measure : Stage → Seat → ℕ
stage_measure (Pinning p) s = pin_script.measure p s + (2 * whole_log + 2) * 2 ^ 24
stage_measure (Walking p) s = walk_script.measure p s * 2 ^ 24
stage_measure (Taking p) s = round_left s + 2 ^ 22 + take_script.measure p s
stage_measure (TakingRuns p) s = round_left s + 2 ^ 21 + take_script.measure p s
stage_measure (Filling p) s = round_left s + 2 ^ 18 + fill_script.measure p s
stage_measure (TakingLog p) s = round_left s + 2 ^ 12 + take_script.measure p s
stage_measure (FillingLog p) s = round_left s + 3 + fill_script.measure p s
stage_measure (Growing p) s = round_left s + 2
stage_measure (GivingLog p) s = round_left s + 2 ^ 24 + 1
stage_measure (Offering p) s = round_left s + 1
stage_measure (Unpinning refusal p) s = 2 ^ 17
stage_measure (Giving refusal p) s = give_script.measure p s

abbrev pub write_measure : Write → Seat → ℕ
write_measure m s = stage_measure m.stage s

-- what the part admits
abbrev pub part_admits : Stage → Seat → ℕ → Type 0
part_admits (Pinning p) s a = pin_script.admits p s a
part_admits (Walking p) s a = walk_script.admits p s a
part_admits (Taking p) s a = take_script.admits p s a
part_admits (TakingRuns p) s a = take_script.admits p s a
part_admits (Filling p) s a = fill_script.admits p s a
part_admits (TakingLog p) s a = take_script.admits p s a
part_admits (FillingLog p) s a = fill_script.admits p s a
part_admits (Growing p) s a = grow_script.admits p s a
part_admits (GivingLog p) s a = give_one_script.admits p s a
part_admits (Offering p) s a = offer_script.admits p s a
part_admits (Unpinning refusal p) s a = unpin_script.admits p s a
part_admits (Giving refusal p) s a = give_script.admits p s a

-- at the tail the seat has no block yet, or one for each virtual block
pub record CanGoOn (offset : ℕ) (s : Seat) : Type 0 where
  pub whole : IsWhole offset s
  pub blocks : 0 < length s.blocks.owned → HasBlocks offset s

-- it has a block that may become the next log block
pub record HasLogBlock (s : Seat) : Type 0 where
  pub last : HasLast s
  pub inside : s.walk.position < 2 ^ 40

-- what is needed where the part has ended
abbrev pub JointAdmits : Target → Stage → Seat → ℕ → Type 0
JointAdmits t (Walking p) s a = (out : Tail) → (walk_script.after p s a).turn ≡ Done out → CanGoOn (offset_of t) (walk_script.after p s a).seat
JointAdmits t (Taking p) s a = (take_script.after p s a).turn ≡ Done HasTaken → HasBlocks (offset_of t) (take_script.after p s a).seat
JointAdmits t (TakingRuns p) s a = (take_script.after p s a).turn ≡ Done HasTaken → HasBlocks (offset_of t) (take_script.after p s a).seat
JointAdmits t (Filling p) s a = (fill_script.after p s a).turn ≡ Done tt → HasBlocks (offset_of t) (fill_script.after p s a).seat
JointAdmits t (TakingLog p) s a = (take_script.after p s a).turn ≡ Done HasTaken → HasLogBlock (take_script.after p s a).seat
JointAdmits t (FillingLog p) s a = (fill_script.after p s a).turn ≡ Done tt → HasLast (fill_script.after p s a).seat
JointAdmits t (Growing p) s a =
    ((grow_script.after p s a).turn ≡ Done Linked → HasBlocks (offset_of t) (grow_script.after p s a).seat)
    × ((block : ℕ) → (grow_script.after p s a).turn ≡ Done (OvertakenBy block) → HasLast (grow_script.after p s a).seat)
JointAdmits t _ s a = Unit {0}

-- and each step lowers the measure
pub record WriteAdmits (m : Write) (s : Seat) (a : ℕ) : Type 0 where
  pub part : part_admits m.stage s a
  pub joint : JointAdmits m.target m.stage s a
  pub falls : (stage_after m.target m.stage s a).turn ≡ Go → write_measure (stage_after m.target m.stage s a).machine (stage_after m.target m.stage s a).seat < write_measure m s

abbrev pub write_script : Script Write Written
write_script = record {
  asks = λ m s. stage_asks m.stage s;
  admits = WriteAdmits;
  after = λ m s a. stage_after m.target m.stage s a;
  measure = write_measure;
}

pub write_lowers : Lowers write_script
write_lowers m s a admits go = admits.falls go
