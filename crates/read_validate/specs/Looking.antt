-- What a look means: it is said by what its parts mean.
use Rattle.std.specs.Prelude.{ℕ, ◌+◌, ◌-◌, ◌*◌, ◌^◌, ◌<◌, ◌≡◌, ◌==◌, min, Bool, true, false, length, Option, Some, None}
use Rattle.log_entry.specs.declared.words.Head.{Head}
use Rattle.asks.specs.declared.ask.Ask.{Ask}
use Rattle.pmem_words.specs.Seats.{Seat}
use Rattle.pmem_words.specs.Scripts.{After, Script, Lowers}
use Rattle.pmem_words.specs.Parts.{Next, Into, End, onward}
use Rattle.pmem_words.specs.declared.machine.Turn.TheVariants.{Go, Done}
use Rattle.pins.specs.declared.pin.Pin.TheVariants.{Begin as BeginPin}
use Rattle.pins.specs.Pinning.{pin_script}
use Rattle.pins.specs.Unpinning.{unpin_of, unpin_script}
use Rattle.log_blocks.specs.declared.walk.Tail.{Tail}
use Rattle.log_blocks.specs.declared.walk.Walk.TheVariants.{Begin as BeginWalk}
use Rattle.log_blocks.specs.Walking.{walk_script, whole_log}
use Rattle.read_validate.specs.declared.look.Look.{Look}
use Rattle.read_validate.specs.declared.query.Query.{Query}
use Rattle.read_validate.specs.declared.query.Query.TheVariants.{Size, Range}
use Rattle.read_validate.specs.declared.query.Seen.{Seen}
use Rattle.read_validate.specs.declared.query.Stage.{Stage}
use Rattle.read_validate.specs.declared.query.Stage.TheVariants.{Pinning, Walking, Reading, Unpinning}
use Rattle.read_validate.specs.declared.range.ReadRange.{ReadRange}
use Rattle.read_validate.specs.Ranges.{IsInRange, rest_of, zeros_laid, range_script}

abbrev pub at_stage : Query → Stage → Look
at_stage query stage = record { query = query; stage = stage }

-- a look that has not begun
abbrev pub look_of : Query → Look
look_of query = at_stage query (Pinning BeginPin)

-- how many bytes of a range the file has
abbrev pub count_in : ℕ → ℕ → Seat → ℕ
count_in offset length s = min length (s.walk.size - offset)

-- the outcome
abbrev pub number_of : Query → Seat → ℕ
number_of Size s = s.walk.size
number_of (Range offset count) s = length s.calling.bytes

abbrev pub seen : Query → Seat → Seen
seen query s = record { position = s.walk.position; number = number_of query s }

-- after each part
abbrev pub pinned_so : Query → Head → Seat → Next Look Seen
pinned_so query head s = Into (at_stage query (Walking BeginWalk)) s

abbrev pub reading_so : Query → Option ReadRange → Seat → Next Look Seen
reading_so query None s = Into (at_stage query (Unpinning unpin_of)) s
reading_so query (Some range) s = Into (at_stage query (Reading range)) s

abbrev pub range_by : Bool → Query → ℕ → ℕ → Seat → Next Look Seen
range_by true query offset end s = Into (at_stage query (Unpinning unpin_of)) s
range_by false query offset end s = reading_so query (rest_of end offset s) (zeros_laid end offset s)

abbrev pub walked_so : Query → Seat → Next Look Seen
walked_so Size s = Into (at_stage Size (Unpinning unpin_of)) s
walked_so (Range offset count) s = range_by (count_in offset count s == 0) (Range offset count) offset (offset + count_in offset count s) s

abbrev pub read_so : Query → Unit {0} → Seat → Next Look Seen
read_so query out s = Into (at_stage query (Unpinning unpin_of)) s

abbrev pub unpinned_so : Query → Unit {0} → Seat → Next Look Seen
unpinned_so query out s = End (seen query s) s

abbrev pub stage_asks : Stage → Seat → Ask
stage_asks (Pinning p) s = pin_script.asks p s
stage_asks (Walking p) s = walk_script.asks p s
stage_asks (Reading p) s = range_script.asks p s
stage_asks (Unpinning p) s = unpin_script.asks p s

abbrev pub stage_after : Query → Stage → Seat → ℕ → After Look Seen
stage_after q (Pinning p) s a = onward (λ n. at_stage q (Pinning n)) (pinned_so q) (pin_script.after p s a)
stage_after q (Walking p) s a = onward (λ n. at_stage q (Walking n)) (λ (tail : Tail) (t : Seat). walked_so q t) (walk_script.after p s a)
stage_after q (Reading p) s a = onward (λ n. at_stage q (Reading n)) (read_so q) (range_script.after p s a)
stage_after q (Unpinning p) s a = onward (λ n. at_stage q (Unpinning n)) (unpinned_so q) (unpin_script.after p s a)

-- how far a look is from its end: a range has fewer bytes than 2 ^ 24
abbrev pub stage_measure : Stage → Seat → ℕ
stage_measure (Pinning p) s = pin_script.measure p s + (2 * whole_log + 2) * 2 ^ 24
stage_measure (Walking p) s = walk_script.measure p s * 2 ^ 24
stage_measure (Reading p) s = range_script.measure p s + 1
stage_measure (Unpinning p) s = 0

abbrev pub look_measure : Look → Seat → ℕ
look_measure m s = stage_measure m.stage s

abbrev pub part_admits : Stage → Seat → ℕ → Type 0
part_admits (Pinning p) s a = pin_script.admits p s a
part_admits (Walking p) s a = walk_script.admits p s a
part_admits (Reading p) s a = range_script.admits p s a
part_admits (Unpinning p) s a = unpin_script.admits p s a

-- the range that is asked is one of a file that there may be, with room for its bytes
abbrev pub MayReadAt : Query → Seat → Type 0
MayReadAt Size s = Unit {0}
MayReadAt (Range offset count) s = 0 < count_in offset count s → IsInRange (offset + count_in offset count s) offset s

abbrev pub JointAdmits : Query → Stage → Seat → ℕ → Type 0
JointAdmits q (Walking p) s a = (out : Tail) → (walk_script.after p s a).turn ≡ Done out → MayReadAt q (walk_script.after p s a).seat
JointAdmits q _ s a = Unit {0}

-- what the part admits, what is needed where it has ended; and each step lowers the measure
pub record LookAdmits (m : Look) (s : Seat) (a : ℕ) : Type 0 where
  pub part : part_admits m.stage s a
  pub joint : JointAdmits m.query m.stage s a
  pub falls : (stage_after m.query m.stage s a).turn ≡ Go → look_measure (stage_after m.query m.stage s a).machine (stage_after m.query m.stage s a).seat < look_measure m s

abbrev pub look_script : Script Look Seen
look_script = record {
  asks = λ m s. stage_asks m.stage s;
  admits = LookAdmits;
  after = λ m s a. stage_after m.query m.stage s a;
  measure = look_measure;
}

pub look_lowers : Lowers look_script
look_lowers m s a admits go = admits.falls go
