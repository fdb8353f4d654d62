-- How many exchanges a write loses, from where it has first found the tail: a bound by how far others move the tail meanwhile.
use Rattle.std.specs.Prelude.{ℕ, ◌+◌, ◌-◌, ◌*◌, ◌≤◌, ◌≡◌, ◌≢◌, Bool, true, false, []}
use Rattle.log_entry.specs.Legal.{last_position}
use Rattle.log_entry.specs.declared.shapes.Area.TheVariants.{Data}
use Rattle.pmem_words.specs.Seats.{Seat}
use Rattle.log_core.specs.Views.{Ghost}
use Rattle.log_core.specs.Origin.{Origin}
use Rattle.log_core.specs.Promising.{Promises}
use Rattle.block_bitmap.specs.TakeScript.{take_of}
use Rattle.write_any.specs.declared.stage.Target.TheVariants.{At}
use Rattle.write_any.specs.declared.stage.Stage.TheVariants.{Taking}
use Rattle.write_any.specs.Composing.{block_count}
use Rattle.write_any.specs.Writing.{at_stage, write_of, write_script}
use Rattle.write_any.specs.WriteWithin.{MayWrite, HasWritten}

-- the position that a seat comes to by the entries of others: with an entry of its own it is one further
abbrev pub others_position : Bool → ℕ → ℕ
others_position true position = position - 1
others_position false position = position

-- a seat that had lost so many exchanges when it stood at the first position has not fallen behind that. It has lost at most two more for
-- each position that others have moved it by since, and one
pub record HasLostFew (first before : ℕ) (s : Seat) : Type 0 where
  pub from : first ≤ others_position s.calling.won s.walk.position
  pub few : s.calling.lost ≤ before + (2 * (others_position s.calling.won s.walk.position - first) + 1)

-- a write has first found the tail, and is to take its blocks
pub record IsAtFirstTail (offset count : ℕ) (o : Origin) (seat : ℕ) (s : Seat) (g : Ghost) : Type 0 where
  pub may : MayWrite offset o seat s g
  pub count_is : block_count s ≡ count
  pub valid : s.hold.valid ≡ true
  pub ready : s.walk.ready ≡ true
  pub at_tail : s.walk.at_tail ≡ true
  pub none_kept : s.walk.kept ≡ []
  pub below : s.walk.position ≢ last_position

-- from there on it ends as a write does, and loses few
abbrev pub LosesFew : Type 0
LosesFew = (offset count : ℕ) →
    Promises write_script (IsAtFirstTail offset count) (λ o seat s0 g0 out s g. HasWritten offset o seat s0 g0 out s g × HasLostFew s0.walk.position s0.calling.lost s) (at_stage (At offset) (Taking (take_of Data count)))

-- a seat whose table was ready, and that finds the same generation, loses few from its first position on
abbrev pub HasLostFewFrom : Seat → Seat → Type 0
HasLostFewFrom s0 s = s0.walk.ready ≡ true → s.hold.generation ≡ s0.hold.generation → HasLostFew s0.walk.position s0.calling.lost s

abbrev pub LosesFewFromBegin : Type 0
LosesFewFromBegin = (offset : ℕ) → Promises write_script (MayWrite offset) (λ o seat s0 g0 out s g. HasWritten offset o seat s0 g0 out s g × HasLostFewFrom s0 s) (write_of (At offset))
