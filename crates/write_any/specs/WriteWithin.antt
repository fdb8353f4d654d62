-- Writing whole blocks within a core: when a seat may, and what it has in the end, whatever other seats do meanwhile.
use Rattle.std.specs.Prelude.{ℕ, ◌<◌, ◌≡◌, ◌≢◌, ◌⊎◌, true, false, List, [], slice_index, Option, Some, None}
use Rattle.log_entry.specs.declared.shapes.Area.TheVariants.{Data, Log}
use Rattle.log_entry.specs.declared.calls.WriteRefusal.{WriteRefusal}
use Rattle.log_entry.specs.declared.calls.WriteRefusal.TheVariants.{NoSpace, PositionLimit}
use Rattle.log_entry.specs.Legal.{last_position}
use Rattle.pmem_words.specs.declared.keeps.Task.TheVariants.{Pwrite}
use Rattle.pmem_words.specs.declared.written.Written.{Written}
use Rattle.pmem_words.specs.Seats.{Seat, no_hold, unwalked, no_blocks}
use Rattle.log_core.specs.Views.{Ghost}
use Rattle.log_core.specs.Origin.{Origin}
use Rattle.log_core.specs.Works.{IsFree}
use Rattle.log_core.specs.Answers.{HasLacked}
use Rattle.log_core.specs.Promising.{Promises}
use Rattle.write_any.specs.declared.stage.Target.TheVariants.{At}
use Rattle.write_any.specs.Composing.{IsWhole}
use Rattle.write_any.specs.Writing.{write_of, written, write_script}

-- each of these is a byte
abbrev pub AreBytes : List ℕ → Type 0
AreBytes bytes = (k : ℕ) → slice_index bytes k < 256

-- a seat may write whole blocks: that is its call, it owns no block and has marked nothing, and its call has put in nothing and read nothing
pub record MayWrite (offset : ℕ) (o : Origin) (seat : ℕ) (s : Seat) (g : Ghost) : Type 0 where
  pub number : s.number ≡ seat
  pub job : s.calling.job ≡ Pwrite offset
  pub bytes : AreBytes s.calling.bytes
  pub whole : IsWhole offset s
  pub none_owned : s.blocks.owned ≡ []
  pub no_contents : s.blocks.contents ≡ []
  pub no_bases : s.calling.bases ≡ []
  pub free : IsFree g s.calling
  pub no_marks : g.marks ≡ []

-- a write that nothing refuses has put its entry in. Else the position is the last one, or this call has found each block of an area taken
abbrev pub HasCause : Option WriteRefusal → Seat → Ghost → Type 0
HasCause None s g = s.calling.won ≡ true
HasCause (Some PositionLimit) s g = (s.calling.won ≡ false) × (s.walk.position ≡ last_position)
HasCause (Some (NoSpace area)) s g = (s.calling.won ≡ false) × (s.walk.position ≢ last_position) × ((area ≡ Data) ⊎ (area ≡ Log)) × HasLacked g area
HasCause (Some _) s g = ⊥

-- a seat but for what a write changes of it
abbrev pub unwritten : Seat → Seat
unwritten s = record s {
  hold = no_hold;
  walk = unwalked 0;
  calling = record s.calling { bases = []; base_words = []; lost = 0; won = false; noting = false };
  blocks = no_blocks 0;
}

-- it ends so: the seat has no pin, owns no block and keeps no word. It is at its tail, at this position, has lost so many exchanges, and is
-- else as before; it has marked nothing, and contracts see the same call of it
pub record HasWritten (offset : ℕ) (o : Origin) (seat : ℕ) (s0 : Seat) (g0 : Ghost) (out : Written) (s : Seat) (g : Ghost) : Type 0 where
  pub out_is : out ≡ written (At offset) out.refusal s
  pub cause : HasCause out.refusal s g
  pub unpinned : s.hold.pin ≡ 0
  pub at_tail : s.walk.at_tail ≡ true
  pub none_owned : s.blocks.owned ≡ []
  pub none_kept : s.walk.kept ≡ []
  pub rest : unwritten s ≡ unwritten s0
  pub no_marks : g.marks ≡ []
  pub number : g.call.number ≡ g0.call.number
  pub no_head : g.call.put ≡ None

abbrev pub WritesWhole : Type 0
WritesWhole = (offset : ℕ) → Promises write_script (MayWrite offset) (HasWritten offset) (write_of (At offset))
