-- A look at the file within a core: when a seat may look, and what it has seen in the end, whatever other seats do meanwhile.
use Rattle.std.specs.Prelude.{ℕ, ◌≤◌, ◌≡◌, ◌≢◌, true, false, [], length}
use Rattle.pmem_words.specs.declared.keeps.Task.TheVariants.{Pread, Sync}
use Rattle.pmem_words.specs.declared.TheConstants.{JOB_BYTES}
use Rattle.pmem_words.specs.Seats.{Seat, no_hold, unwalked}
use Rattle.log_core.specs.Views.{Ghost}
use Rattle.log_core.specs.Origin.{Origin}
use Rattle.log_core.specs.Works.{IsFree}
use Rattle.log_core.specs.Promising.{Promises}
use Rattle.read_validate.specs.declared.query.Query.{Query}
use Rattle.read_validate.specs.declared.query.Query.TheVariants.{Size, Range}
use Rattle.read_validate.specs.declared.query.Seen.{Seen}
use Rattle.read_validate.specs.Looking.{count_in, look_of, look_script, seen}

-- the seat's call asks this: a range is read by a call of its own, which has laid no byte yet; any call but a sync may ask for the size
abbrev pub Asks : Query → Seat → Type 0
Asks Size s = s.calling.job ≢ Sync
Asks (Range offset count) s = (s.calling.job ≡ Pread offset count) × (s.calling.bytes ≡ []) × (count ≤ JOB_BYTES)

-- a seat may look: its call asks this, and has put in nothing and read nothing
pub record MayLook (query : Query) (o : Origin) (seat : ℕ) (s : Seat) (g : Ghost) : Type 0 where
  pub number : s.number ≡ seat
  pub asks : Asks query s
  pub no_bases : s.calling.bases ≡ []
  pub free : IsFree g s.calling

-- what it has read: of a range all bytes that the file has there
abbrev pub HasRead : Query → Seat → Seat → Type 0
HasRead Size s0 s = s.calling.bytes ≡ s0.calling.bytes
HasRead (Range offset count) s0 s = length s.calling.bytes ≡ count_in offset count s

-- a seat but for what a look changes of it
abbrev pub unlooked : Seat → Seat
unlooked s = record s {
  hold = no_hold;
  walk = unwalked 0;
  calling = record s.calling { bytes = []; bases = []; base_words = []; noting = false };
  blocks = record s.blocks { named = [] };
}

-- it ends so: the seat has no pin and keeps no word, stands at its tail, has read what was asked, and is else as before; contracts see the same of it
pub record HasLooked (query : Query) (o : Origin) (seat : ℕ) (s0 : Seat) (g0 : Ghost) (out : Seen) (s : Seat) (g : Ghost) : Type 0 where
  pub out_is : out ≡ seen query s
  pub read : HasRead query s0 s
  pub unpinned : s.hold.pin ≡ 0
  pub at_tail : s.walk.at_tail ≡ true
  pub none_kept : s.walk.kept ≡ []
  pub rest : unlooked s ≡ unlooked s0
  pub ghost : g ≡ g0

abbrev pub LooksWithin : Type 0
LooksWithin = (query : Query) → Promises look_script (MayLook query) (HasLooked query) (look_of query)
