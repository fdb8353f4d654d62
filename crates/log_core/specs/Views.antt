-- What one seat knows: its state, and what contracts alone see of it.
use Rattle.std.specs.Prelude.{ℕ, ◌<◌, ◌≤◌, refl, List, [], ◌∷◌, slice_index_or, Bool, Option, Some, None}
use Rattle.std.proofs.Common.{arith}
use Rattle.log_entry.specs.Shape.{total_of}
use Rattle.log_entry.specs.declared.shapes.Area.{Area}
use Rattle.log_entry.specs.declared.shapes.Geometry.{Geometry}
use Rattle.log_entry.specs.declared.calls.Op.{Op}
use Rattle.log_entry.specs.declared.calls.Op.TheVariants.{Pwrite as PwriteOp, Append as AppendOp, Pread as PreadOp, Size as SizeOp, Sync as SyncOp, Collect as CollectOp}
use Rattle.log_entry.specs.declared.calls.Call.{Call}
use Rattle.pmem_words.specs.declared.keeps.Task.{Task}
use Rattle.pmem_words.specs.declared.keeps.Task.TheVariants.{Pwrite, Append, Pread, Size, Sync, Collect}
use Rattle.pmem_words.specs.Seats.{Seat, new_seat}

-- an image word that the seat has marked since its last fence, and the value found
pub record MarkedWord : Type 0 where
  pub word : ℕ
  pub value : ℕ

-- a word of an owned block that the seat has stored since it took the block: the value stored last, and whether the word was
-- marked after that
pub record Stored : Type 0 where
  pub word : ℕ
  pub value : ℕ
  pub marked : Bool

-- a head that the present call put in place: its generation and its snapshot's base, how many blocks it replaced, and how many
-- blocks the seat kept from earlier collections then
pub record HeadPut : Type 0 where
  pub generation : ℕ
  pub base : ℕ
  pub replaced : ℕ
  pub limbo : ℕ

-- the present call, as its record needs it: its number among its seat's calls, the areas in which it found too few free blocks,
-- the generation that its exchange of the head found instead of its own (0 for none), and the head that it put in place
pub record RunningCall : Type 0 where
  pub number : ℕ
  pub lacked : List Area
  pub overtaken : ℕ
  pub put : Option HeadPut

-- what contracts alone see of a seat, and its steps change: the words marked since its last fence, the oldest first; the words
-- stored in the blocks that it owns; and the present call
pub record Ghost : Type 0 where
  pub marks : List MarkedWord
  pub stored : List Stored
  pub call : RunningCall

-- a view: the seat's state, with what contracts alone see of it; the position at which the run began; of seat 0, how many seats are
-- made; the records of the calls that have ended; and the seats that are joined into this one, itself among them. A view with no
-- parts is spent
pub record View : Type 0 where
  pub seat : Seat
  pub ghost : Ghost
  pub first : ℕ
  pub made : ℕ
  pub done : List Call
  pub parts : List ℕ

-- no call has begun
abbrev pub no_call : RunningCall
no_call = record { number = 0; lacked = []; overtaken = 0; put = None }

abbrev pub no_ghost : Ghost
no_ghost = record { marks = []; stored = []; call = no_call }

-- the view of a seat that has made no step
abbrev pub new_view : Geometry → ℕ → ℕ → ℕ → ℕ → View
new_view geometry seats position made number = record {
  seat = new_seat geometry number seats position;
  ghost = no_ghost;
  first = position;
  made = made;
  done = [];
  parts = number ∷ [];
}

pub one_block : 0 < 1
one_block = omega arith

pub few : total_of 1 1 64 ≤ 65535
few = omega arith

-- the smallest shape
abbrev pub no_geometry : Geometry
no_geometry = record { data_blocks = 1; log_blocks = 1; block_bytes = 64; block_allowed = refl; some_data = one_block; some_log = one_block; few_blocks = few }

-- a view that was joined into another, or that no seat has: it holds nothing
abbrev pub spent_view : View
spent_view = record {
  seat = new_seat no_geometry 0 0 0;
  ghost = no_ghost;
  first = 0;
  made = 0;
  done = [];
  parts = [];
}

-- the view of a seat
abbrev pub view_of : List View → ℕ → View
view_of views seat = slice_index_or views seat spent_view

-- what the running call asks, by the seat's task and bytes; none where no call runs, or a machine alone
abbrev pub op_of : Task → List ℕ → Option Op
op_of (Pwrite offset) bytes = Some (PwriteOp offset bytes)
op_of Append bytes = Some (AppendOp bytes)
op_of (Pread offset count) bytes = Some (PreadOp offset count)
op_of Size bytes = Some SizeOp
op_of Sync bytes = Some SyncOp
op_of Collect bytes = Some CollectOp
op_of _ bytes = None

abbrev pub op_in : Seat → Option Op
op_in seat = op_of seat.calling.job seat.calling.bytes
