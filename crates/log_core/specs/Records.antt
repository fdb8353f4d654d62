-- The views' records against the history, and what a running call has of it.
use Rattle.std.specs.Prelude.{ℕ, ◌+◌, ◌-◌, ◌*◌, ◌^◌, ◌<◌, ◌≤◌, ◌≡◌, ◌≢◌, ◌==◌, ◌&&◌, nat_lt, Bool, true, false, if◌then◌else◌, List, [], ◌∷◌, length, map, slice_index, Option, Some, None}
use Rattle.std.specs.List.{AllByRecursion}
use Rattle.log_entry.specs.ByteFile.{read}
use Rattle.log_entry.specs.WordBytes.{word_bytes}
use Rattle.log_entry.specs.Legal.{Answers, is_write}
use Rattle.log_entry.specs.declared.calls.CollectRefusal.TheVariants.{Nothing, Overtaken, GenerationLimit}
use Rattle.log_entry.specs.declared.calls.Reply.{Reply}
use Rattle.log_entry.specs.declared.calls.Reply.TheVariants.{Collected, NotCollected}
use Rattle.log_entry.specs.declared.calls.Call.{Call}
use Rattle.log_entry.specs.declared.calls.Op.{Op}
use Rattle.pmem_words.specs.declared.keeps.Task.TheVariants.{Pread, Sync, Collect}
use Rattle.pmem_words.specs.Seats.{Seat, Calling}
use Rattle.persistence.specs.Memory.{Replaced, PendingMark, Cell, index_at, pending_of}
use Rattle.persistence.specs.Survivors.{value_at}
use Rattle.log_image.specs.Chains.{is_listed}
use Rattle.log_core.specs.Views.{MarkedWord, HeadPut, View, view_of, op_in, op_of}
use Rattle.log_core.specs.Origin.{Origin, first_position, first_generation, Generation}
use Rattle.log_core.specs.Files.{Write, write_at, call_of, file_at, end_of}
use Rattle.log_core.specs.Works.{words_of, laid_bytes}
use Rattle.log_core.specs.Order.{nth_generation}

abbrev pub one_if : Bool → ℕ
one_if true = 1
one_if false = 0

-- how many accepted writes of a position are recorded, and whether the running call has put one in that has no record yet
abbrev pub writes_at : ℕ → List Call → ℕ
writes_at position [] = 0
writes_at position (call ∷ calls) = one_if (is_write call.op call.reply && (call.position == position)) + writes_at position calls

abbrev pub running_at : ℕ → Seat → ℕ
running_at position s = one_if (s.calling.won && (s.walk.position == position))

-- each accepted write that a view has recorded is the history's of its position, and so is the one that its running call put in
pub record WritesFit (o : Origin) (history : List Write) (v : View) : Type 0 where
  pub recorded : AllByRecursion (λ (call : Call). is_write call.op call.reply ≡ true →
      (first_position o < call.position) × (call.position ≤ end_of o history) × (call ≡ call_of call.position (write_at o history call.position))) v.done
  pub running : v.seat.calling.won ≡ true →
      (first_position o < v.seat.walk.position) × ((write_at o history v.seat.walk.position).seat ≡ v.seat.number)
      × ((write_at o history v.seat.walk.position).number ≡ v.ghost.call.number) × (op_in v.seat ≡ Some (write_at o history v.seat.walk.position).op)

-- and each write of the history by one of the view's seats is there once, with its record or still running
abbrev pub WritesOnce : Origin → List Write → View → Type 0
WritesOnce o history v =
    v.parts ≢ [] → (position : ℕ) → first_position o < position → position ≤ end_of o history →
    writes_at position v.done + running_at position v.seat ≡ one_if (is_listed v.parts (write_at o history position).seat)

-- in how many views a seat is a part
abbrev pub count_in : List ℕ → ℕ → ℕ
count_in [] seat = 0
count_in (part ∷ parts) seat = one_if (part == seat) + count_in parts seat

abbrev pub parts_with : List View → ℕ → ℕ
parts_with [] seat = 0
parts_with (v ∷ views) seat = count_in v.parts seat + parts_with views seat

-- each seat made is a part of exactly one view, its own one unless that is spent; and each write and each record is of such a seat
pub record SeatsOnce (history : List Write) (views : List View) : Type 0 where
  pub once : (seat : ℕ) → parts_with views seat ≡ one_if (nat_lt seat (length views))
  pub own : (seat : ℕ) → (view_of views seat).parts ≢ [] → is_listed (view_of views seat).parts seat ≡ true
  pub writes : AllByRecursion (λ (w : Write). w.seat < length views) history
  pub records : AllByRecursion (λ (v : View). AllByRecursion (λ (call : Call). is_listed v.parts call.seat ≡ true) v.done) views

-- how often a generation was put in place: by a recorded collection, or by a call that has no record yet
abbrev pub collects : ℕ → Reply → ℕ
collects generation (Collected collected) = one_if (collected.generation == generation)
collects generation _ = 0

abbrev pub collected_in : ℕ → List Call → ℕ
collected_in generation [] = 0
collected_in generation (call ∷ calls) = collects generation call.reply + collected_in generation calls

abbrev pub putting : ℕ → Option HeadPut → ℕ
putting generation None = 0
putting generation (Some put) = one_if (put.generation == generation)

abbrev pub collected_by : ℕ → List View → ℕ
collected_by generation [] = 0
collected_by generation (v ∷ views) = collected_in generation v.done + putting generation v.ghost.call.put + collected_by generation views

-- each generation above the first is one collection's
abbrev pub CollectedOnce : ℕ → ℕ → List View → Type 0
CollectedOnce first current views = (generation : ℕ) → first < generation → generation ≤ current → collected_by generation views ≡ 1

-- the call that put a head in place is at the position of its generation's snapshot, and has taken in nothing since; and there is
-- the generation that a call found at the head instead of its own
pub record HeadFits (o : Origin) (generations : List Generation) (position overtaken : ℕ) (put : Option HeadPut) : Type 0 where
  pub own : (head : HeadPut) → put ≡ Some head →
      (first_generation o < head.generation) × (head.generation < first_generation o + length generations) × (head.base ≡ position)
      × (head.base ≡ (nth_generation generations (head.generation - first_generation o)).base)
  pub found : overtaken < first_generation o + length generations

abbrev pub PutFits : Origin → List Generation → View → Type 0
PutFits o generations v = HeadFits o generations v.seat.walk.position v.ghost.call.overtaken v.ghost.call.put

-- what a collection's reply says of the generations: the one that it put in place, with its snapshot's position; that it stands at a
-- snapshot's position; one that was put in place by another; or that there is the greatest
abbrev pub SaysOfGenerations : Origin → List Generation → ℕ → Reply → Type 0
SaysOfGenerations o generations position (Collected collected) =
    (first_generation o < collected.generation) × (collected.generation < first_generation o + length generations)
    × (position ≡ (nth_generation generations (collected.generation - first_generation o)).base)
SaysOfGenerations o generations position (NotCollected Nothing) = (place : ℕ) × (place < length generations) × (position ≡ (nth_generation generations place).base)
SaysOfGenerations o generations position (NotCollected (Overtaken generation)) =
    (first_generation o < generation) × (generation < first_generation o + length generations)
SaysOfGenerations o generations position (NotCollected GenerationLimit) = first_generation o + length generations ≡ 2 ^ 32
SaysOfGenerations o generations position _ = Unit {0}

-- the position before a record's call
abbrev pub before_call : Call → ℕ
before_call call = if is_write call.op call.reply then call.position - 1 else call.position

-- a record is of a position that there is, has the reply that comes there, and says what is so of the generations
pub record RecordHolds (o : Origin) (history : List Write) (generations : List Generation) (call : Call) : Type 0 where
  pub to_end : call.position ≤ end_of o history
  pub from_first : first_position o ≤ call.position
  pub write_after : is_write call.op call.reply ≡ true → first_position o < call.position
  pub answers : Answers o.geometry.block_bytes (before_call call) (file_at o history (before_call call)) call.op call.reply
  pub of_generations : SaysOfGenerations o generations call.position call.reply

-- the positions of one seat's records never fall, and its numbers rise
abbrev pub NeverFall : ℕ → ℕ → ℕ → List Call → Type 0
NeverFall seat position number [] = Unit {0}
NeverFall seat position number (call ∷ calls) =
    (call.seat ≡ seat → (position ≤ call.position) × (number < call.number))
    × NeverFall seat (if call.seat == seat then call.position else position) (if call.seat == seat then call.number else number) calls

-- the bases of a call: the last one alone may lack words, none is from before the start's position, and while the call runs their bytes
-- are the file's
pub record BasesHold (o : Origin) (history : List Write) (first q position : ℕ) (c : Calling) : Type 0 where
  pub most : length c.base_words ≤ length c.bases * q
  pub whole : (length c.bases - 1) * q ≤ length c.base_words
  pub from_first : c.bases ≢ [] → first ≤ position
  pub bytes : op_of c.job c.bytes ≢ None → (place at : ℕ) → place < length c.bases → at < o.geometry.block_bytes →
      place * o.geometry.block_bytes + at < 8 * length c.base_words →
      slice_index (word_bytes c.base_words) (place * o.geometry.block_bytes + at)
      ≡ slice_index (file_at o history position) (slice_index c.bases place * o.geometry.block_bytes + at)

-- a seat's records have no greater number than its present call, and while that one runs smaller ones; it has a number above 0 then
pub record NumbersFit (seat number : ℕ) (op : Option Op) (done : List Call) : Type 0 where
  pub most : AllByRecursion (λ (call : Call). call.seat ≡ seat → call.number ≤ number) done
  pub runs : op ≢ None → AllByRecursion (λ (call : Call). call.seat ≡ seat → call.number < number) done
  pub some : op ≢ None → 0 < number

-- a running call alone has put in an entry, a collection alone a head, and a sync alone has a position that it will answer
pub record TaskFits (put : Option HeadPut) (c : Calling) : Type 0 where
  pub won_runs : c.won ≡ true → op_of c.job c.bytes ≢ None
  pub put_collects : put ≢ None → c.job ≡ Collect
  pub synced_syncs : c.sync_to ≢ None → c.job ≡ Sync

-- what a running call has: the bytes that a read has laid are those of the file at its position, and so are the bases of a
-- write; and while a snapshot is read nothing is laid, put in or synced
pub record CallHolds (o : Origin) (history : List Write) (v : View) : Type 0 where
  pub laid : (offset count : ℕ) → v.seat.calling.job ≡ Pread offset count →
      v.seat.calling.bytes ≡ read (file_at o history v.seat.walk.position) offset (length v.seat.calling.bytes)
  pub bases : BasesHold o history v.first (words_of v.seat) v.seat.walk.position v.seat.calling
  pub reading : v.seat.walk.reading ≡ true →
      (v.seat.walk.at_tail ≡ false) × (laid_bytes v.seat.calling.job v.seat.calling.bytes ≡ []) × (v.seat.calling.won ≡ false)
      × (v.seat.calling.sync_to ≡ None) × (v.ghost.call.put ≡ None) × (op_in v.seat ≢ None → v.seat.calling.bases ≡ [])
  pub numbers : NumbersFit v.seat.number v.ghost.call.number (op_in v.seat) v.done
  pub task : TaskFits v.ghost.call.put v.seat.calling

-- a view that is at its tail: it has walked, not to before the start's position; and no record of its parts is later, nor is the end
-- at its call's first step
pub record StandsAtTail (first began position block : ℕ) (done : List Call) : Type 0 where
  pub walked : block ≢ 0
  pub from_first : first ≤ position
  pub begun : began ≤ position
  pub records : AllByRecursion (λ (call : Call). call.position ≤ position) done

abbrev pub TailHolds : View → ℕ → Type 0
TailHolds v began = v.seat.walk.at_tail ≡ true → StandsAtTail v.first began v.seat.walk.position v.seat.walk.tail_block v.done

-- the memory's marks of a seat are those that its view has, each of the value found
abbrev pub mark_of : (ℕ → Cell) → List Replaced → PendingMark → MarkedWord
mark_of cells past note = record { word = note.word; value = value_at (cells note.word) (index_at past note.time note.word) }

abbrev pub MarksFit : (ℕ → Cell) → List Replaced → List PendingMark → ℕ → View → Type 0
MarksFit cells past pending seat v = v.ghost.marks ≡ map (mark_of cells past) (pending_of seat pending)
