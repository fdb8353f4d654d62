-- What a look has seen is what the file has at the position that its outcome names, so its call's record may be added.
use Rattle.std.specs.Prelude.{ℕ, ◌≤◌, ◌≡◌, ◌⊎◌, List, [], length, slice_index, Some}
use Rattle.log_entry.specs.ByteFile.{read}
use Rattle.log_entry.specs.declared.calls.Op.{Op}
use Rattle.log_entry.specs.declared.calls.Op.TheVariants.{Append, Pread, Size as SizeOp}
use Rattle.log_entry.specs.declared.calls.Reply.{Reply}
use Rattle.log_entry.specs.declared.calls.Reply.TheVariants.{Appended, Bytes, Size as FileSize}
use Rattle.log_entry.specs.declared.calls.Call.{Call}
use Rattle.pmem_words.specs.Seats.{Seat}
use Rattle.log_core.specs.Views.{Ghost, view_of, op_in}
use Rattle.log_core.specs.Origin.{Origin, first_position}
use Rattle.log_core.specs.Files.{file_at, end_of}
use Rattle.log_core.specs.Cores.{Core}
use Rattle.log_core.specs.Starts.{IsStart}
use Rattle.log_core.specs.Runs.{IsReached}
use Rattle.log_core.specs.Answers.{MayAdd}
use Rattle.log_core.specs.Within.{no_record, IsLeft}
use Rattle.read_validate.specs.declared.query.Query.{Query}
use Rattle.read_validate.specs.declared.query.Query.TheVariants.{Size, Range}
use Rattle.read_validate.specs.declared.query.Seen.{Seen}
use Rattle.read_validate.specs.LookWithin.{Asks, MayLook, HasLooked}

-- what was asked, of this file: its size; or those of its bytes that it has there, which are the call's, and their count
abbrev pub IsSeenIn : Query → List ℕ → Seen → Seat → Type 0
IsSeenIn Size file out s = out.number ≡ length file
IsSeenIn (Range offset count) file out s = (s.calling.bytes ≡ read file offset count) × (out.number ≡ length s.calling.bytes)

-- the outcome names a position that there is, and none before the end at the call's first step; what was seen is of the file there
pub record HasSeen (query : Query) (o : Origin) (c : Core) (seat : ℕ) (out : Seen) (s : Seat) : Type 0 where
  pub from_first : first_position o ≤ out.position
  pub begun : slice_index c.began seat ≤ out.position
  pub to_end : out.position ≤ end_of o c.history
  pub seen : IsSeenIn query (file_at o c.history out.position) out s

-- so it is in each core that a run reaches in which a look has ended
abbrev pub LooksSee : Type 0
LooksSee = (query : Query) (o : Origin) → IsStart o → (c : Core) → IsReached o c → (seat : ℕ) (rest : List Call) (s0 : Seat) (g0 : Ghost) (out : Seen) (s : Seat) → Asks query s0 →
    IsLeft rest no_record (HasLooked query o seat s0 g0) out s (view_of c.views seat) → HasSeen query o c seat out s

-- the calls that a look answers: a size is asked by a call for it, and by an append of no bytes
abbrev pub IsFor : Query → Op → Type 0
IsFor Size op = (op ≡ SizeOp) ⊎ (op ≡ Append [])
IsFor (Range offset count) op = op ≡ Pread offset count

abbrev pub reply_of : Op → Seen → Seat → Reply
reply_of (Append bytes) out s = Appended out.number 0
reply_of (Pread offset count) out s = Bytes s.calling.bytes
reply_of op out s = FileSize out.number

-- the call's record, by the outcome
abbrev pub record_of : Op → Seen → Seat → Ghost → Call
record_of op out s g = record { position = out.position; seat = s.number; number = g.call.number; op = op; reply = reply_of op out s }

-- it may be added where the look has ended
abbrev pub LooksRecord : Type 0
LooksRecord = (query : Query) (o : Origin) (seat : ℕ) (s0 : Seat) (g0 : Ghost) (op : Op) (out : Seen) (s : Seat) (g : Ghost) → MayLook query o seat s0 g0 → op_in s0 ≡ Some op → IsFor query op →
    HasLooked query o seat s0 g0 out s g → MayAdd g s (record_of op out s g)
