-- Writing whole blocks where no other seat makes a step: over a memory of one caller that has the words of a core.
use Rattle.std.specs.Prelude.{ℕ, ◌≡◌, List, [], ◌∷◌, ◌++◌, length, Option, Some, None}
use Rattle.log_entry.specs.Legal.{Answers, file_after, position_after}
use Rattle.log_entry.specs.declared.calls.Op.{Op}
use Rattle.log_entry.specs.declared.calls.Op.TheVariants.{Pwrite}
use Rattle.log_entry.specs.declared.calls.Reply.{Reply}
use Rattle.log_entry.specs.declared.calls.Reply.TheVariants.{Wrote, NotWritten}
use Rattle.log_entry.specs.declared.calls.WriteRefusal.{WriteRefusal}
use Rattle.log_image.specs.Stands.{Stands}
use Rattle.log_image.specs.Taken.{bit_of}
use Rattle.asks.specs.SharedWords.{SharedWords}
use Rattle.pmem_words.specs.Courses.{over}
use Rattle.pmem_words.specs.Leads.{Leads}
use Rattle.pmem_words.specs.PlainWords.{plain}
use Rattle.pmem_words.specs.declared.written.Written.{Written}
use Rattle.pmem_words.specs.Seats.{Seat}
use Rattle.log_core.specs.Entries.{LogEntry}
use Rattle.log_core.specs.Views.{Ghost, view_of}
use Rattle.log_core.specs.Origin.{Origin}
use Rattle.log_core.specs.Files.{Write, end_of, file_at}
use Rattle.log_core.specs.Cores.{Core}
use Rattle.log_core.specs.Runs.{IsReached}
use Rattle.log_core.specs.Within.{no_record, IsLeft, Agrees}
use Rattle.log_core.specs.Alone.{IsAlone, ghost_alone}
use Rattle.write_any.specs.declared.stage.Target.TheVariants.{At}
use Rattle.write_any.specs.Writing.{write_of, write_script}
use Rattle.write_any.specs.WriteWithin.{MayWrite, HasWritten}

-- a call of whole blocks begins: it has lost no exchange, and found no block taken
pub record BeginsWrite (offset : ℕ) (o : Origin) (seat : ℕ) (s : Seat) (g : Ghost) : Type 0 where
  pub may : MayWrite offset o seat s g
  pub none_lost : s.calling.lost ≡ 0
  pub none_found : (block : ℕ) → bit_of s.blocks.found block ≡ 0

-- the call, and its reply by how the write ended
abbrev pub op_at : ℕ → Seat → Op
op_at offset s = Pwrite offset s.calling.bytes

abbrev pub reply_by : Option WriteRefusal → ℕ → Reply
reply_by None count = Wrote count
reply_by (Some why) count = NotWritten why

abbrev pub reply_to : Written → Seat → Reply
reply_to out s = reply_by out.refusal (length s.calling.bytes)

-- this write of the seat, at the end of a history, with the entry that it put in
abbrev pub write_at_end : Origin → (seat number offset : ℕ) → Seat → List Write → LogEntry → Write
write_at_end o seat number offset s history entry =
    record { seat = seat; number = number; op = op_at offset s; at = length (file_at o history (end_of o history)); entry = entry }

-- a history has this write more, or is as before where it was refused
abbrev pub HasAdded : Option WriteRefusal → Origin → (seat number offset : ℕ) → Seat → List Write → List Write → Type 0
HasAdded None o seat number offset s before after = (entry : LogEntry) × (after ≡ before ++ write_at_end o seat number offset s before entry ∷ [])
HasAdded (Some why) o seat number offset s before after = after ≡ before

-- what it came to, of a file at a position: the reply is one that comes there, the position is the one after it, and the words stand for the
-- file after it
pub record IsAnswered (offset : ℕ) (s : Seat) (q : SharedWords) (out : Written) (file : List ℕ) (position : ℕ) : Type 0 where
  pub answers : Answers s.geometry.block_bytes position file (op_at offset s) (reply_to out s)
  pub position_is : out.position ≡ position_after position (op_at offset s) (reply_to out s)
  pub stands : Stands q.words (file_after file (op_at offset s) (reply_to out s)) (position_after position (op_at offset s) (reply_to out s))

-- the memory has the words of a core that a run reaches, with this write more in its history, or none where it was refused; the seat has lost
-- no exchange and has written; and so it was answered, of whatever file at whatever position the words stood for
pub record HasWrittenAlone (offset : ℕ) (s : Seat) (p : SharedWords) (at : IsAlone (BeginsWrite offset) s p) (out : Written) (t : Seat) (q : SharedWords) : Type 0 where
  pub core : Core
  pub reached : IsReached at.origin core
  pub agrees : Agrees q core.memory
  pub history : HasAdded out.refusal at.origin at.seat at.number offset s at.core.history core.history
  pub none_lost : out.lost ≡ 0
  pub left : IsLeft at.rest no_record (HasWritten offset at.origin at.seat s (ghost_alone (BeginsWrite offset) s p at)) out t (view_of core.views at.seat)
  pub answered : (file : List ℕ) (position : ℕ) → Stands p.words file position → IsAnswered offset s q out file position

abbrev pub WritesAlone : Type 0
WritesAlone = (offset : ℕ) (s : Seat) (p : SharedWords) (at : IsAlone (BeginsWrite offset) s p) →
    Leads write_script (over write_script plain) (HasWrittenAlone offset s p at) (write_of (At offset)) s p
