-- The text of a report: a line for each call, and a last line with the position and the size at the end.
use Rattle.std.specs.Prelude.{ℕ, List, [], ◌∷◌, ◌++◌, length, codes, decimal, Option, None, Some}
use Rattle.log_entry.specs.Text.{bytes_text}
use Rattle.log_entry.specs.declared.shapes.Area.{Area}
use Rattle.log_entry.specs.declared.shapes.Area.TheVariants.{Data, Log, Spare}
use Rattle.log_entry.specs.declared.calls.Op.{Op}
use Rattle.log_entry.specs.declared.calls.Op.TheVariants.{Pwrite, Append, Pread, Size, Sync, Collect}
use Rattle.log_entry.specs.declared.calls.WriteRefusal.{WriteRefusal}
use Rattle.log_entry.specs.declared.calls.WriteRefusal.TheVariants.{TooLong, TooLarge, NoSpace, PositionLimit}
use Rattle.log_entry.specs.declared.calls.CollectRefusal.{CollectRefusal}
use Rattle.log_entry.specs.declared.calls.CollectRefusal.TheVariants.{Nothing, NoSpace as NoSpareSpace, Overtaken, GenerationLimit}
use Rattle.log_entry.specs.declared.calls.Held.{Held}
use Rattle.log_entry.specs.declared.calls.Collected.{Collected as Collection}
use Rattle.log_entry.specs.declared.calls.Reply.{Reply}
use Rattle.log_entry.specs.declared.calls.Reply.TheVariants.{Wrote, Appended, NotWritten, Bytes, Size as FileSize, Synced, Collected, NotCollected}
use Rattle.log_entry.specs.declared.calls.Call.{Call}

-- an area by its name
abbrev pub area_text : Area → List ℕ
area_text Data = codes "data"
area_text Log = codes "log"
area_text Spare = codes "spare"

-- why a write was refused
unfoldable pub write_refusal_text : WriteRefusal → List ℕ
write_refusal_text (TooLong blocks) = codes "TooLong " ++ decimal blocks
write_refusal_text (TooLarge end) = codes "TooLarge " ++ decimal end
write_refusal_text (NoSpace area) = codes "NoSpace " ++ area_text area
write_refusal_text PositionLimit = codes "PositionLimit"

-- why a collection gave back nothing
unfoldable pub collect_refusal_text : CollectRefusal → List ℕ
collect_refusal_text Nothing = codes "Nothing"
collect_refusal_text NoSpareSpace = codes "NoSpace spare"
collect_refusal_text (Overtaken generation) = codes "Overtaken " ++ decimal generation
collect_refusal_text GenerationLimit = codes "GenerationLimit"

-- the pin for which blocks are kept, where there is one
unfoldable pub held_text : Option Held → List ℕ
held_text None = []
held_text (Some held) = codes " pin " ++ (decimal held.seat ++ (codes " at " ++ decimal held.generation))

-- what a collection did
unfoldable pub collection_text : Collection → List ℕ
collection_text done =
    codes "generation " ++ (decimal done.generation ++ (codes " freed " ++ (decimal done.freed ++ (codes " kept " ++ (decimal done.kept ++ held_text done.held)))))

-- what was asked: of bytes that are written their number alone
unfoldable pub operation_text : Op → List ℕ
operation_text (Pwrite offset bytes) = codes "pwrite " ++ (decimal offset ++ (codes " " ++ decimal (length bytes)))
operation_text (Append bytes) = codes "append " ++ decimal (length bytes)
operation_text (Pread offset count) = codes "pread " ++ (decimal offset ++ (codes " " ++ decimal count))
operation_text Size = codes "size"
operation_text Sync = codes "sync"
operation_text Collect = codes "collect"

-- what was answered
unfoldable pub answer_text : Reply → List ℕ
answer_text (Wrote count) = decimal count
answer_text (Appended at count) = decimal count ++ (codes " at " ++ decimal at)
answer_text (NotWritten why) = write_refusal_text why
answer_text (Bytes bytes) = bytes_text bytes
answer_text (FileSize size) = decimal size
answer_text (Synced position) = decimal position
answer_text (Collected done) = collection_text done
answer_text (NotCollected why) = collect_refusal_text why

-- the line of a call
unfoldable pub call_text : Call → List ℕ
call_text call =
    decimal call.position ++ (codes " " ++ (decimal call.seat ++ (codes " " ++ (decimal call.number ++ (codes " " ++ (operation_text call.op ++ (codes " = " ++ (answer_text call.reply ++ codes "\n"))))))))

-- the lines of some calls
abbrev pub calls_text : List Call → List ℕ
calls_text [] = []
calls_text (call ∷ calls) = call_text call ++ calls_text calls

-- the last line
unfoldable pub end_text : ℕ → ℕ → List ℕ
end_text position size = codes "end " ++ (decimal position ++ (codes " " ++ (decimal size ++ codes "\n")))

-- a report
abbrev pub report_text : List Call → ℕ → ℕ → List ℕ
report_text calls position size = calls_text calls ++ end_text position size
