-- Together with what was asked, the text of a report says what was answered.
use Rattle.std.specs.Prelude.{ℕ, ◌^◌, ◌≡◌, ◌<◌, List, Option, Some, None, map}
use Rattle.std.specs.List.{AllByRecursion}
use Rattle.hex.specs.Hex.{IsBytes}
use Rattle.log_entry.specs.Kinds.{HaveKinds}
use Rattle.log_entry.specs.declared.calls.WriteRefusal.{WriteRefusal}
use Rattle.log_entry.specs.declared.calls.WriteRefusal.TheVariants.{TooLong, TooLarge}
use Rattle.log_entry.specs.declared.calls.CollectRefusal.TheVariants.{Overtaken}
use Rattle.log_entry.specs.declared.calls.Held.{Held}
use Rattle.log_entry.specs.declared.calls.Reply.{Reply}
use Rattle.log_entry.specs.declared.calls.Reply.TheVariants.{Wrote, Appended, NotWritten, Bytes, Size as FileSize, Synced, Collected, NotCollected}
use Rattle.log_entry.specs.declared.calls.Call.{Call}
use Rattle.history_report.specs.Report.{report_text}

-- a number has at most 64 decimal digits, as each number of 128 bits has
abbrev pub IsShort : ℕ → Type 0
IsShort number = number < 10 ^ 64

-- so have those of a refusal of a write
abbrev pub HasShortRefusal : WriteRefusal → Type 0
HasShortRefusal (TooLong blocks) = IsShort blocks
HasShortRefusal (TooLarge end) = IsShort end
HasShortRefusal _ = Unit {0}

-- and those of a pin, where there is one
abbrev pub HasShortHeld : Option Held → Type 0
HasShortHeld None = Unit {0}
HasShortHeld (Some held) = IsShort held.seat × IsShort held.generation

-- the numbers of a reply are short, and what it read is bytes
abbrev pub HasShortReply : Reply → Type 0
HasShortReply (Wrote count) = IsShort count
HasShortReply (Appended at count) = IsShort at × IsShort count
HasShortReply (NotWritten why) = HasShortRefusal why
HasShortReply (Bytes bytes) = IsBytes bytes
HasShortReply (FileSize size) = IsShort size
HasShortReply (Synced position) = IsShort position
HasShortReply (Collected done) = IsShort done.generation × IsShort done.freed × IsShort done.kept × HasShortHeld done.held
HasShortReply (NotCollected (Overtaken generation)) = IsShort generation
HasShortReply (NotCollected _) = Unit {0}

-- the numbers of a call are short, as those of every call in a program are
abbrev pub HasShortNumbers : Call → Type 0
HasShortNumbers call = IsShort call.position × IsShort call.seat × IsShort call.number × HasShortReply call.reply

-- two reports of the same operations, in order, with the same text are of the same calls, and have the same numbers at the end
abbrev pub TextFixesCalls : Type 0
TextFixesCalls =
    (first second : List Call) (position size position' size' : ℕ)
    → HaveKinds first → HaveKinds second → AllByRecursion HasShortNumbers first → AllByRecursion HasShortNumbers second
    → IsShort position → IsShort size → IsShort position' → IsShort size'
    → map (λ (call : Call). call.op) first ≡ map (λ (call : Call). call.op) second
    → report_text first position size ≡ report_text second position' size'
    → (first ≡ second) × (position ≡ position') × (size ≡ size')
