-- When a list of calls is a legal history of one byte file.
use Rattle.std.specs.Prelude.{ℕ, ◌+◌, ◌-◌, ◌*◌, ◌/◌, ◌^◌, ◌≡◌, ◌<◌, ◌==◌, nat_lt, ◌⊎◌, ◌↔◌, Bool, true, false, List, [], ◌∷◌, length, Option, Some, None, IsSome, if◌then◌else◌}
use Rattle.log_entry.specs.ByteFile.{read, write, append}
use Rattle.log_entry.specs.Shape.{longest_of, limit_of}
use Rattle.log_entry.specs.declared.shapes.Area.TheVariants.{Data, Log}
use Rattle.log_entry.specs.declared.calls.Op.{Op}
use Rattle.log_entry.specs.declared.calls.Op.TheVariants.{Pwrite, Append, Pread, Size, Sync, Collect}
use Rattle.log_entry.specs.declared.calls.WriteRefusal.{WriteRefusal}
use Rattle.log_entry.specs.declared.calls.WriteRefusal.TheVariants.{TooLong, TooLarge, NoSpace, PositionLimit}
use Rattle.log_entry.specs.declared.calls.Reply.{Reply}
use Rattle.log_entry.specs.declared.calls.Reply.TheVariants.{Wrote, Appended, NotWritten, Bytes, Size as FileSize, Synced, Collected, NotCollected}
use Rattle.log_entry.specs.declared.calls.Call.{Call}

-- the greatest position that a file may have
abbrev pub last_position : ℕ
last_position = 2 ^ 40 - 1

-- how many blocks a range of at least one byte touches
abbrev pub touched_blocks : ℕ → ℕ → ℕ → ℕ
touched_blocks block_bytes offset count = (offset + count - 1) / block_bytes - offset / block_bytes + 1

-- how many blocks an append is taken to touch: as many as if it began at the last byte of a block
abbrev pub appended_blocks : ℕ → ℕ → ℕ
appended_blocks block_bytes count = (count + 2 * block_bytes - 2) / block_bytes

-- why a write of at least one byte is refused whatever is free, if it is: the first that holds
abbrev pub write_refusal : ℕ → ℕ → ℕ → ℕ → Option WriteRefusal
write_refusal block_bytes position blocks end =
    if nat_lt (longest_of block_bytes) blocks then Some (TooLong blocks)
    else if nat_lt (limit_of block_bytes) end then Some (TooLarge end)
    else if position == last_position then Some PositionLimit
    else None

-- a write that nothing refuses is accepted, or finds no space for data or in the log
abbrev pub AnswersWrite : Option WriteRefusal → Reply → Reply → Type 0
AnswersWrite (Some why) accepted reply = reply ≡ NotWritten why
AnswersWrite None accepted reply = (reply ≡ accepted) ⊎ (reply ≡ NotWritten (NoSpace Data)) ⊎ (reply ≡ NotWritten (NoSpace Log))

-- the reply to a `pwrite`
abbrev pub AnswersPwrite : ℕ → ℕ → ℕ → List ℕ → Reply → Type 0
AnswersPwrite block_bytes position offset [] reply = reply ≡ Wrote 0
AnswersPwrite block_bytes position offset (byte ∷ bytes) reply =
    AnswersWrite (write_refusal block_bytes position (touched_blocks block_bytes offset (length (byte ∷ bytes))) (offset + length (byte ∷ bytes)))
    (Wrote (length (byte ∷ bytes))) reply

-- the reply to an `append` at a file of this length
abbrev pub AnswersAppend : ℕ → ℕ → ℕ → List ℕ → Reply → Type 0
AnswersAppend block_bytes position size [] reply = reply ≡ Appended size 0
AnswersAppend block_bytes position size (byte ∷ bytes) reply =
    AnswersWrite (write_refusal block_bytes position (appended_blocks block_bytes (length (byte ∷ bytes))) (size + length (byte ∷ bytes)))
    (Appended size (length (byte ∷ bytes))) reply

-- the reply to a collection names a pin exactly where it kept blocks
abbrev pub AnswersCollect : Reply → Type 0
AnswersCollect (Collected done) = IsSome done.held ↔ (0 < done.kept)
AnswersCollect (NotCollected why) = Unit {0}
AnswersCollect _ = ⊥

-- the reply that a call has at this position of this file
abbrev pub Answers : ℕ → ℕ → List ℕ → Op → Reply → Type 0
Answers block_bytes position file (Pwrite offset bytes) reply = AnswersPwrite block_bytes position offset bytes reply
Answers block_bytes position file (Append bytes) reply = AnswersAppend block_bytes position (length file) bytes reply
Answers block_bytes position file (Pread offset count) reply = reply ≡ Bytes (read file offset count)
Answers block_bytes position file Size reply = reply ≡ FileSize (length file)
Answers block_bytes position file Sync reply = reply ≡ Synced position
Answers block_bytes position file Collect reply = AnswersCollect reply

-- whether there are bytes
abbrev pub is_some_bytes : List ℕ → Bool
is_some_bytes [] = false
is_some_bytes (byte ∷ bytes) = true

-- whether a call is a write of the history: a `pwrite` or an `append` of at least one byte that was accepted
abbrev pub is_write : Op → Reply → Bool
is_write (Pwrite offset bytes) (Wrote count) = is_some_bytes bytes
is_write (Append bytes) (Appended at count) = is_some_bytes bytes
is_write _ _ = false

-- the file after a call: only a write changes it
abbrev pub file_after : List ℕ → Op → Reply → List ℕ
file_after file (Pwrite offset bytes) (Wrote count) = write file offset bytes
file_after file (Append bytes) (Appended at count) = append file bytes
file_after file _ _ = file

-- the position after a call: a write has the next one, and every other call the present one
abbrev pub position_after : ℕ → Op → Reply → ℕ
position_after position op reply = if is_write op reply then position + 1 else position

-- the file and the position after a list of calls
abbrev pub last_file : List ℕ → List Call → List ℕ
last_file file [] = file
last_file file (call ∷ calls) = last_file (file_after file call.op call.reply) calls

abbrev pub last_position_of : ℕ → List Call → ℕ
last_position_of position [] = position
last_position_of position (call ∷ calls) = last_position_of (position_after position call.op call.reply) calls

-- the calls are a history that starts from this file at this position: each has the reply and the position that come there
abbrev pub Legal : ℕ → List ℕ → ℕ → List Call → Type 0
Legal block_bytes file position [] = Unit {0}
Legal block_bytes file position (call ∷ calls) =
    Answers block_bytes position file call.op call.reply
    × (call.position ≡ position_after position call.op call.reply)
    × Legal block_bytes (file_after file call.op call.reply) (position_after position call.op call.reply) calls
