-- Worked calls: a list that the definitions allow, or one that they refuse.
use Rattle.std.specs.Prelude.{ℕ, ◌-◌, ◌^◌, ◌≡◌, [], ◌∷◌, replicate, None, codes}
use Rattle.std.specs.declared.cmp.Ordering.TheVariants.{Less, Greater}
use Rattle.log_entry.specs.Legal.{Legal, Answers, write_refusal, touched_blocks}
use Rattle.log_entry.specs.OfTrace.{OfTrace, OfTracePart}
use Rattle.log_entry.specs.Order.{place_of, place_cmp}
use Rattle.log_entry.specs.declared.shapes.Area.TheVariants.{Data, Spare}
use Rattle.log_entry.specs.declared.calls.Op.{Op}
use Rattle.log_entry.specs.declared.calls.Op.TheVariants.{Pwrite, Append, Pread, Size, Sync}
use Rattle.log_entry.specs.declared.calls.WriteRefusal.TheVariants.{TooLong, TooLarge, NoSpace, PositionLimit}
use Rattle.log_entry.specs.declared.calls.Reply.{Reply}
use Rattle.log_entry.specs.declared.calls.Reply.TheVariants.{Wrote, Appended, NotWritten, Bytes, Size as FileSize, Synced}
use Rattle.log_entry.specs.declared.calls.Call.{Call}
use Rattle.log_entry.specs.declared.calls.Job.{Job}

-- a record of seat 0
abbrev pub at : ℕ → ℕ → Op → Reply → Call
at position number op reply = record { position = position; seat = 0; number = number; op = op; reply = reply }

-- a call that the trace asks of seat 0, on the line of its number
abbrev pub asks : ℕ → Op → Job
asks number op = record { line = number; seat = 0; number = number; op = op }

-- three bytes, and a read of ten that meets the end
abbrev pub WrittenAndRead : Type 0
WrittenAndRead = Legal 64 [] 0 (at 1 1 (Pwrite 0 (codes "abc")) (Wrote 3) ∷ at 1 2 (Pread 0 10) (Bytes (codes "abc")) ∷ [])

-- four bytes at 62, which touch two blocks; what lies before them reads as 0
abbrev pub WrittenAcrossBlocks : Type 0
WrittenAcrossBlocks =
    (touched_blocks 64 62 4 ≡ 2)
    × Legal 64 [] 0 (at 1 1 (Pwrite 62 (170 ∷ 187 ∷ 204 ∷ 221 ∷ [])) (Wrote 4) ∷ at 1 2 (Pread 60 8) (Bytes (0 ∷ 0 ∷ 170 ∷ 187 ∷ 204 ∷ 221 ∷ [])) ∷ at 1 3 Size (FileSize 66) ∷ [])

-- a byte at 100, and a read that begins in the gap
abbrev pub ReadPastGap : Type 0
ReadPastGap = Legal 64 [] 0 (at 1 1 (Pwrite 100 (255 ∷ [])) (Wrote 1) ∷ at 1 2 (Pread 98 3) (Bytes (0 ∷ 0 ∷ 255 ∷ [])) ∷ at 1 3 (Pread 101 1) (Bytes []) ∷ [])

-- no bytes at 5 write nothing, not even zeros
abbrev pub NoBytes : Type 0
NoBytes = Legal 64 [] 0 (at 0 1 (Pwrite 5 []) (Wrote 0) ∷ at 0 2 (Pread 0 4) (Bytes []) ∷ at 0 3 (Append []) (Appended 0 0) ∷ at 0 4 Sync (Synced 0) ∷ [])

-- with blocks of 64 bytes a write touches at most 7: 448 bytes at 0 do, 449 bytes at 0 and 448 bytes at 1 touch 8
abbrev pub TooManyBlocks : Type 0
TooManyBlocks =
    (write_refusal 64 0 (touched_blocks 64 0 448) 448 ≡ None)
    × (touched_blocks 64 0 449 ≡ 8) × (touched_blocks 64 1 448 ≡ 8)
    × AnswersToLong (NotWritten (TooLong 8))
  where
    AnswersToLong : Reply → Type 0
    AnswersToLong reply = Answers 64 1 [] (Pwrite 1 (replicate 448 0)) reply

-- the file has at most 65,536 blocks: the last byte of the last is within, and one more is past the limit
abbrev pub PastLimit : Type 0
PastLimit =
    (write_refusal 64 0 (touched_blocks 64 4194303 1) 4194304 ≡ None)
    × Answers 64 1 [] (Pwrite 4194303 (170 ∷ 187 ∷ [])) (NotWritten (TooLarge 4194305))

-- the greatest position refuses every write that nothing refuses before
abbrev pub LastPosition : Type 0
LastPosition = Answers 64 (2 ^ 40 - 1) [] (Append (170 ∷ [])) (NotWritten PositionLimit)

-- want of space for data or in the log may refuse a write; want of spare blocks may not
abbrev pub NoSpaceAllowed : Type 0
NoSpaceAllowed = Answers 64 0 [] (Append (170 ∷ [])) (NotWritten (NoSpace Data)) × (Answers 64 0 [] (Append (170 ∷ [])) (NotWritten (NoSpace Spare)) → ⊥)

-- a refused write has the present position and changes nothing
abbrev pub RefusedIsNoWrite : Type 0
RefusedIsNoWrite = Legal 64 [] 0 (at 0 1 (Append (170 ∷ [])) (NotWritten (NoSpace Data)) ∷ at 0 2 Size (FileSize 0) ∷ at 1 3 (Append (170 ∷ [])) (Appended 0 1) ∷ [])

-- no write is refused as too large that is not
abbrev pub RefusedWithoutCause : Type 0
RefusedWithoutCause = Answers 64 0 [] (Pwrite 0 (170 ∷ [])) (NotWritten (TooLarge 1)) → ⊥

-- a read gives no other bytes
abbrev pub WrongBytes : Type 0
WrongBytes = Legal 64 (codes "abc") 1 (at 1 1 (Pread 0 2) (Bytes (codes "ac")) ∷ []) → ⊥

-- a write has the next position
abbrev pub WrongPosition : Type 0
WrongPosition = Legal 64 [] 0 (at 0 1 (Pwrite 0 (170 ∷ [])) (Wrote 1) ∷ []) → ⊥

-- two calls of the trace, in its order
abbrev pub EachSeatInOrder : Type 0
EachSeatInOrder = OfTrace (at 0 1 Size (FileSize 0) ∷ at 0 2 Sync (Synced 0) ∷ []) (asks 1 Size ∷ asks 2 Sync ∷ [])

-- a call that is printed twice is not the trace's
abbrev pub CallTwice : Type 0
CallTwice = OfTrace (at 0 1 Size (FileSize 0) ∷ at 0 1 Size (FileSize 0) ∷ []) (asks 1 Size ∷ []) → ⊥

-- the first of two calls of the trace is a part of it; the second alone is not, and the first is not the whole
abbrev pub PartOfTrace : Type 0
PartOfTrace =
    OfTracePart (at 0 1 Size (FileSize 0) ∷ []) (asks 1 Size ∷ asks 2 Sync ∷ [])
    × (OfTracePart (at 0 2 Sync (Synced 0) ∷ []) (asks 1 Size ∷ asks 2 Sync ∷ []) → ⊥)
    × (OfTrace (at 0 1 Size (FileSize 0) ∷ []) (asks 1 Size ∷ asks 2 Sync ∷ []) → ⊥)

-- at one position the write goes before a call with a smaller number
abbrev pub WriteGoesFirst : Type 0
WriteGoesFirst =
    (place_cmp (place_of (at 1 2 (Append (170 ∷ [])) (Appended 0 1))) (place_of (at 1 1 Size (FileSize 1))) ≡ Less)
    × (place_cmp (place_of (at 1 2 (Append (170 ∷ [])) (NotWritten PositionLimit))) (place_of (at 1 1 Size (FileSize 1))) ≡ Greater)
