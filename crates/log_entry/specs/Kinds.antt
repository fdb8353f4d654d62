-- Which replies an operation may have, whatever the file is.
use Rattle.std.specs.Prelude.{◌<◌, ◌↔◌, List, IsSome}
use Rattle.std.specs.List.{AllByRecursion}
use Rattle.log_entry.specs.declared.shapes.Area.TheVariants.{Spare}
use Rattle.log_entry.specs.declared.calls.Op.{Op}
use Rattle.log_entry.specs.declared.calls.Op.TheVariants.{Pwrite, Append, Pread, Size, Sync, Collect}
use Rattle.log_entry.specs.declared.calls.WriteRefusal.{WriteRefusal}
use Rattle.log_entry.specs.declared.calls.WriteRefusal.TheVariants.{NoSpace}
use Rattle.log_entry.specs.declared.calls.Reply.{Reply}
use Rattle.log_entry.specs.declared.calls.Reply.TheVariants.{Wrote, Appended, NotWritten, Bytes, Size as FileSize, Synced, Collected, NotCollected}
use Rattle.log_entry.specs.declared.calls.Call.{Call}

-- why a write may be refused: never for want of spare blocks
abbrev pub IsWriteRefusal : WriteRefusal → Type 0
IsWriteRefusal (NoSpace Spare) = ⊥
IsWriteRefusal _ = Unit {0}

-- a reply of a kind that its operation has; a collection names a pin exactly where it kept blocks
abbrev pub IsReplyTo : Op → Reply → Type 0
IsReplyTo (Pwrite offset bytes) (Wrote count) = Unit {0}
IsReplyTo (Pwrite offset bytes) (NotWritten why) = IsWriteRefusal why
IsReplyTo (Append bytes) (Appended at count) = Unit {0}
IsReplyTo (Append bytes) (NotWritten why) = IsWriteRefusal why
IsReplyTo (Pread offset count) (Bytes bytes) = Unit {0}
IsReplyTo Size (FileSize size) = Unit {0}
IsReplyTo Sync (Synced position) = Unit {0}
IsReplyTo Collect (Collected done) = IsSome done.held ↔ (0 < done.kept)
IsReplyTo Collect (NotCollected why) = Unit {0}
IsReplyTo _ _ = ⊥

-- each call has a reply of a kind that its operation has
abbrev pub HaveKinds : List Call → Type 0
HaveKinds calls = AllByRecursion (λ (call : Call). IsReplyTo call.op call.reply) calls

-- the reply is no refusal for want of space
abbrev pub IsNoWantOfSpace : Reply → Type 0
IsNoWantOfSpace (NotWritten (NoSpace area)) = ⊥
IsNoWantOfSpace _ = Unit {0}

-- no call was refused for want of space
abbrev pub NoneLackSpace : List Call → Type 0
NoneLackSpace calls = AllByRecursion (λ (call : Call). IsNoWantOfSpace call.reply) calls
