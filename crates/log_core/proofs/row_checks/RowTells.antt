-- What an equation of two values tells of their parts.
use Rattle.std.proofs.Common.{◌≡◌, ℕ, Bool, true, false, List, [], ◌∷◌, ap, Option, None, Some}
use Rattle.std.proofs.lemmas.Bool.{false≢true, true≢false}
use Rattle.log_entry.specs.declared.calls.Op.{Op}
use Rattle.log_entry.specs.declared.calls.Reply.{Reply}
use Rattle.log_entry.specs.declared.calls.Reply.TheVariants.{Wrote, Appended, NotWritten, Bytes, Size, Synced}
use Rattle.log_entry.specs.declared.calls.WriteRefusal.{WriteRefusal}
use Rattle.log_entry.specs.declared.calls.WriteRefusal.TheVariants.{NoSpace}
use Rattle.log_entry.specs.declared.shapes.Area.{Area}
use Rattle.log_entry.specs.declared.shapes.Area.TheVariants.{Data}
use Rattle.pmem_words.specs.declared.keeps.Task.{Task}
use Rattle.pmem_words.specs.declared.keeps.Task.TheVariants.{Pread, Sync, Collect}
use Rattle.log_core.specs.Views.{HeadPut, Stored}

abbrev pub is_some : Option ℕ → Bool
is_some None = false
is_some (Some number) = true

pub some_not_none : (number : ℕ) → Some number ≡ None → ⊥
some_not_none number same = true≢false (ap is_some same)

pub none_not_some : (number : ℕ) → None ≡ Some number → ⊥
none_not_some number same = false≢true (ap is_some same)

abbrev pub number_of : Option ℕ → ℕ
number_of None = 0
number_of (Some number) = number

abbrev pub marked_of : Option Stored → Bool
marked_of None = true
marked_of (Some stored) = stored.marked

abbrev pub limbo_of : Option HeadPut → ℕ
limbo_of None = 0
limbo_of (Some put) = put.limbo

abbrev pub is_put : Option HeadPut → Bool
is_put None = false
is_put (Some put) = true

-- the number that a reply says
abbrev pub said : Reply → ℕ
said (Wrote count) = count
said (Appended at count) = count
said (Size size) = size
said (Synced position) = position
said _ = 0

abbrev pub is_data : Area → Bool
is_data Data = true
is_data _ = false

abbrev pub lacks_data : WriteRefusal → Bool
lacks_data (NoSpace area) = is_data area
lacks_data _ = false

abbrev pub is_for_data : Reply → Bool
is_for_data (NotWritten why) = lacks_data why
is_for_data _ = false

abbrev pub is_refused : Reply → Bool
is_refused (NotWritten why) = true
is_refused _ = false

abbrev pub offset_of : Task → ℕ
offset_of (Pread offset count) = offset
offset_of _ = 0

abbrev pub asked_count : Task → ℕ
asked_count (Pread offset count) = count
asked_count _ = 0

-- the first of some numbers, and of the bytes that a reply says
abbrev pub first_number : List ℕ → ℕ
first_number [] = 0
first_number (number ∷ numbers) = number

abbrev pub first_byte : Reply → ℕ
first_byte (Bytes bytes) = first_number bytes
first_byte _ = 0

abbrev pub is_sync : Task → Bool
is_sync Sync = true
is_sync _ = false

abbrev pub is_collect : Task → Bool
is_collect Collect = true
is_collect _ = false

abbrev pub is_written : Reply → Bool
is_written (Wrote count) = true
is_written _ = false

abbrev pub is_op : Option Op → Bool
is_op None = false
is_op (Some op) = true

abbrev pub offset_said : Reply → ℕ
offset_said (Appended at count) = at
offset_said _ = 0
