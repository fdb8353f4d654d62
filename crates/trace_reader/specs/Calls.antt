-- What a line asks, by its fields: the forms of a line, and the checks of its numbers and bytes in their order.
use Rattle.std.specs.Prelude.{ℕ, ◌≡◌, ◌==◌, nat_lt, Bool, if◌then◌else◌, List, [], ◌∷◌, slice_index, Option, Some, None, Result, Ok, Err, codes}
use Rattle.std.specs.Str.{bytes_eq}
use Rattle.hex.specs.Hex.{decode_of}
use Rattle.hex.specs.declared.error.FromHexError.{FromHexError}
use Rattle.log_entry.specs.Text.{number_of}
use Rattle.log_entry.specs.declared.calls.Op.{Op}
use Rattle.log_entry.specs.declared.calls.Op.TheVariants.{Pwrite, Append, Pread, Size, Sync, Collect}
use Rattle.trace_reader.specs.declared.lines.SeatCall.{SeatCall}
use Rattle.trace_reader.specs.declared.refusals.BadTrace.{BadTrace}
use Rattle.trace_reader.specs.declared.refusals.BadTrace.TheVariants.{BadLine, BadSeat, BadNumber, BadHex}
use Rattle.trace_reader.specs.declared.refusals.TraceRefusal.{TraceRefusal}
use Rattle.trace_reader.specs.declared.refusals.TraceRefusal.TheVariants.{Bad, NoMemory}

-- the texts of a call, by its operation
pub data Form : Type 0 where
  WriteForm : (offset bytes : List ℕ) → Form
  AppendForm : (bytes : List ℕ) → Form
  ReadForm : (offset count : List ℕ) → Form
  SizeForm : Form
  SyncForm : Form
  CollectForm : Form

-- the fields of a form, after the seat
abbrev pub form_fields : Form → List (List ℕ)
form_fields (WriteForm offset bytes) = codes "pwrite" ∷ offset ∷ bytes ∷ []
form_fields (AppendForm bytes) = codes "append" ∷ bytes ∷ []
form_fields (ReadForm offset count) = codes "pread" ∷ offset ∷ count ∷ []
form_fields SizeForm = codes "size" ∷ []
form_fields SyncForm = codes "sync" ∷ []
form_fields CollectForm = codes "collect" ∷ []

-- the form with this word and no field after it
abbrev pub bare_form : List ℕ → Option Form
bare_form word =
    if bytes_eq word (codes "size") then Some SizeForm
    else if bytes_eq word (codes "sync") then Some SyncForm
    else if bytes_eq word (codes "collect") then Some CollectForm
    else None

-- the form with this word and one field after it
abbrev pub short_form : List ℕ → List ℕ → Option Form
short_form word bytes = if bytes_eq word (codes "append") then Some (AppendForm bytes) else None

-- the form with this word and two fields after it
abbrev pub long_form : List ℕ → List ℕ → List ℕ → Option Form
long_form word offset last =
    if bytes_eq word (codes "pwrite") then Some (WriteForm offset last)
    else if bytes_eq word (codes "pread") then Some (ReadForm offset last)
    else None

-- the form whose fields these are, if they are one's
abbrev pub form_of : List (List ℕ) → Option Form
form_of [] = None
form_of (word ∷ []) = bare_form word
form_of (word ∷ first ∷ []) = short_form word first
form_of (word ∷ first ∷ second ∷ []) = long_form word first second
form_of (word ∷ first ∷ second ∷ third ∷ rest) = None

abbrev pub decoded_or : Result (List ℕ) FromHexError → Option (List ℕ)
decoded_or (Ok bytes) = Some bytes
decoded_or (Err why) = None

-- the bytes that a text is: two hexadecimal digits a byte, in either case, or a dash for none
abbrev pub bytes_of : List ℕ → Option (List ℕ)
bytes_of [] = None
bytes_of (first ∷ text) = if bytes_eq (first ∷ text) (codes "-") then Some [] else decoded_or (decode_of (first ∷ text))

-- a write of these bytes at this offset: the offset is looked at first
abbrev pub write_op : ℕ → Option ℕ → Option (List ℕ) → Result Op BadTrace
write_op at None bytes = Err (BadNumber at)
write_op at (Some offset) None = Err (BadHex at)
write_op at (Some offset) (Some bytes) = Ok (Pwrite offset bytes)

abbrev pub append_op : ℕ → Option (List ℕ) → Result Op BadTrace
append_op at None = Err (BadHex at)
append_op at (Some bytes) = Ok (Append bytes)

-- a read of so many bytes, at most 1,048,576, from this offset on
abbrev pub read_op : ℕ → Option ℕ → Option ℕ → Result Op BadTrace
read_op at None count = Err (BadNumber at)
read_op at (Some offset) None = Err (BadNumber at)
read_op at (Some offset) (Some count) = if nat_lt 1048576 count then Err (BadNumber at) else Ok (Pread offset count)

-- the operation of a form, or what is wrong with its numbers and bytes, on the line of this number
abbrev pub op_of : ℕ → Form → Result Op BadTrace
op_of at (WriteForm offset bytes) = write_op at (number_of offset) (bytes_of bytes)
op_of at (AppendForm bytes) = append_op at (bytes_of bytes)
op_of at (ReadForm offset count) = read_op at (number_of offset) (number_of count)
op_of at SizeForm = Ok Size
op_of at SyncForm = Ok Sync
op_of at CollectForm = Ok Collect

abbrev pub call_of : ℕ → Result Op BadTrace → Result (Option SeatCall) BadTrace
call_of seat (Ok op) = Ok (Some (record { seat = seat; op = op }))
call_of seat (Err why) = Err why

-- the call of a line with this seat and form: first the form is looked at, then the seat, then the rest
abbrev pub form_call : ℕ → ℕ → Option ℕ → Option Form → Result (Option SeatCall) BadTrace
form_call seats at seat None = Err (BadLine at)
form_call seats at None (Some form) = Err (BadNumber at)
form_call seats at (Some seat) (Some form) = if nat_lt seat seats then call_of seat (op_of at form) else Err (BadSeat at seat)

-- a field with a number sign in front
abbrev pub is_comment : List ℕ → Bool
is_comment field = slice_index field 0 == 35

-- the call that the line of this number asks by its fields; none where it is passed over: it has no field, or is a comment
abbrev pub line_call : ℕ → ℕ → List (List ℕ) → Result (Option SeatCall) BadTrace
line_call seats at [] = Ok None
line_call seats at (seat ∷ words) = if is_comment seat then Ok None else form_call seats at (number_of seat) (form_of words)

-- why there is no answer: the one that it has, or want of memory, which may come at any
abbrev pub IsRefusal : {A : Type 0} → Result A BadTrace → TraceRefusal → Type 0
IsRefusal answer (Bad why) = answer ≡ Err why
IsRefusal answer NoMemory = Unit {0}
