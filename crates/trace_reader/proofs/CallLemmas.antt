-- The call that a line asks is one that may be asked, of a seat that there is.
use Rattle.std.specs.Prelude.{if◌then◌else◌}
use Rattle.std.proofs.Common.{◌≡◌, ℕ, ◌^◌, ◌<◌, nat_lt, Bool, true, false, List, [], ◌∷◌, Option, Some, None, Result, Ok, Err, refl, ap, subst, arith}
use Rattle.std.proofs.lemmas.Grind.{common_steps}
use Rattle.std.specs.List.{All}
use Rattle.log_entry.specs.Text.{number_of}
use Rattle.log_entry.specs.declared.calls.Op.{Op}
use Rattle.log_entry.specs.declared.calls.Op.TheVariants.{Pwrite, Append, Pread, Size, Sync, Collect}
use Rattle.trace_reader.specs.Calls.{Form, WriteForm, AppendForm, ReadForm, SizeForm, SyncForm, CollectForm, is_comment, bytes_of, form_of, write_op, append_op, read_op, op_of, call_of, form_call, line_call}
use Rattle.trace_reader.specs.Trace.{IsReadable}
use Rattle.trace_reader.specs.declared.lines.SeatCall.{SeatCall}
use Rattle.trace_reader.specs.declared.refusals.BadTrace.{BadTrace}
use Rattle.trace_reader.specs.declared.refusals.BadTrace.TheVariants.{BadNumber, BadSeat}
use Rattle.trace_reader.proofs.DigitLemmas.{IsByte, bytes_of-small}

-- the operation of an answer, or this one
abbrev op_or : Op → Result Op BadTrace → Op
op_or other (Ok op) = op
op_or other (Err why) = other

same_op : (a b : Op) → ◌≡◌ {A = Result Op BadTrace} (Ok a) (Ok b) → a ≡ b
same_op a b is = ap (op_or a) is

small_number : (text : List ℕ) (number : ℕ) → number_of text ≡ Some number → number < 2 ^ 64
small_number text number is = grind (arith, common_steps)

readable_write : (at : ℕ) (offset : Option ℕ) (bytes : Option (List ℕ)) (op : Op) → ((n : ℕ) → offset ≡ Some n → n < 2 ^ 64) → ((xs : List ℕ) → bytes ≡ Some xs → All IsByte xs) → write_op at offset bytes ≡ Ok op → IsReadable op
readable_write at None bytes op small all is = cc is
readable_write at (Some offset) None op small all is = cc is
readable_write at (Some offset) (Some bytes) op small all is = subst IsReadable (same_op (Pwrite offset bytes) op is) (small offset refl, all bytes refl)

readable_append : (at : ℕ) (bytes : Option (List ℕ)) (op : Op) → ((xs : List ℕ) → bytes ≡ Some xs → All IsByte xs) → append_op at bytes ≡ Ok op → IsReadable op
readable_append at None op all is = cc is
readable_append at (Some bytes) op all is = subst IsReadable (same_op (Append bytes) op is) (all bytes refl)

readable_count : (long : Bool) (at offset count : ℕ) (op : Op) → nat_lt 1048576 count ≡ long → offset < 2 ^ 64 → (if long then Err (BadNumber at) else Ok (Pread offset count)) ≡ Ok op → IsReadable op
readable_count true at offset count op test small is = cc is
readable_count false at offset count op test small is = subst IsReadable (same_op (Pread offset count) op is) (small, grind (arith))

readable_read : (at : ℕ) (offset count : Option ℕ) (op : Op) → ((n : ℕ) → offset ≡ Some n → n < 2 ^ 64) → read_op at offset count ≡ Ok op → IsReadable op
readable_read at None count op small is = cc is
readable_read at (Some offset) None op small is = cc is
readable_read at (Some offset) (Some count) op small is = readable_count (nat_lt 1048576 count) at offset count op refl (small offset refl) is

readable : (at : ℕ) (form : Form) (op : Op) → op_of at form ≡ Ok op → IsReadable op
readable at (WriteForm offset bytes) op is = readable_write at (number_of offset) (bytes_of bytes) op (small_number offset) (bytes_of-small bytes) is
readable at (AppendForm bytes) op is = readable_append at (bytes_of bytes) op (bytes_of-small bytes) is
readable at (ReadForm offset count) op is = readable_read at (number_of offset) (number_of count) op (small_number offset) is
readable at SizeForm op is = subst IsReadable (same_op Size op is) tt
readable at SyncForm op is = subst IsReadable (same_op Sync op is) tt
readable at CollectForm op is = subst IsReadable (same_op Collect op is) tt

-- the call of an answer, or this one
abbrev call_or : SeatCall → Result (Option SeatCall) BadTrace → SeatCall
call_or other (Ok (Some call)) = call
call_or other (Ok None) = other
call_or other (Err why) = other

same_call : (a b : SeatCall) → ◌≡◌ {A = Result (Option SeatCall) BadTrace} (Ok (Some a)) (Ok (Some b)) → a ≡ b
same_call a b is = ap (call_or a) is

-- a call that may be asked
abbrev pub MayAsk : ℕ → SeatCall → Type 0
MayAsk seats call = (call.seat < seats) × IsReadable call.op

of_op : (seats seat : ℕ) (answer : Result Op BadTrace) (call : SeatCall) → seat < seats → ((op : Op) → answer ≡ Ok op → IsReadable op) → call_of seat answer ≡ Ok (Some call) → MayAsk seats call
of_op seats seat (Ok op) call below may is = subst (MayAsk seats) (same_call (record { seat = seat; op = op }) call is) (below, may op refl)
of_op seats seat (Err why) call below may is = cc is

of_seat : (below : Bool) (seats at seat : ℕ) (form : Form) (call : SeatCall) → nat_lt seat seats ≡ below → (if below then call_of seat (op_of at form) else Err (BadSeat at seat)) ≡ Ok (Some call) → MayAsk seats call
of_seat true seats at seat form call test is = of_op seats seat (op_of at form) call (grind (arith)) (readable at form) is
of_seat false seats at seat form call test is = cc is

of_form : (seats at : ℕ) (seat : Option ℕ) (form : Option Form) (call : SeatCall) → form_call seats at seat form ≡ Ok (Some call) → MayAsk seats call
of_form seats at None None call is = cc is
of_form seats at (Some seat) None call is = cc is
of_form seats at None (Some form) call is = cc is
of_form seats at (Some seat) (Some form) call is = of_seat (nat_lt seat seats) seats at seat form call refl is

of_words : (comment : Bool) (seats at : ℕ) (seat : List ℕ) (words : List (List ℕ)) (call : SeatCall) → (if comment then Ok None else form_call seats at (number_of seat) (form_of words)) ≡ Ok (Some call) → MayAsk seats call
of_words true seats at seat words call is = cc is
of_words false seats at seat words call is = of_form seats at (number_of seat) (form_of words) call is

pub call_readable : (seats at : ℕ) (fields : List (List ℕ)) (call : SeatCall) → line_call seats at fields ≡ Ok (Some call) → MayAsk seats call
call_readable seats at [] call is = cc is
call_readable seats at (seat ∷ words) call is = of_words (is_comment seat) seats at seat words call is
