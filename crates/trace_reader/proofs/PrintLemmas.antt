-- What is printed of jobs, read again.
use Rattle.std.specs.Prelude.{if◌then◌else◌}
use Rattle.std.proofs.Common.{◌≡◌, ℕ, zero, suc, ◌+◌, ◌-◌, ◌/◌, ◌%◌, ◌^◌, ◌<◌, ◌==◌, nat_lt, ◌&&◌, Bool, true, false, List, [], ◌∷◌, ◌++◌, append_assoc, append-nil, length, take, get_or, Option, Some, Ok, inl, inr, codes, decimal, refl, sym, ap, ◌∙◌, arith}
use Rattle.std.proofs.lemmas.Bool.{and_parts, cases_lt}
use Rattle.std.proofs.lemmas.Fmt.{digits_decimal, digits_value-decimal, decimal_nonempty}
use Rattle.std.proofs.lemmas.Grind.{common_steps}
use Rattle.std.proofs.lemmas.List.{length-append}
use Rattle.std.proofs.lemmas.List.Elements.{All-append, All-cons, All-nil, All-head, All-tail}
use Rattle.std.proofs.lemmas.Str.Parse.{IsNumeralModel, numerals_by_value, tells_all_ascii_digits}
use Rattle.std.specs.Char.{is_ascii_digit}
use Rattle.std.specs.List.{All}
use Rattle.std.specs.Str.{all_ascii_digits}
use Rattle.std.specs.Str.Parse.{digits_value}
use Rattle.hex.specs.Hex.{encode_lower, encode_with, lower_digits}
use Rattle.hex.proofs.HexLemmas.{length-encode_with}
use Rattle.log_entry.specs.Text.{bytes_text, number_of}
use Rattle.log_entry.specs.declared.calls.Job.{Job}
use Rattle.log_entry.specs.declared.calls.Op.{Op}
use Rattle.log_entry.specs.declared.calls.Op.TheVariants.{Pwrite, Append, Pread, Size, Sync, Collect}
use Rattle.trace_reader.specs.Lines.{is_newline, is_blank, without_return, lines_of, fields_of}
use Rattle.trace_reader.specs.Calls.{Form, WriteForm, AppendForm, ReadForm, SizeForm, SyncForm, CollectForm, form_fields, form_of, form_call, call_of, is_comment, bytes_of, op_of, write_op, append_op, read_op, line_call}
use Rattle.trace_reader.specs.TraceText.{op_text, ask_text, line_text, trace_text}
use Rattle.trace_reader.specs.Trace.{IsReadable, AllFollow, OnLinesFrom, read_length, read_total}
use Rattle.trace_reader.specs.Reading.{reading_from, after_line, job_after, reads_limit}
use Rattle.trace_reader.specs.declared.lines.SeatCall.{SeatCall}
use Rattle.trace_reader.proofs.DigitLemmas.{IsByte, bytes_of-printed}
use Rattle.trace_reader.proofs.LineLemmas.{NonePasses, lines-front, fields-front, fields-last}
use Rattle.trace_reader.proofs.TraceLemmas.{not_more, more_jobs}

-- neither a blank nor the end of a line
abbrev IsInk : ℕ → Type 0
IsInk byte = 32 < byte

-- no end of a line
abbrev IsInLine : ℕ → Type 0
IsInLine byte = 31 < byte

-- ---- texts of ink

abbrev all_ink : List ℕ → Bool
all_ink [] = true
all_ink (byte ∷ text) = nat_lt 32 byte && all_ink text

ink_of : (text : List ℕ) → all_ink text ≡ true → All IsInk text
ink_of [] told = All-nil IsInk
ink_of (byte ∷ text) told =
    let parts = and_parts (nat_lt 32 byte) (all_ink text) told in
    let first : nat_lt 32 byte ≡ true = parts.0 in
    All-cons IsInk byte text (grind (arith)) (ink_of text parts.1)

digit_ink : (byte : ℕ) → is_ascii_digit byte ≡ true → IsInk byte
digit_ink byte digit = grind (arith)

digits_ink : (text : List ℕ) → all_ascii_digits text ≡ true → All IsInk text
digits_ink [] told = All-nil IsInk
digits_ink (byte ∷ text) told =
    let parts = and_parts (is_ascii_digit byte) (all_ascii_digits text) told in
    All-cons IsInk byte text (digit_ink byte parts.0) (digits_ink text parts.1)

abbrev Digits : List ℕ → Type 0
Digits text = all_ascii_digits text ≡ true

digits_model : IsNumeralModel Digits (digits_value 10)
digits_model = numerals_by_value Digits tells_all_ascii_digits

decimal_ink : (number : ℕ) → number < 2 ^ 64 → All IsInk (decimal number)
decimal_ink number small = digits_ink (decimal number) (digits_decimal digits_model number small)

-- what is printed of a number below 2 ^ 64 is that number
number_of-decimal : (number : ℕ) → number < 2 ^ 64 → number_of (decimal number) ≡ Some number
number_of-decimal number small =
    let all : all_ascii_digits (decimal number) ≡ true = digits_decimal digits_model number small in
    let value : digits_value 10 (decimal number) ≡ number = digits_value-decimal digits_model number small in
    let some : 0 < length (decimal number) = decimal_nonempty number small in
    grind (arith, common_steps)

not_comment : (text : List ℕ) → 0 < length text → all_ascii_digits text ≡ true → is_comment text ≡ false
not_comment [] some all = absurd (omega arith)
not_comment (byte ∷ text) some all =
    let digit : is_ascii_digit byte ≡ true = (and_parts (is_ascii_digit byte) (all_ascii_digits text) all).0 in
    grind (arith)

abbrev table_ink : ℕ → Bool
table_ink zero = true
table_ink (suc n) = nat_lt 32 (get_or lower_digits n 0) && table_ink n

table_ink-at : (n k : ℕ) → table_ink n ≡ true → k < n → nat_lt 32 (get_or lower_digits k 0) ≡ true
table_ink-at zero k all below = absurd (omega arith)
table_ink-at (suc n) k all below =
    let parts = and_parts (nat_lt 32 (get_or lower_digits n 0)) (table_ink n) all in
    elim (cases_lt k n) [
      | inl less ↦ table_ink-at n k parts.1 less
      | inr top ↦
          let e : k ≡ n = omega arith in
          rw e parts.0
    ]

lower_ink : (v : ℕ) → v < 16 → IsInk (get_or lower_digits v 0)
lower_ink v small =
    let told : nat_lt 32 (get_or lower_digits v 0) ≡ true = table_ink-at 16 v refl small in
    grind (arith)

encode_ink : (bytes : List ℕ) → All IsByte bytes → All IsInk (encode_lower bytes)
unfolding encode_with
encode_ink [] all = All-nil IsInk
encode_ink (byte ∷ bytes) all =
    let small : byte < 256 = All-head IsByte byte bytes all in
    let high = lower_ink (byte / 16) (omega arith) in
    let low = lower_ink (byte % 16) (omega arith) in
    let rest = encode_ink bytes (All-tail IsByte byte bytes all) in
    All-cons IsInk (get_or lower_digits (byte / 16) 0) (get_or lower_digits (byte % 16) 0 ∷ encode_lower bytes) high (All-cons IsInk (get_or lower_digits (byte % 16) 0) (encode_lower bytes) low rest)

bytes_ink : (bytes : List ℕ) → All IsByte bytes → All IsInk (bytes_text bytes)
bytes_ink [] all = All-cons IsInk 45 [] (omega arith) (All-nil IsInk)
bytes_ink (byte ∷ bytes) all = encode_ink (byte ∷ bytes) all

pub bytes_long : (bytes : List ℕ) → 0 < length (bytes_text bytes)
bytes_long [] = omega arith
bytes_long (byte ∷ bytes) = omega (arith, length-encode_with lower_digits (byte ∷ bytes))

-- ---- a printed line

not_blank : (text : List ℕ) → All IsInk text → NonePasses is_blank text
not_blank [] all = All-nil (λ x. is_blank x ≡ false)
not_blank (byte ∷ text) all =
    let first : 32 < byte = All-head IsInk byte text all in
    All-cons (λ x. is_blank x ≡ false) byte text (grind (arith)) (not_blank text (All-tail IsInk byte text all))

in_line : (text : List ℕ) → All IsInk text → All IsInLine text
in_line [] all = All-nil IsInLine
in_line (byte ∷ text) all =
    let first : 32 < byte = All-head IsInk byte text all in
    All-cons IsInLine byte text (omega arith) (in_line text (All-tail IsInk byte text all))

not_newline : (text : List ℕ) → All IsInLine text → NonePasses is_newline text
not_newline [] all = All-nil (λ x. is_newline x ≡ false)
not_newline (byte ∷ text) all =
    let first : 31 < byte = All-head IsInLine byte text all in
    All-cons (λ x. is_newline x ≡ false) byte text (grind (arith)) (not_newline text (All-tail IsInLine byte text all))

-- two parts with a blank between them
joined : (a b : List ℕ) → All IsInk a → All IsInLine b → All IsInLine (a ++ 32 ∷ b)
joined a b ink rest = All-append IsInLine a (32 ∷ b) (in_line a ink) (All-cons IsInLine 32 b (omega arith) rest)

kept_whole : (b : Bool) (line short : List ℕ) → b ≡ false → (if b then short else line) ≡ line
kept_whole true line short told = cc told
kept_whole false line short told = refl

no_return : (line : List ℕ) → 0 < length line → All IsInLine line → without_return line ≡ line
no_return line some all =
    let last : 31 < get_or line (length line - 1) 0 = all (length line - 1) 0 (omega arith) in
    kept_whole (get_or line (length line - 1) 0 == 13) line (take (length line - 1) line) (grind (arith))

-- a form as it is printed of an operation
abbrev form_for : Op → Form
form_for (Pwrite offset bytes) = WriteForm (decimal offset) (bytes_text bytes)
form_for (Append bytes) = AppendForm (bytes_text bytes)
form_for (Pread offset count) = ReadForm (decimal offset) (decimal count)
form_for Size = SizeForm
form_for Sync = SyncForm
form_for Collect = CollectForm

words_in_line : (op : Op) → IsReadable op → All IsInLine (op_text op)
words_in_line (Pwrite offset bytes) may = joined (codes "pwrite") (decimal offset ++ 32 ∷ bytes_text bytes) (ink_of (codes "pwrite") refl) (joined (decimal offset) (bytes_text bytes) (decimal_ink offset may.0) (in_line (bytes_text bytes) (bytes_ink bytes may.1)))
words_in_line (Append bytes) may = joined (codes "append") (bytes_text bytes) (ink_of (codes "append") refl) (in_line (bytes_text bytes) (bytes_ink bytes may))
words_in_line (Pread offset count) may =
    let few = may.1 in
    joined (codes "pread") (decimal offset ++ 32 ∷ decimal count) (ink_of (codes "pread") refl) (joined (decimal offset) (decimal count) (decimal_ink offset may.0) (in_line (decimal count) (decimal_ink count (omega arith))))
words_in_line Size may = in_line (codes "size") (ink_of (codes "size") refl)
words_in_line Sync may = in_line (codes "sync") (ink_of (codes "sync") refl)
words_in_line Collect may = in_line (codes "collect") (ink_of (codes "collect") refl)

first_field : (field rest : List ℕ) → 0 < length field → All IsInk field → fields_of (field ++ 32 ∷ rest) ≡ field ∷ fields_of rest
first_field field rest some ink = fields-front field 32 rest some (not_blank field ink) refl

last_one : (field : List ℕ) → 0 < length field → All IsInk field → fields_of field ≡ field ∷ []
last_one field some ink = fields-last field some (not_blank field ink)

two_fields : (a b : List ℕ) → 0 < length a → All IsInk a → 0 < length b → All IsInk b → fields_of (a ++ 32 ∷ b) ≡ a ∷ b ∷ []
two_fields a b la ia lb ib = first_field a b la ia ∙ ap (λ (found : List (List ℕ)). a ∷ found) (last_one b lb ib)

words_fields : (op : Op) → IsReadable op → fields_of (op_text op) ≡ form_fields (form_for op)
words_fields (Pwrite offset bytes) may =
    first_field (codes "pwrite") (decimal offset ++ 32 ∷ bytes_text bytes) (omega arith) (ink_of (codes "pwrite") refl)
    ∙ ap (λ (found : List (List ℕ)). codes "pwrite" ∷ found) (two_fields (decimal offset) (bytes_text bytes) (decimal_nonempty offset may.0) (decimal_ink offset may.0) (bytes_long bytes) (bytes_ink bytes may.1))
words_fields (Append bytes) may = two_fields (codes "append") (bytes_text bytes) (omega arith) (ink_of (codes "append") refl) (bytes_long bytes) (bytes_ink bytes may)
words_fields (Pread offset count) may =
    let few = may.1 in
    let small : count < 2 ^ 64 = omega arith in
    first_field (codes "pread") (decimal offset ++ 32 ∷ decimal count) (omega arith) (ink_of (codes "pread") refl)
    ∙ ap (λ (found : List (List ℕ)). codes "pread" ∷ found) (two_fields (decimal offset) (decimal count) (decimal_nonempty offset may.0) (decimal_ink offset may.0) (decimal_nonempty count small) (decimal_ink count small))
words_fields Size may = last_one (codes "size") (omega arith) (ink_of (codes "size") refl)
words_fields Sync may = last_one (codes "sync") (omega arith) (ink_of (codes "sync") refl)
words_fields Collect may = last_one (codes "collect") (omega arith) (ink_of (codes "collect") refl)

printed_form : (op : Op) → form_of (form_fields (form_for op)) ≡ Some (form_for op)
printed_form (Pwrite offset bytes) = refl
printed_form (Append bytes) = refl
printed_form (Pread offset count) = refl
printed_form Size = refl
printed_form Sync = refl
printed_form Collect = refl

printed_op : (at : ℕ) (op : Op) → IsReadable op → op_of at (form_for op) ≡ Ok op
printed_op at (Pwrite offset bytes) may =
    let number = number_of-decimal offset may.0 in
    let read = bytes_of-printed bytes may.1 in
    ap (λ (o : Option ℕ). write_op at o (bytes_of (bytes_text bytes))) number ∙ ap (write_op at (Some offset)) read
printed_op at (Append bytes) may = ap (append_op at) (bytes_of-printed bytes may)
printed_op at (Pread offset count) may =
    let few = may.1 in
    let small : nat_lt 1048576 count ≡ false = not_more 1048576 count few in
    let number = number_of-decimal offset may.0 in
    let read = number_of-decimal count (omega arith) in
    ap (λ (o : Option ℕ). read_op at o (number_of (decimal count))) number ∙ ap (read_op at (Some offset)) read ∙ rw small refl
printed_op at Size may = refl
printed_op at Sync may = refl
printed_op at Collect may = refl

below_seats : (seats at seat : ℕ) (form : Form) → seat < seats → form_call seats at (Some seat) (Some form) ≡ call_of seat (op_of at form)
below_seats seats at seat form below =
    let told : nat_lt seat seats ≡ true = grind (arith) in
    rw told refl

asked_by : (seats at : ℕ) (seat : List ℕ) (words : List (List ℕ)) → is_comment seat ≡ false → line_call seats at (seat ∷ words) ≡ form_call seats at (number_of seat) (form_of words)
asked_by seats at seat words told = rw told refl

-- a printed line asks its call
printed_call : (seats at seat : ℕ) (op : Op) → seat < seats → seats < 256 → IsReadable op → line_call seats at (fields_of (ask_text seat op)) ≡ Ok (Some (record { seat = seat; op = op }))
printed_call seats at seat op below few may =
    let small : seat < 2 ^ 64 = omega arith in
    let some = decimal_nonempty seat small in
    let fields : fields_of (ask_text seat op) ≡ decimal seat ∷ form_fields (form_for op) = first_field (decimal seat) (op_text op) some (decimal_ink seat small) ∙ ap (λ (found : List (List ℕ)). decimal seat ∷ found) (words_fields op may) in
    ap (line_call seats at) fields
    ∙ asked_by seats at (decimal seat) (form_fields (form_for op)) (not_comment (decimal seat) some (digits_decimal digits_model seat small))
    ∙ ap (λ (o : Option ℕ). form_call seats at o (form_of (form_fields (form_for op)))) (number_of-decimal seat small)
    ∙ ap (form_call seats at (Some seat)) (printed_form op)
    ∙ below_seats seats at seat (form_for op) below
    ∙ ap (call_of seat) (printed_op at op may)

-- the first line of a printed trace
printed_line : (job : Job) (rest : List ℕ) → job.seat < 2 ^ 64 → IsReadable job.op → lines_of (line_text job ++ rest) ≡ ask_text job.seat job.op ∷ lines_of rest
printed_line job rest small may =
    let all : All IsInLine (ask_text job.seat job.op) = joined (decimal job.seat) (op_text job.op) (decimal_ink job.seat small) (words_in_line job.op may) in
    let some : 0 < length (ask_text job.seat job.op) = let long = length-append (decimal job.seat) (32 ∷ op_text job.op) in omega arith in
    ap lines_of (append_assoc (ask_text job.seat job.op) (codes "\n") rest)
    ∙ lines-front (ask_text job.seat job.op) rest (not_newline (ask_text job.seat job.op) all)
    ∙ ap (λ (line : List ℕ). line ∷ lines_of rest) (no_return (ask_text job.seat job.op) some all)

-- a job is its four fields
same_job : (a b : Job) → a.line ≡ b.line → a.seat ≡ b.seat → a.number ≡ b.number → a.op ≡ b.op → a ≡ b
same_job a b line seat number op =
    ap (λ (x : ℕ). record a { line = x }) line
    ∙ ap (λ (x : ℕ). record a { line = b.line; seat = x }) seat
    ∙ ap (λ (x : ℕ). record a { line = b.line; seat = b.seat; number = x }) number
    ∙ ap (λ (x : Op). record b { op = x }) op

-- printed jobs are read as they are, from any line on
pub printed_is_read : (seats : ℕ) (jobs before : List Job) (at : ℕ) → seats < 256 → AllFollow seats before jobs → OnLinesFrom at jobs → reading_from seats (lines_of (trace_text jobs)) at before ≡ Ok (before ++ jobs)
printed_is_read seats [] before at few follow lines = ap Ok (sym (append-nil before))
printed_is_read seats (job ∷ jobs) before at few follow lines =
    let first = follow.0 in
    let below = first.seat in
    let total = first.total in
    let small : job.seat < 2 ^ 64 = omega arith in
    let call : SeatCall = record { seat = job.seat; op = job.op } in
    let new : Job = job_after before at call in
    let same : new ≡ job = same_job new job (sym lines.0) refl (sym first.number) refl in
    let rest : List ℕ = trace_text jobs in
    ap (λ (found : List (List ℕ)). reading_from seats found at before) (printed_line job rest small first.readable)
    ∙ ap (after_line (reading_from seats (lines_of rest) (at + 1)) before at) (printed_call seats at job.seat job.op below few first.readable)
    ∙ more_jobs (nat_lt reads_limit (read_total before + read_length job.op)) (reading_from seats (lines_of rest) (at + 1)) at (before ++ new ∷ []) (not_more reads_limit (read_total before + read_length job.op) total)
    ∙ ap (λ (x : Job). reading_from seats (lines_of rest) (at + 1) (before ++ x ∷ [])) same
    ∙ printed_is_read seats jobs (before ++ job ∷ []) (at + 1) few follow.1 lines.1
    ∙ ap Ok (append_assoc before (job ∷ []) jobs)
