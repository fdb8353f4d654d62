-- Histories that go on by one call, and what a history of one seat has.
use Rattle.std.proofs.Common.{◌≡◌, ℕ, ◌+◌, ◌<◌, ◌≤◌, ◌==◌, Bool, true, false, cond, not, suc, zero, None, Some, subst, List, [], ◌∷◌, ◌++◌, length, get_or, filter, map, refl, sym, ap, ◌∙◌, arith, add-one, inl, inr}
use Rattle.std.specs.List.{AllByRecursion}
use Rattle.std.proofs.lemmas.Bool.Decides.{nat_tests}
use Rattle.std.specs.Ordering.{is_lt}
use Rattle.log_entry.specs.Legal.{Legal, Answers, AnswersWrite, AnswersCollect, is_write, file_after, position_after, last_file, last_position_of}
use Rattle.log_entry.specs.OfTrace.{OfTrace, Asked}
use Rattle.log_entry.specs.Order.{IsInOrder, place_of, place_cmp}
use Rattle.log_entry.specs.Kinds.{IsReplyTo, IsWriteRefusal, HaveKinds}
use Rattle.log_entry.specs.declared.shapes.Area.TheVariants.{Data, Log}
use Rattle.log_entry.specs.declared.calls.Op.{Op}
use Rattle.log_entry.specs.declared.calls.Op.TheVariants.{Pwrite, Append, Pread, Size, Sync, Collect}
use Rattle.log_entry.specs.declared.calls.WriteRefusal.{WriteRefusal}
use Rattle.log_entry.specs.declared.calls.WriteRefusal.TheVariants.{TooLong, TooLarge, NoSpace, PositionLimit}
use Rattle.log_entry.specs.declared.calls.Reply.{Reply}
use Rattle.log_entry.specs.declared.calls.Reply.TheVariants.{Wrote, Appended, NotWritten, Bytes, Size as FileSize, Synced, Collected, NotCollected}
use Rattle.log_entry.specs.declared.calls.Call.{Call}
use Rattle.log_entry.specs.declared.calls.Job.{Job}

-- the file after one more call
pub last_file-push : (file : List ℕ) (calls : List Call) (call : Call) → last_file file (calls ++ call ∷ []) ≡ file_after (last_file file calls) call.op call.reply
last_file-push file [] call = refl
last_file-push file (first ∷ calls) call = last_file-push (file_after file first.op first.reply) calls call

-- the position after one more call
pub last_position_of-push : (position : ℕ) (calls : List Call) (call : Call) → last_position_of position (calls ++ call ∷ []) ≡ position_after (last_position_of position calls) call.op call.reply
last_position_of-push position [] call = refl
last_position_of-push position (first ∷ calls) call = last_position_of-push (position_after position first.op first.reply) calls call

-- a history goes on by a call that answers at its end
pub Legal-push : (block_bytes : ℕ) (file : List ℕ) (position : ℕ) (calls : List Call) (call : Call) → Legal block_bytes file position calls
    → Answers block_bytes (last_position_of position calls) (last_file file calls) call.op call.reply
    → call.position ≡ position_after (last_position_of position calls) call.op call.reply
    → Legal block_bytes file position (calls ++ call ∷ [])
Legal-push block_bytes file position [] call legal answers placed = (answers, placed, tt)
Legal-push block_bytes file position (first ∷ calls) call legal answers placed =
    (legal.0, legal.1, Legal-push block_bytes (file_after file first.op first.reply) (position_after position first.op first.reply) calls call legal.2 answers placed)

-- what holds of each call holds of one more
pub AllByRecursion-push : {X : Type 0} (P : X → Type 0) (xs : List X) (x : X) → AllByRecursion P xs → P x → AllByRecursion P (xs ++ x ∷ [])
AllByRecursion-push P [] x each last = (last, tt)
AllByRecursion-push P (first ∷ xs) x each last = (each.0, AllByRecursion-push P xs x each.1 last)

-- the calls are these jobs, one by one
abbrev pub Mirrors : List Call → List Job → Type 0
Mirrors [] [] = Unit {0}
Mirrors (call ∷ calls) (job ∷ jobs) = (call.seat ≡ job.seat) × (call.number ≡ job.number) × (call.op ≡ job.op) × Mirrors calls jobs
Mirrors [] (job ∷ jobs) = ⊥
Mirrors (call ∷ calls) [] = ⊥

pub Mirrors-push : (calls : List Call) (jobs : List Job) (call : Call) (job : Job) → Mirrors calls jobs → call.seat ≡ job.seat → call.number ≡ job.number → call.op ≡ job.op → Mirrors (calls ++ call ∷ []) (jobs ++ job ∷ [])
Mirrors-push [] [] call job mirrors seat number op = (seat, number, op, tt)
Mirrors-push (c ∷ calls) (j ∷ jobs) call job mirrors seat number op = (mirrors.0, mirrors.1, mirrors.2, Mirrors-push calls jobs call job mirrors.3 seat number op)
Mirrors-push [] (j ∷ jobs) call job mirrors seat number op = absurd mirrors
Mirrors-push (c ∷ calls) [] call job mirrors seat number op = absurd mirrors

abbrev pub of_call : Call → Asked
of_call call = record { number = call.number; op = call.op }

abbrev pub of_job : Job → Asked
of_job job = record { number = job.number; op = job.op }

-- one more call of a seat or of another
asked-step : (b c : Bool) (call : Call) (calls : List Call) (job : Job) (jobs : List Job) → b ≡ c → of_call call ≡ of_job job → map of_call calls ≡ map of_job jobs
    → map of_call (cond b (call ∷ calls) calls) ≡ map of_job (cond c (job ∷ jobs) jobs)
asked-step true true call calls job jobs e same rest = cc
asked-step false false call calls job jobs e same rest = rest
asked-step true false call calls job jobs e same rest = cc
asked-step false true call calls job jobs e same rest = cc

-- the same number and the same operation are the same call
same_asked : (call : Call) (job : Job) → call.number ≡ job.number → call.op ≡ job.op → of_call call ≡ of_job job
same_asked call job number op = cc

-- calls that are the jobs one by one are the trace's
pub OfTrace-Mirrors : (calls : List Call) (jobs : List Job) → Mirrors calls jobs → OfTrace calls jobs
OfTrace-Mirrors [] [] mirrors seat = refl
OfTrace-Mirrors (call ∷ calls) (job ∷ jobs) mirrors seat =
    asked-step (call.seat == seat) (job.seat == seat) call (filter (λ (c : Call). c.seat == seat) calls) job (filter (λ (j : Job). j.seat == seat) jobs)
    (ap (λ s. s == seat) mirrors.0) (same_asked call job mirrors.1 mirrors.2) (OfTrace-Mirrors calls jobs mirrors.3 seat)
OfTrace-Mirrors [] (job ∷ jobs) mirrors seat = absurd mirrors
OfTrace-Mirrors (call ∷ calls) [] mirrors seat = absurd mirrors

-- the refusals of a write are of kinds that its operation has
write_kind : (op : Op) (long large last : Bool) (blocks end : ℕ) (accepted reply : Reply) → ((why : WriteRefusal) → IsWriteRefusal why → IsReplyTo op (NotWritten why)) → IsReplyTo op accepted
    → AnswersWrite (cond long (Some (TooLong blocks)) (cond large (Some (TooLarge end)) (cond last (Some PositionLimit) None))) accepted reply → IsReplyTo op reply
write_kind op true large last blocks end accepted reply refusals kind answers = subst (λ (r : Reply). IsReplyTo op r) (sym answers) (refusals (TooLong blocks) tt)
write_kind op false true last blocks end accepted reply refusals kind answers = subst (λ (r : Reply). IsReplyTo op r) (sym answers) (refusals (TooLarge end) tt)
write_kind op false false true blocks end accepted reply refusals kind answers = subst (λ (r : Reply). IsReplyTo op r) (sym answers) (refusals PositionLimit tt)
write_kind op false false false blocks end accepted reply refusals kind (inl e) = subst (λ (r : Reply). IsReplyTo op r) (sym e) kind
write_kind op false false false blocks end accepted reply refusals kind (inr (inl e)) = subst (λ (r : Reply). IsReplyTo op r) (sym e) (refusals (NoSpace Data) tt)
write_kind op false false false blocks end accepted reply refusals kind (inr (inr e)) = subst (λ (r : Reply). IsReplyTo op r) (sym e) (refusals (NoSpace Log) tt)

-- a legal reply is of a kind that its operation has
pub IsReplyTo-Answers : (block_bytes position : ℕ) (file : List ℕ) (op : Op) (reply : Reply) → Answers block_bytes position file op reply → IsReplyTo op reply
IsReplyTo-Answers block_bytes position file (Pwrite offset []) reply answers = subst (λ (r : Reply). IsReplyTo (Pwrite offset []) r) (sym answers) tt
IsReplyTo-Answers block_bytes position file (Pwrite offset (byte ∷ bytes)) reply answers =
    write_kind (Pwrite offset (byte ∷ bytes)) _ _ _ _ _ _ reply (λ why kind. kind) tt answers
IsReplyTo-Answers block_bytes position file (Append []) reply answers = subst (λ (r : Reply). IsReplyTo (Append []) r) (sym answers) tt
IsReplyTo-Answers block_bytes position file (Append (byte ∷ bytes)) reply answers =
    write_kind (Append (byte ∷ bytes)) _ _ _ _ _ _ reply (λ why kind. kind) tt answers
IsReplyTo-Answers block_bytes position file (Pread offset count) reply answers = subst (λ (r : Reply). IsReplyTo (Pread offset count) r) (sym answers) tt
IsReplyTo-Answers block_bytes position file Size reply answers = subst (λ (r : Reply). IsReplyTo Size r) (sym answers) tt
IsReplyTo-Answers block_bytes position file Sync reply answers = subst (λ (r : Reply). IsReplyTo Sync r) (sym answers) tt
IsReplyTo-Answers block_bytes position file Collect reply answers = collect_kind reply answers
  where
    collect_kind : (reply : Reply) → AnswersCollect reply → IsReplyTo Collect reply
    collect_kind (Collected done) answers = answers
    collect_kind (NotCollected why) answers = tt
    collect_kind (Wrote count) answers = absurd answers
    collect_kind (Appended at count) answers = absurd answers
    collect_kind (NotWritten why) answers = absurd answers
    collect_kind (Bytes bytes) answers = absurd answers
    collect_kind (FileSize size) answers = absurd answers
    collect_kind (Synced last) answers = absurd answers

-- so the replies of a legal history are
pub HaveKinds-Legal : (block_bytes : ℕ) (file : List ℕ) (position : ℕ) (calls : List Call) → Legal block_bytes file position calls → HaveKinds calls
HaveKinds-Legal block_bytes file position [] legal = tt
HaveKinds-Legal block_bytes file position (call ∷ calls) legal =
    (IsReplyTo-Answers block_bytes position file call.op call.reply legal.0, HaveKinds-Legal block_bytes (file_after file call.op call.reply) (position_after position call.op call.reply) calls legal.2)

-- the calls are of one seat, and numbered from this number on
abbrev pub AreOfOneSeat : ℕ → ℕ → List Call → Type 0
AreOfOneSeat seat number [] = Unit {0}
AreOfOneSeat seat number (call ∷ calls) = (call.seat ≡ seat) × (call.number ≡ number) × AreOfOneSeat seat (number + 1) calls

-- a list stays in order behind an element that its first is not below
in_order-cons : (call : Call) (calls : List Call) → ((d : Call) → 0 < length calls → is_lt (place_cmp (place_of (get_or calls 0 d)) (place_of call)) ≡ false) → IsInOrder calls → IsInOrder (call ∷ calls)
in_order-cons call calls first rest zero d low high = first d (omega arith)
in_order-cons call calls first rest (suc k) d low high = simp add-one (simp add-one at (rest k d (omega arith) (omega arith)))

-- at the same position or a later one, what is no write stands behind what has a smaller number
not_below : (one two : Bool) (position number next_number seat next : ℕ) → position ≤ next → (two ≡ true → position < next) → number < next_number
    → is_lt (place_cmp (next, not two, seat, next_number) (position, not one, seat, number)) ≡ false
not_below true true position number next_number seat next low write numbers = let later : position < next = write refl in grind (arith, nat_tests)
not_below false true position number next_number seat next low write numbers = let later : position < next = write refl in grind (arith, nat_tests)
not_below true false position number next_number seat next low write numbers = grind (arith, nat_tests)
not_below false false position number next_number seat next low write numbers = grind (arith, nat_tests)

-- a call has its position or the next, and the next where it is a write
position-le : (position : ℕ) (op : Op) (reply : Reply) → position ≤ position_after position op reply
position-le position op reply = elim (is_write op reply) as (λ b. position ≤ cond b (position + 1) position) [ true ↦ omega arith | false ↦ omega arith ]

position-lt : (position : ℕ) (op : Op) (reply : Reply) → is_write op reply ≡ true → position < position_after position op reply
position-lt position op reply write = rw write (omega arith)

-- a call that stands right behind another
next_not_below : (position seat number : ℕ) (call next : Call) → call.position ≡ position → call.seat ≡ seat → call.number ≡ number → next.position ≡ position_after position next.op next.reply → next.seat ≡ seat → next.number ≡ number + 1
    → is_lt (place_cmp (place_of next) (place_of call)) ≡ false
next_not_below position seat number call next here of_seat numbered there same_seat next_number =
    let low : call.position ≤ next.position = omega (arith, position-le position next.op next.reply) in
    let write : is_write next.op next.reply ≡ true → call.position < next.position = λ w. omega (arith, position-lt position next.op next.reply w) in
    let same : call.seat ≡ next.seat = of_seat ∙ sym same_seat in
    rw same (not_below (is_write call.op call.reply) (is_write next.op next.reply) call.position call.number next.number next.seat next.position low write (omega arith))

-- a history of one seat whose calls are numbered in turn is in the order of a report
pub IsInOrder-one_seat : (block_bytes : ℕ) (file : List ℕ) (position seat number : ℕ) (calls : List Call) → Legal block_bytes file position calls → AreOfOneSeat seat number calls → IsInOrder calls
IsInOrder-one_seat block_bytes file position seat number [] legal one = λ k d low high. absurd (omega arith)
IsInOrder-one_seat block_bytes file position seat number (call ∷ []) legal one = λ k d low high. absurd (omega arith)
IsInOrder-one_seat block_bytes file position seat number (call ∷ next ∷ calls) legal one =
    in_order-cons call (next ∷ calls)
    (λ d low. next_not_below (position_after position call.op call.reply) seat number call next legal.1 one.0 one.1 legal.2.1 one.2.0 one.2.1)
    (IsInOrder-one_seat block_bytes (file_after file call.op call.reply) (position_after position call.op call.reply) seat (number + 1) (next ∷ calls) legal.2 one.2)
