-- Calls of which each has the reply that comes at its position, each position's write once among them, are a legal history once they rise.
use Rattle.std.proofs.Common.{◌≡◌, ◌≢◌, ⊎_elim, ◌<◌, ◌≤◌, ◌+◌, ◌-◌, ◌==◌, ◌&&◌, ℕ, Bool, true, false, not, if◌then◌else◌, List, [], ◌∷◌, refl, sym, ◌∙◌, ap, subst, arith, append-nil}
use Rattle.std.specs.List.{AllByRecursion}
use Rattle.std.proofs.lemmas.Bool.{cases_lt, eq-eqb, ne_eqb}
use Rattle.log_entry.specs.Legal.{Answers, is_write, file_after, position_after, Legal, last_file, last_position_of}
use Rattle.log_entry.specs.declared.calls.Op.{Op}
use Rattle.log_entry.specs.declared.calls.Op.TheVariants.{Pwrite, Append, Pread, Size, Sync, Collect}
use Rattle.log_entry.specs.declared.calls.Reply.{Reply}
use Rattle.log_entry.specs.declared.calls.Reply.TheVariants.{Wrote, Appended, NotWritten, Bytes, Size as FileSize, Synced, Collected, NotCollected}
use Rattle.log_entry.specs.declared.calls.Call.{Call}
use Rattle.log_core.specs.Origin.{Origin, first_position, Generation}
use Rattle.log_core.specs.Files.{Write, write_at, call_of, accepted_reply, file_at, end_of}
use Rattle.log_core.specs.Records.{one_if, writes_at, RecordHolds}
use Rattle.log_core.proofs.HistoryFiles.{file_next}
use Rattle.log_core.proofs.following.Rising.{place_number, AllFrom, Rises}

-- a call that is no write changes no file
kept_file : (file : List ℕ) (op : Op) (reply : Reply) → is_write op reply ≡ false → file_after file op reply ≡ file
kept_file file (Pwrite offset []) (Wrote count) none = refl
kept_file file (Pwrite offset (byte ∷ bytes)) (Wrote count) none = cc
kept_file file (Pwrite offset bytes) (Appended at count) none = refl
kept_file file (Pwrite offset bytes) (NotWritten why) none = refl
kept_file file (Pwrite offset bytes) (Bytes read) none = refl
kept_file file (Pwrite offset bytes) (FileSize size) none = refl
kept_file file (Pwrite offset bytes) (Synced position) none = refl
kept_file file (Pwrite offset bytes) (Collected done) none = refl
kept_file file (Pwrite offset bytes) (NotCollected why) none = refl
kept_file file (Append []) (Appended at count) none = append-nil file
kept_file file (Append (byte ∷ bytes)) (Appended at count) none = cc
kept_file file (Append bytes) (Wrote count) none = refl
kept_file file (Append bytes) (NotWritten why) none = refl
kept_file file (Append bytes) (Bytes read) none = refl
kept_file file (Append bytes) (FileSize size) none = refl
kept_file file (Append bytes) (Synced position) none = refl
kept_file file (Append bytes) (Collected done) none = refl
kept_file file (Append bytes) (NotCollected why) none = refl
kept_file file (Pread offset count) reply none = refl
kept_file file Size reply none = refl
kept_file file Sync reply none = refl
kept_file file Collect reply none = refl

-- no write of a position is among calls that all stand behind it
pub none_behind : (place position : ℕ) (calls : List Call) → position + position < place → AllFrom place calls → writes_at position calls ≡ 0
none_behind place position [] low all = refl
none_behind place position (call ∷ calls) low all = (let rest = none_behind place position calls low all.1 in let here = go (is_write call.op call.reply) all.0 in omega (arith, here, rest))
  where
    go : (write : Bool) → place ≤ call.position + call.position + one_if (not write) → one_if (write && (call.position == position)) ≡ 0
    go true later = ap one_if (ne_eqb call.position position (λ same. omega (arith, same, later, low)))
    go false later = refl

-- where a position has no write among calls, those from its write's place on stand behind that
behind_write : (position : ℕ) (calls : List Call) → writes_at position calls ≡ 0 → AllFrom (position + position) calls → AllFrom (position + position + 1) calls
behind_write position [] none all = tt
behind_write position (call ∷ calls) none all = (go (is_write call.op call.reply) (omega (arith, none)) all.0, behind_write position calls (omega (arith, none)) all.1)
  where
    go : (write : Bool) → one_if (write && (call.position == position)) ≡ 0 → position + position ≤ call.position + call.position + one_if (not write) →
        position + position + 1 ≤ call.position + call.position + one_if (not write)
    go true counts later = (let apart : call.position ≢ position = (λ same. (let one = ap one_if (eq-eqb call.position position same) in omega (arith, one, counts))) in omega (arith, apart, later))
    go false counts later = omega (arith, later)

-- a legal history from a file and a position, and where it ends
pub record LeadsTo (block_bytes : ℕ) (file : List ℕ) (position : ℕ) (calls : List Call) (last : List ℕ) (end : ℕ) : Type 0 where
  pub legal : Legal block_bytes file position calls
  pub end_is : last_position_of position calls ≡ end
  pub last_is : last_file file calls ≡ last

-- one call more before it
lead : (block_bytes : ℕ) (file next_file : List ℕ) (position next : ℕ) (call : Call) (calls : List Call) (last : List ℕ) (end : ℕ) →
    Answers block_bytes position file call.op call.reply → call.position ≡ next → file_after file call.op call.reply ≡ next_file → position_after position call.op call.reply ≡ next →
    LeadsTo block_bytes next_file next calls last end → LeadsTo block_bytes file position (call ∷ calls) last end
lead block_bytes file next_file position next call calls last end answers at file_is next_is rest = record {
  legal = (answers, at ∙ sym next_is, there.legal);
  end_is = there.end_is;
  last_is = there.last_is;
}
  where
    there : LeadsTo block_bytes (file_after file call.op call.reply) (position_after position call.op call.reply) calls last end
    there = subst (λ (f : List ℕ). LeadsTo block_bytes f (position_after position call.op call.reply) calls last end) (sym file_is)
        (subst (λ (p : ℕ). LeadsTo block_bytes next_file p calls last end) (sym next_is) rest)

module _ (o : Origin) (history : List Write) (generations : List Generation) where
  abbrev pub finish : ℕ
  finish = end_of o history

  -- a call that stands in the history: it holds, and where it is a write it is the history's of its position
  pub record Stands (call : Call) : Type 0 where
    pub holds : RecordHolds o history generations call
    pub written : is_write call.op call.reply ≡ true → call ≡ call_of call.position (write_at o history call.position)

  abbrev pub Leads : ℕ → List Call → Type 0
  Leads position calls = LeadsTo o.geometry.block_bytes (file_at o history position) position calls (file_at o history finish) finish

  -- what is left of the calls when a position is reached: they stand behind its write, and have the write of each later position once
  pub record Left (position : ℕ) (calls : List Call) : Type 0 where
    pub from_first : first_position o ≤ position
    pub to_end : position ≤ finish
    pub all : AllByRecursion Stands calls
    pub rises : Rises calls
    pub behind : AllFrom (position + position + 1) calls
    pub once : (later : ℕ) → position < later → later ≤ finish → writes_at later calls ≡ 1

  -- the next call is the next write, or one at the position
  module _ (position : ℕ) (call : Call) (calls : List Call) (left : Left position (call ∷ calls)) where
    abbrev Head : Stands call
    Head = left.all.0

    -- the next write is there, if there is one
    next_once : position < finish → writes_at (position + 1) (call ∷ calls) ≡ 1
    next_once more = left.once (position + 1) (omega arith) (omega (arith, more))

    write_case : is_write call.op call.reply ≡ true → ((position + 1 ≡ call.position) × Left (position + 1) calls)
    write_case write = (
      at,
      record {
        from_first = (let low = left.from_first in omega (arith, low));
        to_end = (let upto = Head.holds.to_end in omega (arith, at, upto));
        all = left.all.1;
        rises = left.rises.1;
        behind = behind_write (position + 1) calls (let one = next_once more in let here = counted in omega (arith, one, here))
            (subst (λ (place : ℕ). AllFrom place calls) (let place = place_is in omega (arith, place, at)) left.rises.0);
        once = λ later less upto. (let one = left.once later (omega (arith, less)) upto in let here = not_counted later (λ same. omega (arith, same, at, less)) in omega (arith, one, here));
      },
    )
      where
        place_is : place_number call ≡ call.position + call.position
        place_is = (let kind = ap (λ (b : Bool). one_if (not b)) write in omega (arith, kind))

        after : position < call.position
        after = (let place = place_is in let behind = left.behind.0 in omega (arith, place, behind))

        more : position < finish
        more = (let upto = Head.holds.to_end in let less = after in omega (arith, upto, less))

        not_counted : (other : ℕ) → call.position ≢ other → one_if (is_write call.op call.reply && (call.position == other)) ≡ 0
        not_counted other apart = ap (λ (b : Bool). one_if (b && (call.position == other))) write ∙ ap one_if (ne_eqb call.position other apart)

        at : position + 1 ≡ call.position
        at = ⊎_elim
            (λ past. (let here = not_counted (position + 1) (λ same. omega (arith, same, past)) in let rest = none_behind (place_number call) (position + 1) calls (let place = place_is in omega (arith, place, past)) left.rises.0 in
            let one = next_once more in omega (arith, here, rest, one)))
            (λ upto. (let less = after in omega (arith, upto, less)))
            (cases_lt (position + 1) call.position)

        counted : one_if (is_write call.op call.reply && (call.position == position + 1)) ≡ 1
        counted = ap (λ (b : Bool). one_if (b && (call.position == position + 1))) write ∙ ap one_if (eq-eqb call.position (position + 1) (sym at))

    other_case : is_write call.op call.reply ≡ false → ((position ≡ call.position) × Left position calls)
    other_case none = (
      at,
      record {
        from_first = left.from_first;
        to_end = left.to_end;
        all = left.all.1;
        rises = left.rises.1;
        behind = subst (λ (place : ℕ). AllFrom place calls) (let place = place_is in omega (arith, place, at)) left.rises.0;
        once = λ later less upto. (let one = left.once later less upto in let here = not_counted later in omega (arith, one, here));
      },
    )
      where
        place_is : place_number call ≡ call.position + call.position + 1
        place_is = (let kind = ap (λ (b : Bool). one_if (not b)) none in omega (arith, kind))

        not_counted : (other : ℕ) → one_if (is_write call.op call.reply && (call.position == other)) ≡ 0
        not_counted other = ap (λ (b : Bool). one_if (b && (call.position == other))) none

        at : position ≡ call.position
        at = ⊎_elim
            (λ past. (let here = not_counted (position + 1) in let rest = none_behind (place_number call) (position + 1) calls (let place = place_is in omega (arith, place, past)) left.rises.0 in
            let one = next_once (let upto = Head.holds.to_end in omega (arith, upto, past)) in omega (arith, here, rest, one)))
            (λ upto. (let place = place_is in let behind = left.behind.0 in omega (arith, upto, place, behind)))
            (cases_lt position call.position)

  pub legal_from : (position : ℕ) (calls : List Call) → Left position calls → Leads position calls
  legal_from position [] left = record { legal = tt; end_is = ended; last_is = ap (λ (p : ℕ). file_at o history p) ended }
    where
      ended : position ≡ finish
      ended = ⊎_elim (λ more. (let one = left.once (position + 1) (omega arith) (omega (arith, more)) in omega (arith, one))) (λ upto. (let most = left.to_end in omega (arith, upto, most))) (cases_lt position finish)
  legal_from position (call ∷ calls) left = by (λ place rest. legal_from place calls rest) (is_write call.op call.reply) refl
    where
      stands : Stands call
      stands = left.all.0

      answers_at : (b : Bool) → is_write call.op call.reply ≡ b → (if b then call.position - 1 else call.position) ≡ position →
          Answers o.geometry.block_bytes position (file_at o history position) call.op call.reply
      answers_at b kind before = subst (λ (p : ℕ). Answers o.geometry.block_bytes p (file_at o history p) call.op call.reply)
          (ap (λ (write : Bool). if write then call.position - 1 else call.position) kind ∙ before) stands.holds.answers

      by : ((place : ℕ) → Left place calls → Leads place calls) → (b : Bool) → is_write call.op call.reply ≡ b → Leads position (call ∷ calls)
      by later true write = (let next = write_case position call calls left write in
          lead o.geometry.block_bytes (file_at o history position) (file_at o history (position + 1)) position (position + 1) call calls (file_at o history finish) finish
          (answers_at true write (let at = next.0 in omega (arith, at))) (sym next.0) (written_file write next.0) (ap (λ (b : Bool). if b then position + 1 else position) write)
          (later (position + 1) next.1))
        where
          written_file : is_write call.op call.reply ≡ true → position + 1 ≡ call.position → file_after (file_at o history position) call.op call.reply ≡ file_at o history (position + 1)
          written_file write at = (let is = stands.written write in
              ap (λ (other : Call). file_after (file_at o history position) other.op other.reply) is
              ∙ (sym (file_next o history call.position (stands.holds.write_after write) stands.holds.to_end ∙ ap (λ (p : ℕ). file_after (file_at o history p) (write_at o history call.position).op (accepted_reply (write_at o history call.position).op (write_at o history call.position).at)) (omega (arith, at)))
              ∙ ap (λ (p : ℕ). file_at o history p) (sym at)))
      by later false none = (let next = other_case position call calls left none in
          lead o.geometry.block_bytes (file_at o history position) (file_at o history position) position position call calls (file_at o history finish) finish
          (answers_at false none (sym next.0)) (sym next.0) (kept_file (file_at o history position) call.op call.reply none) (ap (λ (b : Bool). if b then position + 1 else position) none)
          (later position next.1))
