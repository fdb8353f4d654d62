-- A quiet call of a run stands in the history: it is no write and no collection, at a position that its view had come to.
use Rattle.std.proofs.Common.{◌≡◌, ◌≤◌, ◌+◌, ◌-◌, ◌==◌, nat_lt, if◌then◌else◌, ℕ, Bool, true, false, List, [], ◌∷◌, length, refl, sym, ◌∙◌, ap, subst, arith, Some, None}
use Rattle.std.proofs.lemmas.Bool.{false≢true}
use Rattle.log_entry.specs.Shape.{longest_of, limit_of}
use Rattle.log_entry.specs.Legal.{Answers, AnswersWrite, is_write, last_position, touched_blocks, appended_blocks}
use Rattle.log_entry.specs.declared.calls.Op.{Op}
use Rattle.log_entry.specs.declared.calls.Op.TheVariants.{Pwrite, Append, Pread, Size, Sync, Collect}
use Rattle.log_entry.specs.declared.calls.WriteRefusal.{WriteRefusal}
use Rattle.log_entry.specs.declared.calls.WriteRefusal.TheVariants.{TooLong, TooLarge, PositionLimit}
use Rattle.log_entry.specs.declared.calls.Reply.{Reply}
use Rattle.log_entry.specs.declared.calls.Reply.TheVariants.{Wrote, NotWritten}
use Rattle.log_entry.specs.declared.calls.Call.{Call}
use Rattle.log_core.specs.Views.{View, view_of}
use Rattle.log_core.specs.Origin.{Origin, first_position, Generation}
use Rattle.log_core.specs.Files.{file_at, end_of}
use Rattle.log_core.specs.Cores.{Core}
use Rattle.log_core.specs.Works.{is_quiet}
use Rattle.log_core.specs.Steps.{Step}
use Rattle.log_core.specs.Records.{collects, SaysOfGenerations, RecordHolds}
use Rattle.log_core.specs.Runs.{IsRun, end}
use Rattle.log_core.specs.Starts.{IsStart}
use Rattle.log_core.specs.Invariant.{Invariant}
use Rattle.log_core.specs.Histories.{IsQuietCall}
use Rattle.log_core.proofs.Each.{each_weaker}
use Rattle.log_core.proofs.starts.StartMeets.{start_meets}
use Rattle.log_core.proofs.clauses.Others.{unspent_made}
use Rattle.log_core.proofs.kinds.RunHolds.{run_from}
use Rattle.log_core.proofs.following.Greatest.{greatest_low, greatest_high}
use Rattle.log_core.proofs.following.Stands.{Stands}
use Rattle.log_core.proofs.following.Moments.{earlier_run, history_grows}

-- what a quiet call is answered: that no bytes were written, or a refusal
refused_by : (P : Reply → Type 0) (long large last : Bool) (blocks size : ℕ) (accepted reply : Reply) → (if long then true else large) ≡ true →
    AnswersWrite (if long then Some (TooLong blocks) else if large then Some (TooLarge size) else if last then Some PositionLimit else None) accepted reply →
    ((why : WriteRefusal) → P (NotWritten why)) → P reply
refused_by P true large last blocks size accepted reply some answers refused = subst P (sym answers) (refused (TooLong blocks))
refused_by P false true last blocks size accepted reply some answers refused = subst P (sym answers) (refused (TooLarge size))
refused_by P false false last blocks size accepted reply some answers refused = cc

long_by : (long large : Bool) → long ≡ true → (if long then true else large) ≡ true
long_by true large is = refl
long_by false large is = cc

quiet_answers : (P : Op → Reply → Type 0) → ((offset : ℕ) → P (Pwrite offset []) (Wrote 0)) → ((op : Op) (why : WriteRefusal) → P op (NotWritten why)) →
    (block_bytes position : ℕ) (file : List ℕ) (op : Op) (reply : Reply) → is_quiet block_bytes op ≡ true → Answers block_bytes position file op reply → P op reply
quiet_answers P wrote refused block_bytes position file (Pwrite offset []) reply quiet answers = subst (λ (r : Reply). P (Pwrite offset []) r) (sym answers) (wrote offset)
quiet_answers P wrote refused block_bytes position file (Pwrite offset (byte ∷ bytes)) reply quiet answers =
    refused_by (λ (r : Reply). P (Pwrite offset (byte ∷ bytes)) r) (nat_lt (longest_of block_bytes) (touched_blocks block_bytes offset (length (byte ∷ bytes)))) (nat_lt (limit_of block_bytes) (offset + length (byte ∷ bytes)))
    (position == last_position) (touched_blocks block_bytes offset (length (byte ∷ bytes))) (offset + length (byte ∷ bytes)) (Wrote (length (byte ∷ bytes))) reply quiet answers (λ why. refused (Pwrite offset (byte ∷ bytes)) why)
quiet_answers P wrote refused block_bytes position file (Append []) reply quiet answers = cc
quiet_answers P wrote refused block_bytes position file (Append (byte ∷ bytes)) reply quiet answers =
    refused_by (λ (r : Reply). P (Append (byte ∷ bytes)) r) (nat_lt (longest_of block_bytes) (appended_blocks block_bytes (length (byte ∷ bytes)))) (nat_lt (limit_of block_bytes) (length file + length (byte ∷ bytes)))
    (position == last_position) (appended_blocks block_bytes (length (byte ∷ bytes))) (length file + length (byte ∷ bytes)) _ reply
    (long_by (nat_lt (longest_of block_bytes) (appended_blocks block_bytes (length (byte ∷ bytes)))) (nat_lt (limit_of block_bytes) (length file + length (byte ∷ bytes))) quiet) answers (λ why. refused (Append (byte ∷ bytes)) why)
quiet_answers P wrote refused block_bytes position file (Pread offset count) reply quiet answers = cc
quiet_answers P wrote refused block_bytes position file Size reply quiet answers = cc
quiet_answers P wrote refused block_bytes position file Sync reply quiet answers = cc
quiet_answers P wrote refused block_bytes position file Collect reply quiet answers = cc

refused_no_write : (op : Op) (why : WriteRefusal) → is_write op (NotWritten why) ≡ false
refused_no_write (Pwrite offset bytes) why = refl
refused_no_write (Append bytes) why = refl
refused_no_write (Pread offset count) why = refl
refused_no_write Size why = refl
refused_no_write Sync why = refl
refused_no_write Collect why = refl

module _ (o : Origin) (steps : List Step) (start : IsStart o) (run : IsRun o steps) (generations : List Generation) (call : Call) (quiet : IsQuietCall o steps (end o steps) call) where
  abbrev last : Core
  last = end o steps

  abbrev position : ℕ
  position = call.position

  -- the core at the moment, and the seat's view there
  abbrev moment : Core
  moment = end o quiet.earlier

  abbrev v : View
  v = view_of moment.views call.seat

  inv : Invariant o moment
  inv = run_from o quiet.earlier (start_meets o start) (earlier_run o quiet.later quiet.earlier (subst (λ (all : List Step). IsRun o all) quiet.moment run))

  longer : length moment.history ≤ length last.history
  longer = subst (λ (all : List Step). length moment.history ≤ length (end o all).history) (sym quiet.moment) (history_grows o quiet.later quiet.earlier)

  first_is : v.first ≡ first_position o
  first_is = (inv.sizes.each call.seat (unspent_made moment.views call.seat quiet.made.unspent) quiet.made.unspent).first

  from_first : first_position o ≤ position
  from_first = (let low = greatest_low v.first v.done in let first = first_is in let at = quiet.made.position in omega (arith, low, first, at))

  to_end : position ≤ end_of o last.history
  to_end = (let first = first_is in
      let high = greatest_high v.first (end_of o moment.history) v.done (omega (arith, first))
      (each_weaker (RecordHolds o moment.history moment.generations) (λ (other : Call). other.position ≤ end_of o moment.history) v.done (λ other holds. holds.to_end) (inv.records.records call.seat)) in
      let at = quiet.made.position in let more = longer in omega (arith, high, at, more))

  pub no_write_quiet : is_write call.op call.reply ≡ false
  no_write_quiet = quiet_answers (λ (op : Op) (reply : Reply). is_write op reply ≡ false) (λ offset. refl) refused_no_write o.geometry.block_bytes position (file_at o last.history position) call.op call.reply quiet.quiet quiet.answers

  pub no_collection_quiet : (generation : ℕ) → collects generation call.reply ≡ 0
  no_collection_quiet generation = quiet_answers (λ (op : Op) (reply : Reply). collects generation reply ≡ 0) (λ offset. refl) (λ op why. refl) o.geometry.block_bytes position (file_at o last.history position) call.op call.reply quiet.quiet quiet.answers

  says : SaysOfGenerations o generations position call.reply
  says = quiet_answers (λ (op : Op) (reply : Reply). SaysOfGenerations o generations position reply) (λ offset. tt) (λ op why. tt) o.geometry.block_bytes position (file_at o last.history position) call.op call.reply quiet.quiet quiet.answers

  pub quiet_stands : Stands o last.history generations call
  quiet_stands = record {
    holds = record {
      to_end = to_end;
      from_first = from_first;
      write_after = λ write. absurd (false≢true (sym no_write_quiet ∙ write));
      answers = subst (λ (p : ℕ). Answers o.geometry.block_bytes p (file_at o last.history p) call.op call.reply) (sym (ap (λ (b : Bool). if b then call.position - 1 else call.position) no_write_quiet)) quiet.answers;
      of_generations = says;
    };
    written = λ write. absurd (false≢true (sym no_write_quiet ∙ write));
  }
