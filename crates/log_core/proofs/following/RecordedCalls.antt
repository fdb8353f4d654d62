-- The records of all views of a core, with the writes that running calls have put in: each stands in the history, and each write is there once.
-- Once no call runs, none has put in anything.
use Rattle.std.proofs.Common.{◌≡◌, ◌≢◌, ◌⊎◌, inl, inr, ⊎_elim, ◌<◌, ◌≤◌, ◌+◌, ◌-◌, ◌==◌, ◌||◌, ◌&&◌, if◌then◌else◌, ℕ, suc, Bool, true, false, List, [], ◌∷◌, ◌++◌, length, refl, sym, ◌∙◌, ap, subst, arith, Option, Some, None}
use Rattle.std.specs.List.{AllByRecursion, flat_map}
use Rattle.std.proofs.lemmas.Bool.{lt-ltb, false_from_ne_true}
use Rattle.log_entry.specs.Legal.{Answers, is_write}
use Rattle.log_entry.specs.declared.calls.Op.{Op}
use Rattle.log_entry.specs.declared.calls.Op.TheVariants.{Pwrite, Append, Pread, Size, Sync, Collect, Collect as CollectOp}
use Rattle.log_entry.specs.declared.calls.Call.{Call}
use Rattle.log_image.specs.Chains.{is_listed}
use Rattle.log_image.proofs.ListLemmas.{each_join}
use Rattle.pmem_words.specs.declared.keeps.Task.{Task}
use Rattle.log_core.specs.Views.{View, HeadPut, view_of, op_in, op_of}
use Rattle.log_core.specs.Origin.{Origin, first_position, Generation}
use Rattle.log_core.specs.Files.{Write, no_write, write_at, call_of, accepted_reply, file_at, end_of}
use Rattle.log_core.specs.Cores.{Core}
use Rattle.log_core.specs.Records.{one_if, writes_at, count_in, parts_with, collected_in, collected_by, putting, running_at, SaysOfGenerations, RecordHolds}
use Rattle.log_core.specs.Histories.{recorded_calls, running_write, running_writes, running_collection, running_collections, running_calls}
use Rattle.log_core.specs.Following.{NoCallRuns}
use Rattle.log_core.specs.Invariant.{Invariant}
use Rattle.log_core.proofs.Each.{each_weaker, each_both, each_at}
use Rattle.log_core.proofs.HistoryFiles.{some_bytes, size_before, write_answers}
use Rattle.log_core.proofs.clauses.GrowCore.{position_low}
use Rattle.log_core.proofs.clauses.GrownRecords.{count_some, part_of}
use Rattle.log_core.proofs.clauses.JoinedParts.{writes_join, collected_join}
use Rattle.log_core.proofs.clauses.Others.{unspent_made}
use Rattle.log_core.proofs.kinds.IdleViews.{running_none}
use Rattle.log_core.proofs.following.Stands.{Stands}

-- what holds of each view by its place, holds of each of the list
pub each_view : (P : View → Type 0) (views : List View) → ((k : ℕ) → P (view_of views k)) → AllByRecursion P views
each_view P [] at = tt
each_view P (v ∷ views) at = (at 0, each_view P views (λ k. at (suc k)))

-- what holds of some calls of each view, holds of those of all
pub each_of_views : (P : Call → Type 0) (calls : View → List Call) (views : List View) → AllByRecursion (λ (v : View). AllByRecursion P (calls v)) views → AllByRecursion P (flat_map calls views)
each_of_views P calls [] all = tt
each_of_views P calls (v ∷ views) all = each_join P (calls v) (flat_map calls views) all.0 (each_of_views P calls views all.1)

-- what holds of each view's records, holds of all
pub each_record : (P : Call → Type 0) (views : List View) → AllByRecursion (λ (v : View). AllByRecursion P v.done) views → AllByRecursion P (recorded_calls views)
each_record P views all = each_of_views P (λ (v : View). v.done) views all

-- a position's writes in all views, with those of other calls of each, are as many as a seat is a part, where each view has it so
writes_over : (position seat : ℕ) (others : View → List Call) (views : List View) →
    AllByRecursion (λ (v : View). writes_at position v.done + writes_at position (others v) ≡ count_in v.parts seat) views →
    writes_at position (recorded_calls views) + writes_at position (flat_map others views) ≡ parts_with views seat
writes_over position seat others [] all = refl
writes_over position seat others (v ∷ views) all =
    (let both = writes_join position v.done (recorded_calls views) in let more = writes_join position (others v) (flat_map others views) in let rest = writes_over position seat others views all.1 in let here = all.0 in
    omega (arith, both, more, rest, here))

-- a generation is put in place as often as it is recorded, or put by a running collection
pub put_counted : (generation : ℕ) (v : View) (put : Option HeadPut) → collected_in generation (running_collection v put) ≡ putting generation put
put_counted generation v None = refl
put_counted generation v (Some head) = omega arith

pub collected_over : (generation : ℕ) (views : List View) → collected_in generation (recorded_calls views) + collected_in generation (running_collections views) ≡ collected_by generation views
collected_over generation [] = refl
collected_over generation (v ∷ views) =
    (let both = collected_join generation v.done (recorded_calls views) in let more = collected_join generation (running_collection v v.ghost.call.put) (running_collections views) in
    let rest = collected_over generation views in let here = put_counted generation v v.ghost.call.put in omega (arith, both, more, rest, here))

-- a list that has a seat once at most counts it where it is listed
count_listed : (parts : List ℕ) (seat : ℕ) → count_in parts seat ≤ 1 → one_if (is_listed parts seat) ≡ count_in parts seat
count_listed parts seat most = go (is_listed parts seat) refl
  where
    none : (others : List ℕ) → is_listed others seat ≡ false → count_in others seat ≡ 0
    none [] absent = refl
    none (part ∷ others) absent = by (part == seat) absent (λ rest. none others rest)
      where
        by : (b : Bool) → (b || is_listed others seat) ≡ false → (is_listed others seat ≡ false → count_in others seat ≡ 0) → one_if b + count_in others seat ≡ 0
        by true never rest = cc
        by false later rest = (let zero_more = rest later in omega (arith, zero_more))

    go : (b : Bool) → is_listed parts seat ≡ b → one_if (is_listed parts seat) ≡ count_in parts seat
    go true is = (let some = count_some parts seat is in let one = ap one_if is in omega (arith, some, most, one))
    go false is = (let no = ap one_if is in let zero_of = none parts is in omega (arith, no, zero_of))

no_parts : (parts : List ℕ) → (parts ≡ []) ⊎ (parts ≢ [])
no_parts [] = inl refl
no_parts (part ∷ parts) = inr (λ none. cc)

none_put : (put : Option HeadPut) → (put ≢ None → ⊥) → put ≡ None
none_put None never = refl
none_put (Some head) never = absurd (never (λ e. cc))

-- where no view has calls, all have none
none_of_views : (calls : View → List Call) (views : List View) → AllByRecursion (λ (v : View). calls v ≡ []) views → flat_map calls views ≡ []
none_of_views calls [] all = refl
none_of_views calls (v ∷ views) all = ap (λ (here : List Call). here ++ flat_map calls views) all.0 ∙ none_of_views calls views all.1

-- an accepted write says nothing of generations
write_says_nothing : (o : Origin) (generations : List Generation) (position : ℕ) (op : Op) (at : ℕ) → SaysOfGenerations o generations position (accepted_reply op at)
write_says_nothing o generations position (Pwrite offset bytes) at = tt
write_says_nothing o generations position (Append bytes) at = tt
write_says_nothing o generations position (Pread offset count) at = tt
write_says_nothing o generations position Size at = tt
write_says_nothing o generations position Sync at = tt
write_says_nothing o generations position Collect at = tt

module _ (o : Origin) (c : Core) (inv : Invariant o c) where
  view_records : (k : ℕ) → AllByRecursion (Stands o c.history c.generations) (view_of c.views k).done
  view_records k = each_weaker (λ (call : Call). RecordHolds o c.history c.generations call × Fits call) (Stands o c.history c.generations) (view_of c.views k).done
      (λ call both. record { holds = both.0; written = λ write. (both.1 write).2 })
      (each_both (RecordHolds o c.history c.generations) Fits (view_of c.views k).done (inv.records.records k) (inv.records.writes k).recorded)
    where
      Fits : Call → Type 0
      Fits call = is_write call.op call.reply ≡ true → (first_position o < call.position) × (call.position ≤ end_of o c.history) × (call ≡ call_of call.position (write_at o c.history call.position))

  -- each record stands in the history
  pub records_stand : AllByRecursion (Stands o c.history c.generations) (recorded_calls c.views)
  records_stand = each_record (Stands o c.history c.generations) c.views (each_view (λ (v : View). AllByRecursion (Stands o c.history c.generations) v.done) c.views view_records)

  -- and so does each write of it
  write_stands : (position : ℕ) → first_position o < position → position ≤ end_of o c.history → Stands o c.history c.generations (call_of position (write_at o c.history position))
  write_stands position late upto = record {
    holds = record {
      to_end = upto;
      from_first = omega (arith, late);
      write_after = λ write. late;
      answers = subst (λ (p : ℕ). Answers o.geometry.block_bytes p (file_at o c.history p) w.op (accepted_reply w.op w.at))
          (sym (ap (λ (b : Bool). if b then position - 1 else position) (some_bytes o c inv position late upto))) (write_answers o c inv position late upto);
      of_generations = write_says_nothing o c.generations position w.op w.at;
    };
    written = λ write. refl;
  }
    where
      w : Write
      w = write_at o c.history position

  -- the write that a view's running call has put in, if it has
  abbrev pub put_in : View → List Call
  put_in v = running_write o c.history v v.seat.calling.won (op_in v.seat)

  module _ (k : ℕ) (won : (view_of c.views k).seat.calling.won ≡ true) where
    abbrev v : View
    v = view_of c.views k

    abbrev at : ℕ
    at = v.seat.walk.position

    abbrev mine : Write
    mine = write_at o c.history at

    at_late : first_position o < at
    at_late = ((inv.records.writes k).running won).0

    at_upto : at ≤ end_of o c.history
    at_upto = position_low o c inv k

    -- it is the history's
    pub put_in_is : put_in v ≡ call_of at mine ∷ []
    put_in_is = ap (λ (b : Bool). running_write o c.history v b (op_in v.seat)) won
        ∙ (ap (λ (op : Option Op). running_write o c.history v true op) ((inv.records.writes k).running won).3
        ∙ (ap (λ (seat : ℕ). called seat v.ghost.call.number (length (file_at o c.history (at - 1)))) (sym ((inv.records.writes k).running won).1)
        ∙ (ap (λ (number : ℕ). called mine.seat number (length (file_at o c.history (at - 1)))) (sym ((inv.records.writes k).running won).2)
        ∙ ap (λ (size : ℕ). called mine.seat mine.number size) (sym (size_before o c inv at at_late at_upto)))))
      where
        called : ℕ → ℕ → ℕ → List Call
        called seat number size = record { position = at; seat = seat; number = number; op = mine.op; reply = accepted_reply mine.op size } ∷ []

    won_counted : (position : ℕ) → writes_at position (put_in v) ≡ running_at position v.seat
    won_counted position =
        (let same = ap (λ (calls : List Call). writes_at position calls) put_in_is in
        let write = ap (λ (b : Bool). one_if (b && (at == position))) (some_bytes o c inv at at_late at_upto) in
        let runs = ap (λ (b : Bool). one_if (b && (at == position))) won in
        omega (arith, same, write, runs))

  -- a view whose call has put in none has none
  pub none_put_in : (v : View) → v.seat.calling.won ≡ false → put_in v ≡ []
  none_put_in v none = ap (λ (b : Bool). running_write o c.history v b (op_in v.seat)) none

  -- what holds of the write of each view whose running call has put one in, holds of them all
  pub each_running : (P : Call → Type 0) → ((k : ℕ) → (view_of c.views k).seat.calling.won ≡ true →
      P (call_of (view_of c.views k).seat.walk.position (write_at o c.history (view_of c.views k).seat.walk.position))) → AllByRecursion P (running_writes o c)
  each_running P here = each_of_views P put_in c.views (each_view (λ (v : View). AllByRecursion P (put_in v)) c.views (λ k. by k (view_of c.views k).seat.calling.won refl))
    where
      by : (k : ℕ) (b : Bool) → (view_of c.views k).seat.calling.won ≡ b → AllByRecursion P (put_in (view_of c.views k))
      by k true won = subst (λ (calls : List Call). AllByRecursion P calls) (sym (put_in_is k won)) (here k won, tt)
      by k false none = subst (λ (calls : List Call). AllByRecursion P calls) (sym (none_put_in (view_of c.views k) none)) tt

  put_in_counted : (k position : ℕ) → writes_at position (put_in (view_of c.views k)) ≡ running_at position (view_of c.views k).seat
  put_in_counted k position = by (view_of c.views k).seat.calling.won refl
    where
      by : (b : Bool) → (view_of c.views k).seat.calling.won ≡ b → writes_at position (put_in (view_of c.views k)) ≡ running_at position (view_of c.views k).seat
      by true won = won_counted k won position
      by false none = ap (λ (calls : List Call). writes_at position calls) (none_put_in (view_of c.views k) none) ∙ sym (running_none position (view_of c.views k).seat none)

  -- each write that a running call has put in stands in the history
  pub running_stand : AllByRecursion (Stands o c.history c.generations) (running_writes o c)
  running_stand = each_running (Stands o c.history c.generations) (λ k won. write_stands (view_of c.views k).seat.walk.position (at_late k won) (at_upto k won))

  module _ (position : ℕ) (late : first_position o < position) (upto : position ≤ end_of o c.history) where
    abbrev writer : ℕ
    writer = (write_at o c.history position).seat

    writer_made : writer < length c.views
    writer_made = each_at (λ (w : Write). w.seat < length c.views) c.history no_write (position - (first_position o + 1)) (omega (arith, late, upto)) inv.records.seats_once.writes

    one_part : parts_with c.views writer ≡ 1
    one_part = inv.records.seats_once.once writer ∙ ap one_if (lt-ltb writer (length c.views) writer_made)

    in_view : (k : ℕ) → writes_at position (view_of c.views k).done + writes_at position (put_in (view_of c.views k)) ≡ count_in (view_of c.views k).parts writer
    in_view k = ⊎_elim
        (λ (none : (view_of c.views k).parts ≡ []). (let spent = inv.sizes.spent k none in
        subst (λ (v : View). writes_at position v.done + writes_at position (put_in v) ≡ count_in v.parts writer) (sym spent) refl))
        (λ (some : (view_of c.views k).parts ≢ []).
        (let most = part_of c.views k writer (unspent_made c.views k some) in
        let one = one_part in
        let listed = count_listed (view_of c.views k).parts writer (omega (arith, most, one)) in
        let counted = inv.records.writes_once k some position late upto in
        let running = put_in_counted k position in
        omega (arith, listed, counted, running)))
        (no_parts (view_of c.views k).parts)

    -- the write of each position is there once: recorded, or put in by a running call
    pub written_once : writes_at position (recorded_calls c.views) + writes_at position (running_writes o c) ≡ 1
    written_once = writes_over position writer put_in c.views (each_view (λ (v : View). writes_at position v.done + writes_at position (put_in v) ≡ count_in v.parts writer) c.views in_view) ∙ one_part

  module _ (idle : NoCallRuns c) where
    -- no view has put in an entry, or a head, that has no record
    not_won : (k : ℕ) → (view_of c.views k).seat.calling.won ≡ false
    not_won k = false_from_ne_true (view_of c.views k).seat.calling.won (λ won. (inv.records.calls k).task.won_runs won (idle k))

    not_put : (k : ℕ) → (view_of c.views k).ghost.call.put ≡ None
    not_put k = none_put (view_of c.views k).ghost.call.put (λ some.
        (let runs : op_in (view_of c.views k).seat ≡ Some CollectOp = ap (λ (job : Task). op_of job (view_of c.views k).seat.calling.bytes) ((inv.records.calls k).task.put_collects some) in
        let mixed : Some CollectOp ≡ None = sym runs ∙ idle k in cc))

    none_writing : running_writes o c ≡ []
    none_writing = none_of_views put_in c.views (each_view (λ (v : View). put_in v ≡ []) c.views (λ k. none_put_in (view_of c.views k) (not_won k)))

    none_collecting : running_collections c.views ≡ []
    none_collecting = none_of_views (λ (v : View). running_collection v v.ghost.call.put) c.views
        (each_view (λ (v : View). running_collection v v.ghost.call.put ≡ []) c.views (λ k. ap (λ (put : Option HeadPut). running_collection (view_of c.views k) put) (not_put k)))

    pub none_running : running_calls o c ≡ []
    none_running = ap (λ (writes : List Call). writes ++ running_collections c.views) none_writing ∙ none_collecting
