-- What running calls have put in that has no record yet, their writes and their collections: each was seen at a step of its own call, and each
-- seat has one at most; and the collections stand in the history at their snapshots' positions.
use Rattle.std.proofs.Common.{◌≡◌, ◌≢◌, ◌<◌, ◌≤◌, ◌+◌, ◌-◌, ◌==◌, ◌&&◌, nat_lt, ℕ, Bool, true, false, List, [], ◌∷◌, length, Option, Some, None, refl, sym, ◌∙◌, ap, subst, arith}
use Rattle.std.specs.List.{AllByRecursion, flat_map}
use Rattle.std.proofs.lemmas.Bool.{eqb-true, false_from_ne_true}
use Rattle.log_entry.specs.Legal.{is_write}
use Rattle.log_entry.specs.declared.calls.Op.{Op}
use Rattle.log_entry.specs.declared.calls.Op.TheVariants.{Pwrite, Append, Pread, Size, Sync, Collect, Collect as CollectOp}
use Rattle.log_entry.specs.declared.calls.Call.{Call}
use Rattle.log_image.specs.Chains.{is_listed}
use Rattle.log_image.proofs.ListLemmas.{each_join}
use Rattle.pmem_words.specs.declared.keeps.Task.{Task}
use Rattle.log_core.specs.Views.{View, HeadPut, view_of, op_in, op_of}
use Rattle.log_core.specs.Origin.{Origin, first_generation}
use Rattle.log_core.specs.Files.{Write, write_at, call_of, accepted_reply}
use Rattle.log_core.specs.Cores.{Core}
use Rattle.log_core.specs.Steps.{Step}
use Rattle.log_core.specs.Order.{nth_generation}
use Rattle.log_core.specs.Records.{one_if, writes_at, count_in, parts_with}
use Rattle.log_core.specs.Runs.{IsRun, end}
use Rattle.log_core.specs.Starts.{IsStart}
use Rattle.log_core.specs.Invariant.{Invariant}
use Rattle.log_core.specs.Histories.{running_writes, running_collection, running_collections, running_calls}
use Rattle.log_core.specs.Following.{IsSeen}
use Rattle.log_core.proofs.HistoryFiles.{some_bytes}
use Rattle.log_core.proofs.clauses.GrowCore.{position_low}
use Rattle.log_core.proofs.clauses.GrownRecords.{count_some}
use Rattle.log_core.proofs.clauses.JoinedParts.{one_most, writes_join}
use Rattle.log_core.proofs.clauses.Others.{unspent_made}
use Rattle.log_core.proofs.starts.StartMeets.{start_meets}
use Rattle.log_core.proofs.kinds.RunHolds.{run_from}
use Rattle.log_core.proofs.following.Seen.{AllSeen, seen_as}
use Rattle.log_core.proofs.following.SeenCalls.{seen_run}
use Rattle.log_core.proofs.following.Stands.{Stands}
use Rattle.log_core.proofs.following.NumbersRise.{count_calls}
use Rattle.log_core.proofs.following.CountedCalls.{count_join}
use Rattle.log_core.proofs.following.RecordedCalls.{each_view, each_of_views, each_running, put_in, put_in_is, none_put_in, running_stand}
use Rattle.log_core.proofs.following.StoppedRuns.{no_writes}
use Rattle.log_core.proofs.following.StoppedSeats.{IsRunning}

-- in some calls of all views, of two kinds, a seat and number is counted as often as the seat is a part at most
both_over : (seat number : ℕ) (calls others : View → List Call) (views : List View) → AllByRecursion (λ (v : View). count_calls seat number (calls v) + count_calls seat number (others v) ≤ count_in v.parts seat) views →
    count_calls seat number (flat_map calls views) + count_calls seat number (flat_map others views) ≤ parts_with views seat
both_over seat number calls others [] all = omega arith
both_over seat number calls others (v ∷ views) all =
    (let both = count_join seat number (calls v) (flat_map calls views) in let more = count_join seat number (others v) (flat_map others views) in
    let rest = both_over seat number calls others views all.1 in let here = all.0 in omega (arith, both, more, rest, here))

-- a collection is no write
collects_none : (op : Op) (at : ℕ) → is_write op (accepted_reply op at) ≡ true → Some op ≡ Some CollectOp → ⊥
collects_none op at write is = go op at write (ap (λ (asked : Option Op). is_collect asked) is)
  where
    is_collect : Option Op → Bool
    is_collect None = false
    is_collect (Some Collect) = true
    is_collect (Some other) = false

    go : (op : Op) (at : ℕ) → is_write op (accepted_reply op at) ≡ true → is_collect (Some op) ≡ true → ⊥
    go Collect at write is = (let never : false ≡ true = write in cc)
    go (Pwrite offset bytes) at write is = (let never : false ≡ true = is in cc)
    go (Append bytes) at write is = (let never : false ≡ true = is in cc)
    go (Pread offset count) at write is = (let never : false ≡ true = is in cc)
    go Size at write is = (let never : false ≡ true = is in cc)
    go Sync at write is = (let never : false ≡ true = is in cc)

module _ (o : Origin) (steps : List Step) (start : IsStart o) (run : IsRun o steps) where
  abbrev c : Core
  c = end o steps

  inv : Invariant o c
  inv = run_from o steps (start_meets o start) run

  all_seen : AllSeen o steps
  all_seen = seen_run o steps (start_meets o start) run

  abbrev Runs : Call → Type 0
  Runs call = IsRunning o steps start run call

  -- what is known of a write
  module _ (k : ℕ) (won : (view_of c.views k).seat.calling.won ≡ true) where
    abbrev v : View
    v = view_of c.views k

    abbrev mine : Write
    mine = write_at o c.history v.seat.walk.position

    has_parts : v.parts ≢ []
    has_parts none = (let spent = inv.sizes.spent k none in let never : false ≡ true = sym (ap (λ (u : View). u.seat.calling.won) spent) ∙ won in cc)

    seat_is : mine.seat ≡ k
    seat_is = ((inv.records.writes k).running won).1 ∙ (inv.sizes.each k (unspent_made c.views k has_parts) has_parts).number

    is_running : Runs (call_of v.seat.walk.position mine)
    is_running = record {
      unspent = subst (λ (j : ℕ). (view_of c.views j).parts ≢ []) (sym seat_is) has_parts;
      number_is = subst (λ (j : ℕ). mine.number ≡ (view_of c.views j).ghost.call.number) (sym seat_is) ((inv.records.writes k).running won).2;
      runs = subst (λ (j : ℕ). op_in (view_of c.views j).seat ≢ None) (sym seat_is) (λ none. (let both : Some mine.op ≡ None = sym ((inv.records.writes k).running won).3 ∙ none in cc));
      seen = subst (λ (j : ℕ). IsSeen o steps j mine.number v.seat.walk.position mine.op (is_write mine.op (accepted_reply mine.op mine.at))) (sym seat_is)
          (seen_as o steps k v.ghost.call.number mine.number v.seat.walk.position v.seat.walk.position mine.op v.seat.calling.won (is_write mine.op (accepted_reply mine.op mine.at))
          (sym ((inv.records.writes k).running won).2) refl (λ is. won) (all_seen.tails k (all_seen.stands k won) mine.op ((inv.records.writes k).running won).3));
    }

    counted_here : (seat number : ℕ) → one_if ((mine.seat == seat) && (mine.number == number)) ≤ count_in v.parts seat
    counted_here seat number = by (mine.seat == seat) refl
      where
        by : (same : Bool) → (mine.seat == seat) ≡ same → one_if (same && (mine.number == number)) ≤ count_in v.parts seat
        by false e = omega arith
        by true e = (let most = one_most (mine.number == number) in
            let own = subst (λ (j : ℕ). is_listed v.parts j ≡ true) (sym seat_is ∙ eqb-true mine.seat seat e) (inv.records.seats_once.own k has_parts) in
            let some = count_some v.parts seat own in omega (arith, most, some))

  pub writes_run : AllByRecursion Runs (running_writes o c)
  writes_run = each_running o c inv Runs is_running

  write_counted : (seat number k : ℕ) → count_calls seat number (put_in o c inv (view_of c.views k)) ≤ count_in (view_of c.views k).parts seat
  write_counted seat number k = by (view_of c.views k).seat.calling.won refl
    where
      by : (b : Bool) → (view_of c.views k).seat.calling.won ≡ b → count_calls seat number (put_in o c inv (view_of c.views k)) ≤ count_in (view_of c.views k).parts seat
      by true won = (let same = ap (λ (calls : List Call). count_calls seat number calls) (put_in_is o c inv k won) in let here = counted_here k won seat number in omega (arith, same, here))
      by false none = (let same = ap (λ (calls : List Call). count_calls seat number calls) (none_put_in o c inv (view_of c.views k) none) in omega (arith, same))

  -- and of the collection of a call that has put a head in place
  module _ (k : ℕ) (head : HeadPut) (is : (view_of c.views k).ghost.call.put ≡ Some head) where
    abbrev u : View
    u = view_of c.views k

    collection_asks : op_in u.seat ≡ Some CollectOp
    collection_asks = ap (λ (job : Task). op_of job u.seat.calling.bytes) ((inv.records.calls k).task.put_collects (λ none. (let never : Some head ≡ None = sym is ∙ none in cc)))

    collection_parts : u.parts ≢ []
    collection_parts none = (let spent = inv.sizes.spent k none in let never : None ≡ Some head = sym (ap (λ (w : View). w.ghost.call.put) spent) ∙ is in cc)

    collection_seat : u.seat.number ≡ k
    collection_seat = (inv.sizes.each k (unspent_made c.views k collection_parts) collection_parts).number

    collection_runs : AllByRecursion Runs (running_collection u (Some head))
    collection_runs = (
      record {
        unspent = subst (λ (j : ℕ). (view_of c.views j).parts ≢ []) (sym collection_seat) collection_parts;
        number_is = ap (λ (j : ℕ). (view_of c.views j).ghost.call.number) (sym collection_seat);
        runs = subst (λ (j : ℕ). op_in (view_of c.views j).seat ≢ None) (sym collection_seat) (λ none. (let never : Some CollectOp ≡ None = sym collection_asks ∙ none in cc));
        seen = subst (λ (j : ℕ). IsSeen o steps j u.ghost.call.number head.base CollectOp false) (sym collection_seat) (all_seen.puts k head is);
      },
      tt,
    )

    own : (first_generation o < head.generation) × (head.generation < first_generation o + length c.generations) × (head.base ≡ u.seat.walk.position)
        × (head.base ≡ (nth_generation c.generations (head.generation - first_generation o)).base)
    own = (inv.records.put k).own head is

    -- it stands in the history: its position was the end at a step of its call, so it is not before the start's
    collection_stands : AllByRecursion (Stands o c.history c.generations) (running_collection u (Some head))
    collection_stands = (
      record {
        holds = record {
          to_end = (let low = position_low o c inv k in let at = own.2 in omega (arith, low, at));
          from_first = (let at = (all_seen.puts k head is).at_end in omega (arith, at));
          write_after = λ write. (let never : false ≡ true = write in cc);
          answers = ((λ never. cc), λ some. absurd (omega (arith, some)));
          of_generations = (own.0, own.1, own.3);
        };
        written = λ write. (let never : false ≡ true = write in cc);
      },
      tt,
    )

    collection_counted : (seat number : ℕ) → count_calls seat number (running_collection u (Some head)) ≤ count_in u.parts seat
    collection_counted seat number = by (u.seat.number == seat) refl
      where
        by : (same : Bool) → (u.seat.number == seat) ≡ same → one_if (same && (u.ghost.call.number == number)) + 0 ≤ count_in u.parts seat
        by false e = omega arith
        by true e = (let most = one_most (u.ghost.call.number == number) in
            let listed = subst (λ (j : ℕ). is_listed u.parts j ≡ true) (sym collection_seat ∙ eqb-true u.seat.number seat e) (inv.records.seats_once.own k collection_parts) in
            let some = count_some u.parts seat listed in omega (arith, most, some))

    -- a call that has put a head in place has put in no write
    collection_writes_none : u.seat.calling.won ≡ false
    collection_writes_none = false_from_ne_true u.seat.calling.won (λ won. collects_none (mine k won).op (mine k won).at
        (some_bytes o c inv u.seat.walk.position ((inv.records.writes k).running won).0 (position_low o c inv k)) (sym ((inv.records.writes k).running won).3 ∙ collection_asks))

  abbrev rc : View → List Call
  rc v = running_collection v v.ghost.call.put

  -- what holds of the collection of each view whose running call has put a head in place, holds of them all
  each_collection : (P : Call → Type 0) → ((k : ℕ) (head : HeadPut) → (view_of c.views k).ghost.call.put ≡ Some head → AllByRecursion P (running_collection (view_of c.views k) (Some head))) → AllByRecursion P (running_collections c.views)
  each_collection P here = each_of_views P rc c.views (each_view (λ (v : View). AllByRecursion P (rc v)) c.views (λ k. by k (view_of c.views k).ghost.call.put refl))
    where
      by : (k : ℕ) (put : Option HeadPut) → (view_of c.views k).ghost.call.put ≡ put → AllByRecursion P (running_collection (view_of c.views k) put)
      by k None is = tt
      by k (Some head) is = here k head is

  pub calls_run : AllByRecursion Runs (running_calls o c)
  calls_run = each_join Runs (running_writes o c) (running_collections c.views) writes_run (each_collection Runs collection_runs)

  pub running_calls_stand : AllByRecursion (Stands o c.history c.generations) (running_calls o c)
  running_calls_stand = each_join (Stands o c.history c.generations) (running_writes o c) (running_collections c.views) (running_stand o c inv) (each_collection (Stands o c.history c.generations) collection_stands)

  -- a collection writes nothing
  pub running_calls_write : (position : ℕ) → writes_at position (running_calls o c) ≡ writes_at position (running_writes o c)
  running_calls_write position = (let both = writes_join position (running_writes o c) (running_collections c.views) in
      let none = no_writes position (running_collections c.views) (each_collection (λ (call : Call). is_write call.op call.reply ≡ false) (λ k head is. (refl, tt))) in omega (arith, both, none))

  counted_both : (seat number k : ℕ) → count_calls seat number (put_in o c inv (view_of c.views k)) + count_calls seat number (rc (view_of c.views k)) ≤ count_in (view_of c.views k).parts seat
  counted_both seat number k = by (view_of c.views k).ghost.call.put refl
    where
      by : (put : Option HeadPut) → (view_of c.views k).ghost.call.put ≡ put → count_calls seat number (put_in o c inv (view_of c.views k)) + count_calls seat number (running_collection (view_of c.views k) put) ≤ count_in (view_of c.views k).parts seat
      by None is = (let most = write_counted seat number k in omega (arith, most))
      by (Some head) is = (let none = ap (λ (calls : List Call). count_calls seat number calls) (none_put_in o c inv (view_of c.views k) (collection_writes_none k head is)) in
          let most = collection_counted k head is seat number in omega (arith, none, most))

  -- each seat and number is that of one of them at most
  pub calls_counted : (seat number : ℕ) → count_calls seat number (running_calls o c) ≤ 1
  calls_counted seat number =
      (let join = count_join seat number (running_writes o c) (running_collections c.views) in
      let over = both_over seat number (put_in o c inv) rc c.views (each_view (λ (v : View). count_calls seat number (put_in o c inv v) + count_calls seat number (rc v) ≤ count_in v.parts seat) c.views (counted_both seat number)) in
      let once = inv.records.seats_once.once seat in
      let most = one_most (nat_lt seat (length c.views)) in omega (arith, join, over, once, most))

  pub writes_counted : (seat number : ℕ) → count_calls seat number (running_writes o c) ≤ 1
  writes_counted seat number = (let join = count_join seat number (running_writes o c) (running_collections c.views) in let all = calls_counted seat number in omega (arith, join, all))
