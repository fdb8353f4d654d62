-- The records of a view that another was joined into.
use Rattle.std.proofs.Common.{◌≡◌, ◌≢◌, ◌<◌, ◌≤◌, ◌+◌, ◌==◌, ◌||◌, ℕ, Bool, true, false, nat_lt, List, [], ◌++◌, refl, sym, ◌∙◌, ap, subst, arith, slice_index, slice_set, Option, None}
use Rattle.std.specs.List.{AllByRecursion}
use Rattle.std.proofs.lemmas.Bool.{false≢true, or_left, or_right, ltb-true}
use Rattle.std.proofs.lemmas.List.{get_or-set_other}
use Rattle.std.proofs.lemmas.List.Folds.{list_any-append}
use Rattle.log_entry.specs.declared.calls.Call.{Call}
use Rattle.log_image.specs.Chains.{is_listed}
use Rattle.log_image.proofs.ListLemmas.{each_join}
use Rattle.persistence.specs.Memory.{cell}
use Rattle.log_core.specs.Views.{View, view_of, spent_view, no_geometry, HeadPut}
use Rattle.log_core.specs.Origin.{Origin, first_generation}
use Rattle.log_core.specs.Files.{Write, write_at}
use Rattle.log_core.specs.Cores.{Core, current}
use Rattle.log_core.specs.Records.{one_if, WritesFit, WritesOnce, SeatsOnce, PutFits, RecordHolds, NeverFall, CallHolds, TailHolds, MarksFit, count_in, collected_in, collected_by, putting}
use Rattle.log_core.specs.Steps.{walk_of, view_joined}
use Rattle.log_core.specs.Runs.{MayJoin}
use Rattle.log_core.specs.Invariant.{Invariant, Records}
use Rattle.log_core.proofs.Each.{each_weaker}
use Rattle.log_core.proofs.clauses.OneView.{parts_moved, collected_moved, all_set, all_at}
use Rattle.log_core.proofs.clauses.JoinedParts.{count_join, collected_join, writes_join, parts_apart, one_of, fall_join}
use Rattle.log_core.proofs.starts.StartSeats.{not_put, no_call_holds}
use Rattle.log_core.proofs.kinds.JoinedViews.{each_joined, fits, count, other_here}
use Rattle.log_core.proofs.kinds.IdleViews.{idle_sync, idle_read, idle_laid, not_some, running_none}

module _ (o : Origin) (c : Core) (seat other : ℕ) (inv : Invariant o c) (may : MayJoin c seat other) where
  abbrev v : View
  v = view_of c.views seat

  abbrev u : View
  u = view_of c.views other

  abbrev joined : View
  joined = view_joined v u

  abbrev views : List View
  views = slice_set (slice_set c.views seat joined) other spent_view

  abbrev further : Bool
  further = nat_lt v.seat.walk.position u.seat.walk.position

  -- no seat is a part of both
  apart_parts : (part : ℕ) → is_listed v.parts part ≡ true → is_listed u.parts part ≡ true → ⊥
  apart_parts part = parts_apart c.views seat other part may.apart may.made (inv.records.seats_once.once part)

  of_both : (part : ℕ) → is_listed (v.parts ++ u.parts) part ≡ (is_listed v.parts part || is_listed u.parts part)
  of_both part = list_any-append (λ (n : ℕ). n == part) v.parts u.parts

  abbrev RecordsOwn : View → Type 0
  RecordsOwn w = AllByRecursion (λ (call : Call). is_listed w.parts call.seat ≡ true) w.done

  records_own : RecordsOwn v
  records_own = all_at (λ (w : View). AllByRecursion (λ (call : Call). is_listed w.parts call.seat ≡ true) w.done) c.views seat may.made inv.records.seats_once.records

  records_own_too : RecordsOwn u
  records_own_too = all_at (λ (w : View). AllByRecursion (λ (call : Call). is_listed w.parts call.seat ≡ true) w.done) c.views other may.made_too inv.records.seats_once.records

  -- a view of the list that the join writes first
  other_same : view_of (slice_set c.views seat joined) other ≡ u
  other_same = get_or-set_other c.views seat other joined spent_view (λ same. may.apart (sym same))

  seats_once : SeatsOnce c.history views
  seats_once = record {
    once = λ part. (let first = parts_moved c.views seat joined part may.made in
        let second = parts_moved (slice_set c.views seat joined) other spent_view part (other_here o c seat other inv may) in
        let same = ap (λ (w : View). count_in w.parts part) other_same in
        let sum = count_join v.parts u.parts part in
        let one = inv.records.seats_once.once part in
        let size = ap (λ (k : ℕ). one_if (nat_lt part k)) (count o c seat other inv may) in
        omega (arith, first, second, same, sum, one, size));
    own = (each_joined o c seat other inv may) (λ (k : ℕ) (w : View). w.parts ≢ [] → is_listed w.parts k ≡ true)
        (λ some. of_both seat ∙ or_left (is_listed v.parts seat) (is_listed u.parts seat) (inv.records.seats_once.own seat may.unspent)) (λ none. absurd (none refl)) (λ k not_seat not_other. inv.records.seats_once.own k);
    writes = subst (λ (k : ℕ). AllByRecursion (λ (w : Write). w.seat < k) c.history) (sym (count o c seat other inv may)) inv.records.seats_once.writes;
    records = all_set (λ (w : View). AllByRecursion (λ (call : Call). is_listed w.parts call.seat ≡ true) w.done) (slice_set c.views seat joined) other spent_view tt
        (all_set (λ (w : View). AllByRecursion (λ (call : Call). is_listed w.parts call.seat ≡ true) w.done) c.views seat joined joined_own inv.records.seats_once.records);
  }
    where
      joined_own : AllByRecursion (λ (call : Call). is_listed (v.parts ++ u.parts) call.seat ≡ true) (v.done ++ u.done)
      joined_own = each_join (λ (call : Call). is_listed (v.parts ++ u.parts) call.seat ≡ true) v.done u.done
          (each_weaker (λ (call : Call). is_listed v.parts call.seat ≡ true) (λ (call : Call). is_listed (v.parts ++ u.parts) call.seat ≡ true) v.done
          (λ call mine. of_both call.seat ∙ or_left (is_listed v.parts call.seat) (is_listed u.parts call.seat) mine) records_own)
          (each_weaker (λ (call : Call). is_listed u.parts call.seat ≡ true) (λ (call : Call). is_listed (v.parts ++ u.parts) call.seat ≡ true) u.done
          (λ call theirs. of_both call.seat ∙ or_right (is_listed v.parts call.seat) (is_listed u.parts call.seat) theirs) records_own_too)

  writes_fit : WritesFit o c.history joined
  writes_fit = record {
    recorded = each_join _ v.done u.done (inv.records.writes seat).recorded (inv.records.writes other).recorded;
    running = λ won. absurd (false≢true (sym may.idle.not_won ∙ won));
  }

  writes_once : WritesOnce o c.history joined
  writes_once some position above below =
      (let first = inv.records.writes_once seat may.unspent position above below in
      let second = inv.records.writes_once other may.unspent_too position above below in
      let mine = running_none position v.seat may.idle.not_won in
      let theirs = running_none position u.seat may.idle_too.not_won in
      let both = running_none position joined.seat may.idle.not_won in
      let sum = writes_join position v.done u.done in
      let by = (write_at o c.history position).seat in
      let one = one_of (is_listed v.parts by) (is_listed u.parts by) (apart_parts by) in
      let of = ap (λ (b : Bool). one_if b) (of_both by) in
      omega (arith, first, second, mine, theirs, both, sum, one, of))

  collected_once : (generation : ℕ) → first_generation o < generation → generation ≤ current o c.generations → collected_by generation views ≡ 1
  collected_once generation above below =
      (let first = collected_moved c.views seat joined generation may.made in
      let second = collected_moved (slice_set c.views seat joined) other spent_view generation (other_here o c seat other inv may) in
      let same = ap (λ (w : View). collected_in generation w.done + putting generation w.ghost.call.put) other_same in
      let sum = collected_join generation v.done u.done in
      let none = ap (λ (put : Option HeadPut). putting generation put) may.idle_too.no_head in
      let one = inv.records.collected_once generation above below in
      omega (arith, first, second, same, sum, none, one))

  pub no_sync_to : v.seat.calling.sync_to ≡ None
  no_sync_to = not_some v.seat.calling.sync_to (λ some. idle_sync v.seat may.idle.no_call ((inv.records.calls seat).task.synced_syncs some))

  -- the position of the walk that is taken is not less than the view's own
  position_up : (b : Bool) → further ≡ b → v.seat.walk.position ≤ (walk_of b v.seat.walk u.seat.walk).position
  position_up true e = (let less = ltb-true v.seat.walk.position u.seat.walk.position e in omega (arith, less))
  position_up false e = omega arith

  calls : CallHolds o c.history joined
  calls = (let r = inv.records.calls seat in record {
    laid = λ offset count read. absurd (idle_read v.seat offset count may.idle.no_call read);
    bases = record {
      most = r.bases.most;
      whole = r.bases.whole;
      from_first = λ some. (let first = r.bases.from_first some in let up = position_up further refl in omega (arith, first, up));
      bytes = λ runs. absurd (runs may.idle.no_call);
    };
    reading = λ reading. (away further, idle_laid v.seat.calling.job v.seat.calling.bytes may.idle.no_call, may.idle.not_won, no_sync_to, may.idle.no_head, (λ runs. absurd (runs may.idle.no_call)));
    numbers = record {
      most = each_join (λ (call : Call). call.seat ≡ v.seat.number → call.number ≤ v.ghost.call.number) v.done u.done r.numbers.most
          (each_weaker (λ (call : Call). is_listed u.parts call.seat ≡ true) (λ (call : Call). call.seat ≡ v.seat.number → call.number ≤ v.ghost.call.number) u.done
          (λ call theirs same. absurd (apart_parts seat (inv.records.seats_once.own seat may.unspent) (subst (λ (k : ℕ). is_listed u.parts k ≡ true) (same ∙ (fits o c seat other inv may).number) theirs))) records_own_too);
      runs = λ runs. absurd (runs may.idle.no_call);
      some = λ runs. absurd (runs may.idle.no_call);
    };
    task = record { won_runs = r.task.won_runs; put_collects = r.task.put_collects; synced_syncs = r.task.synced_syncs };
  })
    where
      away : (b : Bool) → (walk_of b v.seat.walk u.seat.walk).at_tail ≡ false
      away true = refl
      away false = refl

  not_at_tail : (b : Bool) → (walk_of b v.seat.walk u.seat.walk).at_tail ≡ true → ⊥
  not_at_tail true at_tail = false≢true at_tail
  not_at_tail false at_tail = false≢true at_tail

  pub records : Records o c.memory views c.history c.generations (λ k. slice_index c.began k)
  records = record {
    writes = (each_joined o c seat other inv may) (λ (k : ℕ) (w : View). WritesFit o c.history w) writes_fit (record { recorded = tt; running = λ won. absurd (false≢true won) }) (λ k not_seat not_other. inv.records.writes k);
    writes_once = (each_joined o c seat other inv may) (λ (k : ℕ) (w : View). WritesOnce o c.history w) writes_once (λ none. absurd (none refl)) (λ k not_seat not_other. inv.records.writes_once k);
    seats_once = seats_once;
    collected_once = collected_once;
    put = (each_joined o c seat other inv may) (λ (k : ℕ) (w : View). PutFits o c.generations w)
        (record { own = λ head is. absurd (not_put head (sym may.idle.no_head ∙ is)); found = (inv.records.put seat).found })
        (record { own = λ head is. absurd (not_put head is); found = (let some = inv.order.heads.some in omega (arith, some)) }) (λ k not_seat not_other. inv.records.put k);
    records = (each_joined o c seat other inv may) (λ (k : ℕ) (w : View). AllByRecursion (RecordHolds o c.history c.generations) w.done) (each_join (RecordHolds o c.history c.generations) v.done u.done (inv.records.records seat) (inv.records.records other)) tt
        (λ k not_seat not_other. inv.records.records k);
    never_fall = λ k part. (each_joined o c seat other inv may) (λ (k : ℕ) (w : View). NeverFall part 0 0 w.done)
        (fall_join part v.done u.done (λ n. is_listed v.parts n) (λ n. is_listed u.parts n) (apart_parts part) records_own records_own_too (inv.records.never_fall seat part) (inv.records.never_fall other part)) tt
        (λ k not_seat not_other. inv.records.never_fall k part) k;
    calls = (each_joined o c seat other inv may) (λ (k : ℕ) (w : View). CallHolds o c.history w) calls (no_call_holds o c.history no_geometry 0 0 0 0 []) (λ k not_seat not_other. inv.records.calls k);
    begun = inv.records.begun;
    tails = (each_joined o c seat other inv may) (λ (k : ℕ) (w : View). TailHolds w (slice_index c.began k)) (λ at_tail. absurd (not_at_tail further at_tail)) (λ at_tail. absurd (false≢true at_tail)) (λ k not_seat not_other. inv.records.tails k);
    marks = (each_joined o c seat other inv may) (λ (k : ℕ) (w : View). MarksFit (λ word. cell c.memory word) c.memory.past c.memory.pending k w) (inv.records.marks seat) (sym may.idle_too.nothing_marked ∙ inv.records.marks other) (λ k not_seat not_other. inv.records.marks k);
  }
