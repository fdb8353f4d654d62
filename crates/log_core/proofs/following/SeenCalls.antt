-- Each record of a run is of a position that was the end at a step of its own call: by an induction over runs.
use Rattle.std.proofs.Common.{◌≡◌, ⊎_elim, ◌<◌, ℕ, Bool, true, false, List, [], ◌∷◌, length, refl, sym, ◌∙◌, ap, subst, arith, slice_index, Option, Some, None}
use Rattle.std.specs.List.{AllByRecursion}
use Rattle.std.proofs.lemmas.List.{get_or-set_same}
use Rattle.log_entry.specs.declared.calls.Op.{Op}
use Rattle.log_entry.specs.declared.calls.Op.TheVariants.{Collect as CollectOp}
use Rattle.log_entry.specs.declared.calls.Call.{Call}
use Rattle.log_image.proofs.ListLemmas.{each_join}
use Rattle.pmem_words.specs.Seats.{Seat}
use Rattle.asks.specs.declared.ask.Ask.{Ask}
use Rattle.persistence.specs.Memory.{found, found_answer}
use Rattle.log_core.specs.Views.{View, HeadPut, RunningCall, view_of, spent_view, op_in}
use Rattle.log_core.specs.Origin.{Origin, q_of_origin}
use Rattle.log_core.specs.Files.{end_of}
use Rattle.log_core.specs.Cores.{Core, first_core}
use Rattle.log_core.specs.Works.{ended}
use Rattle.log_core.specs.Steps.{Note, Step, Does, Splits, Joins, Kind, kind_of_ask, is_begun, call_if, put_unless, view_after, walk_of}
use Rattle.log_core.specs.After.{after, history_after}
use Rattle.log_core.specs.Answers.{MayAddAll}
use Rattle.log_core.specs.Runs.{MayNumber, MayStep, MaySplit, MayJoin, Allowed, ghost_at, effect_at, ghost_left, IsRun, end}
use Rattle.log_core.specs.Invariant.{Invariant}
use Rattle.log_core.specs.Knows.{Knows}
use Rattle.log_core.specs.Following.{IsSeen, RecordsAreSeen}
use Rattle.log_core.proofs.starts.StartMeets.{start_meets}
use Rattle.log_core.proofs.clauses.OneView.{each_set}
use Rattle.log_core.proofs.kinds.StepHolds.{at_ask, began}
use Rattle.log_core.proofs.kinds.RunHolds.{step_keeps, run_from}
use Rattle.log_core.proofs.kinds.Splits.{each_grown}
use Rattle.log_core.proofs.kinds.JoinedViews.{each_joined}
use Rattle.log_core.proofs.following.RecordedCalls.{each_view, each_record}
use Rattle.log_core.proofs.following.Seen.{IsTailSeen, IsCallSeen, IsPutSeen, AllSeen, seen_later, tail_later, put_later, records_later, seen_as}
use Rattle.log_core.proofs.following.TailWorks.{IsSameTail, StandsWon, computed_tail, computed_won}
use Rattle.log_core.proofs.following.SeenStart.{seen_start}
use Rattle.log_core.proofs.following.PutMoves.{CollectsAt, put_moves, put_goes_on}
use Rattle.log_core.proofs.following.TailMoves.{TailMoves, moves_by_ask}
use Rattle.log_core.proofs.Replies.{unwon_no_write}
use Rattle.log_entry.specs.Legal.{is_write}

-- a call has its own number from its first step on
pub number_at_ask : (begun : Bool) (call : RunningCall) (number : ℕ) → MayNumber begun call.number number → (call_if begun call number).number ≡ number
number_at_ask true call number may = refl
number_at_ask false call number may = sym may

same_begun : (op : Option Op) → is_begun op op ≡ false
same_begun None = refl
same_begun (Some op) = refl

same_number : (begun : Bool) (before number : ℕ) → begun ≡ false → MayNumber begun before number → number ≡ before
same_number true before number e may = cc
same_number false before number e may = may

ended_number : (adds : List Call) (s : Seat) → (ended adds s).number ≡ s.number
ended_number [] s = refl
ended_number (call ∷ calls) s = refl

module _ (o : Origin) (steps : List Step) (inv : Invariant o (end o steps)) (seen : AllSeen o steps) where
  abbrev c : Core
  c = end o steps

  module _ (n : ℕ) (ask : Ask) (note : Note) (allowed : Allowed o (end o steps) (Does n ask note)) where
    abbrev v : View
    v = view_of c.views n

    abbrev pub kind : Kind
    kind = kind_of_ask (q_of_origin o) n ask

    abbrev pub f : ℕ
    f = found_answer c.memory ask

    abbrev this : Step
    this = Does n ask note

    abbrev pub step : MayStep o c v kind note f
    step = allowed.step

    abbrev pub left : Seat
    left = effect_at v note kind f

    abbrev pub last : Seat
    last = step.enters.last

    knows : Knows o c n note.before (ghost_at v note) (slice_index c.memory.now.pins n) (slice_index (began o c n inv allowed.made allowed.unspent note) n)
    knows = at_ask o c n inv allowed.made allowed.unspent note kind f step

    before_stands : StandsWon note.before
    before_stands won = (let was = computed_won v.ghost v.seat note.before step.begins won in was.1 (seen.stands n was.0))

    pub moves : TailMoves note.before left (end_of o c.history) (end_of o (history_after c.history n note kind (found c.memory ask)))
    moves = moves_by_ask o c n note (ghost_at v note) (slice_index c.memory.now.pins n) (slice_index (began o c n inv allowed.made allowed.unspent note) n) inv knows allowed.unspent v.ghost.marks before_stands ask step.may

    -- a call that is at its tail behind the step was there before it, or is at the end now
    seen_last : last.walk.at_tail ≡ true → (op : Op) → op_in last ≡ Some op → IsSeen o (this ∷ steps) n note.number last.walk.position op last.calling.won
    seen_last at op asks = ⊎_elim old new (moves.tail later.0.0)
      where
        later : ((left.walk.at_tail ≡ true) × (last.walk.position ≡ left.walk.position)) × (op_in last ≡ op_in left)
        later = computed_tail (ghost_left v note kind f) left last step.enters.computed at

        asks_before : op_in note.before ≡ Some op
        asks_before = sym moves.same_op ∙ (sym later.1 ∙ asks)

        -- what has put in an entry had done so behind the step
        left_won : last.calling.won ≡ true → left.calling.won ≡ true
        left_won won = (computed_won (ghost_left v note kind f) left last step.enters.computed won).0

        old : IsSameTail note.before left × (left.calling.won ≡ true → note.before.calling.won ≡ true) → IsSeen o (this ∷ steps) n note.number last.walk.position op last.calling.won
        old stood = (let before = computed_tail v.ghost v.seat note.before step.begins stood.0.0 in
            let none_begins : is_begun (op_in v.seat) (op_in note.before) ≡ false = ap (λ (asked : Option Op). is_begun (op_in v.seat) asked) before.1 ∙ same_begun (op_in v.seat) in
            seen_as o (this ∷ steps) n v.ghost.call.number note.number v.seat.walk.position last.walk.position op v.seat.calling.won last.calling.won
            (sym (same_number (is_begun (op_in v.seat) (op_in note.before)) v.ghost.call.number note.number none_begins step.number))
            (sym before.0.1 ∙ (sym stood.0.1 ∙ sym later.0.1))
            (λ won. (computed_won v.ghost v.seat note.before step.begins (stood.1 (left_won won))).0)
            (seen_later o steps this n v.ghost.call.number v.seat.walk.position op v.seat.calling.won (seen.tails n before.0.0 op (sym before.1 ∙ asks_before))))

        new : (left.walk.position ≡ end_of o (history_after c.history n note kind (found c.memory ask))) × (left.calling.won ≡ true → end_of o c.history < left.walk.position) →
            IsSeen o (this ∷ steps) n note.number last.walk.position op last.calling.won
        new now = record {
          ask = ask;
          note = note;
          later = [];
          earlier = steps;
          moment = refl;
          number_is = refl;
          asks = asks_before;
          at_end = later.0.1 ∙ now.0;
          put_in = λ won. (let more = now.1 (left_won won) in let same = later.0.1 in omega (arith, more, same));
        }

    pub left_number : (ghost_left v note kind f).call.number ≡ note.number
    left_number = number_at_ask (is_begun (op_in v.seat) (op_in note.before)) v.ghost.call note.number step.number

    -- so it is of the view that the step leaves
    tail_entered : (adds : List Call) (t : Seat) → t ≡ ended adds last → t.walk.at_tail ≡ true → (op : Op) → op_in t ≡ Some op → IsSeen o (this ∷ steps) n note.number t.walk.position op t.calling.won
    tail_entered adds t is = subst (λ (u : Seat). u.walk.at_tail ≡ true → (op : Op) → op_in u ≡ Some op → IsSeen o (this ∷ steps) n note.number u.walk.position op u.calling.won) (sym is) (by adds)
      where
        by : (added : List Call) → (ended added last).walk.at_tail ≡ true → (op : Op) → op_in (ended added last) ≡ Some op → IsSeen o (this ∷ steps) n note.number (ended added last).walk.position op (ended added last).calling.won
        by [] at op asks = seen_last at op asks
        by (call ∷ calls) at op asks = (let never : None ≡ Some op = asks in cc)

    -- and of the record that it adds
    pub last_is : last.number ≡ n
    last_is = (let later = step_keeps o c this inv allowed in
        let same : view_of (after o c this).views n ≡ view_after v kind note f = get_or-set_same c.views n _ spent_view allowed.made in
        let long = Rattle.std.proofs.lemmas.List.length-set c.views n (view_after v kind note f) in
        let made : n < length (after o c this).views = (let low = allowed.made in omega (arith, long, low)) in
        let fits = later.sizes.each n made (λ none. allowed.unspent (sym (ap (λ (w : View). w.parts) same) ∙ none)) in
        sym (ap (λ (s : Seat). s.number) step.enters.seat_is ∙ ended_number note.adds last) ∙ (sym (ap (λ (w : View). w.seat.number) same) ∙ fits.number))

    added_seen : (adds : List Call) → MayAddAll (ghost_left v note kind f) last adds → AllByRecursion (IsCallSeen o (this ∷ steps)) adds
    added_seen [] may = tt
    added_seen (call ∷ []) may = (
      subst (λ (seat : ℕ). IsSeen o (this ∷ steps) seat call.number call.position call.op (is_write call.op call.reply)) (sym (may.seat ∙ last_is))
          (seen_as o (this ∷ steps) n note.number call.number last.walk.position call.position call.op last.calling.won (is_write call.op call.reply) (sym (may.number ∙ left_number)) (sym may.position)
          (λ write. written_won last.calling.won refl write) (seen_last may.at_tail call.op may.op)),
      tt,
    )
      where
        written_won : (won : Bool) → last.calling.won ≡ won → is_write call.op call.reply ≡ true → won ≡ true
        written_won true is write = refl
        written_won false is write = (let never : false ≡ true = sym (unwon_no_write (ghost_left v note kind f) last call.op call.reply is may.fits) ∙ write in cc)
    added_seen (call ∷ other ∷ calls) may = absurd may

    -- what has put in an entry is at its tail
    stands_entered : (adds : List Call) (t : Seat) → t ≡ ended adds last → StandsWon t
    stands_entered adds t is = subst StandsWon (sym is) (by adds)
      where
        by : (added : List Call) → StandsWon (ended added last)
        by [] won = (let was = computed_won (ghost_left v note kind f) left last step.enters.computed won in was.1 (moves.stands was.0))
        by (call ∷ calls) won = (let never : false ≡ true = won in cc)

    -- what has put a head in place was at its tail then, or was seen before
    put_seen : (head : HeadPut) → (ghost_left v note kind f).call.put ≡ Some head → IsSeen o (this ∷ steps) n note.number head.base CollectOp false
    put_seen head is = ⊎_elim old new (put_moves o c (ghost_at v note) note.before (ghost_at v note).call.put head kind f step.may is)
      where
        begun : Bool
        begun = is_begun (op_in v.seat) (op_in note.before)

        old : (call_if begun v.ghost.call note.number).put ≡ Some head → IsSeen o (this ∷ steps) n note.number head.base CollectOp false
        old had = (let goes_on = put_goes_on begun v.ghost.call note.number head step.number had in
            seen_as o (this ∷ steps) n v.ghost.call.number note.number head.base head.base CollectOp false false (sym goes_on.1) refl (λ won. won)
            (seen_later o steps this n v.ghost.call.number head.base CollectOp false (seen.puts n head goes_on.0)))

        new : CollectsAt note.before head.base → IsSeen o (this ∷ steps) n note.number head.base CollectOp false
        new at = (let before = computed_tail v.ghost v.seat note.before step.begins at.0 in
            let none_begins : begun ≡ false = ap (λ (asked : Option Op). is_begun (op_in v.seat) asked) before.1 ∙ same_begun (op_in v.seat) in
            seen_as o (this ∷ steps) n v.ghost.call.number note.number v.seat.walk.position head.base CollectOp v.seat.calling.won false
            (sym (same_number begun v.ghost.call.number note.number none_begins step.number)) (sym before.0.1 ∙ sym at.1) (λ never. cc)
            (seen_later o steps this n v.ghost.call.number v.seat.walk.position CollectOp v.seat.calling.won (seen.tails n before.0.0 CollectOp (sym before.1 ∙ at.2))))

    put_entered : (adds : List Call) (head : HeadPut) → put_unless adds (ghost_left v note kind f).call.put ≡ Some head → IsSeen o (this ∷ steps) n (ghost_left v note kind f).call.number head.base CollectOp false
    put_entered [] head is = seen_as o (this ∷ steps) n note.number (ghost_left v note kind f).call.number head.base head.base CollectOp false false (sym left_number) refl (λ won. won) (put_seen head is)
    put_entered (call ∷ calls) head is = (let never : None ≡ Some head = is in cc)

    seen_does : AllSeen o (this ∷ steps)
    seen_does = record {
      tails = each_set (λ (k : ℕ) (w : View). IsTailSeen o (this ∷ steps) k w) c.views n (view_after v kind note f) allowed.made
          (λ at op asks. seen_as o (this ∷ steps) n note.number (view_after v kind note f).ghost.call.number note.seat.walk.position note.seat.walk.position op note.seat.calling.won note.seat.calling.won (sym left_number) refl (λ won. won)
          (tail_entered note.adds note.seat step.enters.seat_is at op asks))
          (λ k other. tail_later o steps this k (view_of c.views k) (seen.tails k));
      stands = each_set (λ (k : ℕ) (w : View). StandsWon w.seat) c.views n (view_after v kind note f) allowed.made (stands_entered note.adds note.seat step.enters.seat_is) (λ k other. seen.stands k);
      puts = each_set (λ (k : ℕ) (w : View). IsPutSeen o (this ∷ steps) k w) c.views n (view_after v kind note f) allowed.made (put_entered note.adds) (λ k other. put_later o steps this k (view_of c.views k) (seen.puts k));
      records = each_set (λ (k : ℕ) (w : View). AllByRecursion (IsCallSeen o (this ∷ steps)) w.done) c.views n (view_after v kind note f) allowed.made
          (each_join (IsCallSeen o (this ∷ steps)) v.done note.adds (records_later o steps this v.done (seen.records n)) (added_seen note.adds step.enters.adds_are))
          (λ k other. records_later o steps this (view_of c.views k).done (seen.records k));
    }

  -- a split leaves a view that has not walked
  seen_splits : MaySplit o c 0 → AllSeen o (Splits 0 ∷ steps)
  seen_splits may = record {
    tails = each_grown o c inv may (λ (k : ℕ) (w : View). IsTailSeen o (Splits 0 ∷ steps) k w) (tail_later o steps (Splits 0) 0 (view_of c.views 0) (seen.tails 0)) (λ at op asks. (let never : false ≡ true = at in cc))
        (λ k other. tail_later o steps (Splits 0) k (view_of c.views k) (seen.tails k));
    stands = each_grown o c inv may (λ (k : ℕ) (w : View). StandsWon w.seat) (seen.stands 0) (λ won. (let never : false ≡ true = won in cc)) (λ k other. seen.stands k);
    puts = each_grown o c inv may (λ (k : ℕ) (w : View). IsPutSeen o (Splits 0 ∷ steps) k w) (put_later o steps (Splits 0) 0 (view_of c.views 0) (seen.puts 0)) (λ head is. (let never : None ≡ Some head = is in cc))
        (λ k other. put_later o steps (Splits 0) k (view_of c.views k) (seen.puts k));
    records = each_grown o c inv may (λ (k : ℕ) (w : View). AllByRecursion (IsCallSeen o (Splits 0 ∷ steps)) w.done) (records_later o steps (Splits 0) (view_of c.views 0).done (seen.records 0)) tt
        (λ k other. records_later o steps (Splits 0) (view_of c.views k).done (seen.records k));
  }

  -- and a join one that is at no tail
  joined_away : (further : Bool) (v u : View) → (walk_of further v.seat.walk u.seat.walk).at_tail ≡ false
  joined_away true v u = refl
  joined_away false v u = refl

  seen_joins : (seat other : ℕ) → MayJoin c seat other → AllSeen o (Joins seat other ∷ steps)
  seen_joins seat other may = record {
    tails = each_joined o c seat other inv may (λ (k : ℕ) (w : View). IsTailSeen o (Joins seat other ∷ steps) k w)
        (λ at op asks. (let never : false ≡ true = sym (joined_away _ (view_of c.views seat) (view_of c.views other)) ∙ at in cc))
        (λ at op asks. (let never : false ≡ true = at in cc))
        (λ k not_seat not_other. tail_later o steps (Joins seat other) k (view_of c.views k) (seen.tails k));
    stands = each_joined o c seat other inv may (λ (k : ℕ) (w : View). StandsWon w.seat) (λ won. (let never : false ≡ true = sym may.idle.not_won ∙ won in cc)) (λ won. (let never : false ≡ true = won in cc)) (λ k not_seat not_other. seen.stands k);
    puts = each_joined o c seat other inv may (λ (k : ℕ) (w : View). IsPutSeen o (Joins seat other ∷ steps) k w) (λ head is. (let never : None ≡ Some head = sym may.idle.no_head ∙ is in cc)) (λ head is. (let never : None ≡ Some head = is in cc))
        (λ k not_seat not_other. put_later o steps (Joins seat other) k (view_of c.views k) (seen.puts k));
    records = each_joined o c seat other inv may (λ (k : ℕ) (w : View). AllByRecursion (IsCallSeen o (Joins seat other ∷ steps)) w.done)
        (each_join (IsCallSeen o (Joins seat other ∷ steps)) (view_of c.views seat).done (view_of c.views other).done
        (records_later o steps (Joins seat other) (view_of c.views seat).done (seen.records seat)) (records_later o steps (Joins seat other) (view_of c.views other).done (seen.records other)))
        tt
        (λ k not_seat not_other. records_later o steps (Joins seat other) (view_of c.views k).done (seen.records k));
  }

  seen_step : (step : Step) → Allowed o c step → AllSeen o (step ∷ steps)
  seen_step (Does n ask note) allowed = seen_does n ask note allowed
  seen_step (Splits seat) allowed = subst (λ (k : ℕ). MaySplit o c k → AllSeen o (Splits k ∷ steps)) (sym allowed.first) seen_splits allowed
  seen_step (Joins seat other) allowed = seen_joins seat other allowed

pub seen_run : (o : Origin) (steps : List Step) → Invariant o (first_core o) → IsRun o steps → AllSeen o steps
seen_run o [] start run = seen_start o
seen_run o (step ∷ steps) start run = seen_step o steps (run_from o steps start run.0) (seen_run o steps start run.0) step run.1

pub records_are_seen : RecordsAreSeen
records_are_seen o steps start run = (let seen = seen_run o steps (start_meets o start) run in
    each_record (IsCallSeen o steps) (end o steps).views (each_view (λ (v : View). AllByRecursion (IsCallSeen o steps) v.done) (end o steps).views seen.records))
