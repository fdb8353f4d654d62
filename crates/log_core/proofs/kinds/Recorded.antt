-- A call ends with its record: the core that has it keeps the invariant.
use Rattle.std.proofs.Common.{◌≡◌, ◌≢◌, ◌<◌, ◌≤◌, ◌+◌, ◌==◌, ◌&&◌, if◌then◌else◌, ℕ, Bool, true, false, List, [], ◌∷◌, ◌++◌, length, refl, sym, ◌∙◌, ap, subst, arith, slice_set, slice_index, append-nil, Some, None}
use Rattle.std.specs.List.{AllByRecursion}
use Rattle.std.proofs.lemmas.Bool.{eqb-true}
use Rattle.std.proofs.lemmas.List.{set-get_or}
use Rattle.log_entry.specs.Legal.{is_write}
use Rattle.log_entry.specs.declared.calls.Reply.{Reply}
use Rattle.log_entry.specs.declared.calls.Reply.TheVariants.{Synced}
use Rattle.log_entry.specs.declared.calls.Call.{Call}
use Rattle.pmem_words.specs.declared.keeps.Task.TheVariants.{Idle}
use Rattle.pmem_words.specs.Seats.{Seat, Calling}
use Rattle.log_image.specs.Chains.{is_listed}
use Rattle.log_core.specs.Views.{View, view_of, spent_view, op_in}
use Rattle.log_core.specs.Origin.{Origin}
use Rattle.log_core.specs.Cores.{Core}
use Rattle.log_core.specs.Works.{ended}
use Rattle.log_core.specs.Steps.{ghost_ended}
use Rattle.log_core.specs.Records.{one_if, writes_at, running_at, collects, collected_in, NeverFall, NumbersFit, StandsAtTail, RecordHolds}
use Rattle.log_core.specs.Answers.{Fits, MayAdd, MayAddAll}
use Rattle.log_core.specs.Invariant.{Invariant}
use Rattle.log_core.proofs.Each.{each_push}
use Rattle.log_core.proofs.Replies.{synced_fits}
use Rattle.log_core.proofs.clauses.OneView.{all_at}
use Rattle.log_core.proofs.clauses.SetRecords.{with_records, Recorded, set_records}
use Rattle.log_core.proofs.kinds.RecordAnswers.{seat_fits, stands, writes_won, call_is, record_holds}
use Rattle.log_core.proofs.kinds.RecordGenerations.{same_count}

-- what one record more counts
writes_more : (position : ℕ) (done : List Call) (call : Call) →
    writes_at position (done ++ call ∷ []) ≡ writes_at position done + one_if (is_write call.op call.reply && (call.position == position))
writes_more position [] call = omega arith
writes_more position (first ∷ done) call = (let rest = writes_more position done call in omega (arith, rest))

collected_more : (generation : ℕ) (done : List Call) (call : Call) →
    collected_in generation (done ++ call ∷ []) ≡ collected_in generation done + collects generation call.reply
collected_more generation [] call = omega arith
collected_more generation (first ∷ done) call = (let rest = collected_more generation done call in omega (arith, rest))

-- a record that is later than those of its seat, and of a greater number
falls_never : (part position number : ℕ) (done : List Call) (call : Call) → NeverFall part position number done → position ≤ call.position →
    (call.seat ≡ part → number < call.number) →
    AllByRecursion (λ (other : Call). other.position ≤ call.position) done → (call.seat ≡ part → AllByRecursion (λ (other : Call). other.seat ≡ part → other.number < call.number) done) →
    NeverFall part position number (done ++ call ∷ [])
falls_never part position number [] call fall low few later more = ((λ same. (low, few same)), tt)
falls_never part position number (first ∷ done) call fall low few later more = (
  fall.0,
  go (first.seat == part) refl fall.1
      (λ same rest. falls_never part first.position first.number done call rest later.0 (λ mine. (more mine).0 same) later.1 (λ mine. (more mine).1))
      (λ rest. falls_never part position number done call rest low few later.1 (λ mine. (more mine).1)),
)
  where
    go : (b : Bool) → (first.seat == part) ≡ b → NeverFall part (if b then first.position else position) (if b then first.number else number) done →
        (first.seat ≡ part → NeverFall part first.position first.number done → NeverFall part first.position first.number (done ++ call ∷ [])) →
        (NeverFall part position number done → NeverFall part position number (done ++ call ∷ [])) →
        NeverFall part (if b then first.position else position) (if b then first.number else number) (done ++ call ∷ [])
    go true is rest same other = same (eqb-true first.seat part is) rest
    go false is rest same other = other rest

module _ (o : Origin) (c : Core) (n : ℕ) (inv : Invariant o c) (here : n < length c.views) (unspent : (view_of c.views n).parts ≢ []) where
  abbrev v : View
  v = view_of c.views n

  module _ (call : Call) (may : MayAdd v.ghost v.seat call) where
    abbrev s : Seat
    s = v.seat

    abbrev calling : Calling
    calling = record (s.calling) { job = Idle; won = false; sync_to = None; noting = false }

    abbrev done : List Call
    done = v.done ++ call ∷ []

    runs : op_in s ≢ None
    runs none = (let both : None ≡ Some call.op = sym none ∙ may.op in cc)

    synced : (reply : Reply) → Fits v.ghost s call.op reply → (position : ℕ) → reply ≡ Synced position → position ≤ c.synced
    synced reply fits position is = (let r = synced_fits v.ghost s call.op position (subst (λ (other : Reply). Fits v.ghost s call.op other) is fits) in
        let upto = ((inv.syncs.views_hold n).to s.walk.position r.1).1 in
        let same = r.0 in
        omega (arith, upto, same))

    recorded : Recorded o c n (with_records v calling None done)
    recorded = record {
      writes = record {
        recorded = each_push _ v.done call (inv.records.writes n).recorded (λ is. (let won = sym (writes_won o c n inv here unspent call may) ∙ is in
            let r = record_holds o c n inv here unspent call may in
            (r.write_after is, r.to_end, call_is o c n inv here unspent call may won)));
        running = λ won. cc;
      };
      writes_once = λ some position late upto. writes_same position ∙ inv.records.writes_once n some position late upto;
      mine = each_push _ v.done call (all_at (λ (u : View). AllByRecursion (λ (other : Call). is_listed u.parts other.seat ≡ true) u.done) c.views n here inv.records.seats_once.records)
          (ap (λ (seat : ℕ). is_listed v.parts seat) (may.seat ∙ (seat_fits o c n inv here unspent call may).number) ∙ inv.records.seats_once.own n unspent);
      collected = λ generation. (let more = collected_more generation v.done call in let same = same_count o c n inv unspent call may generation in omega (arith, more, same));
      put = record { own = λ head is. cc; found = (inv.records.put n).found };
      records = each_push (RecordHolds o c.history c.generations) v.done call (inv.records.records n) (record_holds o c n inv here unspent call may);
      never_fall = λ part. falls_never part 0 0 v.done call (inv.records.never_fall n part) (omega arith) (λ same. (let some = numbers.some runs in let number = may.number in omega (arith, some, number))) later (λ same. smaller part same);
      calls = record {
        laid = λ offset count is. cc;
        bases = (let b = (inv.records.calls n).bases in record { most = b.most; whole = b.whole; from_first = b.from_first; bytes = λ running. absurd (running refl) });
        reading = λ reading. (let q = (inv.records.calls n).reading reading in (q.0, refl, refl, refl, refl, λ running. absurd (running refl)));
        numbers = record { most = each_push _ v.done call numbers.most (λ same. (let number = may.number in omega (arith, number))); runs = λ running. absurd (running refl); some = λ running. absurd (running refl) };
        task = record { won_runs = λ won. cc; put_collects = λ some. absurd (some refl); synced_syncs = λ some. absurd (some refl) };
      };
      tail = λ at. (let r = at_tail in record { walked = r.walked; from_first = r.from_first; begun = r.begun; records = each_push _ v.done call r.records (let same = may.position in omega (arith, same)) });
      syncs = record { to = λ position is. cc; marks = λ sync. cc; valid = λ sync. cc; answered = each_push _ v.done call (inv.syncs.views_hold n).answered (synced call.reply may.fits) };
    }
      where
        numbers : NumbersFit s.number v.ghost.call.number (op_in s) v.done
        numbers = (inv.records.calls n).numbers

        at_tail : StandsAtTail v.first (slice_index c.began n) s.walk.position s.walk.tail_block v.done
        at_tail = stands o c n inv here unspent call may

        later : AllByRecursion (λ (other : Call). other.position ≤ call.position) v.done
        later = subst (λ (position : ℕ). AllByRecursion (λ (other : Call). other.position ≤ position) v.done) (sym may.position) at_tail.records

        smaller : (part : ℕ) → call.seat ≡ part → AllByRecursion (λ (other : Call). other.seat ≡ part → other.number < call.number) v.done
        smaller part same = subst (λ (seat : ℕ). AllByRecursion (λ (other : Call). other.seat ≡ seat → other.number < call.number) v.done) (sym may.seat ∙ same)
            (subst (λ (number : ℕ). AllByRecursion (λ (other : Call). other.seat ≡ s.number → other.number < number) v.done) (sym may.number) (numbers.runs runs))

        writes_same : (position : ℕ) → writes_at position done + 0 ≡ writes_at position v.done + running_at position s
        writes_same position =
            (let more = writes_more position v.done call in
            let won : one_if (is_write call.op call.reply && (call.position == position)) ≡ running_at position s =
            ap (λ (b : Bool). one_if (b && (call.position == position))) (writes_won o c n inv here unspent call may) ∙ ap (λ (p : ℕ). one_if (s.calling.won && (p == position))) may.position in
            omega (arith, more, won))

    pub record_kept : Invariant o (record c { views = slice_set c.views n (with_records v calling None done) })
    record_kept = set_records o c n calling None done inv here unspent recorded refl

  -- a step's records: one at most
  pub records_kept : (adds : List Call) → MayAddAll v.ghost v.seat adds →
      Invariant o (record c { views = slice_set c.views n (record v { seat = ended adds v.seat; ghost = ghost_ended adds v.ghost; done = v.done ++ adds }) })
  records_kept [] may = subst (λ (done : List Call). Invariant o (record c { views = slice_set c.views n (record v { done = done }) })) (sym (append-nil v.done))
      (subst (λ (views : List View). Invariant o (record c { views = views })) (sym (set-get_or c.views n spent_view)) inv)
  records_kept (call ∷ []) may = record_kept call may
  records_kept (call ∷ other ∷ calls) may = absurd may

  -- so it is with a view that the core has
  pub recorded_from : (u : View) → v ≡ u → (adds : List Call) → MayAddAll u.ghost u.seat adds →
      Invariant o (record c { views = slice_set c.views n (record u { seat = ended adds u.seat; ghost = ghost_ended adds u.ghost; done = u.done ++ adds }) })
  recorded_from u is adds = subst (λ (u : View). MayAddAll u.ghost u.seat adds → Invariant o (record c { views = slice_set c.views n (record u { seat = ended adds u.seat; ghost = ghost_ended adds u.ghost; done = u.done ++ adds }) })) is
      (records_kept adds)
