-- The records of a view, and what its call has of the history, where a history has writes of another seat more.
use Rattle.std.proofs.Common.{◌≡◌, ◌≢◌, ◌<◌, ◌≤◌, ◌+◌, ◌-◌, ◌*◌, ◌==◌, ◌&&◌, ◌||◌, nat_lt, if◌then◌else◌, ℕ, zero, suc, Bool, true, false, List, [], ◌∷◌, length, refl, sym, ◌∙◌, ap, subst, arith, slice_index, Some}
use Rattle.std.specs.List.{AllByRecursion}
use Rattle.std.proofs.lemmas.Bool.{ne_eqb, ltb-true, ltb-false, lt-ltb}
use Rattle.log_entry.specs.ByteFile.{read}
use Rattle.log_entry.specs.Legal.{Answers, is_write}
use Rattle.log_entry.specs.declared.calls.Call.{Call}
use Rattle.log_image.specs.Chains.{is_listed}
use Rattle.log_core.specs.Views.{View, view_of}
use Rattle.log_core.specs.Origin.{Origin, first_position, Generation}
use Rattle.log_core.specs.Files.{Write, write_at, call_of, end_of}
use Rattle.log_core.specs.Records.{WritesFit, WritesOnce, SeatsOnce, RecordHolds, CallHolds, one_if, writes_at, running_at, count_in, parts_with, before_call}
use Rattle.log_core.proofs.Each.{each_weaker}
use Rattle.log_core.proofs.clauses.Others.{unspent_made}
use Rattle.log_core.proofs.clauses.Growth.{HistoryGrows}

-- a position that is there already, or a new one
pub old_or_new : {P : Type 0} (position end : ℕ) → (position ≤ end → P) → (end < position → P) → P
old_or_new {P} position end old new = go (nat_lt end position) refl
  where
    go : (b : Bool) → nat_lt end position ≡ b → P
    go true e = new (ltb-true end position e)
    go false e = old (ltb-false end position e)

-- no write is recorded at a position past all records
pub none_at : (position : ℕ) (done : List Call) → AllByRecursion (λ (call : Call). call.position < position) done → writes_at position done ≡ 0
none_at position [] early = refl
none_at position (call ∷ done) early = (let here = go (is_write call.op call.reply) (ne_eqb call.position position (let low = early.0 in λ same. omega (arith, low, same))) in
    let rest = none_at position done early.1 in omega (arith, here, rest))
  where
    go : (b : Bool) → (call.position == position) ≡ false → one_if (b && (call.position == position)) ≡ 0
    go true other = ap one_if other
    go false other = refl

-- in one of two lists of parts alone
pub count_some : (parts : List ℕ) (seat : ℕ) → is_listed parts seat ≡ true → 1 ≤ count_in parts seat
count_some [] seat listed = cc
count_some (part ∷ parts) seat listed = go (part == seat) listed (λ later. count_some parts seat later)
  where
    go : (b : Bool) → (b || is_listed parts seat) ≡ true → (is_listed parts seat ≡ true → 1 ≤ count_in parts seat) → 1 ≤ one_if b + count_in parts seat
    go true is rest = omega arith
    go false is rest = (let more = rest is in omega (arith, more))

-- the parts of one view, and of two, are among all
pub part_of : (views : List View) (k seat : ℕ) → k < length views → count_in (view_of views k).parts seat ≤ parts_with views seat
part_of [] k seat inside = absurd (omega (arith, inside))
part_of (v ∷ views) zero seat inside = omega arith
part_of (v ∷ views) (suc k) seat inside = (let rest = part_of views k seat (omega (arith, inside)) in omega (arith, rest))

parts_of : (views : List View) (j k seat : ℕ) → j ≢ k → j < length views → k < length views → count_in (view_of views j).parts seat + count_in (view_of views k).parts seat ≤ parts_with views seat
parts_of [] j k seat other here there = absurd (omega (arith, here))
parts_of (v ∷ views) zero zero seat other here there = absurd (other refl)
parts_of (v ∷ views) zero (suc k) seat other here there = (let rest = part_of views k seat (omega (arith, there)) in omega (arith, rest))
parts_of (v ∷ views) (suc j) zero seat other here there = (let rest = part_of views j seat (omega (arith, here)) in omega (arith, rest))
parts_of (v ∷ views) (suc j) (suc k) seat other here there =
    (let rest = parts_of views j k seat (λ same. other (ap suc same)) (omega (arith, here)) (omega (arith, there)) in omega (arith, rest))

-- a seat that is not spent is a part of no other view
pub own_part : (history : List Write) (views : List View) → SeatsOnce history views → (n : ℕ) → (view_of views n).parts ≢ [] → (k : ℕ) → k ≢ n → (view_of views k).parts ≢ [] → is_listed (view_of views k).parts n ≡ false
own_part history views r n unspent k other some = go (is_listed (view_of views k).parts n) refl
  where
    go : (b : Bool) → is_listed (view_of views k).parts n ≡ b → b ≡ false
    go false is = refl
    go true is =
        (let here = unspent_made views n unspent in
        let both = parts_of views k n n other (unspent_made views k some) here in
        let mine = count_some (view_of views n).parts n (r.own n unspent) in
        let theirs = count_some (view_of views k).parts n is in
        let all : parts_with views n ≡ 1 = r.once n ∙ ap one_if (lt-ltb n (length views) here) in
        absurd (omega (arith, both, mine, theirs, all)))

module _ (o : Origin) (n : ℕ) (before after : List Write) (named : List ℕ) (grows : HistoryGrows o n before after named) where
  -- the writes that a view has recorded
  pub writes_grown : (v : View) → v.seat.walk.position ≤ end_of o before → WritesFit o before v → WritesFit o after v
  writes_grown v low r = record {
    recorded = each_weaker _ _ v.done (λ (call : Call) (fits : is_write call.op call.reply ≡ true → (first_position o < call.position) × (call.position ≤ end_of o before) × (call ≡ call_of call.position (write_at o before call.position))) is.
        (let f = fits is in let more = grows.longer in let upto = f.1 in (
          f.0,
          omega (arith, upto, more),
          f.2 ∙ ap (λ (w : Write). call_of call.position w) (sym (grows.writes call.position f.0 upto)),
        ))) r.recorded;
    running = λ won. (let f = r.running won in let same = grows.writes v.seat.walk.position f.0 low in (
      f.0,
      ap (λ (w : Write). w.seat) same ∙ f.1,
      ap (λ (w : Write). w.number) same ∙ f.2,
      f.3 ∙ ap (λ (w : Write). Some w.op) (sym same),
    ));
  }

  -- each once
  pub once_of_others : (v : View) → v.seat.walk.position ≤ end_of o before → (v.parts ≢ [] → is_listed v.parts n ≡ false) → AllByRecursion (λ (call : Call). call.position ≤ end_of o before) v.done →
      WritesOnce o before v → WritesOnce o after v
  once_of_others v low other early r some position above upto = old_or_new position (end_of o before)
      (λ old. r some position above old ∙ ap (λ (w : Write). one_if (is_listed v.parts w.seat)) (sym (grows.writes position above old)))
      (λ new. ap (λ (k : ℕ). k + running_at position v.seat) (none_at position v.done (each_weaker (λ (call : Call). call.position ≤ end_of o before) (λ (call : Call). call.position < position) v.done (λ call e. omega (arith, e, new)) early))
      ∙ (not_running position new ∙ sym (ap (λ (seat : ℕ). one_if (is_listed v.parts seat)) (grows.new position new upto) ∙ ap one_if (other some))))
    where
      not_running : (position : ℕ) → end_of o before < position → 0 + running_at position v.seat ≡ 0
      not_running position new = go v.seat.calling.won (ne_eqb v.seat.walk.position position (λ same. omega (arith, same, low, new)))
        where
          go : (won : Bool) → (v.seat.walk.position == position) ≡ false → 0 + one_if (won && (v.seat.walk.position == position)) ≡ 0
          go true is = ap (λ (b : Bool). 0 + one_if b) is
          go false is = refl

  -- a record has the reply that comes at its position
  pub record_grown : (generations : List Generation) (call : Call) → RecordHolds o before generations call → RecordHolds o after generations call
  record_grown generations call r = record {
    to_end = (let low = r.to_end in let more = grows.longer in omega (arith, low, more));
    from_first = r.from_first;
    write_after = r.write_after;
    answers = subst (λ (file : List ℕ). Answers o.geometry.block_bytes (before_call call) file call.op call.reply) (sym (grows.files (before_call call) (before_low (is_write call.op call.reply) r.to_end))) r.answers;
    of_generations = r.of_generations;
  }
    where
      before_low : (b : Bool) → call.position ≤ end_of o before → (if b then call.position - 1 else call.position) ≤ end_of o before
      before_low true low = omega (arith, low)
      before_low false low = low

  -- and what a running call has of the history
  pub calls_grown : (v : View) → v.seat.walk.position ≤ end_of o before → CallHolds o before v → CallHolds o after v
  calls_grown v low r = (let same = grows.files v.seat.walk.position low in record {
    laid = λ offset count is. r.laid offset count is ∙ ap (λ (file : List ℕ). read file offset (length v.seat.calling.bytes)) (sym same);
    bases = (let b = r.bases in record {
      most = b.most;
      whole = b.whole;
      from_first = b.from_first;
      bytes = λ runs place at inside less upto. b.bytes runs place at inside less upto
          ∙ ap (λ (file : List ℕ). slice_index file (slice_index v.seat.calling.bases place * o.geometry.block_bytes + at)) (sym same);
    });
    reading = r.reading;
    numbers = r.numbers;
    task = r.task;
  })
