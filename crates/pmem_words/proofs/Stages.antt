-- A composed machine driven part by part: what the end of a part says of the whole.
use Rattle.std.proofs.Common.{ℕ, ◌≡◌, ◌<◌, ◌≤◌, List, [], ◌∷◌, ◌++◌, refl, subst, sym, ap, ◌∙◌, arith}
use Rattle.pmem_words.specs.Seats.{Seat}
use Rattle.pmem_words.specs.Scripts.{After, Script, Lowers}
use Rattle.pmem_words.specs.Conducts.{Conduct}
use Rattle.pmem_words.specs.Courses.{Course, over}
use Rattle.pmem_words.specs.Drives.{Goes, IsSafe, Ends, RanOn}
use Rattle.pmem_words.specs.Parts.{Next, Into, End, moved, onward_at, Embeds, LowersOn}
use Rattle.asks.specs.declared.ask.Ask.{Ask}
use Rattle.pmem_words.specs.declared.machine.Turn.{Turn}
use Rattle.pmem_words.specs.declared.machine.Turn.TheVariants.{Go, Done}

-- a list of answers and then another one
module _ {M W Out : Type 0} (script : Script M Out) (course : Course M W) where
  pub goes_join : (first : List ℕ) (m : M) (s : Seat) (w : W) (n : M) (t : Seat) (v : W) (second : List ℕ) (p : M) (u : Seat) (x : W) →
      Goes script course m s w first n t v → Goes script course n t v second p u x → Goes script course m s w (first ++ second) p u x
  goes_join [] m s w n t v second p u x g h =
      subst (λ (y : M). Goes script course y s w second p u x) (sym g.0)
      (subst (λ (y : Seat). Goes script course n y w second p u x) (sym g.1)
      (subst (λ (y : W). Goes script course n t y second p u x) (sym g.2) h))
  goes_join (a ∷ first) m s w n t v second p u x g h =
      (g.0, g.1, g.2, goes_join first (script.after m s a).machine (script.after m s a).seat g.0 n t v second p u x g.3 h)

-- answers after which the machine goes on do not raise the measure where each of them is admitted
module _ {M W Out : Type 0} (script : Script M Out) (store : Conduct W) (lowers : Lowers script) where
  pub lowers_along : (answers : List ℕ) (m : M) (s : Seat) (w : W) (n : M) (t : Seat) (v : W) → IsSafe script (over script store) m s w → Goes script (over script store) m s w answers n t v → script.measure n t ≤ script.measure m s
  lowers_along [] m s w n t v safe g = subst (λ (x : M). script.measure x t ≤ script.measure m s) g.0 (subst (λ (y : Seat). script.measure m y ≤ script.measure m s) g.1 (omega arith))
  lowers_along (a ∷ answers) m s w n t v safe g =
      (let falls = lowers m s a ((safe [] m s w (refl, refl, refl)).admitted a g.0 g.1) g.2 in
      let rest = lowers_along answers (script.after m s a).machine (script.after m s a).seat g.0 n t v (λ more p u x h. safe (a ∷ more) p u x (g.0, g.1, g.2, h)) g.3 in
      omega (arith, falls, rest))

-- how the whole has ended, by where it went
abbrev pub EndsOn : {C W Out : Type 0} → Script C Out → Course C W → Next C Out → W → Out → Seat → W → Type 0
EndsOn whole course (Into n u) v out t x = Ends whole course n u v out t x
EndsOn whole course (End end u) v out t x = (end ≡ out) × (u ≡ t) × (v ≡ x)

-- some answers led the whole where it goes
abbrev pub WentTo : {C W Out : Type 0} → Script C Out → Course C W → C → Seat → W → Next C Out → W → Type 0
WentTo whole course m s w (Into n u) v = (answers : List ℕ) × Goes whole course m s w answers n u v
WentTo whole course m s w (End end u) v = Unit {0}

-- what drives the whole further may be driven
abbrev pub SafeOn : {C W Out : Type 0} → Script C Out → Course C W → Next C Out → W → Type 0
SafeOn whole course (Into n u) v = IsSafe whole course n u v
SafeOn whole course (End end u) v = Unit {0}

module _ {A C OutA Out W : Type 0} {part : Script A OutA} {whole : Script C Out} {inject : A → C} {next : OutA → Seat → Next C Out} (store : Conduct W) (embeds : Embeds part whole inject next) where
  steps_too : (m : A) (s : Seat) (w : W) (a : ℕ) (v : W) → store.step w s (part.asks m s) a v → store.step w s (whole.asks (inject m) s) a v
  steps_too m s w a v st = subst (λ (x : Ask). store.step w s x a v) (embeds.asks m s) st

  -- what is after an answer at which the part goes on, and at which it ends
  after_go : (m : A) (s : Seat) (a : ℕ) → (part.after m s a).turn ≡ Go → onward_at inject next (part.after m s a).machine (part.after m s a).seat Go ≡ whole.after (inject m) s a
  after_go m s a go = ap (λ (t : Turn OutA). onward_at inject next (part.after m s a).machine (part.after m s a).seat t) (sym go) ∙ embeds.after m s a

  after_done : (m : A) (s : Seat) (a : ℕ) (end : OutA) (t : Seat) → (part.after m s a).turn ≡ Done end → (part.after m s a).seat ≡ t → moved (inject (part.after m s a).machine) (next end t) ≡ whole.after (inject m) s a
  after_done m s a end t done leaves =
      subst (λ (u : Seat). moved (inject (part.after m s a).machine) (next end u) ≡ whole.after (inject m) s a) leaves
      (ap (λ (turn : Turn OutA). onward_at inject next (part.after m s a).machine (part.after m s a).seat turn) (sym done) ∙ embeds.after m s a)

  -- the answers on which the part goes on are answers on which the whole does
  pub goes_stage : (answers : List ℕ) (m : A) (s : Seat) (w : W) (n : A) (t : Seat) (v : W) → Goes part (over part store) m s w answers n t v → Goes whole (over whole store) (inject m) s w answers (inject n) t v
  goes_stage [] m s w n t v g = (ap inject g.0, g.1, g.2)
  goes_stage (a ∷ answers) m s w n t v g = (
    g.0,
    steps_too m s w a g.0 g.1,
    sym (ap (λ (r : After C Out). r.turn) (after_go m s a g.2)),
    subst (λ (r : After C Out). Goes whole (over whole store) r.machine r.seat g.0 answers (inject n) t v) (after_go m s a g.2)
        (goes_stage answers (part.after m s a).machine (part.after m s a).seat g.0 n t v g.3),
  )

  -- the part's last answer, by where the whole goes then
  last_into : (m : A) (s : Seat) (w : W) (a : ℕ) (v : W) (c : C) (u : Seat) (answers : List ℕ) (d : C) (t : Seat) (x : W) → store.step w s (part.asks m s) a v → moved (inject (part.after m s a).machine) (Into c u) ≡ whole.after (inject m) s a →
      Goes whole (over whole store) c u v answers d t x → Goes whole (over whole store) (inject m) s w (a ∷ answers) d t x
  last_into m s w a v c u answers d t x st is g =
      (v, steps_too m s w a v st, sym (ap (λ (r : After C Out). r.turn) is), subst (λ (r : After C Out). Goes whole (over whole store) r.machine r.seat v answers d t x) is g)

  ends_moved : (m : A) (s : Seat) (w : W) (end : OutA) (t : Seat) (v : W) (e : Ends part (over part store) m s w end t v) (n : Next C Out) (out : Out) (u : Seat) (x : W) →
      moved (inject (part.after e.machine e.seat e.last).machine) n ≡ whole.after (inject e.machine) e.seat e.last → EndsOn whole (over whole store) n v out u x → Ends whole (over whole store) (inject m) s w out u x
  ends_moved m s w end t v e (Into c r) out u x is more = record {
    answers = e.answers ++ e.last ∷ more.answers;
    machine = more.machine;
    seat = more.seat;
    memory = more.memory;
    goes = goes_join whole (over whole store) e.answers (inject m) s w (inject e.machine) e.seat e.memory (e.last ∷ more.answers) more.machine more.seat more.memory
        (goes_stage e.answers m s w e.machine e.seat e.memory e.goes)
        (last_into e.machine e.seat e.memory e.last v c r more.answers more.machine more.seat more.memory e.steps is more.goes);
    last = more.last;
    steps = more.steps;
    ends = more.ends;
    leaves = more.leaves;
  }
  ends_moved m s w end t v e (End o r) out u x is more = record {
    answers = e.answers;
    machine = inject e.machine;
    seat = e.seat;
    memory = e.memory;
    goes = goes_stage e.answers m s w e.machine e.seat e.memory e.goes;
    last = e.last;
    steps = subst (λ (y : W). store.step e.memory e.seat (whole.asks (inject e.machine) e.seat) e.last y) more.2 (steps_too e.machine e.seat e.memory e.last v e.steps);
    ends = sym (ap (λ (y : After C Out). y.turn) is) ∙ ap (λ (y : Out). Done y) more.0;
    leaves = sym (ap (λ (y : After C Out). y.seat) is) ∙ more.1;
  }

  -- a part that was driven to its end, and the whole from where it goes then: so the whole was driven
  pub ends_stage : {m : A} {s : Seat} {w : W} {end : OutA} {t : Seat} {v : W} {out : Out} {u : Seat} {x : W} → Ends part (over part store) m s w end t v → EndsOn whole (over whole store) (next end t) v out u x → Ends whole (over whole store) (inject m) s w out u x
  ends_stage {m} {s} {w} {end} {t} {v} {out} {u} {x} e more = ends_moved m s w end t v e (next end t) out u x (after_done e.machine e.seat e.last end t e.ends e.leaves) more

  safe_moved : (m : A) (s : Seat) (w : W) (end : OutA) (t : Seat) (v : W) (e : Ends part (over part store) m s w end t v) (n : Next C Out) →
      moved (inject (part.after e.machine e.seat e.last).machine) n ≡ whole.after (inject e.machine) e.seat e.last → IsSafe whole (over whole store) (inject m) s w → SafeOn whole (over whole store) n v
  safe_moved m s w end t v e (Into c r) is safe = λ answers d u x g.
      safe (e.answers ++ e.last ∷ answers) d u x
      (goes_join whole (over whole store) e.answers (inject m) s w (inject e.machine) e.seat e.memory (e.last ∷ answers) d u x
      (goes_stage e.answers m s w e.machine e.seat e.memory e.goes)
      (last_into e.machine e.seat e.memory e.last v c r answers d u x e.steps is g))
  safe_moved m s w end t v e (End o r) is safe = tt

  -- where the whole may be driven, it may be where it goes when its part has ended
  pub safe_next : {m : A} {s : Seat} {w : W} {end : OutA} {t : Seat} {v : W} → Ends part (over part store) m s w end t v → IsSafe whole (over whole store) (inject m) s w → SafeOn whole (over whole store) (next end t) v
  safe_next {m} {s} {w} {end} {t} {v} e safe = safe_moved m s w end t v e (next end t) (after_done e.machine e.seat e.last end t e.ends e.leaves) safe

  -- and its part may be
  pub safe_stage : ((m : A) (s : Seat) (a : ℕ) → whole.admits (inject m) s a → part.admits m s a) → (m : A) (s : Seat) (w : W) → IsSafe whole (over whole store) (inject m) s w → IsSafe part (over part store) m s w
  safe_stage leaves m s w safe = λ answers n t v g.
      (let now = safe answers (inject n) t v (goes_stage answers m s w n t v g) in
      record {
        taken = subst (λ (x : Ask). store.takes v t x) (sym (embeds.asks n t)) now.taken;
        admitted = λ a u st. leaves n t a (now.admitted a u (steps_too n t v a u st));
      })

  -- and the whole admits the part's last answer
  pub last_admitted : {m : A} {s : Seat} {w : W} {end : OutA} {t : Seat} {v : W} (e : Ends part (over part store) m s w end t v) → IsSafe whole (over whole store) (inject m) s w → whole.admits (inject e.machine) e.seat e.last
  last_admitted {m} {s} {w} {end} {t} {v} e safe =
      (safe e.answers (inject e.machine) e.seat e.memory (goes_stage e.answers m s w e.machine e.seat e.memory e.goes)).admitted e.last v (steps_too e.machine e.seat e.memory e.last v e.steps)

  went_moved : (m : A) (s : Seat) (w : W) (end : OutA) (t : Seat) (v : W) (e : Ends part (over part store) m s w end t v) (n : Next C Out) →
      moved (inject (part.after e.machine e.seat e.last).machine) n ≡ whole.after (inject e.machine) e.seat e.last → WentTo whole (over whole store) (inject m) s w n v
  went_moved m s w end t v e (Into c r) is = (
    e.answers ++ e.last ∷ [],
    goes_join whole (over whole store) e.answers (inject m) s w (inject e.machine) e.seat e.memory (e.last ∷ []) c r v
        (goes_stage e.answers m s w e.machine e.seat e.memory e.goes)
        (last_into e.machine e.seat e.memory e.last v c r [] c r v e.steps is (refl, refl, refl)),
  )
  went_moved m s w end t v e (End o r) is = tt

  -- a part that was driven to its end led the whole to where it goes then
  pub went_stage : {m : A} {s : Seat} {w : W} {end : OutA} {t : Seat} {v : W} → Ends part (over part store) m s w end t v → WentTo whole (over whole store) (inject m) s w (next end t) v
  went_stage {m} {s} {w} {end} {t} {v} e = went_moved m s w end t v e (next end t) (after_done e.machine e.seat e.last end t e.ends e.leaves)

  falls_moved : (m : A) (s : Seat) (w : W) (end : OutA) (t : Seat) (v : W) (e : Ends part (over part store) m s w end t v) (n : Next C Out) →
      moved (inject (part.after e.machine e.seat e.last).machine) n ≡ whole.after (inject e.machine) e.seat e.last → Lowers whole → IsSafe whole (over whole store) (inject m) s w → LowersOn whole.measure (whole.measure (inject m) s) n
  falls_moved m s w end t v e (Into c r) is lowers safe =
      (let along = goes_stage e.answers m s w e.machine e.seat e.memory e.goes in
      let most = lowers_along whole store lowers e.answers (inject m) s w (inject e.machine) e.seat e.memory safe along in
      let admits = last_admitted e safe in
      let last : whole.measure (whole.after (inject e.machine) e.seat e.last).machine (whole.after (inject e.machine) e.seat e.last).seat < whole.measure (inject e.machine) e.seat =
      lowers (inject e.machine) e.seat e.last admits (sym (ap (λ (y : After C Out). y.turn) is)) in
      let here : whole.measure c r < whole.measure (inject e.machine) e.seat = subst (λ (y : After C Out). whole.measure y.machine y.seat < whole.measure (inject e.machine) e.seat) (sym is) last in
      omega (arith, most, here))
  falls_moved m s w end t v e (End o r) is lowers safe = tt

  -- and lowered its measure
  pub lowers_stage : {m : A} {s : Seat} {w : W} {end : OutA} {t : Seat} {v : W} → Lowers whole → IsSafe whole (over whole store) (inject m) s w → Ends part (over part store) m s w end t v → LowersOn whole.measure (whole.measure (inject m) s) (next end t)
  lowers_stage {m} {s} {w} {end} {t} {v} lowers safe e = falls_moved m s w end t v e (next end t) (after_done e.machine e.seat e.last end t e.ends e.leaves) lowers safe

  -- the whole has run on to where it goes when its part has ended
  pub ran_stage : {m : A} {s : Seat} {w : W} {end : OutA} {t : Seat} {v : W} {c : C} {u : Seat} → Lowers whole → IsSafe whole (over whole store) (inject m) s w → Ends part (over part store) m s w end t v → next end t ≡ Into c u →
      RanOn whole (over whole store) (inject m) s w c u v
  ran_stage {m} {s} {w} {end} {t} {v} {c} {u} lowers safe e is =
      (let went : WentTo whole (over whole store) (inject m) s w (Into c u) v = subst (λ (n : Next C Out). WentTo whole (over whole store) (inject m) s w n v) is (went_stage e) in
      record {
        answers = went.0;
        goes = went.1;
        nearer = subst (λ (n : Next C Out). LowersOn whole.measure (whole.measure (inject m) s) n) is (lowers_stage lowers safe e);
      })

  -- or has ended with it
  pub ended_stage : {m : A} {s : Seat} {w : W} {end : OutA} {t : Seat} {v : W} {out : Out} {u : Seat} → Ends part (over part store) m s w end t v → next end t ≡ End out u → Ends whole (over whole store) (inject m) s w out u v
  ended_stage {m} {s} {w} {end} {t} {v} {out} {u} e is = ends_stage e (subst (λ (n : Next C Out). EndsOn whole (over whole store) n v out u v) (sym is) (refl, refl, refl))

-- what holds along a way
module _ {M W Out : Type 0} (script : Script M Out) (course : Course M W) where
  pub safe_from : (answers : List ℕ) (m : M) (s : Seat) (w : W) (n : M) (t : Seat) (v : W) → Goes script course m s w answers n t v → IsSafe script course m s w → IsSafe script course n t v
  safe_from answers m s w n t v g safe = λ more p u x h. safe (answers ++ more) p u x (goes_join script course answers m s w n t v more p u x g h)

  pub ends_from : (answers : List ℕ) (m : M) (s : Seat) (w : W) (n : M) (t : Seat) (v : W) (out : Out) (u : Seat) (x : W) → Goes script course m s w answers n t v → Ends script course n t v out u x → Ends script course m s w out u x
  ends_from answers m s w n t v out u x g e = record {
    answers = answers ++ e.answers;
    machine = e.machine;
    seat = e.seat;
    memory = e.memory;
    goes = goes_join script course answers m s w n t v e.answers e.machine e.seat e.memory g e.goes;
    last = e.last;
    steps = e.steps;
    ends = e.ends;
    leaves = e.leaves;
  }
