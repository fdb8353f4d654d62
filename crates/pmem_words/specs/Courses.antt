-- What surrounds a machine: a memory, a core, or a memory that others use too.
use Rattle.std.specs.Prelude.{ℕ}
use Rattle.pmem_words.specs.Seats.{Seat}
use Rattle.pmem_words.specs.Scripts.{Script}
use Rattle.pmem_words.specs.Conducts.{Conduct}

-- where a machine's present ask may be performed, and which answers may come and leave which surroundings
pub record Course (M W : Type 0) : Type 1 where
  pub ready : M → Seat → W → Type 0
  pub step : M → Seat → W → ℕ → W → Type 0

-- the memory takes the present ask, and the machine admits each answer that the memory may give
pub record IsReady {M W Out : Type 0} (script : Script M Out) (store : Conduct W) (m : M) (s : Seat) (w : W) : Type 0 where
  pub taken : store.takes w s (script.asks m s)
  pub admitted : (a : ℕ) (v : W) → store.step w s (script.asks m s) a v → script.admits m s a

-- a machine over a memory
abbrev pub over : {M W Out : Type 0} → Script M Out → Conduct W → Course M W
over script store = record {
  ready = λ m s w. IsReady script store m s w;
  step = λ m s w a v. store.step w s (script.asks m s) a v;
}

-- steps that others may make: none, or some and then more
pub record Others (W : Type 0) : Type 1 where
  pub reach : W → W → Type 0
  pub none : (w : W) → reach w w
  pub more : (u v w : W) → reach u v → reach v w → reach u w

-- a course in which others make any number of steps before each of one's own
abbrev pub among : {M W : Type 0} → Others W → Course M W → Course M W
among {M} {W} others course = record {
  ready = λ m s w. (v : W) → others.reach w v → course.ready m s v;
  step = λ m s w a v. (u : W) × others.reach w u × course.step m s u a v;
}
