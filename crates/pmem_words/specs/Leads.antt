-- What a machine promises: from here each way is safe and comes to an end, and each end is one of these.
use Rattle.std.specs.Prelude.{ℕ, ◌≡◌}
use Rattle.pmem_words.specs.Seats.{Seat}
use Rattle.pmem_words.specs.Scripts.{After, Script}
use Rattle.pmem_words.specs.Courses.{Course}
use Rattle.pmem_words.specs.declared.machine.Turn.{Turn}
use Rattle.pmem_words.specs.declared.machine.Turn.TheVariants.{Go, Done}

-- the ask may be performed, and after each answer either the same holds again or the end is one of these
pub data Leads {M W Out : Type 0} (script : Script M Out) (course : Course M W) (Q : Out → Seat → W → Type 0) : M → Seat → W → Type 0 where
  asking : {m : M} {s : Seat} {w : W} → course.ready m s w
      → ((a : ℕ) (v : W) → course.step m s w a v → (script.after m s a).turn ≡ Go → Leads script course Q (script.after m s a).machine (script.after m s a).seat v)
      → ((a : ℕ) (v : W) (out : Out) → course.step m s w a v → (script.after m s a).turn ≡ Done out → Q out (script.after m s a).seat v)
      → Leads script course Q m s w

-- what is to hold by the turn after an answer
abbrev pub LeadsAt : {M W Out : Type 0} → Script M Out → Course M W → (Out → Seat → W → Type 0) → M → Seat → Turn Out → W → Type 0
LeadsAt script course Q m s Go w = Leads script course Q m s w
LeadsAt script course Q m s (Done out) w = Q out s w

-- what is to hold after an answer
abbrev pub LeadsAfter : {M W Out : Type 0} → Script M Out → Course M W → (Out → Seat → W → Type 0) → After M Out → W → Type 0
LeadsAfter script course Q after w = LeadsAt script course Q after.machine after.seat after.turn w

-- what an invariant owes at one machine, seat and memory
pub record Keeps {M W Out : Type 0} (script : Script M Out) (course : Course M W) (I : M → Seat → W → Type 0) (Q : Out → Seat → W → Type 0) (m : M) (s : Seat) (w : W) : Type 0 where
  pub ready : course.ready m s w
  pub admitted : (a : ℕ) (v : W) → course.step m s w a v → script.admits m s a
  pub goes : (a : ℕ) (v : W) → course.step m s w a v → (script.after m s a).turn ≡ Go → I (script.after m s a).machine (script.after m s a).seat v
  pub ends : (a : ℕ) (v : W) (out : Out) → course.step m s w a v → (script.after m s a).turn ≡ Done out → Q out (script.after m s a).seat v
