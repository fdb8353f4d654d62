-- What a list of answers leads to, and what it is to drive a machine.
use Rattle.std.specs.Prelude.{ℕ, ◌≡◌, ◌<◌, List, [], ◌∷◌}
use Rattle.pmem_words.specs.Seats.{Seat}
use Rattle.pmem_words.specs.Scripts.{Script}
use Rattle.pmem_words.specs.Courses.{Course}
use Rattle.pmem_words.specs.declared.machine.Turn.{Turn}
use Rattle.pmem_words.specs.declared.machine.Turn.TheVariants.{Go, Done}

-- these answers, in order, lead from one machine, seat and memory to another, and the machine goes on after each
abbrev pub Goes : {M W Out : Type 0} → Script M Out → Course M W → M → Seat → W → List ℕ → M → Seat → W → Type 0
Goes script course m s w [] n t v = (m ≡ n) × (s ≡ t) × (w ≡ v)
Goes {M} {W} {Out} script course m s w (a ∷ answers) n t v =
    (u : W) × course.step m s w a u × ((script.after m s a).turn ≡ Go)
    × Goes script course (script.after m s a).machine (script.after m s a).seat u answers n t v

-- wherever answers lead, the next ask may be performed
abbrev pub IsSafe : {M W Out : Type 0} → Script M Out → Course M W → M → Seat → W → Type 0
IsSafe {M} {W} script course m s w =
    (answers : List ℕ) (n : M) (t : Seat) (v : W) → Goes script course m s w answers n t v → course.ready n t v

-- some answers, and a last one at which the machine ends, lead to this outcome, seat and memory
pub record Ends {M W Out : Type 0} (script : Script M Out) (course : Course M W) (m : M) (s : Seat) (w : W) (out : Out) (t : Seat) (v : W) : Type 0 where
  pub answers : List ℕ
  pub machine : M
  pub seat : Seat
  pub memory : W
  pub goes : Goes script course m s w answers machine seat memory
  pub last : ℕ
  pub steps : course.step machine seat memory last v
  pub ends : (script.after machine seat last).turn ≡ Done out
  pub leaves : (script.after machine seat last).seat ≡ t

-- answers, after each of which the machine goes on, have led here, and it is nearer to its end
pub record RanOn {M W Out : Type 0} (script : Script M Out) (course : Course M W) (m : M) (s : Seat) (w : W) (n : M) (t : Seat) (v : W) : Type 0 where
  pub answers : List ℕ
  pub goes : Goes script course m s w answers n t v
  pub nearer : script.measure n t < script.measure m s

-- a part of it was driven to the part's end: it has run on, or has ended
abbrev pub RanPart : {M W Out : Type 0} → Script M Out → Course M W → M → Seat → W → Turn Out → M → Seat → W → Type 0
RanPart script course m s w Go n t v = RanOn script course m s w n t v
RanPart script course m s w (Done out) n t v = Ends script course m s w out t v
