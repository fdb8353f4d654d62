-- What follows from a machine's promise, and how it is shown.
use Rattle.std.proofs.Common.{ℕ, zero, suc, ◌≡◌, ◌+◌, ◌<◌, List, [], ◌∷◌, subst, arith}
use Rattle.pmem_words.specs.Seats.{Seat}
use Rattle.pmem_words.specs.Scripts.{Script, Lowers}
use Rattle.pmem_words.specs.Courses.{Course}
use Rattle.pmem_words.specs.Drives.{Goes, IsSafe, Ends}
use Rattle.pmem_words.specs.Leads.{Leads, asking, LeadsAt, LeadsAfter, Keeps}
use Rattle.pmem_words.specs.declared.machine.Turn.{Turn}
use Rattle.pmem_words.specs.declared.machine.Turn.TheVariants.{Go, Done}

module _ {M W Out : Type 0} (script : Script M Out) (course : Course M W) (Q : Out → Seat → W → Type 0) where
  pub ready_now : {m : M} {s : Seat} {w : W} → Leads script course Q m s w → course.ready m s w
  ready_now (asking ready goes ends) = ready

  pub go_now : {m : M} {s : Seat} {w : W} → Leads script course Q m s w → (a : ℕ) (v : W) → course.step m s w a v → (script.after m s a).turn ≡ Go → Leads script course Q (script.after m s a).machine (script.after m s a).seat v
  go_now (asking ready goes ends) = goes

  pub end_now : {m : M} {s : Seat} {w : W} → Leads script course Q m s w → (a : ℕ) (v : W) (out : Out) → course.step m s w a v → (script.after m s a).turn ≡ Done out → Q out (script.after m s a).seat v
  end_now (asking ready goes ends) = ends

  -- the promise holds all along the way
  pub leads_along : (answers : List ℕ) (m : M) (s : Seat) (w : W) (n : M) (t : Seat) (v : W) → Leads script course Q m s w → Goes script course m s w answers n t v → Leads script course Q n t v
  leads_along [] m s w n t v h g =
      subst (λ (x : M). Leads script course Q x t v) g.0
      (subst (λ (x : Seat). Leads script course Q m x v) g.1
      (subst (λ (x : W). Leads script course Q m s x) g.2 h))
  leads_along (a ∷ answers) m s w n t v (asking ready goes ends) g =
      leads_along answers (script.after m s a).machine (script.after m s a).seat g.0 n t v (goes a g.0 g.1 g.2) g.3

  -- what a caller of `drive` owes
  pub safe_by : (m : M) (s : Seat) (w : W) → Leads script course Q m s w → IsSafe script course m s w
  safe_by m s w h answers n t v g = ready_now (leads_along answers m s w n t v h g)

  -- what a caller of `drive` learns
  pub ends_by : (m : M) (s : Seat) (w : W) (out : Out) (t : Seat) (v : W) → Leads script course Q m s w → Ends script course m s w out t v → Q out t v
  ends_by m s w out t v h e =
      subst (λ (x : Seat). Q out x v) e.leaves (end_now (leads_along e.answers m s w e.machine e.seat e.memory h e.goes) e.last v out e.steps e.ends)

  go_of : (m : M) (s : Seat) (t : Turn Out) (w : W) → LeadsAt script course Q m s t w → t ≡ Go → Leads script course Q m s w
  go_of m s Go w h e = h
  go_of m s (Done out) w h e = cc

  end_of : (m : M) (s : Seat) (t : Turn Out) (w : W) (out : Out) → LeadsAt script course Q m s t w → t ≡ Done out → Q out s w
  end_of m s Go w out h e = cc
  end_of m s (Done o) w out h e = let same : o ≡ out = cc in subst (λ (x : Out). Q x s w) same h

  -- one ask, each of whose answers leads on
  pub asking_each : (m : M) (s : Seat) (w : W) → course.ready m s w → ((a : ℕ) (v : W) → course.step m s w a v → LeadsAfter script course Q (script.after m s a) v) → Leads script course Q m s w
  asking_each m s w ready each =
      asking ready
      (λ a v st e. go_of (script.after m s a).machine (script.after m s a).seat (script.after m s a).turn v (each a v st) e)
      (λ a v out st e. end_of (script.after m s a).machine (script.after m s a).seat (script.after m s a).turn v out (each a v st) e)

-- a promise of more is one of less
pub leads_weaker : {M W Out : Type 0} (script : Script M Out) (course : Course M W) (Q R : Out → Seat → W → Type 0) → ((out : Out) (s : Seat) (w : W) → Q out s w → R out s w) → {m : M} {s : Seat} {w : W} → Leads script course Q m s w → Leads script course R m s w
leads_weaker script course Q R f {m} {s} {w} (asking ready goes ends) =
    asking ready (λ a v st go. leads_weaker script course Q R f (goes a v st go)) (λ a v out st done. f out (script.after m s a).seat v (ends a v out st done))

-- a promise, and what an invariant of the way adds at its ends
module _ {M W Out : Type 0} (script : Script M Out) (course : Course M W) (K : M → Seat → W → Type 0) (Q E : Out → Seat → W → Type 0)
    (goes_on : (m : M) (s : Seat) (w : W) (a : ℕ) (v : W) → K m s w → course.ready m s w → course.step m s w a v → (script.after m s a).turn ≡ Go → K (script.after m s a).machine (script.after m s a).seat v)
    (ends_so : (m : M) (s : Seat) (w : W) (a : ℕ) (v : W) (out : Out) → K m s w → course.ready m s w → course.step m s w a v → (script.after m s a).turn ≡ Done out → E out (script.after m s a).seat v) where
  pub leads_with : {m : M} {s : Seat} {w : W} → K m s w → Leads script course Q m s w → Leads script course (λ out t v. Q out t v × E out t v) m s w
  leads_with {m} {s} {w} k (asking ready goes ends) =
      asking ready
      (λ a v st go. leads_with (goes_on m s w a v k ready st go) (goes a v st go))
      (λ a v out st done. (ends a v out st done, ends_so m s w a v out k ready st done))

module _ {M W Out : Type 0} (script : Script M Out) (course : Course M W) (I : M → Seat → W → Type 0) (Q : Out → Seat → W → Type 0)
    (lowers : Lowers script) (keeps : (m : M) (s : Seat) (w : W) → I m s w → Keeps script course I Q m s w) where
  leads_below : (n : ℕ) (m : M) (s : Seat) (w : W) → script.measure m s < n → I m s w → Leads script course Q m s w
  leads_below zero m s w h i = absurd (omega arith)
  leads_below (suc n) m s w h i =
      let now : Keeps script course I Q m s w = keeps m s w i in
      asking now.ready
      (λ a v st go. leads_below n (script.after m s a).machine (script.after m s a).seat v
      (let falls : script.measure (script.after m s a).machine (script.after m s a).seat < script.measure m s = lowers m s a (now.admitted a v st) go in omega arith)
      (now.goes a v st go))
      now.ends

  -- the measure brings every way to an end, so an invariant is enough
  pub leads_by : (m : M) (s : Seat) (w : W) → I m s w → Leads script course Q m s w
  leads_by m s w i = leads_below (script.measure m s + 1) m s w (omega arith) i
