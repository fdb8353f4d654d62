-- How machines are composed: a stage of the whole does what a part does, and goes on where the part has ended.
use Rattle.std.specs.Prelude.{ℕ, ◌≡◌, ◌<◌, refl}
use Rattle.pmem_words.specs.Seats.{Seat}
use Rattle.pmem_words.specs.Scripts.{After, Script}
use Rattle.pmem_words.specs.Courses.{Course}
use Rattle.pmem_words.specs.Leads.{Leads}
use Rattle.pmem_words.specs.declared.machine.Turn.{Turn}
use Rattle.pmem_words.specs.declared.machine.Turn.TheVariants.{Go, Done}

-- where the whole goes when a part of it has ended: into another stage, or to its end, with the seat that it leaves
pub data Next (C Out : Type 0) : Type 0 where
  Into : C → Seat → Next C Out
  End : Out → Seat → Next C Out

-- the whole after its part has ended
abbrev pub moved : {C Out : Type 0} → C → Next C Out → After C Out
moved m (Into n s) = record { machine = n; seat = s; turn = Go }
moved m (End out s) = record { machine = m; seat = s; turn = Done out }

-- the whole by the part's turn
abbrev pub onward_at : {A C OutA Out : Type 0} → (A → C) → (OutA → Seat → Next C Out) → A → Seat → Turn OutA → After C Out
onward_at inject next m s Go = record { machine = inject m; seat = s; turn = Go }
onward_at inject next m s (Done out) = moved (inject m) (next out s)

-- what is after an answer that the whole told to its part
abbrev pub onward : {A C OutA Out : Type 0} → (A → C) → (OutA → Seat → Next C Out) → After A OutA → After C Out
onward inject next after = onward_at inject next after.machine after.seat after.turn

-- at this stage the whole asks what its part asks, and each answer moves it as the part and what follows it say
pub record Embeds {A C OutA Out : Type 0} (part : Script A OutA) (whole : Script C Out) (inject : A → C) (next : OutA → Seat → Next C Out) : Type 0 where
  pub asks : (m : A) (s : Seat) → part.asks m s ≡ whole.asks (inject m) s
  pub after : (m : A) (s : Seat) (a : ℕ) → onward inject next (part.after m s a) ≡ whole.after (inject m) s a

-- what is to hold where the whole goes
abbrev pub LeadsOn : {C W Out : Type 0} → Script C Out → Course C W → (Out → Seat → W → Type 0) → Next C Out → W → Type 0
LeadsOn whole course Q (Into m s) w = Leads whole course Q m s w
LeadsOn whole course Q (End out s) w = Q out s w

-- the measure is below a bound where the whole goes on
abbrev pub LowersOn : {C Out : Type 0} → (C → Seat → ℕ) → ℕ → Next C Out → Type 0
LowersOn measure bound (Into m s) = measure m s < bound
LowersOn measure bound (End out s) = Unit {0}

module _ {A C OutA Out : Type 0} (inject : A → C) (next : OutA → Seat → Next C Out) (measure : C → Seat → ℕ) (bound : ℕ) where
  lowers_moved : (m : C) (n : Next C Out) → LowersOn measure bound n → (moved m n).turn ≡ Go → measure (moved m n).machine (moved m n).seat < bound
  lowers_moved m (Into c s) h e = h
  lowers_moved m (End out s) h e = cc

  lowers_at : (m : A) (s : Seat) (t : Turn OutA) → (t ≡ Go → measure (inject m) s < bound) → ((o : OutA) → t ≡ Done o → LowersOn measure bound (next o s)) → (onward_at inject next m s t).turn ≡ Go → measure (onward_at inject next m s t).machine (onward_at inject next m s t).seat < bound
  lowers_at m s Go go done e = go refl
  lowers_at m s (Done o) go done e = lowers_moved (inject m) (next o s) (done o refl) e

  -- a step of a stage lowers the measure where the part's own steps do and what follows its end is lower
  pub lowers_onward : (r : After A OutA) → (r.turn ≡ Go → measure (inject r.machine) r.seat < bound) → ((o : OutA) → r.turn ≡ Done o → LowersOn measure bound (next o r.seat)) → (onward inject next r).turn ≡ Go → measure (onward inject next r).machine (onward inject next r).seat < bound
  lowers_onward r go done e = lowers_at r.machine r.seat r.turn go done e
