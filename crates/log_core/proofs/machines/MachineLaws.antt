-- The law of a machine within a core, and how the law of a composed machine follows from those of its parts.
use Rattle.std.proofs.Common.{◌≡◌, ℕ, List}
use Rattle.log_entry.specs.declared.calls.Call.{Call}
use Rattle.pmem_words.specs.Seats.{Seat}
use Rattle.pmem_words.specs.Scripts.{Script, Lowers}
use Rattle.pmem_words.specs.Parts.{Next, Embeds}
use Rattle.pmem_words.specs.declared.machine.Turn.TheVariants.{Go, Done}
use Rattle.log_core.specs.Views.{Ghost}
use Rattle.log_core.specs.Origin.{Origin}
use Rattle.log_core.specs.Steps.{ghost_begun}
use Rattle.log_core.specs.Within.{no_record, ghost_found, Lawful, Serves, FitsNext}
use Rattle.log_core.specs.Promising.{StartCondition, EndCondition, Promises}
use Rattle.log_core.proofs.machines.Parts.{lawful_part}
use Rattle.log_core.proofs.machines.Serving.{leads_within}
use Rattle.log_core.proofs.starts.StartMeets.{start_meets}

-- a machine that begins so: where it may run, where it stands since it began at a state of the seat, what it leaves of that, and that
-- it serves so
pub record Law {M Out : Type 0} (script : Script M Out) (first : M) : Type 1 where
  pub may : StartCondition
  pub stands : Origin → ℕ → Seat → Ghost → M → Seat → Ghost → Type 0
  pub left : EndCondition Out
  pub begins : (o : Origin) (seat : ℕ) (s : Seat) (g : Ghost) → may o seat s g → stands o seat s g first s g
  pub serves : (o : Origin) (seat : ℕ) (s : Seat) (g : Ghost) → may o seat s g → Serves o seat script no_record (stands o seat s g) (left o seat s g)
  pub lowers : Lowers script

-- so it promises
pub promised : {M Out : Type 0} (script : Script M Out) (first : M) (law : Law script first) → Promises script law.may law.left first
promised script first law o start seat number rest s v linked =
    (let g = ghost_begun v.ghost v.seat s number in
    leads_within o (start_meets o start) seat number script no_record (law.stands o seat s g) (law.left o seat s g) (law.serves o seat s g linked.fits) law.lowers rest first s v
    (record {
      unspent = linked.unspent;
      begins = linked.begins;
      number_is = linked.number_is;
      done = linked.done;
      fits = law.begins o seat s g linked.fits;
    }))

-- nothing has changed since a state of the seat
pub record IsUnmoved (s0 : Seat) (g0 : Ghost) (s : Seat) (g : Ghost) : Type 0 where
  pub seat : s ≡ s0
  pub ghost : g ≡ g0

-- a part of a whole: it began at a state of the seat to which the whole had come, and stands so by now
pub record HasBegun {A OutA : Type 0} {part : Script A OutA} {first : A} (law : Law part first) (o : Origin) (seat : ℕ) (Before : Seat → Ghost → Type 0) (m : A) (s : Seat) (g : Ghost) : Type 0 where
  pub start : Seat
  pub ghost : Ghost
  pub before : Before start ghost
  pub may : law.may o seat start ghost
  pub stands : law.stands o seat start ghost m s g

-- after this answer the part stands so, if it goes on, and has ended so, if it ends
pub record Told {A OutA : Type 0} {part : Script A OutA} {first : A} (law : Law part first) (o : Origin) (seat : ℕ) (Before : Seat → Ghost → Type 0) (m : A) (s : Seat) (g : Ghost) (at : HasBegun law o seat Before m s g) (f : ℕ) : Type 0 where
  pub goes : (part.after m s f).turn ≡ Go → law.stands o seat at.start at.ghost (part.after m s f).machine (part.after m s f).seat (ghost_found o seat (part.asks m s) s g f)
  pub ends : (out : OutA) → (part.after m s f).turn ≡ Done out → law.left o seat at.start at.ghost out (part.after m s f).seat (ghost_found o seat (part.asks m s) s g f)

-- it begins
pub has_begun : {A OutA : Type 0} {part : Script A OutA} {first : A} (law : Law part first) (o : Origin) (seat : ℕ) (Before : Seat → Ghost → Type 0) (s : Seat) (g : Ghost) → Before s g → law.may o seat s g → HasBegun law o seat Before first s g
has_begun law o seat Before s g before may = record { start = s; ghost = g; before = before; may = may; stands = law.begins o seat s g may }

-- a stage of a whole is lawful by its part's law, and by what holds where the part has ended
module _ {A C OutA Out : Type 0} {part : Script A OutA} {whole : Script C Out} {inject : A → C} {next : OutA → Seat → Next C Out} {first : A}
    (o : Origin) (seat : ℕ) (rec : Out → Seat → List Call) (PC : C → Seat → Ghost → Type 0) (RC : Out → Seat → Ghost → Type 0)
    (law : Law part first) (Before : Seat → Ghost → Type 0) (embeds : Embeds part whole inject next)
    (leaves : (m : A) (s : Seat) (a : ℕ) → whole.admits (inject m) s a → part.admits m s a)
    (joins : (m : A) (s : Seat) (g : Ghost) (a : ℕ) (at : HasBegun law o seat Before m s g) → Told law o seat Before m s g at a → part.admits m s a → whole.admits (inject m) s a)
    (on_part : (m : A) (s : Seat) (g : Ghost) → HasBegun law o seat Before m s g → PC (inject m) s g)
    (on_end : (start : Seat) (ghost : Ghost) (out : OutA) (t : Seat) (h : Ghost) → Before start ghost → law.may o seat start ghost → law.left o seat start ghost out t h → FitsNext rec PC RC t h (next out t)) where
  pub lawful_stage : (m : A) (s : Seat) (g : Ghost) → HasBegun law o seat Before m s g → Lawful o seat whole rec PC RC (inject m) s g
  lawful_stage m s g at =
      lawful_part o seat part whole rec inject next (law.stands o seat at.start at.ghost) (law.left o seat at.start at.ghost) PC RC embeds leaves
      (λ n t h a stands found admits. joins n t h a (along n t h stands) (record { goes = λ go. (law.serves o seat at.start at.ghost at.may n t h stands).goes a found admits go; ends = λ out done. (law.serves o seat at.start at.ghost at.may n t h stands).ends a out found admits done }) admits) (λ n t h stands. on_part n t h (along n t h stands))
      (λ out t h left. on_end at.start at.ghost out t h at.before at.may left) (law.serves o seat at.start at.ghost at.may) m s g at.stands
    where
      along : (n : A) (t : Seat) (h : Ghost) → law.stands o seat at.start at.ghost n t h → HasBegun law o seat Before n t h
      along n t h stands = record { start = at.start; ghost = at.ghost; before = at.before; may = at.may; stands = stands }
