-- A part's law within a core is the whole machine's, where the whole stands at that part.
use Rattle.std.proofs.Common.{◌≡◌, ℕ, Bool, true, false, ◌&&◌, List, [], ◌∷◌, ◌++◌, refl, sym, ◌∙◌, ap, subst}
use Rattle.std.specs.List.{list_all}
use Rattle.log_entry.specs.declared.calls.Call.{Call}
use Rattle.pmem_words.specs.Seats.{Seat}
use Rattle.pmem_words.specs.Scripts.{After, Script}
use Rattle.pmem_words.specs.Parts.{Next, Into, End, moved, onward_at, onward, Embeds}
use Rattle.asks.specs.declared.ask.Ask.{Ask}
use Rattle.pmem_words.specs.declared.machine.Turn.{Turn}
use Rattle.pmem_words.specs.declared.machine.Turn.TheVariants.{Go, Done}
use Rattle.persistence.specs.Memory.{found_answer}
use Rattle.log_core.specs.Views.{Ghost}
use Rattle.log_core.specs.Origin.{Origin, q_of_origin}
use Rattle.log_core.specs.Works.{Work, MayWorkAll, state_after_work, state_after_all_work, is_going_on}
use Rattle.log_core.specs.Steps.{kind_of_ask, ghost_ended}
use Rattle.log_core.specs.May.{May}
use Rattle.log_core.specs.Answers.{Enters}
use Rattle.log_core.specs.Within.{no_record, adds_at, seat_found, ghost_found, IsFound, Lawful, Serves, FitsNext}
use Rattle.log_core.proofs.machines.Entering.{none_at}

-- computations after others
pub worked_more : (s : Seat) (first second : List Work) → state_after_all_work s (first ++ second) ≡ state_after_all_work (state_after_all_work s first) second
worked_more s [] second = refl
worked_more s (work ∷ first) second = worked_more (state_after_work s work) first second

pub may_more : (g : Ghost) (s : Seat) (first second : List Work) → MayWorkAll g s first → MayWorkAll g (state_after_all_work s first) second → MayWorkAll g s (first ++ second)
may_more g s [] second may more = more
may_more g s (work ∷ first) second may more = (may.0, may_more g (state_after_work s work) first second may.1 more)

pub all_more : (f : Work → Bool) (first second : List Work) → list_all f first ≡ true → list_all f second ≡ true → list_all f (first ++ second) ≡ true
all_more f [] second all more = more
all_more f (work ∷ first) second all more = by (f work) (λ rest. all_more f first second rest more) all
  where
    by : (b : Bool) → (list_all f first ≡ true → list_all f (first ++ second) ≡ true) → (b && list_all f first) ≡ true → (b && list_all f (first ++ second)) ≡ true
    by true rest e = rest e
    by false rest e = cc

-- what enters after a part, and what enters after that
pub enters_more : (g : Ghost) (e t u : Seat) (adds : List Call) → Enters g e t [] → Enters g t u adds → Enters g e u adds
enters_more g e t u adds part more =
    (let first = part.computed.works in
    let second = more.computed.works in
    let at : t ≡ state_after_all_work e first = part.seat_is ∙ part.computed.gives in
    record {
      last = more.last;
      computed = record {
        works = first ++ second;
        may = may_more g e first second part.computed.may (subst (λ (s : Seat). MayWorkAll g s second) at more.computed.may);
        gives = more.computed.gives ∙ (ap (λ (s : Seat). state_after_all_work s second) at ∙ sym (worked_more e first second));
      };
      going_on = all_more is_going_on first second part.going_on more.going_on;
      adds_are = more.adds_are;
      seat_is = more.seat_is;
    })

module _ {A C OutA Out : Type 0} (o : Origin) (seat : ℕ) (part : Script A OutA) (whole : Script C Out) (rec : Out → Seat → List Call) (inject : A → C) (next : OutA → Seat → Next C Out)
    (P : A → Seat → Ghost → Type 0) (R : OutA → Seat → Ghost → Type 0) (PC : C → Seat → Ghost → Type 0) (RC : Out → Seat → Ghost → Type 0)
    (embeds : Embeds part whole inject next) (leaves : (m : A) (s : Seat) (a : ℕ) → whole.admits (inject m) s a → part.admits m s a)
    (joins : (m : A) (s : Seat) (g : Ghost) (a : ℕ) → P m s g → IsFound o seat s g (part.asks m s) a → part.admits m s a → whole.admits (inject m) s a)
    (on_part : (m : A) (s : Seat) (g : Ghost) → P m s g → PC (inject m) s g) (on_next : (out : OutA) (t : Seat) (g : Ghost) → R out t g → FitsNext rec PC RC t g (next out t)) where
  -- the whole after its part, by the part's turn
  moved_enters : (g : Ghost) (e t : Seat) (m : C) (n : Next C Out) → Enters g e t [] → FitsNext rec PC RC t g n → Enters g e (moved m n).seat (adds_at rec (moved m n).seat (moved m n).turn)
  moved_enters g e t m (Into c u) first fits = enters_more g e t u [] first fits.0
  moved_enters g e t m (End out u) first fits = enters_more g e t u (rec out u) first fits.0

  moved_goes : (g : Ghost) (t : Seat) (m : C) (n : Next C Out) → FitsNext rec PC RC t g n → (moved m n).turn ≡ Go → PC (moved m n).machine (moved m n).seat g
  moved_goes g t m (Into c u) fits go = fits.1
  moved_goes g t m (End out u) fits go = cc

  moved_ends : (g : Ghost) (t : Seat) (m : C) (n : Next C Out) (out : Out) → FitsNext rec PC RC t g n → (moved m n).turn ≡ Done out → RC out (moved m n).seat (ghost_ended (rec out (moved m n).seat) g)
  moved_ends g t m (Into c u) out fits done = cc
  moved_ends g t m (End end u) out fits done = (let same : end ≡ out = cc in subst (λ (x : Out). RC x u (ghost_ended (rec x u) g)) same fits.1)

  at_enters : (g : Ghost) (e t : Seat) (m : A) (turn : Turn OutA) → Enters g e t [] → ((out : OutA) → turn ≡ Done out → R out t g) →
      Enters g e (onward_at inject next m t turn).seat (adds_at rec (onward_at inject next m t turn).seat (onward_at inject next m t turn).turn)
  at_enters g e t m Go first ends = first
  at_enters g e t m (Done out) first ends = moved_enters g e t (inject m) (next out t) first (on_next out t g (ends out refl))

  at_goes : (g : Ghost) (t : Seat) (m : A) (turn : Turn OutA) → (turn ≡ Go → P m t g) → ((out : OutA) → turn ≡ Done out → R out t g) → (onward_at inject next m t turn).turn ≡ Go →
      PC (onward_at inject next m t turn).machine (onward_at inject next m t turn).seat g
  at_goes g t m Go goes ends go = on_part m t g (goes refl)
  at_goes g t m (Done out) goes ends go = moved_goes g t (inject m) (next out t) (on_next out t g (ends out refl)) go

  at_ends : (g : Ghost) (t : Seat) (m : A) (turn : Turn OutA) (out : Out) → ((end : OutA) → turn ≡ Done end → R end t g) → (onward_at inject next m t turn).turn ≡ Done out →
      RC out (onward_at inject next m t turn).seat (ghost_ended (rec out (onward_at inject next m t turn).seat) g)
  at_ends g t m Go out ends done = cc
  at_ends g t m (Done end) out ends done = moved_ends g t (inject m) (next end t) out (on_next end t g (ends end refl)) done

  pub lawful_part : Serves o seat part no_record P R → (m : A) (s : Seat) (g : Ghost) → P m s g → Lawful o seat whole rec PC RC (inject m) s g
  lawful_part serves m s g stands = lawful
    where
      laws : Lawful o seat part no_record P R m s g
      laws = serves m s g stands

      asks : part.asks m s ≡ whole.asks (inject m) s
      asks = embeds.asks m s

      same : (f : ℕ) → onward inject next (part.after m s f) ≡ whole.after (inject m) s f
      same f = embeds.after m s f

      found : (f : ℕ) → IsFound o seat s g (whole.asks (inject m) s) f → IsFound o seat s g (part.asks m s) f
      found f is = subst (λ (ask : Ask). IsFound o seat s g ask f) (sym asks) is

      first : (f : ℕ) → IsFound o seat s g (part.asks m s) f → part.admits m s f → Enters (ghost_found o seat (part.asks m s) s g f) (seat_found o seat (part.asks m s) s g f) (part.after m s f).seat []
      first f is admits = subst (λ (adds : List Call). Enters (ghost_found o seat (part.asks m s) s g f) (seat_found o seat (part.asks m s) s g f) (part.after m s f).seat adds)
          (none_at (part.after m s f).seat (part.after m s f).turn) (laws.enters f is admits)

      ends_so : (f : ℕ) → IsFound o seat s g (whole.asks (inject m) s) f → whole.admits (inject m) s f → (out : OutA) → (part.after m s f).turn ≡ Done out → R out (part.after m s f).seat (ghost_found o seat (part.asks m s) s g f)
      ends_so f is may out done = laws.ends f out (found f is) (leaves m s f may) done

      lawful : Lawful o seat whole rec PC RC (inject m) s g
      lawful = record {
        may = λ c pin began inv unspent knows. subst (λ (ask : Ask). May o c g s (kind_of_ask (q_of_origin o) seat ask)) asks (laws.may c pin began inv unspent knows);
        admitted = λ c pin began inv unspent knows. subst (λ (ask : Ask). whole.admits (inject m) s (found_answer c.memory ask)) asks
            (joins m s g (found_answer c.memory (part.asks m s)) stands (record { core = c; pin = pin; began = began; holds = inv; unspent = unspent; knows = knows; is = refl }) (laws.admitted c pin began inv unspent knows));
        enters = λ f is may. subst (λ (ask : Ask). Enters (ghost_found o seat ask s g f) (seat_found o seat ask s g f) (whole.after (inject m) s f).seat (adds_at rec (whole.after (inject m) s f).seat (whole.after (inject m) s f).turn)) asks
            (subst (λ (r : After C Out). Enters (ghost_found o seat (part.asks m s) s g f) (seat_found o seat (part.asks m s) s g f) r.seat (adds_at rec r.seat r.turn)) (same f)
            (at_enters (ghost_found o seat (part.asks m s) s g f) (seat_found o seat (part.asks m s) s g f) (part.after m s f).seat (part.after m s f).machine (part.after m s f).turn (first f (found f is) (leaves m s f may)) (ends_so f is may)));
        goes = λ f is may go. subst (λ (ask : Ask). PC (whole.after (inject m) s f).machine (whole.after (inject m) s f).seat (ghost_found o seat ask s g f)) asks
            (subst (λ (r : After C Out). r.turn ≡ Go → PC r.machine r.seat (ghost_found o seat (part.asks m s) s g f)) (same f)
            (at_goes (ghost_found o seat (part.asks m s) s g f) (part.after m s f).seat (part.after m s f).machine (part.after m s f).turn (laws.goes f (found f is) (leaves m s f may)) (ends_so f is may)) go);
        ends = λ f out is may done. subst (λ (ask : Ask). RC out (whole.after (inject m) s f).seat (ghost_ended (rec out (whole.after (inject m) s f).seat) (ghost_found o seat ask s g f))) asks
            (subst (λ (r : After C Out). r.turn ≡ Done out → RC out r.seat (ghost_ended (rec out r.seat) (ghost_found o seat (part.asks m s) s g f))) (same f)
            (at_ends (ghost_found o seat (part.asks m s) s g f) (part.after m s f).seat (part.after m s f).machine (part.after m s f).turn out (ends_so f is may)) done);
      }
