-- What is at its tail after computing was there before, at the same position, and what has put in an entry stays there.
use Rattle.std.proofs.Common.{◌≡◌, true, false, List, [], ◌∷◌, refl, sym, ◌∙◌, subst}
use Rattle.pmem_words.specs.Seats.{Seat}
use Rattle.log_core.specs.Views.{Ghost, op_in}
use Rattle.log_core.specs.Works.{Work, Begins, KeepsTable, StartsFromLog, StartsFromSnapshot, ReadsRun, NextSnapshot, EndsReading, SeeksFirst, SeeksNext, FindsFirst, Forgets, SetsWord, CountsFilled, OpensBase, AddsBaseWord, DropsBases, Lays, NotesNamed, NotesHeld, KeepsReplaced, TakesEntry, TakesSeal, Follows, MayWork, MayWorkAll, state_after_work, state_after_all_work, is_going_on, Computes}
use Rattle.log_core.proofs.kinds.GoingOn.{op_stays}

-- the one state is at its tail where the other is, at the same position
abbrev pub IsSameTail : Seat → Seat → Type 0
IsSameTail s t = (s.walk.at_tail ≡ true) × (t.walk.position ≡ s.walk.position)

-- a computation finds no tail
tail_before : (s : Seat) (work : Work) → (state_after_work s work).walk.at_tail ≡ true → IsSameTail s (state_after_work s work) × (is_going_on work ≡ true)
tail_before s (Begins task bytes) at = (let never : false ≡ true = at in cc)
tail_before s KeepsTable at = ((at, refl), refl)
tail_before s StartsFromLog at = (let never : false ≡ true = at in cc)
tail_before s StartsFromSnapshot at = (let never : false ≡ true = at in cc)
tail_before s ReadsRun at = ((at, refl), refl)
tail_before s NextSnapshot at = ((at, refl), refl)
tail_before s EndsReading at = ((at, refl), refl)
tail_before s SeeksFirst at = ((at, refl), refl)
tail_before s SeeksNext at = ((at, refl), refl)
tail_before s FindsFirst at = ((at, refl), refl)
tail_before s TakesEntry at = (let never : false ≡ true = at in cc)
tail_before s TakesSeal at = ((at, refl), refl)
tail_before s Follows at = ((at, refl), refl)
tail_before s Forgets at = ((at, refl), refl)
tail_before s (OpensBase virt) at = ((at, refl), refl)
tail_before s AddsBaseWord at = ((at, refl), refl)
tail_before s DropsBases at = ((at, refl), refl)
tail_before s (Lays bytes) at = ((at, refl), refl)
tail_before s (SetsWord place word value) at = ((at, refl), refl)
tail_before s (CountsFilled place) at = ((at, refl), refl)
tail_before s (NotesNamed words) at = ((at, refl), refl)
tail_before s KeepsReplaced at = ((at, refl), refl)
tail_before s (NotesHeld held) at = ((at, refl), refl)

tail_before_all : (g : Ghost) (s : Seat) (works : List Work) → MayWorkAll g s works → (state_after_all_work s works).walk.at_tail ≡ true →
    IsSameTail s (state_after_all_work s works) × (op_in (state_after_all_work s works) ≡ op_in s)
tail_before_all g s [] may at = ((at, refl), refl)
tail_before_all g s (work ∷ works) may at =
    (let rest = tail_before_all g (state_after_work s work) works may.1 at in
    let one = tail_before s work rest.0.0 in
    ((one.0.0, rest.0.1 ∙ one.0.1), rest.1 ∙ op_stays g s work one.1 may.0))

pub computed_tail : (g : Ghost) (s t : Seat) → Computes g s t → t.walk.at_tail ≡ true → IsSameTail s t × (op_in t ≡ op_in s)
computed_tail g s t computes at = subst (λ (u : Seat). u.walk.at_tail ≡ true → IsSameTail s u × (op_in u ≡ op_in s)) (sym computes.gives)
    (λ there. tail_before_all g s computes.works computes.may there) at

-- a state whose call has put in an entry is at its tail
abbrev pub StandsWon : Seat → Type 0
StandsWon s = s.calling.won ≡ true → s.walk.at_tail ≡ true

-- a computation puts in none, and leaves it there
won_before : (g : Ghost) (s : Seat) (work : Work) → MayWork g s work → (state_after_work s work).calling.won ≡ true →
    (s.calling.won ≡ true) × (s.walk.at_tail ≡ true → (state_after_work s work).walk.at_tail ≡ true)
won_before g s (Begins task bytes) may won = (let never : false ≡ true = won in cc)
won_before g s KeepsTable may won = (won, λ at. at)
won_before g s StartsFromLog may won = (let never : false ≡ true = sym may.free.not_won ∙ won in cc)
won_before g s StartsFromSnapshot may won = (let never : false ≡ true = sym may.0.free.not_won ∙ won in cc)
won_before g s ReadsRun may won = (won, λ at. at)
won_before g s NextSnapshot may won = (won, λ at. at)
won_before g s EndsReading may won = (won, λ at. at)
won_before g s SeeksFirst may won = (won, λ at. at)
won_before g s SeeksNext may won = (won, λ at. at)
won_before g s FindsFirst may won = (won, λ at. at)
won_before g s TakesEntry may won = (let never : false ≡ true = sym may.0.free.not_won ∙ won in cc)
won_before g s TakesSeal may won = (won, λ at. at)
won_before g s Follows may won = (won, λ at. at)
won_before g s Forgets may won = (won, λ at. at)
won_before g s (OpensBase virt) may won = (won, λ at. at)
won_before g s AddsBaseWord may won = (won, λ at. at)
won_before g s DropsBases may won = (won, λ at. at)
won_before g s (Lays bytes) may won = (won, λ at. at)
won_before g s (SetsWord place word value) may won = (won, λ at. at)
won_before g s (CountsFilled place) may won = (won, λ at. at)
won_before g s (NotesNamed words) may won = (won, λ at. at)
won_before g s KeepsReplaced may won = (won, λ at. at)
won_before g s (NotesHeld held) may won = (won, λ at. at)

won_before_all : (g : Ghost) (s : Seat) (works : List Work) → MayWorkAll g s works → (state_after_all_work s works).calling.won ≡ true →
    (s.calling.won ≡ true) × (s.walk.at_tail ≡ true → (state_after_all_work s works).walk.at_tail ≡ true)
won_before_all g s [] may won = (won, λ at. at)
won_before_all g s (work ∷ works) may won = (let rest = won_before_all g (state_after_work s work) works may.1 won in
    let one = won_before g s work may.0 rest.0 in (one.0, λ at. rest.1 (one.1 at)))

pub computed_won : (g : Ghost) (s t : Seat) → Computes g s t → t.calling.won ≡ true → (s.calling.won ≡ true) × (s.walk.at_tail ≡ true → t.walk.at_tail ≡ true)
computed_won g s t computes won = subst (λ (u : Seat). u.calling.won ≡ true → (s.calling.won ≡ true) × (s.walk.at_tail ≡ true → u.walk.at_tail ≡ true)) (sym computes.gives)
    (λ there. won_before_all g s computes.works computes.may there) won
