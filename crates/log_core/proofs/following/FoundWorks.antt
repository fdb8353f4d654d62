-- Computing finds no bit and no pin, and a call that begins has found none.
use Rattle.std.proofs.Common.{◌≡◌, ◌≢◌, ◌/◌, ◌%◌, ℕ, zero, suc, true, List, [], ◌∷◌, length, replicate, refl, sym, ◌∙◌, ap, arith, slice_index, None}
use Rattle.std.specs.Int.{bit_at}
use Rattle.std.specs.List.{list_all}
use Rattle.std.proofs.lemmas.Bool.{and_parts}
use Rattle.pmem_words.specs.Seats.{Seat}
use Rattle.log_core.specs.Views.{Ghost, op_in}
use Rattle.log_core.specs.Works.{Work, Begins, KeepsTable, StartsFromLog, StartsFromSnapshot, ReadsRun, NextSnapshot, EndsReading, SeeksFirst, SeeksNext, FindsFirst, Forgets, SetsWord, CountsFilled, OpensBase, AddsBaseWord, DropsBases, Lays, NotesNamed, NotesHeld, KeepsReplaced, TakesEntry, TakesSeal, Follows, MayWork, MayWorkAll, state_after_work, state_after_all_work, is_going_on}
use Rattle.log_core.proofs.kinds.GoingOn.{op_stays}
use Rattle.log_core.proofs.following.Causes.{found_bit}

-- a computation finds no bit
found_stays : (s : Seat) (work : Work) → is_going_on work ≡ true → (state_after_work s work).blocks.found ≡ s.blocks.found
found_stays s (Begins task bytes) going = cc
found_stays s KeepsTable going = refl
found_stays s StartsFromLog going = refl
found_stays s StartsFromSnapshot going = refl
found_stays s ReadsRun going = refl
found_stays s NextSnapshot going = refl
found_stays s EndsReading going = refl
found_stays s SeeksFirst going = refl
found_stays s SeeksNext going = refl
found_stays s FindsFirst going = refl
found_stays s TakesEntry going = refl
found_stays s TakesSeal going = refl
found_stays s Follows going = refl
found_stays s Forgets going = refl
found_stays s (OpensBase virt) going = refl
found_stays s AddsBaseWord going = refl
found_stays s DropsBases going = refl
found_stays s (Lays bytes) going = refl
found_stays s (SetsWord place word value) going = refl
found_stays s (CountsFilled place) going = refl
found_stays s (NotesNamed words) going = refl
found_stays s KeepsReplaced going = refl
found_stays s (NotesHeld held) going = refl

-- nor a pin
pins_stay : (s : Seat) (work : Work) → (state_after_work s work).giving.pins_seen ≡ s.giving.pins_seen
pins_stay s (Begins task bytes) = refl
pins_stay s KeepsTable = refl
pins_stay s StartsFromLog = refl
pins_stay s StartsFromSnapshot = refl
pins_stay s ReadsRun = refl
pins_stay s NextSnapshot = refl
pins_stay s EndsReading = refl
pins_stay s SeeksFirst = refl
pins_stay s SeeksNext = refl
pins_stay s FindsFirst = refl
pins_stay s TakesEntry = refl
pins_stay s TakesSeal = refl
pins_stay s Follows = refl
pins_stay s Forgets = refl
pins_stay s (OpensBase virt) = refl
pins_stay s AddsBaseWord = refl
pins_stay s DropsBases = refl
pins_stay s (Lays bytes) = refl
pins_stay s (SetsWord place word value) = refl
pins_stay s (CountsFilled place) = refl
pins_stay s (NotesNamed words) = refl
pins_stay s KeepsReplaced = refl
pins_stay s (NotesHeld held) = refl

pub pins_stay_all : (s : Seat) (works : List Work) → (state_after_all_work s works).giving.pins_seen ≡ s.giving.pins_seen
pins_stay_all s [] = refl
pins_stay_all s (work ∷ works) = pins_stay_all (state_after_work s work) works ∙ pins_stay s work

pub found_stays_all : (s : Seat) (works : List Work) → list_all is_going_on works ≡ true → (state_after_all_work s works).blocks.found ≡ s.blocks.found
found_stays_all s [] going = refl
found_stays_all s (work ∷ works) going = (let parts = and_parts (is_going_on work) (list_all is_going_on works) going in
    found_stays_all (state_after_work s work) works parts.1 ∙ found_stays s work parts.0)

none_replicated : (count i : ℕ) → slice_index (replicate count 0) i ≡ 0
none_replicated zero i = refl
none_replicated (suc count) zero = refl
none_replicated (suc count) (suc i) = none_replicated count i

-- what holds of each bit that a running call has found, holds after computing: a call that begins has found none
abbrev pub IsOfFound : (ℕ → Type 0) → Seat → Type 0
IsOfFound H s = op_in s ≢ None → (block : ℕ) → found_bit s.blocks.found block ≡ 1 → H block

found_next : (H : ℕ → Type 0) (g : Ghost) (s : Seat) (work : Work) → MayWork g s work → IsOfFound H s → IsOfFound H (state_after_work s work)
found_next H g s work may holds = Rattle.log_core.proofs.kinds.GoingOn.begins_or_goes_on (λ (w : Work). MayWork g s w → IsOfFound H (state_after_work s w))
    (λ task bytes begun some block is. absurd (let none = ap (λ (w : ℕ). bit_at w (block % 64)) (none_replicated (length s.blocks.found) (block / 64)) in omega (arith, none, is)))
    (λ w going one some block is. holds (λ none. some (op_stays g s w going one ∙ none)) block (sym (ap (λ (words : List ℕ). found_bit words block) (found_stays s w going)) ∙ is))
    work may

pub found_next_all : (H : ℕ → Type 0) (g : Ghost) (s : Seat) (works : List Work) → MayWorkAll g s works → IsOfFound H s → IsOfFound H (state_after_all_work s works)
found_next_all H g s [] may holds = holds
found_next_all H g s (work ∷ works) may holds = found_next_all H g (state_after_work s work) works may.1 (found_next H g s work may.0 holds)
