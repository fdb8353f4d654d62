-- No block that a kept generation names is given again, nor given back.
use Rattle.std.proofs.Common.{◌≡◌, ◌≢◌, inl, inr, ⊎_elim, ℕ, ◌/◌, ◌%◌, ◌==◌, if◌then◌else◌, Bool, true, false, List, [], ◌∷◌, refl, sym, ◌∙◌, ap, subst, slice_index}
use Rattle.std.specs.Int.{bit_at}
use Rattle.std.proofs.lemmas.Bool.{and_parts, eqb-true}
use Rattle.std.proofs.lemmas.List.{get_or-set_same, get_or-set_other}
use Rattle.log_entry.specs.declared.calls.Call.{Call}
use Rattle.pmem_words.specs.Owned.{is_among}
use Rattle.pmem_words.specs.Seats.{Seat, Hold}
use Rattle.asks.specs.declared.ask.Place.TheVariants.{Image, Pin, Map, FenceOf}
use Rattle.asks.specs.declared.ask.Ask.{Ask}
use Rattle.asks.specs.declared.ask.Ask.TheVariants.{Load, Store, Exchange, SetBits, ClearBits, Mark, Fence}
use Rattle.log_image.specs.Taken.{bit_of}
use Rattle.log_core.specs.Views.{View, Ghost, view_of, spent_view}
use Rattle.log_core.specs.Origin.{Origin, Owner, Free, InChain, LeftTo}
use Rattle.log_core.specs.Cores.{Core}
use Rattle.log_core.specs.Works.{Work, Begins, KeepsTable, StartsFromLog, StartsFromSnapshot, ReadsRun, NextSnapshot, EndsReading, SeeksFirst, SeeksNext, FindsFirst, Forgets, SetsWord, CountsFilled, OpensBase, AddsBaseWord, DropsBases, Lays, NotesNamed, NotesHeld, KeepsReplaced, TakesEntry, TakesSeal, Follows, state_after_work, state_after_all_work, Computes, ended}
use Rattle.log_core.specs.Steps.{Note, Does, ClearsBits, is_of_owned, give_if, not_found}
use Rattle.log_core.specs.Owners.{bit_for}
use Rattle.log_core.specs.Contents.{IsStillTaken}
use Rattle.log_core.specs.Runs.{MayStep, effect_at, Allowed, end}
use Rattle.log_core.specs.After.{after}
use Rattle.log_core.specs.Invariant.{Invariant, KeptIn}
use Rattle.log_core.specs.Following.{IsNeeded, SparesNeeded, NoneReused}
use Rattle.log_core.proofs.starts.StartMeets.{start_meets}
use Rattle.log_core.proofs.clauses.OneView.{same_or_other}
use Rattle.log_core.proofs.kinds.RunHolds.{step_keeps, run_from}

-- a computation leaves what the seat holds
hold_stays : (s : Seat) (work : Work) → (state_after_work s work).hold ≡ s.hold
hold_stays s (Begins task bytes) = refl
hold_stays s KeepsTable = refl
hold_stays s StartsFromLog = refl
hold_stays s StartsFromSnapshot = refl
hold_stays s ReadsRun = refl
hold_stays s NextSnapshot = refl
hold_stays s EndsReading = refl
hold_stays s SeeksFirst = refl
hold_stays s SeeksNext = refl
hold_stays s FindsFirst = refl
hold_stays s TakesEntry = refl
hold_stays s TakesSeal = refl
hold_stays s Follows = refl
hold_stays s Forgets = refl
hold_stays s (OpensBase virt) = refl
hold_stays s AddsBaseWord = refl
hold_stays s DropsBases = refl
hold_stays s (Lays bytes) = refl
hold_stays s (SetsWord place word value) = refl
hold_stays s (CountsFilled place) = refl
hold_stays s (NotesNamed words) = refl
hold_stays s KeepsReplaced = refl
hold_stays s (NotesHeld held) = refl

hold_stays_all : (s : Seat) (works : List Work) → (state_after_all_work s works).hold ≡ s.hold
hold_stays_all s [] = refl
hold_stays_all s (work ∷ works) = hold_stays_all (state_after_work s work) works ∙ hold_stays s work

computed_hold : (g : Ghost) (s t : Seat) → Computes g s t → t.hold ≡ s.hold
computed_hold g s t computed = ap (λ (u : Seat). u.hold) computed.gives ∙ hold_stays_all s computed.works

ended_hold : (adds : List Call) (s : Seat) → (ended adds s).hold ≡ s.hold
ended_hold [] s = refl
ended_hold (call ∷ calls) s = refl

-- so does giving blocks back
given_hold : (own : Bool) (s : Seat) (word bits : ℕ) → (not_found (give_if own s word bits) word bits).hold ≡ s.hold
given_hold true s word bits = refl
given_hold false s word bits = refl

-- a block that is still taken has a set bit
taken_bit : (whose : Owner) → IsStillTaken whose → (bit_for whose ≡ 1) × (whose ≢ Free)
taken_bit whose (inl chain) = (ap bit_for chain, λ free. (let mixed : InChain ≡ Free = sym chain ∙ free in cc))
taken_bit whose (inr left) = (ap bit_for left.1, λ free. (let mixed : LeftTo left.0 ≡ Free = sym left.1 ∙ free in cc))

-- and it was not freed
not_freed : (freed : Bool) (whose : Owner) → IsStillTaken (if freed then Free else whose) → freed ≡ false
not_freed true whose taken = absurd ((taken_bit Free taken).1 refl)
not_freed false whose taken = refl

module _ (o : Origin) (c : Core) (inv : Invariant o c) where
  -- a needed block's bit is set
  pub needed_bit : (block : ℕ) → IsNeeded o c block → bit_of c.memory.now.taken block ≡ 1
  needed_bit block needed =
      (let taken = taken_bit (c.owner block) ((inv.contents needed.place needed.kept).taken block needed.named) in
      inv.owners.bits.bits block (inv.owners.bits.inside block taken.1) ∙ taken.0)

  -- so a setting of bits finds it set
  found_set : (word bits block : ℕ) → IsNeeded o c block → is_among word bits block ≡ true → bit_at (slice_index c.memory.now.taken word) (block % 64) ≡ 1
  found_set word bits block needed among = subst (λ (k : ℕ). bit_at (slice_index c.memory.now.taken k) (block % 64) ≡ 1)
      (eqb-true (block / 64) word (and_parts (block / 64 == word) (bit_at bits (block % 64) == 1) among).0) (needed_bit block needed)

  module _ (n word bits : ℕ) (note : Note) (allowed : Allowed o c (Does n (ClearBits (Map word) bits) note)) where
    abbrev clear : Ask
    clear = ClearBits (Map word) bits

    abbrev later : Core
    later = after o c (Does n clear note)

    abbrev value : ℕ
    value = slice_index c.memory.now.taken word

    abbrev step : MayStep o c (view_of c.views n) (ClearsBits word bits) note value
    step = allowed.step

    same_hold : note.seat.hold ≡ (view_of c.views n).seat.hold
    same_hold = ap (λ (s : Seat). s.hold) step.enters.seat_is ∙ ended_hold note.adds step.enters.last
        ∙ computed_hold _ (effect_at (view_of c.views n) note (ClearsBits word bits) value) step.enters.last step.enters.computed
        ∙ given_hold (is_of_owned note.before word bits) note.before word bits ∙ computed_hold _ (view_of c.views n).seat note.before step.begins

    -- each seat holds what it held
    hold_after : (k : ℕ) → (view_of later.views k).seat.hold ≡ (view_of c.views k).seat.hold
    hold_after k = same_or_other k n
        (λ same. subst (λ (j : ℕ). (view_of later.views j).seat.hold ≡ (view_of c.views j).seat.hold) (sym same)
        (ap (λ (v : View). v.seat.hold) (get_or-set_same c.views n _ spent_view allowed.made) ∙ same_hold))
        (λ other. ap (λ (v : View). v.seat.hold) (get_or-set_other c.views n k _ spent_view other))

    -- so a kept generation is kept
    kept_after : (place : ℕ) → KeptIn o c place → KeptIn o later place
    kept_after place kept = record {
      inside = kept.inside;
      why = ⊎_elim (λ floor. inl floor) (λ pin. inr (record {
        seat = pin.seat;
        valid = ap (λ (h : Hold). h.valid) (hold_after pin.seat) ∙ pin.valid;
        same = ap (λ (h : Hold). h.generation) (hold_after pin.seat) ∙ pin.same;
      })) kept.why;
    }

    -- and its blocks are still taken
    not_cleared : (block : ℕ) → IsNeeded o c block → is_among word bits block ≡ false
    not_cleared block needed = not_freed (is_among word bits block) (c.owner block)
        (((step_keeps o c (Does n clear note) inv allowed).contents needed.place (kept_after needed.place needed.kept)).taken block needed.named)

  spares : (n : ℕ) (ask : Ask) (note : Note) → Allowed o c (Does n ask note) → SparesNeeded o c ask
  spares n (Load p) note allowed = tt
  spares n (Store p given) note allowed = tt
  spares n (Exchange p before next) note allowed = tt
  spares n (SetBits (Image word) bits) note allowed = tt
  spares n (SetBits (Pin seat) bits) note allowed = tt
  spares n (SetBits (Map word) bits) note allowed = λ block needed among. found_set word bits block needed among
  spares n (SetBits (FenceOf seat) bits) note allowed = tt
  spares n (ClearBits (Image word) bits) note allowed = tt
  spares n (ClearBits (Pin seat) bits) note allowed = tt
  spares n (ClearBits (Map word) bits) note allowed = λ block needed. not_cleared n word bits note allowed block needed
  spares n (ClearBits (FenceOf seat) bits) note allowed = tt
  spares n (Mark word) note allowed = tt
  spares n Fence note allowed = tt

pub none_reused : NoneReused
none_reused o seat ask note steps start run = spares o (end o steps) (run_from o steps (start_meets o start) run.0) seat ask note run.1
