-- What an image stands for, after each of its calls.
use Rattle.std.proofs.Common.{◌≡◌, ◌<◌, ◌≤◌, ◌+◌, ◌^◌, ◌==◌, ◌&&◌, not, ℕ, Bool, true, false, if◌then◌else◌, List, [], ◌∷◌, length, max, refl, sym, ◌∙◌, ap, subst, arith, length-append, Result, Ok, Err, IfOk, IsErr}
use Rattle.std.proofs.Math.Logic.{∥∥₁_elim, ∥∥₁_map}
use Rattle.std.proofs.Math.Bridge.{le_prop}
use Rattle.log_entry.specs.declared.layouts.TheConstants.{SEAL}
use Rattle.pmem_words.specs.Seats.{Seat, q_of}
use Rattle.asks.specs.Asks.{answer}
use Rattle.asks.specs.declared.ask.Place.TheVariants.{Image, Pin, Map, FenceOf}
use Rattle.asks.specs.declared.ask.Ask.{Ask}
use Rattle.asks.specs.declared.ask.Ask.TheVariants.{Load, Store, Exchange, SetBits, ClearBits, Mark, Fence}
use Rattle.persistence.specs.Memory.{Memory, found, found_answer, memory_after}
use Rattle.persistence.specs.Cells.{CellsNow, MemoryTakes, cells_after}
use Rattle.log_core.specs.Origin.{Origin, first_position, q_of_origin as words_in_block}
use Rattle.log_core.specs.Files.{Write}
use Rattle.log_core.specs.Cores.{Core}
use Rattle.log_core.specs.Steps.{Note, Does, Kind, LoadsHead, StoresOwnPin, LoadsPinWord, LoadsImageWord, LoadsBitmapWord, SetsBits, ClearsBits, StoresWord, ExchangesSlot, ExchangesLink, ExchangesHead, MarksWord, Fences, NoKind, kind_of_ask}
use Rattle.log_core.specs.After.{after, history_after, history_if, write_of, synced_after}
use Rattle.log_core.specs.Runs.{IsReached}
use Rattle.log_core.specs.Invariant.{Invariant}
use Rattle.log_core.proofs.machines.Serving.{reached_keeps}
use Rattle.log_core.proofs.starts.StartMeets.{start_meets}
use Rattle.log_core.proofs.machines.Takes.{takes_asked}
use Rattle.log_core.proofs.machines.Agreeing.{reached_next}
use Rattle.crash_model.specs.Images.{SharedNow, ImageStandsFor, IsOfSomeRun, rise_if, rises, synced_by, kind_on, image_after, FitsImage, MayAsk, ImageStep}
use Rattle.log_core.proofs.kinds.StepHolds.{at_ask}
use Rattle.std.proofs.Math.Nat.{ℕ_set}

-- the history grows as the position rises
long_if : (won : Bool) (history : List Write) (w : Write) → length (history_if won history w) ≡ length history + rise_if won
long_if true history w = length-append history (w ∷ [])
long_if false history w = omega arith

history_long : (history : List Write) (seat : ℕ) (note : Note) (kind : Kind) (f : ℕ) → length (history_after history seat note kind f) ≡ length history + rises kind f
history_long history seat note (ExchangesSlot word entry) f = long_if ((f == 0) && not (entry == SEAL)) history (write_of seat note entry)
history_long history seat note LoadsHead f = omega arith
history_long history seat note (StoresOwnPin value) f = omega arith
history_long history seat note (LoadsPinWord other) f = omega arith
history_long history seat note (LoadsImageWord word) f = omega arith
history_long history seat note (LoadsBitmapWord word) f = omega arith
history_long history seat note (SetsBits word bits) f = omega arith
history_long history seat note (ClearsBits word bits) f = omega arith
history_long history seat note (StoresWord word value) f = omega arith
history_long history seat note (ExchangesLink word block) f = omega arith
history_long history seat note (ExchangesHead before next) f = omega arith
history_long history seat note (MarksWord word) f = omega arith
history_long history seat note Fences f = omega arith
history_long history seat note NoKind f = omega arith

-- and so does the synced position
synced_same : (synced : ℕ) (note : Note) (kind : Kind) → synced_after synced note kind ≡ synced_by synced note.before kind
synced_same synced note Fences = refl
synced_same synced note LoadsHead = refl
synced_same synced note (StoresOwnPin value) = refl
synced_same synced note (LoadsPinWord other) = refl
synced_same synced note (LoadsImageWord word) = refl
synced_same synced note (LoadsBitmapWord word) = refl
synced_same synced note (SetsBits word bits) = refl
synced_same synced note (ClearsBits word bits) = refl
synced_same synced note (StoresWord word value) = refl
synced_same synced note (ExchangesSlot word entry) = refl
synced_same synced note (ExchangesLink word block) = refl
synced_same synced note (ExchangesHead before next) = refl
synced_same synced note (MarksWord word) = refl
synced_same synced note NoKind = refl

-- what rises is told by the answer
rises_pin : (b : Bool) (value f g : ℕ) → rises (if b then StoresOwnPin value else NoKind) f ≡ rises (if b then StoresOwnPin value else NoKind) g
rises_pin true value f g = refl
rises_pin false value f g = refl

rises_answer : (q seat : ℕ) (ask : Ask) (f : ℕ) → rises (kind_of_ask q seat ask) f ≡ rises (kind_of_ask q seat ask) (answer ask f)
rises_answer q seat (Load p) f = refl
rises_answer q seat (Store (Image word) value) f = refl
rises_answer q seat (Store (Pin other) value) f = rises_pin (other == seat) value f 0
rises_answer q seat (Store (Map word) value) f = refl
rises_answer q seat (Store (FenceOf other) value) f = refl
rises_answer q seat (Exchange p before next) f = refl
rises_answer q seat (SetBits p bits) f = refl
rises_answer q seat (ClearBits p bits) f = refl
rises_answer q seat (Mark word) f = refl
rises_answer q seat Fence f = refl

module _ (i : SharedNow) (seat : ℕ) (s : Seat) (ask : Ask) (o : Origin) (c : Core) (note : Note) (fits : FitsImage i seat s ask o c note) where
  kind_same : kind_of_ask (words_in_block o) seat ask ≡ kind_on i seat ask
  kind_same = ap (λ (g : Rattle.log_entry.specs.declared.shapes.Geometry.Geometry). kind_of_ask (q_of g) seat ask) fits.stands.geometry

  pub reached_after : IsReached o (after o c (Does seat ask note))
  reached_after = reached_next o c (Does seat ask note) fits.stands.reached fits.step

  -- the image after the step stands for the core after it
  pub stands_after : ImageStandsFor (image_after i seat s ask) o (after o c (Does seat ask note))
  stands_after = record {
    start = fits.stands.start;
    geometry = fits.stands.geometry;
    reached = reached_after;
    memory = ap (λ (m : Memory). memory_after m seat ask) fits.stands.memory;
    position = position;
    synced = synced_same c.synced note (kind_of_ask (words_in_block o) seat ask)
        ∙ (ap (λ (kind : Kind). synced_by c.synced note.before kind) kind_same
        ∙ (ap (λ (x : Seat). synced_by c.synced x (kind_on i seat ask)) fits.before ∙ ap (λ (d : ℕ). synced_by d (s) (kind_on i seat ask)) fits.stands.synced));
  }
    where
      position : first_position o + length (history_after c.history seat note (kind_of_ask (words_in_block o) seat ask) (found c.memory ask)) ≡ i.position + rises (kind_on i seat ask) (found_answer i.cells.memory ask)
      position =
          (let long = history_long c.history seat note (kind_of_ask (words_in_block o) seat ask) (found c.memory ask) in
          let same : rises (kind_of_ask (words_in_block o) seat ask) (found c.memory ask) ≡ rises (kind_on i seat ask) (found_answer i.cells.memory ask) =
          rises_answer (words_in_block o) seat ask (found c.memory ask)
          ∙ (ap (λ (kind : Kind). rises kind (found_answer c.memory ask)) kind_same ∙ ap (λ (m : Memory). rises (kind_on i seat ask) (found_answer m ask)) fits.stands.memory) in
          let before = fits.stands.position in
          omega (arith, long, same, before))

  -- the core's invariant
  inv : Invariant o c
  inv = reached_keeps o (start_meets o fits.stands.start) c fits.stands.reached

  -- the position is below its limit
  low_one : i.position < 2 ^ 40
  low_one = (let limit = inv.order.log.limit in let is = fits.stands.position in omega (arith, limit, is))

  takes_one : MemoryTakes i.cells.memory ask
  takes_one = subst (λ (m : Memory). MemoryTakes m ask) fits.stands.memory (takes_asked o c seat ask note inv fits.step)

  -- the seat has its number
  number_one : s.number ≡ seat
  number_one = ap (λ (x : Seat). x.number) (sym fits.before)
      ∙ ((at_ask o c seat inv fits.step.made fits.step.unspent note (kind_of_ask (words_in_block o) seat ask) (found_answer c.memory ask) fits.step.step).fits fits.step.unspent).number

  stands_one : (p : Origin) × (d : Core) × ImageStandsFor (image_after i seat s ask) p d
  stands_one = (o, after o c (Does seat ask note), stands_after)

takes_prop : (m : Memory) (ask : Ask) → IsProp (MemoryTakes m ask)
takes_prop m (Load (Image word)) = le_prop
takes_prop m (Load (Pin seat)) = le_prop
takes_prop m (Load (Map word)) = le_prop
takes_prop m (Load (FenceOf seat)) = λ x y. refl
takes_prop m (Store (Image word) value) = le_prop
takes_prop m (Store (Pin seat) value) = le_prop
takes_prop m (Store (Map word) value) = le_prop
takes_prop m (Store (FenceOf seat) value) = λ x y. absurd x
takes_prop m (Exchange (Image word) before next) = le_prop
takes_prop m (Exchange (Pin seat) before next) = le_prop
takes_prop m (Exchange (Map word) before next) = le_prop
takes_prop m (Exchange (FenceOf seat) before next) = λ x y. absurd x
takes_prop m (SetBits (Image word) bits) = le_prop
takes_prop m (SetBits (Pin seat) bits) = le_prop
takes_prop m (SetBits (Map word) bits) = le_prop
takes_prop m (SetBits (FenceOf seat) bits) = λ x y. absurd x
takes_prop m (ClearBits (Image word) bits) = le_prop
takes_prop m (ClearBits (Pin seat) bits) = le_prop
takes_prop m (ClearBits (Map word) bits) = le_prop
takes_prop m (ClearBits (FenceOf seat) bits) = λ x y. absurd x
takes_prop m (Mark word) = le_prop
takes_prop m Fence = λ x y. refl

-- what a fitting core state, of whatever run, says of the image
module _ (i : SharedNow) (seat : ℕ) (s : Seat) (ask : Ask) (may : MayAsk i seat s ask) where
  pub takes : MemoryTakes i.cells.memory ask
  takes = ∥∥₁_elim may (takes_prop i.cells.memory ask) (λ f. takes_one i seat s ask f.0 f.1 f.2 f.3)

  pub number_is : s.number ≡ seat
  number_is = ∥∥₁_elim may (ℕ_set s.number seat) (λ f. number_one i seat s ask f.0 f.1 f.2 f.3)

  pub low : i.position < 2 ^ 40
  low = ∥∥₁_elim may le_prop (λ f. low_one i seat s ask f.0 f.1 f.2 f.3)

  pub stands_some : IsOfSomeRun (image_after i seat s ask)
  stands_some = ∥∥₁_map may (λ f. stands_one i seat s ask f.0 f.1 f.2 f.3)

-- each fitting core state is answered so, and stood for afterwards
pub step_made : (i : SharedNow) (s : Seat) (ask : Ask) → ImageStep i s ask (found_answer i.cells.memory ask) (image_after i s.number s ask)
step_made i s ask = record {
  answered = refl;
  left = refl;
  stands = λ o c note fits. (ap (λ (m : Memory). found_answer m ask) fits.stands.memory, stands_after i s.number s ask o c note fits);
}

-- room is no part of what an image stands for
with_room : (i : SharedNow) (room : ℕ) → ((o : Origin) × (c : Core) × ImageStandsFor i o c) → (o : Origin) × (c : Core) × ImageStandsFor (record i { cells = record (i.cells) { room = room } }) o c
with_room i room st = (st.0, st.1, (let x = st.2 in record { start = x.start; geometry = x.geometry; reached = x.reached; memory = x.memory; position = x.position; synced = x.synced }))

room_stands : (i : SharedNow) (cells : CellsNow) (room : ℕ) → cells ≡ record (i.cells) { room = room } → IsOfSomeRun i → IsOfSomeRun (record i { cells = cells })
room_stands i cells room e some = subst (λ (x : CellsNow). IsOfSomeRun (record i { cells = x })) (sym e) (∥∥₁_map some (with_room i room))

-- room that was made, or not
pub room_stands_by : {E : Type 0} (i : SharedNow) (cells : CellsNow) (steps : ℕ) (result : Result (Unit {0}) E) → IfOk result (λ _. cells ≡ record (i.cells) { room = max i.cells.room steps }) → (IsErr result → cells ≡ i.cells) →
    IsOfSomeRun i → IsOfSomeRun (record i { cells = cells })
room_stands_by i cells steps (Ok value) ok err some = room_stands i cells (max i.cells.room steps) ok some
room_stands_by i cells steps (Err e) ok err some = room_stands i cells i.cells.room (err refl) some

-- the image after a step is the one that the step makes
pub image_is : (i : SharedNow) (s : Seat) (ask : Ask) (cells : CellsNow) (answered q rise synced number : ℕ) → number ≡ s.number → cells ≡ cells_after i.cells number ask → answered ≡ found_answer i.cells.memory ask → q ≡ q_of i.geometry →
    rise ≡ rises (kind_of_ask q number ask) answered → synced ≡ synced_by i.synced s (kind_of_ask q number ask) →
    record { geometry = i.geometry; cells = cells; position = i.position + rise; synced = synced } ≡ image_after i s.number s ask
image_is i s ask cells answered q rise synced number number_is cells_is answered_is q_is rise_is synced_is = rw (cells_is, rise_is, synced_is, answered_is, q_is, number_is) refl

-- a step raises the position by 1 at most
rise_small : (b : Bool) → rise_if b ≤ 1
rise_small true = omega arith
rise_small false = omega arith

pub rises_small : (kind : Kind) (f : ℕ) → rises kind f ≤ 1
rises_small (ExchangesSlot word entry) f = rise_small ((f == 0) && not (entry == SEAL))
rises_small LoadsHead f = omega arith
rises_small (StoresOwnPin value) f = omega arith
rises_small (LoadsPinWord other) f = omega arith
rises_small (LoadsImageWord word) f = omega arith
rises_small (LoadsBitmapWord word) f = omega arith
rises_small (SetsBits word bits) f = omega arith
rises_small (ClearsBits word bits) f = omega arith
rises_small (StoresWord word value) f = omega arith
rises_small (ExchangesLink word block) f = omega arith
rises_small (ExchangesHead before next) f = omega arith
rises_small (MarksWord word) f = omega arith
rises_small Fences f = omega arith
rises_small NoKind f = omega arith
