-- What a step that is no exchange leaves of the core's history, log and owners, and what taking blocks makes of the bits that a seat knows.
use Rattle.std.proofs.Common.{◌≡◌, ℕ, ◌-◌, ◌==◌, ◌≢◌, [], Bool, true, false, List, length, slice_index, if◌then◌else◌, Option, Some, None, refl, sym, ap, subst, ◌∙◌}
use Rattle.pmem_words.specs.Seats.{Seat}
use Rattle.asks.specs.declared.ask.Ask.{Ask}
use Rattle.persistence.specs.Memory.{found, found_answer}
use Rattle.log_core.specs.Views.{MarkedWord, Ghost, view_of}
use Rattle.log_core.specs.Owners.{SeatOwns}
use Rattle.block_bitmap.proofs.TakeEffects.{effect_is}
use Rattle.log_core.specs.Origin.{Origin, Owner, q_of_origin}
use Rattle.log_core.specs.Cores.{Core}
use Rattle.log_core.specs.Steps.{Note, Does, Kind, LoadsHead, StoresOwnPin, LoadsPinWord, LoadsImageWord, LoadsBitmapWord, SetsBits, ClearsBits, StoresWord, ExchangesSlot, ExchangesLink, ExchangesHead, MarksWord, Fences, NoKind, kind_of_ask, effect}
use Rattle.log_core.specs.After.{after, history_after, logs_after, owner_after}
use Rattle.log_core.specs.May.{May}
use Rattle.log_core.specs.Invariant.{Invariant}
use Rattle.log_core.specs.Knows.{Knows}
use Rattle.log_core.proofs.BitmapFacts.{word_inside}
use Rattle.pins.specs.declared.pin.Pin.{Pin}
use Rattle.pins.specs.declared.pin.Pin.TheVariants.{Begin, Publish, Confirm}
use Rattle.pins.specs.declared.unpin.Unpin.{Unpin}
use Rattle.pins.specs.Pinning.{pin_asks}
use Rattle.pins.specs.Unpinning.{unpin_script}
use Rattle.pins.specs.Steps.{generation_in}
use Rattle.block_bitmap.specs.declared.take.Take.{Take}
use Rattle.block_bitmap.specs.declared.fill.Fill.{Fill}
use Rattle.block_bitmap.specs.declared.fill.Fill.TheVariants.{Store, Mark, Fence}
use Rattle.block_bitmap.specs.TakeScript.{asks_at, after_at, word_of, wanted_at, gained_at, open_at, less, known_set, seat_set, with_found}
use Rattle.block_bitmap.specs.TakeBits.{bits_of}
use Rattle.block_bitmap.specs.Filling.{fill_asks}
use Rattle.log_blocks.specs.declared.walk.Walk.{Walk}
use Rattle.log_blocks.specs.Walking.{walk_asks, block_at, word_at}
use Rattle.log_core.specs.Entries.{head_place, place_in}
use Rattle.log_core.specs.Works.{seat_shape}
use Rattle.write_any.proofs.AloneBits.{IsTakenSince, KnowsBits, bits_loaded, bits_set}
use Rattle.write_any.proofs.RoundFalls.{settled_seat, ended_seat}

-- a kind of step that changes no history, no log and no owner
abbrev pub IsPlain : Kind → Type 0
IsPlain LoadsHead = Unit {0}
IsPlain (StoresOwnPin value) = Unit {0}
IsPlain (LoadsPinWord other) = Unit {0}
IsPlain (LoadsImageWord word) = Unit {0}
IsPlain (LoadsBitmapWord word) = Unit {0}
IsPlain (SetsBits word bits) = ⊥
IsPlain (ClearsBits word bits) = ⊥
IsPlain (StoresWord word value) = Unit {0}
IsPlain (ExchangesSlot word entry) = ⊥
IsPlain (ExchangesLink word block) = ⊥
IsPlain (ExchangesHead before next) = ⊥
IsPlain (MarksWord word) = Unit {0}
IsPlain Fences = Unit {0}
IsPlain NoKind = Unit {0}

-- a core that has the same history, log and owners
pub record Stays (c d : Core) : Type 0 where
  pub history : d.history ≡ c.history
  pub logs : d.logs ≡ c.logs
  pub owner : (block : ℕ) → d.owner block ≡ c.owner block

module _ (o : Origin) (c : Core) (seat : ℕ) (ask : Ask) (note : Note) where
  plain_by : (kind : Kind) (f : ℕ) → IsPlain kind → (history_after c.history seat note kind f ≡ c.history) × (logs_after c.logs note kind f ≡ c.logs) × ((block : ℕ) → owner_after c.owner seat note kind f block ≡ c.owner block)
  plain_by LoadsHead f plain = (refl, refl, λ block. refl)
  plain_by (StoresOwnPin value) f plain = (refl, refl, λ block. refl)
  plain_by (LoadsPinWord other) f plain = (refl, refl, λ block. refl)
  plain_by (LoadsImageWord word) f plain = (refl, refl, λ block. refl)
  plain_by (LoadsBitmapWord word) f plain = (refl, refl, λ block. refl)
  plain_by (SetsBits word bits) f plain = absurd plain
  plain_by (ClearsBits word bits) f plain = absurd plain
  plain_by (StoresWord word value) f plain = (refl, refl, λ block. refl)
  plain_by (ExchangesSlot word entry) f plain = absurd plain
  plain_by (ExchangesLink word block) f plain = absurd plain
  plain_by (ExchangesHead before next) f plain = absurd plain
  plain_by (MarksWord word) f plain = (refl, refl, λ block. refl)
  plain_by Fences f plain = (refl, refl, λ block. refl)
  plain_by NoKind f plain = (refl, refl, λ block. refl)

  pub plain_stays : IsPlain (kind_of_ask (q_of_origin o) seat ask) → Stays c (after o c (Does seat ask note))
  plain_stays plain = (let by = plain_by (kind_of_ask (q_of_origin o) seat ask) (found c.memory ask) plain in record { history = by.0; logs = by.1; owner = by.2 })

-- the asks of these parts are such
load_plain : (head : Bool) (word : ℕ) → IsPlain (if head then LoadsHead else LoadsImageWord word)
load_plain true word = tt
load_plain false word = tt

own_plain : (own : Bool) (value : ℕ) → IsPlain (if own then StoresOwnPin value else NoKind)
own_plain true value = tt
own_plain false value = tt

pub pin_plain : (q seat : ℕ) (p : Pin) (s : Seat) → IsPlain (kind_of_ask q seat (pin_asks p s))
pin_plain q seat Begin s = tt
pin_plain q seat Publish s = own_plain (s.number == seat) (generation_in s.hold.head)
pin_plain q seat Confirm s = tt

pub unpin_plain : (q seat : ℕ) (p : Unpin) (s : Seat) → IsPlain (kind_of_ask q seat (unpin_script.asks p s))
unpin_plain q seat p s = own_plain (s.number == seat) 0

pub walk_plain : (q seat : ℕ) (p : Walk) (s : Seat) → IsPlain (kind_of_ask q seat (walk_asks p s))
walk_plain q seat p s = load_plain (place_in (seat_shape s) (block_at p s) (word_at p s) == head_place) (place_in (seat_shape s) (block_at p s) (word_at p s))

pub fill_plain : (q seat : ℕ) (p : Fill) (s : Seat) → IsPlain (kind_of_ask q seat (fill_asks p s))
fill_plain q seat (Store place left word) s = tt
fill_plain q seat (Mark place left word) s = tt
fill_plain q seat Fence s = tt

-- owners that are the same
pub bits_same : (o : Origin) (seat : ℕ) (before : ℕ → Owner) (found more : List ℕ) (owner later : ℕ → Owner) → more ≡ found → ((block : ℕ) → later block ≡ owner block) → KnowsBits o seat before found owner → KnowsBits o seat before more later
bits_same o seat before found more owner later same_found same knows = subst (λ (l : List ℕ). KnowsBits o seat before l later) (sym same_found) (record {
  owners = λ block. subst (λ (now : Owner). IsTakenSince seat (before block) now) (sym (same block)) (knows.owners block);
  taken = λ block low set free. knows.taken block low set (sym (same block) ∙ free);
})

-- a step of taking
module _ (o : Origin) (c : Core) (seat : ℕ) (s : Seat) (g : Ghost) (pin began : ℕ) (inv : Invariant o c) (knows : Knows o c seat s g pin began) (unspent : (view_of c.views seat).parts ≢ [])
    (before : ℕ → Owner) (note : Note) where
  pub take_bits : (known : Option ℕ) (p : Take) → May o c g s (kind_of_ask (q_of_origin o) seat (asks_at known p s)) → KnowsBits o seat before s.blocks.found c.owner →
      KnowsBits o seat before (after_at known p s (found_answer c.memory (asks_at known p s))).seat.blocks.found (after o c (Does seat (asks_at known p s) note)).owner
  take_bits None p may bits =
      (let f = slice_index c.memory.now.taken (word_of p s) in
      bits_same o seat before (with_found (word_of p s) f s).blocks.found _ c.owner _
      (ap (λ (u : Seat). u.blocks.found) (settled_seat (open_at p (with_found (word_of p s) f s) f) p (with_found (word_of p s) f s) f)) (λ block. refl)
      (bits_loaded o seat before s.blocks.found c.owner c.memory.now.taken inv.owners.bits (word_of p s) may.inside (word_inside o c seat s g pin began inv knows unspent (word_of p s) may.inside) bits))
  take_bits (Some known) p may bits =
      (let f = slice_index c.memory.now.taken (word_of p s) in
      let chosen = bits_of (wanted_at p s known) in
      bits_same o seat before (seat_set p s known f).blocks.found _ (after o c (Does seat (asks_at (Some known) p s) note)).owner _
      (ap (λ (u : Seat). u.blocks.found) (ended_seat (p.count - length (gained_at p s known f) == 0) (less p (length (gained_at p s known f))) (seat_set p s known f) (known_set p s known f))) (λ block. refl)
      (bits_set o seat before s.blocks.found c.owner c.memory.now.taken inv.owners.bits (word_of p s) may.inside (word_inside o c seat s g pin began inv knows unspent (word_of p s) may.inside) bits chosen))

  pub take_history : (known : Option ℕ) (p : Take) → ((after o c (Does seat (asks_at known p s) note)).history ≡ c.history) × ((after o c (Does seat (asks_at known p s) note)).logs ≡ c.logs)
  take_history None p = (refl, refl)
  take_history (Some known) p = (refl, refl)

-- what a seat owns after such a step
pub take_owns : (known : Option ℕ) (marks : List MarkedWord) (owner : ℕ → Owner) (q seat : ℕ) (p : Take) (s : Seat) (f : ℕ) → SeatOwns owner seat (effect marks s (kind_of_ask q seat (asks_at known p s)) f) → SeatOwns owner seat (after_at known p s f).seat
take_owns None marks owner q seat p s f owns = subst (λ (u : Seat). SeatOwns owner seat u) (sym (settled_seat (open_at p (with_found (word_of p s) f s) f) p (with_found (word_of p s) f s) f)) owns
take_owns (Some known) marks owner q seat p s f owns =
    subst (λ (u : Seat). SeatOwns owner seat u) (sym (ended_seat (p.count - length (gained_at p s known f) == 0) (less p (length (gained_at p s known f))) (seat_set p s known f) (known_set p s known f)))
    (subst (λ (u : Seat). SeatOwns owner seat u) (effect_is p s known marks f) owns)
