-- A step that exchanges a word of the log keeps the invariant.
use Rattle.std.proofs.Common.{◌≡◌, ◌≢◌, ◌<◌, ◌==◌, ℕ, Bool, true, false, [], length, refl, sym, arith, slice_index}
use Rattle.std.proofs.lemmas.Bool.{eqb-true, eqb-false}
use Rattle.log_entry.specs.declared.layouts.TheConstants.{SEAL}
use Rattle.pmem_words.specs.Seats.{Seat}
use Rattle.asks.specs.declared.ask.Place.TheVariants.{Image}
use Rattle.asks.specs.declared.ask.Ask.TheVariants.{Exchange}
use Rattle.log_core.specs.Entries.{place_in}
use Rattle.log_core.specs.Works.{seat_shape, words_of}
use Rattle.log_core.specs.Views.{Ghost, view_of, op_in}
use Rattle.log_core.specs.Origin.{Origin}
use Rattle.log_core.specs.Cores.{Core}
use Rattle.log_core.specs.Steps.{Note, ExchangesLink, ExchangesSlot, is_begun, call_if}
use Rattle.log_core.specs.After.{stepped}
use Rattle.log_core.specs.May.{IsAtTail, MayExchangeLink, MayExchangeSlot}
use Rattle.log_core.specs.Runs.{MayNumber, ghost_at}
use Rattle.log_core.specs.Invariant.{Invariant}
use Rattle.log_core.specs.Knows.{Knows}
use Rattle.log_core.proofs.TailEnds.{same_words, tail_load}
use Rattle.log_core.proofs.kinds.Entered.{entered}
use Rattle.log_core.proofs.kinds.LoadsImageWord.{named_inside}
use Rattle.log_core.proofs.kinds.LinkHolds.{link_keeps}
use Rattle.log_core.proofs.kinds.SlotHolds.{slot_keeps}
use Rattle.log_core.proofs.kinds.StepHolds.{Keeps, at_ask, began, began_fits, began_others, began_lows}

-- the word is one of the image
pub link_inside : (o : Origin) (c : Core) (n : ℕ) (s : Seat) (g : Ghost) (pin began : ℕ) (inv : Invariant o c) → Knows o c n s g pin began → (view_of c.views n).parts ≢ [] → (word block : ℕ) →
    MayExchangeLink s word block → word < length o.words
link_inside o c n s g pin began inv f unspent word block may = named_inside o c n s g pin began word inv f unspent (tail_load o c n s g pin began inv f unspent may.valid may.ready 0 word
    (let wide = inv.sizes.image.wide in let same = same_words o c n s g pin began inv f unspent may.valid may.ready in omega (arith, wide, same)) may.link)

-- and so is that of a slot
pub slot_inside : (o : Origin) (c : Core) (n : ℕ) (s : Seat) (g : Ghost) (pin began : ℕ) (inv : Invariant o c) → Knows o c n s g pin began → (view_of c.views n).parts ≢ [] → (word entry : ℕ) →
    MayExchangeSlot o c.history s word entry → word < length o.words
slot_inside o c n s g pin began inv f unspent word entry may = by (entry == SEAL) refl
  where
    at_slot : IsAtTail s → word ≡ place_in (seat_shape s) s.walk.tail_block s.walk.tail_slot → s.walk.tail_slot < words_of s → word < length o.words
    at_slot tail slot inside = named_inside o c n s g pin began word inv f unspent (tail_load o c n s g pin began inv f unspent tail.valid tail.ready s.walk.tail_slot word inside slot)

    by : (seal : Bool) → (entry == SEAL) ≡ seal → word < length o.words
    by true is = (let fits = may.0 (eqb-true entry SEAL is) in at_slot fits.at_tail fits.slot fits.inside)
    by false is = (let fits = may.1 (eqb-false entry SEAL is) in at_slot fits.at_tail fits.slot fits.inside)

-- the number of the running call
call_number : (g : Ghost) (begun : Bool) (number : ℕ) → MayNumber begun g.call.number number → (call_if begun g.call number).number ≡ number
call_number g true number higher = refl
call_number g false number same = sym same

module _ (o : Origin) (c : Core) (n : ℕ) (inv : Invariant o c) (here : n < length c.views) (unspent : (view_of c.views n).parts ≢ []) (note : Note) where
  -- an exchange of a link
  pub link_holds : (word block : ℕ) → Keeps o c n inv here unspent note (ExchangesLink word block) (slice_index c.memory.now.words word)
      (Invariant o (stepped o c n (Exchange (Image word) 0 block) note (ExchangesLink word block) (slice_index c.memory.now.words word)))
  link_holds word block step = (let f = slice_index c.memory.now.words word in
      entered o c n note (ExchangesLink word block) f here unspent step (stepped o c n (Exchange (Image word) 0 block) note (ExchangesLink word block) f)
      (link_keeps o c n note.before (ghost_at (view_of c.views n) note) word block (began o c n inv here unspent note) inv here unspent
      (at_ask o c n inv here unspent note (ExchangesLink word block) f step) step.may
      (began_fits o c n inv here unspent note) (began_others o c n inv here unspent note) (began_lows o c n inv here unspent note) (f == 0) refl))

  -- an exchange of a slot
  pub slot_holds : (word entry : ℕ) → Keeps o c n inv here unspent note (ExchangesSlot word entry) (slice_index c.memory.now.words word)
      (Invariant o (stepped o c n (Exchange (Image word) 0 entry) note (ExchangesSlot word entry) (slice_index c.memory.now.words word)))
  slot_holds word entry step = (let f = slice_index c.memory.now.words word in
      entered o c n note (ExchangesSlot word entry) f here unspent step (stepped o c n (Exchange (Image word) 0 entry) note (ExchangesSlot word entry) f)
      (slot_keeps o c n note.before (ghost_at (view_of c.views n) note) word entry note.number (began o c n inv here unspent note) inv here unspent
      (at_ask o c n inv here unspent note (ExchangesSlot word entry) f step) step.may
      (call_number (view_of c.views n).ghost (is_begun (op_in (view_of c.views n).seat) (op_in note.before)) note.number step.number)
      (began_fits o c n inv here unspent note) (began_others o c n inv here unspent note) (began_lows o c n inv here unspent note) (entry == SEAL) refl (f == 0) refl))
