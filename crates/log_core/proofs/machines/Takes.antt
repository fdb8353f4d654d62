-- An ask that is allowed is on a word that the memory has.
use Rattle.std.proofs.Common.{◌≡◌, ◌≢◌, ◌<◌, ◌/◌, ◌==◌, ◌%◌, not, ℕ, Bool, true, false, if◌then◌else◌, [], length, refl, sym, subst, arith, slice_index}
use Rattle.std.proofs.lemmas.Bool.{eqb-true}
use Rattle.asks.specs.declared.ask.Place.TheVariants.{Image, Pin, Map, FenceOf}
use Rattle.asks.specs.declared.ask.Ask.{Ask}
use Rattle.asks.specs.declared.ask.Ask.TheVariants.{Load, Store, Exchange, SetBits, ClearBits, Mark, Fence}
use Rattle.persistence.specs.Memory.{found_answer}
use Rattle.persistence.specs.Cells.{MemoryTakes}
use Rattle.log_image.specs.Chains.{is_listed}
use Rattle.log_core.specs.Entries.{head_place}
use Rattle.log_core.specs.Views.{view_of, op_in}
use Rattle.log_core.specs.Origin.{Origin, q_of_origin}
use Rattle.log_core.specs.Cores.{Core}
use Rattle.log_core.specs.Steps.{Note, Does, is_begun, LoadsHead, StoresOwnPin, LoadsImageWord, NoKind, ExchangesHead, ExchangesLink, ExchangesSlot, kind_of_ask}
use Rattle.log_core.specs.Files.{end_of}
use Rattle.log_core.specs.Works.{words_of}
use Rattle.log_core.specs.Needs.{owned_numbers}
use Rattle.log_core.specs.After.{began_if}
use Rattle.log_core.specs.May.{May}
use Rattle.log_core.specs.Runs.{MayStep, ghost_at, Allowed}
use Rattle.log_core.specs.Invariant.{Invariant}
use Rattle.log_core.specs.Knows.{Knows}
use Rattle.log_core.proofs.BitmapFacts.{word_inside as found_inside}
use Rattle.log_core.proofs.clauses.OwnWords.{word_inside as own_inside}
use Rattle.log_core.proofs.ChainPlaces.{head_inside}
use Rattle.log_core.proofs.kinds.MarksFit.{mark_fits}
use Rattle.log_core.proofs.kinds.LoadsImageWord.{named_inside}
use Rattle.log_core.proofs.kinds.StepHolds.{at_ask}
use Rattle.log_core.proofs.kinds.ExchangeHolds.{link_inside, slot_inside}

module _ (o : Origin) (c : Core) (seat : ℕ) (note : Note) (inv : Invariant o c) (made : seat < length c.views) (unspent : (view_of c.views seat).parts ≢ []) where
  head_taken : head_place < length c.memory.now.words
  head_taken = (let low = head_inside o c inv in let many = inv.sizes.words.words in omega (arith, low, many))

  pins_inside : (other : ℕ) → other < o.seats → other < length c.memory.now.pins
  pins_inside other inside = (let many = inv.sizes.words.pins in omega (arith, inside, many))

  -- what is known at the ask
  abbrev KnownAt : Ask → Type 0
  KnownAt ask = (step : MayStep o c (view_of c.views seat) (kind_of_ask (q_of_origin o) seat ask) note (found_answer c.memory ask)) →
      Knows o c seat note.before (ghost_at (view_of c.views seat) note) (slice_index c.memory.now.pins seat)
      (slice_index (began_if (is_begun (op_in (view_of c.views seat).seat) (op_in note.before)) c.began seat (end_of o c.history)) seat)

  -- each ask is on a word that the memory has
  by_head : (word : ℕ) (pin began : ℕ) → Knows o c seat note.before (ghost_at (view_of c.views seat) note) pin began → (b : Bool) → (word == head_place) ≡ b →
      May o c (ghost_at (view_of c.views seat) note) note.before (if b then LoadsHead else LoadsImageWord word) → word < length c.memory.now.words
  by_head word pin began known true e may = subst (λ (k : ℕ). k < length c.memory.now.words) (sym (eqb-true word head_place e)) head_taken
  by_head word pin began known false e may =
      (let low = named_inside o c seat note.before (ghost_at (view_of c.views seat) note) pin began word inv known unspent may in let many = inv.sizes.words.words in omega (arith, low, many))

  by_own : (other value : ℕ) (b : Bool) → (other == seat) ≡ b → May o c (ghost_at (view_of c.views seat) note) note.before (if b then StoresOwnPin value else NoKind) → other < length c.memory.now.pins
  by_own other value true e may = (let same = eqb-true other seat e in let made = made in let few = inv.sizes.few in pins_inside other (omega (arith, same, made, few)))
  by_own other value false e may = absurd may

  -- a bitmap word that the seat has, and a word of a block that it owns
  bitmap_inside : (word : ℕ) → word < length note.before.blocks.found → (pin began : ℕ) → Knows o c seat note.before (ghost_at (view_of c.views seat) note) pin began → word < length c.memory.now.taken
  bitmap_inside word inside pin began known = found_inside o c seat note.before (ghost_at (view_of c.views seat) note) pin began inv known unspent word inside

  image_inside : (word : ℕ) → is_listed (owned_numbers note.before.blocks.owned) (word / words_of note.before) ≡ true → (pin began : ℕ) →
      Knows o c seat note.before (ghost_at (view_of c.views seat) note) pin began → word < length c.memory.now.words
  image_inside word owned pin began known =
      (let low = own_inside o c seat note.before (ghost_at (view_of c.views seat) note) pin began inv known unspent word owned in let many = inv.sizes.words.words in omega (arith, low, many))

  -- an exchange of an image word
  by_exchange : (word before next pin began : ℕ) → Knows o c seat note.before (ghost_at (view_of c.views seat) note) pin began → (head none link : Bool) → (word == head_place) ≡ head →
      May o c (ghost_at (view_of c.views seat) note) note.before (if head then ExchangesHead before next else if not none then NoKind else if link then ExchangesLink word next else ExchangesSlot word next) →
      word < length c.memory.now.words
  by_exchange word before next pin began known true none link at may = subst (λ (k : ℕ). k < length c.memory.now.words) (sym (eqb-true word head_place at)) head_taken
  by_exchange word before next pin began known false false link at may = absurd may
  by_exchange word before next pin began known false true true at may =
      (let low = link_inside o c seat note.before (ghost_at (view_of c.views seat) note) pin began inv known unspent word next may in let many = inv.sizes.words.words in omega (arith, low, many))
  by_exchange word before next pin began known false true false at may =
      (let low = slot_inside o c seat note.before (ghost_at (view_of c.views seat) note) pin began inv known unspent word next may in let many = inv.sizes.words.words in omega (arith, low, many))

  takes_by : (ask : Ask) → KnownAt ask →
      (step : MayStep o c (view_of c.views seat) (kind_of_ask (q_of_origin o) seat ask) note (found_answer c.memory ask)) → MemoryTakes c.memory ask
  takes_by (Load (Image word)) known step = by_head word _ _ (known step) (word == head_place) refl step.may
  takes_by (Load (Pin other)) known step = pins_inside other step.may.inside
  takes_by (Load (Map word)) known step = bitmap_inside word step.may.inside _ _ (known step)
  takes_by (Load (FenceOf other)) known step = absurd step.may
  takes_by (Store (Image word) value) known step = image_inside word step.may.owned _ _ (known step)
  takes_by (Store (Pin other) value) known step = by_own other value (other == seat) refl step.may
  takes_by (Store (Map word) value) known step = absurd step.may
  takes_by (Store (FenceOf other) value) known step = absurd step.may
  takes_by (Exchange (Image word) before next) known step = by_exchange word before next _ _ (known step) (word == head_place) (before == 0) (word % q_of_origin o == 0) refl step.may
  takes_by (Exchange (Pin other) before next) known step = absurd step.may
  takes_by (Exchange (Map word) before next) known step = absurd step.may
  takes_by (Exchange (FenceOf other) before next) known step = absurd step.may
  takes_by (SetBits (Image word) bits) known step = absurd step.may
  takes_by (SetBits (Pin other) bits) known step = absurd step.may
  takes_by (SetBits (Map word) bits) known step = bitmap_inside word step.may.inside _ _ (known step)
  takes_by (SetBits (FenceOf other) bits) known step = absurd step.may
  takes_by (ClearBits (Image word) bits) known step = absurd step.may
  takes_by (ClearBits (Pin other) bits) known step = absurd step.may
  takes_by (ClearBits (Map word) bits) known step = bitmap_inside word step.may.inside _ _ (known step)
  takes_by (ClearBits (FenceOf other) bits) known step = absurd step.may
  takes_by (Mark word) known step =
      (let low = (mark_fits o c seat note.before (ghost_at (view_of c.views seat) note) _ _ inv (known step) unspent word step.may).inside in let many = inv.sizes.words.words in omega (arith, low, many))
  takes_by Fence known step = tt

-- so each step that is allowed is one that the memory takes
pub takes_asked : (o : Origin) (c : Core) (seat : ℕ) (ask : Ask) (note : Note) → Invariant o c → Allowed o c (Does seat ask note) → MemoryTakes c.memory ask
takes_asked o c seat ask note inv allowed =
    takes_by o c seat note inv allowed.made allowed.unspent ask
    (λ step. at_ask o c seat inv allowed.made allowed.unspent note (kind_of_ask (q_of_origin o) seat ask) (found_answer c.memory ask) step)
    allowed.step
