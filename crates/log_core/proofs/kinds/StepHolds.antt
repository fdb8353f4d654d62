-- Each step of each kind keeps the invariant.
use Rattle.std.proofs.Common.{◌≡◌, ◌==◌, ◌≢◌, ◌<◌, ◌≤◌, ℕ, zero, suc, Bool, true, false, List, [], ◌∷◌, length, refl, sym, ◌∙◌, ap, subst, arith, ⊎_elim, slice_index, slice_set, Option, Some, None}
use Rattle.std.proofs.lemmas.List.{get_or-set_same, get_or-set_other, length-set, set-get_or}
use Rattle.log_entry.specs.declared.calls.Op.{Op}
use Rattle.pmem_words.specs.Seats.{Seat}
use Rattle.asks.specs.declared.ask.Place.TheVariants.{Image, Pin, Map}
use Rattle.asks.specs.declared.ask.Ask.TheVariants.{Load, Store, Exchange, SetBits, ClearBits, Mark}
use Rattle.persistence.specs.Memory.{Memory, memory_after}
use Rattle.log_core.specs.Entries.{head_place}
use Rattle.log_core.specs.Views.{View, view_of, op_in}
use Rattle.log_core.specs.Origin.{Origin, shape, Owner}
use Rattle.log_core.specs.Files.{end_of}
use Rattle.log_core.specs.Cores.{Core}
use Rattle.log_core.specs.Owners.{BitsFit}
use Rattle.log_core.specs.Steps.{Note, Kind, LoadsHead, LoadsImageWord, StoresOwnPin, LoadsPinWord, LoadsBitmapWord, SetsBits, ClearsBits, StoresWord, MarksWord, ExchangesHead, is_begun, is_of_owned, ghost_begun, view_after}
use Rattle.log_core.specs.After.{stepped, began_if, owner_after}
use Rattle.log_core.specs.Runs.{MayNumber, MayStep, ghost_at, effect_at, ghost_left}
use Rattle.log_core.specs.Invariant.{Invariant}
use Rattle.log_core.specs.Knows.{with_seat, Knows}
use Rattle.log_core.proofs.clauses.Leaves.{Leaves, Changes, LeavesOwners, moved, no_changes, changes_leave, pins_leave}
use Rattle.log_core.proofs.clauses.SetCore.{set_core}
use Rattle.log_core.proofs.Facts.{facts_of, pins_known}
use Rattle.log_core.proofs.kinds.Worked.{FactsAt, works_hold}
use Rattle.log_core.proofs.kinds.Entered.{entered}
use Rattle.log_core.proofs.kinds.HeadHolds.{head_exchange}
use Rattle.log_core.proofs.kinds.LoadsHead.{load_facts}
use Rattle.log_core.proofs.kinds.LoadsImageWord.{image_facts}
use Rattle.log_core.proofs.kinds.StoresOwnPin.{store_facts}
use Rattle.log_core.proofs.kinds.LoadsPinWord.{seen_facts}
use Rattle.log_core.proofs.kinds.LoadsBitmapWord.{map_leaves, map_bits, map_facts}
use Rattle.log_core.proofs.kinds.SetsBits.{sets_leaves, sets_changes, sets_bits, sets_facts}
use Rattle.log_core.proofs.kinds.ClearsBits.{clears_leaves, clears_changes, clears_bits, clears_facts}
use Rattle.log_core.proofs.kinds.GivesBack.{gives_leaves, gives_owners, gives_bits, gives_facts}
use Rattle.log_core.proofs.kinds.StoresWord.{store_leaves, store_word_facts}
use Rattle.log_core.proofs.kinds.MarksFit.{mark_fits}
use Rattle.log_core.proofs.kinds.MarksWord.{mark_leaves, mark_word_facts}

began_length : (b : Bool) (began : List ℕ) (n end : ℕ) → length (began_if b began n end) ≡ length began
began_length true began n end = length-set began n end
began_length false began n end = refl

began_other : (b : Bool) (began : List ℕ) (n end k : ℕ) → k ≢ n → slice_index (began_if b began n end) k ≡ slice_index began k
began_other true began n end k other = get_or-set_other began n k end 0 other
began_other false began n end k other = refl

-- no call has begun past the end
set_low : (began : List ℕ) (n end k : ℕ) → slice_index began k ≤ end → slice_index (slice_set began n end) k ≤ end
set_low [] n end k low = low
set_low (b ∷ began) zero end zero low = omega arith
set_low (b ∷ began) zero end (suc k) low = low
set_low (b ∷ began) (suc n) end zero low = low
set_low (b ∷ began) (suc n) end (suc k) low = set_low began n end k low

began_low : (b : Bool) (began : List ℕ) (n end k : ℕ) → slice_index began k ≤ end → slice_index (began_if b began n end) k ≤ end
began_low true began n end k low = set_low began n end k low
began_low false began n end k low = low

-- a step of a kind, whose parts are given
module _ (o : Origin) (c : Core) (n : ℕ) (inv : Invariant o c) (here : n < length c.views) (unspent : (view_of c.views n).parts ≢ []) (note : Note) where
  abbrev mine : View
  mine = view_of c.views n

  abbrev pub began : List ℕ
  began = began_if (is_begun (op_in mine.seat) (op_in note.before)) c.began n (end_of o c.history)

  pub began_fits : length began ≡ length c.began
  began_fits = began_length (is_begun (op_in mine.seat) (op_in note.before)) c.began n (end_of o c.history)

  pub began_others : (k : ℕ) → k ≢ n → slice_index began k ≡ slice_index c.began k
  began_others = began_other (is_begun (op_in mine.seat) (op_in note.before)) c.began n (end_of o c.history)

  pub began_lows : (k : ℕ) → slice_index began k ≤ end_of o c.history
  began_lows k = began_low (is_begun (op_in mine.seat) (op_in note.before)) c.began n (end_of o c.history) k (inv.records.begun k)

  module _ (kind : Kind) (f : ℕ) (step : MayStep o c mine kind note f) where
    -- what holds at the ask
    pub at_ask : Knows o c n note.before (ghost_at mine note) (slice_index c.memory.now.pins n) (slice_index began n)
    at_ask = subst (λ (s : Seat). Knows o c n s (ghost_begun mine.ghost mine.seat s note.number) (slice_index c.memory.now.pins n) (slice_index (began_if (is_begun (op_in mine.seat) (op_in s)) c.began n (end_of o c.history)) n))
        (sym step.begins.gives)
        (works_hold o c n (slice_index c.memory.now.pins n) note.number inv unspent mine.seat step.begins.works step.begins.may start (λ e. e)
        (subst (λ (s : Seat). MayNumber (is_begun (op_in mine.seat) (op_in s)) mine.ghost.call.number note.number) step.begins.gives step.number))
      where
        begun_same : (op : Option Op) → is_begun op op ≡ false
        begun_same None = refl
        begun_same (Some op) = refl

        start : FactsAt o c n (slice_index c.memory.now.pins n) note.number mine.seat
        start = rw (begun_same (op_in mine.seat)) (facts_of o c n inv here)

    -- so the step keeps the invariant, where it leaves to the others what they know, and its effect is known
    pub kind_leaves : (m : Memory) (owner : ℕ → Owner) → Leaves o c n m → LeavesOwners o c n m (with_seat mine (effect_at mine note kind f) (ghost_left mine note kind f)) owner → BitsFit (shape o) m.now.taken owner →
        Knows o (moved c m owner) n (effect_at mine note kind f) (ghost_left mine note kind f) (slice_index m.now.pins n) (slice_index began n) →
        Invariant o (record c { memory = m; views = slice_set c.views n (view_after mine kind note f); owner = owner; began = began })
    kind_leaves m owner leaves changes bits facts = entered o c n note kind f here unspent step (record c { memory = m; owner = owner; began = began })
        (set_core o c n (effect_at mine note kind f) (ghost_left mine note kind f) m owner began inv here unspent leaves changes bits facts began_fits began_others began_lows)

    -- as where the seat takes or gives back own blocks alone
    pub kind_holds : (m : Memory) (owner : ℕ → Owner) → Leaves o c n m → Changes c n owner → BitsFit (shape o) m.now.taken owner →
        Knows o (moved c m owner) n (effect_at mine note kind f) (ghost_left mine note kind f) (slice_index m.now.pins n) (slice_index began n) →
        Invariant o (record c { memory = m; views = slice_set c.views n (view_after mine kind note f); owner = owner; began = began })
    kind_holds m owner leaves changes = kind_leaves m owner leaves (changes_leave o c n m _ owner changes)

  -- the premises of a step of a kind
  abbrev pub Keeps : Kind → ℕ → Type 0 → Type 0
  Keeps kind f Holds = (step : MayStep o c mine kind note f) → Holds

  -- the memory with other pin words
  abbrev with_pins : List ℕ → Memory
  with_pins pins = record (c.memory) { now = record (c.memory.now) { pins = pins } }

  -- a step that changes at most the own pin word
  pins_hold : (kind : Kind) (f : ℕ) (pins : List ℕ) → length pins ≡ length c.memory.now.pins → ((k : ℕ) → k ≢ n → slice_index pins k ≡ slice_index c.memory.now.pins k) →
      (step : MayStep o c mine kind note f) →
      Knows o c n (effect_at mine note kind f) (ghost_left mine note kind f) (slice_index pins n) (slice_index began n) →
      Invariant o (record c { memory = with_pins pins; views = slice_set c.views n (view_after mine kind note f); began = began })
  pins_hold kind f pins same others step facts =
      kind_holds kind f step (with_pins pins) c.owner (pins_leave o c n inv pins same others) (no_changes c n) inv.owners.bits (pins_known o c n _ _ _ _ pins facts)

  -- a load of the head
  pub head_holds : Keeps LoadsHead (slice_index c.memory.now.words head_place) (Invariant o (stepped o c n (Load (Image head_place)) note LoadsHead (slice_index c.memory.now.words head_place)))
  head_holds step =
      (let f = slice_index c.memory.now.words head_place in
      let facts = load_facts o c n note.before (ghost_at mine note) (slice_index c.memory.now.pins n) (slice_index began n) f inv (at_ask LoadsHead f step) refl in
      subst (λ (words : List ℕ). Invariant o (record c { memory = record (c.memory) { now = record (c.memory.now) { words = words } }; views = slice_set c.views n (view_after mine LoadsHead note f); began = began }))
      (sym (set-get_or c.memory.now.words head_place 0))
      (pins_hold LoadsHead f c.memory.now.pins refl (λ k other. refl) step facts))

  -- a load of a word of the pinned chain
  pub image_word_holds : (word : ℕ) → Keeps (LoadsImageWord word) (slice_index c.memory.now.words word) (Invariant o (stepped o c n (Load (Image word)) note (LoadsImageWord word) (slice_index c.memory.now.words word)))
  image_word_holds word step =
      (let f = slice_index c.memory.now.words word in
      let facts = image_facts o c n note.before (ghost_at mine note) (slice_index c.memory.now.pins n) (slice_index began n) word inv (at_ask (LoadsImageWord word) f step) unspent step.may (began_lows n) in
      subst (λ (words : List ℕ). Invariant o (record c { memory = record (c.memory) { now = record (c.memory.now) { words = words } }; views = slice_set c.views n (view_after mine (LoadsImageWord word) note f); began = began }))
      (sym (set-get_or c.memory.now.words word 0))
      (pins_hold (LoadsImageWord word) f c.memory.now.pins refl (λ k other. refl) step facts))

  -- a store of the own pin word
  pub pin_holds : (value found : ℕ) → Keeps (StoresOwnPin value) 0 (Invariant o (stepped o c n (Store (Pin n) value) note (StoresOwnPin value) found))
  pin_holds value found step =
      (let inside : n < length c.memory.now.pins = (let few = inv.sizes.few in let many = inv.sizes.words.pins in omega (arith, here, few, many)) in
      let facts = store_facts o c n note.before (ghost_at mine note) (slice_index c.memory.now.pins n) (slice_index began n) value (at_ask (StoresOwnPin value) 0 step) step.may in
      pins_hold (StoresOwnPin value) 0 (slice_set c.memory.now.pins n value) (length-set c.memory.now.pins n value) (λ k other. get_or-set_other c.memory.now.pins n k value 0 other) step
      (subst (λ (pin : ℕ). Knows o c n (effect_at mine note (StoresOwnPin value) 0) (ghost_left mine note (StoresOwnPin value) 0) pin (slice_index began n)) (sym (get_or-set_same c.memory.now.pins n value 0 inside)) facts))

  -- a load of a pin word
  pub seen_holds : (other : ℕ) → Keeps (LoadsPinWord other) (slice_index c.memory.now.pins other) (Invariant o (stepped o c n (Load (Pin other)) note (LoadsPinWord other) (slice_index c.memory.now.pins other)))
  seen_holds other step =
      (let f = slice_index c.memory.now.pins other in
      let same : slice_set c.memory.now.pins other f ≡ c.memory.now.pins = set-get_or c.memory.now.pins other 0 in
      let asked = at_ask (LoadsPinWord other) f step in
      let inside : other < length c.memory.now.pins = (let low = step.may.inside in let many = inv.sizes.words.pins in omega (arith, low, many)) in
      let facts = seen_facts o c n note.before (ghost_at mine note) (slice_index c.memory.now.pins n) (slice_index began n) other f inv asked
      (⊎_elim (λ (none : other ≡ 0). (let m = length note.before.giving.pins_seen in omega (arith, none))) (λ (last : other ≡ length note.before.giving.pins_seen). omega (arith, last)) step.may.in_order)
      (λ apart. inv.pins.words other inside)
      (λ own. ap (λ (k : ℕ). slice_index c.memory.now.pins k) own ∙ asked.pin_is) in
      subst (λ (pins : List ℕ). Invariant o (record c { memory = with_pins pins; views = slice_set c.views n (view_after mine (LoadsPinWord other) note f); began = began })) (sym same)
      (pins_hold (LoadsPinWord other) f c.memory.now.pins refl (λ k apart. refl) step facts))

  -- a load of a bitmap word
  pub bitmap_word_holds : (word : ℕ) → Keeps (LoadsBitmapWord word) (slice_index c.memory.now.taken word) (Invariant o (stepped o c n (Load (Map word)) note (LoadsBitmapWord word) (slice_index c.memory.now.taken word)))
  bitmap_word_holds word step =
      (let f = slice_index c.memory.now.taken word in
      let asked = at_ask (LoadsBitmapWord word) f step in
      kind_holds (LoadsBitmapWord word) f step (memory_after c.memory n (Load (Map word))) c.owner
      (map_leaves o c n note.before (ghost_at mine note) (slice_index c.memory.now.pins n) (slice_index began n) word inv asked) (no_changes c n)
      (map_bits o c n note.before (ghost_at mine note) (slice_index c.memory.now.pins n) (slice_index began n) word inv asked)
      (map_facts o c n note.before (ghost_at mine note) (slice_index c.memory.now.pins n) (slice_index began n) word inv asked))

  -- a setting of bits
  pub set_bits_holds : (word bits : ℕ) → Keeps (SetsBits word bits) (slice_index c.memory.now.taken word) (Invariant o (stepped o c n (SetBits (Map word) bits) note (SetsBits word bits) (slice_index c.memory.now.taken word)))
  set_bits_holds word bits step =
      (let f = slice_index c.memory.now.taken word in
      let asked = at_ask (SetsBits word bits) f step in
      kind_holds (SetsBits word bits) f step (memory_after c.memory n (SetBits (Map word) bits)) (λ block. owner_after c.owner n note (SetsBits word bits) f block)
      (sets_leaves o c n note.before (ghost_at mine note) (slice_index c.memory.now.pins n) (slice_index began n) word bits inv asked unspent step.may)
      (sets_changes o c n note.before (ghost_at mine note) (slice_index c.memory.now.pins n) (slice_index began n) word bits inv asked unspent step.may)
      (sets_bits o c n note.before (ghost_at mine note) (slice_index c.memory.now.pins n) (slice_index began n) word bits inv asked unspent step.may)
      (sets_facts o c n note.before (ghost_at mine note) (slice_index c.memory.now.pins n) (slice_index began n) word bits inv asked unspent step.may))

  -- a clearing of bits: of owned blocks, or of blocks that collections replaced
  pub clear_bits_holds : (word bits : ℕ) →
      Keeps (ClearsBits word bits) (slice_index c.memory.now.taken word) (Invariant o (stepped o c n (ClearBits (Map word) bits) note (ClearsBits word bits) (slice_index c.memory.now.taken word)))
  clear_bits_holds word bits step = by (is_of_owned note.before word bits) refl
    where
      f : ℕ
      f = slice_index c.memory.now.taken word

      asked : Knows o c n note.before (ghost_at mine note) (slice_index c.memory.now.pins n) (slice_index began n)
      asked = at_ask (ClearsBits word bits) f step

      by : (own : Bool) → is_of_owned note.before word bits ≡ own → Invariant o (stepped o c n (ClearBits (Map word) bits) note (ClearsBits word bits) f)
      by true own = kind_holds (ClearsBits word bits) f step (memory_after c.memory n (ClearBits (Map word) bits)) (λ block. owner_after c.owner n note (ClearsBits word bits) f block)
          (clears_leaves o c n note.before (ghost_at mine note) (slice_index c.memory.now.pins n) (slice_index began n) word bits inv asked unspent step.may own)
          (clears_changes o c n note.before (ghost_at mine note) (slice_index c.memory.now.pins n) (slice_index began n) word bits inv asked unspent step.may own)
          (clears_bits o c n note.before (ghost_at mine note) (slice_index c.memory.now.pins n) (slice_index began n) word bits inv asked unspent step.may own)
          (clears_facts o c n note.before (ghost_at mine note) (slice_index c.memory.now.pins n) (slice_index began n) word bits inv asked unspent step.may own)
      by false own = kind_leaves (ClearsBits word bits) f step (memory_after c.memory n (ClearBits (Map word) bits)) (λ block. owner_after c.owner n note (ClearsBits word bits) f block)
          (gives_leaves o c n note.before (ghost_at mine note) (slice_index c.memory.now.pins n) (slice_index began n) word bits inv asked here unspent step.may own)
          (gives_owners o c n note.before (ghost_at mine note) (slice_index c.memory.now.pins n) (slice_index began n) word bits inv asked here unspent step.may own)
          (gives_bits o c n note.before (ghost_at mine note) (slice_index c.memory.now.pins n) (slice_index began n) word bits inv asked here unspent step.may own)
          (gives_facts o c n note.before (ghost_at mine note) (slice_index c.memory.now.pins n) (slice_index began n) word bits inv asked here unspent step.may own)

  -- a store into a word of an owned block
  pub stored_holds : (word value : ℕ) → Keeps (StoresWord word value) 0 (Invariant o (stepped o c n (Store (Image word) value) note (StoresWord word value) (slice_index c.memory.now.words word)))
  stored_holds word value step =
      (let asked = at_ask (StoresWord word value) 0 step in
      kind_holds (StoresWord word value) 0 step (memory_after c.memory n (Store (Image word) value)) c.owner
      (store_leaves o c n note.before (ghost_at mine note) (slice_index c.memory.now.pins n) (slice_index began n) word value inv asked unspent step.may) (no_changes c n) inv.owners.bits
      (store_word_facts o c n note.before (ghost_at mine note) (slice_index c.memory.now.pins n) (slice_index began n) word value inv asked unspent step.may 0))

  -- a mark
  pub mark_holds : (word : ℕ) → Keeps (MarksWord word) (slice_index c.memory.now.words word) (Invariant o (stepped o c n (Mark word) note (MarksWord word) (slice_index c.memory.now.words word)))
  mark_holds word step =
      (let f = slice_index c.memory.now.words word in
      let asked = at_ask (MarksWord word) f step in
      let fits = mark_fits o c n note.before (ghost_at mine note) (slice_index c.memory.now.pins n) (slice_index began n) inv asked unspent word step.may in
      kind_holds (MarksWord word) f step (memory_after c.memory n (Mark word)) c.owner
      (mark_leaves o c n note.before (ghost_at mine note) (slice_index c.memory.now.pins n) (slice_index began n) word f inv asked unspent fits.inside refl) (no_changes c n) inv.owners.bits
      (mark_word_facts o c n note.before (ghost_at mine note) (slice_index c.memory.now.pins n) (slice_index began n) word f inv asked unspent fits.inside refl fits.fits fits.valid))

  -- an exchange of the head
  pub head_exchange_holds : (before next : ℕ) → Keeps (ExchangesHead before next) (slice_index c.memory.now.words head_place)
      (Invariant o (stepped o c n (Exchange (Image head_place) before next) note (ExchangesHead before next) (slice_index c.memory.now.words head_place)))
  head_exchange_holds before next step =
      (let f = slice_index c.memory.now.words head_place in
      entered o c n note (ExchangesHead before next) f here unspent step (stepped o c n (Exchange (Image head_place) before next) note (ExchangesHead before next) f)
      (head_exchange o c n note.before (ghost_at mine note) began before next inv here unspent (at_ask (ExchangesHead before next) f step) step.may began_fits began_others began_lows (f == before) refl))
