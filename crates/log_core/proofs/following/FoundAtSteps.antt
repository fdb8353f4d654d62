-- What a step finds is added to what its call has found.
use Rattle.std.proofs.Common.{◌≡◌, ◌≢◌, ◌⊎◌, inl, inr, ⊎_elim, ◌<◌, ◌-◌, ◌/◌, ◌%◌, ◌^◌, ◌==◌, not, if◌then◌else◌, ℕ, Bool, true, false, List, [], ◌∷◌, length, bit_or, refl, subst, arith, slice_index}
use Rattle.std.specs.Int.{bit_at}
use Rattle.std.proofs.lemmas.Nat.Bits.{bit_at_and, bit_at-lt}
use Rattle.std.proofs.lemmas.Bool.{eqb-true, eqb-false}
use Rattle.log_entry.specs.Fields.{field}
use Rattle.log_entry.specs.declared.layouts.TheConstants.{SEAL, HEAD_GENERATION}
use Rattle.log_entry.specs.declared.shapes.Area.TheVariants.{Data, Log, Spare}
use Rattle.pmem_words.specs.Seats.{Seat}
use Rattle.asks.specs.Asks.{without_bits}
use Rattle.asks.specs.declared.ask.Place.TheVariants.{Image, Pin, Map, FenceOf}
use Rattle.asks.specs.declared.ask.Ask.{Ask}
use Rattle.asks.specs.declared.ask.Ask.TheVariants.{Load, Store, Exchange, SetBits, ClearBits, Mark, Fence}
use Rattle.persistence.specs.Memory.{found_answer}
use Rattle.log_core.specs.Entries.{head_place}
use Rattle.log_core.specs.Views.{Ghost, MarkedWord, RunningCall}
use Rattle.log_core.specs.Origin.{Origin, shape, q_of_origin}
use Rattle.log_core.specs.Cores.{Core}
use Rattle.log_core.specs.Works.{seat_shape}
use Rattle.log_core.specs.Steps.{Step, Kind, LoadsHead, LoadsImageWord, StoresOwnPin, ExchangesSlot, ExchangesLink, ExchangesHead, ClearsBits, NoKind, kind_of_ask, effect, call_after, put_if, overtaken_if, is_of_owned, give_if, not_found, slot_sealed, slot_exchanged, link_exchanged, head_exchanged}
use Rattle.log_core.specs.May.{May}
use Rattle.log_core.specs.Causes.{IsAtStep, FindsTaken, FindsHead, FindsPin}
use Rattle.log_core.proofs.following.Causes.{found_bit, Causes, either_bit, more_found, more_lacked, more_pins}

-- a bit of a word without others is one of the word
without_bit : (value bits i : ℕ) → bit_at (without_bits value bits) i ≡ 1 → bit_at value i ≡ 1
without_bit value bits i is = (let both = bit_at_and value (2 ^ 64 - 1 - bits) i in let low = bit_at-lt value i in omega (arith, both, is, low))

module _ (o : Origin) (c : Core) (steps : List Step) (n number : ℕ) (s : Seat) (g : Ghost) (marks : List MarkedWord) (same : seat_shape s ≡ shape o)
    (causes : Causes o steps n number s.blocks.found s.giving.pins_seen g.call) where
  -- what a call has found when it is in this state
  abbrev At : Seat → RunningCall → Type 0
  At t call = Causes o steps n number t.blocks.found t.giving.pins_seen call

  abbrev After : Kind → ℕ → Type 0
  After kind f = At (effect marks s kind f) (call_after g.call s (effect marks s kind f) kind f)

  abbrev Now : Ask → Type 1
  Now ask = (holds : Core → Ask → Type 0) → holds c ask → IsAtStep o steps n number holds

  cleared : (own : Bool) (word bits : ℕ) → word < length s.blocks.found → At (not_found (give_if own s word bits) word bits) g.call
  cleared own word bits inside = by own
    where
      there : (block : ℕ) → word ≡ block / 64 → bit_at (without_bits (slice_index s.blocks.found word) bits) (block % 64) ≡ 1 → found_bit s.blocks.found block ≡ 1
      there block at is = subst (λ (k : ℕ). bit_at (slice_index s.blocks.found k) (block % 64) ≡ 1) at (without_bit (slice_index s.blocks.found word) bits (block % 64) is)

      by : (mine : Bool) → At (not_found (give_if mine s word bits) word bits) g.call
      by true = more_found o steps n number s.blocks.found s.giving.pins_seen g.call word (without_bits (slice_index s.blocks.found word) bits) inside causes (λ block at is. inr (there block at is))
      by false = more_found o steps n number s.blocks.found s.giving.pins_seen g.call word (without_bits (slice_index s.blocks.found word) bits) inside causes (λ block at is. inr (there block at is))

  slot_after : (seal won : Bool) (word entry f : ℕ) → At (if seal then slot_sealed s word f won else slot_exchanged s word entry f won) g.call
  slot_after true true word entry f = causes
  slot_after true false word entry f = causes
  slot_after false true word entry f = causes
  slot_after false false word entry f = causes

  link_after : (won : Bool) (word block f : ℕ) → At (link_exchanged s word block f won) g.call
  link_after true word block f = causes
  link_after false word block f = causes

  head_after : (won : Bool) (before next f : ℕ) → (f == before) ≡ won → (f ≢ before → IsAtStep o steps n number (FindsHead (field HEAD_GENERATION f))) →
      At (head_exchanged s next f won) (record (g.call) { overtaken = overtaken_if won g.call.overtaken f; put = put_if won g.call.put s next })
  head_after true before next f e now = record {
    taken = causes.taken;
    lacked = causes.lacked;
    overtaken = causes.overtaken;
    pins_seen = λ put other low. absurd (omega (arith, low));
  }
  head_after false before next f e now = record {
    taken = causes.taken;
    lacked = causes.lacked;
    overtaken = λ some. now (eqb-false f before e);
    pins_seen = causes.pins_seen;
  }

  -- a bit of a word that is found now, or was found before
  loaded : (word f : ℕ) → ((block : ℕ) → word ≡ block / 64 → bit_at f (block % 64) ≡ 1 → IsAtStep o steps n number (FindsTaken block)) → (block : ℕ) → word ≡ block / 64 →
      bit_at (bit_or (slice_index s.blocks.found word) f) (block % 64) ≡ 1 → IsAtStep o steps n number (FindsTaken block) ⊎ (found_bit s.blocks.found block ≡ 1)
  loaded word f now block at is = ⊎_elim
      (λ old. inr (subst (λ (k : ℕ). bit_at (slice_index s.blocks.found k) (block % 64) ≡ 1) at old))
      (λ new. inl (now block at new)) (either_bit (slice_index s.blocks.found word) f (block % 64) is)

  pub after_ask : (ask : Ask) → Now ask → May o c g s (kind_of_ask (q_of_origin o) n ask) → After (kind_of_ask (q_of_origin o) n ask) (found_answer c.memory ask)
  after_ask (Load (Image word)) now may = go (word == head_place)
    where
      go : (head : Bool) → After (if head then LoadsHead else LoadsImageWord word) (slice_index c.memory.now.words word)
      go true = causes
      go false = causes
  after_ask (Load (Pin other)) now may = more_pins o steps n number s.blocks.found s.giving.pins_seen g.call other (slice_index c.memory.now.pins other) may.in_order causes (now (FindsPin other (slice_index c.memory.now.pins other)) (refl, refl))
  after_ask (Load (Map word)) now may =
      (let f = slice_index c.memory.now.taken word in
      more_lacked o steps n number (effect marks s (Rattle.log_core.specs.Steps.LoadsBitmapWord word) f) g.call (Data ∷ Log ∷ Spare ∷ []) same
      (more_found o steps n number s.blocks.found s.giving.pins_seen g.call word (bit_or (slice_index s.blocks.found word) f) may.inside causes (loaded word f (λ block at is. now (FindsTaken block) (at, is)))))
  after_ask (Load (FenceOf other)) now may = absurd may
  after_ask (Store (Image word) value) now may = causes
  after_ask (Store (Pin other) value) now may = go (other == n) may
    where
      go : (own : Bool) → May o c g s (if own then StoresOwnPin value else NoKind) → After (if own then StoresOwnPin value else NoKind) 0
      go true may = causes
      go false may = absurd may
  after_ask (Store (Map word) value) now may = absurd may
  after_ask (Store (FenceOf other) value) now may = absurd may
  after_ask (Exchange (Image word) before next) now may = go (word == head_place) (before == 0) (word % q_of_origin o == 0) refl may
    where
      f : ℕ
      f = slice_index c.memory.now.words word

      go : (head none link : Bool) → (word == head_place) ≡ head → May o c g s (if head then ExchangesHead before next else if not none then NoKind else if link then ExchangesLink word next else ExchangesSlot word next) →
          After (if head then ExchangesHead before next else if not none then NoKind else if link then ExchangesLink word next else ExchangesSlot word next) (slice_index c.memory.now.words word)
      go true none link at may = head_after (slice_index c.memory.now.words word == before) before next (slice_index c.memory.now.words word) refl
          (λ other. now (FindsHead (field HEAD_GENERATION (slice_index c.memory.now.words word))) (eqb-true word head_place at, other, refl))
      go false false link at may = absurd may
      go false true true at may = link_after (slice_index c.memory.now.words word == 0) word next (slice_index c.memory.now.words word)
      go false true false at may = slot_after (next == SEAL) (slice_index c.memory.now.words word == 0) word next (slice_index c.memory.now.words word)
  after_ask (Exchange (Pin other) before next) now may = absurd may
  after_ask (Exchange (Map word) before next) now may = absurd may
  after_ask (Exchange (FenceOf other) before next) now may = absurd may
  after_ask (SetBits (Image word) bits) now may = absurd may
  after_ask (SetBits (Pin other) bits) now may = absurd may
  after_ask (SetBits (Map word) bits) now may =
      (let f = slice_index c.memory.now.taken word in
      more_lacked o steps n number (effect marks s (Rattle.log_core.specs.Steps.SetsBits word bits) f) g.call (Data ∷ Log ∷ Spare ∷ []) same
      (more_found o steps n number s.blocks.found s.giving.pins_seen g.call word (bit_or (slice_index s.blocks.found word) (bit_or f bits)) may.inside causes (loaded word (bit_or f bits) (λ block at is. now (FindsTaken block) (at, is)))))
  after_ask (SetBits (FenceOf other) bits) now may = absurd may
  after_ask (ClearBits (Image word) bits) now may = absurd may
  after_ask (ClearBits (Pin other) bits) now may = absurd may
  after_ask (ClearBits (Map word) bits) now may = cleared (is_of_owned s word bits) word bits may.inside
  after_ask (ClearBits (FenceOf other) bits) now may = absurd may
  after_ask (Mark word) now may = causes
  after_ask Fence now may = causes
