-- What an exchange from 0 makes of a memory: where it wins its word has one value more, and else nothing changes.
use Rattle.std.specs.List.{AllByRecursion}
use Rattle.std.proofs.Common.{◌≡◌, ◌≢◌, ◌<◌, ◌≤◌, ◌==◌, if◌then◌else◌, inr, ℕ, Bool, true, false, List, [], ◌∷◌, ◌++◌, length, refl, sym, ◌∙◌, ap, subst, arith, slice_index, slice_set, ◌^◌}
use Rattle.std.proofs.lemmas.Bool.{eq-eqb}
use Rattle.std.proofs.lemmas.List.{length-set, length_push, set-get_or, get_or_append_left}
use Rattle.asks.specs.declared.ask.Place.TheVariants.{Image}
use Rattle.asks.specs.declared.ask.Ask.TheVariants.{Exchange}
use Rattle.persistence.specs.Memory.{Memory, PendingMark, Cell, cell, index_at, replaced_at, memory_after, Replaced}
use Rattle.persistence.specs.Steps.{with_value}
use Rattle.persistence.specs.Survivors.{value_at}
use Rattle.persistence.proofs.CellLaws.{stores_grow_cells, others_leave_cells}
use Rattle.persistence.proofs.FenceLaws.{steps_keep_order}
use Rattle.persistence.proofs.ValueLemmas.{index_at-grown}
use Rattle.log_core.specs.Origin.{Origin}
use Rattle.log_core.specs.Sizes.{MemoryFits}
use Rattle.log_core.proofs.Each.{each_weaker, each_replaced, each_word, each_push}
use Rattle.log_core.proofs.clauses.MemoryMoves.{orderly}
use Rattle.log_core.proofs.clauses.OneView.{same_or_other}

-- the second memory has one value more of a word, which was 0
pub record WordGrows (o : Origin) (views : ℕ) (before after : Memory) (word value : ℕ) : Type 0 where
  pub fits : MemoryFits o after views
  pub pins : after.now.pins ≡ before.now.pins
  pub taken : after.now.taken ≡ before.now.taken
  pub pending : after.pending ≡ before.pending
  pub was : (cell before word).present ≡ 0
  pub here : cell after word ≡ with_value (cell before word) value
  pub others : (k : ℕ) → k ≢ word → cell after k ≡ cell before k
  pub times : (time k : ℕ) → time ≤ length before.past → index_at after.past time k ≡ index_at before.past time k

-- a value before the one that is stored
pub grown_value : (c : Cell) (value k : ℕ) → k ≤ length c.past → value_at (with_value c value) k ≡ value_at c k
grown_value c value k inside = get_or_append_left (c.past ++ c.present ∷ []) (value ∷ []) 0 k
    (let long = length_push c.past c.present in omega (arith, long, inside))

-- no value of a word is another one then
pub grown_values : (o : Origin) (views : ℕ) (before after : Memory) (word value : ℕ) → WordGrows o views before after word value →
    (k j : ℕ) → j ≤ length (cell before k).past → value_at (cell after k) j ≡ value_at (cell before k) j
grown_values o views before after word value grows k j inside = same_or_other k word
    (λ same. subst (λ (w : ℕ). j ≤ length (cell before w).past → value_at (cell after w) j ≡ value_at (cell before w) j) (sym same)
    (λ low. ap (λ (x : Cell). value_at x j) grows.here ∙ grown_value (cell before word) value j low) inside)
    (λ other. ap (λ (x : Cell). value_at x j) (grows.others k other))

module _ (o : Origin) (m : Memory) (views : ℕ) (fits : MemoryFits o m views) (n word value : ℕ) where
  abbrev exchanged : Memory
  exchanged = memory_after m n (Exchange (Image word) 0 value)

  longer : (b : Bool) (found : ℕ) → length m.past ≤ length (replaced_at b (Image word) found m.past)
  longer true found = (let more = length_push m.past (record { word = word; value = found }) in omega (arith, more))
  longer false found = omega arith

  past_small : (b : Bool) → AllByRecursion (λ (r : Replaced). r.value < 2 ^ 64) (replaced_at b (Image word) (slice_index m.now.words word) m.past)
  past_small true = each_push (λ (r : Replaced). r.value < 2 ^ 64) m.past (record { word = word; value = slice_index m.now.words word }) fits.small_past (each_word m.now.words word fits.small)
  past_small false = fits.small_past

  times_stay : (b : Bool) (found time k : ℕ) → time ≤ length m.past → index_at (replaced_at b (Image word) found m.past) time k ≡ index_at m.past time k
  times_stay true found time k early = index_at-grown m.past (record { word = word; value = found } ∷ []) time k early
  times_stay false found time k early = refl

  -- where the word is 0 it grows
  pub exchange_wins : word < length o.words → slice_index m.now.words word ≡ 0 → value < 2 ^ 64 → WordGrows o views m exchanged word value
  exchange_wins inside zero small = (let order = steps_keep_order m n (Exchange (Image word) 0 value) (orderly o m views fits) in record {
    fits = record {
      words = length-set m.now.words word (if slice_index m.now.words word == 0 then value else slice_index m.now.words word) ∙ fits.words;
      taken = fits.taken;
      pins = fits.pins;
      floors = fits.floors;
      reached = order.reached;
      small = each_replaced (λ (w : ℕ). w < 2 ^ 64) m.now.words word (if slice_index m.now.words word == 0 then value else slice_index m.now.words word) fits.small
          (subst (λ (b : Bool). (if b then value else slice_index m.now.words word) < 2 ^ 64) (sym (eq-eqb (slice_index m.now.words word) 0 zero)) small);
      small_past = past_small (slice_index m.now.words word == 0);
      pending = each_weaker (λ (note : PendingMark). (note.seat < views) × (note.word < length o.words) × (note.time ≤ length m.past))
          (λ (note : PendingMark). (note.seat < views) × (note.word < length o.words) × (note.time ≤ length exchanged.past)) m.pending
          (λ note known. (known.0, known.1, (let old = known.2 in let more = longer (slice_index m.now.words word == 0) (slice_index m.now.words word) in omega (arith, old, more)))) fits.pending;
    };
    pins = refl;
    taken = refl;
    pending = refl;
    was = zero;
    here = stores_grow_cells m n (Exchange (Image word) 0 value) word (orderly o m views fits) (subst (λ (count : ℕ). word < count) (sym fits.words) inside) refl (eq-eqb (slice_index m.now.words word) 0 zero)
        ∙ ap (λ (b : Bool). with_value (cell m word) (if b then value else slice_index m.now.words word)) (eq-eqb (slice_index m.now.words word) 0 zero);
    others = λ k other. others_leave_cells m n (Exchange (Image word) 0 value) k (orderly o m views fits) (inr (λ same. (let e : word ≡ k = cc in other (sym e))));
    times = λ time k early. times_stay (slice_index m.now.words word == 0) (slice_index m.now.words word) time k early;
  })

  -- and where it is not the memory stays
  pub exchange_lost : (slice_index m.now.words word == 0) ≡ false → exchanged ≡ m
  exchange_lost other =
      ap (λ (b : Bool). record {
        now = record (m.now) { words = slice_set m.now.words word (if b then value else slice_index m.now.words word) };
        past = replaced_at b (Image word) (slice_index m.now.words word) m.past;
        floors = m.floors;
        pending = m.pending;
      }) other ∙ ap (λ (words : List ℕ). record m { now = record (m.now) { words = words } }) (set-get_or m.now.words word 0)
