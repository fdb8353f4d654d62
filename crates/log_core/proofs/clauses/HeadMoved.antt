-- What an exchange of the head makes of a memory: where it wins the head has one value more, and else nothing changes.
use Rattle.std.specs.List.{AllByRecursion}
use Rattle.std.proofs.Common.{◌≡◌, ◌≢◌, ◌<◌, ◌≤◌, ◌==◌, ◌∷◌, if◌then◌else◌, inr, ℕ, Bool, true, false, List, [], length, refl, sym, ◌∙◌, ap, subst, arith, slice_index, slice_set, ◌^◌}
use Rattle.std.proofs.lemmas.Bool.{eq-eqb}
use Rattle.std.proofs.lemmas.List.{length-set, length_push, set-get_or}
use Rattle.asks.specs.declared.ask.Place.TheVariants.{Image}
use Rattle.asks.specs.declared.ask.Ask.TheVariants.{Exchange}
use Rattle.persistence.specs.Memory.{Memory, PendingMark, Cell, cell, index_at, replaced_at, memory_after, Replaced}
use Rattle.persistence.specs.Steps.{with_value}
use Rattle.persistence.specs.Survivors.{value_at}
use Rattle.persistence.proofs.CellLaws.{stores_grow_cells, others_leave_cells}
use Rattle.persistence.proofs.FenceLaws.{steps_keep_order}
use Rattle.persistence.proofs.ValueLemmas.{index_at-grown}
use Rattle.log_core.specs.Entries.{head_place}
use Rattle.log_core.specs.Origin.{Origin}
use Rattle.log_core.specs.Sizes.{MemoryFits}
use Rattle.log_core.proofs.Each.{each_weaker, each_replaced, each_word, each_push}
use Rattle.log_core.proofs.clauses.MemoryMoves.{orderly}
use Rattle.log_core.proofs.clauses.OneView.{same_or_other}
use Rattle.log_core.proofs.clauses.Exchanged.{grown_value}

-- the second memory has one value more of the head
pub record HeadMoves (o : Origin) (views : ℕ) (before after : Memory) (next : ℕ) : Type 0 where
  pub fits : MemoryFits o after views
  pub pins : after.now.pins ≡ before.now.pins
  pub taken : after.now.taken ≡ before.now.taken
  pub pending : after.pending ≡ before.pending
  pub here : cell after head_place ≡ with_value (cell before head_place) next
  pub others : (k : ℕ) → k ≢ head_place → cell after k ≡ cell before k
  pub times : (time k : ℕ) → time ≤ length before.past → index_at after.past time k ≡ index_at before.past time k

module _ (o : Origin) (m : Memory) (views : ℕ) (fits : MemoryFits o m views) (n before next : ℕ) where
  abbrev exchanged : Memory
  exchanged = memory_after m n (Exchange (Image head_place) before next)

  abbrev now : ℕ
  now = slice_index m.now.words head_place

  longer : (b : Bool) → length m.past ≤ length (replaced_at b (Image head_place) now m.past)
  longer true = (let more = length_push m.past (record { word = head_place; value = now }) in omega (arith, more))
  longer false = omega arith

  past_small : (b : Bool) → AllByRecursion (λ (r : Replaced). r.value < 2 ^ 64) (replaced_at b (Image head_place) now m.past)
  past_small true = each_push (λ (r : Replaced). r.value < 2 ^ 64) m.past (record { word = head_place; value = now }) fits.small_past (each_word m.now.words head_place fits.small)
  past_small false = fits.small_past

  times_stay : (b : Bool) (time k : ℕ) → time ≤ length m.past → index_at (replaced_at b (Image head_place) now m.past) time k ≡ index_at m.past time k
  times_stay true time k early = index_at-grown m.past (record { word = head_place; value = now } ∷ []) time k early
  times_stay false time k early = refl

  pub head_wins : head_place < length o.words → now ≡ before → next < 2 ^ 64 → HeadMoves o views m exchanged next
  head_wins inside same small = (let order = steps_keep_order m n (Exchange (Image head_place) before next) (orderly o m views fits) in record {
    fits = record {
      words = length-set m.now.words head_place (if now == before then next else now) ∙ fits.words;
      taken = fits.taken;
      pins = fits.pins;
      floors = fits.floors;
      reached = order.reached;
      small = each_replaced (λ (w : ℕ). w < 2 ^ 64) m.now.words head_place (if now == before then next else now) fits.small
          (subst (λ (b : Bool). (if b then next else now) < 2 ^ 64) (sym (eq-eqb now before same)) small);
      small_past = past_small (now == before);
      pending = each_weaker (λ (note : PendingMark). (note.seat < views) × (note.word < length o.words) × (note.time ≤ length m.past))
          (λ (note : PendingMark). (note.seat < views) × (note.word < length o.words) × (note.time ≤ length exchanged.past)) m.pending
          (λ note known. (known.0, known.1, (let old = known.2 in let more = longer (now == before) in omega (arith, old, more)))) fits.pending;
    };
    pins = refl;
    taken = refl;
    pending = refl;
    here = stores_grow_cells m n (Exchange (Image head_place) before next) head_place (orderly o m views fits) (subst (λ (count : ℕ). head_place < count) (sym fits.words) inside) refl (eq-eqb now before same)
        ∙ ap (λ (b : Bool). with_value (cell m head_place) (if b then next else now)) (eq-eqb now before same);
    others = λ k other. others_leave_cells m n (Exchange (Image head_place) before next) k (orderly o m views fits) (inr (λ at. (let e : head_place ≡ k = cc in other (sym e))));
    times = λ time k early. times_stay (now == before) time k early;
  })

  pub head_lost : (now == before) ≡ false → exchanged ≡ m
  head_lost other =
      ap (λ (b : Bool). record {
        now = record (m.now) { words = slice_set m.now.words head_place (if b then next else now) };
        past = replaced_at b (Image head_place) now m.past;
        floors = m.floors;
        pending = m.pending;
      }) other ∙ ap (λ (words : List ℕ). record m { now = record (m.now) { words = words } }) (set-get_or m.now.words head_place 0)

-- no value that a word had is another one then
pub moved_values : (o : Origin) (views : ℕ) (before after : Memory) (next : ℕ) → HeadMoves o views before after next →
    (k j : ℕ) → j ≤ length (cell before k).past → value_at (cell after k) j ≡ value_at (cell before k) j
moved_values o views before after next moves k j inside = same_or_other k head_place
    (λ same. subst (λ (w : ℕ). j ≤ length (cell before w).past → value_at (cell after w) j ≡ value_at (cell before w) j) (sym same)
    (λ low. ap (λ (x : Cell). value_at x j) moves.here ∙ grown_value (cell before head_place) next j low) inside)
    (λ other. ap (λ (x : Cell). value_at x j) (moves.others k other))
