-- What a running call has found it found at its own steps: a step adds what it finds.
use Rattle.std.proofs.Common.{◌≡◌, ◌≢◌, ◌⊎◌, inl, inr, ⊎_elim, ◌<◌, ◌≤◌, ◌-◌, ◌/◌, ◌%◌, ◌==◌, ◌||◌, not, cond, ℕ, Bool, true, false, List, [], ◌∷◌, ◌++◌, length, take, filter, bit_or, refl, sym, ◌∙◌, ap, subst, arith, slice_index, slice_set, None}
use Rattle.std.specs.Int.{bit_at}
use Rattle.std.specs.List.{list_any, range_with_len}
use Rattle.std.proofs.lemmas.Nat.Bits.{bit_at_or}
use Rattle.std.proofs.lemmas.Bool.{cases_lt, eqb-true, and_parts}
use Rattle.std.proofs.lemmas.List.{length-take, get_or-take, get_or_append_left, get_or_push, get_or-set_same, get_or-set_other, length_push}
use Rattle.std.proofs.lemmas.List.Folds.{list_any-append}
use Rattle.log_entry.specs.declared.shapes.Area.{Area}
use Rattle.log_entry.specs.declared.shapes.Area.TheVariants.{Data, Log, Spare}
use Rattle.log_image.specs.Image.{Shape, total}
use Rattle.log_image.proofs.NameLemmas.{test_in}
use Rattle.pmem_words.specs.Seats.{Seat}
use Rattle.asks.specs.declared.ask.Ask.{Ask}
use Rattle.log_core.specs.Views.{RunningCall}
use Rattle.log_core.specs.Origin.{Origin, shape}
use Rattle.log_core.specs.Cores.{Core}
use Rattle.log_core.specs.Works.{seat_shape}
use Rattle.log_core.specs.Needs.{is_in_area, is_area, is_pass_found}
use Rattle.log_core.specs.Steps.{Step}
use Rattle.log_core.proofs.clauses.OneView.{same_or_other}
use Rattle.log_core.proofs.BlockLists.{in_range}
use Rattle.log_core.proofs.BitmapFacts.{area_inside}
use Rattle.log_core.specs.Causes.{IsAtStep, FindsTaken, FindsHead, FindsPin, WasFull}

-- the bit of a block in what a call has found
abbrev pub found_bit : List ℕ → ℕ → ℕ
found_bit words block = bit_at (slice_index words (block / 64)) (block % 64)

-- what a call has found: each block that it found taken, each area that it found full, the generation that it was overtaken by, and each
-- pin that it saw since it put a head in place
pub record Causes (o : Origin) (steps : List Step) (seat number : ℕ) (words pins : List ℕ) (call : RunningCall) : Type 0 where
  pub taken : (block : ℕ) → found_bit words block ≡ 1 → IsAtStep o steps seat number (FindsTaken block)
  pub lacked : (area : Area) → list_any (λ (other : Area). is_area other area) call.lacked ≡ true → WasFull o steps seat number area
  pub overtaken : call.overtaken ≢ 0 → IsAtStep o steps seat number (FindsHead call.overtaken)
  pub pins_seen : call.put ≢ None → (other : ℕ) → other < length pins → IsAtStep o steps seat number (FindsPin other (slice_index pins other))

-- it stays with further steps
pub at_step_later : (o : Origin) (steps : List Step) (step : Step) (seat number : ℕ) (holds : Core → Ask → Type 0) → IsAtStep o steps seat number holds → IsAtStep o (step ∷ steps) seat number holds
at_step_later o steps step seat number holds at = record {
  ask = at.ask;
  note = at.note;
  later = step ∷ at.later;
  earlier = at.earlier;
  moment = ap (λ (rest : List Step). step ∷ rest) at.moment;
  number_is = at.number_is;
  held = at.held;
}

pub causes_later : (o : Origin) (steps : List Step) (step : Step) (seat number : ℕ) (words pins : List ℕ) (call : RunningCall) → Causes o steps seat number words pins call → Causes o (step ∷ steps) seat number words pins call
causes_later o steps step seat number words pins call causes = record {
  taken = λ block is. at_step_later o steps step seat number (FindsTaken block) (causes.taken block is);
  lacked = λ area is block inside. at_step_later o steps step seat number (FindsTaken block) (causes.lacked area is block inside);
  overtaken = λ some. at_step_later o steps step seat number (FindsHead call.overtaken) (causes.overtaken some);
  pins_seen = λ put other low. at_step_later o steps step seat number (FindsPin other (slice_index pins other)) (causes.pins_seen put other low);
}

-- the tests of two areas
same_area : (area other : Area) → is_area area other ≡ true → area ≡ other
same_area Data Data is = refl
same_area Log Log is = refl
same_area Spare Spare is = refl
same_area Data Log is = cc
same_area Data Spare is = cc
same_area Log Data is = cc
same_area Log Spare is = cc
same_area Spare Data is = cc
same_area Spare Log is = cc

-- a pass over an area that found each block taken
pass_found : (s : Seat) (area : Area) → is_pass_found s area ≡ true → (block : ℕ) → is_in_area (seat_shape s) area block ≡ true → found_bit s.blocks.found block ≡ 1
pass_found s area pass block inside = eqb-true (found_bit s.blocks.found block) 1 (by (is_in_area (seat_shape s) area block) inside
    (test_in (λ (b : ℕ). not (is_in_area (seat_shape s) area b) || (found_bit s.blocks.found b == 1)) (range_with_len 1 (total (seat_shape s) - 1)) block (and_parts _ _ pass).1
    (in_range 1 (total (seat_shape s) - 1) block (let low = area_inside (seat_shape s) area block inside in omega (arith, low)) (let low = area_inside (seat_shape s) area block inside in omega (arith, low)))))
  where
    by : (b : Bool) → b ≡ true → (not b || (found_bit s.blocks.found block == 1)) ≡ true → (found_bit s.blocks.found block == 1) ≡ true
    by true e is = is
    by false e is = cc

-- an area that passes tests is among those filtered by them only if it passes
filtered : (f : Area → Bool) (area : Area) (areas : List Area) → list_any (λ (other : Area). is_area other area) (filter f areas) ≡ true → f area ≡ true
filtered f area [] is = cc
filtered f area (other ∷ areas) is = by (f other) refl is (λ any. filtered f area areas any)
  where
    split : (same : Bool) → is_area other area ≡ same → f other ≡ true → (same || list_any (λ (a : Area). is_area a area) (filter f areas)) ≡ true → (list_any (λ (a : Area). is_area a area) (filter f areas) ≡ true → f area ≡ true) → f area ≡ true
    split true same e any rest = ap f (sym (same_area other area same)) ∙ e
    split false same e any rest = rest any

    by : (b : Bool) → f other ≡ b → list_any (λ (a : Area). is_area a area) (cond b (other ∷ filter f areas) (filter f areas)) ≡ true → (list_any (λ (a : Area). is_area a area) (filter f areas) ≡ true → f area ≡ true) → f area ≡ true
    by true e any rest = split (is_area other area) refl e any rest
    by false e any rest = rest any

-- a bit of two words together is one of either's
pub either_bit : (a b i : ℕ) → bit_at (bit_or a b) i ≡ 1 → (bit_at a i ≡ 1) ⊎ (bit_at b i ≡ 1)
either_bit a b i is = ⊎_elim (λ less. inr (let both = bit_at_or a b i in omega (arith, both, is, less))) (λ some. inl (let both = bit_at_or a b i in omega (arith, both, is, some))) (cases_lt (bit_at a i) 1)

-- a bit of a word after it was written is one of the new word, or as it was
set_bit : (words : List ℕ) (word value block : ℕ) → word < length words → found_bit (slice_set words word value) block ≡ 1 → ((word ≡ block / 64) × (bit_at value (block % 64) ≡ 1)) ⊎ (found_bit words block ≡ 1)
set_bit words word value block inside is = same_or_other (block / 64) word
    (λ same. inl (sym same, sym (ap (λ (w : ℕ). bit_at w (block % 64)) (ap (λ (k : ℕ). slice_index (slice_set words word value) k) same ∙ get_or-set_same words word value 0 inside)) ∙ is))
    (λ other. inr (sym (ap (λ (w : ℕ). bit_at w (block % 64)) (get_or-set_other words word (block / 64) value 0 other)) ∙ is))

module _ (o : Origin) (steps : List Step) (n number : ℕ) where
  -- more of what is found, each newly set bit being found now
  pub more_found : (words pins : List ℕ) (call : RunningCall) (word value : ℕ) → word < length words → Causes o steps n number words pins call →
      ((block : ℕ) → word ≡ block / 64 → bit_at value (block % 64) ≡ 1 → IsAtStep o steps n number (FindsTaken block) ⊎ (found_bit words block ≡ 1)) → Causes o steps n number (slice_set words word value) pins call
  more_found words pins call word value inside causes new = record {
    taken = λ block is. ⊎_elim (λ here. ⊎_elim (λ now. now) (λ before. causes.taken block before) (new block here.0 here.1)) (λ before. causes.taken block before) (set_bit words word value block inside is);
    lacked = causes.lacked;
    overtaken = causes.overtaken;
    pins_seen = causes.pins_seen;
  }

  -- a pass that found an area full
  pub more_lacked : (s : Seat) (call : RunningCall) (areas : List Area) → seat_shape s ≡ shape o → Causes o steps n number s.blocks.found s.giving.pins_seen call →
      Causes o steps n number s.blocks.found s.giving.pins_seen (record call { lacked = call.lacked ++ filter (λ (area : Area). is_pass_found s area) areas })
  more_lacked s call areas same causes = record {
    taken = causes.taken;
    lacked = λ area is block inside. either area block inside (list_any (λ (other : Area). is_area other area) call.lacked) refl
        (sym (list_any-append (λ (other : Area). is_area other area) call.lacked (filter (λ (a : Area). is_pass_found s a) areas)) ∙ is);
    overtaken = causes.overtaken;
    pins_seen = causes.pins_seen;
  }
    where
      either : (area : Area) (block : ℕ) → is_in_area (shape o) area block ≡ true → (b : Bool) → list_any (λ (other : Area). is_area other area) call.lacked ≡ b →
          (b || list_any (λ (other : Area). is_area other area) (filter (λ (a : Area). is_pass_found s a) areas)) ≡ true → IsAtStep o steps n number (FindsTaken block)
      either area block inside true e any = causes.lacked area e block inside
      either area block inside false e any = causes.taken block (pass_found s area (filtered (λ (a : Area). is_pass_found s a) area areas any) block (subst (λ (image : Shape). is_in_area image area block ≡ true) (sym same) inside))

  -- one pin more seen
  pub more_pins : (words pins : List ℕ) (call : RunningCall) (seat value : ℕ) → (seat ≡ 0) ⊎ (seat ≡ length pins) → Causes o steps n number words pins call → IsAtStep o steps n number (FindsPin seat value) →
      Causes o steps n number words (take seat pins ++ value ∷ []) call
  more_pins words pins call seat value in_order causes now = record {
    taken = causes.taken;
    lacked = causes.lacked;
    overtaken = causes.overtaken;
    pins_seen = λ put other low. ⊎_elim (λ less. old put other less) (λ upto. new other (let more = length_push (take seat pins) value in omega (arith, low, more, upto, long))) (cases_lt other seat);
  }
    where
      short : seat ≤ length pins
      short = ⊎_elim (λ none. omega (arith, none)) (λ last. omega (arith, last)) in_order

      long : length (take seat pins) ≡ seat
      long = (let is = length-take seat pins in let most = short in omega (arith, is, most))

      old : call.put ≢ None → (other : ℕ) → other < seat → IsAtStep o steps n number (FindsPin other (slice_index (take seat pins ++ value ∷ []) other))
      old put other less = subst (λ (found : ℕ). IsAtStep o steps n number (FindsPin other found)) (sym (get_or_append_left (take seat pins) (value ∷ []) 0 other (omega (arith, less, long)) ∙ get_or-take seat pins other 0 less))
          (causes.pins_seen put other (let most = short in omega (arith, less, most)))

      new : (other : ℕ) → other ≡ seat → IsAtStep o steps n number (FindsPin other (slice_index (take seat pins ++ value ∷ []) other))
      new other is = subst (λ (found : ℕ). IsAtStep o steps n number (FindsPin other found)) (sym (get_or_push (take seat pins) value 0 other (long ∙ sym is)))
          (subst (λ (k : ℕ). IsAtStep o steps n number (FindsPin k value)) (sym is) now)
