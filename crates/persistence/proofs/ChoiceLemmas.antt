-- What a choice takes of each word, and that a crash may leave it.
use Rattle.std.proofs.Common.{◌≡◌, ℕ, ◌+◌, ◌-◌, ◌%◌, ◌<◌, ◌≤◌, Bool, true, false, nat_lt, if◌then◌else◌, List, [], ◌∷◌, ◌++◌, length, Result, Ok, Err, IfOk, Vec, Global, get_or, slice_index, slice_set, inl, inr, sym, ap, ◌∙◌, add-one, arith}
use Rattle.std.proofs.lemmas.Bool.{lt-ltb, le-ltb}
use Rattle.std.proofs.lemmas.Bool.Decides.{eqb_tells, leb_tells}
use Rattle.std.proofs.lemmas.List.{get_or-set_same, get_or-set_other, get_or_past, get_or_append_left, get_or_default, ext_get_or}
use Rattle.std.proofs.lemmas.Nat.{mod_below}
use Rattle.std.proofs.lemmas.Result.{IfOk-weaker}
use Rattle.std.proofs.lemmas.List.FromFn.{length-map-range_with_len, get_or-map-range_with_len}
use Rattle.std.proofs.Math.Seq.{get_or-append_seam}
use Rattle.rand_pcg.specs.Lcg.{Lcg}
use Rattle.rand_pcg.specs.Pcg.{pcg32}
use Rattle.persistence.specs.Memory.{Memory, Cell, cell}
use Rattle.persistence.specs.Choices.{left_count, drawn_place, drawn_on, generator_at, chosen_index, chosen_value, chosen}
use Rattle.persistence.specs.Survivors.{values, Survives}
use Rattle.persistence.specs.declared.survivors.Choice.{Choice}
use Rattle.persistence.specs.declared.survivors.Choice.TheVariants.{Oldest, Newest, Drawn}
use Rattle.persistence.proofs.ValueLemmas.{index_at-most}

-- a floor is no further than the present value
pub floor_inside : (memory : Memory) (word : ℕ) → (cell memory word).floor ≤ length (cell memory word).past
floor_inside memory word = index_at-most memory.past (slice_index memory.floors word) word

-- of several values one is drawn
pub drawn_several : (generator : Lcg) (c : Cell) → c.floor < length c.past
    → (drawn_place generator c ≡ (pcg32 generator).0 % (length c.past - c.floor + 1)) × (drawn_on generator c ≡ (pcg32 generator).1)
drawn_several generator c several =
    let count : left_count c ≡ length c.past - c.floor + 1 = omega arith in
    let tests : nat_lt 1 (left_count c) ≡ true = lt-ltb 1 (left_count c) (omega arith) in (
      ap (λ (b : Bool). if b then (pcg32 generator).0 % left_count c else 0) tests ∙ ap (λ (n : ℕ). (pcg32 generator).0 % n) count,
      ap (λ (b : Bool). if b then (pcg32 generator).1 else generator) tests,
    )

-- and of one alone nothing is
pub drawn_single : (generator : Lcg) (c : Cell) → length c.past ≤ c.floor → (drawn_place generator c ≡ 0) × (drawn_on generator c ≡ generator)
drawn_single generator c single =
    let tests : nat_lt 1 (left_count c) ≡ false = le-ltb 1 (left_count c) (omega arith) in (
      ap (λ (b : Bool). if b then (pcg32 generator).0 % left_count c else 0) tests,
      ap (λ (b : Bool). if b then (pcg32 generator).1 else generator) tests,
    )

-- the generator of the next word
pub generator_next : (seed : ℕ) (memory : Memory) (word : ℕ) → generator_at seed memory (word + 1) ≡ drawn_on (generator_at seed memory word) (cell memory word)
generator_next seed memory word = ap (generator_at seed memory) (add-one word)

-- the drawn numbers up to a word, one word further
pub drawn_set : (seed : ℕ) (memory : Memory) (indices : List ℕ) (word value : ℕ) → word < length indices → value ≡ chosen_index (Drawn seed) memory word
    → ((w : ℕ) → w < word → slice_index indices w ≡ chosen_index (Drawn seed) memory w)
    → (w : ℕ) → w < word + 1 → slice_index (slice_set indices word value) w ≡ chosen_index (Drawn seed) memory w
drawn_set seed memory indices word value inside is before w below =
    elim (eqb_tells w word) [
      | inl h ↦ rw h.1 (get_or-set_same indices word value 0 inside ∙ is)
      | inr h ↦ get_or-set_other indices word w value 0 h.1 ∙ before w (omega (arith, below, h.1))
    ]

-- and the floors of the others
pub floors_rest : (memory : Memory) (indices : List ℕ) (word value n : ℕ)
    → ((w : ℕ) → word ≤ w → w < n → slice_index indices w ≡ (cell memory w).floor)
    → (w : ℕ) → word + 1 ≤ w → w < n → slice_index (slice_set indices word value) w ≡ (cell memory w).floor
floors_rest memory indices word value n rest w after below =
    get_or-set_other indices word w value 0 (λ same. omega (arith, same, after)) ∙ rest w (omega (arith, after)) below

-- the number that is taken is at or after the floor
pub chosen_above : (choice : Choice) (memory : Memory) (word : ℕ) → (cell memory word).floor ≤ chosen_index choice memory word
chosen_above Oldest memory word = omega arith
chosen_above Newest memory word = floor_inside memory word
chosen_above (Drawn seed) memory word = omega arith

-- what is drawn is no further than the present value
drawn_inside : (generator : Lcg) (c : Cell) → c.floor ≤ length c.past → c.floor + drawn_place generator c ≤ length c.past
drawn_inside generator c inside =
    elim (leb_tells (length c.past) c.floor) [
      | inl h ↦ let none : drawn_place generator c ≡ 0 = (drawn_single generator c h.1).0 in omega (arith, none, inside)
      | inr h ↦
          let drawn : drawn_place generator c ≡ (pcg32 generator).0 % (length c.past - c.floor + 1) = (drawn_several generator c h.1).0 in
          let few : (pcg32 generator).0 % (length c.past - c.floor + 1) < length c.past - c.floor + 1 = mod_below (pcg32 generator).0 (length c.past - c.floor + 1) (omega arith) in
          omega (arith, drawn, few, inside)
    ]

-- and is no further than the present value
pub chosen_inside : (choice : Choice) (memory : Memory) (word : ℕ) → chosen_index choice memory word ≤ length (cell memory word).past
chosen_inside Oldest memory word = floor_inside memory word
chosen_inside Newest memory word = omega arith
chosen_inside (Drawn seed) memory word = drawn_inside (generator_at seed memory word) (cell memory word) (floor_inside memory word)

-- how many words there are, and the value of each
pub length-chosen : (choice : Choice) (memory : Memory) → length (chosen choice memory) ≡ length memory.now.words
length-chosen choice memory = length-map-range_with_len (chosen_value choice memory) 0 (length memory.now.words)

pub chosen_at : (choice : Choice) (memory : Memory) (word : ℕ) → word < length memory.now.words → slice_index (chosen choice memory) word ≡ chosen_value choice memory word
chosen_at choice memory word below = get_or-map-range_with_len (chosen_value choice memory) 0 (length memory.now.words) word word 0 below (omega arith)

-- a crash may leave what a choice takes
pub chosen_survives : (choice : Choice) (memory : Memory) → Survives memory (chosen choice memory)
chosen_survives choice memory = record {
  same_length = length-chosen choice memory;
  each = λ word below. record {
    index = chosen_index choice memory word;
    above = chosen_above choice memory word;
    inside = chosen_inside choice memory word;
    same = sym (chosen_at choice memory word (rw (← length-chosen choice memory) below));
  };
}

-- a value of a word by its number, the present one being the last
value_read : (past : List ℕ) (present k : ℕ) → k ≤ length past → get_or past k present ≡ get_or (past ++ present ∷ []) k 0
value_read past present k inside =
    elim (leb_tells (length past) k) [
      | inl h ↦ let same : k ≡ length past = omega (arith, inside, h.1) in get_or_past past k present h.1 ∙ sym (rw same (get_or-append_seam past present [] 0))
      | inr h ↦ get_or_default past k present 0 h.1 ∙ sym (get_or_append_left past (present ∷ []) 0 k h.1)
    ]

-- the values of these numbers are what the choice takes
pub chosen_by_indices : (choice : Choice) (memory : Memory) (items indices : List ℕ) → length items ≡ length memory.now.words
    → ((w : ℕ) → w < length memory.now.words → slice_index indices w ≡ chosen_index choice memory w)
    → ((w : ℕ) → w < length memory.now.words → slice_index items w ≡ get_or (cell memory w).past (slice_index indices w) (slice_index memory.now.words w))
    → items ≡ chosen choice memory
chosen_by_indices choice memory items indices long index value =
    ext_get_or 0 items (chosen choice memory) (long ∙ sym (length-chosen choice memory))
    (λ w below.
    let known : w < length memory.now.words = omega (arith, below, long) in
    value w known
    ∙ ap (λ (k : ℕ). get_or (cell memory w).past k (slice_index memory.now.words w)) (index w known)
    ∙ value_read (cell memory w).past (slice_index memory.now.words w) (chosen_index choice memory w) (chosen_inside choice memory w)
    ∙ sym (chosen_at choice memory w known))

-- the same of a result, whose value is said in two clauses
pub chosen_if_ok : {E : Type 0} (result : Result (Vec ℕ Global) E) (choice : Choice) (memory : Memory) (indices : List ℕ)
    → ((w : ℕ) → w < length memory.now.words → slice_index indices w ≡ chosen_index choice memory w)
    → IfOk result (λ (values : Vec ℕ Global). length values.items ≡ length memory.now.words)
    → IfOk result (λ (values : Vec ℕ Global). (w : ℕ) → w < length memory.now.words → slice_index values.items w ≡ get_or (cell memory w).past (slice_index indices w) (slice_index memory.now.words w))
    → IfOk result (λ (values : Vec ℕ Global). values.items ≡ chosen choice memory)
chosen_if_ok (Ok values) choice memory indices index long each = chosen_by_indices choice memory values.items indices long index each
chosen_if_ok (Err e) choice memory indices index long each = tt

pub survives_if_ok : {E : Type 0} (result : Result (Vec ℕ Global) E) (choice : Choice) (memory : Memory)
    → IfOk result (λ (values : Vec ℕ Global). values.items ≡ chosen choice memory)
    → IfOk result (λ (values : Vec ℕ Global). Survives memory values.items)
survives_if_ok result choice memory is =
    IfOk-weaker result (λ (values : Vec ℕ Global). values.items ≡ chosen choice memory) (λ (values : Vec ℕ Global). Survives memory values.items)
    (λ values same. rw same (chosen_survives choice memory)) is
