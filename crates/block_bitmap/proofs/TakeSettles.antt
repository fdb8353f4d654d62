-- Where taking blocks goes from a word, and how it ends there.
use Rattle.std.proofs.Common.{◌≡◌, ◌<◌, ◌≤◌, ◌+◌, ◌-◌, ◌*◌, ◌/◌, ◌%◌, ◌==◌, ◌&&◌, ◌||◌, ◌⊎◌, inl, inr, not, nat_lt, ℕ, zero, suc, Bool, true, false, cond, List, [], ◌∷◌, ◌++◌, slice_index, refl, sym, ap, ◌∙◌, arith}
use Rattle.std.specs.Prelude.{filter, Option, None}
use Rattle.std.specs.Int.{bit_at}
use Rattle.std.specs.List.{range_with_len, list_any, list_all}
use Rattle.std.proofs.lemmas.Bool.{eq-eqb, and_from, ltb-true, ltb-false, lt-ltb, cases_eq, or_right, or_left, false≢true}
use Rattle.std.proofs.lemmas.List.Folds.{list_any-append}
use Rattle.std.proofs.lemmas.Nat.Bits.{bit_at-lt}
use Rattle.log_entry.specs.declared.shapes.Area.{Area}
use Rattle.log_entry.specs.declared.shapes.Area.TheVariants.{Data, Log, Spare}
use Rattle.log_entry.specs.Geometry.{first_of}
use Rattle.log_image.specs.Image.{total}
use Rattle.log_image.specs.Chains.{all_different, is_listed}
use Rattle.log_image.specs.Taken.{bit_of}
use Rattle.pmem_words.specs.Seats.{Seat}
use Rattle.pmem_words.specs.declared.machine.Turn.TheVariants.{Go, Done}
use Rattle.log_core.specs.Views.{Ghost}
use Rattle.log_core.specs.Works.{seat_shape}
use Rattle.log_core.specs.Needs.{is_in_area, is_area, owned_numbers, lacking, is_found_taken, is_pass_found}
use Rattle.log_core.specs.Answers.{HasLacked}
use Rattle.log_core.proofs.BlockLists.{has_filter, in_range}
use Rattle.block_bitmap.specs.declared.take.Take.{Take}
use Rattle.block_bitmap.specs.declared.take.Taken.{Taken}
use Rattle.block_bitmap.specs.declared.take.Taken.TheVariants.{Taken as HasTaken, NoSpace}
use Rattle.block_bitmap.specs.TakeBits.{blocks_of_word, area_in}
use Rattle.block_bitmap.specs.TakeScript.{last_word, open_at, moved_on, settled_by}
use Rattle.block_bitmap.specs.TakeWithin.{HasEnded}
use Rattle.block_bitmap.proofs.TakeStanding.{TakeStands}
use Rattle.block_bitmap.proofs.TakeWords.{area_from}

-- a test that holds of each number of a range
all_range : (p : ℕ → Bool) (a n : ℕ) → ((x : ℕ) → a ≤ x → x < a + n → p x ≡ true) → list_all p (range_with_len a n) ≡ true
all_range p a zero each = refl
all_range p a (suc n) each = and_from (p a) (list_all p (range_with_len (a + 1) n)) (each a (omega arith) (omega arith)) (all_range p (a + 1) n (λ x low high. each x (omega (arith, low)) (omega (arith, high))))

-- a word of which nothing is open has each bit of the area
is_of_word : (word block : ℕ) → block / 64 ≡ word → is_listed (blocks_of_word word) block ≡ true
unfolding blocks_of_word
is_of_word word block is = in_range (word * 64) 64 block (omega (arith, is)) (omega (arith, is))

-- one of those that pass a test passes another
any_by : (q : Area → Bool) (x : Area) (b : Bool) (rest : List Area) → list_any q (cond b (x ∷ rest) rest) ≡ (b && q x || list_any q rest)
any_by q x true rest = refl
any_by q x false rest = refl

any_filter : (p q : Area → Bool) (areas : List Area) → list_any q (filter p areas) ≡ list_any (λ (x : Area). p x && q x) areas
any_filter p q [] = refl
any_filter p q (x ∷ areas) = any_by q x (p x) (filter p areas) ∙ ap (λ (b : Bool). p x && q x || b) (any_filter p q areas)

one_of : (p : Area → Bool) (area : Area) → p area ≡ true → list_any (λ (x : Area). p x && is_area x area) (Data ∷ Log ∷ Spare ∷ []) ≡ true
one_of p Data is = or_left (p Data && true) _ (and_from (p Data) true is refl)
one_of p Log is = or_right (p Data && false) _ (or_left (p Log && true) _ (and_from (p Log) true is refl))
one_of p Spare is = or_right (p Data && false) _ (or_right (p Log && false) _ (or_left (p Spare && true) _ (and_from (p Spare) true is refl)))

-- a step on the bitmap notes an area whose pass has found nothing
pub has_lacked : (lacked : List Area) (s : Seat) (area : Area) → is_pass_found s area ≡ true →
    list_any (λ (other : Area). is_area other area) (lacked ++ filter (λ (other : Area). is_pass_found s other) (Data ∷ Log ∷ Spare ∷ [])) ≡ true
has_lacked lacked s area found =
    list_any-append (λ (other : Area). is_area other area) lacked (filter (λ (other : Area). is_pass_found s other) (Data ∷ Log ∷ Spare ∷ []))
    ∙ or_right (list_any (λ (other : Area). is_area other area) lacked) (list_any (λ (other : Area). is_area other area) (filter (λ (other : Area). is_pass_found s other) (Data ∷ Log ∷ Spare ∷ [])))
    (any_filter (λ (other : Area). is_pass_found s other) (λ (other : Area). is_area other area) (Data ∷ Log ∷ Spare ∷ []) ∙ one_of (λ (other : Area). is_pass_found s other) area found)

module _ (area : Area) (total_count : ℕ) (first : Seat) (count passed : ℕ) (s : Seat) (known : ℕ) where
  abbrev word : ℕ
  word = first_of s.geometry area / 64 + passed

  abbrev at : Option ℕ → Take
  at k = record { area = area; count = count; passed = passed; known = k }

  module _ (g : Ghost) (stands : TakeStands area total_count first (record { area = area; count = count; passed = passed; known = None }) s g)
      (known_found : (place : ℕ) → bit_at known place ≤ bit_at (slice_index s.blocks.found (first_of s.geometry area / 64 + passed)) place) where
    -- where nothing of the word is open, each of its blocks of the area was found taken
    word_found : open_at (at None) s known ≡ [] → (block : ℕ) → block / 64 ≡ word → is_in_area (seat_shape s) area block ≡ true → bit_of s.blocks.found block ≡ 1
    word_found none block is inside = by (cases_eq (bit_at known (block % 64)) 0)
      where
        by : (bit_at known (block % 64) ≡ 0) ⊎ (bit_at known (block % 64) ≡ 0 → ⊥) → bit_of s.blocks.found block ≡ 1
        by (inl clear) =
            (let listed = has_filter (λ (x : ℕ). bit_at known (x % 64) == 0) (area_in (seat_shape s) area word) block in
            let inner = has_filter (λ (x : ℕ). is_in_area (seat_shape s) area x) (blocks_of_word word) block in
            let yes_inner = inner ∙ and_from (is_in_area (seat_shape s) area block) (is_listed (blocks_of_word word) block) inside (is_of_word word block is) in
            let some = listed ∙ and_from (bit_at known (block % 64) == 0) (is_listed (area_in (seat_shape s) area word) block) (eq-eqb (bit_at known (block % 64)) 0 clear) yes_inner in
            absurd (false≢true (ap (λ (blocks : List ℕ). is_listed blocks block) (sym none) ∙ some)))
        by (inr set) =
            (let below = bit_at-lt (slice_index s.blocks.found word) (block % 64) in
            let more = known_found (block % 64) in
            ap (λ (w : ℕ). bit_at (slice_index s.blocks.found w) (block % 64)) is ∙ omega (arith, set, below, more))

    found_to : open_at (at None) s known ≡ [] → (block : ℕ) → block / 64 < word + 1 → is_in_area (seat_shape s) area block ≡ true → bit_of s.blocks.found block ≡ 1
    found_to none block low inside = by (cases_eq (block / 64) word)
      where
        by : (block / 64 ≡ word) ⊎ (block / 64 ≡ word → ⊥) → bit_of s.blocks.found block ≡ 1
        by (inl is) = word_found none block is inside
        by (inr other) = stands.passed block (omega (arith, low, other)) inside

    goes_next : open_at (at None) s known ≡ [] → word < last_word area s → TakeStands area total_count first (record { area = area; count = count; passed = passed + 1; known = None }) s g
    goes_next none less = record {
      area_is = refl;
      may = stands.may;
      to = omega (arith, less);
      blocks = stands.blocks;
      grown = stands.grown;
      many = stands.many;
      passed = λ block low inside. found_to none block (omega (arith, low)) inside;
      known = tt;
    }

    -- the pass over the last word has found each block of the area
    found_all : open_at (at None) s known ≡ [] → last_word area s ≤ word → is_found_taken s area ≡ true
    found_all none last = all_range (λ (block : ℕ). not (is_in_area (seat_shape s) area block) || (bit_of s.blocks.found block == 1)) 1 (total (seat_shape s) - 1) (λ block low high. by block (is_in_area (seat_shape s) area block) refl)
      where
        by : (block : ℕ) (inside : Bool) → is_in_area (seat_shape s) area block ≡ inside → (not inside || (bit_of s.blocks.found block == 1)) ≡ true
        by block true inside = (let between = area_from s.geometry area block inside in let high = between.1 in eq-eqb (bit_of s.blocks.found block) 1 (found_to none block (omega (arith, high, last)) inside))
        by block false inside = refl

    pass_found : open_at (at None) s known ≡ [] → last_word area s ≤ word → is_pass_found s area ≡ true
    pass_found none last = (let some = stands.may.some in let lacks = stands.may.lacks in
        and_from (nat_lt 0 (lacking s s.calling.job area)) (is_found_taken s area) (lt-ltb 0 (lacking s s.calling.job area) (omega (arith, some, lacks))) (found_all none last))

    moves_on : (b : Bool) → nat_lt word (last_word area s) ≡ b → open_at (at None) s known ≡ [] → (k : Option ℕ) (h : Ghost) → (moved_on b (at k) s).turn ≡ Go → TakeStands area total_count first (moved_on b (at k) s).machine (moved_on b (at k) s).seat h
    moves_on true e none k h go = (let next = goes_next none (ltb-true word (last_word area s) e) in record {
      area_is = refl;
      may = record { some = next.may.some; lacks = next.may.lacks; room = next.may.room };
      to = next.to;
      blocks = next.blocks;
      grown = next.grown;
      many = next.many;
      passed = next.passed;
      known = tt;
    })
    moves_on false e none k h go = cc

    -- on with the word where something of it is open, or with the next one
    pub settles : (blocks : List ℕ) → open_at (at None) s known ≡ blocks → (k : Option ℕ) (h : Ghost) → (settled_by blocks (at k) s known).turn ≡ Go → TakeStands area total_count first (settled_by blocks (at k) s known).machine (settled_by blocks (at k) s known).seat h
    settles [] none k h go = moves_on (nat_lt word (last_word area s)) refl none k h go
    settles (block ∷ blocks) is k h go = record {
      area_is = refl;
      may = record { some = stands.may.some; lacks = stands.may.lacks; room = stands.may.room };
      to = stands.to;
      blocks = stands.blocks;
      grown = stands.grown;
      many = stands.many;
      passed = stands.passed;
      known = known_found;
    }

    ends_by : (b : Bool) → nat_lt word (last_word area s) ≡ b → open_at (at None) s known ≡ [] → (k : Option ℕ) (h : Ghost) (out : Taken) → all_different (owned_numbers s.blocks.owned) ≡ true → (is_pass_found s area ≡ true → HasLacked h area) →
        (moved_on b (at k) s).turn ≡ Done out → HasEnded area total_count first out (moved_on b (at k) s).seat h
    ends_by true e none k h out once lacked done = cc
    ends_by false e none k h out once lacked done =
        (let same : NoSpace area ≡ out = cc in
        let last = ltb-false word (last_word area s) e in
        let many = stands.many in let some = stands.may.some in
        record {
          blocks = stands.blocks;
          grown = stands.grown;
          once = once;
          taken = λ taken. (let never : NoSpace area ≡ HasTaken = same ∙ taken in cc);
          no_space = λ other is. ((let equal : NoSpace area ≡ NoSpace other = same ∙ is in cc), omega (arith, many, some), found_all none last, lacked (pass_found none last));
        })

    -- or the end after the last word
    pub settles_so : (blocks : List ℕ) → open_at (at None) s known ≡ blocks → (k : Option ℕ) (h : Ghost) (out : Taken) → all_different (owned_numbers s.blocks.owned) ≡ true → (is_pass_found s area ≡ true → HasLacked h area) →
        (settled_by blocks (at k) s known).turn ≡ Done out → HasEnded area total_count first out (settled_by blocks (at k) s known).seat h
    settles_so [] none k h out once lacked done = ends_by (nat_lt word (last_word area s)) refl none k h out once lacked done
    settles_so (block ∷ blocks) is k h out once lacked done = cc
