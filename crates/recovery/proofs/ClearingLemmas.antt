-- An opened image, cleared after its tail.
use Rattle.std.proofs.Common.{◌≡◌, ◌<◌, ◌+◌, ◌*◌, ◌==◌, ◌||◌, nat_lt, ℕ, zero, suc, Bool, true, false, List, [], ◌∷◌, ◌++◌, length, take, drop, if◌then◌else◌, refl, sym, ap, ◌∙◌, subst, append-nil, arith}
use Rattle.std.specs.List.{list_all, list_any}
use Rattle.std.proofs.Math.Logic.{∥∥₁_elim, ∥∥₁_map}
use Rattle.std.proofs.Math.Nat.{mul-le-mul_right, ℕ_set}
use Rattle.std.proofs.Math.Bool.{Bool-set}
use Rattle.std.proofs.lemmas.Bool.Decides.{nat_tests}
use Rattle.std.proofs.lemmas.List.{length-drop, take_all}
use Rattle.log_entry.specs.Geometry.{HasShape}
use Rattle.log_entry.specs.declared.layouts.TheConstants.{EMPTY, SEAL}
use Rattle.log_entry.specs.declared.shapes.Geometry.{Geometry}
use Rattle.log_image.specs.Image.{Shape, words_in, total, is_in_log, block_words, shape_by}
use Rattle.log_image.specs.Header.{shape_of}
use Rattle.log_image.specs.Blocks.{slots_of, entry_words, is_closed}
use Rattle.log_image.specs.Tails.{Tail as ImageTail, AtSlot, AtLink, last_block, tail_in, tail_of, IsClear, IsCleared}
use Rattle.log_image.specs.Taken.{HasTaken, named_blocks}
use Rattle.log_image.specs.Stands.{StandsBy}
use Rattle.log_image.specs.KeepsStart.{KeepsStart}
use Rattle.log_image.specs.Recovered.{Recovered}
use Rattle.log_image.specs.declared.starts.Start.{Start}
use Rattle.log_image.proofs.ClearedImages.{clearing_keeps}
use Rattle.log_image.proofs.OneChain.{one_chain}
use Rattle.log_image.proofs.ImageLemmas.{length_range}
use Rattle.log_image.proofs.HoldingLemmas.{both_left, both_right}
use Rattle.opening_rules.specs.Opening.{chain_of}
use Rattle.recovery.specs.declared.tails.Tail.{Tail}
use Rattle.recovery.specs.Openings.{IsOpened, as_tail}
use Rattle.recovery.specs.Clearing.{is_inside}

-- slots that are not closed have an empty one
open_slots : (slots : List ℕ) → is_closed slots ≡ false → length (entry_words slots) < length slots
open_slots [] closed = cc
open_slots (slot ∷ slots) closed = at (slot == EMPTY) (slot == SEAL) closed (open_slots slots)
  where
    at : (empty seal : Bool) → (if empty then false else if seal then true else is_closed slots) ≡ false → (is_closed slots ≡ false → length (entry_words slots) < length slots)
        → length (if empty then [] else if seal then [] else slot ∷ entry_words slots) < suc (length slots)
    at true seal closed rest = omega arith
    at false true closed rest = cc
    at false false closed rest = omega (arith, rest closed)

-- the last of some blocks is what all are
last_is : (p : ℕ → Bool) (block : ℕ) (rest : List ℕ) → list_all p (block ∷ rest) ≡ true → p (last_block block rest) ≡ true
last_is p block [] all = both_left (p block) true all
last_is p block (next ∷ rest) all = last_is p next rest (both_right (p block) (list_all p (next ∷ rest)) all)

-- the tail in a block of the image
tail_in_inside : (words : List ℕ) (shape : Shape) (block : ℕ) → length words ≡ total shape * words_in shape → block < total shape → is_inside shape (tail_in block (block_words words shape block)) ≡ true
tail_in_inside words shape block whole below = at (is_closed (slots_of (block_words words shape block))) refl
  where
    long : length (block_words words shape block) ≡ words_in shape
    long = length_range words (block * words_in shape) (words_in shape) (omega (arith, whole, mul-le-mul_right (words_in shape) below))

    inside : nat_lt block (total shape) ≡ true
    inside = grind (arith, nat_tests, below)

    at : (closed : Bool) → is_closed (slots_of (block_words words shape block)) ≡ closed →
        is_inside shape (if closed then AtLink block else AtSlot block (3 + length (entry_words (slots_of (block_words words shape block))))) ≡ true
    at true is = inside
    at false is =
        let slot : 3 + length (entry_words (slots_of (block_words words shape block))) < words_in shape = omega (arith, open_slots (slots_of (block_words words shape block)) is, length-drop 3 (block_words words shape block), long) in
        grind (arith, nat_tests, inside, slot)

-- two shapes of the same numbers
same_shape : (geometry : Geometry) (shape : Shape) → HasShape geometry shape.data_blocks shape.log_blocks shape.block_bytes → shape_by geometry ≡ shape
same_shape geometry shape same = rw (same.same_data, same.same_log, same.same_bytes) refl

-- the tail of an opened image is inside
pub inside_by : (geometry : Geometry) (words taken : List ℕ) (generation position size : ℕ) (tail : Tail) → IsOpened geometry words taken generation position size tail →
    is_inside (shape_by geometry) (as_tail tail) ≡ true
inside_by geometry words taken generation position size tail holds =
    let shape : shape_by geometry ≡ shape_of words = same_shape geometry (shape_of words) holds.same_geometry in
    let log : is_in_log (shape_of words) (last_block 0 (chain_of words holds.rest)) ≡ true = last_is (is_in_log (shape_of words)) _ holds.rest holds.stands.stands.format.areas in
    let below : last_block 0 (chain_of words holds.rest) < total (shape_of words) = grind (arith, nat_tests, log) in
    rw (shape, holds.same_tail) (tail_in_inside words (shape_of words) (last_block 0 (chain_of words holds.rest)) holds.stands.header.whole below)

-- there are as many words as the shape says
pub whole_by : (geometry : Geometry) (words taken : List ℕ) (generation position size : ℕ) (tail : Tail) → IsOpened geometry words taken generation position size tail →
    length words ≡ total (shape_by geometry) * words_in (shape_by geometry)
whole_by geometry words taken generation position size tail holds =
    holds.stands.header.whole ∙ ap (λ (s : Shape). total s * words_in s) (sym (same_shape geometry (shape_of words) holds.same_geometry))

-- both, of an image of which it is known only that it holds something
pub whole_kept : (geometry : Geometry) (words taken : List ℕ) (generation position size : ℕ) (tail : Tail) → ∥ IsOpened geometry words taken generation position size tail ∥₁ →
    length words ≡ total (shape_by geometry) * words_in (shape_by geometry)
whole_kept geometry words taken generation position size tail kept = ∥∥₁_elim kept (ℕ_set _ _) (whole_by geometry words taken generation position size tail)

pub inside_kept : (geometry : Geometry) (words taken : List ℕ) (generation position size : ℕ) (tail : Tail) → ∥ IsOpened geometry words taken generation position size tail ∥₁ →
    is_inside (shape_by geometry) (as_tail tail) ≡ true
inside_kept geometry words taken generation position size tail kept = ∥∥₁_elim kept (Bool-set _ _) (inside_by geometry words taken generation position size tail)

-- the words after a change of all of them in place
pub changed_words : (words new : List ℕ) (count : ℕ) → count ≡ length words → length new ≡ length words → take count (new ++ drop (length new) words) ≡ new
changed_words words new count counted same =
    let none : drop (length new) words ≡ [] = drop_length (length new) words same in
    ap (λ (l : List ℕ). take count (new ++ l)) none ∙ ap (λ (l : List ℕ). take count l) (append-nil new) ∙ take_all count new (omega (arith, counted, same))
  where
    drop_length : (count : ℕ) (numbers : List ℕ) → count ≡ length numbers → drop count numbers ≡ []
    drop_length zero [] is = refl
    drop_length zero (number ∷ numbers) is = absurd (omega (arith, is))
    drop_length (suc count) [] is = refl
    drop_length (suc count) (number ∷ numbers) is = drop_length count numbers (omega (arith, is))

-- what stood after the tail is cleared, by the tail that the chain says
cleared_by : (geometry : Geometry) (old new taken : List ℕ) (generation position size : ℕ) (tail : Tail) (holds : IsOpened geometry old taken generation position size tail) →
    IsCleared (shape_by geometry) (as_tail tail) old new → IsCleared (shape_of old) (tail_of old (shape_of old) (chain_of old holds.rest)) old new
cleared_by geometry old new taken generation position size tail holds cleared =
    subst (λ (h : ImageTail). IsCleared (shape_of old) h old new) holds.same_tail
    (subst (λ (s : Shape). IsCleared s (as_tail tail) old new) (same_shape geometry (shape_of old) holds.same_geometry) cleared)

-- the bitmap has the blocks that the cleared chain names
taken_after : (old new : List ℕ) (shape after : Shape) (chain taken : List ℕ) → HasTaken old shape chain taken → after ≡ shape → named_blocks new shape chain ≡ named_blocks old shape chain → HasTaken new after chain taken
taken_after old new shape after chain taken has same names =
    subst (λ (s : Shape). HasTaken new s chain taken) (sym same)
    (record { room = has.room; bits = λ block inside. has.bits block inside ∙ ap (λ (l : List ℕ). if block == 0 || list_any (λ (named : ℕ). named == block) l then 1 else 0) (sym names) })

-- what a run may start from
keeps_by : (geometry : Geometry) (old new taken : List ℕ) (generation position size : ℕ) (tail : Tail) → IsCleared (shape_by geometry) (as_tail tail) old new →
    IsOpened geometry old taken generation position size tail → KeepsStart geometry new taken generation position size
keeps_by geometry old new taken generation position size tail cleared holds =
    let chain : List ℕ = chain_of old holds.rest in
    let stays = clearing_keeps old new chain holds.file position holds.stands (cleared_by geometry old new taken generation position size tail holds cleared) in
    record {
      chain = chain;
      file = holds.file;
      stands = stays.reads.stands;
      same_size = holds.same_size;
      same_geometry = subst (λ (s : Shape). HasShape geometry s.data_blocks s.log_blocks s.block_bytes) (sym stays.reads.same_shape) holds.same_geometry;
      same_generation = stays.reads.same_generation ∙ holds.same_generation;
      clear = subst (λ (s : Shape). IsClear new s (tail_of new s chain)) (sym stays.reads.same_shape) (subst (λ (h : ImageTail). IsClear new (shape_of old) h) (sym stays.reads.same_tail) stays.clear);
      bitmap = taken_after old new (shape_of old) (shape_of new) chain taken holds.bitmap stays.reads.same_shape stays.reads.same_names;
    }

pub kept_after : (geometry : Geometry) (old new taken : List ℕ) (generation position size : ℕ) (tail : Tail) → IsCleared (shape_by geometry) (as_tail tail) old new →
    ∥ IsOpened geometry old taken generation position size tail ∥₁ → ∥ KeepsStart geometry new taken generation position size ∥₁
kept_after geometry old new taken generation position size tail cleared kept = ∥∥₁_map kept (keeps_by geometry old new taken generation position size tail cleared)

-- what is recovered by a chain of the words
pub recovered_by : (geometry : Geometry) (old taken : List ℕ) (generation position size : ℕ) (tail : Tail) (start : Start) → IsCleared (shape_by geometry) (as_tail tail) old start.words.items →
    ∥ IsOpened geometry old taken generation position size tail ∥₁ → (chain file : List ℕ) (at : ℕ) → StandsBy old chain file at → Recovered old start file at
recovered_by geometry old taken generation position size tail start cleared kept chain file at stands =
    let same : (holds : IsOpened geometry old taken generation position size tail) → chain_of old holds.rest ≡ chain = λ holds. one_chain old (shape_of old) (chain_of old holds.rest) chain holds.stands.stands.is_chain stands.stands.is_chain in
    let here : IsCleared (shape_of old) (tail_of old (shape_of old) chain) old start.words.items =
    ∥∥₁_elim kept (hlevel ℕ_set) (λ holds. subst (λ (l : List ℕ). IsCleared (shape_of old) (tail_of old (shape_of old) l) old start.words.items) (same holds) (cleared_by geometry old start.words.items taken generation position size tail holds cleared)) in
    record { chain = chain; of_words = stands.stands.is_chain; cleared = here; stands = (chain, (clearing_keeps old start.words.items chain file at stands here).reads.stands) }
