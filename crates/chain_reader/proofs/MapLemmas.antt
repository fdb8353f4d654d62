-- What one more entry makes of a map and of a size.
use Rattle.std.proofs.Common.{◌≡◌, ◌<◌, ◌≤◌, ◌+◌, ◌-◌, nat_le, nat_lt, max, ℕ, zero, suc, Bool, true, false, List, [], ◌∷◌, ◌++◌, length, get_or, Option, Some, None, if◌then◌else◌, refl, sym, ap, ◌∙◌, subst, arith}
use Rattle.std.specs.List.{slice_get, range_with_len}
use Rattle.std.specs.Option.{option_or}
use Rattle.std.proofs.lemmas.Bool.{ltb-true, ltb-false, leb-true, leb-false}
use Rattle.std.proofs.lemmas.Bool.Decides.{nat_tests}
use Rattle.std.proofs.lemmas.List.FromFn.{length-range_with_len, get_or-range_with_len}
use Rattle.std.proofs.lemmas.Option.{slice_get-get_or, slice_get_past}
use Rattle.block_table.specs.FileMap.{FileMap, held_by, block_at, is_in_range}
use Rattle.log_image.specs.Image.{Shape}
use Rattle.log_image.specs.Entries.{Meaning}
use Rattle.log_image.specs.Maps.{block_in, map_of, entry_end, size_after}
use Rattle.chain_reader.specs.Tables.{HasMap, HasSize}

or_none : {X : Type 0} (o : Option X) → option_or o None ≡ o
or_none (Some x) = refl
or_none None = refl

or_or : {X : Type 0} (a b c : Option X) → option_or (option_or a b) c ≡ option_or a (option_or b c)
or_or (Some x) b c = refl
or_or None b c = refl

-- the last entry goes before all others
pub map_of_push : (entries : List Meaning) (entry : Meaning) (virt : ℕ) → map_of (entries ++ entry ∷ []) virt ≡ option_or (block_in entry virt) (map_of entries virt)
map_of_push [] entry virt = sym (or_none (block_in entry virt))
map_of_push (first ∷ entries) entry virt =
    ap (λ (o : Option ℕ). option_or o (block_in first virt)) (map_of_push entries entry virt)
    ∙ or_or (block_in entry virt) (map_of entries virt) (block_in first virt)

-- the size after one more entry
pub size_after_push : (shape : Shape) (size : ℕ) (entries : List Meaning) (entry : Meaning) → size_after shape size (entries ++ entry ∷ []) ≡ max (size_after shape size entries) (entry_end shape entry)
size_after_push shape size [] entry = refl
size_after_push shape size (first ∷ entries) entry = size_after_push shape (max size (entry_end shape first)) entries entry

pub size_after_append : (shape : Shape) (size : ℕ) (entries more : List Meaning) → size_after shape size (entries ++ more) ≡ size_after shape (size_after shape size entries) more
size_after_append shape size [] more = refl
size_after_append shape size (first ∷ entries) more = size_after_append shape (max size (entry_end shape first)) entries more

-- a place of numbers in a row
range_at : (first count place : ℕ) (inside : Bool) → nat_lt place count ≡ inside → slice_get (range_with_len first count) place ≡ (if inside then Some (first + place) else None)
range_at first count place true is =
    slice_get-get_or (range_with_len first count) place 0 (omega (arith, ltb-true place count is, length-range_with_len first count))
    ∙ ap (λ (n : ℕ). Some n) (get_or-range_with_len first count place 0 (ltb-true place count is))
range_at first count place false is = slice_get_past (range_with_len first count) place (omega (arith, ltb-false place count is, length-range_with_len first count))

get_range : (first count place : ℕ) → slice_get (range_with_len first count) place ≡ (if nat_lt place count then Some (first + place) else None)
get_range first count place = range_at first count place (nat_lt place count) refl

-- what a run of blocks gives a virtual block, before something else does
run_first : (virt block count v : ℕ) (rest : Option ℕ) (from to : Bool) → nat_le virt v ≡ from → nat_lt (v - virt) count ≡ to →
    option_or (if from then (if to then Some (block + (v - virt)) else None) else None) rest ≡ (if is_in_range virt count v then Some (block + (v - virt)) else rest)
run_first virt block count v rest true true is also =
    let named : is_in_range virt count v ≡ true = grind (arith, nat_tests) in
    rw named refl
run_first virt block count v rest true false is also =
    let named : is_in_range virt count v ≡ false = grind (arith, nat_tests) in
    rw named refl
run_first virt block count v rest false to is also =
    let named : is_in_range virt count v ≡ false = grind (arith, nat_tests) in
    rw named refl

-- what an entry of one run gives a virtual block, before something else does
pub run_gives : (holder : List ℕ) (virt block count leftover v : ℕ) (rest : Option ℕ) →
    option_or (block_in (record { holder = holder; virt = virt; blocks = range_with_len block count; leftover = leftover }) v) rest
    ≡ (if is_in_range virt count v then Some (block + (v - virt)) else rest)
run_gives holder virt block count leftover v rest =
    ap (λ (o : Option ℕ). option_or (if nat_le virt v then o else None) rest) (get_range block count (v - virt))
    ∙ run_first virt block count v rest (nat_le virt v) (nat_lt (v - virt) count) refl refl

-- a place of two lists, one after the other
get_front : {X : Type 0} (front back : List X) (place : ℕ) → place < length front → slice_get (front ++ back) place ≡ slice_get front place
get_front [] back place inside = absurd (omega (arith, inside))
get_front (x ∷ front) back zero inside = refl
get_front (x ∷ front) back (suc place) inside = get_front front back place (omega (arith, inside))

get_back : {X : Type 0} (front back : List X) (place : ℕ) → length front ≤ place → slice_get (front ++ back) place ≡ slice_get back (place - length front)
get_back [] back place past = ap (λ (n : ℕ). slice_get back n) (omega arith)
get_back (x ∷ front) back zero past = absurd (omega (arith, past))
get_back (x ∷ front) back (suc place) past = get_back front back place (omega (arith, past)) ∙ ap (λ (n : ℕ). slice_get back n) (omega arith)

-- blocks that go on where others end: the later give what they name, before the earlier do
on_at : (virt v : ℕ) (front back : List ℕ) (rest : Option ℕ) (from past : Bool) → nat_le virt v ≡ from → nat_le (virt + length front) v ≡ past →
    option_or (if from then slice_get (front ++ back) (v - virt) else None) rest
    ≡ option_or (if past then slice_get back (v - (virt + length front)) else None) (option_or (if from then slice_get front (v - virt) else None) rest)
on_at virt v front back rest true true is also =
    let after : length front ≤ v - virt = omega (arith, leb-true (virt + length front) v also) in
    rw (get_back front back (v - virt) after, slice_get_past front (v - virt) after)
    (ap (λ (n : ℕ). option_or (slice_get back n) rest) (omega arith))
on_at virt v front back rest true false is also =
    let inside : v - virt < length front = omega (arith, leb-true virt v is, leb-false (virt + length front) v also) in
    rw (get_front front back (v - virt) inside) refl
on_at virt v front back rest false true is also = absurd (omega (arith, leb-false virt v is, leb-true (virt + length front) v also))
on_at virt v front back rest false false is also = refl

pub longer_gives : (holder other : List ℕ) (virt v leftover last : ℕ) (front back : List ℕ) (rest : Option ℕ) →
    option_or (block_in (record { holder = holder; virt = virt; blocks = front ++ back; leftover = leftover }) v) rest
    ≡ option_or (block_in (record { holder = other; virt = virt + length front; blocks = back; leftover = last }) v)
    (option_or (block_in (record { holder = holder; virt = virt; blocks = front; leftover = leftover }) v) rest)
longer_gives holder other virt v leftover last front back rest =
    on_at virt v front back rest (nat_le virt v) (nat_le (virt + length front) v) refl refl

-- a table after a run is mapped, by what it maps each virtual block to
abbrev pub IsMapped : FileMap → FileMap → ℕ → ℕ → ℕ → Type 0
IsMapped old new virt block count = (v : ℕ) → block_at new v ≡ (if is_in_range virt count v then Some (block + (v - virt)) else block_at old v)

-- an entry of one run is taken in when its run is mapped
pub one_run : (old new : FileMap) (holder : List ℕ) (virt block count leftover : ℕ) → IsMapped old new virt block count → (entries : List Meaning) → HasMap old entries →
    HasMap new (entries ++ (record { holder = holder; virt = virt; blocks = range_with_len block count; leftover = leftover }) ∷ [])
one_run old new holder virt block count leftover mapped entries has = record {
  each = λ v. mapped v
      ∙ sym (run_gives holder virt block count leftover v (block_at old v))
      ∙ ap (λ (o : Option ℕ). option_or (block_in (record { holder = holder; virt = virt; blocks = range_with_len block count; leftover = leftover }) v) o) (has.each v)
      ∙ sym (map_of_push entries (record { holder = holder; virt = virt; blocks = range_with_len block count; leftover = leftover }) v);
}

-- an entry with one more run
pub more_run : (old new : FileMap) (holder : List ℕ) (virt leftover block count at : ℕ) (blocks : List ℕ) → at ≡ virt + length blocks → IsMapped old new at block count →
    (entries : List Meaning) → HasMap old (entries ++ (record { holder = holder; virt = virt; blocks = blocks; leftover = leftover }) ∷ []) →
    HasMap new (entries ++ (record { holder = holder; virt = virt; blocks = blocks ++ range_with_len block count; leftover = leftover }) ∷ [])
more_run old new holder virt leftover block count at blocks is mapped entries has = record {
  each = λ v. subst (λ (n : ℕ). block_at new v ≡ (if is_in_range n count v then Some (block + (v - n)) else block_at old v)) is (mapped v)
      ∙ sym (run_gives [] (virt + length blocks) block count 0 v (block_at old v))
      ∙ ap (λ (o : Option ℕ). option_or (block_in (record { holder = []; virt = virt + length blocks; blocks = range_with_len block count; leftover = 0 }) v) o) (has.each v ∙ map_of_push entries (record { holder = holder; virt = virt; blocks = blocks; leftover = leftover }) v)
      ∙ sym (longer_gives holder [] virt v leftover 0 blocks (range_with_len block count) (map_of entries v))
      ∙ sym (map_of_push entries (record { holder = holder; virt = virt; blocks = blocks ++ range_with_len block count; leftover = leftover }) v);
}

-- an entry of no run yet names nothing
pub no_run : (table : FileMap) (holder : List ℕ) (virt leftover : ℕ) (entries : List Meaning) → HasMap table entries →
    HasMap table (entries ++ (record { holder = holder; virt = virt; blocks = []; leftover = leftover }) ∷ [])
no_run table holder virt leftover entries has = record {
  each = λ v. has.each v ∙ nothing v (nat_le virt v)
      ∙ sym (map_of_push entries (record { holder = holder; virt = virt; blocks = []; leftover = leftover }) v);
}
  where
    nothing : (v : ℕ) (from : Bool) → map_of entries v ≡ option_or (if from then None else None) (map_of entries v)
    nothing v true = refl
    nothing v false = refl

-- a size grown to an entry's end
pub grown_by : (old new : FileMap) (shape : Shape) (entry : Meaning) → new.size ≡ max old.size (entry_end shape entry) → (before : ℕ) (entries : List Meaning) →
    HasSize old shape before entries → HasSize new shape before (entries ++ entry ∷ [])
grown_by old new shape entry grown before entries has = record {
  same = grown ∙ ap (λ (n : ℕ). max n (entry_end shape entry)) has.same ∙ sym (size_after_push shape before entries entry);
}

-- numbers that are equal are mapped alike
pub mapped_as : (old new : FileMap) (virt block count : ℕ) (a b n : ℕ) → virt ≡ a → block ≡ b → count ≡ n → IsMapped old new virt block count → IsMapped old new a b n
mapped_as old new virt block count a b n same_virt same_block same_count mapped =
    subst (λ (k : ℕ). IsMapped old new k b n) same_virt
    (subst (λ (k : ℕ). IsMapped old new virt k n) same_block
    (subst (λ (k : ℕ). IsMapped old new virt block k) same_count mapped))

-- a table with the same places has the same map
pub has_map_of : (old new : FileMap) (entries : List Meaning) → new.blocks ≡ old.blocks → HasMap old entries → HasMap new entries
has_map_of old new entries same has = record {
  each = λ v. ap (λ (l : List ℕ). held_by (get_or l v 0)) same ∙ has.each v;
}
