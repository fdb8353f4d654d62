-- A run that is mapped is an entry that is taken in; and partly touches m blocks that are dropped are those that an entry touches.
use Rattle.std.proofs.Common.{◌≡◌, ◌≤◌, ◌+◌, ◌-◌, ◌*◌, ◌/◌, ◌%◌, ◌^◌, slice_index, slice_set, bit_or, nat_le, ℕ, zero, suc, Bool, true, false, List, [], ◌∷◌, ◌++◌, length, take, drop, append-nil, Option, None, if◌then◌else◌, refl, sym, ap, ◌∙◌, arith}
use Rattle.std.specs.List.{range_with_len, slice_get, remove_range}
use Rattle.std.proofs.Math.ListN.{drop_of_length-le}
use Rattle.std.proofs.lemmas.List.{take_all, length-take, length-drop, take-append-drop}
use Rattle.log_entry.specs.Fields.{field}
use Rattle.log_entry.specs.declared.layouts.TheConstants.{DIRECT_VIRT, DIRECT_BLOCK, DIRECT_COUNT, DIRECT_LEFTOVER}
use Rattle.log_entry.specs.declared.shapes.Geometry.{Geometry}
use Rattle.log_image.specs.Image.{shape_by}
use Rattle.log_image.specs.Format.{fits}
use Rattle.log_image.specs.Entries.{Meaning, direct_meaning}
use Rattle.pmem_words.specs.Maps.{with_run, with_run_at}
use Rattle.pmem_words.specs.Noted.{with_noted, noted_more}
use Rattle.pmem_words.specs.Owned.{without_block}
use Rattle.pmem_words.specs.Seats.{Seat, Calling, q_of, image_blocks}
use Rattle.log_core.specs.Works.{with_entry, with_entry_from, words_of, touches, without_bases}
use Rattle.chain_reader.proofs.FitsLemmas.{Fitting, fitting, row_inside}
use Rattle.chain_reader.proofs.MapLemmas.{run_gives, longer_gives}
use Rattle.log_blocks.specs.Taking.{dropped, dropped_from, HasFewBases}

abbrev pub row : List ℕ → ℕ → List ℕ → ℕ → Meaning
row holder virt blocks leftover = record { holder = holder; virt = virt; blocks = blocks; leftover = leftover }

run_from : (k : ℕ) (holder : List ℕ) (virt block count leftover : ℕ) (map : List (Option ℕ)) → with_run_at k virt block count map ≡ with_entry_from k (row holder virt (range_with_len block count) leftover) map
unfolding with_run_at
run_from k holder virt block count leftover [] = refl
run_from k holder virt block count leftover (held ∷ map) = λ i. sym (run_gives holder virt block count leftover k held) i ∷ run_from (k + 1) holder virt block count leftover map i

-- a table with a run is one with the entry of that run
pub run_is : (holder : List ℕ) (virt block count leftover : ℕ) (map : List (Option ℕ)) → with_run virt block count map ≡ with_entry (row holder virt (range_with_len block count) leftover) map
run_is holder virt block count leftover map = run_from 0 holder virt block count leftover map

longer_from : (k : ℕ) (holder : List ℕ) (virt leftover : ℕ) (front back : List ℕ) (map : List (Option ℕ)) →
    with_entry_from k (row [] (virt + length front) back leftover) (with_entry_from k (row holder virt front leftover) map) ≡ with_entry_from k (row holder virt (front ++ back) leftover) map
longer_from k holder virt leftover front back [] = refl
longer_from k holder virt leftover front back (held ∷ map) = λ i. sym (longer_gives holder [] virt k leftover leftover front back held) i ∷ longer_from (k + 1) holder virt leftover front back map i

none_from : (k : ℕ) (holder : List ℕ) (virt leftover : ℕ) (map : List (Option ℕ)) → with_entry_from k (row holder virt [] leftover) map ≡ map
none_from k holder virt leftover [] = refl
none_from k holder virt leftover (held ∷ map) = λ i. same (nat_le virt k) i ∷ none_from (k + 1) holder virt leftover map i
  where
    same : (b : Bool) → Rattle.std.specs.Option.option_or (if b then slice_get [] (k - virt) else None) held ≡ held
    same true = refl
    same false = refl

-- an entry of no block changes nothing, and one with a run more is that run on top
pub none_is : (holder : List ℕ) (virt leftover : ℕ) (map : List (Option ℕ)) → with_entry (row holder virt [] leftover) map ≡ map
none_is holder virt leftover map = none_from 0 holder virt leftover map

pub longer_is : (holder : List ℕ) (virt leftover at block count : ℕ) (front : List ℕ) (map : List (Option ℕ)) → at ≡ virt + length front →
    with_run at block count (with_entry (row holder virt front leftover) map) ≡ with_entry (row holder virt (front ++ range_with_len block count) leftover) map
longer_is holder virt leftover at block count front map is =
    ap (λ (v : ℕ). with_run v block count (with_entry (row holder virt front leftover) map)) is
    ∙ (run_is [] (virt + length front) block count leftover (with_entry (row holder virt front leftover) map)
    ∙ longer_from 0 holder virt leftover front (range_with_len block count) map)

-- the run of a direct entry, by the numbers that are read of its word
pub direct_is : (word virt block count : ℕ) (map : List (Option ℕ)) → virt ≡ field DIRECT_VIRT word → block ≡ field DIRECT_BLOCK word → count ≡ field DIRECT_COUNT word →
    with_run virt block (count + 1) map ≡ with_entry (direct_meaning word) map
direct_is word virt block count map same_virt same_block same_count =
    rw (same_virt, same_block, same_count) (run_is [] (field DIRECT_VIRT word) (field DIRECT_BLOCK word) (field DIRECT_COUNT word + 1) (field DIRECT_LEFTOVER word) map)

-- where at most two blocks are touched partly, dropping the second one and then the first, where an entry touches them, leaves the others
module _ (m : Meaning) (q : ℕ) where
  abbrev second : Calling → Calling
  second c = dropped_from m.virt (length m.blocks) q 1 (slice_get c.bases 1) c

  abbrev first : Calling → Calling
  first c = dropped_from m.virt (length m.blocks) q 0 (slice_get c.bases 0) c

  none : (words : List ℕ) → length words ≤ 0 → words ≡ []
  none [] few = refl
  none (word ∷ words) few = absurd (omega (arith, few))

  -- the words of one block, and of none after it
  one : (words : List ℕ) → length words ≤ q → take q words ++ [] ≡ words
  one words few = append-nil (take q words) ∙ take_all q words few

  past : (words : List ℕ) → length words ≤ q → drop q words ≡ []
  past words few = drop_of_length-le words few

  -- what is left without the words of the first block, or of the second
  front_out : (words : List ℕ) → without_block q 0 words ≡ drop q words
  front_out words = ap (λ (n : ℕ). take n words ++ drop (n + q) words) (let is : 0 * q ≡ 0 = omega arith in is) ∙ ap (λ (n : ℕ). drop n words) (let is : 0 + q ≡ q = omega arith in is)

  back_out : (words : List ℕ) → length words ≤ 2 * q → without_block q 1 words ≡ take q words ++ []
  back_out words few = ap (λ (n : ℕ). take n words ++ drop (n + q) words) (let is : 1 * q ≡ q = omega arith in is)
      ∙ ap (λ (l : List ℕ). take q words ++ l) (drop_of_length-le words (omega (arith, few)))

  none_out : (words : List ℕ) → length words ≤ 2 * q → without_block q 0 (without_block q 1 words) ≡ []
  none_out words few = ap (λ (l : List ℕ). without_block q 0 l) (back_out words few ∙ append-nil (take q words)) ∙ (front_out (take q words) ∙ past (take q words) (let long = length-take q words in omega (arith, long)))

  short_rest : (words : List ℕ) → length words ≤ 2 * q → length (drop q words) ≤ q
  short_rest words few = (let long = length-drop q words in omega (arith, long, few))

  module _ (c : Calling) where
    abbrev Both : List ℕ → List ℕ → Type 0
    Both bases words = first (second (record c { bases = bases; base_words = words })) ≡ without_bases q m (record c { bases = bases; base_words = words })

    one_by : (a : ℕ) (words : List ℕ) (ta : Bool) → touches m a ≡ ta → length words ≤ q → Both (a ∷ []) words
    one_by a words true is few = rw is (ap (λ (l : List ℕ). record c { bases = []; base_words = l }) (front_out words ∙ past words few))
    one_by a words false is few = rw is (ap (λ (l : List ℕ). record c { bases = a ∷ []; base_words = l }) (sym (one words few)))

    two_by : (a b : ℕ) (words : List ℕ) (ta tb : Bool) → touches m a ≡ ta → touches m b ≡ tb → length words ≤ 2 * q → Both (a ∷ b ∷ []) words
    two_by a b words true true is also few = rw (also, is) (ap (λ (l : List ℕ). record c { bases = []; base_words = l }) (none_out words few))
    two_by a b words true false is also few = rw (also, is) (ap (λ (l : List ℕ). record c { bases = b ∷ []; base_words = l }) (front_out words ∙ sym (one (drop q words) (short_rest words few))))
    two_by a b words false true is also few = rw (also, is) (ap (λ (l : List ℕ). record c { bases = a ∷ []; base_words = l }) (back_out words few))
    two_by a b words false false is also few = rw (also, is) (ap (λ (l : List ℕ). record c { bases = a ∷ b ∷ []; base_words = l })
        (sym (ap (λ (l : List ℕ). take q words ++ l) (one (drop q words) (short_rest words few)) ∙ take-append-drop q words)))

    pub both : (bases words : List ℕ) → length bases ≤ 2 → length words ≤ length bases * q → Both bases words
    both [] words few most = ap (λ (l : List ℕ). record c { bases = []; base_words = l }) (none words (omega (arith, most)))
    both (a ∷ []) words few most = one_by a words (touches m a) refl (omega (arith, most))
    both (a ∷ b ∷ []) words few most = two_by a b words (touches m a) (touches m b) refl refl (omega (arith, most))
    both (a ∷ b ∷ d ∷ more) words few most = absurd (omega (arith, few))

-- what is done with an entry that is in the table
pub entry_passed : (m : Meaning) (s : Seat) → HasFewBases (words_of s) s.calling → (t : Seat) → t ≡ dropped m.virt (length m.blocks) 0 (dropped m.virt (length m.blocks) 1 s) → t ≡ record s { calling = without_bases (words_of s) m s.calling }
entry_passed m s few t is = is ∙ ap (λ (c : Calling). record s { calling = c }) (both m (q_of s.geometry) s.calling s.calling.bases s.calling.base_words few.few few.words)

-- more blocks are noted one list after the other
with_noted_more : (front words back : List ℕ) → with_noted words (front ++ back) ≡ with_noted (with_noted words front) back
with_noted_more [] words back = refl
with_noted_more (block ∷ front) words back = with_noted_more front (slice_set words (block / 64) (bit_or (slice_index words (block / 64)) (2 ^ (block % 64)))) back

pub noted_on : (noting : Bool) (words front back : List ℕ) → noted_more noting (noted_more noting words front) back ≡ noted_more noting words (front ++ back)
noted_on true words front back = sym (with_noted_more front words back)
noted_on false words front back = refl

row_more : (from count : ℕ) → range_with_len from (count + 1) ≡ range_with_len from count ++ (from + count) ∷ []
row_more from count = ap (λ (n : ℕ). range_with_len from n) (let is : count + 1 ≡ suc count = omega arith in is) ∙ by from count
  where
    by : (from count : ℕ) → range_with_len from (suc count) ≡ range_with_len from count ++ (from + count) ∷ []
    by from zero = ap (λ (n : ℕ). n ∷ []) (let is : from ≡ from + 0 = omega arith in is)
    by from (suc count) = ap (λ (l : List ℕ). from ∷ l) (by (from + 1) count ∙ ap (λ (n : ℕ). range_with_len (from + 1) count ++ n ∷ []) (let is : from + 1 + count ≡ from + suc count = omega arith in is))

-- one block of a run more is noted
pub run_noted : (noting : Bool) (words : List ℕ) (from block : ℕ) → from ≤ block →
    noted_more noting (noted_more noting words (range_with_len from (block - from))) (block ∷ []) ≡ noted_more noting words (range_with_len from (block + 1 - from))
run_noted noting words from block low = noted_on noting words (range_with_len from (block - from)) (block ∷ [])
    ∙ ap (λ (l : List ℕ). noted_more noting words l)
    (ap (λ (n : ℕ). range_with_len from (block - from) ++ n ∷ []) (let is : block ≡ from + (block - from) = omega (arith, low) in is)
    ∙ (sym (row_more from (block - from)) ∙ ap (λ (n : ℕ). range_with_len from n) (let is : block - from + 1 ≡ block + 1 - from = omega (arith, low) in is)))

-- the run of a direct entry is of the image
pub direct_inside : (g : Geometry) (word : ℕ) → fits (shape_by g) 256 (direct_meaning word) ≡ true → field DIRECT_BLOCK word + (field DIRECT_COUNT word + 1) ≤ image_blocks g
direct_inside g word good = (let is : Fitting (shape_by g) 256 (direct_meaning word) = fitting (shape_by g) 256 (direct_meaning word) good in
    let inside : (1 ≤ field DIRECT_BLOCK word) × (field DIRECT_BLOCK word + (field DIRECT_COUNT word + 1) ≤ g.data_blocks + 1) =
    row_inside (shape_by g) (field DIRECT_BLOCK word) (field DIRECT_COUNT word + 1) is.in_data (omega arith) in
    let most = inside.1 in omega (arith, most))
