-- The blocks that a snapshot's entries name, where no virtual block is given twice: each is one of the map, and none is named twice.
use Rattle.std.proofs.Common.{◌≡◌, ◌≤◌, ◌+◌, ◌-◌, ◌++◌, ◌==◌, ◌||◌, ◌&&◌, not, nat_le, nat_lt, ℕ, zero, suc, Bool, true, false, if◌then◌else◌, List, [], ◌∷◌, length, map, refl, sym, ◌∙◌, ap, subst, arith, Option, Some, None, ◌⊎◌, inl, inr}
use Rattle.std.specs.List.{AllByRecursion, list_any, slice_get}
use Rattle.std.specs.Option.{option_or}
use Rattle.std.proofs.lemmas.Bool.{and_parts, eqb-true, not-true, le-leb, lt-ltb, leb-true}
use Rattle.std.proofs.lemmas.List.Folds.{list_any-append}
use Rattle.std.proofs.lemmas.Option.{slice_get_within}
use Rattle.log_entry.specs.Fields.{field}
use Rattle.log_entry.specs.declared.layouts.TheConstants.{DIRECT_BLOCK, DIRECT_COUNT}
use Rattle.log_image.specs.Entries.{Meaning, direct_meaning, names, all_names}
use Rattle.log_image.specs.Maps.{block_in, map_of}
use Rattle.log_image.specs.Chains.{all_different, is_listed}
use Rattle.log_image.proofs.NameLemmas.{different_join, range_different}
use Rattle.log_core.specs.Works.{word_or_zero}
use Rattle.log_core.specs.After.{snapshot_meanings}
use Rattle.log_core.specs.May.{names_virt, AreApart}
use Rattle.log_core.proofs.ChainWords.{in_one_part, front_different, back_different}
use Rattle.log_core.proofs.MappedBlocks.{at_in, given_name, mapped_name, one_of}
use Rattle.log_core.proofs.clauses.Apart.{either_of}
use Rattle.log_core.proofs.clauses.GrownNames.{never}

-- an entry that names its blocks alone, each once
pub record IsPlain (meaning : Meaning) : Type 0 where
  pub holder : meaning.holder ≡ []
  pub once : all_different meaning.blocks ≡ true

plain_words : (words : List ℕ) → AllByRecursion IsPlain (map direct_meaning words)
plain_words [] = tt
plain_words (word ∷ words) = (record { holder = refl; once = range_different (field DIRECT_BLOCK word) (field DIRECT_COUNT word + 1) }, plain_words words)

plain_append : (first second : List Meaning) → AllByRecursion IsPlain first → AllByRecursion IsPlain second → AllByRecursion IsPlain (first ++ second)
plain_append [] second all more = more
plain_append (meaning ∷ first) second all more = (all.0, plain_append first second all.1 more)

pub snapshot_plain : (content : ℕ → List ℕ) (blocks : List ℕ) → AllByRecursion IsPlain (snapshot_meanings content blocks)
snapshot_plain content [] = tt
snapshot_plain content (block ∷ blocks) = plain_append _ (snapshot_meanings content blocks) (plain_words _) (snapshot_plain content blocks)

plain_names : (meaning : Meaning) → IsPlain meaning → names meaning ≡ meaning.blocks
plain_names meaning plain = ap (λ (l : List ℕ). l ++ meaning.blocks) plain.holder

-- a block of a list stands at a place
pub place_of : (blocks : List ℕ) (block : ℕ) → is_listed blocks block ≡ true → (place : ℕ) × (slice_get blocks place ≡ Some block)
place_of [] block listed = cc
place_of (first ∷ blocks) block listed = go (first == block) refl listed (λ later. place_of blocks block later)
  where
    go : (same : Bool) → (first == block) ≡ same → (same || is_listed blocks block) ≡ true → (is_listed blocks block ≡ true → (place : ℕ) × (slice_get blocks place ≡ Some block)) →
        (place : ℕ) × (slice_get (first ∷ blocks) place ≡ Some block)
    go true e here rest = (0, ap (λ (b : ℕ). Some b) (eqb-true first block e))
    go false e here rest = (let r = rest here in (suc r.0, r.1))

-- and at one place alone, where the blocks are different
not_twice : (first : ℕ) (blocks : List ℕ) (block place : ℕ) → all_different (first ∷ blocks) ≡ true → Some first ≡ Some block → slice_get blocks place ≡ Some block → ⊥
not_twice first blocks block place different is got =
    (let same : first ≡ block = ap (λ (found : Option ℕ). word_or_zero found) is in
    let listed = at_in blocks place block got in
    let none = not-true (is_listed blocks first) (and_parts (not (is_listed blocks first)) (all_different blocks) different).0 in
    let both : true ≡ false = sym (subst (λ (k : ℕ). is_listed blocks k ≡ true) (sym same) listed) ∙ none in
    cc)

one_place : (blocks : List ℕ) (block first second : ℕ) → all_different blocks ≡ true → slice_get blocks first ≡ Some block → slice_get blocks second ≡ Some block → first ≡ second
one_place [] block first second different here there = cc
one_place (b ∷ blocks) block zero zero different here there = refl
one_place (b ∷ blocks) block zero (suc second) different here there = absurd (not_twice b blocks block second different here there)
one_place (b ∷ blocks) block (suc first) zero different here there = absurd (not_twice b blocks block first different there here)
one_place (b ∷ blocks) block (suc first) (suc second) different here there = ap suc (one_place blocks block first second (and_parts (not (is_listed blocks b)) (all_different blocks) different).1 here there)

-- where an entry gives a block, it names the virtual block
gives_touches : (meaning : Meaning) (virt block : ℕ) → block_in meaning virt ≡ Some block → names_virt meaning virt ≡ true
gives_touches meaning virt block found = go (nat_le meaning.virt virt) refl found
  where
    go : (low : Bool) → nat_le meaning.virt virt ≡ low → (if low then slice_get meaning.blocks (virt - meaning.virt) else None) ≡ Some block → (nat_le meaning.virt virt && nat_lt virt (meaning.virt + length meaning.blocks)) ≡ true
    go true e got = (let inside = slice_get_within meaning.blocks (virt - meaning.virt) block got in let above = leb-true meaning.virt virt e in
        rw (e, lt-ltb virt (meaning.virt + length meaning.blocks) (omega (arith, inside, above))) refl)
    go false e got = cc

-- the virtual block of a place
gives_place : (meaning : Meaning) (place block : ℕ) → slice_get meaning.blocks place ≡ Some block → block_in meaning (meaning.virt + place) ≡ Some block
gives_place meaning place block got = ap (λ (b : Bool). if b then slice_get meaning.blocks (meaning.virt + place - meaning.virt) else None) (le-leb meaning.virt (meaning.virt + place) (omega arith))
    ∙ (ap (λ (k : ℕ). slice_get meaning.blocks k) (let same : meaning.virt + place - meaning.virt ≡ place = omega arith in same) ∙ got)

place_given : (meaning : Meaning) (virt block : ℕ) → block_in meaning virt ≡ Some block → (meaning.virt ≤ virt) × (slice_get meaning.blocks (virt - meaning.virt) ≡ Some block)
place_given meaning virt block found = go (nat_le meaning.virt virt) refl found
  where
    go : (low : Bool) → nat_le meaning.virt virt ≡ low → (if low then slice_get meaning.blocks (virt - meaning.virt) else None) ≡ Some block → (meaning.virt ≤ virt) × (slice_get meaning.blocks (virt - meaning.virt) ≡ Some block)
    go true e got = (leb-true meaning.virt virt e, got)
    go false e got = cc

-- a virtual block that no entry names is not mapped
unnamed_virt : (entries : List Meaning) (virt : ℕ) → list_any (λ (other : Meaning). names_virt other virt) entries ≡ false → map_of entries virt ≡ None
unnamed_virt [] virt none = refl
unnamed_virt (entry ∷ entries) virt none = go (names_virt entry virt) refl none (λ rest. unnamed_virt entries virt rest)
  where
    here : (found : Option ℕ) → block_in entry virt ≡ found → names_virt entry virt ≡ false → found ≡ None
    here None is apart = refl
    here (Some block) is apart = (let touches = gives_touches entry virt block is in let both : true ≡ false = sym touches ∙ apart in cc)

    go : (named : Bool) → names_virt entry virt ≡ named → (named || list_any (λ (other : Meaning). names_virt other virt) entries) ≡ false →
        (list_any (λ (other : Meaning). names_virt other virt) entries ≡ false → map_of entries virt ≡ None) → option_or (map_of entries virt) (block_in entry virt) ≡ None
    go true e none rest = cc
    go false e none rest = ap (λ (found : Option ℕ). option_or found (block_in entry virt)) (rest none) ∙ here (block_in entry virt) refl e

-- each block that such entries name is one of their map
pub named_mapped : (entries : List Meaning) (block : ℕ) → AllByRecursion IsPlain entries → AreApart entries → is_listed (all_names entries) block ≡ true → (virt : ℕ) × (map_of entries virt ≡ Some block)
named_mapped [] block plain apart listed = cc
named_mapped (entry ∷ entries) block plain apart listed = either_of (is_listed (names entry) block) (is_listed (all_names entries) block)
    (sym (list_any-append (λ (other : ℕ). other == block) (names entry) (all_names entries)) ∙ listed)
    (λ here. (let at = place_of entry.blocks block (subst (λ (l : List ℕ). is_listed l block ≡ true) (plain_names entry plain.0) here) in
    let gives = gives_place entry at.0 block at.1 in (
      entry.virt + at.0,
      ap (λ (found : Option ℕ). option_or found (block_in entry (entry.virt + at.0)))
          (unnamed_virt entries (entry.virt + at.0) (apart.0 (entry.virt + at.0) (gives_touches entry (entry.virt + at.0) block gives))) ∙ gives,
    )))
    (λ later. (let r = named_mapped entries block plain.1 apart.1 later in (r.0, ap (λ (found : Option ℕ). option_or found (block_in entry r.0)) r.1)))

-- a block that the entries of a list of different names map is mapped at one virtual block
pub map_once : (entries : List Meaning) (first second block : ℕ) → all_different (all_names entries) ≡ true → map_of entries first ≡ Some block → map_of entries second ≡ Some block → first ≡ second
map_once [] first second block different here there = cc
map_once (entry ∷ entries) first second block different here there = by (one_of (map_of entries first) (block_in entry first) block here) (one_of (map_of entries second) (block_in entry second) block there)
    (λ one two. map_once entries first second block (back_different (names entry) (all_names entries) different) one two)
  where
    blocks_different : all_different entry.blocks ≡ true
    blocks_different = back_different entry.holder entry.blocks (front_different (names entry) (all_names entries) different)

    by : (map_of entries first ≡ Some block) ⊎ (block_in entry first ≡ Some block) → (map_of entries second ≡ Some block) ⊎ (block_in entry second ≡ Some block) →
        (map_of entries first ≡ Some block → map_of entries second ≡ Some block → first ≡ second) → first ≡ second
    by (inl one) (inl two) rest = rest one two
    by (inl one) (inr two) rest = absurd (in_one_part (names entry) (all_names entries) block different (given_name entry second block two) (mapped_name entries first block one))
    by (inr one) (inl two) rest = absurd (in_one_part (names entry) (all_names entries) block different (given_name entry first block one) (mapped_name entries second block two))
    by (inr one) (inr two) rest = (let at = place_given entry first block one in
        let other = place_given entry second block two in
        let same = one_place entry.blocks block (first - entry.virt) (second - entry.virt) blocks_different at.1 other.1 in
        let low = at.0 in
        let high = other.0 in
        omega (arith, same, low, high))

-- where the map of such entries gives no block twice, they name none twice
pub names_different : (entries : List Meaning) → AllByRecursion IsPlain entries → AreApart entries → ((first second block : ℕ) → map_of entries first ≡ Some block → map_of entries second ≡ Some block → first ≡ second) →
    all_different (all_names entries) ≡ true
names_different [] plain apart once = refl
names_different (entry ∷ entries) plain apart once =
    different_join (names entry) (all_names entries)
    (ap (λ (l : List ℕ). all_different l) (plain_names entry plain.0) ∙ plain.0.once)
    (names_different entries plain.1 apart.1 (λ first second block one two. once first second block (ap (λ (found : Option ℕ). option_or found (block_in entry first)) one) (ap (λ (found : Option ℕ). option_or found (block_in entry second)) two)))
    (λ block here. never (is_listed (all_names entries) block) (λ there.
    (let at = place_of entry.blocks block (subst (λ (l : List ℕ). is_listed l block ≡ true) (plain_names entry plain.0) here) in
    let gives = gives_place entry at.0 block at.1 in
    let none = unnamed_virt entries (entry.virt + at.0) (apart.0 (entry.virt + at.0) (gives_touches entry (entry.virt + at.0) block gives)) in
    let mine : map_of (entry ∷ entries) (entry.virt + at.0) ≡ Some block = ap (λ (found : Option ℕ). option_or found (block_in entry (entry.virt + at.0))) none ∙ gives in
    let later = named_mapped entries block plain.1 apart.1 there in
    let same = once (entry.virt + at.0) later.0 block mine (ap (λ (found : Option ℕ). option_or found (block_in entry later.0)) later.1) in
    let both : None ≡ Some block = sym none ∙ (ap (λ (v : ℕ). map_of entries v) same ∙ later.1) in
    cc)))
