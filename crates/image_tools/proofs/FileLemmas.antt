-- The bytes of a file, laid block after block.
use Rattle.std.proofs.Common.{◌≡◌, ◌<◌, ◌≤◌, ◌+◌, ◌-◌, ◌*◌, ◌/◌, ◌%◌, ◌==◌, ◌||◌, ◌⊎◌, inl, inr, min, ℕ, zero, suc, true, List, [], ◌∷◌, ◌++◌, length, take, get_or, Option, Some, None, IfSome, refl, sym, ap, ◌∙◌, subst, length-append, take-take, arith}
use Rattle.std.specs.Int.{div_ceil}
use Rattle.std.proofs.lemmas.Grind.{div_ceil_times}
use Rattle.log_entry.specs.declared.shapes.Geometry.{Geometry}
use Rattle.std.proofs.lemmas.Bool.{cases_lt}
use Rattle.std.proofs.lemmas.List.{ext_get_or, get_or-take, get_or-append-add, length-take-le, take_all, append-nil}
use Rattle.std.proofs.Math.Seq.{take-append-add}
use Rattle.io_ends.specs.Giving.{Gives, GivesPrefix}
use Rattle.io_ends.proofs.GivingLemmas.{gives-twice}
use Rattle.std.proofs.Math.ListN.{get_or-append}
use Rattle.std.proofs.Math.Nat.{mod-lt, div-add-mod, mul-le-mul_right}
use Rattle.block_table.specs.FileMap.{FileMap, block_at}
use Rattle.log_image.specs.Image.{Shape, shape_by}
use Rattle.log_image.specs.Header.{shape_of}
use Rattle.log_image.specs.Entries.{Meaning}
use Rattle.log_image.specs.Maps.{map_of}
use Rattle.log_image.specs.Positions.{entries_of}
use Rattle.log_image.specs.Stands.{HoldsFile, StandsBy}
use Rattle.log_entry.specs.Geometry.{HasShape}
use Rattle.chain_reader.specs.Tables.{HasMap}
use Rattle.chain_reader.specs.Reads.{IsReadOf}
use Rattle.chain_reader.specs.declared.reading.ChainRead.{ChainRead}
use Rattle.chain_reader.proofs.WalkLemmas.{same_shape}
use Rattle.image_tools.proofs.BitLemmas.{zeros_at}
use Rattle.image_tools.proofs.StartLemmas.{IsRead}
use Rattle.image_tools.specs.Files.{held_bytes}

-- the first virtual blocks are laid, up to the file's size
pub record AreLaid (words : List ℕ) (shape : Shape) (table : FileMap) (size virt : ℕ) (bytes : List ℕ) : Type 0 where
  pub long : length bytes ≡ min (virt * shape.block_bytes) size
  pub each : (before at : ℕ) → at < shape.block_bytes → before * shape.block_bytes + at < length bytes → get_or bytes (before * shape.block_bytes + at) 0 ≡ get_or (held_bytes words shape (block_at table before)) at 0

pub none_laid : (words : List ℕ) (shape : Shape) (table : FileMap) (size : ℕ) → AreLaid words shape table size 0 []
none_laid words shape table size = record {
  long = omega arith;
  each = λ before at inside below. absurd (omega (arith, below));
}

-- a place of a virtual block before another
earlier : (bytes before virt at : ℕ) → before < virt → at < bytes → before * bytes + at < virt * bytes
earlier bytes before virt at first inside =
    let most : (before + 1) * bytes ≤ virt * bytes = mul-le-mul_right bytes (omega (arith, first)) in
    omega (arith, inside, most)

-- one virtual block more is laid
pub one_laid : (words : List ℕ) (shape : Shape) (table : FileMap) (size virt count : ℕ) (bytes new : List ℕ) → new ≡ bytes ++ take count (held_bytes words shape (block_at table virt)) → length new ≡ length bytes + count →
    virt * shape.block_bytes < size → count ≡ min shape.block_bytes (size - length bytes) → AreLaid words shape table size virt bytes → AreLaid words shape table size (virt + 1) new
one_laid words shape table size virt count bytes new is longer more same are = record {
  long = grown shape.block_bytes (length bytes) (length new) are.long longer same;
  each = λ before at inside below. at_block before at inside below (cases_lt before virt);
}
  where
    before_it : length bytes ≡ virt * shape.block_bytes
    before_it = omega (arith, are.long, more)

    grown : (block old now : ℕ) → old ≡ min (virt * block) size → now ≡ old + count → count ≡ min block (size - old) → now ≡ min ((virt + 1) * block) size
    grown block old now long longer same = omega (arith, long, longer, same)

    same_block : (before at block : ℕ) → virt ≤ before → at < block → before * block + at < virt * block + block → before ≡ virt
    same_block before at block last inside below = go (cases_lt virt before)
      where
        go : (virt < before) ⊎ (before ≤ virt) → before ≡ virt
        go (inl past) =
            let most : (virt + 1) * block ≤ before * block = mul-le-mul_right block (omega (arith, past)) in
            absurd (omega (arith, most, below))
        go (inr other) = omega (arith, other, last)

    at_block : (before at : ℕ) → at < shape.block_bytes → before * shape.block_bytes + at < length new → (before < virt) ⊎ (virt ≤ before) →
        get_or new (before * shape.block_bytes + at) 0 ≡ get_or (held_bytes words shape (block_at table before)) at 0
    at_block before at inside below (inl first) =
        let there : before * shape.block_bytes + at < length bytes = omega (arith, before_it, earlier shape.block_bytes before virt at first inside) in
        ap (λ (l : List ℕ). get_or l (before * shape.block_bytes + at) 0) is
        ∙ get_or-append bytes (take count (held_bytes words shape (block_at table virt))) 0 (before * shape.block_bytes + at) there
        ∙ are.each before at inside there
    at_block before at inside below (inr last) =
        let here : before ≡ virt = same_block before at shape.block_bytes last inside (omega (arith, below, longer, before_it, same)) in
        let place : before * shape.block_bytes + at ≡ length bytes + at = ap (λ (n : ℕ). n * shape.block_bytes + at) here ∙ omega (arith, before_it) in
        let few : at < count = omega (arith, place, below, longer) in
        ap (λ (n : ℕ). get_or new n 0) place
        ∙ ap (λ (l : List ℕ). get_or l (length bytes + at) 0) is
        ∙ get_or-append-add bytes (take count (held_bytes words shape (block_at table virt))) at 0
        ∙ get_or-take count (held_bytes words shape (block_at table virt)) at 0 few
        ∙ ap (λ (n : ℕ). get_or (held_bytes words shape (block_at table n)) at 0) (sym here)

-- the same of the first bytes of the block that was looked up
pub next_laid : (words : List ℕ) (shape : Shape) (table : FileMap) (size virt count : ℕ) (bytes : List ℕ) (found : Option ℕ) → found ≡ block_at table virt → length (held_bytes words shape found) ≡ shape.block_bytes →
    virt * shape.block_bytes < size → count ≡ min shape.block_bytes (size - virt * shape.block_bytes) → AreLaid words shape table size virt bytes → AreLaid words shape table size (virt + 1) (bytes ++ take count (held_bytes words shape found))
next_laid words shape table size virt count bytes found is long more same are =
    let here : length bytes ≡ virt * shape.block_bytes = omega (arith, are.long, more) in
    let few : length (take count (held_bytes words shape found)) ≡ count = length-take-le count (held_bytes words shape found) (omega (arith, long, same)) in
    one_laid words shape table size virt count bytes (bytes ++ take count (held_bytes words shape found)) (ap (λ (o : Option ℕ). bytes ++ take count (held_bytes words shape o)) is)
    (omega (arith, few, length-append bytes (take count (held_bytes words shape found)))) more (same ∙ ap (λ (n : ℕ). min shape.block_bytes (size - n)) (sym here)) are

-- a virtual block holds the file's bytes
held_at : (words : List ℕ) (shape : Shape) (entries : List Meaning) (file : List ℕ) → HoldsFile words shape entries file → (virt at : ℕ) → at < shape.block_bytes → (found : Option ℕ) → map_of entries virt ≡ found →
    get_or (held_bytes words shape found) at 0 ≡ get_or file (virt * shape.block_bytes + at) 0
held_at words shape entries file holds virt at inside None is = zeros_at shape.block_bytes at ∙ sym (holds.unmapped virt is at inside)
held_at words shape entries file holds virt at inside (Some block) is = holds.mapped virt block is at inside

-- what is laid is the first bytes of the file
pub first_laid : (words : List ℕ) (shape : Shape) (table : FileMap) (size virt : ℕ) (bytes : List ℕ) (entries : List Meaning) (file : List ℕ) → AreLaid words shape table size virt bytes → 0 < shape.block_bytes →
    size ≡ length file → HasMap table entries → HoldsFile words shape entries file → bytes ≡ take (length bytes) file
first_laid words shape table size virt bytes entries file are some same has holds =
    ext_get_or 0 bytes (take (length bytes) file) (sym (length-take-le (length bytes) file (omega (arith, are.long, same)))) (λ place inside.
    let parts : place / shape.block_bytes * shape.block_bytes + place % shape.block_bytes ≡ place = omega (arith, div-add-mod place shape.block_bytes) in
    subst (λ (n : ℕ). get_or bytes n 0 ≡ get_or file n 0) parts
    (are.each (place / shape.block_bytes) (place % shape.block_bytes) (mod-lt place some) (omega (arith, parts, inside))
    ∙ ap (λ (o : Option ℕ). get_or (held_bytes words shape o) (place % shape.block_bytes) 0) (has.each (place / shape.block_bytes))
    ∙ held_at words shape entries file holds (place / shape.block_bytes) (place % shape.block_bytes) (mod-lt place some) (map_of entries (place / shape.block_bytes)) refl)
    ∙ sym (get_or-take (length bytes) file place 0 inside))

-- how many virtual blocks a file of a size has
pub before_end : (size bytes blocks virt : ℕ) → 0 < bytes → blocks ≡ div_ceil size bytes → virt < blocks → virt * bytes < size
before_end size bytes blocks virt some is inside =
    let most : (virt + 1) * bytes ≤ blocks * bytes = mul-le-mul_right bytes (omega (arith, inside)) in
    let end : blocks * bytes < size + bytes = subst (λ (n : ℕ). n * bytes < size + bytes) (sym is) (div_ceil_times size bytes some).1 in
    omega (arith, most, end)

pub at_end : (size bytes blocks virt : ℕ) → 0 < bytes → blocks ≡ div_ceil size bytes → blocks ≤ virt → size ≤ virt * bytes
at_end size bytes blocks virt some is past =
    let most : blocks * bytes ≤ virt * bytes = mul-le-mul_right bytes past in
    let end : size ≤ blocks * bytes = subst (λ (n : ℕ). size ≤ n * bytes) (sym is) (div_ceil_times size bytes some).0 in
    omega (arith, most, end)

pub few_virtual : (size bytes virt : ℕ) → virt * bytes < size → size ≤ 65536 * bytes → virt < 65536
few_virtual size bytes virt before within = go (cases_lt virt 65536)
  where
    go : (virt < 65536) ⊎ (65536 ≤ virt) → virt < 65536
    go (inl is) = is
    go (inr past) =
        let most : 65536 * bytes ≤ virt * bytes = mul-le-mul_right bytes past in
        absurd (omega (arith, most, before, within))

-- a block of an allowed size has some bytes
pub some_in : (geometry : Geometry) → 0 < geometry.block_bytes
some_in geometry = of_bytes geometry.block_bytes geometry.block_allowed
  where
    of_bytes : (bytes : ℕ) → (bytes == 64 || bytes == 512 || bytes == 4096) ≡ true → 0 < bytes
    of_bytes zero allowed = cc
    of_bytes (suc bytes) allowed = omega arith

-- what is asked of a block where there is one
pub if_some : (found : Option ℕ) (most : ℕ) → ((number : ℕ) → found ≡ Some number → number < most) → IfSome found (λ number. number < most)
if_some None most all = tt
if_some (Some number) most all = all number refl

-- the bytes laid are the first of the file
pub file_begun : (words : List ℕ) (geometry : Geometry) (read : ChainRead) (chain file : List ℕ) (position size virt : ℕ) (bytes : List ℕ) → HasShape geometry (shape_of words).data_blocks (shape_of words).log_blocks (shape_of words).block_bytes →
    StandsBy words chain file position → IsRead words read → size ≡ read.table.size → AreLaid words (shape_by geometry) read.table size virt bytes → (bytes ≡ take (length bytes) file) × (size ≡ length file)
file_begun words geometry read chain file position size virt bytes has by is same are =
    let one : IsReadOf words (shape_of words) chain read = is.each chain by.stands.is_chain in
    let long : size ≡ length file = same ∙ one.same_size ∙ by.stands.ends_with in (
      first_laid words (shape_by geometry) read.table size virt bytes (entries_of words (shape_of words) chain) file are (some_in geometry) long one.same_map
          (subst (λ (s : Shape). HoldsFile words s (entries_of words (shape_of words) chain) file) (sym (same_shape geometry (shape_of words) has)) by.stands.holds),
      long,
    )

-- and all of it at the end
pub file_read : (words : List ℕ) (geometry : Geometry) (read : ChainRead) (chain file : List ℕ) (position size virt : ℕ) (bytes : List ℕ) → HasShape geometry (shape_of words).data_blocks (shape_of words).log_blocks (shape_of words).block_bytes →
    StandsBy words chain file position → IsRead words read → size ≡ read.table.size → AreLaid words (shape_by geometry) read.table size virt bytes → size ≤ virt * geometry.block_bytes → bytes ≡ file
file_read words geometry read chain file position size virt bytes has by is same are whole =
    let begun = file_begun words geometry read chain file position size virt bytes has by is same are in
    begun.0 ∙ take_all (length bytes) file (omega (arith, are.long, whole, begun.1))

-- nothing given is a first part of any bytes
pub gives_none : (before : Option (List ℕ)) (bytes : List ℕ) → GivesPrefix before before bytes
gives_none None bytes = (0, omega arith, refl)
gives_none (Some written) bytes = (0, omega arith, ap Some (sym (append-nil written)))

-- what was given, and then a first part of the next bytes, is a first part of all
pub gives_part : (before middle after : Option (List ℕ)) (laid piece all : List ℕ) → Gives before middle laid → GivesPrefix middle after piece → laid ++ piece ≡ take (length (laid ++ piece)) all → length (laid ++ piece) ≤ length all → GivesPrefix before after all
gives_part before middle after laid piece all one part same fits =
    let count : ℕ = part.0 in
    let long : length (laid ++ piece) ≡ length laid + length piece = length-append laid piece in
    let is : laid ++ take count piece ≡ take (length laid + count) all =
    sym (take-append-add laid piece count) ∙ ap (λ (l : List ℕ). take (length laid + count) l) same ∙ take-take (length laid + count) (length (laid ++ piece)) all (omega (arith, long, part.1)) in (
      length laid + count,
      omega (arith, long, part.1, fits),
      subst (λ (l : List ℕ). Gives before after l) is (gives-twice before middle after laid (take count piece) one part.2),
    )

-- what was given to a sink that had nothing is what it has
pub given_all : (before now bytes : List ℕ) → before ≡ [] → Gives (Some before) (Some now) bytes → now ≡ bytes
given_all [] now bytes none gives = cc
given_all (first ∷ before) now bytes none gives = cc
