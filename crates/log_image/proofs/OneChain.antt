-- The words of an image have one chain, and stand for one file at one position.
use Rattle.std.proofs.Common.{◌≡◌, ℕ, zero, suc, ◌+◌, ◌*◌, ◌/◌, ◌%◌, ◌<◌, List, [], ◌∷◌, length, get_or, Option, Some, None, refl, sym, ap, ◌∙◌, subst, arith}
use Rattle.std.proofs.lemmas.List.{ext_get_or}
use Rattle.std.proofs.Math.Nat.{mod-lt, div-add-mod}
use Rattle.log_entry.specs.Geometry.{shape_refusal}
use Rattle.log_image.specs.Image.{Shape}
use Rattle.log_image.specs.Header.{shape_of}
use Rattle.log_image.specs.Entries.{Meaning}
use Rattle.log_image.specs.Maps.{map_of}
use Rattle.log_image.specs.Chains.{LeadsAlong, IsLinked}
use Rattle.log_image.specs.Positions.{entries_of}
use Rattle.log_image.specs.Stands.{HoldsFile, StandsBy}
use Rattle.log_image.specs.Laws.{HaveOneChain, StandForOne}

-- from one block on there is one way
pub one_way : (words : List ℕ) (shape : Shape) (block : ℕ) (rest other : List ℕ) → LeadsAlong words shape block rest → LeadsAlong words shape block other → rest ≡ other
one_way words shape block [] [] here there = refl
one_way words shape block [] (next ∷ other) here there = cc
one_way words shape block (next ∷ rest) [] here there = cc
one_way words shape block (next ∷ rest) (also ∷ other) here there =
    let same : next ≡ also = sym here.1 ∙ there.1 in
    let onward : LeadsAlong words shape also rest = subst (λ (b : ℕ). LeadsAlong words shape b rest) same here.2 in
    ap (λ (b : ℕ). b ∷ rest) same ∙ ap (λ (l : List ℕ). also ∷ l) (one_way words shape also rest other onward there.2)

pub one_linked : (words : List ℕ) (shape : Shape) (chain other : List ℕ) → IsLinked words shape chain → IsLinked words shape other → chain ≡ other
one_linked words shape [] other here there = absurd here
one_linked words shape (first ∷ rest) [] here there = absurd there
one_linked words shape (first ∷ rest) (also ∷ other) here there =
    let same : first ≡ also = sym here.0 ∙ there.0 in
    let onward : LeadsAlong words shape also rest = subst (λ (b : ℕ). LeadsAlong words shape b rest) same here.1 in
    ap (λ (b : ℕ). b ∷ rest) same ∙ ap (λ (l : List ℕ). also ∷ l) (one_way words shape also rest other onward there.1)

pub one_chain : HaveOneChain
one_chain words shape chain other here there = one_linked words shape chain other here.linked there.linked

-- a byte of the file at a place of a virtual block, whatever the map says of that block
same_there : (words : List ℕ) (shape : Shape) (entries : List Meaning) (file another : List ℕ) → HoldsFile words shape entries file → HoldsFile words shape entries another → (virt at : ℕ) → at < shape.block_bytes → (found : Option ℕ) → map_of entries virt ≡ found → get_or file (virt * shape.block_bytes + at) 0 ≡ get_or another (virt * shape.block_bytes + at) 0
same_there words shape entries file another holds also virt at inside None is = holds.unmapped virt is at inside ∙ sym (also.unmapped virt is at inside)
same_there words shape entries file another holds also virt at inside (Some block) is = sym (holds.mapped virt block is at inside) ∙ also.mapped virt block is at inside

-- blocks of some bytes hold one file of a length
pub one_file : (words : List ℕ) (shape : Shape) (entries : List Meaning) (file another : List ℕ) → 0 < shape.block_bytes → HoldsFile words shape entries file → HoldsFile words shape entries another → length file ≡ length another → file ≡ another
one_file words shape entries file another some holds also long =
    ext_get_or 0 file another long (λ place inside.
    let whole : place / shape.block_bytes * shape.block_bytes + place % shape.block_bytes ≡ place = omega (arith, div-add-mod place shape.block_bytes) in
    subst (λ (k : ℕ). get_or file k 0 ≡ get_or another k 0) whole
    (same_there words shape entries file another holds also (place / shape.block_bytes) (place % shape.block_bytes) (mod-lt place some) (map_of entries (place / shape.block_bytes)) refl))

-- a shape that an image may have has some bytes in a block
pub some_bytes : (data_blocks log_blocks bytes : ℕ) → shape_refusal data_blocks log_blocks bytes ≡ None → 0 < bytes
some_bytes data_blocks log_blocks zero allowed = cc
some_bytes data_blocks log_blocks (suc bytes) allowed = omega arith

-- by one chain, one file and one position
one_by_chain : (words chain file another : List ℕ) (position elsewhere : ℕ) → StandsBy words chain file position → StandsBy words chain another elsewhere → (file ≡ another) × (position ≡ elsewhere)
one_by_chain words chain file another position elsewhere here there = (
  one_file words (shape_of words) (entries_of words (shape_of words) chain) file another
      (some_bytes (shape_of words).data_blocks (shape_of words).log_blocks (shape_of words).block_bytes here.header.allowed)
      here.stands.holds there.stands.holds (sym here.stands.ends_with ∙ there.stands.ends_with),
  sym here.stands.ends_at ∙ there.stands.ends_at,
)

pub one_meaning : StandForOne
one_meaning words chain other file another position elsewhere here there =
    let same : chain ≡ other = one_chain words (shape_of words) chain other here.stands.is_chain there.stands.is_chain in
    let moved : StandsBy words other file position = subst (λ (l : List ℕ). StandsBy words l file position) same here in
    let one : (file ≡ another) × (position ≡ elsewhere) = one_by_chain words other file another position elsewhere moved there in
    (same, one.0, one.1)
