-- Blocks that hold a file, told from the contents of the first virtual blocks.
use Rattle.std.proofs.Common.{◌≡◌, ℕ, zero, suc, ◌+◌, ◌-◌, ◌*◌, ◌<◌, ◌≤◌, ◌==◌, ◌&&◌, Bool, true, false, List, [], ◌∷◌, ◌++◌, length, get_or, Some, None, refl, sym, ap, ◌∙◌, arith}
use Rattle.std.specs.Prelude.{replicate}
use Rattle.std.specs.List.{flat_map, slice_get, list_all}
use Rattle.std.proofs.lemmas.Bool.{le-leb, eqb-true}
use Rattle.std.proofs.lemmas.Option.{slice_get_past, slice_get_within}
use Rattle.std.proofs.lemmas.List.{get_or_past, get_or-append-add}
use Rattle.std.proofs.Math.ListN.{get_or-append}
use Rattle.log_image.specs.Image.{Shape, block_content}
use Rattle.log_image.specs.Entries.{Meaning}
use Rattle.log_image.specs.Maps.{block_in, map_of}
use Rattle.log_image.specs.Stands.{HoldsFile}

-- an entry names no virtual block past its last
pub names_none : (entry : Meaning) (virt : ℕ) → entry.virt + length entry.blocks ≤ virt → block_in entry virt ≡ None
names_none entry virt past = rw (le-leb entry.virt virt (omega (arith, past))) (slice_get_past entry.blocks (virt - entry.virt) (omega (arith, past)))

-- zeros after a list are read as what is past its end
pub zeros_after : (file : List ℕ) (count place : ℕ) → get_or (file ++ replicate count 0) place 0 ≡ get_or file place 0
zeros_after [] zero place = refl
zeros_after [] (suc count) zero = refl
zeros_after [] (suc count) (suc place) = zeros_after [] count place
zeros_after (byte ∷ file) count zero = refl
zeros_after (byte ∷ file) count (suc place) = zeros_after file count place

pub both_left : (a b : Bool) → (a && b) ≡ true → a ≡ true
both_left true b both = refl
both_left false b both = both

pub both_right : (a b : Bool) → (a && b) ≡ true → b ≡ true
both_right true b both = both
both_right false b both = cc

-- a place in the contents of some blocks, all of one size, one after the other
pub in_contents : (content : ℕ → List ℕ) (size : ℕ) (blocks : List ℕ) (virt block at : ℕ) → list_all (λ (b : ℕ). length (content b) == size) blocks ≡ true → slice_get blocks virt ≡ Some block → at < size → get_or (flat_map content blocks) (virt * size + at) 0 ≡ get_or (content block) at 0
in_contents content size [] virt block at all found inside = absurd (omega (arith, slice_get_within [] virt block found))
in_contents content size (first ∷ blocks) zero block at all found inside =
    let long : length (content first) ≡ size = eqb-true (length (content first)) size (both_left (length (content first) == size) (list_all (λ (b : ℕ). length (content b) == size) blocks) all) in
    let same : first ≡ block = cc in
    let place : zero * size + at ≡ at = omega arith in
    rw place (get_or-append (content first) (flat_map content blocks) 0 at (omega (arith, long, inside)) ∙ ap (λ (b : ℕ). get_or (content b) at 0) same)
in_contents content size (first ∷ blocks) (suc virt) block at all found inside =
    let long : length (content first) ≡ size = eqb-true (length (content first)) size (both_left (length (content first) == size) (list_all (λ (b : ℕ). length (content b) == size) blocks) all) in
    let place : suc virt * size + at ≡ length (content first) + (virt * size + at) = omega (arith, long) in
    rw place (get_or-append-add (content first) (flat_map content blocks) (virt * size + at) 0
    ∙ in_contents content size blocks virt block at (both_right (length (content first) == size) (list_all (λ (b : ℕ). length (content b) == size) blocks) all) found inside)

-- what no longer list of blocks has is past the end of what is no longer than they
pub past_all : (blocks : List ℕ) (virt at size long : ℕ) → long ≤ length blocks * size → slice_get blocks virt ≡ None → long ≤ virt * size + at
past_all [] virt at size long short none = omega (arith, short)
past_all (block ∷ blocks) zero at size long short none = cc
past_all (block ∷ blocks) (suc virt) at size long short none =
    omega (arith, past_all blocks virt at size (long - size) (omega (arith, short)) none)

-- what holds a file: the first virtual blocks are these blocks, and their contents are the file and zeros
pub holds_by : (words : List ℕ) (shape : Shape) (entries : List Meaning) (file blocks : List ℕ) (count : ℕ) →
    ((virt : ℕ) → map_of entries virt ≡ slice_get blocks virt) →
    list_all (λ (b : ℕ). length (block_content words shape b) == shape.block_bytes) blocks ≡ true →
    flat_map (block_content words shape) blocks ≡ file ++ replicate count 0 →
    length file ≤ length blocks * shape.block_bytes →
    HoldsFile words shape entries file
holds_by words shape entries file blocks count same_map sizes contents short = record {
  mapped = λ virt block is at inside.
      sym (in_contents (block_content words shape) shape.block_bytes blocks virt block at sizes (sym (same_map virt) ∙ is) inside)
      ∙ ap (λ (l : List ℕ). get_or l (virt * shape.block_bytes + at) 0) contents
      ∙ zeros_after file count (virt * shape.block_bytes + at);
  unmapped = λ virt is at inside.
      get_or_past file (virt * shape.block_bytes + at) 0 (past_all blocks virt at shape.block_bytes (length file) short (sym (same_map virt) ∙ is));
}
