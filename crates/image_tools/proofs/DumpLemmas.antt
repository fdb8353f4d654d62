-- The lines of a chain's blocks, and the whole text.
use Rattle.std.proofs.Common.{◌≡◌, ◌≤◌, ◌*◌, ◌==◌, ◌&&◌, nat_lt, ℕ, Bool, true, false, List, [], ◌∷◌, ◌++◌, length, append_assoc, if◌then◌else◌, refl, sym, ap, ◌∙◌, subst, arith}
use Rattle.std.specs.List.{list_all, flat_map}
use Rattle.std.proofs.Math.Bool.{Bool-set}
use Rattle.std.proofs.Math.Nat.{mul-le-mul_right}
use Rattle.log_entry.specs.Geometry.{HasShape}
use Rattle.log_entry.specs.declared.shapes.Geometry.{Geometry}
use Rattle.log_entry.specs.declared.layouts.TheConstants.{EMPTY, SEAL}
use Rattle.log_image.specs.Image.{Shape, total, words_in, block_words, shape_by}
use Rattle.log_image.specs.Header.{shape_of}
use Rattle.log_image.specs.Blocks.{entry_words}
use Rattle.log_image.specs.Chains.{IsChain}
use Rattle.log_image.specs.Positions.{position_of}
use Rattle.chain_reader.specs.ChainBlocks.{is_sound}
use Rattle.chain_reader.specs.Reads.{StandForSome, IsReadOf}
use Rattle.chain_reader.specs.declared.reading.ChainRead.{ChainRead}
use Rattle.chain_reader.proofs.ChainLemmas.{Good, sound_at, inside_at}
use Rattle.chain_reader.proofs.WalkLemmas.{same_shape, some_good, block_range}
use Rattle.image_tools.specs.Sound.{is_sound_block}
use Rattle.image_tools.specs.DumpText.{shape_text, head_text, block_text, end_text, dump_text}
use Rattle.image_tools.proofs.StartLemmas.{IsRead}

-- the entries of some slots are no more than these
pub few_entries : (slots : List ℕ) → length (entry_words slots) ≤ length slots
few_entries [] = omega arith
few_entries (slot ∷ slots) = go (slot == EMPTY) (slot == SEAL) (few_entries slots)
  where
    go : (empty sealed : Bool) → length (entry_words slots) ≤ length slots → length (if empty then [] else if sealed then [] else slot ∷ entry_words slots) ≤ length (slot ∷ slots)
    go true sealed few = omega arith
    go false true few = omega arith
    go false false few = omega (arith, few)

-- the blocks of a chain have the words that their kinds may have
all_sound : (words : List ℕ) (shape : Shape) (chain front rest : List ℕ) → Good words shape chain → chain ≡ front ++ rest → list_all (is_sound_block words shape) rest ≡ true
all_sound words shape chain front [] good parts = refl
all_sound words shape chain front (block ∷ rest) good parts =
    three (nat_lt block (total shape)) (is_sound words shape (block_words words shape block)) (list_all (is_sound_block words shape) rest)
    (inside_at words shape chain front rest block good parts) (sound_at words shape chain front rest block good parts)
    (all_sound words shape chain (front ++ block ∷ []) rest good (parts ∙ sym (append_assoc front (block ∷ []) rest)))
  where
    three : (a b c : Bool) → a ≡ true → b ≡ true → c ≡ true → (a && b && c) ≡ true
    three a b c first second third = rw (first, second, third) refl

pub read_sound : (words : List ℕ) (geometry : Geometry) (read : ChainRead) → StandForSome words → HasShape geometry (shape_of words).data_blocks (shape_of words).log_blocks (shape_of words).block_bytes → IsRead words read →
    list_all (is_sound_block words (shape_by geometry)) read.chain.items ≡ true
read_sound words geometry read stand has is =
    some_good words geometry (list_all (is_sound_block words (shape_by geometry)) read.chain.items ≡ true) (hlevel Bool-set) stand has (λ chain good.
    ap (list_all (is_sound_block words (shape_by geometry))) ((is.each chain (subst (λ (s : Shape). IsChain words s chain) (same_shape geometry (shape_of words) has) good.is_chain)).same_chain)
    ∙ all_sound words (shape_by geometry) chain [] chain good refl)

-- the header is in the words
pub header_in : (words : List ℕ) (geometry : Geometry) → length words ≡ total (shape_by geometry) * words_in (shape_by geometry) → 4 ≤ length words
header_in words geometry whole =
    let most : 1 * words_in (shape_by geometry) ≤ total (shape_by geometry) * words_in (shape_by geometry) = mul-le-mul_right (words_in (shape_by geometry)) (omega arith) in
    omega (arith, whole, most, (block_range geometry).0)

-- the parts of the text, one after the other
pub dump_is : (words : List ℕ) (geometry : Geometry) (shape : Shape) (read : ChainRead) (chain none first second third whole : List ℕ) → shape_by geometry ≡ shape → none ≡ [] → first ≡ none ++ shape_text (shape_by geometry) → second ≡ first ++ head_text words →
    third ≡ second ++ flat_map (block_text words (shape_by geometry)) read.chain.items → whole ≡ third ++ end_text read.position read.table.size → IsReadOf words shape chain read → whole ≡ dump_text words shape chain
unfolding dump_text
dump_is words geometry shape read chain none first second third whole same empty one two three four is =
    four
    ∙ ap (λ (l : List ℕ). l ++ end_text read.position read.table.size) (three
    ∙ ap (λ (l : List ℕ). l ++ flat_map (block_text words (shape_by geometry)) read.chain.items) (two
    ∙ ap (λ (l : List ℕ). l ++ head_text words) (one ∙ ap (λ (l : List ℕ). l ++ shape_text (shape_by geometry)) empty)))
    ∙ append_assoc (shape_text (shape_by geometry) ++ head_text words) (flat_map (block_text words (shape_by geometry)) read.chain.items) (end_text read.position read.table.size)
    ∙ append_assoc (shape_text (shape_by geometry)) (head_text words) (flat_map (block_text words (shape_by geometry)) read.chain.items ++ end_text read.position read.table.size)
    ∙ ap (λ (s : Shape). shape_text s ++ (head_text words ++ (flat_map (block_text words s) read.chain.items ++ end_text read.position read.table.size))) same
    ∙ ap (λ (l : List ℕ). shape_text shape ++ (head_text words ++ (flat_map (block_text words shape) l ++ end_text read.position read.table.size))) is.same_chain
    ∙ ap (λ (n : ℕ). shape_text shape ++ (head_text words ++ (flat_map (block_text words shape) chain ++ end_text n read.table.size))) is.same_position
    ∙ ap (λ (n : ℕ). shape_text shape ++ (head_text words ++ (flat_map (block_text words shape) chain ++ end_text (position_of words shape chain) n))) is.same_size
