-- What is known of the words of a start, and of what is read of their chain.
use Rattle.std.proofs.Common.{◌≡◌, ◌<◌, ◌≤◌, ◌+◌, ◌-◌, ◌*◌, ◌==◌, ◌&&◌, ◌||◌, nat_le, max, ℕ, Bool, true, List, [], ◌∷◌, length, map, take, drop, get_or, Some, refl, sym, ◌∙◌, subst, arith}
use Rattle.std.specs.List.{list_all, flat_map}
use native.Mathlib.Nat.{ℕ_set}
use native.Mathlib.Bridge.{le_prop}
use mathlib.Core.Logic.{∥∥₁_elim, ∥∥₁_map}
use Rattle.std.proofs.Math.Bool.{Bool-set}
use Rattle.std.proofs.Math.Nat.{mul-le-mul_right}
use Rattle.std.proofs.lemmas.Bool.{leb-true}
use Rattle.std.proofs.lemmas.List.Folds.{list_all-append}
use Rattle.block_table.specs.FileMap.{block_at}
use Rattle.log_entry.specs.Geometry.{HasShape}
use Rattle.log_entry.specs.Shape.{longest_of, limit_of}
use Rattle.log_entry.specs.declared.shapes.Geometry.{Geometry}
use Rattle.log_image.specs.Image.{Shape, total, words_in, is_in_data, block_words, shape_by}
use Rattle.log_image.specs.Header.{shape_of}
use Rattle.log_image.specs.Entries.{meaning}
use Rattle.log_image.specs.Maps.{entry_end, size_after}
use Rattle.log_image.specs.Blocks.{file_size, entry_count, slots_of, entry_words}
use Rattle.log_image.specs.Chains.{IsChain, snapshots_of, logs_of, first_size, snapshot_size}
use Rattle.log_image.specs.Positions.{log_words, size_at_end}
use Rattle.log_image.specs.Format.{fits, is_direct, is_indirect, has_runs, is_log_entry, is_log_block, is_snapshot_entry, is_snapshot_block, is_seal_placed, all_zero, HasFormat}
use Rattle.log_image.specs.Stands.{StandsBy, Stands}
use Rattle.log_image.specs.KeepsStart.{KeepsStart}
use Rattle.log_image.proofs.HoldingLemmas.{both_left, both_right}
use Rattle.log_image.proofs.ClearedEntries.{map_in_data}
use Rattle.chain_reader.specs.Reads.{StandForSome, IsReadOf}
use Rattle.chain_reader.specs.declared.reading.ChainRead.{ChainRead}
use Rattle.chain_reader.proofs.FitsLemmas.{Fitting, fitting, inside_data}
use Rattle.chain_reader.proofs.WalkLemmas.{same_shape}

-- the words of a start stand for a file
pub kept_stands : (geometry : Geometry) (words taken : List ℕ) (generation position size : ℕ) → ∥ KeepsStart geometry words taken generation position size ∥₁ → StandForSome words
kept_stands geometry words taken generation position size kept = ∥∥₁_map kept (λ is. (is.chain, is.file, position, is.stands))

-- the geometry of a start is that of its words
pub kept_shape : (geometry : Geometry) (words taken : List ℕ) (generation position size : ℕ) → ∥ KeepsStart geometry words taken generation position size ∥₁ →
    HasShape geometry (shape_of words).data_blocks (shape_of words).log_blocks (shape_of words).block_bytes
kept_shape geometry words taken generation position size kept = ∥∥₁_elim kept (hlevel ℕ_set) (λ is. is.same_geometry)

-- bytes that are each file that the words of a start stand for
pub kept_file : (geometry : Geometry) (words taken : List ℕ) (generation position size : ℕ) (bytes : List ℕ) → ∥ KeepsStart geometry words taken generation position size ∥₁ →
    ((chain file : List ℕ) (position : ℕ) → StandsBy words chain file position → bytes ≡ file) → ∥ Stands words bytes position ∥₁
kept_file geometry words taken generation position size bytes kept each =
    ∥∥₁_map kept (λ is. (is.chain, subst (λ (l : List ℕ). StandsBy words is.chain l position) (sym (each is.chain is.file position is.stands)) is.stands))

-- the size of each snapshot block, and the end of each entry, is within the limit
log_fits : (words : List ℕ) (shape : Shape) (word : ℕ) → is_log_entry words shape word ≡ true → entry_end shape (meaning words shape word) ≤ limit_of shape.block_bytes
log_fits words shape word good =
    let fit : Fitting shape (longest_of shape.block_bytes) (meaning words shape word) =
    fitting shape (longest_of shape.block_bytes) (meaning words shape word) (both_right (is_direct word || (is_indirect word && has_runs words shape word)) (fits shape (longest_of shape.block_bytes) (meaning words shape word)) good) in
    let most : ((meaning words shape word).virt + length (meaning words shape word).blocks) * shape.block_bytes ≤ 65536 * shape.block_bytes = mul-le-mul_right shape.block_bytes fit.in_file in
    omega (arith, most)

all_end : (words : List ℕ) (shape : Shape) (size : ℕ) (entries : List ℕ) → size ≤ limit_of shape.block_bytes → list_all (is_log_entry words shape) entries ≡ true → size_after shape size (map (meaning words shape) entries) ≤ limit_of shape.block_bytes
all_end words shape size [] within good = within
all_end words shape size (word ∷ entries) within good =
    all_end words shape (max size (entry_end shape (meaning words shape word))) entries
    (larger size (entry_end shape (meaning words shape word)) (limit_of shape.block_bytes) within (log_fits words shape word (both_left (is_log_entry words shape word) (list_all (is_log_entry words shape) entries) good)))
    (both_right (is_log_entry words shape word) (list_all (is_log_entry words shape) entries) good)
  where
    larger : (a b most : ℕ) → a ≤ most → b ≤ most → max a b ≤ most
    larger a b most first second = omega (arith, first, second)

block_good : (words : List ℕ) (shape : Shape) (block : List ℕ) → is_log_block words shape block ≡ true → list_all (is_log_entry words shape) (entry_words (slots_of block)) ≡ true
block_good words shape block good =
    both_right (get_or block 2 0 == 0) (list_all (is_log_entry words shape) (entry_words (slots_of block)))
    (both_left (get_or block 2 0 == 0 && list_all (is_log_entry words shape) (entry_words (slots_of block))) (is_seal_placed (slots_of block)) good)

logs_good : (words : List ℕ) (shape : Shape) (blocks : List ℕ) → list_all (λ (b : ℕ). is_log_block words shape (block_words words shape b)) blocks ≡ true →
    list_all (is_log_entry words shape) (flat_map (λ (b : ℕ). entry_words (slots_of (block_words words shape b))) blocks) ≡ true
logs_good words shape [] good = refl
logs_good words shape (block ∷ blocks) good =
    list_all-append (is_log_entry words shape) (entry_words (slots_of (block_words words shape block))) (flat_map (λ (b : ℕ). entry_words (slots_of (block_words words shape b))) blocks)
    ∙ both (list_all (is_log_entry words shape) (entry_words (slots_of (block_words words shape block)))) (list_all (is_log_entry words shape) (flat_map (λ (b : ℕ). entry_words (slots_of (block_words words shape b))) blocks))
    (block_good words shape (block_words words shape block) (both_left (is_log_block words shape (block_words words shape block)) (list_all (λ (b : ℕ). is_log_block words shape (block_words words shape b)) blocks) good))
    (logs_good words shape blocks (both_right (is_log_block words shape (block_words words shape block)) (list_all (λ (b : ℕ). is_log_block words shape (block_words words shape b)) blocks) good))
  where
    both : (a b : Bool) → a ≡ true → b ≡ true → (a && b) ≡ true
    both a b first second = rw (first, second) refl

first_within : (words : List ℕ) (shape : Shape) (blocks : List ℕ) → list_all (λ (b : ℕ). is_snapshot_block shape (block_words words shape b)) blocks ≡ true → first_size words shape blocks ≤ limit_of shape.block_bytes
first_within words shape [] good = omega arith
first_within words shape (block ∷ blocks) good =
    let here : List ℕ = block_words words shape block in
    let a : Bool = nat_le (entry_count here) (words_in shape - 3) in
    let b : Bool = nat_le (file_size here) (limit_of shape.block_bytes) in
    let d : Bool = list_all (is_snapshot_entry shape) (take (entry_count here) (slots_of here)) in
    let e : Bool = all_zero (drop (entry_count here) (slots_of here)) in
    let first : (a && b && d && e) ≡ true = both_left (is_snapshot_block shape here) (list_all (λ (n : ℕ). is_snapshot_block shape (block_words words shape n)) blocks) good in
    leb-true (file_size here) (limit_of shape.block_bytes) (both_right a b (both_left (a && b) d (both_left (a && b && d) e first)))

size_within : (words : List ℕ) (shape : Shape) (chain : List ℕ) → HasFormat words shape chain → size_at_end words shape chain ≤ limit_of shape.block_bytes
size_within words shape chain format =
    all_end words shape (snapshot_size words shape chain) (log_words words shape chain) (first_within words shape (snapshots_of words shape chain) format.snapshots) (logs_good words shape (logs_of words shape chain) format.logs)

-- what is read of the chain of these words
pub record IsRead (words : List ℕ) (read : ChainRead) : Type 0 where
  pub each : (chain : List ℕ) → IsChain words (shape_of words) chain → IsReadOf words (shape_of words) chain read

-- the size that is read is within the limit
pub read_within : (words : List ℕ) (geometry : Geometry) (read : ChainRead) → StandForSome words → HasShape geometry (shape_of words).data_blocks (shape_of words).log_blocks (shape_of words).block_bytes → IsRead words read →
    read.table.size ≤ 65536 * geometry.block_bytes
read_within words geometry read stand has is =
    subst (λ (s : Shape). read.table.size ≤ limit_of s.block_bytes) (sym (same_shape geometry (shape_of words) has))
    (∥∥₁_elim {P = read.table.size ≤ limit_of (shape_of words).block_bytes} stand le_prop (λ some.
    subst (λ (n : ℕ). n ≤ limit_of (shape_of words).block_bytes) (sym (is.each some.0 some.3.stands.is_chain).same_size) (size_within words (shape_of words) some.0 some.3.stands.format)))

-- the blocks that the table gives are in the image
pub read_inside : (words : List ℕ) (geometry : Geometry) (read : ChainRead) → StandForSome words → HasShape geometry (shape_of words).data_blocks (shape_of words).log_blocks (shape_of words).block_bytes → IsRead words read →
    (virt block : ℕ) → block_at read.table virt ≡ Some block → block < total (shape_by geometry)
read_inside words geometry read stand has is virt block found =
    subst (λ (s : Shape). block < total s) (sym (same_shape geometry (shape_of words) has))
    (inside (shape_of words) block (∥∥₁_elim {P = is_in_data (shape_of words) block ≡ true} stand (hlevel Bool-set) (λ some.
    map_in_data (shape_of words) words some.0 some.3.stands.format virt block (sym ((is.each some.0 some.3.stands.is_chain).same_map.each virt) ∙ found))))
  where
    inside : (shape : Shape) (block : ℕ) → is_in_data shape block ≡ true → block < total shape
    inside shape block good = omega (arith, (inside_data shape block good).1)
