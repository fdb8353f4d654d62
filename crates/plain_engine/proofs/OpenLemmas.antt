-- What an engine keeps, for the chain and the file that its words stand for.
use Rattle.std.proofs.Common.{◌≡◌, ◌≤◌, ◌<◌, ℕ, true, Option, Some, None, List, length, arith, refl, sym, ap, ◌∙◌, subst}
use Rattle.std.proofs.Math.Logic.{∥∥₁_elim, ∥∥₁_map}
use Rattle.std.proofs.Math.Nat.{ℕ_set}
use Rattle.std.proofs.Math.Bridge.{le_prop}
use Rattle.std.proofs.Math.Bool.{Bool-set}
use Rattle.block_table.specs.FileMap.{FileMap, block_at}
use Rattle.log_image.specs.Image.{Shape}
use Rattle.log_image.specs.Stands.{StandsBy}
use Rattle.log_image.specs.Tails.{Tail, AtSlot, AtLink, tail_of, IsClear}
use Rattle.log_image.specs.Header.{shape_of}
use Rattle.log_image.specs.Maps.{map_of}
use Rattle.log_image.specs.Positions.{entries_of}
use Rattle.log_image.specs.Taken.{is_taken, HasTaken}
use Rattle.log_image.proofs.OneChain.{one_meaning}
use Rattle.plain_engine.specs.Running.{tail_at, Fits, RunsOnSome}

shape_set : IsSet Shape
shape_set = hlevel ℕ_set

-- and so are two optional numbers
option_same : (first second : Option ℕ) → ∥ first ≡ second ∥₁ → first ≡ second
option_same None None same = refl
option_same (Some a) (Some b) same = (let inner : a ≡ b = ∥∥₁_elim same (ℕ_set _ _) (λ (e : Some a ≡ Some b). cc) in ap (λ (n : ℕ). Some n) inner)
option_same None (Some b) same = (let wrong : 0 ≡ 1 = ∥∥₁_elim same (ℕ_set _ _) (λ (e : None ≡ Some b). cc) in absurd (omega (arith, wrong)))
option_same (Some a) None same = (let wrong : 0 ≡ 1 = ∥∥₁_elim same (ℕ_set _ _) (λ (e : Some a ≡ None). cc) in absurd (omega (arith, wrong)))

-- two tails that are merely the same are the same
tail_same : (first second : Tail) → ∥ first ≡ second ∥₁ → first ≡ second
tail_same (AtSlot block slot) (AtSlot other place) same =
    let block_is : block ≡ other = ∥∥₁_elim same (ℕ_set _ _) (λ (e : AtSlot block slot ≡ AtSlot other place). cc) in
    let slot_is : slot ≡ place = ∥∥₁_elim same (ℕ_set _ _) (λ (e : AtSlot block slot ≡ AtSlot other place). cc) in
    ap (λ (b : ℕ). AtSlot b slot) block_is ∙ ap (λ (n : ℕ). AtSlot other n) slot_is
tail_same (AtLink block) (AtLink other) same =
    let block_is : block ≡ other = ∥∥₁_elim same (ℕ_set _ _) (λ (e : AtLink block ≡ AtLink other). cc) in
    ap (λ (b : ℕ). AtLink b) block_is
tail_same (AtSlot block slot) (AtLink other) same = (let wrong : 0 ≡ 1 = ∥∥₁_elim same (ℕ_set _ _) (λ (e : AtSlot block slot ≡ AtLink other). cc) in absurd (omega (arith, wrong)))
tail_same (AtLink block) (AtSlot other place) same = (let wrong : 0 ≡ 1 = ∥∥₁_elim same (ℕ_set _ _) (λ (e : AtLink block ≡ AtSlot other place). cc) in absurd (omega (arith, wrong)))

-- all but the tail and the map
record PartFits (shape : Shape) (words taken : List ℕ) (table : FileMap) (first_clear : ℕ) (chain file : List ℕ) : Type 0 where
  same_shape : shape_of words ≡ shape
  clear : IsClear words shape (tail_of words shape chain)
  bitmap : HasTaken words shape chain taken
  size : table.size ≡ length file
  low : (block : ℕ) → 1 ≤ block → block < first_clear → is_taken words shape chain block ≡ true

part_prop : (shape : Shape) (words taken : List ℕ) (table : FileMap) (first_clear : ℕ) (chain file : List ℕ) → IsProp (PartFits shape words taken table first_clear chain file)
part_prop shape words taken table first_clear chain file = hlevel (ℕ_set, Bool-set, le_prop, shape_set)

-- the engine runs on the file that its words stand for, at its position
pub opened : (shape : Shape) (words taken : List ℕ) (table : FileMap) (position tail_block tail_slot first_clear : ℕ) → ∥ RunsOnSome shape words taken table position tail_block tail_slot first_clear ∥₁ → (chain file : List ℕ) (place : ℕ) → StandsBy words chain file place →
    (place ≡ position) × Fits shape words taken table tail_block tail_slot first_clear chain file
opened shape words taken table position tail_block tail_slot first_clear kept chain file place stands = (
  ∥∥₁_elim kept (ℕ_set _ _) (λ some. (one_meaning words chain some.chain file some.file place position stands some.runs.stands).2),
  record {
    same_shape = part.same_shape;
    clear = part.clear;
    tail = tail_same (tail_of words shape chain) (tail_at shape tail_block tail_slot) (∥∥₁_map kept (λ (some : RunsOnSome shape words taken table position tail_block tail_slot first_clear). (whole some).tail));
    bitmap = part.bitmap;
    map = record { each = λ virt. option_same (block_at table virt) (map_of (entries_of words shape chain) virt) (∥∥₁_map kept (λ (some : RunsOnSome shape words taken table position tail_block tail_slot first_clear). (whole some).map.each virt)) };
    size = part.size;
    low = part.low;
  },
)
  where
    whole : RunsOnSome shape words taken table position tail_block tail_slot first_clear → Fits shape words taken table tail_block tail_slot first_clear chain file
    whole some =
        let same : (chain ≡ some.chain) × (file ≡ some.file) × (place ≡ position) = one_meaning words chain some.chain file some.file place position stands some.runs.stands in
        subst (λ (l : List ℕ). Fits shape words taken table tail_block tail_slot first_clear l file) (sym same.0)
        (subst (λ (l : List ℕ). Fits shape words taken table tail_block tail_slot first_clear some.chain l) (sym same.1) some.runs.fits)

    part : PartFits shape words taken table first_clear chain file
    part = ∥∥₁_elim kept (part_prop shape words taken table first_clear chain file) (λ (some : RunsOnSome shape words taken table position tail_block tail_slot first_clear).
        record { same_shape = (whole some).same_shape; clear = (whole some).clear; bitmap = (whole some).bitmap; size = (whole some).size; low = (whole some).low })
