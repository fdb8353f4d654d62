-- What an engine keeps of a start.
use Rattle.std.proofs.Common.{◌≡◌, ◌≤◌, ◌+◌, ◌*◌, ℕ, Bool, true, false, List, [], ◌∷◌, ◌++◌, length, if◌then◌else◌, refl, sym, ap, ◌∙◌, subst, arith, length-drop}
use Rattle.std.proofs.Math.Logic.{∥∥₁_elim, ∥∥₁_map}
use Rattle.std.proofs.Math.Nat.{ℕ_set}
use Rattle.std.proofs.lemmas.Bool.{eq-eqb, ne_eqb}
use Rattle.log_entry.specs.Geometry.{HasShape}
use Rattle.log_entry.specs.declared.shapes.Geometry.{Geometry}
use Rattle.log_image.specs.Image.{Shape, words_in, block_words, shape_by}
use Rattle.log_image.specs.Header.{shape_of}
use Rattle.log_image.specs.Blocks.{slots_of, entry_words, is_closed}
use Rattle.log_image.specs.Chains.{IsChain}
use Rattle.log_image.specs.Stands.{StandsBy}
use Rattle.log_image.specs.Tails.{AtSlot, AtLink, last_block, tail_in, tail_of}
use Rattle.log_image.specs.KeepsStart.{KeepsStart}
use Rattle.log_image.proofs.ImageLemmas.{length_range}
use Rattle.log_image.proofs.HeaderSteps.{long_words}
use Rattle.log_image.proofs.Clearing.{open_inside}
use Rattle.log_image.proofs.SetWordLemmas.{tail_inside}
use Rattle.image_steps.proofs.TailLemmas.{split_chain, last_of, AtTail, at_tail}
use Rattle.chain_reader.specs.Ends.{end_slot}
use Rattle.chain_reader.specs.Reads.{StandForSome, IsReadOf}
use Rattle.chain_reader.specs.declared.reading.ChainRead.{ChainRead}
use Rattle.plain_engine.specs.Running.{tail_at, Fits, RunsOnSome}

shape_with : ℕ → ℕ → ℕ → Shape
shape_with data_blocks log_blocks bytes = record { data_blocks = data_blocks; log_blocks = log_blocks; block_bytes = bytes }

-- the shape that the words say is the geometry's
pub shape_same : (g : Geometry) (words : List ℕ) → HasShape g (shape_of words).data_blocks (shape_of words).log_blocks (shape_of words).block_bytes → shape_of words ≡ shape_by g
unfolding shape_with
shape_same g words is =
    sym (ap (λ (n : ℕ). shape_with n g.log_blocks g.block_bytes) is.same_data
    ∙ ap (λ (n : ℕ). shape_with (shape_of words).data_blocks n g.block_bytes) is.same_log
    ∙ ap (λ (n : ℕ). shape_with (shape_of words).data_blocks (shape_of words).log_blocks n) is.same_bytes)

-- the tail of a block by the slot that its entries end before
tail_by_slot : (shape : Shape) (words : List ℕ) (last : ℕ) → 8 ≤ words_in shape → length (block_words words shape last) ≡ words_in shape → tail_in last (block_words words shape last) ≡ tail_at shape last (end_slot shape (block_words words shape last))
tail_by_slot shape words last long size = go (is_closed (slots_of (block_words words shape last))) refl
  where
    go : (closed : Bool) → is_closed (slots_of (block_words words shape last)) ≡ closed →
        (if closed then AtLink last else AtSlot last (3 + length (entry_words (slots_of (block_words words shape last))))) ≡ tail_at shape last (if closed then words_in shape else 3 + length (entry_words (slots_of (block_words words shape last))))
    go true is = ap (λ (b : Bool). if b then AtLink last else AtSlot last (words_in shape)) (sym (eq-eqb (words_in shape) (words_in shape) refl))
    go false is =
        ap (λ (b : Bool). if b then AtLink last else AtSlot last (3 + length (entry_words (slots_of (block_words words shape last)))))
        (sym (ne_eqb (3 + length (entry_words (slots_of (block_words words shape last)))) (words_in shape) (λ e. omega (arith, e, open_inside (slots_of (block_words words shape last)) is, length-drop 3 (block_words words shape last), size, long))))

start_tail : (words : List ℕ) (front : List ℕ) (tail : ℕ) (file : List ℕ) (position : ℕ) → StandsBy words (front ++ tail ∷ []) file position → tail_of words (shape_of words) (front ++ tail ∷ []) ≡ tail_at (shape_of words) (last_block 0 (front ++ tail ∷ [])) (end_slot (shape_of words) (block_words words (shape_of words) (last_block 0 (front ++ tail ∷ []))))
start_tail words front tail file position stands =
    let at : AtTail (shape_of words) words front tail = at_tail (shape_of words) words front tail file position stands.stands in
    let long : 8 ≤ words_in (shape_of words) = long_words words stands.header in
    subst (λ (b : ℕ). tail_in b (block_words words (shape_of words) b) ≡ tail_at (shape_of words) b (end_slot (shape_of words) (block_words words (shape_of words) b))) (sym (last_of 0 front tail))
    (tail_by_slot (shape_of words) words tail long (length_range words (tail * words_in (shape_of words)) (words_in (shape_of words)) (tail_inside words tail stands.header at.area)))

chain_tail : (words chain file : List ℕ) (position : ℕ) → StandsBy words chain file position → tail_of words (shape_of words) chain ≡ tail_at (shape_of words) (last_block 0 chain) (end_slot (shape_of words) (block_words words (shape_of words) (last_block 0 chain)))
chain_tail words [] file position stands = absurd stands.stands.is_chain.linked
chain_tail words (first ∷ rest) file position stands =
    let split : (front : List ℕ) × (first ∷ rest ≡ front ++ last_block first rest ∷ []) = split_chain first rest in
    subst (λ (l : List ℕ). tail_of words (shape_of words) l ≡ tail_at (shape_of words) (last_block 0 l) (end_slot (shape_of words) (block_words words (shape_of words) (last_block 0 l)))) (sym split.1)
    (start_tail words split.0 (last_block first rest) file position (subst (λ (l : List ℕ). StandsBy words l file position) split.1 stands))

-- what is kept of a start whose chain was read
pub start_kept : (g : Geometry) (words taken : List ℕ) (generation position size : ℕ) (read : ChainRead) → ((chain : List ℕ) → IsChain words (shape_of words) chain → IsReadOf words (shape_of words) chain read) →
    KeepsStart g words taken generation position size → RunsOnSome (shape_by g) words taken read.table position read.tail_block read.tail_slot 1
start_kept g words taken generation position size read reads kept =
    let is : IsReadOf words (shape_of words) kept.chain read = reads kept.chain kept.stands.stands.is_chain in
    let fits : Fits (shape_of words) words taken read.table read.tail_block read.tail_slot 1 kept.chain kept.file = record {
      same_shape = refl;
      clear = kept.clear;
      tail = chain_tail words kept.chain kept.file position kept.stands
          ∙ ap (λ (b : ℕ). tail_at (shape_of words) b (end_slot (shape_of words) (block_words words (shape_of words) (last_block 0 kept.chain)))) (sym is.same_block)
          ∙ ap (λ (n : ℕ). tail_at (shape_of words) read.tail_block n) (sym is.same_slot);
      bitmap = kept.bitmap;
      map = is.same_map;
      size = is.same_size ∙ kept.stands.stands.ends_with;
      low = λ block some before. absurd (omega (arith, some, before));
    } in
    record {
      chain = kept.chain;
      file = kept.file;
      runs = record {
        stands = kept.stands;
        fits = subst (λ (s : Shape). Fits s words taken read.table read.tail_block read.tail_slot 1 kept.chain kept.file) (shape_same g words kept.same_geometry) fits;
      };
    }

-- a start stands for some file, and has its geometry
pub start_stands : (g : Geometry) (words taken : List ℕ) (generation position size : ℕ) → ∥ KeepsStart g words taken generation position size ∥₁ → StandForSome words
start_stands g words taken generation position size kept = ∥∥₁_map kept (λ (k : KeepsStart g words taken generation position size). (k.chain, k.file, position, k.stands))

pub start_shape : (g : Geometry) (words taken : List ℕ) (generation position size : ℕ) → ∥ KeepsStart g words taken generation position size ∥₁ → HasShape g (shape_of words).data_blocks (shape_of words).log_blocks (shape_of words).block_bytes
start_shape g words taken generation position size kept = ∥∥₁_elim kept (hlevel ℕ_set) (λ k. k.same_geometry)
