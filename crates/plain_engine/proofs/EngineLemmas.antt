-- What the parts of a write do to an engine.
use Rattle.std.proofs.Common.{◌≡◌, ◌≢◌, ◌<◌, ◌≤◌, ◌+◌, ◌*◌, ◌⊎◌, inl, inr, ℕ, Bool, true, false, List, ◌++◌, length, get_or, take, drop, Some, if◌then◌else◌, refl, sym, ap, subst, ◌∙◌, arith}
use Rattle.std.proofs.lemmas.Grind.{common_steps}
use Rattle.std.proofs.lemmas.Bool.{cases_lt}
use Rattle.block_table.specs.FileMap.{FileMap, block_at}
use Rattle.log_image.specs.Image.{Shape, words_in, total, block_words, shape_by}
use Rattle.log_image.specs.Taken.{bit_of, is_taken, HasTaken}
use Rattle.log_image.proofs.ImageLemmas.{in_block}
use Rattle.image_steps.specs.Steps.{KeepsTaken}
use Rattle.log_entry.specs.declared.shapes.Geometry.{Geometry}
use Rattle.plain_engine.specs.Clear.{AllClear}
use Rattle.plain_engine.specs.Running.{RunsOnSome}
use Rattle.plain_engine.specs.Engine.{KeepsFirstBlock}
use Rattle.plain_engine.proofs.BoundsLemmas.{Bounds, data_inside}
use Rattle.plain_engine.proofs.RunningSteps.{store_at}

-- what a slice of a vector leaves, where it has the vector's length
pub lent_back : (new old : List ℕ) (n : ℕ) → length new ≡ length old → n ≡ length old → take n (new ++ drop (length new) old) ≡ new
lent_back new old n same whole = grind (arith, common_steps)

-- a block whose bit is 0 is not taken, and one whose bit is not is
pub clear_untaken : (words : List ℕ) (shape : Shape) (chain taken : List ℕ) (block : ℕ) → HasTaken words shape chain taken → block < total shape → bit_of taken block ≡ 0 → is_taken words shape chain block ≡ false
clear_untaken words shape chain taken block has inside clear = go (is_taken words shape chain block) refl (sym (has.bits block inside) ∙ clear)
  where
    go : (b : Bool) → is_taken words shape chain block ≡ b → ◌≡◌ {A = ℕ} (if b then 1 else 0) 0 → is_taken words shape chain block ≡ false
    go true is wrong = absurd (omega (arith, wrong))
    go false is right = is

pub set_taken : (words : List ℕ) (shape : Shape) (chain taken : List ℕ) (block : ℕ) → HasTaken words shape chain taken → block < total shape → bit_of taken block ≢ 0 → is_taken words shape chain block ≡ true
set_taken words shape chain taken block has inside clear = go (is_taken words shape chain block) refl
  where
    go : (b : Bool) → is_taken words shape chain block ≡ b → is_taken words shape chain block ≡ true
    go true is = is
    go false is = absurd (clear (has.bits block inside ∙ ap (λ (b : Bool). if b then 1 else 0) is))

-- a clear run of data blocks is stored: the taken blocks keep their words
pub keeps_by : (shape : Shape) (words seen new taken chain : List ℕ) (block count : ℕ) → seen ≡ words → HasTaken words shape chain taken → block + count ≤ total shape → AllClear taken block (block + count) → length new ≡ length seen →
    ((other : ℕ) → (other < block) ⊎ (block + count ≤ other) → block_words new shape other ≡ block_words seen shape other) → KeepsTaken shape chain words new
keeps_by shape words seen new taken chain block count same has inside clear long others = record {
  same_length = long ∙ ap length same;
  each = λ other is. go other is (cases_lt other block) (cases_lt other (block + count));
}
  where
    differ : (b : Bool) → b ≡ true → b ≡ false → ⊥
    differ b yes_b no_b = cc

    go : (other : ℕ) → is_taken words shape chain other ≡ true → (other < block) ⊎ (block ≤ other) → (other < block + count) ⊎ (block + count ≤ other) → block_words new shape other ≡ block_words words shape other
    go other is (inl before) last = others other (inl before) ∙ ap (λ (l : List ℕ). block_words l shape other) same
    go other is (inr after) (inr past) = others other (inr past) ∙ ap (λ (l : List ℕ). block_words l shape other) same
    go other is (inr after) (inl before) = absurd (differ (is_taken words shape chain other) is (clear_untaken words shape chain taken other has (omega (arith, before, inside)) (clear other after before)))

-- the blocks that hold the file are not those of a clear run
pub apart_by : (shape : Shape) (words taken : List ℕ) (table : FileMap) (position tail_block tail_slot : ℕ) (block count : ℕ) → Bounds shape words taken table position tail_block tail_slot → AllClear taken block (block + count) → (virt held : ℕ) → block_at table virt ≡ Some held → (held < total shape) × ((held < block) ⊎ (block + count ≤ held))
apart_by shape words taken table position tail_block tail_slot block count is clear virt held found =
    (data_inside shape held (is.held virt held found).0, go (cases_lt held block) (cases_lt held (block + count)))
  where
    go : (held < block) ⊎ (block ≤ held) → (held < block + count) ⊎ (block + count ≤ held) → (held < block) ⊎ (block + count ≤ held)
    go (inl before) last = inl before
    go (inr after) (inr past) = inr past
    go (inr after) (inl before) = absurd (omega (arith, clear held after before, (is.held virt held found).1))

-- an engine that stored goes on as it was
pub stored_kept : (shape : Shape) (words seen new taken : List ℕ) (table : FileMap) (position tail_block tail_slot first_clear : ℕ) (block count : ℕ) → seen ≡ words → block + count ≤ total shape → AllClear taken block (block + count) → length new ≡ length seen →
    ((other : ℕ) → (other < block) ⊎ (block + count ≤ other) → block_words new shape other ≡ block_words seen shape other) →
    RunsOnSome shape words taken table position tail_block tail_slot first_clear → RunsOnSome shape new taken table position tail_block tail_slot first_clear
stored_kept shape words seen new taken table position tail_block tail_slot first_clear block count same inside clear long others some = record {
  chain = some.chain;
  file = some.file;
  runs = store_at shape words new taken table position tail_block tail_slot first_clear some.chain some.file some.runs
      (keeps_by shape words seen new taken some.chain block count same some.runs.fits.bitmap inside clear long others);
}

-- block 0 is not stored
pub stored_first : (shape : Shape) (words seen new : List ℕ) (block count : ℕ) → seen ≡ words → 1 ≤ block →
    ((other : ℕ) → (other < block) ⊎ (block + count ≤ other) → block_words new shape other ≡ block_words seen shape other) → KeepsFirstBlock shape words new
stored_first shape words seen new block count same low others = λ place inside.
    let at : 0 * words_in shape + place ≡ place = omega arith in
    ap (λ (n : ℕ). get_or new n 0) (sym at) ∙ sym (in_block new shape 0 place inside)
    ∙ ap (λ (l : List ℕ). get_or l place 0) (others 0 (inl (omega (arith, low))))
    ∙ in_block seen shape 0 place inside ∙ ap (λ (n : ℕ). get_or seen n 0) at
    ∙ ap (λ (l : List ℕ). get_or l place 0) same

-- block 0 is the same after one step and another
pub first_then : (one two : Geometry) (old between new : List ℕ) → two ≡ one → KeepsFirstBlock (shape_by one) old between → KeepsFirstBlock (shape_by two) between new → KeepsFirstBlock (shape_by one) old new
first_then one two old between new same before after = λ place inside.
    after place (subst (λ (g : Geometry). place < words_in (shape_by g)) (sym same) inside) ∙ before place inside
