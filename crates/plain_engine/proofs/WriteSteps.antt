-- The way of a write through an engine: its blocks are stored, a slot is made, the entry is put there.
use Rattle.std.proofs.Common.{◌≡◌, ◌<◌, ◌≤◌, ◌+◌, ◌*◌, ◌⊎◌, inl, inr, ℕ, Bool, true, false, List, length, get_or, Some, nat_le, sym, ap, ◌∙◌, subst, arith}
use Rattle.std.proofs.Math.Logic.{∥∥₁_elim}
use Rattle.std.proofs.Math.Nat.{ℕ_set}
use Rattle.std.proofs.lemmas.Bool.{cases_lt, le-leb}
use Rattle.log_entry.specs.ByteFile.{write}
use Rattle.log_entry.specs.WordBytes.{word_bytes}
use Rattle.log_entry.specs.Words.{entry_word}
use Rattle.log_entry.specs.declared.entries.Entry.TheVariants.{Direct}
use Rattle.log_entry.specs.declared.shapes.Geometry.{Geometry}
use Rattle.block_table.specs.FileMap.{block_at}
use Rattle.log_image.specs.Image.{Shape, total, is_in_data, block_words, block_content, shape_by}
use Rattle.log_image.specs.Positions.{entries_of}
use Rattle.log_image.specs.Stands.{HoldsFile}
use Rattle.log_image.specs.Taken.{bit_of, is_taken}
use Rattle.log_image.proofs.ClearedChains.{both}
use Rattle.log_image.proofs.OneChain.{one_meaning}
use Rattle.image_steps.specs.Steps.{IsEntryOf}
use Rattle.plain_engine.specs.Bytes.{laid_byte, present_byte}
use Rattle.plain_engine.specs.Clear.{IsLeastRun}
use Rattle.plain_engine.specs.Running.{Runs, RunsOnSome, AllTakenBefore}
use Rattle.plain_engine.specs.Engine.{shape_in, Running, SameBesideWords, SameNames, HasSlot, SameBesideTail}
use Rattle.plain_engine.specs.declared.engine.PlainEngine.{PlainEngine}
use Rattle.plain_engine.proofs.BoundsLemmas.{bounds, set_bits, data_inside}
use Rattle.plain_engine.proofs.EngineLemmas.{clear_untaken, set_taken}
use Rattle.plain_engine.specs.Space.{lacks_log}
use Rattle.plain_engine.specs.Names.{MakesSlot, TakesRun, NamesAfter}
use Rattle.plain_engine.proofs.SpaceLemmas.{lacks_log_same, run_is_least}
use Rattle.plain_engine.proofs.NamesLemmas.{names_written}
use Rattle.plain_engine.proofs.WriteLemmas.{IsRunFor, run_entry, present_is}

-- the engines before, after the blocks are stored, and after a slot is made
pub record IsWay (before stored slotted : PlainEngine) (virt block count leftover offset : ℕ) (bytes : List ℕ) : Type 0 where
  pub run : IsRunFor (shape_in before) virt block count leftover offset (length bytes)
  pub least : IsLeastRun before.taken.items before.first_clear (1 + before.geometry.data_blocks) count block
  pub runs : (chain file : List ℕ) → Running before chain file → Running stored chain file
  pub content : (k at : ℕ) → k < count → at < before.geometry.block_bytes → get_or (block_content stored.words.items (shape_in before) (block + k)) at 0
      ≡ laid_byte offset bytes ((virt + k) * before.geometry.block_bytes + at) (present_byte before.words.items (shape_in before) (block_at before.table (virt + k)) at)
  pub same : SameBesideWords before stored
  pub slot : (chain file : List ℕ) → Running stored chain file → HasSlot stored slotted chain file
  pub same_tail : SameBesideTail stored slotted

-- the shape is the same all along
shape_stored : (before stored : PlainEngine) → SameBesideWords before stored → shape_in stored ≡ shape_in before
shape_stored before stored same = ap (λ (g : Geometry). shape_by g) same.geometry

pub shape_slotted : (before stored slotted : PlainEngine) → SameBesideWords before stored → SameBesideTail stored slotted → shape_in slotted ≡ shape_in before
shape_slotted before stored slotted same same_tail = ap (λ (g : Geometry). shape_by g) (same_tail.geometry ∙ same.geometry)

-- the bits of the data blocks are the same
bits_same : (before stored slotted : PlainEngine) → SameBesideWords before stored → SameBesideTail stored slotted → (other : ℕ) → is_in_data (shape_in before) other ≡ true → bit_of slotted.taken.items other ≡ bit_of before.taken.items other
bits_same before stored slotted same same_tail other is =
    same_tail.bits other (subst (λ (s : Shape). is_in_data s other ≡ true) (sym (shape_stored before stored same)) is) ∙ ap (λ (v : _). bit_of v.items other) same.taken

-- a block of the data area by its number
data_by : (shape : Shape) (other : ℕ) → 1 ≤ other → other < 1 + shape.data_blocks → is_in_data shape other ≡ true
data_by shape other low high = both (nat_le 1 other) (nat_le other shape.data_blocks) (le-leb 1 other low) (le-leb other shape.data_blocks (omega (arith, high)))

-- the blocks before the run are taken
pub way_least : (before stored slotted : PlainEngine) (virt block count leftover offset : ℕ) (bytes : List ℕ) → IsWay before stored slotted virt block count leftover offset bytes →
    (chain file : List ℕ) → Running slotted chain file → AllTakenBefore slotted.words.items (shape_in slotted) chain block
way_least before stored slotted virt block count leftover offset bytes is chain file running other low below =
    let shape : shape_in slotted ≡ shape_in before = shape_slotted before stored slotted is.same is.same_tail in
    let here : is_in_data (shape_in before) other ≡ true = data_by (shape_in before) other low (omega (arith, below, is.least.first.inside)) in
    set_taken slotted.words.items (shape_in slotted) chain slotted.taken.items other running.fits.bitmap (subst (λ (s : Shape). other < total s) (sym shape) (data_inside (shape_in before) other here))
    (λ zero_bit. bit (cases_lt other before.first_clear) (sym (bits_same before stored slotted is.same is.same_tail other here) ∙ zero_bit))
  where
    bit : (other < before.first_clear) ⊎ (before.first_clear ≤ other) → bit_of before.taken.items other ≡ 0 → ⊥
    bit (inl early) zero_bit = omega (arith, zero_bit, set_bits (shape_in before) before.words.items before.taken.items before.table before.position before.tail_block before.tail_slot before.first_clear before.kept other early (omega (arith, below, is.least.first.inside)))
    bit (inr late) zero_bit = is.least.first.before other late below zero_bit

-- a file that the slotted engine runs on is one that the engine ran on before
same_file : (before stored slotted : PlainEngine) (virt block count leftover offset : ℕ) (bytes : List ℕ) → IsWay before stored slotted virt block count leftover offset bytes → (some : RunsOnSome (shape_in before) before.words.items before.taken.items before.table before.position before.tail_block before.tail_slot before.first_clear) →
    (chain file : List ℕ) → Running slotted chain file → file ≡ some.file
same_file before stored slotted virt block count leftover offset bytes is some chain file running =
    let other : HasSlot stored slotted some.chain some.file = is.slot some.chain some.file (is.runs some.chain some.file some.runs) in
    (one_meaning slotted.words.items chain other.longer file some.file slotted.position slotted.position running.stands other.runs.stands).1

-- the entry of the run is that of the write
pub way_entry : (before stored slotted : PlainEngine) (virt block count leftover offset : ℕ) (bytes : List ℕ) → IsWay before stored slotted virt block count leftover offset bytes →
    (chain file : List ℕ) → Running slotted chain file → IsEntryOf slotted.words.items (shape_in slotted) chain file (write file offset bytes) (entry_word (Direct virt block count leftover))
way_entry before stored slotted virt block count leftover offset bytes is chain file running =
    subst (λ (s : Shape). IsEntryOf slotted.words.items s chain file (write file offset bytes) (entry_word (Direct virt block count leftover))) (sym shape)
    (run_entry slotted.words.items (shape_in before) chain file bytes virt block count leftover offset is.run
    (λ k inside. free k inside) (λ k at inside small. content k at inside small))
  where
    shape : shape_in slotted ≡ shape_in before
    shape = shape_slotted before stored slotted is.same is.same_tail

    at_shape : Runs (shape_in before) slotted.words.items slotted.taken.items slotted.table slotted.position slotted.tail_block slotted.tail_slot slotted.first_clear chain file
    at_shape = subst (λ (s : Shape). Runs s slotted.words.items slotted.taken.items slotted.table slotted.position slotted.tail_block slotted.tail_slot slotted.first_clear chain file) shape running

    here : (k : ℕ) → k < count → is_in_data (shape_in before) (block + k) ≡ true
    here k inside = data_by (shape_in before) (block + k) (omega (arith, is.run.first)) (omega (arith, inside, is.run.last))

    free : (k : ℕ) → k < count → is_taken slotted.words.items (shape_in before) chain (block + k) ≡ false
    free k inside = clear_untaken slotted.words.items (shape_in before) chain slotted.taken.items (block + k) at_shape.fits.bitmap (data_inside (shape_in before) (block + k) (here k inside))
        (bits_same before stored slotted is.same is.same_tail (block + k) (here k inside) ∙ is.least.run (block + k) (omega arith) (omega (arith, inside)))

    present : (virt at : ℕ) → at < before.geometry.block_bytes → present_byte before.words.items (shape_in before) (block_at before.table virt) at ≡ get_or file (virt * before.geometry.block_bytes + at) 0
    present v at small = ∥∥₁_elim before.kept (ℕ_set _ _) (λ (some : RunsOnSome (shape_in before) before.words.items before.taken.items before.table before.position before.tail_block before.tail_slot before.first_clear).
        present_by some v at small ∙ ap (λ (l : List ℕ). get_or l (v * before.geometry.block_bytes + at) 0) (sym (same_file before stored slotted virt block count leftover offset bytes is some chain file running)))
      where
        present_by : (some : RunsOnSome (shape_in before) before.words.items before.taken.items before.table before.position before.tail_block before.tail_slot before.first_clear) → (v at : ℕ) → at < before.geometry.block_bytes →
            present_byte before.words.items (shape_in before) (block_at before.table v) at ≡ get_or some.file (v * before.geometry.block_bytes + at) 0
        present_by some v at small =
            present_is before.words.items (shape_in before) some.chain some.file before.table
            (subst (λ (s : Shape). HoldsFile before.words.items s (entries_of before.words.items s some.chain) some.file) some.runs.fits.same_shape some.runs.stands.stands.holds) some.runs.fits.map.each v at small

    content : (k at : ℕ) → k < count → at < before.geometry.block_bytes → get_or (block_content slotted.words.items (shape_in before) (block + k)) at 0 ≡ laid_byte offset bytes ((virt + k) * before.geometry.block_bytes + at) (get_or file ((virt + k) * before.geometry.block_bytes + at) 0)
    content k at inside small =
        ap (λ (l : List ℕ). get_or (word_bytes l) at 0)
        (subst (λ (s : Shape). block_words slotted.words.items s (block + k) ≡ block_words stored.words.items s (block + k)) (shape_stored before stored is.same)
        (is.same_tail.content (block + k) (subst (λ (s : Shape). is_in_data s (block + k) ≡ true) (sym (shape_stored before stored is.same)) (here k inside))))
        ∙ is.content k at inside small
        ∙ ap (λ (n : ℕ). laid_byte offset bytes ((virt + k) * before.geometry.block_bytes + at) n) (present (virt + k) at small)

-- whether the log lacks a block is the same after the blocks are stored
pub log_lack : (before stored : PlainEngine) (chain : List ℕ) → SameBesideWords before stored → SameNames before stored chain → (lack : Bool) → lacks_log stored.words.items (shape_in stored) chain ≡ lack → lacks_log before.words.items (shape_in before) chain ≡ lack
log_lack before stored chain same names lack is =
    sym (lacks_log_same before.words.items stored.words.items (shape_in before) chain names.taken names.tail)
    ∙ subst (λ (s : Shape). lacks_log stored.words.items s chain ≡ lack) (shape_stored before stored same) is

-- the blocks that the chain names after it, and its tail
pub way_names : (before stored slotted new : PlainEngine) (virt block count leftover offset : ℕ) (bytes chain file : List ℕ) → IsWay before stored slotted virt block count leftover offset bytes → Running before chain file → SameNames before stored chain → (slot : HasSlot stored slotted chain file) →
    TakesRun (shape_in slotted) slotted.words.items slot.longer new.words.items block count → NamesAfter (shape_in before) before.words.items chain (Some count) new.words.items slot.longer
way_names before stored slotted new virt block count leftover offset bytes chain file is runs names slot run =
    names_written (shape_in before) before.words.items stored.words.items slotted.words.items new.words.items chain slot.longer block count
    (bounds (shape_in before) before.words.items before.taken.items before.table before.position before.tail_block before.tail_slot before.first_clear before.kept).long
    (run_is_least before.words.items (shape_in before) chain before.taken.items before.first_clear count block is.run.first (record { has = runs.fits.bitmap; low = runs.fits.low }) is.least)
    names.taken names.tail
    (subst (λ (s : Shape). MakesSlot s stored.words.items chain slotted.words.items slot.longer) (shape_stored before stored is.same) slot.names)
    (subst (λ (s : Shape). TakesRun s slotted.words.items slot.longer new.words.items block count) (shape_slotted before stored slotted is.same is.same_tail) run)
