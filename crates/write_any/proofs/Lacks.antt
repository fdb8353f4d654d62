-- The call of a write lacks the blocks that it takes: a data block for each virtual block, and a log block at a block's end.
use Rattle.std.proofs.Common.{◌≡◌, ℕ, ◌+◌, ◌-◌, ◌*◌, ◌<◌, ◌≤◌, ◌==◌, ◌&&◌, not, nat_lt, nat_le, filter, if◌then◌else◌, mul-le-mul_right, Bool, true, false, List, [], ◌∷◌, length, refl, sym, ap, subst, ◌∙◌, arith}
use Rattle.std.proofs.lemmas.Bool.{ltb-true, ltb-false, leb-true, and_parts, or_left, or_right, eq-eqb}
use Rattle.log_entry.specs.Legal.{touched_blocks}
use Rattle.log_entry.specs.declared.shapes.Area.TheVariants.{Data, Log}
use Rattle.log_image.specs.Image.{Shape}
use Rattle.log_image.specs.Chains.{is_listed}
use Rattle.pmem_words.specs.declared.keeps.Task.{Task}
use Rattle.pmem_words.specs.declared.owned.OwnedBlock.{OwnedBlock}
use Rattle.pmem_words.specs.Seats.{Seat}
use Rattle.log_core.specs.Views.{Ghost}
use Rattle.log_core.specs.Origin.{Origin}
use Rattle.log_core.specs.Works.{seat_shape}
use Rattle.log_core.specs.Needs.{is_in_area, is_one_run, owned_numbers, owned_in, touched_from, data_lacking, lacking}
use Rattle.log_core.proofs.writes.WholeWrites.{some_block_bytes, whole_touched}
use Rattle.block_bitmap.specs.TakeWithin.{MayLack}
use Rattle.write_any.specs.Composing.{block_count, virt_at, IsWhole}
use Rattle.write_any.specs.WriteWithin.{MayWrite}
use Rattle.write_any.proofs.FirstStages.{whole_so, written_many}
use Rattle.write_any.proofs.WriteStanding.{unmarked_all, BeforeTake, AtEnd}

-- where none is owned each is lacking
none_owned : (touched : ℕ) → touched ≤ data_lacking touched []
none_owned touched = by (nat_lt 0 touched) refl
  where
    by : (b : Bool) → nat_lt 0 touched ≡ b → touched ≤ data_lacking touched []
    by true is = subst (λ (b : Bool). touched ≤ (if b then touched - 0 else (if (0 == touched) && b && not (is_one_run []) then 1 else 0))) (sym is) (omega arith)
    by false is = (let none = ltb-false 0 touched is in omega (arith, none))

-- the virtual blocks that some bytes touch
touched_some : (block_bytes offset : ℕ) (bytes : List ℕ) → 0 < length bytes → touched_from block_bytes offset bytes ≡ touched_blocks block_bytes offset (length bytes)
touched_some block_bytes offset [] some = absurd (omega (arith, some))
touched_some block_bytes offset (byte ∷ bytes) some = refl

-- no data block is of the log area
apart_areas : (image : Shape) (block : ℕ) → is_in_area image Data block ≡ true → is_in_area image Log block ≡ false
apart_areas image block is = by (nat_lt image.data_blocks block) refl
  where
    high : block ≤ image.data_blocks
    high = leb-true block image.data_blocks (and_parts (nat_le 1 block) (nat_le block image.data_blocks) is).1

    by : (b : Bool) → nat_lt image.data_blocks block ≡ b → is_in_area image Log block ≡ false
    by true e = absurd (let past = ltb-true image.data_blocks block e in let low = high in omega (arith, past, low))
    by false e = ap (λ (b : Bool). b && nat_le block (image.data_blocks + image.log_blocks)) e

none_in_log : (image : Shape) (numbers : List ℕ) → ((block : ℕ) → is_listed numbers block ≡ true → is_in_area image Data block ≡ true) → filter (λ (block : ℕ). is_in_area image Log block) numbers ≡ []
none_in_log image [] each = refl
none_in_log image (b ∷ numbers) each =
    ap (λ (in_log : Bool). if in_log then b ∷ filter (λ (block : ℕ). is_in_area image Log block) numbers else filter (λ (block : ℕ). is_in_area image Log block) numbers)
    (apart_areas image b (each b (or_left (b == b) (is_listed numbers b) (eq-eqb b b refl))))
    ∙ none_in_log image numbers (λ block listed. each block (or_right (b == block) (is_listed numbers block) listed))

pub numbers_unmarked : (owned : List OwnedBlock) → owned_numbers (unmarked_all owned) ≡ owned_numbers owned
numbers_unmarked [] = refl
numbers_unmarked (o ∷ owned) = ap (λ (l : List ℕ). o.block ∷ l) (numbers_unmarked owned)

module _ (offset : ℕ) (s : Seat) (whole : IsWhole offset s) where
  some_size : 0 < s.geometry.block_bytes
  some_size = some_block_bytes s.geometry.block_bytes s.geometry.block_allowed

  pub some_bytes : 0 < length s.calling.bytes
  some_bytes = (let all = whole.bytes in let one = whole.some in let size = some_size in
      let least : 1 * s.geometry.block_bytes ≤ block_count s * s.geometry.block_bytes = mul-le-mul_right s.geometry.block_bytes one in omega (arith, all, least, size))

  pub touched_count : touched_from s.geometry.block_bytes offset s.calling.bytes ≡ block_count s
  touched_count = touched_some s.geometry.block_bytes offset s.calling.bytes some_bytes
      ∙ (ap (λ (n : ℕ). touched_blocks s.geometry.block_bytes n (length s.calling.bytes)) whole.starts
      ∙ (ap (λ (n : ℕ). touched_blocks s.geometry.block_bytes (virt_at offset s * s.geometry.block_bytes) n) whole.bytes
      ∙ whole_touched s.geometry.block_bytes (virt_at offset s) (block_count s) some_size whole.some))

module _ (offset : ℕ) (o : Origin) (seat : ℕ) (s0 : Seat) (g0 : Ghost) (may : MayWrite offset o seat s0 g0) where
  pub lacks_data : (t : Seat) (h : Ghost) → BeforeTake offset o seat s0 g0 t h → MayLack Data (block_count s0) t h
  lacks_data t h before =
      (let whole = whole_so offset o seat s0 g0 may t before.writing.rest in
      let count : block_count t ≡ block_count s0 = ap block_count before.writing.rest in
      let none : length t.blocks.owned ≡ 0 = ap (λ (l : List OwnedBlock). length l) before.owns.owned in
      let is : lacking t t.calling.job Data ≡ data_lacking (block_count t) [] =
      ap (λ (job : Task). lacking t job Data) (ap (λ (u : Seat). u.calling.job) before.writing.rest ∙ may.job)
      ∙ (ap (λ (n : ℕ). data_lacking n (owned_in t Data)) (touched_count offset t whole)
      ∙ ap (λ (l : List OwnedBlock). data_lacking (block_count t) (filter (λ (block : ℕ). is_in_area (seat_shape t) Data block) (owned_numbers l))) before.owns.owned) in
      let lacks = none_owned (block_count t) in
      record {
        some = may.whole.some;
        lacks = omega (arith, is, lacks, count);
        room = (let few = whole.few in omega (arith, few, none, count));
      })

  -- and a log block, where it has written its data blocks
  pub lacks_log : (t : Seat) (h : Ghost) → AtEnd offset o seat s0 g0 t h → MayLack Log 1 t h
  lacks_log t h before =
      (let whole = whole_so offset o seat s0 g0 may t before.writing.rest in
      let count : block_count t ≡ block_count s0 = ap block_count before.writing.rest in
      let none : owned_in t Log ≡ [] = none_in_log (seat_shape t) (owned_numbers t.blocks.owned)
      (λ block listed. subst (λ (image : Shape). is_in_area image Data block ≡ true) (sym (ap seat_shape before.writing.rest))
      (before.owns.written.composed.numbers block (ap (λ (l : List ℕ). is_listed l block) (numbers_unmarked t.blocks.owned) ∙ listed))) in
      let is : lacking t t.calling.job Log ≡ 1 =
      ap (λ (job : Task). lacking t job Log) (ap (λ (u : Seat). u.calling.job) before.writing.rest ∙ may.job)
      ∙ ap (λ (l : List ℕ). 1 - length l) none in
      record {
        some = omega arith;
        lacks = omega (arith, is);
        room = (let few = whole.few in let many = (written_many offset o seat s0 g0 may t before.owns).1 in omega (arith, few, many, count));
      })
