-- Data blocks that a write takes, behind those that it owns.
use Rattle.std.proofs.Common.{◌≡◌, ◌⊎◌, inl, inr, ℕ, ◌+◌, ◌-◌, ◌*◌, ◌<◌, ◌≤◌, ◌==◌, ◌&&◌, not, nat_lt, Bool, true, false, List, ◌++◌, length, map, replicate, if◌then◌else◌, refl, sym, ap, subst, ◌∙◌, arith, length-append}
use Rattle.std.proofs.Math.ListN.{get_or-map}
use Rattle.std.proofs.lemmas.Bool.{cases_lt, or_cases, eq-eqb, lt-ltb, le-ltb, false_from_ne_true}
use Rattle.std.proofs.lemmas.List.{get_or_append_left, get_or-append_right, length-map, replicate-append-replicate}
use Rattle.log_entry.specs.declared.shapes.Area.TheVariants.{Data}
use Rattle.log_image.specs.Image.{Shape}
use Rattle.log_image.specs.Chains.{all_different, is_listed}
use Rattle.pmem_words.specs.Owned.{owned_at}
use Rattle.pmem_words.specs.declared.keeps.Task.{Task}
use Rattle.pmem_words.specs.declared.owned.OwnedBlock.{OwnedBlock}
use Rattle.pmem_words.specs.Seats.{Seat}
use Rattle.log_core.specs.Views.{Ghost}
use Rattle.log_core.specs.Origin.{Origin}
use Rattle.log_core.specs.Works.{words_of, seat_shape}
use Rattle.log_core.specs.Needs.{is_in_area, is_one_run, owned_numbers, owned_in, data_lacking, lacking}
use Rattle.block_bitmap.specs.TakeScript.{fresh}
use Rattle.block_bitmap.specs.TakeWithin.{MayLack, HasGrown}
use Rattle.block_bitmap.proofs.TakeGrowth.{numbers_more, kept_has}
use Rattle.block_bitmap.proofs.TakeMarks.{has_both}
use Rattle.write_any.specs.Composing.{block_count, HasBlocks, are_one_run}
use Rattle.write_any.specs.WriteWithin.{MayWrite, unwritten}
use Rattle.write_any.proofs.ComposedBlocks.{OwnsZeros}
use Rattle.write_any.proofs.FirstStages.{whole_so, few_count}
use Rattle.write_any.proofs.Lacks.{touched_count}
use Rattle.write_any.proofs.RisingNumbers.{Rises, one_run_in_order}
use Rattle.write_any.proofs.WriteStanding.{AreTaken, OwnsNone}

-- each block that was just taken is of the area
fresh_area : (blocks : List ℕ) (place : ℕ) → (owned_at (map (fresh Data) blocks) place).area ≡ Data
fresh_area blocks place = ap (λ (b : OwnedBlock). b.area) (get_or-map (fresh Data) blocks place 0)

module _ (offset : ℕ) (o : Origin) (seat : ℕ) (s0 : Seat) (g0 : Ghost) where
  pub owns_no_zeros : (s : Seat) → unwritten s ≡ unwritten s0 → OwnsNone offset o seat s0 g0 s → OwnsZeros offset o seat s0 g0 0 s
  owns_no_zeros s rest none = record {
    rest = rest;
    many_are = ap (λ (l : List OwnedBlock). length l) none.owned;
    in_data = λ place low. absurd (let empty = ap (λ (l : List OwnedBlock). length l) none.owned in omega (arith, low, empty));
    numbers = λ block listed. (let never : false ≡ true = sym (ap (λ (l : List OwnedBlock). is_listed (owned_numbers l) block) none.owned) ∙ listed in cc);
    once = ap (λ (l : List OwnedBlock). all_different (owned_numbers l)) none.owned;
    zeros = none.contents ∙ ap (λ (n : ℕ). replicate n 0) (let no : 0 ≡ 0 * words_of s0 = omega arith in no);
  }

  pub owns_taken : (s : Seat) → unwritten s ≡ unwritten s0 → AreTaken offset o seat s0 g0 s.blocks.owned → s.blocks.contents ≡ replicate (block_count s0 * words_of s0) 0 → OwnsZeros offset o seat s0 g0 (block_count s0) s
  owns_taken s rest taken zeros = record { rest = rest; many_are = taken.many; in_data = taken.in_data; numbers = taken.numbers; once = taken.once; zeros = zeros }

  -- more of them
  module _ (many : ℕ) (start t : Seat) (blocks : List ℕ) (owns : OwnsZeros offset o seat s0 g0 many start) (grown : HasGrown Data start blocks t) (once : all_different (owned_numbers t.blocks.owned) ≡ true) where
    now_rest : unwritten t ≡ unwritten s0
    now_rest = ap unwritten grown.seat ∙ owns.rest

    now_owned : t.blocks.owned ≡ start.blocks.owned ++ map (fresh Data) blocks
    now_owned = ap (λ (u : Seat). u.blocks.owned) grown.seat

    now_many : length t.blocks.owned ≡ many + length blocks
    now_many = ap (λ (l : List OwnedBlock). length l) now_owned ∙ (length-append start.blocks.owned (map (fresh Data) blocks)
        ∙ (let same = length-map blocks (fresh Data) in let before = owns.many_are in omega (arith, same, before)))

    now_in_data : (place : ℕ) → (place < length start.blocks.owned) ⊎ (length start.blocks.owned ≤ place) → (owned_at (start.blocks.owned ++ map (fresh Data) blocks) place).area ≡ Data
    now_in_data place (inl before) = ap (λ (b : OwnedBlock). b.area) (get_or_append_left start.blocks.owned (map (fresh Data) blocks) (record { block = 0; area = Data; filled = false; fenced = false }) place before) ∙ owns.in_data place before
    now_in_data place (inr behind) = ap (λ (b : OwnedBlock). b.area) (get_or-append_right start.blocks.owned (map (fresh Data) blocks) (length start.blocks.owned) place (record { block = 0; area = Data; filled = false; fenced = false }) refl behind)
        ∙ fresh_area blocks (place - length start.blocks.owned)

    now_numbers : (block : ℕ) → (is_listed (owned_numbers start.blocks.owned) block ≡ true) ⊎ (is_listed blocks block ≡ true) → is_in_area (seat_shape s0) Data block ≡ true
    now_numbers block (inl before) = owns.numbers block before
    now_numbers block (inr new) = subst (λ (image : Shape). is_in_area image Data block ≡ true) (ap seat_shape now_rest) (grown.in_area block new)

    now_zeros : t.blocks.contents ≡ replicate ((many + length blocks) * words_of s0) 0
    now_zeros = ap (λ (u : Seat). u.blocks.contents) grown.seat
        ∙ (ap (λ (l : List ℕ). l ++ replicate (length blocks * words_of start) 0) owns.zeros
        ∙ (ap (λ (u : Seat). replicate (many * words_of s0) 0 ++ replicate (length blocks * words_of u) 0) owns.rest
        ∙ (replicate-append-replicate (many * words_of s0) (length blocks * words_of s0) 0
        ∙ ap (λ (n : ℕ). replicate n 0) (let sum : many * words_of s0 + length blocks * words_of s0 ≡ (many + length blocks) * words_of s0 = omega arith in sum))))

    pub owns_more : OwnsZeros offset o seat s0 g0 (many + length blocks) t
    owns_more = record {
      rest = now_rest;
      many_are = now_many;
      in_data = λ place low. ap (λ (l : List OwnedBlock). (owned_at l place).area) now_owned ∙ now_in_data place (cases_lt place (length start.blocks.owned));
      numbers = λ block listed. now_numbers block (or_cases (is_listed (owned_numbers start.blocks.owned) block) (is_listed blocks block)
          (sym (ap (λ (l : List OwnedBlock). is_listed (owned_numbers l) block) now_owned
          ∙ (ap (λ (l : List ℕ). is_listed l block) (numbers_more Data start.blocks.owned blocks) ∙ has_both (owned_numbers start.blocks.owned) blocks block)) ∙ listed));
      once = once;
      zeros = now_zeros;
    }

  module _ (may : MayWrite offset o seat s0 g0) where
    -- a block for each virtual block, or one more
    pub taken_blocks : (many : ℕ) (s : Seat) → OwnsZeros offset o seat s0 g0 many s → block_count s0 ≤ many → many ≤ block_count s0 + 1 → HasBlocks offset s
    taken_blocks many s owns least most = (let same = owns.many_are in let count = ap block_count owns.rest in let few = few_count offset o seat s0 g0 may in record {
      whole = whole_so offset o seat s0 g0 may s owns.rest;
      least = omega (arith, same, count, least);
      most = omega (arith, same, most, few);
    })

    -- blocks that are not one run want one more
    module _ (s : Seat) (h : Ghost) (owns : OwnsZeros offset o seat s0 g0 (block_count s0) s) (rises : Rises (owned_numbers s.blocks.owned)) (apart : are_one_run s.blocks.owned ≡ false) where
      abbrev numbers : List ℕ
      numbers = owned_numbers s.blocks.owned

      not_one_run : is_one_run numbers ≡ false
      not_one_run = false_from_ne_true (is_one_run numbers) (λ one. (let both : true ≡ false = sym (one_run_in_order s.blocks.owned rises one) ∙ apart in cc))

      all_in : owned_in s Data ≡ numbers
      all_in = kept_has (λ (block : ℕ). is_in_area (seat_shape s) Data block) numbers (λ block listed. subst (λ (image : Shape). is_in_area image Data block ≡ true) (sym (ap seat_shape owns.rest)) (owns.numbers block listed))

      lacks_by : (a b c d : Bool) → a ≡ false → b ≡ true → c ≡ true → d ≡ false → (if a then block_count s - length numbers else (if b && c && not d then 1 else 0)) ≡ 1
      lacks_by a b c d first second third last =
          ap (λ (x : Bool). if x then block_count s - length numbers else (if b && c && not d then 1 else 0)) first
          ∙ (ap (λ (x : Bool). if x && c && not d then 1 else 0) second ∙ (ap (λ (x : Bool). if x && not d then 1 else 0) third ∙ ap (λ (x : Bool). if not x then 1 else 0) last))

      pub lacks_runs : MayLack Data 1 s h
      lacks_runs =
          (let whole = whole_so offset o seat s0 g0 may s owns.rest in
          let count : block_count s ≡ block_count s0 = ap block_count owns.rest in
          let many : length numbers ≡ block_count s0 = length-map s.blocks.owned (λ (b : OwnedBlock). b.block) ∙ owns.many_are in
          let is : lacking s s.calling.job Data ≡ 1 =
          ap (λ (job : Task). lacking s job Data) (ap (λ (u : Seat). u.calling.job) owns.rest ∙ may.job)
          ∙ (ap (λ (n : ℕ). data_lacking n (owned_in s Data)) (touched_count offset s whole)
          ∙ (ap (λ (l : List ℕ). data_lacking (block_count s) l) all_in
          ∙ lacks_by (nat_lt (length numbers) (block_count s)) (length numbers == block_count s) (nat_lt 0 (block_count s)) (is_one_run numbers)
          (le-ltb (length numbers) (block_count s) (omega (arith, count, many))) (eq-eqb (length numbers) (block_count s) (many ∙ sym count)) (lt-ltb 0 (block_count s) whole.some) not_one_run)) in
          record {
            some = omega arith;
            lacks = omega (arith, is);
            room = (let few = whole.few in let same = owns.many_are in omega (arith, few, same, count));
          })
