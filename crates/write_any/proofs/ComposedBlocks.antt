-- What the blocks of a write hold once they are composed.
use Rattle.std.proofs.Common.{◌≡◌, ◌⊎◌, inl, inr, ℕ, zero, suc, ◌+◌, ◌-◌, ◌*◌, ◌^◌, ◌<◌, ◌≤◌, ◌==◌, Bool, true, false, List, [], ◌∷◌, length, replicate, slice_index, slice_set, if◌then◌else◌, refl, sym, ap, subst, ◌∙◌, arith, mul-le-mul_right}
use Rattle.std.specs.List.{slice_range}
use Rattle.std.proofs.Math.ListN.{get_or-map}
use Rattle.std.proofs.lemmas.Bool.{eqb-true, lt-ltb, le-ltb}
use Rattle.std.proofs.lemmas.List.{get_or-set_other, length-set, length-map, length-replicate}
use Rattle.log_entry.specs.WordBytes.{word_bytes}
use Rattle.log_entry.specs.Words.{run_word, indirect_word}
use Rattle.log_entry.specs.declared.shapes.Area.TheVariants.{Data}
use Rattle.log_image.specs.Image.{shape_by}
use Rattle.log_image.specs.Chains.{all_different, is_listed}
use Rattle.log_image.proofs.HoldingLemmas.{zeros_after}
use Rattle.log_image.proofs.ImageLemmas.{in_range, length_range}
use Rattle.pmem_words.specs.Owned.{owned_at}
use Rattle.pmem_words.specs.declared.owned.OwnedBlock.{OwnedBlock}
use Rattle.pmem_words.specs.Seats.{Seat}
use Rattle.log_core.specs.Views.{Ghost}
use Rattle.log_core.specs.Origin.{Origin}
use Rattle.log_core.specs.Works.{words_of, owned_block}
use Rattle.log_core.specs.Needs.{owned_numbers, is_in_area}
use Rattle.log_core.proofs.BlockWords.{q_range}
use Rattle.log_core.proofs.clauses.Others.{owned_listed}
use Rattle.block_bitmap.proofs.TakeWords.{area_from}
use Rattle.log_core.specs.Answers.{Enters}
use Rattle.log_core.proofs.machines.Parts.{enters_more}
use Rattle.log_core.proofs.WordBytesAt.{eight_words}
use Rattle.log_core.proofs.writes.PlacedBytes.{word_has}
use Rattle.log_core.proofs.writes.RunLists.{runs_of, are_runs, blocks_back}
use Rattle.write_any.specs.Composing.{block_count, virt_at, follow, are_one_run, blocks_set, run_at, runs_at, word_set, runs_set, runs_composed, composed_by, composed}
use Rattle.write_any.specs.WriteWithin.{AreBytes, MayWrite, unwritten}
use Rattle.write_any.proofs.Composed.{set_bare, set_long, runs_bare}
use Rattle.write_any.proofs.ComposedSteps.{run_fits, first_fits, enters_blocks, enters_composed_runs}
use Rattle.write_any.proofs.Lacks.{numbers_unmarked}
use Rattle.write_any.proofs.Marks.{filled_marks, fenced_marks}
use Rattle.write_any.proofs.RunsHeld.{firsts, firsts_long, firsts_at, runs_words, runs_words_long, runs_words_small, runs_words_before, are_held, indirect_words}
use Rattle.write_any.proofs.WordsSet.{AreWords, range_bytes, zero_words, set_words, blocks_words, blocks_words_long, blocks_words_at, blocks_words_behind, blocks_words_small}
use Rattle.write_any.proofs.WriteStanding.{unmarked, unmarked_all, HoldsBytes, AreOneRun, AreRunsOf, AreComposed}

-- the same blocks, but for their marks
word_marks : (place word value : ℕ) (s : Seat) → unmarked_all (word_set place word value s).blocks.owned ≡ unmarked_all s.blocks.owned
word_marks place word value s = fenced_marks _ place false ∙ filled_marks s.blocks.owned place false

blocks_marks : (count : ℕ) (s : Seat) → unmarked_all (blocks_set count s).blocks.owned ≡ unmarked_all s.blocks.owned
blocks_marks zero s = refl
blocks_marks (suc count) s = fenced_marks _ count false ∙ (filled_marks (blocks_set count s).blocks.owned count false ∙ blocks_marks count s)

runs_marks : (count place : ℕ) (s : Seat) → unmarked_all (runs_set count place s).blocks.owned ≡ unmarked_all s.blocks.owned
runs_marks count zero s = word_marks count 1 (run_word (run_at 0 s)) s
runs_marks count (suc place) s = word_marks count (runs_at (suc place) s) (run_word (run_at (suc place) s)) (runs_set count place s) ∙ runs_marks count place s

unmarked_at : (owned : List OwnedBlock) (place : ℕ) → owned_at (unmarked_all owned) place ≡ unmarked (owned_at owned place)
unmarked_at owned place = get_or-map unmarked owned place (record { block = 0; area = Data; filled = false; fenced = false })

-- the bytes of a block
abbrev pub source : Seat → ℕ → List ℕ
source s place = slice_range s.calling.bytes (place * s.geometry.block_bytes) (place * s.geometry.block_bytes + 8 * words_of s)

-- the contents once the first blocks are set, and once the words of the runs are
blocks_contents : (count : ℕ) (s : Seat) → (blocks_set count s).blocks.contents ≡ blocks_words (source s) (words_of s) s.blocks.contents count
blocks_contents zero s = refl
blocks_contents (suc count) s =
    ap (λ (u : Seat). Rattle.pmem_words.specs.ByteWords.words_set (source u count) (blocks_set count s).blocks.contents (count * words_of u) (words_of u)) (set_bare count s)
    ∙ ap (λ (l : List ℕ). Rattle.pmem_words.specs.ByteWords.words_set (source s count) l (count * words_of s) (words_of s)) (blocks_contents count s)

runs_contents : (count place : ℕ) (s : Seat) → (runs_set count place s).blocks.contents ≡ runs_words s s.blocks.contents (count * words_of s) place
runs_contents count zero s = refl
runs_contents count (suc place) s =
    ap (λ (u : Seat). slice_set (runs_set count place s).blocks.contents (count * words_of u + runs_at (suc place) s) (run_word (run_at (suc place) s))) (runs_bare count place s)
    ∙ ap (λ (l : List ℕ). slice_set l (count * words_of s + runs_at (suc place) s) (run_word (run_at (suc place) s))) (runs_contents count place s)

-- blocks that are one run, each by its place
run_each : (block : ℕ) (owned : List OwnedBlock) → follow block owned ≡ true → (place : ℕ) → place < length owned → (owned_at owned place).block ≡ block + suc place
run_each block [] one place low = absurd (omega (arith, low))
run_each block (o ∷ owned) one place low = by (o.block == block + 1) refl one (run_each o.block owned)
  where
    by : (b : Bool) → (o.block == block + 1) ≡ b → (if b then follow o.block owned else false) ≡ true → (follow o.block owned ≡ true → (k : ℕ) → k < length owned → (owned_at owned k).block ≡ o.block + suc k) →
        (owned_at (o ∷ owned) place).block ≡ block + suc place
    by true is more rest = at place low
      where
        next : o.block ≡ block + 1
        next = eqb-true o.block (block + 1) is

        at : (k : ℕ) → k < length (o ∷ owned) → (owned_at (o ∷ owned) k).block ≡ block + suc k
        at zero inside = (let first = next in omega (arith, first))
        at (suc k) inside = (let is = rest more k (omega (arith, inside)) in let first = next in omega (arith, is, first))
    by false is more rest = cc

pub one_run_each : (owned : List OwnedBlock) → are_one_run owned ≡ true → (place : ℕ) → place < length owned → (owned_at owned place).block ≡ (owned_at owned 0).block + place
one_run_each [] one place low = absurd (omega (arith, low))
one_run_each (o ∷ owned) one zero low = omega arith
one_run_each (o ∷ owned) one (suc place) low = run_each o.block owned one place (omega (arith, low))

module _ (offset : ℕ) (o : Origin) (seat : ℕ) (s0 : Seat) (g0 : Ghost) where
  -- the seat owns this many blocks of the data area, none twice, and each of their words is 0
  pub record OwnsZeros (many : ℕ) (s : Seat) : Type 0 where
    pub rest : unwritten s ≡ unwritten s0
    pub many_are : length s.blocks.owned ≡ many
    pub in_data : (place : ℕ) → place < length s.blocks.owned → (owned_at s.blocks.owned place).area ≡ Data
    pub numbers : (block : ℕ) → is_listed (owned_numbers s.blocks.owned) block ≡ true → is_in_area (shape_by s0.geometry) Data block ≡ true
    pub once : all_different (owned_numbers s.blocks.owned) ≡ true
    pub zeros : s.blocks.contents ≡ replicate (many * words_of s0) 0

  module _ (may : MayWrite offset o seat s0 g0) (many : ℕ) (s : Seat) (owns : OwnsZeros many s) (least : block_count s0 ≤ many) where
    abbrev count : ℕ
    count = block_count s0

    abbrev q : ℕ
    q = words_of s0

    abbrev size : ℕ
    size = s0.geometry.block_bytes

    -- the words of the blocks that hold the bytes
    abbrev words : List ℕ
    words = blocks_words (source s0) q (replicate (many * q) 0) count

    words_are : (blocks_set count s).blocks.contents ≡ words
    words_are = blocks_contents count s ∙ (ap (λ (u : Seat). blocks_words (source u) (words_of u) s.blocks.contents count) owns.rest ∙ ap (λ (l : List ℕ). blocks_words (source s0) q l count) owns.zeros)

    words_many : length words ≡ many * q
    words_many = blocks_words_long (source s0) q (replicate (many * q) 0) count ∙ length-replicate {A = ℕ} (many * q) 0

    source_bytes : (place : ℕ) → AreBytes (source s0 place)
    source_bytes place = range_bytes s0.calling.bytes (place * size) (place * size + 8 * q) may.bytes

    words_small : AreWords words
    words_small = blocks_words_small (source s0) q (replicate (many * q) 0) count source_bytes (zero_words (many * q))

    room : count * q ≤ many * q
    room = mul-le-mul_right q least

    none_behind : (k : ℕ) → count * q ≤ k → slice_index words k ≡ 0
    none_behind k behind = blocks_words_behind (source s0) q (replicate (many * q) 0) count k behind ∙ zeros_after [] (many * q) k

    -- each block that does
    held_words : (place : ℕ) → place < count → HoldsBytes offset o seat s0 g0 words place
    held_words place low index at within few =
        ap (λ (word : ℕ). slice_index (word_bytes (word ∷ [])) at) (blocks_words_at (source s0) q (replicate (many * q) 0) count place index (let long = length-replicate {A = ℕ} (many * q) 0 in let fits = room in omega (arith, long, fits)) low within)
        ∙ (word_has (source s0 place) (8 * index) (omega (arith, long, within)) (source_bytes place) at few
        ∙ (in_range s0.calling.bytes (place * size) (8 * q) (8 * index + at) (omega (arith, within, few))
        ∙ ap (λ (k : ℕ). slice_index s0.calling.bytes k) (let same : place * size + (8 * index + at) ≡ place * size + 8 * index + at = omega arith in same)))
      where
        eight : 8 * q ≡ size
        eight = eight_words size s0.geometry.block_allowed

        long : length (source s0 place) ≡ 8 * q
        long = length_range s0.calling.bytes (place * size) (8 * q) (let all = may.whole.bytes in let next : (place + 1) * size ≤ count * size = mul-le-mul_right size (omega (arith, low)) in
            let split : (place + 1) * size ≡ place * size + size = omega arith in let same = eight in omega (arith, all, next, split, same))

    -- with contents that have those words first, whatever form the blocks have
    composed_so : (contents : List ℕ) → ((k : ℕ) → k < count * q → slice_index contents k ≡ slice_index words k) → AreWords contents → length contents ≡ many * q →
        AreOneRun offset o seat s0 g0 (unmarked_all s.blocks.owned) ⊎ AreRunsOf offset o seat s0 g0 (unmarked_all s.blocks.owned) contents → AreComposed offset o seat s0 g0 (unmarked_all s.blocks.owned) contents
    composed_so contents first small long form = record {
      form = form;
      holds = λ place low index at within few. ap (λ (word : ℕ). slice_index (word_bytes (word ∷ [])) at) (first (place * q + index) (under place index low within)) ∙ held_words place low index at within few;
      in_data = λ place low. ap (λ (b : OwnedBlock). b.area) (unmarked_at s.blocks.owned place) ∙ owns.in_data place (let same = length-map s.blocks.owned unmarked in omega (arith, low, same));
      numbers = λ block listed. owns.numbers block (ap (λ (l : List ℕ). is_listed l block) (sym (numbers_unmarked s.blocks.owned)) ∙ listed);
      once = ap (λ (l : List ℕ). all_different l) (numbers_unmarked s.blocks.owned) ∙ owns.once;
      small = small;
      long = long ∙ ap (λ (n : ℕ). n * q) (sym (length-map s.blocks.owned unmarked ∙ owns.many_are));
    }
      where
        under : (place index : ℕ) → place < count → index < q → place * q + index < count * q
        under place index low within = (let next : (place + 1) * q ≤ count * q = mul-le-mul_right q (omega (arith, low)) in let split : (place + 1) * q ≡ place * q + q = omega arith in omega (arith, next, split, within))

    count_is : block_count s ≡ count
    count_is = ap block_count owns.rest

    -- the blocks may be set
    enters_set : (g : Ghost) → Enters g s (blocks_set count s) []
    enters_set g = enters_blocks g s (subst AreBytes (sym (ap (λ (u : Seat). u.calling.bytes) owns.rest)) may.bytes) count (let same = owns.many_are in omega (arith, least, same))

    -- a block for each virtual block, and they are one run
    module _ (all : many ≡ count) where
      composed_one : composed offset s ≡ blocks_set count s
      composed_one = ap (λ (b : Bool). composed_by b (virt_at offset s) (block_count s) (blocks_set (block_count s) s)) (le-ltb (block_count s) (length s.blocks.owned) (let is = count_is in let same = owns.many_are in omega (arith, is, same, all)))
          ∙ ap (λ (n : ℕ). blocks_set n s) count_is

      pub enters_one_run : (g : Ghost) → Enters g s (composed offset s) []
      enters_one_run g = subst (λ (t : Seat). Enters g s t []) (sym composed_one) (enters_set g)

      pub one_run_composed : are_one_run s.blocks.owned ≡ true → AreComposed offset o seat s0 g0 (unmarked_all (composed offset s).blocks.owned) (composed offset s).blocks.contents
      one_run_composed one = subst (λ (t : Seat). AreComposed offset o seat s0 g0 (unmarked_all t.blocks.owned) t.blocks.contents) (sym composed_one)
          (subst (λ (l : List OwnedBlock). AreComposed offset o seat s0 g0 l (blocks_set count s).blocks.contents) (sym (blocks_marks count s))
          (subst (λ (l : List ℕ). AreComposed offset o seat s0 g0 (unmarked_all s.blocks.owned) l) (sym words_are)
          (composed_so words (λ k low. refl) words_small words_many (inl (record {
            many = length-map s.blocks.owned unmarked ∙ (owns.many_are ∙ all);
            each = λ place low. ap (λ (b : OwnedBlock). b.block) (unmarked_at s.blocks.owned place)
                ∙ (one_run_each s.blocks.owned one place (let same = owns.many_are in omega (arith, low, same, all)) ∙ ap (λ (b : OwnedBlock). b.block + place) (sym (unmarked_at s.blocks.owned 0)));
          })))))

    -- a block more: it has the words of their runs
    module _ (more : many ≡ count + 1) where
      abbrev filled : Seat
      filled = blocks_set count s

      abbrev virt : ℕ
      virt = virt_at offset s0

      abbrev last : ℕ
      last = count - 1

      all : count ≡ last + 1
      all = (let some = may.whole.some in omega (arith, some))

      wide : words_of filled ≡ q
      wide = ap words_of (set_bare count s) ∙ ap words_of owns.rest

      low_virt : virt < 2 ^ 16
      low_virt = (let inside = may.whole.inside in let some = may.whole.some in omega (arith, inside, some))

      behind : count < length filled.blocks.owned
      behind = (let long = set_long count s in let same = owns.many_are in omega (arith, long, same, more))

      few : count < words_of filled
      few = (let most = may.whole.few in let range = (q_range s0.geometry).0 in let same = wide in omega (arith, most, range, same))

      number_is : (k : ℕ) → owned_block filled k ≡ (owned_at (unmarked_all s.blocks.owned) k).block
      number_is k = ap (λ (b : OwnedBlock). b.block) (sym (unmarked_at filled.blocks.owned k)) ∙ ap (λ (l : List OwnedBlock). (owned_at l k).block) (blocks_marks count s)

      number_small : (k : ℕ) → k < count → owned_block filled k < 2 ^ 16
      number_small k low =
          (let inside : k < length s.blocks.owned = (let same = owns.many_are in omega (arith, low, same, more)) in
          let here = (area_from s0.geometry Data (owned_block s k) (owns.numbers (owned_block s k) (owned_listed s.blocks.owned k inside))).1 in
          let total = s0.geometry.few_blocks in
          let same : owned_block filled k ≡ owned_block s k = number_is k ∙ ap (λ (b : OwnedBlock). b.block) (unmarked_at s.blocks.owned k) in
          omega (arith, here, total, same))

      none : (k : ℕ) → count * q < k → slice_index words k ≡ 0
      none k past = none_behind k (omega (arith, past))

      -- the contents, with those words
      abbrev first : ℕ
      first = indirect_word (record { virt = virt; count = count; runs = runs_at last filled; leftover = 0 })

      abbrev whole : List ℕ
      whole = slice_set (runs_words filled words (count * q) last) (count * q + 0) first

      whole_is : (runs_composed virt count filled).blocks.contents ≡ whole
      whole_is =
          ap (λ (u : Seat). slice_set (runs_set count last filled).blocks.contents (count * words_of u + 0) first) (runs_bare count last filled)
          ∙ (ap (λ (n : ℕ). slice_set (runs_set count last filled).blocks.contents (count * n + 0) first) wide
          ∙ (ap (λ (l : List ℕ). slice_set l (count * q + 0) first) (runs_contents count last filled)
          ∙ (ap (λ (n : ℕ). slice_set (runs_words filled filled.blocks.contents (count * n) last) (count * q + 0) first) wide
          ∙ ap (λ (l : List ℕ). slice_set (runs_words filled l (count * q) last) (count * q + 0) first) words_are)))

      whole_first : (k : ℕ) → k < count * q → slice_index whole k ≡ slice_index words k
      whole_first k low = get_or-set_other (runs_words filled words (count * q) last) (count * q + 0) k first 0 (λ same. omega (arith, same, low)) ∙ runs_words_before filled words (count * q) last k (omega (arith, low))

      whole_small : AreWords whole
      whole_small = set_words (runs_words filled words (count * q) last) (count * q + 0) first
          (runs_words_small filled words (count * q) last (λ k low. run_fits filled count few number_small k (let is = all in omega (arith, low, is))) words_small)
          (first_fits filled count few virt may.whole.some low_virt)

      whole_long : length whole ≡ many * q
      whole_long = length-set (runs_words filled words (count * q) last) (count * q + 0) first ∙ (runs_words_long filled words (count * q) last ∙ words_many)

      are_runs_of : AreRunsOf offset o seat s0 g0 (unmarked_all s.blocks.owned) whole
      are_runs_of = record {
        many = length-map s.blocks.owned unmarked ∙ (owns.many_are ∙ more);
        runs = runs_of (firsts filled last);
        are_runs = are_runs (firsts filled last);
        blocks = λ place low. ap (λ (l : List ℕ). slice_index l place) (blocks_back (firsts filled last)) ∙ (firsts_at filled last place (let is = all in omega (arith, low, is)) ∙ number_is place);
        long = ap (λ (l : List ℕ). length l) (blocks_back (firsts filled last)) ∙ (firsts_long filled last ∙ sym all);
        words = indirect_words filled words (count * q) last count virt q (are_held filled words (count * q) none last) all
            (let long = words_many in let split : (count + 1) * q ≡ count * q + q = omega arith in let same : many * q ≡ (count + 1) * q = ap (λ (n : ℕ). n * q) more in omega (arith, long, split, same));
      }

      composed_more : composed offset s ≡ runs_composed virt count filled
      composed_more = ap (λ (b : Bool). composed_by b (virt_at offset s) (block_count s) (blocks_set (block_count s) s)) (lt-ltb (block_count s) (length s.blocks.owned) (let is = count_is in let same = owns.many_are in omega (arith, is, same, more)))
          ∙ (ap (λ (n : ℕ). runs_composed (virt_at offset s) n (blocks_set n s)) count_is ∙ ap (λ (u : Seat). runs_composed (virt_at offset u) count filled) owns.rest)

      pub enters_runs_of : (g : Ghost) → Enters g s (composed offset s) []
      enters_runs_of g = subst (λ (t : Seat). Enters g s t []) (sym composed_more)
          (enters_more g s filled (runs_composed virt count filled) [] (enters_set g) (enters_composed_runs g filled count behind few number_small virt may.whole.some low_virt))

      pub runs_are_composed : AreComposed offset o seat s0 g0 (unmarked_all (composed offset s).blocks.owned) (composed offset s).blocks.contents
      runs_are_composed = subst (λ (t : Seat). AreComposed offset o seat s0 g0 (unmarked_all t.blocks.owned) t.blocks.contents) (sym composed_more)
          (subst (λ (l : List OwnedBlock). AreComposed offset o seat s0 g0 l (runs_composed virt count filled).blocks.contents)
          (sym (word_marks count 0 first (runs_set count last filled) ∙ (runs_marks count last filled ∙ blocks_marks count s)))
          (subst (λ (l : List ℕ). AreComposed offset o seat s0 g0 (unmarked_all s.blocks.owned) l) (sym whole_is) (composed_so whole whole_first whole_small whole_long (inr are_runs_of))))
