-- Every crash leaves words that stand for a file of the history, and so do they when they are cleared.
use Rattle.std.proofs.Common.{◌≡◌, ◌<◌, ◌≤◌, ◌+◌, ◌-◌, ◌*◌, ◌^◌, inl, ℕ, List, length, None, sym, ◌∙◌, ap, subst, arith, slice_index, refl}
use Rattle.log_entry.specs.Fields.{field}
use Rattle.log_entry.specs.Words.{head_word}
use Rattle.log_entry.specs.Geometry.{shape_refusal}
use Rattle.log_entry.specs.declared.layouts.TheConstants.{HEAD_GENERATION, HEAD_UNNAMED}
use Rattle.log_image.specs.Image.{Shape, words_in, total}
use Rattle.log_image.specs.Header.{shape_of, head_block, HasHeader}
use Rattle.log_image.specs.declared.header.TheConstants.{HEADER_VERSION, HEADER_BLOCK_POWER, HEADER_UNNAMED, HEADER_DATA, HEADER_LOG}
use Rattle.log_image.specs.Stands.{StandsIn, StandsBy, Stands}
use Rattle.persistence.specs.Memory.{Memory, cell}
use Rattle.persistence.proofs.ValueLemmas.{index_at-most}
use Rattle.persistence.specs.Survivors.{IsPossible, Survives}
use Rattle.log_core.specs.Entries.{head_place}
use Rattle.log_core.specs.Origin.{Origin, shape, first_position, first_generation}
use Rattle.log_core.specs.Files.{file_at, end_of}
use Rattle.log_core.specs.Cores.{Core}
use Rattle.log_core.specs.Order.{nth_generation, front_of}
use Rattle.log_core.specs.Starts.{IsStart}
use Rattle.log_core.specs.Runs.{end}
use Rattle.log_core.specs.Invariant.{Invariant, KeptIn}
use Rattle.log_core.specs.Crashes.{file_after_first, IsRecovered, CrashesAreRecovered, PresentWordsHaveAll}
use Rattle.log_core.proofs.HistoryFiles.{late_file}
use Rattle.log_core.proofs.Heads.{generation_field, last_value}
use Rattle.log_core.proofs.Fronts.{head_front}
use Rattle.log_core.proofs.ChainPlaces.{head_inside}
use Rattle.log_core.proofs.starts.StartFacts.{same_shape}
use Rattle.log_core.proofs.starts.StartMeets.{start_meets}
use Rattle.log_core.proofs.kinds.RunHolds.{run_from}
use Rattle.log_core.proofs.crashes.Stopped.{opens_as, stops_open}
use Rattle.log_core.proofs.crashes.LeftWords.{certain_left, words_small}
use Rattle.log_core.proofs.crashes.LeftBlocks.{possible, long}
use Rattle.log_core.proofs.crashes.LeftChains.{chain, position, to_end, from_synced, from_end}
use Rattle.log_core.proofs.crashes.LeftFiles.{stands}

-- the shape that two words of a header say
abbrev shape_in : ℕ → ℕ → Shape
shape_in second third = record { data_blocks = field HEADER_DATA third; log_blocks = field HEADER_LOG third; block_bytes = 2 ^ field HEADER_BLOCK_POWER second }

plain_head : (generation block : ℕ) → generation < 2 ^ 32 → block < 2 ^ 16 → field HEAD_UNNAMED (head_word (record { generation = generation; block = block })) ≡ 0
plain_head generation block few small = omega (arith, few, small)

module _ (o : Origin) (c : Core) (start : IsStart o) (inv : Invariant o c) (words : List ℕ) (left : Survives c.memory words) where
  head_left : IsPossible (cell c.memory head_place) (slice_index words head_place)
  head_left = possible o c inv words left head_place (head_inside o c inv)

  -- the generation that is at the head then
  abbrev place : ℕ
  place = head_left.index

  inside : place < length c.generations
  inside = (let count = inv.order.heads.count in let last = head_left.inside in omega (arith, count, last))

  kept : KeptIn o c place
  kept = record { inside = inside; why = inl head_left.above }

  few : first_generation o + place < 2 ^ 32
  few = (let few = inv.order.heads.few in let there = inside in omega (arith, few, there))

  head_is : slice_index words head_place ≡ head_word (record { generation = first_generation o + place; block = front_of c.logs (nth_generation c.generations place) })
  head_is = sym head_left.same ∙ inv.order.heads.each place inside

  generation_is : field HEAD_GENERATION (slice_index words head_place) ≡ first_generation o + place
  generation_is = ap (λ (w : ℕ). field HEAD_GENERATION w) head_is ∙ generation_field (first_generation o + place) (front_of c.logs (nth_generation c.generations place)) few (inv.order.heads.small place inside)

  front_is : head_block words ≡ front_of c.logs (nth_generation c.generations place)
  front_is = head_front o c inv (slice_index words head_place) place (record { place = place; inside = head_left.inside; same = head_left.same }) generation_is

  -- the first three words are the start's
  word_is : (word : ℕ) → word < 3 → slice_index words word ≡ slice_index o.words word
  word_is word small = certain_left (cell c.memory word) (slice_index o.words word) (slice_index words word) (inv.order.heads.header word small)
      (possible o c inv words left word (let head = head_inside o c inv in omega (arith, small, head)))

  shape_of_start : shape_of words ≡ shape_of o.words
  shape_of_start = ap (λ (w : ℕ). shape_in w (slice_index words 2)) (word_is 1 (omega arith)) ∙ ap (λ (w : ℕ). shape_in (slice_index o.words 1) w) (word_is 2 (omega arith))

  shape_is : shape_of words ≡ shape o
  shape_is = shape_of_start ∙ same_shape o.geometry (shape_of o.words) start.same_shape

  header : HasHeader words
  header = record {
    magic = word_is 0 (omega arith) ∙ start.stands.header.magic;
    version = ap (λ (w : ℕ). field HEADER_VERSION w) (word_is 1 (omega arith)) ∙ start.stands.header.version;
    unnamed = ap (λ (w : ℕ). field HEADER_UNNAMED w) (word_is 1 (omega arith)) ∙ start.stands.header.unnamed;
    allowed = subst (λ (s : Shape). shape_refusal s.data_blocks s.log_blocks s.block_bytes ≡ None) (sym shape_of_start) start.stands.header.allowed;
    whole = subst (λ (s : Shape). length words ≡ total s * words_in s) (sym shape_of_start) (long o c inv words left ∙ start.stands.header.whole);
    head_unnamed = ap (λ (w : ℕ). field HEAD_UNNAMED w) head_is ∙ plain_head (first_generation o + place) (front_of c.logs (nth_generation c.generations place)) few (inv.order.heads.small place inside);
    generation = (let is = generation_is in let some = inv.order.heads.some in subst (λ (k : ℕ). 0 < k) (sym is) (omega (arith, some)));
  }

  abbrev blocks : List ℕ
  blocks = chain o c inv place kept words left head_left.above

  abbrev there : ℕ
  there = position o c inv place kept words left head_left.above

  abbrev file : List ℕ
  file = file_at o c.history there

  stands_by : StandsBy words blocks file there
  stands_by = record {
    header = header;
    stands = subst (λ (s : Shape). StandsIn words s blocks file there) (sym shape_is) (stands o c inv place kept words left head_left.above front_is);
  }

  -- how many writes that is
  abbrev many : ℕ
  many = there - first_position o

  enough : c.synced ≤ there
  enough = from_synced o c inv place kept words left head_left.above

  late : first_position o ≤ there
  late = (let synced = enough in let first = inv.syncs.from_first in omega (arith, synced, first))

  there_is : there ≡ first_position o + many
  there_is = (let after = late in omega (arith, after))

  file_is : file ≡ file_after_first o c many
  file_is = late_file o c.history there late

  stands_as_said : StandsBy words blocks (file_after_first o c many) (first_position o + many)
  stands_as_said = subst (λ (found : List ℕ). StandsBy words blocks found (first_position o + many)) file_is (subst (λ (position : ℕ). StandsBy words blocks file position) there_is stands_by)

  pub recovered : IsRecovered o c words
  recovered = record {
    writes = many;
    to_end = (let upto = to_end o c inv place kept words left head_left.above in omega (arith, upto));
    synced = (let low = enough in let is = there_is in omega (arith, low, is));
    small = words_small o c.memory (length c.views) inv.sizes.words words left;
    opens = opens_as words blocks (file_after_first o c many) (first_position o + many) stands_as_said;
    stopped = λ stops in_turn. stops_open words blocks (file_after_first o c many) (first_position o + many) stops stands_as_said in_turn;
    answered = λ seat. (inv.syncs.views_hold seat).answered;
  }

  -- with each present value all writes are left
  pub all_writes : words ≡ c.memory.now.words → Stands words (file_after_first o c (length c.history)) (end_of o c.history)
  all_writes present = subst (λ (writes : ℕ). Stands words (file_after_first o c writes) (first_position o + writes)) many_is (blocks, stands_as_said)
    where
      many_is : many ≡ length c.history
      many_is = (let all = from_end o c inv place kept words left head_left.above present in let upto = to_end o c inv place kept words left head_left.above in omega (arith, all, upto))

pub crashes_are_recovered : CrashesAreRecovered
crashes_are_recovered o steps words start run left = recovered o (end o steps) start (run_from o steps (start_meets o start) run) words left

-- the present words are among those that a crash may leave
pub present_left : (memory : Memory) → Survives memory memory.now.words
present_left memory = record {
  same_length = refl;
  each = λ word inside. record { index = length (cell memory word).past; above = index_at-most memory.past (slice_index memory.floors word) word; inside = omega arith; same = last_value (cell memory word) };
}

pub present_words_have_all : PresentWordsHaveAll
present_words_have_all o steps start run =
    all_writes o (end o steps) start (run_from o steps (start_meets o start) run) (end o steps).memory.now.words (present_left (end o steps).memory) refl
