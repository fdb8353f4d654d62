-- A cell that has the same values, of which fewer are possible: what is said of the one is so of the other.
use Rattle.std.proofs.Common.{◌≡◌, ◌<◌, ◌≤◌, ◌+◌, ◌∷◌, ◌++◌, ℕ, true, List, [], length, ◌∙◌, ap, arith, slice_index}
use Rattle.log_image.specs.Image.{Shape, words_in}
use Rattle.persistence.specs.Memory.{Memory, Cell, cell}
use Rattle.persistence.specs.Survivors.{value_at}
use Rattle.persistence.proofs.ValueLemmas.{index_at-most}
use Rattle.log_image.specs.Chains.{is_listed}
use Rattle.log_core.specs.Entries.{head_place, place_in}
use Rattle.log_core.specs.Origin.{Origin, LogBlock, Generation}
use Rattle.log_core.specs.Certain.{IsCertain, IsGrowing}
use Rattle.log_core.specs.Contents.{AreRecorded}
use Rattle.log_core.specs.Order.{HeadsInOrder, LogStands}
use Rattle.log_core.specs.Pins.{WasHead}
use Rattle.log_core.specs.Synced.{IsSyncedIn}

-- the second cell has the first one's values, and its floor is no lower
pub record Narrows (a b : Cell) : Type 0 where
  pub present : b.present ≡ a.present
  pub past : b.past ≡ a.past
  pub floor : a.floor ≤ b.floor
  pub inside : b.floor ≤ length b.past

-- no floor of a memory is past its word's present value
pub floor_inside : (memory : Memory) (word : ℕ) → (cell memory word).floor ≤ length (cell memory word).past
floor_inside memory word = index_at-most memory.past (slice_index memory.floors word) word

-- a cell that stays
pub same_narrows : (memory after : Memory) (word : ℕ) → cell after word ≡ cell memory word → Narrows (cell memory word) (cell after word)
same_narrows memory after word same = record {
  present = ap (λ (c : Cell). c.present) same;
  past = ap (λ (c : Cell). c.past) same;
  floor = (let e = ap (λ (c : Cell). c.floor) same in omega (arith, e));
  inside = floor_inside after word;
}

-- the values by their numbers
pub value_narrows : (a b : Cell) → Narrows a b → (k : ℕ) → value_at b k ≡ value_at a k
value_narrows a b narrows k =
    ap (λ (past : List ℕ). slice_index (past ++ b.present ∷ []) k) narrows.past ∙ ap (λ (present : ℕ). slice_index (a.past ++ present ∷ []) k) narrows.present

-- what stands before the present value, from the floor on
before_narrows : (a b : Cell) (value : ℕ) → Narrows a b → ((k : ℕ) → a.floor ≤ k → k < length a.past → slice_index a.past k ≡ value) → (k : ℕ) → b.floor ≤ k → k < length b.past → slice_index b.past k ≡ value
before_narrows a b value narrows before k low below =
    (let floor = narrows.floor in let long = ap length narrows.past in
    ap (λ (past : List ℕ). slice_index past k) narrows.past ∙ before k (omega (arith, floor, low)) (omega (arith, long, below)))

pub certain_narrows : (a b : Cell) (value : ℕ) → Narrows a b → IsCertain a value → IsCertain b value
certain_narrows a b value narrows certain = record { present = narrows.present ∙ certain.present; before = before_narrows a b value narrows certain.before }

pub growing_narrows : (a b : Cell) (value : ℕ) → Narrows a b → IsGrowing a value → IsGrowing b value
growing_narrows a b value narrows growing = record { present = narrows.present ∙ growing.present; before = before_narrows a b 0 narrows growing.before }

pub was_head_narrows : (a b : Cell) (word : ℕ) → Narrows a b → WasHead a word → WasHead b word
was_head_narrows a b word narrows was = record {
  place = was.place;
  inside = (let long = ap length narrows.past in let inside = was.inside in omega (arith, long, inside));
  same = value_narrows a b narrows was.place ∙ was.same;
}

-- the heads, where the words of the header are narrowed
pub heads_narrow : (o : Origin) (before after : ℕ → Cell) (generations : List Generation) (logs : List LogBlock) → ((word : ℕ) → word < 8 → Narrows (before word) (after word)) →
    HeadsInOrder o before generations logs → HeadsInOrder o after generations logs
heads_narrow o before after generations logs narrows heads =
    (let here : Narrows (before head_place) (after head_place) = narrows head_place (omega arith) in
    let count : length (after head_place).past ≡ length (before head_place).past = ap length here.past in
    record {
      header = λ word low. certain_narrows (before word) (after word) (slice_index o.words word) (narrows word (omega (arith, low))) (heads.header word low);
      some = heads.some;
      few = heads.few;
      count = (let e = heads.count in omega (arith, e, count));
      floor = here.inside;
      small = heads.small;
      each = λ place inside. value_narrows (before head_place) (after head_place) here place ∙ heads.each place inside;
    })

-- recorded blocks, where their words are
pub recorded_narrow : (image : Shape) (before after : ℕ → Cell) (recorded : ℕ → List ℕ) (blocks : List ℕ) →
    ((block k : ℕ) → is_listed blocks block ≡ true → k < words_in image → Narrows (before (place_in image block k)) (after (place_in image block k))) →
    AreRecorded image before recorded blocks → AreRecorded image after recorded blocks
recorded_narrow image before after recorded blocks narrows holds block k listed inside =
    certain_narrows (before (place_in image block k)) (after (place_in image block k)) (slice_index (recorded block) k) (narrows block k listed inside) (holds block k listed inside)

-- a log block, where its words are
pub log_narrows : (image : Shape) (before after : ℕ → Cell) (log : LogBlock) (following : ℕ) → 3 ≤ words_in image →
    ((k : ℕ) → k < words_in image → Narrows (before (place_in image log.block k)) (after (place_in image log.block k))) →
    LogStands image before log following → LogStands image after log following
log_narrows image before after log following wide narrows stands = record {
  base = certain_narrows (before (place_in image log.block 1)) (after (place_in image log.block 1)) _ (narrows 1 (omega (arith, wide))) stands.base;
  zero = certain_narrows (before (place_in image log.block 2)) (after (place_in image log.block 2)) 0 (narrows 2 (omega (arith, wide))) stands.zero;
  link = growing_narrows (before (place_in image log.block 0)) (after (place_in image log.block 0)) following (narrows 0 (omega (arith, wide))) stands.link;
  slots = λ k inside open_slot. growing_narrows (before (place_in image log.block (k + 3))) (after (place_in image log.block (k + 3))) (slice_index log.slots k) (narrows (k + 3) inside) (stands.slots k inside open_slot);
}

-- and its synced slots and link
pub synced_narrows : (image : Shape) (before after : ℕ → Cell) (synced : ℕ) (log next : LogBlock) → length log.slots + 3 ≤ words_in image →
    ((k : ℕ) → k < words_in image → Narrows (before (place_in image log.block k)) (after (place_in image log.block k))) →
    IsSyncedIn image before synced log next → IsSyncedIn image after synced log next
synced_narrows image before after synced log next fits narrows holds = record {
  slots = λ k inside low. certain_narrows (before (place_in image log.block (k + 3))) (after (place_in image log.block (k + 3))) (slice_index log.slots k) (narrows (k + 3) (omega (arith, inside, fits))) (holds.slots k inside low);
  link = λ some low. certain_narrows (before (place_in image log.block 0)) (after (place_in image log.block 0)) next.block (narrows 0 (omega (arith, fits))) (holds.link some low);
}
