-- The order of the heads and of the log.
use Rattle.std.specs.Prelude.{ℕ, ◌+◌, ◌-◌, ◌^◌, ◌<◌, ◌≤◌, ◌≡◌, ◌≢◌, true, List, length, slice_index, slice_index_or}
use Rattle.log_entry.specs.Words.{head_word, block_word}
use Rattle.log_entry.specs.declared.words.BlockKind.TheVariants.{Log}
use Rattle.log_entry.specs.declared.layouts.TheConstants.{EMPTY, SEAL}
use Rattle.log_image.specs.Image.{Shape, words_in}
use Rattle.persistence.specs.Memory.{Cell}
use Rattle.persistence.specs.Survivors.{value_at}
use Rattle.log_core.specs.Entries.{LogEntry, no_entry, place_in, head_place}
use Rattle.log_core.specs.Origin.{Origin, shape, start_base, first_generation, LogBlock, Generation, no_generation}
use Rattle.log_core.specs.Cores.{nth_log, entries_used, is_sealed, is_full}
use Rattle.log_core.specs.Snapshots.{first_or}
use Rattle.log_core.specs.Certain.{IsCertain, IsGrowing}

abbrev pub nth_generation : List Generation → ℕ → Generation
nth_generation generations place = slice_index_or generations place no_generation

-- the first block of a generation's chain
abbrev pub front_of : List LogBlock → Generation → ℕ
front_of logs g = first_or g.snapshots (nth_log logs g.cut).block

-- the head's values are the heads of the generations, in order, each of a block that a head can name; and the first three words of
-- the header stay
pub record HeadsInOrder (o : Origin) (cells : ℕ → Cell) (generations : List Generation) (logs : List LogBlock) : Type 0 where
  pub header : (word : ℕ) → word < 3 → IsCertain (cells word) (slice_index o.words word)
  pub some : 0 < first_generation o
  pub few : first_generation o + length generations ≤ 2 ^ 32
  pub count : length generations ≡ length (cells head_place).past + 1
  pub floor : (cells head_place).floor ≤ length (cells head_place).past
  pub small : (place : ℕ) → place < length generations → front_of logs (nth_generation generations place) < 2 ^ 16
  pub each : (place : ℕ) → place < length generations →
      value_at (cells head_place) place ≡ head_word (record { generation = first_generation o + place; block = front_of logs (nth_generation generations place) })

-- the snapshots' positions rise with the generation, and so do the first log blocks, which begin there
pub record GenerationsRise (o : Origin) (end : ℕ) (generations : List Generation) (logs : List LogBlock) : Type 0 where
  pub from_first : (place : ℕ) → place < length generations → start_base o ≤ (nth_generation generations place).base
  pub to_end : (place : ℕ) → place < length generations → (nth_generation generations place).base ≤ end
  pub rise : (place : ℕ) → place + 1 < length generations → (nth_generation generations place).base < (nth_generation generations (place + 1)).base
  pub cuts_rise : (place : ℕ) → place + 1 < length generations → (nth_generation generations place).cut ≤ (nth_generation generations (place + 1)).cut
  pub cut_inside : (place : ℕ) → place < length generations → (nth_generation generations place).cut < length logs
  pub cut_base : (place : ℕ) → place < length generations → (nth_log logs (nth_generation generations place).cut).base ≡ (nth_generation generations place).base

-- the used slots of the log blocks are the entries in order, and a seal as the last slot of some blocks
pub record LogInOrder (o : Origin) (es : List LogEntry) (end : ℕ) (logs : List LogBlock) : Type 0 where
  pub count : start_base o + length es ≡ end
  pub limit : end < 2 ^ 40
  pub some : 0 < length logs
  pub first : (nth_log logs 0).base ≡ start_base o
  pub next : (number : ℕ) → number + 1 < length logs → (nth_log logs (number + 1)).base ≡ (nth_log logs number).base + entries_used (nth_log logs number)
  pub last : (nth_log logs (length logs - 1)).base + entries_used (nth_log logs (length logs - 1)) ≡ end
  pub full : (number : ℕ) → number + 1 < length logs → is_full (shape o) (nth_log logs number).slots ≡ true
  pub inside : (number : ℕ) → number < length logs → length (nth_log logs number).slots + 3 ≤ words_in (shape o)
  pub used : (number k : ℕ) → k < length (nth_log logs number).slots → slice_index (nth_log logs number).slots k ≢ EMPTY
  pub seal_last : (number k : ℕ) → slice_index (nth_log logs number).slots k ≡ SEAL → (k + 1 ≡ length (nth_log logs number).slots) × (0 < k)
  pub entries : (number k : ℕ) → k < length (nth_log logs number).slots → slice_index (nth_log logs number).slots k ≢ SEAL →
      slice_index (nth_log logs number).slots k ≡ (slice_index_or es ((nth_log logs number).base + k - start_base o) no_entry).word

-- a log block in the image, with the block that follows it, 0 for none. Of the slots behind a seal the first one alone is said to be
-- empty: nobody comes to the others, and the image that a run starts from may have anything there
pub record LogStands (image : Shape) (cells : ℕ → Cell) (log : LogBlock) (following : ℕ) : Type 0 where
  pub base : IsCertain (cells (place_in image log.block 1)) (block_word (record { kind = Log; base = log.base }))
  pub zero : IsCertain (cells (place_in image log.block 2)) 0
  pub link : IsGrowing (cells (place_in image log.block 0)) following
  pub slots : (k : ℕ) → k + 3 < words_in image → (is_sealed log.slots ≡ true → k ≤ length log.slots) →
      IsGrowing (cells (place_in image log.block (k + 3))) (slice_index log.slots k)

-- the log blocks from one on
abbrev pub LogsStand : Shape → (ℕ → Cell) → List LogBlock → ℕ → Type 0
LogsStand image cells logs cut = (number : ℕ) → cut ≤ number → number < length logs → LogStands image cells (nth_log logs number) (nth_log logs (number + 1)).block

-- those of each kept generation
abbrev pub ChainsStand : Shape → (ℕ → Cell) → List LogBlock → List Generation → (ℕ → Type 0) → Type 0
ChainsStand image cells logs generations kept = (place : ℕ) → kept place → LogsStand image cells logs (nth_generation generations place).cut
