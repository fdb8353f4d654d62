-- A step that puts one word more into the last log block of a core, a slot or a link: what it makes of the core.
use Rattle.std.specs.Prelude.{ℕ, ◌+◌, ◌-◌, ◌<◌, ◌≤◌, ◌≡◌, ◌≢◌, true, if◌then◌else◌, List, ◌++◌, length, take, drop, slice_index, slice_index_or}
use Rattle.std.specs.List.{AllByRecursion}
use Rattle.pmem_words.specs.Seats.{Seat}
use Rattle.persistence.specs.Memory.{Memory, cell}
use Rattle.log_image.specs.Image.{Shape, words_in, is_in_data, is_in_log}
use Rattle.log_image.specs.Chains.{all_different, is_listed}
use Rattle.log_core.specs.Entries.{place_in, no_entry, entry_names}
use Rattle.log_core.specs.Origin.{Origin, shape, first_position, Owner, InChain, OwnedBy, LogBlock}
use Rattle.log_core.specs.Files.{Write, entries, end_of, write_at, file_at}
use Rattle.log_core.specs.Cores.{Core, nth_log, log_at, log_blocks, entries_used, is_full}
use Rattle.log_core.specs.Steps.{content_of}
use Rattle.log_core.specs.Writes.{HistoryHolds}
use Rattle.log_core.specs.Order.{LogInOrder, LogStands}
use Rattle.log_core.specs.Contents.{EntriesSay, HoldsFileAt}
use Rattle.log_core.specs.Synced.{IsSyncedIn}
use Rattle.log_core.specs.Certain.{IsCertain}
use Rattle.log_core.proofs.clauses.Exchanged.{WordGrows}

-- the seat that makes the step, with its state at the ask; the memory, the history and the log blocks after it; the log block and
-- the blocks of an entry that it puts into the chain; and the number of its word in the last log block, with the new value
pub record Growth : Type 0 where
  pub n : ℕ
  pub seat : Seat
  pub memory : Memory
  pub history : List Write
  pub logs : List LogBlock
  pub linked : List ℕ
  pub named : List ℕ
  pub index : ℕ
  pub value : ℕ

-- the blocks that it puts into the chain
abbrev pub joined : Growth → List ℕ
joined x = x.linked ++ x.named

-- who has each block then, and the words that it has in the chain
abbrev pub owner_grown : Core → Growth → ℕ → Owner
owner_grown c x block = if is_listed (joined x) block then InChain else c.owner block

abbrev pub recorded_grown : Core → Growth → ℕ → List ℕ
recorded_grown c x block = if is_listed (joined x) block then content_of x.seat block else c.recorded block

-- the core with what the step makes of it, but for the views
abbrev pub grown : Core → Growth → Core
grown c x = record c {
  memory = x.memory;
  history = x.history;
  logs = x.logs;
  owner = λ block. owner_grown c x block;
  recorded = λ block. recorded_grown c x block;
}

-- the last log block before the step
abbrev pub last_log : Core → LogBlock
last_log c = nth_log c.logs (length c.logs - 1)

-- a log block later: its base and its block are the same, it has no fewer entries, and where it was full it is as it was
pub record LogLater (image : Shape) (before after : LogBlock) : Type 0 where
  pub base : after.base ≡ before.base
  pub block : after.block ≡ before.block
  pub used : entries_used before ≤ entries_used after
  pub full : is_full image before.slots ≡ true → after ≡ before

-- more log blocks, or more slots in the last one
pub record LogsGrow (image : Shape) (before after : List LogBlock) (linked : List ℕ) : Type 0 where
  pub longer : length before ≤ length after
  pub each : (number : ℕ) → number < length before → LogLater image (nth_log before number) (nth_log after number)
  pub same : (number : ℕ) → number + 1 < length before → nth_log after number ≡ nth_log before number
  pub blocks : (cut : ℕ) → cut < length before → log_blocks (drop cut after) ≡ log_blocks (drop cut before) ++ linked
  pub at : (base : ℕ) → (log_at before base).block ≢ 0 → LogLater image (log_at before base) (log_at after base)

-- a history that is the same, or has writes of one seat more
pub record HistoryGrows (o : Origin) (n : ℕ) (before after : List Write) (named : List ℕ) : Type 0 where
  pub longer : end_of o before ≤ end_of o after
  pub files : (position : ℕ) → position ≤ end_of o before → file_at o after position ≡ file_at o before position
  pub writes : (position : ℕ) → first_position o < position → position ≤ end_of o before → write_at o after position ≡ write_at o before position
  pub new : (position : ℕ) → end_of o before < position → position ≤ end_of o after → (write_at o after position).seat ≡ n
  pub more : length (entries o before) ≤ length (entries o after)
  pub same : (k : ℕ) → k < length (entries o before) → slice_index_or (entries o after) k no_entry ≡ slice_index_or (entries o before) k no_entry
  pub front : (k : ℕ) → k ≤ length (entries o before) → take k (entries o after) ≡ take k (entries o before)
  pub names : (k : ℕ) → k ≤ length (entries o before) → entry_names (drop k (entries o after)) ≡ entry_names (drop k (entries o before)) ++ named

-- what has to hold of the step, so that the rest of the core stays as it should be
pub record Grows (o : Origin) (c : Core) (x : Growth) : Type 0 where
  pub memory : WordGrows o (length c.views) c.memory x.memory (place_in (shape o) (last_log c).block x.index) x.value
  pub index : x.index < words_in (shape o)
  pub first : x.index ≢ 1
  pub second : x.index ≢ 2
  pub mine : (block : ℕ) → is_listed (joined x) block ≡ true → c.owner block ≡ OwnedBy x.n
  pub once : all_different (joined x) ≡ true
  pub in_log : (block : ℕ) → is_listed x.linked block ≡ true → is_in_log (shape o) block ≡ true
  pub in_data : (block : ℕ) → is_listed x.named block ≡ true → is_in_data (shape o) block ≡ true
  pub long : (block : ℕ) → is_listed (joined x) block ≡ true → length (content_of x.seat block) ≡ words_in (shape o)
  pub fenced : (block k : ℕ) → is_listed (joined x) block ≡ true → k < words_in (shape o) → IsCertain (cell c.memory (place_in (shape o) block k)) (slice_index (content_of x.seat block) k)
  pub logs : LogsGrow (shape o) c.logs x.logs x.linked
  pub history : HistoryGrows o x.n c.history x.history x.named
  pub seats : AllByRecursion (λ (w : Write). w.seat < length c.views) x.history
  pub holds : HistoryHolds o x.history
  pub order : LogInOrder o (entries o x.history) (end_of o x.history) x.logs
  pub stands : LogStands (shape o) (λ word. cell c.memory word) (last_log c) 0 → (number : ℕ) → length c.logs ≤ number + 1 → number < length x.logs →
      LogStands (shape o) (λ word. cell x.memory word) (nth_log x.logs number) (nth_log x.logs (number + 1)).block
  pub synced : (synced : ℕ) → synced ≤ end_of o c.history → (next : LogBlock) → IsSyncedIn (shape o) (λ word. cell c.memory word) synced (last_log c) next → (number : ℕ) → length c.logs ≤ number + 1 → number < length x.logs →
      IsSyncedIn (shape o) (λ word. cell x.memory word) synced (nth_log x.logs number) (nth_log x.logs (number + 1))
  pub says : EntriesSay (shape o) (λ block. recorded_grown c x block) (length (entries o c.history)) (entries o x.history)
  pub file : (position : ℕ) → end_of o c.history < position → position ≤ end_of o x.history → HoldsFileAt o x.history (λ block. recorded_grown c x block) position
