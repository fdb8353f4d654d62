-- The synced position, and what no crash takes back.
use Rattle.std.specs.Prelude.{ℕ, ◌+◌, ◌/◌, ◌<◌, ◌≤◌, ◌≡◌, ◌≢◌, true, Bool, List, [], length, slice_index, Some}
use Rattle.std.specs.List.{AllByRecursion}
use Rattle.log_entry.specs.Fields.{field}
use Rattle.log_entry.specs.declared.layouts.TheConstants.{HEAD_GENERATION}
use Rattle.log_entry.specs.declared.calls.Reply.TheVariants.{Synced}
use Rattle.log_entry.specs.declared.calls.Call.{Call}
use Rattle.log_image.specs.Image.{Shape}
use Rattle.pmem_words.specs.declared.keeps.Task.TheVariants.{Sync}
use Rattle.persistence.specs.Memory.{Replaced, PendingMark, Cell, index_at, pending_of}
use Rattle.persistence.specs.Survivors.{value_at}
use Rattle.log_core.specs.Entries.{place_in, head_place}
use Rattle.log_core.specs.Views.{View, view_of}
use Rattle.log_core.specs.Origin.{LogBlock, Generation}
use Rattle.log_core.specs.Cores.{nth_log}
use Rattle.log_core.specs.Order.{nth_generation}
use Rattle.log_core.specs.Certain.{IsCertain}

-- of a log block: the slots before the synced position are certain, seals too, and so is the link where a synced entry follows it
pub record IsSyncedIn (image : Shape) (cells : ℕ → Cell) (synced : ℕ) (log next : LogBlock) : Type 0 where
  pub slots : (k : ℕ) → k < length log.slots → log.base + k < synced → IsCertain (cells (place_in image log.block (k + 3))) (slice_index log.slots k)
  pub link : next.block ≢ 0 → next.base < synced → IsCertain (cells (place_in image log.block 0)) next.block

-- for each generation that a crash may leave at the head
abbrev pub IsSynced : Shape → (ℕ → Cell) → List Generation → List LogBlock → ℕ → ℕ → Type 0
IsSynced image cells generations logs floor synced =
    (place number : ℕ) → floor ≤ place → place < length generations → (nth_generation generations place).cut ≤ number → number < length logs →
    IsSyncedIn image cells synced (nth_log logs number) (nth_log logs (number + 1))

-- a mark of a running sync: of the head, at its own generation or a later one; of another word, which is of a block that its generation
-- names, at its present value, which is not 0
pub record SyncMarkHolds (q : ℕ) (names : ℕ → ℕ → Bool) (cells : ℕ → Cell) (past : List Replaced) (generation : ℕ) (note : PendingMark) : Type 0 where
  pub head : note.word ≡ head_place → generation ≤ field HEAD_GENERATION (value_at (cells head_place) (index_at past note.time head_place))
  pub named : note.word ≢ head_place → names generation (note.word / q) ≡ true
  pub other : note.word ≢ head_place → (index_at past note.time note.word ≡ length (cells note.word).past) × ((cells note.word).present ≢ 0)

-- what a view knows of syncs: the position that a running one will answer is the view's, and it and each that was answered is synced
pub record SyncHolds (q : ℕ) (names : ℕ → ℕ → Bool) (cells : ℕ → Cell) (past : List Replaced) (pending : List PendingMark) (synced seat : ℕ) (v : View) : Type 0 where
  pub to : (position : ℕ) → v.seat.calling.sync_to ≡ Some position → (position ≡ v.seat.walk.position) × (position ≤ synced)
  pub marks : v.seat.calling.job ≡ Sync → AllByRecursion (SyncMarkHolds q names cells past v.seat.hold.generation) (pending_of seat pending)
  pub valid : v.seat.calling.job ≡ Sync → pending_of seat pending ≢ [] → v.seat.hold.valid ≡ true
  pub answered : AllByRecursion (λ (call : Call). (position : ℕ) → call.reply ≡ Synced position → position ≤ synced) v.done

abbrev pub SyncsHold : ℕ → (ℕ → ℕ → Bool) → (ℕ → Cell) → List Replaced → List PendingMark → ℕ → List View → Type 0
SyncsHold q names cells past pending synced views = (seat : ℕ) → SyncHolds q names cells past pending synced seat (view_of views seat)
