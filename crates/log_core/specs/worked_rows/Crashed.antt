-- What crashes may leave of runs that write bytes, and what it stands for.
use Rattle.std.specs.Prelude.{◌≡◌, [], ◌∷◌, List, ℕ, length, map, set, Some}
use Rattle.std.specs.List.{range_with_len}
use Rattle.log_entry.specs.declared.calls.Op.TheVariants.{Sync as SyncOp}
use Rattle.log_entry.specs.declared.calls.Reply.TheVariants.{Synced}
use Rattle.log_entry.specs.declared.calls.Call.{Call}
use Rattle.asks.specs.declared.ask.Place.TheVariants.{Image, Pin}
use Rattle.asks.specs.declared.ask.Ask.TheVariants.{Load, Store, Exchange, Mark, Fence}
use Rattle.pmem_words.specs.declared.keeps.Task.TheVariants.{Sync, Collect}
use Rattle.log_image.specs.Header.{shape_of}
use Rattle.log_image.specs.Stands.{Stands}
use Rattle.log_image.specs.Tails.{AtSlot, tail_of}
use Rattle.persistence.specs.Memory.{Memory, cell}
use Rattle.persistence.specs.Survivors.{value_at, Survives}
use Rattle.log_core.specs.Cores.{Core}
use Rattle.log_core.specs.Works.{Begins}
use Rattle.log_core.specs.After.{after}
use Rattle.log_core.specs.Runs.{IsReached}
use Rattle.log_core.specs.worked_rows.Samples.{image_a, step_of, stepping}
use Rattle.log_core.specs.worked_rows.Rows.{to_second}
use Rattle.log_core.specs.worked_rows.Refused.{seat_zero}
use Rattle.log_core.specs.worked_rows.Written.{own_put}
use Rattle.log_core.specs.worked_rows.TwoWriters.{next_found, second_call, both_put}
use Rattle.log_core.specs.worked_rows.Collecting.{head_put}

-- the words of a core's image, but for a slot that is empty
abbrev pub without_slot : Core → ℕ → List ℕ
without_slot c place = set c.memory.now.words place 0

-- a write that no sync has followed: a crash may leave it, or take it back
abbrev pub WriteMayBeLost : Type 0
WriteMayBeLost =
    Survives own_put.memory own_put.memory.now.words
    × Stands own_put.memory.now.words (170 ∷ []) 1
    × Survives own_put.memory (without_slot own_put 27)
    × Stands (without_slot own_put 27) [] 0

-- of two writes a crash may take back the later one, or the earlier one too, or the earlier one's slot alone: then the later one's, which is
-- left, is after the tail and does not count
abbrev pub LaterWriteAlone : Type 0
LaterWriteAlone =
    Survives both_put.memory (without_slot both_put 28)
    × Stands (without_slot both_put 28) (170 ∷ []) 1
    × Survives both_put.memory (without_slot both_put 27)
    × Stands (without_slot both_put 27) [] 0
    × (tail_of (without_slot both_put 27) (shape_of (without_slot both_put 27)) (3 ∷ []) ≡ AtSlot 3 3)

-- after its write the seat syncs: it finds the tail again, marks the head and the entry, and fences
abbrev pub own_syncing : Core
own_syncing = stepping image_a own_put 0 (Load (Image 28)) 2 (Begins Sync [] ∷ []) []

abbrev pub own_head_marked : Core
own_head_marked = stepping image_a own_syncing 0 (Mark 3) 2 [] []

abbrev pub own_entry_marked : Core
own_entry_marked = stepping image_a own_head_marked 0 (Mark 27) 2 [] []

abbrev pub own_synced : Core
own_synced = stepping image_a own_entry_marked 0 Fence 2 [] []

-- then no crash takes the write back; before the fence one may
abbrev pub SyncedWriteStays : Type 0
SyncedWriteStays =
    IsReached image_a own_synced
    × (own_synced.synced ≡ 1)
    × ((seat_zero own_synced).calling.sync_to ≡ Some 1)
    × Survives own_entry_marked.memory (without_slot own_entry_marked 27)
    × (Survives own_synced.memory (without_slot own_synced 27) → ⊥)

-- a head that was put in place and not fenced: the crash may leave the one before it
abbrev pub with_old_head : List ℕ → List ℕ
with_old_head words = set words 3 4294967299

-- whether the old chain is left or the new one, the words stand for the file. What the old one's slot may lose is in the new one's snapshot
abbrev pub EitherHeadStands : Type 0
EitherHeadStands =
    IsReached image_a head_put
    × Survives head_put.memory head_put.memory.now.words
    × Stands head_put.memory.now.words (170 ∷ []) 1
    × Survives head_put.memory (with_old_head head_put.memory.now.words)
    × Stands (with_old_head head_put.memory.now.words) (170 ∷ []) 1
    × Survives head_put.memory (without_slot head_put 27)
    × Stands (without_slot head_put 27) (170 ∷ []) 1
    × Survives head_put.memory (with_old_head (without_slot head_put 27))
    × Stands (with_old_head (without_slot head_put 27)) [] 0

-- where seat 1 stands at the slot after seat 0's entry, seat 0 syncs: it finds that slot empty, marks the head and its entry, and fences
abbrev pub one_entry_marked : Core
one_entry_marked = stepping image_a (stepping image_a (stepping image_a next_found 0 (Load (Image 28)) 2 (Begins Sync [] ∷ []) []) 0 (Mark 3) 2 [] []) 0 (Mark 27) 2 [] []

abbrev pub one_fenced : Core
one_fenced = stepping image_a one_entry_marked 0 Fence 2 [] []

-- its call ends as it gives up its pin
abbrev pub sync_call : Call
sync_call = record { position = 1; seat = 0; number = 2; op = SyncOp; reply = Synced 1 }

abbrev pub one_synced : Core
one_synced = after image_a one_fenced (step_of image_a one_fenced 0 (Store (Pin 0) 0) 2 [] [] (sync_call ∷ []))

-- then seat 1 puts its entry in, and begins a collection, which seals the block
abbrev pub one_unsynced : Core
one_unsynced = after image_a one_synced (step_of image_a one_synced 1 (Exchange (Image 28) 0 to_second) 1 [] [] (second_call ∷ []))

abbrev pub sealing_behind : Core
sealing_behind = stepping image_a one_unsynced 1 (Load (Image 29)) 2 (Begins Collect [] ∷ []) []

abbrev pub sealed_behind : Core
sealed_behind = stepping image_a sealing_behind 1 (Exchange (Image 29) 0 3) 2 [] []

-- of each word the oldest value that a crash may leave
abbrev pub oldest_words : Memory → List ℕ
oldest_words m = map (λ (word : ℕ). value_at (cell m word) (cell m word).floor) (range_with_len 0 (length m.now.words))

-- the oldest words have the synced write alone; the newest both; and where the second entry is taken back and not the seal behind it, that does
-- not count. No crash takes the synced write back
abbrev pub SyncedAndUnsynced : Type 0
SyncedAndUnsynced =
    IsReached image_a sealed_behind
    × (sealed_behind.synced ≡ 1)
    × (oldest_words sealed_behind.memory ≡ set (without_slot sealed_behind 28) 29 0)
    × Survives sealed_behind.memory (oldest_words sealed_behind.memory)
    × Stands (oldest_words sealed_behind.memory) (170 ∷ []) 1
    × Survives sealed_behind.memory sealed_behind.memory.now.words
    × Stands sealed_behind.memory.now.words (187 ∷ []) 2
    × Survives sealed_behind.memory (without_slot sealed_behind 28)
    × Stands (without_slot sealed_behind 28) (170 ∷ []) 1
    × (Survives sealed_behind.memory (without_slot sealed_behind 27) → ⊥)
