-- Wrong walks that one clause alone refuses, and the right ones.
use Rattle.std.specs.Prelude.{ℕ, ◌+◌, ◌*◌, ◌≡◌, ◌==◌, if◌then◌else◌, List, [], ◌∷◌, slice_index, Some, None}
use Rattle.pmem_words.specs.declared.keeps.KeptWord.{KeptWord}
use Rattle.pmem_words.specs.Seats.{Seat, Walk}
use Rattle.log_core.specs.Views.{view_of, no_ghost}
use Rattle.log_core.specs.Origin.{Generation}
use Rattle.log_core.specs.Cores.{generation_at}
use Rattle.log_core.specs.Works.{MayWork, NextSnapshot, Forgets, SeeksFirst, SeeksNext, FindsFirst, state_after_work, walk_kept, walk_from_log, walk_from_snapshot}
use Rattle.log_core.specs.Steps.{StoresOwnPin, LoadsHead, effect}
use Rattle.log_core.specs.Walks.{HasRead, IsFirstLog, IsSnapshotBlock, WalkHolds}
use Rattle.log_core.specs.Invariant.{around}
use Rattle.log_core.specs.worked_rows.Samples.{image_a}
use Rattle.log_core.specs.worked_rows.Rows.{kept, snapshot_reader}
use Rattle.log_core.specs.worked_rows.Accepted.{late_reading, late_read}

-- a generation whose snapshot is in blocks 11 and 9, with an entry in each
abbrev pub two_snapshots : Generation
two_snapshots = record { snapshots = 11 ∷ 9 ∷ []; shared = 7 ∷ 2 ∷ []; cut = 0; base = 7; size = 256 }

abbrev pub two_contents : ℕ → List ℕ
two_contents block =
    if block == 11 then 9 ∷ 9223372036854775815 ∷ 281474976710912 ∷ 1835009 ∷ 0 ∷ 0 ∷ 0 ∷ 0 ∷ []
    else 10 ∷ 9223372036854775815 ∷ 281474976710912 ∷ 524293 ∷ 0 ∷ 0 ∷ 0 ∷ 0 ∷ []

-- a seat that has read the first of them, and goes on to the second
abbrev pub first_read : Seat
first_read = record (snapshot_reader 4 (kept 11 4 0 ∷ kept 11 0 9 ∷ kept 9 1 9223372036854775815 ∷ [])) {
  walk = record ((snapshot_reader 4 (kept 11 4 0 ∷ kept 11 0 9 ∷ kept 9 1 9223372036854775815 ∷ [])).walk) { map = Some 7 ∷ None ∷ None ∷ None ∷ [] };
}

abbrev pub gone_on : Seat
gone_on = state_after_work first_read NextSnapshot

-- the number of the next block is the lower one, so the place alone says how much is left. A walk at that block with another place is
-- refused, though all else is the same
abbrev pub PlaceOfAnother : Type 0
PlaceOfAnother =
    MayWork no_ghost first_read NextSnapshot
    × HasRead two_contents two_snapshots first_read.walk
    × (gone_on.walk.reading_block ≡ 9)
    × (gone_on.walk.reading_place ≡ 1)
    × HasRead two_contents two_snapshots gone_on.walk
    × (HasRead two_contents two_snapshots (record (gone_on.walk) { reading_place = 0 }) → ⊥)
    × (HasRead two_contents two_snapshots (record (gone_on.walk) { reading_place = 2 }) → ⊥)

-- a seat that has read the snapshot of the second generation, and then has forgotten the words of its blocks
abbrev pub past_snapshot : Seat
past_snapshot = state_after_work (view_of late_read.views 1).seat Forgets

-- the same with the first log block of the first generation's chain
abbrev pub first_of_another : Walk
first_of_another = record (past_snapshot.walk) { first_log = 3 }

-- a seat that pins a generation anew and finds the head of the second
abbrev pub pins_second : Seat → ℕ → Seat
pins_second s pin = effect [] (effect [] s (StoresOwnPin pin) 0) LoadsHead 8589934597

-- a walk keeps the first log block of its chain, as nothing else tells it behind a snapshot: it comes with the end of the snapshot, goes
-- with the generation, and comes back with a kept table whose tail is in that block. Another one is refused, though all else is the same
abbrev pub FirstLogOfAnother : Type 0
FirstLogOfAnother =
    (late_reading.logs ≡ late_read.logs)
    × ((view_of late_reading.views 1).seat.walk.first_log ≡ 0)
    × (past_snapshot.walk.first_log ≡ 4)
    × (past_snapshot.walk.kept ≡ [])
    × IsFirstLog image_a late_read.generations late_read.logs past_snapshot.hold.generation 4
    × (WalkHolds (around image_a late_read) past_snapshot.hold first_of_another → ⊥)
    × ((pins_second past_snapshot 2).walk.first_log ≡ 4)
    × ((pins_second (record past_snapshot { hold = record (past_snapshot.hold) { generation = 1 } }) 2).walk.first_log ≡ 0)
    × ((walk_kept past_snapshot.walk 0).first_log ≡ 4)
    × ((walk_kept (record (past_snapshot.walk) { first_log = 0 }) 0).first_log ≡ 0)
    × ((walk_kept (record (past_snapshot.walk) { first_log = 0 }) 1).first_log ≡ 4)
    × ((walk_from_log past_snapshot.walk 3 0).first_log ≡ 3)
    × ((walk_from_snapshot past_snapshot.walk 2 5 1 1).first_log ≡ 0)

-- that seat with its table kept, its first log block not known, and these words of blocks
abbrev pub seeking : (block place : ℕ) → List KeptWord → Seat
seeking block place words = record past_snapshot { walk = record (past_snapshot.walk) { first_log = 0; reading_block = block; reading_place = place; kept = words } }

-- a word of the image
abbrev pub read_word : ℕ → ℕ → KeptWord
read_word block slot = kept block slot (slice_index late_read.memory.now.words (block * 8 + slot))

-- the first log block of a kept table is found over the blocks of its snapshot, which is block 5 alone, and the table stays. The block come
-- to is one of the snapshot: another one is refused, though all else is the same, as its link would lead elsewhere
abbrev pub FirstLogFound : Type 0
FirstLogFound =
    MayWork no_ghost (seeking 0 0 (read_word 5 1 ∷ [])) SeeksFirst
    × (state_after_work (seeking 0 0 (read_word 5 1 ∷ [])) SeeksFirst ≡ seeking 5 0 [])
    × IsSnapshotBlock (generation_at image_a late_read.generations 2) 0 5
    × (IsSnapshotBlock (generation_at image_a late_read.generations 2) 1 5 → ⊥)
    × MayWork no_ghost (seeking 5 0 (read_word 5 0 ∷ read_word 4 1 ∷ [])) FindsFirst
    × (MayWork no_ghost (seeking 5 0 (read_word 5 0 ∷ read_word 4 1 ∷ [])) SeeksNext → ⊥)
    × (MayWork no_ghost (seeking 0 0 (read_word 0 0 ∷ read_word 4 1 ∷ [])) FindsFirst → ⊥)
    × (state_after_work (seeking 5 0 (read_word 5 0 ∷ read_word 4 1 ∷ [])) FindsFirst ≡ record past_snapshot { walk = record (past_snapshot.walk) { first_log = 4 } })
    × (WalkHolds (around image_a late_read) past_snapshot.hold (seeking 3 0 []).walk → ⊥)
    × ((pins_second (seeking 5 0 []) 2).walk.reading_block ≡ 5)
    × ((walk_kept (seeking 5 0 []).walk 1).reading_block ≡ 0)
