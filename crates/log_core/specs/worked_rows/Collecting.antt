-- A run in which two seats collect at one tail: each has its snapshot in an own block, and one of them puts its head in place.
use Rattle.std.specs.Prelude.{◌≡◌, true, [], ◌∷◌, map, Some}
use Rattle.log_entry.specs.declared.shapes.Area.TheVariants.{Spare}
use Rattle.asks.specs.declared.ask.Ask.TheVariants.{Load, Exchange, SetBits, Fence}
use Rattle.asks.specs.declared.ask.Place.TheVariants.{Image, Map}
use Rattle.pmem_words.specs.declared.keeps.Task.TheVariants.{Collect}
use Rattle.persistence.specs.Memory.{cell}
use Rattle.log_core.specs.Views.{view_of}
use Rattle.log_core.specs.Origin.{Header, Free, InChain, OwnedBy, LeftTo}
use Rattle.log_core.specs.Files.{entries, file_at}
use Rattle.log_core.specs.Cores.{Core, current, generation_at, generation_blocks}
use Rattle.log_core.specs.Works.{StartsFromLog, TakesEntry, TakesSeal, Follows, CountsFilled, NotesNamed}
use Rattle.log_core.specs.Runs.{IsReached}
use Rattle.log_core.specs.Invariant.{Invariant}
use Rattle.log_core.specs.worked_rows.Samples.{image_a, stepping, storing, marking, pinning}
use Rattle.log_core.specs.worked_rows.Rows.{snapshot_words, first_write}
use Rattle.log_core.specs.worked_rows.Written.{own_linked}

-- where seat 0 has linked block 4 in its collection, seat 1 begins one too: it pins the first generation, and walks past the entry, the
-- seal and the link to the same tail
abbrev pub other_pinned : Core
other_pinned = pinning image_a own_linked 1 Collect [] 1

abbrev pub other_front : Core
other_front = stepping image_a other_pinned 1 (Load (Image 25)) 1 [] []

abbrev pub other_past : Core
other_past = stepping image_a other_front 1 (Load (Image 27)) 1 (StartsFromLog ∷ []) (TakesEntry ∷ [])

abbrev pub other_end : Core
other_end = stepping image_a other_past 1 (Load (Image 28)) 1 [] (TakesSeal ∷ [])

abbrev pub other_next : Core
other_next = stepping image_a other_end 1 (Load (Image 24)) 1 [] (Follows ∷ [])

abbrev pub other_walked : Core
other_walked = stepping image_a other_next 1 (Load (Image 35)) 1 [] []

-- seat 0 takes block 5, fills it with its snapshot and fences it
abbrev pub first_taken : Core
first_taken = stepping image_a other_walked 0 (SetBits (Map 0) 32) 2 [] []

abbrev pub first_stored : Core
first_stored = storing image_a first_taken 0 0 5 0 snapshot_words

abbrev pub first_marked : Core
first_marked = marking image_a first_stored 0 5 8

abbrev pub first_fenced : Core
first_fenced = stepping image_a first_marked 0 Fence 2 (CountsFilled 0 ∷ []) []

-- and seat 1 block 6
abbrev pub other_taken : Core
other_taken = stepping image_a first_fenced 1 (SetBits (Map 0) 64) 1 [] []

abbrev pub other_stored : Core
other_stored = storing image_a other_taken 1 0 6 0 snapshot_words

abbrev pub other_marked : Core
other_marked = marking image_a other_stored 1 6 8

abbrev pub other_fenced : Core
other_fenced = stepping image_a other_marked 1 Fence 1 (CountsFilled 0 ∷ []) []

-- seat 0 puts its head in place: what it notes are the blocks 1, 3 and 4
abbrev pub head_put : Core
head_put = stepping image_a other_fenced 0 (Exchange (Image 3) 4294967299 8589934597) 2 (NotesNamed (26 ∷ []) ∷ []) []

-- both stand at one tail with their snapshots
abbrev pub TwoCollect : Type 0
TwoCollect =
    IsReached image_a other_fenced
    × Invariant image_a other_fenced
    × ((view_of other_fenced.views 0).seat.walk.tail_block ≡ 4)
    × ((view_of other_fenced.views 1).seat.walk.tail_block ≡ 4)
    × ((view_of other_fenced.views 0).seat.walk.at_tail ≡ true)
    × ((view_of other_fenced.views 1).seat.walk.at_tail ≡ true)
    × ((view_of other_fenced.views 0).seat.blocks.owned ≡ record { block = 5; area = Spare; filled = true; fenced = true } ∷ [])
    × ((view_of other_fenced.views 1).seat.blocks.owned ≡ record { block = 6; area = Spare; filled = true; fenced = true } ∷ [])
    × (map other_fenced.owner (0 ∷ 1 ∷ 2 ∷ 3 ∷ 4 ∷ 5 ∷ 6 ∷ []) ≡ Header ∷ InChain ∷ Free ∷ InChain ∷ InChain ∷ OwnedBy 0 ∷ OwnedBy 1 ∷ [])
    × (other_fenced.memory.now.taken ≡ 123 ∷ [])

-- the head that seat 0 puts in place is of the second generation, and leaves it the block that only the first one names
abbrev pub HeadRuns : Type 0
HeadRuns =
    IsReached image_a head_put
    × Invariant image_a head_put
    × (head_put.generations ≡ record { snapshots = []; shared = []; cut = 0; base = 0; size = 0 } ∷ record { snapshots = 5 ∷ []; shared = 1 ∷ []; cut = 1; base = 1; size = 1 } ∷ [])
    × (current image_a head_put.generations ≡ 2)
    × (generation_blocks image_a head_put.logs (entries image_a head_put.history) (generation_at image_a head_put.generations 1) ≡ 3 ∷ 4 ∷ 1 ∷ [])
    × (generation_blocks image_a head_put.logs (entries image_a head_put.history) (generation_at image_a head_put.generations 2) ≡ 5 ∷ 4 ∷ 1 ∷ [])
    × (cell head_put.memory 3 ≡ record { present = 8589934597; past = 4294967299 ∷ []; floor = 0 })
    × ((view_of head_put.views 0).seat.giving.replaced ≡ 3 ∷ [])
    × ((view_of head_put.views 0).seat.giving.replaced_generation ≡ 1)
    × ((view_of head_put.views 0).seat.blocks.owned ≡ [])
    × ((view_of head_put.views 0).ghost.call.put ≡ Some (record { generation = 2; base = 1; replaced = 1; limbo = 0 }))
    × (map head_put.owner (0 ∷ 1 ∷ 2 ∷ 3 ∷ 4 ∷ 5 ∷ 6 ∷ []) ≡ Header ∷ InChain ∷ Free ∷ LeftTo 0 ∷ InChain ∷ InChain ∷ OwnedBy 1 ∷ [])
    × (head_put.history ≡ first_write ∷ [])
    × (file_at image_a head_put.history 1 ≡ 170 ∷ [])
