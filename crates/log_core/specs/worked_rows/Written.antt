-- A run in which a seat writes a byte: its entry is put in at the tail, with its record. And exchanges that would put in another one.
use Rattle.std.specs.Prelude.{◌≡◌, [], ◌∷◌, map, replicate, ◌+◌, ◌^◌}
use Rattle.pmem_words.specs.declared.keeps.Task.TheVariants.{Collect}
use Rattle.asks.specs.declared.ask.Ask.TheVariants.{Load, Exchange, SetBits, Fence}
use Rattle.asks.specs.declared.ask.Place.TheVariants.{Image, Map}
use Rattle.log_core.specs.Views.{view_of}
use Rattle.log_core.specs.Origin.{Header, Free, InChain}
use Rattle.log_core.specs.Files.{end_of, file_at}
use Rattle.log_core.specs.Cores.{Core}
use Rattle.log_core.specs.Works.{Begins, StartsFromLog, CountsFilled}
use Rattle.log_core.specs.After.{after}
use Rattle.log_core.specs.Runs.{IsReached}
use Rattle.log_core.specs.Invariant.{Invariant}
use Rattle.log_core.specs.worked_rows.Samples.{image_a, step_of, stepping, storing, marking}
use Rattle.log_core.specs.worked_rows.Rows.{to_first, to_second, first_call, first_write, log_words}
use Rattle.log_core.specs.worked_rows.AllowedSteps.{IsAllowed, own_marked, own_fenced}

-- a seat reads the front of its chain, and comes to the tail
abbrev pub at_tail_from : Core → Core
at_tail_from c = stepping image_a (stepping image_a c 0 (Load (Image 25)) 1 [] []) 0 (Load (Image 27)) 1 (StartsFromLog ∷ []) []

-- seat 0 with its block fenced, and with it not fenced
abbrev pub own_at_tail : Core
own_at_tail = at_tail_from own_fenced

abbrev pub unfenced_at_tail : Core
unfenced_at_tail = at_tail_from own_marked

abbrev pub own_put : Core
own_put = after image_a own_at_tail (step_of image_a own_at_tail 0 (Exchange (Image 27) 0 to_first) 1 [] [] (first_call ∷ []))

-- a run leads to the end of the write; so the invariant holds there, and the file is what was written
abbrev pub WriteRuns : Type 0
WriteRuns =
    IsReached image_a own_put
    × Invariant image_a own_put
    × (own_put.history ≡ first_write ∷ [])
    × (end_of image_a own_put.history ≡ 1)
    × (file_at image_a own_put.history 1 ≡ 170 ∷ [])
    × ((view_of own_put.views 0).done ≡ first_call ∷ [])
    × (own_put.logs ≡ record { block = 3; base = 0; slots = to_first ∷ [] } ∷ [])
    × (map own_put.owner (0 ∷ 1 ∷ 2 ∷ 3 ∷ []) ≡ Header ∷ InChain ∷ Free ∷ InChain ∷ [])
    × (own_put.recorded 1 ≡ 170 ∷ replicate 7 0)
    × ((view_of own_put.views 0).seat.blocks.owned ≡ [])

-- then it collects: it finds the tail's slot empty and seals the block, and takes block 4, fills it as a log block and fences it
abbrev pub own_sealing : Core
own_sealing = stepping image_a own_put 0 (Load (Image 28)) 2 (Begins Collect [] ∷ []) []

abbrev pub own_sealed : Core
own_sealed = stepping image_a own_sealing 0 (Exchange (Image 28) 0 3) 2 [] []

abbrev pub log_taken : Core
log_taken = stepping image_a own_sealed 0 (SetBits (Map 0) 16) 2 [] []

abbrev pub log_stored : Core
log_stored = storing image_a log_taken 0 0 4 0 log_words

abbrev pub log_marked : Core
log_marked = marking image_a log_stored 0 4 8

abbrev pub log_fenced : Core
log_fenced = stepping image_a log_marked 0 Fence 2 (CountsFilled 0 ∷ []) []

abbrev pub own_linked : Core
own_linked = stepping image_a log_fenced 0 (Exchange (Image 24) 0 4) 2 [] []

-- a run leads to the new log block; so the invariant holds there
abbrev pub LinkRuns : Type 0
LinkRuns =
    IsReached image_a own_linked
    × Invariant image_a own_linked
    × (own_linked.logs ≡ record { block = 3; base = 0; slots = to_first ∷ 3 ∷ [] } ∷ record { block = 4; base = 1; slots = [] } ∷ [])
    × (own_linked.history ≡ first_write ∷ [])
    × (own_linked.recorded 4 ≡ log_words)
    × (map own_linked.owner (0 ∷ 1 ∷ 2 ∷ 3 ∷ 4 ∷ 5 ∷ []) ≡ Header ∷ InChain ∷ Free ∷ InChain ∷ InChain ∷ Free ∷ [])
    × ((view_of own_linked.views 0).seat.walk.tail_block ≡ 4)
    × ((view_of own_linked.views 0).seat.walk.position ≡ 1)

-- at the same tail no entry may be put in that names a block that is not fenced, or not the seat's, nor one that says another size, nor one
-- that has more than 64 bits
abbrev pub EntriesNotPut : Type 0
EntriesNotPut =
    (IsAllowed unfenced_at_tail 0 (Exchange (Image 27) 0 to_first) [] → ⊥)
    × (IsAllowed own_at_tail 0 (Exchange (Image 27) 0 to_second) [] → ⊥)
    × (IsAllowed own_at_tail 0 (Exchange (Image 27) 0 272678883950593) [] → ⊥)
    × (IsAllowed own_at_tail 0 (Exchange (Image 27) 0 (to_first + 2 ^ 64)) [] → ⊥)
