-- A run in which two seats write the same virtual block: both come to one tail, one puts its entry in, and the other takes that in and
-- puts its own in after it.
use Rattle.std.specs.Prelude.{◌≡◌, false, true, [], ◌∷◌, map, replicate, Some}
use Rattle.log_entry.specs.declared.shapes.Area.TheVariants.{Data}
use Rattle.log_entry.specs.declared.calls.Call.{Call}
use Rattle.log_entry.specs.declared.calls.Op.TheVariants.{Pwrite as PwriteOp}
use Rattle.log_entry.specs.declared.calls.Reply.TheVariants.{Wrote}
use Rattle.log_image.specs.Entries.{direct_meaning}
use Rattle.asks.specs.declared.ask.Ask.TheVariants.{Load, Exchange, SetBits, Fence}
use Rattle.asks.specs.declared.ask.Place.TheVariants.{Image, Map}
use Rattle.pmem_words.specs.declared.keeps.Task.TheVariants.{Pwrite}
use Rattle.log_core.specs.Views.{view_of}
use Rattle.log_core.specs.Origin.{Header, InChain, OwnedBy}
use Rattle.log_core.specs.Files.{Write, entries, end_of, file_at, history_map_at}
use Rattle.log_core.specs.Cores.{Core, generation_at, generation_blocks}
use Rattle.log_core.specs.Works.{CountsFilled, TakesEntry}
use Rattle.log_core.specs.Steps.{Step}
use Rattle.log_core.specs.After.{after}
use Rattle.log_core.specs.Runs.{Allowed, IsReached}
use Rattle.log_core.specs.Invariant.{Invariant}
use Rattle.log_core.specs.worked_rows.Samples.{image_a, step_of, stepping, storing, marking, pinning, walking}
use Rattle.log_core.specs.worked_rows.Rows.{to_first, to_second, first_call, first_write}
use Rattle.log_core.specs.worked_rows.Written.{own_at_tail}

-- where seat 0 stands at the tail with its block, seat 1 begins a write of another byte at 0, walks to the same tail, and takes, fills
-- and fences block 2
abbrev pub two_pinned : Core
two_pinned = pinning image_a own_at_tail 1 (Pwrite 0) (187 ∷ []) 1

abbrev pub two_walked : Core
two_walked = walking image_a two_pinned 1

abbrev pub two_taken : Core
two_taken = stepping image_a two_walked 1 (SetBits (Map 0) 4) 1 [] []

abbrev pub two_stored : Core
two_stored = storing image_a two_taken 1 0 2 0 (187 ∷ replicate 7 0)

abbrev pub two_marked : Core
two_marked = marking image_a two_stored 1 2 8

abbrev pub two_fenced : Core
two_fenced = stepping image_a two_marked 1 Fence 1 (CountsFilled 0 ∷ []) []

-- seat 0 puts its entry in, and its call ends with its record
abbrev pub one_put : Core
one_put = after image_a two_fenced (step_of image_a two_fenced 0 (Exchange (Image 27) 0 to_first) 1 [] [] (first_call ∷ []))

-- seat 1's exchange of the same slot finds that entry, which it takes in; then it finds the next slot empty
abbrev pub second_lost : Core
second_lost = stepping image_a one_put 1 (Exchange (Image 27) 0 to_second) 1 [] (TakesEntry ∷ [])

abbrev pub next_found : Core
next_found = stepping image_a second_lost 1 (Load (Image 28)) 1 [] []

-- there it puts its own entry in, and its call ends with its record
abbrev pub second_call : Call
second_call = record { position = 2; seat = 1; number = 1; op = PwriteOp 0 (187 ∷ []); reply = Wrote 1 }

abbrev pub second_step : Step
second_step = step_of image_a next_found 1 (Exchange (Image 28) 0 to_second) 1 [] [] (second_call ∷ [])

abbrev pub both_put : Core
both_put = after image_a next_found second_step

abbrev pub overwriting : Write
overwriting = record { seat = 1; number = 1; op = PwriteOp 0 (187 ∷ []); at = 1; entry = record { word = to_second; meaning = direct_meaning to_second } }

-- both stand at one tail with their blocks
abbrev pub TwoAtOneTail : Type 0
TwoAtOneTail =
    IsReached image_a two_fenced
    × Invariant image_a two_fenced
    × ((view_of two_fenced.views 0).seat.walk.tail_slot ≡ 3)
    × ((view_of two_fenced.views 1).seat.walk.tail_slot ≡ 3)
    × ((view_of two_fenced.views 0).seat.walk.at_tail ≡ true)
    × ((view_of two_fenced.views 1).seat.walk.at_tail ≡ true)
    × (map two_fenced.owner (0 ∷ 1 ∷ 2 ∷ 3 ∷ []) ≡ Header ∷ OwnedBy 0 ∷ OwnedBy 1 ∷ InChain ∷ [])

-- the exchange that comes second is lost: nothing but its view changes, which takes the other entry in and keeps its block. In that
-- slot its entry may not be put again
abbrev pub SecondLoses : Type 0
SecondLoses =
    IsReached image_a second_lost
    × Invariant image_a second_lost
    × (second_lost.history ≡ first_write ∷ [])
    × (second_lost.logs ≡ record { block = 3; base = 0; slots = to_first ∷ [] } ∷ [])
    × ((view_of second_lost.views 1).seat.walk.position ≡ 1)
    × ((view_of second_lost.views 1).seat.walk.tail_slot ≡ 4)
    × ((view_of second_lost.views 1).seat.walk.at_tail ≡ false)
    × ((view_of second_lost.views 1).seat.calling.lost ≡ 1)
    × ((view_of second_lost.views 1).seat.blocks.owned ≡ record { block = 2; area = Data; filled = true; fenced = true } ∷ [])
    × (map second_lost.owner (0 ∷ 1 ∷ 2 ∷ 3 ∷ []) ≡ Header ∷ InChain ∷ OwnedBy 1 ∷ InChain ∷ [])
    × (Allowed image_a next_found (step_of image_a next_found 1 (Exchange (Image 27) 0 to_second) 1 [] [] []) → ⊥)

-- a run leads to the end of both writes; so the invariant holds there. The history has both, and the file is the later one's byte at the
-- end. The block of the earlier one is still the chain's: no write gives back what it replaces
abbrev pub TwoWritersRun : Type 0
TwoWritersRun =
    IsReached image_a both_put
    × Invariant image_a both_put
    × (both_put.history ≡ first_write ∷ overwriting ∷ [])
    × (end_of image_a both_put.history ≡ 2)
    × (file_at image_a both_put.history 1 ≡ 170 ∷ [])
    × (file_at image_a both_put.history 2 ≡ 187 ∷ [])
    × (history_map_at image_a (entries image_a both_put.history) 1 0 ≡ Some 1)
    × (history_map_at image_a (entries image_a both_put.history) 2 0 ≡ Some 2)
    × (both_put.logs ≡ record { block = 3; base = 0; slots = to_first ∷ to_second ∷ [] } ∷ [])
    × (generation_blocks image_a both_put.logs (entries image_a both_put.history) (generation_at image_a both_put.generations 1) ≡ 3 ∷ 1 ∷ 2 ∷ [])
    × (map both_put.owner (0 ∷ 1 ∷ 2 ∷ 3 ∷ []) ≡ Header ∷ InChain ∷ InChain ∷ InChain ∷ [])
    × (both_put.memory.now.taken ≡ 15 ∷ [])
    × (both_put.recorded 1 ≡ 170 ∷ replicate 7 0)
    × (both_put.recorded 2 ≡ 187 ∷ replicate 7 0)
    × ((view_of both_put.views 0).done ≡ first_call ∷ [])
    × ((view_of both_put.views 1).done ≡ second_call ∷ [])
    × ((view_of both_put.views 1).seat.blocks.owned ≡ [])
    × ((view_of both_put.views 0).seat.giving.replaced ≡ [])
    × ((view_of both_put.views 1).seat.giving.replaced ≡ [])
