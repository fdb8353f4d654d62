-- How that run goes on after the collection: the other seat reads the file by the second generation's snapshot.
use Rattle.std.specs.Prelude.{◌≡◌, true, false, [], ◌∷◌, map, replicate}
use Rattle.log_entry.specs.declared.shapes.Area.TheVariants.{Log}
use Rattle.log_entry.specs.declared.calls.Call.{Call}
use Rattle.log_entry.specs.declared.calls.Op.TheVariants.{Pread as PreadOp}
use Rattle.log_entry.specs.declared.calls.Reply.TheVariants.{Bytes}
use Rattle.asks.specs.declared.ask.Ask.TheVariants.{Load, Store, SetBits}
use Rattle.asks.specs.declared.ask.Place.TheVariants.{Image, Pin, Map}
use Rattle.pmem_words.specs.declared.keeps.Task.TheVariants.{Pwrite, Pread}
use Rattle.log_core.specs.Views.{view_of}
use Rattle.log_core.specs.Origin.{Header, Free, InChain, OwnedBy, LeftTo}
use Rattle.log_core.specs.Cores.{Core}
use Rattle.log_core.specs.Works.{Begins, StartsFromSnapshot, ReadsRun, EndsReading, Lays, MayWork}
use Rattle.log_core.specs.After.{after}
use Rattle.log_core.specs.Runs.{Allowed, IsReached}
use Rattle.log_core.specs.Invariant.{Invariant}
use Rattle.log_core.specs.worked_rows.Samples.{image_a, step_of, stepping}
use Rattle.log_core.specs.worked_rows.Collecting.{head_put}
use Rattle.log_core.specs.worked_rows.GivenBack.{given_from, overtaken_from, overtaken_call}

-- seat 1 begins a read of four bytes at 0, and pins the second generation
abbrev pub asked_from : Core → Core
asked_from c = stepping image_a (given_from c) 1 (Load (Image 3)) 2 (Begins (Pread 0 4) [] ∷ []) []

abbrev pub stored_from : Core → Core
stored_from c = stepping image_a (asked_from c) 1 (Store (Pin 1) 2) 2 [] []

abbrev pub pinned_from : Core → Core
pinned_from c = stepping image_a (stored_from c) 1 (Load (Image 3)) 2 [] []

-- it reads the snapshot in block 5: its second and third word, its one run, the empty slot after that, and its link
abbrev pub front_from : Core → Core
front_from c = stepping image_a (pinned_from c) 1 (Load (Image 41)) 2 [] []

abbrev pub started_from : Core → Core
started_from c = stepping image_a (front_from c) 1 (Load (Image 42)) 2 [] (StartsFromSnapshot ∷ [])

abbrev pub run_from : Core → Core
run_from c = stepping image_a (started_from c) 1 (Load (Image 43)) 2 [] (ReadsRun ∷ [])

abbrev pub over_from : Core → Core
over_from c = stepping image_a (run_from c) 1 (Load (Image 44)) 2 [] []

abbrev pub link_from : Core → Core
link_from c = stepping image_a (over_from c) 1 (Load (Image 40)) 2 [] []

-- the block that it links to is of the log, so the snapshot is read whole; that block's first slot is empty
abbrev pub read_from : Core → Core
read_from c = stepping image_a (link_from c) 1 (Load (Image 33)) 2 [] (EndsReading ∷ [])

abbrev pub tail_from : Core → Core
tail_from c = stepping image_a (read_from c) 1 (Load (Image 35)) 2 [] []

-- with the word of block 1 it has the file's one byte, and its call ends
abbrev pub byte_from : Core → Core
byte_from c = stepping image_a (tail_from c) 1 (Load (Image 8)) 2 [] []

abbrev pub read_call : Call
read_call = record { position = 1; seat = 1; number = 2; op = PreadOp 0 4; reply = Bytes (170 ∷ []) }

abbrev pub told_from : Core → Core
told_from c = after image_a (tail_from c) (step_of image_a (tail_from c) 1 (Load (Image 8)) 2 [] (Lays (170 ∷ []) ∷ []) (read_call ∷ []))

-- its view is the snapshot's, and at its tail it may load no word of the block that was given back; it reads the byte that was written
-- before the collection, and no other
abbrev pub ReadsBySnapshot : Core → Type 0
ReadsBySnapshot c =
    IsReached image_a (tail_from c)
    × Invariant image_a (tail_from c)
    × ((tail_from c).memory.now.pins ≡ 0 ∷ 2 ∷ [])
    × ((view_of (tail_from c).views 1).seat.hold ≡ record { head = 8589934597; pin = 2; generation = 2; valid = true })
    × ((view_of (tail_from c).views 1).seat.walk.position ≡ 1)
    × ((view_of (tail_from c).views 1).seat.walk.size ≡ 1)
    × ((view_of (tail_from c).views 1).seat.walk.snapshot_base ≡ 1)
    × ((view_of (tail_from c).views 1).seat.walk.tail_block ≡ 4)
    × ((view_of (tail_from c).views 1).seat.walk.at_tail ≡ true)
    × (Allowed image_a (tail_from c) (step_of image_a (tail_from c) 1 (Load (Image 27)) 2 [] [] []) → ⊥)
    × (MayWork (view_of (byte_from c).views 1).ghost (view_of (byte_from c).views 1).seat (Lays (171 ∷ [])) → ⊥)
    × IsReached image_a (told_from c)
    × Invariant image_a (told_from c)
    × ((view_of (told_from c).views 1).done ≡ overtaken_call ∷ read_call ∷ [])

abbrev pub ReadAgainRuns : Type 0
ReadAgainRuns = ReadsBySnapshot head_put

-- then seat 1 begins a write, and takes the block that was given back as its log block
abbrev pub taken_from : Core → Core
taken_from c = stepping image_a (told_from c) 1 (SetBits (Map 0) 8) 3 (Begins (Pwrite 0) (187 ∷ []) ∷ []) []

-- the same where the block is still kept
abbrev pub early_from : Core → Core
early_from c = stepping image_a (overtaken_from c) 1 (SetBits (Map 0) 8) 2 (Begins (Pwrite 0) (187 ∷ []) ∷ []) []

-- so the block is used again, and its content is begun anew; while it was kept, the same setting of its bit takes nothing
abbrev pub UsedAgain : Core → Type 0
UsedAgain c =
    IsReached image_a (taken_from c)
    × Invariant image_a (taken_from c)
    × ((view_of (taken_from c).views 1).seat.blocks.owned ≡ record { block = 3; area = Log; filled = false; fenced = false } ∷ [])
    × ((view_of (taken_from c).views 1).seat.blocks.contents ≡ replicate 8 0)
    × (map (taken_from c).owner (0 ∷ 1 ∷ 2 ∷ 3 ∷ 4 ∷ 5 ∷ 6 ∷ []) ≡ Header ∷ InChain ∷ Free ∷ OwnedBy 1 ∷ InChain ∷ InChain ∷ Free ∷ [])
    × ((taken_from c).memory.now.taken ≡ 59 ∷ [])
    × IsReached image_a (early_from c)
    × Invariant image_a (early_from c)
    × ((view_of (early_from c).views 1).seat.blocks.owned ≡ [])
    × ((early_from c).owner 3 ≡ LeftTo 0)

abbrev pub UsedAgainRuns : Type 0
UsedAgainRuns = UsedAgain head_put
