-- Wrong states and steps that one clause alone refuses, and what would come of each without that clause.
use Rattle.std.specs.Prelude.{ℕ, ◌≡◌, ◌≢◌, ◌≤◌, true, false, [], ◌∷◌, length, map, replicate, slice_set, Some}
use Rattle.std.proofs.Common.{refl, arith}
use Rattle.log_entry.specs.Shape.{total_of}
use Rattle.log_entry.specs.declared.shapes.Area.TheVariants.{Data, Spare}
use Rattle.log_entry.specs.declared.shapes.Geometry.{Geometry}
use Rattle.asks.specs.declared.ask.Ask.TheVariants.{Store, SetBits, ClearBits, Mark}
use Rattle.asks.specs.declared.ask.Place.TheVariants.{Image, Map}
use Rattle.pmem_words.specs.declared.keeps.Task.TheVariants.{Pwrite, Collect}
use Rattle.pmem_words.specs.Seats.{new_seat}
use Rattle.persistence.specs.Memory.{cell, index_at, pending_of}
use Rattle.log_core.specs.Views.{View, view_of, spent_view}
use Rattle.log_core.specs.Origin.{Free, Header, InChain, LeftTo}
use Rattle.log_core.specs.Cores.{Core, first_core}
use Rattle.log_core.specs.Works.{Begins, SetsWord, stored_at}
use Rattle.log_core.specs.May.{MayStoreWord, MayClearBits, AreGivenBack}
use Rattle.log_core.specs.Sizes.{MemoryFits, Sizes}
use Rattle.log_core.specs.worked_rows.Samples.{two_data, one_log, image_a, stepping}
use Rattle.log_core.specs.worked_rows.Rows.{taken_by_one, head_marked, collected}
use Rattle.log_core.specs.worked_rows.Refused.{OwnersOf, OwnedOf, SyncsOf, with_floor}

-- the bit of block 2, and one past the word's 64
abbrev pub past_the_word : ℕ
past_the_word = 18446744073709551620

-- seat 1 clears them: it owns block 2
abbrev pub all_cleared : Core
all_cleared = stepping image_a collected 1 (ClearBits (Map 0) past_the_word) 1 [] []

-- each bit of the word is clear then, those of blocks that have an owner too
abbrev pub BitPastTheWord : Type 0
BitPastTheWord =
    AreGivenBack (view_of collected.views 1).seat 2 0 past_the_word
    × (all_cleared.memory.now.taken ≡ 0 ∷ [])
    × (map all_cleared.owner (0 ∷ 1 ∷ 2 ∷ 3 ∷ 4 ∷ 5 ∷ []) ≡ Header ∷ InChain ∷ Free ∷ LeftTo 0 ∷ InChain ∷ InChain ∷ [])
    × (OwnersOf all_cleared → ⊥)
    × (MayClearBits (view_of collected.views 1).seat 2 0 past_the_word → ⊥)

-- in its sync seat 0 marks a word of the block that seat 1 owns, and seat 1 stores another value there
abbrev pub owned_marked : Core
owned_marked = stepping image_a head_marked 0 (Mark 16) 2 [] []

abbrev pub owned_stored : Core
owned_stored = stepping image_a owned_marked 1 (Store (Image 16) 188) 1 [] []

-- the mark is of the word's present value, which is not 0
abbrev pub IsOfPresent : Core → Type 0
IsOfPresent c = (index_at c.memory.past 17 16 ≡ length (cell c.memory 16).past) × ((cell c.memory 16).present ≢ 0)

-- the mark is of the present value before the store, and not after it. That it is of a block of the chain refuses it from the first
abbrev pub MarkOfOwnedBlock : Type 0
MarkOfOwnedBlock =
    (pending_of 0 owned_marked.memory.pending ≡ record { seat = 0; word = 3; time = 17 } ∷ record { seat = 0; word = 16; time = 17 } ∷ [])
    × IsOfPresent owned_marked
    × MayStoreWord (view_of owned_marked.views 1).seat 16 188
    × (IsOfPresent owned_stored → ⊥)
    × (SyncsOf owned_marked → ⊥)

-- no value was replaced yet, and the floor of a word is at the first one that will be; then seat 0 stores there
abbrev pub ahead : Core
ahead = with_floor taken_by_one 8 1

abbrev pub stored_in : Core → Core
stored_in c = stepping image_a c 0 (Store (Image 8) 170) 1 (SetsWord 0 0 170 ∷ []) []

-- the two floors are the same until a value is stored. Then no crash would leave the earlier one, with no mark and no fence
abbrev pub FloorAhead : Type 0
FloorAhead =
    (ahead.memory.past ≡ [])
    × (cell ahead.memory 8 ≡ cell taken_by_one.memory 8)
    × (cell (stored_in taken_by_one).memory 8 ≡ record { present = 170; past = 0 ∷ []; floor = 0 })
    × (cell (stored_in ahead).memory 8 ≡ record { present = 170; past = 0 ∷ []; floor = 1 })
    × (stored_at (view_of (stored_in ahead).views 0).ghost.stored 8 ≡ Some (record { word = 8; value = 170; marked = false }))
    × ((stored_in ahead).memory.pending ≡ [])
    × (MemoryFits image_a ahead.memory 2 → ⊥)

pub longer_total : total_of 2 1 512 ≤ 65535
longer_total = omega arith

-- the smaller shape with longer blocks: of 64 words each
abbrev pub longer : Geometry
longer = record { data_blocks = 2; log_blocks = 1; block_bytes = 512; block_allowed = refl; some_data = two_data; some_log = one_log; few_blocks = longer_total }

-- a spent view that holds block 1 as one of them, fenced: the words from 64 on, 0 each
abbrev pub spent_holder : View
spent_holder = record spent_view {
  seat = record (new_seat longer 1 2 0) {
    blocks = record ((new_seat longer 1 2 0).blocks) { owned = record { block = 1; area = Data; filled = false; fenced = true } ∷ []; contents = replicate 64 0 };
  };
}

-- seat 1 took block 1, and its view is that spent one; seat 0 took block 8, of the words from 64 on
abbrev pub both_taken : Core
both_taken =
    stepping image_a (stepping image_a (first_core image_a) 1 (SetBits (Map 0) 2) 1 (Begins (Pwrite 0) (170 ∷ []) ∷ []) []) 0 (SetBits (Map 0) 256) 1 (Begins Collect [] ∷ []) []

abbrev pub holder_left : Core
holder_left = record both_taken { views = slice_set both_taken.views 1 spent_holder }

abbrev pub holder_stored : Core
holder_stored = stepping image_a holder_left 0 (Store (Image 64) 170) 1 (SetsWord 0 0 170 ∷ []) []

-- the words are as the spent view has them until their owner stores there. That a spent view holds nothing refuses it from the first
abbrev pub SpentViewHolds : Type 0
SpentViewHolds =
    ((view_of holder_left.views 0).seat.blocks.owned ≡ record { block = 8; area = Spare; filled = false; fenced = false } ∷ [])
    × OwnedOf holder_left
    × MayStoreWord (view_of holder_left.views 0).seat 64 170
    × (OwnedOf holder_stored → ⊥)
    × (Sizes image_a holder_left.memory holder_left.views holder_left.began → ⊥)
