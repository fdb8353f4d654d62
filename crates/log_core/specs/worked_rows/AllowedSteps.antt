-- Steps on the bitmap and on own blocks: what they come to; which steps are allowed; and a run of them.
use Rattle.std.specs.Prelude.{ℕ, ◌≡◌, true, false, List, [], ◌∷◌, map, replicate, Some}
use Rattle.log_entry.specs.declared.shapes.Area.TheVariants.{Data}
use Rattle.pmem_words.specs.declared.keeps.Task.TheVariants.{Collect}
use Rattle.asks.specs.declared.ask.Ask.{Ask}
use Rattle.asks.specs.declared.ask.Ask.TheVariants.{Load, Store, Exchange, SetBits, ClearBits, Mark, Fence}
use Rattle.asks.specs.declared.ask.Place.TheVariants.{Image, Map}
use Rattle.persistence.specs.Memory.{cell}
use Rattle.log_core.specs.Views.{view_of}
use Rattle.log_core.specs.Origin.{Free, Header, InChain, OwnedBy}
use Rattle.log_core.specs.Cores.{Core}
use Rattle.log_core.specs.Works.{Work, Begins, StartsFromLog, SetsWord, CountsFilled, stored_at, state_after_work}
use Rattle.log_core.specs.May.{MayLoadBitmapWord, MaySetBits}
use Rattle.log_core.specs.Runs.{Allowed, IsReached}
use Rattle.log_core.specs.Starts.{IsStart}
use Rattle.log_core.specs.Invariant.{Invariant}
use Rattle.log_core.specs.worked_rows.Samples.{image_a, step_of, stepping, number_in, storing, marking}
use Rattle.log_core.specs.worked_rows.Rows.{pinned, walked, taken_by_one, stored_words, marked_words, fenced, syncing, slot_marked, collected, scan_clear, racing, to_first, written, linking}

-- another value is stored in a filled and fenced block
abbrev pub stored_again : Core
stored_again = stepping image_a fenced 0 (Store (Image 8) 171) 1 [] []

-- a block is neither filled nor fenced after a store into it, nor after a word of its content is set; the word stored is not marked, the
-- others stay so; and a mark is of its own word alone
abbrev pub FilledNoMore : Type 0
FilledNoMore =
    ((view_of stored_again.views 0).seat.blocks.owned ≡ record { block = 1; area = Data; filled = false; fenced = false } ∷ [])
    × ((state_after_work (view_of fenced.views 0).seat (SetsWord 0 0 171)).blocks.owned ≡ record { block = 1; area = Data; filled = false; fenced = false } ∷ [])
    × (stored_at (view_of stored_again.views 0).ghost.stored 8 ≡ Some (record { word = 8; value = 171; marked = false }))
    × (stored_at (view_of stored_again.views 0).ghost.stored 9 ≡ Some (record { word = 9; value = 0; marked = true }))
    × (cell stored_again.memory 8 ≡ record { present = 171; past = 0 ∷ 170 ∷ []; floor = 1 })
    × (stored_at (view_of (stepping image_a stored_words 0 (Mark 8) 1 [] []).views 0).ghost.stored 8 ≡ Some (record { word = 8; value = 170; marked = true }))
    × (stored_at (view_of (stepping image_a stored_words 0 (Mark 8) 1 [] []).views 0).ghost.stored 9 ≡ Some (record { word = 9; value = 0; marked = false }))

-- a bitmap word that there is may be loaded in a call that lacks blocks, and in no sync
abbrev pub BitmapMayBeRead : Type 0
BitmapMayBeRead =
    MayLoadBitmapWord (view_of walked.views 0).seat 0
    × (MayLoadBitmapWord (view_of walked.views 0).seat 1 → ⊥)
    × (MayLoadBitmapWord (view_of syncing.views 0).seat 0 → ⊥)
    × (MaySetBits (view_of syncing.views 0).seat 0 4 → ⊥)

-- a step of a seat in its running call is allowed
abbrev pub IsAllowed : Core → ℕ → Ask → List Work → Type 0
IsAllowed c seat ask works = Allowed image_a c (step_of image_a c seat ask (number_in c seat) works [] [])

-- the second word of the first block of its chain is read
abbrev pub front_read : Core
front_read = stepping image_a pinned 0 (Load (Image 25)) 1 [] []

-- seat 0 begins a collection, and finds the tail's slot empty
abbrev pub tail_read : Core
tail_read = stepping image_a written 0 (Load (Image 28)) 2 (Begins Collect [] ∷ []) []

-- allowed are a load of a word of the pinned chain, also where a walk begins at the first log block before it, a load of a bitmap
-- word, a setting of bits, a store into an own block, a mark of a word of it, a fence in a write, and a clearing of the bits of own
-- blocks and of replaced ones; a sync's mark of the head and of a slot, a collection's mark of its head, and a sync's fence; and exchanges of the tail's slot for an entry and
-- for a seal, and of its link. Not of a link for a block with another content, nor of a slot that is not the tail's
abbrev pub AllowedKinds : Type 0
AllowedKinds =
    IsAllowed pinned 0 (Load (Image 25)) []
    × IsAllowed front_read 0 (Load (Image 27)) (StartsFromLog ∷ [])
    × IsAllowed walked 0 (Load (Map 0)) []
    × IsAllowed walked 0 (SetBits (Map 0) 2) []
    × IsAllowed taken_by_one 0 (Store (Image 8) 170) (SetsWord 0 0 170 ∷ [])
    × IsAllowed stored_words 0 (Mark 8) []
    × IsAllowed marked_words 0 Fence (CountsFilled 0 ∷ [])
    × IsAllowed collected 1 (ClearBits (Map 0) 4) []
    × IsAllowed scan_clear 0 (ClearBits (Map 0) 8) []
    × IsAllowed syncing 0 (Mark 3) []
    × IsAllowed syncing 0 (Mark 27) []
    × IsAllowed collected 0 (Mark 3) []
    × IsAllowed slot_marked 0 Fence []
    × IsAllowed racing 0 (Exchange (Image 27) 0 to_first) []
    × IsAllowed tail_read 0 (Exchange (Image 28) 0 3) []
    × IsAllowed linking 0 (Exchange (Image 24) 0 4) []
    × (IsAllowed linking 0 (Exchange (Image 24) 0 5) [] → ⊥)
    × (IsAllowed tail_read 0 (Exchange (Image 29) 0 3) [] → ⊥)

-- seat 0 with its pin loads the bitmap word, takes block 1, stores and marks its words, fences it, and gives it back
abbrev pub own_taken : Core
own_taken = stepping image_a (stepping image_a pinned 0 (Load (Map 0)) 1 [] []) 0 (SetBits (Map 0) 2) 1 [] []

abbrev pub own_stored : Core
own_stored = storing image_a own_taken 0 0 1 0 (170 ∷ replicate 7 0)

abbrev pub own_marked : Core
own_marked = marking image_a own_stored 0 1 8

abbrev pub own_fenced : Core
own_fenced = stepping image_a own_marked 0 Fence 1 (CountsFilled 0 ∷ []) []

abbrev pub own_given : Core
own_given = stepping image_a own_fenced 0 (ClearBits (Map 0) 2) 1 [] []

-- the just-made image is a start, and a run leads from it to each of these; so the invariant holds of them
abbrev pub BlockRuns : Type 0
BlockRuns =
    IsStart image_a
    × IsReached image_a own_fenced
    × Invariant image_a own_fenced
    × ((view_of own_fenced.views 0).seat.blocks.owned ≡ record { block = 1; area = Data; filled = true; fenced = true } ∷ [])
    × (cell own_fenced.memory 8 ≡ record { present = 170; past = 0 ∷ []; floor = 1 })
    × (map own_fenced.owner (0 ∷ 1 ∷ 2 ∷ 3 ∷ []) ≡ Header ∷ OwnedBy 0 ∷ Free ∷ InChain ∷ [])
    × IsReached image_a own_given
    × Invariant image_a own_given
    × ((view_of own_given.views 0).seat.blocks.owned ≡ [])
    × (map own_given.owner (0 ∷ 1 ∷ 2 ∷ 3 ∷ []) ≡ Header ∷ Free ∷ Free ∷ InChain ∷ [])
