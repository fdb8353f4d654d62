-- What a collection has noted of its chain's blocks: it grows with the walk, and other words are refused.
use Rattle.std.specs.Prelude.{ℕ, ◌≡◌, true, false, List, [], ◌∷◌, Some}
use Rattle.pmem_words.specs.Seats.{Seat, bitmap_words}
use Rattle.log_core.specs.Views.{view_of}
use Rattle.log_core.specs.Cores.{Core}
use Rattle.log_core.specs.Works.{KeepsTable, NotesNamed, state_after_work}
use Rattle.log_core.specs.Steps.{replaced_by}
use Rattle.log_core.specs.Walks.{WalkHolds}
use Rattle.log_core.specs.Noted.{NotedBy}
use Rattle.log_core.specs.Invariant.{around}
use Rattle.log_core.specs.worked_rows.Samples.{image_a, small}
use Rattle.log_core.specs.worked_rows.Collecting.{other_front, other_past, other_end, other_next}

-- seat 1 as its collection walks
abbrev pub collector : Core → Seat
collector c = (view_of c.views 1).seat

-- at the tail, with these words of bits
abbrev pub noting_words : List ℕ → Seat
noting_words words = record (collector other_next) { blocks = record ((collector other_next).blocks) { named = words } }

-- what an exchange of the head would leave to it by them, with the map's first place
abbrev pub left_by : List ℕ → List ℕ
left_by words = replaced_by (record (noting_words words) { walk = record ((collector other_next).walk) { map = Some 1 ∷ [] } })

-- the words are those of the chain's front, then with the entry's block, and then with the linked one. Words without the first log block
-- would leave it out of what an exchange of the head replaces, and nobody would give it back; with another block that would be given back
-- too. Both are of the image's length, and the walk is the same: the words are refused by what has to hold of them alone
abbrev pub NotedOfAnother : Type 0
NotedOfAnother =
    ((collector other_front).calling.noting ≡ false)
    × ((collector other_past).calling.noting ≡ true)
    × ((collector other_past).blocks.named ≡ 10 ∷ [])
    × ((collector other_end).blocks.named ≡ 10 ∷ [])
    × ((collector other_next).blocks.named ≡ 26 ∷ [])
    × NotedBy (around image_a other_next) (noting_words (26 ∷ []))
    × (NotedBy (around image_a other_next) (noting_words (18 ∷ [])) → ⊥)
    × (NotedBy (around image_a other_next) (noting_words (58 ∷ [])) → ⊥)
    × WalkHolds (around image_a other_next) (collector other_next).hold (collector other_next).walk
    × (bitmap_words small ≡ 1)
    × (left_by (26 ∷ []) ≡ 3 ∷ [])
    × (left_by (18 ∷ []) ≡ [])
    × (left_by (58 ∷ []) ≡ 3 ∷ 5 ∷ [])
    × ((state_after_work (collector other_next) (NotesNamed (24 ∷ []))).calling.noting ≡ false)
    × ((state_after_work (collector other_next) KeepsTable).calling.noting ≡ false)
