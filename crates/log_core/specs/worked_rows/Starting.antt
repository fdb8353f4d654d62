-- A start of every kind at once: a snapshot, an entry whose runs stand in a block of their own, a sealed and linked log block; and three
-- seats, all made.
use Rattle.std.specs.Prelude.{◌≡◌, [], ◌∷◌, length, map, replicate}
use Rattle.log_image.specs.Rows.{with_words, with_runs}
use Rattle.log_core.specs.Origin.{Origin, Header, Free, InChain, first_position, first_generation}
use Rattle.log_core.specs.Cores.{first_core}
use Rattle.log_core.specs.Starts.{IsStart, origin_of}
use Rattle.log_core.specs.Invariant.{Invariant}
use Rattle.log_core.specs.worked_rows.Samples.{wide}

-- the snapshot at position 7 is in block 11; it leads to block 10, whose one entry has its runs in block 5, and which is sealed behind it
-- and linked to block 12, where the log goes on at position 8
abbrev pub image_c : Origin
image_c = origin_of wide 3 3 (with_words ((80, 12) ∷ (84, 3) ∷ (97, 4611686018427387912) ∷ []) with_runs) (7423 ∷ []) (11 ∷ 10 ∷ 12 ∷ []) (replicate 384 0)

-- it is a start, and the invariant holds of the core that a run begins with there
abbrev pub EachKindStarts : Type 0
EachKindStarts =
    IsStart image_c
    × Invariant image_c (first_core image_c)
    × (first_position image_c ≡ 8)
    × (first_generation image_c ≡ 2)
    × (length (first_core image_c).views ≡ 3)
    × ((first_core image_c).logs ≡ record { block = 10; base = 7; slots = 22 ∷ 3 ∷ [] } ∷ record { block = 12; base = 8; slots = [] } ∷ [])
    × ((first_core image_c).generations ≡ record { snapshots = 11 ∷ []; shared = 7 ∷ 2 ∷ 4 ∷ 6 ∷ []; cut = 0; base = 7; size = 193 } ∷ [])
    × (map (first_core image_c).owner (0 ∷ 1 ∷ 5 ∷ 7 ∷ 8 ∷ 9 ∷ 10 ∷ 11 ∷ 12 ∷ 13 ∷ []) ≡ Header ∷ InChain ∷ InChain ∷ InChain ∷ Free ∷ Free ∷ InChain ∷ InChain ∷ InChain ∷ Free ∷ [])
