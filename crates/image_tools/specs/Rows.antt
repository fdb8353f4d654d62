-- Worked texts of images.
use Rattle.std.specs.Prelude.{◌≡◌, ◌++◌, [], ◌∷◌, codes}
use Rattle.log_image.specs.Header.{shape_of}
use Rattle.log_image.specs.Rows.{collected, with_runs}
use Rattle.image_tools.specs.DumpText.{block_text, dump_text}

-- a snapshot of four entries, and after it an entry whose runs are in block 5
abbrev pub WithRuns : Type 0
WithRuns =
    dump_text with_runs (shape_of with_runs) (11 ∷ 10 ∷ [])
    ≡ codes "image data 7 log 2 spare 22 block 64\nhead generation 2 block 11\nsnapshot 11 base 7 count 4 size 193\n"
    ++ (codes "slot 3 direct virt 0 block 7 count 1 leftover 0\nslot 4 direct virt 1 block 2 count 1 leftover 0\n"
    ++ (codes "slot 5 direct virt 2 block 4 count 1 leftover 0\nslot 6 direct virt 3 block 6 count 1 leftover 0\n"
    ++ (codes "log 10 base 7\nslot 3 indirect 5 virt 4 count 2 leftover 0 run 1 1 run 3 1\n"
    ++ codes "end 8 384\n")))

-- a log block of two entries and a seal
abbrev pub SealedBlock : Type 0
SealedBlock =
    block_text collected (shape_of collected) 3
    ≡ codes "log 3 base 0\nslot 3 direct virt 0 block 1 count 1 leftover 63\nslot 4 direct virt 0 block 2 count 1 leftover 63\n"
    ++ codes "slot 5 seal\n"
