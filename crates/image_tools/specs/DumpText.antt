-- The text of an image: its shape, its head, each block of its chain with its used slots, and the position and the size at the end.
use Rattle.std.specs.Prelude.{ℕ, ◌+◌, ◌==◌, if◌then◌else◌, List, [], ◌∷◌, ◌++◌, length, slice_index, codes, decimal}
use Rattle.std.specs.List.{flat_map}
use Rattle.log_entry.specs.Fields.{field}
use Rattle.log_entry.specs.Shape.{spare_blocks_of}
use Rattle.log_entry.specs.declared.layouts.TheConstants.{ENTRY_KIND, SEAL, DIRECT, DIRECT_VIRT, DIRECT_BLOCK, DIRECT_COUNT, DIRECT_LEFTOVER, INDIRECT_BLOCK, RUNS_VIRT, RUNS_COUNT, RUNS_LEFTOVER, RUN_BLOCK, RUN_COUNT}
use Rattle.log_image.specs.Image.{Shape, block_words}
use Rattle.log_image.specs.Header.{head_block, generation_of}
use Rattle.log_image.specs.Entries.{run_words}
use Rattle.log_image.specs.Blocks.{is_snapshot, base_of, entry_count, file_size, slots_of, entry_words, kept_words}
use Rattle.log_image.specs.Positions.{position_of, size_at_end}

-- the blocks of each area, and the bytes of a block
unfoldable pub shape_text : Shape → List ℕ
shape_text shape =
    codes "image data " ++ (decimal shape.data_blocks ++ (codes " log " ++ (decimal shape.log_blocks
    ++ (codes " spare " ++ (decimal (spare_blocks_of shape.data_blocks shape.block_bytes) ++ (codes " block " ++ (decimal shape.block_bytes ++ codes "\n")))))))

-- the present generation, and the first block of its chain
unfoldable pub head_text : List ℕ → List ℕ
head_text words = codes "head generation " ++ (decimal (generation_of words) ++ (codes " block " ++ (decimal (head_block words) ++ codes "\n")))

-- a run of an indirect entry
unfoldable pub run_text : ℕ → List ℕ
run_text run = codes " run " ++ (decimal (field RUN_BLOCK run) ++ (codes " " ++ decimal (field RUN_COUNT run)))

-- the word of a direct entry
unfoldable pub direct_text : ℕ → List ℕ
direct_text word =
    codes " direct virt " ++ (decimal (field DIRECT_VIRT word) ++ (codes " block " ++ (decimal (field DIRECT_BLOCK word)
    ++ (codes " count " ++ (decimal (field DIRECT_COUNT word + 1) ++ (codes " leftover " ++ decimal (field DIRECT_LEFTOVER word)))))))

-- the indirect entry whose runs are in the block of this number and these words
unfoldable pub indirect_text : ℕ → List ℕ → List ℕ
indirect_text holder block =
    codes " indirect " ++ (decimal holder ++ (codes " virt " ++ (decimal (field RUNS_VIRT (slice_index block 0))
    ++ (codes " count " ++ (decimal (field RUNS_COUNT (slice_index block 0)) ++ (codes " leftover " ++ (decimal (field RUNS_LEFTOVER (slice_index block 0)) ++ flat_map run_text (run_words block))))))))

-- the word of an entry of the log
abbrev pub entry_text : List ℕ → Shape → ℕ → List ℕ
entry_text words shape word =
    if field ENTRY_KIND word == DIRECT then direct_text word
    else indirect_text (field INDIRECT_BLOCK word) (block_words words shape (field INDIRECT_BLOCK word))

-- a line for each of some entries, which are in the slots from one on
abbrev pub slot_lines : (ℕ → List ℕ) → ℕ → List ℕ → List ℕ
slot_lines says slot [] = []
slot_lines says slot (word ∷ words) = codes "slot " ++ (decimal slot ++ (says word ++ (codes "\n" ++ slot_lines says (slot + 1) words)))

-- a line for the slot after the entries, where that is a seal
abbrev pub seal_line : List ℕ → List ℕ
seal_line slots =
    if slice_index slots (length (entry_words slots)) == SEAL then codes "slot " ++ (decimal (3 + length (entry_words slots)) ++ codes " seal\n") else []

-- the lines of the snapshot block of this number and these words
unfoldable pub snapshot_text : ℕ → List ℕ → List ℕ
snapshot_text number block =
    codes "snapshot " ++ (decimal number ++ (codes " base " ++ (decimal (base_of block) ++ (codes " count " ++ (decimal (entry_count block)
    ++ (codes " size " ++ (decimal (file_size block) ++ (codes "\n" ++ slot_lines direct_text 3 (kept_words block)))))))))

-- the lines of the log block of this number and these words
unfoldable pub log_text : List ℕ → Shape → ℕ → List ℕ → List ℕ
log_text words shape number block =
    codes "log " ++ (decimal number ++ (codes " base " ++ (decimal (base_of block)
    ++ (codes "\n" ++ (slot_lines (entry_text words shape) 3 (entry_words (slots_of block)) ++ seal_line (slots_of block))))))

-- the lines of a block of the chain
abbrev pub block_text : List ℕ → Shape → ℕ → List ℕ
block_text words shape number =
    if is_snapshot (block_words words shape number) then snapshot_text number (block_words words shape number)
    else log_text words shape number (block_words words shape number)

-- the position and the size at the end
unfoldable pub end_text : ℕ → ℕ → List ℕ
end_text position size = codes "end " ++ (decimal position ++ (codes " " ++ (decimal size ++ codes "\n")))

-- the lines of the image
unfoldable pub dump_text : List ℕ → Shape → List ℕ → List ℕ
dump_text words shape chain =
    shape_text shape ++ (head_text words ++ (flat_map (block_text words shape) chain ++ end_text (position_of words shape chain) (size_at_end words shape chain)))
