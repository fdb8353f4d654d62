-- What one block of a chain says, whether it is a snapshot block or a log block.
use Rattle.std.specs.Prelude.{ℕ, Bool, max, if◌then◌else◌, List, map}
use Rattle.log_image.specs.Image.{Shape}
use Rattle.log_image.specs.Entries.{meaning}
use Rattle.log_image.specs.Maps.{size_after}
use Rattle.log_image.specs.Blocks.{is_snapshot, file_size, slots_of, entry_words}
use Rattle.log_image.specs.Format.{is_snapshot_block, is_log_block}

-- the block has the words that its kind may have
abbrev pub is_sound : List ℕ → Shape → List ℕ → Bool
is_sound words shape block = if is_snapshot block then is_snapshot_block shape block else is_log_block words shape block

-- the size after the block, from the size before it: a snapshot block says it, and the entries of a log block grow it
abbrev pub size_past : List ℕ → Shape → ℕ → List ℕ → ℕ
size_past words shape size block =
    if is_snapshot block then max size (file_size block) else size_after shape size (map (meaning words shape) (entry_words (slots_of block)))
