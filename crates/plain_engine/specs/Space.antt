-- Which writes find no space: too few data blocks are clear or the least of them are no run, or the log cannot grow.
use Rattle.std.specs.Prelude.{ℕ, zero, suc, ◌+◌, ◌==◌, ◌&&◌, not, Bool, true, false, if◌then◌else◌, List, [], ◌∷◌, length, filter, slice_index, Option, Some, None}
use Rattle.std.specs.List.{range_with_len}
use Rattle.log_entry.specs.declared.shapes.Area.{Area}
use Rattle.log_entry.specs.declared.shapes.Area.TheVariants.{Data, Log}
use Rattle.log_image.specs.Image.{Shape}
use Rattle.log_image.specs.Tails.{Tail, AtSlot, AtLink, tail_of}
use Rattle.log_image.specs.Taken.{is_taken}

-- the blocks of a range that are not taken, the least first
abbrev pub clear_blocks : List ℕ → Shape → List ℕ → ℕ → ℕ → List ℕ
clear_blocks words shape chain first count = filter (λ (block : ℕ). not (is_taken words shape chain block)) (range_with_len first count)

-- the least data block that is not taken
abbrev pub least_data : List ℕ → Shape → List ℕ → ℕ
least_data words shape chain = slice_index (clear_blocks words shape chain 1 shape.data_blocks) 0

-- the least block of the log area that is not taken
abbrev pub least_log : List ℕ → Shape → List ℕ → ℕ
least_log words shape chain = slice_index (clear_blocks words shape chain (1 + shape.data_blocks) shape.log_blocks) 0

-- the list begins with so many numbers, each one more than the one before it, from this one on
abbrev pub begins_run : ℕ → ℕ → List ℕ → Bool
begins_run first zero blocks = true
begins_run first (suc count) [] = false
begins_run first (suc count) (block ∷ blocks) = block == first && begins_run (first + 1) count blocks

-- fewer data blocks are clear than these, or the least clear ones are not one run
abbrev pub lacks_data : List ℕ → Shape → List ℕ → ℕ → Bool
lacks_data words shape chain count =
    not (begins_run (least_data words shape chain) count (clear_blocks words shape chain 1 shape.data_blocks))

-- the tail is a link
abbrev pub is_link : Tail → Bool
is_link (AtSlot block slot) = false
is_link (AtLink block) = true

-- an entry needs a new log block, and no block of the log area is clear
abbrev pub lacks_log : List ℕ → Shape → List ℕ → Bool
lacks_log words shape chain =
    is_link (tail_of words shape chain) && length (clear_blocks words shape chain (1 + shape.data_blocks) shape.log_blocks) == 0

-- the area in which a write of so many blocks finds no space, if there is one
abbrev pub lacking : List ℕ → Shape → List ℕ → ℕ → Option Area
lacking words shape chain count = if lacks_data words shape chain count then Some Data else if lacks_log words shape chain then Some Log else None
