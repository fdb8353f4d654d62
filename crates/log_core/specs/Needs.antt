-- How many blocks of an area a call lacks, and whether it has found that there are no more.
use Rattle.std.specs.Prelude.{ℕ, ◌+◌, ◌-◌, ◌/◌, ◌%◌, ◌==◌, ◌&&◌, ◌||◌, not, nat_lt, nat_le, Bool, true, false, if◌then◌else◌, List, [], ◌∷◌, length, map, filter, slice_index}
use Rattle.std.specs.Int.{bit_at}
use Rattle.std.specs.List.{range_with_len, list_any, list_all}
use Rattle.log_entry.specs.Shape.{snapshot_blocks_of}
use Rattle.log_entry.specs.Legal.{touched_blocks}
use Rattle.log_entry.specs.declared.shapes.Area.{Area}
use Rattle.log_entry.specs.declared.shapes.Area.TheVariants.{Data, Log, Spare}
use Rattle.log_image.specs.Image.{Shape, total, is_in_data}
use Rattle.pmem_words.specs.declared.keeps.Task.{Task}
use Rattle.pmem_words.specs.declared.keeps.Task.TheVariants.{Pwrite, Append, Collect, Take}
use Rattle.pmem_words.specs.declared.owned.OwnedBlock.{OwnedBlock}
use Rattle.pmem_words.specs.Seats.{Seat}
use Rattle.log_image.specs.Chains.{is_listed}
use Rattle.log_core.specs.Works.{seat_shape}

-- the blocks of an area
abbrev pub is_in_area : Shape → Area → ℕ → Bool
is_in_area image Data block = is_in_data image block
is_in_area image Log block = nat_lt image.data_blocks block && nat_le block (image.data_blocks + image.log_blocks)
is_in_area image Spare block = nat_lt (image.data_blocks + image.log_blocks) block && nat_lt block (total image)

abbrev pub is_area : Area → Area → Bool
is_area Data Data = true
is_area Log Log = true
is_area Spare Spare = true
is_area _ _ = false

-- the numbers of owned blocks, and of those in an area
abbrev pub owned_numbers : List OwnedBlock → List ℕ
owned_numbers owned = map (λ (o : OwnedBlock). o.block) owned

abbrev pub owned_in : Seat → Area → List ℕ
owned_in s area = filter (λ (block : ℕ). is_in_area (seat_shape s) area block) (owned_numbers s.blocks.owned)

-- the blocks are those of one run: from one of them on, as many in a row are theirs
abbrev pub is_one_run : List ℕ → Bool
is_one_run blocks = list_any (λ (first : ℕ). list_all (λ (block : ℕ). is_listed blocks block) (range_with_len first (length blocks))) blocks

-- the virtual blocks that a write of so many bytes touches; none without bytes
abbrev pub touched_from : ℕ → ℕ → List ℕ → ℕ
touched_from block_bytes offset [] = 0
touched_from block_bytes offset (byte ∷ bytes) = touched_blocks block_bytes offset (length (byte ∷ bytes))

-- the data blocks lacking where so many virtual blocks are touched: one for each, and one more where those are not one run
abbrev pub data_lacking : ℕ → List ℕ → ℕ
data_lacking touched owned =
    if nat_lt (length owned) touched then touched - length owned
    else if (length owned == touched) && nat_lt 0 touched && not (is_one_run owned) then 1
    else 0

-- how many blocks of an area the seat lacks for its task: data blocks for a write, a log block where it has none, the blocks of
-- the largest snapshot and a log block for a collection; and what a machine that is driven alone was told to take
abbrev pub lacking : Seat → Task → Area → ℕ
lacking s (Pwrite offset) Data = data_lacking (touched_from s.geometry.block_bytes offset s.calling.bytes) (owned_in s Data)
lacking s Append Data = data_lacking (touched_from s.geometry.block_bytes s.walk.size s.calling.bytes) (owned_in s Data)
lacking s (Pwrite offset) Log = 1 - length (owned_in s Log)
lacking s Append Log = 1 - length (owned_in s Log)
lacking s Collect Spare = snapshot_blocks_of s.geometry.data_blocks s.geometry.block_bytes + 1 - length (owned_in s Spare)
lacking s (Take wanted count) area = if is_area wanted area then count - length (owned_in s area) else 0
lacking s _ area = 0

-- each block of an area is among those found taken
abbrev pub is_found_taken : Seat → Area → Bool
is_found_taken s area =
    list_all (λ (block : ℕ). not (is_in_area (seat_shape s) area block) || (bit_at (slice_index s.blocks.found (block / 64)) (block % 64) == 1))
    (range_with_len 1 (total (seat_shape s) - 1))

-- the pass over an area has found each of its blocks taken, and the seat still lacks some
abbrev pub is_pass_found : Seat → Area → Bool
is_pass_found s area = nat_lt 0 (lacking s s.calling.job area) && is_found_taken s area
