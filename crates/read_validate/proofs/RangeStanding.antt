-- Where the reading of a range stands within a core, and how it goes on with a word that was loaded.
use Rattle.std.proofs.Common.{◌≡◌, ℕ, ◌+◌, ◌-◌, ◌/◌, ◌%◌, ◌<◌, ◌≤◌, true, [], length, length-append, replicate, Option, Some, ap, ◌∙◌, arith}
use Rattle.std.proofs.lemmas.List.{length-replicate}
use Rattle.pmem_words.specs.declared.keeps.Task.TheVariants.{Pread}
use Rattle.pmem_words.specs.declared.TheConstants.{JOB_BYTES}
use Rattle.pmem_words.specs.Maps.{map_at}
use Rattle.pmem_words.specs.Seats.{Seat}
use Rattle.log_core.specs.Views.{Ghost}
use Rattle.log_core.specs.Entries.{place_in}
use Rattle.log_core.specs.Works.{seat_shape}
use Rattle.read_validate.specs.declared.range.ReadRange.{ReadRange}
use Rattle.read_validate.specs.Looking.{count_in}
use Rattle.read_validate.specs.Ranges.{virt_of, next_mapped, reading_at, rest_of, word_at, zeros_laid, with_laid}
use Rattle.read_validate.proofs.NextMapped.{next_at_least}
use Rattle.read_validate.proofs.RangePlaces.{next_is_mapped}

-- a seat but for the bytes that it has laid
abbrev pub unread : Seat → Seat
unread s = record s { calling = record s.calling { bytes = [] } }

-- the next byte of the range is in a block that the table gives, at the word that is loaded
pub record IsAt (offset count : ℕ) (m : ReadRange) (s : Seat) : Type 0 where
  pub place : m.place ≡ offset + length s.calling.bytes
  pub low : m.place < m.end
  pub end_is : m.end ≡ offset + count_in offset count s
  pub block : ℕ
  pub mapped : map_at s.walk.map (virt_of s m.place) ≡ Some block
  pub word : m.word ≡ place_in (seat_shape s) block (m.place % s.geometry.block_bytes / 8)

-- a seat may read it: its table is that of its pin, it stands at its tail, and it keeps no word
pub record MayReadRange (offset count : ℕ) (m : ReadRange) (s : Seat) : Type 0 where
  pub valid : s.hold.valid ≡ true
  pub ready : s.walk.ready ≡ true
  pub at_tail : s.walk.at_tail ≡ true
  pub none_kept : s.walk.kept ≡ []
  pub job : s.calling.job ≡ Pread offset count
  pub few : count ≤ JOB_BYTES
  pub at : IsAt offset count m s

-- it goes on so, and is done when all bytes are laid
pub record IsReading (offset count : ℕ) (s0 : Seat) (g0 : Ghost) (m : ReadRange) (s : Seat) (g : Ghost) : Type 0 where
  pub rest : unread s ≡ unread s0
  pub ghost : g ≡ g0
  pub at : IsAt offset count m s

pub record HasReadRange (offset count : ℕ) (s0 : Seat) (g0 : Ghost) (out : Unit {0}) (s : Seat) (g : Ghost) : Type 0 where
  pub rest : unread s ≡ unread s0
  pub ghost : g ≡ g0
  pub long : length s.calling.bytes ≡ count_in offset count s

-- with the zeros of unmapped blocks laid up to the next mapped byte
module _ (offset count end : ℕ) (s : Seat) (upto : offset + length s.calling.bytes ≤ end) (end_is : end ≡ offset + count_in offset count s) where
  abbrev place : ℕ
  place = offset + length s.calling.bytes

  abbrev next : ℕ
  next = next_mapped end place s

  abbrev laid : Seat
  laid = zeros_laid end place s

  laid_long : length laid.calling.bytes ≡ length s.calling.bytes + (next - place)
  laid_long = length-append s.calling.bytes (replicate (next - place) 0) ∙ ap (λ (n : ℕ). length s.calling.bytes + n) (length-replicate (next - place) 0)

  pub goes_on : next < end → IsAt offset count (record { place = next; end = end; word = word_at next s }) laid
  goes_on low = (let found = next_is_mapped s (65536 - virt_of s place) end place low in
      let least = next_at_least end place s upto in
      let long = laid_long in
      record {
        place = omega (arith, least, long);
        low = low;
        end_is = end_is;
        block = found.0;
        mapped = found.1;
        word = ap (λ (b : Option ℕ). Rattle.read_validate.specs.Ranges.word_in_block b (next % s.geometry.block_bytes) s) found.1;
      })

  pub all_laid : next ≡ end → length laid.calling.bytes ≡ count_in offset count s
  all_laid is = (let long = laid_long in let all = end_is in omega (arith, is, long, all, upto))
