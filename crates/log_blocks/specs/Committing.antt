-- What an exchange of the tail's slot makes of its seat, won or lost.
use Rattle.std.specs.Prelude.{ℕ, suc, ◌+◌, ◌≤◌, ◌≡◌, ◌≢◌, ◌==◌, Bool, true, false, if◌then◌else◌, List, [], ◌∷◌, length}
use Rattle.log_entry.specs.Fields.{field}
use Rattle.log_entry.specs.declared.layouts.TheConstants.{DIRECT, EMPTY, ENTRY_KIND, INDIRECT, INDIRECT_BLOCK, SEAL}
use Rattle.log_image.specs.Image.{words_in}
use Rattle.log_image.specs.Entries.{Meaning, names, direct_meaning, indirect_meaning}
use Rattle.log_image.specs.Format.{fits, is_indirect_block}
use Rattle.log_image.specs.Chains.{is_listed}
use Rattle.asks.specs.declared.ask.Ask.{Ask}
use Rattle.asks.specs.declared.ask.Ask.TheVariants.{Exchange}
use Rattle.asks.specs.declared.ask.Place.TheVariants.{Image}
use Rattle.pmem_words.specs.declared.keeps.KeptWord.{KeptWord}
use Rattle.pmem_words.specs.declared.owned.OwnedBlock.{OwnedBlock}
use Rattle.pmem_words.specs.Seats.{Seat}
use Rattle.log_core.specs.Entries.{place_in}
use Rattle.log_core.specs.Needs.{owned_numbers}
use Rattle.log_core.specs.Works.{seat_shape, words_of, walk_past, without_bases}
use Rattle.log_core.specs.Steps.{blocks_but, content_of, new_meaning}
use Rattle.log_blocks.specs.Taking.{with_kept, taken, seal_taken, HasRoom, HasFewBases}
use Rattle.log_blocks.specs.Walking.{IsOfImage}

-- the exchange of the tail's slot from 0 to a word
abbrev pub slot_exchange : ℕ → Seat → Ask
slot_exchange word s = Exchange (Image (place_in (seat_shape s) s.walk.tail_block s.walk.tail_slot)) EMPTY word

-- the first place of a block in a list; the list's length where it is not there
abbrev pub owned_place : ℕ → List OwnedBlock → ℕ
owned_place block [] = 0
owned_place block (o ∷ owned) = if o.block == block then 0 else suc (owned_place block owned)

-- the words of a block from one on, as they are kept
abbrev pub rows : ℕ → ℕ → List ℕ → List KeptWord
rows block slot [] = []
rows block slot (word ∷ words) = record { block = block; slot = slot; word = word } ∷ rows block (slot + 1) words

-- an entry's word, and behind it those of the owned block that is its indirect one, are kept
abbrev pub runs_kept : ℕ → ℕ → Seat → Seat
runs_kept entry block s = record s {
  walk = record s.walk { kept = record { block = s.walk.tail_block; slot = s.walk.tail_slot; word = entry } ∷ rows block 0 (content_of s block) };
}

-- an entry of this meaning is in the table, and its blocks have left the list
abbrev pub taken_out : Meaning → Seat → Seat
taken_out meaning s = record (taken s meaning) { blocks = blocks_but (words_of s) (λ (block : ℕ). is_listed (names meaning) block) s.blocks }

-- the entry is put in: its blocks have left the list, the table has them, and the view is at the tail behind it
abbrev pub committed : ℕ → Seat → Seat
committed entry s = record s {
  walk = record (walk_past (seat_shape s) s.walk (new_meaning s entry)) { at_tail = true; kept = [] };
  calling = record (without_bases (words_of s) (new_meaning s entry) s.calling) { won = true };
  blocks = blocks_but (words_of s) (λ (block : ℕ). is_listed (names (new_meaning s entry)) block) s.blocks;
}

-- an indirect block whose words are the content of an owned block
pub record IsOwnedRuns (s : Seat) (block : ℕ) : Type 0 where
  pub inside : IsOfImage s block
  pub owned : is_listed (owned_numbers s.blocks.owned) block ≡ true
  pub whole : length (content_of s block) ≡ words_in (seat_shape s)
  pub runs : is_indirect_block (seat_shape s) (content_of s block) ≡ true
  pub fits : fits (seat_shape s) 256 (indirect_meaning block (content_of s block)) ≡ true

-- an entry that the seat can take in once it is put in. No collection notes it, since those put none in
pub record IsOffered (entry : ℕ) (s : Seat) : Type 0 where
  pub not_noting : s.calling.noting ≡ false
  pub none_kept : s.walk.kept ≡ []
  pub wide : 1 ≤ words_of s
  pub room : HasRoom s.walk
  pub few : HasFewBases (words_of s) s.calling
  pub direct : field ENTRY_KIND entry ≡ DIRECT → fits (seat_shape s) 256 (direct_meaning entry) ≡ true
  pub indirect : field ENTRY_KIND entry ≢ DIRECT → IsOwnedRuns s (field INDIRECT_BLOCK entry)

-- after an exchange that lost the view is at the tail no more
abbrev pub away : Seat → Seat
away s = record s { walk = record s.walk { at_tail = false } }

abbrev pub lost_by : Bool → Bool → ℕ → Seat → Seat
lost_by true indirect word s = seal_taken s
lost_by false true word s = with_kept s s.walk.tail_block s.walk.tail_slot word
lost_by false false word s = taken s (direct_meaning word)

-- and the word that was found is taken in, or kept where it is an indirect entry's
abbrev pub lost_taken : ℕ → Seat → Seat
lost_taken word s = lost_by (word == SEAL) (field ENTRY_KIND word == INDIRECT) word (away s)
