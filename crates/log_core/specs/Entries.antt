-- Entries of the log by the recorded words of blocks, and lists of blocks.
use Rattle.std.specs.Prelude.{ℕ, ◌*◌, ◌+◌, ◌==◌, if◌then◌else◌, List, [], map}
use Rattle.std.specs.List.{flat_map}
use Rattle.log_entry.specs.Fields.{field}
use Rattle.log_entry.specs.declared.layouts.TheConstants.{ENTRY_KIND, DIRECT, INDIRECT_BLOCK}
use Rattle.log_image.specs.Image.{Shape, words_in}
use Rattle.log_image.specs.Entries.{Meaning, direct_meaning, indirect_meaning, names}

-- the place in the image of a word of a block
abbrev pub place_in : Shape → ℕ → ℕ → ℕ
place_in shape block index = block * words_in shape + index

-- the place of the head's word
abbrev pub head_place : ℕ
head_place = 3

-- an entry of the log: its word, and what that means
pub record LogEntry : Type 0 where
  pub word : ℕ
  pub meaning : Meaning

abbrev pub no_meaning : Meaning
no_meaning = record { holder = []; virt = 0; blocks = []; leftover = 0 }

abbrev pub no_entry : LogEntry
no_entry = record { word = 0; meaning = no_meaning }

-- what an entry's word says, by the words of blocks
abbrev pub meaning_by : (ℕ → List ℕ) → ℕ → Meaning
meaning_by content word =
    if field ENTRY_KIND word == DIRECT then direct_meaning word
    else indirect_meaning (field INDIRECT_BLOCK word) (content (field INDIRECT_BLOCK word))

abbrev pub entry_by : (ℕ → List ℕ) → ℕ → LogEntry
entry_by content word = record { word = word; meaning = meaning_by content word }

abbrev pub meanings : List LogEntry → List Meaning
meanings entries = map (λ (entry : LogEntry). entry.meaning) entries

-- the blocks of the data area that entries name
abbrev pub entry_names : List LogEntry → List ℕ
entry_names entries = flat_map (λ (entry : LogEntry). names entry.meaning) entries
