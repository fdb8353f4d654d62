-- What the entry means that a seat has put in, and the seat then.
use Rattle.pmem_words.specs.Noted.{noted_more}
use Rattle.log_image.specs.Entries.{names}
use Rattle.log_blocks.specs.Taking.{taken}
use Rattle.std.proofs.Common.{◌≡◌, ◌≢◌, ℕ, Bool, true, false, if◌then◌else◌, sym, ap}
use Rattle.std.proofs.lemmas.Bool.{eq-eqb, ne_eqb}
use Rattle.log_entry.specs.Fields.{field}
use Rattle.log_entry.specs.declared.layouts.TheConstants.{DIRECT, ENTRY_KIND, INDIRECT_BLOCK}
use Rattle.log_image.specs.Entries.{Meaning, direct_meaning, indirect_meaning}
use Rattle.pmem_words.specs.Seats.{Seat}
use Rattle.log_core.specs.Steps.{content_of, new_meaning}
use Rattle.log_blocks.specs.Committing.{taken_out, committed}

-- the view stands at its tail, behind its own entry
abbrev pub put_in : Seat → Seat
put_in s = record s { walk = record s.walk { at_tail = true }; calling = record s.calling { won = true } }

pub new_direct : (s : Seat) (entry : ℕ) → field ENTRY_KIND entry ≡ DIRECT → new_meaning s entry ≡ direct_meaning entry
new_direct s entry is = ap (λ (b : Bool). if b then direct_meaning entry else indirect_meaning (field INDIRECT_BLOCK entry) (content_of s (field INDIRECT_BLOCK entry))) (eq-eqb (field ENTRY_KIND entry) DIRECT is)

pub new_indirect : (s : Seat) (entry : ℕ) → field ENTRY_KIND entry ≢ DIRECT → new_meaning s entry ≡ indirect_meaning (field INDIRECT_BLOCK entry) (content_of s (field INDIRECT_BLOCK entry))
new_indirect s entry other = ap (λ (b : Bool). if b then direct_meaning entry else indirect_meaning (field INDIRECT_BLOCK entry) (content_of s (field INDIRECT_BLOCK entry))) (ne_eqb (field ENTRY_KIND entry) DIRECT other)

pub committed_by : (s : Seat) (entry : ℕ) (meaning : Meaning) → new_meaning s entry ≡ meaning → put_in (taken_out meaning s) ≡ committed entry s
committed_by s entry meaning is = ap (λ (m : Meaning). put_in (taken_out m s)) (sym is)

-- where nothing is noted, an entry that is taken in leaves the blocks as they are
pub not_noted : (t : Seat) (m : Meaning) → t.calling.noting ≡ false → taken t m ≡ record (taken t m) { blocks = t.blocks }
not_noted t m none = ap (λ (b : Bool). record (taken t m) { blocks = record t.blocks { named = noted_more b t.blocks.named (names m) } }) none
