-- An image whose chain is one log block with an empty first slot stands for the empty file.
use Rattle.std.proofs.Common.{◌≡◌, ◌<◌, ℕ, true, false, List, [], ◌∷◌, length, get_or, refl, arith}
use Rattle.log_image.specs.Image.{Shape, block_words, is_in_log}
use Rattle.log_image.specs.Header.{head_block}
use Rattle.log_image.specs.Blocks.{kind_of, is_snapshot, base_of, slots_of, entry_words, is_closed, leads_on}
use Rattle.log_image.specs.Chains.{snapshots_of, logs_of}
use Rattle.log_image.specs.Positions.{log_words, entries_of, position_of, size_at_end}
use Rattle.log_image.specs.Format.{is_log_block, is_seal_placed}
use Rattle.log_image.specs.Stands.{StandsIn}
use Rattle.log_image.proofs.JustMadeRows.{holds_nothing}

no_entries : (slots : List ℕ) → get_or slots 0 0 ≡ 0 → entry_words slots ≡ []
no_entries [] first = refl
no_entries (slot ∷ slots) first = rw first refl

is_open : (slots : List ℕ) → get_or slots 0 0 ≡ 0 → 0 < length slots → is_closed slots ≡ false
is_open [] first some = absurd (omega (arith, some))
is_open (slot ∷ slots) first some = rw first refl

no_seal : (slots : List ℕ) → get_or slots 0 0 ≡ 0 → is_seal_placed slots ≡ true
no_seal [] first = refl
no_seal (slot ∷ slots) first = rw first refl

-- the words of a log block with base 0 and no entry
pub record IsEmptyLog (block : List ℕ) : Type 0 where
  pub word : get_or block 1 0 ≡ 4611686018427387904
  pub third : get_or block 2 0 ≡ 0
  pub first : get_or (slots_of block) 0 0 ≡ 0
  pub some : 0 < length (slots_of block)

no_snapshot : (block : List ℕ) → IsEmptyLog block → is_snapshot block ≡ false
no_snapshot block empty = rw empty.word refl

ends_there : (block : List ℕ) → IsEmptyLog block → leads_on block ≡ false
ends_there block empty = rw (no_snapshot block empty, is_open (slots_of block) empty.first empty.some) refl

good_log : (words : List ℕ) (shape : Shape) (block : List ℕ) → IsEmptyLog block → is_log_block words shape block ≡ true
good_log words shape block empty = rw (empty.third, no_entries (slots_of block) empty.first, no_seal (slots_of block) empty.first) refl

no_snapshots : (words : List ℕ) (shape : Shape) (block : ℕ) → IsEmptyLog (block_words words shape block) → snapshots_of words shape (block ∷ []) ≡ []
no_snapshots words shape block empty = rw (no_snapshot (block_words words shape block) empty) refl

one_log : (words : List ℕ) (shape : Shape) (block : ℕ) → IsEmptyLog (block_words words shape block) → logs_of words shape (block ∷ []) ≡ block ∷ []
one_log words shape block empty = rw (no_snapshot (block_words words shape block) empty) refl

no_words : (words : List ℕ) (shape : Shape) (block : ℕ) → IsEmptyLog (block_words words shape block) → log_words words shape (block ∷ []) ≡ []
no_words words shape block empty = rw (one_log words shape block empty, no_entries (slots_of (block_words words shape block)) empty.first) refl

no_kept : (words : List ℕ) (shape : Shape) (block : ℕ) → IsEmptyLog (block_words words shape block) → entries_of words shape (block ∷ []) ≡ []
no_kept words shape block empty = rw (no_snapshots words shape block empty, no_words words shape block empty) refl

kind_log : (block : List ℕ) → IsEmptyLog block → kind_of block ≡ 1
kind_log block empty = rw empty.word refl

base_nought : (block : List ℕ) → IsEmptyLog block → base_of block ≡ 0
base_nought block empty = rw empty.word refl

nought : (words : List ℕ) (shape : Shape) (block : ℕ) → IsEmptyLog (block_words words shape block) → position_of words shape (block ∷ []) ≡ 0
nought words shape block empty = rw (no_snapshots words shape block empty, no_words words shape block empty) refl

no_size : (words : List ℕ) (shape : Shape) (block : ℕ) → IsEmptyLog (block_words words shape block) → size_at_end words shape (block ∷ []) ≡ 0
no_size words shape block empty = rw (no_snapshots words shape block empty, no_words words shape block empty) refl

pub stands_empty : (words : List ℕ) (shape : Shape) (block : ℕ) → head_block words ≡ block → is_in_log shape block ≡ true → IsEmptyLog (block_words words shape block) → StandsIn words shape (block ∷ []) [] 0
stands_empty words shape block head inside empty = record {
  is_chain = record {
    linked = (head, ends_there (block_words words shape block) empty);
    different = refl;
    snapshots = rw (no_snapshot (block_words words shape block) empty) tt;
    logs = rw (no_snapshot (block_words words shape block) empty) (kind_log (block_words words shape block) empty, base_nought (block_words words shape block) empty, tt);
  };
  format = record {
    areas = rw inside refl;
    kinds = rw empty.word refl;
    snapshots = rw (no_snapshot (block_words words shape block) empty) refl;
    logs = rw (no_snapshot (block_words words shape block) empty, good_log words shape (block_words words shape block) empty) refl;
    named_once = rw (no_kept words shape block empty) refl;
    below_limit = rw (nought words shape block empty) (omega arith);
  };
  ends_at = nought words shape block empty;
  ends_with = no_size words shape block empty;
  holds = rw (no_kept words shape block empty) (holds_nothing words shape);
}
