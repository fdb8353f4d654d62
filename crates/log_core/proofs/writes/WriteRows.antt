-- Seats that meet the conditions of writes and of new log blocks: those of worked rows.
use Rattle.std.proofs.Common.{◌≡◌, ◌<◌, ◌≤◌, ◌+◌, ◌*◌, ◌==◌, ◌⊎◌, inl, inr, ℕ, zero, suc, Bool, true, [], ◌∷◌, length, replicate, slice_index, refl, arith}
use Rattle.log_entry.specs.WordBytes.{word_bytes}
use Rattle.log_entry.specs.declared.shapes.Area.TheVariants.{Data}
use Rattle.log_entry.specs.declared.calls.Op.TheVariants.{Pwrite as PwriteOp}
use Rattle.pmem_words.proofs.MapLaws.{map_at_unmapped}
use Rattle.pmem_words.specs.Owned.{owned_at}
use Rattle.pmem_words.specs.Seats.{Seat, Blocks}
use Rattle.log_core.specs.Views.{view_of}
use Rattle.log_core.specs.Works.{content_word}
use Rattle.log_core.specs.Steps.{content_of}
use Rattle.log_core.specs.May.{is_fenced}
use Rattle.log_core.specs.worked_rows.Rows.{linking, to_first}
use Rattle.log_core.specs.worked_rows.Refused.{seat_zero}
use Rattle.log_core.specs.worked_rows.Written.{own_at_tail}
use Rattle.log_core.specs.worked_rows.Accepted.{runs_writer, sevens}
use Rattle.log_core.proofs.row_checks.RowChecks.{all_below, below_all, below_same, in_all}
use Rattle.log_core.proofs.writes.LaidWrites.{Within, Unmapped, IsOldByte, IsLaidWrite}
use Rattle.log_core.proofs.writes.PlacedBytes.{HasBytes}
use Rattle.log_core.proofs.writes.RunLists.{runs_of}
use Rattle.log_core.proofs.writes.IndirectBlocks.{indirect_content}
use Rattle.log_core.proofs.writes.RunWrites.{IsWriting, IsRunWrite}
use Rattle.log_core.proofs.writes.RunsWrites.{IsRunsWrite}
use Rattle.log_core.proofs.writes.NewLogBlocks.{IsNewLogBlock, IsAtLink}

two_below : (m n : ℕ) (f g : ℕ → ℕ → ℕ) (i j : ℕ) → all_below m (λ a. all_below n (λ b. f a b == g a b)) ≡ true → i < m → j < n → f i j ≡ g i j
two_below m n f g i j all low less = below_same n (λ b. f i b) (λ b. g i b) j (below_all m (λ a. all_below n (λ b. f a b == g a b)) i all low) less

-- the seat that writes 128 bytes at 256, with these blocks
abbrev writer : Blocks → Seat
writer blocks = record runs_writer { blocks = blocks }

writing : (blocks : Blocks) → IsWriting (writer blocks) 83 4 2
writing blocks = record {
  at_tail = record { valid = refl; ready = refl; not_won = refl; at_tail = refl };
  slot = refl;
  inside = omega arith;
  below_last = λ e. omega (arith, e);
  job = refl;
  long = refl;
  some = omega arith;
  few = omega arith;
  within = omega arith;
}

abbrev word_byte : Seat → ℕ → ℕ → ℕ → ℕ
word_byte s place index at = slice_index (word_bytes (content_word s place index ∷ [])) at

-- a block has 64 of its bytes
abbrev are_bytes : Seat → ℕ → ℕ → Bool
are_bytes s place from = all_below 8 (λ index. all_below 8 (λ at. word_byte s place index at == slice_index (replicate 128 7) (from + 8 * index + at)))

full : (blocks : Blocks) (place from : ℕ) → place < length blocks.owned → (owned_at blocks.owned place).fenced ≡ true → (owned_at blocks.owned place).area ≡ Data → are_bytes (writer blocks) place from ≡ true →
    HasBytes (writer blocks) (owned_at blocks.owned place).block from
full blocks place from inside fenced area all = record {
  place = place;
  inside = inside;
  block_is = refl;
  fenced = fenced;
  area = area;
  bytes = λ index at low less. two_below 8 8 (λ k b. word_byte (writer blocks) place k b) (λ k b. slice_index (replicate 128 7) (from + 8 * k + b)) index at all low less;
}

-- it writes into the blocks 1 and 3, whose runs block 5 holds
runs_row : IsRunsWrite runs_writer 83 4 5 (runs_of (1 ∷ 3 ∷ []))
runs_row = record {
  writing = writing runs_writer.blocks;
  are_runs = (omega arith, (omega arith, tt));
  once = refl;
  each = each;
  held = record { place = 2; inside = omega arith; block_is = refl; fenced = refl; area = refl; each = λ index low. below_same 8 (λ k. content_word runs_writer 2 k) (λ k. slice_index (indirect_content 8 4 0 (runs_of (1 ∷ 3 ∷ []))) k) index refl low };
}
  where
    each : (place : ℕ) → place < 2 → HasBytes runs_writer (slice_index (1 ∷ 3 ∷ []) place) (place * 64)
    each zero low = full runs_writer.blocks 0 0 (omega arith) refl refl refl
    each (suc zero) low = full runs_writer.blocks 1 64 (omega arith) refl refl refl
    each (suc (suc place)) low = absurd (omega (arith, low))

-- and into the blocks 1 and 2
abbrev one_run : Blocks
one_run = record runs_writer.blocks {
  owned = record { block = 1; area = Data; filled = true; fenced = true } ∷ record { block = 2; area = Data; filled = true; fenced = true } ∷ [];
  contents = replicate 16 sevens;
}

run_row : IsRunWrite (writer one_run) 83 4 1 2
run_row = record { writing = writing one_run; each = each }
  where
    each : (place : ℕ) → place < 2 → HasBytes (writer one_run) (1 + place) (place * 64)
    each zero low = full one_run 0 0 (omega arith) refl refl refl
    each (suc zero) low = full one_run 1 64 (omega arith) refl refl refl
    each (suc (suc place)) low = absurd (omega (arith, low))

-- a log block that was filled for the link of a sealed one
link_row : IsNewLogBlock (view_of linking.views 0).seat 0
link_row = record { inside = omega arith; fenced = refl; area = λ e. cc; link = refl; kind = refl; empty = λ index late low. by index late low }
  where
    by : (index : ℕ) → 2 ≤ index → index < 8 → content_word (view_of linking.views 0).seat 0 index ≡ 0
    by zero late low = absurd (omega (arith, late))
    by (suc zero) late low = absurd (omega (arith, late))
    by (suc (suc index)) late low = below_same 6 (λ k. content_word (view_of linking.views 0).seat 0 (suc (suc k))) (λ k. 0) index refl (omega (arith, low))

link_at : IsAtLink (view_of linking.views 0).seat 24
link_at = record { valid = refl; ready = refl; link = refl; at_end = refl }

-- a byte is written at 0 of an empty file, into block 1
byte_row : IsLaidWrite (seat_zero own_at_tail) 27 to_first
byte_row = record {
  at_tail = record { valid = refl; ready = refl; not_won = refl; at_tail = refl };
  slot = refl;
  inside = omega arith;
  small = omega arith;
  form = refl;
  op = PwriteOp 0 (170 ∷ []);
  offset = 0;
  job = refl;
  lays = Within;
  some = omega arith;
  allowed = refl;
  starts = omega arith;
  ends = omega arith;
  end_is = refl;
  owned = λ block named. in_all (λ b. is_fenced (seat_zero own_at_tail).blocks.owned b) (1 ∷ []) block refl named;
  once = refl;
  new = new;
  old = old;
}
  where
    held : ℕ → ℕ
    held at = slice_index (word_bytes (content_of (seat_zero own_at_tail) 1)) at

    new : (place at byte : ℕ) → place < 1 → at < 64 → byte < 1 → (0 + place) * 64 + at ≡ 0 + byte → slice_index (word_bytes (content_of (seat_zero own_at_tail) (slice_index (1 ∷ []) place))) at ≡ slice_index (170 ∷ []) byte
    new zero zero zero low inside among same = refl
    new zero zero (suc byte) low inside among same = absurd (omega (arith, among))
    new zero (suc at) byte low inside among same = absurd (omega (arith, among, same))
    new (suc place) at byte low inside among same = absurd (omega (arith, low))

    old : (place at : ℕ) → place < 1 → at < 64 → ((0 + place) * 64 + at < 0) ⊎ (1 ≤ (0 + place) * 64 + at) → IsOldByte (seat_zero own_at_tail) (0 + place) at (slice_index (word_bytes (content_of (seat_zero own_at_tail) (slice_index (1 ∷ []) place))) at)
    old zero at low inside (inl before) = absurd (omega (arith, before))
    old zero zero low inside (inr past) = absurd (omega (arith, past))
    old zero (suc at) low inside (inr past) = Unmapped (map_at_unmapped 0) (below_same 63 (λ k. held (suc k)) (λ k. 0) at refl (omega (arith, inside)))
    old (suc place) at low inside outside = absurd (omega (arith, low))
