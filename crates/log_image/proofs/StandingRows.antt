-- Worked images that stand for a file.
use Rattle.std.proofs.Common.{◌≡◌, ◌≤◌, ℕ, zero, suc, [], ◌∷◌, ◌++◌, length, Option, None, refl, ap, ◌∙◌, arith}
use Rattle.std.specs.Prelude.{replicate}
use Rattle.std.specs.List.{slice_get}
use Rattle.std.specs.Option.{option_or}
use Rattle.log_image.specs.Header.{shape_of}
use Rattle.log_image.specs.Entries.{Meaning, direct_meaning}
use Rattle.log_image.specs.Maps.{map_of, block_in}
use Rattle.log_image.specs.Rows.{four_bytes, collected, AcrossBlocks, AfterCollection, RunsInBlock, MapWithRuns}
use Rattle.log_image.proofs.HoldingLemmas.{names_none, holds_by}

-- a map of one entry from virtual block 0 on
one_entry : (entry : Meaning) (virt : ℕ) → entry.virt ≡ 0 → length entry.blocks ≤ virt → option_or None (block_in entry virt) ≡ None
one_entry entry virt begins past = ap (λ (o : Option ℕ). option_or None o) (names_none entry virt (omega (arith, begins, past)))

two_mapped : (virt : ℕ) → map_of (direct_meaning 272696063819777 ∷ []) virt ≡ slice_get (1 ∷ 2 ∷ []) virt
two_mapped zero = refl
two_mapped (suc zero) = refl
two_mapped (suc (suc virt)) = one_entry (direct_meaning 272696063819777) (suc (suc virt)) refl (omega arith)

pub across_blocks : AcrossBlocks
across_blocks = (
  41 ∷ [],
  record {
    header = record { magic = refl; version = refl; unnamed = refl; allowed = refl; whole = refl; head_unnamed = refl; generation = omega arith };
    stands = record {
      is_chain = record { linked = (refl, refl); different = refl; snapshots = tt; logs = (refl, refl, tt) };
      format = record { areas = refl; kinds = refl; snapshots = refl; logs = refl; named_once = refl; below_limit = omega arith };
      ends_at = refl;
      ends_with = refl;
      holds = holds_by four_bytes (shape_of four_bytes) (direct_meaning 272696063819777 ∷ []) (replicate 62 0 ++ 170 ∷ 187 ∷ 204 ∷ 221 ∷ []) (1 ∷ 2 ∷ []) 62 two_mapped refl refl (omega arith);
    };
  },
)

one_mapped : (virt : ℕ) → map_of (direct_meaning 524289 ∷ direct_meaning 277076930461697 ∷ []) virt ≡ slice_get (1 ∷ []) virt
one_mapped zero = refl
one_mapped (suc virt) =
    ap (λ (o : Option ℕ). option_or o (block_in (direct_meaning 524289) (suc virt))) (one_entry (direct_meaning 277076930461697) (suc virt) refl (omega arith))
    ∙ one_entry (direct_meaning 524289) (suc virt) refl (omega arith)

pub after_collection : AfterCollection
after_collection = (
  5 ∷ 4 ∷ [],
  record {
    header = record { magic = refl; version = refl; unnamed = refl; allowed = refl; whole = refl; head_unnamed = refl; generation = omega arith };
    stands = record {
      is_chain = record { linked = (refl, (refl, refl, refl)); different = refl; snapshots = ((refl, refl), tt); logs = (refl, refl, tt) };
      format = record { areas = refl; kinds = refl; snapshots = refl; logs = refl; named_once = refl; below_limit = omega arith };
      ends_at = refl;
      ends_with = refl;
      holds = holds_by collected (shape_of collected) (direct_meaning 524289 ∷ direct_meaning 277076930461697 ∷ []) (204 ∷ []) (1 ∷ []) 63 one_mapped refl refl (omega arith);
    };
  },
)

pub runs_in_block : RunsInBlock
runs_in_block = (
  refl,
  record { linked = (refl, (refl, refl, refl)); different = refl; snapshots = ((refl, refl), tt); logs = (refl, refl, tt) },
  record { areas = refl; kinds = refl; snapshots = refl; logs = refl; named_once = refl; below_limit = omega arith },
)

pub map_with_runs : MapWithRuns
map_with_runs = (refl, refl, refl, refl, refl, refl)
