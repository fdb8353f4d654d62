-- Rows of an entry whose blocks are no run, and of the collections of a history.
use Rattle.std.proofs.Common.{◌≡◌, ◌<◌, ◌+◌, ◌*◌, ◌++◌, ℕ, zero, suc, List, [], ◌∷◌, slice_index, refl, sym, ◌∙◌, ap, subst, arith, None, Some}
use Rattle.std.specs.Prelude.{replicate}
use Rattle.std.proofs.lemmas.Bool.{false≢true}
use Rattle.std.proofs.lemmas.List.{get_or_past}
use Rattle.log_entry.specs.WordBytes.{word_bytes}
use Rattle.log_entry.specs.declared.calls.Op.TheVariants.{Pwrite as PwriteOp}
use Rattle.log_image.specs.Image.{is_in_data}
use Rattle.log_image.specs.Maps.{block_in}
use Rattle.log_image.proofs.HoldingLemmas.{names_none}
use Rattle.log_core.specs.Files.{byte_in}
use Rattle.log_core.specs.Works.{seat_shape}
use Rattle.log_core.specs.Steps.{content_of, new_meaning}
use Rattle.log_core.specs.May.{is_fenced}
use Rattle.log_core.specs.worked_rows.Accepted.{runs_writer, RunsMayBePut, CollectionsInTurn}
use Rattle.log_core.proofs.row_checks.RowChecks.{in_all, below_same}
use Rattle.log_core.proofs.row_checks.RowTells.{none_not_some, some_not_none, number_of}

-- the file after the write
abbrev long : List ℕ
long = 170 ∷ replicate 255 0 ++ replicate 128 7

bytes_of : (virt block at : ℕ) → at < 64 → block_in (new_meaning runs_writer 22) virt ≡ Some block → (k : ℕ) → Some k ≡ Some block → byte_in (λ other. content_of runs_writer other) (Some k) at ≡ slice_index long (virt * 64 + at)
    → byte_in (λ other. content_of runs_writer other) (Some block) at ≡ slice_index long (virt * 64 + at)
bytes_of virt block at inside found k same held = subst (λ (b : ℕ). byte_in (λ other. content_of runs_writer other) (Some b) at ≡ slice_index long (virt * 64 + at)) (ap number_of same) held

bytes_held : (virt block at : ℕ) → block_in (new_meaning runs_writer 22) virt ≡ Some block → at < 64 → byte_in (λ other. content_of runs_writer other) (Some block) at ≡ slice_index long (virt * 64 + at)
bytes_held zero block at found inside = absurd (none_not_some block found)
bytes_held (suc zero) block at found inside = absurd (none_not_some block found)
bytes_held (suc (suc zero)) block at found inside = absurd (none_not_some block found)
bytes_held (suc (suc (suc zero))) block at found inside = absurd (none_not_some block found)
bytes_held (suc (suc (suc (suc zero)))) block at found inside =
    bytes_of 4 block at inside found 1 found (below_same 64 (λ k. slice_index (word_bytes (content_of runs_writer 1)) k) (λ k. slice_index long (4 * 64 + k)) at refl inside)
bytes_held (suc (suc (suc (suc (suc zero))))) block at found inside =
    bytes_of 5 block at inside found 3 found (below_same 64 (λ k. slice_index (word_bytes (content_of runs_writer 3)) k) (λ k. slice_index long (5 * 64 + k)) at refl inside)
bytes_held (suc (suc (suc (suc (suc (suc virt)))))) block at found inside = absurd (none_not_some block (sym (names_none (new_meaning runs_writer 22) (suc (suc (suc (suc (suc (suc virt)))))) (omega arith)) ∙ found))

rest_held : (virt at : ℕ) → block_in (new_meaning runs_writer 22) virt ≡ None → at < 64 → slice_index (170 ∷ []) (virt * 64 + at) ≡ slice_index long (virt * 64 + at)
rest_held zero at none inside = below_same 64 (λ k. slice_index (170 ∷ []) (0 * 64 + k)) (λ k. slice_index long (0 * 64 + k)) at refl inside
rest_held (suc zero) at none inside = below_same 64 (λ k. slice_index (170 ∷ []) (1 * 64 + k)) (λ k. slice_index long (1 * 64 + k)) at refl inside
rest_held (suc (suc zero)) at none inside = below_same 64 (λ k. slice_index (170 ∷ []) (2 * 64 + k)) (λ k. slice_index long (2 * 64 + k)) at refl inside
rest_held (suc (suc (suc zero))) at none inside = below_same 64 (λ k. slice_index (170 ∷ []) (3 * 64 + k)) (λ k. slice_index long (3 * 64 + k)) at refl inside
rest_held (suc (suc (suc (suc zero)))) at none inside = absurd (some_not_none 1 none)
rest_held (suc (suc (suc (suc (suc zero))))) at none inside = absurd (some_not_none 3 none)
rest_held (suc (suc (suc (suc (suc (suc virt)))))) at none inside =
    get_or_past (170 ∷ []) (suc (suc (suc (suc (suc (suc virt))))) * 64 + at) 0 (omega arith)
    ∙ sym (get_or_past long (suc (suc (suc (suc (suc (suc virt))))) * 64 + at) 0 (omega arith))

pub runs_may_be_put : RunsMayBePut
runs_may_be_put = (
  refl,
  refl,
  refl,
  record {
    at_tail = record { valid = refl; ready = refl; not_won = refl; at_tail = refl };
    slot = refl;
    inside = omega arith;
    small = omega arith;
    op = PwriteOp 256 (replicate 128 7);
    job = refl;
    is_write = refl;
    allowed = refl;
    form = refl;
    owned = λ block named. in_all (λ b. is_fenced runs_writer.blocks.owned b) (5 ∷ 1 ∷ 3 ∷ []) block refl named;
    in_data = λ block named. in_all (λ b. is_in_data (seat_shape runs_writer) b) (5 ∷ 1 ∷ 3 ∷ []) block refl named;
    once = refl;
    size_is = refl;
    holds = bytes_held;
    rest = rest_held;
  },
)

pub collections_in_turn : CollectionsInTurn
collections_in_turn = (
  record { in_turn = (refl, omega arith, (refl, omega arith, tt)); each = (tt, (tt, (refl, (tt, (refl, tt))))) },
  λ has. (let next = has.in_turn.0 in omega (arith, next)),
  λ has. (let above = has.in_turn.1 in omega (arith, above)),
  λ has. false≢true has.each.1.0,
  λ has. false≢true has.each.1.0,
  λ has. (let limit = has.each.0 in omega (arith, limit)),
  refl,
  refl,
  refl,
)
