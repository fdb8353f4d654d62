-- The log block behind the blocks of a write is the last one of its list.
use Rattle.std.proofs.Common.{◌≡◌, ℕ, ◌+◌, ◌==◌, true, false, List, [], ◌∷◌, ◌++◌, length, length-append, refl, ap, ◌∙◌, arith}
use Rattle.std.proofs.lemmas.Bool.{or_left, or_right, eq-eqb}
use Rattle.log_entry.specs.declared.shapes.Area.TheVariants.{Log}
use Rattle.log_image.specs.Chains.{is_listed}
use Rattle.pmem_words.specs.Owned.{owned_at}
use Rattle.pmem_words.specs.declared.owned.OwnedBlock.{OwnedBlock}
use Rattle.pmem_words.specs.Seats.{Seat}
use Rattle.log_core.specs.Views.{Ghost}
use Rattle.log_core.specs.Origin.{Origin}
use Rattle.log_core.specs.Needs.{owned_numbers}
use Rattle.write_any.specs.Composing.{HasLast, last_place, last_block}
use Rattle.write_any.specs.WriteWithin.{MayWrite}
use Rattle.write_any.proofs.FirstStages.{form_many, few_count}
use Rattle.write_any.proofs.LogBehind.{at_last}
use Rattle.write_any.proofs.WriteStanding.{OwnsLogBlock}

listed_last : (owned : List OwnedBlock) (last : OwnedBlock) → is_listed (owned_numbers (owned ++ last ∷ [])) last.block ≡ true
listed_last [] last = or_left (last.block == last.block) false (eq-eqb last.block last.block refl)
listed_last (x ∷ owned) last = or_right (x.block == last.block) (is_listed (owned_numbers (owned ++ last ∷ [])) last.block) (listed_last owned last)

module _ (offset : ℕ) (o : Origin) (seat : ℕ) (s0 : Seat) (g0 : Ghost) (may : MayWrite offset o seat s0 g0) (block : ℕ) (s : Seat) (owns : OwnsLogBlock offset o seat s0 g0 block s) where
  abbrev pub behind : OwnedBlock
  behind = record { block = block; area = Log; filled = owns.filled; fenced = owns.fenced }

  many : length s.blocks.owned ≡ length owns.owned + 1
  many = (let is = ap (λ (l : List OwnedBlock). length l) owns.is in let all = length-append owns.owned (behind ∷ []) in omega (arith, is, all))

  pub last_is : last_place s ≡ length owns.owned
  last_is = (let all = many in omega (arith, all))

  pub block_is : last_block s ≡ block
  block_is = ap (λ (k : ℕ). (owned_at s.blocks.owned k).block) last_is ∙ (ap (λ (l : List OwnedBlock). (owned_at l (length owns.owned)).block) owns.is ∙ ap (λ (b : OwnedBlock). b.block) (at_last owns.owned behind))

  pub block_owned : is_listed (owned_numbers s.blocks.owned) block ≡ true
  block_owned = ap (λ (l : List OwnedBlock). is_listed (owned_numbers l) block) owns.is ∙ listed_last owns.owned behind

  pub has_last : HasLast s
  has_last = (let all = many in
      let few = (form_many offset o seat s0 g0 may owns.owned owns.contents owns.written).1 in
      let count = few_count offset o seat s0 g0 may in
      record { some = omega (arith, all); few = omega (arith, all, few, count) })
