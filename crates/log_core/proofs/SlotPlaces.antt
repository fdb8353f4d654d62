-- The entry of a used slot stands before the end.
use Rattle.std.proofs.Common.{◌≡◌, ◌≢◌, ◌<◌, ◌≤◌, ◌+◌, ◌-◌, ℕ, zero, suc, List, [], ◌∷◌, length, ◌∙◌, ap, arith, slice_index}
use Rattle.std.proofs.lemmas.Bool.{ne_eqb}
use Rattle.log_entry.specs.declared.layouts.TheConstants.{EMPTY, SEAL}
use Rattle.log_image.specs.Blocks.{entry_words}
use Rattle.log_core.specs.Origin.{Origin, start_base}
use Rattle.log_core.specs.Files.{entries}
use Rattle.log_core.specs.Cores.{Core, nth_log}
use Rattle.log_core.specs.Invariant.{Invariant}
use Rattle.log_core.proofs.LogTails.{bases_rise, log_to_end}
use Rattle.log_core.proofs.clauses.OneView.{same_or_other}

-- slots of which none up to one is empty or a seal are entries up to that
entry_reached : (slots : List ℕ) (k : ℕ) → k < length slots → ((j : ℕ) → j ≤ k → slice_index slots j ≢ EMPTY) → ((j : ℕ) → j ≤ k → slice_index slots j ≢ SEAL) → k < length (entry_words slots)
entry_reached [] k inside used other = absurd (omega (arith, inside))
entry_reached (slot ∷ slots) zero inside used other = rw (ne_eqb slot EMPTY (used 0 (omega arith)), ne_eqb slot SEAL (other 0 (omega arith))) (omega arith)
entry_reached (slot ∷ slots) (suc k) inside used other = rw (ne_eqb slot EMPTY (used 0 (omega arith)), ne_eqb slot SEAL (other 0 (omega arith)))
    (let rest = entry_reached slots k (omega (arith, inside)) (λ j low. used (suc j) (omega (arith, low))) (λ j low. other (suc j) (omega (arith, low))) in omega (arith, rest))

-- the place of an entry by its slot
pub entry_place : (o : Origin) (c : Core) → Invariant o c → (number k : ℕ) → number < length c.logs → k < length (nth_log c.logs number).slots → slice_index (nth_log c.logs number).slots k ≢ SEAL →
    (nth_log c.logs number).base + k - start_base o < length (entries o c.history)
entry_place o c inv number k inside less other =
    (let reached = entry_reached (nth_log c.logs number).slots k less (λ j low. inv.order.log.used number j (omega (arith, low, less)))
    (λ j low seal. same_or_other j k (λ same. other (ap (λ (i : ℕ). slice_index (nth_log c.logs number).slots i) (let e : k ≡ j = omega (arith, same) in e) ∙ seal))
    (λ apart. (let last = (inv.order.log.seal_last number j seal).0 in omega (arith, last, low, apart, less)))) in
    let end = log_to_end o c inv number inside in
    let count = inv.order.log.count in
    omega (arith, reached, end, count, first_low))
  where
    first_low : start_base o ≤ (nth_log c.logs number).base
    first_low = (let first = inv.order.log.first in same_or_other number 0
        (λ same. (let e = ap (λ (i : ℕ). (nth_log c.logs i).base) same in omega (arith, e, first)))
        (λ some. (let rise = bases_rise o c inv number 0 (omega (arith, some)) inside in omega (arith, rise, first))))
