-- Blocks that are one run, and those that are several, by their places.
use Rattle.std.proofs.Common.{◌≡◌, ℕ, zero, suc, ◌+◌, ◌-◌, ◌<◌, ◌==◌, Bool, true, false, if◌then◌else◌, List, [], ◌∷◌, length, slice_index, refl, ap, ◌∙◌, arith}
use Rattle.std.proofs.lemmas.Bool.{eqb-true}
use Rattle.pmem_words.specs.Owned.{owned_at}
use Rattle.pmem_words.specs.declared.owned.OwnedBlock.{OwnedBlock}
use Rattle.log_core.proofs.writes.RunLists.{are_runs, blocks_back}
use Rattle.partial_blocks.specs.Touching.{touched_count}
use Rattle.partial_blocks.specs.Runs.{follow, firsts, AreOneRunByPlace, AreRunsByPlace}
use Rattle.partial_blocks.proofs.RunsHeld.{firsts_long, firsts_at}

run_each : (block : ℕ) (owned : List OwnedBlock) → follow block owned ≡ true → (place : ℕ) → place < length owned → (owned_at owned place).block ≡ block + suc place
run_each block [] one place low = absurd (omega (arith, low))
run_each block (o ∷ owned) one place low = by (o.block == block + 1) refl one (run_each o.block owned)
  where
    by : (b : Bool) → (o.block == block + 1) ≡ b → (if b then follow o.block owned else false) ≡ true → (follow o.block owned ≡ true → (k : ℕ) → k < length owned → (owned_at owned k).block ≡ o.block + suc k) →
        (owned_at (o ∷ owned) place).block ≡ block + suc place
    by true is more rest = at place low
      where
        next : o.block ≡ block + 1
        next = eqb-true o.block (block + 1) is

        at : (k : ℕ) → k < length (o ∷ owned) → (owned_at (o ∷ owned) k).block ≡ block + suc k
        at zero inside = (let first = next in omega (arith, first))
        at (suc k) inside = (let is = rest more k (omega (arith, inside)) in let first = next in omega (arith, is, first))
    by false is more rest = cc

pub one_run_each : AreOneRunByPlace
one_run_each [] one place low = absurd (omega (arith, low))
one_run_each (o ∷ owned) one zero low = omega arith
one_run_each (o ∷ owned) one (suc place) low = run_each o.block owned one place (omega (arith, low))

pub runs_each : AreRunsByPlace
runs_each offset s some holder words = record {
  are_runs = are_runs (firsts s (touched_count offset s - 1));
  long = ap (λ (l : List ℕ). length l) (blocks_back (firsts s (touched_count offset s - 1))) ∙ (let long = firsts_long s (touched_count offset s - 1) in omega (arith, long, some));
  blocks = λ place low. ap (λ (l : List ℕ). slice_index l place) (blocks_back (firsts s (touched_count offset s - 1))) ∙ firsts_at s (touched_count offset s - 1) place (omega (arith, low));
  holder = holder;
  words = words;
}
