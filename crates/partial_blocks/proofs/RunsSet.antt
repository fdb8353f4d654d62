-- The words of runs are set one block after another.
use Rattle.std.proofs.Common.{◌≡◌, ◌≢◌, ℕ, zero, suc, ◌+◌, Bool, true, false, if◌then◌else◌, sym, ap, subst, ◌∙◌}
use Rattle.std.proofs.lemmas.Bool.{eq-eqb, ne_eqb}
use Rattle.log_entry.specs.Words.{run_word, IsRunWord}
use Rattle.log_entry.specs.declared.words.RunWord.{RunWord}
use Rattle.pmem_words.specs.Seats.{Seat}
use Rattle.log_core.specs.Works.{owned_block}
use Rattle.block_bitmap.proofs.OwnedFlags.{unfilled_each}
use Rattle.partial_blocks.specs.Runs.{longer_if, is_next, run_at, runs_at, runs_set}
use Rattle.partial_blocks.specs.Composing.{word_set}

-- the owned blocks are the same ones
pub runs_number : (count last : ℕ) (s : Seat) (k : ℕ) → owned_block (runs_set count last s) k ≡ owned_block s k
runs_number count zero s k = unfilled_each s count k
runs_number count (suc last) s k = unfilled_each (runs_set count last s) count k ∙ runs_number count last s k

word_alike : (count : ℕ) {w x v y : ℕ} {s t : Seat} → w ≡ x → v ≡ y → s ≡ t → word_set count w v s ≡ word_set count x y t
word_alike count {w} {x} {v} {y} {s} {t} words values seats =
    ap (λ (n : ℕ). word_set count n v s) words ∙ (ap (λ (n : ℕ). word_set count x n s) values ∙ ap (λ (u : Seat). word_set count x y u) seats)

-- one block more
module _ (count last next : ℕ) (up : next ≡ suc last) (first s : Seat) (run : RunWord) (runs block : ℕ) (seat_is : s ≡ runs_set count last first) (run_is : run ≡ run_at last first) (runs_is : runs ≡ runs_at last first)
    (block_is : block ≡ owned_block s next) where
  here : block ≡ owned_block first (suc last)
  here = block_is ∙ (ap (λ (k : ℕ). owned_block s k) up ∙ ap (λ (t : Seat). owned_block t (suc last)) seat_is ∙ runs_number count last first (suc last))

  run_by : (follows : Bool) → is_next run (owned_block first (suc last)) ≡ follows → run_at next first ≡ longer_if follows run (owned_block first (suc last))
  run_by follows is = ap (λ (k : ℕ). run_at k first) up ∙ ap (λ (r : RunWord). longer_if (is_next r (owned_block first (suc last))) r (owned_block first (suc last))) (sym run_is) ∙ ap (λ (b : Bool). longer_if b run (owned_block first (suc last))) is

  runs_by : (follows : Bool) → is_next run (owned_block first (suc last)) ≡ follows → runs_at next first ≡ (if follows then runs else runs + 1)
  runs_by follows is = ap (λ (k : ℕ). runs_at k first) up ∙ (ap (λ (r : RunWord). if is_next r (owned_block first (suc last)) then runs_at last first else runs_at last first + 1) (sym run_is)
      ∙ (ap (λ (b : Bool). if b then runs_at last first else runs_at last first + 1) is ∙ ap (λ (n : ℕ). if follows then n else n + 1) (sym runs_is)))

  pub longer : run.block + run.count ≡ block → (run_at next first ≡ record { block = run.block; count = run.count + 1 }) × (runs_at next first ≡ runs)
  longer follows = (run_by true (eq-eqb (run.block + run.count) (owned_block first (suc last)) (follows ∙ here)), runs_by true (eq-eqb (run.block + run.count) (owned_block first (suc last)) (follows ∙ here)))

  pub another : run.block + run.count ≢ block → (run_at next first ≡ record { block = block; count = 1 }) × (runs_at next first ≡ runs + 1)
  another apart = (run_by false other ∙ ap (λ (b : ℕ). record { block = b; count = 1 }) (sym here), runs_by false other)
    where
      other : is_next run (owned_block first (suc last)) ≡ false
      other = ne_eqb (run.block + run.count) (owned_block first (suc last)) (λ same. apart (same ∙ sym here))

  pub set_more : (now : RunWord) (more value : ℕ) → now ≡ run_at next first → more ≡ runs_at next first → IsRunWord now value → word_set count more value s ≡ runs_set count next first
  set_more now more value now_is more_is word = subst (λ (k : ℕ). now ≡ run_at k first → more ≡ runs_at k first → word_set count more value s ≡ runs_set count k first) (sym up) (λ now_is more_is. word_alike count more_is (sym word.same ∙ ap run_word now_is) seat_is) now_is more_is
