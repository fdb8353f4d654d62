-- A machine over a plain memory: each ask has one answer.
use Rattle.std.proofs.Common.{ℕ, ◌≡◌, ◌<◌, ◌^◌, subst, sym, ap, ◌∙◌}
use Rattle.asks.specs.Asks.{place, becomes}
use Rattle.pmem_words.specs.Seats.{Seat}
use Rattle.pmem_words.specs.Scripts.{Script}
use Rattle.pmem_words.specs.Courses.{over}
use Rattle.pmem_words.specs.Leads.{Leads, LeadsAfter}
use Rattle.asks.specs.SharedWords.{SharedWords, with_word, answer_of, words_after, found_by}
use Rattle.pmem_words.specs.PlainWords.{plain_takes, plain}
use Rattle.pmem_words.proofs.LeadsLemmas.{asking_each}
use Rattle.asks.proofs.WordLemmas.{with_same}

module _ {M Out : Type 0} (script : Script M Out) (Q : Out → Seat → SharedWords → Type 0) where
  -- one ask: the answer that the memory gives is admitted and leads on
  pub leads_plain : (m : M) (s : Seat) (w : SharedWords) → plain_takes w (script.asks m s)
      → (answer_of w (script.asks m s) < 2 ^ 64 → script.admits m s (answer_of w (script.asks m s)))
      → LeadsAfter script (over script plain) Q (script.after m s (answer_of w (script.asks m s))) (words_after w (script.asks m s))
      → Leads script (over script plain) Q m s w
  leads_plain m s w taken admits on =
      asking_each script (over script plain) Q m s w
      (record { taken = taken; admitted = λ a v st. subst (λ (x : ℕ). script.admits m s x) (sym st.answered) (admits (subst (λ (x : ℕ). x < 2 ^ 64) st.answered st.small)) })
      (λ a v st.
      subst (λ (x : ℕ). LeadsAfter script (over script plain) Q (script.after m s x) v) (sym st.answered)
      (subst (λ (x : SharedWords). LeadsAfter script (over script plain) Q (script.after m s (answer_of w (script.asks m s))) x) (sym st.left) on))

  -- one ask that leaves the memory as it is
  pub leads_plain_kept : (m : M) (s : Seat) (w : SharedWords) → plain_takes w (script.asks m s)
      → becomes (script.asks m s) (found_by w (script.asks m s)) ≡ found_by w (script.asks m s)
      → (answer_of w (script.asks m s) < 2 ^ 64 → script.admits m s (answer_of w (script.asks m s)))
      → LeadsAfter script (over script plain) Q (script.after m s (answer_of w (script.asks m s))) w
      → Leads script (over script plain) Q m s w
  leads_plain_kept m s w taken same admits on =
      leads_plain m s w taken admits
      (subst (λ (x : SharedWords). LeadsAfter script (over script plain) Q (script.after m s (answer_of w (script.asks m s))) x)
      (sym (ap (λ (x : ℕ). with_word w (place 0 (script.asks m s)) x) same ∙ with_same w (place 0 (script.asks m s)))) on)
