-- A list of answers and one more.
use Rattle.std.proofs.Common.{ℕ, ◌≡◌, List, [], ◌∷◌, ◌++◌, refl, subst, sym}
use Rattle.pmem_words.specs.Seats.{Seat}
use Rattle.pmem_words.specs.Scripts.{Script}
use Rattle.pmem_words.specs.Courses.{Course}
use Rattle.pmem_words.specs.Drives.{Goes}
use Rattle.pmem_words.specs.declared.machine.Turn.TheVariants.{Go}

module _ {M W Out : Type 0} (script : Script M Out) (course : Course M W) where
  pub goes_more : (answers : List ℕ) (m : M) (s : Seat) (w : W) (n : M) (t : Seat) (v : W) (a : ℕ) (u : W) → Goes script course m s w answers n t v → course.step n t v a u → (script.after n t a).turn ≡ Go → Goes script course m s w (answers ++ a ∷ []) (script.after n t a).machine (script.after n t a).seat u
  goes_more [] m s w n t v a u h st go =
      subst (λ (x : M). Goes script course x s w (a ∷ []) (script.after n t a).machine (script.after n t a).seat u) (sym h.0)
      (subst (λ (x : Seat). Goes script course n x w (a ∷ []) (script.after n t a).machine (script.after n t a).seat u) (sym h.1)
      (subst (λ (x : W). Goes script course n t x (a ∷ []) (script.after n t a).machine (script.after n t a).seat u) (sym h.2)
      (u, st, go, (refl, refl, refl))))
  goes_more (b ∷ answers) m s w n t v a u h st go =
      (h.0, h.1, h.2, goes_more answers (script.after m s b).machine (script.after m s b).seat h.0 n t v a u h.3 st go)
