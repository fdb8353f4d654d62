-- A machine whose steps stand among those of others.
use Rattle.std.proofs.Common.{ℕ, ◌≡◌}
use Rattle.pmem_words.specs.Seats.{Seat}
use Rattle.pmem_words.specs.Scripts.{Script}
use Rattle.pmem_words.specs.Courses.{Course, Others, among}
use Rattle.pmem_words.specs.Leads.{Leads, asking}
use Rattle.pmem_words.specs.declared.machine.Turn.TheVariants.{Go, Done}

module _ {M W Out : Type 0} (script : Script M Out) (others : Others W) (course : Course M W) (Q : Out → Seat → W → Type 0) where
  -- a step of another changes nothing of what the machine promises
  pub leads_still : {m : M} {s : Seat} {w : W} (v : W) → others.reach w v → Leads script (among others course) Q m s w → Leads script (among others course) Q m s v
  leads_still {m} {s} {w} v o (asking ready goes ends) =
      asking
      (λ u h. ready u (others.more w v u o h))
      (λ a u st go. goes a u (st.0, others.more w v st.0 o st.1, st.2) go)
      (λ a u out st done. ends a u out (st.0, others.more w v st.0 o st.1, st.2) done)

  -- its own step may be made now
  pub ready_alone : {m : M} {s : Seat} {w : W} → Leads script (among others course) Q m s w → course.ready m s w
  ready_alone {m} {s} {w} (asking ready goes ends) = ready w (others.none w)

  -- and then it goes on so, or has ended
  pub goes_alone : {m : M} {s : Seat} {w : W} → Leads script (among others course) Q m s w → (a : ℕ) (v : W) → course.step m s w a v → (script.after m s a).turn ≡ Go → Leads script (among others course) Q (script.after m s a).machine (script.after m s a).seat v
  goes_alone {m} {s} {w} (asking ready goes ends) a v st go = goes a v (w, others.none w, st) go

  pub ends_alone : {m : M} {s : Seat} {w : W} → Leads script (among others course) Q m s w → (a : ℕ) (v : W) (out : Out) → course.step m s w a v → (script.after m s a).turn ≡ Done out → Q out (script.after m s a).seat v
  ends_alone {m} {s} {w} (asking ready goes ends) a v out st done = ends a v out (w, others.none w, st) done
