-- A part's promise is the promise of the whole at that stage.
use Rattle.std.proofs.Common.{ℕ, ◌≡◌, refl, subst, sym, ap, ◌∙◌}
use Rattle.pmem_words.specs.Seats.{Seat}
use Rattle.pmem_words.specs.Scripts.{After, Script}
use Rattle.pmem_words.specs.Conducts.{Conduct}
use Rattle.pmem_words.specs.Courses.{Course, over}
use Rattle.pmem_words.specs.Leads.{Leads, asking}
use Rattle.pmem_words.specs.Parts.{Next, Into, End, moved, onward, onward_at, Embeds, LeadsOn}
use Rattle.asks.specs.declared.ask.Ask.{Ask}
use Rattle.pmem_words.specs.declared.machine.Turn.{Turn}
use Rattle.pmem_words.specs.declared.machine.Turn.TheVariants.{Go, Done}

module _ {A C OutA Out W : Type 0} (whole : Script C Out) (course : Course C W) (inject : A → C) (next : OutA → Seat → Next C Out) (Q : Out → Seat → W → Type 0) where
  go_moved : (m : C) (n : Next C Out) (w : W) → LeadsOn whole course Q n w → (moved m n).turn ≡ Go → Leads whole course Q (moved m n).machine (moved m n).seat w
  go_moved m (Into c s) w h e = h
  go_moved m (End out s) w h e = cc

  end_moved : (m : C) (n : Next C Out) (w : W) (out : Out) → LeadsOn whole course Q n w → (moved m n).turn ≡ Done out → Q out (moved m n).seat w
  end_moved m (Into c s) w out h e = cc
  end_moved m (End o s) w out h e = let same : o ≡ out = cc in subst (λ (x : Out). Q x s w) same h

  go_at : (m : A) (s : Seat) (t : Turn OutA) (w : W) → (t ≡ Go → Leads whole course Q (inject m) s w) → ((o : OutA) → t ≡ Done o → LeadsOn whole course Q (next o s) w) → (onward_at inject next m s t).turn ≡ Go → Leads whole course Q (onward_at inject next m s t).machine (onward_at inject next m s t).seat w
  go_at m s Go w go done e = go refl
  go_at m s (Done o) w go done e = go_moved (inject m) (next o s) w (done o refl) e

  end_at : (m : A) (s : Seat) (t : Turn OutA) (w : W) (out : Out) → ((o : OutA) → t ≡ Done o → LeadsOn whole course Q (next o s) w) → (onward_at inject next m s t).turn ≡ Done out → Q out (onward_at inject next m s t).seat w
  end_at m s Go w out done e = cc
  end_at m s (Done o) w out done e = end_moved (inject m) (next o s) w out (done o refl) e

-- The part's course tells when the whole may perform its ask and which answers come, wherever K holds; K is kept while the part
-- goes on. Then the part's promise of what holds where each of its ends goes is the whole's.
module _ {A C OutA Out W : Type 0} (part : Script A OutA) (whole : Script C Out) (near : Course A W) (course : Course C W) (inject : A → C) (next : OutA → Seat → Next C Out)
    (K : A → Seat → W → Type 0) (Q : Out → Seat → W → Type 0)
    (ready : (m : A) (s : Seat) (w : W) → K m s w → near.ready m s w → course.ready (inject m) s w)
    (steps : (m : A) (s : Seat) (w : W) (a : ℕ) (v : W) → K m s w → course.step (inject m) s w a v → near.step m s w a v)
    (keeps : (m : A) (s : Seat) (w : W) (a : ℕ) (v : W) → K m s w → near.ready m s w → near.step m s w a v → (part.after m s a).turn ≡ Go → K (part.after m s a).machine (part.after m s a).seat v) where
  pub leads_through : Embeds part whole inject next → {m : A} {s : Seat} {w : W} → K m s w → Leads part near (λ o t v. LeadsOn whole course Q (next o t) v) m s w → Leads whole course Q (inject m) s w
  leads_through embeds {m} {s} {w} k (asking now goes ends) =
      asking (ready m s w k now)
      (λ a v st e.
      let own : near.step m s w a v = steps m s w a v k st in
      let same : onward inject next (part.after m s a) ≡ whole.after (inject m) s a = embeds.after m s a in
      subst (λ (r : After C Out). Leads whole course Q r.machine r.seat v) same
      (go_at whole course inject next Q (part.after m s a).machine (part.after m s a).seat (part.after m s a).turn v
      (λ g. leads_through embeds (keeps m s w a v k now own g) (goes a v own g))
      (λ o d. ends a v o own d)
      (ap (λ (r : After C Out). r.turn) same ∙ e)))
      (λ a v out st e.
      let own : near.step m s w a v = steps m s w a v k st in
      let same : onward inject next (part.after m s a) ≡ whole.after (inject m) s a = embeds.after m s a in
      subst (λ (r : After C Out). Q out r.seat v) same
      (end_at whole course inject next Q (part.after m s a).machine (part.after m s a).seat (part.after m s a).turn v out
      (λ o d. ends a v o own d)
      (ap (λ (r : After C Out). r.turn) same ∙ e)))

-- Over one memory: wherever K holds the whole admits what the part admits, and K is kept while the part goes on.
module _ {A C OutA Out W : Type 0} (part : Script A OutA) (whole : Script C Out) (store : Conduct W) (inject : A → C) (next : OutA → Seat → Next C Out)
    (K : A → Seat → Type 0) (Q : Out → Seat → W → Type 0)
    (admits : (m : A) (s : Seat) (a : ℕ) → K m s → part.admits m s a → whole.admits (inject m) s a)
    (keeps : (m : A) (s : Seat) (a : ℕ) → K m s → part.admits m s a → (part.after m s a).turn ≡ Go → K (part.after m s a).machine (part.after m s a).seat) where
  pub stage_over : Embeds part whole inject next → {m : A} {s : Seat} {w : W} → K m s → Leads part (over part store) (λ o t v. LeadsOn whole (over whole store) Q (next o t) v) m s w → Leads whole (over whole store) Q (inject m) s w
  stage_over embeds {m} {s} {w} k h =
      leads_through part whole (over part store) (over whole store) inject next (λ m' s' w'. K m' s') Q
      (λ m' s' w' k' now. record {
        taken = subst (λ (x : Ask). store.takes w' s' x) (embeds.asks m' s') now.taken;
        admitted = λ a v st. admits m' s' a k' (now.admitted a v (subst (λ (x : Ask). store.step w' s' x a v) (sym (embeds.asks m' s')) st));
      })
      (λ m' s' w' a v k' st. subst (λ (x : Ask). store.step w' s' x a v) (sym (embeds.asks m' s')) st)
      (λ m' s' w' a v k' now st go. keeps m' s' a k' (now.admitted a v st) go)
      embeds k h
