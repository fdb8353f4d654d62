-- A machine that leads to its end within a core does so at a seat of a world, driven over the image to its end, while the other seats stay
-- where they are.
use Rattle.std.proofs.Common.{◌≡◌, ◌<◌, ◌+◌, ◌-◌, ℕ, zero, suc, List, length, sym, ◌∙◌, ap, subst, arith, slice_set}
use Rattle.std.proofs.lemmas.List.{get_or-set_same, length-set, set-set}
use Rattle.log_entry.specs.declared.calls.Call.{Call}
use Rattle.pmem_words.specs.Seats.{Seat, new_seat}
use Rattle.pmem_words.specs.Scripts.{After, Script, Lowers}
use Rattle.pmem_words.specs.Courses.{over}
use Rattle.pmem_words.specs.Leads.{Leads, asking}
use Rattle.pmem_words.specs.declared.machine.Turn.TheVariants.{Go, Done}
use Rattle.persistence.specs.Memory.{found_answer}
use Rattle.log_core.specs.Views.{View, no_geometry}
use Rattle.crash_model.specs.Images.{SharedNow, image_after, ImageTakes, ImageStep, image_steps}
use Rattle.crash_model.specs.Worlds.{WorldNow, HasFitting, seat_of, world_of, answer_in, told_in, turned}
use Rattle.crash_model.specs.Led.{Held, Runs, Ended, IsAmong}
use Rattle.crash_model.proofs.Standing.{number_here, image_takes}
use Rattle.crash_model.proofs.Leading.{fits_among, admits_among, goes_among, ends_among, inside_among}

module _ {M Out : Type 0} (F : Held) (seat : ℕ) (script : Script M Out) (rec : Out → Seat → List Call) (Q : Out → Seat → View → Type 0)
    (one : (m : M) (s : Seat) (a : ℕ) → IsProp (script.admits m s a)) (seats : List Seat) where
  -- the world of an image in which the seat has this state
  abbrev pub with_state : Seat → SharedNow → WorldNow
  with_state s i = world_of i (slice_set seats seat s)

  abbrev IsAt : M → Seat → SharedNow → Type 0
  IsAt m s i = IsAmong F seat (Runs script rec Q m) (with_state s i)

  -- the machine has ended so, in a world of the image and of the seat's state
  abbrev pub EndsAt : Out → Seat → SharedNow → Type 0
  EndsAt out s i = IsAmong F seat (Ended Q out) (with_state s i)

  module _ (m : M) (s : Seat) (i : SharedNow) (led : IsAt m s i) where
    abbrev w : WorldNow
    w = with_state s i

    inside : seat < length seats
    inside = subst (λ (n : ℕ). seat < n) (length-set seats seat s) (inside_among F seat script rec Q m w led)

    same_seat : seat_of w seat ≡ s
    same_seat = get_or-set_same seats seat s (new_seat no_geometry 0 0 0) inside

    fits : HasFitting w seat (script.asks m s)
    fits = subst (λ (x : Seat). HasFitting w seat (script.asks m x)) same_seat (fits_among F seat script rec Q m w led)

    takes : 0 < i.cells.room → ImageTakes i s (script.asks m s)
    takes room = image_takes w seat (script.asks m s) fits s (sym same_seat) room

    admits : script.admits m s (found_answer i.cells.memory (script.asks m s))
    admits = subst (λ (x : Seat). script.admits m x (found_answer i.cells.memory (script.asks m x))) same_seat
        (admits_among F seat script rec Q m w (one m (seat_of w seat) (answer_in script w seat m)) led)

    module _ (a : ℕ) (j : SharedNow) (step : ImageStep i s (script.asks m s) a j) where
      admits_it : script.admits m s a
      admits_it = subst (λ (x : ℕ). script.admits m s x) (sym step.answered) admits

      left_is : j ≡ image_after i seat s (script.asks m s)
      left_is = step.left ∙ ap (λ (k : ℕ). image_after i k s (script.asks m s)) (number_here w seat (script.asks m s) fits s (sym same_seat))

      told_is : told_in script w seat m ≡ script.after m s a
      told_is = ap (λ (x : Seat). script.after m x (found_answer i.cells.memory (script.asks m x))) same_seat ∙ ap (λ (x : ℕ). script.after m s x) (sym step.answered)

      turned_is : turned script w seat m ≡ with_state (script.after m s a).seat j
      turned_is = ap (λ (x : Seat). world_of (image_after i seat x (script.asks m x)) (slice_set (slice_set seats seat s) seat (told_in script w seat m).seat)) same_seat
          ∙ (ap (λ (r : After M Out). world_of (image_after i seat s (script.asks m s)) (slice_set (slice_set seats seat s) seat r.seat)) told_is
          ∙ (ap (λ (xs : List Seat). world_of (image_after i seat s (script.asks m s)) xs) (set-set seats seat s (script.after m s a).seat)
          ∙ ap (λ (x : SharedNow). with_state (script.after m s a).seat x) (sym left_is)))

      goes_at : (script.after m s a).turn ≡ Go → IsAt (script.after m s a).machine (script.after m s a).seat j
      goes_at go = subst (λ (r : After M Out). IsAmong F seat (Runs script rec Q r.machine) (with_state (script.after m s a).seat j)) told_is
          (subst (λ (x : WorldNow). IsAmong F seat (Runs script rec Q (told_in script w seat m).machine) x) turned_is
          (goes_among F seat script rec Q m w led (ap (λ (r : After M Out). r.turn) told_is ∙ go)))

      ends_at : (out : Out) → (script.after m s a).turn ≡ Done out → EndsAt out (script.after m s a).seat j
      ends_at out done = subst (λ (x : WorldNow). IsAmong F seat (Ended Q out) x) turned_is (ends_among F seat script rec Q m w out led (ap (λ (r : After M Out). r.turn) told_is ∙ done))

  -- where each answer after which the machine goes on lowers a number, and there is room for more steps than that
  module _ (K : M → Seat → SharedNow → Type 0) (steps : M → Seat → SharedNow → ℕ)
      (keeps : (m : M) (s : Seat) (i : SharedNow) → s.number ≡ seat → K m s i → script.admits m s (found_answer i.cells.memory (script.asks m s)) → (script.after m s (found_answer i.cells.memory (script.asks m s))).turn ≡ Go →
      K (script.after m s (found_answer i.cells.memory (script.asks m s))).machine (script.after m s (found_answer i.cells.memory (script.asks m s))).seat (image_after i seat s (script.asks m s))
      × (steps (script.after m s (found_answer i.cells.memory (script.asks m s))).machine (script.after m s (found_answer i.cells.memory (script.asks m s))).seat (image_after i seat s (script.asks m s)) < steps m s i)) where
    leads_below : (n : ℕ) (m : M) (s : Seat) (i : SharedNow) → steps m s i < n → n < i.cells.room + 1 → K m s i → IsAt m s i → Leads script (over script image_steps) EndsAt m s i
    leads_below zero m s i few room k led = absurd (omega arith)
    leads_below (suc n) m s i few room k led =
        asking (record { taken = takes m s i led (omega (arith, room)); admitted = λ a j step. admits_it m s i led a j step })
        (λ a j step go. (let is = left_is m s i led a j step in
        let numbered = number_here (with_state s i) seat (script.asks m s) (fits m s i led) s (sym (same_seat m s i led)) in
        let kept = subst (λ (x : SharedNow). K (script.after m s a).machine (script.after m s a).seat x × (steps (script.after m s a).machine (script.after m s a).seat x < steps m s i)) (sym is)
        (subst (λ (x : ℕ). (script.after m s x).turn ≡ Go → K (script.after m s x).machine (script.after m s x).seat (image_after i seat s (script.asks m s))
        × (steps (script.after m s x).machine (script.after m s x).seat (image_after i seat s (script.asks m s)) < steps m s i)) (sym step.answered)
        (λ goes. keeps m s i numbered k (admits m s i led) goes) go) in
        let less : j.cells.room ≡ i.cells.room - 1 = ap (λ (x : SharedNow). x.cells.room) is in
        leads_below n (script.after m s a).machine (script.after m s a).seat j (let falls = kept.1 in omega (arith, falls, few)) (omega (arith, less, room, few)) kept.0 (goes_at m s i led a j step go)))
        (λ a j out step done. ends_at m s i led a j step out done)

    -- it leads to its end over the image
    pub leads_image : (m : M) (s : Seat) (i : SharedNow) → steps m s i < i.cells.room → K m s i → IsAmong F seat (Runs script rec Q m) (with_state s i) → Leads script (over script image_steps) EndsAt m s i
    leads_image m s i room k led = leads_below (steps m s i + 1) m s i (omega arith) (omega (arith, room)) k led

  -- the law of its measure will do
  pub leads_measured : Lowers script → (m : M) (s : Seat) (i : SharedNow) → script.measure m s < i.cells.room → IsAmong F seat (Runs script rec Q m) (with_state s i) → Leads script (over script image_steps) EndsAt m s i
  leads_measured lowers m s i room led =
      leads_image (λ n t j. Unit {0}) (λ n t j. script.measure n t) (λ n t j numbered k admits go. (tt, lowers n t (found_answer j.cells.memory (script.asks n t)) admits go)) m s i room tt led
