-- The used slots and links of log blocks in the order of reading: which places they are, and which stand before a place.
use Rattle.std.proofs.Common.{◌≡◌, ◌≢◌, ◌⊎◌, inl, inr, ◌<◌, ◌≤◌, ◌+◌, ◌==◌, ◌||◌, ℕ, zero, suc, Bool, true, false, if◌then◌else◌, List, [], ◌∷◌, ◌++◌, length, refl, sym, ◌∙◌, ap, subst, arith, append-nil}
use Rattle.std.specs.List.{AllByRecursion, list_any}
use Rattle.std.proofs.lemmas.Bool.{eqb-true, eq-eqb, ne_eqb, or_left, or_right}
use Rattle.std.proofs.lemmas.List.Folds.{list_any-append}
use Rattle.log_image.specs.Image.{Shape}
use Rattle.log_core.specs.Entries.{place_in}
use Rattle.log_core.specs.Origin.{LogBlock}
use Rattle.log_core.specs.Cores.{nth_log, TrailWord, slot_trail, trail}
use Rattle.log_core.specs.May.{trail_before}
use Rattle.log_core.proofs.clauses.Apart.{either_of}

-- whether a place is on a trail
abbrev pub is_on : List TrailWord → ℕ → Bool
is_on words place = list_any (λ (t : TrailWord). t.place == place) words

-- a used slot of a log block, or the link of one that another follows
pub data OnTrail (image : Shape) (logs : List LogBlock) (place : ℕ) : Type 0 where
  AtSlot : (number k : ℕ) → number < length logs → k < length (nth_log logs number).slots → place ≡ place_in image (nth_log logs number).block (k + 3) → OnTrail image logs place
  AtLink : (number : ℕ) → number + 1 < length logs → place ≡ place_in image (nth_log logs number).block 0 → OnTrail image logs place

-- what stands before a place stands on the trail
pub before_is_on : (at place : ℕ) (words : List TrailWord) → is_on (trail_before at words) place ≡ true → is_on words place ≡ true
before_is_on at place [] before = before
before_is_on at place (t ∷ words) before = go (t.place == at) before (λ later. before_is_on at place words later)
  where
    go : (b : Bool) → is_on (if b then [] else t ∷ trail_before at words) place ≡ true → (is_on (trail_before at words) place ≡ true → is_on words place ≡ true) → ((t.place == place) || is_on words place) ≡ true
    go true none rest = cc
    go false some rest = either_of (t.place == place) (is_on (trail_before at words) place) some (λ here. or_left (t.place == place) (is_on words place) here)
        (λ later. or_right (t.place == place) (is_on words place) (rest later))

-- a place among used slots is one of them
slot_place : (first place : ℕ) (slots : List ℕ) → is_on (slot_trail first slots) place ≡ true → (k : ℕ) × (k < length slots) × (place ≡ first + k)
slot_place first place [] on = cc
slot_place first place (slot ∷ slots) on = either_of (first == place) (is_on (slot_trail (first + 1) slots) place) on
    (λ here. (0, omega arith, (let e = eqb-true first place here in omega (arith, e))))
    (λ later. (let r = slot_place (first + 1) place slots later in (suc r.0, (let low = r.1 in omega (arith, low)), (let e = r.2 in omega (arith, e)))))

later_on : (image : Shape) (log : LogBlock) (logs : List LogBlock) (place : ℕ) → OnTrail image logs place → OnTrail image (log ∷ logs) place
later_on image log logs place (AtSlot number k inside used is) = AtSlot (suc number) k (omega (arith, inside)) used is
later_on image log logs place (AtLink number inside is) = AtLink (suc number) (omega (arith, inside)) is

pub on_trail : (image : Shape) (logs : List LogBlock) (place : ℕ) → is_on (trail image logs) place ≡ true → OnTrail image logs place
on_trail image [] place on = cc
on_trail image (log ∷ []) place on = (let r = slot_place (place_in image log.block 3) place log.slots on in AtSlot 0 r.0 (omega arith) r.1 (let e = r.2 in omega (arith, e)))
on_trail image (log ∷ next ∷ logs) place on =
    either_of (is_on (slot_trail (place_in image log.block 3) log.slots) place) ((place_in image log.block 0 == place) || is_on (trail image (next ∷ logs)) place)
    (sym (list_any-append (λ (t : TrailWord). t.place == place) (slot_trail (place_in image log.block 3) log.slots) (record { place = place_in image log.block 0; word = next.block } ∷ trail image (next ∷ logs))) ∙ on)
    (λ slot. (let r = slot_place (place_in image log.block 3) place log.slots slot in AtSlot 0 r.0 (omega arith) r.1 (let e = r.2 in omega (arith, e))))
    (λ rest. either_of (place_in image log.block 0 == place) (is_on (trail image (next ∷ logs)) place) rest
    (λ link. AtLink 0 (omega arith) (sym (eqb-true (place_in image log.block 0) place link)))
    (λ later. later_on image log (next ∷ logs) place (on_trail image (next ∷ logs) place later)))

-- words whose places are all other ones stand before a place
skipped : (at : ℕ) (words rest : List TrailWord) → AllByRecursion (λ (t : TrailWord). t.place ≢ at) words → trail_before at (words ++ rest) ≡ words ++ trail_before at rest
skipped at [] rest other = refl
skipped at (t ∷ words) rest other = rw (ne_eqb t.place at other.0) (ap (λ (l : List TrailWord). t ∷ l) (skipped at words rest other.1))

slots_other : (at first : ℕ) (slots : List ℕ) → ((k : ℕ) → k < length slots → first + k ≢ at) → AllByRecursion (λ (t : TrailWord). t.place ≢ at) (slot_trail first slots)
slots_other at first [] other = tt
slots_other at first (slot ∷ slots) other =
    ((λ same. other 0 (omega arith) (omega (arith, same))), slots_other at (first + 1) slots (λ k low same. other (suc k) (omega (arith, low)) (omega (arith, same))))

-- a slot stands before a place that is neither it nor an earlier one
slot_before : (at first k : ℕ) (slots : List ℕ) (rest : List TrailWord) → k < length slots → ((j : ℕ) → j ≤ k → first + j ≢ at) → is_on (trail_before at (slot_trail first slots ++ rest)) (first + k) ≡ true
slot_before at first k [] rest inside other = absurd (omega (arith, inside))
slot_before at first zero (slot ∷ slots) rest inside other =
    rw (ne_eqb first at (λ same. other 0 (omega arith) (omega (arith, same)))) (or_left (first == first + 0) (is_on (trail_before at (slot_trail (first + 1) slots ++ rest)) (first + 0)) (eq-eqb first (first + 0) (omega arith)))
slot_before at first (suc k) (slot ∷ slots) rest inside other =
    rw (ne_eqb first at (λ same. other 0 (omega arith) (omega (arith, same)))) (or_right (first == first + suc k) (is_on (trail_before at (slot_trail (first + 1) slots ++ rest)) (first + suc k))
    (subst (λ (place : ℕ). is_on (trail_before at (slot_trail (first + 1) slots ++ rest)) place ≡ true) (omega arith)
    (slot_before at (first + 1) k slots rest (omega (arith, inside)) (λ j low same. other (suc j) (omega (arith, low)) (omega (arith, same))))))

-- past a log block whose words are all other ones
past_log : (image : Shape) (at place : ℕ) (log next : LogBlock) (logs : List LogBlock) → ((k : ℕ) → k < length log.slots → place_in image log.block 3 + k ≢ at) → place_in image log.block 0 ≢ at →
    ((place_in image log.block 0 ≡ place) ⊎ (is_on (trail_before at (trail image (next ∷ logs))) place ≡ true)) → is_on (trail_before at (trail image (log ∷ next ∷ logs))) place ≡ true
past_log image at place log next logs slots link on =
    ap (λ (words : List TrailWord). is_on words place) (skipped at (slot_trail (place_in image log.block 3) log.slots) (first ∷ trail image (next ∷ logs)) (slots_other at (place_in image log.block 3) log.slots slots))
    ∙ (list_any-append (λ (t : TrailWord). t.place == place) (slot_trail (place_in image log.block 3) log.slots) (trail_before at (first ∷ trail image (next ∷ logs)))
    ∙ or_right (is_on (slot_trail (place_in image log.block 3) log.slots) place) (is_on (trail_before at (first ∷ trail image (next ∷ logs))) place)
    (rw (ne_eqb (place_in image log.block 0) at link) (later on)))
  where
    first : TrailWord
    first = record { place = place_in image log.block 0; word = next.block }

    later : ((place_in image log.block 0 ≡ place) ⊎ (is_on (trail_before at (trail image (next ∷ logs))) place ≡ true)) → ((place_in image log.block 0 == place) || is_on (trail_before at (trail image (next ∷ logs))) place) ≡ true
    later (inl here) = or_left (place_in image log.block 0 == place) (is_on (trail_before at (trail image (next ∷ logs))) place) (eq-eqb (place_in image log.block 0) place here)
    later (inr rest) = or_right (place_in image log.block 0 == place) (is_on (trail_before at (trail image (next ∷ logs))) place) rest

-- a used slot stands before a place that no word of an earlier log block has, nor it or an earlier slot of its own
pub slot_on : (image : Shape) (logs : List LogBlock) (at number k : ℕ) → number < length logs → k < length (nth_log logs number).slots →
    ((earlier index : ℕ) → earlier < number → index < length (nth_log logs earlier).slots + 3 → place_in image (nth_log logs earlier).block index ≢ at) →
    ((j : ℕ) → j ≤ k → place_in image (nth_log logs number).block 3 + j ≢ at) → is_on (trail_before at (trail image logs)) (place_in image (nth_log logs number).block 3 + k) ≡ true
slot_on image [] at number k inside used earlier own = absurd (omega (arith, inside))
slot_on image (log ∷ []) at zero k inside used earlier own =
    subst (λ (words : List TrailWord). is_on (trail_before at words) (place_in image log.block 3 + k) ≡ true) (append-nil (slot_trail (place_in image log.block 3) log.slots)) (slot_before at (place_in image log.block 3) k log.slots [] used own)
slot_on image (log ∷ []) at (suc number) k inside used earlier own = absurd (omega (arith, inside))
slot_on image (log ∷ next ∷ logs) at zero k inside used earlier own = slot_before at (place_in image log.block 3) k log.slots _ used own
slot_on image (log ∷ next ∷ logs) at (suc number) k inside used earlier own = past_log image at (place_in image (nth_log (next ∷ logs) number).block 3 + k) log next logs
    (λ j low same. earlier 0 (3 + j) (omega arith) (omega (arith, low)) (omega (arith, same))) (earlier 0 0 (omega arith) (omega arith))
    (inr (slot_on image (next ∷ logs) at number k (omega (arith, inside)) used (λ other index less. earlier (suc other) index (omega (arith, less))) own))

-- so does a link
pub link_on : (image : Shape) (logs : List LogBlock) (at number : ℕ) → number + 1 < length logs →
    ((earlier index : ℕ) → earlier ≤ number → index < length (nth_log logs earlier).slots + 3 → place_in image (nth_log logs earlier).block index ≢ at) →
    is_on (trail_before at (trail image logs)) (place_in image (nth_log logs number).block 0) ≡ true
link_on image [] at number inside earlier = absurd (omega (arith, inside))
link_on image (log ∷ []) at number inside earlier = absurd (omega (arith, inside))
link_on image (log ∷ next ∷ logs) at zero inside earlier = past_log image at (place_in image log.block 0) log next logs
    (λ j low same. earlier 0 (3 + j) (omega arith) (omega (arith, low)) (omega (arith, same))) (earlier 0 0 (omega arith) (omega arith)) (inl refl)
link_on image (log ∷ next ∷ logs) at (suc number) inside earlier = past_log image at (place_in image (nth_log (next ∷ logs) number).block 0) log next logs
    (λ j low same. earlier 0 (3 + j) (omega arith) (omega (arith, low)) (omega (arith, same))) (earlier 0 0 (omega arith) (omega arith))
    (inr (link_on image (next ∷ logs) at number (omega (arith, inside)) (λ other index less. earlier (suc other) index (omega (arith, less)))))
