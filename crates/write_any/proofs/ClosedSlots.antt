-- Whether the last log block of a chain is closed, by its used slots.
use Rattle.std.proofs.Common.{◌≡◌, ◌≢◌, ◌⊎◌, inl, inr, ℕ, zero, suc, ◌+◌, ◌-◌, ◌<◌, ◌==◌, ◌||◌, ◌&&◌, not, if◌then◌else◌, Bool, true, false, List, [], ◌∷◌, length, slice_index, refl, sym, ap, subst, ◌∙◌, arith}
use Rattle.std.proofs.lemmas.Bool.{eqb-true, eqb-false, eq-eqb, ne_eqb}
use Rattle.std.proofs.lemmas.List.{get_or_past}
use Rattle.log_entry.specs.declared.layouts.TheConstants.{EMPTY, SEAL}
use Rattle.log_image.specs.Image.{Shape, block_words}
use Rattle.log_image.specs.Blocks.{slots_of, is_closed, link_of, is_snapshot, leads_on}
use Rattle.log_image.specs.Chains.{LeadsAlong}
use Rattle.log_image.specs.Tails.{last_block}
use Rattle.log_core.specs.Origin.{LogBlock, no_log}
use Rattle.log_core.specs.Cores.{nth_log, is_sealed}
use Rattle.log_core.proofs.LogTails.{entries_short, sealed_at}
use Rattle.log_core.proofs.crashes.LeftLogs.{LogsLeft, form}
use Rattle.log_core.proofs.crashes.LeftSlots.{SlotsLeft, Stayed, Enough, All, stayed, slots_stay}
use Rattle.write_any.proofs.OpenTail.{last_of}

-- slots with an empty one before any seal are not closed
open_at : (slots : List ℕ) (k : ℕ) → k < length slots → slice_index slots k ≡ EMPTY → ((j : ℕ) → j < k → slice_index slots j ≢ SEAL) → is_closed slots ≡ false
open_at [] k low empty no_seal = absurd (omega (arith, low))
open_at (slot ∷ slots) zero low empty no_seal = rw (eq-eqb slot EMPTY empty) refl
open_at (slot ∷ slots) (suc k) low empty no_seal = by (slot == EMPTY) (slot == SEAL) (ne_eqb slot SEAL (no_seal 0 (omega arith))) (open_at slots k (omega (arith, low)) empty (λ j less. no_seal (suc j) (omega (arith, less))))
  where
    by : (none seal : Bool) → seal ≡ false → is_closed slots ≡ false → (if none then false else if seal then true else is_closed slots) ≡ false
    by true seal other rest = refl
    by false true other rest = cc
    by false false other rest = rest

-- where each used slot has its value, they are closed exactly where a seal is used or all are
module _ (used left : List ℕ) (is : SlotsLeft used left) (same : (k : ℕ) → k < length used → slice_index left k ≡ slice_index used k) where
  full_closes : (is_sealed used ≡ true) ⊎ (length used ≡ length left) → is_closed left ≡ true
  full_closes full = by (stayed (length used + 1) used left is (λ k inside low. same k inside))
    where
      by : Stayed (length used + 1) used left → is_closed left ≡ true
      by (Enough enough) = absurd (let few = (slots_stay used left is).few in let short = entries_short used in omega (arith, enough, few, short))
      by (All all closes) = closes (let short = entries_short used in omega (arith, short)) full

  pub closed_is : is_closed left ≡ (is_sealed used || (length used == length left))
  closed_is = by (is_sealed used) (length used == length left) refl refl
    where
      by : (sealed all : Bool) → is_sealed used ≡ sealed → (length used == length left) ≡ all → is_closed left ≡ (sealed || all)
      by true all is_seal many = full_closes (inl is_seal)
      by false true is_seal many = full_closes (inr (eqb-true (length used) (length left) many))
      by false false is_seal many =
          (let room = is.room in
          let other = eqb-false (length used) (length left) many in
          open_at left (length used) (omega (arith, room, other))
          (which (is.each (length used) (omega (arith, room, other)) (λ sealed. omega arith)))
          (λ j less seal. (let both : true ≡ false = sym (sealed_at used j (sym (same j less) ∙ seal)) ∙ is_seal in cc)))
        where
          which : (slice_index left (length used) ≡ slice_index used (length used)) ⊎ (slice_index left (length used) ≡ 0) → slice_index left (length used) ≡ EMPTY
          which (inl e) = e ∙ get_or_past used (length used) 0 (omega arith)
          which (inr e) = e

-- what a log block and the one that follows it have in the words: each used slot, and the link
pub record IsPresent (words : List ℕ) (image : Shape) (log next : LogBlock) : Type 0 where
  pub slots : (k : ℕ) → k < length log.slots → slice_index (slots_of (block_words words image log.block)) k ≡ slice_index log.slots k
  pub link : link_of (block_words words image log.block) ≡ next.block

leads_by : (block : List ℕ) → is_snapshot block ≡ false → (leads_on block ≡ (is_closed (slots_of block) && not (link_of block == 0)))
leads_by block log = ap (λ (b : Bool). b || (is_closed (slots_of block) && not (link_of block == 0))) log

unlinked : (closed : Bool) → (closed && false) ≡ false
unlinked true = refl
unlinked false = refl

later_last : (log next : LogBlock) (logs : List LogBlock) → last_of (log ∷ next ∷ logs) ≡ last_of (next ∷ logs)
later_last log next logs = ap (λ (k : ℕ). nth_log (log ∷ next ∷ logs) k) (let e : suc (suc (length logs)) - 1 ≡ suc (suc (length logs) - 1) = omega arith in e)

module _ (words : List ℕ) (image : Shape) (upto : ℕ) where
  abbrev left : ℕ → List ℕ
  left block = block_words words image block

  -- the way along the links ends in the last log block
  pub tail_closed : (log : LogBlock) (logs : List LogBlock) (rest : List ℕ) → LogsLeft words image upto log logs → ((number : ℕ) → number < length (log ∷ logs) → IsPresent words image (nth_log (log ∷ logs) number) (nth_log (log ∷ logs) (suc number))) →
      LeadsAlong words image log.block rest → (last_block log.block rest ≡ (last_of (log ∷ logs)).block)
      × (is_closed (slots_of (left (last_of (log ∷ logs)).block)) ≡ (is_sealed (last_of (log ∷ logs)).slots || (length (last_of (log ∷ logs)).slots == length (slots_of (left (last_of (log ∷ logs)).block)))))
  tail_closed log [] [] is present leads = (refl, closed_is log.slots (slots_of (left log.block)) is.0.slots (present 0 (omega arith)).slots)
  tail_closed log [] (r ∷ rest) is present leads =
      absurd (let here = present 0 (omega arith) in
      let none : leads_on (left log.block) ≡ false = leads_by (left log.block) (form words image upto log no_log is.0).log
      ∙ (ap (λ (b : Bool). is_closed (slots_of (left log.block)) && not b) (eq-eqb (link_of (left log.block)) 0 here.link) ∙ unlinked (is_closed (slots_of (left log.block)))) in
      let both : true ≡ false = sym leads.0 ∙ none in cc)
  tail_closed log (next ∷ logs) [] is present leads =
      absurd (let here = present 0 (omega arith) in
      let closed : is_closed (slots_of (left log.block)) ≡ true = full_closes log.slots (slots_of (left log.block)) is.0.slots here.slots is.3 in
      let on : leads_on (left log.block) ≡ true = leads_by (left log.block) (form words image upto log next is.0).log
      ∙ (ap (λ (b : Bool). b && not (link_of (left log.block) == 0)) closed ∙ ap (λ (b : Bool). not b) (ne_eqb (link_of (left log.block)) 0 (λ none. is.1 (sym here.link ∙ none)))) in
      let both : true ≡ false = sym on ∙ leads in cc)
  tail_closed log (next ∷ logs) (r ∷ rest) is present leads =
      (let here = present 0 (omega arith) in
      let same : r ≡ next.block = sym leads.1 ∙ here.link in
      let more = tail_closed next logs rest is.4 (λ number inside. present (suc number) (omega (arith, inside))) (subst (λ (b : ℕ). LeadsAlong words image b rest) same leads.2) in
      subst (λ (l : LogBlock). (last_block r rest ≡ l.block) × (is_closed (slots_of (left l.block)) ≡ (is_sealed l.slots || (length l.slots == length (slots_of (left l.block)))))) (sym (later_last log next logs))
      (ap (λ (b : ℕ). last_block b rest) same ∙ more.0, more.1))
