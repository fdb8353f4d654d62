-- The used slots and links of a kept generation's chain: where they stand in the image, and that no used one is 0.
use Rattle.std.proofs.Common.{◌≡◌, ◌≢◌, ◌<◌, ◌≤◌, ◌+◌, ◌-◌, ◌*◌, ◌/◌, inl, inr, zero, suc, not, false, ◌++◌, [], ◌∷◌, ℕ, true, List, length, drop, sym, ◌∙◌, ap, subst, arith, slice_index}
use Rattle.std.proofs.Math.Nat.{mul-le-mul_right}
use Rattle.std.proofs.lemmas.Bool.{and_parts, not-true}
use Rattle.std.proofs.lemmas.List.{length-drop, get_or-drop}
use Rattle.std.proofs.lemmas.Nat.{div-mul-add}
use Rattle.log_image.specs.Image.{total}
use Rattle.log_image.specs.Chains.{all_different, is_listed}
use Rattle.persistence.specs.Memory.{cell}
use Rattle.log_core.specs.Entries.{place_in, head_place}
use Rattle.log_core.specs.Origin.{Origin, shape, q_of_origin, Owner, Free, InChain, LeftTo, Header, LogBlock, no_log}
use Rattle.log_core.specs.Files.{entries}
use Rattle.log_core.specs.Cores.{Core, nth_log, is_named, log_blocks, data_names}
use Rattle.log_core.specs.Contents.{IsStillTaken}
use Rattle.log_core.specs.Order.{nth_generation}
use Rattle.log_core.specs.Invariant.{Invariant, KeptIn}
use Rattle.log_core.proofs.LogTails.{some_block}
use Rattle.log_core.proofs.ChainWords.{front_different, back_different}
use Rattle.log_core.proofs.Trails.{OnTrail, AtSlot, AtLink}
use Rattle.log_core.proofs.clauses.Apart.{has_log, log_is_named}
use Rattle.log_core.proofs.clauses.OneView.{same_or_other}
use Rattle.log_core.proofs.clauses.OwnWords.{word_below}

-- a word of a log block of the chain from a number on, which is not 0
pub record ChainPlace (o : Origin) (c : Core) (cut place : ℕ) : Type 0 where
  pub number : ℕ
  pub index : ℕ
  pub late : cut ≤ number
  pub inside : number < length c.logs
  pub small : index < q_of_origin o
  pub is : place ≡ place_in (shape o) (nth_log c.logs number).block index
  pub some : (cell c.memory place).present ≢ 0

-- the head's word is in the image
pub head_inside : (o : Origin) (c : Core) → Invariant o c → head_place < length o.words
head_inside o c inv =
    (let image = inv.sizes.image in
    let wide = image.wide in
    let whole = image.whole in
    let some : 0 < total (shape o) = inv.owners.bits.inside 0 (λ free. (let both : Header ≡ Free = sym inv.owners.bits.header ∙ free in cc)) in
    let times : 1 * q_of_origin o ≤ total (shape o) * q_of_origin o = mul-le-mul_right (q_of_origin o) (omega (arith, some)) in
    omega (arith, whole, times, wide))

-- a log block from a number on
pub drop_log : (logs : List LogBlock) (cut number : ℕ) → nth_log (drop cut logs) number ≡ nth_log logs (cut + number)
drop_log logs cut number = get_or-drop cut logs number no_log

-- of different blocks each has another number
different_logs : (logs : List LogBlock) (first second : ℕ) → all_different (log_blocks logs) ≡ true → first < second → second < length logs → (nth_log logs first).block ≢ (nth_log logs second).block
different_logs [] first second once before inside same = omega (arith, inside)
different_logs (log ∷ logs) zero zero once before inside same = omega (arith, before)
different_logs (log ∷ logs) zero (suc second) once before inside same =
    (let parts = and_parts (not (is_listed (log_blocks logs) log.block)) (all_different (log_blocks logs)) once in
    let listed : is_listed (log_blocks logs) (nth_log logs second).block ≡ true = has_log logs 0 second (omega arith) (omega (arith, inside)) in
    let none : is_listed (log_blocks logs) log.block ≡ false = not-true (is_listed (log_blocks logs) log.block) parts.0 in
    let both : true ≡ false = sym listed ∙ (ap (λ (block : ℕ). is_listed (log_blocks logs) block) (sym same) ∙ none) in cc)
different_logs (log ∷ logs) (suc first) zero once before inside same = omega (arith, before)
different_logs (log ∷ logs) (suc first) (suc second) once before inside same =
    different_logs logs first second (and_parts (not (is_listed (log_blocks logs) log.block)) (all_different (log_blocks logs)) once).1 (omega (arith, before)) (omega (arith, inside)) same

-- a later generation's first log block is no earlier one
pub cuts_rise : (o : Origin) (c : Core) → Invariant o c → (first later : ℕ) → first ≤ later → later < length c.generations → (nth_generation c.generations first).cut ≤ (nth_generation c.generations later).cut
cuts_rise o c inv first zero low inside = (let same : first ≡ 0 = omega (arith, low) in rw same (omega arith))
cuts_rise o c inv first (suc later) low inside = same_or_other first (suc later)
    (λ same. rw same (omega arith))
    (λ other. (let before = cuts_rise o c inv first later (omega (arith, low, other)) (omega (arith, inside)) in
    let step : (nth_generation c.generations later).cut ≤ (nth_generation c.generations (suc later)).cut = subst (λ (k : ℕ). (nth_generation c.generations later).cut ≤ (nth_generation c.generations k).cut) (omega arith) (inv.order.generations_rise.cuts_rise later (omega (arith, inside))) in
    omega (arith, before, step)))

module _ (o : Origin) (c : Core) (inv : Invariant o c) (place : ℕ) (kept : KeptIn o c place) where
  abbrev cut : ℕ
  cut = (nth_generation c.generations place).cut

  -- two log blocks of the chain are different blocks
  pub logs_apart : (first second : ℕ) → cut ≤ first → first < second → second < length c.logs → (nth_log c.logs first).block ≢ (nth_log c.logs second).block
  logs_apart first second low before inside same = different_logs (drop cut c.logs) (first - cut) (second - cut) once (omega (arith, low, before)) (let count = length-drop cut c.logs in omega (arith, count, low, before, inside))
      (ap (λ (log : LogBlock). log.block) (dropped first low) ∙ (same ∙ sym (ap (λ (log : LogBlock). log.block) (dropped second (omega (arith, low, before))))))
    where
      dropped : (number : ℕ) → cut ≤ number → nth_log (drop cut c.logs) (number - cut) ≡ nth_log c.logs number
      dropped number low = drop_log c.logs cut (number - cut) ∙ ap (λ (k : ℕ). nth_log c.logs k) (omega (arith, low))

      once : all_different (log_blocks (drop cut c.logs)) ≡ true
      once = back_different (nth_generation c.generations place).snapshots (log_blocks (drop cut c.logs))
          (front_different ((nth_generation c.generations place).snapshots ++ log_blocks (drop cut c.logs)) (data_names o (entries o c.history) (nth_generation c.generations place)) (inv.owners.once place kept).once)

  -- a used slot, by its number
  pub slot_present : (number k : ℕ) → cut ≤ number → number < length c.logs → k < length (nth_log c.logs number).slots → (cell c.memory (place_in (shape o) (nth_log c.logs number).block (k + 3))).present ≡ slice_index (nth_log c.logs number).slots k
  slot_present number k low inside used = ((inv.order.chains place kept number low inside).slots k (let fits = inv.order.log.inside number inside in omega (arith, used, fits)) (λ sealed. omega (arith, used))).present

  pub on_chain : (at : ℕ) → OnTrail (shape o) (drop cut c.logs) at → ChainPlace o c cut at
  on_chain at (AtSlot number k inside used is) = (let block = drop_log c.logs cut number in slot (cut + number) k (omega arith) (let count = length-drop cut c.logs in omega (arith, count, inside))
      (subst (λ (log : LogBlock). k < length log.slots) block used) (subst (λ (log : LogBlock). at ≡ place_in (shape o) log.block (k + 3)) block is))
    where
      slot : (number k : ℕ) → cut ≤ number → number < length c.logs → k < length (nth_log c.logs number).slots → at ≡ place_in (shape o) (nth_log c.logs number).block (k + 3) → ChainPlace o c cut at
      slot number k low inside used is = record {
        number = number;
        index = k + 3;
        late = low;
        inside = inside;
        small = (let fits = inv.order.log.inside number inside in omega (arith, used, fits));
        is = is;
        some = λ none. inv.order.log.used number k used (sym (slot_present number k low inside used) ∙ (ap (λ (w : ℕ). (cell c.memory w).present) (sym is) ∙ none));
      }
  on_chain at (AtLink number inside is) = (let block = drop_log c.logs cut number in link (cut + number) (omega arith) (let count = length-drop cut c.logs in omega (arith, count, inside))
      (subst (λ (log : LogBlock). at ≡ place_in (shape o) log.block 0) block is))
    where
      link : (number : ℕ) → cut ≤ number → number + 1 < length c.logs → at ≡ place_in (shape o) (nth_log c.logs number).block 0 → ChainPlace o c cut at
      link number low inside is = record {
        number = number;
        index = 0;
        late = low;
        inside = omega (arith, inside);
        small = (let wide = inv.sizes.image.wide in omega (arith, wide));
        is = is;
        some = λ none. some_block o c inv place (number + 1) kept (omega (arith, low)) inside
            (sym (inv.order.chains place kept number low (omega (arith, inside))).link.present ∙ (ap (λ (w : ℕ). (cell c.memory w).present) (sym is) ∙ none));
      }

  module _ (at : ℕ) (on : ChainPlace o c cut at) where
    -- its block
    pub chain_block : at / q_of_origin o ≡ (nth_log c.logs on.number).block
    chain_block = ap (λ (w : ℕ). w / q_of_origin o) on.is ∙ div-mul-add (nth_log c.logs on.number).block (q_of_origin o) on.index on.small

    pub chain_named : is_named o c.logs (entries o c.history) (nth_generation c.generations place) (at / q_of_origin o) ≡ true
    chain_named = ap (λ (block : ℕ). is_named o c.logs (entries o c.history) (nth_generation c.generations place) block) chain_block
        ∙ log_is_named o c.logs (nth_generation c.generations place) on.number (entries o c.history) on.late on.inside

    -- it is not in the header
    pub chain_other : at ≢ head_place
    chain_other same = some_block o c inv place on.number kept on.late on.inside
        (sym chain_block ∙ (ap (λ (w : ℕ). w / q_of_origin o) same ∙ (let wide = inv.sizes.image.wide in ap (λ (w : ℕ). w / q_of_origin o) (let e : head_place ≡ 0 * q_of_origin o + head_place = omega arith in e) ∙ div-mul-add 0 (q_of_origin o) head_place (omega (arith, wide)))))

    -- and it is in the image
    pub chain_inside : at < length o.words
    chain_inside =
        (let image = inv.sizes.image in
        let wide = image.wide in
        let whole = image.whole in
        let block : at / q_of_origin o < total (shape o) = inv.owners.bits.inside (at / q_of_origin o) (taken_some (c.owner (at / q_of_origin o)) ((inv.contents place kept).taken (at / q_of_origin o) chain_named)) in
        let low : at < total (shape o) * q_of_origin o = word_below (q_of_origin o) (total (shape o)) at (omega (arith, wide)) block in
        omega (arith, whole, low))
      where
        taken_some : (whose : Owner) → IsStillTaken whose → whose ≢ Free
        taken_some whose (inl chain) free = (let both : InChain ≡ Free = sym chain ∙ free in cc)
        taken_some whose (inr left) free = (let both : LeftTo left.0 ≡ Free = sym left.1 ∙ free in cc)
