-- Log blocks by their bases: these rise; and a walk whose tail is found 0 is at the end.
use Rattle.std.proofs.Common.{◌≡◌, ◌≢◌, inl, inr, ◌<◌, ◌≤◌, ◌+◌, ◌-◌, ◌==◌, ◌||◌, nat_lt, ℕ, zero, suc, Bool, true, false, if◌then◌else◌, List, [], ◌∷◌, length, refl, sym, ◌∙◌, ap, subst, arith, slice_index}
use Rattle.std.proofs.lemmas.Bool.{ltb-true, ltb-false, eqb-true, eqb-false, eq-eqb, ne_eqb, or_from, or_right}
use Rattle.log_entry.specs.declared.layouts.TheConstants.{EMPTY, SEAL}
use Rattle.log_image.specs.Image.{words_in}
use Rattle.log_image.specs.Blocks.{entry_words}
use Rattle.pmem_words.specs.Seats.{Walk}
use Rattle.persistence.specs.Memory.{cell}
use Rattle.log_core.specs.Entries.{place_in}
use Rattle.log_core.specs.Origin.{Origin, shape, Header, InChain, LogBlock}
use Rattle.log_core.specs.Files.{entries, end_of}
use Rattle.log_core.specs.Cores.{Core, nth_log, log_at, number_at, entries_used, is_sealed, is_full}
use Rattle.log_core.specs.Order.{nth_generation}
use Rattle.log_core.specs.Contents.{IsStillTaken}
use Rattle.log_core.specs.Walks.{HasWalked}
use Rattle.log_core.specs.Certain.{IsGrowing}
use Rattle.log_core.specs.Invariant.{Invariant, KeptIn}
use Rattle.log_core.proofs.clauses.Apart.{log_is_named}
use Rattle.log_core.proofs.clauses.OneView.{same_or_other}

-- the log block with a base stands at its number, where there is one
pub log_found : (logs : List LogBlock) (base : ℕ) → (log_at logs base).block ≢ 0 → (number_at logs base < length logs) × (nth_log logs (number_at logs base) ≡ log_at logs base)
log_found [] base some = absurd (some refl)
log_found (log ∷ logs) base some = go (log.base == base) some (log_found logs base)
  where
    go : (same : Bool) → (if same then log else log_at logs base).block ≢ 0 → ((log_at logs base).block ≢ 0 → (number_at logs base < length logs) × (nth_log logs (number_at logs base) ≡ log_at logs base)) →
        ((if same then 0 else 1 + number_at logs base) < suc (length logs)) × (nth_log (log ∷ logs) (if same then 0 else 1 + number_at logs base) ≡ (if same then log else log_at logs base))
    go true some rest = (omega arith, refl)
    go false some rest = (let r = rest some in (
      (let low = r.0 in omega (arith, low)),
      subst (λ (k : ℕ). nth_log (log ∷ logs) k ≡ log_at logs base) (let e : suc (number_at logs base) ≡ 1 + number_at logs base = omega arith in e) r.1,
    ))

-- the log block of a number is the one with its base, where no earlier one has that
pub log_at_base : (logs : List LogBlock) (number : ℕ) → number < length logs → ((other : ℕ) → other < number → (nth_log logs other).base ≢ (nth_log logs number).base) → log_at logs (nth_log logs number).base ≡ nth_log logs number
log_at_base [] number inside apart = absurd (omega (arith, inside))
log_at_base (log ∷ logs) zero inside apart = rw (eq-eqb log.base log.base refl) refl
log_at_base (log ∷ logs) (suc number) inside apart = rw (ne_eqb log.base (nth_log logs number).base (apart 0 (omega arith)))
    (log_at_base logs number (omega (arith, inside)) (λ other less. apart (suc other) (omega (arith, less))))

-- and its number is the one of that base
pub number_at_base : (logs : List LogBlock) (number : ℕ) → number < length logs → ((other : ℕ) → other < number → (nth_log logs other).base ≢ (nth_log logs number).base) → number_at logs (nth_log logs number).base ≡ number
number_at_base [] number inside apart = absurd (omega (arith, inside))
number_at_base (log ∷ logs) zero inside apart = rw (eq-eqb log.base log.base refl) refl
number_at_base (log ∷ logs) (suc number) inside apart = rw (ne_eqb log.base (nth_log logs number).base (apart 0 (omega arith)))
    (let rest = number_at_base logs number (omega (arith, inside)) (λ other less. apart (suc other) (omega (arith, less))) in omega (arith, rest))

-- used slots have no more entries than they are; where each is one, none is a seal; and the first is one, where it is neither empty nor a seal
pub entries_short : (slots : List ℕ) → length (entry_words slots) ≤ length slots
entries_short [] = omega arith
entries_short (slot ∷ slots) = go (slot == EMPTY) (slot == SEAL) (entries_short slots)
  where
    go : (empty seal : Bool) → length (entry_words slots) ≤ length slots → length (if empty then [] else if seal then [] else slot ∷ entry_words slots) ≤ suc (length slots)
    go true seal rest = omega arith
    go false true rest = omega arith
    go false false rest = omega (arith, rest)

pub unsealed : (slots : List ℕ) → length (entry_words slots) ≡ length slots → is_sealed slots ≡ false
unsealed [] all = refl
unsealed (slot ∷ slots) all = go (slot == EMPTY) (slot == SEAL) all (unsealed slots)
  where
    go : (empty seal : Bool) → length (if empty then [] else if seal then [] else slot ∷ entry_words slots) ≡ suc (length slots) → (length (entry_words slots) ≡ length slots → is_sealed slots ≡ false) → (seal || is_sealed slots) ≡ false
    go true seal all rest = absurd (omega (arith, all))
    go false true all rest = absurd (omega (arith, all))
    go false false all rest = rest (omega (arith, all))

first_entry : (slots : List ℕ) → 0 < length slots → slice_index slots 0 ≢ EMPTY → slice_index slots 0 ≢ SEAL → 0 < length (entry_words slots)
first_entry [] some used other = absurd (omega (arith, some))
first_entry (slot ∷ slots) some used other = rw (ne_eqb slot EMPTY used, ne_eqb slot SEAL other) (omega arith)

-- a slot in use that is no seal is an entry, where those before it are
pub entry_counts : (slots : List ℕ) (k : ℕ) → k ≤ length (entry_words slots) → slice_index slots k ≢ EMPTY → slice_index slots k ≢ SEAL → k < length (entry_words slots)
entry_counts [] k few used other = absurd (used refl)
entry_counts (slot ∷ slots) zero few used other = rw (ne_eqb slot EMPTY used, ne_eqb slot SEAL other) (omega arith)
entry_counts (slot ∷ slots) (suc k) few used other = go (slot == EMPTY) (slot == SEAL) few (λ less. entry_counts slots k less used other)
  where
    go : (empty seal : Bool) → suc k ≤ length (if empty then [] else if seal then [] else slot ∷ entry_words slots) → (k ≤ length (entry_words slots) → k < length (entry_words slots)) →
        suc k < length (if empty then [] else if seal then [] else slot ∷ entry_words slots)
    go true seal less rest = absurd (omega (arith, less))
    go false true less rest = absurd (omega (arith, less))
    go false false less rest = (let more = rest (omega (arith, less)) in omega (arith, more))

-- a seal among used slots
pub sealed_at : (slots : List ℕ) (k : ℕ) → slice_index slots k ≡ SEAL → is_sealed slots ≡ true
sealed_at [] k is = cc
sealed_at (slot ∷ slots) zero is = rw (eq-eqb slot SEAL is) refl
sealed_at (slot ∷ slots) (suc k) is = or_right (slot == SEAL) (is_sealed slots) (sealed_at slots k is)

-- where a seal is used, not every used slot is an entry
pub sealed_short : (slots : List ℕ) → is_sealed slots ≡ true → length (entry_words slots) < length slots
sealed_short slots sealed = go (length (entry_words slots) == length slots) refl
  where
    go : (b : Bool) → (length (entry_words slots) == length slots) ≡ b → length (entry_words slots) < length slots
    go true e = (let both : false ≡ true = sym (unsealed slots (eqb-true (length (entry_words slots)) (length slots) e)) ∙ sealed in cc)
    go false e = (let other = eqb-false (length (entry_words slots)) (length slots) e in let short = entries_short slots in omega (arith, other, short))

module _ (o : Origin) (c : Core) (inv : Invariant o c) where
  abbrev nth : ℕ → LogBlock
  nth number = nth_log c.logs number

  pub some_slot : (slots : List ℕ) → is_full (shape o) slots ≡ true → 0 < length slots
  some_slot [] full = (let wide = inv.sizes.image.wide in let none : (3 == words_in (shape o)) ≡ false = ne_eqb 3 (words_in (shape o)) (λ e. omega (arith, e, wide)) in absurd (false_is_true (sym none ∙ full)))
    where
      false_is_true : false ≡ true → ⊥
      false_is_true e = cc
  some_slot (slot ∷ slots) full = omega arith

  -- a log block that another one follows has an entry, so the next base is greater
  next_rises : (number : ℕ) → number + 1 < length c.logs → (nth number).base < (nth (number + 1)).base
  next_rises number less =
      (let some = some_slot (nth number).slots (inv.order.log.full number less) in
      let used = first_entry (nth number).slots some (inv.order.log.used number 0 some) (λ seal. (let late = (inv.order.log.seal_last number 0 seal).1 in omega (arith, late))) in
      let next = inv.order.log.next number less in
      omega (arith, used, next))

  pub bases_rise : (later number : ℕ) → number < later → later < length c.logs → (nth number).base < (nth later).base
  bases_rise zero number less inside = absurd (omega (arith, less))
  bases_rise (suc later) number less inside =
      (let step : (nth later).base < (nth (suc later)).base = subst (λ (k : ℕ). (nth later).base < (nth k).base) (omega arith) (next_rises later (omega (arith, inside))) in
      same_or_other number later
      (λ same. subst (λ (k : ℕ). (nth k).base < (nth (suc later)).base) (sym same) step)
      (λ other. (let rest = bases_rise later number (omega (arith, less, other)) (omega (arith, inside)) in omega (arith, rest, step))))

  -- a log block whose base is not less than another one's does not come before it
  pub not_before : (number other : ℕ) → number < length c.logs → other < length c.logs → (nth other).base ≤ (nth number).base → other ≤ number
  not_before number other here there low = go (nat_lt number other) refl
    where
      go : (b : Bool) → nat_lt number other ≡ b → other ≤ number
      go true e = (let rise = bases_rise other number (ltb-true number other e) there in absurd (omega (arith, rise, low)))
      go false e = (let late = ltb-false number other e in omega (arith, late))

  -- so it is the one with its base
  pub log_again : (number : ℕ) → number < length c.logs → log_at c.logs (nth number).base ≡ nth number
  log_again number inside = log_at_base c.logs number inside (λ other less same. (let rise = bases_rise number other less inside in omega (arith, rise, same)))

  pub number_again : (number : ℕ) → number < length c.logs → number_at c.logs (nth number).base ≡ number
  number_again number inside = number_at_base c.logs number inside (λ other less same. (let rise = bases_rise number other less inside in omega (arith, rise, same)))

  -- no entry of a log block is past the end
  pub log_to_end : (number : ℕ) → number < length c.logs → (nth number).base + entries_used (nth number) ≤ end_of o c.history
  log_to_end number inside = go (nat_lt (number + 1) (length c.logs)) refl
    where
      go : (b : Bool) → nat_lt (number + 1) (length c.logs) ≡ b → (nth number).base + entries_used (nth number) ≤ end_of o c.history
      go false e = (let late = ltb-false (number + 1) (length c.logs) e in
          let ends = inv.order.log.last in
          let same : number ≡ length c.logs - 1 = omega (arith, late, inside) in
          subst (λ (k : ℕ). (nth k).base + entries_used (nth k) ≤ end_of o c.history) (sym same) (omega (arith, ends)))
      go true e = (let next = inv.order.log.next number (ltb-true (number + 1) (length c.logs) e) in
          let less = ltb-true (number + 1) (length c.logs) e in
          let ends = inv.order.log.last in
          same_or_other (number + 1) (length c.logs - 1)
          (λ same. (let base = ap (λ (k : ℕ). (nth k).base) same in omega (arith, next, ends, base)))
          (λ other. (let rise = bases_rise (length c.logs - 1) (number + 1) (omega (arith, less, other)) (omega (arith, less)) in omega (arith, next, ends, rise))))

  -- a log block of a kept generation's chain is not the header's
  pub some_block : (place number : ℕ) → KeptIn o c place → (nth_generation c.generations place).cut ≤ number → number < length c.logs → (nth number).block ≢ 0
  some_block place number kept low inside none =
      (let taken = (inv.contents place kept).taken (nth number).block (log_is_named o c.logs (nth_generation c.generations place) number (entries o c.history) low inside) in
      no_header (subst (λ (whose : Rattle.log_core.specs.Origin.Owner). IsStillTaken whose) (ap c.owner none ∙ inv.owners.bits.header) taken))
    where
      no_header : IsStillTaken Header → ⊥
      no_header (inl chain) = cc
      no_header (inr left) = (let e = left.1 in cc)

  module _ (place number : ℕ) (kept : KeptIn o c place) (low : (nth_generation c.generations place).cut ≤ number) (inside : number < length c.logs) where
    -- the last log block's entries end at the end
    pub last_end : number + 1 ≡ length c.logs → (nth number).base + entries_used (nth number) ≡ end_of o c.history
    last_end last = subst (λ (k : ℕ). (nth k).base + entries_used (nth k) ≡ end_of o c.history) (omega (arith, last)) inv.order.log.last

    -- a slot that is found empty, and that no entry of the block comes after, is behind the used slots of the last log block, none of them a seal
    pub first_empty : (k : ℕ) → k + 3 < words_in (shape o) → k ≤ entries_used (nth number) → (cell c.memory (place_in (shape o) (nth number).block (k + 3))).present ≡ 0 →
        (number + 1 ≡ length c.logs) × (length (nth number).slots ≡ k) × (entries_used (nth number) ≡ k)
    first_empty k within few empty =
        (let short = entries_short (nth number).slots in
        let grows : IsGrowing (cell c.memory (place_in (shape o) (nth number).block (k + 3))) (slice_index (nth number).slots k) =
        (inv.order.chains place kept number low inside).slots k within (λ sealed. omega (arith, few, short)) in
        let all : length (nth number).slots ≤ k = past k (sym grows.present ∙ empty) in
        let used : length (entry_words (nth number).slots) ≡ length (nth number).slots = omega (arith, short, few, all) in (
          last used (omega (arith, few, all, short)) (nat_lt (number + 1) (length c.logs)) refl,
          omega (arith, few, all, short),
          omega (arith, used, few, all, short),
        ))
      where
        past : (k : ℕ) → slice_index (nth number).slots k ≡ 0 → length (nth number).slots ≤ k
        past k none = go (nat_lt k (length (nth number).slots)) refl
          where
            go : (b : Bool) → nat_lt k (length (nth number).slots) ≡ b → length (nth number).slots ≤ k
            go true e = absurd (inv.order.log.used number k (ltb-true k (length (nth number).slots) e) none)
            go false e = (let late = ltb-false k (length (nth number).slots) e in omega (arith, late))

        last : length (entry_words (nth number).slots) ≡ length (nth number).slots → length (nth number).slots ≡ k → (b : Bool) → nat_lt (number + 1) (length c.logs) ≡ b → number + 1 ≡ length c.logs
        last used same false e = (let late = ltb-false (number + 1) (length c.logs) e in omega (arith, late, inside))
        last used same true e =
            (let more : is_full (shape o) (nth number).slots ≡ false = or_from (is_sealed (nth number).slots) (length (nth number).slots + 3 == words_in (shape o))
            (unsealed (nth number).slots used) (ne_eqb (length (nth number).slots + 3) (words_in (shape o)) (λ full. omega (arith, full, same, within))) in
            let both : false ≡ true = sym more ∙ inv.order.log.full number (ltb-true (number + 1) (length c.logs) e) in cc)

    -- so it is at the end
    pub empty_slot : (k : ℕ) → k + 3 < words_in (shape o) → k ≤ entries_used (nth number) → (cell c.memory (place_in (shape o) (nth number).block (k + 3))).present ≡ 0 → (nth number).base + k ≡ end_of o c.history
    empty_slot k within few empty = (let r = first_empty k within few empty in let ends = last_end r.0 in let used = r.2 in omega (arith, ends, used))

    -- a block's link that is found 0 is the last one's
    pub last_link : (cell c.memory (place_in (shape o) (nth number).block 0)).present ≡ 0 → number + 1 ≡ length c.logs
    last_link empty = go (nat_lt (number + 1) (length c.logs)) refl
      where
        go : (b : Bool) → nat_lt (number + 1) (length c.logs) ≡ b → number + 1 ≡ length c.logs
        go false e = (let late = ltb-false (number + 1) (length c.logs) e in omega (arith, late, inside))
        go true e =
            (let next : number + 1 < length c.logs = ltb-true (number + 1) (length c.logs) e in
            let zero_block : (nth (number + 1)).block ≡ 0 = sym (inv.order.chains place kept number low inside).link.present ∙ empty in
            absurd (some_block place (number + 1) kept (omega (arith, low)) next zero_block))

    -- so it is at the end
    pub empty_link : (cell c.memory (place_in (shape o) (nth number).block 0)).present ≡ 0 → (nth number).base + entries_used (nth number) ≡ end_of o c.history
    empty_link empty = last_end (last_link empty)

-- the log block of a walk's tail, by its number
pub record TailLog (c : Core) (w : Walk) (cut : ℕ) : Type 0 where
  pub inside : number_at c.logs w.tail_base < length c.logs
  pub late : cut ≤ number_at c.logs w.tail_base
  pub log_is : nth_log c.logs (number_at c.logs w.tail_base) ≡ log_at c.logs w.tail_base
  pub base_is : (nth_log c.logs (number_at c.logs w.tail_base)).base ≡ w.tail_base
  pub block_is : (nth_log c.logs (number_at c.logs w.tail_base)).block ≡ w.tail_block

-- a view that is ready stands in the chain of a kept generation
pub tail_log : (o : Origin) (c : Core) (inv : Invariant o c) (place : ℕ) (w : Walk) → KeptIn o c place → w.tail_block ≢ 0 → HasWalked o (entries o c.history) c.logs w →
    w.snapshot_base ≡ (nth_generation c.generations place).base → w.snapshot_base ≤ w.tail_base → TailLog c w (nth_generation c.generations place).cut
tail_log o c inv place w kept some walked base low =
    (let there = log_found c.logs w.tail_base (λ none. some (sym walked.block ∙ none)) in
    let cut_base = inv.order.generations_rise.cut_base place kept.inside in
    let number_base : (nth_log c.logs (number_at c.logs w.tail_base)).base ≡ w.tail_base = ap (λ (log : LogBlock). log.base) there.1 ∙ walked.base in
    record {
      inside = there.0;
      late = not_before o c inv (number_at c.logs w.tail_base) (nth_generation c.generations place).cut there.0 (inv.order.generations_rise.cut_inside place kept.inside) (omega (arith, low, base, cut_base, number_base));
      log_is = there.1;
      base_is = number_base;
      block_is = ap (λ (log : LogBlock). log.block) there.1 ∙ walked.block;
    })
