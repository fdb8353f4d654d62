-- Log blocks with one more, or with a used slot more in the last one.
use Rattle.std.proofs.Common.{◌≡◌, ◌≢◌, ◌<◌, ◌≤◌, ◌+◌, ◌-◌, ◌==◌, if◌then◌else◌, ℕ, zero, suc, Bool, true, false, List, [], ◌∷◌, ◌++◌, length, take, drop, refl, sym, ◌∙◌, ap, subst, arith, append-nil}
use Rattle.std.proofs.lemmas.List.{length_push, get_or_append_left, get_or_push, drop-append-le, map-append}
use Rattle.log_entry.specs.declared.layouts.TheConstants.{EMPTY, SEAL}
use Rattle.log_image.specs.Image.{Shape}
use Rattle.log_image.specs.Blocks.{entry_words}
use Rattle.log_core.specs.Origin.{LogBlock, no_log}
use Rattle.log_core.specs.Cores.{nth_log, log_at, log_blocks, entries_used}
use Rattle.log_core.specs.After.{slot_added}
use Rattle.log_core.proofs.clauses.Growth.{LogLater, LogsGrow}

-- a log block that stays
pub later_same : (image : Shape) (before after : LogBlock) → after ≡ before → LogLater image before after
later_same image before after same = record {
  base = ap (λ (l : LogBlock). l.base) same;
  block = ap (λ (l : LogBlock). l.block) same;
  used = (let e = ap (λ (l : LogBlock). entries_used l) same in omega (arith, e));
  full = λ full. same;
}

-- the log block with a base stays where others follow
log_at_more : (logs more : List LogBlock) (base : ℕ) → (log_at logs base).block ≢ 0 → log_at (logs ++ more) base ≡ log_at logs base
log_at_more [] more base some = absurd (some refl)
log_at_more (log ∷ logs) more base some = go (log.base == base) some (λ rest. log_at_more logs more base rest)
  where
    go : (b : Bool) → (if b then log else log_at logs base).block ≢ 0 → ((log_at logs base).block ≢ 0 → log_at (logs ++ more) base ≡ log_at logs base) →
        (if b then log else log_at (logs ++ more) base) ≡ (if b then log else log_at logs base)
    go true some rest = refl
    go false some rest = rest some

-- one log block more
pub one_linked : (image : Shape) (logs : List LogBlock) (new : LogBlock) → LogsGrow image logs (logs ++ new ∷ []) (new.block ∷ [])
one_linked image logs new = record {
  longer = (let long = length_push logs new in omega (arith, long));
  each = λ number inside. later_same image (nth_log logs number) (nth_log (logs ++ new ∷ []) number) (get_or_append_left logs (new ∷ []) no_log number inside);
  same = λ number before. get_or_append_left logs (new ∷ []) no_log number (omega (arith, before));
  blocks = λ cut inside. ap (λ (l : List LogBlock). log_blocks l) (drop-append-le cut logs (new ∷ []) (omega (arith, inside))) ∙ map-append (λ (log : LogBlock). log.block) (drop cut logs) (new ∷ []);
  at = λ base some. later_same image (log_at logs base) (log_at (logs ++ new ∷ []) base) (log_at_more logs (new ∷ []) base some);
}

-- log blocks are those before the last one, and that
pub front_and_last : (logs : List LogBlock) → 0 < length logs → logs ≡ take (length logs - 1) logs ++ nth_log logs (length logs - 1) ∷ []
front_and_last [] some = absurd (omega (arith, some))
front_and_last (log ∷ []) some = refl
front_and_last (log ∷ next ∷ logs) some = (let here : length (log ∷ next ∷ logs) - 1 ≡ suc (length (next ∷ logs) - 1) = omega arith in
    subst (λ (k : ℕ). log ∷ next ∷ logs ≡ take k (log ∷ next ∷ logs) ++ nth_log (log ∷ next ∷ logs) k ∷ []) (sym here)
    (ap (λ (l : List LogBlock). log ∷ l) (front_and_last (next ∷ logs) (omega arith))))

pub added_last : (front : List LogBlock) (last : LogBlock) (slot : ℕ) → slot_added (front ++ last ∷ []) slot ≡ front ++ record last { slots = last.slots ++ slot ∷ [] } ∷ []
added_last [] last slot = refl
added_last (log ∷ []) last slot = refl
added_last (log ∷ next ∷ front) last slot = ap (λ (l : List LogBlock). log ∷ l) (added_last (next ∷ front) last slot)

-- another last log block, which is later
module _ (image : Shape) (last other : LogBlock) (later : LogLater image last other) where
  each_later : (front : List LogBlock) (number : ℕ) → LogLater image (nth_log (front ++ last ∷ []) number) (nth_log (front ++ other ∷ []) number)
  each_later [] zero = later
  each_later [] (suc number) = later_same image no_log no_log refl
  each_later (log ∷ front) zero = later_same image log log refl
  each_later (log ∷ front) (suc number) = each_later front number

  at_later : (front : List LogBlock) (base : ℕ) → LogLater image (log_at (front ++ last ∷ []) base) (log_at (front ++ other ∷ []) base)
  at_later [] base = subst (λ (b : ℕ). LogLater image (if last.base == base then last else no_log) (if b == base then other else no_log)) (sym later.base) (go (last.base == base))
    where
      go : (b : Bool) → LogLater image (if b then last else no_log) (if b then other else no_log)
      go true = later
      go false = later_same image no_log no_log refl
  at_later (log ∷ front) base = go (log.base == base) (at_later front base)
    where
      go : (b : Bool) → LogLater image (log_at (front ++ last ∷ []) base) (log_at (front ++ other ∷ []) base) →
          LogLater image (if b then log else log_at (front ++ last ∷ []) base) (if b then log else log_at (front ++ other ∷ []) base)
      go true rest = later_same image log log refl
      go false rest = rest

  front_stays : (front : List LogBlock) (number : ℕ) → number + 1 < length (front ++ last ∷ []) → nth_log (front ++ other ∷ []) number ≡ nth_log (front ++ last ∷ []) number
  front_stays front number before = (let long = length_push front last in
      get_or_append_left front (other ∷ []) no_log number (omega (arith, before, long)) ∙ sym (get_or_append_left front (last ∷ []) no_log number (omega (arith, before, long))))

  blocks_stay : (front : List LogBlock) (cut : ℕ) → cut < length (front ++ last ∷ []) → log_blocks (drop cut (front ++ other ∷ [])) ≡ log_blocks (drop cut (front ++ last ∷ []))
  blocks_stay front cut inside = (let long = length_push front last in let low : cut ≤ length front = omega (arith, inside, long) in
      ap (λ (l : List LogBlock). log_blocks l) (drop-append-le cut front (other ∷ []) low)
      ∙ (map-append (λ (log : LogBlock). log.block) (drop cut front) (other ∷ [])
      ∙ (ap (λ (b : ℕ). log_blocks (drop cut front) ++ b ∷ []) later.block
      ∙ (sym (map-append (λ (log : LogBlock). log.block) (drop cut front) (last ∷ [])) ∙ ap (λ (l : List LogBlock). log_blocks l) (sym (drop-append-le cut front (last ∷ []) low))))))

  last_changes : (front : List LogBlock) → LogsGrow image (front ++ last ∷ []) (front ++ other ∷ []) []
  last_changes front = record {
    longer = (let first = length_push front last in let second = length_push front other in omega (arith, first, second));
    each = λ number inside. each_later front number;
    same = λ number before. front_stays front number before;
    blocks = λ cut inside. blocks_stay front cut inside ∙ sym (append-nil (log_blocks (drop cut (front ++ last ∷ []))));
    at = λ base some. at_later front base;
  }

-- a used slot more in the last log block
module _ (image : Shape) (logs : List LogBlock) (some : 0 < length logs) (slot : ℕ) where
  abbrev last : LogBlock
  last = nth_log logs (length logs - 1)

  -- the last log block with the slot
  abbrev pub more_used : LogBlock
  more_used = record last { slots = last.slots ++ slot ∷ [] }

  abbrev front : List LogBlock
  front = take (length logs - 1) logs

  -- the log blocks then
  pub added_is : slot_added logs slot ≡ front ++ more_used ∷ []
  added_is = ap (λ (l : List LogBlock). slot_added l slot) (front_and_last logs some) ∙ added_last front last slot

  pub added_long : length (slot_added logs slot) ≡ length logs
  added_long = ap (λ (l : List LogBlock). length l) added_is ∙ (length_push front more_used ∙ (sym (length_push front last) ∙ ap (λ (l : List LogBlock). length l) (sym (front_and_last logs some))))

  front_long : length front ≡ length logs - 1
  front_long = (let long = ap (λ (l : List LogBlock). length l) (front_and_last logs some) in let more = length_push front last in omega (arith, long, more))

  pub last_added : nth_log (slot_added logs slot) (length logs - 1) ≡ more_used
  last_added = ap (λ (l : List LogBlock). nth_log l (length logs - 1)) added_is ∙ get_or_push front more_used no_log (length logs - 1) front_long

  -- so they grow
  pub one_used : LogLater image last more_used → LogsGrow image logs (slot_added logs slot) []
  one_used later = subst (λ (after : List LogBlock). LogsGrow image logs after []) (sym added_is)
      (subst (λ (before : List LogBlock). LogsGrow image before (front ++ more_used ∷ []) []) (sym (front_and_last logs some)) (last_changes image last more_used later front))

-- the entries among used slots, where all of them are entries
pub entries_more : (slots : List ℕ) (slot : ℕ) → length (entry_words slots) ≡ length slots → length (entry_words (slots ++ slot ∷ [])) ≡ length slots + length (entry_words (slot ∷ []))
entries_more [] slot all = omega arith
entries_more (first ∷ slots) slot all = go (first == EMPTY) (first == SEAL) all (entries_more slots slot)
  where
    go : (empty seal : Bool) → length (if empty then [] else if seal then [] else first ∷ entry_words slots) ≡ suc (length slots) →
        (length (entry_words slots) ≡ length slots → length (entry_words (slots ++ slot ∷ [])) ≡ length slots + length (entry_words (slot ∷ []))) →
        length (if empty then [] else if seal then [] else first ∷ entry_words (slots ++ slot ∷ [])) ≡ suc (length slots) + length (entry_words (slot ∷ []))
    go true seal all rest = absurd (omega (arith, all))
    go false true all rest = absurd (omega (arith, all))
    go false false all rest = (let more = rest (omega (arith, all)) in omega (arith, more))
