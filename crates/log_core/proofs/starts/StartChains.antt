-- The log blocks of a start stand in the image, and all of its log is synced.
use Rattle.std.proofs.Common.{◌≡◌, ◌⊎◌, ℕ, zero, suc, ◌+◌, ◌^◌, ◌<◌, ◌≤◌, true, false, List, [], ◌∷◌, length, get_or, sym, ap, ◌∙◌, subst, arith, inl, inr}
use Rattle.std.proofs.lemmas.Bool.{cases_lt, false≢true, eqb-true, cases_Bool}
use Rattle.std.proofs.lemmas.List.{get_or_past}
use Rattle.log_entry.specs.Fields.{field}
use Rattle.log_entry.specs.Words.{block_word}
use Rattle.log_entry.specs.declared.layouts.TheConstants.{BLOCK_UNNAMED}
use Rattle.log_entry.specs.declared.words.BlockKind.TheVariants.{Log}
use Rattle.log_image.specs.Image.{words_in}
use Rattle.log_image.specs.Blocks.{base_of, is_closed, link_of, leads_on}
use Rattle.persistence.specs.Memory.{cell}
use Rattle.log_core.specs.Entries.{place_in}
use Rattle.log_core.specs.Views.{View}
use Rattle.log_core.specs.Origin.{Origin, shape, LogBlock, no_log, log_block, used_slots, first_recorded, first_logs, first_memory, first_position, start_generation}
use Rattle.log_core.specs.Cores.{nth_log, is_sealed, IsKept}
use Rattle.log_core.specs.Certain.{IsCertain, IsGrowing}
use Rattle.log_core.specs.Order.{LogStands, LogsStand, ChainsStand}
use Rattle.log_core.specs.Synced.{IsSynced}
use Rattle.log_core.proofs.starts.StartFacts.{Facts}
use Rattle.log_core.proofs.starts.StartSlots.{used_front, closed_full, after_used}
use Rattle.log_core.proofs.starts.StartWords.{log_back}
use Rattle.log_core.proofs.starts.StartOrder.{start_log}
use Rattle.log_core.proofs.starts.StartLogs.{certain_at, growing_at, blocks, block_at, slots_at, chained, nth, many, word_of, slot_of, area_at, kind_at, log_at, seal_at, third_at, leads_closed, ends_unlinked, final, open_link, open_slot, slots_long}

module _ (o : Origin) (s : Facts o) where
  -- an open block is the last
  open_last : (number : ℕ) → number < length (blocks o s) → is_closed (slots_at o s number) ≡ false → number ≡ final o s
  open_last number inside opens = go (cases_lt (number + 1) (length (blocks o s)))
    where
      go : (number + 1 < length (blocks o s)) ⊎ (length (blocks o s) ≤ number + 1) → number ≡ final o s
      go (inl more) = absurd (false≢true (sym opens ∙ leads_closed o s number inside ((chained o s).leads number more).0))
      go (inr none) = omega (arith, inside, none)

  -- a slot behind the used ones is empty; behind a seal the first one
  behind_used : (number k : ℕ) → number < length (blocks o s) → k + 3 < words_in (shape o) → (is_sealed (used_slots (slots_at o s number)) ≡ true → k ≤ length (used_slots (slots_at o s number))) →
      length (used_slots (slots_at o s number)) ≤ k → get_or o.words (place_in (shape o) (block_at o s number) (k + 3)) 0 ≡ 0
  behind_used number k inside room near past = go (cases_lt (length (used_slots (slots_at o s number))) k)
    where
      at_end : length (used_slots (slots_at o s number)) ≡ k → get_or o.words (place_in (shape o) (block_at o s number) (k + 3)) 0 ≡ 0
      at_end same = slot_of o s (block_at o s number) k room ∙ ap (λ (i : ℕ). get_or (slots_at o s number) i 0) (sym same) ∙ after_used (slots_at o s number) (seal_at o s number inside)

      beyond : length (used_slots (slots_at o s number)) < k → (is_closed (slots_at o s number) ≡ true) ⊎ (is_closed (slots_at o s number) ≡ false) → get_or o.words (place_in (shape o) (block_at o s number) (k + 3)) 0 ≡ 0
      beyond more (inl closed) = full (closed_full (slots_at o s number) closed)
        where
          full : (is_sealed (used_slots (slots_at o s number)) ≡ true) ⊎ (length (used_slots (slots_at o s number)) ≡ length (slots_at o s number)) → get_or o.words (place_in (shape o) (block_at o s number) (k + 3)) 0 ≡ 0
          full (inl sealed) = absurd (omega (arith, near sealed, more))
          full (inr all) = absurd (omega (arith, all, more, room, slots_long o s (block_at o s number) (area_at o s number inside)))
      beyond more (inr opens) =
          subst (λ (n : ℕ). length (used_slots (slots_at o s n)) < k → get_or o.words (place_in (shape o) (block_at o s n) (k + 3)) 0 ≡ 0) (sym (open_last number inside opens))
          (λ after. open_slot o s (subst (λ (n : ℕ). is_closed (slots_at o s n) ≡ false) (open_last number inside opens) opens) k after room) more

      go : (length (used_slots (slots_at o s number)) < k) ⊎ (k ≤ length (used_slots (slots_at o s number))) → get_or o.words (place_in (shape o) (block_at o s number) (k + 3)) 0 ≡ 0
      go (inl more) = beyond more (cases_Bool (is_closed (slots_at o s number)))
      go (inr within) = at_end (omega (arith, past, within))

  slot_is : (number k : ℕ) → number < length (blocks o s) → k + 3 < words_in (shape o) → (is_sealed (used_slots (slots_at o s number)) ≡ true → k ≤ length (used_slots (slots_at o s number))) →
      get_or o.words (place_in (shape o) (block_at o s number) (k + 3)) 0 ≡ get_or (used_slots (slots_at o s number)) k 0
  slot_is number k inside room near = go (cases_lt k (length (used_slots (slots_at o s number))))
    where
      go : (k < length (used_slots (slots_at o s number))) ⊎ (length (used_slots (slots_at o s number)) ≤ k) → get_or o.words (place_in (shape o) (block_at o s number) (k + 3)) 0 ≡ get_or (used_slots (slots_at o s number)) k 0
      go (inl used) = slot_of o s (block_at o s number) k room ∙ (used_front (slots_at o s number) k used).0
      go (inr past) = behind_used number k inside room near past ∙ sym (get_or_past (used_slots (slots_at o s number)) k 0 past)

  link_is : (number : ℕ) → number < length (blocks o s) → get_or o.words (place_in (shape o) (block_at o s number) 0) 0 ≡ (nth_log (first_logs o) (number + 1)).block
  link_is number inside = go (cases_lt (number + 1) (length (blocks o s)))
    where
      from_word : get_or o.words (place_in (shape o) (block_at o s number) 0) 0 ≡ link_of (first_recorded o (block_at o s number))
      from_word = word_of o s (block_at o s number) 0 (omega (arith, s.wide))

      ends : number + 1 ≡ length (blocks o s) → (is_closed (slots_at o s number) ≡ true) ⊎ (is_closed (slots_at o s number) ≡ false) → get_or o.words (place_in (shape o) (block_at o s number) 0) 0 ≡ 0
      ends last (inl closed) =
          from_word ∙ ends_unlinked o s number (subst (λ (n : ℕ). leads_on (first_recorded o (block_at o s n)) ≡ false) (omega (arith, last)) (chained o s).ends) closed
      ends last (inr opens) =
          subst (λ (n : ℕ). get_or o.words (place_in (shape o) (block_at o s n) 0) 0 ≡ 0) (sym (open_last number inside opens))
          (open_link o s (subst (λ (n : ℕ). is_closed (slots_at o s n) ≡ false) (open_last number inside opens) opens))

      go : (number + 1 < length (blocks o s)) ⊎ (length (blocks o s) ≤ number + 1) → get_or o.words (place_in (shape o) (block_at o s number) 0) 0 ≡ (nth_log (first_logs o) (number + 1)).block
      go (inl more) = from_word ∙ ((chained o s).leads number more).1 ∙ sym (ap (λ (l : LogBlock). l.block) (nth o s (number + 1) more))
      go (inr none) =
          ends (omega (arith, inside, none)) (cases_Bool (is_closed (slots_at o s number)))
          ∙ sym (ap (λ (l : LogBlock). l.block) (get_or_past (first_logs o) (number + 1) no_log (omega (arith, none, many o s))))

  block_stands : (number : ℕ) → number < length (blocks o s) → LogStands (shape o) (λ word. cell (first_memory o) word) (log_block (block_at o s number) (first_recorded o (block_at o s number))) (nth_log (first_logs o) (number + 1)).block
  block_stands number inside = record {
    base = certain_at o (place_in (shape o) (block_at o s number) 1) (block_word (record { kind = Log; base = base_of (first_recorded o (block_at o s number)) })) second;
    zero = certain_at o (place_in (shape o) (block_at o s number) 2) 0 (word_of o s (block_at o s number) 2 (omega (arith, s.wide)) ∙ third_at o s number inside);
    link = growing_at o (place_in (shape o) (block_at o s number) 0) (nth_log (first_logs o) (number + 1)).block (link_is number inside);
    slots = λ k room near. growing_at o (place_in (shape o) (block_at o s number) (k + 3)) (get_or (used_slots (slots_at o s number)) k 0) (slot_is number k inside room near);
  }
    where
      word : get_or o.words (place_in (shape o) (block_at o s number) 1) 0 ≡ get_or (first_recorded o (block_at o s number)) 1 0
      word = word_of o s (block_at o s number) 1 (omega (arith, s.wide))

      second : get_or o.words (place_in (shape o) (block_at o s number) 1) 0 ≡ block_word (record { kind = Log; base = base_of (first_recorded o (block_at o s number)) })
      second = word ∙ log_back (get_or (first_recorded o (block_at o s number)) 1 0) (subst (λ (w : ℕ). w < 2 ^ 64) word (s.small (place_in (shape o) (block_at o s number) 1)))
          (eqb-true (field BLOCK_UNNAMED (get_or (first_recorded o (block_at o s number)) 1 0)) 0 (kind_at o s number inside))
          (log_at o s number inside).0

  pub logs_stand : LogsStand (shape o) (λ word. cell (first_memory o) word) (first_logs o) 0
  logs_stand number from before =
      let inside : number < length (blocks o s) = omega (arith, before, many o s) in
      subst (λ (l : LogBlock). LogStands (shape o) (λ word. cell (first_memory o) word) l (nth_log (first_logs o) (number + 1)).block) (sym (nth o s number inside)) (block_stands number inside)

  pub start_chains : (floor : ℕ) (views : List View) → ChainsStand (shape o) (λ word. cell (first_memory o) word) (first_logs o) (start_generation o ∷ []) (λ place. IsKept o (start_generation o ∷ []) floor views place)
  start_chains floor views zero kept = logs_stand
  start_chains floor views (suc place) kept = absurd (omega (arith, kept.inside))

  -- where a word has had one value, a growing one is certain
  sure : (place value : ℕ) → IsGrowing (cell (first_memory o) place) value → IsCertain (cell (first_memory o) place) value
  sure place value grows = record { present = grows.present; before = λ k from to. absurd (omega (arith, to)) }

  pub start_synced : (floor : ℕ) → IsSynced (shape o) (λ word. cell (first_memory o) word) (start_generation o ∷ []) (first_logs o) floor (first_position o)
  start_synced floor (suc place) number from inside cut before = absurd (omega (arith, inside))
  start_synced floor zero number from inside cut before =
      let stands : LogStands (shape o) (λ word. cell (first_memory o) word) (nth_log (first_logs o) number) (nth_log (first_logs o) (number + 1)).block = logs_stand number (omega arith) before in
      record {
        slots = λ k used synced. sure (place_in (shape o) (nth_log (first_logs o) number).block (k + 3)) (get_or (nth_log (first_logs o) number).slots k 0) (stands.slots k (room number k before used) (λ sealed. omega (arith, used)));
        link = λ linked synced. sure (place_in (shape o) (nth_log (first_logs o) number).block 0) (nth_log (first_logs o) (number + 1)).block stands.link;
      }
    where
      room : (number k : ℕ) → number < length (first_logs o) → k < length (nth_log (first_logs o) number).slots → k + 3 < words_in (shape o)
      room number k before used = (let fits : length (nth_log (first_logs o) number).slots + 3 ≤ words_in (shape o) = (start_log o s).inside number before in omega (arith, used, fits))
