-- The order of the heads and of the log at a start.
use Rattle.std.proofs.Common.{◌≡◌, ◌≢◌, ◌⊎◌, ℕ, zero, suc, ◌+◌, ◌-◌, ◌/◌, ◌%◌, ◌^◌, ◌<◌, ◌≤◌, ◌==◌, true, List, [], ◌∷◌, length, take, get_or, map, refl, sym, ap, ◌∙◌, subst, arith, inl, inr, append-nil}
use Rattle.std.specs.List.{flat_map}
use Rattle.std.proofs.lemmas.Bool.{cases_lt, eq-eqb, or_left, or_right}
use Rattle.std.proofs.lemmas.List.{get_or_past, length-map, take_all}
use Rattle.std.proofs.lemmas.List.Concat.{get_or-flat_map}
use Rattle.log_entry.specs.Fields.{field}
use Rattle.log_entry.specs.Words.{head_word}
use Rattle.log_entry.specs.declared.layouts.TheConstants.{HEAD_BLOCK}
use Rattle.log_image.specs.Image.{words_in}
use Rattle.log_image.specs.Header.{head_block}
use Rattle.log_image.specs.Blocks.{entry_words, is_closed}
use Rattle.log_image.specs.Positions.{log_words}
use Rattle.persistence.specs.Memory.{cell}
use Rattle.persistence.specs.Survivors.{value_at}
use Rattle.log_image.proofs.ChainSteps.{log_entry_words}
use Rattle.log_core.specs.Entries.{LogEntry, no_entry, entry_by, head_place}
use Rattle.log_core.specs.Origin.{Origin, shape, LogBlock, no_log, log_block, used_slots, first_recorded, first_logs, first_memory, start_base, first_position, first_generation, first_entries, start_generation}
use Rattle.log_core.specs.Files.{entries}
use Rattle.log_core.specs.Cores.{nth_log, entries_used, is_sealed, is_full}
use Rattle.log_core.specs.Order.{HeadsInOrder, GenerationsRise, LogInOrder, nth_generation, front_of}
use Rattle.log_core.specs.Snapshots.{first_or}
use Rattle.log_core.proofs.starts.StartViews.{start_floor}
use Rattle.log_core.proofs.starts.StartFacts.{Facts}
use Rattle.log_core.proofs.starts.StartSlots.{used_entries, used_short, used_front, seal_end, seal_later, used_entry, closed_full}
use Rattle.log_core.proofs.starts.StartWords.{head_back}
use Rattle.log_core.proofs.starts.StartChain.{entries_more}
use Rattle.log_core.proofs.starts.StartLogs.{certain_at, blocks, block_at, slots_at, chained, nth, many, area_at, log_at, first_slot, leads_closed, slots_long}

module _ (o : Origin) (s : Facts o) where
  -- the head is that of the start's generation
  front_is : head_block o.words ≡ front_of (first_logs o) (start_generation o)
  front_is = sym (chained o s).front ∙ ap (λ (l : LogBlock). first_or (start_generation o).snapshots l.block) (sym (nth o s 0 (chained o s).some))

  head_is : get_or o.words 3 0 ≡ head_word (record { generation = first_generation o + 0; block = front_of (first_logs o) (start_generation o) })
  head_is =
      head_back (get_or o.words 3 0) (s.small 3) s.header.head_unnamed
      ∙ ap (λ (g : ℕ). head_word (record { generation = g; block = head_block o.words })) (omega arith)
      ∙ ap (λ (b : ℕ). head_word (record { generation = first_generation o + 0; block = b })) front_is

  pub start_heads : HeadsInOrder o (λ word. cell (first_memory o) word) (start_generation o ∷ []) (first_logs o)
  start_heads = record {
    header = λ word inside. certain_at o word (get_or o.words word 0) refl;
    some = s.generation;
    few = below (get_or o.words 3 0);
    count = refl;
    floor = omega (arith, start_floor o head_place);
    small = small;
    each = each;
  }
    where
      below : (word : ℕ) → word / 2 ^ 32 % 2 ^ 32 + 1 ≤ 2 ^ 32
      below word = omega arith

      low : (word : ℕ) → field HEAD_BLOCK word < 2 ^ 16
      low word = omega arith

      small : (place : ℕ) → place < 1 → front_of (first_logs o) (nth_generation (start_generation o ∷ []) place) < 2 ^ 16
      small zero inside = subst (λ (block : ℕ). block < 2 ^ 16) front_is (low (get_or o.words 3 0))
      small (suc place) inside = absurd (omega (arith, inside))

      each : (place : ℕ) → place < 1 → value_at (cell (first_memory o) head_place) place ≡ head_word (record { generation = first_generation o + place; block = front_of (first_logs o) (nth_generation (start_generation o ∷ []) place) })
      each zero inside = head_is
      each (suc place) inside = absurd (omega (arith, inside))

  -- the position that the entries come to
  long : start_base o + length (flat_map (log_entry_words o.words (shape o)) (blocks o s)) ≡ first_position o
  long = refl

  pub start_rises : GenerationsRise o (first_position o + 0) (start_generation o ∷ []) (first_logs o)
  start_rises = record {
    from_first = from_first;
    to_end = to_end;
    rise = λ place inside. absurd (omega (arith, inside));
    cuts_rise = λ place inside. absurd (omega (arith, inside));
    cut_inside = cut_inside;
    cut_base = cut_base;
  }
    where
      from_first : (place : ℕ) → place < 1 → start_base o ≤ (nth_generation (start_generation o ∷ []) place).base
      from_first zero inside = omega arith
      from_first (suc place) inside = absurd (omega (arith, inside))

      to_end : (place : ℕ) → place < 1 → (nth_generation (start_generation o ∷ []) place).base ≤ first_position o + 0
      to_end zero inside = omega (arith, long)
      to_end (suc place) inside = absurd (omega (arith, inside))

      cut_inside : (place : ℕ) → place < 1 → (nth_generation (start_generation o ∷ []) place).cut < length (first_logs o)
      cut_inside zero inside = omega (arith, many o s, (chained o s).some)
      cut_inside (suc place) inside = absurd (omega (arith, inside))

      cut_base : (place : ℕ) → place < 1 → (nth_log (first_logs o) (nth_generation (start_generation o ∷ []) place).cut).base ≡ (nth_generation (start_generation o ∷ []) place).base
      cut_base zero inside = ap (λ (l : LogBlock). l.base) (nth o s 0 (chained o s).some) ∙ (log_at o s 0 (chained o s).some).1 ∙ omega arith
      cut_base (suc place) inside = absurd (omega (arith, inside))

  -- what holds of the log blocks of the chain, and of none, holds of each
  each_log : (P : ℕ → LogBlock → Type 0) → ((number : ℕ) → number < length (blocks o s) → P number (log_block (block_at o s number) (first_recorded o (block_at o s number)))) →
      ((number : ℕ) → P number no_log) → (number : ℕ) → P number (nth_log (first_logs o) number)
  each_log P chained_holds none number = go (cases_lt number (length (blocks o s)))
    where
      go : (number < length (blocks o s)) ⊎ (length (blocks o s) ≤ number) → P number (nth_log (first_logs o) number)
      go (inl inside) = subst (λ (l : LogBlock). P number l) (sym (nth o s number inside)) (chained_holds number inside)
      go (inr past) = subst (λ (l : LogBlock). P number l) (sym (get_or_past (first_logs o) number no_log (omega (arith, past, many o s)))) (none number)

  base_at : (number : ℕ) → number < length (blocks o s) → (nth_log (first_logs o) number).base ≡ start_base o + length (flat_map (log_entry_words o.words (shape o)) (take number (blocks o s)))
  base_at number inside = ap (λ (l : LogBlock). l.base) (nth o s number inside) ∙ (log_at o s number inside).1

  count_at : (number : ℕ) → number < length (blocks o s) → entries_used (nth_log (first_logs o) number) ≡ length (log_entry_words o.words (shape o) (block_at o s number))
  count_at number inside = ap (λ (l : LogBlock). entries_used l) (nth o s number inside) ∙ ap (λ (l : List ℕ). length l) (used_entries (slots_at o s number))

  next_base : (number : ℕ) → number + 1 < length (blocks o s) → (nth_log (first_logs o) (number + 1)).base ≡ (nth_log (first_logs o) number).base + entries_used (nth_log (first_logs o) number)
  next_base number inside =
      let here : number < length (blocks o s) = omega (arith, inside) in
      omega (arith, base_at (number + 1) inside, base_at number here, count_at number here, entries_more (log_entry_words o.words (shape o)) (blocks o s) number here)

  last_end : (number : ℕ) → number + 1 ≡ length (blocks o s) → (nth_log (first_logs o) number).base + entries_used (nth_log (first_logs o) number) ≡ first_position o
  last_end number last =
      let here : number < length (blocks o s) = omega (arith, last) in
      let all : length (flat_map (log_entry_words o.words (shape o)) (take (number + 1) (blocks o s))) ≡ length (flat_map (log_entry_words o.words (shape o)) (blocks o s)) =
      ap (λ (l : List ℕ). length (flat_map (log_entry_words o.words (shape o)) l)) (take_all (number + 1) (blocks o s) (omega (arith, last))) in
      omega (arith, base_at number here, count_at number here, entries_more (log_entry_words o.words (shape o)) (blocks o s) number here, all, long)

  full_at : (number : ℕ) → number < length (blocks o s) → is_closed (slots_at o s number) ≡ true → is_full (shape o) (used_slots (slots_at o s number)) ≡ true
  full_at number inside closed = go (closed_full (slots_at o s number) closed)
    where
      go : (is_sealed (used_slots (slots_at o s number)) ≡ true) ⊎ (length (used_slots (slots_at o s number)) ≡ length (slots_at o s number)) → is_full (shape o) (used_slots (slots_at o s number)) ≡ true
      go (inl sealed) = or_left (is_sealed (used_slots (slots_at o s number))) (length (used_slots (slots_at o s number)) + 3 == words_in (shape o)) sealed
      go (inr full) =
          or_right (is_sealed (used_slots (slots_at o s number))) (length (used_slots (slots_at o s number)) + 3 == words_in (shape o))
          (eq-eqb (length (used_slots (slots_at o s number)) + 3) (words_in (shape o)) (omega (arith, full, slots_long o s (block_at o s number) (area_at o s number inside))))

  full_log : (number : ℕ) → number + 1 < length (blocks o s) → is_full (shape o) (nth_log (first_logs o) number).slots ≡ true
  full_log number inside =
      let here : number < length (blocks o s) = omega (arith, inside) in
      subst (λ (l : LogBlock). is_full (shape o) l.slots ≡ true) (sym (nth o s number here)) (full_at number here (leads_closed o s number here ((chained o s).leads number inside).0))

  short_log : (number : ℕ) → number < length (blocks o s) → length (nth_log (first_logs o) number).slots + 3 ≤ words_in (shape o)
  short_log number inside =
      subst (λ (l : LogBlock). length l.slots + 3 ≤ words_in (shape o)) (sym (nth o s number inside))
      (omega (arith, used_short (slots_at o s number), slots_long o s (block_at o s number) (area_at o s number inside)))

  -- the entry at a place of a list of entry words
  entry_word : (words : List ℕ) (place : ℕ) → (get_or (map (λ (word : ℕ). entry_by (first_recorded o) word) words) place no_entry).word ≡ get_or words place 0
  entry_word [] place = refl
  entry_word (word ∷ words) zero = refl
  entry_word (word ∷ words) (suc place) = entry_word words place

  entry_at : (number k : ℕ) → number < length (blocks o s) → k < length (log_entry_words o.words (shape o) (block_at o s number)) →
      (get_or (entries o []) ((nth_log (first_logs o) number).base + k - start_base o) no_entry).word ≡ get_or (log_entry_words o.words (shape o) (block_at o s number)) k 0
  entry_at number k inside before =
      let place : (nth_log (first_logs o) number).base + k - start_base o ≡ length (flat_map (log_entry_words o.words (shape o)) (take number (blocks o s))) + k = omega (arith, base_at number inside) in
      ap (λ (es : List LogEntry). (get_or es ((nth_log (first_logs o) number).base + k - start_base o) no_entry).word) (append-nil (first_entries o))
      ∙ entry_word (log_words o.words (shape o) o.chain) ((nth_log (first_logs o) number).base + k - start_base o)
      ∙ ap (λ (i : ℕ). get_or (log_words o.words (shape o) o.chain) i 0) place
      ∙ get_or-flat_map (log_entry_words o.words (shape o)) (blocks o s) number k 0 0 inside before

  pub start_log : LogInOrder o (entries o []) (first_position o + 0) (first_logs o)
  start_log = record {
    count = ap (λ (es : List LogEntry). start_base o + length es) (append-nil (first_entries o)) ∙ omega (arith, length-map (log_words o.words (shape o) o.chain) (λ (word : ℕ). entry_by (first_recorded o) word), long);
    limit = omega (arith, s.stands.format.below_limit);
    some = omega (arith, many o s, (chained o s).some);
    first = base_at 0 (chained o s).some ∙ omega arith;
    next = λ number inside. next_base number (omega (arith, inside, many o s));
    last = last_end (length (first_logs o) - 1) (omega (arith, many o s, (chained o s).some)) ∙ omega arith;
    full = λ number inside. full_log number (omega (arith, inside, many o s));
    inside = λ number inside. short_log number (omega (arith, inside, many o s));
    used = each_log (λ number l. (k : ℕ) → k < length l.slots → get_or l.slots k 0 ≢ 0) (λ number inside k before. (used_front (slots_at o s number) k before).1) (λ number k before. absurd (omega (arith, before)));
    seal_last = each_log (λ number l. (k : ℕ) → get_or l.slots k 0 ≡ 3 → (k + 1 ≡ length l.slots) × (0 < k))
        (λ number inside k seal. (seal_end (slots_at o s number) k seal, seal_later (slots_at o s number) k (first_slot o s number inside) seal)) (λ number k seal. absurd (omega (arith, seal)));
    entries = same_entry;
  }
    where
      same_entry : (number k : ℕ) → k < length (nth_log (first_logs o) number).slots → get_or (nth_log (first_logs o) number).slots k 0 ≢ 3 →
          get_or (nth_log (first_logs o) number).slots k 0 ≡ (get_or (entries o []) ((nth_log (first_logs o) number).base + k - start_base o) no_entry).word
      same_entry number k before other = go (cases_lt number (length (blocks o s))) before other
        where
          of_block : (inside : number < length (blocks o s)) → k < length (used_slots (slots_at o s number)) → get_or (used_slots (slots_at o s number)) k 0 ≢ 3 →
              get_or (used_slots (slots_at o s number)) k 0 ≡ (get_or (entries o []) ((nth_log (first_logs o) number).base + k - start_base o) no_entry).word
          of_block inside before other =
              let entry : (k < length (entry_words (slots_at o s number))) × (get_or (entry_words (slots_at o s number)) k 0 ≡ get_or (used_slots (slots_at o s number)) k 0) = used_entry (slots_at o s number) k before other in
              sym entry.1 ∙ sym (entry_at number k inside entry.0)

          go : (number < length (blocks o s)) ⊎ (length (blocks o s) ≤ number) → k < length (nth_log (first_logs o) number).slots → get_or (nth_log (first_logs o) number).slots k 0 ≢ 3 →
              get_or (nth_log (first_logs o) number).slots k 0 ≡ (get_or (entries o []) ((nth_log (first_logs o) number).base + k - start_base o) no_entry).word
          go (inl inside) = subst (λ (l : LogBlock). k < length l.slots → get_or l.slots k 0 ≢ 3 → get_or l.slots k 0 ≡ (get_or (entries o []) ((nth_log (first_logs o) number).base + k - start_base o) no_entry).word)
              (sym (nth o s number inside)) (of_block inside)
          go (inr past) = (let none : nth_log (first_logs o) number ≡ no_log = get_or_past (first_logs o) number no_log (omega (arith, past, many o s)) in λ before other. absurd (omega (arith, rw none at before)))
