-- The last log block with a used slot more, behind its entries: the order of the log, and how the block stands then.
use Rattle.std.proofs.Common.{◌≡◌, ◌≢◌, ◌<◌, ◌≤◌, ◌+◌, ◌-◌, ◌^◌, ◌==◌, ℕ, true, false, List, [], ◌∷◌, length, refl, sym, ◌∙◌, ap, subst, arith, slice_index, slice_index_or, ⊎_elim}
use Rattle.std.proofs.lemmas.Bool.{cases_lt, ne_eqb, or_from}
use Rattle.std.proofs.lemmas.List.{length_push, get_or_push, get_or_append_left, get_or_past}
use Rattle.log_entry.specs.declared.layouts.TheConstants.{EMPTY, SEAL}
use Rattle.log_entry.specs.Words.{block_word}
use Rattle.log_entry.specs.declared.words.BlockKind.TheVariants.{Log}
use Rattle.log_image.specs.Image.{words_in}
use Rattle.log_image.specs.Blocks.{entry_words}
use Rattle.persistence.specs.Memory.{Memory, Cell, cell}
use Rattle.log_core.specs.Entries.{place_in, LogEntry, no_entry}
use Rattle.log_core.specs.Origin.{Origin, shape, start_base, LogBlock, no_log}
use Rattle.log_core.specs.Files.{entries, end_of}
use Rattle.log_core.specs.Cores.{Core, nth_log, log_at, entries_used, is_sealed, is_full}
use Rattle.log_core.specs.After.{slot_added}
use Rattle.log_core.specs.Order.{LogInOrder, LogStands}
use Rattle.log_core.specs.Certain.{IsCertain, IsGrowing}
use Rattle.log_core.specs.Synced.{IsSyncedIn}
use Rattle.log_core.specs.Invariant.{Invariant}
use Rattle.log_core.proofs.LogTails.{sealed_at, unsealed, bases_rise, log_at_base}
use Rattle.log_core.proofs.SlotPlaces.{entry_place}
use Rattle.log_core.proofs.LogGrowth.{more_used, added_long, last_added, one_used, entries_more}
use Rattle.log_core.proofs.clauses.Exchanged.{WordGrows}
use Rattle.log_core.proofs.clauses.GrowingWords.{growing_more}
use Rattle.log_core.proofs.clauses.Growth.{LogLater, LogsGrow, last_log}
use Rattle.log_core.proofs.clauses.GrownOrder.{past_last}
use Rattle.log_core.proofs.clauses.GrownWords.{last_inside}
use Rattle.log_core.proofs.clauses.OneView.{same_or_other}

-- what is so where a slot is put in, and of the entries and the end then
pub record PutsSlot (o : Origin) (c : Core) (m : Memory) (index slot : ℕ) (es : List LogEntry) (end : ℕ) : Type 0 where
  pub memory : WordGrows o (length c.views) c.memory m (place_in (shape o) (last_log c).block index) slot
  pub index_is : index ≡ length (last_log c).slots + 3
  pub inside : index < words_in (shape o)
  pub all_used : entries_used (last_log c) ≡ length (last_log c).slots
  pub some : slot ≢ EMPTY
  pub seal_late : slot ≡ SEAL → 0 < length (last_log c).slots
  pub end_is : end ≡ end_of o c.history + length (entry_words (slot ∷ []))
  pub count : start_base o + length es ≡ end
  pub limit : end < 2 ^ 40
  pub same : (k : ℕ) → k < length (entries o c.history) → slice_index_or es k no_entry ≡ slice_index_or (entries o c.history) k no_entry
  pub new : slot ≢ SEAL → (slice_index_or es (end_of o c.history - start_base o) no_entry).word ≡ slot

module _ (o : Origin) (c : Core) (m : Memory) (index slot : ℕ) (es : List LogEntry) (end : ℕ) (inv : Invariant o c) (p : PutsSlot o c m index slot es end) where
  abbrev logs : List LogBlock
  logs = slot_added c.logs slot

  abbrev last : LogBlock
  last = last_log c

  abbrev more : LogBlock
  more = more_used (shape o) c.logs inv.order.log.some slot

  abbrev count : ℕ
  count = length last.slots

  long : length logs ≡ length c.logs
  long = added_long (shape o) c.logs inv.order.log.some slot

  -- the last log block then, and its entries
  pub last_is : nth_log logs (length c.logs - 1) ≡ more
  last_is = last_added (shape o) c.logs inv.order.log.some slot

  pub used_more : entries_used more ≡ count + length (entry_words (slot ∷ []))
  used_more = entries_more last.slots slot p.all_used

  open_last : is_full (shape o) last.slots ≡ false
  open_last = or_from (is_sealed last.slots) (count + 3 == words_in (shape o)) (unsealed last.slots p.all_used)
      (ne_eqb (count + 3) (words_in (shape o)) (λ full. (let inside = p.inside in let is = p.index_is in omega (arith, full, inside, is))))

  later : LogLater (shape o) last more
  later = record {
    base = refl;
    block = refl;
    used = (let more_entries = used_more in let all = p.all_used in omega (arith, more_entries, all));
    full = λ full. (let both : false ≡ true = sym open_last ∙ full in cc);
  }

  -- the log blocks grow by it
  pub logs_grow : LogsGrow (shape o) c.logs logs []
  logs_grow = one_used (shape o) c.logs inv.order.log.some slot later

  at_number : (P : LogBlock → Type 0) (number : ℕ) → (number + 1 < length c.logs → P (nth_log c.logs number)) → (number ≡ length c.logs - 1 → P more) → P no_log → P (nth_log logs number)
  at_number P number old here past = ⊎_elim
      (λ (before : number + 1 < length c.logs). subst P (sym (logs_grow.same number before)) (old before))
      (λ (late : length c.logs ≤ number + 1). same_or_other number (length c.logs - 1)
      (λ same. subst P (sym (ap (λ (k : ℕ). nth_log logs k) same ∙ last_is)) (here same))
      (λ other. subst P (sym (past_last logs number (let all = long in omega (arith, all, late, other)))) past))
      (cases_lt (number + 1) (length c.logs))

  at_slot : (P : ℕ → Type 0) (k : ℕ) → (k < count → P (slice_index last.slots k)) → (k ≡ count → P slot) → (count < k → P 0) → P (slice_index more.slots k)
  at_slot P k old here past = ⊎_elim
      (λ (before : k < count). subst P (sym (get_or_append_left last.slots (slot ∷ []) 0 k before)) (old before))
      (λ (late : count ≤ k). same_or_other k count
      (λ same. subst P (sym (get_or_push last.slots slot 0 k (sym same))) (here same))
      (λ other. subst P (sym (get_or_past more.slots k 0 (let all = length_push last.slots slot in omega (arith, all, late, other)))) (past (omega (arith, late, other)))))
      (cases_lt k count)

  slots_long : length more.slots ≡ count + 1
  slots_long = length_push last.slots slot

  last_end : last.base + count ≡ end_of o c.history
  last_end = (let r = inv.order.log.last in let all = p.all_used in omega (arith, r, all))

  -- the order of the log
  pub order : LogInOrder o es end logs
  order = (let r = inv.order.log in record {
    count = p.count;
    limit = p.limit;
    some = (let all = long in let some = r.some in omega (arith, all, some));
    first = (logs_grow.each 0 r.some).base ∙ r.first;
    next = λ number before. (let low : number + 1 < length c.logs = (let all = long in omega (arith, all, before)) in
        (logs_grow.each (number + 1) low).base ∙ (r.next number low ∙ ap (λ (l : LogBlock). l.base + entries_used l) (sym (logs_grow.same number low))));
    last = ap (λ (k : ℕ). (nth_log logs (k - 1)).base + entries_used (nth_log logs (k - 1))) long
        ∙ (ap (λ (l : LogBlock). l.base + entries_used l) last_is ∙ (let used = used_more in let base = last_end in let is = p.end_is in omega (arith, used, base, is)));
    full = λ number before. (let low : number + 1 < length c.logs = (let all = long in omega (arith, all, before)) in ap (λ (l : LogBlock). is_full (shape o) l.slots) (logs_grow.same number low) ∙ r.full number low);
    inside = λ number low. at_number (λ (l : LogBlock). length l.slots + 3 ≤ words_in (shape o)) number (λ before. r.inside number (omega (arith, before)))
        (λ here. (let all = slots_long in let inside = p.inside in let is = p.index_is in omega (arith, all, inside, is))) (let wide = inv.sizes.image.wide in omega (arith, wide));
    used = λ number k. at_number (λ (l : LogBlock). k < length l.slots → slice_index l.slots k ≢ EMPTY) number (λ before. r.used number k)
        (λ here less. at_slot (λ (s : ℕ). s ≢ EMPTY) k (λ before. r.used (length c.logs - 1) k before) (λ same. p.some) (λ past. (let all = slots_long in absurd (omega (arith, all, less, past)))))
        (λ less. absurd (omega (arith, less)));
    seal_last = λ number k. at_number (λ (l : LogBlock). slice_index l.slots k ≡ SEAL → (k + 1 ≡ length l.slots) × (0 < k)) number (λ before. r.seal_last number k)
        (λ here. at_slot (λ (s : ℕ). s ≡ SEAL → (k + 1 ≡ length more.slots) × (0 < k)) k
        (λ before seal. absurd (no_seal k seal))
        (λ same seal. ((let all = slots_long in omega (arith, all, same)), (let late = p.seal_late seal in omega (arith, late, same))))
        (λ past seal. absurd (omega (arith, seal))))
        (λ seal. absurd (omega (arith, seal)));
    entries = λ number k. at_number
        (λ (l : LogBlock). k < length l.slots → slice_index l.slots k ≢ SEAL → slice_index l.slots k ≡ (slice_index_or es (l.base + k - start_base o) no_entry).word) number
        (λ before less other. r.entries number k less other ∙ ap (λ (e : LogEntry). e.word) (sym (p.same ((nth_log c.logs number).base + k - start_base o) (old_place number k (omega (arith, before)) less other))))
        (λ here less. at_slot (λ (s : ℕ). s ≢ SEAL → s ≡ (slice_index_or es (last.base + k - start_base o) no_entry).word) k
        (λ before other. r.entries (length c.logs - 1) k before other
        ∙ ap (λ (e : LogEntry). e.word) (sym (p.same (last.base + k - start_base o) (old_place (length c.logs - 1) k (last_inside o c inv) before other))))
        (λ same other. sym (ap (λ (j : ℕ). (slice_index_or es (j - start_base o) no_entry).word) (let base = last_end in let e : last.base + k ≡ end_of o c.history = omega (arith, base, same) in e) ∙ p.new other))
        (λ past. (let all = slots_long in absurd (omega (arith, all, less, past)))))
        (λ less. absurd (omega (arith, less)));
  })
    where
      no_seal : (k : ℕ) → slice_index last.slots k ≡ SEAL → ⊥
      no_seal k seal = (let sealed = sealed_at last.slots k seal in let both : false ≡ true = sym (unsealed last.slots p.all_used) ∙ sealed in cc)

      -- an entry's place is before the end
      old_place : (number k : ℕ) → number < length c.logs → k < length (nth_log c.logs number).slots → slice_index (nth_log c.logs number).slots k ≢ SEAL →
          (nth_log c.logs number).base + k - start_base o < length (entries o c.history)
      old_place number k inside less other = entry_place o c inv number k inside less other

  -- the word grows, and the others of the block stay
  other_word : (k : ℕ) → k ≢ index → k < words_in (shape o) → cell m (place_in (shape o) last.block k) ≡ cell c.memory (place_in (shape o) last.block k)
  other_word k other low = p.memory.others (place_in (shape o) last.block k) (λ same. other (omega (arith, same)))

  stands_more : LogStands (shape o) (λ w. cell c.memory w) last 0 → LogStands (shape o) (λ w. cell m w) more 0
  stands_more old = (let is = p.index_is in let wide = inv.sizes.image.wide in record {
    base = subst (λ (a : Cell). IsCertain a (block_word (record { kind = Log; base = last.base }))) (sym (other_word 1 (λ e. omega (arith, e, is)) (omega (arith, wide)))) old.base;
    zero = subst (λ (a : Cell). IsCertain a 0) (sym (other_word 2 (λ e. omega (arith, e, is)) (omega (arith, wide)))) old.zero;
    link = subst (λ (a : Cell). IsGrowing a 0) (sym (other_word 0 (λ e. omega (arith, e, is)) (omega (arith, wide)))) old.link;
    slots = λ k low open_slot. same_or_other k count
        (λ same. (let at : k + 3 ≡ index = omega (arith, same, is) in
        subst (λ (value : ℕ). IsGrowing (cell m (place_in (shape o) last.block (k + 3))) value) (sym (get_or_push last.slots slot 0 k (sym same)))
        (subst (λ (j : ℕ). IsGrowing (cell m (place_in (shape o) last.block j)) slot) (sym at)
        (subst (λ (a : Cell). IsGrowing a slot) (sym p.memory.here) (growing_more (cell c.memory (place_in (shape o) last.block index)) slot
        (subst (λ (j : ℕ). IsGrowing (cell c.memory (place_in (shape o) last.block j)) 0) at (subst (λ (value : ℕ). IsGrowing (cell c.memory (place_in (shape o) last.block (k + 3))) value)
        (get_or_past last.slots k 0 (omega (arith, same))) (old_slot k low))))))))
        (λ other. subst (λ (a : Cell). IsGrowing a (slice_index more.slots k)) (sym (other_word (k + 3) (λ e. other (omega (arith, e, is))) low))
        (at_slot (λ (value : ℕ). slice_index last.slots k ≡ value → IsGrowing (cell c.memory (place_in (shape o) last.block (k + 3))) value) k
        (λ before e. old_slot k low) (λ same. absurd (other same)) (λ past e. subst (λ (value : ℕ). IsGrowing (cell c.memory (place_in (shape o) last.block (k + 3))) value) e (old_slot k low))
        (slot_other k other)));
  })
    where
      old_slot : (k : ℕ) → k + 3 < words_in (shape o) → IsGrowing (cell c.memory (place_in (shape o) last.block (k + 3))) (slice_index last.slots k)
      old_slot k low = old.slots k low (λ sealed. (let both : false ≡ true = sym (unsealed last.slots p.all_used) ∙ sealed in cc))

      slot_other : (k : ℕ) → k ≢ count → slice_index last.slots k ≡ slice_index more.slots k
      slot_other k other = at_slot (λ (value : ℕ). slice_index last.slots k ≡ value) k (λ before. refl) (λ same. absurd (other same)) (λ past. get_or_past last.slots k 0 (omega (arith, past)))

  number_last : (number : ℕ) → length c.logs ≤ number + 1 → number < length logs → number ≡ length c.logs - 1
  number_last number late inside = (let all = long in omega (arith, all, late, inside))

  none_after : (number : ℕ) → length c.logs ≤ number + 1 → nth_log logs (number + 1) ≡ no_log
  none_after number late = past_last logs (number + 1) (let all = long in omega (arith, all, late))

  -- so each of the last log blocks does, and has its synced words
  pub stands : LogStands (shape o) (λ w. cell c.memory w) last 0 → (number : ℕ) → length c.logs ≤ number + 1 → number < length logs →
      LogStands (shape o) (λ w. cell m w) (nth_log logs number) (nth_log logs (number + 1)).block
  stands old number late inside = subst (λ (l : LogBlock). LogStands (shape o) (λ w. cell m w) (nth_log logs number) l.block) (sym (none_after number late))
      (subst (λ (l : LogBlock). LogStands (shape o) (λ w. cell m w) l 0) (sym (ap (λ (k : ℕ). nth_log logs k) (number_last number late inside) ∙ last_is)) (stands_more old))

  pub synced_stay : (synced : ℕ) → synced ≤ end_of o c.history → (next : LogBlock) → IsSyncedIn (shape o) (λ w. cell c.memory w) synced last next → (number : ℕ) → length c.logs ≤ number + 1 → number < length logs →
      IsSyncedIn (shape o) (λ w. cell m w) synced (nth_log logs number) (nth_log logs (number + 1))
  synced_stay synced upto next old number late inside = subst (λ (l : LogBlock). IsSyncedIn (shape o) (λ w. cell m w) synced (nth_log logs number) l) (sym (none_after number late))
      (subst (λ (l : LogBlock). IsSyncedIn (shape o) (λ w. cell m w) synced l no_log) (sym (ap (λ (k : ℕ). nth_log logs k) (number_last number late inside) ∙ last_is)) (record {
        slots = λ k used low. (let is = p.index_is in let base = last_end in let fits = p.inside in
            let before : k < count = (let all = slots_long in omega (arith, all, used, base, low, upto)) in
            subst (λ (a : Cell). IsCertain a (slice_index more.slots k)) (sym (other_word (k + 3) (λ e. omega (arith, e, is, before)) (omega (arith, before, fits, is))))
            (subst (λ (value : ℕ). IsCertain (cell c.memory (place_in (shape o) last.block (k + 3))) value) (sym (get_or_append_left last.slots (slot ∷ []) 0 k before)) (old.slots k before low)));
        link = λ some low. absurd (some refl);
      }))

  -- the last log block is the one with its base
  pub more_at : log_at logs last.base ≡ more
  more_at = (let e = log_at_base logs (length c.logs - 1) (let all = long in let some = inv.order.log.some in omega (arith, all, some))
      (λ other less same. (let rise = bases_rise o c inv (length c.logs - 1) other less (last_inside o c inv) in
      let was : (nth_log logs other).base ≡ (nth_log c.logs other).base = (logs_grow.each other (omega (arith, less))).base in
      let is : (nth_log logs (length c.logs - 1)).base ≡ last.base = ap (λ (l : LogBlock). l.base) last_is in
      omega (arith, rise, was, is, same))) in
      ap (λ (base : ℕ). log_at logs base) (sym (ap (λ (l : LogBlock). l.base) last_is)) ∙ (e ∙ last_is))
