-- The entries of the log blocks that a crash leaves: the first of the history's from the snapshot's position on, and what they mean.
use Rattle.std.proofs.Common.{◌≡◌, ◌≢◌, ◌<◌, ◌≤◌, ◌+◌, ◌-◌, ◌==◌, ◌&&◌, ◌||◌, if◌then◌else◌, ℕ, zero, suc, Bool, true, false, List, [], ◌∷◌, ◌++◌, length, map, take, drop, refl, sym, ◌∙◌, ap, subst, arith, slice_index, slice_index_or, append-nil, length-drop, length-take}
use Rattle.std.specs.List.{AllByRecursion, list_all}
use Rattle.std.proofs.lemmas.Bool.{eq-eqb, eqb-false}
use Rattle.std.proofs.lemmas.List.{get_or-drop, get_or-map, get_or-take, ext_get_or, length-map, length-take-le, map-append, take-append-drop, drop-drop, drop_all, take-map, take_all}
use Rattle.log_entry.specs.Fields.{field}
use Rattle.log_entry.specs.Shape.{longest_of}
use Rattle.log_entry.specs.declared.layouts.TheConstants.{EMPTY, SEAL, ENTRY_KIND, INDIRECT, INDIRECT_BLOCK}
use Rattle.log_image.specs.Image.{Shape, block_words, is_in_data}
use Rattle.log_image.specs.Entries.{Meaning, names, indirect_meaning, meaning}
use Rattle.log_image.specs.Blocks.{entry_words}
use Rattle.log_image.specs.Chains.{is_listed}
use Rattle.log_image.specs.Format.{is_direct, is_indirect, is_indirect_block, fits, is_log_entry}
use Rattle.persistence.specs.Survivors.{Survives}
use Rattle.log_core.specs.Entries.{LogEntry, no_entry, meanings, meaning_by, entry_by, entry_names}
use Rattle.log_core.specs.Origin.{Origin, shape, start_base, LogBlock, Generation}
use Rattle.log_core.specs.Files.{entries, end_of}
use Rattle.log_core.specs.Cores.{Core, nth_log, data_names, entries_used}
use Rattle.log_core.specs.May.{is_log_entry_by}
use Rattle.log_core.specs.Order.{nth_generation}
use Rattle.log_core.specs.Invariant.{Invariant, KeptIn}
use Rattle.log_core.proofs.Each.{each_place}
use Rattle.log_core.proofs.LogTails.{log_to_end}
use Rattle.log_core.proofs.SameContents.{same_form}
use Rattle.log_core.proofs.kinds.TakesEntry.{among_names, same_meaning}
use Rattle.log_core.proofs.clauses.Apart.{has_right}
use Rattle.log_core.proofs.crashes.LeftLogs.{used_words}
use Rattle.log_core.proofs.crashes.LeftBlocks.{split_drop, fixed}

-- an entry of slots is the slot of its number
record IsSlot (slots : List ℕ) (k : ℕ) : Type 0 where
  same : slice_index (entry_words slots) k ≡ slice_index slots k
  inside : k < length slots
  other : slice_index slots k ≢ SEAL

entry_slot : (slots : List ℕ) (k : ℕ) → k < length (entry_words slots) → IsSlot slots k
entry_slot [] k inside = absurd (omega (arith, inside))
entry_slot (slot ∷ slots) k inside = go (slot == EMPTY) (slot == SEAL) refl refl k inside (λ i small. entry_slot slots i small)
  where
    go : (empty seal : Bool) → (slot == EMPTY) ≡ empty → (slot == SEAL) ≡ seal → (k : ℕ) → k < length (entry_words (slot ∷ slots)) → ((i : ℕ) → i < length (entry_words slots) → IsSlot slots i) → IsSlot (slot ∷ slots) k
    go true seal e s k inside rest = absurd (let none : length (entry_words (slot ∷ slots)) ≡ 0 = rw e refl in omega (arith, inside, none))
    go false true e s k inside rest = absurd (let none : length (entry_words (slot ∷ slots)) ≡ 0 = rw (e, s) refl in omega (arith, inside, none))
    go false false e s zero inside rest = record { same = rw (e, s) refl; inside = omega arith; other = eqb-false slot SEAL s }
    go false false e s (suc k) inside rest = (let here : IsSlot slots k = rest k (let more : length (entry_words (slot ∷ slots)) ≡ suc (length (entry_words slots)) = rw (e, s) refl in omega (arith, inside, more)) in
        let within = here.inside in record { same = rw (e, s) here.same; inside = omega (arith, within); other = here.other })

-- the two tests of an entry's word are one
one_test : (direct indirect area runs form : Bool) → ((if direct then true else (indirect && area && runs)) && form) ≡ true → ((direct || (indirect && (area && runs))) && form) ≡ true
one_test true indirect area runs form good = good
one_test false true area runs form good = good
one_test false false area runs form good = good

by_words : (words : List ℕ) (image : Shape) (word : ℕ) → is_log_entry_by (λ (block : ℕ). block_words words image block) image word ≡ true → is_log_entry words image word ≡ true
by_words words image word good =
    one_test (is_direct word) (is_indirect word) (is_in_data image (field INDIRECT_BLOCK word)) (is_indirect_block image (block_words words image (field INDIRECT_BLOCK word)))
    (fits image (longest_of image.block_bytes) (meaning words image word)) good

module _ (o : Origin) (c : Core) (inv : Invariant o c) where
  abbrev es : List LogEntry
  es = entries o c.history

  abbrev nth : ℕ → LogBlock
  nth number = nth_log c.logs number

  -- where its entries begin among all
  abbrev first_of : ℕ → ℕ
  first_of number = (nth number).base - start_base o

  low : (number : ℕ) → number < length c.logs → start_base o ≤ (nth number).base
  low zero inside = (let first = inv.order.log.first in omega (arith, first))
  low (suc number) inside = (let before = low number (omega (arith, inside)) in
      let next = subst (λ (k : ℕ). (nth k).base ≡ (nth number).base + entries_used (nth number)) (let e : number + 1 ≡ suc number = omega arith in e) (inv.order.log.next number (omega (arith, inside))) in
      omega (arith, before, next))

  -- the entries of one log block
  block_entries : (number : ℕ) → number < length c.logs → entry_words (nth number).slots ≡ map (λ (e : LogEntry). e.word) (take (entries_used (nth number)) (drop (first_of number) es))
  block_entries number inside = ext_get_or 0 (entry_words (nth number).slots) (map (λ (e : LogEntry). e.word) (take (entries_used (nth number)) (drop (first_of number) es)))
      (sym (length-map (take (entries_used (nth number)) (drop (first_of number) es)) (λ (e : LogEntry). e.word) ∙ length-take-le (entries_used (nth number)) (drop (first_of number) es) enough))
      (λ k small. (let slot : IsSlot (nth number).slots k = entry_slot (nth number).slots k small in
      slot.same ∙ (inv.order.log.entries number k slot.inside slot.other
      ∙ (ap (λ (i : ℕ). (slice_index_or es i no_entry).word) (let first = low number inside in let e : (nth number).base + k - start_base o ≡ first_of number + k = omega (arith, first) in e)
      ∙ (ap (λ (e : LogEntry). e.word) (sym (get_or-drop (first_of number) es k no_entry))
      ∙ (ap (λ (e : LogEntry). e.word) (sym (get_or-take (entries_used (nth number)) (drop (first_of number) es) k no_entry small))
      ∙ sym (get_or-map (λ (e : LogEntry). e.word) (take (entries_used (nth number)) (drop (first_of number) es)) k no_entry 0 (omega (arith, small, taken)))))))))
    where
      dropped : length (drop (first_of number) es) ≡ length es - first_of number
      dropped = length-drop (first_of number) es

      enough : entries_used (nth number) ≤ length (drop (first_of number) es)
      enough = (let to_end = log_to_end o c inv number inside in let count = inv.order.log.count in let first = low number inside in let long = dropped in omega (arith, to_end, count, first, long))

      taken : length (take (entries_used (nth number)) (drop (first_of number) es)) ≡ entries_used (nth number)
      taken = length-take-le (entries_used (nth number)) (drop (first_of number) es) enough

  -- those of the log blocks from one on
  used_from : (count number : ℕ) → number + suc count ≡ length c.logs → used_words (nth number ∷ drop (suc number) c.logs) ≡ map (λ (e : LogEntry). e.word) (drop (first_of number) es)
  used_from zero number is =
      ap (λ (l : List LogBlock). entry_words (nth number).slots ++ used_words l) (drop_all (suc number) c.logs (omega (arith, is)))
      ∙ (append-nil (entry_words (nth number).slots)
      ∙ (block_entries number (omega (arith, is))
      ∙ ap (λ (l : List LogEntry). map (λ (e : LogEntry). e.word) l) (take_all (entries_used (nth number)) (drop (first_of number) es) all)))
    where
      all : length (drop (first_of number) es) ≤ entries_used (nth number)
      all = (let long = length-drop (first_of number) es in
          let last = subst (λ (k : ℕ). (nth k).base + entries_used (nth k) ≡ end_of o c.history) (let e : length c.logs - 1 ≡ number = omega (arith, is) in e) inv.order.log.last in
          let count = inv.order.log.count in
          let first = low number (omega (arith, is)) in
          omega (arith, long, last, count, first))
  used_from (suc count) number is = joined (used_from count (suc number) (omega (arith, is)))
    where
      there : suc number < length c.logs
      there = omega (arith, is)

      split : drop (suc number) c.logs ≡ nth (suc number) ∷ drop (suc (suc number)) c.logs
      split = split_drop c.logs (suc number) (omega (arith, is))

      next_base : (nth (suc number)).base ≡ (nth number).base + entries_used (nth number)
      next_base = subst (λ (k : ℕ). (nth k).base ≡ (nth number).base + entries_used (nth number)) (let e : number + 1 ≡ suc number = omega arith in e) (inv.order.log.next number (omega (arith, is)))

      further : drop (first_of (suc number)) es ≡ drop (entries_used (nth number)) (drop (first_of number) es)
      further = ap (λ (k : ℕ). drop k es) (let first = low number (omega (arith, is)) in let base = next_base in let e : first_of (suc number) ≡ first_of number + entries_used (nth number) = omega (arith, first, base) in e)
          ∙ sym (drop-drop (entries_used (nth number)) (first_of number) es)

      joined : used_words (nth (suc number) ∷ drop (suc (suc number)) c.logs) ≡ map (λ (e : LogEntry). e.word) (drop (first_of (suc number)) es) →
          used_words (nth number ∷ drop (suc number) c.logs) ≡ map (λ (e : LogEntry). e.word) (drop (first_of number) es)
      joined rest = ap (λ (l : List LogBlock). entry_words (nth number).slots ++ used_words l) split
          ∙ (ap (λ (l : List ℕ). entry_words (nth number).slots ++ l) (rest ∙ ap (λ (l : List LogEntry). map (λ (e : LogEntry). e.word) l) further)
          ∙ (ap (λ (l : List ℕ). l ++ map (λ (e : LogEntry). e.word) (drop (entries_used (nth number)) (drop (first_of number) es))) (block_entries number (omega (arith, is)))
          ∙ (sym (map-append (λ (e : LogEntry). e.word) (take (entries_used (nth number)) (drop (first_of number) es)) (drop (entries_used (nth number)) (drop (first_of number) es)))
          ∙ ap (λ (l : List LogEntry). map (λ (e : LogEntry). e.word) l) (take-append-drop (entries_used (nth number)) (drop (first_of number) es)))))

  module _ (place : ℕ) (kept : KeptIn o c place) where
    abbrev g : Generation
    g = nth_generation c.generations place

    abbrev from : ℕ
    from = g.base - start_base o

    -- those of a kept generation's chain are the entries from its snapshot's position on
    pub chain_words : used_words (nth_log c.logs g.cut ∷ drop (suc g.cut) c.logs) ≡ map (λ (e : LogEntry). e.word) (drop from es)
    chain_words = used_from (length c.logs - suc g.cut) g.cut (let inside = inv.order.generations_rise.cut_inside place kept.inside in omega (arith, inside))
        ∙ ap (λ (base : ℕ). map (λ (e : LogEntry). e.word) (drop (base - start_base o) es)) (inv.order.generations_rise.cut_base place kept.inside)

    -- and such of them as are left are as many of those
    pub first_words : (count : ℕ) → take count (used_words (nth_log c.logs g.cut ∷ drop (suc g.cut) c.logs)) ≡ map (λ (e : LogEntry). e.word) (take count (drop from es))
    first_words count = ap (λ (l : List ℕ). take count l) chain_words ∙ take-map (λ (e : LogEntry). e.word) count (drop from es)

    pub chain_long : g.base + length (used_words (nth_log c.logs g.cut ∷ drop (suc g.cut) c.logs)) ≡ end_of o c.history
    chain_long =
        (let words = ap (λ (l : List ℕ). length l) chain_words ∙ (length-map (drop from es) (λ (e : LogEntry). e.word) ∙ length-drop from es) in
        let count = inv.order.log.count in
        let first = inv.order.generations_rise.from_first place kept.inside in
        let to_end = inv.order.generations_rise.to_end place kept.inside in
        omega (arith, words, count, first, to_end))

    module _ (words : List ℕ) (left : Survives c.memory words) where
      -- an entry says by the words that are left what it said, and has its form by them
      pub record SaysSame (e : LogEntry) : Type 0 where
        pub same : meaning words (shape o) e.word ≡ e.meaning
        pub form : is_log_entry words (shape o) e.word ≡ true

      says : (k : ℕ) → from ≤ k → k < length es → SaysSame (slice_index_or es k no_entry)
      says k late inside = record {
        same = same_meaning (λ (block : ℕ). block_words words (shape o) block) c.recorded (shape o) word form holder ∙ sym (ap (λ (e : LogEntry). e.meaning) is);
        form = by_words words (shape o) word (same_form (λ (block : ℕ). block_words words (shape o) block) c.recorded (shape o) word form holder);
      }
        where
          word : ℕ
          word = (slice_index_or es k no_entry).word

          is : slice_index_or es k no_entry ≡ entry_by c.recorded (slice_index_or es k no_entry).word
          is = (inv.contents place kept).entries_say.same k late inside

          form : is_log_entry_by c.recorded (shape o) (slice_index_or es k no_entry).word ≡ true
          form = (inv.contents place kept).entries_say.form k late inside

          holder_meaning : field ENTRY_KIND (slice_index_or es k no_entry).word ≡ INDIRECT → meaning_by c.recorded (slice_index_or es k no_entry).word
              ≡ indirect_meaning (field INDIRECT_BLOCK (slice_index_or es k no_entry).word) (c.recorded (field INDIRECT_BLOCK (slice_index_or es k no_entry).word))
          holder_meaning indirect = rw indirect refl

          listed_first : (number : ℕ) (more : List ℕ) → is_listed (number ∷ more) number ≡ true
          listed_first number more = rw (eq-eqb number number refl) refl

          holder : field ENTRY_KIND (slice_index_or es k no_entry).word ≡ INDIRECT →
              block_words words (shape o) (field INDIRECT_BLOCK (slice_index_or es k no_entry).word) ≡ c.recorded (field INDIRECT_BLOCK (slice_index_or es k no_entry).word)
          holder indirect = fixed o c inv words left place kept (field INDIRECT_BLOCK (slice_index_or es k no_entry).word)
              (has_right g.snapshots (data_names o es g) (field INDIRECT_BLOCK (slice_index_or es k no_entry).word)
              (has_right g.shared (entry_names (drop from es)) (field INDIRECT_BLOCK (slice_index_or es k no_entry).word)
              (among_names es from k (field INDIRECT_BLOCK (slice_index_or es k no_entry).word) late inside
              (subst (λ (m : Meaning). is_listed (names m) (field INDIRECT_BLOCK (slice_index_or es k no_entry).word) ≡ true) (sym (ap (λ (e : LogEntry). e.meaning) is ∙ holder_meaning indirect))
              (listed_first (field INDIRECT_BLOCK (slice_index_or es k no_entry).word) _)))))

      says_first : (count : ℕ) → AllByRecursion SaysSame (take count (drop from es))
      says_first count = each_place SaysSame (take count (drop from es)) no_entry (λ k small. (let low = short k small in
          subst (λ (e : LogEntry). SaysSame e) (sym (get_or-take count (drop from es) k no_entry low.0 ∙ get_or-drop from es k no_entry)) (says (from + k) (omega arith) low.1)))
        where
          short : (k : ℕ) → k < length (take count (drop from es)) → (k < count) × (from + k < length es)
          short k small = (let taken = length-take count (drop from es) in let dropped = length-drop from es in (omega (arith, small, taken), omega (arith, small, taken, dropped)))

      meanings_same : (later : List LogEntry) → AllByRecursion SaysSame later → map (meaning words (shape o)) (map (λ (e : LogEntry). e.word) later) ≡ meanings later
      meanings_same [] all = refl
      meanings_same (e ∷ later) all = ap (λ (m : Meaning). m ∷ map (meaning words (shape o)) (map (λ (e : LogEntry). e.word) later)) all.0.same ∙ ap (λ (l : List Meaning). e.meaning ∷ l) (meanings_same later all.1)

      forms_good : (later : List LogEntry) → AllByRecursion SaysSame later → list_all (is_log_entry words (shape o)) (map (λ (e : LogEntry). e.word) later) ≡ true
      forms_good [] all = refl
      forms_good (e ∷ later) all = rw all.0.form (forms_good later all.1)

      -- so do as many as are left
      pub left_meanings : (count : ℕ) → map (meaning words (shape o)) (map (λ (e : LogEntry). e.word) (take count (drop from es))) ≡ meanings (take count (drop from es))
      left_meanings count = meanings_same (take count (drop from es)) (says_first count)

      pub left_forms : (count : ℕ) → list_all (is_log_entry words (shape o)) (map (λ (e : LogEntry). e.word) (take count (drop from es))) ≡ true
      left_forms count = forms_good (take count (drop from es)) (says_first count)
