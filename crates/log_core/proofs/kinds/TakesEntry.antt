-- An entry that was found at the tail is taken in: the walk is one position further, with the entry's blocks in its table.
use Rattle.std.proofs.Common.{◌≡◌, ◌≢◌, ◌<◌, ◌≤◌, ◌⊎◌, ◌+◌, ◌-◌, ◌*◌, ◌/◌, ◌++◌, ◌==◌, ◌||◌, ◌&&◌, nat_le, nat_lt, max, inl, inr, ℕ, suc, Bool, true, false, if◌then◌else◌, List, [], ◌∷◌, length, map, take, drop, refl, sym, ◌∙◌, ap, subst, arith, slice_index, slice_index_or, Option, Some, None, append_assoc}
use Rattle.std.specs.List.{range_with_len}
use Rattle.std.specs.Option.{option_or}
use Rattle.std.proofs.Math.Seq.{take-suc}
use Rattle.std.proofs.lemmas.Grind.{same_number_lists}
use Rattle.std.proofs.lemmas.List.FromFn.{get_or-map-range_with_len, length-map-range_with_len}
use Rattle.std.proofs.lemmas.Bool.{and_parts, eqb-true, eq-eqb, or_right, ltb-false, leb-true}
use Rattle.std.proofs.lemmas.List.{map-append}
use Rattle.log_entry.specs.Fields.{field}
use Rattle.log_entry.specs.Shape.{longest_of, is_block_bytes}
use Rattle.log_entry.specs.declared.layouts.TheConstants.{SEAL, ENTRY_KIND, DIRECT, INDIRECT, INDIRECT_BLOCK}
use Rattle.log_entry.specs.declared.shapes.Geometry.{Geometry}
use Rattle.log_image.specs.Image.{Shape, shape_by, words_in, is_in_data}
use Rattle.log_image.specs.Entries.{Meaning, names, direct_meaning, indirect_meaning}
use Rattle.log_image.specs.Maps.{block_in, entry_end, size_after}
use Rattle.log_image.specs.Chains.{is_listed}
use Rattle.log_image.specs.Format.{fits, is_direct, is_indirect, is_indirect_block}
use Rattle.pmem_words.specs.Seats.{Seat}
use Rattle.persistence.specs.Memory.{cell}
use Rattle.log_core.specs.Entries.{place_in, LogEntry, no_entry, entry_by, meaning_by, meanings, entry_names}
use Rattle.log_core.specs.Views.{Ghost, view_of, op_of}
use Rattle.log_core.specs.Origin.{Origin, shape, first_position, start_base, start_size, first_snapshot, Generation, LogBlock}
use Rattle.log_core.specs.Files.{entries, end_of, file_at, history_map_at, history_size_at, byte_in}
use Rattle.log_core.specs.Cores.{Core, nth_log, number_at, log_at, entries_used, is_sealed, is_full, data_names}
use Rattle.log_core.specs.Works.{TakesEntry, HasFoundSlot, IsKeptWhole, kept_at, kept_word, kept_content, words_of, tail_word, tail_meaning, touches, bases_left, state_after_work}
use Rattle.log_core.specs.Order.{nth_generation}
use Rattle.log_core.specs.May.{is_log_entry_by}
use Rattle.log_core.specs.Walks.{WalkHolds, HasWalked}
use Rattle.log_core.specs.Noted.{NotedHolds, is_named_before}
use Rattle.log_core.specs.Records.{BasesHold}
use Rattle.log_core.specs.Certain.{IsGrowing}
use Rattle.log_core.specs.Invariant.{Invariant, KeptIn, around}
use Rattle.log_core.specs.Knows.{Knows}
use Rattle.log_core.proofs.KeptWords.{some_word, present_word}
use Rattle.log_core.proofs.PinnedChains.{place, kept, chain_kept, chain_says}
use Rattle.log_core.proofs.FileLimits.{fits_inside}
use Rattle.log_core.proofs.WalkMaps.{map_of_more, entry_taken, length_with_entry}
use Rattle.log_core.proofs.NotedBits.{length_more, more_noted}
use Rattle.log_core.proofs.NotedNames.{entry_more}
use Rattle.log_core.proofs.NotedGrown.{noted_inside}
use Rattle.log_core.proofs.BaseWords.{AreBases, left_bases, left_some}
use Rattle.log_core.proofs.LogTails.{TailLog, tail_log, entries_short, entry_counts, log_to_end}
use Rattle.log_core.proofs.clauses.Apart.{has_left, has_right, data_is_named}
use Rattle.log_core.proofs.clauses.MovedWalks.{move_with_bases}

-- the sizes and the maps of a history, one entry further
pub size_more : (image : Shape) (size : ℕ) (entries : List Meaning) (meaning : Meaning) → size_after image size (entries ++ meaning ∷ []) ≡ max (size_after image size entries) (entry_end image meaning)
size_more image size [] meaning = refl
size_more image size (entry ∷ entries) meaning = size_more image (max size (entry_end image entry)) entries meaning

module _ (o : Origin) (es : List LogEntry) (position : ℕ) (low : start_base o ≤ position) (inside : position - start_base o < length es) where
  abbrev next : LogEntry
  next = slice_index_or es (position - start_base o) no_entry

  one_more : meanings (take (position + 1 - start_base o) es) ≡ meanings (take (position - start_base o) es) ++ next.meaning ∷ []
  one_more = ap (λ (k : ℕ). meanings (take k es)) (let more : position + 1 - start_base o ≡ suc (position - start_base o) = omega (arith, low) in more)
      ∙ (ap (λ (l : List LogEntry). meanings l) (take-suc es (position - start_base o) no_entry inside) ∙ map-append (λ (e : LogEntry). e.meaning) (take (position - start_base o) es) (next ∷ []))

  pub map_next : (virt : ℕ) → history_map_at o es (position + 1) virt ≡ option_or (block_in next.meaning virt) (history_map_at o es position virt)
  map_next virt = ap (λ (l : List Meaning). Rattle.log_image.specs.Maps.map_of (first_snapshot o ++ l) virt) one_more
      ∙ (ap (λ (l : List Meaning). Rattle.log_image.specs.Maps.map_of l virt) (sym (append_assoc (first_snapshot o) (meanings (take (position - start_base o) es)) (next.meaning ∷ [])))
      ∙ map_of_more (first_snapshot o ++ meanings (take (position - start_base o) es)) next.meaning virt)

  pub size_next : history_size_at o es (position + 1) ≡ max (history_size_at o es position) (entry_end (shape o) next.meaning)
  size_next = ap (λ (l : List Meaning). size_after (shape o) (start_size o) l) one_more ∙ size_more (shape o) (start_size o) (meanings (take (position - start_base o) es)) next.meaning

-- an entry from one on is among their names
pub among_names : (es : List LogEntry) (from k block : ℕ) → from ≤ k → k < length es → is_listed (names (slice_index_or es k no_entry).meaning) block ≡ true → is_listed (entry_names (drop from es)) block ≡ true
among_names [] from k block low inside listed = absurd (omega (arith, inside))
among_names (e ∷ es) Rattle.std.proofs.Common.zero Rattle.std.proofs.Common.zero block low inside listed = has_left (names e.meaning) (entry_names es) block listed
among_names (e ∷ es) Rattle.std.proofs.Common.zero (suc k) block low inside listed = has_right (names e.meaning) (entry_names es) block (among_names es 0 k block (omega arith) (omega (arith, inside)) listed)
among_names (e ∷ es) (suc from) Rattle.std.proofs.Common.zero block low inside listed = absurd (omega (arith, low))
among_names (e ∷ es) (suc from) (suc k) block low inside listed = among_names es from k block (omega (arith, low)) (omega (arith, inside)) listed

-- what an entry of a log block says depends on its indirect block alone
pub same_meaning : (first second : ℕ → List ℕ) (image : Shape) (word : ℕ) → is_log_entry_by second image word ≡ true →
    (field ENTRY_KIND word ≡ INDIRECT → first (field INDIRECT_BLOCK word) ≡ second (field INDIRECT_BLOCK word)) → meaning_by first word ≡ meaning_by second word
same_meaning first second image word good same = go (field ENTRY_KIND word == DIRECT) refl
  where
    form : (if is_direct word then true else is_indirect word && is_in_data image (field INDIRECT_BLOCK word) && is_indirect_block image (second (field INDIRECT_BLOCK word))) ≡ true
    form = (and_parts (if is_direct word then true else is_indirect word && is_in_data image (field INDIRECT_BLOCK word) && is_indirect_block image (second (field INDIRECT_BLOCK word)))
        (fits image (longest_of image.block_bytes) (meaning_by second word)) good).0

    indirect : (direct : Bool) → is_direct word ≡ direct → (field ENTRY_KIND word == DIRECT) ≡ false →
        (if direct then true else is_indirect word && is_in_data image (field INDIRECT_BLOCK word) && is_indirect_block image (second (field INDIRECT_BLOCK word))) ≡ true → field ENTRY_KIND word ≡ INDIRECT
    indirect true is other f = (let both : true ≡ false = sym (and_parts (field ENTRY_KIND word == DIRECT) (Rattle.log_entry.specs.Words.entry_unnamed word == 0) is).0 ∙ other in cc)
    indirect false is other f = eqb-true (field ENTRY_KIND word) INDIRECT
        (and_parts (field ENTRY_KIND word == INDIRECT) (Rattle.log_entry.specs.Words.entry_unnamed word == 0)
        (and_parts (is_indirect word) (is_in_data image (field INDIRECT_BLOCK word)) (and_parts (is_indirect word && is_in_data image (field INDIRECT_BLOCK word)) (is_indirect_block image (second (field INDIRECT_BLOCK word))) f).0).0).0

    go : (direct : Bool) → (field ENTRY_KIND word == DIRECT) ≡ direct →
        (if direct then direct_meaning word else indirect_meaning (field INDIRECT_BLOCK word) (first (field INDIRECT_BLOCK word)))
        ≡ (if direct then direct_meaning word else indirect_meaning (field INDIRECT_BLOCK word) (second (field INDIRECT_BLOCK word)))
    go true e = refl
    go false e = ap (λ (content : List ℕ). indirect_meaning (field INDIRECT_BLOCK word) content) (same (indirect (is_direct word) refl e form))

-- where an entry does not touch a virtual block it names none for it
pub untouched : (meaning : Meaning) (virt : ℕ) → touches meaning virt ≡ false → block_in meaning virt ≡ None
untouched meaning virt none = go (nat_le meaning.virt virt) (nat_lt virt (meaning.virt + length meaning.blocks)) refl refl none
  where
    go : (low high : Bool) → nat_le meaning.virt virt ≡ low → nat_lt virt (meaning.virt + length meaning.blocks) ≡ high → (low && high) ≡ false →
        (if low then Rattle.std.specs.List.slice_get meaning.blocks (virt - meaning.virt) else None) ≡ None
    go true true e f never = cc
    go true false e f never = Rattle.std.proofs.lemmas.Option.slice_get_past meaning.blocks (virt - meaning.virt)
        (let past = ltb-false virt (meaning.virt + length meaning.blocks) f in let above = leb-true meaning.virt virt e in omega (arith, past, above))
    go false high e f never = refl

-- a block has eight bytes a word
pub eight_bytes : (bytes : ℕ) → is_block_bytes bytes ≡ true → bytes ≡ 8 * (bytes / 8)
eight_bytes bytes allowed = by (bytes == 64) (bytes == 512) (bytes == 4096) refl refl refl allowed
  where
    by : (small middle large : Bool) → (bytes == 64) ≡ small → (bytes == 512) ≡ middle → (bytes == 4096) ≡ large → (small || middle || large) ≡ true → bytes ≡ 8 * (bytes / 8)
    by true middle large is other another some = (let e = eqb-true bytes 64 is in omega (arith, e))
    by false true large is other another some = (let e = eqb-true bytes 512 other in omega (arith, e))
    by false false true is other another some = (let e = eqb-true bytes 4096 another in omega (arith, e))
    by false false false is other another some = cc

module _ (o : Origin) (c : Core) (n : ℕ) (s : Seat) (g : Ghost) (pin began : ℕ) (inv : Invariant o c) (unspent : (view_of c.views n).parts ≢ []) (f : Knows o c n s g pin began)
    (found : HasFoundSlot g s) (no_seal : tail_word s ≢ SEAL) where
  abbrev at : ℕ
  at = place o c n s g pin began inv f found.valid

  abbrev pinned : Generation
  pinned = nth_generation c.generations at

  in_chain : KeptIn o c at
  in_chain = kept o c n s g pin began inv f found.valid

  w : WalkHolds (around o c) s.hold s.walk
  w = f.walk unspent

  same_words : words_of s ≡ words_in (shape o)
  same_words = ap Rattle.pmem_words.specs.Seats.q_of (f.fits unspent).geometry

  walked : HasWalked o (entries o c.history) c.logs s.walk
  walked = w.walked (w.ready_walked found.ready).0 (w.ready_walked found.ready).1

  log : TailLog c s.walk pinned.cut
  log = tail_log o c inv at s.walk in_chain (w.ready_walked found.ready).0 walked (w.ready_base found.ready) (w.ready_tail found.ready)

  abbrev number : ℕ
  number = number_at c.logs s.walk.tail_base

  abbrev block : LogBlock
  block = nth_log c.logs number

  abbrev slot : ℕ
  slot = s.walk.tail_slot - 3

  abbrev es : List LogEntry
  es = entries o c.history

  unclosed : s.walk.tail_slot ≢ words_in (shape o)
  unclosed e = found.inside (e ∙ sym same_words)

  position_is : s.walk.position ≡ s.walk.tail_base + slot
  position_is = (walked.inside unclosed).0

  few : slot ≤ entries_used block
  few = (let inside = (walked.inside unclosed).1 in let same : entries_used block ≡ entries_used (log_at c.logs s.walk.tail_base) = ap (λ (l : LogBlock). entries_used l) log.log_is in omega (arith, inside, same))

  -- the entry's word stands at the tail's slot
  present : tail_word s ≡ slice_index c.memory.now.words (place_in (shape o) s.walk.tail_block s.walk.tail_slot)
  present = present_word found.used (chain_kept o c n s g pin began inv f found.valid unspent s.walk.tail_block s.walk.tail_slot (tail_word s)
      (some_word (kept_at s.walk.kept s.walk.tail_block s.walk.tail_slot) (tail_word s) refl found.used)).word_is

  slot_word : slice_index block.slots slot ≡ tail_word s
  slot_word =
      (let upto = walked.upto in
      let from = walked.from in
      let other = unclosed in
      let small = few in
      let short = entries_short block.slots in
      let grows : IsGrowing (cell c.memory (place_in (shape o) block.block (slot + 3))) (slice_index block.slots slot) =
      (inv.order.chains at in_chain number log.late log.inside).slots slot (omega (arith, upto, from, other)) (λ sealed. omega (arith, small, short)) in
      let here : s.walk.tail_slot ≡ slot + 3 = omega (arith, from) in
      sym grows.present ∙ (ap (λ (b : ℕ). slice_index c.memory.now.words (place_in (shape o) b (slot + 3))) log.block_is
      ∙ (ap (λ (k : ℕ). slice_index c.memory.now.words (place_in (shape o) s.walk.tail_block k)) (sym here) ∙ sym present)))

  used : slot < entries_used block
  used = entry_counts block.slots slot few (λ none. found.used (sym slot_word ∙ none)) (λ seal. no_seal (sym slot_word ∙ seal))

  pub within : s.walk.position < end_of o c.history
  within = (let position = position_is in let base = log.base_is in let end = log_to_end o c inv number log.inside in let more = used in omega (arith, position, base, end, more))

  from_start : start_base o ≤ s.walk.position
  from_start = (let low = inv.order.generations_rise.from_first at in_chain.inside in let base = w.ready_base found.ready in let tail = w.ready_tail found.ready in let position = position_is in
      omega (arith, low, base, tail, position))

  inside_log : s.walk.position - start_base o < length es
  inside_log = (let count = inv.order.log.count in let low = from_start in let high = within in omega (arith, count, low, high))

  late : pinned.base - start_base o ≤ s.walk.position - start_base o
  late = (let base = w.ready_base found.ready in let tail = w.ready_tail found.ready in let position = position_is in omega (arith, base, tail, position))

  -- it is the history's at that position
  abbrev entry : LogEntry
  entry = slice_index_or es (s.walk.position - start_base o) no_entry

  entry_word : entry.word ≡ tail_word s
  entry_word =
      (let short = entries_short block.slots in
      let more = used in
      let position = position_is in
      let base = log.base_is in
      let same : block.base + slot - start_base o ≡ s.walk.position - start_base o = omega (arith, position, base) in
      sym (inv.order.log.entries number slot (omega (arith, short, more)) (λ seal. no_seal (sym slot_word ∙ seal))
      ∙ ap (λ (k : ℕ). (slice_index_or es k no_entry).word) same) ∙ slot_word)

  said : entry ≡ entry_by c.recorded entry.word
  said = (inv.contents at in_chain).entries_say.same (s.walk.position - start_base o) late inside_log

  pub form : is_log_entry_by c.recorded (shape o) (tail_word s) ≡ true
  form = subst (λ (word : ℕ). is_log_entry_by c.recorded (shape o) word ≡ true) entry_word ((inv.contents at in_chain).entries_say.form (s.walk.position - start_base o) late inside_log)

  recorded_meaning : entry.meaning ≡ meaning_by c.recorded (tail_word s)
  recorded_meaning = ap (λ (e : LogEntry). e.meaning) said ∙ ap (λ (word : ℕ). meaning_by c.recorded word) entry_word

  -- a kept block is as recorded
  pub listed_word : (block : ℕ) → is_listed (pinned.snapshots ++ data_names o es pinned) block ≡ true → IsKeptWhole s block → kept_content s block ≡ c.recorded block
  listed_word other listed each = same_number_lists (kept_content s other) (c.recorded other)
      (length-map-range_with_len (λ (k : ℕ). kept_word s other k) 0 (words_of s) ∙ (same_words ∙ sym ((inv.contents at in_chain).whole other (data_is_named o c.logs es pinned other listed))))
      (λ k inside. (let low : k < words_of s = subst (λ (m : ℕ). k < m) (length-map-range_with_len (λ (j : ℕ). kept_word s other j) 0 (words_of s)) inside in
      get_or-map-range_with_len (λ (j : ℕ). kept_word s other j) 0 (words_of s) k k 0 low (omega arith) ∙ chain_says o c n s g pin began inv f found.valid unspent other k listed (each k low)))

  -- the block of an indirect entry is named
  pub holder_named : field ENTRY_KIND (tail_word s) ≡ INDIRECT → is_listed (data_names o es pinned) (field INDIRECT_BLOCK (tail_word s)) ≡ true
  holder_named indirect =
      has_right pinned.shared (entry_names (drop (pinned.base - start_base o) es)) (field INDIRECT_BLOCK (tail_word s))
      (among_names es (pinned.base - start_base o) (s.walk.position - start_base o) (field INDIRECT_BLOCK (tail_word s)) late inside_log
      (subst (λ (m : Meaning). is_listed (names m) (field INDIRECT_BLOCK (tail_word s)) ≡ true) (sym (recorded_meaning ∙ holder_meaning)) (listed_first (field INDIRECT_BLOCK (tail_word s)) _)))
    where
      listed_first : (number : ℕ) (more : List ℕ) → is_listed (number ∷ more) number ≡ true
      listed_first number more = rw (eq-eqb number number refl) refl

      holder_meaning : meaning_by c.recorded (tail_word s) ≡ indirect_meaning (field INDIRECT_BLOCK (tail_word s)) (c.recorded (field INDIRECT_BLOCK (tail_word s)))
      holder_meaning = rw (indirect) refl

  -- each word of that block is kept
  module _ (whole : field ENTRY_KIND (tail_word s) ≡ INDIRECT → IsKeptWhole s (field INDIRECT_BLOCK (tail_word s))) where
    indirect_same : field ENTRY_KIND (tail_word s) ≡ INDIRECT → kept_content s (field INDIRECT_BLOCK (tail_word s)) ≡ c.recorded (field INDIRECT_BLOCK (tail_word s))
    indirect_same indirect = listed_word (field INDIRECT_BLOCK (tail_word s)) (has_right pinned.snapshots (data_names o es pinned) (field INDIRECT_BLOCK (tail_word s)) (holder_named indirect)) (whole indirect)

    -- so what the seat takes in is that entry
    pub meaning_is : tail_meaning s ≡ entry.meaning
    meaning_is = same_meaning (λ (b : ℕ). kept_content s b) c.recorded (shape o) (tail_word s) form indirect_same ∙ sym recorded_meaning

    pub inside_map : (tail_meaning s).virt + length (tail_meaning s).blocks ≤ length s.walk.map
    inside_map = (let most = fits_inside (shape o) (longest_of (shape o).block_bytes) (meaning_by c.recorded (tail_word s))
        (and_parts (if is_direct (tail_word s) then true else is_indirect (tail_word s) && is_in_data (shape o) (field INDIRECT_BLOCK (tail_word s)) && is_indirect_block (shape o) (c.recorded (field INDIRECT_BLOCK (tail_word s))))
        (fits (shape o) (longest_of (shape o).block_bytes) (meaning_by c.recorded (tail_word s))) form).1 in
        let same = meaning_is ∙ recorded_meaning in
        let long = (f.fits unspent).map in
        subst (λ (m : Meaning). m.virt + length m.blocks ≤ length s.walk.map) (sym same) (omega (arith, most, long)))

    abbrev new : Seat
    new = state_after_work s TakesEntry

    walk_taken : WalkHolds (around o c) s.hold new.walk
    walk_taken = record {
      to_end = (let low = within in omega (arith, low));
      from_first = w.from_first;
      to_current = w.to_current;
      read = λ reading. (let stopped = (w.ready_walked found.ready).1 in let both : true ≡ false = sym reading ∙ stopped in cc);
      kept_words = λ valid. tt;
      unpinned = λ invalid. refl;
      walked = λ some stopped. record {
        table = λ virt. entry_taken (tail_meaning s) s.walk.map (λ v. history_map_at o es s.walk.position v) inside_map walked.table virt
            ∙ (ap (λ (m : Meaning). option_or (block_in m virt) (history_map_at o es s.walk.position virt)) meaning_is ∙ sym (map_next o es s.walk.position from_start inside_log virt));
        size_is = ap (λ (k : ℕ). max k ((((tail_meaning s).virt + length (tail_meaning s).blocks) * (shape_by s.geometry).block_bytes) - (tail_meaning s).leftover)) walked.size_is
            ∙ (ap (λ (b : ℕ). max (history_size_at o es s.walk.position) (((tail_meaning s).virt + length (tail_meaning s).blocks) * b - (tail_meaning s).leftover)) (ap (λ (geometry : Geometry). geometry.block_bytes) (f.fits unspent).geometry)
            ∙ (ap (λ (m : Meaning). max (history_size_at o es s.walk.position) (entry_end (shape o) m)) meaning_is ∙ sym (size_next o es s.walk.position from_start inside_log)));
        base = walked.base;
        block = walked.block;
        from = (let low = walked.from in omega (arith, low));
        upto = (let high = walked.upto in let other = unclosed in omega (arith, high, other));
        inside = λ other. (
          (let position = position_is in let low = walked.from in omega (arith, position, low)),
          (let more = used in let low = walked.from in
              let same : entries_used block ≡ entries_used (log_at c.logs s.walk.tail_base) = ap (λ (l : LogBlock). entries_used l) log.log_is in omega (arith, more, low, same)),
        );
        at_end = λ last. (
          full_is last,
          (let position = position_is in let same : entries_used block ≡ entries_used (log_at c.logs s.walk.tail_base) = ap (λ (l : LogBlock). entries_used l) log.log_is in
              let all = all_used last in omega (arith, position, same, all)),
        );
      };
      ready_walked = w.ready_walked;
      ready_base = w.ready_base;
      ready_tail = w.ready_tail;
      seeking = w.seeking;
      first_known = w.first_known;
    }
      where
        all_slots : s.walk.tail_slot + 1 ≡ words_in (shape o) → length block.slots + 3 ≡ words_in (shape o)
        all_slots last = (let more = used in let short = entries_short block.slots in let most = inv.order.log.inside number log.inside in let low = walked.from in omega (arith, last, more, short, most, low))

        all_used : s.walk.tail_slot + 1 ≡ words_in (shape o) → entries_used block ≡ slot + 1
        all_used last = (let more = used in let short = entries_short block.slots in let all = all_slots last in let low = walked.from in omega (arith, last, more, short, all, low))

        full_is : s.walk.tail_slot + 1 ≡ words_in (shape o) → is_full (shape o) (log_at c.logs s.walk.tail_base).slots ≡ true
        full_is last = subst (λ (l : LogBlock). is_full (shape o) l.slots ≡ true) log.log_is
            (or_right (is_sealed block.slots) (length block.slots + 3 == words_in (shape o)) (eq-eqb (length block.slots + 3) (words_in (shape o)) (all_slots last)))

    -- the bases that are left are of virtual blocks that the entry does not touch
    abbrev Running : Type 0
    Running = (op_of s.calling.job s.calling.bytes ≢ None) × (first_position o ≤ s.walk.position)

    eight : o.geometry.block_bytes ≡ 8 * words_of s
    eight = eight_bytes o.geometry.block_bytes o.geometry.block_allowed ∙ ap (λ (geometry : Geometry). 8 * Rattle.pmem_words.specs.Seats.q_of geometry) (sym (f.fits unspent).geometry)

    abbrev byte_at : ℕ → ℕ → ℕ → ℕ
    byte_at position virt k = slice_index (file_at o c.history position) (virt * o.geometry.block_bytes + k)

    -- whose bytes are the same before and after it
    same_bytes : Running → (virt k : ℕ) → touches (tail_meaning s) virt ≡ false → k < o.geometry.block_bytes → byte_at s.walk.position virt k ≡ byte_at (s.walk.position + 1) virt k
    same_bytes running virt k none low =
        (let first = running.1 in
        let before = ((inv.contents at in_chain).files s.walk.position (let late_base = w.ready_base found.ready in let tail = w.ready_tail found.ready in let position = position_is in omega (arith, late_base, tail, position)) w.to_end).held first in
        let after = ((inv.contents at in_chain).files (s.walk.position + 1) (let late_base = w.ready_base found.ready in let tail = w.ready_tail found.ready in let position = position_is in omega (arith, late_base, tail, position))
        (let high = within in omega (arith, high))).held (omega (arith, first)) in
        let same_map : history_map_at o es (s.walk.position + 1) virt ≡ history_map_at o es s.walk.position virt =
        map_next o es s.walk.position from_start inside_log virt
        ∙ ap (λ (held : Option ℕ). option_or held (history_map_at o es s.walk.position virt)) (ap (λ (m : Meaning). block_in m virt) (sym meaning_is) ∙ untouched (tail_meaning s) virt none) in
        sym (before.each virt k low) ∙ (ap (λ (held : Option ℕ). byte_in c.recorded held k) (sym same_map) ∙ after.each virt k low))

    bases_were : AreBases (words_of s) o.geometry.block_bytes eight Running (byte_at s.walk.position) s.calling.bases s.calling.base_words
    bases_were = (let b = f.calls.bases in record { most = b.most; whole = b.whole; bytes = λ running place k inside low within. b.bytes running.0 place k inside low within })

    bases_hold : BasesHold o c.history (view_of c.views n).first (words_of s) new.walk.position new.calling
    bases_hold =
        (let b = f.calls.bases in
        let left = left_bases (words_of s) o.geometry.block_bytes eight Running (byte_at s.walk.position) (byte_at (s.walk.position + 1)) (tail_meaning s) same_bytes s.calling.bases s.calling.base_words bases_were in
        record {
          most = left.most;
          whole = left.whole;
          from_first = λ some. (let low = b.from_first (were_some some) in omega (arith, low));
          bytes = λ running place k inside low within. left.bytes (
            running,
            subst (λ (first : ℕ). first ≤ s.walk.position) (f.fits unspent).first
                (b.from_first (λ none. absurd (let more = left_some (words_of s) o.geometry.block_bytes eight Running (tail_meaning s) s.calling.bases (omega (arith, inside)) in
                let empty : length s.calling.bases ≡ 0 = ap (λ (l : List ℕ). length l) none in omega (arith, more, empty)))),
          ) place k inside low within;
        })
      where
        were_some : bases_left (tail_meaning s) s.calling.bases ≢ [] → s.calling.bases ≢ []
        were_some some none = some (ap (λ (l : List ℕ). bases_left (tail_meaning s) l) none)

    -- the chain names the entry's blocks more
    noted_taken : NotedHolds (around o c) s.hold new.walk s.calling new.blocks.named
    noted_taken = (
      (f.noted unspent).0,
      (λ on reading. (let both : true ≡ false = sym reading ∙ (w.ready_walked found.ready).1 in cc)),
      (λ on ready b low. more_noted s.calling.noting s.blocks.named (names (tail_meaning s)) b on (noted_inside o c n s g pin began f unspent b low)
          ∙ (ap (λ (t : Bool). is_listed (names (tail_meaning s)) b || t) ((f.noted unspent).2 on ready b low)
          ∙ (ap (λ (m : Meaning). is_listed (names m) b || is_named_before o c.logs es pinned s.walk b) meaning_is
          ∙ sym (entry_more o (take (number + 1) c.logs) es pinned s.walk.position from_start (let base = w.ready_base found.ready in let tail = w.ready_tail found.ready in let position = position_is in omega (arith, base, tail, position)) inside_log b)))),
    )

    pub entry_facts : Knows o c n new g pin began
    entry_facts = move_with_bases o c n s g pin began new.walk new.calling.bases new.calling.base_words s.calling.noting new.blocks.named (length_more s.calling.noting s.blocks.named _) f found.free (inr (w.ready_walked found.ready).1) bases_hold refl
        (λ some. length_with_entry (tail_meaning s) s.walk.map ∙ (f.fits some).map) (λ some. walk_taken) (λ some. noted_taken)
