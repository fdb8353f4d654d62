-- A snapshot is read: an entry is taken in, the next block is begun, or the first log block after the last one.
use Rattle.std.proofs.Common.{◌≡◌, ◌≢◌, ◌<◌, ◌≤◌, ◌+◌, ◌-◌, ◌++◌, ◌==◌, ◌&&◌, nat_le, min, ⊎_elim, ℕ, Bool, true, false, List, [], ◌∷◌, length, map, drop, refl, sym, ◌∙◌, ap, subst, arith, slice_index, Option, Some, None}
use Rattle.std.specs.List.{list_all}
use Rattle.std.proofs.lemmas.Bool.{and_parts, eqb-true, leb-true, cases_lt}
use Rattle.std.proofs.lemmas.List.{length-drop, length-take, get_or-drop, get_or-take}
use Rattle.log_core.proofs.starts.StartChain.{test_at}
use Rattle.log_core.proofs.FileLimits.{fits_inside}
use Rattle.log_entry.specs.Fields.{field}
use Rattle.log_entry.specs.Shape.{limit_of}
use Rattle.log_entry.specs.declared.layouts.TheConstants.{LOG, SNAPSHOT, DIRECT_LEFTOVER}
use Rattle.log_image.specs.Image.{words_in}
use Rattle.log_image.specs.Entries.{Meaning, direct_meaning}
use Rattle.log_image.specs.Maps.{map_of}
use Rattle.log_image.specs.Blocks.{entry_count, file_size, slots_of, kept_words}
use Rattle.log_image.specs.Chains.{all_different, is_listed}
use Rattle.log_image.specs.Format.{is_snapshot_block, is_snapshot_entry, is_direct, fits, all_zero}
use Rattle.pmem_words.specs.Seats.{Seat, Walk}
use Rattle.pmem_words.specs.Maps.{map_at}
use Rattle.log_core.specs.After.{snapshot_meanings}
use Rattle.log_core.specs.Views.{Ghost, view_of, op_in}
use Rattle.log_core.specs.Origin.{Origin, shape, first_generation, Generation, LogBlock}
use Rattle.log_core.specs.Files.{entries, history_map_at, history_size_at}
use Rattle.log_core.specs.Cores.{Core, nth_log, log_at, log_blocks, data_names}
use Rattle.log_core.specs.Works.{ReadsRun, NextSnapshot, EndsReading, IsReading, HasReadBlock, IsFree, kept_at, kept_word, word_or_zero, words_of, state_after_work}
use Rattle.log_core.specs.Order.{nth_generation}
use Rattle.log_core.specs.Snapshots.{AreSnapshotBlocks}
use Rattle.log_core.specs.Walks.{WalkHolds, HasRead, IsSnapshotBlock, read_meanings}
use Rattle.log_core.specs.Invariant.{Invariant, KeptIn, around}
use Rattle.log_core.specs.Knows.{Knows}
use Rattle.log_core.proofs.KeptWords.{some_word}
use Rattle.log_core.proofs.ChainWords.{front_different}
use Rattle.log_core.proofs.PinnedChains.{place, kept, some_generation, chain_kept, chain_says}
use Rattle.log_core.proofs.SnapshotLinks.{no_log, no_later, next_block}
use Rattle.log_core.proofs.SnapshotReads.{is_of_snapshot, snapshot_form, read_more, Onward, Last, Later, read_on}
use Rattle.log_core.proofs.WalkMaps.{map_of_more, entry_taken}
use Rattle.log_core.proofs.LogTails.{log_again, some_block}
use Rattle.log_core.proofs.clauses.Apart.{has_left, data_is_named}

-- the words of a snapshot block after its entries are 0, and no entry is
module _ (o : Origin) (content : List ℕ) (good : is_snapshot_block (shape o) content ≡ true) where
  abbrev few : Bool
  few = nat_le (entry_count content) (words_in (shape o) - 3)

  abbrev small : Bool
  small = nat_le (file_size content) (limit_of (shape o).block_bytes)

  parts : ((few && small && list_all (is_snapshot_entry (shape o)) (kept_words content)) ≡ true) × (all_zero (drop (entry_count content) (slots_of content)) ≡ true)
  parts = and_parts (few && small && list_all (is_snapshot_entry (shape o)) (kept_words content)) (all_zero (drop (entry_count content) (slots_of content))) good

  pub entries_few : entry_count content ≤ words_in (shape o) - 3
  entries_few = leb-true (entry_count content) (words_in (shape o) - 3)
      (and_parts few small (and_parts (few && small) (list_all (is_snapshot_entry (shape o)) (kept_words content)) parts.0).0).0

  all_entries : list_all (is_snapshot_entry (shape o)) (kept_words content) ≡ true
  all_entries = (and_parts (few && small) (list_all (is_snapshot_entry (shape o)) (kept_words content)) parts.0).1

  zeros : all_zero (drop (entry_count content) (slots_of content)) ≡ true
  zeros = parts.1

  -- a slot after the entries is empty
  pub after_entries : (slot : ℕ) → 3 + entry_count content ≤ slot → slot < length content → slice_index content slot ≡ 0
  after_entries slot past inside =
      (let at = slot - 3 - entry_count content in
      let long : length (drop (entry_count content) (slots_of content)) ≡ length content - 3 - entry_count content =
      length-drop (entry_count content) (slots_of content) ∙ ap (λ (k : ℕ). k - entry_count content) (length-drop 3 content) in
      let is_zero : slice_index (drop (entry_count content) (slots_of content)) at ≡ 0 = eqb-true _ 0
      (test_at (λ (word : ℕ). word == 0) (drop (entry_count content) (slots_of content)) at zeros (omega (arith, long, past, inside))) in
      sym (get_or-drop (entry_count content) (slots_of content) at 0
      ∙ (get_or-drop 3 content (entry_count content + at) 0 ∙ ap (λ (k : ℕ). slice_index content k) (let same : 3 + (entry_count content + at) ≡ slot = omega (arith, past) in same))) ∙ is_zero)

  -- and one of them has the form of an entry
  pub entry_form : (slot : ℕ) → 3 ≤ slot → slot < 3 + entry_count content → slot < length content → is_snapshot_entry (shape o) (slice_index content slot) ≡ true
  entry_form slot low few_more inside =
      (let at = slot - 3 in
      let long : length (kept_words content) ≡ min (entry_count content) (length content - 3) = length-take (entry_count content) (slots_of content) ∙ ap (λ (k : ℕ). min (entry_count content) k) (length-drop 3 content) in
      let same : slice_index (kept_words content) at ≡ slice_index content slot =
      get_or-take (entry_count content) (slots_of content) at 0 (omega (arith, low, few_more))
      ∙ (get_or-drop 3 content at 0 ∙ ap (λ (k : ℕ). slice_index content k) (let again : 3 + at ≡ slot = omega (arith, low) in again)) in
      subst (λ (word : ℕ). is_snapshot_entry (shape o) word ≡ true) same (test_at (is_snapshot_entry (shape o)) (kept_words content) at all_entries (omega (arith, long, low, few_more, inside))))

entry_inside : (o : Origin) (word : ℕ) → is_snapshot_entry (shape o) word ≡ true → (direct_meaning word).virt + length (direct_meaning word).blocks ≤ 65536
entry_inside o word good = fits_inside (shape o) 256 (direct_meaning word) (and_parts (is_direct word && field DIRECT_LEFTOVER word == 0) (fits (shape o) 256 (direct_meaning word)) good).1

no_entry_zero : (o : Origin) (word : ℕ) → word ≡ 0 → is_snapshot_entry (shape o) word ≡ true → ⊥
no_entry_zero o word none good = (let never : is_snapshot_entry (shape o) 0 ≡ true = subst (λ (w : ℕ). is_snapshot_entry (shape o) w ≡ true) none good in cc)

module _ (o : Origin) (c : Core) (n : ℕ) (s : Seat) (g : Ghost) (pin began : ℕ) (inv : Invariant o c) (f : Knows o c n s g pin began) (reading : IsReading s) where
  abbrev at : ℕ
  at = place o c n s g pin began inv f reading.valid

  abbrev pinned : Generation
  pinned = nth_generation c.generations at

  in_chain : KeptIn o c at
  in_chain = kept o c n s g pin began inv f reading.valid

  -- while a snapshot is read the call has nothing to lose
  pub free : IsFree g s.calling
  free = (let r = f.calls.reading reading.reading in record { none_laid = r.1; not_won = r.2; no_sync = r.3; no_head = r.4 })

  pub no_bases : op_in s ≢ None → s.calling.bases ≡ []
  no_bases = (f.calls.reading reading.reading).5

  pub away : s.walk.at_tail ≡ false
  away = (f.calls.reading reading.reading).0

  module _ (some : (view_of c.views n).parts ≢ []) where
    w : WalkHolds (around o c) s.hold s.walk
    w = f.walk some

    pub has_read : HasRead c.recorded pinned s.walk
    has_read = subst (λ (number : ℕ). KeptIn o c (number - first_generation o) → HasRead c.recorded (nth_generation c.generations (number - first_generation o)) s.walk) reading.pinned (w.read reading.reading) in_chain

    abbrev block : ℕ
    block = s.walk.reading_block

    pub in_snapshot : is_listed pinned.snapshots block ≡ true
    in_snapshot = is_of_snapshot c.recorded pinned s.walk has_read

    pub listed : is_listed (pinned.snapshots ++ data_names o (entries o c.history) pinned) block ≡ true
    listed = has_left pinned.snapshots (data_names o (entries o c.history) pinned) block in_snapshot

    pub held : IsSnapshotBlock pinned s.walk.reading_place block
    held = record { inside = has_read.inside; block_is = has_read.block }

    pub some_blocks : 0 < length pinned.snapshots
    some_blocks = (let inside = has_read.inside in omega (arith, inside))

    pub are_blocks : AreSnapshotBlocks (shape o) c.recorded pinned.base pinned.size pinned.snapshots (nth_log c.logs pinned.cut).block
    are_blocks = Rattle.log_core.proofs.SnapshotLinks.are_blocks o c n s g pin began inv f reading.valid some held

    form : is_snapshot_block (shape o) (c.recorded block) ≡ true
    form = (snapshot_form (shape o) c.recorded pinned.base pinned.size (nth_log c.logs pinned.cut).block pinned.snapshots block are_blocks in_snapshot).1

    long : length (c.recorded block) ≡ words_in (shape o)
    long = (inv.contents at in_chain).whole block (data_is_named o c.logs (entries o c.history) pinned block listed)

    same_words : words_of s ≡ words_in (shape o)
    same_words = ap Rattle.pmem_words.specs.Seats.q_of (f.fits some).geometry

    -- the walk with another place in the same snapshot, and what was read up to it
    abbrev pub placed_at : List (Option ℕ) → ℕ → ℕ → ℕ → Walk
    placed_at map next slot number = record (s.walk) { map = map; reading_block = next; reading_slot = slot; reading_place = number; kept = [] }

    pub reads_on : (map : List (Option ℕ)) (next slot number : ℕ) → HasRead c.recorded pinned (placed_at map next slot number) → WalkHolds (around o c) s.hold (placed_at map next slot number)
    reads_on map next slot number read_now = record {
      to_end = w.to_end;
      from_first = w.from_first;
      to_current = w.to_current;
      read = λ again kept_again. subst (λ (gen : ℕ). HasRead c.recorded (nth_generation c.generations (gen - first_generation o)) (placed_at map next slot number))
          (sym reading.pinned) read_now;
      kept_words = λ valid. tt;
      unpinned = λ invalid. refl;
      walked = λ some_tail stopped. (let both : true ≡ false = sym reading.reading ∙ stopped in cc);
      ready_walked = w.ready_walked;
      ready_base = w.ready_base;
      ready_tail = w.ready_tail;
      seeking = λ ready. (let both : true ≡ false = sym reading.reading ∙ (w.ready_walked ready).1 in cc);
      first_known = w.first_known;
    }

    -- an entry is taken in
    module _ (used : kept_word s block s.walk.reading_slot ≢ 0) where
      abbrev slot : ℕ
      slot = s.walk.reading_slot

      found : kept_at s.walk.kept block slot ≡ Some (kept_word s block slot)
      found = some_word (kept_at s.walk.kept block slot) (kept_word s block slot) refl used

      word_says : kept_word s block slot ≡ slice_index (c.recorded block) slot
      word_says = chain_says o c n s g pin began inv f reading.valid some block slot listed (λ none. used (ap (λ (w : Option ℕ). word_or_zero w) none))

      inside : slot < length (c.recorded block)
      inside = subst (λ (k : ℕ). slot < k) (sym long) (chain_kept o c n s g pin began inv f reading.valid some block slot (kept_word s block slot) found).inside

      among : slot < 3 + entry_count (c.recorded block)
      among = ⊎_elim (λ low. low) (λ past. absurd (used (word_says ∙ after_entries o (c.recorded block) form slot past inside))) (cases_lt slot (3 + entry_count (c.recorded block)))

      -- it has the form of an entry
      pub run_form : is_snapshot_entry (shape o) (kept_word s block slot) ≡ true
      run_form = subst (λ (word : ℕ). is_snapshot_entry (shape o) word ≡ true) (sym word_says) (entry_form o (c.recorded block) form slot has_read.from among inside)

      abbrev meaning : Meaning
      meaning = direct_meaning (kept_word s block slot)

      within : meaning.virt + length meaning.blocks ≤ length s.walk.map
      within = (let fits_map = (f.fits some).map in
          let most = entry_inside o (kept_word s block slot) run_form in
          omega (arith, fits_map, most))

      pub more : read_meanings c.recorded pinned.snapshots block (slot + 1) ≡ read_meanings c.recorded pinned.snapshots block slot ++ meaning ∷ []
      more = read_more c.recorded pinned.snapshots block slot in_snapshot has_read.from inside ∙ ap (λ (word : ℕ). read_meanings c.recorded pinned.snapshots block slot ++ direct_meaning word ∷ []) (sym word_says)

      pub run_read : HasRead c.recorded pinned (state_after_work s ReadsRun).walk
      run_read = record {
        inside = has_read.inside;
        block = has_read.block;
        from = (let low = has_read.from in omega (arith, low));
        upto = (let low = among in omega (arith, low));
        table = λ virt. entry_taken meaning s.walk.map (λ v. map_of (read_meanings c.recorded pinned.snapshots block slot) v) within has_read.table virt
            ∙ (sym (map_of_more (read_meanings c.recorded pinned.snapshots block slot) meaning virt) ∙ ap (λ (l : List Meaning). map_of l virt) (sym more));
        size_is = has_read.size_is;
        position_is = has_read.position_is;
      }

    -- the block at hand has no entry more, and another follows
    module _ (kind : ℕ) (done : HasReadBlock s kind) where
      pub slot_is : s.walk.reading_slot ≡ 3 + entry_count (c.recorded block)
      slot_is = ⊎_elim
          (λ last. (let upto = has_read.upto in let few = entries_few o (c.recorded block) form in let same = same_words in let wide = inv.sizes.image.wide in omega (arith, last, upto, few, same, wide)))
          (λ empty. ⊎_elim (λ low. absurd (not_among low empty)) (λ past. (let upto = has_read.upto in omega (arith, past, upto))) (cases_lt s.walk.reading_slot (3 + entry_count (c.recorded block))))
          done.no_more
        where
          not_among : s.walk.reading_slot < 3 + entry_count (c.recorded block) → kept_at s.walk.kept block s.walk.reading_slot ≡ Some 0 → ⊥
          not_among low empty = no_entry_zero o (slice_index (c.recorded block) s.walk.reading_slot)
              (sym (chain_says o c n s g pin began inv f reading.valid some block s.walk.reading_slot listed (λ none. (let both : Some 0 ≡ None = sym empty ∙ none in cc)))
              ∙ ap (λ (found : Option ℕ). word_or_zero found) empty)
              (entry_form o (c.recorded block) form s.walk.reading_slot has_read.from low
              (subst (λ (k : ℕ). s.walk.reading_slot < k) (sym long) (chain_kept o c n s g pin began inv f reading.valid some block s.walk.reading_slot 0 empty).inside))

      abbrev next : ℕ
      next = kept_word s block 0

      next_is : next ≡ slice_index (c.recorded block) 0
      next_is = Rattle.log_core.proofs.SnapshotLinks.next_is o c n s g pin began inv f reading.valid some held kind done.followed

      once : all_different pinned.snapshots ≡ true
      once = front_different pinned.snapshots (log_blocks (drop pinned.cut c.logs))
          (front_different (pinned.snapshots ++ log_blocks (drop pinned.cut c.logs)) (data_names o (entries o c.history) pinned) (inv.owners.once at in_chain).once)

      pub onward : Onward c.recorded pinned.snapshots (nth_log c.logs pinned.cut).block block next
      onward = subst (λ (k : ℕ). Onward c.recorded pinned.snapshots (nth_log c.logs pinned.cut).block block k) (sym next_is)
          (read_on c.recorded (shape o) pinned.base pinned.size (nth_log c.logs pinned.cut).block pinned.snapshots block are_blocks once in_snapshot)

      -- what was read is all up to the block's last entry
      table_is : (virt : ℕ) → map_at s.walk.map virt ≡ map_of (read_meanings c.recorded pinned.snapshots block (3 + entry_count (c.recorded block))) virt
      table_is virt = has_read.table virt ∙ ap (λ (k : ℕ). map_of (read_meanings c.recorded pinned.snapshots block k) virt) slot_is

    -- of the next block nothing is read yet
    module _ (done : HasReadBlock s SNAPSHOT) where
      at_next : IsSnapshotBlock pinned (s.walk.reading_place + 1) (kept_word s block 0)
      at_next = next_block o c n s g pin began inv f reading.valid some held SNAPSHOT done.followed refl

      pub next_read : HasRead c.recorded pinned (state_after_work s NextSnapshot).walk
      next_read = by (onward SNAPSHOT done)
        where
          by : Onward c.recorded pinned.snapshots (nth_log c.logs pinned.cut).block block (kept_word s block 0) → HasRead c.recorded pinned (state_after_work s NextSnapshot).walk
          by (Last is read) = absurd (no_log o c n s g pin began inv f reading.valid some held SNAPSHOT done.followed is refl)
          by (Later later read) = record {
            inside = at_next.inside;
            block = at_next.block_is;
            from = omega arith;
            upto = omega arith;
            table = λ virt. table_is SNAPSHOT done virt ∙ ap (λ (l : List Meaning). map_of l virt) read;
            size_is = has_read.size_is;
            position_is = has_read.position_is;
          }

    -- a snapshot read whole is the map at its position, where the first log block begins
    module _ (done : HasReadBlock s LOG) where
      pub all_read : (kept_word s block 0 ≡ (nth_log c.logs pinned.cut).block) × (read_meanings c.recorded pinned.snapshots block (3 + entry_count (c.recorded block)) ≡ snapshot_meanings c.recorded pinned.snapshots)
      all_read = by (onward LOG done)
        where
          by : Onward c.recorded pinned.snapshots (nth_log c.logs pinned.cut).block block (kept_word s block 0) →
              (kept_word s block 0 ≡ (nth_log c.logs pinned.cut).block) × (read_meanings c.recorded pinned.snapshots block (3 + entry_count (c.recorded block)) ≡ snapshot_meanings c.recorded pinned.snapshots)
          by (Last is read) = (is, read)
          by (Later later read) = absurd (no_later o c n s g pin began inv f reading.valid some held LOG done.followed later refl)

      cut_log : log_at c.logs s.walk.position ≡ nth_log c.logs pinned.cut
      cut_log = ap (λ (base : ℕ). log_at c.logs base) (has_read.position_is ∙ sym (inv.order.generations_rise.cut_base at in_chain.inside))
          ∙ log_again o c inv pinned.cut (inv.order.generations_rise.cut_inside at in_chain.inside)

      pub walk_ended : WalkHolds (around o c) s.hold (state_after_work s EndsReading).walk
      walk_ended = record {
        to_end = w.to_end;
        from_first = λ again. cc;
        to_current = λ again. cc;
        read = λ again. cc;
        kept_words = λ valid. tt;
        unpinned = λ invalid. refl;
        walked = λ some_tail stopped. record {
          table = λ virt. table_is LOG done virt ∙ (ap (λ (l : List Meaning). map_of l virt) all_read.1
              ∙ (((inv.contents at in_chain).snapshot.whole some_blocks).map_is virt
              ∙ sym (ap (λ (k : ℕ). history_map_at o (entries o c.history) k virt) has_read.position_is)));
          size_is = has_read.size_is ∙ ((inv.contents at in_chain).snapshot.size_is ∙ sym (ap (λ (k : ℕ). history_size_at o (entries o c.history) k) has_read.position_is));
          base = ap (λ (l : LogBlock). l.base) cut_log ∙ (inv.order.generations_rise.cut_base at in_chain.inside ∙ sym has_read.position_is);
          block = ap (λ (l : LogBlock). l.block) cut_log ∙ sym all_read.0;
          from = omega arith;
          upto = (let wide = inv.sizes.image.wide in omega (arith, wide));
          inside = λ other. (omega arith, omega arith);
          at_end = λ short. (let wide = inv.sizes.image.wide in absurd (omega (arith, wide, short)));
        };
        ready_walked = λ ready. (no_zero, refl, some_generation o c n s g pin began inv f reading.valid);
        ready_base = λ ready. has_read.position_is;
        ready_tail = λ ready. omega arith;
        seeking = λ ready come_to. absurd (come_to refl);
        first_known = λ known. record { some = some_generation o c n s g pin began inv f reading.valid; is = all_read.0 };
      }
        where
          no_zero : kept_word s block 0 ≢ 0
          no_zero none = some_block o c inv at pinned.cut in_chain (omega arith) (inv.order.generations_rise.cut_inside at in_chain.inside) (sym all_read.0 ∙ none)
