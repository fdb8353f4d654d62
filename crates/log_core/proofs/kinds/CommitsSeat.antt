-- What a core knows of the seat that has put in its entry.
use Rattle.std.proofs.Common.{◌≡◌, ◌≢◌, ◌<◌, ◌≤◌, ◌+◌, ◌-◌, ◌*◌, ◌==◌, ◌&&◌, max, if◌then◌else◌, ℕ, Bool, true, false, List, [], length, refl, sym, ◌∙◌, ap, subst, arith, slice_index, Option, Some, None}
use Rattle.std.specs.Option.{option_or}
use Rattle.std.proofs.lemmas.Bool.{eq-eqb, ne_eqb, or_right, and_parts}
use Rattle.std.proofs.lemmas.List.{length_push}
use Rattle.log_entry.specs.Fields.{field}
use Rattle.log_entry.specs.Shape.{longest_of}
use Rattle.log_entry.specs.Legal.{is_write, file_after}
use Rattle.log_entry.specs.declared.calls.Call.{Call}
use Rattle.log_entry.specs.declared.calls.Op.{Op}
use Rattle.log_entry.specs.declared.calls.Op.TheVariants.{Pread as PreadOp, Sync as SyncOp, Collect as CollectOp}
use Rattle.log_entry.specs.declared.layouts.TheConstants.{EMPTY, SEAL, INDIRECT_BLOCK}
use Rattle.log_entry.specs.declared.shapes.Geometry.{Geometry}
use Rattle.log_image.specs.Image.{Shape, words_in, is_in_data}
use Rattle.log_image.specs.Entries.{Meaning, names}
use Rattle.log_image.specs.Maps.{block_in, entry_end}
use Rattle.log_image.specs.Chains.{is_listed}
use Rattle.log_image.specs.Format.{fits, is_direct, is_indirect, is_indirect_block}
use Rattle.pmem_words.specs.declared.keeps.Task.{Task}
use Rattle.pmem_words.specs.declared.keeps.Task.TheVariants.{Pread, Sync, Collect}
use Rattle.pmem_words.specs.Seats.{Seat, Walk, Calling, Blocks}
use Rattle.persistence.specs.Memory.{cell}
use Rattle.log_core.specs.Views.{Ghost, Stored, HeadPut, View, view_of, op_of}
use Rattle.log_core.specs.Origin.{Origin, shape, LogBlock}
use Rattle.log_core.specs.Files.{Write, entries, end_of, file_at, history_map_at, history_size_at, accepted_reply, write_at}
use Rattle.log_core.specs.Cores.{Core, log_at, entries_used, is_sealed, is_full}
use Rattle.log_core.specs.Works.{words_of, touches, bases_left, without_bases, seat_shape, walk_past}
use Rattle.log_core.specs.Steps.{blocks_but, content_of, stored_but}
use Rattle.log_core.specs.After.{op_or_size, slot_added}
use Rattle.log_core.specs.May.{MayCommit}
use Rattle.log_core.specs.Walks.{WalkHolds}
use Rattle.log_core.specs.Records.{WritesFit, WritesOnce, BasesHold, RecordHolds, one_if, writes_at}
use Rattle.log_core.specs.Invariant.{Invariant, around}
use Rattle.log_core.specs.Knows.{with_seat, Knows}
use Rattle.log_core.proofs.Each.{each_weaker}
use Rattle.log_core.proofs.BaseWords.{AreBases, left_bases}
use Rattle.log_core.proofs.FileLimits.{fits_inside}
use Rattle.log_core.proofs.LogGrowth.{more_used}
use Rattle.log_core.proofs.WalkMaps.{entry_taken, length_with_entry}
use Rattle.log_core.proofs.TailEnds.{stands_at_end}
use Rattle.log_core.proofs.kinds.TakesEntry.{untouched, eight_bytes}
use Rattle.log_core.proofs.kinds.CommitsFile.{op_same, form, bytes_same, next_file, map_end, size_end, size_now}
use Rattle.log_core.proofs.kinds.CommitsEntry.{x, told, put, writes, same_image, words, at_last, long, has_walked, unclosed, next_end, one_entry, puts, commit_grows}
use Rattle.log_core.proofs.clauses.SlotAdded.{used_more, more_at}
use Rattle.log_core.proofs.clauses.WriteAdded.{history_more, write_is}
use Rattle.log_core.proofs.clauses.Growth.{Growth, Grows, last_log, grown}
use Rattle.log_core.proofs.clauses.GrownKnows.{owns_left, walk_same, FitsGrown, grown_knows}
use Rattle.log_core.proofs.clauses.GrownOthers.{owned_grown}
use Rattle.log_core.proofs.clauses.GrownRecords.{old_or_new, none_at, writes_grown}
use Rattle.log_core.proofs.clauses.OwnedBut.{left_hold}

module _ (o : Origin) (c : Core) (n : ℕ) (s : Seat) (g : Ghost) (pin began word entry number : ℕ) (inv : Invariant o c) (f : Knows o c n s g pin began) (here : n < length c.views) (unspent : (view_of c.views n).parts ≢ [])
    (used_entry : entry ≢ EMPTY) (no_seal : entry ≢ SEAL) (may : MayCommit o c.history s word entry) (empty : slice_index c.memory.now.words word ≡ 0)
    (number_is : g.call.number ≡ number) where
  abbrev growth : Growth
  growth = x o c n s g pin began word entry number inv f here unspent used_entry no_seal may empty

  abbrev meaning : Meaning
  meaning = told o c n s g pin began word entry number inv f here unspent used_entry no_seal may empty

  abbrev w : Write
  w = put o c n s g pin began word entry number inv f here unspent used_entry no_seal may empty

  abbrev history : List Write
  history = writes o c n s g pin began word entry number inv f here unspent used_entry no_seal may empty

  abbrev logs : List LogBlock
  logs = slot_added c.logs entry

  abbrev v : View
  v = view_of c.views n

  -- the walk, the call, the owned blocks and the stored words then
  abbrev pub walk_put : Walk
  walk_put = record (walk_past (seat_shape s) s.walk meaning) { at_tail = true; kept = s.walk.kept }

  abbrev pub calling_put : Calling
  calling_put = record (without_bases (words_of s) meaning s.calling) { won = true }

  abbrev pub blocks_put : Blocks
  blocks_put = blocks_but (words_of s) (λ (block : ℕ). is_listed (names meaning) block) s.blocks

  abbrev pub stored_put : List Stored
  stored_put = stored_but (words_of s) (λ (block : ℕ). is_listed (names meaning) block) g.stored

  abbrev after : Seat
  after = record s { walk = walk_put; calling = calling_put; blocks = blocks_put }

  grows : Grows o c growth
  grows = commit_grows o c n s g pin began word entry number inv f here unspent used_entry no_seal may empty

  position_is : s.walk.position ≡ end_of o c.history
  position_is = (at_last o c n s g pin began word entry number inv f here unspent used_entry no_seal may empty).position

  position_next : s.walk.position + 1 ≡ end_of o history
  position_next = (let is = position_is in let next = next_end o c n s g pin began word entry number inv f here unspent used_entry no_seal may empty in omega (arith, is, next))

  write_next : write_at o history (s.walk.position + 1) ≡ w
  write_next = ap (λ (k : ℕ). write_at o history k) position_next ∙ write_is o c.history w

  -- the call is a write's
  no_task : {P : Type 0} (task : Task) (other : Op) → s.calling.job ≡ task → op_of task s.calling.bytes ≡ Some other → is_write other (accepted_reply other s.walk.size) ≡ false → P
  no_task task other job asks never =
      (let op : other ≡ may.op = ap op_or_size (sym asks ∙ (ap (λ (t : Task). op_of t s.calling.bytes) (sym job) ∙ may.job)) in
      let both : false ≡ true = sym never ∙ subst (λ (p : Op). is_write p (accepted_reply p s.walk.size) ≡ true) (sym op) may.is_write in cc)

  no_put : g.call.put ≡ None
  no_put = by g.call.put refl
    where
      by : (head : Option HeadPut) → g.call.put ≡ head → g.call.put ≡ None
      by None is = is
      by (Some head) is = no_task Collect CollectOp (f.calls.task.put_collects (λ none. (let both : None ≡ Some head = sym none ∙ is in cc))) refl refl

  no_sync : {P : Type 0} (position : ℕ) → s.calling.sync_to ≡ Some position → P
  no_sync position is = no_task Sync SyncOp (f.calls.task.synced_syncs (λ none. (let both : None ≡ Some position = sym none ∙ is in cc))) refl refl

  not_reading : {P : Type 0} → s.walk.reading ≡ true → P
  not_reading reading = (let both : true ≡ false = sym reading ∙ ((f.walk unspent).ready_walked may.at_tail.ready).1 in cc)

  not_won : s.calling.won ≡ false
  not_won = may.at_tail.not_won

  fit : WritesFit o history (with_seat v after (record g { stored = stored_put }))
  fit = (let old = writes_grown o n c.history history (names meaning) (history_more o c.history w) (with_seat v s g) (let is = position_is in omega (arith, is)) f.writes in record {
    recorded = old.recorded;
    running = λ won. (
      (let is = position_is in omega (arith, is)),
      ap (λ (u : Write). u.seat) write_next ∙ sym (f.fits unspent).number,
      ap (λ (u : Write). u.number) write_next ∙ sym number_is,
      may.job ∙ ap (λ (op : Op). Some op) (sym (ap (λ (u : Write). u.op) write_next ∙ op_same o c n s g pin began word entry number inv f unspent may empty)),
    );
  })

  once : WritesOnce o history (with_seat v after (record g { stored = stored_put }))
  once some position above upto = old_or_new position (end_of o c.history)
      (λ old. ap (λ (b : Bool). writes_at position v.done + one_if b) (ne_eqb (s.walk.position + 1) position (λ same. (let is = position_is in omega (arith, same, is, old))))
      ∙ (ap (λ (won : Bool). writes_at position v.done + one_if (won && (s.walk.position == position))) (sym not_won)
      ∙ (f.writes_once some position above old ∙ ap (λ (u : Write). one_if (is_listed v.parts u.seat)) (sym ((history_more o c.history w).writes position above old)))))
      (λ new. (let is : s.walk.position + 1 ≡ position = (let next = position_next in let last_is = next_end o c n s g pin began word entry number inv f here unspent used_entry no_seal may empty in omega (arith, next, new, upto, last_is)) in
      let none = none_at position v.done (each_weaker (RecordHolds o c.history c.generations) (λ (call : Call). call.position < position) v.done (λ call r. (let low = r.to_end in omega (arith, low, new))) (inv.records.records n)) in
      let one : one_if (s.walk.position + 1 == position) ≡ 1 = ap one_if (eq-eqb (s.walk.position + 1) position is) in
      let mine : one_if (is_listed v.parts (write_at o history position).seat) ≡ 1 =
      ap (λ (seat : ℕ). one_if (is_listed v.parts seat)) (ap (λ (k : ℕ). (write_at o history k).seat) (sym is) ∙ ap (λ (u : Write). u.seat) write_next) ∙ ap one_if (inv.records.seats_once.own n unspent) in
      omega (arith, none, one, mine)))

  -- the bases that are left
  abbrev Running : Type 0
  Running = op_of s.calling.job s.calling.bytes ≢ None

  eight : o.geometry.block_bytes ≡ 8 * words_of s
  eight = eight_bytes o.geometry.block_bytes o.geometry.block_allowed ∙ ap (λ (geometry : Geometry). 8 * Rattle.pmem_words.specs.Seats.q_of geometry) (sym (f.fits unspent).geometry)

  abbrev byte_before : ℕ → ℕ → ℕ
  byte_before virt k = slice_index (file_at o c.history s.walk.position) (virt * o.geometry.block_bytes + k)

  abbrev byte_after : ℕ → ℕ → ℕ
  byte_after virt k = slice_index (file_at o history (s.walk.position + 1)) (virt * o.geometry.block_bytes + k)

  same_bytes : Running → (virt k : ℕ) → touches meaning virt ≡ false → k < o.geometry.block_bytes → byte_before virt k ≡ byte_after virt k
  same_bytes running virt k none low = (let bytes = bytes_same o c n s g pin began word entry number inv f unspent may empty in
      ap (λ (b : ℕ). slice_index (file_at o c.history s.walk.position) (virt * b + k)) (sym bytes)
      ∙ (may.rest virt k (untouched meaning virt none) (subst (λ (b : ℕ). k < b) (sym bytes) low)
      ∙ (ap (λ (b : ℕ). slice_index (file_after (file_at o c.history s.walk.position) may.op (accepted_reply may.op s.walk.size)) (virt * b + k)) bytes
      ∙ (ap (λ (file : List ℕ). slice_index file (virt * o.geometry.block_bytes + k)) (sym (next_file o c n s g pin began word entry number inv f unspent may empty))
      ∙ ap (λ (position : ℕ). slice_index (file_at o history position) (virt * o.geometry.block_bytes + k)) (sym position_next)))))

  bases_hold : BasesHold o history v.first (words_of s) (s.walk.position + 1) calling_put
  bases_hold = (let b = f.calls.bases in
      let were : AreBases (words_of s) o.geometry.block_bytes eight Running byte_before s.calling.bases s.calling.base_words = record { most = b.most; whole = b.whole; bytes = λ running. b.bytes running } in
      let left = left_bases (words_of s) o.geometry.block_bytes eight Running byte_before byte_after meaning same_bytes s.calling.bases s.calling.base_words were in
      record {
        most = left.most;
        whole = left.whole;
        from_first = λ some. (let low = b.from_first (λ none. some (ap (λ (l : List ℕ). bases_left meaning l) none)) in omega (arith, low));
        bytes = λ running. left.bytes running;
      })

  inside_map : meaning.virt + length meaning.blocks ≤ length s.walk.map
  inside_map = (let most = fits_inside (shape o) (longest_of (shape o).block_bytes) meaning
      (and_parts (if is_direct entry then true else is_indirect entry && is_in_data (shape o) (field INDIRECT_BLOCK entry) && is_indirect_block (shape o) (content_of s (field INDIRECT_BLOCK entry)))
      (fits (shape o) (longest_of (shape o).block_bytes) meaning) (form o c n s g pin began word entry number inv f unspent may empty)).1 in
      let all = (f.fits unspent).map in omega (arith, most, all))

  abbrev more : LogBlock
  more = more_used (shape o) c.logs inv.order.log.some entry

  tail_more : log_at logs s.walk.tail_base ≡ more
  tail_more = ap (λ (base : ℕ). log_at logs base) (sym (at_last o c n s g pin began word entry number inv f here unspent used_entry no_seal may empty).base)
      ∙ more_at o c _ s.walk.tail_slot entry (entries o history) (end_of o history) inv (puts o c n s g pin began word entry number inv f here unspent used_entry no_seal may empty)

  used_now : entries_used (log_at logs s.walk.tail_base) ≡ s.walk.tail_slot - 3 + 1
  used_now = ap (λ (l : LogBlock). entries_used l) tail_more
      ∙ (let more_entries = used_more o c _ s.walk.tail_slot entry (entries o history) (end_of o history) inv (puts o c n s g pin began word entry number inv f here unspent used_entry no_seal may empty) in
      let one = one_entry o c n s g pin began word entry number inv f here unspent used_entry no_seal may empty in
      let many = long o c n s g pin began word entry number inv f here unspent used_entry no_seal may empty in
      omega (arith, more_entries, one, many))

  -- where the block had a slot left it is full
  full_now : s.walk.tail_slot + 1 ≡ words_in (shape o) → is_full (shape o) (log_at logs s.walk.tail_base).slots ≡ true
  full_now end = ap (λ (l : LogBlock). is_full (shape o) l.slots) tail_more
      ∙ or_right (is_sealed more.slots) (length more.slots + 3 == words_in (shape o)) (eq-eqb (length more.slots + 3) (words_in (shape o))
      (let all = length_push (last_log c).slots entry in let many = long o c n s g pin began word entry number inv f here unspent used_entry no_seal may empty in
      let low = (has_walked o c n s g pin began word entry number inv f here unspent used_entry no_seal may empty).from in omega (arith, all, many, end, low)))

  walk_holds : WalkHolds (around o (grown c growth)) s.hold walk_put
  walk_holds = (let k = walk_same o c growth inv grows s g pin began f unspent in
      let old = has_walked o c n s g pin began word entry number inv f here unspent used_entry no_seal may empty in
      let last = at_last o c n s g pin began word entry number inv f here unspent used_entry no_seal may empty in
      let open_slot = unclosed o c n s g pin began word entry number inv f here unspent used_entry no_seal may empty in record {
        to_end = (let next = position_next in omega (arith, next));
        from_first = k.from_first;
        to_current = k.to_current;
        read = λ reading. not_reading reading;
        kept_words = k.kept_words;
        unpinned = k.unpinned;
        walked = λ some stopped. record {
          table = λ virt. entry_taken meaning s.walk.map (λ (u : ℕ). history_map_at o (entries o c.history) s.walk.position u) inside_map old.table virt
              ∙ (ap (λ (position : ℕ). option_or (block_in meaning virt) (history_map_at o (entries o c.history) position virt)) position_is
              ∙ (sym (map_end o c n s g pin began word entry number inv f unspent may empty virt) ∙ ap (λ (position : ℕ). history_map_at o (entries o history) position virt) (sym position_next)));
          size_is = ap (λ (i : Shape). max s.walk.size (entry_end i meaning)) (same_image o c n s g pin began word entry number inv f here unspent used_entry no_seal may empty)
              ∙ (ap (λ (size : ℕ). max size (entry_end (shape o) meaning)) (size_now o c n s g pin began word entry number inv f unspent may empty)
              ∙ (sym (size_end o c n s g pin began word entry number inv f unspent may empty) ∙ ap (λ (position : ℕ). history_size_at o (entries o history) position) (sym position_next)));
          base = ap (λ (l : LogBlock). l.base) tail_more ∙ last.base;
          block = ap (λ (l : LogBlock). l.block) tail_more ∙ last.block;
          from = (let low = old.from in omega (arith, low));
          upto = (let high = old.upto in omega (arith, high, open_slot));
          inside = λ other. (let position = (old.inside open_slot).0 in let low = old.from in let used = used_now in (omega (arith, position, low), omega (arith, used, low)));
          at_end = λ end. (let position = (old.inside open_slot).0 in let low = old.from in let used = used_now in (full_now end, omega (arith, position, low, used)));
        };
        ready_walked = k.ready_walked;
        ready_base = k.ready_base;
        ready_tail = k.ready_tail;
        seeking = k.seeking;
        first_known = k.first_known;
      })

  no_collection : {P : Type 0} → s.calling.noting ≡ true → P
  no_collection on = no_task Collect CollectOp ((f.noted unspent).0 on) refl refl

  put_fits : began ≤ end_of o c.history → FitsGrown o c growth inv grows s g pin began f walk_put calling_put blocks_put stored_put
  put_fits low = record {
    found = refl;
    named = refl;
    map = λ some. length_with_entry meaning s.walk.map ∙ (f.fits some).map;
    owns = owns_left o c growth inv grows (λ (block : ℕ). is_listed (names meaning) block) (λ block. refl) s.blocks.owned f.owns.owned;
    owned = left_hold (λ at. cell growth.memory at) growth.memory.past growth.memory.pending n s g (record g { stored = stored_put })
        (owned_grown o c growth inv grows n g s (words o c n s g pin began word entry number inv f here unspent used_entry no_seal may empty)
        (same_image o c n s g pin began word entry number inv f here unspent used_entry no_seal may empty) f.owns.owned.listed f.owned) (λ (block : ℕ). is_listed (names meaning) block) refl s.blocks.found;
    walks = λ some. walk_holds;
    noted = λ some. (no_collection, (λ on. no_collection on), (λ on. no_collection on));
    writes = fit;
    writes_once = once;
    put = record { own = λ head is. (let both : None ≡ Some head = sym no_put ∙ is in cc); found = f.put.found };
    calls = (let r = f.calls in record {
      laid = λ offset count is. no_task (Pread offset count) (PreadOp offset count) is refl refl;
      bases = bases_hold;
      reading = λ reading. not_reading reading;
      numbers = r.numbers;
      task = record { won_runs = λ won none. (let both = sym may.job ∙ none in cc); put_collects = r.task.put_collects; synced_syncs = r.task.synced_syncs };
    });
    tail = λ at. stands_at_end o c n s g pin began inv f unspent low (s.walk.position + 1) s.walk.tail_block (let is = position_is in omega (arith, is)) ((f.walk unspent).ready_walked may.at_tail.ready).0;
    to = λ position is. no_sync position is;
    job = refl;
  }

  -- what a core knows of the seat then
  pub commit_knows : began ≤ end_of o c.history → slice_index c.memory.now.pins n ≡ pin →
      Knows o (grown c growth) n after (record g { stored = stored_put }) (slice_index c.memory.now.pins n) began
  commit_knows low same = grown_knows o c growth inv grows s g pin began f walk_put calling_put blocks_put stored_put (put_fits low) same
