-- An exchange of the tail's slot for an entry that wins: the history has its write, and the file after it is what the new map holds.
use Rattle.std.proofs.Common.{◌≡◌, ◌≢◌, ◌<◌, ◌≤◌, ◌+◌, ◌-◌, ◌*◌, ◌||◌, max, if◌then◌else◌, ℕ, Bool, true, List, [], ◌∷◌, ◌++◌, length, take, refl, sym, ◌∙◌, ap, subst, arith, slice_index, slice_index_or, Option, Some, None}
use Rattle.std.specs.Option.{option_or}
use Rattle.std.proofs.lemmas.Bool.{eq-eqb}
use Rattle.std.proofs.lemmas.List.{length_push, get_or_push, get_or_append_left}
use Rattle.log_entry.specs.Fields.{field}
use Rattle.log_entry.specs.Shape.{limit_of}
use Rattle.log_entry.specs.Legal.{is_write, file_after}
use Rattle.log_entry.specs.declared.calls.Op.{Op}
use Rattle.log_entry.specs.declared.layouts.TheConstants.{ENTRY_KIND, INDIRECT, INDIRECT_BLOCK}
use Rattle.log_entry.specs.declared.shapes.Geometry.{Geometry}
use Rattle.log_image.specs.Image.{Shape}
use Rattle.log_image.specs.Entries.{Meaning, names, indirect_meaning}
use Rattle.log_image.specs.Maps.{block_in, map_of, entry_end, size_after}
use Rattle.log_image.specs.Chains.{is_listed}
use Rattle.pmem_words.specs.Seats.{Seat}
use Rattle.persistence.specs.Memory.{cell}
use Rattle.log_core.specs.Entries.{head_place, place_in, LogEntry, no_entry, entry_by, meanings}
use Rattle.log_core.specs.Views.{Ghost, view_of, op_in}
use Rattle.log_core.specs.Origin.{Origin, shape, first_position, start_base, start_size, first_snapshot, OwnedBy}
use Rattle.log_core.specs.Files.{Write, no_write, entries, end_of, file_at, history_map_at, history_size_at, accepted_reply, byte_in}
use Rattle.log_core.specs.Cores.{Core, is_named, data_names}
use Rattle.log_core.specs.Works.{seat_shape}
use Rattle.log_core.specs.Steps.{content_of, new_meaning}
use Rattle.log_core.specs.After.{op_or_size}
use Rattle.log_core.specs.May.{MayCommit, is_log_entry_by, refusal_at}
use Rattle.log_core.specs.Writes.{IsAcceptedAt, HistoryHolds}
use Rattle.log_core.specs.Order.{nth_generation}
use Rattle.log_core.specs.Contents.{EntriesSay, HoldsFileAt}
use Rattle.log_core.specs.Invariant.{Invariant, KeptIn}
use Rattle.log_core.specs.Knows.{Knows}
use Rattle.log_core.proofs.Heads.{current_kept}
use Rattle.log_core.proofs.FileLimits.{entry_within}
use Rattle.log_core.proofs.MappedBlocks.{given_name, mapped_named}
use Rattle.log_core.proofs.SameContents.{same_form, same_byte}
use Rattle.log_core.proofs.TailEnds.{same_shape, walked, IsLastTail, slot_last}
use Rattle.log_core.proofs.kinds.TakesEntry.{map_next, size_next, same_meaning}
use Rattle.log_core.proofs.clauses.Apart.{has_right, data_is_named}
use Rattle.log_core.proofs.clauses.FencedContents.{fenced_owned}
use Rattle.log_core.proofs.clauses.GrownNames.{never}
use Rattle.log_core.proofs.clauses.GrownRecords.{old_or_new}
use Rattle.log_core.proofs.clauses.Leaves.{taken_apart}
use Rattle.log_core.proofs.clauses.OneView.{same_or_other}
use Rattle.log_core.proofs.clauses.WriteAdded.{more, end_more, entries_more, history_more, entry_is, file_more}

module _ (o : Origin) (c : Core) (n : ℕ) (s : Seat) (g : Ghost) (pin began word entry number : ℕ) (inv : Invariant o c) (f : Knows o c n s g pin began) (unspent : (view_of c.views n).parts ≢ [])
    (may : MayCommit o c.history s word entry) (empty : slice_index c.memory.now.words word ≡ 0) where
  -- what the entry means
  abbrev pub meaning : Meaning
  meaning = new_meaning s entry

  -- the write of the call
  abbrev pub w : Write
  w = record { seat = n; number = number; op = op_or_size (op_in s); at = s.walk.size; entry = record { word = entry; meaning = meaning } }

  -- the history with it
  abbrev pub history : List Write
  history = more o c.history w

  abbrev es : List LogEntry
  es = entries o c.history

  abbrev end : ℕ
  end = end_of o c.history

  -- the seat has the shape of the image
  pub image : seat_shape s ≡ shape o
  image = same_shape o c n s g pin began inv f unspent may.at_tail.valid may.at_tail.ready

  empty_here : slice_index c.memory.now.words (place_in (seat_shape s) s.walk.tail_block s.walk.tail_slot) ≡ 0
  empty_here = ap (λ (k : ℕ). slice_index c.memory.now.words k) (sym may.slot) ∙ empty

  -- the tail is in the last log block, at the end
  pub last : IsLastTail o c s.walk
  last = slot_last o c n s g pin began inv f unspent may.at_tail.valid may.at_tail.ready may.inside empty_here

  pub bytes_same : s.geometry.block_bytes ≡ o.geometry.block_bytes
  bytes_same = ap (λ (geometry : Geometry). geometry.block_bytes) (f.fits unspent).geometry

  -- the write is the call's, and accepted there
  pub op_same : op_or_size (op_in s) ≡ may.op
  op_same = ap op_or_size may.job

  pub write_ok : is_write w.op (accepted_reply w.op w.at) ≡ true
  write_ok = subst (λ (op : Op). is_write op (accepted_reply op s.walk.size) ≡ true) (sym op_same) may.is_write

  pub allowed : refusal_at o.geometry.block_bytes end w.at w.op ≡ None
  allowed = subst (λ (op : Op). refusal_at o.geometry.block_bytes end s.walk.size op ≡ None) (sym op_same)
      (subst (λ (position : ℕ). refusal_at o.geometry.block_bytes position s.walk.size may.op ≡ None) last.position
      (subst (λ (bytes : ℕ). refusal_at bytes s.walk.position s.walk.size may.op ≡ None) bytes_same may.allowed))

  -- the entry has a form that a log block may have
  pub form : is_log_entry_by (λ block. content_of s block) (shape o) entry ≡ true
  form = subst (λ (i : Shape). is_log_entry_by (λ block. content_of s block) i entry ≡ true) image may.form

  -- the file after it
  pub next_file : file_at o history (end_of o history) ≡ file_after (file_at o c.history s.walk.position) may.op (accepted_reply may.op s.walk.size)
  next_file = file_more o c.history w
      ∙ (ap (λ (op : Op). file_after (file_at o c.history end) op (accepted_reply op s.walk.size)) op_same
      ∙ ap (λ (position : ℕ). file_after (file_at o c.history position) may.op (accepted_reply may.op s.walk.size)) (sym last.position))

  start_low : start_base o ≤ end
  start_low = (let count = inv.order.log.count in omega (arith, count))

  long_is : end - start_base o ≡ length es
  long_is = (let count = inv.order.log.count in omega (arith, count))

  next_inside : end - start_base o < length (entries o history)
  next_inside = subst (λ (l : List LogEntry). end - start_base o < length l) (sym (entries_more o c.history w))
      (let long = length_push es w.entry in let is = long_is in omega (arith, long, is))

  next_entry : slice_index_or (entries o history) (end - start_base o) no_entry ≡ w.entry
  next_entry = entry_is o c.history w (end - start_base o) long_is

  -- the map and the size so far, and with the entry
  front_is : (position : ℕ) → position ≤ end → take (position - start_base o) (entries o history) ≡ take (position - start_base o) es
  front_is position low = (history_more o c.history w).front (position - start_base o) (let count = inv.order.log.count in omega (arith, low, count))

  pub map_front : (position virt : ℕ) → position ≤ end → history_map_at o (entries o history) position virt ≡ history_map_at o es position virt
  map_front position virt low = ap (λ (l : List LogEntry). map_of (first_snapshot o ++ meanings l) virt) (front_is position low)

  pub size_front : (position : ℕ) → position ≤ end → history_size_at o (entries o history) position ≡ history_size_at o es position
  size_front position low = ap (λ (l : List LogEntry). size_after (shape o) (start_size o) (meanings l)) (front_is position low)

  -- the map and the size at the new end
  pub map_end : (virt : ℕ) → history_map_at o (entries o history) (end_of o history) virt ≡ option_or (block_in meaning virt) (history_map_at o es end virt)
  map_end virt = ap (λ (k : ℕ). history_map_at o (entries o history) k virt) (end_more o c.history w)
      ∙ (map_next o (entries o history) end start_low next_inside virt
      ∙ (ap (λ (e : LogEntry). option_or (block_in e.meaning virt) (history_map_at o (entries o history) end virt)) next_entry
      ∙ ap (λ (found : Option ℕ). option_or (block_in meaning virt) found) (map_front end virt (omega arith))))

  pub size_end : history_size_at o (entries o history) (end_of o history) ≡ max (history_size_at o es end) (entry_end (shape o) meaning)
  size_end = ap (λ (k : ℕ). history_size_at o (entries o history) k) (end_more o c.history w)
      ∙ (size_next o (entries o history) end start_low next_inside
      ∙ (ap (λ (e : LogEntry). max (history_size_at o (entries o history) end) (entry_end (shape o) e.meaning)) next_entry
      ∙ ap (λ (k : ℕ). max k (entry_end (shape o) meaning)) (size_front end (omega arith))))

  -- the view's size is the file's
  pub size_now : s.walk.size ≡ history_size_at o es end
  size_now = (walked o c n s g pin began inv f unspent may.at_tail.valid may.at_tail.ready).size_is ∙ ap (λ (k : ℕ). history_size_at o es k) last.position

  new_size : length (file_at o history (end_of o history)) ≡ history_size_at o (entries o history) (end_of o history)
  new_size = ap (λ (file : List ℕ). length file) next_file ∙ (sym may.size_is
      ∙ (ap (λ (i : Shape). max s.walk.size (entry_end i meaning)) image ∙ (ap (λ (k : ℕ). max k (entry_end (shape o) meaning)) size_now ∙ sym size_end)))

  files_same : (position : ℕ) → position ≤ end → file_at o history position ≡ file_at o c.history position
  files_same = (history_more o c.history w).files

  old_accepted : (place : ℕ) → place < length c.history → IsAcceptedAt o history place (slice_index_or c.history place no_write)
  old_accepted place low = (let r = inv.writes.writes place low in record {
    some_bytes = r.some_bytes;
    size_before = r.size_before ∙ ap (λ (file : List ℕ). length file) (sym (files_same (first_position o + place) (omega (arith, low))));
    allowed = r.allowed;
  })

  new_accepted : IsAcceptedAt o history (length c.history) w
  new_accepted = record {
    some_bytes = write_ok;
    size_before = size_now ∙ (sym (inv.writes.sizes end start_low (omega arith)) ∙ ap (λ (file : List ℕ). length file) (sym (files_same end (omega arith))));
    allowed = allowed;
  }

  new_end : (position : ℕ) → end < position → position ≤ end_of o history → position ≡ end_of o history
  new_end position past upto = (let e = end_more o c.history w in omega (arith, past, upto, e))

  -- so each write of the history is accepted where it stands
  pub history_holds : HistoryHolds o history
  history_holds = record {
    writes = λ place inside. same_or_other place (length c.history)
        (λ same. subst (λ (k : ℕ). IsAcceptedAt o history k (slice_index_or history k no_write)) (sym same)
        (subst (λ (v : Write). IsAcceptedAt o history (length c.history) v) (sym (get_or_push c.history w no_write (length c.history) refl)) new_accepted))
        (λ other. (let long = length_push c.history w in let low : place < length c.history = omega (arith, inside, long, other) in
        subst (λ (v : Write). IsAcceptedAt o history place v) (sym (get_or_append_left c.history (w ∷ []) no_write place low)) (old_accepted place low)));
    sizes = λ position from upto. old_or_new position end
        (λ old. ap (λ (file : List ℕ). length file) (files_same position old) ∙ (inv.writes.sizes position from old ∙ sym (size_front position old)))
        (λ past. subst (λ (k : ℕ). length (file_at o history k) ≡ history_size_at o (entries o history) k) (sym (new_end position past upto)) new_size);
    within = λ position from upto. old_or_new position end
        (λ old. subst (λ (file : List ℕ). length file ≤ limit_of o.geometry.block_bytes) (sym (files_same position old)) (inv.writes.within position from old))
        (λ past. (let low = inv.writes.within end start_low (omega arith) in
        let same = inv.writes.sizes end start_low (omega arith) in
        let high : entry_end (shape o) meaning ≤ limit_of (shape o).block_bytes = entry_within (λ block. content_of s block) (shape o) entry form in
        let size = ap (λ (k : ℕ). length (file_at o history k)) (new_end position past upto) ∙ (new_size ∙ size_end) in
        omega (arith, low, same, high, size)));
  }

  -- the blocks of the entry are the seat's
  pub mine : (block : ℕ) → is_listed (names meaning) block ≡ true → c.owner block ≡ OwnedBy n
  mine block listed = f.owns.owned.listed block (fenced_owned s.blocks.owned block (may.owned block listed))

  -- the words recorded then
  abbrev pub recorded : ℕ → List ℕ
  recorded block = if is_listed (names meaning) block then content_of s block else c.recorded block

  new_recorded : (block : ℕ) → is_listed (names meaning) block ≡ true → recorded block ≡ content_of s block
  new_recorded block listed = ap (λ (b : Bool). if b then content_of s block else c.recorded block) listed

  old_recorded : (place block : ℕ) → KeptIn o c place → is_named o c.logs es (nth_generation c.generations place) block ≡ true → recorded block ≡ c.recorded block
  old_recorded place block kept named = ap (λ (b : Bool). if b then content_of s block else c.recorded block)
      (never (is_listed (names meaning) block) (λ listed. taken_apart n (c.owner block) ((inv.contents place kept).taken block named) (mine block listed)))

  -- its indirect block is among them
  holder_recorded : field ENTRY_KIND entry ≡ INDIRECT → recorded (field INDIRECT_BLOCK entry) ≡ content_of s (field INDIRECT_BLOCK entry)
  holder_recorded indirect = new_recorded (field INDIRECT_BLOCK entry)
      (subst (λ (m : Meaning). is_listed (names m) (field INDIRECT_BLOCK entry) ≡ true) (sym holder_meaning) (listed_first (field INDIRECT_BLOCK entry) _))
    where
      listed_first : (block : ℕ) (rest : List ℕ) → is_listed (block ∷ rest) block ≡ true
      listed_first block rest = ap (λ (b : Bool). b || is_listed rest block) (eq-eqb block block refl)

      holder_meaning : meaning ≡ indirect_meaning (field INDIRECT_BLOCK entry) (content_of s (field INDIRECT_BLOCK entry))
      holder_meaning = rw (indirect) refl

  -- the new entry is what its word says
  pub entry_says : EntriesSay (shape o) recorded (length es) (entries o history)
  entry_says = record {
    same = λ k late inside. (let is = at_end k late inside in subst (λ (e : LogEntry). e ≡ entry_by recorded e.word) (sym is)
        (ap (λ (m : Meaning). record { word = entry; meaning = m }) (sym (same_meaning recorded (λ block. content_of s block) (shape o) entry form holder_recorded))));
    form = λ k late inside. (let is = at_end k late inside in subst (λ (e : LogEntry). is_log_entry_by recorded (shape o) e.word ≡ true) (sym is)
        (same_form recorded (λ block. content_of s block) (shape o) entry form holder_recorded));
  }
    where
      at_end : (k : ℕ) → length es ≤ k → k < length (entries o history) → slice_index_or (entries o history) k no_entry ≡ w.entry
      at_end k late inside = entry_is o c.history w k
          (let long = length_push es w.entry in let all = ap (λ (l : List LogEntry). length l) (entries_more o c.history w) in omega (arith, late, inside, long, all))

  -- the file after it is what the new map holds
  abbrev next_byte : ℕ → ℕ → ℕ
  next_byte virt at = slice_index (file_at o history (end_of o history)) (virt * (shape o).block_bytes + at)

  byte_end : (virt at : ℕ) → at < (shape o).block_bytes → (found : Option ℕ) → block_in meaning virt ≡ found →
      byte_in recorded (option_or found (history_map_at o es end virt)) at ≡ next_byte virt at
  byte_end virt at low (Some block) is = same_byte (shape o) (λ b. content_of s b) recorded (Some block) at
      (λ b same. new_recorded b (given_name meaning virt b (is ∙ same)))
      ∙ (may.holds virt block at is (subst (λ (bytes : ℕ). at < bytes) (sym bytes_same) low)
      ∙ (ap (λ (bytes : ℕ). slice_index (file_after (file_at o c.history s.walk.position) may.op (accepted_reply may.op s.walk.size)) (virt * bytes + at)) bytes_same
      ∙ ap (λ (file : List ℕ). slice_index file (virt * (shape o).block_bytes + at)) (sym next_file)))
  byte_end virt at low None is = same_byte (shape o) c.recorded recorded (history_map_at o es end virt) at
      (λ block found. old_recorded place block kept (data_is_named o c.logs es (nth_generation c.generations place) block
      (has_right (nth_generation c.generations place).snapshots (data_names o es (nth_generation c.generations place)) block (mapped_named o c inv place kept end virt block base_low found))))
      ∙ (((inv.contents place kept).files end base_low (omega arith)).held (omega arith)).each virt at low
      ∙ (ap (λ (position : ℕ). slice_index (file_at o c.history position) (virt * (shape o).block_bytes + at)) (sym last.position)
      ∙ (ap (λ (bytes : ℕ). slice_index (file_at o c.history s.walk.position) (virt * bytes + at)) (sym bytes_same)
      ∙ (may.rest virt at is (subst (λ (bytes : ℕ). at < bytes) (sym bytes_same) low)
      ∙ (ap (λ (bytes : ℕ). slice_index (file_after (file_at o c.history s.walk.position) may.op (accepted_reply may.op s.walk.size)) (virt * bytes + at)) bytes_same
      ∙ ap (λ (file : List ℕ). slice_index file (virt * (shape o).block_bytes + at)) (sym next_file)))))
    where
      place : ℕ
      place = length (cell c.memory head_place).past

      kept : KeptIn o c (length (cell c.memory head_place).past)
      kept = current_kept o c inv

      base_low : (nth_generation c.generations (length (cell c.memory head_place).past)).base ≤ end_of o c.history
      base_low = inv.order.generations_rise.to_end (length (cell c.memory head_place).past) (current_kept o c inv).inside

  -- so it is at the new end
  pub file_holds : (position : ℕ) → end < position → position ≤ end_of o history → HoldsFileAt o history recorded position
  file_holds position past upto = subst (λ (k : ℕ). HoldsFileAt o history recorded k) (sym (new_end position past upto)) (record {
    early = λ before. absurd (omega (arith, before));
    held = λ after. record { each = λ virt at low. ap (λ (found : Option ℕ). byte_in recorded found at) (map_end virt) ∙ byte_end virt at low (block_in meaning virt) refl };
    size_is = new_size;
  })
