-- An exchange of the tail's slot for an entry that wins: its blocks are in the chain, and the call has put in its entry.
use Rattle.std.proofs.Common.{◌≡◌, ◌≢◌, ◌<◌, ◌+◌, ◌-◌, ℕ, true, List, [], ◌∷◌, length, refl, sym, ◌∙◌, ap, subst, arith, slice_index}
use Rattle.std.proofs.lemmas.Bool.{ne_eqb}
use Rattle.std.proofs.lemmas.List.{length_push}
use Rattle.log_entry.specs.declared.layouts.TheConstants.{EMPTY, SEAL}
use Rattle.log_image.specs.Image.{Shape, words_in, is_in_data}
use Rattle.log_image.specs.Entries.{Meaning, names}
use Rattle.log_image.specs.Blocks.{entry_words}
use Rattle.log_image.specs.Chains.{is_listed}
use Rattle.pmem_words.specs.Seats.{Seat}
use Rattle.asks.specs.declared.ask.Place.TheVariants.{Image}
use Rattle.asks.specs.declared.ask.Ask.TheVariants.{Exchange}
use Rattle.persistence.specs.Memory.{Memory, cell, memory_after}
use Rattle.log_core.specs.Entries.{place_in, LogEntry}
use Rattle.log_core.specs.Views.{Ghost, view_of}
use Rattle.log_core.specs.Origin.{Origin, shape, start_base}
use Rattle.log_core.specs.Files.{Write, entries, end_of}
use Rattle.log_core.specs.Cores.{Core, entries_used}
use Rattle.log_core.specs.Works.{seat_shape, words_of}
use Rattle.log_core.specs.Steps.{content_of}
use Rattle.log_core.specs.After.{slot_added}
use Rattle.log_core.specs.May.{MayCommit, is_fenced}
use Rattle.log_core.specs.Certain.{IsCertain}
use Rattle.log_core.specs.Walks.{HasWalked}
use Rattle.log_core.specs.Invariant.{Invariant}
use Rattle.log_core.specs.Knows.{Knows}
use Rattle.log_core.proofs.Each.{each_push}
use Rattle.log_core.proofs.TailEnds.{IsLastTail, same_words, tail_load, walked, last_long, last_used}
use Rattle.log_core.proofs.kinds.LoadsImageWord.{named_inside}
use Rattle.log_core.proofs.kinds.CommitsFile.{meaning, w, history, image, last, write_ok, allowed, history_holds, mine, entry_says, file_holds}
use Rattle.log_core.proofs.clauses.Exchanged.{WordGrows, exchange_wins}
use Rattle.log_core.proofs.clauses.FencedContents.{fenced_owned, content_long, content_certain}
use Rattle.log_core.proofs.clauses.SlotAdded.{PutsSlot, logs_grow, order, stands, synced_stay}
use Rattle.log_core.proofs.clauses.WriteAdded.{end_more, entries_more, history_more, entry_is, below_last}
use Rattle.log_core.proofs.clauses.Growth.{Growth, Grows, last_log}

module _ (o : Origin) (c : Core) (n : ℕ) (s : Seat) (g : Ghost) (pin began word entry number : ℕ) (inv : Invariant o c) (f : Knows o c n s g pin began) (here : n < length c.views) (unspent : (view_of c.views n).parts ≢ [])
    (used_entry : entry ≢ EMPTY) (no_seal : entry ≢ SEAL) (may : MayCommit o c.history s word entry) (empty : slice_index c.memory.now.words word ≡ 0) where
  abbrev m : Memory
  m = memory_after c.memory n (Exchange (Image word) 0 entry)

  -- what the entry means, the write, and the history with it
  abbrev pub told : Meaning
  told = meaning o c n s g pin began word entry number inv f unspent may empty

  abbrev pub put : Write
  put = w o c n s g pin began word entry number inv f unspent may empty

  abbrev pub writes : List Write
  writes = history o c n s g pin began word entry number inv f unspent may empty

  -- what the step makes
  abbrev pub x : Growth
  x = record { n = n; seat = s; memory = m; history = writes; logs = slot_added c.logs entry; linked = []; named = names told; index = s.walk.tail_slot; value = entry }

  -- the seat has the shape of the image
  pub same_image : seat_shape s ≡ shape o
  same_image = image o c n s g pin began word entry number inv f unspent may empty

  pub words : words_of s ≡ words_in (shape o)
  words = same_words o c n s g pin began inv f unspent may.at_tail.valid may.at_tail.ready

  -- the tail is in the last log block, behind its entries
  pub at_last : IsLastTail o c s.walk
  at_last = last o c n s g pin began word entry number inv f unspent may empty

  empty_here : slice_index c.memory.now.words (place_in (seat_shape s) s.walk.tail_block s.walk.tail_slot) ≡ 0
  empty_here = ap (λ (k : ℕ). slice_index c.memory.now.words k) (sym may.slot) ∙ empty

  pub long : length (last_log c).slots ≡ s.walk.tail_slot - 3
  long = last_long o c n s g pin began inv f unspent may.at_tail.valid may.at_tail.ready may.inside empty_here

  used : entries_used (last_log c) ≡ s.walk.tail_slot - 3
  used = last_used o c n s g pin began inv f unspent may.at_tail.valid may.at_tail.ready may.inside empty_here

  -- the view has walked, and its tail is a slot
  pub has_walked : HasWalked o (entries o c.history) c.logs s.walk
  has_walked = walked o c n s g pin began inv f unspent may.at_tail.valid may.at_tail.ready

  pub unclosed : s.walk.tail_slot ≢ words_in (shape o)
  unclosed e = (let same = words in let low = may.inside in omega (arith, e, same, low))

  word_inside : word < length o.words
  word_inside = named_inside o c n s g pin began word inv f unspent (tail_load o c n s g pin began inv f unspent may.at_tail.valid may.at_tail.ready s.walk.tail_slot word may.inside may.slot)

  memory_grows : WordGrows o (length c.views) c.memory m (place_in (shape o) (last_log c).block s.walk.tail_slot) entry
  memory_grows = subst (λ (k : ℕ). WordGrows o (length c.views) c.memory m k entry)
      (may.slot ∙ (ap (λ (i : Shape). place_in i s.walk.tail_block s.walk.tail_slot) same_image ∙ ap (λ (b : ℕ). place_in (shape o) b s.walk.tail_slot) (sym at_last.block)))
      (exchange_wins o c.memory (length c.views) inv.sizes.words n word entry word_inside empty may.small)

  -- the slot is an entry's, so the end is one more
  pub one_entry : length (entry_words (entry ∷ [])) ≡ 1
  one_entry = rw (ne_eqb entry EMPTY used_entry, ne_eqb entry SEAL no_seal) refl

  pub next_end : end_of o writes ≡ end_of o c.history + 1
  next_end = end_more o c.history put

  -- what is so of the slot
  pub puts : PutsSlot o c m s.walk.tail_slot entry (entries o writes) (end_of o writes)
  puts = (let low = has_walked.from in let many = long in let all = used in let count = inv.order.log.count in let end = next_end in record {
    memory = memory_grows;
    index_is = omega (arith, low, many);
    inside = (let inside = may.inside in let same = words in omega (arith, inside, same));
    all_used = omega (arith, many, all);
    some = used_entry;
    seal_late = λ seal. absurd (no_seal seal);
    end_is = (let one = one_entry in omega (arith, one, end));
    count = subst (λ (l : List LogEntry). start_base o + length l ≡ end_of o writes) (sym (entries_more o c.history put)) (let more = length_push (entries o c.history) put.entry in omega (arith, more, count, end));
    limit = (let limit = inv.order.log.limit in
        let below = below_last o.geometry.block_bytes (end_of o c.history) put.at put.op (write_ok o c n s g pin began word entry number inv f unspent may empty) (allowed o c n s g pin began word entry number inv f unspent may empty) in
        omega (arith, limit, below, end));
    same = (history_more o c.history put).same;
    new = λ other. ap (λ (e : LogEntry). e.word) (entry_is o c.history put (end_of o c.history - start_base o) (omega (arith, count)));
  })

  fenced_here : (block : ℕ) → is_listed (names told) block ≡ true → is_fenced s.blocks.owned block ≡ true
  fenced_here block listed = may.owned block listed

  -- so the core grows by it
  pub commit_grows : Grows o c x
  commit_grows = record {
    memory = memory_grows;
    index = puts.inside;
    first = λ e. (let low = has_walked.from in omega (arith, low, e));
    second = λ e. (let low = has_walked.from in omega (arith, low, e));
    mine = mine o c n s g pin began word entry number inv f unspent may empty;
    once = may.once;
    in_log = λ block listed. cc;
    in_data = λ block listed. subst (λ (i : Shape). is_in_data i block ≡ true) same_image (may.in_data block listed);
    long = λ block listed. content_long (λ (k : ℕ). cell c.memory k) c.memory.past c.memory.pending n g s f.owned block (fenced_owned s.blocks.owned block (fenced_here block listed)) ∙ words;
    fenced = λ block k listed low. subst (λ (i : Shape). IsCertain (cell c.memory (place_in i block k)) (slice_index (content_of s block) k)) same_image
        (content_certain (λ (j : ℕ). cell c.memory j) c.memory.past c.memory.pending n g s f.owned block f.owns.owned.once (fenced_here block listed) k (subst (λ (q : ℕ). k < q) (sym words) low));
    logs = logs_grow o c m s.walk.tail_slot entry (entries o writes) (end_of o writes) inv puts;
    history = history_more o c.history put;
    seats = each_push (λ (v : Write). v.seat < length c.views) c.history put inv.records.seats_once.writes here;
    holds = history_holds o c n s g pin began word entry number inv f unspent may empty;
    order = order o c m s.walk.tail_slot entry (entries o writes) (end_of o writes) inv puts;
    stands = stands o c m s.walk.tail_slot entry (entries o writes) (end_of o writes) inv puts;
    synced = synced_stay o c m s.walk.tail_slot entry (entries o writes) (end_of o writes) inv puts;
    says = entry_says o c n s g pin began word entry number inv f unspent may empty;
    file = file_holds o c n s g pin began word entry number inv f unspent may empty;
  }
