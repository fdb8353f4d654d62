-- An exchange of the tail's slot for a seal that wins: the log block has all its entries.
use Rattle.std.proofs.Common.{◌≡◌, ◌≢◌, ◌<◌, ◌≤◌, ◌+◌, ◌-◌, ◌==◌, ℕ, true, [], ◌∷◌, ◌++◌, length, refl, sym, ◌∙◌, ap, subst, arith, slice_index}
use Rattle.std.proofs.lemmas.Bool.{or_left}
use Rattle.std.proofs.lemmas.List.{get_or_push}
use Rattle.log_entry.specs.declared.layouts.TheConstants.{SEAL}
use Rattle.log_image.specs.Image.{Shape, words_in}
use Rattle.log_image.specs.Blocks.{entry_words}
use Rattle.pmem_words.specs.Seats.{Seat, Walk}
use Rattle.asks.specs.declared.ask.Place.TheVariants.{Image}
use Rattle.asks.specs.declared.ask.Ask.TheVariants.{Exchange}
use Rattle.persistence.specs.Memory.{Memory, memory_after}
use Rattle.log_core.specs.Entries.{place_in}
use Rattle.log_core.specs.Views.{Ghost, view_of}
use Rattle.log_core.specs.Origin.{Origin, shape, LogBlock}
use Rattle.log_core.specs.Files.{entries, end_of}
use Rattle.log_core.specs.Cores.{Core, log_at, entries_used, is_sealed, is_full}
use Rattle.log_core.specs.Works.{seat_shape, words_of}
use Rattle.log_core.specs.After.{slot_added}
use Rattle.log_core.specs.May.{MaySeal}
use Rattle.log_core.specs.Walks.{WalkHolds}
use Rattle.log_core.specs.Invariant.{Invariant, around}
use Rattle.log_core.specs.Knows.{Knows}
use Rattle.log_core.proofs.LogTails.{sealed_at}
use Rattle.log_core.proofs.LogGrowth.{more_used}
use Rattle.log_core.proofs.TailEnds.{stands_at_end, same_shape, same_words, tail_load, walked, IsLastTail, slot_last, last_long, last_used}
use Rattle.log_core.proofs.kinds.LoadsImageWord.{named_inside}
use Rattle.log_core.proofs.kinds.LinkGrows.{same_history}
use Rattle.log_core.proofs.clauses.Exchanged.{WordGrows, exchange_wins}
use Rattle.log_core.proofs.clauses.SlotAdded.{PutsSlot, logs_grow, order, stands, synced_stay, used_more, more_at}
use Rattle.log_core.proofs.clauses.Growth.{Growth, Grows, last_log, grown}
use Rattle.log_core.proofs.clauses.GrownKnows.{walk_same, FitsGrown, grown_knows, noted_same}
use Rattle.log_core.proofs.clauses.GrownOthers.{owned_grown}

module _ (o : Origin) (c : Core) (n : ℕ) (s : Seat) (g : Ghost) (pin began word slot : ℕ) (inv : Invariant o c) (f : Knows o c n s g pin began) (unspent : (view_of c.views n).parts ≢ [])
    (is_seal : slot ≡ SEAL) (may : MaySeal s word) (empty : slice_index c.memory.now.words word ≡ 0) where
  abbrev m : Memory
  m = memory_after c.memory n (Exchange (Image word) 0 slot)

  -- what the step makes
  abbrev pub x : Growth
  x = record { n = n; seat = s; memory = m; history = c.history; logs = slot_added c.logs slot; linked = []; named = []; index = s.walk.tail_slot; value = slot }

  image : seat_shape s ≡ shape o
  image = same_shape o c n s g pin began inv f unspent may.at_tail.valid may.at_tail.ready

  words : words_of s ≡ words_in (shape o)
  words = same_words o c n s g pin began inv f unspent may.at_tail.valid may.at_tail.ready

  empty_here : slice_index c.memory.now.words (place_in (seat_shape s) s.walk.tail_block s.walk.tail_slot) ≡ 0
  empty_here = ap (λ (k : ℕ). slice_index c.memory.now.words k) (sym may.slot) ∙ empty

  last : IsLastTail o c s.walk
  last = slot_last o c n s g pin began inv f unspent may.at_tail.valid may.at_tail.ready may.inside empty_here

  long : length (last_log c).slots ≡ s.walk.tail_slot - 3
  long = last_long o c n s g pin began inv f unspent may.at_tail.valid may.at_tail.ready may.inside empty_here

  used : entries_used (last_log c) ≡ s.walk.tail_slot - 3
  used = last_used o c n s g pin began inv f unspent may.at_tail.valid may.at_tail.ready may.inside empty_here

  word_inside : word < length o.words
  word_inside = named_inside o c n s g pin began word inv f unspent (tail_load o c n s g pin began inv f unspent may.at_tail.valid may.at_tail.ready s.walk.tail_slot word may.inside may.slot)

  memory_grows : WordGrows o (length c.views) c.memory m (place_in (shape o) (last_log c).block s.walk.tail_slot) slot
  memory_grows = subst (λ (w : ℕ). WordGrows o (length c.views) c.memory m w slot)
      (may.slot ∙ (ap (λ (i : Shape). place_in i s.walk.tail_block s.walk.tail_slot) image ∙ ap (λ (b : ℕ). place_in (shape o) b s.walk.tail_slot) (sym last.block)))
      (exchange_wins o c.memory (length c.views) inv.sizes.words n word slot word_inside empty (omega arith))

  no_entries : length (entry_words (slot ∷ [])) ≡ 0
  no_entries = ap (λ (k : ℕ). length (entry_words (k ∷ []))) is_seal

  puts : PutsSlot o c m s.walk.tail_slot slot (entries o c.history) (end_of o c.history)
  puts = (let late = may.later in let many = long in let all = used in record {
    memory = memory_grows;
    index_is = omega (arith, late, many);
    inside = (let low = may.inside in let same = words in omega (arith, low, same));
    all_used = omega (arith, many, all);
    some = λ none. (let seal = is_seal in omega (arith, seal, none));
    seal_late = λ seal. omega (arith, late, many);
    end_is = (let none = no_entries in omega (arith, none));
    count = inv.order.log.count;
    limit = inv.order.log.limit;
    same = λ k inside. refl;
    new = λ other. absurd (other is_seal);
  })

  -- so the core grows by it
  pub seal_grows : Grows o c x
  seal_grows = record {
    memory = memory_grows;
    index = puts.inside;
    first = λ e. (let late = may.later in omega (arith, late, e));
    second = λ e. (let late = may.later in omega (arith, late, e));
    mine = λ block listed. cc;
    once = refl;
    in_log = λ block listed. cc;
    in_data = λ block listed. cc;
    long = λ block listed. cc;
    fenced = λ block k listed low. cc;
    logs = logs_grow o c m s.walk.tail_slot slot (entries o c.history) (end_of o c.history) inv puts;
    history = same_history o c n;
    seats = inv.records.seats_once.writes;
    holds = inv.writes;
    order = order o c m s.walk.tail_slot slot (entries o c.history) (end_of o c.history) inv puts;
    stands = stands o c m s.walk.tail_slot slot (entries o c.history) (end_of o c.history) inv puts;
    synced = synced_stay o c m s.walk.tail_slot slot (entries o c.history) (end_of o c.history) inv puts;
    says = record { same = λ k late inside. absurd (omega (arith, late, inside)); form = λ k late inside. absurd (omega (arith, late, inside)) };
    file = λ position past upto. absurd (omega (arith, past, upto));
  }

  -- the tail's log block has the seal
  tail_more : log_at (slot_added c.logs slot) s.walk.tail_base ≡ more_used (shape o) c.logs inv.order.log.some slot
  tail_more = ap (λ (base : ℕ). log_at (slot_added c.logs slot) base) (sym last.base) ∙ more_at o c m s.walk.tail_slot slot (entries o c.history) (end_of o c.history) inv puts

  sealed : is_full (shape o) (more_used (shape o) c.logs inv.order.log.some slot).slots ≡ true
  sealed = or_left (is_sealed ((last_log c).slots ++ slot ∷ [])) (length ((last_log c).slots ++ slot ∷ []) + 3 == words_in (shape o))
      (sealed_at ((last_log c).slots ++ slot ∷ []) (length (last_log c).slots) (get_or_push (last_log c).slots slot 0 (length (last_log c).slots) refl ∙ is_seal))

  -- the walk then
  abbrev pub walk_sealed : Walk
  walk_sealed = record (s.walk) { tail_slot = words_of s; at_tail = true }

  walk_holds : WalkHolds (around o (grown c x)) s.hold walk_sealed
  walk_holds = (let w = walk_same o c x inv seal_grows s g pin began f unspent in record {
    to_end = w.to_end;
    from_first = w.from_first;
    to_current = w.to_current;
    read = λ reading kept. (let r = w.read reading kept in record { inside = r.inside; block = r.block; from = r.from; upto = r.upto; table = r.table; size_is = r.size_is; position_is = r.position_is });
    kept_words = w.kept_words;
    unpinned = w.unpinned;
    walked = λ some stopped. (let r = w.walked some stopped in record {
      table = r.table;
      size_is = r.size_is;
      base = r.base;
      block = r.block;
      from = (let wide = inv.sizes.image.wide in let same = words in omega (arith, wide, same));
      upto = (let same = words in omega (arith, same));
      inside = λ other. absurd (other words);
      at_end = λ closed. (
        ap (λ (l : LogBlock). is_full (shape o) l.slots) tail_more ∙ sealed,
        position_is ∙ ap (λ (l : LogBlock). s.walk.tail_base + entries_used l) (sym tail_more),
      );
    });
    ready_walked = w.ready_walked;
    ready_base = w.ready_base;
    ready_tail = w.ready_tail;
    seeking = w.seeking;
    first_known = w.first_known;
  })
    where
      position_is : s.walk.position ≡ s.walk.tail_base + entries_used (more_used (shape o) c.logs inv.order.log.some slot)
      position_is =
          (let more = used_more o c m s.walk.tail_slot slot (entries o c.history) (end_of o c.history) inv puts in
          let none = no_entries in
          let many = long in
          let same = words in
          let low = may.inside in
          let position = ((walked o c n s g pin began inv f unspent may.at_tail.valid may.at_tail.ready).inside (λ e. omega (arith, e, same, low))).0 in
          omega (arith, more, none, many, position))

  seal_fits : began ≤ end_of o c.history → FitsGrown o c x inv seal_grows s g pin began f walk_sealed s.calling s.blocks g.stored
  seal_fits low = record {
    found = refl;
    named = refl;
    map = λ some. (f.fits some).map;
    owns = f.owns.owned;
    owned = owned_grown o c x inv seal_grows n g s words image f.owns.owned.listed f.owned;
    walks = λ some. walk_holds;
    noted = noted_same o c x inv seal_grows s g pin began f;
    writes = (let r = f.writes in record { recorded = r.recorded; running = r.running });
    writes_once = f.writes_once;
    put = f.put;
    calls = (let r = f.calls in record {
      laid = r.laid;
      bases = r.bases;
      reading = λ reading. (let both = sym reading ∙ ((f.walk unspent).ready_walked may.at_tail.ready).1 in cc);
      numbers = r.numbers;
      task = r.task;
    });
    tail = λ at. stands_at_end o c n s g pin began inv f unspent low s.walk.position s.walk.tail_block (let position = last.position in omega (arith, position)) ((f.walk unspent).ready_walked may.at_tail.ready).0;
    to = f.syncs.to;
    job = refl;
  }

  -- what a core knows of the seat then
  pub seal_knows : began ≤ end_of o c.history → slice_index c.memory.now.pins n ≡ pin →
      Knows o (grown c x) n (record s { walk = walk_sealed }) g (slice_index c.memory.now.pins n) began
  seal_knows low same = grown_knows o c x inv seal_grows s g pin began f walk_sealed s.calling s.blocks g.stored (seal_fits low) same
