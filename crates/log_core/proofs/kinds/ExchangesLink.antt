-- An exchange of the link of the tail's block that wins: what a core knows of the seat then.
use Rattle.std.proofs.Common.{◌≡◌, ◌≢◌, ◌<◌, ◌≤◌, ◌+◌, ◌-◌, ◌==◌, ◌||◌, ◌++◌, ◌∷◌, ℕ, Bool, true, false, List, [], length, take, refl, sym, ◌∙◌, ap, subst, arith, slice_index}
use Rattle.std.proofs.lemmas.Bool.{eqb-true, eq-eqb}
use Rattle.std.proofs.lemmas.List.{map-append}
use Rattle.log_image.specs.Image.{words_in}
use Rattle.log_image.specs.Chains.{is_listed}
use Rattle.pmem_words.specs.Noted.{noted_more}
use Rattle.pmem_words.specs.Seats.{Seat, Walk, Blocks}
use Rattle.persistence.specs.Memory.{cell}
use Rattle.log_core.specs.Entries.{LogEntry}
use Rattle.log_core.specs.Views.{Ghost, Stored, view_of}
use Rattle.log_core.specs.Origin.{Origin, shape, start_base, first_generation, LogBlock, Generation}
use Rattle.log_core.specs.Files.{entries, end_of}
use Rattle.log_core.specs.Cores.{Core, generation_at, nth_log, log_at, number_at, entries_used, is_full, is_named, data_names}
use Rattle.log_core.specs.Works.{seat_shape, words_of}
use Rattle.log_core.specs.Steps.{blocks_but, stored_but}
use Rattle.log_core.specs.May.{MayExchangeLink}
use Rattle.log_core.specs.Walks.{WalkHolds}
use Rattle.log_core.specs.Noted.{NotedHolds, is_named_before}
use Rattle.log_core.specs.Invariant.{Invariant, around}
use Rattle.log_core.specs.Knows.{Knows}
use Rattle.log_core.proofs.NotedBits.{length_more, more_noted}
use Rattle.log_core.proofs.NotedNames.{log_more}
use Rattle.log_core.proofs.NotedGrown.{noted_inside, first_same}
use Rattle.log_core.proofs.PinnedChains.{kept}
use Rattle.log_core.proofs.LogTails.{bases_rise, number_again, number_at_base, log_at_base, some_slot, entry_counts}
use Rattle.log_core.proofs.TailEnds.{stands_at_end, IsLastTail}
use Rattle.log_core.proofs.clauses.Growth.{Growth, Grows, last_log, grown}
use Rattle.log_core.proofs.clauses.GrownWords.{last_inside}
use Rattle.log_core.proofs.clauses.GrownKnows.{owns_left, walk_same, FitsGrown, grown_knows}
use Rattle.log_core.proofs.clauses.GrownOthers.{owned_grown}
use Rattle.log_core.proofs.clauses.OneView.{same_or_other}
use Rattle.log_core.proofs.clauses.OwnedBut.{left_hold}
use Rattle.log_core.proofs.kinds.LinkGrows.{x as link_growth, link_grows as link_makes, new as new_block, logs as logs_linked, image as same_image, words as word_count, last as last_tail, full as last_is_full, some_block as block_some, old_log as log_before, new_log as log_new, long as logs_long, last_base as base_last, wide as wide_words}

-- which block leaves
leaves_one : (block other : ℕ) → (other == block) ≡ is_listed (block ∷ []) other
leaves_one block other = go (other == block) refl (block == other) refl
  where
    go : (a : Bool) → (other == block) ≡ a → (b : Bool) → (block == other) ≡ b → a ≡ (b || false)
    go true e true h = refl
    go true e false h = (let both : true ≡ false = sym (eq-eqb block other (sym (eqb-true other block e))) ∙ h in cc)
    go false e true h = (let both : true ≡ false = sym (eq-eqb other block (sym (eqb-true block other h))) ∙ e in cc)
    go false e false h = refl

module _ (o : Origin) (c : Core) (n : ℕ) (s : Seat) (g : Ghost) (pin began word block : ℕ) (inv : Invariant o c) (f : Knows o c n s g pin began) (unspent : (view_of c.views n).parts ≢ [])
    (may : MayExchangeLink s word block) (empty : slice_index c.memory.now.words word ≡ 0) where
  -- what the step makes
  abbrev pub x : Growth
  x = link_growth o c n s g pin began word block inv f unspent may empty

  pub link_grows : Grows o c x
  link_grows = link_makes o c n s g pin began word block inv f unspent may empty

  abbrev new : LogBlock
  new = new_block o c n s g pin began word block inv f unspent may empty

  abbrev logs : List LogBlock
  logs = logs_linked o c n s g pin began word block inv f unspent may empty

  image : seat_shape s ≡ shape o
  image = same_image o c n s g pin began word block inv f unspent may empty

  words : words_of s ≡ words_in (shape o)
  words = word_count o c n s g pin began word block inv f unspent may empty

  last : IsLastTail o c s.walk
  last = last_tail o c n s g pin began word block inv f unspent may empty

  full : is_full (shape o) (last_log c).slots ≡ true
  full = last_is_full o c n s g pin began word block inv f unspent may empty

  some_block : block ≢ 0
  some_block = block_some o c n s g pin began word block inv f unspent may empty

  old_log : (number : ℕ) → number < length c.logs → nth_log logs number ≡ nth_log c.logs number
  old_log = log_before o c n s g pin began word block inv f unspent may empty

  new_log : nth_log logs (length c.logs) ≡ new
  new_log = log_new o c n s g pin began word block inv f unspent may empty

  long : length logs ≡ length c.logs + 1
  long = logs_long o c n s g pin began word block inv f unspent may empty

  last_base : (last_log c).base + entries_used (last_log c) ≡ s.walk.position
  last_base = base_last o c n s g pin began word block inv f unspent may empty

  wide : 8 ≤ words_in (shape o)
  wide = wide_words o c n s g pin began word block inv f unspent may empty

  -- the new log block is the one with its base
  used_some : 0 < entries_used (last_log c)
  used_some = (let some = some_slot o c inv (last_log c).slots full in
      entry_counts (last_log c).slots 0 (omega arith) (inv.order.log.used (length c.logs - 1) 0 some)
      (λ seal. (let late = (inv.order.log.seal_last (length c.logs - 1) 0 seal).1 in omega (arith, late))))

  before_new : (other : ℕ) → other < length c.logs → (nth_log c.logs other).base < s.walk.position
  before_new other inside = (let last_low : (last_log c).base < s.walk.position = (let used = used_some in let base = last_base in omega (arith, used, base)) in
      same_or_other other (length c.logs - 1)
      (λ same. subst (λ (k : ℕ). (nth_log c.logs k).base < s.walk.position) (sym same) last_low)
      (λ apart. (let rise = bases_rise o c inv (length c.logs - 1) other (omega (arith, inside, apart)) (last_inside o c inv) in omega (arith, rise, last_low))))

  new_at : log_at logs s.walk.position ≡ new
  new_at = subst (λ (l : LogBlock). log_at logs l.base ≡ l) new_log (log_at_base logs (length c.logs) (let more = long in omega (arith, more))
      (λ other less same. (let low = before_new other less in
      let was : (nth_log logs other).base ≡ (nth_log c.logs other).base = ap (λ (l : LogBlock). l.base) (old_log other less) in
      let is : (nth_log logs (length c.logs)).base ≡ s.walk.position = ap (λ (l : LogBlock). l.base) new_log in
      omega (arith, same, low, was, is))))

  -- the walk, the owned blocks and the stored words then
  abbrev pub walk_linked : Walk
  walk_linked = record (s.walk) { tail_block = block; tail_slot = 3; tail_base = s.walk.position; at_tail = true }

  abbrev pub blocks_linked : Blocks
  blocks_linked = record (blocks_but (words_of s) (λ (other : ℕ). other == block) s.blocks) { named = noted_more s.calling.noting s.blocks.named (block ∷ []) }

  abbrev pub stored_linked : List Stored
  stored_linked = stored_but (words_of s) (λ (other : ℕ). other == block) g.stored

  walk_holds : WalkHolds (around o (grown c x)) s.hold walk_linked
  walk_holds = (let w = walk_same o c x inv link_grows s g pin began f unspent in record {
    to_end = w.to_end;
    from_first = w.from_first;
    to_current = w.to_current;
    read = λ reading kept. (let r = w.read reading kept in record { inside = r.inside; block = r.block; from = r.from; upto = r.upto; table = r.table; size_is = r.size_is; position_is = r.position_is });
    kept_words = w.kept_words;
    unpinned = w.unpinned;
    walked = λ some stopped. (let r = w.walked (w.ready_walked may.ready).0 (w.ready_walked may.ready).1 in record {
      table = r.table;
      size_is = r.size_is;
      base = ap (λ (l : LogBlock). l.base) new_at;
      block = ap (λ (l : LogBlock). l.block) new_at;
      from = omega arith;
      upto = (let some_words = wide in omega (arith, some_words));
      inside = λ other. (omega arith, omega arith);
      at_end = λ short. (let some_words = wide in absurd (omega (arith, some_words, short)));
    });
    ready_walked = λ again. (let r = w.ready_walked again in (some_block, r.1, r.2));
    ready_base = w.ready_base;
    ready_tail = λ again. (let low = w.ready_tail again in let base = last.base in let position = last_base in omega (arith, low, base, position));
    seeking = w.seeking;
    first_known = w.first_known;
  })

  -- what the chain names before the walk's place, in the data area, and of log blocks up to the last one
  abbrev es : List LogEntry
  es = take (s.walk.position - start_base o) (entries o c.history)

  abbrev pinned : Generation
  pinned = generation_at o c.generations s.hold.generation

  abbrev end_number : ℕ
  end_number = length c.logs - 1

  tail_number : number_at c.logs s.walk.tail_base ≡ end_number
  tail_number = ap (λ (k : ℕ). number_at c.logs k) (sym last.base) ∙ number_again o c inv end_number (last_inside o c inv)

  new_number : number_at logs s.walk.position ≡ length c.logs
  new_number = ap (λ (k : ℕ). number_at logs k) (sym (ap (λ (l : LogBlock). l.base) new_log)) ∙ number_at_base logs (length c.logs) (let more = long in omega (arith, more))
      (λ other less same. (let low = before_new other less in
      let was : (nth_log logs other).base ≡ (nth_log c.logs other).base = ap (λ (l : LogBlock). l.base) (old_log other less) in
      let is : (nth_log logs (length c.logs)).base ≡ s.walk.position = ap (λ (l : LogBlock). l.base) new_log in
      omega (arith, same, low, was, is)))

  late_cut : pinned.cut ≤ end_number + 1
  late_cut = (let inside = inv.order.generations_rise.cut_inside (s.hold.generation - first_generation o) (kept o c n s g pin began inv f may.valid).inside in omega (arith, inside))

  count : end_number + 1 ≡ length c.logs
  count = (let some = inv.order.log.some in omega (arith, some))

  -- the chain names the new log block more
  names_more : (b : ℕ) → is_named_before o logs (entries o c.history) pinned walk_linked b ≡ (is_listed (block ∷ []) b || is_named_before o c.logs (entries o c.history) pinned s.walk b)
  names_more b =
      (let same = count in
      ap (λ (k : ℕ). is_named o (take (k + 1) logs) es pinned b) (new_number ∙ sym same)
      ∙ (log_more o logs es pinned end_number late_cut (let more = long in omega (arith, more, same)) b
      ∙ (ap (λ (l : LogBlock). is_listed (l.block ∷ []) b || is_named o (take (end_number + 1) logs) es pinned b) (ap (λ (k : ℕ). nth_log logs k) same ∙ new_log)
      ∙ (ap (λ (l : List ℕ). is_listed (block ∷ []) b || is_listed ((pinned.snapshots ++ l) ++ data_names o es pinned) b)
      (first_same c.logs logs (block ∷ []) (end_number + 1) pinned.cut (map-append (λ (l : LogBlock). l.block) c.logs (new ∷ [])) (omega (arith, same)))
      ∙ ap (λ (k : ℕ). is_listed (block ∷ []) b || is_named o (take (k + 1) c.logs) es pinned b) (sym tail_number)))))

  noted_holds : NotedHolds (around o (grown c x)) s.hold walk_linked s.calling blocks_linked.named
  noted_holds = (
    (f.noted unspent).0,
    (λ on reading. (let both : true ≡ false = sym reading ∙ ((f.walk unspent).ready_walked may.ready).1 in cc)),
    (λ on ready b low. more_noted s.calling.noting s.blocks.named (block ∷ []) b on (noted_inside o c n s g pin began f unspent b low)
        ∙ (ap (λ (t : Bool). is_listed (block ∷ []) b || t) ((f.noted unspent).2 on ready b low) ∙ sym (names_more b))),
  )

  not_reading : {P : Type 0} → s.walk.reading ≡ true → P
  not_reading reading = (let both : true ≡ false = sym reading ∙ ((f.walk unspent).ready_walked may.ready).1 in cc)

  link_fits : began ≤ end_of o c.history → FitsGrown o c x inv link_grows s g pin began f walk_linked s.calling blocks_linked stored_linked
  link_fits low = record {
    found = refl;
    named = length_more s.calling.noting s.blocks.named (block ∷ []);
    map = λ some. (f.fits some).map;
    owns = owns_left o c x inv link_grows (λ (other : ℕ). other == block) (leaves_one block) s.blocks.owned f.owns.owned;
    owned = (let r = left_hold (λ at. cell x.memory at) x.memory.past x.memory.pending n s g (record g { stored = stored_linked })
        (owned_grown o c x inv link_grows n g s words image f.owns.owned.listed f.owned) (λ (other : ℕ). other == block) refl s.blocks.found in record {
          contents = r.contents;
          areas = r.areas;
          stored = r.stored;
          filled = λ place inside filled. (let q = r.filled place inside filled in record { owned = q.owned; each = q.each });
          fenced = r.fenced;
        });
    walks = λ some. walk_holds;
    noted = λ some. noted_holds;
    writes = (let r = f.writes in record { recorded = r.recorded; running = r.running });
    writes_once = f.writes_once;
    put = f.put;
    calls = (let r = f.calls in record { laid = r.laid; bases = r.bases; reading = λ reading. not_reading reading; numbers = r.numbers; task = r.task });
    tail = λ at. stands_at_end o c n s g pin began inv f unspent low s.walk.position block (let position = last.position in omega (arith, position)) some_block;
    to = f.syncs.to;
    job = refl;
  }

  -- what a core knows of the seat then
  pub link_knows : began ≤ end_of o c.history → slice_index c.memory.now.pins n ≡ pin →
      Knows o (grown c x) n (record s { walk = walk_linked; blocks = blocks_linked }) (record g { stored = stored_linked }) (slice_index c.memory.now.pins n) began
  link_knows low same = grown_knows o c x inv link_grows s g pin began f walk_linked s.calling blocks_linked stored_linked (link_fits low) same
