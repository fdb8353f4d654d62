-- An exchange of the link of the tail's block that wins: what it makes of the core. The owned log block is the last one of the chain then.
use Rattle.std.proofs.Common.{◌≡◌, ◌≢◌, ◌<◌, ◌≤◌, ◌+◌, ◌-◌, ◌*◌, ◌/◌, ◌==◌, ◌||◌, ◌&&◌, nat_lt, ⊎_elim, slice_index_or, ◌++◌, ◌∷◌, ℕ, zero, suc, Bool, true, false, List, [], length, replicate, refl, sym, ◌∙◌, ap, subst, arith, slice_index, Some, ◌^◌}
use Rattle.std.proofs.lemmas.Bool.{eqb-true, cases_lt, ltb-true, and_parts}
use Rattle.std.proofs.lemmas.List.{length_push, get_or_push, get_or_append_left, get_or_past, get_or-replicate, length-replicate}
use Rattle.log_entry.specs.Words.{block_word}
use Rattle.log_entry.specs.declared.words.BlockKind.TheVariants.{Log}
use Rattle.log_image.specs.Image.{Shape, words_in, total, is_in_log}
use Rattle.log_image.specs.Chains.{is_listed}
use Rattle.pmem_words.specs.Seats.{Seat}
use Rattle.asks.specs.declared.ask.Place.TheVariants.{Image}
use Rattle.asks.specs.declared.ask.Ask.TheVariants.{Exchange}
use Rattle.persistence.specs.Memory.{Memory, Cell, cell, memory_after}
use Rattle.log_core.specs.Entries.{place_in, no_entry}
use Rattle.log_core.specs.Views.{Ghost, view_of}
use Rattle.log_core.specs.Origin.{Origin, shape, start_base, LogBlock, no_log}
use Rattle.log_core.specs.Files.{entries, end_of}
use Rattle.log_core.specs.Cores.{Core, nth_log, entries_used, is_full}
use Rattle.log_core.specs.Works.{seat_shape, words_of}
use Rattle.log_core.specs.Needs.{owned_numbers}
use Rattle.log_core.specs.Steps.{content_of}
use Rattle.log_core.specs.May.{MayExchangeLink}
use Rattle.log_core.specs.Order.{LogInOrder, LogStands}
use Rattle.log_core.specs.Synced.{IsSyncedIn}
use Rattle.log_core.specs.Certain.{IsCertain, IsGrowing}
use Rattle.log_core.specs.Invariant.{Invariant}
use Rattle.log_core.specs.Knows.{Knows}
use Rattle.log_core.proofs.LogGrowth.{one_linked}
use Rattle.log_core.proofs.TailEnds.{same_shape, same_words, tail_load, IsLastTail, link_last, last_full}
use Rattle.log_core.proofs.kinds.LoadsImageWord.{named_inside}
use Rattle.log_core.proofs.clauses.Exchanged.{WordGrows, exchange_wins}
use Rattle.log_core.proofs.clauses.FencedContents.{fenced_owned, content_long, content_certain}
use Rattle.log_core.proofs.clauses.GrowingWords.{growing_more, certain_grows}
use Rattle.log_core.proofs.clauses.Growth.{Growth, Grows, HistoryGrows, last_log}
use Rattle.log_core.proofs.clauses.GrownWords.{last_inside, last_taken}
use Rattle.log_core.proofs.clauses.GrownOrder.{past_last}
use Rattle.log_core.proofs.clauses.OneView.{same_or_other}
use Rattle.log_core.proofs.clauses.Leaves.{taken_apart}
use Rattle.log_image.proofs.BlockLemmas.{other_place}

-- a history that stays
pub same_history : (o : Origin) (c : Core) (n : ℕ) → HistoryGrows o n c.history c.history []
same_history o c n = record {
  longer = omega arith;
  files = λ position low. refl;
  writes = λ position above low. refl;
  new = λ position above upto. absurd (omega (arith, above, upto));
  more = omega arith;
  same = λ k inside. refl;
  front = λ k inside. refl;
  names = λ k inside. sym (Rattle.std.proofs.Common.append-nil _);
}

-- of one block
pub one_is : (block other : ℕ) → is_listed (block ∷ []) other ≡ true → other ≡ block
one_is block other listed = go (block == other) refl listed
  where
    go : (b : Bool) → (block == other) ≡ b → (b || false) ≡ true → other ≡ block
    go true e is = sym (eqb-true block other e)
    go false e is = cc

module _ (o : Origin) (c : Core) (n : ℕ) (s : Seat) (g : Ghost) (pin began word block : ℕ) (inv : Invariant o c) (f : Knows o c n s g pin began) (unspent : (view_of c.views n).parts ≢ [])
    (may : MayExchangeLink s word block) (empty : slice_index c.memory.now.words word ≡ 0) where
  abbrev m : Memory
  m = memory_after c.memory n (Exchange (Image word) 0 block)

  -- the new log block, and all with it
  abbrev pub new : LogBlock
  new = record { block = block; base = s.walk.position; slots = [] }

  abbrev pub logs : List LogBlock
  logs = c.logs ++ new ∷ []

  -- what the step makes
  abbrev pub x : Growth
  x = record { n = n; seat = s; memory = m; history = c.history; logs = logs; linked = block ∷ []; named = []; index = 0; value = block }

  -- the seat has the shape of the image
  pub image : seat_shape s ≡ shape o
  image = same_shape o c n s g pin began inv f unspent may.valid may.ready

  pub words : words_of s ≡ words_in (shape o)
  words = same_words o c n s g pin began inv f unspent may.valid may.ready

  empty_here : slice_index c.memory.now.words (place_in (seat_shape s) s.walk.tail_block 0) ≡ 0
  empty_here = ap (λ (k : ℕ). slice_index c.memory.now.words k) (sym may.link) ∙ empty

  -- the tail is in the last log block, which is full
  pub last : IsLastTail o c s.walk
  last = link_last o c n s g pin began inv f unspent may.valid may.ready may.at_end empty_here

  pub full : is_full (shape o) (last_log c).slots ≡ true
  full = last_full o c n s g pin began inv f unspent may.valid may.ready may.at_end empty_here

  word_inside : word < length o.words
  word_inside = named_inside o c n s g pin began word inv f unspent
      (tail_load o c n s g pin began inv f unspent may.valid may.ready 0 word (let wide = inv.sizes.image.wide in let same = words in omega (arith, wide, same)) may.link)

  in_log : is_in_log (shape o) block ≡ true
  in_log = subst (λ (i : Shape). is_in_log i block ≡ true) image may.in_log

  block_small : block < 2 ^ 64
  block_small = (let low = ltb-true block (total (shape o)) (and_parts (nat_lt (shape o).data_blocks block) (nat_lt block (total (shape o))) in_log).1 in
      let few = o.geometry.few_blocks in omega (arith, low, few))

  memory_grows : WordGrows o (length c.views) c.memory m (place_in (shape o) (last_log c).block 0) block
  memory_grows = subst (λ (w : ℕ). WordGrows o (length c.views) c.memory m w block)
      (may.link ∙ (ap (λ (i : Shape). place_in i s.walk.tail_block 0) image ∙ ap (λ (b : ℕ). place_in (shape o) b 0) (sym last.block)))
      (exchange_wins o c.memory (length c.views) inv.sizes.words n word block word_inside empty block_small)

  -- the new block: its owner, and its content
  pub owned : is_listed (owned_numbers s.blocks.owned) block ≡ true
  owned = fenced_owned s.blocks.owned block may.owned

  -- it is no header
  pub some_block : block ≢ 0
  some_block none = (let low = ltb-true (shape o).data_blocks block (and_parts (nat_lt (shape o).data_blocks block) (nat_lt block (total (shape o))) in_log).0 in omega (arith, low, none))

  content_is : (k value : ℕ) → k < words_in (shape o) → slice_index (0 ∷ block_word (record { kind = Log; base = s.walk.position }) ∷ replicate (words_of s - 2) 0) k ≡ value → IsCertain (cell c.memory (place_in (shape o) block k)) value
  content_is k value low is = subst (λ (v : ℕ). IsCertain (cell c.memory (place_in (shape o) block k)) v) (ap (λ (l : List ℕ). slice_index l k) may.content ∙ is)
      (subst (λ (i : Shape). IsCertain (cell c.memory (place_in i block k)) (slice_index (content_of s block) k)) image
      (content_certain (λ (w : ℕ). cell c.memory w) c.memory.past c.memory.pending n g s f.owned block f.owns.owned.once may.owned k (subst (λ (q : ℕ). k < q) (sym words) low)))

  -- the log blocks by their numbers
  pub old_log : (number : ℕ) → number < length c.logs → nth_log logs number ≡ nth_log c.logs number
  old_log number inside = get_or_append_left c.logs (new ∷ []) no_log number inside

  -- the new one is the last
  pub new_log : nth_log logs (length c.logs) ≡ new
  new_log = get_or_push c.logs new no_log (length c.logs) refl

  pub long : length logs ≡ length c.logs + 1
  long = length_push c.logs new

  at_number : (P : LogBlock → Type 0) (number : ℕ) → (number < length c.logs → P (nth_log c.logs number)) → (number ≡ length c.logs → P new) → (length c.logs < number → P no_log) → P (nth_log logs number)
  at_number P number old here past = ⊎_elim
      (λ inside. subst P (sym (old_log number inside)) (old inside))
      (λ late. same_or_other number (length c.logs)
      (λ same. subst P (sym (ap (λ (k : ℕ). nth_log logs k) same ∙ new_log)) (here same))
      (λ other. subst P (sym (past_last logs number (let more = long in omega (arith, more, late, other)))) (past (omega (arith, late, other)))))
      (cases_lt number (length c.logs))

  -- which begins at the position
  pub last_base : (last_log c).base + entries_used (last_log c) ≡ s.walk.position
  last_base = inv.order.log.last ∙ sym last.position

  order : LogInOrder o (entries o c.history) (end_of o c.history) logs
  order = (let r = inv.order.log in record {
    count = r.count;
    limit = r.limit;
    some = (let more = long in omega (arith, more));
    first = ap (λ (l : LogBlock). l.base) (old_log 0 r.some) ∙ r.first;
    next = λ number before. ⊎_elim
        (λ (inside : number + 1 < length c.logs). ap (λ (l : LogBlock). l.base) (old_log (number + 1) inside)
        ∙ (r.next number inside ∙ ap (λ (l : LogBlock). l.base + entries_used l) (sym (old_log number (omega (arith, inside))))))
        (λ (late : length c.logs ≤ number + 1). (let more = long in
        let here : number + 1 ≡ length c.logs = omega (arith, more, late, before) in
        let at : number ≡ length c.logs - 1 = omega (arith, here) in
        ap (λ (k : ℕ). (nth_log logs k).base) here ∙ (ap (λ (l : LogBlock). l.base) new_log
        ∙ (sym last_base ∙ (ap (λ (k : ℕ). (nth_log c.logs k).base + entries_used (nth_log c.logs k)) (sym at)
        ∙ ap (λ (l : LogBlock). l.base + entries_used l) (sym (old_log number (omega (arith, here)))))))))
        (cases_lt (number + 1) (length c.logs));
    last = ap (λ (k : ℕ). (nth_log logs k).base + entries_used (nth_log logs k)) (let more = long in let same : length logs - 1 ≡ length c.logs = omega (arith, more) in same)
        ∙ (ap (λ (l : LogBlock). l.base + entries_used l) new_log ∙ (let position = last.position in omega (arith, position)));
    full = λ number before. ap (λ (l : LogBlock). is_full (shape o) l.slots) (old_log number (let more = long in omega (arith, more, before)))
        ∙ ⊎_elim (λ (inside : number + 1 < length c.logs). r.full number inside)
        (λ (late : length c.logs ≤ number + 1). ap (λ (k : ℕ). is_full (shape o) (nth_log c.logs k).slots) (let more = long in let at : number ≡ length c.logs - 1 = omega (arith, more, late, before) in at) ∙ full)
        (cases_lt (number + 1) (length c.logs));
    inside = λ number low. at_number (λ (l : LogBlock). length l.slots + 3 ≤ words_in (shape o)) number (λ before. r.inside number before)
        (λ here. (let wide = inv.sizes.image.wide in omega (arith, wide))) (λ past. (let more = long in absurd (omega (arith, more, low, past))));
    used = λ number k. at_number (λ (l : LogBlock). k < length l.slots → slice_index l.slots k ≢ 0) number (λ before. r.used number k) (λ here less. absurd (omega (arith, less))) (λ past less. absurd (omega (arith, less)));
    seal_last = λ number k. at_number (λ (l : LogBlock). slice_index l.slots k ≡ 3 → (k + 1 ≡ length l.slots) × (0 < k)) number (λ before. r.seal_last number k) (λ here seal. absurd (omega (arith, seal))) (λ past seal. absurd (omega (arith, seal)));
    entries = λ number k. at_number
        (λ (l : LogBlock). k < length l.slots → slice_index l.slots k ≢ 3 → slice_index l.slots k ≡ (slice_index_or (entries o c.history) (l.base + k - start_base o) no_entry).word) number
        (λ before. r.entries number k) (λ here less. absurd (omega (arith, less))) (λ past less. absurd (omega (arith, less)));
  })

  -- the words of other blocks stay, and of this one the link grows
  other_word : (k : ℕ) → k ≢ 0 → k < words_in (shape o) → cell m (place_in (shape o) (last_log c).block k) ≡ cell c.memory (place_in (shape o) (last_log c).block k)
  other_word k some low = memory_grows.others (place_in (shape o) (last_log c).block k) (λ same. some (omega (arith, same)))

  new_word : (k : ℕ) → k < words_in (shape o) → cell m (place_in (shape o) block k) ≡ cell c.memory (place_in (shape o) block k)
  new_word k low = memory_grows.others (place_in (shape o) block k) (other_place (words_in (shape o)) block (last_log c).block k 0 apart low (omega (arith, low)))
    where
      apart : block ≢ (last_log c).block
      apart same = taken_apart n (c.owner (last_log c).block) (last_taken o c inv) (ap c.owner (sym same) ∙ f.owns.owned.listed block owned)

  certain_now : (b k value : ℕ) → cell m (place_in (shape o) b k) ≡ cell c.memory (place_in (shape o) b k) → IsCertain (cell c.memory (place_in (shape o) b k)) value → IsCertain (cell m (place_in (shape o) b k)) value
  certain_now b k value same certain = subst (λ (a : Cell). IsCertain a value) (sym same) certain

  -- a block has enough words
  pub wide : 8 ≤ words_in (shape o)
  wide = inv.sizes.image.wide

  stands_last : LogStands (shape o) (λ w. cell c.memory w) (last_log c) 0 → LogStands (shape o) (λ w. cell m w) (last_log c) block
  stands_last old = record {
    base = certain_now (last_log c).block 1 _ (other_word 1 (λ e. omega (arith, e)) (let w = wide in omega (arith, w))) old.base;
    zero = certain_now (last_log c).block 2 0 (other_word 2 (λ e. omega (arith, e)) (let w = wide in omega (arith, w))) old.zero;
    link = subst (λ (a : Cell). IsGrowing a block) (sym memory_grows.here) (growing_more (cell c.memory (place_in (shape o) (last_log c).block 0)) block old.link);
    slots = λ k low open_slot. subst (λ (a : Cell). IsGrowing a (slice_index (last_log c).slots k)) (sym (other_word (k + 3) (λ e. omega (arith, e)) low)) (old.slots k low open_slot);
  }

  stands_new : LogStands (shape o) (λ w. cell m w) new 0
  stands_new = record {
    base = certain_now block 1 _ (new_word 1 (let w = wide in omega (arith, w))) (content_is 1 (block_word (record { kind = Log; base = s.walk.position })) (let w = wide in omega (arith, w)) refl);
    zero = certain_now block 2 0 (new_word 2 (let w = wide in omega (arith, w))) (content_is 2 0 (let w = wide in omega (arith, w)) (zeros 0));
    link = certain_grows (cell m (place_in (shape o) block 0)) (certain_now block 0 0 (new_word 0 (let w = wide in omega (arith, w))) (content_is 0 0 (let w = wide in omega (arith, w)) refl));
    slots = λ k low open_slot. certain_grows (cell m (place_in (shape o) block (k + 3))) (certain_now block (k + 3) 0 (new_word (k + 3) low)
        (content_is (k + 3) 0 low (ap (λ (at : ℕ). slice_index (0 ∷ block_word (record { kind = Log; base = s.walk.position }) ∷ replicate (words_of s - 2) 0) at) (let e : k + 3 ≡ suc (suc (k + 1)) = omega arith in e) ∙ zeros (k + 1))));
  }
    where
      zeros : (k : ℕ) → slice_index (replicate (words_of s - 2) 0) k ≡ 0
      zeros k = ⊎_elim (λ (inside : k < words_of s - 2). get_or-replicate (words_of s - 2) k 0 0 inside)
          (λ (past : words_of s - 2 ≤ k). get_or_past (replicate (words_of s - 2) 0) k 0 (let all = length-replicate {A = ℕ} (words_of s - 2) 0 in omega (arith, all, past)))
          (cases_lt k (words_of s - 2))

  -- the last log block before is the last but one
  at_last : (P : ℕ → Type 0) (number : ℕ) → length c.logs ≤ number + 1 → number < length logs → P (length c.logs - 1) → P (length c.logs) → P number
  at_last P number late inside before here = same_or_other number (length c.logs)
      (λ same. subst P (sym same) here)
      (λ other. subst P (let more = long in let at : length c.logs - 1 ≡ number = omega (arith, more, late, inside, other) in at) before)

  after_new : nth_log logs (length c.logs + 1) ≡ no_log
  after_new = past_last logs (length c.logs + 1) (let more = long in omega (arith, more))

  last_again : nth_log logs (length c.logs - 1) ≡ last_log c
  last_again = old_log (length c.logs - 1) (last_inside o c inv)

  next_is : nth_log logs (length c.logs - 1 + 1) ≡ new
  next_is = ap (λ (k : ℕ). nth_log logs k) (let some = inv.order.log.some in let e : length c.logs - 1 + 1 ≡ length c.logs = omega (arith, some) in e) ∙ new_log

  -- so the core grows by it
  pub link_grows : Grows o c x
  link_grows = record {
    memory = memory_grows;
    index = (let w = wide in omega (arith, w));
    first = λ e. omega (arith, e);
    second = λ e. omega (arith, e);
    mine = λ other listed. ap c.owner (one_is block other listed) ∙ f.owns.owned.listed block owned;
    once = refl;
    in_log = λ other listed. subst (λ (b : ℕ). is_in_log (shape o) b ≡ true) (sym (one_is block other listed)) in_log;
    in_data = λ other listed. cc;
    long = λ other listed. ap (λ (b : ℕ). length (content_of s b)) (one_is block other listed)
        ∙ (content_long (λ (w : ℕ). cell c.memory w) c.memory.past c.memory.pending n g s f.owned block owned ∙ words);
    fenced = λ other k listed low. subst (λ (b : ℕ). IsCertain (cell c.memory (place_in (shape o) b k)) (slice_index (content_of s b) k)) (sym (one_is block other listed))
        (content_is k (slice_index (content_of s block) k) low (ap (λ (l : List ℕ). slice_index l k) (sym may.content)));
    logs = one_linked (shape o) c.logs new;
    history = same_history o c n;
    seats = inv.records.seats_once.writes;
    holds = inv.writes;
    order = order;
    stands = λ old number late inside. at_last (λ (k : ℕ). LogStands (shape o) (λ w. cell m w) (nth_log logs k) (nth_log logs (k + 1)).block) number late inside
        (subst (λ (l : LogBlock). LogStands (shape o) (λ w. cell m w) l (nth_log logs (length c.logs - 1 + 1)).block) (sym last_again)
        (subst (λ (l : LogBlock). LogStands (shape o) (λ w. cell m w) (last_log c) l.block) (sym next_is) (stands_last old)))
        (subst (λ (l : LogBlock). LogStands (shape o) (λ w. cell m w) l (nth_log logs (length c.logs + 1)).block) (sym new_log)
        (subst (λ (l : LogBlock). LogStands (shape o) (λ w. cell m w) new l.block) (sym after_new) stands_new));
    synced = λ synced upto next old number late inside. at_last (λ (k : ℕ). IsSyncedIn (shape o) (λ w. cell m w) synced (nth_log logs k) (nth_log logs (k + 1))) number late inside
        (subst (λ (l : LogBlock). IsSyncedIn (shape o) (λ w. cell m w) synced l (nth_log logs (length c.logs - 1 + 1))) (sym last_again)
        (subst (λ (l : LogBlock). IsSyncedIn (shape o) (λ w. cell m w) synced (last_log c) l) (sym next_is) (record {
          slots = λ k used low. certain_now (last_log c).block (k + 3) (slice_index (last_log c).slots k)
              (other_word (k + 3) (λ e. omega (arith, e)) (let fits = inv.order.log.inside (length c.logs - 1) (last_inside o c inv) in omega (arith, fits, used))) (old.slots k used low);
          link = λ some low. absurd (let position = last.position in omega (arith, position, low, upto));
        })))
        (subst (λ (l : LogBlock). IsSyncedIn (shape o) (λ w. cell m w) synced l (nth_log logs (length c.logs + 1))) (sym new_log)
        (subst (λ (l : LogBlock). IsSyncedIn (shape o) (λ w. cell m w) synced new l) (sym after_new) (record {
          slots = λ k used low. absurd (omega (arith, used));
          link = λ some low. absurd (some refl);
        })));
    says = record { same = λ k late inside. absurd (omega (arith, late, inside)); form = λ k late inside. absurd (omega (arith, late, inside)) };
    file = λ position past upto. absurd (omega (arith, past, upto));
  }
