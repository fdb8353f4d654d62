-- A won exchange of the head: what is known of any seat that does not make it, and what the new generation leaves of each clause.
use Rattle.std.proofs.Common.{◌≡◌, ◌≢◌, ◌<◌, ◌≤◌, ◌+◌, ◌-◌, ◌*◌, ◌/◌, ◌^◌, ◌++◌, ⊎_elim, inl, inr, ℕ, true, false, List, [], ◌∷◌, length, drop, refl, sym, ◌∙◌, ap, subst, arith, slice_index, Option}
use Rattle.std.specs.List.{AllByRecursion}
use Rattle.std.proofs.lemmas.Bool.{cases_lt}
use Rattle.std.proofs.lemmas.Nat.{div-mul-add}
use Rattle.std.proofs.lemmas.List.{length_push, get_or_append_left, get_or_push}
use Rattle.log_entry.specs.Fields.{field}
use Rattle.log_entry.specs.declared.calls.CollectRefusal.TheVariants.{Nothing, Overtaken, GenerationLimit, NoSpace as NoSpareSpace}
use Rattle.log_entry.specs.declared.calls.Reply.{Reply}
use Rattle.log_entry.specs.declared.calls.Reply.TheVariants.{Wrote, Appended, NotWritten, Bytes, Size as FileSize, Synced, Collected, NotCollected}
use Rattle.log_entry.specs.declared.calls.Call.{Call}
use Rattle.log_entry.specs.declared.layouts.TheConstants.{HEAD_GENERATION}
use Rattle.log_image.specs.Entries.{Meaning}
use Rattle.log_image.specs.Maps.{map_of}
use Rattle.log_image.specs.Blocks.{entry_count}
use Rattle.log_image.specs.Chains.{is_listed}
use Rattle.pmem_words.specs.declared.keeps.KeptWord.{KeptWord}
use Rattle.pmem_words.specs.Seats.{Seat, Hold, Walk, Giving}
use Rattle.persistence.specs.Memory.{Memory, PendingMark, Cell, cell, pending_of}
use Rattle.persistence.specs.Survivors.{value_at}
use Rattle.log_core.specs.Entries.{head_place}
use Rattle.log_core.specs.Views.{View, Ghost, HeadPut, view_of}
use Rattle.log_core.specs.Origin.{Origin, shape, q_of_origin, first_generation, Header, InChain, OwnedBy, LeftTo, Generation}
use Rattle.log_core.specs.Files.{entries}
use Rattle.log_core.specs.Cores.{nth_log, Core, current, generation_at, is_named, head_floor, data_names}
use Rattle.log_core.specs.May.{MayExchangeHead}
use Rattle.log_core.specs.Order.{nth_generation}
use Rattle.log_core.specs.Owners.{IsListOf}
use Rattle.log_core.specs.Giving.{GivingHolds, AreInNoLater}
use Rattle.log_core.specs.Pins.{PinHolds, WasHead}
use Rattle.log_core.specs.Walks.{WalkHolds, HasRead, IsSnapshotBlock, IsKeptWord}
use Rattle.log_core.specs.Records.{HeadFits, RecordHolds, SaysOfGenerations}
use Rattle.log_core.specs.Synced.{SyncHolds, SyncMarkHolds}
use Rattle.log_core.specs.Invariant.{Invariant, KeptIn, around, names_by}
use Rattle.log_core.specs.Knows.{Knows}
use Rattle.log_core.proofs.Each.{each_weaker}
use Rattle.log_core.proofs.Heads.{current_is}
use Rattle.log_core.proofs.SameContents.{same_read}
use Rattle.log_core.proofs.SnapshotReads.{is_of_snapshot}
use Rattle.log_core.proofs.clauses.Apart.{has_left, has_right, data_is_named}
use Rattle.log_core.proofs.clauses.Exchanged.{grown_value}
use Rattle.log_core.proofs.clauses.GrownNames.{never}
use Rattle.log_core.proofs.clauses.Others.{notes_early}
use Rattle.log_core.proofs.clauses.OwnedSame.{KeepsOwned, value_same, pending_same}
use Rattle.log_core.proofs.clauses.HeadMoved.{HeadMoves, moved_values}
use Rattle.log_core.proofs.clauses.HeadNames.{named_or_new, named_chain, mine, present_is}
use Rattle.log_core.proofs.clauses.HeadContents.{made_gen, owner_now, recorded_now, recorded_same, block_cell, named_some}

module _ (o : Origin) (c : Core) (n : ℕ) (s : Seat) (g : Ghost) (pin began before next : ℕ) (inv : Invariant o c) (unspent : (view_of c.views n).parts ≢ [])
    (f : Knows o c n s g pin began) (may : MayExchangeHead o c g s before next) (won : slice_index c.memory.now.words head_place ≡ before) (m : Memory) (moves : HeadMoves o (length c.views) c.memory m next) where
  -- the generations with the new one
  abbrev pub made : Generation
  made = made_gen o c n s g pin began before next inv unspent f may won m moves

  abbrev pub gens : List Generation
  gens = c.generations ++ made ∷ []

  abbrev pub recorded : ℕ → List ℕ
  recorded block = recorded_now o c n s g pin began before next inv unspent f may won m moves block

  pub gens_count : length gens ≡ length c.generations + 1
  gens_count = length_push c.generations made

  pub current_more : current o gens ≡ current o c.generations + 1
  current_more = (let count = gens_count in let is = current_is o c inv in let last = inv.order.heads.count in omega (arith, count, is, last))

  pub old_gen : (place : ℕ) → place < length c.generations → nth_generation gens place ≡ nth_generation c.generations place
  old_gen place inside = get_or_append_left c.generations (made ∷ []) Rattle.log_core.specs.Origin.no_generation place inside

  pub last_gen : (place : ℕ) → place ≡ length c.generations → nth_generation gens place ≡ made
  last_gen place is = ap (λ (k : ℕ). nth_generation gens k) is ∙ get_or_push c.generations made Rattle.log_core.specs.Origin.no_generation (length c.generations) refl

  -- a generation that there was
  pub inside_of : (generation : ℕ) → generation ≤ current o c.generations → generation - first_generation o < length c.generations
  inside_of generation low = (let is = current_is o c inv in let count = inv.order.heads.count in omega (arith, low, is, count))

  pub same_gen : (generation : ℕ) → generation ≤ current o c.generations → generation_at o gens generation ≡ generation_at o c.generations generation
  same_gen generation low = old_gen (generation - first_generation o) (inside_of generation low)

  pub keeps : KeepsOwned o c m
  keeps = record {
    pending = moves.pending;
    times = moves.times;
    values = moved_values o (length c.views) c.memory m next moves;
    owned = λ seat k owned. moves.others k (λ same. (let first : k / q_of_origin o ≡ 0 = (let wide = inv.sizes.image.wide in ap (λ (w : ℕ). w / q_of_origin o) (let e : k ≡ 0 * q_of_origin o + 3 = omega (arith, same) in e)
        ∙ div-mul-add 0 (q_of_origin o) 3 (omega (arith, wide))) in
        let both : Header ≡ OwnedBy seat = sym inv.owners.bits.header ∙ (ap c.owner (sym first) ∙ owned) in cc));
  }

  -- what is known of the head
  pub was_moved : (word : ℕ) → WasHead (cell c.memory head_place) word → WasHead (cell m head_place) word
  was_moved word was = record {
    place = was.place;
    inside = (let low = was.inside in let more = ap (λ (x : Cell). length x.past) moves.here in let long = length_push (cell c.memory head_place).past (cell c.memory head_place).present in omega (arith, low, more, long));
    same = ap (λ (x : Cell). value_at x was.place) moves.here ∙ (grown_value (cell c.memory head_place) next was.place was.inside ∙ was.same);
  }

  pub pin_moved : (h : Hold) → PinHolds (first_generation o) (current o c.generations) (cell c.memory head_place) h → PinHolds (first_generation o) (current o gens) (cell m head_place) h
  pin_moved h r = record {
    was = λ some. was_moved h.head (r.was some);
    valid_is = r.valid_is;
    valid_some = r.valid_some;
    from_first = r.from_first;
    to_current = λ some. (let low = r.to_current some in let more = current_more in omega (arith, low, more));
  }

  pub floor_same : head_floor m ≡ head_floor c.memory
  floor_same = ap (λ (x : Cell). x.floor) moves.here

  -- no block that is left to a seat is named by the new generation
  left_unnamed : (k block : ℕ) → c.owner block ≡ LeftTo k → is_named o c.logs (entries o c.history) made block ≡ false
  left_unnamed k block left = never (is_named o c.logs (entries o c.history) made block) (λ named. named_or_new o c n s g pin began before next inv unspent f may won block named
      (λ snap. (let both : LeftTo k ≡ OwnedBy n = sym left ∙ mine o c n s g pin began before next inv unspent f may won block snap in cc))
      (λ was. (let both : LeftTo k ≡ InChain = sym left ∙ named_chain o c n s g pin began before next inv unspent f may won block was in cc)))

  -- what no later generation named, and the new one does not
  pub no_later : (generation : ℕ) (blocks : List ℕ) → ((block : ℕ) → is_listed blocks block ≡ true → is_named o c.logs (entries o c.history) made block ≡ false) →
      AreInNoLater (names_by o c.logs (entries o c.history) c.generations) (current o c.generations) generation blocks →
      AreInNoLater (names_by o c.logs (entries o c.history) gens) (current o gens) generation blocks
  no_later generation blocks new r block later listed above low = ⊎_elim
      (λ old. (let upto : later ≤ current o c.generations = omega (arith, old) in
      ap (λ (x : Generation). is_named o c.logs (entries o c.history) x block) (same_gen later upto) ∙ r block later listed above upto))
      (λ past. (let more = current_more in
      let is = current_is o c inv in
      let count = inv.order.heads.count in
      ap (λ (x : Generation). is_named o c.logs (entries o c.history) x block) (last_gen (later - first_generation o) (omega (arith, past, low, more, is, count))) ∙ new block listed))
      (cases_lt later (current o c.generations + 1))

  pub giving_moved : (k : ℕ) (giving : Giving) → IsListOf c.owner (giving.replaced ++ giving.limbo) (LeftTo k) →
      GivingHolds (names_by o c.logs (entries o c.history) c.generations) (current o c.generations) (first_generation o + head_floor c.memory) giving →
      GivingHolds (names_by o c.logs (entries o c.history) gens) (current o gens) (first_generation o + head_floor m) giving
  giving_moved k giving left r = record {
    replaced_past = (let low = r.replaced_past in let more = current_more in omega (arith, low, more));
    replaced = no_later giving.replaced_generation giving.replaced (λ block listed. left_unnamed k block (left.listed block (has_left giving.replaced giving.limbo block listed))) r.replaced;
    limbo = no_later giving.limbo_generation giving.limbo (λ block listed. left_unnamed k block (left.listed block (has_right giving.replaced giving.limbo block listed))) r.limbo;
    replaced_sure = λ fenced. (let sure = r.replaced_sure fenced in let same = floor_same in omega (arith, sure, same));
    limbo_sure = (let sure = r.limbo_sure in let same = floor_same in omega (arith, sure, same));
  }

  -- a kept word of a kept generation's chain
  word_moved : (place : ℕ) → KeptIn o c place → (kept : KeptWord) →
      IsKeptWord (shape o) c.memory.now.words (λ block. is_named o c.logs (entries o c.history) (nth_generation c.generations place) block) (drop (nth_generation c.generations place).cut c.logs) kept →
      IsKeptWord (shape o) m.now.words (λ block. is_named o c.logs (entries o c.history) (nth_generation gens place) block) (drop (nth_generation gens place).cut c.logs) kept
  word_moved place in_chain kept r = subst (λ (x : Generation). IsKeptWord (shape o) m.now.words (λ block. is_named o c.logs (entries o c.history) x block) (drop x.cut c.logs) kept) (sym (old_gen place in_chain.inside)) (record {
    named = r.named;
    inside = r.inside;
    word_is = ⊎_elim
        (λ same. inl (same ∙ sym (ap (λ (x : Cell). x.present) (block_cell o c n s g pin began before next inv unspent f may won m moves kept.block kept.slot
        (named_some o c n s g pin began before next inv unspent f may won m moves place kept.block in_chain r.named) r.inside))))
        (λ empty. inr empty) r.word_is;
    early = λ at. r.early at ∙ sym (ap (λ (x : Cell). x.present) (block_cell o c n s g pin began before next inv unspent f may won m moves kept.block kept.slot
        (named_some o c n s g pin began before next inv unspent f may won m moves place kept.block in_chain r.named) r.inside));
  })

  -- what is read of a snapshot of a kept generation
  read_moved : (place : ℕ) → KeptIn o c place → (w : Walk) → HasRead c.recorded (nth_generation c.generations place) w → HasRead recorded (nth_generation gens place) w
  read_moved place kept w r = subst (λ (x : Generation). HasRead recorded x w) (sym (old_gen place kept.inside)) (record {
    inside = r.inside;
    block = r.block;
    from = r.from;
    upto = subst (λ (words : List ℕ). w.reading_slot ≤ 3 + entry_count words) (sym (in_snapshot w.reading_block (is_of_snapshot c.recorded (nth_generation c.generations place) w r))) r.upto;
    table = λ virt. r.table virt ∙ ap (λ (l : List Meaning). map_of l virt) (sym (same_read (shape o) c.recorded recorded (nth_generation c.generations place).snapshots w.reading_block w.reading_slot in_snapshot));
    size_is = r.size_is;
    position_is = r.position_is;
  })
    where
      in_snapshot : (block : ℕ) → is_listed (nth_generation c.generations place).snapshots block ≡ true → recorded block ≡ c.recorded block
      in_snapshot block listed = recorded_same o c n s g pin began before next inv unspent f may won m moves place block kept
          (data_is_named o c.logs (entries o c.history) (nth_generation c.generations place) block
          (has_left (nth_generation c.generations place).snapshots (data_names o (entries o c.history) (nth_generation c.generations place)) block listed))

  -- the core with other views
  abbrev pub moved_core : List View → List ℕ → Core
  moved_core views ends = record c {
    memory = m;
    views = views;
    generations = gens;
    owner = λ block. owner_now o c n s g pin began before next inv unspent f may won m moves block;
    recorded = λ block. recorded block;
    began = ends;
  }

  -- a walk whose valid pin is of a kept generation
  pub walk_moved : (views : List View) (ends : List ℕ) → ((place : ℕ) → place < length c.generations → KeptIn o (moved_core views ends) place → KeptIn o c place) →
      (h : Hold) → PinHolds (first_generation o) (current o c.generations) (cell c.memory head_place) h → (h.valid ≡ true → KeptIn o c (h.generation - first_generation o)) → (w : Walk) →
      WalkHolds (around o c) h w → WalkHolds (around o (moved_core views ends)) h w
  walk_moved views ends kept_before h pinned in_chain w r = record {
    to_end = r.to_end;
    from_first = r.from_first;
    to_current = λ reading. (let low = r.to_current reading in let count = gens_count in omega (arith, low, count));
    read = λ reading kept. (let low = r.to_current reading in let from = r.from_first reading in let was = kept_before (w.reading_generation - first_generation o) (omega (arith, low, from)) kept in
        read_moved (w.reading_generation - first_generation o) was w (r.read reading was));
    kept_words = λ valid. each_weaker _ _ w.kept (word_moved (h.generation - first_generation o) (in_chain valid)) (r.kept_words valid);
    unpinned = r.unpinned;
    walked = r.walked;
    ready_walked = r.ready_walked;
    ready_base = λ ready. r.ready_base ready ∙ ap (λ (x : Generation). x.base) (sym (same_gen h.generation (pinned.to_current (r.ready_walked ready).2)));
    ready_tail = r.ready_tail;
    seeking = λ ready come_to. subst (λ (x : Generation). IsSnapshotBlock x w.reading_place w.reading_block) (sym (same_gen h.generation (pinned.to_current (r.ready_walked ready).2))) (r.seeking ready come_to);
    first_known = λ known. (let q = r.first_known known in record {
      some = q.some;
      is = q.is ∙ ap (λ (x : Generation). (nth_log c.logs x.cut).block) (sym (same_gen h.generation (pinned.to_current q.some)));
    });
  }

  -- a mark of a running sync, where its generation is kept
  sync_mark_moved : (generation : ℕ) → KeptIn o c (generation - first_generation o) → (note : PendingMark) → note.time ≤ length c.memory.past →
      SyncMarkHolds (q_of_origin o) (names_by o c.logs (entries o c.history) c.generations) (λ word. cell c.memory word) c.memory.past generation note →
      SyncMarkHolds (q_of_origin o) (names_by o c.logs (entries o c.history) gens) (λ word. cell m word) m.past generation note
  sync_mark_moved generation kept note early r = record {
    head = λ is. subst (λ (value : ℕ). generation ≤ field HEAD_GENERATION value) (sym (value_same o c m inv keeps note head_place early)) (r.head is);
    named = λ another. ap (λ (x : Generation). is_named o c.logs (entries o c.history) x (note.word / q_of_origin o)) (old_gen (generation - first_generation o) kept.inside) ∙ r.named another;
    other = λ another. (let both = r.other another in let same = moves.others note.word another in (
      moves.times note.time note.word early ∙ (both.0 ∙ sym (ap (λ (x : Cell). length x.past) same)),
      λ none. both.1 (sym (ap (λ (x : Cell). x.present) same) ∙ none),
    ));
  }

  sync_marks_moved : (h : Hold) → (h.valid ≡ true → KeptIn o c (h.generation - first_generation o)) → (pending : List PendingMark) → (pending ≢ [] → h.valid ≡ true) →
      AllByRecursion (λ (note : PendingMark). note.time ≤ length c.memory.past) pending →
      AllByRecursion (SyncMarkHolds (q_of_origin o) (names_by o c.logs (entries o c.history) c.generations) (λ word. cell c.memory word) c.memory.past h.generation) pending →
      AllByRecursion (SyncMarkHolds (q_of_origin o) (names_by o c.logs (entries o c.history) gens) (λ word. cell m word) m.past h.generation) pending
  sync_marks_moved h kept [] valid early all = tt
  sync_marks_moved h kept (note ∷ pending) valid early all = (let pinned = valid (λ none. cc) in (
    sync_mark_moved h.generation (kept pinned) note early.0 all.0,
    sync_marks_moved h kept pending (λ some. pinned) early.1 all.1,
  ))

  pub sync_moved : (k : ℕ) (v : View) → (v.seat.hold.valid ≡ true → KeptIn o c (v.seat.hold.generation - first_generation o)) →
      SyncHolds (q_of_origin o) (names_by o c.logs (entries o c.history) c.generations) (λ word. cell c.memory word) c.memory.past c.memory.pending c.synced k v →
      SyncHolds (q_of_origin o) (names_by o c.logs (entries o c.history) gens) (λ word. cell m word) m.past m.pending c.synced k v
  sync_moved k v kept r = record {
    to = r.to;
    marks = λ sync. subst (λ (pending : List PendingMark). AllByRecursion
        (SyncMarkHolds (q_of_origin o) (names_by o c.logs (entries o c.history) gens) (λ word. cell m word) m.past v.seat.hold.generation) pending) (sym (pending_same o c m inv keeps k))
        (sync_marks_moved v.seat.hold kept (pending_of k c.memory.pending) (r.valid sync) (notes_early o c k inv) (r.marks sync));
    valid = λ sync some. r.valid sync (λ none. some (pending_same o c m inv keeps k ∙ none));
    answered = r.answered;
  }

  -- a head that a call put in place before, and a record of a collection
  pub put_moved : (position overtaken : ℕ) (put : Option HeadPut) → HeadFits o c.generations position overtaken put → HeadFits o gens position overtaken put
  put_moved position overtaken put r = record {
    own = λ head is. (let q = r.own head is in let count = gens_count in (
      q.0,
      (let low = q.1 in omega (arith, low, count)),
      q.2,
      q.3 ∙ ap (λ (x : Generation). x.base) (sym (old_gen (head.generation - first_generation o) (let low = q.1 in let from = q.0 in omega (arith, low, from)))),
    ));
    found = (let low = r.found in let count = gens_count in omega (arith, low, count));
  }

  says_moved : (position : ℕ) (reply : Reply) → SaysOfGenerations o c.generations position reply → SaysOfGenerations o gens position reply
  says_moved position (Collected collected) r = (
    r.0,
    (let low = r.1 in let count = gens_count in omega (arith, low, count)),
    r.2 ∙ ap (λ (x : Generation). x.base) (sym (old_gen (collected.generation - first_generation o) (let low = r.1 in let from = r.0 in omega (arith, low, from)))),
  )
  says_moved position (NotCollected Nothing) r = (r.0, (let low = r.1 in let count = gens_count in omega (arith, low, count)), r.2 ∙ ap (λ (x : Generation). x.base) (sym (old_gen r.0 r.1)))
  says_moved position (NotCollected (Overtaken generation)) r = (r.0, (let low = r.1 in let count = gens_count in omega (arith, low, count)))
  says_moved position (NotCollected GenerationLimit) r = absurd (let below = may.below_limit in let is = present_is o c n s g pin began before next inv unspent f may won in let now = current_is o c inv in let count = inv.order.heads.count in
      let limit : first_generation o + length c.generations ≡ 2 ^ 32 = r in omega (arith, below, is, now, count, limit))
  says_moved position (NotCollected NoSpareSpace) r = r
  says_moved position (Wrote count) r = r
  says_moved position (Appended at count) r = r
  says_moved position (NotWritten why) r = r
  says_moved position (Bytes bytes) r = r
  says_moved position (FileSize size) r = r
  says_moved position (Synced to) r = r

  pub record_moved : (call : Call) → RecordHolds o c.history c.generations call → RecordHolds o c.history gens call
  record_moved call r = record { to_end = r.to_end; from_first = r.from_first; write_after = r.write_after; answers = r.answers; of_generations = says_moved call.position call.reply r.of_generations }
