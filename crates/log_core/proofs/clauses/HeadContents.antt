-- A won exchange of the head: what the blocks of the kept generations hold, and those of the new one.
use Rattle.std.proofs.Common.{◌≡◌, ◌≢◌, ◌<◌, ◌≤◌, ◌+◌, ◌-◌, ◌*◌, ◌/◌, ◌==◌, ◌∷◌, ◌++◌, if◌then◌else◌, ℕ, Bool, true, List, [], length, drop, refl, sym, ◌∙◌, ap, subst, arith, inl, inr, slice_index, slice_index_or}
use Rattle.std.proofs.lemmas.Bool.{eq-eqb}
use Rattle.std.proofs.lemmas.Nat.{div-mul-add}
use Rattle.std.proofs.lemmas.List.Folds.{list_any-append}
use Rattle.log_entry.specs.Fields.{field}
use Rattle.log_entry.specs.declared.layouts.TheConstants.{ENTRY_KIND, INDIRECT, INDIRECT_BLOCK}
use Rattle.log_entry.specs.declared.shapes.Geometry.{Geometry}
use Rattle.log_image.specs.Image.{Shape, shape_by, words_in}
use Rattle.log_image.specs.Entries.{Meaning, names, all_names, indirect_meaning}
use Rattle.log_image.specs.Chains.{is_listed}
use Rattle.pmem_words.specs.Seats.{Seat}
use Rattle.persistence.specs.Memory.{Memory, cell}
use Rattle.log_core.specs.Entries.{LogEntry, no_entry, meaning_by, entry_names, head_place, place_in}
use Rattle.log_core.specs.Views.{Ghost, view_of}
use Rattle.log_core.specs.Origin.{Origin, shape, start_base, Owner, Header, OwnedBy, Generation}
use Rattle.log_core.specs.Files.{entries, end_of, file_at, history_map_at, byte_in}
use Rattle.log_core.specs.Cores.{Core, nth_log, data_names, is_named}
use Rattle.log_core.specs.Works.{seat_shape, words_of}
use Rattle.log_core.specs.Steps.{content_of}
use Rattle.log_core.specs.May.{MayExchangeHead}
use Rattle.log_core.specs.Order.{nth_generation}
use Rattle.log_core.specs.Certain.{IsCertain}
use Rattle.log_core.specs.Contents.{IsStillTaken, EntriesSay, HoldsFileAt, SnapshotHolds, GenerationHolds}
use Rattle.log_core.specs.Snapshots.{IsSnapshot}
use Rattle.log_core.specs.Walks.{HasWalked}
use Rattle.log_core.specs.Needs.{owned_numbers}
use Rattle.log_core.specs.Invariant.{Invariant, KeptIn}
use Rattle.log_core.specs.Knows.{Knows}
use Rattle.log_core.proofs.MappedBlocks.{mapped_named}
use Rattle.log_core.proofs.SameContents.{same_form, same_snapshot, same_meanings, same_byte}
use Rattle.log_core.proofs.kinds.TakesEntry.{among_names, same_meaning}
use Rattle.log_core.proofs.clauses.Apart.{has_left, has_right, either_of, data_is_named}
use Rattle.log_core.proofs.clauses.Leaves.{taken_apart}
use Rattle.log_core.proofs.clauses.Narrows.{certain_narrows, same_narrows}
use Rattle.log_core.proofs.clauses.HeadMoved.{HeadMoves}
use Rattle.log_core.proofs.clauses.HeadNames.{at, in_chain, new_gen, snaps, cut_block, above, from_start, mine, named_or_new, data_named, owner_moved, recorded_moved, owner_snap, taken_moved, not_snap}
use Rattle.log_core.proofs.clauses.FencedContents.{fenced_owned, content_long, content_certain}

-- what a kept generation says by its entries, its snapshot and its files, where the words of its blocks are recorded the same
module _ (o : Origin) (c : Core) (inv : Invariant o c) (place : ℕ) (kept : KeptIn o c place) (recorded : ℕ → List ℕ)
    (same : (block : ℕ) → is_named o c.logs (entries o c.history) (nth_generation c.generations place) block ≡ true → recorded block ≡ c.recorded block) where
  abbrev g : Generation
  g = nth_generation c.generations place

  abbrev es : List LogEntry
  es = entries o c.history

  abbrev old : GenerationHolds o (λ word. cell c.memory word) c.history c.recorded c.owner c.logs g
  old = inv.contents place kept

  data_recorded : (block : ℕ) → is_listed (g.snapshots ++ data_names o es g) block ≡ true → recorded block ≡ c.recorded block
  data_recorded block listed = same block (data_is_named o c.logs es g block listed)

  -- an indirect block of an entry is among the data blocks
  holder_recorded : (k : ℕ) → g.base - start_base o ≤ k → k < length es → field ENTRY_KIND (slice_index_or es k no_entry).word ≡ INDIRECT →
      recorded (field INDIRECT_BLOCK (slice_index_or es k no_entry).word) ≡ c.recorded (field INDIRECT_BLOCK (slice_index_or es k no_entry).word)
  holder_recorded k late inside indirect = data_recorded (field INDIRECT_BLOCK word) (has_right g.snapshots (data_names o es g) (field INDIRECT_BLOCK word)
      (has_right g.shared (entry_names (drop (g.base - start_base o) es)) (field INDIRECT_BLOCK word)
      (among_names es (g.base - start_base o) k (field INDIRECT_BLOCK word) late inside
      (subst (λ (m : Meaning). is_listed (names m) (field INDIRECT_BLOCK word) ≡ true) (sym (ap (λ (e : LogEntry). e.meaning) (old.entries_say.same k late inside) ∙ holder_meaning)) (listed_first (field INDIRECT_BLOCK word) _)))))
    where
      word : ℕ
      word = (slice_index_or es k no_entry).word

      listed_first : (number : ℕ) (more : List ℕ) → is_listed (number ∷ more) number ≡ true
      listed_first number more = rw (eq-eqb number number refl) refl

      holder_meaning : meaning_by c.recorded (slice_index_or es k no_entry).word ≡ indirect_meaning (field INDIRECT_BLOCK (slice_index_or es k no_entry).word) (c.recorded (field INDIRECT_BLOCK (slice_index_or es k no_entry).word))
      holder_meaning = rw (indirect) refl

  pub entries_same : EntriesSay (shape o) recorded (g.base - start_base o) es
  entries_same = record {
    same = λ k late low. (let e = slice_index_or es k no_entry in let form = old.entries_say.form k late low in
        old.entries_say.same k late low ∙ ap (λ (m : Meaning). record { word = e.word; meaning = m }) (sym (same_meaning recorded c.recorded (shape o) e.word form (holder_recorded k late low))));
    form = λ k late low. same_form recorded c.recorded (shape o) (slice_index_or es k no_entry).word (old.entries_say.form k late low) (holder_recorded k late low);
  }

  in_snapshot : (block : ℕ) → is_listed g.snapshots block ≡ true → recorded block ≡ c.recorded block
  in_snapshot block listed = data_recorded block (has_left g.snapshots (data_names o es g) block listed)

  pub snapshot_same : SnapshotHolds o c.history recorded c.logs g
  snapshot_same = (let r = old.snapshot in record {
    whole = λ some. same_snapshot (shape o) c.recorded recorded g.base g.size g.snapshots (nth_log c.logs g.cut).block (nth_log c.logs g.cut).block
        (history_map_at o es g.base) (history_map_at o es g.base) in_snapshot refl (λ virt. refl) (r.whole some);
    empty = r.empty;
    size_is = r.size_is;
    shared_is = r.shared_is ∙ sym (ap all_names (same_meanings (shape o) c.recorded recorded g.snapshots in_snapshot));
  })

  pub file_same : (position : ℕ) → g.base ≤ position → position ≤ end_of o c.history → HoldsFileAt o c.history recorded position
  file_same position low high = (let r = old.files position low high in record {
    early = λ before. record { each = λ virt k inside below. byte_same virt k ∙ (r.early before).each virt k inside below };
    held = λ after. record { each = λ virt k inside. byte_same virt k ∙ (r.held after).each virt k inside };
    size_is = r.size_is;
  })
    where
      byte_same : (virt k : ℕ) → byte_in recorded (history_map_at o es position virt) k ≡ byte_in c.recorded (history_map_at o es position virt) k
      byte_same virt k = same_byte (shape o) c.recorded recorded (history_map_at o es position virt) k
          (λ block found. data_recorded block (has_right g.snapshots (data_names o es g) block (mapped_named o c inv place kept position virt block low found)))

module _ (o : Origin) (c : Core) (n : ℕ) (s : Seat) (g : Ghost) (pin began before next : ℕ) (inv : Invariant o c) (unspent : (view_of c.views n).parts ≢ [])
    (f : Knows o c n s g pin began) (may : MayExchangeHead o c g s before next) (won : slice_index c.memory.now.words head_place ≡ before) (m : Memory) (moves : HeadMoves o (length c.views) c.memory m next) where
  abbrev pub place_now : ℕ
  place_now = at o c n s g pin began before next inv unspent f may won

  abbrev pub old_gen : Generation
  old_gen = nth_generation c.generations place_now

  abbrev pub made_gen : Generation
  made_gen = new_gen o c n s g pin began before next inv unspent f may won

  abbrev pub owner_now : ℕ → Owner
  owner_now block = owner_moved o c n s g pin began before next inv unspent f may won block

  abbrev pub recorded_now : ℕ → List ℕ
  recorded_now block = recorded_moved o c n s g pin began before next inv unspent f may won block

  kept_now : KeptIn o c place_now
  kept_now = in_chain o c n s g pin began before next inv unspent f may won

  -- no word of a block is the head's
  pub block_cell : (block k : ℕ) → block ≢ 0 → k < words_in (shape o) → cell m (place_in (shape o) block k) ≡ cell c.memory (place_in (shape o) block k)
  block_cell block k some inside = moves.others (place_in (shape o) block k) (λ same. some (sym (div-mul-add block (words_in (shape o)) k inside) ∙ (ap (λ (w : ℕ). w / words_in (shape o)) same ∙ first)))
    where
      first : head_place / words_in (shape o) ≡ 0
      first = (let wide = inv.sizes.image.wide in ap (λ (w : ℕ). w / words_in (shape o)) (let e : head_place ≡ 0 * words_in (shape o) + 3 = omega arith in e) ∙ div-mul-add 0 (words_in (shape o)) 3 (omega (arith, wide)))

  -- a block that a kept generation names is not the header's, and is recorded as before
  pub named_some : (place block : ℕ) → KeptIn o c place → is_named o c.logs (entries o c.history) (nth_generation c.generations place) block ≡ true → block ≢ 0
  named_some place block kept named none = no_header (subst (λ (whose : Owner). IsStillTaken whose) (ap c.owner none ∙ inv.owners.bits.header) ((inv.contents place kept).taken block named))
    where
      no_header : IsStillTaken Header → ⊥
      no_header (inl chain) = cc
      no_header (inr left) = (let e = left.1 in cc)

  pub recorded_same : (place block : ℕ) → KeptIn o c place → is_named o c.logs (entries o c.history) (nth_generation c.generations place) block ≡ true → recorded_now block ≡ c.recorded block
  recorded_same place block kept named = ap (λ (b : Bool). if b then content_of s block else c.recorded block)
      (not_snap o c n s g pin began before next inv unspent f may won block (taken_apart n (c.owner block) ((inv.contents place kept).taken block named)))

  recorded_snap : (block : ℕ) → is_listed (snaps o c n s g pin began before next inv unspent f may won) block ≡ true → recorded_now block ≡ content_of s block
  recorded_snap block listed = ap (λ (b : Bool). if b then content_of s block else c.recorded block) listed

  named_certain : (place block k : ℕ) → KeptIn o c place → is_listed ((nth_generation c.generations place).snapshots ++ data_names o (entries o c.history) (nth_generation c.generations place)) block ≡ true → k < words_in (shape o) →
      IsCertain (cell m (place_in (shape o) block k)) (slice_index (recorded_now block) k)
  named_certain place block k kept listed inside =
      (let named = data_is_named o c.logs (entries o c.history) (nth_generation c.generations place) block listed in
      subst (λ (words : List ℕ). IsCertain (cell m (place_in (shape o) block k)) (slice_index words k)) (sym (recorded_same place block kept named))
      (certain_narrows (cell c.memory (place_in (shape o) block k)) (cell m (place_in (shape o) block k)) (slice_index (c.recorded block) k)
      (same_narrows c.memory m (place_in (shape o) block k) (block_cell block k (named_some place block kept named) inside))
      ((inv.contents place kept).words block k listed inside)))

  -- a generation that was kept
  pub old_contents : (place : ℕ) → KeptIn o c place → GenerationHolds o (λ word. cell m word) c.history recorded_now owner_now c.logs (nth_generation c.generations place)
  old_contents place kept = (let r = inv.contents place kept in record {
    taken = λ block named. taken_moved o c n s g pin began before next inv unspent f may won block (r.taken block named);
    whole = λ block named. ap (λ (words : List ℕ). length words) (recorded_same place block kept named) ∙ r.whole block named;
    words = λ block k listed inside. named_certain place block k kept listed inside;
    entries_say = entries_same o c inv place kept recorded_now (λ block named. recorded_same place block kept named);
    snapshot = snapshot_same o c inv place kept recorded_now (λ block named. recorded_same place block kept named);
    files = λ position low high. file_same o c inv place kept recorded_now (λ block named. recorded_same place block kept named) position low high;
  })

  same_words : words_of s ≡ words_in (shape o)
  same_words = ap Rattle.pmem_words.specs.Seats.q_of (f.fits unspent).geometry

  same_image : seat_shape s ≡ shape o
  same_image = ap (λ (geometry : Geometry). shape_by geometry) (f.fits unspent).geometry

  -- a block of the new snapshot has the content that it was given, and nothing else is possible in it
  snap_owned : (block : ℕ) → is_listed (snaps o c n s g pin began before next inv unspent f may won) block ≡ true → is_listed (owned_numbers s.blocks.owned) block ≡ true
  snap_owned block listed = fenced_owned s.blocks.owned block (may.owned block listed)

  snap_long : (block : ℕ) → is_listed (snaps o c n s g pin began before next inv unspent f may won) block ≡ true → length (content_of s block) ≡ words_in (shape o)
  snap_long block listed = content_long (λ word. cell c.memory word) c.memory.past c.memory.pending n g s f.owned block (snap_owned block listed) ∙ same_words

  snap_some : (block : ℕ) → is_listed (snaps o c n s g pin began before next inv unspent f may won) block ≡ true → block ≢ 0
  snap_some block listed none = (let both : OwnedBy n ≡ Header = sym (mine o c n s g pin began before next inv unspent f may won block listed) ∙ (ap c.owner none ∙ inv.owners.bits.header) in cc)

  snap_certain : (block k : ℕ) → is_listed (snaps o c n s g pin began before next inv unspent f may won) block ≡ true → k < words_in (shape o) → IsCertain (cell m (place_in (shape o) block k)) (slice_index (recorded_now block) k)
  snap_certain block k listed inside =
      subst (λ (words : List ℕ). IsCertain (cell m (place_in (shape o) block k)) (slice_index words k)) (sym (recorded_snap block listed))
      (certain_narrows (cell c.memory (place_in (shape o) block k)) (cell m (place_in (shape o) block k)) (slice_index (content_of s block) k)
      (same_narrows c.memory m (place_in (shape o) block k) (block_cell block k (snap_some block listed) inside))
      (subst (λ (image : Shape). IsCertain (cell c.memory (place_in image block k)) (slice_index (content_of s block) k)) same_image
      (content_certain (λ word. cell c.memory word) c.memory.past c.memory.pending n g s f.owned block f.owns.owned.once (may.owned block listed) k (subst (λ (q : ℕ). k < q) (sym same_words) inside))))

  -- the new generation
  pub new_contents : GenerationHolds o (λ word. cell m word) c.history recorded_now owner_now c.logs made_gen
  new_contents = record {
    taken = λ block named. by_name block named (λ snap. inl (owner_snap o c n s g pin began before next inv unspent f may won block snap))
        (λ was. taken_moved o c n s g pin began before next inv unspent f may won block (old.taken block was));
    whole = λ block named. by_name block named (λ snap. ap (λ (words : List ℕ). length words) (recorded_snap block snap) ∙ snap_long block snap)
        (λ was. ap (λ (words : List ℕ). length words) (recorded_same place_now block kept_now was) ∙ old.whole block was);
    words = λ block k listed inside. either_of (is_listed made_gen.snapshots block) (is_listed (data_names o (entries o c.history) made_gen) block)
        (sym (list_any-append (λ (other : ℕ). other == block) made_gen.snapshots (data_names o (entries o c.history) made_gen)) ∙ listed)
        (λ snap. snap_certain block k snap inside)
        (λ other. named_certain place_now block k kept_now (has_right old_gen.snapshots (data_names o (entries o c.history) old_gen) block (data_named o c n s g pin began before next inv unspent f may won block other)) inside);
    entries_say = (let r = entries_same o c inv place_now kept_now recorded_now (λ block named. recorded_same place_now block kept_now named) in record {
      same = λ k late inside. r.same k (omega (arith, late, later_from)) inside;
      form = λ k late inside. r.form k (omega (arith, late, later_from)) inside;
    });
    snapshot = record {
      whole = λ some. snapshot_now;
      empty = λ none. absurd (let some = may.snapshot.some in omega (arith, some, none));
      size_is = walked.size_is;
      shared_is = sym (ap all_names (same_meanings (shape o) (λ block. content_of s block) recorded_now made_gen.snapshots recorded_snap));
    };
    files = λ position low high. file_same o c inv place_now kept_now recorded_now (λ block named. recorded_same place_now block kept_now named) position (omega (arith, low, base_low)) high;
  }
    where
      old : GenerationHolds o (λ word. cell c.memory word) c.history c.recorded c.owner c.logs old_gen
      old = inv.contents place_now kept_now

      by_name : {P : Type 0} (block : ℕ) → is_named o c.logs (entries o c.history) made_gen block ≡ true → (is_listed made_gen.snapshots block ≡ true → P) → (is_named o c.logs (entries o c.history) old_gen block ≡ true → P) → P
      by_name block named snap was = named_or_new o c n s g pin began before next inv unspent f may won block named snap was

      base_low : old_gen.base ≤ s.walk.position
      base_low = (let less = above o c n s g pin began before next inv unspent f may won in omega (arith, less))

      later_from : old_gen.base - start_base o ≤ s.walk.position - start_base o
      later_from = (let low = base_low in omega (arith, low))

      walked : HasWalked o (entries o c.history) c.logs s.walk
      walked = (let w = f.walk unspent in w.walked (w.ready_walked may.ready).0 (w.ready_walked may.ready).1)

      same_size : length (file_at o c.history s.walk.position) ≡ s.walk.size
      same_size = (let start = from_start o c n s g pin began before next inv unspent f may won in let low = base_low in
          inv.writes.sizes s.walk.position (omega (arith, start, low)) (f.walk unspent).to_end ∙ sym walked.size_is)

      snapshot_now : IsSnapshot (shape o) recorded_now s.walk.position s.walk.size made_gen.snapshots (nth_log c.logs made_gen.cut).block (history_map_at o (entries o c.history) s.walk.position)
      snapshot_now = subst (λ (size : ℕ). IsSnapshot (shape o) recorded_now s.walk.position size made_gen.snapshots (nth_log c.logs made_gen.cut).block (history_map_at o (entries o c.history) s.walk.position)) same_size
          (same_snapshot (shape o) (λ block. content_of s block) recorded_now s.walk.position (length (file_at o c.history s.walk.position)) made_gen.snapshots s.walk.tail_block (nth_log c.logs made_gen.cut).block
          (history_map_at o (entries o c.history) s.walk.position) (history_map_at o (entries o c.history) s.walk.position) recorded_snap (cut_block o c n s g pin began before next inv unspent f may won) (λ virt. refl)
          (subst (λ (image : Shape). IsSnapshot image (λ block. content_of s block) s.walk.position (length (file_at o c.history s.walk.position)) made_gen.snapshots s.walk.tail_block (history_map_at o (entries o c.history) s.walk.position)) same_image may.snapshot))
