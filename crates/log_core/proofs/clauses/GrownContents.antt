-- What the blocks of a kept generation hold, where a step puts blocks into the chain.
use Rattle.std.proofs.Common.{◌≡◌, ◌<◌, ◌≤◌, ◌+◌, ◌-◌, ◌*◌, ◌==◌, ◌∷◌, ◌++◌, nat_lt, ℕ, Bool, true, false, List, length, take, drop, refl, sym, ◌∙◌, ap, subst, arith, inl, slice_index, slice_index_or, Option}
use Rattle.std.proofs.lemmas.Bool.{eq-eqb, ltb-true, ltb-false}
use Rattle.std.proofs.lemmas.Nat.{div-mul-add}
use Rattle.std.proofs.lemmas.List.Folds.{list_any-append}
use Rattle.log_entry.specs.Fields.{field}
use Rattle.log_entry.specs.declared.layouts.TheConstants.{ENTRY_KIND, INDIRECT, INDIRECT_BLOCK}
use Rattle.log_image.specs.Image.{words_in}
use Rattle.log_image.specs.Entries.{Meaning, names, all_names, indirect_meaning}
use Rattle.log_image.specs.Maps.{map_of, size_after}
use Rattle.log_image.specs.Chains.{is_listed}
use Rattle.persistence.specs.Memory.{cell}
use Rattle.log_core.specs.Entries.{LogEntry, no_entry, entry_by, meaning_by, meanings, entry_names, place_in}
use Rattle.log_core.specs.Origin.{Origin, shape, start_base, start_size, first_snapshot, Generation}
use Rattle.log_core.specs.Files.{entries, end_of, file_at, history_map_at, history_size_at, byte_in}
use Rattle.log_core.specs.Cores.{Core, log_blocks, data_names}
use Rattle.log_core.specs.Steps.{content_of}
use Rattle.log_core.specs.Order.{nth_generation}
use Rattle.log_core.specs.Certain.{IsCertain}
use Rattle.log_core.specs.May.{is_log_entry_by}
use Rattle.log_core.specs.Contents.{AreRecorded, EntriesSay, HoldsFileAt, SnapshotHolds, GenerationHolds}
use Rattle.log_core.specs.Invariant.{Invariant, KeptIn}
use Rattle.log_core.proofs.ChainWords.{apart}
use Rattle.log_core.proofs.MappedBlocks.{mapped_named}
use Rattle.log_core.proofs.SameContents.{same_form, same_snapshot, same_meanings, same_byte}
use Rattle.log_core.proofs.kinds.TakesEntry.{among_names, same_meaning}
use Rattle.log_core.proofs.clauses.Apart.{has_left, has_right, has_log, either_of, data_is_named}
use Rattle.log_core.proofs.clauses.Narrows.{certain_narrows, same_narrows}
use Rattle.log_core.proofs.clauses.Growth.{Growth, Grows, joined, owner_grown, recorded_grown, last_log}
use Rattle.log_core.proofs.clauses.GrownWords.{last_inside, last_late, owned_same, other_block}
use Rattle.log_core.proofs.clauses.GrownNames.{data_more, named_or_joined, named_recorded, taken_same, joined_owner, joined_recorded}

module _ (o : Origin) (c : Core) (x : Growth) (inv : Invariant o c) (grows : Grows o c x) where
  -- the map and the size at a position so far
  front_is : (position : ℕ) → position ≤ end_of o c.history → take (position - start_base o) (entries o x.history) ≡ take (position - start_base o) (entries o c.history)
  front_is position low = grows.history.front (position - start_base o) (let count = inv.order.log.count in omega (arith, low, count))

  pub map_same : (position virt : ℕ) → position ≤ end_of o c.history → history_map_at o (entries o x.history) position virt ≡ history_map_at o (entries o c.history) position virt
  map_same position virt low = ap (λ (es : List LogEntry). map_of (first_snapshot o ++ meanings es) virt) (front_is position low)

  -- and its size
  pub size_same : (position : ℕ) → position ≤ end_of o c.history → history_size_at o (entries o x.history) position ≡ history_size_at o (entries o c.history) position
  size_same position low = ap (λ (es : List LogEntry). size_after (shape o) (start_size o) (meanings es)) (front_is position low)

  module _ (place : ℕ) (kept : KeptIn o c place) where
    abbrev g : Generation
    g = nth_generation c.generations place

    abbrev es : List LogEntry
    es = entries o c.history

    abbrev recorded : ℕ → List ℕ
    recorded block = recorded_grown c x block

    abbrev old : GenerationHolds o (λ word. cell c.memory word) c.history c.recorded c.owner c.logs g
    old = inv.contents place kept

    -- a block of the snapshot or of the data area is as it was recorded
    data_recorded : (block : ℕ) → is_listed (g.snapshots ++ data_names o es g) block ≡ true → recorded block ≡ c.recorded block
    data_recorded block listed = named_recorded o c x inv grows place block kept (data_is_named o c.logs es g block listed)

    words_grown : AreRecorded (shape o) (λ word. cell x.memory word) recorded (g.snapshots ++ data_names o (entries o x.history) g)
    words_grown block k listed inside = either_of (is_listed g.snapshots block) (is_listed (data_names o (entries o x.history) g) block)
        (sym (list_any-append (λ (other : ℕ). other == block) g.snapshots (data_names o (entries o x.history) g)) ∙ listed)
        (λ snapshot. was (has_left g.snapshots (data_names o es g) block snapshot))
        (λ stored. either_of (is_listed (data_names o es g) block) (is_listed x.named block)
        (sym (list_any-append (λ (other : ℕ). other == block) (data_names o es g) x.named) ∙ (ap (λ (l : List ℕ). is_listed l block) (sym (data_more o c x inv grows place kept.inside)) ∙ stored))
        (λ before. was (has_right g.snapshots (data_names o es g) block before))
        (λ new. fresh (has_right x.linked x.named block new)))
      where
        last_listed : is_listed (log_blocks (drop g.cut c.logs)) (last_log c).block ≡ true
        last_listed = has_log c.logs g.cut (length c.logs - 1) (last_late o c inv place kept) (last_inside o c inv)

        was : is_listed (g.snapshots ++ data_names o es g) block ≡ true → IsCertain (cell x.memory (place_in (shape o) block k)) (slice_index (recorded block) k)
        was before = subst (λ (words : List ℕ). IsCertain (cell x.memory (place_in (shape o) block k)) (slice_index words k)) (sym (data_recorded block before))
            (certain_narrows (cell c.memory (place_in (shape o) block k)) (cell x.memory (place_in (shape o) block k)) (slice_index (c.recorded block) k)
            (same_narrows c.memory x.memory (place_in (shape o) block k) (other_block o c x inv grows block k
            (λ same. apart o c inv place kept block before (subst (λ (b : ℕ). is_listed (log_blocks (drop g.cut c.logs)) b ≡ true) (sym same) last_listed)) inside))
            (old.words block k before inside))

        fresh : is_listed (joined x) block ≡ true → IsCertain (cell x.memory (place_in (shape o) block k)) (slice_index (recorded block) k)
        fresh new = subst (λ (words : List ℕ). IsCertain (cell x.memory (place_in (shape o) block k)) (slice_index words k)) (sym (joined_recorded o c x inv grows block new))
            (certain_narrows (cell c.memory (place_in (shape o) block k)) (cell x.memory (place_in (shape o) block k)) (slice_index (content_of x.seat block) k)
            (same_narrows c.memory x.memory (place_in (shape o) block k) (owned_same o c x inv grows x.n (place_in (shape o) block k) (ap c.owner (div-mul-add block (words_in (shape o)) k inside) ∙ grows.mine block new)))
            (grows.fenced block k new inside))

    -- an indirect block of an entry is among the data blocks
    holder_recorded : (k : ℕ) → g.base - start_base o ≤ k → k < length es → field ENTRY_KIND (slice_index_or es k no_entry).word ≡ INDIRECT →
        recorded (field INDIRECT_BLOCK (slice_index_or es k no_entry).word) ≡ c.recorded (field INDIRECT_BLOCK (slice_index_or es k no_entry).word)
    holder_recorded k late inside indirect = data_recorded (field INDIRECT_BLOCK word) (has_right g.snapshots (data_names o es g) (field INDIRECT_BLOCK word)
        (has_right g.shared (entry_names (drop (g.base - start_base o) es)) (field INDIRECT_BLOCK word)
        (among_names es (g.base - start_base o) k (field INDIRECT_BLOCK word) late inside
        (subst (λ (m : Meaning). is_listed (names m) (field INDIRECT_BLOCK word) ≡ true) (sym (ap (λ (e : LogEntry). e.meaning) (old.entries_say.same k late inside) ∙ holder_meaning)) (listed_first (field INDIRECT_BLOCK word) _)))))
      where
        word : ℕ
        word = (slice_index_or es k no_entry).word

        listed_first : (number : ℕ) (more : List ℕ) → is_listed (number ∷ more) number ≡ true
        listed_first number more = rw (eq-eqb number number refl) refl

        holder_meaning : meaning_by c.recorded (slice_index_or es k no_entry).word ≡ indirect_meaning (field INDIRECT_BLOCK (slice_index_or es k no_entry).word) (c.recorded (field INDIRECT_BLOCK (slice_index_or es k no_entry).word))
        holder_meaning = rw (indirect) refl

    entries_grown : EntriesSay (shape o) recorded (g.base - start_base o) (entries o x.history)
    entries_grown = record {
      same = λ k late inside. by k (nat_lt k (length es)) refl
          (λ low. (let e = slice_index_or es k no_entry in let form = old.entries_say.form k late low in
          subst (λ (entry : LogEntry). entry ≡ entry_by recorded entry.word) (sym (grows.history.same k low))
          (old.entries_say.same k late low ∙ ap (λ (m : Meaning). record { word = e.word; meaning = m }) (sym (same_meaning recorded c.recorded (shape o) e.word form (holder_recorded k late low))))))
          (λ past. grows.says.same k past inside);
      form = λ k late inside. by k (nat_lt k (length es)) refl
          (λ low. subst (λ (entry : LogEntry). is_log_entry_by recorded (shape o) entry.word ≡ true) (sym (grows.history.same k low))
          (same_form recorded c.recorded (shape o) (slice_index_or es k no_entry).word (old.entries_say.form k late low) (holder_recorded k late low)))
          (λ past. grows.says.form k past inside);
    }
      where
        by : {P : Type 0} (k : ℕ) (b : Bool) → nat_lt k (length es) ≡ b → (k < length es → P) → (length es ≤ k → P) → P
        by k true e low past = low (ltb-true k (length es) e)
        by k false e low past = past (ltb-false k (length es) e)

    base_low : g.base ≤ end_of o c.history
    base_low = inv.order.generations_rise.to_end place kept.inside

    snapshot_grown : SnapshotHolds o x.history recorded x.logs g
    snapshot_grown = (let r = old.snapshot in record {
      whole = λ some. same_snapshot (shape o) c.recorded recorded g.base g.size g.snapshots _ _ _ _ in_snapshot
          (grows.logs.each g.cut (inv.order.generations_rise.cut_inside place kept.inside)).block (λ virt. map_same g.base virt base_low) (r.whole some);
      empty = λ none. (let e = r.empty none in (e.0, e.1, λ virt. map_same g.base virt base_low ∙ e.2 virt));
      size_is = r.size_is ∙ sym (size_same g.base base_low);
      shared_is = r.shared_is ∙ sym (ap all_names (same_meanings (shape o) c.recorded recorded g.snapshots in_snapshot));
    })
      where
        in_snapshot : (block : ℕ) → is_listed g.snapshots block ≡ true → recorded block ≡ c.recorded block
        in_snapshot block listed = data_recorded block (has_left g.snapshots (data_names o es g) block listed)

    -- the files so far
    file_grown : (position : ℕ) → g.base ≤ position → position ≤ end_of o c.history → HoldsFileAt o x.history recorded position
    file_grown position low high = (let r = old.files position low high in record {
      early = λ before. record { each = λ virt at inside below. byte_same virt at ∙ ((r.early before).each virt at inside (subst (λ (size : ℕ). virt * (shape o).block_bytes + at < size) (size_same position high) below) ∙ file_same virt at) };
      held = λ after. record { each = λ virt at inside. byte_same virt at ∙ ((r.held after).each virt at inside ∙ file_same virt at) };
      size_is = ap (λ (file : List ℕ). length file) (grows.history.files position high) ∙ (r.size_is ∙ sym (size_same position high));
    })
      where
        byte_same : (virt at : ℕ) → byte_in recorded (history_map_at o (entries o x.history) position virt) at ≡ byte_in c.recorded (history_map_at o es position virt) at
        byte_same virt at = ap (λ (found : Option ℕ). byte_in recorded found at) (map_same position virt high)
            ∙ same_byte (shape o) c.recorded recorded (history_map_at o es position virt) at
            (λ block found. data_recorded block (has_right g.snapshots (data_names o es g) block (mapped_named o c inv place kept position virt block low found)))

        file_same : (virt at : ℕ) → slice_index (file_at o c.history position) (virt * (shape o).block_bytes + at) ≡ slice_index (file_at o x.history position) (virt * (shape o).block_bytes + at)
        file_same virt at = ap (λ (file : List ℕ). slice_index file (virt * (shape o).block_bytes + at)) (sym (grows.history.files position high))

    -- a kept generation holds its map and its files
    pub contents_grown : GenerationHolds o (λ word. cell x.memory word) x.history recorded (λ block. owner_grown c x block) x.logs g
    contents_grown = record {
      taken = λ block named. named_or_joined o c x inv grows place block kept.inside named (λ was. taken_same o c x inv grows block (old.taken block was)) (λ new. inl (joined_owner o c x inv grows block new));
      whole = λ block named. named_or_joined o c x inv grows place block kept.inside named
          (λ was. ap (λ (words : List ℕ). length words) (named_recorded o c x inv grows place block kept was) ∙ old.whole block was)
          (λ new. ap (λ (words : List ℕ). length words) (joined_recorded o c x inv grows block new) ∙ grows.long block new);
      words = words_grown;
      entries_say = entries_grown;
      snapshot = snapshot_grown;
      files = λ position low high. by position (nat_lt (end_of o c.history) position) refl (λ past. grows.file position past high) (λ before. file_grown position low before);
    }
      where
        by : {P : Type 0} (position : ℕ) (b : Bool) → nat_lt (end_of o c.history) position ≡ b → (end_of o c.history < position → P) → (position ≤ end_of o c.history → P) → P
        by position true e past before = past (ltb-true (end_of o c.history) position e)
        by position false e past before = before (ltb-false (end_of o c.history) position e)
