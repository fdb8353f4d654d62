-- What a walk finds in the words of the pinned chain, and which blocks that names.
use Rattle.std.proofs.Common.{◌≡◌, ◌≢◌, ◌<◌, ◌≤◌, ◌⊎◌, ◌+◌, ◌^◌, ◌++◌, inl, inr, ⊎_elim, ℕ, true, List, [], ◌∷◌, length, drop, refl, sym, ◌∙◌, ap, subst, arith, slice_index, Option, Some, None}
use Rattle.std.proofs.lemmas.Bool.{eq-eqb}
use Rattle.log_entry.specs.Fields.{field}
use Rattle.log_entry.specs.Words.{block_word}
use Rattle.log_entry.specs.declared.words.BlockKind.TheVariants.{Log}
use Rattle.log_entry.specs.declared.layouts.TheConstants.{BLOCK_KIND, HEAD_GENERATION, LOG, SNAPSHOT}
use Rattle.log_image.specs.Image.{words_in, total}
use Rattle.log_image.specs.Chains.{is_listed, all_different}
use Rattle.persistence.specs.Memory.{cell}
use Rattle.log_entry.specs.declared.shapes.Geometry.{Geometry}
use Rattle.pmem_words.specs.Seats.{Seat, image_blocks}
use Rattle.log_core.specs.Entries.{place_in}
use Rattle.log_core.specs.Views.{Ghost, view_of}
use Rattle.log_core.specs.Origin.{Origin, shape, Owner, Free, Generation}
use Rattle.log_core.specs.Files.{entries}
use Rattle.log_core.specs.Cores.{Core, is_named, nth_log, log_blocks, data_names}
use Rattle.log_core.specs.Contents.{IsStillTaken}
use Rattle.log_core.specs.Order.{nth_generation, front_of}
use Rattle.log_core.specs.Snapshots.{first_or, AreSnapshotBlocks}
use Rattle.log_core.specs.Works.{front, IsReading, kept_at, kept_word}
use Rattle.log_core.specs.Invariant.{Invariant, KeptIn}
use Rattle.log_core.specs.Knows.{Knows}
use Rattle.log_blocks.specs.Walking.{IsOfImage}
use Rattle.log_core.proofs.FewBlocks.{few_different}
use Rattle.log_core.proofs.Fronts.{head_front, snapshot_kind, base_small}
use Rattle.log_core.proofs.PinnedChains.{place, kept, from_first, some_generation, chain_says}
use Rattle.log_core.proofs.SnapshotReads.{next_at, snapshot_form}
use Rattle.log_core.proofs.ChainWords.{front_different}
use Rattle.log_core.proofs.clauses.Apart.{has_left, log_is_named, data_is_named}
use Rattle.log_core.proofs.kinds.ReadsSnapshot.{has_read, in_snapshot, are_blocks}

-- the kind of a log block
log_kind : (base : ℕ) → base < 2 ^ 40 → field BLOCK_KIND (block_word (record { kind = Log; base = base })) ≡ LOG
log_kind base small = omega (arith, small)

module _ (o : Origin) (c : Core) (inv : Invariant o c) (at : ℕ) (in_chain : KeptIn o c at) where
  abbrev g : Generation
  g = nth_generation c.generations at

  abbrev Named : ℕ → Type 0
  Named block = is_named o c.logs (entries o c.history) g block ≡ true

  wide : 1 < words_in (shape o)
  wide = (let many = inv.sizes.image.wide in omega (arith, many))

  -- a named block is one of the image's
  pub named_inside : (block : ℕ) → Named block → block < total (shape o)
  named_inside block named = inv.owners.bits.inside block (λ free. never_free (subst (λ (whose : Owner). IsStillTaken whose) free ((inv.contents at in_chain).taken block named)))
    where
      never_free : IsStillTaken Free → ⊥
      never_free (inl chain) = cc
      never_free (inr left) = (let e = left.1 in cc)

  pub named_small : (block : ℕ) → Named block → block < 2 ^ 16
  named_small block named = (let low = named_inside block named in let few = o.geometry.few_blocks in omega (arith, low, few))

  -- the second word of a log block, and of a snapshot block
  pub log_says : (number : ℕ) → g.cut ≤ number → number < length c.logs → field BLOCK_KIND (cell c.memory (place_in (shape o) (nth_log c.logs number).block 1)).present ≡ LOG
  log_says number low inside =
      (let certain = (inv.order.chains at in_chain number low inside).base in
      let limit = inv.order.log.limit in
      let end = Rattle.log_core.proofs.LogTails.log_to_end o c inv number inside in
      ap (field BLOCK_KIND) certain.present ∙ log_kind (nth_log c.logs number).base (omega (arith, limit, end)))

  blocks_of_snapshot : 0 < length g.snapshots → AreSnapshotBlocks (shape o) c.recorded g.base g.size g.snapshots (nth_log c.logs g.cut).block
  blocks_of_snapshot some = ((inv.contents at in_chain).snapshot.whole some).words

  pub snapshot_says : (block : ℕ) → is_listed g.snapshots block ≡ true → field BLOCK_KIND (cell c.memory (place_in (shape o) block 1)).present ≡ SNAPSHOT
  snapshot_says block listed =
      (let certain = (inv.contents at in_chain).words block 1 (has_left g.snapshots (data_names o (entries o c.history) g) block listed) wide in
      let form = snapshot_form (shape o) c.recorded g.base g.size (nth_log c.logs g.cut).block g.snapshots block (blocks_of_snapshot (some_listed g.snapshots listed)) listed in
      ap (field BLOCK_KIND) (certain.present ∙ form.0) ∙ snapshot_kind g.base (base_small o c inv at in_chain))
    where
      some_listed : (blocks : List ℕ) → is_listed blocks block ≡ true → 0 < length blocks
      some_listed [] none = cc
      some_listed (first ∷ more) some = omega arith

  cut_named : Named (nth_log c.logs g.cut).block
  cut_named = log_is_named o c.logs g g.cut (entries o c.history) (omega arith) (inv.order.generations_rise.cut_inside at in_chain.inside)

  listed_named : (block : ℕ) → is_listed g.snapshots block ≡ true → Named block
  listed_named block listed = data_is_named o c.logs (entries o c.history) g block (has_left g.snapshots (data_names o (entries o c.history) g) block listed)

  -- the first block of the chain is a snapshot block or the first log block: it is named, and its second word says which
  pub record IsBlockOfChain (block : ℕ) : Type 0 where
    pub named : Named block
    pub kind : (field BLOCK_KIND (cell c.memory (place_in (shape o) block 1)).present ≡ LOG) ⊎ (field BLOCK_KIND (cell c.memory (place_in (shape o) block 1)).present ≡ SNAPSHOT)

  pub snapshot_block : (block : ℕ) → is_listed g.snapshots block ≡ true → IsBlockOfChain block
  snapshot_block block listed = record { named = listed_named block listed; kind = inr (snapshot_says block listed) }

  pub cut_block : IsBlockOfChain (nth_log c.logs g.cut).block
  cut_block = record { named = cut_named; kind = inl (log_says g.cut (omega arith) (inv.order.generations_rise.cut_inside at in_chain.inside)) }

  pub front_block : IsBlockOfChain (front_of c.logs g)
  front_block = by g.snapshots refl
    where
      by : (snapshots : List ℕ) → g.snapshots ≡ snapshots → IsBlockOfChain (first_or g.snapshots (nth_log c.logs g.cut).block)
      by [] none = subst (λ (block : ℕ). IsBlockOfChain block) (sym (ap (λ (l : List ℕ). first_or l (nth_log c.logs g.cut).block) none)) cut_block
      by (block ∷ more) some = subst (λ (first : ℕ). IsBlockOfChain first) (sym (ap (λ (l : List ℕ). first_or l (nth_log c.logs g.cut).block) some))
          (snapshot_block block (subst (λ (l : List ℕ). is_listed l block ≡ true) (sym some) (rw (eq-eqb block block refl) refl)))

  -- the blocks of a snapshot are fewer than a place can count
  pub few_snapshots : length g.snapshots < 2 ^ 16
  few_snapshots =
      (let few = few_different (total (shape o)) g.snapshots different (λ block listed. named_inside block (listed_named block listed)) in
      let most = o.geometry.few_blocks in omega (arith, few, most))
    where
      different : all_different g.snapshots ≡ true
      different = front_different g.snapshots (log_blocks (drop g.cut c.logs))
          (front_different (g.snapshots ++ log_blocks (drop g.cut c.logs)) (data_names o (entries o c.history) g) (inv.owners.once at in_chain).once)

module _ (o : Origin) (c : Core) (n : ℕ) (s : Seat) (g : Ghost) (pin began : ℕ) (inv : Invariant o c) (f : Knows o c n s g pin began) (valid : s.hold.valid ≡ true) where
  abbrev pub chain : ℕ
  chain = place o c n s g pin began inv f valid

  abbrev pub chain_is_kept : KeptIn o c chain
  chain_is_kept = kept o c n s g pin began inv f valid

  -- a block that it names is of the seat's image
  pub named_of_image : (view_of c.views n).parts ≢ [] → (block : ℕ) → is_named o c.logs (entries o c.history) (nth_generation c.generations chain) block ≡ true → IsOfImage s block
  named_of_image unspent block named = subst (λ (geometry : Geometry). block < image_blocks geometry) (sym (f.fits unspent).geometry) (named_inside o c inv chain chain_is_kept block named)

  -- the block that the head found last names, where that is of the pinned generation
  pub front_known : field HEAD_GENERATION s.hold.head ≡ s.hold.generation → IsBlockOfChain o c inv chain chain_is_kept (front s)
  front_known same = subst (λ (block : ℕ). IsBlockOfChain o c inv chain chain_is_kept block) (sym is) (front_block o c inv chain chain_is_kept)
    where
      is : front s ≡ front_of c.logs (nth_generation c.generations chain)
      is = head_front o c inv s.hold.head chain (f.pin_holds.was (λ none. some_generation o c n s g pin began inv f valid (sym same ∙ ap (field HEAD_GENERATION) none)))
          (same ∙ from_first o c n s g pin began inv f valid)

-- the block of a snapshot that is being read, and the block that it links to
module _ (o : Origin) (c : Core) (n : ℕ) (s : Seat) (g : Ghost) (pin began : ℕ) (inv : Invariant o c) (f : Knows o c n s g pin began) (unspent : (view_of c.views n).parts ≢ []) (reading : IsReading s) where
  abbrev pinned : Generation
  pinned = nth_generation c.generations (chain o c n s g pin began inv f reading.valid)

  pub reading_known : IsBlockOfChain o c inv (chain o c n s g pin began inv f reading.valid) (chain_is_kept o c n s g pin began inv f reading.valid) s.walk.reading_block
  reading_known = snapshot_block o c inv _ (chain_is_kept o c n s g pin began inv f reading.valid) s.walk.reading_block (in_snapshot o c n s g pin began inv f reading unspent)

  pub place_small : s.walk.reading_place + 1 < 2 ^ 16
  place_small = (let inside = (has_read o c n s g pin began inv f reading unspent).inside in
      let few = few_snapshots o c inv _ (chain_is_kept o c n s g pin began inv f reading.valid) in omega (arith, inside, few))

  pub next_known : (block : ℕ) → kept_at s.walk.kept s.walk.reading_block 0 ≡ Some block →
      IsBlockOfChain o c inv (chain o c n s g pin began inv f reading.valid) (chain_is_kept o c n s g pin began inv f reading.valid) block
  next_known block link = ⊎_elim
      (λ last. subst (λ (b : ℕ). Known b) (sym last.1 ∙ sym link_says) (cut_block o c inv _ in_chain))
      (λ later. subst (λ (b : ℕ). Known b) (later.1 ∙ sym link_says)
      (snapshot_block o c inv _ in_chain (slice_index pinned.snapshots (s.walk.reading_place + 1)) (Rattle.log_core.proofs.SnapshotReads.listed_at pinned.snapshots (s.walk.reading_place + 1) _ later.0 refl)))
      (next_at (shape o) c.recorded pinned.base pinned.size (nth_log c.logs pinned.cut).block pinned.snapshots s.walk.reading_place (are_blocks o c n s g pin began inv f reading unspent) read.inside)
    where
      in_chain : KeptIn o c (chain o c n s g pin began inv f reading.valid)
      in_chain = chain_is_kept o c n s g pin began inv f reading.valid

      Known : ℕ → Type 0
      Known b = IsBlockOfChain o c inv (chain o c n s g pin began inv f reading.valid) in_chain b

      read : Rattle.log_core.specs.Walks.HasRead c.recorded pinned s.walk
      read = has_read o c n s g pin began inv f reading unspent

      link_says : block ≡ slice_index (c.recorded (slice_index pinned.snapshots s.walk.reading_place)) 0
      link_says = sym (ap (λ (found : Option ℕ). Rattle.log_core.specs.Works.word_or_zero found) link)
          ∙ (chain_says o c n s g pin began inv f reading.valid unspent s.walk.reading_block 0
          (has_left pinned.snapshots (data_names o (entries o c.history) pinned) s.walk.reading_block (in_snapshot o c n s g pin began inv f reading unspent))
          (λ none. (let both : Some block ≡ None = sym link ∙ none in cc))
          ∙ ap (λ (b : ℕ). slice_index (c.recorded b) 0) (sym read.block))
