-- The block that follows one of a snapshot, as its link was read: the snapshot's next or, after the last one, the first log block.
use Rattle.std.proofs.Common.{◌≡◌, ◌≢◌, ◌+◌, ◌++◌, ⊎_elim, ℕ, true, [], length, refl, sym, ◌∙◌, ap, subst, arith, slice_index, Option, Some, None}
use Rattle.log_entry.specs.Fields.{field}
use Rattle.log_entry.specs.declared.layouts.TheConstants.{BLOCK_KIND, LOG, SNAPSHOT}
use Rattle.log_image.specs.Chains.{is_listed}
use Rattle.pmem_words.specs.Seats.{Seat}
use Rattle.log_core.specs.Views.{Ghost, view_of}
use Rattle.log_core.specs.Origin.{Origin, shape, Generation}
use Rattle.log_core.specs.Files.{entries}
use Rattle.log_core.specs.Cores.{Core, nth_log, data_names}
use Rattle.log_core.specs.Works.{MayBelieve, IsFollowed, kept_at, kept_word, word_or_zero}
use Rattle.log_core.specs.Order.{nth_generation}
use Rattle.log_core.specs.Snapshots.{AreSnapshotBlocks}
use Rattle.log_core.specs.Walks.{IsSnapshotBlock}
use Rattle.log_core.specs.Invariant.{Invariant, KeptIn}
use Rattle.log_core.specs.Knows.{Knows}
use Rattle.log_core.proofs.PinnedChains.{place, kept, IsChainWord, chain_kept, chain_says}
use Rattle.log_core.proofs.Fronts.{no_snapshot, snapshot_kind, base_small}
use Rattle.log_core.proofs.SnapshotReads.{listed_at, next_at, snapshot_form}
use Rattle.log_core.proofs.clauses.Apart.{has_left}

module _ (o : Origin) (c : Core) (n : ℕ) (s : Seat) (g : Ghost) (pin began : ℕ) (inv : Invariant o c) (f : Knows o c n s g pin began) (valid : MayBelieve s) (some : (view_of c.views n).parts ≢ [])
    (held : IsSnapshotBlock (nth_generation c.generations (place o c n s g pin began inv f valid)) s.walk.reading_place s.walk.reading_block) where
  abbrev at : ℕ
  at = place o c n s g pin began inv f valid

  abbrev pinned : Generation
  pinned = nth_generation c.generations at

  abbrev first_log : ℕ
  first_log = (nth_log c.logs pinned.cut).block

  in_chain : KeptIn o c at
  in_chain = kept o c n s g pin began inv f valid

  abbrev block : ℕ
  block = s.walk.reading_block

  pub in_snapshot : is_listed pinned.snapshots block ≡ true
  in_snapshot = listed_at pinned.snapshots s.walk.reading_place block held.inside held.block_is

  listed : (other : ℕ) → is_listed pinned.snapshots other ≡ true → is_listed (pinned.snapshots ++ data_names o (entries o c.history) pinned) other ≡ true
  listed other there = has_left pinned.snapshots (data_names o (entries o c.history) pinned) other there

  pub are_blocks : AreSnapshotBlocks (shape o) c.recorded pinned.base pinned.size pinned.snapshots first_log
  are_blocks = ((inv.contents at in_chain).snapshot.whole (let inside = held.inside in omega (arith, inside))).words

  module _ (kind : ℕ) (followed : IsFollowed s kind) where
    abbrev next : ℕ
    next = kept_word s block 0

    pub next_is : next ≡ slice_index (c.recorded block) 0
    next_is = chain_says o c n s g pin began inv f valid some block 0 (listed block in_snapshot) followed.link

    -- the first log block has not the kind of a snapshot block, and no snapshot block has that of a log block
    pub no_log : next ≡ first_log → kind ≡ SNAPSHOT → ⊥
    no_log is snapshot = by (kept_at s.walk.kept next 1) refl followed.next
      where
        by : (found : Option ℕ) → kept_at s.walk.kept next 1 ≡ found → kept_at s.walk.kept next 1 ≢ None → ⊥
        by None none some_word = some_word none
        by (Some word) found some_word = no_snapshot o c inv at in_chain word
            (subst (λ (b : ℕ). IsChainWord o c n s g pin began inv f valid b 1 word) is (chain_kept o c n s g pin began inv f valid some next 1 word found))
            (ap (λ (found : Option ℕ). field BLOCK_KIND (word_or_zero found)) (sym found) ∙ (followed.kind_is ∙ snapshot))

    pub no_later : is_listed pinned.snapshots next ≡ true → kind ≡ LOG → ⊥
    no_later later is_log =
        (let says = chain_says o c n s g pin began inv f valid some next 1 (listed next later) followed.next in
        let head = (snapshot_form (shape o) c.recorded pinned.base pinned.size first_log pinned.snapshots next are_blocks later).0 in
        let is : 2 ≡ LOG = sym (ap (field BLOCK_KIND) (says ∙ head) ∙ snapshot_kind pinned.base (base_small o c inv at in_chain)) ∙ (followed.kind_is ∙ is_log) in
        omega (arith, is))

    same_link : slice_index (c.recorded (slice_index pinned.snapshots s.walk.reading_place)) 0 ≡ next
    same_link = ap (λ (b : ℕ). slice_index (c.recorded b) 0) held.block_is ∙ sym next_is

    pub next_block : kind ≡ SNAPSHOT → IsSnapshotBlock pinned (s.walk.reading_place + 1) next
    next_block snapshot = ⊎_elim (λ last. absurd (no_log (sym same_link ∙ last.1) snapshot)) (λ later. record { inside = later.0; block_is = later.1 ∙ same_link })
        (next_at (shape o) c.recorded pinned.base pinned.size first_log pinned.snapshots s.walk.reading_place are_blocks held.inside)

    pub last_block : kind ≡ LOG → (s.walk.reading_place + 1 ≡ length pinned.snapshots) × (next ≡ first_log)
    last_block log = ⊎_elim (λ last. (last.0, sym same_link ∙ last.1))
        (λ later. absurd (no_later (listed_at pinned.snapshots (s.walk.reading_place + 1) next later.0 (later.1 ∙ same_link)) log))
        (next_at (shape o) c.recorded pinned.base pinned.size first_log pinned.snapshots s.walk.reading_place are_blocks held.inside)
