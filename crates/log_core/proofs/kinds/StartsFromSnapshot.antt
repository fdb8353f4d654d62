-- A walk begins to read the snapshot at the front of its chain.
use Rattle.std.proofs.Common.{◌≡◌, ◌≢◌, ◌<◌, ◌≤◌, ◌++◌, ◌==◌, take, ◌^◌, ℕ, true, List, [], ◌∷◌, length, refl, sym, ◌∙◌, ap, subst, arith, slice_index, None}
use Rattle.std.proofs.lemmas.Bool.{eq-eqb}
use Rattle.log_entry.specs.Fields.{field}
use Rattle.log_entry.specs.Words.{snapshot_word}
use Rattle.log_entry.specs.declared.layouts.TheConstants.{SNAPSHOT, SNAPSHOT_COUNT, SNAPSHOT_SIZE}
use Rattle.log_image.specs.Entries.{Meaning, all_names}
use Rattle.log_image.specs.Maps.{map_of}
use Rattle.log_image.specs.Blocks.{entry_count}
use Rattle.log_image.specs.Chains.{is_listed}
use Rattle.pmem_words.proofs.MapLaws.{length_unmapped, map_at_unmapped}
use Rattle.pmem_words.specs.Seats.{Seat}
use Rattle.log_core.specs.Views.{Ghost, view_of}
use Rattle.log_core.specs.Origin.{Origin, shape, Generation}
use Rattle.log_core.specs.Files.{entries, end_of}
use Rattle.log_core.specs.Cores.{Core, nth_log, data_names}
use Rattle.log_core.specs.Works.{StartsFromSnapshot, MayStart, is_collection, kept_at, front, front_base, front_size, state_after_work}
use Rattle.log_core.specs.Order.{nth_generation}
use Rattle.log_core.specs.Snapshots.{first_or, AreSnapshotBlocks}
use Rattle.log_core.specs.Walks.{WalkHolds, HasRead, read_meanings}
use Rattle.log_core.specs.Noted.{NotedHolds}
use Rattle.log_core.specs.Invariant.{Invariant, KeptIn, around}
use Rattle.log_core.specs.Knows.{Knows}
use Rattle.log_core.proofs.FileLimits.{limit_small}
use Rattle.log_core.proofs.NotedBits.{length_first, first_noted}
use Rattle.log_core.proofs.NotedNames.{or_false}
use Rattle.log_core.proofs.NotedGrown.{collects, noted_inside}
use Rattle.log_core.proofs.clauses.Apart.{has_left}
use Rattle.log_core.proofs.clauses.MovedWalks.{move_facts, no_bases_hold}
use Rattle.log_core.proofs.PinnedChains.{place, kept, from_first, chain_says}
use Rattle.log_core.proofs.kinds.KeepsTable.{front_is, base_is, snapshot_front}

-- the size of a snapshot's third word
size_field : (count size : ℕ) → count < 2 ^ 16 → size < 2 ^ 48 → field SNAPSHOT_SIZE (snapshot_word (record { count = count; size = size })) ≡ size
size_field count size few small = omega (arith, few, small)

count_few : (word : ℕ) → field SNAPSHOT_COUNT word < 2 ^ 16
count_few word = omega arith

-- nothing is read at the first slot of the first block
nothing_read : (content : ℕ → List ℕ) (block : ℕ) (blocks : List ℕ) → read_meanings content (block ∷ blocks) block 3 ≡ []
nothing_read content block blocks = rw (eq-eqb block block refl) refl

none_read : (content : ℕ → List ℕ) (block : ℕ) (blocks : List ℕ) (virt : ℕ) → map_of (read_meanings content (block ∷ blocks) block 3) virt ≡ None
none_read content block blocks virt = ap (λ (l : List Meaning). map_of l virt) (nothing_read content block blocks)

-- a generation's size, as its place in the history says it
pub generation_size : (o : Origin) (c : Core) (inv : Invariant o c) (place : ℕ) → KeptIn o c place → (nth_generation c.generations place).size < 2 ^ 48
generation_size o c inv place kept =
    (let low = inv.order.generations_rise.from_first place kept.inside in
    let high = inv.order.generations_rise.to_end place kept.inside in
    let within = inv.writes.within (nth_generation c.generations place).base low high in
    let same = (inv.contents place kept).snapshot.size_is ∙ sym (inv.writes.sizes (nth_generation c.generations place).base low high) in
    let small = limit_small o.geometry.block_bytes o.geometry.block_allowed in
    omega (arith, within, same, small))

module _ (o : Origin) (c : Core) (n : ℕ) (s : Seat) (g : Ghost) (pin began : ℕ) (inv : Invariant o c) (f : Knows o c n s g pin began) (may : MayStart g s SNAPSHOT) (third : kept_at s.walk.kept (front s) 2 ≢ None) where
  abbrev at : ℕ
  at = place o c n s g pin began inv f may.at_front.valid

  abbrev pinned : Generation
  pinned = nth_generation c.generations at

  in_chain : KeptIn o c at
  in_chain = kept o c n s g pin began inv f may.at_front.valid

  module _ (some : (view_of c.views n).parts ≢ []) where
    -- the first block of the snapshot
    module _ (block : ℕ) (blocks : List ℕ) (snapshots_are : pinned.snapshots ≡ block ∷ blocks) where
      front_block : front s ≡ block
      front_block = front_is o c n s g pin began inv f may.at_front ∙ ap (λ (l : List ℕ). first_or l (nth_log c.logs pinned.cut).block) snapshots_are

      listed : is_listed pinned.snapshots (front s) ≡ true
      listed = rw (snapshots_are, front_block, eq-eqb block block refl) refl

      some_snapshot : 0 < length pinned.snapshots
      some_snapshot = subst (λ (l : List ℕ). 0 < length l) (sym snapshots_are) (omega arith)

      third_says : slice_index (c.recorded block) 2 ≡ snapshot_word (record { count = entry_count (c.recorded block); size = pinned.size })
      third_says = (subst (λ (l : List ℕ). AreSnapshotBlocks (shape o) c.recorded pinned.base pinned.size l (nth_log c.logs pinned.cut).block) snapshots_are
          ((inv.contents at in_chain).snapshot.whole some_snapshot).words).2

      size_says : front_size s ≡ pinned.size
      size_says =
          ap (field SNAPSHOT_SIZE) (chain_says o c n s g pin began inv f may.at_front.valid some (front s) 2 (has_left pinned.snapshots (data_names o (entries o c.history) pinned) (front s) listed) third
          ∙ (ap (λ (b : ℕ). slice_index (c.recorded b) 2) front_block ∙ third_says))
          ∙ size_field (entry_count (c.recorded block)) pinned.size (count_few (slice_index (c.recorded block) 2)) (generation_size o c inv at in_chain)

      has_read : HasRead c.recorded pinned (state_after_work s StartsFromSnapshot).walk
      has_read = record {
        inside = some_snapshot;
        block = ap (λ (l : List ℕ). slice_index l 0) snapshots_are ∙ sym front_block;
        from = omega arith;
        upto = omega arith;
        table = λ virt. map_at_unmapped virt ∙ sym (ap (λ (l : List ℕ). map_of (read_meanings c.recorded l (front s) 3) virt) snapshots_are
            ∙ (ap (λ (b : ℕ). map_of (read_meanings c.recorded (block ∷ blocks) b 3) virt) front_block ∙ none_read c.recorded block blocks virt));
        size_is = size_says;
        position_is = base_is o c n s g pin began inv f may.at_front some;
      }

    walk_begun : WalkHolds (around o c) s.hold (state_after_work s StartsFromSnapshot).walk
    walk_begun = record {
      to_end = subst (λ (b : ℕ). b ≤ end_of o c.history) (sym (base_is o c n s g pin began inv f may.at_front some)) (inv.order.generations_rise.to_end at in_chain.inside);
      from_first = λ reading. (let is = from_first o c n s g pin began inv f may.at_front.valid in omega (arith, is));
      to_current = λ reading. (let is = from_first o c n s g pin began inv f may.at_front.valid in let low = in_chain.inside in omega (arith, is, low));
      read = λ reading again. by pinned.snapshots refl (snapshot_front o c n s g pin began inv f may.at_front some may.kind_is);
      kept_words = λ valid. tt;
      unpinned = λ invalid. refl;
      walked = λ some_block stopped. cc;
      ready_walked = λ ready. cc;
      ready_base = λ ready. cc;
      ready_tail = λ ready. cc;
      seeking = λ ready. cc;
      first_known = λ known. absurd (known refl);
    }
      where
        by : (snapshots : List ℕ) → pinned.snapshots ≡ snapshots → 0 < length pinned.snapshots → HasRead c.recorded pinned (state_after_work s StartsFromSnapshot).walk
        by [] is some = absurd (let none = ap (λ (l : List ℕ). length l) is in omega (arith, some, none))
        by (block ∷ blocks) is some = has_read block blocks is

    -- up to there the snapshot names its front alone
    noted_begun : NotedHolds (around o c) s.hold (state_after_work s StartsFromSnapshot).walk (state_after_work s StartsFromSnapshot).calling (state_after_work s StartsFromSnapshot).blocks.named
    noted_begun = (
      collects s.calling.job,
      (λ on reading again b low. first_noted (is_collection s.calling.job) s.blocks.named (front s) b on (noted_inside o c n s g pin began f some b low)
          ∙ sym (read_is b pinned.snapshots refl (snapshot_front o c n s g pin began inv f may.at_front some may.kind_is))),
      (λ on ready. cc),
    )
      where
        read_is : (b : ℕ) (snapshots : List ℕ) → pinned.snapshots ≡ snapshots → 0 < length pinned.snapshots →
            is_listed (take 1 pinned.snapshots ++ all_names (read_meanings c.recorded pinned.snapshots (front s) 3)) b ≡ (front s == b)
        read_is b [] is some = absurd (let none = ap (λ (l : List ℕ). length l) is in omega (arith, some, none))
        read_is b (block ∷ blocks) is some =
            (let same = front_block block blocks is in
            ap (λ (l : List ℕ). is_listed (take 1 l ++ all_names (read_meanings c.recorded l (front s) 3)) b) is
            ∙ (ap (λ (at : ℕ). is_listed (block ∷ all_names (read_meanings c.recorded (block ∷ blocks) at 3)) b) same
            ∙ (ap (λ (l : List Meaning). is_listed (block ∷ all_names l) b) (nothing_read c.recorded block blocks)
            ∙ (or_false (block == b) ∙ ap (λ (at : ℕ). at == b) (sym same)))))

  pub snapshot_facts : Knows o c n (state_after_work s StartsFromSnapshot) g pin began
  snapshot_facts = move_facts o c n s g pin began (state_after_work s StartsFromSnapshot).walk (is_collection s.calling.job) (state_after_work s StartsFromSnapshot).blocks.named
      (length_first (is_collection s.calling.job) s.blocks.named (front s)) f may.free (λ running. may.no_bases)
      (no_bases_hold o c n s g pin began (front_base s) (is_collection s.calling.job) f may.no_bases) refl (λ some. length_unmapped) (λ some. walk_begun some) (λ some. noted_begun some)
