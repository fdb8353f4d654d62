-- The first block of a kept generation's chain: a head that was loaded names it, and its second word says where the chain begins.
use Rattle.std.proofs.Common.{◌≡◌, ◌<◌, ◌+◌, ◌^◌, ◌⊎◌, inl, inr, ◌++◌, not, ℕ, true, false, List, [], ◌∷◌, length, drop, refl, sym, ◌∙◌, ap, subst, arith, slice_index}
use Rattle.std.proofs.lemmas.Bool.{and_parts, not-true}
use Rattle.log_entry.specs.Fields.{field}
use Rattle.log_entry.specs.Words.{head_word, block_word}
use Rattle.log_entry.specs.declared.words.BlockKind.TheVariants.{Log, Snapshot}
use Rattle.log_entry.specs.declared.layouts.TheConstants.{HEAD_BLOCK, HEAD_GENERATION, BLOCK_BASE, BLOCK_KIND, LOG, SNAPSHOT}
use Rattle.log_image.specs.Chains.{all_different, is_listed}
use Rattle.persistence.specs.Memory.{cell}
use Rattle.log_core.specs.Entries.{place_in, head_place}
use Rattle.log_core.specs.Origin.{Origin, shape, first_generation, Generation}
use Rattle.log_core.specs.Files.{entries}
use Rattle.log_core.specs.Cores.{Core, is_named, nth_log, log_blocks, data_names}
use Rattle.log_core.specs.Snapshots.{first_or}
use Rattle.log_core.specs.Order.{nth_generation, front_of}
use Rattle.log_core.specs.Pins.{WasHead}
use Rattle.log_core.specs.Walks.{IsKeptWord}
use Rattle.log_core.specs.Invariant.{Invariant, KeptIn}
use Rattle.log_core.proofs.Heads.{generation_field}
use Rattle.log_core.proofs.clauses.Apart.{has_left, has_right}

block_field : (generation block : ℕ) → generation < 2 ^ 32 → block < 2 ^ 16 → field HEAD_BLOCK (head_word (record { generation = generation; block = block })) ≡ block
block_field generation block few small = omega (arith, few, small)

log_base : (base : ℕ) → base < 2 ^ 40 → field BLOCK_BASE (block_word (record { kind = Log; base = base })) ≡ base
log_base base small = omega (arith, small)

snapshot_base : (base : ℕ) → base < 2 ^ 40 → field BLOCK_BASE (block_word (record { kind = Snapshot; base = base })) ≡ base
snapshot_base base small = omega (arith, small)

log_kind : (base : ℕ) → base < 2 ^ 40 → field BLOCK_KIND (block_word (record { kind = Log; base = base })) ≡ 1
log_kind base small = omega (arith, small)

pub snapshot_kind : (base : ℕ) → base < 2 ^ 40 → field BLOCK_KIND (block_word (record { kind = Snapshot; base = base })) ≡ 2
snapshot_kind base small = omega (arith, small)

-- a block stands once among different ones
pub not_again : (block : ℕ) (blocks : List ℕ) → all_different (block ∷ blocks) ≡ true → is_listed blocks block ≡ true → ⊥
not_again block blocks different again = (let first = and_parts (not (is_listed blocks block)) (all_different blocks) different in
    let none : is_listed blocks block ≡ false = not-true (is_listed blocks block) first.0 in
    let both : true ≡ false = sym again ∙ none in cc)

module _ (o : Origin) (c : Core) (inv : Invariant o c) where
  -- a head that was of a generation names its first block
  pub head_front : (word place : ℕ) → WasHead (cell c.memory head_place) word → field HEAD_GENERATION word ≡ first_generation o + place → field HEAD_BLOCK word ≡ front_of c.logs (nth_generation c.generations place)
  head_front word place was generation =
      (let count = inv.order.heads.count in
      let few = inv.order.heads.few in
      let low = was.inside in
      let inside : was.place < length c.generations = omega (arith, count, low) in
      let small = inv.order.heads.small was.place inside in
      let is : word ≡ head_word (record { generation = first_generation o + was.place; block = front_of c.logs (nth_generation c.generations was.place) }) = sym was.same ∙ inv.order.heads.each was.place inside in
      let number : field HEAD_GENERATION word ≡ first_generation o + was.place =
      ap (field HEAD_GENERATION) is ∙ generation_field (first_generation o + was.place) (front_of c.logs (nth_generation c.generations was.place)) (omega (arith, few, inside)) small in
      let same : was.place ≡ place = omega (arith, number, generation) in
      ap (field HEAD_BLOCK) is ∙ (block_field (first_generation o + was.place) (front_of c.logs (nth_generation c.generations was.place)) (omega (arith, few, inside)) small
      ∙ ap (λ (k : ℕ). front_of c.logs (nth_generation c.generations k)) same))

  module _ (place : ℕ) (kept : KeptIn o c place) where
    abbrev g : Generation
    g = nth_generation c.generations place

    pub base_small : g.base < 2 ^ 40
    base_small = (let upto = inv.order.generations_rise.to_end place kept.inside in let limit = inv.order.log.limit in omega (arith, upto, limit))

    wide : 1 < Rattle.log_image.specs.Image.words_in (shape o)
    wide = (let many = inv.sizes.image.wide in omega (arith, many))

    -- the second word of that block, where it is kept, has the generation's base
    pub front_says : (word : ℕ) → IsKeptWord (shape o) c.memory.now.words (λ block. is_named o c.logs (entries o c.history) g block) (drop g.cut c.logs) (record { block = front_of c.logs g; slot = 1; word = word }) →
        field BLOCK_BASE word ≡ g.base
    front_says word held = go g.snapshots refl held.word_is
      where
        present : (block : ℕ) → front_of c.logs g ≡ block → word ≡ slice_index c.memory.now.words (place_in (shape o) (front_of c.logs g) 1) → word ≡ (cell c.memory (place_in (shape o) block 1)).present
        present block is same = same ∙ ap (λ (b : ℕ). slice_index c.memory.now.words (place_in (shape o) b 1)) is

        go : (snapshots : List ℕ) → g.snapshots ≡ snapshots →
            (word ≡ slice_index c.memory.now.words (place_in (shape o) (front_of c.logs g) 1)) ⊎ ((word ≡ 0) × (is_listed (log_blocks (drop g.cut c.logs)) (front_of c.logs g) ≡ true)) → field BLOCK_BASE word ≡ g.base
        go [] none (inl same) =
            (let cut_base = inv.order.generations_rise.cut_base place kept.inside in
            let certain = (inv.order.chains place kept g.cut (omega arith) (inv.order.generations_rise.cut_inside place kept.inside)).base in
            let is : word ≡ block_word (record { kind = Log; base = (nth_log c.logs g.cut).base }) = present (nth_log c.logs g.cut).block (ap (λ (l : List ℕ). first_or l (nth_log c.logs g.cut).block) none) same ∙ certain.present in
            let small = base_small in
            ap (field BLOCK_BASE) is ∙ (log_base (nth_log c.logs g.cut).base (omega (arith, small, cut_base)) ∙ cut_base))
        go [] none (inr zero_word) =
            (let empty = ((inv.contents place kept).snapshot.empty (ap (λ (l : List ℕ). length l) none)).0 in ap (field BLOCK_BASE) zero_word.0 ∙ sym empty)
        go (block ∷ rest) some (inl same) =
            (let front_is : front_of c.logs g ≡ block = ap (λ (l : List ℕ). first_or l (nth_log c.logs g.cut).block) some in
            let listed : is_listed (g.snapshots ++ data_names o (entries o c.history) g) block ≡ true = has_left g.snapshots (data_names o (entries o c.history) g) block
            (subst (λ (l : List ℕ). is_listed l block ≡ true) (sym some) (rw (Rattle.std.proofs.lemmas.Bool.eq-eqb block block refl) refl)) in
            let certain = (inv.contents place kept).words block 1 listed wide in
            let says = subst (λ (l : List ℕ). Rattle.log_core.specs.Snapshots.AreSnapshotBlocks (shape o) c.recorded g.base g.size l (nth_log c.logs g.cut).block) some
            ((inv.contents place kept).snapshot.whole (subst (λ (l : List ℕ). 0 < length l) (sym some) (omega arith))).words in
            ap (field BLOCK_BASE) (present block front_is same ∙ (certain.present ∙ says.1)) ∙ snapshot_base g.base base_small)
        go (block ∷ rest) some (inr log_word) =
            (let front_is : front_of c.logs g ≡ block = ap (λ (l : List ℕ). first_or l (nth_log c.logs g.cut).block) some in
            let logs = log_blocks (drop g.cut c.logs) in
            let again : is_listed ((rest ++ logs) ++ data_names o (entries o c.history) g) block ≡ true = has_left (rest ++ logs) (data_names o (entries o c.history) g) block (has_right rest logs block (subst (λ (b : ℕ). is_listed logs b ≡ true) front_is log_word.1)) in
            let once = subst (λ (l : List ℕ). all_different ((l ++ logs) ++ data_names o (entries o c.history) g) ≡ true) some (inv.owners.once place kept).once in
            absurd (not_again block ((rest ++ logs) ++ data_names o (entries o c.history) g) once again))

    -- where its kind is that of a log block, the chain has no snapshot
    pub front_log : (word : ℕ) → IsKeptWord (shape o) c.memory.now.words (λ block. is_named o c.logs (entries o c.history) g block) (drop g.cut c.logs) (record { block = front_of c.logs g; slot = 1; word = word }) →
        field BLOCK_KIND word ≡ LOG → length g.snapshots ≡ 0
    front_log word held log = go g.snapshots refl held.word_is
      where
        go : (snapshots : List ℕ) → g.snapshots ≡ snapshots →
            (word ≡ slice_index c.memory.now.words (place_in (shape o) (front_of c.logs g) 1)) ⊎ ((word ≡ 0) × (is_listed (log_blocks (drop g.cut c.logs)) (front_of c.logs g) ≡ true)) → length g.snapshots ≡ 0
        go [] none word_is = ap (λ (l : List ℕ). length l) none
        go (block ∷ rest) some (inr zero_word) = (let none : 0 ≡ LOG = sym (ap (field BLOCK_KIND) zero_word.0) ∙ log in absurd (omega (arith, none)))
        go (block ∷ rest) some (inl same) =
            (let front_is : front_of c.logs g ≡ block = ap (λ (l : List ℕ). first_or l (nth_log c.logs g.cut).block) some in
            let listed : is_listed (g.snapshots ++ data_names o (entries o c.history) g) block ≡ true = has_left g.snapshots (data_names o (entries o c.history) g) block
            (subst (λ (l : List ℕ). is_listed l block ≡ true) (sym some) (rw (Rattle.std.proofs.lemmas.Bool.eq-eqb block block refl) refl)) in
            let certain = (inv.contents place kept).words block 1 listed wide in
            let says = subst (λ (l : List ℕ). Rattle.log_core.specs.Snapshots.AreSnapshotBlocks (shape o) c.recorded g.base g.size l (nth_log c.logs g.cut).block) some
            ((inv.contents place kept).snapshot.whole (subst (λ (l : List ℕ). 0 < length l) (sym some) (omega arith))).words in
            let is : word ≡ block_word (record { kind = Snapshot; base = g.base }) = same ∙ (ap (λ (b : ℕ). slice_index c.memory.now.words (place_in (shape o) b 1)) front_is ∙ (certain.present ∙ says.1)) in
            let kind : field BLOCK_KIND word ≡ 2 = ap (field BLOCK_KIND) is ∙ snapshot_kind g.base base_small in
            let both : 2 ≡ LOG = sym kind ∙ log in
            absurd (omega (arith, both)))

    -- the first log block's kind is not that of a snapshot block
    pub no_snapshot : (word : ℕ) → IsKeptWord (shape o) c.memory.now.words (λ block. is_named o c.logs (entries o c.history) g block) (drop g.cut c.logs) (record { block = (nth_log c.logs g.cut).block; slot = 1; word = word }) →
        field BLOCK_KIND word ≡ SNAPSHOT → ⊥
    no_snapshot word held is_snapshot = go held.word_is
      where
        go : (word ≡ slice_index c.memory.now.words (place_in (shape o) (nth_log c.logs g.cut).block 1)) ⊎ ((word ≡ 0) × (is_listed (log_blocks (drop g.cut c.logs)) (nth_log c.logs g.cut).block ≡ true)) → ⊥
        go (inr zero_word) = (let none : 0 ≡ SNAPSHOT = sym (ap (field BLOCK_KIND) zero_word.0) ∙ is_snapshot in omega (arith, none))
        go (inl same) =
            (let cut_base = inv.order.generations_rise.cut_base place kept.inside in
            let certain = (inv.order.chains place kept g.cut (omega arith) (inv.order.generations_rise.cut_inside place kept.inside)).base in
            let small = base_small in
            let kind : field BLOCK_KIND word ≡ 1 = ap (field BLOCK_KIND) (same ∙ certain.present) ∙ log_kind (nth_log c.logs g.cut).base (omega (arith, small, cut_base)) in
            let both : 1 ≡ SNAPSHOT = sym kind ∙ is_snapshot in
            omega (arith, both))

    -- and where it is that of a snapshot block, the chain has one
    pub front_snapshot : (word : ℕ) → IsKeptWord (shape o) c.memory.now.words (λ block. is_named o c.logs (entries o c.history) g block) (drop g.cut c.logs) (record { block = front_of c.logs g; slot = 1; word = word }) →
        field BLOCK_KIND word ≡ SNAPSHOT → 0 < length g.snapshots
    front_snapshot word held is_snapshot = go g.snapshots refl held.word_is
      where
        go : (snapshots : List ℕ) → g.snapshots ≡ snapshots →
            (word ≡ slice_index c.memory.now.words (place_in (shape o) (front_of c.logs g) 1)) ⊎ ((word ≡ 0) × (is_listed (log_blocks (drop g.cut c.logs)) (front_of c.logs g) ≡ true)) → 0 < length g.snapshots
        go (block ∷ rest) some word_is = subst (λ (l : List ℕ). 0 < length l) (sym some) (omega arith)
        go [] none word_is = absurd (no_snapshot word (record {
          named = subst (λ (b : ℕ). is_named o c.logs (entries o c.history) g b ≡ true) (ap (λ (l : List ℕ). first_or l (nth_log c.logs g.cut).block) none) held.named;
          inside = held.inside;
          word_is = subst (λ (b : ℕ). (word ≡ slice_index c.memory.now.words (place_in (shape o) b 1)) ⊎ ((word ≡ 0) × (is_listed (log_blocks (drop g.cut c.logs)) b ≡ true)))
              (ap (λ (l : List ℕ). first_or l (nth_log c.logs g.cut).block) none) word_is;
          early = λ at. subst (λ (b : ℕ). word ≡ slice_index c.memory.now.words (place_in (shape o) b 1)) (ap (λ (l : List ℕ). first_or l (nth_log c.logs g.cut).block) none) (held.early at);
        }) is_snapshot)
