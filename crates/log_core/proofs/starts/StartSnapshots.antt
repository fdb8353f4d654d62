-- The snapshot of a start's chain.
use Rattle.std.proofs.Common.{◌≡◌, ℕ, ◌+◌, ◌-◌, ◌*◌, ◌^◌, ◌<◌, ◌≤◌, Bool, true, false, List, [], ◌∷◌, ◌++◌, take, get_or, refl, sym, ap, ◌∙◌, subst, arith, append-nil}
use Rattle.std.specs.List.{list_all}
use Rattle.std.proofs.lemmas.Bool.{eqb-true, and_parts}
use Rattle.std.proofs.lemmas.List.{nil_from_length}
use Rattle.log_entry.specs.Fields.{field}
use Rattle.log_entry.specs.Words.{block_word, snapshot_word}
use Rattle.log_entry.specs.declared.layouts.TheConstants.{BLOCK_UNNAMED}
use Rattle.log_entry.specs.declared.words.BlockKind.TheVariants.{Snapshot}
use Rattle.log_image.specs.Image.{Shape, words_in, block_words}
use Rattle.log_image.specs.Blocks.{kind_of, is_snapshot, base_of, file_size, entry_count}
use Rattle.log_image.specs.Chains.{snapshots_of, first_base, first_size, HaveOneBase}
use Rattle.log_image.specs.Format.{is_kind_word, is_snapshot_block}
use Rattle.log_image.specs.Maps.{map_of, size_after}
use Rattle.log_image.specs.Entries.{Meaning}
use Rattle.log_image.proofs.ImageLemmas.{in_block}
use Rattle.log_image.proofs.ListLemmas.{all_front}
use Rattle.log_core.specs.Entries.{LogEntry, meanings}
use Rattle.log_core.specs.Origin.{Origin, shape, LogBlock, first_recorded, first_logs, first_snapshot, start_generation}
use Rattle.log_core.specs.Files.{entries, history_map_at}
use Rattle.log_core.specs.Cores.{nth_log}
use Rattle.log_core.specs.Snapshots.{AreSnapshotBlocks}
use Rattle.log_core.specs.After.{snapshot_meanings}
use Rattle.log_core.specs.Contents.{SnapshotHolds}
use Rattle.log_core.proofs.starts.StartFacts.{Facts}
use Rattle.log_core.proofs.starts.StartWords.{snapshot_back, counts_back}
use Rattle.log_core.proofs.starts.StartChain.{LinkTo}
use Rattle.log_core.proofs.starts.StartLogs.{blocks, chained, nth}

-- the blocks before the first log block are snapshot blocks
all_snapshots : (words : List ℕ) (sh : Shape) (chain : List ℕ) → list_all (λ (block : ℕ). is_snapshot (block_words words sh block)) (snapshots_of words sh chain) ≡ true
all_snapshots words sh [] = refl
all_snapshots words sh (block ∷ chain) = go (is_snapshot (block_words words sh block)) refl (all_snapshots words sh chain)
  where
    go : (snapshot : Bool) → is_snapshot (block_words words sh block) ≡ snapshot → list_all (λ (b : ℕ). is_snapshot (block_words words sh b)) (snapshots_of words sh chain) ≡ true →
        list_all (λ (b : ℕ). is_snapshot (block_words words sh b)) (snapshots_of words sh (block ∷ chain)) ≡ true
    go true is rest = rw (is, is) rest
    go false is rest = rw is refl

-- blocks of this kind, form, base and size are those of a snapshot
are_snapshots : (words : List ℕ) (sh : Shape) (base size following : ℕ) → ((place : ℕ) → get_or words place 0 < 2 ^ 64) → 8 ≤ words_in sh → (numbers : List ℕ) →
    LinkTo words sh numbers following → HaveOneBase words sh base size numbers →
    list_all (λ (block : ℕ). is_snapshot (block_words words sh block)) numbers ≡ true →
    list_all (λ (block : ℕ). is_kind_word (block_words words sh block)) numbers ≡ true →
    list_all (λ (block : ℕ). is_snapshot_block sh (block_words words sh block)) numbers ≡ true →
    AreSnapshotBlocks sh (λ (block : ℕ). block_words words sh block) base size numbers following
are_snapshots words sh base size following small wide [] links bases snapshots kinds forms = tt
are_snapshots words sh base size following small wide (block ∷ numbers) links bases snapshots kinds forms =
    let kind : (is_snapshot (block_words words sh block) ≡ true) × (list_all (λ (b : ℕ). is_snapshot (block_words words sh b)) numbers ≡ true) =
    and_parts (is_snapshot (block_words words sh block)) (list_all (λ (b : ℕ). is_snapshot (block_words words sh b)) numbers) snapshots in
    let named : (is_kind_word (block_words words sh block) ≡ true) × (list_all (λ (b : ℕ). is_kind_word (block_words words sh b)) numbers ≡ true) =
    and_parts (is_kind_word (block_words words sh block)) (list_all (λ (b : ℕ). is_kind_word (block_words words sh b)) numbers) kinds in
    let form : (is_snapshot_block sh (block_words words sh block) ≡ true) × (list_all (λ (b : ℕ). is_snapshot_block sh (block_words words sh b)) numbers ≡ true) =
    and_parts (is_snapshot_block sh (block_words words sh block)) (list_all (λ (b : ℕ). is_snapshot_block sh (block_words words sh b)) numbers) forms in
    (links.0, second kind.0 named.0 bases.0.0, third bases.0.1, form.0, are_snapshots words sh base size following small wide numbers links.1 bases.1 kind.1 named.1 form.1)
  where
    below : (index : ℕ) → index < 8 → get_or (block_words words sh block) index 0 < 2 ^ 64
    below index inside = subst (λ (word : ℕ). word < 2 ^ 64) (sym (in_block words sh block index (omega (arith, inside, wide)))) (small (block * words_in sh + index))

    second : is_snapshot (block_words words sh block) ≡ true → is_kind_word (block_words words sh block) ≡ true → base_of (block_words words sh block) ≡ base →
        get_or (block_words words sh block) 1 0 ≡ block_word (record { kind = Snapshot; base = base })
    second kind unnamed is =
        snapshot_back (get_or (block_words words sh block) 1 0) (below 1 (omega arith)) (eqb-true (field BLOCK_UNNAMED (get_or (block_words words sh block) 1 0)) 0 unnamed)
        (eqb-true (kind_of (block_words words sh block)) 2 kind)
        ∙ ap (λ (b : ℕ). block_word (record { kind = Snapshot; base = b })) is

    third : file_size (block_words words sh block) ≡ size → get_or (block_words words sh block) 2 0 ≡ snapshot_word (record { count = entry_count (block_words words sh block); size = size })
    third is =
        counts_back (get_or (block_words words sh block) 2 0) (below 2 (omega arith))
        ∙ ap (λ (n : ℕ). snapshot_word (record { count = entry_count (block_words words sh block); size = n })) is

module _ (o : Origin) (s : Facts o) where
  -- the entries from the snapshot's position up to it
  none_yet : (es : List LogEntry) → take ((start_generation o).base - (start_generation o).base) es ≡ []
  none_yet es = (let none : (start_generation o).base - (start_generation o).base ≡ 0 = omega arith in rw none refl)

  map_is : (virt : ℕ) → history_map_at o (entries o []) (start_generation o).base virt ≡ map_of (first_snapshot o) virt
  map_is virt = ap (λ (es : List LogEntry). map_of (first_snapshot o ++ meanings es) virt) (none_yet (entries o [])) ∙ ap (λ (l : List Meaning). map_of l virt) (append-nil (first_snapshot o))

  following_is : (nth_log (first_logs o) 0).block ≡ get_or (blocks o s) 0 0
  following_is = ap (λ (l : LogBlock). l.block) (nth o s 0 (chained o s).some)

  words_are : AreSnapshotBlocks (shape o) (first_recorded o) (start_generation o).base (start_generation o).size (start_generation o).snapshots (nth_log (first_logs o) 0).block
  words_are =
      are_snapshots o.words (shape o) (start_generation o).base (start_generation o).size (nth_log (first_logs o) 0).block s.small s.wide (start_generation o).snapshots
      (subst (λ (b : ℕ). LinkTo o.words (shape o) (start_generation o).snapshots b) (sym following_is) (chained o s).links)
      s.stands.is_chain.snapshots
      (all_snapshots o.words (shape o) o.chain)
      (all_front (λ (b : ℕ). is_kind_word (first_recorded o b)) (start_generation o).snapshots (blocks o s)
      (subst (λ (l : List ℕ). list_all (λ (b : ℕ). is_kind_word (first_recorded o b)) l ≡ true) (sym (chained o s).whole) s.stands.format.kinds))
      s.stands.format.snapshots

  pub start_snapshot : SnapshotHolds o [] (first_recorded o) (first_logs o) (start_generation o)
  start_snapshot = record {
    whole = λ some. record { some = some; words = words_are; map_is = λ virt. sym (map_is virt) };
    empty = λ none. (let nil : (start_generation o).snapshots ≡ [] = nil_from_length (start_generation o).snapshots none in
        (ap (λ (l : List ℕ). first_base o.words (shape o) l) nil, ap (λ (l : List ℕ). first_size o.words (shape o) l) nil, λ virt. map_is virt ∙ ap (λ (l : List ℕ). map_of (snapshot_meanings (first_recorded o) l) virt) nil));
    size_is = sym (ap (λ (es : List LogEntry). size_after (shape o) (start_generation o).size (meanings es)) (none_yet (entries o [])));
    shared_is = refl;
  }
