-- What the blocks of the start's generation hold.
use Rattle.std.proofs.Common.{◌≡◌, ℕ, zero, suc, ◌-◌, ◌<◌, ◌&&◌, ◌||◌, Bool, true, false, List, [], ◌∷◌, ◌++◌, length, get_or, refl, sym, ap, ◌∙◌, subst, arith, inl, if◌then◌else◌, append-nil}
use Rattle.std.proofs.lemmas.List.{get_or-map, length-map}
use Rattle.log_entry.specs.Fields.{field}
use Rattle.log_entry.specs.Shape.{longest_of}
use Rattle.log_entry.specs.declared.layouts.TheConstants.{INDIRECT_BLOCK}
use Rattle.log_image.specs.Image.{Shape, words_in, block_words, is_in_data}
use Rattle.log_image.specs.Entries.{meaning}
use Rattle.log_image.specs.Chains.{logs_of, is_listed}
use Rattle.log_image.specs.Format.{is_log_entry, is_direct, is_indirect, is_indirect_block, fits}
use Rattle.log_image.specs.Positions.{log_words}
use Rattle.log_image.proofs.NameLemmas.{all_good}
use Rattle.persistence.specs.Memory.{cell}
use Rattle.log_core.specs.Entries.{place_in, LogEntry, no_entry, entry_by}
use Rattle.log_core.specs.Views.{View}
use Rattle.log_core.specs.Origin.{Origin, shape, first_recorded, first_logs, first_memory, first_owner, first_entries, start_base, start_generation}
use Rattle.log_core.specs.Files.{entries}
use Rattle.log_core.specs.Cores.{data_names, is_named, IsKept}
use Rattle.log_core.specs.May.{is_log_entry_by}
use Rattle.log_core.specs.Contents.{AreRecorded, EntriesSay, GenerationHolds}
use Rattle.log_core.specs.Invariant.{Contents}
use Rattle.log_core.proofs.starts.StartFacts.{Facts, block_long}
use Rattle.log_core.proofs.starts.StartChain.{test_at}
use Rattle.log_core.proofs.starts.StartLogs.{certain_at, word_of}
use Rattle.log_core.proofs.starts.StartOwners.{named_is, named_inside, start_owns}
use Rattle.log_core.proofs.starts.StartSnapshots.{start_snapshot}
use Rattle.log_core.proofs.starts.StartFiles.{start_file}

-- the two tests of an entry's word are one
same_test : (direct indirect area runs form : Bool) → ((direct || (indirect && (area && runs))) && form) ≡ true → ((if direct then true else (indirect && area && runs)) && form) ≡ true
same_test true indirect area runs form good = good
same_test false true area runs form good = good
same_test false false area runs form good = good

by_content : (words : List ℕ) (sh : Shape) (word : ℕ) → is_log_entry words sh word ≡ true → is_log_entry_by (λ (block : ℕ). block_words words sh block) sh word ≡ true
by_content words sh word good =
    same_test (is_direct word) (is_indirect word) (is_in_data sh (field INDIRECT_BLOCK word)) (is_indirect_block sh (block_words words sh (field INDIRECT_BLOCK word))) (fits sh (longest_of sh.block_bytes) (meaning words sh word)) good

module _ (o : Origin) (s : Facts o) where
  entry_is : (k : ℕ) → k < length (first_entries o) → get_or (first_entries o) k no_entry ≡ entry_by (first_recorded o) (get_or (log_words o.words (shape o) o.chain) k 0)
  entry_is k inside = get_or-map (λ (word : ℕ). entry_by (first_recorded o) word) (log_words o.words (shape o) o.chain) k 0 no_entry (omega (arith, inside, length-map (log_words o.words (shape o) o.chain) (λ (word : ℕ). entry_by (first_recorded o) word)))

  pub says : (from : ℕ) → EntriesSay (shape o) (first_recorded o) from (first_entries o)
  says from = record {
    same = λ k later inside. subst (λ (e : LogEntry). e ≡ entry_by (first_recorded o) e.word) (sym (entry_is k inside)) refl;
    form = λ k later inside.
        subst (λ (e : LogEntry). is_log_entry_by (first_recorded o) (shape o) e.word ≡ true) (sym (entry_is k inside))
        (by_content o.words (shape o) (get_or (log_words o.words (shape o) o.chain) k 0)
        (test_at (is_log_entry o.words (shape o)) (log_words o.words (shape o) o.chain) k (all_good o.words (shape o) (logs_of o.words (shape o) o.chain) s.stands.format.logs)
        (omega (arith, inside, length-map (log_words o.words (shape o) o.chain) (λ (word : ℕ). entry_by (first_recorded o) word)))));
  }

  long_block : (block : ℕ) → is_named o (first_logs o) (entries o []) (start_generation o) block ≡ true → length (first_recorded o block) ≡ words_in (shape o)
  long_block block inside = block_long o s block (named_inside o s block (sym (ap (λ (l : List ℕ). is_listed l block) (named_is o s)) ∙ inside)).1

  recorded_words : (names : List ℕ) → AreRecorded (shape o) (λ word. cell (first_memory o) word) (first_recorded o) names
  recorded_words names block k inside before = certain_at o (place_in (shape o) block k) (get_or (first_recorded o block) k 0) (word_of o s block k before)

  generation_holds : GenerationHolds o (λ word. cell (first_memory o) word) [] (first_recorded o) (first_owner o) (first_logs o) (start_generation o)
  generation_holds = record {
    taken = λ block inside. inl ((start_owns o s).all block inside);
    whole = long_block;
    words = recorded_words ((start_generation o).snapshots ++ data_names o (entries o []) (start_generation o));
    entries_say = subst (λ (es : List LogEntry). EntriesSay (shape o) (first_recorded o) ((start_generation o).base - start_base o) es) (sym (append-nil (first_entries o))) (says ((start_generation o).base - start_base o));
    snapshot = start_snapshot o s;
    files = λ position from to. start_file o s position;
  }

  pub start_contents : (floor : ℕ) (views : List View) →
      Contents o (first_memory o) [] (first_recorded o) (first_owner o) (start_generation o ∷ []) (first_logs o) (λ place. IsKept o (start_generation o ∷ []) floor views place)
  start_contents floor views zero kept = generation_holds
  start_contents floor views (suc place) kept = absurd (omega (arith, kept.inside))
