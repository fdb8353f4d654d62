-- What the blocks are that a walk passes.
use Rattle.std.proofs.Common.{◌≡◌, ◌<◌, ◌+◌, ◌^◌, ◌&&◌, ℕ, Bool, true, false, List, [], ◌∷◌, ◌++◌, length, take, map, max, refl, sym, ap, ◌∙◌, append-nil, append_assoc, length-append, arith}
use Rattle.std.specs.List.{list_all, flat_map}
use Rattle.std.proofs.lemmas.List.{map-append}
use Rattle.log_image.specs.Image.{Shape, block_words}
use Rattle.log_image.specs.Entries.{Meaning, direct_meaning, meaning, all_names}
use Rattle.log_image.specs.Maps.{entry_end, size_after}
use Rattle.log_image.specs.Blocks.{is_snapshot, base_of, entry_count, file_size, slots_of, entry_words}
use Rattle.log_image.specs.Chains.{all_different, snapshots_of, logs_of, snapshot_base, snapshot_size, HaveOneBase, AreLogsFrom}
use Rattle.log_image.specs.Positions.{snapshot_entries, log_words, log_entries, entries_of, position_of, size_at_end}
use Rattle.log_image.specs.Format.{is_log_block, is_snapshot_block, is_kind_word}
use Rattle.opening_rules.specs.BlockChecks.{Place, start, is_first, place_after}
use Rattle.opening_rules.specs.Walks.{PassesFrom, end_from}
use Rattle.opening_rules.proofs.BlockFacts.{CleanParts, clean_parts, good_word, log_block, SnapshotBlock, snapshot_block}

-- the size after entries and moved others
size_after_more : (shape : Shape) (size : ℕ) (entries others : List Meaning) → size_after shape size (entries ++ others) ≡ size_after shape (size_after shape size entries) others
size_after_more shape size [] others = refl
size_after_more shape size (entry ∷ entries) others = size_after_more shape (max size (entry_end shape entry)) entries others

-- the place after a log block, and after a snapshot block
pub record AfterLog (words : List ℕ) (shape : Shape) (place : Place) (number : ℕ) (block : List ℕ) : Type 0 where
  pub before : (place_after words shape place number block).before ≡ place.before ++ number ∷ []
  pub in_logs : (place_after words shape place number block).in_logs ≡ true
  pub position : (place_after words shape place number block).position ≡ place.position + length (entry_words (slots_of block))
  pub size : (place_after words shape place number block).size ≡ size_after shape place.size (map (meaning words shape) (entry_words (slots_of block)))
  pub entries : (place_after words shape place number block).entries ≡ place.entries ++ map (meaning words shape) (entry_words (slots_of block))

pub after_log : (words : List ℕ) (shape : Shape) (place : Place) (number : ℕ) (block : List ℕ) → is_snapshot block ≡ false → AfterLog words shape place number block
after_log words shape place number block is = record { before = refl; in_logs = rw is refl; position = rw is refl; size = rw is refl; entries = rw is refl }

pub record AfterSnapshot (words : List ℕ) (shape : Shape) (place : Place) (number : ℕ) (block : List ℕ) : Type 0 where
  pub before : is_first (place_after words shape place number block).before ≡ false
  pub position : (place_after words shape place number block).position ≡ base_of block
  pub size : (place_after words shape place number block).size ≡ file_size block
  pub entries : (place_after words shape place number block).entries ≡ place.entries ++ map direct_meaning (take (entry_count block) (slots_of block))

pub after_snapshot : (words : List ℕ) (shape : Shape) (place : Place) (number : ℕ) (block : List ℕ) → is_snapshot block ≡ true → AfterSnapshot words shape place number block
after_snapshot words shape place number block is = record { before = some_before place.before; position = rw is refl; size = rw is refl; entries = rw is refl }
  where
    some_before : (blocks : List ℕ) → is_first (blocks ++ number ∷ []) ≡ false
    some_before [] = refl
    some_before (block ∷ blocks) = refl

both : (a b : Bool) → a ≡ true → b ≡ true → (a && b) ≡ true
both a b x y = rw (x, y) refl

module _ (words : List ℕ) (shape : Shape) where
  -- the words of the entries of some log blocks
  abbrev pub words_of_logs : List ℕ → List ℕ
  words_of_logs blocks = flat_map (λ (block : ℕ). entry_words (slots_of (block_words words shape block))) blocks

  -- log blocks, the first of them this one, that the walk passes from a place
  record LogsFrom (place : Place) (block : ℕ) (rest : List ℕ) : Type 0 where
    pub no_snapshots : snapshots_of words shape (block ∷ rest) ≡ []
    pub all_logs : logs_of words shape (block ∷ rest) ≡ block ∷ rest
    pub bases : AreLogsFrom words shape place.position (block ∷ rest)
    pub kinds : list_all (λ (b : ℕ). is_kind_word (block_words words shape b)) (block ∷ rest) ≡ true
    pub logs : list_all (λ (b : ℕ). is_log_block words shape (block_words words shape b)) (block ∷ rest) ≡ true
    pub entries : (end_from words shape place block rest).entries ≡ place.entries ++ map (meaning words shape) (words_of_logs (block ∷ rest))
    pub position : (end_from words shape place block rest).position ≡ place.position + length (words_of_logs (block ∷ rest))
    pub size : (end_from words shape place block rest).size ≡ size_after shape place.size (map (meaning words shape) (words_of_logs (block ∷ rest)))
    pub below : (end_from words shape place block rest).position < 2 ^ 40
    pub once : all_different (all_names (end_from words shape place block rest).entries) ≡ true

  logs_from : (place : Place) (block : ℕ) (rest : List ℕ) → PassesFrom words shape place block rest → is_snapshot (block_words words shape block) ≡ false →
      place.position < 2 ^ 40 → all_different (all_names place.entries) ≡ true → LogsFrom place block rest
  logs_from place block [] passes is below once =
      let parts = clean_parts words shape place block (block_words words shape block) passes.0 in
      let log = log_block words shape place block (block_words words shape block) parts is below once in
      let next = after_log words shape place block (block_words words shape block) is in
      record {
        no_snapshots = rw is refl;
        all_logs = rw is refl;
        bases = (log.kind, log.base, tt);
        kinds = both _ _ (good_word words shape place block (block_words words shape block) parts) refl;
        logs = both _ _ log.good refl;
        entries = rw append-nil next.entries;
        position = rw append-nil next.position;
        size = rw append-nil next.size;
        below = rw next.position log.below;
        once = rw next.entries log.once;
      }
  logs_from place block (follower ∷ rest) passes is below once =
      let bw = block_words words shape block in
      let parts = clean_parts words shape place block (block_words words shape block) passes.0 in
      let log = log_block words shape place block (block_words words shape block) parts is below once in
      let next = after_log words shape place block (block_words words shape block) is in
      let here_below : (place_after words shape place block (block_words words shape block)).position < 2 ^ 40 = rw next.position log.below in
      let here_once : all_different (all_names (place_after words shape place block (block_words words shape block)).entries) ≡ true = rw next.entries log.once in
      let not_snapshot : is_snapshot (block_words words shape follower) ≡ false = still_log (place_after words shape place block (block_words words shape block)) follower (is_snapshot (block_words words shape follower)) refl (first_clean (place_after words shape place block (block_words words shape block)) follower rest passes.3) next.in_logs here_once in
      let onward = logs_from (place_after words shape place block (block_words words shape block)) follower rest passes.3 not_snapshot here_below here_once in
      record {
        no_snapshots = rw is refl;
        all_logs = rw is refl;
        bases = (log.kind, log.base, rw next.position at onward.bases);
        kinds = both _ _ (good_word words shape place block (block_words words shape block) parts) onward.kinds;
        logs = both _ _ log.good onward.logs;
        entries = onward.entries ∙ join_entries place.entries (entry_words (slots_of (block_words words shape block))) (words_of_logs (follower ∷ rest)) (place_after words shape place block (block_words words shape block)).entries next.entries;
        position = onward.position ∙ join_position place.position (entry_words (slots_of (block_words words shape block))) (words_of_logs (follower ∷ rest)) (place_after words shape place block (block_words words shape block)).position next.position;
        size = onward.size ∙ join_size place.size (entry_words (slots_of (block_words words shape block))) (words_of_logs (follower ∷ rest)) (place_after words shape place block (block_words words shape block)).size next.size;
        below = onward.below;
        once = onward.once;
      }
    where
      first_clean : (there : Place) (number : ℕ) (others : List ℕ) → PassesFrom words shape there number others → CleanParts words shape there number (block_words words shape number)
      first_clean there number [] walk = clean_parts words shape there number (block_words words shape number) walk.0
      first_clean there number (other ∷ others) walk = clean_parts words shape there number (block_words words shape number) walk.0

      still_log : (there : Place) (number : ℕ) (snapshot : Bool) → is_snapshot (block_words words shape number) ≡ snapshot → CleanParts words shape there number (block_words words shape number) → there.in_logs ≡ true → all_different (all_names there.entries) ≡ true → snapshot ≡ false
      still_log there number false also clean in_logs once = refl
      still_log there number true also clean in_logs once = cc (in_logs, (snapshot_block words shape there number (block_words words shape number) clean also once).before_logs)

      join_entries : (entries : List Meaning) (here there : List ℕ) (joined : List Meaning) → joined ≡ entries ++ map (meaning words shape) here → joined ++ map (meaning words shape) there ≡ entries ++ map (meaning words shape) (here ++ there)
      join_entries entries here there joined same = rw (same, map-append (meaning words shape) here there) (append_assoc entries (map (meaning words shape) here) (map (meaning words shape) there))

      join_position : (position : ℕ) (here there : List ℕ) (joined : ℕ) → joined ≡ position + length here → joined + length there ≡ position + length (here ++ there)
      join_position position here there joined same = omega (arith, same, length-append here there)

      join_size : (size : ℕ) (here there : List ℕ) (joined : ℕ) → joined ≡ size_after shape size (map (meaning words shape) here) → size_after shape joined (map (meaning words shape) there) ≡ size_after shape size (map (meaning words shape) (here ++ there))
      join_size size here there joined same = rw (same, map-append (meaning words shape) here there) (sym (size_after_more shape size (map (meaning words shape) here) (map (meaning words shape) there)))

  -- the blocks that the walk passes from a place: snapshot blocks and moved log blocks
  record ChainFrom (place : Place) (block : ℕ) (rest : List ℕ) : Type 0 where
    pub one_base : HaveOneBase words shape place.position place.size (snapshots_of words shape (block ∷ rest))
    pub bases : AreLogsFrom words shape place.position (logs_of words shape (block ∷ rest))
    pub kinds : list_all (λ (b : ℕ). is_kind_word (block_words words shape b)) (block ∷ rest) ≡ true
    pub snapshots : list_all (λ (b : ℕ). is_snapshot_block shape (block_words words shape b)) (snapshots_of words shape (block ∷ rest)) ≡ true
    pub logs : list_all (λ (b : ℕ). is_log_block words shape (block_words words shape b)) (logs_of words shape (block ∷ rest)) ≡ true
    pub entries : (end_from words shape place block rest).entries ≡ place.entries ++ entries_of words shape (block ∷ rest)
    pub position : (end_from words shape place block rest).position ≡ place.position + length (log_words words shape (block ∷ rest))
    pub size : (end_from words shape place block rest).size ≡ size_after shape place.size (log_entries words shape (block ∷ rest))
    pub below : (end_from words shape place block rest).position < 2 ^ 40
    pub once : all_different (all_names (end_from words shape place block rest).entries) ≡ true

  from_logs : (place : Place) (block : ℕ) (rest : List ℕ) → LogsFrom place block rest → ChainFrom place block rest
  from_logs place block rest logs = record {
    one_base = rw logs.no_snapshots tt;
    bases = rw logs.all_logs logs.bases;
    kinds = logs.kinds;
    snapshots = rw logs.no_snapshots refl;
    logs = rw logs.all_logs logs.logs;
    entries = logs.entries ∙ ap (λ (l : List Meaning). place.entries ++ l) (sym (no_kept (snapshots_of words shape (block ∷ rest)) (logs_of words shape (block ∷ rest)) logs.no_snapshots logs.all_logs));
    position = rw logs.all_logs logs.position;
    size = rw logs.all_logs logs.size;
    below = logs.below;
    once = logs.once;
  }
    where
      no_kept : (snapshots others : List ℕ) → snapshots ≡ [] → others ≡ block ∷ rest →
          flat_map (λ (b : ℕ). map direct_meaning (take (entry_count (block_words words shape b)) (slots_of (block_words words shape b)))) snapshots ++ map (meaning words shape) (words_of_logs others) ≡ map (meaning words shape) (words_of_logs (block ∷ rest))
      no_kept snapshots others none all = rw (none, all) refl

  -- a snapshot block before the others
  with_snapshot : (place : Place) (block next : ℕ) (rest : List ℕ) → is_snapshot (block_words words shape block) ≡ true → CleanParts words shape place block (block_words words shape block) →
      SnapshotBlock shape place (block_words words shape block) → ChainFrom (place_after words shape place block (block_words words shape block)) next rest →
      base_of (block_words words shape block) ≡ place.position → file_size (block_words words shape block) ≡ place.size → ChainFrom place block (next ∷ rest)
  with_snapshot place block next rest is parts snapshot onward base size =
      let moved = after_snapshot words shape place block (block_words words shape block) is in
      let same_position : (place_after words shape place block (block_words words shape block)).position ≡ place.position = moved.position ∙ base in
      let same_size : (place_after words shape place block (block_words words shape block)).size ≡ place.size = moved.size ∙ size in
      record {
        one_base = rw is ((base, size), rw (same_position, same_size) at onward.one_base);
        bases = rw is (rw same_position at onward.bases);
        kinds = both _ _ (good_word words shape place block (block_words words shape block) parts) onward.kinds;
        snapshots = rw is (both _ _ snapshot.good onward.snapshots);
        logs = rw is onward.logs;
        entries = onward.entries ∙ join (λ (b : ℕ). map direct_meaning (take (entry_count (block_words words shape b)) (slots_of (block_words words shape b)))) (λ (l : List ℕ). map (meaning words shape) (words_of_logs l)) place.entries
            (snapshots_of words shape (next ∷ rest)) (snapshots_of words shape (block ∷ next ∷ rest)) (logs_of words shape (next ∷ rest)) (logs_of words shape (block ∷ next ∷ rest)) (place_after words shape place block (block_words words shape block)).entries moved.entries (rw is refl) (rw is refl);
        position = rw is (onward.position ∙ ap (λ (n : ℕ). n + length (log_words words shape (next ∷ rest))) same_position);
        size = rw is (onward.size ∙ ap (λ (n : ℕ). size_after shape n (log_entries words shape (next ∷ rest))) same_size);
        below = onward.below;
        once = onward.once;
      }
    where
      join : (kept : ℕ → List Meaning) (logged : List ℕ → List Meaning) (entries : List Meaning) (snapshots all logs others : List ℕ) (joined : List Meaning) → joined ≡ entries ++ kept block → all ≡ block ∷ snapshots → others ≡ logs →
          joined ++ (flat_map kept snapshots ++ logged logs) ≡ entries ++ (flat_map kept all ++ logged others)
      join kept logged entries snapshots all logs others joined one two three = rw (one, two, three)
          (append_assoc entries (kept block) (flat_map kept snapshots ++ logged logs) ∙ ap (λ (l : List Meaning). entries ++ l) (sym (append_assoc (kept block) (flat_map kept snapshots) (logged logs))))

  chain_from : (place : Place) (block : ℕ) (rest : List ℕ) → PassesFrom words shape place block rest → is_first place.before ≡ false →
      place.position < 2 ^ 40 → all_different (all_names place.entries) ≡ true → ChainFrom place block rest
  chain_from place block [] passes later below once = at (is_snapshot (block_words words shape block)) refl
    where
      at : (snapshot : Bool) → is_snapshot (block_words words shape block) ≡ snapshot → ChainFrom place block []
      at true is = let stops : true ≡ false = rw is at passes.1 in cc
      at false is = from_logs place block [] (logs_from place block [] passes is below once)
  chain_from place block (next ∷ rest) passes later below once = at (is_snapshot (block_words words shape block)) refl
      (chain_from (place_after words shape place block (block_words words shape block)) next rest passes.3)
    where
      at : (snapshot : Bool) → is_snapshot (block_words words shape block) ≡ snapshot →
          (is_first (place_after words shape place block (block_words words shape block)).before ≡ false → (place_after words shape place block (block_words words shape block)).position < 2 ^ 40 →
          all_different (all_names (place_after words shape place block (block_words words shape block)).entries) ≡ true → ChainFrom (place_after words shape place block (block_words words shape block)) next rest) → ChainFrom place block (next ∷ rest)
      at false is onward = from_logs place block (next ∷ rest) (logs_from place block (next ∷ rest) passes is below once)
      at true is onward =
          let parts = clean_parts words shape place block (block_words words shape block) passes.0 in
          let snapshot = snapshot_block words shape place block (block_words words shape block) parts is once in
          let moved = after_snapshot words shape place block (block_words words shape block) is in
          with_snapshot place block next rest is parts snapshot (onward moved.before (rw moved.position snapshot.below) (rw moved.entries snapshot.once)) (snapshot.base later) (snapshot.size later)

  -- the chain that the walk passes from the head
  pub record ChainIs (block : ℕ) (rest : List ℕ) : Type 0 where
    pub one_base : HaveOneBase words shape (snapshot_base words shape (block ∷ rest)) (snapshot_size words shape (block ∷ rest)) (snapshots_of words shape (block ∷ rest))
    pub bases : AreLogsFrom words shape (snapshot_base words shape (block ∷ rest)) (logs_of words shape (block ∷ rest))
    pub kinds : list_all (λ (b : ℕ). is_kind_word (block_words words shape b)) (block ∷ rest) ≡ true
    pub snapshots : list_all (λ (b : ℕ). is_snapshot_block shape (block_words words shape b)) (snapshots_of words shape (block ∷ rest)) ≡ true
    pub logs : list_all (λ (b : ℕ). is_log_block words shape (block_words words shape b)) (logs_of words shape (block ∷ rest)) ≡ true
    pub entries : (end_from words shape start block rest).entries ≡ entries_of words shape (block ∷ rest)
    pub position : (end_from words shape start block rest).position ≡ position_of words shape (block ∷ rest)
    pub size : (end_from words shape start block rest).size ≡ size_at_end words shape (block ∷ rest)
    pub below : (end_from words shape start block rest).position < 2 ^ 40
    pub once : all_different (all_names (end_from words shape start block rest).entries) ≡ true

  from_start : (block : ℕ) (rest : List ℕ) → snapshots_of words shape (block ∷ rest) ≡ [] → ChainFrom start block rest → ChainIs block rest
  from_start block rest none chain = record {
    one_base = rw none tt;
    bases = rw none chain.bases;
    kinds = chain.kinds;
    snapshots = chain.snapshots;
    logs = chain.logs;
    entries = chain.entries;
    position = rw none chain.position;
    size = rw none chain.size;
    below = chain.below;
    once = chain.once;
  }

  -- a snapshot block is the first
  from_snapshot : (block next : ℕ) (rest : List ℕ) → is_snapshot (block_words words shape block) ≡ true → CleanParts words shape start block (block_words words shape block) →
      SnapshotBlock shape start (block_words words shape block) → ChainFrom (place_after words shape start block (block_words words shape block)) next rest → ChainIs block (next ∷ rest)
  from_snapshot block next rest is parts snapshot onward =
      let moved = after_snapshot words shape start block (block_words words shape block) is in
      record {
        one_base = rw is ((refl, refl), rw (moved.position, moved.size) at onward.one_base);
        bases = rw is (rw moved.position at onward.bases);
        kinds = both _ _ (good_word words shape start block (block_words words shape block) parts) onward.kinds;
        snapshots = rw is (both _ _ snapshot.good onward.snapshots);
        logs = rw is onward.logs;
        entries = rw is (onward.entries ∙ ap (λ (l : List Meaning). l ++ entries_of words shape (next ∷ rest)) moved.entries
            ∙ sym (append_assoc (map direct_meaning (take (entry_count (block_words words shape block)) (slots_of (block_words words shape block)))) (snapshot_entries words shape (next ∷ rest)) (log_entries words shape (next ∷ rest))));
        position = rw is (onward.position ∙ ap (λ (n : ℕ). n + length (log_words words shape (next ∷ rest))) moved.position);
        size = rw is (onward.size ∙ ap (λ (n : ℕ). size_after shape n (log_entries words shape (next ∷ rest))) moved.size);
        below = onward.below;
        once = onward.once;
      }

  pub chain_is : (block : ℕ) (rest : List ℕ) → PassesFrom words shape start block rest → ChainIs block rest
  chain_is block [] passes = at (is_snapshot (block_words words shape block)) refl
    where
      at : (snapshot : Bool) → is_snapshot (block_words words shape block) ≡ snapshot → ChainIs block []
      at true is = let stops : true ≡ false = rw is at passes.1 in cc
      at false is = let logs = logs_from start block [] passes is (omega arith) refl in from_start block [] logs.no_snapshots (from_logs start block [] logs)
  chain_is block (next ∷ rest) passes = at (is_snapshot (block_words words shape block)) refl
    where
      at : (snapshot : Bool) → is_snapshot (block_words words shape block) ≡ snapshot → ChainIs block (next ∷ rest)
      at false is = let logs = logs_from start block (next ∷ rest) passes is (omega arith) refl in from_start block (next ∷ rest) logs.no_snapshots (from_logs start block (next ∷ rest) logs)
      at true is =
          let parts = clean_parts words shape start block (block_words words shape block) passes.0 in
          let snapshot = snapshot_block words shape start block (block_words words shape block) parts is refl in
          let moved = after_snapshot words shape start block (block_words words shape block) is in
          from_snapshot block next rest is parts snapshot
          (chain_from (place_after words shape start block (block_words words shape block)) next rest passes.3 moved.before (rw moved.position snapshot.below) (rw moved.entries snapshot.once))
