-- The walk passes a chain of blocks that the format allows.
use Rattle.std.proofs.Common.{◌≡◌, ◌<◌, ◌+◌, ◌^◌, ◌==◌, ◌&&◌, ◌||◌, ℕ, Bool, true, false, List, [], ◌∷◌, ◌++◌, length, map, None, refl, sym, ◌∙◌, subst, append_assoc, length-append, arith}
use Rattle.std.specs.List.{list_all}
use Rattle.std.proofs.lemmas.Bool.{eq-eqb, and_parts, or_right}
use Rattle.std.proofs.lemmas.List.{map-append}
use Rattle.log_image.specs.Image.{Shape, is_in_log, block_words}
use Rattle.log_image.specs.Entries.{Meaning, direct_meaning, meaning, all_names}
use Rattle.log_image.specs.Blocks.{kind_of, is_snapshot, base_of, file_size, slots_of, kept_words, entry_words, leads_on}
use Rattle.log_image.specs.Chains.{all_different, snapshots_of, logs_of, snapshot_base, snapshot_size, HaveOneBase, AreLogsFrom, LeadsAlong}
use Rattle.log_image.specs.Positions.{snapshot_entries, log_words, log_entries, entries_of}
use Rattle.log_image.specs.Format.{is_log_block, is_snapshot_block, is_kind_word}
use Rattle.opening_rules.specs.Checks.{first}
use Rattle.opening_rules.specs.BlockChecks.{Place, start, is_first, block_checks, place_after}
use Rattle.opening_rules.specs.Walks.{PassesFrom}
use Rattle.opening_rules.proofs.ChainFacts.{words_of_logs, after_log, after_snapshot}
use Rattle.opening_rules.proofs.GoodBlocks.{no_snapshot_kind, log_block_passes, snapshot_block_passes, end_link, next_link}

module _ (words : List ℕ) (shape : Shape) where
  log_once : (entries : List Meaning) (here there : List ℕ) → all_different (all_names (entries ++ map (meaning words shape) (here ++ there))) ≡ true →
      all_different (all_names (entries ++ (map (meaning words shape) here ++ map (meaning words shape) there))) ≡ true
  log_once entries here there once = subst (λ (l : List Meaning). all_different (all_names (entries ++ l)) ≡ true) (map-append (meaning words shape) here there) once

  -- log blocks
  logs_pass : (place : Place) (block : ℕ) (rest : List ℕ) → AreLogsFrom words shape place.position (block ∷ rest) →
      list_all (λ (b : ℕ). is_kind_word (block_words words shape b)) (block ∷ rest) ≡ true → list_all (λ (b : ℕ). is_log_block words shape (block_words words shape b)) (block ∷ rest) ≡ true →
      place.position + length (words_of_logs words shape (block ∷ rest)) < 2 ^ 40 → all_different (all_names (place.entries ++ map (meaning words shape) (words_of_logs words shape (block ∷ rest)))) ≡ true →
      LeadsAlong words shape block rest → all_different (place.before ++ (block ∷ rest)) ≡ true → list_all (is_in_log shape) (block ∷ rest) ≡ true → PassesFrom words shape place block rest
  logs_pass place block [] logs kinds goods below once leads different inside =
      let bw = block_words words shape block in
      let here = entry_words (slots_of bw) in (
        log_block_passes words shape place block bw [] logs.0 (and_parts (is_kind_word bw) true kinds).0 logs.1 (and_parts (is_log_block words shape bw) true goods).0
            (omega (arith, below, length-append here [])) (log_once place.entries here [] once) (end_link shape (place.before ++ block ∷ []) bw leads),
        leads,
      )
  logs_pass place block (next ∷ rest) logs kinds goods below once leads different inside =
      let bw = block_words words shape block in
      let here = entry_words (slots_of bw) in
      let there = words_of_logs words shape (next ∷ rest) in
      let after = place_after words shape place block bw in
      let moved = after_log words shape place block bw (no_snapshot_kind (kind_of bw) logs.0) in
      let kind = and_parts (is_kind_word bw) (list_all (λ (b : ℕ). is_kind_word (block_words words shape b)) (next ∷ rest)) kinds in
      let good = and_parts (is_log_block words shape bw) (list_all (λ (b : ℕ). is_log_block words shape (block_words words shape b)) (next ∷ rest)) goods in
      let area = and_parts (is_in_log shape block) (list_all (is_in_log shape) (next ∷ rest)) inside in
      let next_area = and_parts (is_in_log shape next) (list_all (is_in_log shape) rest) area.1 in
      let once_here : all_different (all_names (place.entries ++ (map (meaning words shape) here ++ map (meaning words shape) there))) ≡ true = log_once place.entries here there once in
      let then_logs : AreLogsFrom words shape after.position (next ∷ rest) = subst (λ (n : ℕ). AreLogsFrom words shape n (next ∷ rest)) (sym moved.position) logs.2 in
      let then_below : after.position + length there < 2 ^ 40 = omega (arith, below, length-append here there, moved.position) in
      let then_once : all_different (all_names (after.entries ++ map (meaning words shape) there)) ≡ true =
      subst (λ (l : List Meaning). all_different (all_names (l ++ map (meaning words shape) there)) ≡ true) (sym moved.entries)
      (subst (λ (l : List Meaning). all_different (all_names l) ≡ true) (sym (append_assoc place.entries (map (meaning words shape) here) (map (meaning words shape) there))) once_here) in
      let then_different : all_different ((place.before ++ block ∷ []) ++ (next ∷ rest)) ≡ true = subst (λ (l : List ℕ). all_different l ≡ true) (sym (append_assoc place.before (block ∷ []) (next ∷ rest))) different in (
        log_block_passes words shape place block bw (map (meaning words shape) there) logs.0 kind.0 logs.1 good.0 (omega (arith, below, length-append here there)) once_here
            (next_link shape place.before rest block next bw leads.1 next_area.0 different),
        leads.0,
        leads.1,
        logs_pass after next rest then_logs kind.1 good.1 then_below then_once leads.2 then_different area.1,
      )

  -- the blocks of a chain from one on, after those before and their entries; its log begins after the base
  pub record GoodFrom (base size : ℕ) (entries : List Meaning) (before : List ℕ) (block : ℕ) (rest : List ℕ) : Type 0 where
    pub one_base : HaveOneBase words shape base size (snapshots_of words shape (block ∷ rest))
    pub logs : AreLogsFrom words shape base (logs_of words shape (block ∷ rest))
    pub kinds : list_all (λ (b : ℕ). is_kind_word (block_words words shape b)) (block ∷ rest) ≡ true
    pub snapshots : list_all (λ (b : ℕ). is_snapshot_block shape (block_words words shape b)) (snapshots_of words shape (block ∷ rest)) ≡ true
    pub goods : list_all (λ (b : ℕ). is_log_block words shape (block_words words shape b)) (logs_of words shape (block ∷ rest)) ≡ true
    pub below : base + length (log_words words shape (block ∷ rest)) < 2 ^ 40
    pub once : all_different (all_names (entries ++ entries_of words shape (block ∷ rest))) ≡ true
    pub leads : LeadsAlong words shape block rest
    pub different : all_different (before ++ (block ∷ rest)) ≡ true
    pub inside : list_all (is_in_log shape) (block ∷ rest) ≡ true

  -- from the first log block on
  from_logs : (place : Place) (block : ℕ) (rest : List ℕ) → is_snapshot (block_words words shape block) ≡ false → (size : ℕ) → GoodFrom place.position size place.entries place.before block rest → PassesFrom words shape place block rest
  from_logs place block rest is size chain =
      let logs : AreLogsFrom words shape place.position (block ∷ rest) = rw is at chain.logs in
      let goods : list_all (λ (b : ℕ). is_log_block words shape (block_words words shape b)) (block ∷ rest) ≡ true = rw is at chain.goods in
      let below : place.position + length (words_of_logs words shape (block ∷ rest)) < 2 ^ 40 = rw is at chain.below in
      let once : all_different (all_names (place.entries ++ map (meaning words shape) (words_of_logs words shape (block ∷ rest)))) ≡ true = rw is at chain.once in
      logs_pass place block rest logs chain.kinds goods below once chain.leads chain.different chain.inside

  -- the entries of a snapshot block are all different from those before and after
  once_at_snapshot : (entries : List Meaning) (block next : ℕ) (rest : List ℕ) → is_snapshot (block_words words shape block) ≡ true → all_different (all_names (entries ++ entries_of words shape (block ∷ next ∷ rest))) ≡ true →
      all_different (all_names (entries ++ (map direct_meaning (kept_words (block_words words shape block)) ++ entries_of words shape (next ∷ rest)))) ≡ true
  once_at_snapshot entries block next rest is once =
      let kept = map direct_meaning (kept_words (block_words words shape block)) in
      let here : all_different (all_names (entries ++ ((kept ++ snapshot_entries words shape (next ∷ rest)) ++ log_entries words shape (next ∷ rest)))) ≡ true = rw is at once in
      subst (λ (l : List Meaning). all_different (all_names (entries ++ l)) ≡ true) (append_assoc kept (snapshot_entries words shape (next ∷ rest)) (log_entries words shape (next ∷ rest))) here

  -- the base and the size of a snapshot block
  has_base : (base size block : ℕ) (rest : List ℕ) → is_snapshot (block_words words shape block) ≡ true → HaveOneBase words shape base size (snapshots_of words shape (block ∷ rest)) →
      (base_of (block_words words shape block) ≡ base) × (file_size (block_words words shape block) ≡ size)
  has_base base size block rest is one = let both : ((base_of (block_words words shape block) ≡ base) × (file_size (block_words words shape block) ≡ size)) × HaveOneBase words shape base size (snapshots_of words shape rest) = rw is at one in both.0

  -- the chain after a snapshot block
  past_snapshot : (base size : ℕ) (place : Place) (block next : ℕ) (rest : List ℕ) → is_snapshot (block_words words shape block) ≡ true → GoodFrom base size place.entries place.before block (next ∷ rest) →
      GoodFrom (place_after words shape place block (block_words words shape block)).position (place_after words shape place block (block_words words shape block)).size (place_after words shape place block (block_words words shape block)).entries (place.before ++ block ∷ []) next rest
  past_snapshot base size place block next rest is chain =
      let bw = block_words words shape block in
      let after = place_after words shape place block bw in
      let kept = map direct_meaning (kept_words bw) in
      let moved = after_snapshot words shape place block bw is in
      let both = has_base base size block (next ∷ rest) is chain.one_base in
      let position : after.position ≡ base = moved.position ∙ both.0 in
      let sized : after.size ≡ size = moved.size ∙ both.1 in
      let one : ((base_of bw ≡ base) × (file_size bw ≡ size)) × HaveOneBase words shape base size (snapshots_of words shape (next ∷ rest)) = rw is at chain.one_base in
      let logs : AreLogsFrom words shape base (logs_of words shape (next ∷ rest)) = rw is at chain.logs in
      let snapshots : (is_snapshot_block shape bw && list_all (λ (b : ℕ). is_snapshot_block shape (block_words words shape b)) (snapshots_of words shape (next ∷ rest))) ≡ true = rw is at chain.snapshots in
      let goods : list_all (λ (b : ℕ). is_log_block words shape (block_words words shape b)) (logs_of words shape (next ∷ rest)) ≡ true = rw is at chain.goods in
      let below : base + length (log_words words shape (next ∷ rest)) < 2 ^ 40 = rw is at chain.below in
      let once : all_different (all_names (place.entries ++ (kept ++ entries_of words shape (next ∷ rest)))) ≡ true = once_at_snapshot place.entries block next rest is chain.once in
      record {
        one_base = subst (λ (n : ℕ). HaveOneBase words shape n after.size (snapshots_of words shape (next ∷ rest))) (sym position)
            (subst (λ (n : ℕ). HaveOneBase words shape base n (snapshots_of words shape (next ∷ rest))) (sym sized) one.1);
        logs = subst (λ (n : ℕ). AreLogsFrom words shape n (logs_of words shape (next ∷ rest))) (sym position) logs;
        kinds = (and_parts (is_kind_word bw) (list_all (λ (b : ℕ). is_kind_word (block_words words shape b)) (next ∷ rest)) chain.kinds).1;
        snapshots = (and_parts (is_snapshot_block shape bw) (list_all (λ (b : ℕ). is_snapshot_block shape (block_words words shape b)) (snapshots_of words shape (next ∷ rest))) snapshots).1;
        goods = goods;
        below = subst (λ (n : ℕ). n + length (log_words words shape (next ∷ rest)) < 2 ^ 40) (sym position) below;
        once = subst (λ (l : List Meaning). all_different (all_names (l ++ entries_of words shape (next ∷ rest))) ≡ true) (sym moved.entries)
            (subst (λ (l : List Meaning). all_different (all_names l) ≡ true) (sym (append_assoc place.entries kept (entries_of words shape (next ∷ rest)))) once);
        leads = chain.leads.2;
        different = subst (λ (l : List ℕ). all_different l ≡ true) (sym (append_assoc place.before (block ∷ []) (next ∷ rest))) chain.different;
        inside = (and_parts (is_in_log shape block) (list_all (is_in_log shape) (next ∷ rest)) chain.inside).1;
      }

  -- a snapshot block that another follows
  snapshot_passes : (base size : ℕ) (place : Place) (block next : ℕ) (rest : List ℕ) → is_snapshot (block_words words shape block) ≡ true → GoodFrom base size place.entries place.before block (next ∷ rest) → place.in_logs ≡ false →
      (is_first place.before || base_of (block_words words shape block) == place.position) ≡ true → (is_first place.before || file_size (block_words words shape block) == place.size) ≡ true →
      first (block_checks words shape place block (block_words words shape block)) ≡ None
  snapshot_passes base size place block next rest is chain in_logs due long =
      let bw = block_words words shape block in
      let snapshots : (is_snapshot_block shape bw && list_all (λ (b : ℕ). is_snapshot_block shape (block_words words shape b)) (snapshots_of words shape (next ∷ rest))) ≡ true = rw is at chain.snapshots in
      let area = and_parts (is_in_log shape block) (list_all (is_in_log shape) (next ∷ rest)) chain.inside in
      snapshot_block_passes words shape place block bw (entries_of words shape (next ∷ rest)) is in_logs (and_parts (is_kind_word bw) (list_all (λ (b : ℕ). is_kind_word (block_words words shape b)) (next ∷ rest)) chain.kinds).0
      due long (and_parts (is_snapshot_block shape bw) (list_all (λ (b : ℕ). is_snapshot_block shape (block_words words shape b)) (snapshots_of words shape (next ∷ rest))) snapshots).0
      (once_at_snapshot place.entries block next rest is chain.once)
      (next_link shape place.before rest block next bw chain.leads.1 (and_parts (is_in_log shape next) (list_all (is_in_log shape) rest) area.1).0 chain.different)

  -- no chain ends with a snapshot block
  no_end : (block : ℕ) → is_snapshot (block_words words shape block) ≡ true → leads_on (block_words words shape block) ≡ false → ⊥
  no_end block is leads = let stops : true ≡ false = rw is at leads in cc

  -- from a place among the snapshot blocks on
  chain_passes : (place : Place) (block : ℕ) (rest : List ℕ) → place.in_logs ≡ false → GoodFrom place.position place.size place.entries place.before block rest → PassesFrom words shape place block rest
  chain_passes place block [] in_logs chain = at (is_snapshot (block_words words shape block)) refl
    where
      at : (snapshot : Bool) → is_snapshot (block_words words shape block) ≡ snapshot → PassesFrom words shape place block []
      at true is = absurd (no_end block is chain.leads)
      at false is = from_logs place block [] is place.size chain
  chain_passes place block (next ∷ rest) in_logs chain = at (is_snapshot (block_words words shape block)) refl
      (chain_passes (place_after words shape place block (block_words words shape block)) next rest)
    where
      at : (snapshot : Bool) → is_snapshot (block_words words shape block) ≡ snapshot →
          ((place_after words shape place block (block_words words shape block)).in_logs ≡ false →
          GoodFrom (place_after words shape place block (block_words words shape block)).position (place_after words shape place block (block_words words shape block)).size (place_after words shape place block (block_words words shape block)).entries (place.before ++ block ∷ []) next rest →
          PassesFrom words shape (place_after words shape place block (block_words words shape block)) next rest) → PassesFrom words shape place block (next ∷ rest)
      at false is onward = from_logs place block (next ∷ rest) is place.size chain
      at true is onward =
          let both = has_base place.position place.size block (next ∷ rest) is chain.one_base in (
            snapshot_passes place.position place.size place block next rest is chain in_logs
                (or_right (is_first place.before) (base_of (block_words words shape block) == place.position) (eq-eqb (base_of (block_words words shape block)) place.position both.0))
                (or_right (is_first place.before) (file_size (block_words words shape block) == place.size) (eq-eqb (file_size (block_words words shape block)) place.size both.1)),
            chain.leads.0,
            chain.leads.1,
            onward (rw is refl) (past_snapshot place.position place.size place block next rest is chain),
          )

  -- a whole chain: a snapshot block that is the first may have any base and any size
  pub whole_chain_passes : (block : ℕ) (rest : List ℕ) → GoodFrom (snapshot_base words shape (block ∷ rest)) (snapshot_size words shape (block ∷ rest)) [] [] block rest → PassesFrom words shape start block rest
  whole_chain_passes block [] chain = at (is_snapshot (block_words words shape block)) refl
    where
      at : (snapshot : Bool) → is_snapshot (block_words words shape block) ≡ snapshot → PassesFrom words shape start block []
      at true is = absurd (no_end block is chain.leads)
      at false is =
          let none : snapshot_base words shape (block ∷ []) ≡ 0 = rw is refl in
          from_logs start block [] is (snapshot_size words shape (block ∷ [])) (subst (λ (n : ℕ). GoodFrom n (snapshot_size words shape (block ∷ [])) [] [] block []) none chain)
  whole_chain_passes block (next ∷ rest) chain = at (is_snapshot (block_words words shape block)) refl
    where
      at : (snapshot : Bool) → is_snapshot (block_words words shape block) ≡ snapshot → PassesFrom words shape start block (next ∷ rest)
      at false is =
          let none : snapshot_base words shape (block ∷ next ∷ rest) ≡ 0 = rw is refl in
          from_logs start block (next ∷ rest) is (snapshot_size words shape (block ∷ next ∷ rest)) (subst (λ (n : ℕ). GoodFrom n (snapshot_size words shape (block ∷ next ∷ rest)) [] [] block (next ∷ rest)) none chain)
      at true is = (
        snapshot_passes (snapshot_base words shape (block ∷ next ∷ rest)) (snapshot_size words shape (block ∷ next ∷ rest)) start block next rest is chain refl refl refl,
        chain.leads.0,
        chain.leads.1,
        chain_passes (place_after words shape start block (block_words words shape block)) next rest (rw is refl)
            (past_snapshot (snapshot_base words shape (block ∷ next ∷ rest)) (snapshot_size words shape (block ∷ next ∷ rest)) start block next rest is chain),
      )
