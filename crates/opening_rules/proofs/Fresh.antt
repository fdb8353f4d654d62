-- The blocks that a walk passes are different, and lead one to the next.
use Rattle.std.proofs.Common.{◌≡◌, ◌&&◌, not, ℕ, Bool, true, false, List, [], ◌∷◌, ◌++◌, refl, subst}
use Rattle.std.specs.List.{list_all}
use Rattle.log_image.specs.Image.{Shape, is_in_log, block_words}
use Rattle.log_image.specs.Chains.{all_different, LeadsAlong}
use Rattle.opening_rules.specs.SlotChecks.{is_named_in}
use Rattle.opening_rules.specs.BlockChecks.{Place, start, place_after}
use Rattle.opening_rules.specs.Walks.{PassesFrom}
use Rattle.opening_rules.proofs.BlockFacts.{clean_parts, good_link}
use Rattle.opening_rules.proofs.Naming.{none_among, none_among_fewer, last_not_among}

both : (a b : Bool) → a ≡ true → b ≡ true → (a && b) ≡ true
both a b x y = rw (x, y) refl

both_not : (a b : Bool) → a ≡ false → b ≡ true → (not a && b) ≡ true
both_not a b x y = rw (x, y) refl

module _ (words : List ℕ) (shape : Shape) where
  pub leads : (place : Place) (block : ℕ) (rest : List ℕ) → PassesFrom words shape place block rest → LeadsAlong words shape block rest
  leads place block [] passes = passes.1
  leads place block (next ∷ rest) passes = (passes.1, passes.2, leads (place_after words shape place block (block_words words shape block)) next rest passes.3)

  -- the blocks after one are new, different, and of the log or spare area
  pub record FreshFrom (passed rest : List ℕ) : Type 0 where
    pub none : none_among rest passed ≡ true
    pub different : all_different rest ≡ true
    pub inside : list_all (is_in_log shape) rest ≡ true

  pub fresh_from : (place : Place) (block : ℕ) (rest : List ℕ) → PassesFrom words shape place block rest → FreshFrom (place.before ++ block ∷ []) rest
  fresh_from place block [] passes = record { none = refl; different = refl; inside = refl }
  fresh_from place block (next ∷ rest) passes =
      let link = good_link words shape place block (block_words words shape block) (clean_parts words shape place block (block_words words shape block) passes.0) passes.1 in
      let area : is_in_log shape next ≡ true = subst (λ (b : ℕ). is_in_log shape b ≡ true) passes.2 link.0 in
      let new : is_named_in next (place.before ++ block ∷ []) ≡ false = subst (λ (b : ℕ). is_named_in b (place.before ++ block ∷ []) ≡ false) passes.2 link.1 in
      let onward : FreshFrom ((place.before ++ block ∷ []) ++ next ∷ []) rest = fresh_from (place_after words shape place block (block_words words shape block)) next rest passes.3 in
      record {
        none = both_not (is_named_in next (place.before ++ block ∷ [])) (none_among rest (place.before ++ block ∷ [])) new (none_among_fewer rest (place.before ++ block ∷ []) next onward.none);
        different = both_not (is_named_in next rest) (all_different rest) (last_not_among rest (place.before ++ block ∷ []) next onward.none) onward.different;
        inside = both (is_in_log shape next) (list_all (is_in_log shape) rest) area onward.inside;
      }

  pub chain_different : (block : ℕ) (rest : List ℕ) → PassesFrom words shape start block rest → all_different (block ∷ rest) ≡ true
  chain_different block rest passes =
      let fresh = fresh_from start block rest passes in
      both_not (is_named_in block rest) (all_different rest) (last_not_among rest [] block fresh.none) fresh.different

  pub chain_inside : (block : ℕ) (rest : List ℕ) → PassesFrom words shape start block rest → is_in_log shape block ≡ true → list_all (is_in_log shape) (block ∷ rest) ≡ true
  chain_inside block rest passes inside = both (is_in_log shape block) (list_all (is_in_log shape) rest) inside (fresh_from start block rest passes).inside
