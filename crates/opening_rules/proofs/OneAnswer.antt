-- An image has one answer.
use Rattle.std.proofs.Common.{◌≡◌, ◌<◌, ◌≤◌, ℕ, List, [], ◌∷◌, ◌⊎◌, inl, inr, refl, sym, ap, ◌∙◌, subst, arith}
use Rattle.std.proofs.lemmas.Bool.{cases_lt}
use Rattle.log_image.specs.Image.{Shape, block_words}
use Rattle.log_image.specs.Header.{shape_of, head_block}
use Rattle.log_image.specs.Entries.{Meaning}
use Rattle.opening_rules.specs.BlockChecks.{Place, start, place_after}
use Rattle.opening_rules.specs.Walks.{PassesFrom, RefusesFrom, end_place}
use Rattle.opening_rules.specs.Slack.{HasSlack, FirstSlack}
use Rattle.opening_rules.specs.Opening.{SlackRefuses, ByHeader, ByWalk, BySlack}
use Rattle.opening_rules.specs.Laws.{HasOneRefusal, IsNotBoth}
use Rattle.opening_rules.specs.declared.refusals.BadImage.{BadImage}
use Rattle.opening_rules.specs.declared.refusals.BadImage.TheVariants.{BadSlack}

module _ (words : List ℕ) (shape : Shape) where
  one_refusal_from : (place : Place) (block : ℕ) (rest also : List ℕ) (why other : BadImage) → RefusesFrom words shape place block rest why → RefusesFrom words shape place block also other → why ≡ other
  one_refusal_from place block [] [] why other here there = cc
  one_refusal_from place block [] (next ∷ also) why other here there = cc (here, there.0)
  one_refusal_from place block (next ∷ rest) [] why other here there = cc (here.0, there)
  one_refusal_from place block (next ∷ rest) (onward ∷ also) why other here there =
      let same : onward ≡ next = sym there.2 ∙ here.2 in
      one_refusal_from (place_after words shape place block (block_words words shape block)) next rest also why other here.3 (rw same at there.3)

  not_both_from : (place : Place) (block : ℕ) (rest also : List ℕ) (why : BadImage) → RefusesFrom words shape place block rest why → PassesFrom words shape place block also → ⊥
  not_both_from place block [] [] why here there = cc (here, there.0)
  not_both_from place block [] (next ∷ also) why here there = cc (here, there.0)
  not_both_from place block (next ∷ rest) [] why here there = cc (here.1, there.1)
  not_both_from place block (next ∷ rest) (onward ∷ also) why here there =
      let same : onward ≡ next = sym there.2 ∙ here.2 in
      not_both_from (place_after words shape place block (block_words words shape block)) next rest also why here.3 (rw same at there.3)

  one_way_from : (place : Place) (block : ℕ) (rest also : List ℕ) → PassesFrom words shape place block rest → PassesFrom words shape place block also → rest ≡ also
  one_way_from place block [] [] here there = refl
  one_way_from place block [] (next ∷ also) here there = cc (here.1, there.1)
  one_way_from place block (next ∷ rest) [] here there = cc (here.1, there.1)
  one_way_from place block (next ∷ rest) (onward ∷ also) here there =
      let same : onward ≡ next = sym there.2 ∙ here.2 in
      ap (λ (l : List ℕ). next ∷ l) (one_way_from (place_after words shape place block (block_words words shape block)) next rest also here.3 (rw same at there.3)) ∙ ap (λ (b : ℕ). b ∷ also) (sym same)

  one_slack : (entries : List Meaning) (size block other : ℕ) → FirstSlack words shape entries size block → FirstSlack words shape entries size other → block ≡ other
  one_slack entries size block other here there = by (cases_lt here.virt there.virt) (cases_lt there.virt here.virt)
    where
      at : (virt also : ℕ) → virt ≡ also → HasSlack words shape entries size virt block → HasSlack words shape entries size also other → block ≡ other
      at virt also same one two = let moved : HasSlack words shape entries size also block = subst (λ (v : ℕ). HasSlack words shape entries size v block) same one in cc (moved.mapped, two.mapped)

      by : (here.virt < there.virt) ⊎ (there.virt ≤ here.virt) → (there.virt < here.virt) ⊎ (here.virt ≤ there.virt) → block ≡ other
      by (inl less) other = absurd (there.before here.virt block less here.here)
      by (inr most) (inl less) = absurd (here.before there.virt other less there.here)
      by (inr most) (inr least) = at here.virt there.virt (omega arith) here.here there.here

  slack_same : (why other : BadImage) → SlackRefuses words shape why → SlackRefuses words shape other → why ≡ other
  slack_same why other here there =
      let same : there.rest ≡ here.rest = one_way_from start (head_block words) there.rest here.rest there.passes here.passes in
      let moved : FirstSlack words shape (end_place words shape here.rest).entries (end_place words shape here.rest).size there.block =
      subst (λ (l : List ℕ). FirstSlack words shape (end_place words shape l).entries (end_place words shape l).size there.block) same there.slack in
      here.gives ∙ ap (λ (b : ℕ). BadSlack b) (one_slack (end_place words shape here.rest).entries (end_place words shape here.rest).size here.block there.block here.slack moved) ∙ sym there.gives

pub one_refusal : HasOneRefusal
one_refusal bytes words why other (ByHeader here) (ByHeader there) = cc
one_refusal bytes words why other (ByHeader here) (ByWalk none there) = cc
one_refusal bytes words why other (ByHeader here) (BySlack none there) = cc
one_refusal bytes words why other (ByWalk none here) (ByHeader there) = cc
one_refusal bytes words why other (ByWalk none here) (ByWalk also there) = one_refusal_from words (shape_of words) start (head_block words) here.rest there.rest why other here.refuses there.refuses
one_refusal bytes words why other (ByWalk none here) (BySlack also there) = absurd (not_both_from words (shape_of words) start (head_block words) here.rest there.rest why here.refuses there.passes)
one_refusal bytes words why other (BySlack none here) (ByHeader there) = cc
one_refusal bytes words why other (BySlack none here) (ByWalk also there) = absurd (not_both_from words (shape_of words) start (head_block words) there.rest here.rest other there.refuses here.passes)
one_refusal bytes words why other (BySlack none here) (BySlack also there) = slack_same words (shape_of words) why other here there

pub not_both : IsNotBoth
not_both bytes words rest why (ByHeader here) accepts = cc (here, accepts.header)
not_both bytes words rest why (ByWalk none here) accepts = not_both_from words (shape_of words) start (head_block words) here.rest rest why here.refuses accepts.passes
not_both bytes words rest why (BySlack none here) accepts =
    let same : here.rest ≡ rest = one_way_from words (shape_of words) start (head_block words) here.rest rest here.passes accepts.passes in
    let slack : FirstSlack words (shape_of words) (end_place words (shape_of words) rest).entries (end_place words (shape_of words) rest).size here.block =
    subst (λ (l : List ℕ). FirstSlack words (shape_of words) (end_place words (shape_of words) l).entries (end_place words (shape_of words) l).size here.block) same here.slack in
    accepts.slack slack.virt here.block slack.here
