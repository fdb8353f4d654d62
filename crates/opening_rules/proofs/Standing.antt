-- Words that stand for a file are accepted.
use Rattle.std.proofs.Common.{◌≡◌, ◌+◌, ◌*◌, ℕ, true, List, [], ◌∷◌, length, sym, ap, ◌∙◌, subst}
use Rattle.std.specs.List.{list_all}
use Rattle.std.proofs.lemmas.Bool.{and_parts}
use Rattle.std.proofs.lemmas.List.{get_or_past}
use Rattle.log_image.specs.Image.{Shape, is_in_log}
use Rattle.log_image.specs.Header.{shape_of, head_block}
use Rattle.log_image.specs.Entries.{Meaning}
use Rattle.log_image.specs.Positions.{entries_of}
use Rattle.log_image.specs.Stands.{HoldsFile, StandsBy}
use Rattle.opening_rules.specs.BlockChecks.{start}
use Rattle.opening_rules.specs.Walks.{PassesFrom, end_from}
use Rattle.opening_rules.specs.Slack.{HasNoSlack}
use Rattle.opening_rules.specs.Laws.{StandingIsAccepted}
use Rattle.opening_rules.proofs.ChainFacts.{ChainIs, chain_is}
use Rattle.opening_rules.proofs.GoodChains.{whole_chain_passes}
use Rattle.opening_rules.proofs.GoodHeaders.{header_passes}

-- mapped blocks that hold a file are 0 past its end
no_slack : (words : List ℕ) (shape : Shape) (entries : List Meaning) (file : List ℕ) → HoldsFile words shape entries file → HasNoSlack words shape entries (length file)
no_slack words shape entries file holds virt block slack =
    slack.nonzero (holds.mapped virt block slack.mapped slack.at slack.inside ∙ get_or_past file (virt * shape.block_bytes + slack.at) 0 slack.past_end)

pub standing_is_accepted : StandingIsAccepted
standing_is_accepted words [] file position stands = absurd stands.stands.is_chain.linked
standing_is_accepted words (block ∷ rest) file position stands =
    let shape = shape_of words in
    let chain = stands.stands.is_chain in
    let format = stands.stands.format in
    let head : head_block words ≡ block = chain.linked.0 in
    let inside : is_in_log shape block ≡ true = (and_parts (is_in_log shape block) (list_all (is_in_log shape) rest) format.areas).0 in
    let passes : PassesFrom words shape start block rest = whole_chain_passes words shape block rest (record {
      one_base = chain.snapshots;
      logs = chain.logs;
      kinds = format.kinds;
      snapshots = format.snapshots;
      goods = format.logs;
      below = format.below_limit;
      once = format.named_once;
      leads = chain.linked.1;
      different = chain.different;
      inside = format.areas;
    }) in
    let walk : ChainIs words shape block rest = chain_is words shape block rest passes in
    let slack : HasNoSlack words shape (end_from words shape start block rest).entries (end_from words shape start block rest).size =
    subst (λ (n : ℕ). HasNoSlack words shape (end_from words shape start block rest).entries n) (sym (walk.size ∙ stands.stands.ends_with))
    (subst (λ (l : List Meaning). HasNoSlack words shape l (length file)) (sym walk.entries) (no_slack words shape (entries_of words shape (block ∷ rest)) file stands.stands.holds)) in (
      rest,
      record {
        header = header_passes words stands.header (subst (λ (b : ℕ). is_in_log shape b ≡ true) (sym head) inside);
        passes = subst (λ (b : ℕ). PassesFrom words shape start b rest) (sym head) passes;
        slack = subst (λ (b : ℕ). HasNoSlack words shape (end_from words shape start b rest).entries (end_from words shape start b rest).size) (sym head) slack;
      },
      ap (λ (b : ℕ). b ∷ rest) head,
      subst (λ (b : ℕ). StandsBy words (b ∷ rest) file position) (sym head) stands,
    )
