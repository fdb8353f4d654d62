-- The words of an accepted image stand for a file.
use Rattle.std.proofs.Common.{◌≡◌, ◌*◌, ◌<◌, ◌^◌, ℕ, true, List, length, refl, sym, subst}
use Rattle.log_image.specs.Header.{shape_of, head_block}
use Rattle.log_image.specs.Entries.{Meaning, all_names}
use Rattle.log_image.specs.Chains.{all_different}
use Rattle.log_image.specs.Positions.{entries_of, position_of, size_at_end}
use Rattle.log_image.specs.Stands.{StandsBy}
use Rattle.opening_rules.specs.BlockChecks.{start}
use Rattle.opening_rules.specs.Walks.{end_place}
use Rattle.opening_rules.specs.Slack.{HasNoSlack}
use Rattle.opening_rules.specs.Opening.{Accepts, chain_of}
use Rattle.opening_rules.specs.Laws.{AcceptedStands}
use Rattle.opening_rules.proofs.ChainFacts.{ChainIs, chain_is}
use Rattle.opening_rules.proofs.HeaderFacts.{clean_header, has_header, head_inside}
use Rattle.opening_rules.proofs.Fresh.{leads, chain_different, chain_inside}
use Rattle.opening_rules.proofs.FileHeld.{held, length_held, holds}

-- what the walk of an accepted image comes to
pub accepted_chain : (bytes : ℕ) (words rest : List ℕ) → Accepts bytes words rest → ChainIs words (shape_of words) (head_block words) rest
accepted_chain bytes words rest accepts = chain_is words (shape_of words) (head_block words) rest accepts.passes

-- the bytes of the file
pub file_of : (words rest : List ℕ) → List ℕ
file_of words rest = held words (shape_of words) (entries_of words (shape_of words) (chain_of words rest)) (size_at_end words (shape_of words) (chain_of words rest))

no_slack : (words rest : List ℕ) (entries : List Meaning) (size : ℕ) → HasNoSlack words (shape_of words) entries size → entries ≡ entries_of words (shape_of words) (chain_of words rest) → size ≡ size_at_end words (shape_of words) (chain_of words rest) →
    HasNoSlack words (shape_of words) (entries_of words (shape_of words) (chain_of words rest)) (size_at_end words (shape_of words) (chain_of words rest))
no_slack words rest entries size none same_entries same_size = rw (← same_entries, ← same_size) none

pub stands_by : (words rest : List ℕ) → Accepts (8 * length words) words rest → StandsBy words (chain_of words rest) (file_of words rest) (position_of words (shape_of words) (chain_of words rest))
unfolding file_of
stands_by words rest accepts =
    let chain : ChainIs words (shape_of words) (head_block words) rest = accepted_chain (8 * length words) words rest accepts in
    let header = clean_header (8 * length words) words accepts.header in
    record {
      header = has_header (8 * length words) words header refl;
      stands = record {
        is_chain = record {
          linked = (refl, leads words (shape_of words) start (head_block words) rest accepts.passes);
          different = chain_different words (shape_of words) (head_block words) rest accepts.passes;
          snapshots = chain.one_base;
          logs = chain.bases;
        };
        format = record {
          areas = chain_inside words (shape_of words) (head_block words) rest accepts.passes (head_inside (8 * length words) words header);
          kinds = chain.kinds;
          snapshots = chain.snapshots;
          logs = chain.logs;
          named_once = subst (λ (l : List Meaning). all_different (all_names l) ≡ true) chain.entries chain.once;
          below_limit = subst (λ (n : ℕ). n < 2 ^ 40) chain.position chain.below;
        };
        ends_at = refl;
        ends_with = sym (length_held words (shape_of words) (entries_of words (shape_of words) (chain_of words rest)) (size_at_end words (shape_of words) (chain_of words rest)));
        holds = holds words (shape_of words) (entries_of words (shape_of words) (chain_of words rest)) (size_at_end words (shape_of words) (chain_of words rest))
            (no_slack words rest (end_place words (shape_of words) rest).entries (end_place words (shape_of words) rest).size accepts.slack chain.entries chain.size);
      };
    }

pub accepted_stands : AcceptedStands
accepted_stands words rest accepts = (file_of words rest, position_of words (shape_of words) (chain_of words rest), stands_by words rest accepts)
