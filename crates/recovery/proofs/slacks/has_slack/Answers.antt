-- The bytes that the look passes over are those before the end of the file.
use Rattle.log_image.specs.Image.{shape_by}
use Rattle.recovery.proofs.SlackLemmas.{slack_yes, slack_no}
use Rattle.recovery.proofs.slacks.has_slack.Goals as goal

pub returns-clause-yes : goal.returns-clause-yes
returns-clause-yes c = λ entries mapped some.
    slack_yes c.args.words.now (shape_by c.args.geometry) entries c.args.size c.args.virt c.args.block c.saturating_sub.result c.has_byte_from.result c.block_at.result.now
    mapped (rw c.from-3.ensures at c.block_at.ensures.value) c.block_at.ensures.whole c.args.geometry.block_allowed (rw (c.from.ensures, c.from-2.ensures, c.block_bytes.ensures.value) at c.saturating_sub.ensures) c.has_byte_from.ensures some

pub returns-clause-no : goal.returns-clause-no
returns-clause-no c = λ entries other mapped none.
    slack_no c.args.words.now (shape_by c.args.geometry) entries c.args.size c.args.virt c.args.block other c.saturating_sub.result c.has_byte_from.result c.block_at.result.now
    mapped (rw c.from-3.ensures at c.block_at.ensures.value) (rw (c.from.ensures, c.from-2.ensures, c.block_bytes.ensures.value) at c.saturating_sub.ensures) c.has_byte_from.ensures none
