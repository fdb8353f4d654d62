use Rattle.std.proofs.Common.{reverse}
use Rattle.std.proofs.lemmas.List.{reverse-reverse}
use Rattle.block_table.proofs.LastApply.{held_since, latest_block-since}
use Rattle.block_table.proofs.laws.law_last_apply.Goals as goal

pub returns : goal.returns
returns c = λ calls v block. (
  λ holds. rw reverse-reverse at (held_since (reverse calls) v block holds),
  latest_block-since calls v block,
)
