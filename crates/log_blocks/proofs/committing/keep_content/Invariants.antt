use Rattle.std.proofs.Common.{◌≡◌, ◌++◌, take}
use Rattle.log_core.specs.Steps.{content_of}
use Rattle.log_blocks.specs.Committing.{rows}
use Rattle.log_blocks.proofs.committing.keep_content.Given as goal

abbrev pub invariant-loop-word : goal.invariant-loop-word
invariant-loop-word l = record {
  seat : l.seat ≡ record l.fn.seat { walk = record l.fn.seat.walk { kept = l.fn.seat.walk.kept ++ rows l.block 0 (take l.word (content_of l.fn.seat l.block)) } };
}
