use Rattle.std.proofs.Common.{◌≡◌, ◌+◌, ◌++◌, drop}
use Rattle.image_tools.specs.DumpText.{direct_text, slot_lines}
use Rattle.image_tools.proofs.lines.push_kept.Given as goal

abbrev pub invariant-loop-index : goal.invariant-loop-index
invariant-loop-index l = l.out.items ++ slot_lines direct_text (3 + l.index) (drop l.index l.kept) ≡ l.fn.out.items ++ slot_lines direct_text 3 l.kept
