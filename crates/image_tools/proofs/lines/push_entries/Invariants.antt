use Rattle.std.proofs.Common.{◌≡◌, ◌+◌, ◌++◌, drop}
use Rattle.log_image.specs.Image.{shape_by}
use Rattle.image_tools.specs.DumpText.{entry_text, slot_lines}
use Rattle.image_tools.proofs.lines.push_entries.Given as goal

abbrev pub invariant-loop-index : goal.invariant-loop-index
invariant-loop-index l =
    l.out.items ++ slot_lines (entry_text l.words (shape_by l.geometry)) (3 + l.index) (drop l.index l.entries) ≡ l.fn.out.items ++ slot_lines (entry_text l.words (shape_by l.geometry)) 3 l.entries
