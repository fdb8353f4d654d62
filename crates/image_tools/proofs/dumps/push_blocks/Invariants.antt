use Rattle.std.proofs.Common.{◌≡◌, ◌++◌, drop}
use Rattle.std.specs.List.{flat_map}
use Rattle.log_image.specs.Image.{shape_by}
use Rattle.image_tools.specs.DumpText.{block_text}
use Rattle.image_tools.proofs.dumps.push_blocks.Given as goal

abbrev pub invariant-loop-number : goal.invariant-loop-number
invariant-loop-number l =
    l.out.items ++ flat_map (block_text l.words (shape_by l.geometry)) (drop l.number-index l.chain) ≡ l.fn.out.items ++ flat_map (block_text l.words (shape_by l.geometry)) l.chain
