use Rattle.std.proofs.Common.{◌≤◌, ℕ, List, length, sym, subst, arith}
use Rattle.std.proofs.lemmas.List.{length-drop}
use Rattle.log_image.specs.Blocks.{slots_of}
use Rattle.chain_reader.proofs.WalkLemmas.{block_range}
use Rattle.image_tools.proofs.DumpLemmas.{few_entries}
use Rattle.image_tools.proofs.lines.push_log.Goals as goal

pub push_entries-requires-clause-few : goal.push_entries-requires-clause-few
push_entries-requires-clause-few c =
    subst (λ (l : List ℕ). length l ≤ 512) (sym c.entries_in.ensures)
    (omega (arith, few_entries (slots_of c.args.block.now), length-drop 3 c.args.block.now, c.requires.block, (block_range c.args.geometry).1))
