use Rattle.std.proofs.Common.{◌≡◌, ◌∙◌, ℕ, List, [], Bool, false, max, map, if◌then◌else◌, refl, sym, ap}
use Rattle.log_image.specs.Entries.{meaning}
use Rattle.log_image.specs.Blocks.{is_snapshot, file_size, slots_of, entry_words}
use Rattle.log_image.specs.Maps.{size_after}
use Rattle.log_image.specs.Image.{shape_by}
use Rattle.chain_reader.proofs.blocks.take_in_block.Goals as goal

pub returns-else-is_snapshot_in-clause-size : goal.returns-else-is_snapshot_in-clause-size
returns-else-is_snapshot_in-clause-size c =
    let log : is_snapshot c.args.block.now ≡ false = sym c.is_snapshot_in.ensures ∙ c.if-is_snapshot_in.false in
    (c.take_in_entries.ensures.size c.args.table.now.size [] (record { same = refl })).same
    ∙ ap (λ (l : List ℕ). size_after (shape_by c.args.geometry) c.args.table.now.size (map (meaning c.args.words.now (shape_by c.args.geometry)) l)) c.entries_in.ensures
    ∙ ap (λ (b : Bool). if b then max c.args.table.now.size (file_size c.args.block.now) else size_after (shape_by c.args.geometry) c.args.table.now.size (map (meaning c.args.words.now (shape_by c.args.geometry)) (entry_words (slots_of c.args.block.now)))) (sym log)
