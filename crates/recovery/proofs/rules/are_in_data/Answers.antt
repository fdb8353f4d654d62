use Rattle.std.proofs.Common.{◌≡◌, nat_le, true, arith}
use Rattle.std.proofs.lemmas.Bool.{le-leb}
use Rattle.log_image.specs.Image.{shape_by}
use Rattle.recovery.proofs.RulesLemmas.{row_in_data}
use Rattle.recovery.proofs.rules.are_in_data.Goals as goal

pub returns-then-block-ge1 : goal.returns-then-block-ge1
returns-then-block-ge1 c =
    let first : nat_le 1 c.args.block ≡ true = le-leb 1 c.args.block (omega arith) in
    let last : c.from.result ≡ c.args.geometry.data_blocks = c.from.ensures in
    rw last (rw first at (row_in_data (shape_by c.args.geometry) c.args.block c.args.count c.requires.some))
