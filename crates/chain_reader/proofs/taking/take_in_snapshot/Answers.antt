use Rattle.std.proofs.Common.{◌+◌, ℕ, ap, arith, []}
use Rattle.log_entry.specs.Fields.{field}
use Rattle.log_entry.specs.declared.layouts.TheConstants.{DIRECT_VIRT, DIRECT_BLOCK, DIRECT_COUNT, DIRECT_LEFTOVER}
use Rattle.log_image.specs.Image.{shape_by}
use Rattle.chain_reader.proofs.FitsLemmas.{RunNumbers, direct_numbers, snapshot_fits}
use Rattle.chain_reader.proofs.MapLemmas.{one_run, mapped_as}
use Rattle.chain_reader.proofs.taking.take_in_snapshot.Goals as goal

pub apply-requires-clause-in_file : goal.apply-requires-clause-in_file
apply-requires-clause-in_file c =
    let is : RunNumbers (field DIRECT_VIRT c.args.word) (field DIRECT_BLOCK c.args.word) (field DIRECT_COUNT c.args.word + 1) =
    direct_numbers (shape_by c.args._geometry) 256 c.args.word (omega arith) (snapshot_fits (shape_by c.args._geometry) c.args.word c.requires) in
    omega (arith, is.in_file)

pub returns-clause-map : goal.returns-clause-map
returns-clause-map c =
    one_run c.args.table.now c.apply.new.self [] (field DIRECT_VIRT c.args.word) (field DIRECT_BLOCK c.args.word) (field DIRECT_COUNT c.args.word + 1) (field DIRECT_LEFTOVER c.args.word)
    (mapped_as c.args.table.now c.apply.new.self c.of.result c.of-2.result (c.of-3.result + 1) (field DIRECT_VIRT c.args.word) (field DIRECT_BLOCK c.args.word) (field DIRECT_COUNT c.args.word + 1)
    c.of.ensures c.of-2.ensures (ap (λ (n : ℕ). n + 1) c.of-3.ensures) c.apply.ensures.blocks)
