use Rattle.std.proofs.Common.{◌≡◌, codes, rules, arith}
use Rattle.madfs_cli.proofs.CommandLemmas.{mkfs_read}
use Rattle.madfs_cli.proofs.commands.read_mkfs.Goals as goal

pub returns : goal.returns
returns c =
    let name : c.word.result.now ≡ codes "mkfs" = search rules in
    mkfs_read c.args.words.now c.word.result.now c.read_shape.result (omega arith) c.word.ensures name c.read_shape.ensures
