use Rattle.std.proofs.Common.{◌≡◌, codes, rules, arith}
use Rattle.madfs_cli.proofs.CommandLemmas.{generate_read}
use Rattle.madfs_cli.proofs.commands.read_generate.Goals as goal

pub returns : goal.returns
returns c =
    let name : c.word.result.now ≡ codes "generate" = search rules in
    generate_read c.args.words.now c.word.result.now c.read_work.result (omega arith) c.word.ensures name c.read_work.ensures
