use Rattle.std.proofs.Common.{◌≡◌, codes, rules, arith}
use Rattle.madfs_cli.proofs.CommandLemmas.{try_read, read_word}
use Rattle.madfs_cli.proofs.commands.read_try.Goals as goal

pub returns : goal.returns
returns c =
    let name : c.word.result.now ≡ codes "try" = search rules in
    try_read c.args.words.now c.word.result.now c.word-2.result.now c.read_shape.result (omega arith) c.word.ensures name c.word-2.ensures
    (read_word c.word-2.result.now c.as_bytes.result.now c.read_number.result 1 c.in_ok-read_number.field-0 c.as_bytes.ensures.value c.read_number.ensures c.in_ok-read_number.was (omega arith))
    c.read_shape.ensures
