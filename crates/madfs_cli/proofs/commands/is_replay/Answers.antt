use Rattle.std.proofs.Common.{◌≡◌, codes, rules, arith}
use Rattle.std.proofs.lemmas.Bool.Decides.{nat_tests}
use Rattle.madfs_cli.proofs.CommandLemmas.{says_replay, read_word}
use Rattle.madfs_cli.proofs.commands.is_replay.Goals as goal

pub returns-clause-yes : goal.returns-clause-yes
returns-clause-yes c = λ one.
    let name : c.word.result.now ≡ codes "replay" = search rules in
    says_replay c.args.words.now c.word.result.now c.word-2.result.now (omega arith) c.word.ensures name c.word-2.ensures
    (read_word c.word-2.result.now c.as_bytes.result.now c.read_number.result 1 c.in-Some.seats c.as_bytes.ensures.value c.read_number.ensures c.in-Some.is (grind (arith, nat_tests, one)))
