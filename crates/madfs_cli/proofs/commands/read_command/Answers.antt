use Rattle.std.proofs.Common.{◌≡◌, ◌∙◌, ap, Some, codes, rules, arith}
use Rattle.madfs_cli.proofs.CommandLemmas.{one_word}
use Rattle.madfs_cli.proofs.commands.read_command.Goals as goal

pub returns-then-eq : goal.returns-then-eq
returns-then-eq c =
    let name : c.word.result.now ≡ codes "cat" = search rules in
    one_word c.args.words.now (codes "cat") (omega arith) (c.word.ensures ∙ ap Some name)

pub returns-then-eq-2 : goal.returns-then-eq-2
returns-then-eq-2 c =
    let name : c.word-then-count-eq1-2.result.now ≡ codes "dump" = search rules in
    one_word c.args.words.now (codes "dump") (omega arith) (c.word-then-count-eq1-2.ensures ∙ ap Some name)
