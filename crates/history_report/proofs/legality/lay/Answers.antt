use Rattle.std.proofs.Common.{◌<◌, length, arith, refl, ◌∙◌, ap, ◌+◌, ℕ, List}
use Rattle.std.proofs.lemmas.Bool.Decides.{nat_tests}
use Rattle.log_entry.specs.ByteFile.{with_bytes_over}
use Rattle.history_report.proofs.LegalLemmas.{laid}
use Rattle.history_report.proofs.legality.lay.Goals as goal

pub returns : goal.returns
returns c =
    let some : 0 < length c.args.bytes.now = grind (arith, nat_tests, c.is_empty.ensures, c.if-is_empty.false) in
    c.lay_over.ensures ∙ ap (λ (f : List ℕ). with_bytes_over f c.args.offset c.args.bytes.now) c.in_ok-lengthen.ensures ∙ laid c.args.file.now.items c.args.bytes.now c.args.offset (c.args.offset + length c.args.bytes.now) some refl
