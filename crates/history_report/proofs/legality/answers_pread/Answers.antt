use Rattle.std.proofs.Common.{◌≡◌, ◌-◌, ◌+◌, ap, ◌∙◌, take, drop, arith, ℕ}
use Rattle.history_report.proofs.LegalLemmas.{read_part, pread_answer}
use Rattle.history_report.proofs.legality.answers_pread.Goals as goal

pub returns-in-Bytes : goal.returns-in-Bytes
returns-in-Bytes c =
    let many : c.min-start.result + c.min-count.result - c.min-start.result ≡ c.min-count.result = omega arith in
    pread_answer c.args.reply.now c.in-Bytes.found c.bytes.result.now _ _ c.eq.result c.in-Bytes.is c.bytes.ensures
    (ap (λ (k : ℕ). take k (drop c.min-start.result c.args.file.now)) many ∙ read_part c.args.file.now c.args.offset c.args.count c.min-start.result c.min-count.result c.min-start.ensures c.min-count.ensures) c.eq.ensures
