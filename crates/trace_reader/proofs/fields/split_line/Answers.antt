use Rattle.std.proofs.Common.{length, refl}
use Rattle.trace_reader.proofs.LineLemmas.{last_line, line_found}
use Rattle.trace_reader.proofs.fields.split_line.Goals as goal

pub returns-in_default-clause-lines : goal.returns-in_default-clause-lines
returns-in_default-clause-lines c =
    rw (c.split_at.ensures.front, c.split_at.ensures.back) (last_line c.args.text.now (length c.args.text.now) refl c.requires c.in_default.ensures)

pub returns-clause-lines : goal.returns-clause-lines
returns-clause-lines c =
    rw (c.without_return.ensures, c.split_at-2.ensures.front, c.split_at-3.ensures.back) (line_found c.args.text.now c.in-Some.end c.in-Some.ensures.0 c.in-Some.ensures.1)
