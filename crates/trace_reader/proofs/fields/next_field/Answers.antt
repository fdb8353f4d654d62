use Rattle.std.proofs.Common.{◌<◌, length, refl, arith}
use Rattle.std.proofs.lemmas.Bool.Decides.{nat_tests}
use Rattle.trace_reader.proofs.LineLemmas.{last_field, field_found, begins_plain}
use Rattle.trace_reader.proofs.fields.next_field.Goals as goal

pub returns-in_default : goal.returns-in_default
returns-in_default c =
    let some : 0 < length c.skip_blanks-text.result.now = grind (arith, nat_tests, c.is_empty.ensures, c.if-is_empty.false) in
    rw (← c.skip_blanks-text.ensures.same, c.split_at.ensures.front, c.split_at.ensures.back) (last_field c.skip_blanks-text.result.now (length c.skip_blanks-text.result.now) refl some c.in_default.ensures)

pub returns : goal.returns
returns c =
    let some : 0 < length c.skip_blanks-text.result.now = grind (arith, nat_tests, c.is_empty.ensures, c.if-is_empty.false) in
    rw (← c.skip_blanks-text.ensures.same, c.split_at-2.ensures.front, c.split_at-2.ensures.back)
    (field_found c.skip_blanks-text.result.now c.in-Some.end c.in-Some.ensures.0 c.in-Some.ensures.1 (begins_plain c.skip_blanks-text.result.now some c.skip_blanks-text.ensures.field))
