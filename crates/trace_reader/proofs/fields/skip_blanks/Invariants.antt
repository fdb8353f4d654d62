use Rattle.std.proofs.Common.{◌≡◌, drop}
use Rattle.trace_reader.specs.Lines.{fields_of}
use Rattle.trace_reader.proofs.fields.skip_blanks.Given as goal

abbrev pub invariant-loop-count : goal.invariant-loop-count
invariant-loop-count l = fields_of (drop l.count l.text) ≡ fields_of l.text
