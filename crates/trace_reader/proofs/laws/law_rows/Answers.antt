use Rattle.std.proofs.Common.{refl}
use Rattle.std.specs.Fmt.{digits}
use Rattle.hex.specs.Hex.{encode_with, decode_pairs}
use Rattle.trace_reader.proofs.laws.law_rows.Goals as goal

pub returns-clause-two_lines : goal.returns-clause-two_lines
unfolding digits encode_with
returns-clause-two_lines c = refl

pub returns-clause-other_lines : goal.returns-clause-other_lines
unfolding digits encode_with
returns-clause-other_lines c = refl

pub returns-clause-two_lines_read : goal.returns-clause-two_lines_read
unfolding decode_pairs
returns-clause-two_lines_read c = refl

pub returns-clause-by_hand_read : goal.returns-clause-by_hand_read
unfolding decode_pairs
returns-clause-by_hand_read c = refl
