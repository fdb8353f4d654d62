use Rattle.std.proofs.Common.{refl}
use Rattle.std.specs.Fmt.{digits}
use Rattle.hex.specs.Hex.{encode_with}
use Rattle.history_report.specs.Report.{call_text, operation_text, answer_text, write_refusal_text, collection_text, held_text, end_text}
use Rattle.history_report.proofs.laws.law_rows.Goals as goal

pub returns-clause-written : goal.returns-clause-written
unfolding digits encode_with call_text operation_text answer_text write_refusal_text collection_text held_text end_text
returns-clause-written c = refl

pub returns-clause-read_bytes : goal.returns-clause-read_bytes
unfolding digits encode_with call_text operation_text answer_text write_refusal_text collection_text held_text end_text
returns-clause-read_bytes c = refl

pub returns-clause-read_no_bytes : goal.returns-clause-read_no_bytes
unfolding digits encode_with call_text operation_text answer_text write_refusal_text collection_text held_text end_text
returns-clause-read_no_bytes c = refl

pub returns-clause-too_many_blocks : goal.returns-clause-too_many_blocks
unfolding digits encode_with call_text operation_text answer_text write_refusal_text collection_text held_text end_text
returns-clause-too_many_blocks c = refl

pub returns-clause-past_limit : goal.returns-clause-past_limit
unfolding digits encode_with call_text operation_text answer_text write_refusal_text collection_text held_text end_text
returns-clause-past_limit c = refl

pub returns-clause-no_space_for_data : goal.returns-clause-no_space_for_data
unfolding digits encode_with call_text operation_text answer_text write_refusal_text collection_text held_text end_text
returns-clause-no_space_for_data c = refl

pub returns-clause-appended_at : goal.returns-clause-appended_at
unfolding digits encode_with call_text operation_text answer_text write_refusal_text collection_text held_text end_text
returns-clause-appended_at c = refl

pub returns-clause-kept_nothing : goal.returns-clause-kept_nothing
unfolding digits encode_with call_text operation_text answer_text write_refusal_text collection_text held_text end_text
returns-clause-kept_nothing c = refl

pub returns-clause-kept_for_pin : goal.returns-clause-kept_for_pin
unfolding digits encode_with call_text operation_text answer_text write_refusal_text collection_text held_text end_text
returns-clause-kept_for_pin c = refl

pub returns-clause-last_line : goal.returns-clause-last_line
unfolding digits encode_with call_text operation_text answer_text write_refusal_text collection_text held_text end_text
returns-clause-last_line c = refl

pub returns-clause-two_calls : goal.returns-clause-two_calls
unfolding digits encode_with call_text operation_text answer_text write_refusal_text collection_text held_text end_text
returns-clause-two_calls c = refl
