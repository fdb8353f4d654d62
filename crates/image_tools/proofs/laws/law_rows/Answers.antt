use Rattle.std.proofs.Common.{refl}
use Rattle.std.specs.Fmt.{digits}
use Rattle.image_tools.specs.DumpText.{shape_text, head_text, run_text, direct_text, indirect_text, snapshot_text, log_text, end_text, dump_text}
use Rattle.image_tools.proofs.laws.law_rows.Goals as goal

pub returns-clause-with_runs : goal.returns-clause-with_runs
unfolding digits shape_text head_text run_text direct_text indirect_text snapshot_text log_text end_text dump_text
returns-clause-with_runs c = refl

pub returns-clause-sealed_block : goal.returns-clause-sealed_block
unfolding digits direct_text indirect_text log_text
returns-clause-sealed_block c = refl
