-- What was read is not refused.
use Rattle.log_image.specs.Image.{shape_by}
use Rattle.madfs_cli.specs.Commands.{made_request}
use Rattle.madfs_cli.proofs.OutcomeLemmas.{trace_good, try_reads, image_good}
use Rattle.madfs_cli.proofs.answers.output_of.Goals as goal

pub returns-in-Try-clause-trace_good : goal.returns-in-Try-clause-trace_good
returns-in-Try-clause-trace_good g c = trace_good (made_request c.args.making) _ c.try_trace.result (try_reads (shape_by c.in-Try.shape) _ c.try_trace.result c.try_trace.ensures.report)

pub returns-in-Replay-clause-trace_good : goal.returns-in-Replay-clause-trace_good
returns-in-Replay-clause-trace_good g c = trace_good (made_request c.args.making) _ c.replay_trace.result c.replay_trace.ensures.trace_read

pub returns-in-Dump-clause-image_good : goal.returns-in-Dump-clause-image_good
returns-in-Dump-clause-image_good g c = image_good (made_request c.args.making) _ c.show_image.result c.show_image.ensures.accepted

pub returns-in-Replay-clause-image_good : goal.returns-in-Replay-clause-image_good
returns-in-Replay-clause-image_good g c = rw c.in-Replay.is c.replay_trace.ensures.image_good
