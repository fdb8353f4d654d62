-- The run on what clearing leaves of the image.
use Rattle.madfs_cli.proofs.OutcomeLemmas.{jobs_not_made}
use Rattle.madfs_cli.proofs.RunLemmas.{replayed}
use Rattle.madfs_cli.proofs.replays.replay_trace.Goals as goal

pub returns-in-Err-clause-refused : goal.returns-in-Err-clause-refused
returns-in-Err-clause-refused g c = jobs_not_made _ _ c.in-Err.status c.in-Err.ensures.refused (λ why refused. c.in_ok-start.ensures.accepted refused.bytes why refused.left refused.refused)

pub returns-clause-image_good : goal.returns-clause-image_good
returns-clause-image_good g c = λ why refused. c.in_ok-start.ensures.accepted refused.bytes why refused.left refused.refused

pub returns-clause-trace_read : goal.returns-clause-trace_read
returns-clause-trace_read g c = λ bytes known. (c.in-Ok.jobs.items, c.in-Ok.ensures.read bytes known)

pub returns-clause-replay : goal.returns-clause-replay
returns-clause-replay g c = λ bytes text opened known.
    replayed bytes c.in_ok-start.start.words.items text c.in-Ok-run_jobs.run'.text.items c.in-Ok-run_jobs.run'.words.items c.in-Ok-to_bytes.image.items c.in-Ok.jobs.items
    (c.in_ok-start.ensures.opened bytes opened) (c.in-Ok.ensures.read text known) c.in-Ok-run_jobs.ensures (rw c.deref.ensures.value at c.note_range.ensures) (rw c.deref-2.ensures.value at c.in-Ok-to_bytes.ensures.value)
