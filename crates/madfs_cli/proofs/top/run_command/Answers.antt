-- The outcome of an output that was made and written, or that was not made; and of a file that was written.
use Rattle.std.proofs.Common.{refl}
use Rattle.madfs_cli.specs.Commands.{made_request}
use Rattle.madfs_cli.proofs.OutcomeLemmas.{made_outcome, not_made_outcome}
use Rattle.madfs_cli.proofs.top.run_command.Goals as goal

pub returns-in-Ok-clause-outcome : goal.returns-in-Ok-clause-outcome
returns-in-Ok-clause-outcome g c =
    rw c.in-Make.is
    (made_outcome (made_request c.in-Make.making) _ c.in-Ok.output.text.items c.in-Ok.output.image.items c.write_output.result c.in-Ok.ensures.made c.in-Ok.ensures.no_image c.in-Ok.ensures.image_good c.in-Ok.ensures.trace_good c.write_output.ensures.ends)

pub returns-in-Err-clause-outcome : goal.returns-in-Err-clause-outcome
returns-in-Err-clause-outcome g c = rw c.in-Make.is (not_made_outcome (made_request c.in-Make.making) _ c.in-Err.status c.in-Err.ensures.refused (refl, refl))

pub returns-in-Cat-clause-outcome : goal.returns-in-Cat-clause-outcome
returns-in-Cat-clause-outcome g c = rw c.in-Cat.is (c.show_file.ensures.outcome _ _ refl)
