-- The outcome of a file that was written, or of an image that was not opened.
use Rattle.std.proofs.Common.{inl, refl}
use Rattle.madfs_cli.specs.Commands.{ShowFile}
use Rattle.madfs_cli.specs.declared.statuses.Status.TheVariants.{Done, WriteFault, NoMemory}
use Rattle.madfs_cli.proofs.OutcomeLemmas.{not_made_outcome, image_not_made, nothing_given, file_outcome}
use Rattle.madfs_cli.proofs.answers.show_file.Goals as goal

pub returns-in-Err-clause-outcome : goal.returns-in-Err-clause-outcome
returns-in-Err-clause-outcome g c = λ trace fresh same. not_made_outcome ShowFile _ c.in-Err.status (image_not_made _ trace c.in-Err.status c.in-Err.ensures.refused) (refl, same)

pub returns-in-Ok-write_file-clause-outcome : goal.returns-in-Ok-write_file-clause-outcome
returns-in-Ok-write_file-clause-outcome g c = λ trace fresh same.
    let stands = c.in-Ok.ensures.stands in
    file_outcome c.law_one_meaning.ensures.one_file _ trace _ fresh c.in-Ok.start.words.items Done stands c.in-Ok.ensures.opened c.in-Ok.ensures.accepted
    (c.in-Ok-write_file.ensures.all stands.0 stands.1 stands.2 stands.3, nothing_given fresh.given_before fresh.given_after same)

pub returns-in-Err-WriteFault-clause-outcome : goal.returns-in-Err-WriteFault-clause-outcome
returns-in-Err-WriteFault-clause-outcome g c = λ trace fresh same.
    let stands = c.in-Ok.ensures.stands in
    file_outcome c.law_one_meaning.ensures.one_file _ trace _ fresh c.in-Ok.start.words.items WriteFault stands c.in-Ok.ensures.opened c.in-Ok.ensures.accepted
    (inl (rw c.in-Err-WriteFault.field-0-is at c.in-Err-WriteFault.ensures.cause, same), inl (c.in-Err-WriteFault.ensures.part stands.0 stands.1 stands.2 stands.3, same))

pub returns-clause-outcome : goal.returns-clause-outcome
returns-clause-outcome g c = λ trace fresh same.
    let stands = c.in-Ok.ensures.stands in
    file_outcome c.law_one_meaning.ensures.one_file _ trace _ fresh c.in-Ok.start.words.items NoMemory stands c.in-Ok.ensures.opened c.in-Ok.ensures.accepted
    (inl (c.in-Err-NoMemory.ensures.part stands.0 stands.1 stands.2 stands.3, same))
