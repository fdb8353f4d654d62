-- What was gathered is the file.
use Rattle.std.proofs.Common.{◌∙◌}
use Rattle.image_tools.proofs.FileLemmas.{given_all}
use Rattle.image_tools.proofs.StartLemmas.{kept_file}
use Rattle.image_tools.proofs.files.file_of.Goals as goal

pub returns-in-Ok-clause-each : goal.returns-in-Ok-clause-each
returns-in-Ok-clause-each c = λ chain file position stands.
    c.into_bytes.ensures ∙ given_all c.new-gathered.result c.write_file.new.sink file c.new-gathered.ensures (c.in-Ok.ensures.all chain file position stands)

pub returns-in-Ok-clause-stands : goal.returns-in-Ok-clause-stands
returns-in-Ok-clause-stands c =
    kept_file c.args.start.now.geometry c.args.start.now.words.items c.args.start.now.taken.items c.args.start.now.generation c.args.start.now.position c.args.start.now.size c.into_bytes.result.items c.args.start.now.kept
    (returns-in-Ok-clause-each c)
