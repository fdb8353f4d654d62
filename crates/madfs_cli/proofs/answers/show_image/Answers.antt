-- The text is that of what clearing leaves.
use Rattle.madfs_cli.proofs.ImageLemmas.{dump_shown}
use Rattle.madfs_cli.proofs.answers.show_image.Goals as goal

pub returns-clause-text : goal.returns-clause-text
returns-clause-text g c = λ bytes known. dump_shown bytes c.in_ok-start.start.words.items c.in-Ok.text.items (c.in_ok-start.ensures.opened bytes known) c.in-Ok.ensures
