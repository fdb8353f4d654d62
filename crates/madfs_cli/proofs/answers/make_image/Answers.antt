-- A just-made image opens to the empty file.
use Rattle.log_image.specs.Image.{shape_by}
use Rattle.image_tools.proofs.MadeLemmas.{allowed}
use Rattle.madfs_cli.proofs.ImageLemmas.{made_opens}
use Rattle.madfs_cli.proofs.answers.make_image.Goals as goal

pub returns-clause-image : goal.returns-clause-image
returns-clause-image c =
    made_opens (shape_by c.args.shape) c.in_ok-image.image.items c.in_ok-start.start.words.items c.law_just_made.ensures (allowed c.args.shape) c.in_ok-start.ensures.words
    (rw c.words-2.ensures.value at c.in_ok-image.ensures.value) (rw c.words.ensures.value at c.note_range.ensures)
