-- A just-made image stands for the empty file.
use Rattle.std.proofs.Common.{[], ◌∷◌}
use Rattle.log_image.specs.Image.{shape_by}
use Rattle.log_image.specs.JustMade.{first_log}
use Rattle.image_tools.proofs.MadeLemmas.{allowed}
use Rattle.madfs_cli.proofs.replays.try_trace.Goals as goal

pub run_jobs-requires-clause-stands : goal.run_jobs-requires-clause-stands
run_jobs-requires-clause-stands g c =
    (first_log (shape_by c.args.shape) ∷ [], [], 0, (c.law_just_made.ensures (shape_by c.args.shape) c.in-Ok.start.words.items (allowed c.args.shape) c.in-Ok.ensures.words).1)

pub returns-clause-report : goal.returns-clause-report
returns-clause-report g c = λ bytes known. record {
  words = c.in-Ok.start.words.items;
  just_made = c.in-Ok.ensures.words;
  jobs = c.in_ok-jobs.jobs.items;
  read = c.in_ok-jobs.ensures.read bytes known;
  after = c.in-Ok-run_jobs.run'.words.items;
  run = c.in-Ok-run_jobs.ensures (first_log (shape_by c.args.shape) ∷ []) [] 0 (c.law_just_made.ensures (shape_by c.args.shape) c.in-Ok.start.words.items (allowed c.args.shape) c.in-Ok.ensures.words).1;
}
