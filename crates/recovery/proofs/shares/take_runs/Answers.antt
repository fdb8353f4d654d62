use Rattle.std.proofs.Common.{◌+◌, List, ℕ, arith, subst, Ok, Err, take_all}
use Rattle.std.specs.List.{flat_map}
use Rattle.std.proofs.lemmas.Result.{err_from_is_err_and}
use Rattle.log_image.specs.Entries.{run_blocks}
use Rattle.log_image.specs.Image.{shape_by}
use Rattle.recovery.specs.Names.{TakesNames}
use Rattle.recovery.proofs.NamesLemmas.{none_taken, run_taken, runs_shared, run_inside, run_row}
use Rattle.recovery.proofs.shares.take_runs.Goals as goal

pub loop-run-init : goal.loop-run-init
loop-run-init c = λ chain named has. none_taken (shape_by c.args._geometry) c.args.taken.now chain named has

pub take_run-requires : goal.take_run-requires
take_run-requires c =
    let inside = run_inside (shape_by c.args._geometry) c.args.runs.now c.loop-run.run-index (omega arith) c.requires.runs c.requires.in_data c.loop-run-test.true in
    omega (arith, inside, c.of.ensures, c.of-in-loop-run.ensures)

pub returns-in_err-take_run : goal.returns-in_err-take_run
returns-in_err-take_run c = λ chain named has.
    let p = err_from_is_err_and c.from_residual.result c.from_residual.ensures.1 in
    let found = run_taken (Err c.in_err-take_run.field-0.0) (shape_by c.args._geometry) c.args.taken.now c.loop-run.taken c.take_run.new.taken chain named c.args.runs.now c.loop-run.run-index c.loop-run.invariant c.loop-run-test.true has
    (run_row (Err c.in_err-take_run.field-0.0) (shape_by c.args._geometry) c.loop-run.taken c.take_run.new.taken c.args.runs.now c.loop-run.run-index c.of.result c.of-in-loop-run.result c.of.ensures c.of-in-loop-run.ensures c.requires.in_data c.loop-run-test.true (c.in_err-take_run.ensures (shape_by c.args._geometry))) in
    rw (p.1, p.2) (runs_shared c.in_err-take_run.field-0.0 named c.args.runs.now (c.loop-run.run-index + 1) found)

pub loop-run-preserved : goal.loop-run-preserved
loop-run-preserved c = λ chain named has.
    run_taken (Ok tt) (shape_by c.args._geometry) c.args.taken.now c.loop-run.taken c.take_run.new.taken chain named c.args.runs.now c.loop-run.run-index c.loop-run.invariant c.loop-run-test.true has
    (run_row (Ok tt) (shape_by c.args._geometry) c.loop-run.taken c.take_run.new.taken c.args.runs.now c.loop-run.run-index c.of.result c.of-in-loop-run.result c.of.ensures c.of-in-loop-run.ensures c.requires.in_data c.loop-run-test.true (c.in_ok-take_run.ensures (shape_by c.args._geometry)))

pub returns : goal.returns
returns c = λ chain named has.
    subst (λ (l : List ℕ). TakesNames (Ok tt) (shape_by c.args._geometry) c.loop-run.taken chain named (flat_map run_blocks l)) (take_all c.loop-run.run-index c.args.runs.now (omega arith)) (c.loop-run.invariant chain named has)
