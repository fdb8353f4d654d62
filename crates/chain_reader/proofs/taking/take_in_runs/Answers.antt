use Rattle.std.proofs.Common.{◌≡◌, ◌+◌, ◌-◌, ◌*◌, ◌≤◌, ℕ, List, max, length, get_or, refl, ap, ◌∙◌, subst, arith}
use Rattle.log_entry.specs.Fields.{field}
use Rattle.log_entry.specs.declared.layouts.TheConstants.{RUNS_VIRT}
use Rattle.log_image.specs.Entries.{run_words, indirect_blocks, indirect_meaning}
use Rattle.log_image.specs.Maps.{entry_end}
use Rattle.log_image.specs.Image.{shape_by}
use Rattle.chain_reader.proofs.FitsLemmas.{Fitting, fitting}
use Rattle.chain_reader.proofs.MapLemmas.{grown_by, has_map_of}
use Rattle.chain_reader.proofs.RunsLemmas.{NextRun, next_run, read_next, none_read, runs_read}
use Rattle.chain_reader.proofs.taking.take_in_runs.Goals as goal

pub loop-run-init : goal.loop-run-init
loop-run-init c = record {
  read = none_read c.args.table.now c.args.holder c.args.block.now c.of-virt.result c.of-virt.ensures;
  size = refl;
  unit = refl;
}

pub overflow_cast-virt : goal.overflow_cast-virt
overflow_cast-virt c =
    let is : NextRun c.loop-run.virt _ _ =
    next_run (shape_by c.args.geometry) c.args.table.now c.loop-run.table c.args.holder c.args.block.now c.runs_in-run-items.result.now c.loop-run.virt c.loop-run.run-index _ _
    c.runs_in-run-items.ensures (omega arith) c.requires.runs c.requires.fits c.loop-run.invariant.read (omega arith) refl refl in
    omega (arith, is.numbers.in_file, is.numbers.some)

pub apply-requires-clause-cut : goal.apply-requires-clause-cut
apply-requires-clause-cut c =
    (next_run (shape_by c.args.geometry) c.args.table.now c.loop-run.table c.args.holder c.args.block.now c.runs_in-run-items.result.now c.loop-run.virt c.loop-run.run-index c.of.result c.of-count.result
    c.runs_in-run-items.ensures (omega arith) c.requires.runs c.requires.fits c.loop-run.invariant.read (omega arith) c.of.ensures c.of-count.ensures).cut

pub apply-requires-clause-taken : goal.apply-requires-clause-taken
apply-requires-clause-taken c =
    (next_run (shape_by c.args.geometry) c.args.table.now c.loop-run.table c.args.holder c.args.block.now c.runs_in-run-items.result.now c.loop-run.virt c.loop-run.run-index c.of.result c.of-count.result
    c.runs_in-run-items.ensures (omega arith) c.requires.runs c.requires.fits c.loop-run.invariant.read (omega arith) c.of.ensures c.of-count.ensures).numbers.taken

pub apply-requires-clause-in_file : goal.apply-requires-clause-in_file
apply-requires-clause-in_file c =
    (next_run (shape_by c.args.geometry) c.args.table.now c.loop-run.table c.args.holder c.args.block.now c.runs_in-run-items.result.now c.loop-run.virt c.loop-run.run-index c.of.result c.of-count.result
    c.runs_in-run-items.ensures (omega arith) c.requires.runs c.requires.fits c.loop-run.invariant.read (omega arith) c.of.ensures c.of-count.ensures).numbers.in_file

pub apply-requires-clause-in_image : goal.apply-requires-clause-in_image
apply-requires-clause-in_image c =
    (next_run (shape_by c.args.geometry) c.args.table.now c.loop-run.table c.args.holder c.args.block.now c.runs_in-run-items.result.now c.loop-run.virt c.loop-run.run-index c.of.result c.of-count.result
    c.runs_in-run-items.ensures (omega arith) c.requires.runs c.requires.fits c.loop-run.invariant.read (omega arith) c.of.ensures c.of-count.ensures).numbers.in_image

pub overflow_add-virt : goal.overflow_add-virt
overflow_add-virt c =
    let is : NextRun c.loop-run.virt c.of.result c.of-count.result =
    next_run (shape_by c.args.geometry) c.args.table.now c.loop-run.table c.args.holder c.args.block.now c.runs_in-run-items.result.now c.loop-run.virt c.loop-run.run-index c.of.result c.of-count.result
    c.runs_in-run-items.ensures (omega arith) c.requires.runs c.requires.fits c.loop-run.invariant.read (omega arith) c.of.ensures c.of-count.ensures in
    omega (arith, is.numbers.in_file)

pub loop-run-preserved : goal.loop-run-preserved
loop-run-preserved c = record {
  read = read_next c.args.table.now c.loop-run.table c.apply.new.self c.args.holder c.args.block.now c.runs_in-run-items.result.now c.loop-run.virt c.loop-run.run-index c.of.result c.of-count.result
      c.runs_in-run-items.ensures c.loop-run.invariant.read (omega arith) c.of.ensures c.of-count.ensures c.apply.ensures.blocks;
  size = c.apply.ensures.size ∙ c.loop-run.invariant.size;
  unit = c.apply.ensures.unit ∙ c.loop-run.invariant.unit;
}

pub returns-clause-size : goal.returns-clause-size
returns-clause-size c =
    let past : length (run_words c.args.block.now) ≤ c.loop-run.run-index = subst (λ (l : List ℕ). length l ≤ c.loop-run.run-index) c.runs_in-run-items.ensures (omega arith) in
    let at : c.loop-run.virt ≡ field RUNS_VIRT (get_or c.args.block.now 0 0) + length (indirect_blocks c.args.block.now) =
    (runs_read c.args.table.now c.loop-run.table c.args.holder c.args.block.now c.loop-run.virt c.loop-run.run-index c.loop-run.invariant.read past).0 in
    let ends : c.end_of.result ≡ entry_end (shape_by c.args.geometry) (indirect_meaning c.args.holder c.args.block.now) =
    c.end_of.ensures ∙ ap (λ (n : ℕ). n * c.args.geometry.block_bytes - c.of-2.result) at
    ∙ ap (λ (n : ℕ). (field RUNS_VIRT (get_or c.args.block.now 0 0) + length (indirect_blocks c.args.block.now)) * c.args.geometry.block_bytes - n) c.of-2.ensures in
    grown_by c.args.table.now c.grow.new.self (shape_by c.args.geometry) (indirect_meaning c.args.holder c.args.block.now)
    (ap (λ m. m.size) c.grow.ensures.grown ∙ ap (λ (n : ℕ). max n c.end_of.result) c.loop-run.invariant.size ∙ ap (λ (n : ℕ). max c.args.table.now.size n) ends)

pub returns-clause-map : goal.returns-clause-map
returns-clause-map c = λ entries has.
    let past : length (run_words c.args.block.now) ≤ c.loop-run.run-index = subst (λ (l : List ℕ). length l ≤ c.loop-run.run-index) c.runs_in-run-items.ensures (omega arith) in
    has_map_of c.loop-run.table c.grow.new.self _ (ap (λ m. m.blocks) c.grow.ensures.grown)
    ((runs_read c.args.table.now c.loop-run.table c.args.holder c.args.block.now c.loop-run.virt c.loop-run.run-index c.loop-run.invariant.read past).1 entries has)

pub end_of-requires : goal.end_of-requires
end_of-requires c =
    let past : length (run_words c.args.block.now) ≤ c.loop-run.run-index = subst (λ (l : List ℕ). length l ≤ c.loop-run.run-index) c.runs_in-run-items.ensures (omega arith) in
    let at : c.loop-run.virt ≡ field RUNS_VIRT (get_or c.args.block.now 0 0) + length (indirect_blocks c.args.block.now) =
    (runs_read c.args.table.now c.loop-run.table c.args.holder c.args.block.now c.loop-run.virt c.loop-run.run-index c.loop-run.invariant.read past).0 in
    let is : Fitting (shape_by c.args.geometry) 256 (indirect_meaning c.args.holder c.args.block.now) = fitting (shape_by c.args.geometry) 256 (indirect_meaning c.args.holder c.args.block.now) c.requires.fits in
    omega (arith, at, is.in_file)
