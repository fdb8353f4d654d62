use Rattle.std.proofs.Common.{◌≡◌, ◌∙◌, ap, sym, subst, ℕ, true, false, Ok, max}
use Rattle.std.proofs.lemmas.Result.{err_from_is_err_and}
use Rattle.log_image.specs.Blocks.{is_snapshot, base_of, entry_count, file_size}
use Rattle.log_image.specs.Image.{shape_by}
use Rattle.recovery.specs.BlockAnswers.{ReadsSlots}
use Rattle.recovery.proofs.BlockLemmas.{base_due, snapshot_as, snapshot_block, log_block, log_refused}
use Rattle.recovery.proofs.blocks.read_slots.Goals as goal

pub returns-in_err-read-clause-answer : goal.returns-in_err-read-clause-answer
returns-in_err-read-clause-answer c = λ chain place has begun second third.
    let p = err_from_is_err_and c.from_residual-in_err-read.result c.from_residual-in_err-read.ensures.1 in
    let log : is_snapshot c.args.own.now ≡ false = sym c.is_snapshot.ensures ∙ c.if-is_snapshot.false in
    let found = rw c.words_from-slots.ensures at (c.in_err-read.ensures.answer chain place.size place.entries has) in
    rw (p.1, p.2) (log_refused c.args.words.now (shape_by c.args.geometry) place c.args.block c.args.own.now c.of-base.result c.in_err-read.field-0.0 log (c.of-base.ensures ∙ base_due place c.args.own.now log second) found)

pub returns-clause-answer : goal.returns-clause-answer
returns-clause-answer c = λ chain place has begun second third.
    let log : is_snapshot c.args.own.now ≡ false = sym c.is_snapshot.ensures ∙ c.if-is_snapshot.false in
    let reads = rw c.words_from-slots.ensures at (c.in_ok-read.ensures.answer chain place.size place.entries has) in
    log_block c.args.words.now (shape_by c.args.geometry) place c.args.block c.args.own.now c.read_log_slots.new.table c.read_log_slots.new.taken chain c.of-base.result c.in_ok-read.read log (c.of-base.ensures ∙ base_due place c.args.own.now log second) reads

pub returns-then-is_snapshot-clause-answer : goal.returns-then-is_snapshot-clause-answer
returns-then-is_snapshot-clause-answer c = λ chain place has begun second third.
    let snapshot : is_snapshot c.args.own.now ≡ true = sym c.is_snapshot.ensures ∙ c.if-is_snapshot.true in
    let count : c.of.result ≡ entry_count c.args.own.now = c.of.ensures in
    let size : c.of-then-is_snapshot.result ≡ file_size c.args.own.now = c.of-then-is_snapshot.ensures in
    let base : c.of-base.result ≡ base_of c.args.own.now = c.of-base.ensures in
    let reads = snapshot_as (shape_by c.args.geometry) place c.args.block c.args.own.now c.read_snapshot_slots.new.table c.read_snapshot_slots.new.taken chain c.of.result c.words_from-slots.result.now count c.words_from-slots.ensures (c.in_ok-read_snapshot_slots.ensures chain place.size place.entries has) in
    let grown : c.grow.new.self ≡ record c.read_snapshot_slots.new.table { size = max c.read_snapshot_slots.new.table.size (file_size c.args.own.now) } = c.grow.ensures.grown ∙ ap (λ (n : ℕ). record c.read_snapshot_slots.new.table { size = max c.read_snapshot_slots.new.table.size n }) size in
    subst (λ (n : ℕ). ReadsSlots (Ok (record { closed = true; position = n })) c.args.words.now (shape_by c.args.geometry) c.grow.new.self c.read_snapshot_slots.new.taken chain place c.args.block c.args.own.now) (sym base)
    (snapshot_block c.args.words.now (shape_by c.args.geometry) place c.args.block c.args.own.now c.read_snapshot_slots.new.table c.grow.new.self c.read_snapshot_slots.new.taken chain snapshot third begun reads grown)
