use Rattle.std.proofs.Common.{◌≡◌, ◌+◌, ◌==◌, ◌∷◌, ◌∙◌, ap, ℕ, arith, drop, drop-cons, get_or, if◌then◌else◌, suc}
use Rattle.std.proofs.lemmas.Result.{err_from_is_err_and}
use Rattle.std.proofs.lemmas.Bool.Decides.{nat_tests}
use Rattle.std.proofs.Math.ListN.{drop_of_length-le}
use Rattle.log_image.specs.Image.{shape_by}
use Rattle.recovery.proofs.SlotsLemmas.{slot_more, empty_here, all_read, refused, entries_count}
use Rattle.recovery.proofs.slots.read_log_slots.Goals as goal
use Rattle.recovery.proofs.slots.read_log_slots.Goals.{then-not-after_seal, else-not-after_seal}

pub returns-then-word-eq-EMPTY-clause-answer : goal.returns-then-word-eq-EMPTY-clause-answer
returns-then-word-eq-EMPTY-clause-answer c = λ chain size entries has.
    let far = c.loop-i.invariant.read chain size entries has in
    let front : drop c.loop-i.i c.args.slots.now ≡ get_or c.args.slots.now c.loop-i.i 0 ∷ drop (suc c.loop-i.i) c.args.slots.now =
    drop-cons c.args.slots.now c.loop-i.i 0 c.loop-i-test.true in
    empty_here _ _ _ _ _ _ _ _ _ _ _ _ _ far (front ∙ ap (λ (word : ℕ). word ∷ drop (suc c.loop-i.i) c.args.slots.now) c.if-word-eq-EMPTY.true)

pub returns-in_err-read_log_slot-clause-answer : goal.returns-in_err-read_log_slot-clause-answer
returns-in_err-read_log_slot-clause-answer c = λ chain size entries has.
    let far = c.loop-i.invariant.read chain size entries has in
    let front : drop c.loop-i.i c.args.slots.now ≡ get_or c.args.slots.now c.loop-i.i 0 ∷ drop (suc c.loop-i.i) c.args.slots.now =
    drop-cons c.args.slots.now c.loop-i.i 0 c.loop-i-test.true in
    let p = err_from_is_err_and c.from_residual.result c.from_residual.ensures.1 in
    rw (p.1, p.2) (refused _ _ _ _ _ _ _ _ _ _ _ _ _ far _ c.in_err-read_log_slot.field-0.0 front c.if-word-eq-EMPTY.false (c.in_err-read_log_slot.ensures.answer chain far.size_now far.now far.has))

pub loop-i-preserved : goal.loop-i-preserved
loop-i-preserved c = record {
  below = elim c.if-not-after_seal.branch [ then-not-after_seal w ↦ omega (arith, c.in_ok-read_log_slot.ensures.below w.if-not-after_seal.true) | else-not-after_seal w ↦ omega arith ];
  read = λ chain size entries has.
      let far = c.loop-i.invariant.read chain size entries has in
      let word : ℕ = get_or c.args.slots.now c.loop-i.i 0 in
      let front : drop c.loop-i.i c.args.slots.now ≡ word ∷ drop (suc c.loop-i.i) c.args.slots.now =
      drop-cons c.args.slots.now c.loop-i.i 0 c.loop-i-test.true in
      let more : c.if-not-after_seal.entries ≡ c.loop-i.entries + (if word == 3 then 0 else 1) =
      elim c.if-not-after_seal.branch [ then-not-after_seal w ↦ grind (arith, nat_tests, w.entries-is, w.if-not-after_seal.true) | else-not-after_seal w ↦ grind (arith, nat_tests, w.entries-is, w.if-not-after_seal.false) ] in
      slot_more _ _ _ _ _ _ _ _ _ _ _ _ _ far _ _ word _ (more ∙ ap (λ (n : ℕ). c.loop-i.entries + n) (entries_count c.args.words.now (shape_by c.args.geometry) word)) front c.if-word-eq-EMPTY.false
      (c.in_ok-read_log_slot.ensures.answer chain far.size_now far.now far.has);
}

pub returns-clause-answer : goal.returns-clause-answer
returns-clause-answer c = λ chain size entries has.
    let far = c.loop-i.invariant.read chain size entries has in
    all_read _ _ _ _ _ _ _ _ _ _ _ _ _ far (drop_of_length-le c.args.slots.now (omega arith))
