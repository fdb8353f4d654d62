use Rattle.std.proofs.Common.{◌<◌, ◌+◌, length, length-set, sym, ◌∙◌, arith}
use Rattle.std.proofs.lemmas.List.{take_all}
use Rattle.std.proofs.lemmas.Grind.{get_or_default_zero}
use Rattle.persistence.specs.Memory.{Replaced}
use Rattle.persistence.proofs.ValueLemmas.{entry_at, count_on, value_on_asked, value_on_other, index_at-few}
use Rattle.persistence.proofs.survivors.values_at.Goals as goal
use Rattle.persistence.proofs.survivors.values_at.Goals.{then-index-indices, else-index-indices}

pub loop-replaced-preserved : goal.loop-replaced-preserved
loop-replaced-preserved c =
    let e : Replaced = record { word = c.replaced.inside.word; value = c.replaced.inside.value } in
    let entry = entry_at c.args.past.now c.loop-replaced.replaced-index (length c.args.words.now) e c.replaced-item.result c.replaced.view_is c.replaced-item.is c.loop-replaced-test.true c.requires.known in
    let kept = c.loop-replaced.invariant in
    let known : e.word < length c.loop-replaced.seen.items = omega (arith, entry.1, kept.1) in
    let seen = c.index_mut-in-loop-replaced.ensures.value ∙ get_or_default_zero c.loop-replaced.seen.items e.word c.index_mut-in-loop-replaced.result.now known in
    let tested = c.index.ensures ∙ get_or_default_zero c.loop-replaced.seen.items e.word c.index.result.now known in
    let long = length-set c.loop-replaced.seen.items e.word (c.index_mut-in-loop-replaced.result.now + 1) ∙ kept.1 in
    let counts = rw (← seen) at (count_on c.args.past.now c.loop-replaced.seen.items c.loop-replaced.replaced-index (length c.args.words.now) e c.loop-replaced-test.true entry.0 kept.1 entry.1 kept.2) in
    elim c.if-index-indices.branch [
      | then-index-indices w ↦ rw w.values-is (
        length-set c.loop-replaced.values.items e.word e.value ∙ kept.0,
        long,
        counts,
        value_on_asked c.args.past.now c.loop-replaced.values.items c.args.words.now c.loop-replaced.seen.items c.args.indices.now c.loop-replaced.replaced-index (length c.args.words.now) e c.loop-replaced-test.true entry.0 kept.0 entry.1 (sym tested ∙ w.if-index-indices.true) kept.2 kept.3,
      )
      | else-index-indices w ↦ rw w.values-is (
        kept.0,
        long,
        counts,
        value_on_other c.args.past.now c.loop-replaced.values.items c.args.words.now c.loop-replaced.seen.items c.args.indices.now c.loop-replaced.replaced-index (length c.args.words.now) e c.loop-replaced-test.true entry.0 entry.1 (λ same. w.if-index-indices.false (tested ∙ same)) kept.2 kept.3,
      )
    ]

pub overflow_add-index_mut : goal.overflow_add-index_mut
overflow_add-index_mut c =
    let e : Replaced = record { word = c.replaced.inside.word; value = c.replaced.inside.value } in
    let entry = entry_at c.args.past.now c.loop-replaced.replaced-index (length c.args.words.now) e c.replaced-item.result c.replaced.view_is c.replaced-item.is c.loop-replaced-test.true c.requires.known in
    let kept = c.loop-replaced.invariant in
    let known : e.word < length c.loop-replaced.seen.items = omega (arith, entry.1, kept.1) in
    let seen = c.index_mut-in-loop-replaced.ensures.value ∙ get_or_default_zero c.loop-replaced.seen.items e.word c.index_mut-in-loop-replaced.result.now known ∙ kept.2 e.word entry.1 in
    omega (arith, seen, index_at-few c.args.past.now c.loop-replaced.replaced-index e.word, c.loop-replaced-test.true)

pub returns-clause-each : goal.returns-clause-each
returns-clause-each c = λ w below. rw (take_all c.loop-replaced.replaced-index c.args.past.now c.loop-replaced-test.false) at (c.loop-replaced.invariant.3 w below)
