use Rattle.std.proofs.Common.{◌≡◌, ℕ, ◌<◌, ◌+◌, min, length, length-set, slice_index, ap, ◌∙◌, arith}
use Rattle.std.proofs.lemmas.Grind.{get_or_default_zero}
use Rattle.std.proofs.lemmas.List.{take_all}
use Rattle.persistence.specs.Memory.{Replaced, index_at}
use Rattle.persistence.proofs.ValueLemmas.{entry_at, count_on, floor_on_before, floor_on_after, index_at-few, index_at-cut}
use Rattle.persistence.proofs.survivors.count_values.Goals as goal
use Rattle.persistence.proofs.survivors.count_values.Goals.{then-time-floors, else-time-floors}

pub loop-time-preserved : goal.loop-time-preserved
loop-time-preserved c =
    let e : Replaced = record { word = c.replaced.inside.word; value = c.replaced.inside.value } in
    let entry = entry_at c.args.past.now c.loop-time.time (length c.args.floors.now) e c.index-past-time.result c.replaced.view_is c.index-past-time.is c.loop-time-test.true c.requires in
    let kept = c.loop-time.invariant in
    let known : e.word < length c.loop-time.present.items = omega (arith, entry.1, kept.1) in
    let counted = c.index_mut-in-loop-time.ensures.value ∙ get_or_default_zero c.loop-time.present.items e.word c.index_mut-in-loop-time.result.now known in
    let long = length-set c.loop-time.present.items e.word (c.index_mut-in-loop-time.result.now + 1) ∙ kept.1 in
    let counts = rw (← counted) at (count_on c.args.past.now c.loop-time.present.items c.loop-time.time (length c.args.floors.now) e c.loop-time-test.true entry.0 kept.1 entry.1 kept.3) in
    elim c.if-time-floors.branch [
      | then-time-floors w ↦
          let inside : e.word < length c.loop-time.floor.items = omega (arith, entry.1, kept.0) in
          let before = w.index_mut.ensures.value ∙ get_or_default_zero c.loop-time.floor.items e.word w.index_mut.result.now inside in
          rw w.floor-is (
            length-set c.loop-time.floor.items e.word (w.index_mut.result.now + 1) ∙ kept.0,
            long,
            rw (← before) at (floor_on_before c.args.past.now c.loop-time.floor.items c.args.floors.now c.loop-time.time (length c.args.floors.now) e c.loop-time-test.true entry.0 kept.0 entry.1 w.if-time-floors.true kept.2),
            counts,
          )
      | else-time-floors w ↦ rw w.floor-is (
        kept.0,
        long,
        floor_on_after c.args.past.now c.loop-time.floor.items c.args.floors.now c.loop-time.time (length c.args.floors.now) e c.loop-time-test.true entry.0 entry.1 w.if-time-floors.false kept.2,
        counts,
      )
    ]

pub overflow_add-index_mut : goal.overflow_add-index_mut
overflow_add-index_mut c =
    let e : Replaced = record { word = c.replaced.inside.word; value = c.replaced.inside.value } in
    let entry = entry_at c.args.past.now c.loop-time.time (length c.args.floors.now) e c.index-past-time.result c.replaced.view_is c.index-past-time.is c.loop-time-test.true c.requires in
    let kept = c.loop-time.invariant in
    let known : e.word < length c.loop-time.floor.items = omega (arith, entry.1, kept.0) in
    let counted = c.index_mut.ensures.value ∙ get_or_default_zero c.loop-time.floor.items e.word c.index_mut.result.now known ∙ kept.2 e.word entry.1 in
    let few = index_at-few c.args.past.now (min c.loop-time.time (slice_index c.args.floors.now e.word)) e.word in
    omega (arith, counted, few, c.loop-time-test.true)

pub overflow_add-index_mut-in-loop-time : goal.overflow_add-index_mut-in-loop-time
overflow_add-index_mut-in-loop-time c =
    let e : Replaced = record { word = c.replaced.inside.word; value = c.replaced.inside.value } in
    let entry = entry_at c.args.past.now c.loop-time.time (length c.args.floors.now) e c.index-past-time.result c.replaced.view_is c.index-past-time.is c.loop-time-test.true c.requires in
    let kept = c.loop-time.invariant in
    let known : e.word < length c.loop-time.present.items = omega (arith, entry.1, kept.1) in
    let counted = c.index_mut-in-loop-time.ensures.value ∙ get_or_default_zero c.loop-time.present.items e.word c.index_mut-in-loop-time.result.now known ∙ kept.3 e.word entry.1 in
    omega (arith, counted, index_at-few c.args.past.now c.loop-time.time e.word, c.loop-time-test.true)

pub returns-clause-floor : goal.returns-clause-floor
returns-clause-floor c = λ w below.
    let all : min c.loop-time.time (slice_index c.args.floors.now w) ≡ min (length c.args.past.now) (slice_index c.args.floors.now w) = omega (arith, c.loop-time-test.false, c.loop-time.auto.time-end) in
    c.loop-time.invariant.2 w below ∙ ap (λ (t : ℕ). index_at c.args.past.now t w) all ∙ index_at-cut c.args.past.now (slice_index c.args.floors.now w) w

pub returns-clause-present : goal.returns-clause-present
returns-clause-present c = λ w below. rw (take_all c.loop-time.time c.args.past.now c.loop-time-test.false) at (c.loop-time.invariant.3 w below)

pub returns-clause-few : goal.returns-clause-few
returns-clause-few c = λ w below.
    omega (arith, c.loop-time.invariant.3 w below, index_at-few c.args.past.now c.loop-time.time w, c.loop-time.auto.time-end)
