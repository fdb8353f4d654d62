use Rattle.std.proofs.Common.{◌≡◌, ℕ, ◌+◌, ◌-◌, ◌%◌, ◌<◌, ◌≤◌, length, length-set, sym, ap, ◌∙◌, below_more, arith, rules}
use Rattle.std.proofs.lemmas.Grind.{get_or_default_zero}
use Rattle.rand_pcg.specs.Lcg.{Lcg}
use Rattle.rand_pcg.specs.Pcg.{pcg32}
use Rattle.persistence.specs.Memory.{Memory, cell}
use Rattle.persistence.specs.Choices.{generator_at, chosen_index}
use Rattle.persistence.specs.declared.survivors.Choice.TheVariants.{Drawn}
use Rattle.persistence.proofs.ChoiceLemmas.{floor_inside, drawn_several, drawn_single, generator_next, drawn_set, floors_rest}
use Rattle.persistence.proofs.cells.Cells.drawn_indices.Goals as goal
use Rattle.persistence.proofs.cells.Cells.drawn_indices.Goals.{then-later-gt0, else-later-gt0}

pub overflow_sub-later : goal.overflow_sub-later
overflow_sub-later c =
    let below : c.loop-word.word < length c.args.self.now.memory.now.words = search rules in
    let last = c.index.ensures ∙ get_or_default_zero c.args.limits.present.items c.loop-word.word c.index.result.now (omega (arith, below, c.requires.present_len)) ∙ c.requires.present c.loop-word.word below in
    let first = c.index-in-loop-word.ensures ∙ get_or_default_zero c.loop-word.indices.items c.loop-word.word c.index-in-loop-word.result.now (omega (arith, below, c.loop-word.invariant.0)) ∙ c.loop-word.invariant.3 c.loop-word.word (omega arith) below in
    rw (last, first) (floor_inside c.args.self.now.memory c.loop-word.word)

pub overflow_add-later : goal.overflow_add-later
overflow_add-later c =
    let below : c.loop-word.word < length c.args.self.now.memory.now.words = search rules in
    let last = c.index.ensures ∙ get_or_default_zero c.args.limits.present.items c.loop-word.word c.index.result.now (omega (arith, below, c.requires.present_len)) in
    omega (arith, last, c.requires.few c.loop-word.word below)

pub loop-word-preserved : goal.loop-word-preserved
loop-word-preserved c =
    let memory : Memory = c.args.self.now.memory in
    let word : ℕ = c.loop-word.word in
    let below : word < length memory.now.words = search rules in
    let inside : word < length c.loop-word.indices.items = omega (arith, below, c.loop-word.invariant.0) in
    let at_floor = c.loop-word.invariant.3 word (omega arith) below in
    let last = c.index.ensures ∙ get_or_default_zero c.args.limits.present.items word c.index.result.now (omega (arith, below, c.requires.present_len)) ∙ c.requires.present word below in
    let first = c.index-in-loop-word.ensures ∙ get_or_default_zero c.loop-word.indices.items word c.index-in-loop-word.result.now inside ∙ at_floor in
    elim c.if-later-gt0.branch [
      | then-later-gt0 w ↦
          let several : (cell memory word).floor < length (cell memory word).past = omega (arith, last, first, w.if-later-gt0.true) in
          let drawn = drawn_several (generator_at c.args.seed memory word) (cell memory word) several in
          let at = w.index_mut.ensures.value ∙ get_or_default_zero c.loop-word.indices.items word w.index_mut.result.now inside ∙ at_floor in
          let draw : w.from-drawn.result ≡ (pcg32 (generator_at c.args.seed memory word)).0 =
          w.from-drawn.ensures ∙ ap (λ (p : ℕ × Lcg). p.0) w.next_word.ensures ∙ ap (λ (g : Lcg). (pcg32 g).0) c.loop-word.invariant.1 in
          let value : w.index_mut.result.now + w.from-drawn.result % (c.index.result.now - c.index-in-loop-word.result.now + 1) ≡ chosen_index (Drawn c.args.seed) memory word =
          rw (at, draw, last, first) (sym (ap (λ (n : ℕ). (cell memory word).floor + n) drawn.0)) in
          rw (w.indices-is, w.generator-is) (
            length-set c.loop-word.indices.items word (w.index_mut.result.now + w.from-drawn.result % (c.index.result.now - c.index-in-loop-word.result.now + 1)) ∙ c.loop-word.invariant.0,
            ap (λ (p : ℕ × Lcg). p.1) w.next_word.ensures ∙ ap (λ (g : Lcg). (pcg32 g).1) c.loop-word.invariant.1 ∙ sym drawn.1 ∙ sym (generator_next c.args.seed memory word),
            drawn_set c.args.seed memory c.loop-word.indices.items word (w.index_mut.result.now + w.from-drawn.result % (c.index.result.now - c.index-in-loop-word.result.now + 1)) inside value c.loop-word.invariant.2,
            floors_rest memory c.loop-word.indices.items word (w.index_mut.result.now + w.from-drawn.result % (c.index.result.now - c.index-in-loop-word.result.now + 1)) (length memory.now.words) c.loop-word.invariant.3,
          )
      | else-later-gt0 w ↦
          let single : length (cell memory word).past ≤ (cell memory word).floor = omega (arith, last, first, w.if-later-gt0.false) in
          let drawn = drawn_single (generator_at c.args.seed memory word) (cell memory word) single in
          rw (w.indices-is, w.generator-is) (
            c.loop-word.invariant.0,
            c.loop-word.invariant.1 ∙ sym drawn.1 ∙ sym (generator_next c.args.seed memory word),
            below_more _ _ c.loop-word.invariant.2 (omega (arith, at_floor, drawn.0)),
            λ k after known. c.loop-word.invariant.3 k (omega (arith, after)) known,
          )
    ]
