use Rattle.std.proofs.Common.{ℕ, suc, List, ◌≡◌, ◌≢◌, ◌+◌, ◌∙◌, sym, ap, length, arith}
use Rattle.log_entry.specs.declared.words.RunWord.{RunWord}
use Rattle.log_core.specs.Works.{owned_block}
use Rattle.pmem_words.specs.Owned.{owned_at}
use Rattle.pmem_words.specs.declared.owned.OwnedBlock.{OwnedBlock}
use Rattle.pmem_words.specs.Seats.{Seat}
use Rattle.partial_blocks.proofs.RunsChange.{word_long}
use Rattle.partial_blocks.proofs.RunsSet.{longer, another, set_more}
use Rattle.partial_blocks.proofs.runs.compose_runs.Goals as goal
use Rattle.partial_blocks.proofs.runs.compose_runs.Goals.{then-from, else-from}

pub loop-last-preserved : goal.loop-last-preserved
loop-last-preserved c =
    let i = c.loop-last.invariant in
    let up : c.loop-last.last + 1 ≡ suc c.loop-last.last = omega arith in
    let many = ap (λ (s : Seat). length s.blocks.owned) c.set_word-in-loop-last.ensures ∙ (word_long c.args.count c.if-from.runs c.encode-in-loop-last.result c.loop-last.seat ∙ i.many) in
    let geometry = ap (λ (s : Seat). s.geometry) c.set_word-in-loop-last.ensures ∙ i.geometry in
    let block : ℕ = (owned_at c.owned-in-loop-last.result.now (c.loop-last.last + 1)).block in
    let here : block ≡ owned_block c.loop-last.seat (c.loop-last.last + 1) = ap (λ (owned : List OwnedBlock). (owned_at owned (c.loop-last.last + 1)).block) c.owned-in-loop-last.ensures in
    elim c.if-from.branch [
      | then-from w ↦
          (let next : c.loop-last.run.block + c.loop-last.run.count ≡ block = omega (arith, w.if-from.true, c.from.ensures, c.from-in-loop-last.ensures, c.from-in-loop-last-2.ensures) in
          let more = longer c.args.count c.loop-last.last (c.loop-last.last + 1) up c.args.seat.now c.loop-last.seat c.loop-last.run c.loop-last.runs block i.seat i.run i.runs here next in
          let run = w.run-is ∙ sym more.0 in
          let runs = w.runs-is ∙ sym more.1 in
          record {
            seat = c.set_word-in-loop-last.ensures ∙ set_more c.args.count c.loop-last.last (c.loop-last.last + 1) up c.args.seat.now c.loop-last.seat c.loop-last.run c.loop-last.runs block i.seat i.run i.runs here c.if-from.run c.if-from.runs c.encode-in-loop-last.result run runs c.encode-in-loop-last.ensures;
            run = run;
            runs = runs;
            many = many;
            geometry = geometry;
            few = (let same = w.runs-is in let low = i.few in omega (arith, same, low));
            short = (let same = ap (λ (r : RunWord). r.count) w.run-is in let low = i.short in omega (arith, same, low));
            small = (let same = ap (λ (r : RunWord). r.block) w.run-is in let low = i.small in omega (arith, same, low));
          })
      | else-from w ↦
          (let apart : c.loop-last.run.block + c.loop-last.run.count ≢ block = λ same. (let other = w.if-from.false in omega (arith, same, other, c.from.ensures, c.from-in-loop-last.ensures, c.from-in-loop-last-2.ensures)) in
          let more = another c.args.count c.loop-last.last (c.loop-last.last + 1) up c.args.seat.now c.loop-last.seat c.loop-last.run c.loop-last.runs block i.seat i.run i.runs here apart in
          let run = w.run-is ∙ sym more.0 in
          let runs = w.runs-is ∙ sym more.1 in
          record {
            seat = c.set_word-in-loop-last.ensures ∙ set_more c.args.count c.loop-last.last (c.loop-last.last + 1) up c.args.seat.now c.loop-last.seat c.loop-last.run c.loop-last.runs block i.seat i.run i.runs here c.if-from.run c.if-from.runs c.encode-in-loop-last.result run runs c.encode-in-loop-last.ensures;
            run = run;
            runs = runs;
            many = many;
            geometry = geometry;
            few = (let same = w.runs-is in let low = i.few in omega (arith, same, low));
            short = (let same = ap (λ (r : RunWord). r.count) w.run-is in omega (arith, same));
            small = (let same = ap (λ (r : RunWord). r.block) w.run-is in let is = c.from-in-loop-last-2.ensures in let low = c.encode-in-loop-last.ensures.block in omega (arith, same, low));
          })
    ]
