use Rattle.std.proofs.Common.{◌≡◌, ◌+◌, ◌*◌, ◌/◌, ◌%◌, ◌<◌, ℕ, Some, sym, ap, subst, ◌∙◌}
use Rattle.pmem_words.specs.Maps.{map_at}
use Rattle.log_core.specs.Works.{words_of}
use Rattle.log_entry.specs.Shape.{words_of_block}
use Rattle.read_validate.specs.Ranges.{rest_of}
use Rattle.read_validate.proofs.NextMapped.{rest_here, rest_on, rest_past}
use Rattle.read_validate.proofs.range.next_mapped.Goals as goal

pub returns-in-Some : goal.returns-in-Some
returns-in-Some c =
    (let size : c.from-block_bytes.result ≡ c.args.seat.now.geometry.block_bytes = c.from-block_bytes.ensures ∙ (c.block_bytes.ensures.value ∙ ap (λ g. g.block_bytes) c.geometry.ensures) in
    let few : c.loop-place.place / c.args.seat.now.geometry.block_bytes < 65536 = subst (λ (n : ℕ). c.loop-place.place / n < 65536) size c.if-place-block_bytes-lt65536.true in
    let found = c.in-Some.ensures ∙ ap (λ (n : ℕ). map_at c.args.seat.now.walk.map (c.loop-place.place / n)) size in
    let words : c.q.result ≡ words_of c.args.seat.now = c.q.ensures ∙ ap (λ g. words_of_block g.block_bytes) c.geometry-in-Some.ensures in
    ap (λ (w : ℕ). Some (record { place = c.loop-place.place; end = c.args.end; word = w * c.q.result + c.loop-place.place % c.from-block_bytes.result / 8 })) c.from.ensures
    ∙ (ap (λ (w : ℕ). Some (record { place = c.loop-place.place; end = c.args.end; word = c.in-Some.block * w + c.loop-place.place % c.from-block_bytes.result / 8 })) words
    ∙ (ap (λ (w : ℕ). Some (record { place = c.loop-place.place; end = c.args.end; word = c.in-Some.block * words_of c.args.seat.now + c.loop-place.place % w / 8 })) size
    ∙ (sym (rest_here c.args.end c.loop-place.place c.args.seat.now c.loop-place-test.true few c.in-Some.block found) ∙ c.loop-place.invariant.same))))

pub loop-place-preserved : goal.loop-place-preserved
loop-place-preserved c =
    (let size : c.from-block_bytes.result ≡ c.args.seat.now.geometry.block_bytes = c.from-block_bytes.ensures ∙ (c.block_bytes.ensures.value ∙ ap (λ g. g.block_bytes) c.geometry.ensures) in
    let few : c.loop-place.place / c.args.seat.now.geometry.block_bytes < 65536 = subst (λ (n : ℕ). c.loop-place.place / n < 65536) size c.if-place-block_bytes-lt65536.true in
    let found = c.in_default.ensures ∙ ap (λ (n : ℕ). map_at c.args.seat.now.walk.map (c.loop-place.place / n)) size in
    record {
      same = ap (λ (n : ℕ). rest_of c.args.end ((c.loop-place.place / n + 1) * n) c.args.seat.now) size
          ∙ (sym (rest_on c.args.end c.loop-place.place c.args.seat.now c.loop-place-test.true few found) ∙ c.loop-place.invariant.same);
    })

pub returns-after-loop-place : goal.returns-after-loop-place
returns-after-loop-place c = sym (rest_past c.args.end c.loop-place.place c.args.seat.now c.loop-place-test.false) ∙ c.loop-place.invariant.same
