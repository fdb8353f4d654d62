use Rattle.std.proofs.Common.{◌≡◌, ◌∙◌, ◌+◌, ◌-◌, ◌%◌, ◌≤◌, ℕ, List, ◌++◌, take, drop, length, length-append, length-take, length-drop, get_or, ap, refl, arith}
use Rattle.plain_engine.proofs.ReadLemmas.{read_is, read_word}
use Rattle.plain_engine.proofs.engine.PlainEngine.read.Goals as goal

pub loop-place-preserved : goal.loop-place-preserved
loop-place-preserved c =
    let more : c.extend_from_slice.new.self.items ≡ c.loop-place.bytes.items ++ take (c.loop-place.place % 8 + c.min-upto.result - c.loop-place.place % 8) (drop (c.loop-place.place % 8) c.write_u64.new.buf) = c.in_ok-extend_from_slice.ensures.items in
    let eight : length c.write_u64.new.buf ≡ 8 = ap length c.write_u64.ensures in
    let small : c.loop-place.place % 8 + c.min-upto.result ≤ 8 = omega (arith, c.min-upto.ensures) in
    let upto : c.loop-place.place % 8 + c.min-upto.result - c.loop-place.place % 8 ≡ c.min-upto.result = omega arith in
    let piece : length (take (c.loop-place.place % 8 + c.min-upto.result - c.loop-place.place % 8) (drop (c.loop-place.place % 8) c.write_u64.new.buf)) ≡ c.min-upto.result =
    length-take (c.loop-place.place % 8 + c.min-upto.result - c.loop-place.place % 8) (drop (c.loop-place.place % 8) c.write_u64.new.buf) ∙ omega (arith, length-drop (c.loop-place.place % 8) c.write_u64.new.buf, eight, small, upto) in
    record {
      low = omega (arith, c.loop-place.invariant.low);
      high = omega (arith, c.min-upto.ensures, c.loop-place-test.true);
      long = ap length more ∙ length-append c.loop-place.bytes.items (take (c.loop-place.place % 8 + c.min-upto.result - c.loop-place.place % 8) (drop (c.loop-place.place % 8) c.write_u64.new.buf)) ∙ omega (arith, piece, c.loop-place.invariant.long, c.loop-place.invariant.low);
      same = λ chain file runs at inside. ap (λ (l : List ℕ). get_or l at 0) more
          ∙ read_word file c.loop-place.bytes.items c.write_u64.new.buf (take (c.loop-place.place % 8 + c.min-upto.result - c.loop-place.place % 8) (drop (c.loop-place.place % 8) c.write_u64.new.buf)) c.min-start.result c.loop-place.place (c.loop-place.place % 8) c.min-upto.result c.word.result
          c.loop-place.invariant.long c.loop-place.invariant.low (c.loop-place.invariant.same chain file runs) refl small (ap (λ (n : ℕ). take n (drop (c.loop-place.place % 8) c.write_u64.new.buf)) upto) piece
          (λ k below. ap (λ (l : List ℕ). get_or l k 0) c.write_u64.ensures ∙ c.word.ensures chain file runs k below) at inside;
    }

pub returns : goal.returns
returns c = λ chain file runs.
    let end : c.loop-place.place ≡ c.min-start.result + c.min-count.result = omega (arith, c.loop-place-test.false, c.loop-place.invariant.high) in
    read_is file c.loop-place.bytes.items c.args.offset c.args.count c.min-start.result c.min-count.result (omega (arith, c.min-start.ensures, c.size-size.ensures, runs.fits.size)) (omega (arith, c.min-count.ensures, c.size-size.ensures, runs.fits.size))
    (omega (arith, c.loop-place.invariant.long, end)) (λ k inside. c.loop-place.invariant.same chain file runs k (omega (arith, inside, end)))
