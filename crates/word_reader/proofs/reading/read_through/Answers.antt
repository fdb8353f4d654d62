-- What was read so far and what was read then are what was taken.
use Rattle.std.proofs.Common.{◌+◌, ◌++◌, List, ℕ, take, subst, sym, arith, ◌∙◌}
use Rattle.io_ends.specs.Taking.{Takes}
use Rattle.log_entry.specs.WordBytes.{word_bytes}
use Rattle.word_reader.proofs.BulkLemmas.{taken_behind, length-with_first}
use Rattle.word_reader.proofs.reading.read_through.Goals as goal

pub returns-then-count-room-clause-part : goal.returns-then-count-room-clause-part
returns-then-count-room-clause-part g c =
    let loop = c.loop-count in
    let buffer = c.read_behind.new.buffer in
    let total = length-with_first loop.words.items buffer (loop.kept + c.in-Bytes.count) (omega (arith, c.in-Bytes.ensures.count, c.one_more.ensures, loop.invariant.long, loop.invariant.few, c.read_behind.auto.buffer)) in (
      word_bytes loop.words.items ++ take (loop.kept + c.in-Bytes.count) buffer,
      omega (arith, total, loop.invariant.fits, c.if-count-room.true, c.in-Bytes.ensures.count, c.one_more.ensures.excess, c.len.ensures, loop.words.ok.0),
      taken_behind (g.S.Source.left c.args.source.now) (g.S.Source.left loop.source) (g.S.Source.left c.read_behind.new.source) (word_bytes loop.words.items) loop.buffer buffer loop.kept c.in-Bytes.count loop.invariant.taken c.in-Bytes.ensures.bytes c.in-Bytes.ensures.front,
    )

pub returns-in-Err-clause-part : goal.returns-in-Err-clause-part
returns-in-Err-clause-part g c =
    let loop = c.loop-count in
    let buffer = c.read_behind.new.buffer in
    let total = length-with_first loop.words.items buffer (loop.kept + c.in-Bytes.count) (omega (arith, c.in-Bytes.ensures.count, c.one_more.ensures, loop.invariant.long, loop.invariant.few, c.read_behind.auto.buffer)) in (
      word_bytes loop.words.items ++ take (loop.kept + c.in-Bytes.count) buffer,
      omega (arith, total, loop.invariant.fits, c.if-count-room.false, c.len.ensures, loop.words.ok.0),
      taken_behind (g.S.Source.left c.args.source.now) (g.S.Source.left loop.source) (g.S.Source.left c.read_behind.new.source) (word_bytes loop.words.items) loop.buffer buffer loop.kept c.in-Bytes.count loop.invariant.taken c.in-Bytes.ensures.bytes c.in-Bytes.ensures.front,
    )

pub loop-count-preserved : goal.loop-count-preserved
loop-count-preserved g c =
    let loop = c.loop-count in
    let buffer = c.read_behind.new.buffer in
    let moved = c.in-Ok.ensures in
    record {
      long = c.move_words.auto.buffer ∙ c.read_behind.auto.buffer ∙ loop.invariant.long;
      few = moved.few;
      fits = omega (arith, moved.count, loop.invariant.fits, c.if-count-room.false, c.len.ensures);
      taken = subst (λ (bytes : List ℕ). Takes (g.S.Source.left c.args.source.now) (g.S.Source.left c.read_behind.new.source) bytes) (sym moved.same)
          (taken_behind (g.S.Source.left c.args.source.now) (g.S.Source.left loop.source) (g.S.Source.left c.read_behind.new.source) (word_bytes loop.words.items) loop.buffer buffer loop.kept c.in-Bytes.count loop.invariant.taken c.in-Bytes.ensures.bytes c.in-Bytes.ensures.front);
      later = omega (arith, loop.invariant.later, c.in-Bytes.ensures.later);
      counts = λ exact. c.in-Bytes.ensures.cause exact ∙ loop.invariant.counts exact;
    }

pub returns-in-Failed-clause-part : goal.returns-in-Failed-clause-part
returns-in-Failed-clause-part g c =
    let loop = c.loop-count in
    let total = length-with_first loop.words.items loop.buffer loop.kept (omega (arith, loop.invariant.long, loop.invariant.few)) in (
      word_bytes loop.words.items ++ take loop.kept loop.buffer,
      omega (arith, total, loop.invariant.fits, loop.words.ok.0),
      rw c.in-Failed.ensures.bytes loop.invariant.taken,
    )
