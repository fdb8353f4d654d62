-- The bytes after the words come to the front.
use Rattle.std.proofs.Common.{◌*◌, ◌/◌, arith}
use Rattle.word_reader.proofs.BulkLemmas.{rest_moved}
use Rattle.word_reader.proofs.reading.move_words.Goals as goal

pub returns-clause-same : goal.returns-clause-same
returns-clause-same c =
    rw c.copy_within.ensures.after
    (rest_moved c.args.words.now.items c.push_words.new.words.items c.args.buffer.now c.args.filled (c.args.filled / 8 * 8) (omega arith) c.requires c.in_ok-push_words.ensures.same)
