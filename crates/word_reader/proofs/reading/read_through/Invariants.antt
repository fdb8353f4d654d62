use Rattle.std.proofs.Common.{◌≡◌, ◌+◌, ◌-◌, ◌*◌, ◌<◌, ◌≤◌, ◌++◌, length, take, vec_len}
use Rattle.io_ends.specs.Faults.{Stays}
use Rattle.io_ends.specs.Taking.{Takes}
use Rattle.log_entry.specs.WordBytes.{word_bytes}
use Rattle.word_reader.specs.declared.reading.TheConstants.{PIECE}
use Rattle.word_reader.proofs.reading.read_through.Given as goal

abbrev pub invariant-loop-count : goal.invariant-loop-count
invariant-loop-count g l = record {
  long : length l.buffer ≡ 8 + PIECE;
  few : l.kept < 8;
  fits : 8 * vec_len l.words + l.kept ≤ l.limit;
  taken : Takes (g.S.Source.left l.initial.source) (g.S.Source.left l.source) (word_bytes l.words.items ++ take l.kept l.buffer);
  later : g.S.Source.faults l.initial.source ≤ g.S.Source.faults l.source;
  counts : Stays g.S.Source.exact (g.S.Source.faults l.initial.source) (g.S.Source.faults l.source);
}

abbrev pub decreases-loop-count : goal.decreases-loop-count
decreases-loop-count g l = l.limit + 1 - (8 * vec_len l.words + l.kept)
