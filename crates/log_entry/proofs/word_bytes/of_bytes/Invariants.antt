use Rattle.std.proofs.Common.{◌≡◌, ◌*◌, ◌<◌, ◌^◌, take}
use Rattle.std.specs.List.{All}
use Rattle.log_entry.specs.WordBytes.{word_bytes}
use Rattle.log_entry.proofs.word_bytes.of_bytes.Given as goal

abbrev pub invariant-loop-index : goal.invariant-loop-index
invariant-loop-index l = record {
  read : word_bytes l.words.items ≡ take (8 * l.index) l.bytes;
  fit : All (λ word. word < 2 ^ 64) l.words.items;
}
