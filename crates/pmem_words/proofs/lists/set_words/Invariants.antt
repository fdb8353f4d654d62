use Rattle.std.proofs.Common.{◌≡◌}
use Rattle.pmem_words.specs.ByteWords.{words_set}
use Rattle.pmem_words.proofs.lists.set_words.Given as goal

abbrev pub invariant-loop-word : goal.invariant-loop-word
invariant-loop-word l = record { words : l.words ≡ words_set l.bytes l.fn.words l.start l.word }
