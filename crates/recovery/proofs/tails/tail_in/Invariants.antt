use Rattle.std.proofs.Common.{◌≡◌, ◌+◌, length, drop}
use Rattle.log_image.specs.Blocks.{slots_of, entry_words, is_closed}
use Rattle.recovery.proofs.tails.tail_in.Given as goal

abbrev pub invariant-loop-slot : goal.invariant-loop-slot
invariant-loop-slot l = record {
  closed : is_closed (slots_of l.words) ≡ is_closed (drop l.slot l.words);
  entries : 3 + length (entry_words (slots_of l.words)) ≡ l.slot + length (entry_words (drop l.slot l.words));
}
