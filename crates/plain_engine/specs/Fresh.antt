-- The words of a log block that has no entry yet.
use Rattle.std.specs.Prelude.{ℕ, ◌≡◌, ◌==◌, if◌then◌else◌}
use Rattle.log_entry.specs.Words.{block_word}
use Rattle.log_entry.specs.declared.words.BlockKind.TheVariants.{Log}

-- the second word says that it is a log block and where it begins, and each other is 0
abbrev pub IsFreshWord : ℕ → ℕ → ℕ → Type 0
IsFreshWord position index word = word ≡ (if index == 1 then block_word (record { kind = Log; base = position }) else 0)
