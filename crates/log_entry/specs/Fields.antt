-- Neighbouring bits of a word, as numbers.
use Rattle.std.specs.Prelude.{ℕ, ◌*◌, ◌/◌, ◌%◌, ◌^◌}
use Rattle.log_entry.specs.declared.fields.Field.{Field}

-- the number that a field of the word is
abbrev pub field : Field → ℕ → ℕ
field at word = word / 2 ^ at.low % 2 ^ at.width

-- what a number adds to a word that has it in a field
abbrev pub field_word : Field → ℕ → ℕ
field_word at value = value * 2 ^ at.low
