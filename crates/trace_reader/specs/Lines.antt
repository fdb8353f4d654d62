-- The lines of a text, and the fields of a line.
use Rattle.std.specs.Prelude.{ℕ, ◌-◌, ◌==◌, ◌||◌, Bool, if◌then◌else◌, List, [], ◌∷◌, length, take, filter, slice_index}
use Rattle.log_entry.specs.Legal.{is_some_bytes}

-- the byte that ends a line
abbrev pub is_newline : ℕ → Bool
is_newline byte = byte == 10

-- the bytes between fields: a space and a tab
abbrev pub is_blank : ℕ → Bool
is_blank byte = byte == 32 || byte == 9

-- the pieces with a byte more at the front of the first
abbrev pub begin_with : ℕ → List (List ℕ) → List (List ℕ)
begin_with byte [] = (byte ∷ []) ∷ []
begin_with byte (piece ∷ rest) = (byte ∷ piece) ∷ rest

-- what stands before, between and after the bytes of a text that pass this test
abbrev pub pieces : (ℕ → Bool) → List ℕ → List (List ℕ)
pieces test [] = [] ∷ []
pieces test (byte ∷ text) = if test byte then [] ∷ pieces test text else begin_with byte (pieces test text)

-- a line without the carriage return at its end, if one is there
abbrev pub without_return : List ℕ → List ℕ
without_return line = if slice_index line (length line - 1) == 13 then take (length line - 1) line else line

-- the pieces between newlines as lines: each but the last was ended by a newline, and the last is a line where it has bytes
abbrev pub ended_lines : List (List ℕ) → List (List ℕ)
ended_lines [] = []
ended_lines ([] ∷ []) = []
ended_lines ((byte ∷ piece) ∷ []) = (byte ∷ piece) ∷ []
ended_lines (piece ∷ next ∷ rest) = without_return piece ∷ ended_lines (next ∷ rest)

-- the lines of a text, in order: each ends with a newline, which the last may lack; one carriage return before the newline is no part of it
abbrev pub lines_of : List ℕ → List (List ℕ)
lines_of text = ended_lines (pieces is_newline text)

-- the fields of a line, in order: what stands between blanks
abbrev pub fields_of : List ℕ → List (List ℕ)
fields_of line = filter is_some_bytes (pieces is_blank line)
