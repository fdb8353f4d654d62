-- The pieces of a text: its first line, and the first field of a line.
use Rattle.std.proofs.Common.{◌≡◌, ℕ, ◌+◌, ◌<◌, ◌⊎◌, Bool, cond, true, false, List, [], ◌∷◌, ◌++◌, length, get_or, take, drop, inl, inr, refl, sym, ap, ◌∙◌, arith}
use Rattle.std.proofs.lemmas.Bool.{cases_eq, false≢true}
use Rattle.std.proofs.lemmas.List.{take-append-drop, get_or-take, drop_more, length-take-le, drop_all, take_all}
use Rattle.std.proofs.lemmas.List.Elements.{All-head, All-tail, All-from_get_or}
use Rattle.std.specs.List.{All, filter}
use Rattle.memchr.specs.Find.{Nowhere, NoneBefore, Passes}
use Rattle.log_entry.specs.Legal.{is_some_bytes}
use Rattle.trace_reader.specs.Lines.{is_newline, is_blank, begin_with, pieces, without_return, ended_lines, lines_of, fields_of}

-- no byte of a text passes the test
abbrev pub NonePasses : (ℕ → Bool) → List ℕ → Type 0
NonePasses test text = All (λ byte. test byte ≡ false) text

fails : (b : Bool) → (b ≡ true → ⊥) → b ≡ false
fails true wrong = absurd (wrong refl)
fails false wrong = refl

-- where no byte passes the test there is one piece
pub pieces-whole : (test : ℕ → Bool) (text : List ℕ) → NonePasses test text → pieces test text ≡ text ∷ []
pieces-whole test [] none = refl
pieces-whole test (byte ∷ text) none =
    let first : test byte ≡ false = All-head (λ x. test x ≡ false) byte text none in
    let rest = pieces-whole test text (All-tail (λ x. test x ≡ false) byte text none) in
    rw (first, rest) refl

-- the piece before the first byte that passes
pub pieces-front : (test : ℕ → Bool) (front : List ℕ) (end : ℕ) (rest : List ℕ) → NonePasses test front → test end ≡ true → pieces test (front ++ end ∷ rest) ≡ front ∷ pieces test rest
pieces-front test [] end rest none passes = rw passes refl
pieces-front test (byte ∷ front) end rest none passes =
    let first : test byte ≡ false = All-head (λ x. test x ≡ false) byte front none in
    let more = pieces-front test front end rest (All-tail (λ x. test x ≡ false) byte front none) passes in
    rw (first, more) refl

-- there is a first piece
begun : (byte : ℕ) (found : List (List ℕ)) → (piece : List ℕ) × (rest : List (List ℕ)) × (begin_with byte found ≡ piece ∷ rest)
begun byte [] = (byte ∷ [], [], refl)
begun byte (piece ∷ rest) = (byte ∷ piece, rest, refl)

pieces-of : (b : Bool) (byte : ℕ) (found : List (List ℕ)) → (piece : List ℕ) × (rest : List (List ℕ)) × (cond b ([] ∷ found) (begin_with byte found) ≡ piece ∷ rest)
pieces-of true byte found = ([], found, refl)
pieces-of false byte found = begun byte found

pieces-some : (test : ℕ → Bool) (text : List ℕ) → (piece : List ℕ) × (rest : List (List ℕ)) × (pieces test text ≡ piece ∷ rest)
pieces-some test [] = ([], [], refl)
pieces-some test (byte ∷ text) = pieces-of (test byte) byte (pieces test text)

ended_more : (piece next : List ℕ) (rest : List (List ℕ)) → ended_lines (piece ∷ next ∷ rest) ≡ without_return piece ∷ ended_lines (next ∷ rest)
ended_more [] next rest = refl
ended_more (byte ∷ piece) next rest = refl

-- a line that a newline ends
pub lines-front : (line rest : List ℕ) → NonePasses is_newline line → lines_of (line ++ 10 ∷ rest) ≡ without_return line ∷ lines_of rest
lines-front line rest none =
    let some = pieces-some is_newline rest in
    let cut = pieces-front is_newline line 10 rest none refl in
    ap ended_lines (cut ∙ ap (λ (found : List (List ℕ)). line ∷ found) some.2) ∙ ended_more line some.0 some.1 ∙ ap (λ (found : List (List ℕ)). without_return line ∷ ended_lines found) (sym some.2)

-- the last line, that none ends
pub lines-last : (text : List ℕ) → 0 < length text → NonePasses is_newline text → lines_of text ≡ text ∷ []
lines-last [] some none = absurd (omega arith)
lines-last (byte ∷ text) some none = ap ended_lines (pieces-whole is_newline (byte ∷ text) none)

-- what a search tells of a text
pub nowhere : (test : ℕ → Bool) (text : List ℕ) → Nowhere (Passes test text) 0 (length text) → NonePasses test text
nowhere test text none = All-from_get_or (λ x. test x ≡ false) text 0 (λ i inside. fails (test (get_or text i 0)) (none i (omega arith) inside))

pub none_before : (test : ℕ → Bool) (text : List ℕ) (end : ℕ) → NoneBefore (Passes test text) 0 (length text) end → NonePasses test (take end text)
none_before test text end found =
    let inside : end < length text = found.high in
    All-from_get_or (λ x. test x ≡ false) (take end text) 0 (λ i short.
    let long : length (take end text) ≡ end = length-take-le end text (omega arith) in
    let below : i < end = omega arith in
    rw (get_or-take end text i 0 below) (fails (test (get_or text i 0)) (found.before i (omega arith) below)))

pub split_at_found : (text : List ℕ) (end : ℕ) → end < length text → text ≡ take end text ++ get_or text end 0 ∷ drop (end + 1) text
split_at_found text end inside = sym (take-append-drop end text) ∙ ap (λ (xs : List ℕ). take end text ++ xs) (drop_more text end 0 inside)

newline_is : (byte : ℕ) → is_newline byte ≡ true → byte ≡ 10
newline_is byte is = grind (arith)

-- the line before the first newline
pub line_found : (text : List ℕ) (end : ℕ) → NoneBefore (Passes is_newline text) 0 (length text) end → Passes is_newline text end → lines_of text ≡ without_return (take end text) ∷ lines_of (drop (end + 1) text)
line_found text end found here =
    let inside : end < length text = found.high in
    let byte : get_or text end 0 ≡ 10 = newline_is (get_or text end 0) here in
    ap lines_of (split_at_found text end inside ∙ ap (λ (x : ℕ). take end text ++ x ∷ drop (end + 1) text) byte) ∙ lines-front (take end text) (drop (end + 1) text) (none_before is_newline text end found)

-- ---- fields

-- a blank at the front is no part of a field
pub blank_passed : (byte : ℕ) (rest : List ℕ) → is_blank byte ≡ true → fields_of (byte ∷ rest) ≡ fields_of rest
blank_passed byte rest blank = rw blank refl

pub blank_dropped : (text : List ℕ) (i : ℕ) → i < length text → is_blank (get_or text i 0) ≡ true → fields_of (drop i text) ≡ fields_of text → fields_of (drop (i + 1) text) ≡ fields_of text
blank_dropped text i inside blank before = sym (blank_passed (get_or text i 0) (drop (i + 1) text) blank) ∙ ap fields_of (sym (drop_more text i 0 inside)) ∙ before

some_bytes : (text : List ℕ) → 0 < length text → is_some_bytes text ≡ true
some_bytes [] some = absurd (omega arith)
some_bytes (byte ∷ text) some = refl

kept : (field : List ℕ) (found : List (List ℕ)) → 0 < length field → filter is_some_bytes (field ∷ found) ≡ field ∷ filter is_some_bytes found
kept field found some = rw (some_bytes field some) refl

-- a field that a blank ends
pub fields-front : (field : List ℕ) (end : ℕ) (rest : List ℕ) → 0 < length field → NonePasses is_blank field → is_blank end ≡ true → fields_of (field ++ end ∷ rest) ≡ field ∷ fields_of rest
fields-front field end rest some none blank = ap (filter is_some_bytes) (pieces-front is_blank field end rest none blank) ∙ kept field (pieces is_blank rest) some

-- the last field
pub fields-last : (field : List ℕ) → 0 < length field → NonePasses is_blank field → fields_of field ≡ field ∷ []
fields-last field some none = ap (filter is_some_bytes) (pieces-whole is_blank field none) ∙ kept field [] some

-- the field before the first blank, where none stands at the front
pub field_found : (text : List ℕ) (end : ℕ) → NoneBefore (Passes is_blank text) 0 (length text) end → Passes is_blank text end → is_blank (get_or text 0 0) ≡ false
    → (fields_of text ≡ take end text ∷ fields_of (drop end text)) × (0 < length (take end text))
field_found text end found here first =
    let inside : end < length text = found.high in
    let long : length (take end text) ≡ end = length-take-le end text (omega arith) in
    let some : 0 < end = elim (cases_eq end 0) [
      | inl zero ↦ absurd (false≢true (sym first ∙ ap (λ (k : ℕ). is_blank (get_or text k 0)) (sym zero) ∙ here))
      | inr more ↦ omega arith
    ] in
    let rest : fields_of (drop end text) ≡ fields_of (drop (end + 1) text) = ap fields_of (drop_more text end 0 inside) ∙ blank_passed (get_or text end 0) (drop (end + 1) text) here in (
      ap fields_of (split_at_found text end inside) ∙ fields-front (take end text) (get_or text end 0) (drop (end + 1) text) (omega arith) (none_before is_blank text end found) here
          ∙ ap (λ (found : List (List ℕ)). take end text ∷ found) (sym rest),
      omega arith,
    )

-- the same in the words of the code

pub last_line : (text : List ℕ) (n : ℕ) → n ≡ length text → 0 < length text → Nowhere (Passes is_newline text) 0 (length text) → lines_of text ≡ take n text ∷ lines_of (drop n text)
last_line text n whole some none =
    let left : drop n text ≡ [] = drop_all n text (omega arith) in
    let all : take n text ≡ text = take_all n text (omega arith) in
    rw (left, all) (lines-last text some (nowhere is_newline text none))

pub last_field : (text : List ℕ) (n : ℕ) → n ≡ length text → 0 < length text → Nowhere (Passes is_blank text) 0 (length text) → (fields_of text ≡ take n text ∷ fields_of (drop n text)) × (0 < length (take n text))
last_field text n whole some none =
    let left : drop n text ≡ [] = drop_all n text (omega arith) in
    let all : take n text ≡ text = take_all n text (omega arith) in
    rw (left, all) (fields-last text some (nowhere is_blank text none), some)

pub begins_plain : (text : List ℕ) → 0 < length text → (length text ≡ 0) ⊎ (is_blank (get_or text 0 0) ≡ false) → is_blank (get_or text 0 0) ≡ false
begins_plain text some (inl none) = absurd (omega arith)
begins_plain text some (inr plain) = plain
