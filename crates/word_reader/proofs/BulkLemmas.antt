-- Words that are read many at a time, and what a buffer keeps of the bytes after them.
use Rattle.std.proofs.Common.{◌≡◌, ℕ, suc, ◌+◌, ◌-◌, ◌*◌, ◌<◌, ◌≤◌, List, [], ◌∷◌, ◌++◌, length, take, drop, get_or, Option, refl, sym, ap, subst, ◌∙◌, inl, inr, append_assoc, length-append, length-take, length-drop, take-append-drop, drop-drop, arith}
use Rattle.std.proofs.Math.Seq.{take-append_seam, take-add, paste}
use Rattle.std.proofs.lemmas.Bool.{cases_lt}
use Rattle.std.proofs.lemmas.List.{append-nil, take_at, length-take-le, get_or-take, get_or-drop, get_or_past}
use Rattle.byteorder.specs.Endian.{little_bytes, little_number, IsRead}
use Rattle.byteorder.specs.Numbers.{little_from-take}
use Rattle.log_entry.specs.WordBytes.{word_bytes}
use Rattle.log_entry.proofs.WordBytesLemmas.{bytes_back, eight_each}
use Rattle.io_ends.specs.Taking.{Takes}
use Rattle.io_ends.proofs.TakingLemmas.{takes-twice}

-- the end of a list that was made longer, filled anew
pub end_filled : (held old zeros new after tail : List ℕ) (before len : ℕ) → held ≡ old ++ zeros → before ≡ length old → length new ≡ length zeros → after ≡ [] → len ≡ length held →
    take len ((take before held ++ (new ++ after)) ++ tail) ≡ old ++ new
end_filled held old zeros new after tail before len is begins as_many none all =
    let front : take before held ≡ old = rw (is, begins) (take-append_seam old zeros) in
    let only : new ++ after ≡ new = ap (λ (l : List ℕ). new ++ l) none ∙ append-nil new in
    let count : length (old ++ new) ≡ len = omega (arith, all, ap length is, length-append old zeros, length-append old new, as_many) in
    rw (front, only) (take_at (old ++ new) tail len count)

-- the bytes of words and of more words
pub word_bytes-append : (words others : List ℕ) → word_bytes (words ++ others) ≡ word_bytes words ++ word_bytes others
word_bytes-append [] others = refl
word_bytes-append (word ∷ words) others =
    ap (λ (rest : List ℕ). little_bytes 8 word ++ rest) (word_bytes-append words others) ∙ sym (append_assoc (little_bytes 8 word) (word_bytes words) (word_bytes others))

no_bytes : (bytes : List ℕ) → length bytes ≡ 0 → [] ≡ bytes
no_bytes [] none = refl
no_bytes (byte ∷ bytes) none = absurd (omega (arith, none))

-- the first places of a list of bytes hold bytes
part_small : (bytes : List ℕ) (count : ℕ) → ((i : ℕ) → get_or bytes i 0 < 256) → (i : ℕ) → get_or (take count bytes) i 0 < 256
part_small bytes count small i =
    elim (cases_lt i count) [
      | inl below ↦ rw (get_or-take count bytes i 0 below) (small i)
      | inr past ↦ (let end : length (take count bytes) ≤ i = simp length-take (omega arith) in rw (get_or_past (take count bytes) i 0 end) (omega arith))
    ]

-- the words that were read of bytes are those bytes
pub words_read : (words bytes : List ℕ) → length bytes ≡ 8 * length words → ((i : ℕ) → get_or bytes i 0 < 256) → IsRead little_number 8 bytes words → word_bytes words ≡ bytes
words_read [] bytes long small read = no_bytes bytes (omega (arith, long))
words_read (word ∷ words) bytes long small read =
    let eight : length (take 8 bytes) ≡ 8 = length-take-le 8 bytes (omega (arith, long)) in
    let first : word ≡ little_number 8 (take 8 bytes) = read 0 (omega arith) ∙ sym (little_from-take 0 8 8 bytes (omega arith)) in
    let here : little_bytes 8 word ≡ take 8 bytes = ap (λ (n : ℕ). little_bytes 8 n) first ∙ bytes_back (take 8 bytes) eight (part_small bytes 8 small) in
    let later : word_bytes words ≡ drop 8 bytes = words_read words (drop 8 bytes) (omega (arith, long, length-drop 8 bytes)) (λ i. rw (get_or-drop 8 bytes i 0) (small (8 + i))) (λ k inside. next k inside) in
    ap (λ (front : List ℕ). front ++ word_bytes words) here ∙ ap (λ (rest : List ℕ). take 8 bytes ++ rest) later ∙ take-append-drop 8 bytes
  where
    next : (k : ℕ) → k < length words → get_or words k 0 ≡ little_number 8 (drop (8 * k) (drop 8 bytes))
    next k inside =
        let place : 8 + 8 * k ≡ 8 * suc k = omega arith in
        read (suc k) (omega (arith, inside)) ∙ ap (λ (n : ℕ). little_number 8 (drop n bytes)) (sym place) ∙ ap (λ (l : List ℕ). little_number 8 l) (sym (drop-drop (8 * k) 8 bytes))

-- what lies behind the words in a buffer comes to its front
pub rest_moved : (words others buffer : List ℕ) (filled whole : ℕ) → whole ≤ filled → filled ≤ length buffer → word_bytes others ≡ word_bytes words ++ take whole buffer →
    word_bytes others ++ take (filled - whole) (paste buffer 0 (drop whole buffer) (filled - whole)) ≡ word_bytes words ++ take filled buffer
rest_moved words others buffer filled whole before inside same =
    let count : length (take (filled - whole) (drop whole buffer)) ≡ filled - whole = length-take-le (filled - whole) (drop whole buffer) (omega (arith, length-drop whole buffer)) in
    let moved : take (filled - whole) (paste buffer 0 (drop whole buffer) (filled - whole)) ≡ take (filled - whole) (drop whole buffer) =
    take_at (take (filled - whole) (drop whole buffer)) (drop (0 + (filled - whole)) buffer) (filled - whole) count in
    let split : take filled buffer ≡ take whole buffer ++ take (filled - whole) (drop whole buffer) =
    (let sum : whole + (filled - whole) ≡ filled = omega arith in ap (λ (n : ℕ). take n buffer) (sym sum) ∙ take-add whole (filled - whole) buffer) in
    rw (same, moved, split) (append_assoc (word_bytes words) (take whole buffer) (take (filled - whole) (drop whole buffer)))

-- what was taken first, and then behind the bytes that were kept
pub taken_behind : (before middle after : Option (List ℕ)) (bytes old new : List ℕ) (kept count : ℕ) → Takes before middle (bytes ++ take kept old) → Takes middle after (take count (drop kept new)) → take kept new ≡ take kept old →
    Takes before after (bytes ++ take (kept + count) new)
taken_behind before middle after bytes old new kept count one two same =
    let split : take (kept + count) new ≡ take kept old ++ take count (drop kept new) = take-add kept count new ∙ ap (λ (front : List ℕ). front ++ take count (drop kept new)) same in
    let all : (bytes ++ take kept old) ++ take count (drop kept new) ≡ bytes ++ take (kept + count) new = append_assoc bytes (take kept old) (take count (drop kept new)) ∙ ap (λ (rest : List ℕ). bytes ++ rest) (sym split) in
    subst (λ (taken : List ℕ). Takes before after taken) all (takes-twice before middle after (bytes ++ take kept old) (take count (drop kept new)) one two)

-- how many bytes words are with the first ones of a buffer
pub length-with_first : (words buffer : List ℕ) (count : ℕ) → count ≤ length buffer → length (word_bytes words ++ take count buffer) ≡ 8 * length words + count
length-with_first words buffer count inside =
    let first = length-take-le count buffer inside in
    omega (arith, first, eight_each words, length-append (word_bytes words) (take count buffer))
