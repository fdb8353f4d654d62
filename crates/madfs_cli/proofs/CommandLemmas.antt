-- Lists of words by their places.
use Rattle.std.proofs.Common.{◌≡◌, ℕ, List, [], ◌∷◌, length, Option, None, Some, refl, sym, ap, ◌∙◌, codes, arith, MatchOption}
use Rattle.std.specs.Prelude.{slice_get}
use Rattle.log_entry.specs.Text.{number_of}
use Rattle.log_image.specs.Image.{Shape, shape_by}
use Rattle.madfs_cli.specs.Commands.{IsMkfs, IsTry, IsReplay, IsGenerate, SaysShapeAt, SaysWorkAt}
use Rattle.log_entry.specs.declared.shapes.Geometry.{Geometry}
use Rattle.madfs_cli.specs.declared.work.Work.{Work}

-- five words that were read at their places are the list
pub five_words : (words : List (List ℕ)) (a b c d e : List ℕ) → length words ≡ 5 → slice_get words 0 ≡ Some a → slice_get words 1 ≡ Some b → slice_get words 2 ≡ Some c → slice_get words 3 ≡ Some d → slice_get words 4 ≡ Some e
    → words ≡ a ∷ b ∷ c ∷ d ∷ e ∷ []
five_words [] a b c d e five at0 at1 at2 at3 at4 = absurd (omega arith)
five_words (v ∷ []) a b c d e five at0 at1 at2 at3 at4 = absurd (omega arith)
five_words (v ∷ w ∷ []) a b c d e five at0 at1 at2 at3 at4 = absurd (omega arith)
five_words (v ∷ w ∷ x ∷ []) a b c d e five at0 at1 at2 at3 at4 = absurd (omega arith)
five_words (v ∷ w ∷ x ∷ y ∷ []) a b c d e five at0 at1 at2 at3 at4 = absurd (omega arith)
five_words (v ∷ w ∷ x ∷ y ∷ z ∷ []) a b c d e five at0 at1 at2 at3 at4 = cc
five_words (v ∷ w ∷ x ∷ y ∷ z ∷ more ∷ rest) a b c d e five at0 at1 at2 at3 at4 = absurd (omega arith)

-- the number of a word that was read as bytes
pub read_word : (text bytes : List ℕ) (result : Option ℕ) (m n : ℕ) → bytes ≡ text → result ≡ number_of bytes → result ≡ Some n → m ≡ n → number_of text ≡ Some m
read_word text bytes result m n same read found equal = ap number_of (sym same) ∙ (sym read ∙ (found ∙ ap Some (sym equal)))

-- four words that were read at their places are the list
pub four_words : (words : List (List ℕ)) (a b c d : List ℕ) → length words ≡ 4 → slice_get words 0 ≡ Some a → slice_get words 1 ≡ Some b → slice_get words 2 ≡ Some c → slice_get words 3 ≡ Some d → words ≡ a ∷ b ∷ c ∷ d ∷ []
four_words [] a b c d four at0 at1 at2 at3 = absurd (omega arith)
four_words (v ∷ []) a b c d four at0 at1 at2 at3 = absurd (omega arith)
four_words (v ∷ w ∷ []) a b c d four at0 at1 at2 at3 = absurd (omega arith)
four_words (v ∷ w ∷ x ∷ []) a b c d four at0 at1 at2 at3 = absurd (omega arith)
four_words (v ∷ w ∷ x ∷ y ∷ []) a b c d four at0 at1 at2 at3 = cc
four_words (v ∷ w ∷ x ∷ y ∷ z ∷ rest) a b c d four at0 at1 at2 at3 = absurd (omega arith)

-- one word that was read at its place is the list
pub one_word : (words : List (List ℕ)) (a : List ℕ) → length words ≡ 1 → slice_get words 0 ≡ Some a → words ≡ a ∷ []
one_word [] a one at0 = absurd (omega arith)
one_word (v ∷ []) a one at0 = cc
one_word (v ∷ w ∷ rest) a one at0 = absurd (omega arith)

-- the words of `mkfs` are its name and three words that say a shape
pub says_mkfs : (words : List (List ℕ)) (name : List ℕ) (shape : Shape) → length words ≡ 4 → slice_get words 0 ≡ Some name → name ≡ codes "mkfs" → SaysShapeAt words shape → IsMkfs words shape
says_mkfs words name shape four first is says = record {
  data_word = says.data_word;
  log_word = says.log_word;
  bytes_word = says.bytes_word;
  words_are = four_words words (codes "mkfs") says.data_word says.log_word says.bytes_word four (first ∙ ap Some is) says.data_at says.log_at says.bytes_at;
  shape_is = says.shape_is;
}

pub mkfs_says : (words : List (List ℕ)) (shape : Shape) → IsMkfs words shape → SaysShapeAt words shape
mkfs_says words shape is = record {
  data_word = is.data_word;
  log_word = is.log_word;
  bytes_word = is.bytes_word;
  data_at = rw is.words_are refl;
  log_at = rw is.words_are refl;
  bytes_at = rw is.words_are refl;
  shape_is = is.shape_is;
}

pub mkfs_read : (words : List (List ℕ)) (name : List ℕ) (result : Option Geometry) → length words ≡ 4 → slice_get words 0 ≡ Some name → name ≡ codes "mkfs" →
    MatchOption result ((shape : Shape) → SaysShapeAt words shape → ⊥) (λ shape. SaysShapeAt words (shape_by shape)) → MatchOption result ((shape : Shape) → IsMkfs words shape → ⊥) (λ shape. IsMkfs words (shape_by shape))
mkfs_read words name None four first is says = λ shape mkfs. says shape (mkfs_says words shape mkfs)
mkfs_read words name (Some shape) four first is says = says_mkfs words name (shape_by shape) four first is says

-- the words of `generate` are its name and three words that say its work
says_generate : (words : List (List ℕ)) (name : List ℕ) (number seats calls : ℕ) → length words ≡ 4 → slice_get words 0 ≡ Some name → name ≡ codes "generate" → SaysWorkAt words number seats calls → IsGenerate words number seats calls
says_generate words name number seats calls four first is says = record {
  number_word = says.number_word;
  seats_word = says.seats_word;
  calls_word = says.calls_word;
  words_are = four_words words (codes "generate") says.number_word says.seats_word says.calls_word four (first ∙ ap Some is) says.number_at says.seats_at says.calls_at;
  work_is = says.work_is;
}

generate_says : (words : List (List ℕ)) (number seats calls : ℕ) → IsGenerate words number seats calls → SaysWorkAt words number seats calls
generate_says words number seats calls is = record {
  number_word = is.number_word;
  seats_word = is.seats_word;
  calls_word = is.calls_word;
  number_at = rw is.words_are refl;
  seats_at = rw is.words_are refl;
  calls_at = rw is.words_are refl;
  work_is = is.work_is;
}

pub generate_read : (words : List (List ℕ)) (name : List ℕ) (result : Option Work) → length words ≡ 4 → slice_get words 0 ≡ Some name → name ≡ codes "generate"
    → MatchOption result ((number seats calls : ℕ) → SaysWorkAt words number seats calls → ⊥) (λ work. SaysWorkAt words work.number work.seats work.calls)
    → MatchOption result ((number seats calls : ℕ) → IsGenerate words number seats calls → ⊥) (λ work. IsGenerate words work.number work.seats work.calls)
generate_read words name None four first is says = λ number seats calls asked. says number seats calls (generate_says words number seats calls asked)
generate_read words name (Some work) four first is says = says_generate words name work.number work.seats work.calls four first is says

-- the words of `try` are its name, the same three words, and one seat
pub says_try : (words : List (List ℕ)) (name seats : List ℕ) (shape : Shape) → length words ≡ 5 → slice_get words 0 ≡ Some name → name ≡ codes "try" → slice_get words 4 ≡ Some seats → number_of seats ≡ Some 1 → SaysShapeAt words shape → IsTry words shape
says_try words name seats shape five first is last one says = record {
  data_word = says.data_word;
  log_word = says.log_word;
  bytes_word = says.bytes_word;
  seats_word = seats;
  words_are = five_words words (codes "try") says.data_word says.log_word says.bytes_word seats five (first ∙ ap Some is) says.data_at says.log_at says.bytes_at last;
  shape_is = says.shape_is;
  one_seat = one;
}

pub try_says : (words : List (List ℕ)) (shape : Shape) → IsTry words shape → SaysShapeAt words shape
try_says words shape is = record {
  data_word = is.data_word;
  log_word = is.log_word;
  bytes_word = is.bytes_word;
  data_at = rw is.words_are refl;
  log_at = rw is.words_are refl;
  bytes_at = rw is.words_are refl;
  shape_is = is.shape_is;
}

pub try_read : (words : List (List ℕ)) (name seats : List ℕ) (result : Option Geometry) → length words ≡ 5 → slice_get words 0 ≡ Some name → name ≡ codes "try" → slice_get words 4 ≡ Some seats → number_of seats ≡ Some 1 →
    MatchOption result ((shape : Shape) → SaysShapeAt words shape → ⊥) (λ shape. SaysShapeAt words (shape_by shape)) → MatchOption result ((shape : Shape) → IsTry words shape → ⊥) (λ shape. IsTry words (shape_by shape))
try_read words name seats None five first is last one says = λ shape try. says shape (try_says words shape try)
try_read words name seats (Some shape) five first is last one says = says_try words name seats (shape_by shape) five first is last one says

-- the words of `replay` are its name and one seat
pub says_replay : (words : List (List ℕ)) (name seats : List ℕ) → length words ≡ 2 → slice_get words 0 ≡ Some name → name ≡ codes "replay" → slice_get words 1 ≡ Some seats → number_of seats ≡ Some 1 → IsReplay words
says_replay [] name seats two first is last one = absurd (omega (arith, two))
says_replay (v ∷ []) name seats two first is last one = absurd (omega (arith, two))
says_replay (v ∷ w ∷ []) name seats two first is last one = record { seats_word = seats; words_are = cc (first, is, last); one_seat = one }
says_replay (v ∷ w ∷ x ∷ rest) name seats two first is last one = absurd (omega (arith, two))
