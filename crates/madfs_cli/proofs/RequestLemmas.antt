-- Words ask one thing.
use Rattle.std.proofs.Common.{◌≡◌, ℕ, List, [], ◌∷◌, Option, Some, refl, sym, ap, ◌∙◌, subst, codes}
use Rattle.log_entry.specs.Text.{number_of}
use Rattle.log_image.specs.Image.{Shape}
use Rattle.madfs_cli.specs.Outcomes.{Seen, IsOutcome}
use Rattle.madfs_cli.specs.declared.statuses.Status.{Status}
use Rattle.madfs_cli.specs.Commands.{Request, MakeImage, TryTrace, ReplayTrace, ShowFile, ShowImage, MakeTrace, SayShape, IsMkfs, IsTry, IsGenerate, Asks}

same_number : (a b : Option ℕ) (m n : ℕ) → a ≡ b → a ≡ Some m → b ≡ Some n → m ≡ n
same_number a b m n same here there = cc

same_shape : (shape other : Shape) → shape.data_blocks ≡ other.data_blocks → shape.log_blocks ≡ other.log_blocks → shape.block_bytes ≡ other.block_bytes → shape ≡ other
same_shape shape other one two three = λ i. record { data_blocks = one i; log_blocks = two i; block_bytes = three i }

-- three words say one shape
one_shape : (a b c d e f : List ℕ) (shape other : Shape) → a ≡ d → b ≡ e → c ≡ f → SayShape a b c shape → SayShape d e f other → shape ≡ other
one_shape a b c d e f shape other one two three says also =
    same_shape shape other
    (same_number (number_of a) (number_of d) shape.data_blocks other.data_blocks (ap number_of one) says.data_is also.data_is)
    (same_number (number_of b) (number_of e) shape.log_blocks other.log_blocks (ap number_of two) says.log_is also.log_is)
    (same_number (number_of c) (number_of f) shape.block_bytes other.block_bytes (ap number_of three) says.bytes_are also.bytes_are)

parts_of_four : (a b c d e f g h : List ℕ) → a ∷ b ∷ c ∷ d ∷ [] ≡ e ∷ f ∷ g ∷ h ∷ [] → (b ≡ f) × (c ≡ g) × (d ≡ h)
parts_of_four a b c d e f g h same = (cc, cc, cc)

parts_of_five : (a b c d e f g h i j : List ℕ) → a ∷ b ∷ c ∷ d ∷ e ∷ [] ≡ f ∷ g ∷ h ∷ i ∷ j ∷ [] → (b ≡ g) × (c ≡ h) × (d ≡ i)
parts_of_five a b c d e f g h i j same = (cc, cc, cc)

one_mkfs : (words : List (List ℕ)) (shape other : Shape) → IsMkfs words shape → IsMkfs words other → shape ≡ other
one_mkfs words shape other is also =
    let parts = parts_of_four (codes "mkfs") is.data_word is.log_word is.bytes_word (codes "mkfs") also.data_word also.log_word also.bytes_word (sym is.words_are ∙ also.words_are) in
    one_shape is.data_word is.log_word is.bytes_word also.data_word also.log_word also.bytes_word shape other parts.0 parts.1 parts.2 is.shape_is also.shape_is

one_try : (words : List (List ℕ)) (shape other : Shape) → IsTry words shape → IsTry words other → shape ≡ other
one_try words shape other is also =
    let parts = parts_of_five (codes "try") is.data_word is.log_word is.bytes_word is.seats_word (codes "try") also.data_word also.log_word also.bytes_word also.seats_word (sym is.words_are ∙ also.words_are) in
    one_shape is.data_word is.log_word is.bytes_word also.data_word also.log_word also.bytes_word shape other parts.0 parts.1 parts.2 is.shape_is also.shape_is

one_work : (words : List (List ℕ)) (number seats calls number2 seats2 calls2 : ℕ) → IsGenerate words number seats calls → IsGenerate words number2 seats2 calls2 → MakeTrace number seats calls ≡ MakeTrace number2 seats2 calls2
one_work words number seats calls number2 seats2 calls2 is also =
    let parts = parts_of_four (codes "generate") is.number_word is.seats_word is.calls_word (codes "generate") also.number_word also.seats_word also.calls_word (sym is.words_are ∙ also.words_are) in
    let one = same_number (number_of is.number_word) (number_of also.number_word) number number2 (ap number_of parts.0) is.work_is.number_is also.work_is.number_is in
    let two = same_number (number_of is.seats_word) (number_of also.seats_word) seats seats2 (ap number_of parts.1) is.work_is.seats_are also.work_is.seats_are in
    let three = same_number (number_of is.calls_word) (number_of also.calls_word) calls calls2 (ap number_of parts.2) is.work_is.calls_are also.work_is.calls_are in
    λ i. MakeTrace (one i) (two i) (three i)

pub one_request : (words : List (List ℕ)) (request other : Request) → Asks words request → Asks words other → request ≡ other
one_request words (MakeImage shape) (MakeImage other) is also = ap MakeImage (one_mkfs words shape other is also)
one_request words (TryTrace shape) (TryTrace other) is also = ap TryTrace (one_try words shape other is also)
one_request words (MakeTrace number seats calls) (MakeTrace number2 seats2 calls2) is also = one_work words number seats calls number2 seats2 calls2 is also
one_request words (MakeTrace number seats calls) (MakeImage other) is also = let same = sym is.words_are ∙ also.words_are in cc
one_request words (MakeTrace number seats calls) (TryTrace other) is also = let same = sym is.words_are ∙ also.words_are in cc
one_request words (MakeTrace number seats calls) ReplayTrace is also = let same = sym is.words_are ∙ also.words_are in cc
one_request words (MakeTrace number seats calls) ShowFile is also = let same = sym is.words_are ∙ also in cc
one_request words (MakeTrace number seats calls) ShowImage is also = let same = sym is.words_are ∙ also in cc
one_request words (MakeImage shape) (MakeTrace number seats calls) is also = let same = sym is.words_are ∙ also.words_are in cc
one_request words (TryTrace shape) (MakeTrace number seats calls) is also = let same = sym is.words_are ∙ also.words_are in cc
one_request words ReplayTrace (MakeTrace number seats calls) is also = let same = sym is.words_are ∙ also.words_are in cc
one_request words ShowFile (MakeTrace number seats calls) is also = let same = sym is ∙ also.words_are in cc
one_request words ShowImage (MakeTrace number seats calls) is also = let same = sym is ∙ also.words_are in cc
one_request words ReplayTrace ReplayTrace is also = refl
one_request words ReplayTrace (MakeImage other) is also = let same = sym is.words_are ∙ also.words_are in cc
one_request words ReplayTrace (TryTrace other) is also = let same = sym is.words_are ∙ also.words_are in cc
one_request words ReplayTrace ShowFile is also = let same = sym is.words_are ∙ also in cc
one_request words ReplayTrace ShowImage is also = let same = sym is.words_are ∙ also in cc
one_request words (MakeImage shape) ReplayTrace is also = let same = sym is.words_are ∙ also.words_are in cc
one_request words (TryTrace shape) ReplayTrace is also = let same = sym is.words_are ∙ also.words_are in cc
one_request words ShowFile ReplayTrace is also = let same = sym is ∙ also.words_are in cc
one_request words ShowImage ReplayTrace is also = let same = sym is ∙ also.words_are in cc
one_request words ShowFile ShowFile is also = refl
one_request words ShowImage ShowImage is also = refl
one_request words (MakeImage shape) (TryTrace other) is also = let same = sym is.words_are ∙ also.words_are in cc
one_request words (TryTrace shape) (MakeImage other) is also = let same = sym is.words_are ∙ also.words_are in cc
one_request words (MakeImage shape) ShowFile is also = let same = sym is.words_are ∙ also in cc
one_request words (MakeImage shape) ShowImage is also = let same = sym is.words_are ∙ also in cc
one_request words (TryTrace shape) ShowFile is also = let same = sym is.words_are ∙ also in cc
one_request words (TryTrace shape) ShowImage is also = let same = sym is.words_are ∙ also in cc
one_request words ShowFile (MakeImage other) is also = let same = sym is ∙ also.words_are in cc
one_request words ShowFile (TryTrace other) is also = let same = sym is ∙ also.words_are in cc
one_request words ShowImage (MakeImage other) is also = let same = sym is ∙ also.words_are in cc
one_request words ShowImage (TryTrace other) is also = let same = sym is ∙ also.words_are in cc
one_request words ShowFile ShowImage is also = let same = sym is ∙ also in cc
one_request words ShowImage ShowFile is also = let same = sym is ∙ also in cc

-- the outcome of the one thing that the words ask
pub outcome_of : (words : List (List ℕ)) (request other : Request) (seen : Seen) (status : Status) → Asks words request → Asks words other → IsOutcome request seen status → IsOutcome other seen status
outcome_of words request other seen status is also outcome = subst (λ (r : Request). IsOutcome r seen status) (one_request words request other is also) outcome
