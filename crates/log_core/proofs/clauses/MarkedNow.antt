-- Marks of present values stay so.
use Rattle.std.proofs.Common.{◌≡◌, ◌==◌, ◌&&◌, ◌||◌, inl, inr, ⊎_elim, ℕ, Bool, true, false, List, [], ◌∷◌, ◌++◌, length, refl, sym, ◌∙◌, ap, arith, eq-eqb}
use Rattle.std.specs.List.{AllByRecursion, list_any}
use Rattle.std.proofs.lemmas.List.Folds.{list_any-append}
use Rattle.persistence.specs.Memory.{PendingMark, Replaced, Cell, index_at, pending_of, values_of}
use Rattle.persistence.proofs.ValueLemmas.{index_at-now}
use Rattle.log_core.specs.Owned.{is_of_present, IsMarkedNow}
use Rattle.log_core.proofs.Each.{any_same, each_weaker}
use Rattle.log_core.proofs.clauses.Narrows.{Narrows}

-- where the word's cell narrows, and the seat's marks are of the same values
pub marked_now_narrows : (before after : ℕ → Cell) (past later : List Replaced) (pending left : List PendingMark) (seat word : ℕ) → Narrows (before word) (after word) → pending_of seat left ≡ pending_of seat pending →
    AllByRecursion (λ (note : PendingMark). index_at later note.time word ≡ index_at past note.time word) (pending_of seat pending) → IsMarkedNow before past pending seat word → IsMarkedNow after later left seat word
marked_now_narrows before after past later pending left seat word narrows same times marked = ⊎_elim
    (λ (floor : (before word).floor ≡ length (before word).past). inl (let long = ap length narrows.past in let low = narrows.floor in let high = narrows.inside in omega (arith, floor, long, low, high)))
    (λ (some : list_any (λ (note : PendingMark). is_of_present before past word note) (pending_of seat pending) ≡ true). inr
    (ap (λ (list : List PendingMark). list_any (λ (note : PendingMark). is_of_present after later word note) list) same
    ∙ (any_same (λ (note : PendingMark). is_of_present after later word note) (λ (note : PendingMark). is_of_present before past word note) (pending_of seat pending)
    (each_weaker (λ (note : PendingMark). index_at later note.time word ≡ index_at past note.time word) (λ (note : PendingMark). is_of_present after later word note ≡ is_of_present before past word note) (pending_of seat pending)
    (λ note time. ap (λ (k : ℕ). (note.word == word) && (k == length (after word).past)) time
    ∙ ap (λ (list : List ℕ). (note.word == word) && (index_at past note.time word == length list)) narrows.past) times)
    ∙ some)))
    marked

-- one mark more
pub marked_now_more : (cells : ℕ → Cell) (past : List Replaced) (pending left : List PendingMark) (seat word : ℕ) (note : PendingMark) → pending_of seat left ≡ pending_of seat pending ++ note ∷ [] →
    IsMarkedNow cells past pending seat word → IsMarkedNow cells past left seat word
marked_now_more cells past pending left seat word note more marked = ⊎_elim
    (λ (floor : (cells word).floor ≡ length (cells word).past). inl floor)
    (λ (some : list_any (λ (n : PendingMark). is_of_present cells past word n) (pending_of seat pending) ≡ true). inr
    (ap (λ (list : List PendingMark). list_any (λ (n : PendingMark). is_of_present cells past word n) list) more
    ∙ (list_any-append (λ (n : PendingMark). is_of_present cells past word n) (pending_of seat pending) (note ∷ [])
    ∙ ap (λ (b : Bool). b || list_any (λ (n : PendingMark). is_of_present cells past word n) (note ∷ [])) some)))
    marked

-- that is of the word, and made now
pub marked_now_here : (cells : ℕ → Cell) (past : List Replaced) (pending left : List PendingMark) (seat word : ℕ) → length (cells word).past ≡ length (values_of past word) →
    pending_of seat left ≡ pending_of seat pending ++ record { seat = seat; word = word; time = length past } ∷ [] → IsMarkedNow cells past left seat word
marked_now_here cells past pending left seat word long more = inr
    (ap (λ (list : List PendingMark). list_any (λ (n : PendingMark). is_of_present cells past word n) list) more
    ∙ (list_any-append (λ (n : PendingMark). is_of_present cells past word n) (pending_of seat pending) (record { seat = seat; word = word; time = length past } ∷ [])
    ∙ (ap (λ (b : Bool). list_any (λ (n : PendingMark). is_of_present cells past word n) (pending_of seat pending) || (b || false)) here
    ∙ true_last (list_any (λ (n : PendingMark). is_of_present cells past word n) (pending_of seat pending)))))
  where
    here : is_of_present cells past word (record { seat = seat; word = word; time = length past }) ≡ true
    here = rw (eq-eqb word word refl) (eq-eqb (index_at past (length past) word) (length (cells word).past) (index_at-now past word ∙ sym long))

    true_last : (b : Bool) → (b || true) ≡ true
    true_last true = refl
    true_last false = refl
