-- Bytes have one list of whole words, so one answer.
use Rattle.std.proofs.Common.{◌≡◌, ◌+◌, ◌*◌, ◌/◌, ◌^◌, ◌<◌, ℕ, List, [], length, get_or, take, sym, ap, ◌∙◌, subst, append-nil, length-append, arith}
use Rattle.std.specs.List.{All}
use Rattle.std.proofs.lemmas.List.Elements.{All-from_get_or}
use Rattle.std.proofs.Math.Seq.{take-append_seam}
use Rattle.log_entry.specs.WordBytes.{word_bytes}
use Rattle.log_entry.proofs.WordBytesLemmas.{eight_each, words_back}
use Rattle.opening_rules.specs.Opening.{Refuses, Accepts, AreWordsOf, AcceptsBytes}
use Rattle.opening_rules.specs.Laws.{HasOneRefusalOfBytes, IsNotBothOfBytes}
use Rattle.opening_rules.proofs.OneAnswer.{one_refusal, not_both}

all_small : (words : List ℕ) → ((index : ℕ) → get_or words index 0 < 2 ^ 64) → All (λ (word : ℕ). word < 2 ^ 64) words
all_small words small = All-from_get_or (λ (word : ℕ). word < 2 ^ 64) words 0 (λ index inside. small index)

-- whole words are made of the longest beginning that has eight bytes for each
pub beginning : (bytes words : List ℕ) → AreWordsOf bytes words → word_bytes words ≡ take (8 * (length bytes / 8)) bytes
beginning bytes words are =
    let long : length bytes ≡ 8 * length words + length are.rest = ap length are.bytes_are ∙ (omega (arith, length-append (word_bytes words) are.rest, eight_each words)) in
    let count : 8 * (length bytes / 8) ≡ length (word_bytes words) = omega (arith, long, are.few, eight_each words) in
    sym (ap (λ (n : ℕ). take n bytes) count ∙ ap (λ (l : List ℕ). take (length (word_bytes words)) l) are.bytes_are ∙ take-append_seam (word_bytes words) are.rest)

pub one_list : (bytes words others : List ℕ) → AreWordsOf bytes words → AreWordsOf bytes others → words ≡ others
one_list bytes words others here there =
    words_back words others (all_small words here.small) (all_small others there.small) (beginning bytes words here ∙ sym (beginning bytes others there))

pub one_refusal_of_bytes : HasOneRefusalOfBytes
one_refusal_of_bytes bytes why other here there =
    one_refusal (length bytes) here.words why other here.refuses
    (subst (λ (l : List ℕ). Refuses (length bytes) l other) (one_list bytes there.words here.words there.are_words here.are_words) there.refuses)

-- the words of an accepted image are the whole words of its bytes
pub whole_words : (bytes words rest : List ℕ) → AcceptsBytes bytes words rest → AreWordsOf bytes words
whole_words bytes words rest accepts = record { rest = []; bytes_are = rw append-nil accepts.bytes_are; few = omega arith; small = accepts.small }

pub not_both_of_bytes : IsNotBothOfBytes
not_both_of_bytes bytes words rest why refuses accepts =
    let eight : 8 * length words ≡ length bytes = sym (eight_each words) ∙ ap length (sym accepts.bytes_are) in
    not_both (length bytes) words rest why
    (subst (λ (l : List ℕ). Refuses (length bytes) l why) (one_list bytes refuses.words words refuses.are_words (whole_words bytes words rest accepts)) refuses.refuses)
    (subst (λ (n : ℕ). Accepts n words rest) eight accepts.accepts)
