-- The whole words and the bytes after them are all bytes.
use Rattle.std.proofs.Common.{◌≡◌, ◌*◌, ◌/◌, ◌++◌, ℕ, List, length, drop, ap, ◌∙◌, subst}
use Rattle.std.proofs.lemmas.List.{take-append-drop, take_rest}
use Rattle.log_entry.specs.WordBytes.{word_bytes}
use Rattle.recovery.specs.OpenAnswers.{OpensBytes}
use Rattle.recovery.proofs.openings.open_bytes.Goals as goal

pub returns : goal.returns
returns c =
    let bytes : List ℕ = c.args.bytes.now in
    let whole : ℕ = 8 * (length bytes / 8) in
    let all : word_bytes c.in-Ok.words.items ++ drop whole bytes ≡ bytes = ap (λ (front : List ℕ). front ++ drop whole bytes) c.in-Ok.ensures.only ∙ take-append-drop whole bytes in
    subst (λ (l : List ℕ). OpensBytes c.open_words_with_rest.result l) all (rw (take_rest bytes whole) at c.open_words_with_rest.ensures)
