-- All that was left is the words and the bytes after them that were read.
use Rattle.std.proofs.Common.{◌≡◌, ◌≤◌, ◌++◌, ◌∙◌, ℕ, List, length, ap, subst, arith}
use Rattle.log_entry.specs.WordBytes.{word_bytes}
use Rattle.opening_rules.specs.Opening.{AcceptsBytes}
use Rattle.recovery.proofs.OpeningLemmas.{length-with_rest}
use Rattle.madfs_cli.specs.Images.{image_limit}
use Rattle.madfs_cli.proofs.ImageLemmas.{opens_to, opened_stands, not_refused, all_taken, image_refused}
use Rattle.madfs_cli.proofs.images.open_image.Goals as goal

pub returns-in-Ok-open_words_with_rest-clause-opened : goal.returns-in-Ok-open_words_with_rest-clause-opened
returns-in-Ok-open_words_with_rest-clause-opened g c = λ bytes known.
    let front : List ℕ = word_bytes c.in-Ok.read.words.items in
    let read : front ++ c.in-Ok.read.rest.items ≡ bytes = all_taken _ _ (front ++ c.in-Ok.read.rest.items) bytes c.in-Ok.ensures.all known in
    let same : front ++ c.deref.result.now ≡ bytes = ap (λ (rest : List ℕ). front ++ rest) c.deref.ensures.value ∙ read in
    let opened = c.in-Ok-open_words_with_rest in
    opens_to bytes opened.opened.words.items opened.ensures.0 c.clear.result
    (subst (λ (l : List ℕ). AcceptsBytes l opened.opened.words.items opened.ensures.0) same opened.ensures.1)
    c.clear.ensures.recovered

pub returns-in-Ok-open_words_with_rest-clause-accepted : goal.returns-in-Ok-open_words_with_rest-clause-accepted
returns-in-Ok-open_words_with_rest-clause-accepted g c = λ bytes why known refused.
    let front : List ℕ = word_bytes c.in-Ok.read.words.items in
    let read : front ++ c.in-Ok.read.rest.items ≡ bytes = all_taken _ _ (front ++ c.in-Ok.read.rest.items) bytes c.in-Ok.ensures.all known in
    let same : front ++ c.deref.result.now ≡ bytes = ap (λ (rest : List ℕ). front ++ rest) c.deref.ensures.value ∙ read in
    let few : length bytes ≤ image_limit = omega (arith, ap length read, length-with_rest c.in-Ok.read.words.items c.in-Ok.read.rest.items, c.in-Ok.ensures.fits, c.in-Ok.read.words.ok.0, c.in-Ok.read.rest.ok.0) in
    let opened = c.in-Ok-open_words_with_rest in
    not_refused bytes opened.opened.words.items opened.ensures.0 why few
    (subst (λ (l : List ℕ). AcceptsBytes l opened.opened.words.items opened.ensures.0) same opened.ensures.1) refused

pub returns-in-Err-Bad-clause-refused : goal.returns-in-Err-Bad-clause-refused
returns-in-Err-Bad-clause-refused g c = λ bytes known.
    let front : List ℕ = word_bytes c.in-Ok.read.words.items in
    let read : front ++ c.in-Ok.read.rest.items ≡ bytes = all_taken _ _ (front ++ c.in-Ok.read.rest.items) bytes c.in-Ok.ensures.all known in
    let same : front ++ c.deref.result.now ≡ bytes = ap (λ (rest : List ℕ). front ++ rest) c.deref.ensures.value ∙ read in
    let few : length bytes ≤ image_limit = omega (arith, ap length read, length-with_rest c.in-Ok.read.words.items c.in-Ok.read.rest.items, c.in-Ok.ensures.fits, c.in-Ok.read.words.ok.0, c.in-Ok.read.rest.ok.0) in
    image_refused bytes (front ++ c.deref.result.now) c.in-Err-Bad.field-0 c.in-Err-Bad.why c.in-Err-Bad.field-0-is c.in-Err-Bad.ensures same few

pub returns-in-Ok-open_words_with_rest-clause-stands : goal.returns-in-Ok-open_words_with_rest-clause-stands
returns-in-Ok-open_words_with_rest-clause-stands g c =
    let bytes : List ℕ = word_bytes c.in-Ok.read.words.items ++ c.deref.result.now in
    let opened = c.in-Ok-open_words_with_rest in
    opened_stands bytes c.clear.result.words.items
    (opens_to bytes opened.opened.words.items opened.ensures.0 c.clear.result opened.ensures.1 c.clear.ensures.recovered)
