-- Taking twice, and what a read leaves.
use Rattle.std.proofs.Common.{◌≡◌, ℕ, ◌+◌, ◌-◌, ◌≤◌, List, ◌++◌, length, take, drop, Option, None, Some, sym, ◌∙◌, ap, subst, take-append-drop, drop-drop, append_assoc, length-append, arith}
use Rattle.std.proofs.lemmas.List.{length-take-le, take_rest}
use Rattle.io_ends.specs.Taking.{with_front, Takes}

-- what was taken first and what was taken then were taken together
pub takes-twice : (before middle after : Option (List ℕ)) (first then : List ℕ) → Takes before middle first → Takes middle after then → Takes before after (first ++ then)
takes-twice before middle None first then one two = one ∙ ap (with_front first) two
takes-twice before middle (Some left) first then one two =
    one ∙ ap (with_front first) two ∙ ap Some (sym (append_assoc first then left))

-- how many bytes there are with the first ones of a buffer
pub length-with_taken : (bytes room buffer : List ℕ) (count : ℕ) → count ≤ length room → length buffer ≡ length room → length (bytes ++ take count buffer) ≡ length bytes + count
length-with_taken bytes room buffer count fits same =
    let taken : length (take count buffer) ≡ count = length-take-le count buffer (omega arith) in
    length-append bytes (take count buffer) ∙ ap (λ n. length bytes + n) taken

-- the bytes that lie in the buffer and then the ones behind them are what was left from a place on
pub left-splits : (all seen buffer : List ℕ) (at count : ℕ) → seen ≡ all → take count buffer ≡ take count (take (length seen - at) (drop at seen)) → drop at all ≡ take count buffer ++ drop (at + count) all
left-splits all seen buffer at count same laid =
    let here : take count buffer ≡ take count (take (length all - at) (drop at all)) = subst (λ xs. take count buffer ≡ take count (take (length xs - at) (drop at xs))) same laid in
    let next : take count buffer ≡ take count (drop at all) = here ∙ ap (take count) (take_rest all at) in
    cc (next, take-append-drop count (drop at all), drop-drop count at all)
