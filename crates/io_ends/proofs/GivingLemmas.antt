-- Giving twice, and what a write of the rest of some bytes gives.
use Rattle.std.proofs.Common.{◌≡◌, ℕ, ◌+◌, ◌-◌, ◌≤◌, List, ◌++◌, length, take, drop, Option, None, Some, ◌∙◌, ap, subst, append_assoc, length-drop, take-append-drop, take-take, arith}
use Rattle.std.proofs.lemmas.List.{drop-take, take_rest}
use Rattle.io_ends.specs.Giving.{with_back, Gives}

-- what was given first and what was given then were given together
pub gives-twice : (before middle after : Option (List ℕ)) (first then : List ℕ) → Gives before middle first → Gives middle after then → Gives before after (first ++ then)
gives-twice None middle after first then one two = two ∙ ap (λ m. with_back m then) one
gives-twice (Some written) middle after first then one two =
    two ∙ ap (λ m. with_back m then) one ∙ ap Some (append_assoc written first then)

-- the first bytes and then the next ones
pub take-then-take : (xs : List ℕ) (at count : ℕ) → take at xs ++ take count (drop at xs) ≡ take (at + count) xs
take-then-take xs at count =
    let front : take at (take (at + count) xs) ≡ take at xs = take-take at (at + count) xs (omega arith) in
    cc (drop-take at count xs, front, take-append-drop at (take (at + count) xs))

-- a write of the rest appends the next bytes
pub gives-next : (before middle after : Option (List ℕ)) (xs : List ℕ) (at count : ℕ) → Gives before middle (take at xs) → Gives middle after (take count (take (length xs - at) (drop at xs))) → Gives before after (take (at + count) xs)
gives-next before middle after xs at count one two =
    let next : Gives middle after (take count (drop at xs)) = subst (λ rest. Gives middle after (take count rest)) (take_rest xs at) two in
    subst (λ bytes. Gives before after bytes) (take-then-take xs at count) (gives-twice before middle after (take at xs) (take count (drop at xs)) one next)

-- it takes no more than there is
pub next-fits : (xs : List ℕ) (at count : ℕ) → at ≤ length xs → count ≤ length (take (length xs - at) (drop at xs)) → at + count ≤ length xs
next-fits xs at count here fits =
    let rest : count ≤ length (drop at xs) = subst (λ bytes. count ≤ length bytes) (take_rest xs at) fits in
    omega (arith, length-drop at xs)
