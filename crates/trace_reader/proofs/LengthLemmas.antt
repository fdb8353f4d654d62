-- How long the text of generated jobs is: half of all turns write at most 2,048 bytes each, the others little.
use Rattle.std.specs.Prelude.{if◌then◌else◌}
use Rattle.std.proofs.Common.{◌≡◌, ℕ, zero, suc, ◌+◌, ◌*◌, ◌/◌, ◌%◌, ◌^◌, ◌<◌, ◌≤◌, ◌==◌, nat_lt, ◌⊎◌, Bool, true, false, List, [], ◌∷◌, ◌++◌, length, codes, decimal, inl, inr, refl, ap, subst, ◌∙◌, add-one, arith}
use Rattle.std.proofs.Math.Nat.{mul-le-mul_right, suc-mul, zero-mod}
use Rattle.std.proofs.lemmas.Bool.{cases_lt}
use Rattle.std.proofs.lemmas.Fmt.{length-decimal-le}
use Rattle.std.proofs.lemmas.List.{length-append, length_push}
use Rattle.std.proofs.lemmas.Nat.{div-mul-add, mod_below}
use Rattle.hex.specs.Hex.{lower_digits}
use Rattle.hex.proofs.HexLemmas.{length-encode_with}
use Rattle.log_entry.specs.Text.{bytes_text}
use Rattle.log_entry.specs.declared.calls.Job.{Job}
use Rattle.log_entry.specs.declared.calls.Op.{Op}
use Rattle.log_entry.specs.declared.calls.Op.TheVariants.{Pwrite, Append, Pread, Size, Sync, Collect}
use Rattle.trace_reader.specs.TraceText.{op_text, line_text, trace_text}
use Rattle.trace_reader.specs.Reading.{trace_limit}
use Rattle.trace_reader.specs.Generator.{drawn, upper_half, place_of_draw, rising_bytes, turn_op, generated_job, generated}
use Rattle.trace_reader.proofs.TraceLemmas.{not_more, trace_text-push}
use Rattle.trace_reader.proofs.TurnLemmas.{StepsOn, steps_on, by_turn}

many_bytes : (first count : ℕ) → length (rising_bytes first count) ≡ count
many_bytes first zero = refl
many_bytes first (suc count) = let before = many_bytes first count in let more = length_push (rising_bytes first count) ((first + count) % 256) in omega (arith, before, more)

bytes_few : (bytes : List ℕ) → length (bytes_text bytes) ≤ 2 * length bytes + 1
bytes_few [] = omega arith
bytes_few (byte ∷ bytes) = omega (arith, length-encode_with lower_digits (byte ∷ bytes))

-- ---- the length of a line

abbrev AtMost : ℕ → Op → Type 0
AtMost most op = length (op_text op) ≤ most

write_few : (offset : ℕ) (bytes : List ℕ) → offset < 10 ^ 7 → length bytes ≤ 2048 → AtMost 4112 (Pwrite offset bytes)
write_few offset bytes near few =
    let number = length-decimal-le 7 offset (omega arith) near (omega arith) in
    let text = bytes_few bytes in
    let a = length-append (codes "pwrite ") (decimal offset ++ (codes " " ++ bytes_text bytes)) in
    let b = length-append (decimal offset) (codes " " ++ bytes_text bytes) in
    let c = length-append (codes " ") (bytes_text bytes) in
    omega (arith, number, text, a, b, c)

append_few : (bytes : List ℕ) → length bytes ≤ 256 → AtMost 520 (Append bytes)
append_few bytes few =
    let text = bytes_few bytes in
    let a = length-append (codes "append ") (bytes_text bytes) in
    omega (arith, text, a)

read_few : (offset count : ℕ) → offset < 10 ^ 7 → count < 10 ^ 4 → AtMost 520 (Pread offset count)
read_few offset count near few =
    let number = length-decimal-le 7 offset (omega arith) near (omega arith) in
    let counted = length-decimal-le 4 count (omega arith) few (omega arith) in
    let a = length-append (codes "pread ") (decimal offset ++ (codes " " ++ decimal count)) in
    let b = length-append (decimal offset) (codes " " ++ decimal count) in
    let c = length-append (codes " ") (decimal count) in
    omega (arith, number, counted, a, b, c)

-- the operation of a turn that is no write
few_unless : (write adds reads plain syncs collects : Bool) (w a r : Op) → write ≡ false → AtMost 520 a → AtMost 520 r
    → AtMost 520 (if write then w else if adds then a else if reads then r else if plain then (if syncs then Sync else Size) else (if collects then Collect else Size))
few_unless true adds reads plain syncs collects w a r told pa pr = cc told
few_unless false adds reads plain syncs collects w a r told pa pr = by_turn (AtMost 520) false adds reads plain syncs collects a a r pa pa pr (omega arith) (omega arith) (omega arith)

-- what a turn's operation takes: much in the first four of eight turns, and little in the others
abbrev Takes : ℕ → ℕ → ℕ → Type 0
Takes turn most_of_write taken = ((turn % 8 < 4) × (taken ≤ most_of_write)) ⊎ ((4 ≤ turn % 8) × (taken ≤ 524))

turn_takes : (number line seat turn draw : ℕ) → seat < 16 → Takes turn 4116 (length (line_text (record { line = line; seat = seat; number = turn + 1; op = turn_op number line seat turn draw })))
turn_takes number line seat turn draw few =
    let draws : draw % 63488 < 63488 = omega arith in
    let near : place_of_draw seat draw < 10 ^ 7 = omega arith in
    let long = many_bytes (number + line) (1 + upper_half draw % 2048) in
    let short = many_bytes (number + line) (1 + upper_half draw % 256) in
    let op : Op = turn_op number line seat turn draw in
    let number_few = length-decimal-le 2 seat (omega arith) (omega arith) (omega arith) in
    let w : Op = Pwrite (place_of_draw seat draw) (rising_bytes (number + line) (1 + upper_half draw % 2048)) in
    let a : Op = Append (rising_bytes (number + line) (1 + upper_half draw % 256)) in
    let r : Op = Pread (place_of_draw seat draw) (1 + upper_half draw % 2048) in
    let wf : AtMost 4112 w = write_few (place_of_draw seat draw) (rising_bytes (number + line) (1 + upper_half draw % 2048)) near (omega (arith, long)) in
    let af : AtMost 520 a = append_few (rising_bytes (number + line) (1 + upper_half draw % 256)) (omega (arith, short)) in
    let rf : AtMost 520 r = read_few (place_of_draw seat draw) (1 + upper_half draw % 2048) near (omega arith) in
    let whole = length-append (decimal seat ++ (codes " " ++ op_text op)) (codes "\n") in
    let seated = length-append (decimal seat) (codes " " ++ op_text op) in
    let blank = length-append (codes " ") (op_text op) in
    elim (cases_lt (turn % 8) 4) [
      | inl writes ↦
          let any : AtMost 4112 op = by_turn (AtMost 4112) (nat_lt (turn % 8) 4) (turn % 8 == 4) (turn % 8 == 5) (turn % 8 == 6) (turn % 16 == 14) (turn % 512 == 511) w a r wf (omega (arith, af)) (omega (arith, rf)) (omega arith) (omega arith) (omega arith) in
          inl (writes, omega (arith, any, number_few, whole, seated, blank))
      | inr others ↦
          let any : AtMost 520 op = few_unless (nat_lt (turn % 8) 4) (turn % 8 == 4) (turn % 8 == 5) (turn % 8 == 6) (turn % 16 == 14) (turn % 512 == 511) w a r (not_more (turn % 8) 4 others) af rf in
          inr (others, omega (arith, any, number_few, whole, seated, blank))
    ]

-- ---- the sum of all

-- so many bytes after so many lines, at this place of eight turns of all seats: never more than 2,700 a line, but for those of half a round
record Kept (seats n taken begun inside : ℕ) : Type 0 where
  pub upward : taken ≤ 2700 * n + 1500 * (begun + inside)
  pub downward : taken + 1500 * (begun + inside) ≤ 2700 * n + 12000 * seats

-- the place of the next line: one further, at the next turn, or at the start of the next eight
abbrev NextPlace : ℕ → ℕ → ℕ → ℕ → ℕ → Type 0
NextPlace seats begun inside begun2 inside2 =
    ((begun2 ≡ begun) × (inside2 ≡ inside + 1)) ⊎ ((begun2 ≡ begun + seats) × (inside2 ≡ 0) × (inside + 1 ≡ seats)) ⊎ ((begun2 ≡ 0) × (inside2 ≡ 0) × (inside + 1 ≡ seats) × (begun ≡ 7 * seats))

kept_more : (seats n taken cost begun inside begun2 inside2 : ℕ) → inside < seats → ((begun ≤ 3 * seats) × (cost ≤ 4116)) ⊎ ((4 * seats ≤ begun) × (cost ≤ 524)) → Kept seats n taken begun inside → NextPlace seats begun inside begun2 inside2
    → Kept seats (n + 1) (taken + cost) begun2 inside2
kept_more seats n taken cost begun inside begun2 inside2 below costs kept next =
    let up = kept.upward in
    let down = kept.downward in
    elim costs [
      | inl much ↦ let at = much.0 in let most = much.1 in elim next [
        | inl same ↦ let b = same.0 in let i = same.1 in record { upward = omega arith; downward = omega arith }
        | inr other ↦ elim other [
          | inl turn ↦ let b = turn.0 in let i = turn.1 in let full = turn.2 in record { upward = omega arith; downward = omega arith }
          | inr over ↦ let full = over.2 in let last = over.3 in absurd (omega arith)
        ]
      ]
      | inr little ↦ let at = little.0 in let most = little.1 in elim next [
        | inl same ↦ let b = same.0 in let i = same.1 in record { upward = omega arith; downward = omega arith }
        | inr other ↦ elim other [
          | inl turn ↦ let b = turn.0 in let i = turn.1 in let full = turn.2 in record { upward = omega arith; downward = omega arith }
          | inr over ↦ let b = over.0 in let i = over.1 in let full = over.2 in let last = over.3 in record { upward = omega arith; downward = omega arith }
        ]
      ]
    ]

times_more : (t seats : ℕ) → (t % 8 + 1) * seats ≡ (t % 8) * seats + seats
times_more t seats = ap (λ (k : ℕ). k * seats) (add-one (t % 8)) ∙ suc-mul (t % 8) seats

next_place : (seats n : ℕ) → StepsOn n seats → NextPlace seats ((n / seats) % 8 * seats) (n % seats) (((n + 1) / seats) % 8 * seats) ((n + 1) % seats)
next_place seats n (inl on) = inl (ap (λ (k : ℕ). k % 8 * seats) on.1, on.0)
next_place seats n (inr over) = elim (cases_lt ((n / seats) % 8) 7) [
  | inl less ↦
      let j : (n / seats + 1) % 8 ≡ (n / seats) % 8 + 1 = omega arith in
      inr (inl (ap (λ (k : ℕ). k % 8 * seats) over.1 ∙ ap (λ (k : ℕ). k * seats) j ∙ times_more (n / seats) seats, over.0, over.2))
  | inr last ↦
      let j : (n / seats + 1) % 8 ≡ 0 = omega arith in
      let seven : (n / seats) % 8 ≡ 7 = omega arith in
      let none : 0 * seats ≡ 0 = omega arith in
      inr (inr (ap (λ (k : ℕ). k % 8 * seats) over.1 ∙ ap (λ (k : ℕ). k * seats) j ∙ none, over.0, over.2, ap (λ (k : ℕ). k * seats) seven))
]

costs_by : (seats turn cost : ℕ) → Takes turn 4116 cost → ((turn % 8 * seats ≤ 3 * seats) × (cost ≤ 4116)) ⊎ ((4 * seats ≤ turn % 8 * seats) × (cost ≤ 524))
costs_by seats turn cost (inl much) = let early = much.0 in inl (mul-le-mul_right seats (omega arith), much.1)
costs_by seats turn cost (inr little) = inr (mul-le-mul_right seats little.0, little.1)

kept_all : (number seats n : ℕ) → 0 < seats → seats ≤ 16 → Kept seats n (length (trace_text (generated number seats n))) ((n / seats) % 8 * seats) (n % seats)
kept_all number seats zero some few =
    let none : 0 ≡ 0 * seats + 0 = omega arith in
    let q : 0 / seats ≡ 0 = ap (λ (k : ℕ). k / seats) none ∙ div-mul-add 0 seats 0 some in
    let begun : (0 / seats) % 8 * seats ≡ 0 * seats = ap (λ (k : ℕ). k % 8 * seats) q in
    let inside : 0 % seats ≡ 0 = zero-mod seats in
    record { upward = omega arith; downward = omega (arith, begun, inside) }
kept_all number seats (suc n) some few =
    let below = mod_below n seats some in
    let job : Job = generated_job number seats n in
    let cost = turn_takes number (n + 1) (n % seats) (n / seats) (drawn number (n + 1)) (omega arith) in
    let kept = kept_more seats n (length (trace_text (generated number seats n))) (length (line_text job)) ((n / seats) % 8 * seats) (n % seats) (((n + 1) / seats) % 8 * seats) ((n + 1) % seats)
    below (costs_by seats (n / seats) (length (line_text job)) cost) (kept_all number seats n some few) (next_place seats n (steps_on n seats some)) in
    let text : length (trace_text (generated number seats (suc n))) ≡ length (trace_text (generated number seats n)) + length (line_text job) =
    ap length (trace_text-push (generated number seats n) job) ∙ length-append (trace_text (generated number seats n)) (line_text job) in
    rw text (subst (λ (k : ℕ). Kept seats k (length (trace_text (generated number seats n)) + length (line_text job)) ((k / seats) % 8 * seats) (k % seats)) (add-one n) kept)

pub generated_short : (number seats calls : ℕ) → 1 ≤ seats → seats ≤ 16 → calls ≤ 20000 → length (trace_text (generated number seats calls)) ≤ trace_limit
generated_short number seats calls some few short =
    let kept = kept_all number seats calls some few in
    let down = kept.downward in
    omega (arith, down)
