-- The clause on owners holds in the middle of a collection.
use Rattle.std.proofs.Common.{◌≡◌, ◌≢◌, ◌⊎◌, ◌≤◌, ◌<◌, ◌/◌, ◌==◌, ◌||◌, nat_lt, not, ℕ, zero, suc, Bool, true, false, List, [], ◌∷◌, refl, sym, ◌∙◌, ap, subst, inl, inr, arith}
use Rattle.std.proofs.lemmas.Bool.{false≢true, eqb-true, ltb-true, cases_lt}
use Rattle.std.proofs.lemmas.Bool.Decides.{nat_tests}
use Rattle.log_image.specs.Image.{is_in_data, is_in_log}
use Rattle.log_image.specs.Taken.{bit_of}
use Rattle.log_image.specs.Chains.{is_listed}
use Rattle.log_core.specs.Origin.{Owner, Free, Header, InChain, OwnedBy, LeftTo}
use Rattle.log_core.specs.Files.{entries}
use Rattle.log_core.specs.Order.{nth_generation}
use Rattle.log_core.specs.Cores.{is_named, generation_at, chain_names, data_names}
use Rattle.log_core.specs.Owners.{bit_for, SeatOwns, NamesOnce}
use Rattle.log_core.specs.Views.{view_of}
use Rattle.log_core.specs.worked_rows.Samples.{image_a, small_shape}
use Rattle.log_core.specs.worked_rows.Rows.{collected}
use Rattle.log_core.specs.worked_rows.Accepted.{OwnersStand}
use Rattle.log_core.proofs.row_checks.RowChecks.{all_below, below_all, below_same, in_all, implied}

-- no block past the bitmap's first word has an owner
far_free : (block : ℕ) → 64 ≤ block → collected.owner block ≡ Free
far_free block above =
    let five : (5 == block) ≡ false = grind (arith, nat_tests, above) in
    let three : (3 == block) ≡ false = grind (arith, nat_tests, above) in
    let four : (4 == block) ≡ false = grind (arith, nat_tests, above) in
    let one : (1 == block) ≡ false = grind (arith, nat_tests, above) in
    let none : (block == 0) ≡ false = grind (arith, nat_tests, above) in
    let word : (block / 64 == 0) ≡ false = grind (arith, nat_tests, above) in
    rw (five, three, four, one, none, word) refl

-- a test of each block and its owner, by the blocks of the first word
by_owner : (test : Owner → ℕ → Bool) → all_below 64 (λ b. test (collected.owner b) b) ≡ true → ((b : ℕ) → test Free b ≡ true) → (block : ℕ) → test (collected.owner block) block ≡ true
by_owner test all free block = go (cases_lt block 64)
  where
    go : (block < 64) ⊎ (64 ≤ block) → test (collected.owner block) block ≡ true
    go (inl below) = below_all 64 (λ b. test (collected.owner b) b) block all below
    go (inr above) = subst (λ (w : Owner). test w block ≡ true) (sym (far_free block above)) (free block)

abbrev is_free : Owner → Bool
is_free Free = true
is_free _ = false

abbrev is_header : Owner → Bool
is_header Header = true
is_header _ = false

abbrev is_chain : Owner → Bool
is_chain InChain = true
is_chain _ = false

abbrev is_owned : ℕ → Owner → Bool
is_owned seat (OwnedBy n) = n == seat
is_owned seat _ = false

abbrev is_left : ℕ → Owner → Bool
is_left seat (LeftTo n) = n == seat
is_left seat _ = false

abbrev seat_of : Owner → ℕ
seat_of (OwnedBy n) = n
seat_of (LeftTo n) = n
seat_of _ = 0

free_of : (w : Owner) → is_free w ≡ true → w ≡ Free
free_of Free same = refl
free_of Header same = absurd (false≢true same)
free_of InChain same = absurd (false≢true same)
free_of (OwnedBy n) same = absurd (false≢true same)
free_of (LeftTo n) same = absurd (false≢true same)

chain_of : (w : Owner) → is_chain w ≡ true → w ≡ InChain
chain_of InChain same = refl
chain_of Free same = absurd (false≢true same)
chain_of Header same = absurd (false≢true same)
chain_of (OwnedBy n) same = absurd (false≢true same)
chain_of (LeftTo n) same = absurd (false≢true same)

owned_of : (seat : ℕ) (w : Owner) → is_owned seat w ≡ true → w ≡ OwnedBy seat
owned_of seat (OwnedBy n) same = ap OwnedBy (eqb-true n seat same)
owned_of seat Free same = absurd (false≢true same)
owned_of seat Header same = absurd (false≢true same)
owned_of seat InChain same = absurd (false≢true same)
owned_of seat (LeftTo n) same = absurd (false≢true same)

left_of : (seat : ℕ) (w : Owner) → is_left seat w ≡ true → w ≡ LeftTo seat
left_of seat (LeftTo n) same = ap LeftTo (eqb-true n seat same)
left_of seat Free same = absurd (false≢true same)
left_of seat Header same = absurd (false≢true same)
left_of seat InChain same = absurd (false≢true same)
left_of seat (OwnedBy n) same = absurd (false≢true same)

-- a seat that is an owner is one of two
few_seats : (block seat : ℕ) → seat_of (collected.owner block) ≡ seat → seat < 2
few_seats block seat same = (let less = ltb-true (seat_of (collected.owner block)) 2 (by_owner (λ w b. nat_lt (seat_of w) 2) refl (λ b. refl) block) in omega (arith, less, same))

owned_list : (seat : ℕ) (blocks : List ℕ) → all_below 64 (λ b. not (is_owned seat (collected.owner b)) || is_listed blocks b) ≡ true → (block : ℕ) → collected.owner block ≡ OwnedBy seat → is_owned seat (OwnedBy seat) ≡ true → is_listed blocks block ≡ true
owned_list seat blocks all block same itself = implied (is_owned seat (collected.owner block)) (is_listed blocks block) (by_owner (λ w b. not (is_owned seat w) || is_listed blocks b) all (λ b. refl) block) (ap (λ (w : Owner). is_owned seat w) same ∙ itself)

left_list : (seat : ℕ) (blocks : List ℕ) → all_below 64 (λ b. not (is_left seat (collected.owner b)) || is_listed blocks b) ≡ true → (block : ℕ) → collected.owner block ≡ LeftTo seat → is_left seat (LeftTo seat) ≡ true → is_listed blocks block ≡ true
left_list seat blocks all block same itself = implied (is_left seat (collected.owner block)) (is_listed blocks block) (by_owner (λ w b. not (is_left seat w) || is_listed blocks b) all (λ b. refl) block) (ap (λ (w : Owner). is_left seat w) same ∙ itself)

seats_own : (seat : ℕ) → SeatOwns collected.owner seat (view_of collected.views seat).seat
seats_own zero = record {
  owned = record { listed = λ block member. absurd (false≢true member); all = λ block same. owned_list 0 [] refl block same refl; once = refl };
  left = record {
    listed = λ block member. left_of 0 (collected.owner block) (in_all (λ b. is_left 0 (collected.owner b)) (3 ∷ []) block refl member);
    all = λ block same. left_list 0 (3 ∷ []) refl block same refl;
    once = refl;
  };
}
seats_own (suc zero) = record {
  owned = record {
    listed = λ block member. owned_of 1 (collected.owner block) (in_all (λ b. is_owned 1 (collected.owner b)) (2 ∷ []) block refl member);
    all = λ block same. owned_list 1 (2 ∷ []) refl block same refl;
    once = refl;
  };
  left = record { listed = λ block member. absurd (false≢true member); all = λ block same. left_list 1 [] refl block same refl; once = refl };
}
seats_own (suc (suc seat)) = record {
  owned = record { listed = λ block member. absurd (false≢true member); all = λ block same. absurd (let less = few_seats block (suc (suc seat)) (ap seat_of same) in omega (arith, less)); once = refl };
  left = record { listed = λ block member. absurd (false≢true member); all = λ block same. absurd (let less = few_seats block (suc (suc seat)) (ap seat_of same) in omega (arith, less)); once = refl };
}

or_true : (b : Bool) → (b || true) ≡ true
or_true true = refl
or_true false = refl

inside : (block : ℕ) → collected.owner block ≢ Free → block < 24
inside block owned = go (cases_lt block 24)
  where
    go : (block < 24) ⊎ (24 ≤ block) → block < 24
    go (inl below) = below
    go (inr above) =
        absurd (owned (free_of (collected.owner block)
        (implied (not (nat_lt block 24)) (is_free (collected.owner block)) (by_owner (λ w b. not (not (nat_lt b 24)) || is_free w) refl (λ b. or_true (not (not (nat_lt b 24)))) block) (grind (arith, nat_tests, above)))))

only_header : (block : ℕ) → collected.owner block ≡ Header → block ≡ 0
only_header block same =
    eqb-true block 0 (implied (is_header (collected.owner block)) (block == 0) (by_owner (λ w b. not (is_header w) || (b == 0)) refl (λ b. refl) block) (ap (λ (w : Owner). is_header w) same))

chain_named : (block : ℕ) → collected.owner block ≡ InChain → is_named image_a collected.logs (entries image_a collected.history) (generation_at image_a collected.generations 2) block ≡ true
chain_named block same =
    implied (is_chain (collected.owner block)) (is_named image_a collected.logs (entries image_a collected.history) (generation_at image_a collected.generations 2) block)
    (by_owner (λ w b. not (is_chain w) || is_named image_a collected.logs (entries image_a collected.history) (generation_at image_a collected.generations 2) b) refl (λ b. refl) block)
    (ap (λ (w : Owner). is_chain w) same)

once : (place : ℕ) → place < 2
    → NamesOnce small_shape (chain_names collected.logs (nth_generation collected.generations place)) (data_names image_a (entries image_a collected.history) (nth_generation collected.generations place))
once zero less = record { once = refl; chain_area = λ block named. in_all (λ b. is_in_log small_shape b) (3 ∷ 4 ∷ []) block refl named; data_area = λ block named. in_all (λ b. is_in_data small_shape b) (1 ∷ []) block refl named }
once (suc zero) less = record { once = refl; chain_area = λ block named. in_all (λ b. is_in_log small_shape b) (5 ∷ 4 ∷ []) block refl named; data_area = λ block named. in_all (λ b. is_in_data small_shape b) (1 ∷ []) block refl named }
once (suc (suc place)) less = absurd (omega (arith, less))

pub owners_stand : OwnersStand
owners_stand = record {
  bits = record { bits = λ block less. below_same 24 (λ b. bit_of (63 ∷ []) b) (λ b. bit_for (collected.owner b)) block refl less; inside = inside; header = refl; only = only_header };
  chain = record { named = chain_named; all = λ block named. chain_of (collected.owner block) (in_all (λ b. is_chain (collected.owner b)) (5 ∷ 4 ∷ 1 ∷ []) block refl named) };
  seats = seats_own;
  once = λ place kept. once place kept.inside;
}
