-- A pass over the words of an area from one on, where nobody else makes a step: its first word, and the rest.
use Rattle.std.proofs.Common.{◌≡◌, ◌≢◌, ◌<◌, ◌≤◌, ◌+◌, ◌-◌, ◌*◌, ◌/◌, ◌%◌, ◌==◌, ◌⊎◌, inl, inr, max, nat_le, ℕ, zero, suc, Bool, List, [], ◌∷◌, ◌++◌, length, take, map, slice_index, refl, sym, ap, ◌∙◌, subst, arith, append-nil, append_assoc}
use Rattle.std.specs.Prelude.{replicate, bit_or}
use Rattle.std.specs.Int.{bit_at}
use Rattle.std.proofs.lemmas.Bool.{leb-true, le-leb, lt-leb, cases_eq}
use Rattle.std.proofs.lemmas.List.{length-append, map-append, replicate-append-replicate, take-append-le, take_all}
use Rattle.log_entry.specs.Geometry.{count_of, first_of}
use Rattle.log_entry.specs.declared.shapes.Area.{Area}
use Rattle.log_entry.specs.declared.shapes.Geometry.{Geometry}
use Rattle.log_image.specs.Taken.{bit_of}
use Rattle.pmem_words.specs.declared.owned.OwnedBlock.{OwnedBlock}
use Rattle.pmem_words.specs.Seats.{Seat, q_of}
use Rattle.asks.specs.SharedWords.{SharedWords}
use Rattle.block_bitmap.specs.declared.take.Taken.{Taken}
use Rattle.block_bitmap.specs.declared.take.Taken.TheVariants.{Taken as HasTaken, NoSpace}
use Rattle.block_bitmap.specs.TakeScript.{last_word, fresh, with_taken_blocks}
use Rattle.block_bitmap.specs.TakeAlone.{outcome, outcome_by, AreSet, found_as, HasFound}
use Rattle.block_bitmap.proofs.TakeRanges.{same_test, agree}
use Rattle.block_bitmap.proofs.TakeWords.{some_in}
use Rattle.block_bitmap.proofs.TakeRest.{rest_from, clear_at, rest_more, rest_none}
use Rattle.block_bitmap.proofs.TakeMarks.{set_both}

-- a front of two lists that is longer than the first
pub take_past : (n : ℕ) (xs ys : List ℕ) → length xs ≤ n → take n (xs ++ ys) ≡ xs ++ take (n - length xs) ys
take_past n [] ys long = ap (λ (k : ℕ). take k ys) {x = n} {y = n - zero} (omega arith)
take_past zero (x ∷ xs) ys long = absurd (omega (arith, long))
take_past (suc n) (x ∷ xs) ys long = ap (λ (rest : List ℕ). x ∷ rest) (take_past n xs ys (omega (arith, long)) ∙ ap (λ (k : ℕ). xs ++ take k ys) {x = n - length xs} {y = suc n - suc (length xs)} (omega arith))

-- blocks taken one after the others
abbrev owning : Seat → List OwnedBlock → List ℕ → Seat
owning s owned contents = record s { blocks = record s.blocks { owned = owned; contents = contents } }

pub taken_both : (area : Area) (xs ys : List ℕ) (s : Seat) → with_taken_blocks area ys (with_taken_blocks area xs s) ≡ with_taken_blocks area (xs ++ ys) s
taken_both area xs ys s =
    (let q = q_of s.geometry in
    ap (λ (owned : List OwnedBlock). owning s owned (s.blocks.contents ++ replicate (length xs * q) 0 ++ replicate (length ys * q) 0)) (append_assoc s.blocks.owned (map (fresh area) xs) (map (fresh area) ys) ∙ ap (λ (more : List OwnedBlock). s.blocks.owned ++ more) (sym (map-append (fresh area) xs ys)))
    ∙ ap (λ (contents : List ℕ). owning s (s.blocks.owned ++ map (fresh area) (xs ++ ys)) contents) (append_assoc s.blocks.contents (replicate (length xs * q) 0) (replicate (length ys * q) 0) ∙ ap (λ (more : List ℕ). s.blocks.contents ++ more) (replicate-append-replicate (length xs * q) (length ys * q) 0))
    ∙ ap (λ (n : ℕ). owning s (s.blocks.owned ++ map (fresh area) (xs ++ ys)) (s.blocks.contents ++ replicate n 0)) {x = length xs * q + length ys * q} {y = length (xs ++ ys) * q} (sum (length xs) (length ys) q (length (xs ++ ys)) (length-append xs ys)))
  where
    sum : (a b q n : ℕ) → n ≡ a + b → a * q + b * q ≡ n * q
    sum a b q n is = (let same = ap (λ (k : ℕ). k * q) is in omega (arith, same))

-- what a pass from a word on comes to
pub record RestAlone (area : Area) (count word : ℕ) (s : Seat) (p : SharedWords) (out : Taken) (t : Seat) (q : SharedWords) : Type 0 where
  pub outcome_is : out ≡ outcome area count (length (rest_from s.geometry area p.taken word))
  pub seat : t ≡ found_as t.blocks.found (with_taken_blocks area (take count (rest_from s.geometry area p.taken word)) s)
  pub last : ℕ
  pub from : word ≤ last
  pub to : last ≤ last_word area s
  pub ends : out ≡ NoSpace area → last ≡ last_word area s
  pub found : HasFound word last q.taken s.blocks.found t.blocks.found
  pub memory : q ≡ record p { taken = q.taken }
  pub set : AreSet (take count (rest_from s.geometry area p.taken word)) p.taken q.taken
  pub kept : (v : ℕ) → v < word → slice_index q.taken v ≡ slice_index p.taken v

-- a word is passed over or left, after these of its blocks were taken
pub record Passes (word : ℕ) (blocks taken next found seen : List ℕ) : Type 0 where
  pub found_is : HasFound word word next found seen
  pub set : AreSet blocks taken next
  pub kept : (v : ℕ) → v ≢ word → slice_index next v ≡ slice_index taken v

module _ (area : Area) (count word : ℕ) (s : Seat) (p : SharedWords) (next seen : List ℕ) where
  abbrev g : Geometry
  g = s.geometry

  -- the clear blocks of the word, and of the words after it
  abbrev here : List ℕ
  here = clear_at s.geometry area p.taken word

  abbrev rest : List ℕ
  rest = rest_from s.geometry area p.taken (word + 1)

  abbrev left : List ℕ → Seat
  left blocks = found_as seen (with_taken_blocks area blocks s)

  abbrev leaves : SharedWords
  leaves = record p { taken = next }

  module _ (from : first_of s.geometry area < word * 64 + 64) (to : word * 64 < first_of s.geometry area + count_of s.geometry area) where
    parts : rest_from s.geometry area p.taken word ≡ here ++ rest
    parts = rest_more s.geometry area p.taken word from to

    -- all wanted blocks are in the word
    pub ends_here : Passes word (take count here) p.taken next s.blocks.found seen → word ≤ last_word area s → count ≤ length here → RestAlone area count word s p HasTaken (left (take count here)) leaves
    ends_here passes inside few = record {
      outcome_is = sym (ap (λ (b : Bool). outcome_by b area) (le-leb count (length (rest_from s.geometry area p.taken word)) (let long = ap length parts ∙ length-append here rest in omega (arith, long, few))));
      seat = ap (λ (blocks : List ℕ). left blocks) (sym same);
      last = word;
      from = omega arith;
      to = inside;
      ends = λ none. cc;
      found = passes.found_is;
      memory = refl;
      set = subst (λ (blocks : List ℕ). AreSet blocks p.taken next) (sym same) passes.set;
      kept = λ v less. passes.kept v (λ same. omega (arith, less, same));
    }
      where
        same : take count (rest_from s.geometry area p.taken word) ≡ take count here
        same = ap (take count) parts ∙ take-append-le count here rest few

    -- the word is the last one, and has too few
    pub ends_short : Passes word here p.taken next s.blocks.found seen → word ≡ last_word area s → length here < count → RestAlone area count word s p (NoSpace area) (left here) leaves
    ends_short passes at short = record {
      outcome_is = sym (ap (λ (b : Bool). outcome_by b area) (lt-leb count (length (rest_from s.geometry area p.taken word)) (let long = ap length all in omega (arith, long, short))));
      seat = ap (λ (blocks : List ℕ). left blocks) (sym same);
      last = word;
      from = omega arith;
      to = omega (arith, at);
      ends = λ none. at;
      found = passes.found_is;
      memory = refl;
      set = subst (λ (blocks : List ℕ). AreSet blocks p.taken next) (sym same) passes.set;
      kept = λ v less. passes.kept v (λ same. omega (arith, less, same));
    }
      where
        all : rest_from s.geometry area p.taken word ≡ here
        all = parts ∙ ap (λ (more : List ℕ). here ++ more) (rest_none s.geometry area p.taken (word + 1) (let some = some_in s.geometry area in omega (arith, at, some))) ∙ append-nil here

        same : take count (rest_from s.geometry area p.taken word) ≡ here
        same = ap (take count) all ∙ take_all count here (omega (arith, short))

    -- all of the word are taken, and the pass goes on
    pub goes_on : Passes word here p.taken next s.blocks.found seen → length here < count → (out : Taken) (t : Seat) (q : SharedWords) → RestAlone area (count - length here) (word + 1) (left here) leaves out t q → RestAlone area count word s p out t q
    goes_on passes short out t q r = record {
      outcome_is = r.outcome_is ∙ ap (λ (b : Bool). outcome_by b area) many;
      seat = r.seat ∙ ap (λ (x : Seat). found_as t.blocks.found x) (taken_both area here (take (count - length here) rest_then) s ∙ ap (λ (blocks : List ℕ). with_taken_blocks area blocks s) (sym all));
      last = r.last;
      from = (let from = r.from in omega (arith, from));
      to = r.to;
      ends = r.ends;
      found = found_both;
      memory = r.memory;
      set = subst (λ (blocks : List ℕ). AreSet blocks p.taken q.taken) (sym all) (set_both here (take (count - length here) rest_then) p.taken next q.taken passes.set r.set);
      kept = λ v less. r.kept v (omega (arith, less)) ∙ passes.kept v (λ same. omega (arith, less, same));
    }
      where
        rest_then : List ℕ
        rest_then = rest_from s.geometry area next (word + 1)

        same_bit : (x : ℕ) → max (first_of s.geometry area) ((word + 1) * 64) ≤ x → (bit_of next x == 0) ≡ (bit_of p.taken x == 0)
        same_bit x low = ap (λ (w : ℕ). bit_at w (x % 64) == 0) (passes.kept (x / 64) (λ same. omega (arith, low, same)))

        same_rest : rest_from s.geometry area next (word + 1) ≡ rest
        same_rest = agree (λ x. bit_of next x == 0) (λ x. bit_of p.taken x == 0) (max (first_of s.geometry area) ((word + 1) * 64)) (first_of s.geometry area + count_of s.geometry area - max (first_of s.geometry area) ((word + 1) * 64)) (λ x low high. same_bit x low)

        all : take count (rest_from s.geometry area p.taken word) ≡ here ++ take (count - length here) (rest_from s.geometry area next (word + 1))
        all = ap (take count) parts ∙ take_past count here rest (omega (arith, short)) ∙ ap (λ (more : List ℕ). here ++ take (count - length here) more) (sym same_rest)

        long : length (rest_from s.geometry area p.taken word) ≡ length here + length (rest_from s.geometry area next (word + 1))
        long = ap length parts ∙ length-append here rest ∙ ap (λ (more : List ℕ). length here + length more) (sym same_rest)

        many : nat_le (count - length here) (length (rest_from s.geometry area next (word + 1))) ≡ nat_le count (length (rest_from s.geometry area p.taken word))
        many = same_test (nat_le (count - length here) (length (rest_from s.geometry area next (word + 1)))) (nat_le count (length (rest_from s.geometry area p.taken word)))
            (λ is. le-leb count (length (rest_from s.geometry area p.taken word)) (let less = leb-true (count - length here) (length (rest_from s.geometry area next (word + 1))) is in omega (arith, less, long, short)))
            (λ is. le-leb (count - length here) (length (rest_from s.geometry area next (word + 1))) (let less = leb-true count (length (rest_from s.geometry area p.taken word)) is in omega (arith, less, long, short)))

        passed_by : (v : ℕ) → word ≤ v → v ≤ r.last → (v ≡ word) ⊎ (v ≡ word → ⊥) → slice_index t.blocks.found v ≡ bit_or (slice_index s.blocks.found v) (slice_index q.taken v)
        passed_by v low high (inl same) =
            r.found.others v (inl (omega (arith, same))) ∙ passes.found_is.passed v (omega (arith, same)) (omega (arith, same)) ∙ ap (bit_or (slice_index s.blocks.found v)) (sym (r.kept v (omega (arith, same))))
        passed_by v low high (inr other) =
            r.found.passed v (omega (arith, low, other)) high ∙ ap (λ (f : ℕ). bit_or f (slice_index q.taken v)) (passes.found_is.others v (inr (omega (arith, low, other))))

        others_by : (v : ℕ) → (v < word) ⊎ (r.last < v) → slice_index t.blocks.found v ≡ slice_index s.blocks.found v
        others_by v (inl before) = r.found.others v (inl (omega (arith, before))) ∙ passes.found_is.others v (inl before)
        others_by v (inr after) = (let from = r.from in r.found.others v (inr after) ∙ passes.found_is.others v (inr (omega (arith, after, from))))

        found_both : HasFound word r.last q.taken s.blocks.found t.blocks.found
        found_both = record {
          long = r.found.long ∙ passes.found_is.long;
          passed = λ v low high. passed_by v low high (cases_eq v word);
          others = others_by;
        }
