-- The content of an owned block, by its number; where the block is fenced nothing else is possible in its words.
use Rattle.std.proofs.Common.{◌≡◌, ◌<◌, ◌≤◌, ◌+◌, ◌*◌, ◌==◌, ◌&&◌, ◌||◌, not, ℕ, zero, suc, Bool, true, false, List, [], ◌∷◌, length, drop, refl, sym, ◌∙◌, ap, subst, arith, slice_index, suc-mul}
use Rattle.std.proofs.lemmas.Bool.{eqb-true, and_parts}
use Rattle.std.proofs.lemmas.List.{length-drop, length-take-le, get_or-take, get_or-drop}
use Rattle.pmem_words.specs.Owned.{owned_at}
use Rattle.pmem_words.specs.declared.owned.OwnedBlock.{OwnedBlock}
use Rattle.pmem_words.specs.Seats.{Seat}
use Rattle.persistence.specs.Memory.{Replaced, PendingMark, Cell}
use Rattle.log_image.specs.Chains.{all_different, is_listed}
use Rattle.log_core.specs.Entries.{place_in}
use Rattle.log_core.specs.Views.{Ghost}
use Rattle.log_core.specs.Works.{seat_shape, words_of}
use Rattle.log_core.specs.Needs.{owned_numbers}
use Rattle.log_core.specs.Steps.{content_of, content_from}
use Rattle.log_core.specs.May.{is_fenced}
use Rattle.log_core.specs.Owned.{OwnedHold}
use Rattle.log_core.specs.Certain.{IsCertain}
use Rattle.log_core.proofs.Fronts.{not_again}
use Rattle.log_core.proofs.clauses.Others.{owned_listed}

-- a block of the list, with its place and its content there
record HasPlace (q block : ℕ) (owned : List OwnedBlock) (contents : List ℕ) : Type 0 where
  pub place : ℕ
  pub inside : place < length owned
  pub same : (owned_at owned place).block ≡ block
  pub words : (k : ℕ) → k < q → slice_index (content_from q block owned contents) k ≡ slice_index contents (place * q + k)
  pub long : length (content_from q block owned contents) ≡ q

place_of : (q block : ℕ) (owned : List OwnedBlock) (contents : List ℕ) → length contents ≡ length owned * q → is_listed (owned_numbers owned) block ≡ true → HasPlace q block owned contents
place_of q block [] contents long listed = cc
place_of q block (o ∷ owned) contents long listed = go (o.block == block) refl listed (λ later. place_of q block owned (drop q contents) rest_long later)
  where
    rest_long : length (drop q contents) ≡ length owned * q
    rest_long = length-drop q contents ∙ (let product = suc-mul (length owned) q in omega (arith, long, product))

    front : q ≤ length contents
    front = (let product = suc-mul (length owned) q in omega (arith, long, product))

    go : (b : Bool) → (o.block == block) ≡ b → (b || is_listed (owned_numbers owned) block) ≡ true → (is_listed (owned_numbers owned) block ≡ true → HasPlace q block owned (drop q contents)) → HasPlace q block (o ∷ owned) contents
    go true e is rest = record {
      place = 0;
      inside = omega arith;
      same = eqb-true o.block block e;
      words = λ k low. rw e (get_or-take q contents k 0 low ∙ ap (λ (at : ℕ). slice_index contents at) (let same : k ≡ 0 * q + k = omega arith in same));
      long = rw e (length-take-le q contents front);
    }
    go false e is rest = (let r = rest is in record {
      place = suc r.place;
      inside = (let low = r.inside in omega (arith, low));
      same = r.same;
      words = λ k low. rw e (r.words k low ∙ (get_or-drop q contents (r.place * q + k) 0 ∙ ap (λ (at : ℕ). slice_index contents at) (let product = suc-mul r.place q in omega (arith, product))));
      long = rw e r.long;
    })

-- a fenced block of the list, with its place
record HasFenced (block : ℕ) (owned : List OwnedBlock) : Type 0 where
  pub place : ℕ
  pub inside : place < length owned
  pub same : (owned_at owned place).block ≡ block
  pub fenced : (owned_at owned place).fenced ≡ true

fenced_place : (block : ℕ) (owned : List OwnedBlock) → is_fenced owned block ≡ true → HasFenced block owned
fenced_place block [] is = cc
fenced_place block (o ∷ owned) is = go ((o.block == block) && o.fenced) refl is (λ later. fenced_place block owned later)
  where
    go : (b : Bool) → ((o.block == block) && o.fenced) ≡ b → (b || is_fenced owned block) ≡ true → (is_fenced owned block ≡ true → HasFenced block owned) → HasFenced block (o ∷ owned)
    go true e is rest = (let both = and_parts (o.block == block) o.fenced e in record { place = 0; inside = omega arith; same = eqb-true o.block block both.0; fenced = both.1 })
    go false e is rest = (let r = rest is in record { place = suc r.place; inside = (let low = r.inside in omega (arith, low)); same = r.same; fenced = r.fenced })

-- different blocks are at one place each
one_place : (owned : List OwnedBlock) (first second : ℕ) → all_different (owned_numbers owned) ≡ true → first < length owned → second < length owned → (owned_at owned first).block ≡ (owned_at owned second).block → first ≡ second
one_place [] first second once here there same = absurd (omega (arith, here))
one_place (o ∷ owned) zero zero once here there same = refl
one_place (o ∷ owned) zero (suc second) once here there same = absurd (not_again o.block (owned_numbers owned) once
    (subst (λ (b : ℕ). is_listed (owned_numbers owned) b ≡ true) (sym same) (owned_listed owned second (omega (arith, there)))))
one_place (o ∷ owned) (suc first) zero once here there same = absurd (not_again o.block (owned_numbers owned) once
    (subst (λ (b : ℕ). is_listed (owned_numbers owned) b ≡ true) same (owned_listed owned first (omega (arith, here)))))
one_place (o ∷ owned) (suc first) (suc second) once here there same =
    ap suc (one_place owned first second (and_parts (not (is_listed (owned_numbers owned) o.block)) (all_different (owned_numbers owned)) once).1 (omega (arith, here)) (omega (arith, there)) same)

pub fenced_owned : (owned : List OwnedBlock) (block : ℕ) → is_fenced owned block ≡ true → is_listed (owned_numbers owned) block ≡ true
fenced_owned owned block is = (let r = fenced_place block owned is in subst (λ (b : ℕ). is_listed (owned_numbers owned) b ≡ true) r.same (owned_listed owned r.place r.inside))

module _ (cells : ℕ → Cell) (past : List Replaced) (pending : List PendingMark) (n : ℕ) (g : Ghost) (s : Seat) (held : OwnedHold cells past pending n g s) (block : ℕ) where
  pub content_long : is_listed (owned_numbers s.blocks.owned) block ≡ true → length (content_of s block) ≡ words_of s
  content_long listed = (place_of (words_of s) block s.blocks.owned s.blocks.contents held.contents listed).long

  pub content_certain : all_different (owned_numbers s.blocks.owned) ≡ true → is_fenced s.blocks.owned block ≡ true → (k : ℕ) → k < words_of s →
      IsCertain (cells (place_in (seat_shape s) block k)) (slice_index (content_of s block) k)
  content_certain once is k low =
      (let fenced = fenced_place block s.blocks.owned is in
      let at = place_of (words_of s) block s.blocks.owned s.blocks.contents held.contents (fenced_owned s.blocks.owned block is) in
      let same : at.place ≡ fenced.place = one_place s.blocks.owned at.place fenced.place once at.inside fenced.inside (at.same ∙ sym fenced.same) in
      subst (λ (value : ℕ). IsCertain (cells (place_in (seat_shape s) block k)) value) (sym (at.words k low ∙ ap (λ (p : ℕ). slice_index s.blocks.contents (p * words_of s + k)) same))
      (subst (λ (b : ℕ). IsCertain (cells (place_in (seat_shape s) b k)) (slice_index s.blocks.contents (fenced.place * words_of s + k))) fenced.same
      (held.fenced fenced.place k fenced.inside fenced.fenced low)))
