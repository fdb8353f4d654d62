-- What is known of owned blocks stays of those that are left where some leave the list.
use Rattle.std.proofs.Common.{◌≡◌, ℕ, zero, suc, ◌+◌, ◌*◌, ◌/◌, ◌<◌, ◌≤◌, ◌==◌, not, Bool, true, false, if◌then◌else◌, List, [], ◌∷◌, ◌++◌, length, take, drop, filter, refl, sym, ap, ◌∙◌, arith, inl, slice_index, Some, suc-mul, zero-mul}
use Rattle.std.specs.List.{AllByRecursion}
use Rattle.std.proofs.lemmas.Bool.{eqb-true, true≢false, and_from}
use Rattle.std.proofs.lemmas.List.{length-append, length-drop, length-take-le, get_or-take, get_or-drop, get_or_append_left, get_or-append_right}
use Rattle.std.proofs.lemmas.Nat.{div-mul-add}
use Rattle.pmem_words.specs.Owned.{owned_at, contents_but, owned_but}
use Rattle.pmem_words.specs.declared.owned.OwnedBlock.{OwnedBlock}
use Rattle.pmem_words.specs.Seats.{Seat, Blocks}
use Rattle.persistence.specs.Memory.{Replaced, PendingMark, Cell}
use Rattle.log_image.specs.Chains.{is_listed}
use Rattle.log_core.specs.Entries.{place_in}
use Rattle.log_core.specs.Views.{Ghost, Stored}
use Rattle.log_core.specs.Works.{seat_shape, words_of, owned_block, stored_at}
use Rattle.log_core.specs.Needs.{owned_numbers}
use Rattle.log_core.specs.Steps.{area_of, stored_but}
use Rattle.log_core.specs.Owned.{StoredHolds, OwnedHold}
use Rattle.log_core.proofs.BlockLists.{has_filter, numbers_but}
use Rattle.log_core.proofs.clauses.OwnedPlaces.{owning, PlacesFit, owned_stays}

-- each place of the list without some is the place of a block that stays, with its flags and its content
record IsLeft (q : ℕ) (f : ℕ → Bool) (owned : List OwnedBlock) (contents : List ℕ) (place : ℕ) : Type 0 where
  pub from : ℕ
  pub inside : from < length owned
  pub same : owned_at (owned_but f owned) place ≡ owned_at owned from
  pub words : (word : ℕ) → word < q → slice_index (contents_but q f owned contents) (place * q + word) ≡ slice_index contents (from * q + word)
  pub stays : f (owned_at owned from).block ≡ false

rest_long : (q count : ℕ) (contents : List ℕ) → length contents ≡ suc count * q → length (drop q contents) ≡ count * q
rest_long q count contents long = length-drop q contents ∙ (let product = suc-mul count q in omega (arith, long, product))

front_fits : (q count : ℕ) (contents : List ℕ) → length contents ≡ suc count * q → q ≤ length contents
front_fits q count contents long = (let product = suc-mul count q in omega (arith, long, product))

contents_left : (q : ℕ) (f : ℕ → Bool) (owned : List OwnedBlock) (contents : List ℕ) → length contents ≡ length owned * q → length (contents_but q f owned contents) ≡ length (owned_but f owned) * q
contents_left q f [] contents long = sym (zero-mul q)
contents_left q f (o ∷ owned) contents long = go (f o.block) (contents_left q f owned (drop q contents) (rest_long q (length owned) contents long))
  where
    go : (leaves : Bool) → length (contents_but q f owned (drop q contents)) ≡ length (owned_but f owned) * q →
        length (if leaves then contents_but q f owned (drop q contents) else take q contents ++ contents_but q f owned (drop q contents)) ≡ length (if not leaves then o ∷ owned_but f owned else owned_but f owned) * q
    go true rest = rest
    go false rest = length-append (take q contents) (contents_but q f owned (drop q contents))
        ∙ (let front = length-take-le q contents (front_fits q (length owned) contents long) in let product = suc-mul (length (owned_but f owned)) q in omega (arith, front, rest, product))

module _ (q : ℕ) (f : ℕ → Bool) (o : OwnedBlock) (owned : List OwnedBlock) (contents : List ℕ) (long : length contents ≡ suc (length owned) * q) where
  -- a word of a later block
  later_word : (from word : ℕ) → slice_index (drop q contents) (from * q + word) ≡ slice_index contents (suc from * q + word)
  later_word from word = get_or-drop q contents (from * q + word) 0 ∙ ap (λ (at : ℕ). slice_index contents at) (let product = suc-mul from q in omega (arith, product))

  later_left : (word place : ℕ) → slice_index (take q contents ++ contents_but q f owned (drop q contents)) (suc place * q + word) ≡ slice_index (contents_but q f owned (drop q contents)) (place * q + word)
  later_left word place = get_or-append_right (take q contents) (contents_but q f owned (drop q contents)) q (suc place * q + word) 0 (length-take-le q contents (front_fits q (length owned) contents long)) (let product = suc-mul place q in omega (arith, product))
      ∙ ap (λ (at : ℕ). slice_index (contents_but q f owned (drop q contents)) at) (let product = suc-mul place q in omega (arith, product))

  left_here : f o.block ≡ false → IsLeft q f (o ∷ owned) contents zero
  left_here stays = record {
    from = zero;
    inside = omega arith;
    same = rw stays refl;
    words = λ word low. rw stays (get_or_append_left (take q contents) (contents_but q f owned (drop q contents)) 0 (zero * q + word) (let front = length-take-le q contents (front_fits q (length owned) contents long) in omega (arith, front, low))
        ∙ get_or-take q contents (zero * q + word) 0 (omega (arith, low)));
    stays = stays;
  }

  left_later : (place : ℕ) → f o.block ≡ false → IsLeft q f owned (drop q contents) place → IsLeft q f (o ∷ owned) contents (suc place)
  left_later place stays rest = record {
    from = suc rest.from;
    inside = (let low = rest.inside in omega (arith, low));
    same = rw stays rest.same;
    words = λ word low. rw stays (later_left word place ∙ (rest.words word low ∙ later_word rest.from word));
    stays = rest.stays;
  }

  left_after : (place : ℕ) → f o.block ≡ true → IsLeft q f owned (drop q contents) place → IsLeft q f (o ∷ owned) contents place
  left_after place leaves rest = record {
    from = suc rest.from;
    inside = (let low = rest.inside in omega (arith, low));
    same = rw leaves rest.same;
    words = λ word low. rw leaves (rest.words word low ∙ later_word rest.from word);
    stays = rest.stays;
  }

places_left : (q : ℕ) (f : ℕ → Bool) (owned : List OwnedBlock) (contents : List ℕ) (place : ℕ) → length contents ≡ length owned * q → place < length (owned_but f owned) → IsLeft q f owned contents place
places_left q f [] contents place long low = absurd (omega (arith, low))
places_left q f (o ∷ owned) contents place long low =
    go (f o.block) refl place low (λ other below. places_left q f owned (drop q contents) other (rest_long q (length owned) contents long) below)
  where
    go : (leaves : Bool) → f o.block ≡ leaves → (place : ℕ) → place < length (if not leaves then o ∷ owned_but f owned else owned_but f owned) →
        ((other : ℕ) → other < length (owned_but f owned) → IsLeft q f owned (drop q contents) other) → IsLeft q f (o ∷ owned) contents place
    go true is place low rest = left_after q f o owned contents long place is (rest place low)
    go false is zero low rest = left_here q f o owned contents long is
    go false is (suc place) low rest = left_later q f o owned contents long place is (rest place (omega (arith, low)))

-- the words stored in a block that stays
stored_left : (q : ℕ) (f : ℕ → Bool) (stored : List Stored) (at : ℕ) → f (at / q) ≡ false → stored_at (stored_but q f stored) at ≡ stored_at stored at
stored_left q f [] at stays = refl
stored_left q f (r ∷ stored) at stays = go (f (r.word / q)) refl (r.word == at) refl (stored_left q f stored at stays)
  where
    go : (leaves : Bool) → f (r.word / q) ≡ leaves → (here : Bool) → (r.word == at) ≡ here → stored_at (stored_but q f stored) at ≡ stored_at stored at →
        stored_at (if not leaves then r ∷ stored_but q f stored else stored_but q f stored) at ≡ (if here then Some r else stored_at stored at)
    go true is true here rest = absurd (true≢false (sym is ∙ (ap (λ (word : ℕ). f (word / q)) (eqb-true r.word at here) ∙ stays)))
    go true is false here rest = rest
    go false is true here rest = rw here refl
    go false is false here rest = rw here rest

each_left : {X : Type 0} (P Q : X → Type 0) (f : X → Bool) → ((x : X) → f x ≡ true → P x → Q x) → (xs : List X) → AllByRecursion P xs → AllByRecursion Q (filter f xs)
each_left P Q f gives [] all = tt
each_left P Q f gives (x ∷ xs) all = go (f x) refl (each_left P Q f gives xs all.1)
  where
    go : (passes : Bool) → f x ≡ passes → AllByRecursion Q (filter f xs) → AllByRecursion Q (if passes then x ∷ filter f xs else filter f xs)
    go true is rest = (gives x is all.0, rest)
    go false is rest = rest

-- the blocks of a state of a seat without those of which f is true
abbrev pub blocks_left : Seat → (ℕ → Bool) → List ℕ → Blocks
blocks_left s f found = record (s.blocks) { owned = owned_but f s.blocks.owned; contents = contents_but (words_of s) f s.blocks.owned s.blocks.contents; found = found }

module _ (cells : ℕ → Cell) (past : List Replaced) (pending : List PendingMark) (n : ℕ) (s : Seat) (g h : Ghost) (old : OwnedHold cells past pending n g s) (f : ℕ → Bool)
    (stores : h.stored ≡ stored_but (words_of s) f g.stored) (found : List ℕ) where
  stored_of_left : AllByRecursion (StoredHolds cells past pending n (words_of s) (owned_numbers (blocks_left s f found).owned)) h.stored
  stored_of_left = rw stores (each_left (StoredHolds cells past pending n (words_of s) (owned_numbers s.blocks.owned)) (StoredHolds cells past pending n (words_of s) (owned_numbers (blocks_left s f found).owned))
      (λ (r : Stored). not (f (r.word / words_of s)))
      (λ stored stays holds. record {
        mine = ap (λ (l : List ℕ). is_listed l (stored.word / words_of s)) (numbers_but f s.blocks.owned)
            ∙ (has_filter (λ (block : ℕ). not (f block)) (owned_numbers s.blocks.owned) (stored.word / words_of s)
            ∙ and_from (not (f (stored.word / words_of s))) (is_listed (owned_numbers s.blocks.owned) (stored.word / words_of s)) stays holds.mine);
        present = holds.present;
        marked = holds.marked;
      }) g.stored old.stored)

  places_of_left : PlacesFit s (blocks_left s f found) g.stored h.stored
  places_of_left place inside =
      (let p = places_left (words_of s) f s.blocks.owned s.blocks.contents place old.contents inside in
      inl (record {
        from = p.from;
        inside = p.inside;
        same = p.same;
        words = p.words;
        stored = λ word low. ap (λ (l : List Stored). stored_at l (place_in (seat_shape s) (owned_block s p.from) word)) stores
            ∙ stored_left (words_of s) f g.stored (place_in (seat_shape s) (owned_block s p.from) word)
            (ap f (div-mul-add (owned_block s p.from) (words_of s) word low) ∙ p.stays);
      }))

  pub left_hold : OwnedHold cells past pending n h (owning s (blocks_left s f found))
  left_hold = owned_stays cells past pending n s (blocks_left s f found) g h old (contents_left (words_of s) f s.blocks.owned s.blocks.contents old.contents)
      (each_left (λ (o : OwnedBlock). o.area ≡ area_of (seat_shape s) o.block) (λ (o : OwnedBlock). o.area ≡ area_of (seat_shape s) o.block) (λ (o : OwnedBlock). not (f o.block)) (λ o stays is. is) s.blocks.owned old.areas)
      stored_of_left places_of_left
