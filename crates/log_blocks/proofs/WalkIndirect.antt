-- A walk in the block of an indirect entry: it keeps each word of it, and takes the entry in with the last one.
use Rattle.std.proofs.Common.{◌≡◌, ◌≢◌, ◌<◌, ◌≤◌, ◌⊎◌, ◌+◌, ◌/◌, ◌^◌, ◌==◌, ◌&&◌, nat_lt, inl, inr, ⊎_elim, ℕ, Bool, true, false, if◌then◌else◌, List, [], ◌∷◌, ◌++◌, length, map, drop, refl, sym, ◌∙◌, ap, subst, arith, slice_index, Some, None}
use Rattle.std.proofs.lemmas.Bool.{ne_eqb, ltb-true, ltb-false}
use Rattle.std.proofs.lemmas.List.{length-append}
use Rattle.std.proofs.lemmas.Nat.{div-mul-add}
use Rattle.log_entry.specs.Fields.{field}
use Rattle.log_entry.specs.declared.layouts.TheConstants.{SEAL, ENTRY_KIND, DIRECT, INDIRECT, INDIRECT_BLOCK}
use Rattle.log_image.specs.Image.{Shape, shape_by}
use Rattle.log_image.specs.Entries.{Meaning, direct_meaning, indirect_meaning}
use Rattle.log_image.specs.Format.{fits, is_indirect_block}
use Rattle.asks.specs.declared.ask.Ask.TheVariants.{Load}
use Rattle.asks.specs.declared.ask.Place.TheVariants.{Image}
use Rattle.pmem_words.specs.declared.keeps.KeptWord.{KeptWord}
use Rattle.pmem_words.specs.declared.machine.Turn.TheVariants.{Done}
use Rattle.pmem_words.specs.Seats.{Seat}
use Rattle.persistence.specs.Memory.{found_answer}
use Rattle.log_core.specs.Entries.{place_in, meaning_by}
use Rattle.log_core.specs.Views.{Ghost, view_of}
use Rattle.log_core.specs.Origin.{Origin, shape}
use Rattle.log_core.specs.Cores.{Core}
use Rattle.log_core.specs.May.{is_log_entry_by}
use Rattle.log_core.specs.Works.{Work, TakesEntry, HasFoundSlot, IsKeptWhole, kept_at, kept_word, kept_content, word_or_zero, seat_shape, words_of, tail_index, tail_word, tail_meaning}
use Rattle.log_core.specs.Invariant.{Invariant}
use Rattle.log_core.specs.Knows.{Knows}
use Rattle.log_core.specs.Within.{no_record, Lawful}
use Rattle.log_blocks.specs.declared.walk.Tail.{Tail}
use Rattle.log_blocks.specs.declared.walk.Walk.{Walk}
use Rattle.log_blocks.specs.declared.walk.Walk.TheVariants.{Indirect}
use Rattle.log_blocks.specs.Taking.{with_kept, taken, kept_words}
use Rattle.log_blocks.specs.Walking.{walk_script, indirect_after, walk_measure, IsWholeBlock, WalkAdmits}
use Rattle.log_blocks.specs.WalkWithin.{HasWalkedOn}
use Rattle.log_blocks.proofs.WalkStanding.{IsUnderWay, IsInBlock, WalkStands}
use Rattle.log_blocks.specs.Committing.{rows}
use Rattle.log_blocks.proofs.WalkWay.{MayGo, valid, free, few, goes_on, most}
use Rattle.log_blocks.proofs.WalkTail.{takes_entry, taken_falls}
use Rattle.log_blocks.proofs.KeptLists.{rows_push, rows_words, length_rows, row_at, first_at, content_is}
use Rattle.log_blocks.proofs.FoundTail.{position_small, few_words, runs_of, runs_fit_so, entry_form, holder_is_named, holder_apart, holder_content}
use Rattle.log_blocks.proofs.FoundWords.{named_of_image}
use Rattle.log_blocks.proofs.Loading.{NamesAlways, at_place, seen, knows_seen, IsComputed, no_tail, lawful_load}

module _ (o : Origin) (seat : ℕ) (s0 : Seat) (g0 : Ghost) (go : MayGo s0 g0) (s : Seat) (g : Ghost) (on_way : IsUnderWay s0 g0 s g) (block count : ℕ) (at : IsInBlock block count s) where
  abbrev P : Walk → Seat → Ghost → Type 0
  P m t h = WalkStands s0 g0 m t h

  abbrev R : Tail → Seat → Ghost → Type 0
  R out t h = HasWalkedOn s0 g0 out t h

  -- the entry's own word, at the tail
  abbrev first : KeptWord
  first = record { block = s.walk.tail_block; slot = s.walk.tail_slot; word = at.word }

  some_word : at.word ≢ 0
  some_word none = (let kind = at.kind in let is : 0 ≡ INDIRECT = sym (ap (field ENTRY_KIND) none) ∙ kind in omega (arith, is))

  no_seal : at.word ≢ SEAL
  no_seal seal = (let kind = at.kind in let is : 3 ≡ INDIRECT = sym (ap (field ENTRY_KIND) seal) ∙ kind in omega (arith, is))

  -- it is found at the tail of a state that keeps it, with a row of the block's words
  module _ (t : Seat) (tail_is : t ≡ record s { walk = record s.walk { kept = t.walk.kept; at_tail = t.walk.at_tail } }) (words : List ℕ) (kept : t.walk.kept ≡ first ∷ rows block 0 words) (apart : (words ≡ []) ⊎ (block ≢ s.walk.tail_block)) where
    tail_word_is : tail_word t ≡ at.word
    tail_word_is = ap (λ (u : Seat). word_or_zero (kept_at t.walk.kept u.walk.tail_block u.walk.tail_slot)) tail_is
        ∙ (ap (λ (l : List KeptWord). word_or_zero (kept_at l s.walk.tail_block s.walk.tail_slot)) kept ∙ by words apart)
      where
        by : (l : List ℕ) → (l ≡ []) ⊎ (block ≢ s.walk.tail_block) → word_or_zero (kept_at (first ∷ rows block 0 l) s.walk.tail_block s.walk.tail_slot) ≡ at.word
        by l (inr other) = ap word_or_zero (first_at first block l other)
        by [] (inl none) = rw (Rattle.std.proofs.lemmas.Bool.eq-eqb s.walk.tail_block s.walk.tail_block refl, Rattle.std.proofs.lemmas.Bool.eq-eqb s.walk.tail_slot s.walk.tail_slot refl) refl
        by (word ∷ l) (inl none) = cc

    has_found : HasFoundSlot g t
    has_found = record {
      free = subst (λ (u : Seat). Rattle.log_core.specs.Works.IsFree g u.calling) (sym tail_is) (free s0 g0 go s g on_way);
      valid = ap (λ (u : Seat). u.hold.valid) tail_is ∙ valid s0 g0 go s g on_way;
      ready = ap (λ (u : Seat). u.walk.ready) tail_is ∙ at.ready;
      inside = λ last. at.unclosed (sym (ap (λ (u : Seat). u.walk.tail_slot) tail_is) ∙ (last ∙ ap (λ (u : Seat). words_of u) tail_is));
      used = λ none. some_word (sym tail_word_is ∙ none);
    }

  kept_none : (l : List ℕ) → length l ≡ 0 → l ≡ []
  kept_none [] none = refl
  kept_none (word ∷ l) none = absurd (omega (arith, none))

  apart_now : (at.words ≡ []) ⊎ (block ≢ s.walk.tail_block)
  apart_now = ⊎_elim (λ none. inl (kept_none at.words (at.count_is ∙ none))) (λ other. inr other) at.apart

  found_here : HasFoundSlot g s
  found_here = has_found s refl at.words at.kept apart_now

  word_here : tail_word s ≡ at.word
  word_here = tail_word_is s refl at.words at.kept apart_now

  -- what the core says of it
  named : NamesAlways o seat s g block count
  named c pin began inv unspent knows = subst (λ (b : ℕ). Rattle.log_core.specs.Cores.is_named o c.logs (Rattle.log_core.specs.Files.entries o c.history) (Rattle.log_core.specs.Cores.generation_at o c.generations s.hold.generation) b ≡ true) (sym at.block_is)
      (holder_is_named o c seat s g pin began inv knows unspent found_here at.word word_here no_seal at.kind)

  -- in some core that knows the seat so
  module _ (other : block ≢ s.walk.tail_block) (upto : s.walk.tail_slot ≤ words_of s) where
    abbrev e : ℕ → Seat
    e f = seen o seat s g block count f

    index_inside : tail_index s < words_of s
    index_inside = (let apart = at.unclosed in let high = upto in rw (ne_eqb s.walk.tail_slot (words_of s) apart) (omega (arith, apart, high)))

    -- the tail is in another block
    other_place : at_place o seat s g block count ≢ place_in (seat_shape s) s.walk.tail_block (tail_index s)
    other_place same = other (sym (div-mul-add block (words_of s) count at.inside) ∙ (ap (λ (place : ℕ). place / words_of s) same ∙ div-mul-add s.walk.tail_block (words_of s) (tail_index s) index_inside))

    same_tail : (f : ℕ) → (e f).walk.at_tail ≡ s.walk.at_tail
    same_tail f = no_tail s.walk.at_tail _ (ap (λ (b : Bool). (s.walk.ready && (f == 0)) && b) (ne_eqb (at_place o seat s g block count) (place_in (seat_shape s) s.walk.tail_block (tail_index s)) other_place) ∙ none (s.walk.ready && (f == 0)))
      where
        none : (b : Bool) → (b && false) ≡ false
        none true = refl
        none false = refl

    kept_so : (f : ℕ) → with_kept s block count f ≡ e f
    kept_so f = ap (λ (b : Bool). record s { walk = record s.walk { kept = s.walk.kept ++ record { block = block; slot = count; word = f } ∷ []; at_tail = b } }) (sym (same_tail f))

    kept_now : (f : ℕ) → s.walk.kept ++ record { block = block; slot = count; word = f } ∷ [] ≡ first ∷ rows block 0 (at.words ++ f ∷ [])
    kept_now f = ap (λ (l : List KeptWord). l ++ record { block = block; slot = count; word = f } ∷ []) at.kept
        ∙ ap (λ (l : List KeptWord). first ∷ l) (ap (λ (k : ℕ). rows block 0 at.words ++ record { block = block; slot = k; word = f } ∷ []) (let count_is = at.count_is in let is : count ≡ 0 + length at.words = omega (arith, count_is) in is)
        ∙ rows_push block 0 f at.words)

    length_now : (f : ℕ) → length (at.words ++ f ∷ []) ≡ count + 1
    length_now f = length-append at.words (f ∷ []) ∙ ap (λ (k : ℕ). k + 1) at.count_is

    found_then : (f : ℕ) → HasFoundSlot g (e f)
    found_then f = has_found (e f) refl (at.words ++ f ∷ []) (kept_now f) (inr other)

    word_then : (f : ℕ) → tail_word (e f) ≡ at.word
    word_then f = tail_word_is (e f) refl (at.words ++ f ∷ []) (kept_now f) (inr other)

    -- with the last word the block is whole
    whole_block : (f : ℕ) → count + 1 ≡ words_of s → IsKeptWhole (e f) block
    whole_block f last slot inside none = (let long = length_now f in
        let found : kept_at (e f).walk.kept block slot ≡ Some (slice_index (at.words ++ f ∷ []) slot) = ap (λ (l : List KeptWord). kept_at l block slot) (kept_now f) ∙ row_at first block (at.words ++ f ∷ []) slot (omega (arith, long, last, inside)) in
        let both : Some (slice_index (at.words ++ f ∷ []) slot) ≡ None = sym found ∙ none in cc)

    content_now : (f : ℕ) → count + 1 ≡ words_of s → kept_content (e f) block ≡ at.words ++ f ∷ []
    content_now f last = ap (λ (l : List KeptWord). map (λ (slot : ℕ). word_or_zero (kept_at l block slot)) (Rattle.std.specs.List.range_with_len 0 (words_of s))) (kept_now f)
        ∙ content_is first block (at.words ++ f ∷ []) (words_of s) (length_now f ∙ last)

    words_now : (f : ℕ) → kept_words (with_kept s block count f) ≡ at.words ++ f ∷ []
    words_now f = ap (λ (l : List KeptWord). map (λ (kept : KeptWord). kept.word) (drop 1 l)) (kept_now f) ∙ rows_words block 0 (at.words ++ f ∷ [])

    abbrev works : Bool → List Work
    works true = []
    works false = TakesEntry ∷ []

    computed : (more : Bool) (f : ℕ) → nat_lt (count + 1) (words_of s) ≡ more → IsComputed g (e f) (works more) (indirect_after more block count (with_kept s block count f)).seat
    computed true f is = record { may = tt; going_on = refl; gives = kept_so f }
    computed false f is = record {
      may = ((found_then f, (λ seal. no_seal (sym (word_then f) ∙ seal)), (λ indirect. subst (λ (b : ℕ). IsKeptWhole (e f) b) (at.block_is ∙ ap (field INDIRECT_BLOCK) (sym (word_then f))) (whole_block f last))), tt);
      going_on = refl;
      gives = ap (λ (t : Seat). taken t (indirect_meaning block (kept_words (with_kept s block count f)))) (kept_so f) ∙ ap (λ (m : Meaning). taken (e f) m) (sym meaning_is);
    }
      where
        last : count + 1 ≡ words_of s
        last = (let late = ltb-false (count + 1) (words_of s) is in let inside = at.inside in omega (arith, late, inside))

        meaning_is : tail_meaning (e f) ≡ indirect_meaning block (kept_words (with_kept s block count f))
        meaning_is = ap (λ (word : ℕ). meaning_by (λ b. kept_content (e f) b) word) (word_then f)
            ∙ (ap (λ (k : ℕ). if k == DIRECT then direct_meaning at.word else indirect_meaning (field INDIRECT_BLOCK at.word) (kept_content (e f) (field INDIRECT_BLOCK at.word))) at.kind
            ∙ (ap (λ (b : ℕ). indirect_meaning b (kept_content (e f) b)) (sym at.block_is)
            ∙ ap (λ (l : List ℕ). indirect_meaning block l) (content_now f last ∙ sym (words_now f))))

    goes : (more : Bool) (f : ℕ) → nat_lt (count + 1) (words_of s) ≡ more → P (indirect_after more block count (with_kept s block count f)).machine (indirect_after more block count (with_kept s block count f)).seat g
    goes true f is = record {
      on_way = goes_on s0 g0 go s g on_way (with_kept s block count f).walk (λ ready. (ready, omega arith));
      stage = record {
        ready = at.ready;
        unclosed = at.unclosed;
        inside = ltb-true (count + 1) (words_of s) is;
        word = at.word;
        kind = at.kind;
        block_is = at.block_is;
        words = at.words ++ f ∷ [];
        kept = kept_now f;
        count_is = length_now f;
        apart = inr other;
      };
    }
    goes false f is = takes_entry o seat s0 g0 go (with_kept s block count f) g (goes_on s0 g0 go s g on_way (with_kept s block count f).walk (λ ready. (ready, omega arith))) (indirect_meaning block (kept_words (with_kept s block count f))) at.ready

    no_end : (more : Bool) (f : ℕ) (out : Tail) → (indirect_after more block count (with_kept s block count f)).turn ≡ Done out → ⊥
    no_end true f out done = cc
    no_end false f out done = cc

    falls : (more : Bool) (f : ℕ) → nat_lt (count + 1) (words_of s) ≡ more → s.walk.position < 2 ^ 40 →
        walk_measure (indirect_after more block count (with_kept s block count f)).machine (indirect_after more block count (with_kept s block count f)).seat < walk_measure (Indirect block count) s
    falls true f is small = (let low = ltb-true (count + 1) (words_of s) is in let wide = most s in omega (arith, low, wide))
    falls false f is small = (let low = taken_falls o seat s0 g0 go (with_kept s block count f) g (goes_on s0 g0 go s g on_way (with_kept s block count f).walk (λ ready. (ready, omega arith)))
        (indirect_meaning block (kept_words (with_kept s block count f))) at.ready small in omega (arith, low))

    module _ (c : Core) (pin began : ℕ) (inv : Invariant o c) (unspent : (view_of c.views seat).parts ≢ []) (knows : Knows o c seat s g pin began) where
      abbrev f : ℕ
      f = found_answer c.memory (Load (Image (place_in (seat_shape s) block count)))

      abbrev is_known : Knows o c seat (e f) g pin 0
      is_known = knows_seen o seat s g block count (valid s0 g0 go s g on_way) at.inside named c pin began inv unspent knows f refl

      small : s.walk.position < 2 ^ 40
      small = position_small o c seat s g pin began inv knows unspent (valid s0 g0 go s g on_way) at.ready

      form : is_log_entry_by c.recorded (shape o) at.word ≡ true
      form = entry_form o c seat (e f) g pin 0 inv is_known unspent (found_then f) at.word (word_then f) no_seal

      recorded : count + 1 ≡ words_of s → kept_words (with_kept s block count f) ≡ c.recorded (field INDIRECT_BLOCK at.word)
      recorded last = words_now f ∙ (sym (content_now f last) ∙ (ap (λ (b : ℕ). kept_content (e f) b) at.block_is
          ∙ holder_content o c seat (e f) g pin 0 inv is_known unspent (found_then f) at.word (word_then f) no_seal at.kind (subst (λ (b : ℕ). IsKeptWhole (e f) b) at.block_is (whole_block f last))))

      same_shape : seat_shape s ≡ shape o
      same_shape = ap shape_by (knows.fits unspent).geometry

      whole_is : count + 1 ≡ words_of s → IsWholeBlock (with_kept s block count f) block
      whole_is last = record {
        inside = named_of_image o c seat s g pin began inv knows (valid s0 g0 go s g on_way) unspent block (named c pin began inv unspent knows);
        room = record { slot = (let high = upto in let wide = most s in omega (arith, high, wide)); position = small };
        few = record { few = few s0 g0 go s g on_way; words = few_words o c seat s g pin began inv knows unspent (valid s0 g0 go s g on_way) at.ready };
        whole = ap (λ (l : List ℕ). length l) (words_now f) ∙ (length_now f ∙ last);
        runs = subst (λ (image : Shape). is_indirect_block image (kept_words (with_kept s block count f)) ≡ true) (sym same_shape)
            (subst (λ (l : List ℕ). is_indirect_block (shape o) l ≡ true) (sym (recorded last)) (runs_of c.recorded (shape o) at.word form at.kind));
        fits = subst (λ (image : Shape). fits image 256 (indirect_meaning block (kept_words (with_kept s block count f))) ≡ true) (sym same_shape)
            (subst (λ (l : List ℕ). fits (shape o) 256 (indirect_meaning block l) ≡ true) (sym (recorded last))
            (subst (λ (b : ℕ). fits (shape o) 256 (indirect_meaning b (c.recorded (field INDIRECT_BLOCK at.word))) ≡ true) (sym at.block_is) (runs_fit_so c.recorded (shape o) at.word form at.kind)));
      }

      admitted : WalkAdmits (Indirect block count) s f
      admitted = record {
        room = (let long = length_rows block 0 at.words in let count_is = at.count_is in let inside = at.inside in let kept = ap (λ (l : List KeptWord). length l) at.kept in omega (arith, long, count_is, inside, kept));
        stage = (at.inside, whole_is);
        falls = λ turn. falls (nat_lt (count + 1) (words_of s)) f refl small;
      }

    pub indirect_lawful : Lawful o seat walk_script no_record P R (Indirect block count) s g
    indirect_lawful = lawful_load o seat s g block count (valid s0 g0 go s g on_way) at.inside named walk_script P R (Indirect block count) refl
        (λ f. works (nat_lt (count + 1) (words_of s))) (λ f. indirect_after (nat_lt (count + 1) (words_of s)) block count (with_kept s block count f)) (λ f. refl)
        (λ c pin began inv unspent knows. admitted c pin began inv unspent knows)
        (λ f found admits. computed (nat_lt (count + 1) (words_of s)) f refl)
        (λ f found admits turn. goes (nat_lt (count + 1) (words_of s)) f refl)
        (λ f out found admits done. absurd (no_end (nat_lt (count + 1) (words_of s)) f out done))

  -- what the core says of the two blocks
  pub blocks_apart : (c : Core) (pin began : ℕ) → Invariant o c → (view_of c.views seat).parts ≢ [] → Knows o c seat s g pin began → block ≢ s.walk.tail_block
  blocks_apart c pin began inv unspent knows same = holder_apart o c seat s g pin began inv knows unspent found_here at.word word_here no_seal at.kind (sym at.block_is ∙ same)
