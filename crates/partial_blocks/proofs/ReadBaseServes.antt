-- A read of one base is lawful within a core.
use Rattle.std.proofs.Common.{◌≡◌, ◌≢◌, ◌<◌, ◌≤◌, ◌+◌, ◌-◌, ◌*◌, ◌||◌, nat_lt, ℕ, suc, Bool, true, false, List, [], ◌∷◌, ◌++◌, length, refl, sym, ◌∙◌, ap, subst, arith, append_assoc, Option, Some, None}
use Rattle.std.proofs.lemmas.Bool.{ltb-true, ltb-false}
use Rattle.std.proofs.lemmas.List.{length-append}
use Rattle.pmem_words.specs.declared.keeps.KeptWord.{KeptWord}
use Rattle.pmem_words.specs.declared.machine.Turn.TheVariants.{Go, Done}
use Rattle.pmem_words.specs.Seats.{Seat}
use Rattle.log_core.specs.Views.{Ghost}
use Rattle.log_core.specs.Origin.{Origin}
use Rattle.log_core.specs.Works.{AddsBaseWord, Forgets, MayAddBaseWord, state_after_all_work, words_of, base_slot, base_block, word_of_block, word_or_zero, kept_at, last_or}
use Rattle.log_core.specs.Steps.{is_tail_found}
use Rattle.log_core.specs.Within.{no_record, Lawful, Serves}
use Rattle.log_core.proofs.machines.MachineLaws.{Law, promised}
use Rattle.log_blocks.proofs.KeptLists.{kept_last}
use Rattle.log_blocks.proofs.Loading.{NamesAlways, at_place, seen, IsComputed, lawful_load}
use Rattle.partial_blocks.specs.declared.read_base.ReadBase.{ReadBase}
use Rattle.partial_blocks.specs.ReadingBase.{read_base_of, base_word_added, base_after, read_base_script, read_base_lowers}
use Rattle.partial_blocks.specs.BasesWithin.{with_base_words, MayReadBase, HasReadBase, ReadsBaseWithin}
use Rattle.partial_blocks.proofs.MappedLoads.{mapped_always}

-- since it began at a state of the seat, it has so many words of the block
pub record IsReadingBase (block : ℕ) (s0 : Seat) (g0 : Ghost) (m : ReadBase) (s : Seat) (g : Ghost) : Type 0 where
  pub words : List ℕ
  pub few : length words < words_of s0
  pub machine : m ≡ record { block = block; word = length words }
  pub seat : s ≡ with_base_words words s0
  pub ghost : g ≡ g0

-- after a word the seat is the same whether it goes on or ends
pub seat_after : (more : Bool) (m : ReadBase) (s : Seat) → (base_after more m s).seat ≡ s
seat_after true m s = refl
seat_after false m s = refl

module _ (block : ℕ) (o : Origin) (seat : ℕ) (s0 : Seat) (g0 : Ghost) (may : MayReadBase block o seat s0 g0) where
  abbrev P : ReadBase → Seat → Ghost → Type 0
  P m s g = IsReadingBase block s0 g0 m s g

  abbrev R : Unit {0} → Seat → Ghost → Type 0
  R out s g = HasReadBase s0 g0 out s g

  module _ (words : List ℕ) (few : length words < words_of s0) where
    abbrev s : Seat
    s = with_base_words words s0

    abbrev m : ReadBase
    m = record { block = block; word = length words }

    abbrev t : ℕ → Seat
    t f = base_word_added f s

    abbrev more : Bool
    more = nat_lt (length words + 1) (words_of s)

    slot_is : base_slot s ≡ length words
    slot_is = (let long = length-append s0.calling.base_words words in let whole = may.whole in omega (arith, long, whole))

    named : NamesAlways o seat s g0 block (length words)
    named = mapped_always o seat s g0 may.reads.valid may.reads.own_table (last_or 0 s0.calling.bases) block may.block_is (length words)

    pushed : (f : ℕ) → (s0.calling.base_words ++ words) ++ f ∷ [] ≡ s0.calling.base_words ++ (words ++ f ∷ [])
    pushed f = append_assoc s0.calling.base_words words (f ∷ [])

    now : (f : ℕ) → t f ≡ with_base_words (words ++ f ∷ []) s0
    now f = ap (λ (l : List ℕ). record s0 { calling = record s0.calling { base_words = l } }) (pushed f)

    long_now : (f : ℕ) → length (words ++ f ∷ []) ≡ length words + 1
    long_now f = length-append words (f ∷ [])

    -- the word is the one found
    still_tail : (f : ℕ) → (s0.walk.at_tail || is_tail_found s (at_place o seat s g0 block (length words)) f) ≡ s0.walk.at_tail
    still_tail f = ap (λ (b : Bool). b || is_tail_found s (at_place o seat s g0 block (length words)) f) may.reads.at_tail ∙ sym may.reads.at_tail

    kept_now : (f : ℕ) → kept_at (seen o seat s g0 block (length words) f).walk.kept block (length words) ≡ Some f
    kept_now f = kept_last s0.walk.kept block (length words) f

    word_is : (f : ℕ) → word_of_block (seen o seat s g0 block (length words) f) (base_block s) (base_slot s) ≡ f
    word_is f = ap (λ (found : Option ℕ). word_of_block (seen o seat s g0 block (length words) f) found (base_slot s)) may.block_is
        ∙ (ap (λ (slot : ℕ). word_or_zero (kept_at (seen o seat s g0 block (length words) f).walk.kept block slot)) slot_is ∙ ap word_or_zero (kept_now f))

    abbrev with_word : Bool → List KeptWord → ℕ → Seat
    with_word at_tail kept f = record s { walk = record s.walk { at_tail = at_tail; kept = kept }; calling = record s.calling { base_words = s.calling.base_words ++ f ∷ [] } }

    gives : (f : ℕ) → t f ≡ state_after_all_work (seen o seat s g0 block (length words) f) (AddsBaseWord ∷ Forgets ∷ [])
    gives f = ap (λ (b : Bool). with_word b s0.walk.kept f) (sym (still_tail f))
        ∙ (ap (λ (l : List KeptWord). with_word (s0.walk.at_tail || is_tail_found s (at_place o seat s g0 block (length words)) f) l f) may.none_kept
        ∙ ap (λ (w : ℕ). with_word (s0.walk.at_tail || is_tail_found s (at_place o seat s g0 block (length words)) f) [] w) (sym (word_is f)))

    may_add : (f : ℕ) → MayAddBaseWord (seen o seat s g0 block (length words) f)
    may_add f = record {
      reads = record { valid = may.reads.valid; own_table = may.reads.own_table; at_tail = still_tail f ∙ may.reads.at_tail };
      begun = may.begun;
      inside = (let slot = slot_is in omega (arith, slot, few));
      known = λ other is none. (let same : Some other ≡ Some block = sym is ∙ may.block_is in
          let here : kept_at (seen o seat s g0 block (length words) f).walk.kept block (length words) ≡ None =
          subst (λ (found : Option ℕ). (b : ℕ) → found ≡ Some b → kept_at (seen o seat s g0 block (length words) f).walk.kept b (base_slot s) ≡ None → kept_at (seen o seat s g0 block (length words) f).walk.kept block (length words) ≡ None) (sym is)
          (λ b found nothing. (let two : other ≡ b = cc in let one : other ≡ block = cc in
          ap (λ (slot : ℕ). kept_at (seen o seat s g0 block (length words) f).walk.kept block slot) (sym slot_is)
          ∙ (ap (λ (k : ℕ). kept_at (seen o seat s g0 block (length words) f).walk.kept k (base_slot s)) (sym one ∙ two) ∙ nothing))) other is none in
          let both : Some f ≡ None = sym (kept_now f) ∙ here in cc);
    }

    computed : (f : ℕ) → IsComputed g0 (seen o seat s g0 block (length words) f) (AddsBaseWord ∷ Forgets ∷ []) (base_after more m (t f)).seat
    computed f = record { may = (may_add f, (tt, tt)); going_on = refl; gives = seat_after more m (t f) ∙ gives f }

    goes : (b : Bool) (f : ℕ) → more ≡ b → (base_after b m (t f)).turn ≡ Go → P (base_after b m (t f)).machine (base_after b m (t f)).seat g0
    goes true f is go = record {
      words = words ++ f ∷ [];
      few = (let long = long_now f in let low = ltb-true (length words + 1) (words_of s) is in omega (arith, long, low));
      machine = ap (λ (n : ℕ). record { block = block; word = n }) (sym (long_now f));
      seat = now f;
      ghost = refl;
    }
    goes false f is go = cc

    ends : (b : Bool) (f : ℕ) (out : Unit {0}) → more ≡ b → (base_after b m (t f)).turn ≡ Done out → R out (base_after b m (t f)).seat g0
    ends true f out is done = cc
    ends false f out is done = record {
      words = words ++ f ∷ [];
      whole = (let long = long_now f in let past = ltb-false (length words + 1) (words_of s) is in omega (arith, long, past, few));
      left = now f;
      ghost = refl;
    }

    room : length (s0.calling.base_words ++ words) < 2 * words_of s0
    room = (let long = length-append s0.calling.base_words words in let whole = may.whole in
        let most : (length s0.calling.bases - 1) * words_of s0 ≤ 1 * words_of s0 = Rattle.std.proofs.Common.mul-le-mul_right (words_of s0) (let two = may.few in omega (arith, two)) in
        omega (arith, long, whole, most, few))

    lawful_there : Lawful o seat read_base_script no_record P R m s g0
    lawful_there = lawful_load o seat s g0 block (length words) may.reads.valid few named read_base_script P R m refl (λ f. AddsBaseWord ∷ Forgets ∷ []) (λ f. base_after more m (t f)) (λ f. refl)
        (λ c pin began inv unspent knows. record { room = room; inside = few })
        (λ f found admits. computed f)
        (λ f found admits turn. goes more f refl turn)
        (λ f out found admits done. ends more f out refl done)

  pub read_base_serves : Serves o seat read_base_script no_record P R
  read_base_serves m s g stands =
      subst (λ (n : ReadBase). Lawful o seat read_base_script no_record P R n s g) (sym stands.machine)
      (subst (λ (u : Seat). Lawful o seat read_base_script no_record P R (record { block = block; word = length stands.words }) u g) (sym stands.seat)
      (subst (λ (h : Ghost). Lawful o seat read_base_script no_record P R (record { block = block; word = length stands.words }) (with_base_words stands.words s0) h) (sym stands.ghost)
      (lawful_there stands.words stands.few)))

pub append_none : (l : List ℕ) → l ≡ l ++ []
append_none [] = refl
append_none (x ∷ l) = ap (λ (rest : List ℕ). x ∷ rest) (append_none l)

pub read_base_begins : (block : ℕ) (o : Origin) (seat : ℕ) (s : Seat) (g : Ghost) → MayReadBase block o seat s g → IsReadingBase block s g (read_base_of block) s g
read_base_begins block o seat s g may = record {
  words = [];
  few = (let wide = (Rattle.log_core.proofs.BlockWords.q_range s.geometry).0 in omega (arith, wide));
  machine = refl;
  seat = ap (λ (l : List ℕ). record s { calling = record s.calling { base_words = l } }) (append_none s.calling.base_words);
  ghost = refl;
}

abbrev pub read_base_law : (block : ℕ) → Law read_base_script (read_base_of block)
read_base_law block = record {
  may = MayReadBase block;
  stands = λ o seat s0 g0 m s g. IsReadingBase block s0 g0 m s g;
  left = λ o seat s0 g0 out s g. HasReadBase s0 g0 out s g;
  begins = λ o seat s g may. read_base_begins block o seat s g may;
  serves = λ o seat s0 g0 may. read_base_serves block o seat s0 g0 may;
  lowers = read_base_lowers;
}

pub reads_base_within : ReadsBaseWithin
reads_base_within block = promised read_base_script (read_base_of block) (read_base_law block)
