-- A walk at the tail of a seat that is ready: it takes in an entry, goes over a seal, follows a link, or has come to the end.
use Rattle.std.proofs.Common.{◌≡◌, ◌≢◌, ◌<◌, ◌≤◌, ◌+◌, ◌*◌, ◌^◌, ◌==◌, ◌||◌, not, inl, ℕ, suc, Bool, true, false, if◌then◌else◌, List, [], ◌∷◌, ◌++◌, length, refl, sym, ◌∙◌, ap, subst, arith, slice_index}
use Rattle.std.proofs.lemmas.Bool.{eqb-true, eqb-false, eq-eqb, ne_eqb}
use Rattle.log_entry.specs.Fields.{field}
use Rattle.log_entry.specs.declared.layouts.TheConstants.{EMPTY, SEAL, ENTRY_KIND, DIRECT, INDIRECT, INDIRECT_BLOCK}
use Rattle.log_image.specs.Image.{Shape, shape_by}
use Rattle.log_image.specs.Entries.{Meaning, direct_meaning, indirect_meaning}
use Rattle.log_image.specs.Format.{fits}
use Rattle.asks.specs.declared.ask.Ask.TheVariants.{Load}
use Rattle.asks.specs.declared.ask.Place.TheVariants.{Image}
use Rattle.pmem_words.specs.declared.keeps.KeptWord.{KeptWord}
use Rattle.pmem_words.specs.declared.machine.Turn.TheVariants.{Go, Done}
use Rattle.pmem_words.specs.Seats.{Seat}
use Rattle.pmem_words.specs.Scripts.{After}
use Rattle.persistence.specs.Memory.{found_answer}
use Rattle.log_core.specs.Entries.{place_in, meaning_by}
use Rattle.log_core.specs.Views.{Ghost, view_of}
use Rattle.log_core.specs.Origin.{Origin, shape}
use Rattle.log_core.specs.Cores.{Core}
use Rattle.log_core.specs.May.{is_log_entry_by}
use Rattle.log_core.specs.Works.{Work, Forgets, Follows, TakesSeal, TakesEntry, HasFoundSlot, HasFoundLink, IsKeptWhole, kept_at, kept_word, kept_content, word_or_zero, seat_shape, words_of, tail_index, tail_word, tail_meaning, touches, bases_left, state_after_work, blocks_noted}
use Rattle.log_core.specs.Invariant.{Invariant}
use Rattle.log_core.specs.Knows.{Knows}
use Rattle.log_core.specs.Within.{no_record, IsFound, Lawful}
use Rattle.log_blocks.specs.declared.walk.Tail.{Tail}
use Rattle.log_blocks.specs.declared.walk.Walk.{Walk}
use Rattle.log_blocks.specs.declared.walk.Walk.TheVariants.{Begin}
use Rattle.log_blocks.specs.Taking.{with_kept, taken, seal_taken, followed, tail_found}
use Rattle.log_blocks.specs.Walking.{walk_script, begin_after, tail_after, slot_after, tail_of, walk_measure, begin_measure, log_left, IsSlotWord, WalkAdmits, BeginAdmits}
use Rattle.log_blocks.specs.WalkWithin.{HasWalkedOn}
use Rattle.log_blocks.proofs.WalkStanding.{IsUnderWay, IsAtBegin, WalkStands}
use Rattle.log_blocks.proofs.WalkWay.{MayGo, valid, free, few, goes_on, goes_to, notes_on, eight, most, rank_small}
use Rattle.log_blocks.proofs.KeptLists.{kept_last}
use Rattle.log_blocks.proofs.FoundTail.{tail_named, tail_upto, position_small, few_words, seal_late, link_of_image, is_direct_kind, direct_fits, entry_form}
use Rattle.log_blocks.proofs.Loading.{NamesAlways, at_place, seen, knows_seen, IsComputed, no_tail, lawful_load}

-- an entry leaves no more partly touched blocks than there were
pub fewer_bases : (meaning : Meaning) (bases : List ℕ) → length (bases_left meaning bases) ≤ length bases
fewer_bases meaning [] = omega arith
fewer_bases meaning (base ∷ bases) = by (touches meaning base) (fewer_bases meaning bases)
  where
    by : (b : Bool) → length (bases_left meaning bases) ≤ length bases → length (if not b then base ∷ bases_left meaning bases else bases_left meaning bases) ≤ suc (length bases)
    by true rest = omega (arith, rest)
    by false rest = omega (arith, rest)

or_true : (b : Bool) → (b || true) ≡ true
or_true true = refl
or_true false = refl

module _ (o : Origin) (seat : ℕ) (s0 : Seat) (g0 : Ghost) (go : MayGo s0 g0) (s : Seat) (g : Ghost) (on_way : IsUnderWay s0 g0 s g) where
  abbrev P : Walk → Seat → Ghost → Type 0
  P m t h = WalkStands s0 g0 m t h

  abbrev R : Tail → Seat → Ghost → Type 0
  R out t h = HasWalkedOn s0 g0 out t h

  -- the call takes in an entry: the walk is one position further
  pub takes_entry : (meaning : Meaning) → s.walk.ready ≡ true → P Begin (taken s meaning) g
  takes_entry meaning ready = record {
    on_way = goes_to s0 g0 go s g on_way (taken s meaning).walk (taken s meaning).calling.bases (taken s meaning).calling.base_words s.calling.noting (taken s meaning).blocks.named (fewer_bases meaning s.calling.bases) (λ again. (ready, omega arith));
    stage = record { none_kept = refl; no_bases = λ other. (let both : true ≡ false = sym ready ∙ other in cc) };
  }

  -- and nearer to the end of the log
  pub taken_falls : (meaning : Meaning) → s.walk.ready ≡ true → s.walk.position < 2 ^ 40 → begin_measure (taken s meaning).walk.ready (taken s meaning) + 1 ≤ log_left s * 1024
  taken_falls meaning ready small = subst (λ (b : Bool). begin_measure b (taken s meaning) + 1 ≤ log_left s * 1024) (sym ready)
      (let rank = rank_small (s.walk.tail_slot + 1 == words_of s) (s.walk.tail_slot + 1 == 3) in omega (arith, small, rank))

  module _ (ready : s.walk.ready ≡ true) (at : IsAtBegin s) where
    abbrev e : ℕ → Seat
    e f = seen o seat s g s.walk.tail_block (tail_index s) f

    named : NamesAlways o seat s g s.walk.tail_block (tail_index s)
    named c pin began inv unspent knows = tail_named o c seat s g pin began inv knows unspent (valid s0 g0 go s g on_way) ready

    -- the tail is found where the word is 0, and only there
    found_empty : (f : ℕ) → f ≡ EMPTY → (e f).walk.at_tail ≡ true
    found_empty f none = rw (ready, none, eq-eqb (at_place o seat s g s.walk.tail_block (tail_index s)) (at_place o seat s g s.walk.tail_block (tail_index s)) refl) (or_true s.walk.at_tail)

    not_found : (f : ℕ) → f ≢ EMPTY → (e f).walk.at_tail ≡ s.walk.at_tail
    not_found f some = no_tail s.walk.at_tail _ (rw (ne_eqb f EMPTY some, ready) refl)

    abbrev closed : Bool
    closed = s.walk.tail_slot == words_of s

    abbrev told : ℕ → After Walk Tail
    told f = tail_after (f == EMPTY) closed s f

    abbrev slot_works : Bool → Bool → List Work
    slot_works true indirect = TakesSeal ∷ []
    slot_works false true = []
    slot_works false false = TakesEntry ∷ []

    abbrev works : Bool → Bool → ℕ → List Work
    works true last f = Forgets ∷ []
    works false true f = Follows ∷ []
    works false false f = slot_works (f == SEAL) (field ENTRY_KIND f == INDIRECT)

    index_closed : closed ≡ true → tail_index s ≡ 0
    index_closed is = rw is refl

    index_open : closed ≡ false → tail_index s ≡ s.walk.tail_slot
    index_open is = rw is refl

    found_word : (f : ℕ) → kept_word (e f) s.walk.tail_block (tail_index s) ≡ f
    found_word f = ap word_or_zero (kept_last s.walk.kept s.walk.tail_block (tail_index s) f)

    link_word : (f : ℕ) → closed ≡ true → kept_word (e f) s.walk.tail_block 0 ≡ f
    link_word f is = ap (λ (slot : ℕ). kept_word (e f) s.walk.tail_block slot) (sym (index_closed is)) ∙ found_word f

    slot_word : (f : ℕ) → closed ≡ false → tail_word (e f) ≡ f
    slot_word f is = ap (λ (slot : ℕ). kept_word (e f) s.walk.tail_block slot) (sym (index_open is)) ∙ found_word f

    has_found : (f : ℕ) → f ≢ EMPTY → closed ≡ false → HasFoundSlot g (e f)
    has_found f some is = record {
      free = free s0 g0 go s g on_way;
      valid = valid s0 g0 go s g on_way;
      ready = ready;
      inside = eqb-false s.walk.tail_slot (words_of s) is;
      used = λ none. some (sym (slot_word f is) ∙ none);
    }

    kept_so : (f : ℕ) → f ≢ EMPTY → closed ≡ false → with_kept s s.walk.tail_block s.walk.tail_slot f ≡ e f
    kept_so f some is =
        ap (λ (slot : ℕ). with_kept s s.walk.tail_block slot f) (sym (index_open is))
        ∙ ap (λ (b : Bool). record s { walk = record s.walk { kept = s.walk.kept ++ record { block = s.walk.tail_block; slot = tail_index s; word = f } ∷ []; at_tail = b } }) (sym (not_found f some))

    slot_computed : (seal indirect : Bool) (f : ℕ) → (f == SEAL) ≡ seal → (field ENTRY_KIND f == INDIRECT) ≡ indirect → f ≢ EMPTY → closed ≡ false → (seal ≡ false → indirect ≡ false → field ENTRY_KIND f ≡ DIRECT) →
        IsComputed g (e f) (slot_works seal indirect) (slot_after seal indirect s f).seat
    slot_computed true indirect f is kind some open_block direct = record {
      may = ((has_found f some open_block, slot_word f open_block ∙ eqb-true f SEAL is), tt);
      going_on = refl;
      gives = ap (λ (b : Bool). record s { walk = record s.walk { tail_slot = words_of s; kept = []; at_tail = b } }) (sym (not_found f some));
    }
    slot_computed false true f is kind some open_block direct = record { may = tt; going_on = refl; gives = kept_so f some open_block }
    slot_computed false false f is kind some open_block direct = record {
      may = (
        (
          has_found f some open_block,
          (λ seal. eqb-false f SEAL is (sym (slot_word f open_block) ∙ seal)),
          (λ indirect. absurd (eqb-false (field ENTRY_KIND f) INDIRECT kind (ap (field ENTRY_KIND) (sym (slot_word f open_block)) ∙ indirect))),
        ),
        tt,
      );
      going_on = refl;
      gives = ap (λ (m : Meaning). taken s m) (sym meaning_is);
    }
      where
        meaning_is : tail_meaning (e f) ≡ direct_meaning f
        meaning_is = ap (λ (word : ℕ). meaning_by (λ block. kept_content (e f) block) word) (slot_word f open_block)
            ∙ ap (λ (k : ℕ). if k == DIRECT then direct_meaning f else indirect_meaning (field INDIRECT_BLOCK f) (kept_content (e f) (field INDIRECT_BLOCK f))) (direct refl refl)

    computed : (empty last : Bool) (f : ℕ) → (f == EMPTY) ≡ empty → closed ≡ last → (f ≢ EMPTY → last ≡ false → (f == SEAL) ≡ false → (field ENTRY_KIND f == INDIRECT) ≡ false → field ENTRY_KIND f ≡ DIRECT) →
        IsComputed g (e f) (works empty last f) (tail_after empty last s f).seat
    computed true last f none is direct = record {
      may = (tt, tt);
      going_on = refl;
      gives = ap (λ (b : Bool). record s { walk = record s.walk { at_tail = b; kept = [] } }) (sym (found_empty f (eqb-true f EMPTY none)));
    }
    computed false true f some is direct = record {
      may = (
        record {
          free = free s0 g0 go s g on_way;
          valid = valid s0 g0 go s g on_way;
          ready = ready;
          at_end = eqb-true s.walk.tail_slot (words_of s) is;
          linked = λ none. eqb-false f EMPTY some (sym (link_word f is) ∙ none);
        },
        tt,
      );
      going_on = refl;
      gives = ap (λ (b : ℕ). followed s b) (sym (link_word f is))
          ∙ ap (λ (b : Bool). record s { walk = record s.walk { tail_block = kept_word (e f) s.walk.tail_block 0; tail_slot = 3; tail_base = s.walk.position; kept = []; at_tail = b }; blocks = blocks_noted s (kept_word (e f) s.walk.tail_block 0 ∷ []) }) (sym (not_found f (eqb-false f EMPTY some)));
    }
    computed false false f some is direct = slot_computed (f == SEAL) (field ENTRY_KIND f == INDIRECT) f refl refl (eqb-false f EMPTY some) is (λ seal indirect. direct (eqb-false f EMPTY some) refl seal indirect)

    slot_goes : (seal indirect : Bool) (f : ℕ) → (field ENTRY_KIND f == INDIRECT) ≡ indirect → closed ≡ false → P (slot_after seal indirect s f).machine (slot_after seal indirect s f).seat g
    slot_goes true indirect f kind is = record {
      on_way = goes_on s0 g0 go s g on_way (seal_taken s).walk (λ again. (ready, omega arith));
      stage = record { none_kept = refl; no_bases = at.no_bases };
    }
    slot_goes false true f kind is = record {
      on_way = goes_on s0 g0 go s g on_way (with_kept s s.walk.tail_block s.walk.tail_slot f).walk (λ again. (ready, omega arith));
      stage = record {
        ready = ready;
        unclosed = eqb-false s.walk.tail_slot (words_of s) is;
        inside = (let wide = eight s in omega (arith, wide));
        word = f;
        kind = eqb-true (field ENTRY_KIND f) INDIRECT kind;
        block_is = refl;
        words = [];
        kept = ap (λ (kept : List KeptWord). kept ++ record { block = s.walk.tail_block; slot = s.walk.tail_slot; word = f } ∷ []) at.none_kept;
        count_is = refl;
        apart = inl refl;
      };
    }
    slot_goes false false f kind is = takes_entry (direct_meaning f) ready

    goes : (empty last : Bool) (f : ℕ) → closed ≡ last → (tail_after empty last s f).turn ≡ Go → P (tail_after empty last s f).machine (tail_after empty last s f).seat g
    goes true last f is turn = cc
    goes false true f is turn = record {
      on_way = notes_on s0 g0 go s g on_way (followed s f).walk (followed s f).blocks.named (λ again. (ready, omega arith));
      stage = record { none_kept = refl; no_bases = at.no_bases };
    }
    goes false false f is turn = slot_goes (f == SEAL) (field ENTRY_KIND f == INDIRECT) f refl is

    same_tail_of : (last : Bool) → tail_of last s ≡ tail_of last (tail_found s)
    same_tail_of true = refl
    same_tail_of false = refl

    no_end : (seal indirect : Bool) (f : ℕ) (out : Tail) → (slot_after seal indirect s f).turn ≡ Done out → ⊥
    no_end true indirect f out done = cc
    no_end false true f out done = cc
    no_end false false f out done = cc

    ends : (empty last : Bool) (f : ℕ) (out : Tail) → closed ≡ last → (tail_after empty last s f).turn ≡ Done out → R out (tail_after empty last s f).seat g
    ends true last f out is done =
        (let on : IsUnderWay s0 g0 (tail_found s) g = goes_on s0 g0 go s g on_way (tail_found s).walk (λ again. (ready, omega arith)) in
        let same : tail_of last s ≡ out = cc in
        record {
          out_is = sym same ∙ (ap (λ (b : Bool). tail_of b s) (sym is) ∙ same_tail_of closed);
          at_tail = refl;
          ready = ready;
          none_kept = refl;
          few = on.few;
          rises = λ first. (on.rises first).1;
          left = on.left;
          ghost = on.ghost;
        })
    ends false true f out is done = cc
    ends false false f out is done = absurd (no_end (f == SEAL) (field ENTRY_KIND f == INDIRECT) f out done)

    -- what is admitted, by what is found
    module _ (c : Core) (pin began : ℕ) (inv : Invariant o c) (unspent : (view_of c.views seat).parts ≢ []) (knows : Knows o c seat s g pin began) where
      abbrev f : ℕ
      f = found_answer c.memory (Load (Image (place_in (seat_shape s) s.walk.tail_block (tail_index s))))

      here : tail_index s < words_of s
      here = by closed refl
        where
          by : (b : Bool) → closed ≡ b → (if b then 0 else s.walk.tail_slot) < words_of s
          by true is = (let wide = eight s in omega (arith, wide))
          by false is = (let upto = tail_upto o c seat s g pin began inv knows unspent (valid s0 g0 go s g on_way) ready in let apart = eqb-false s.walk.tail_slot (words_of s) is in omega (arith, upto, apart))

      abbrev is_known : Knows o c seat (e f) g pin 0
      is_known = knows_seen o seat s g s.walk.tail_block (tail_index s) (valid s0 g0 go s g on_way) here named c pin began inv unspent knows f refl

      present : (slot : ℕ) → tail_index s ≡ slot → slice_index c.memory.now.words (place_in (shape o) s.walk.tail_block slot) ≡ f
      present slot is = ap (λ (image : Shape). slice_index c.memory.now.words (place_in image s.walk.tail_block slot)) (sym (ap shape_by (knows.fits unspent).geometry))
          ∙ ap (λ (k : ℕ). slice_index c.memory.now.words (place_in (seat_shape s) s.walk.tail_block k)) (sym is)

      form : f ≢ EMPTY → closed ≡ false → f ≢ SEAL → is_log_entry_by c.recorded (shape o) f ≡ true
      form some is no_seal = entry_form o c seat (e f) g pin 0 inv is_known unspent (has_found f some is) f (slot_word f is) no_seal

      direct_kind : f ≢ EMPTY → closed ≡ false → (f == SEAL) ≡ false → (field ENTRY_KIND f == INDIRECT) ≡ false → field ENTRY_KIND f ≡ DIRECT
      direct_kind some is seal indirect = is_direct_kind c.recorded (shape o) f (form some is (eqb-false f SEAL seal)) (eqb-false (field ENTRY_KIND f) INDIRECT indirect)

      small : s.walk.position < 2 ^ 40
      small = position_small o c seat s g pin began inv knows unspent (valid s0 g0 go s g on_way) ready

      slot_word_is : s.walk.tail_slot ≢ words_of s → IsSlotWord s f
      slot_word_is open_block = record {
        room = record {
          slot = (let upto = tail_upto o c seat s g pin began inv knows unspent (valid s0 g0 go s g on_way) ready in let wide = most s in omega (arith, upto, wide));
          position = small;
        };
        few = record { few = few s0 g0 go s g on_way; words = few_words o c seat s g pin began inv knows unspent (valid s0 g0 go s g on_way) ready };
        direct = λ some no_seal other. subst (λ (image : Shape). fits image 256 (direct_meaning f) ≡ true) (sym (ap shape_by (knows.fits unspent).geometry))
            (direct_fits c.recorded (shape o) f (form some (ne_eqb s.walk.tail_slot (words_of s) open_block) no_seal) other);
      }

      slot_falls : (seal indirect : Bool) → (f == SEAL) ≡ seal → closed ≡ false → walk_measure (slot_after seal indirect s f).machine (slot_after seal indirect s f).seat < begin_measure true s
      slot_falls true indirect seal is = subst (λ (b : Bool). begin_measure b (seal_taken s) < begin_measure true s) (sym ready)
          (rw (is, eq-eqb (words_of s) (words_of s) refl, ne_eqb s.walk.tail_slot 3 (λ three. (let late = seal_late o c seat s g pin began inv knows unspent (valid s0 g0 go s g on_way) ready (eqb-false s.walk.tail_slot (words_of s) is) f (present s.walk.tail_slot (index_open is)) (eqb-true f SEAL seal) in omega (arith, late, three)))) (omega arith))
      slot_falls false true seal is = omega arith
      slot_falls false false seal is = (let low = taken_falls (direct_meaning f) ready small in omega (arith, low))

      falls : (empty last : Bool) → closed ≡ last → (tail_after empty last s f).turn ≡ Go → walk_measure (tail_after empty last s f).machine (tail_after empty last s f).seat < begin_measure true s
      falls true last is turn = cc
      falls false true is turn = subst (λ (b : Bool). begin_measure b (followed s f) < begin_measure true s) (sym ready)
          (rw (is, ne_eqb 3 (words_of s) (λ same. (let wide = eight s in omega (arith, wide, same)))) (omega arith))
      falls false false is turn = slot_falls (f == SEAL) (field ENTRY_KIND f == INDIRECT) refl is

      admitted : WalkAdmits Begin s f
      admitted = record {
        room = (let wide = eight s in let none = ap (λ (kept : List KeptWord). length kept) at.none_kept in omega (arith, wide, none));
        stage = subst (λ (b : Bool). BeginAdmits b s f) (sym ready)
            (slot_word_is, λ last some. link_of_image o c seat s g pin began inv knows unspent (valid s0 g0 go s g on_way) ready f (present 0 (index_closed (eq-eqb s.walk.tail_slot (words_of s) last))) some);
        falls = λ turn. subst (λ (r : After Walk Tail). r.turn ≡ Go → walk_measure r.machine r.seat < begin_measure s.walk.ready s) (sym (ap (λ (b : Bool). begin_after b s f) ready))
            (λ on. subst (λ (b : Bool). walk_measure (told f).machine (told f).seat < begin_measure b s) (sym ready) (falls (f == EMPTY) closed refl on)) turn;
      }

    -- what is found is the answer in some core
    direct_found : (f : ℕ) → IsFound o seat s g (Load (Image (place_in (seat_shape s) s.walk.tail_block (tail_index s)))) f → f ≢ EMPTY → closed ≡ false → (f == SEAL) ≡ false → (field ENTRY_KIND f == INDIRECT) ≡ false → field ENTRY_KIND f ≡ DIRECT
    direct_found f found = subst (λ (word : ℕ). word ≢ EMPTY → closed ≡ false → (word == SEAL) ≡ false → (field ENTRY_KIND word == INDIRECT) ≡ false → field ENTRY_KIND word ≡ DIRECT) found.is
        (direct_kind found.core found.pin found.began found.holds found.unspent found.knows)

    pub tail_lawful : (tail_index s < words_of s) → Lawful o seat walk_script no_record P R Begin s g
    tail_lawful inside = lawful_load o seat s g s.walk.tail_block (tail_index s) (valid s0 g0 go s g on_way) inside named walk_script P R Begin
        (ap (λ (b : Bool). Load (Image (place_in (seat_shape s) (if b then s.walk.tail_block else Rattle.log_core.specs.Works.front s) (if b then tail_index s else 1)))) ready)
        (λ f. works (f == EMPTY) closed f) told (λ f. ap (λ (b : Bool). begin_after b s f) ready)
        (λ c pin began inv unspent knows. admitted c pin began inv unspent knows)
        (λ f found admits. computed (f == EMPTY) closed f refl refl (λ some last seal indirect. direct_found f found some last seal indirect))
        (λ f found admits turn. goes (f == EMPTY) closed f refl turn)
        (λ f out found admits done. ends (f == EMPTY) closed f out refl done)
