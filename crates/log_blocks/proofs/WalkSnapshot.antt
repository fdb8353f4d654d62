-- A walk in a snapshot: it takes in the entries of a block, and goes on to the block that follows.
use Rattle.std.proofs.Common.{◌≡◌, ◌≢◌, ◌<◌, ◌⊎◌, ◌+◌, ◌^◌, ◌==◌, ◌&&◌, inl, inr, ⊎_elim, ℕ, Bool, true, false, List, [], ◌∷◌, ◌++◌, length, refl, sym, ◌∙◌, ap, subst, arith, slice_index, Option, Some, None}
use Rattle.std.proofs.lemmas.Bool.{eqb-true, eqb-false}
use Rattle.std.proofs.lemmas.List.{length-append}
use Rattle.log_entry.specs.Fields.{field}
use Rattle.log_entry.specs.declared.layouts.TheConstants.{BLOCK_KIND, EMPTY, LOG, SNAPSHOT}
use Rattle.log_image.specs.Image.{Shape, shape_by}
use Rattle.log_image.specs.Entries.{direct_meaning, names}
use Rattle.log_image.specs.Format.{fits, is_snapshot_entry}
use Rattle.asks.specs.declared.ask.Ask.TheVariants.{Load}
use Rattle.asks.specs.declared.ask.Place.TheVariants.{Image}
use Rattle.chain_reader.proofs.FitsLemmas.{snapshot_fits}
use Rattle.pmem_words.specs.declared.keeps.KeptWord.{KeptWord}
use Rattle.pmem_words.specs.declared.machine.Turn.TheVariants.{Go, Done}
use Rattle.pmem_words.specs.Seats.{Seat}
use Rattle.pmem_words.specs.Scripts.{After}
use Rattle.persistence.specs.Memory.{found_answer}
use Rattle.log_core.specs.Entries.{place_in}
use Rattle.log_core.specs.Views.{Ghost, view_of}
use Rattle.log_core.specs.Origin.{Origin, shape}
use Rattle.log_core.specs.Cores.{Core}
use Rattle.log_core.specs.Works.{Work, ReadsRun, NextSnapshot, EndsReading, IsReading, HasReadBlock, kept_at, kept_word, word_or_zero, seat_shape, words_of, tail_index, with_entry, blocks_noted}
use Rattle.log_core.specs.Invariant.{Invariant}
use Rattle.log_core.specs.Knows.{Knows}
use Rattle.log_core.specs.Within.{no_record, Lawful}
use Rattle.log_core.proofs.kinds.ReadsSnapshot.{run_form}
use Rattle.log_blocks.specs.declared.walk.Tail.{Tail}
use Rattle.log_blocks.specs.declared.walk.Walk.{Walk}
use Rattle.log_blocks.specs.declared.walk.Walk.TheVariants.{Run, Link, Next}
use Rattle.log_blocks.specs.Taking.{with_kept, run_taken, next_begun, reading_ended}
use Rattle.log_blocks.specs.Walking.{walk_script, run_after, run_or_link, next_after, walk_measure, IsKind}
use Rattle.log_blocks.specs.WalkWithin.{HasWalkedOn}
use Rattle.log_blocks.proofs.WalkStanding.{IsUnderWay, IsInSnapshot, IsAtRun, IsAtLink, IsAtNext, HasNoMore, WalkStands}
use Rattle.log_blocks.proofs.WalkWay.{MayGo, valid, goes_on, notes_on, eight, most, log_small}
use Rattle.log_blocks.proofs.KeptLists.{kept_last, kept_other}
use Rattle.log_blocks.proofs.FoundWords.{reading_known, next_known, place_small, named_small, named_of_image, chain, chain_is_kept}
use Rattle.log_blocks.proofs.Loading.{NamesAlways, at_place, seen, knows_seen, IsComputed, no_tail, lawful_load}

never : {P : Type 0} {b : Bool} → b ≡ false → b ≡ true → P
never is also = (let both : false ≡ true = sym is ∙ also in cc)

module _ (o : Origin) (seat : ℕ) (s0 : Seat) (g0 : Ghost) (go : MayGo s0 g0) (s : Seat) (g : Ghost) (on_way : IsUnderWay s0 g0 s g) (reads : IsInSnapshot s) where
  abbrev P : Walk → Seat → Ghost → Type 0
  P m t h = WalkStands s0 g0 m t h

  abbrev R : Tail → Seat → Ghost → Type 0
  R out t h = HasWalkedOn s0 g0 out t h

  unready : {X : Type 0} → s.walk.ready ≡ true → X
  unready ready = never reads.not_ready ready

  reading : IsReading s
  reading = record { valid = valid s0 g0 go s g on_way; reading = reads.reading; pinned = reads.pinned }

  named : (slot : ℕ) → NamesAlways o seat s g s.walk.reading_block slot
  named slot c pin began inv unspent knows = (reading_known o c seat s g pin began inv knows unspent reading).named

  -- no tail is found while a snapshot is read
  same_tail : (block slot f : ℕ) → (seen o seat s g block slot f).walk.at_tail ≡ s.walk.at_tail
  same_tail block slot f = no_tail s.walk.at_tail _ (ap (λ (b : Bool). b && (f == 0) && (at_place o seat s g block slot == place_in (seat_shape s) s.walk.tail_block (tail_index s))) reads.not_ready)

  -- so the word is kept, and nothing else has changed
  kept_so : (block slot f : ℕ) → with_kept s block slot f ≡ seen o seat s g block slot f
  kept_so block slot f = ap (λ (b : Bool). record s { walk = record s.walk { kept = s.walk.kept ++ record { block = block; slot = slot; word = f } ∷ []; at_tail = b } }) (sym (same_tail block slot f))

  length_kept : (block slot f : ℕ) → length (with_kept s block slot f).walk.kept ≡ length s.walk.kept + 1
  length_kept block slot f = length-append s.walk.kept (record { block = block; slot = slot; word = f } ∷ [])

  reads_kept : (block slot f : ℕ) → IsInSnapshot (with_kept s block slot f)
  reads_kept block slot f = record { not_ready = reads.not_ready; no_bases = reads.no_bases; reading = reads.reading; pinned = reads.pinned; from = reads.from; upto = reads.upto }

  -- a slot of the block come to
  module _ (at : IsAtRun s) where
    abbrev e : ℕ → Seat
    e f = seen o seat s g s.walk.reading_block s.walk.reading_slot f

    here : s.walk.reading_slot < words_of s
    here = (let upto = reads.upto in let more = at.more in omega (arith, upto, more))

    found_kept : (f : ℕ) → kept_at (e f).walk.kept s.walk.reading_block s.walk.reading_slot ≡ Some f
    found_kept f = kept_last s.walk.kept s.walk.reading_block s.walk.reading_slot f

    found_word : (f : ℕ) → kept_word (e f) s.walk.reading_block s.walk.reading_slot ≡ f
    found_word f = ap word_or_zero (found_kept f)

    abbrev works : Bool → List Work
    works true = []
    works false = ReadsRun ∷ []

    abbrev told : ℕ → After Walk Tail
    told f = run_after (f == EMPTY) s f

    computed : (empty : Bool) (f : ℕ) → (f == EMPTY) ≡ empty → IsComputed g (e f) (works empty) (run_after empty s f).seat
    computed true f is = record { may = tt; going_on = refl; gives = kept_so s.walk.reading_block s.walk.reading_slot f }
    computed false f is = record {
      may = ((record { valid = valid s0 g0 go s g on_way; reading = reads.reading; pinned = reads.pinned }, λ none. eqb-false f EMPTY is (sym (found_word f) ∙ none)), tt);
      going_on = refl;
      gives = ap (λ (word : ℕ). run_taken s word) (sym (found_word f))
          ∙ ap (λ (b : Bool). record s { walk = record s.walk { map = with_entry (direct_meaning (kept_word (e f) s.walk.reading_block s.walk.reading_slot)) s.walk.map; reading_slot = s.walk.reading_slot + 1; kept = []; at_tail = b }; blocks = blocks_noted s (names (direct_meaning (kept_word (e f) s.walk.reading_block s.walk.reading_slot))) })
          (sym (same_tail s.walk.reading_block s.walk.reading_slot f));
    }

    goes_by : (last : Bool) (f : ℕ) → (s.walk.reading_slot + 1 == words_of s) ≡ last → P (run_or_link last) (run_taken s f) g
    goes_by true f is = record {
      on_way = notes_on s0 g0 go s g on_way (run_taken s f).walk (run_taken s f).blocks.named (λ ready. unready ready);
      stage = record {
        reads = record { not_ready = reads.not_ready; no_bases = reads.no_bases; reading = reads.reading; pinned = reads.pinned; from = (let low = reads.from in omega (arith, low)); upto = (let low = here in omega (arith, low)) };
        no_more = record { none = inl (eqb-true (s.walk.reading_slot + 1) (words_of s) is) };
        few_kept = omega arith;
      };
    }
    goes_by false f is = record {
      on_way = notes_on s0 g0 go s g on_way (run_taken s f).walk (run_taken s f).blocks.named (λ ready. unready ready);
      stage = record {
        reads = record { not_ready = reads.not_ready; no_bases = reads.no_bases; reading = reads.reading; pinned = reads.pinned; from = (let low = reads.from in omega (arith, low)); upto = (let low = here in omega (arith, low)) };
        more = eqb-false (s.walk.reading_slot + 1) (words_of s) is;
        none_kept = refl;
      };
    }

    goes : (empty : Bool) (f : ℕ) → (f == EMPTY) ≡ empty → P (run_after empty s f).machine (run_after empty s f).seat g
    goes true f is = record {
      on_way = goes_on s0 g0 go s g on_way (with_kept s s.walk.reading_block s.walk.reading_slot f).walk (λ ready. unready ready);
      stage = record {
        reads = reads_kept s.walk.reading_block s.walk.reading_slot f;
        no_more = record { none = inr (kept_last s.walk.kept s.walk.reading_block s.walk.reading_slot f ∙ ap (λ (word : ℕ). Some word) (eqb-true f EMPTY is)) };
        few_kept = (let long = length_kept s.walk.reading_block s.walk.reading_slot f in let none = ap (λ (kept : List KeptWord). length kept) at.none_kept in omega (arith, long, none));
      };
    }
    goes false f is = goes_by (s.walk.reading_slot + 1 == words_of s) f refl

    falls_by : (last : Bool) (f : ℕ) → walk_measure (run_or_link last) (run_taken s f) < walk_measure Run s
    falls_by true f = (let low = here in let wide = most s in omega (arith, low, wide))
    falls_by false f = (let low = here in let wide = most s in omega (arith, low, wide))

    falls : (empty : Bool) (f : ℕ) → walk_measure (run_after empty s f).machine (run_after empty s f).seat < walk_measure Run s
    falls true f = (let low = here in let wide = most s in omega (arith, low, wide))
    falls false f = falls_by (s.walk.reading_slot + 1 == words_of s) f

    no_end : (empty : Bool) (f : ℕ) (out : Tail) → (run_after empty s f).turn ≡ Done out → ⊥
    no_end true f out done = cc
    no_end false f out done = cc

    -- a word that is not 0 is an entry that a snapshot block may have
    form_found : (c : Core) (pin began : ℕ) → Invariant o c → (view_of c.views seat).parts ≢ [] → Knows o c seat s g pin began → (f : ℕ) → found_answer c.memory (Load (Image (place_in (seat_shape s) s.walk.reading_block s.walk.reading_slot))) ≡ f →
        f ≢ EMPTY → fits (seat_shape s) 256 (direct_meaning f) ≡ true
    form_found c pin began inv unspent knows f is some = subst (λ (image : Shape). fits image 256 (direct_meaning f) ≡ true) (sym (ap shape_by (knows.fits unspent).geometry))
        (snapshot_fits (shape o) f (subst (λ (word : ℕ). is_snapshot_entry (shape o) word ≡ true) (found_word f)
        (run_form o c seat (e f) g pin 0 inv
        (knows_seen o seat s g s.walk.reading_block s.walk.reading_slot (valid s0 g0 go s g on_way) here (named s.walk.reading_slot) c pin began inv unspent knows f is)
        (record { valid = valid s0 g0 go s g on_way; reading = reads.reading; pinned = reads.pinned }) unspent (λ none. some (sym (found_word f) ∙ none)))))

    pub run_lawful : Lawful o seat walk_script no_record P R Run s g
    run_lawful = lawful_load o seat s g s.walk.reading_block s.walk.reading_slot (valid s0 g0 go s g on_way) here (named s.walk.reading_slot) walk_script P R Run refl
        (λ f. works (f == EMPTY)) told (λ f. refl)
        (λ c pin began inv unspent knows. record {
          room = (let wide = eight s in let none = ap (λ (kept : List KeptWord). length kept) at.none_kept in omega (arith, wide, none));
          stage = ((let low = here in let wide = most s in omega (arith, low, wide)), form_found c pin began inv unspent knows _ refl);
          falls = λ turn. falls (_ == EMPTY) _;
        })
        (λ f found admits. computed (f == EMPTY) f refl)
        (λ f found admits turn. goes (f == EMPTY) f refl)
        (λ f out found admits done. absurd (no_end (f == EMPTY) f out done))

  -- what is said of the block's end stays, when a word of another slot is kept
  more_kept : HasNoMore s → (block slot f : ℕ) → slot < 3 → HasNoMore (with_kept s block slot f)
  more_kept no_more block slot f low = record {
    none = ⊎_elim (λ last. inl last)
        (λ empty. inr (kept_other s.walk.kept block s.walk.reading_block slot s.walk.reading_slot f (λ same. (let from = reads.from in omega (arith, low, same, from))) ∙ empty)) no_more.none;
  }

  -- its link
  module _ (at : IsAtLink s) where
    small_link : (c : Core) (pin began : ℕ) → Invariant o c → (view_of c.views seat).parts ≢ [] → Knows o c seat s g pin began → (f : ℕ) → found_answer c.memory (Load (Image (place_in (seat_shape s) s.walk.reading_block 0))) ≡ f → f < 2 ^ 16
    small_link c pin began inv unspent knows f is =
        (let e : Seat = seen o seat s g s.walk.reading_block 0 f in
        let after : Knows o c seat e g pin 0 = knows_seen o seat s g s.walk.reading_block 0 (valid s0 g0 go s g on_way) (let wide = eight s in omega (arith, wide)) (named 0) c pin began inv unspent knows f is in
        let still : IsReading e = record { valid = valid s0 g0 go s g on_way; reading = reads.reading; pinned = reads.pinned } in
        named_small o c inv (chain o c seat e g pin 0 inv after still.valid) (chain_is_kept o c seat e g pin 0 inv after still.valid) f
        (next_known o c seat e g pin 0 inv after unspent still f (kept_last s.walk.kept s.walk.reading_block 0 f)).named)

    pub link_lawful : Lawful o seat walk_script no_record P R Link s g
    link_lawful = lawful_load o seat s g s.walk.reading_block 0 (valid s0 g0 go s g on_way) (let wide = eight s in omega (arith, wide)) (named 0) walk_script P R Link refl
        (λ f. []) (λ f. record { machine = Next f; seat = with_kept s s.walk.reading_block 0 f; turn = Go }) (λ f. refl)
        (λ c pin began inv unspent knows. record {
          room = (let wide = eight s in let few = at.few_kept in omega (arith, wide, few));
          stage = small_link c pin began inv unspent knows _ refl;
          falls = λ turn. omega arith;
        })
        (λ f found admits. record { may = tt; going_on = refl; gives = kept_so s.walk.reading_block 0 f })
        (λ f found admits turn. record {
          on_way = goes_on s0 g0 go s g on_way (with_kept s s.walk.reading_block 0 f).walk (λ ready. unready ready);
          stage = record {
            reads = reads_kept s.walk.reading_block 0 f;
            no_more = more_kept at.no_more s.walk.reading_block 0 f (omega arith);
            link = kept_last s.walk.kept s.walk.reading_block 0 f;
            few_kept = (let long = length_kept s.walk.reading_block 0 f in let few = at.few_kept in omega (arith, long, few));
          };
        })
        (λ f out found admits done. cc)

  -- and the second word of the block that this leads to
  module _ (block : ℕ) (at : IsAtNext block s) where
    abbrev next_e : ℕ → Seat
    next_e f = seen o seat s g block 1 f

    next_named : NamesAlways o seat s g block 1
    next_named c pin began inv unspent knows = (next_known o c seat s g pin began inv knows unspent reading block at.link).named

    abbrev next_works : Bool → List Work
    next_works true = NextSnapshot ∷ []
    next_works false = EndsReading ∷ []

    link_still : (f : ℕ) → kept_at (next_e f).walk.kept s.walk.reading_block 0 ≡ Some block
    link_still f = kept_other s.walk.kept block s.walk.reading_block 1 0 f (λ same. omega (arith, same)) ∙ at.link

    link_word : (f : ℕ) → kept_word (next_e f) s.walk.reading_block 0 ≡ block
    link_word f = ap word_or_zero (link_still f)

    kind_kept : (f : ℕ) → kept_at (next_e f).walk.kept (kept_word (next_e f) s.walk.reading_block 0) 1 ≡ Some f
    kind_kept f = ap (λ (b : ℕ). kept_at (next_e f).walk.kept b 1) (link_word f) ∙ kept_last s.walk.kept block 1 f

    read_block : (kind f : ℕ) → field BLOCK_KIND f ≡ kind → HasReadBlock (next_e f) kind
    read_block kind f is = record {
      reading = record { valid = valid s0 g0 go s g on_way; reading = reads.reading; pinned = reads.pinned };
      no_more = (more_kept at.no_more block 1 f (omega arith)).none;
      followed = record {
        link = λ none. (let both : Some block ≡ None = sym (link_still f) ∙ none in cc);
        next = λ none. (let both : Some f ≡ None = sym (kind_kept f) ∙ none in cc);
        kind_is = ap (λ (found : Option ℕ). field BLOCK_KIND (word_or_zero found)) (kind_kept f) ∙ is;
      };
    }

    next_computed : (snapshot : Bool) (f : ℕ) → (field BLOCK_KIND f == SNAPSHOT) ≡ snapshot → IsKind f → IsComputed g (next_e f) (next_works snapshot) (next_after snapshot block s).seat
    next_computed true f is kind = record {
      may = (read_block SNAPSHOT f (eqb-true (field BLOCK_KIND f) SNAPSHOT is), tt);
      going_on = refl;
      gives = ap (λ (b : ℕ). next_begun s b) (sym (link_word f))
          ∙ ap (λ (b : Bool). record s { walk = record s.walk { reading_block = kept_word (next_e f) s.walk.reading_block 0; reading_slot = 3; reading_place = s.walk.reading_place + 1; kept = []; at_tail = b }; blocks = blocks_noted s (kept_word (next_e f) s.walk.reading_block 0 ∷ []) }) (sym (same_tail block 1 f));
    }
    next_computed false f is kind = record {
      may = (read_block LOG f (⊎_elim (λ log. log) (λ snapshot. absurd (eqb-false (field BLOCK_KIND f) SNAPSHOT is snapshot)) kind.is), tt);
      going_on = refl;
      gives = ap (λ (b : ℕ). reading_ended s b) (sym (link_word f))
          ∙ ap (λ (b : Bool). reading_ended (record s { walk = record s.walk { at_tail = b } }) (kept_word (next_e f) s.walk.reading_block 0)) (sym (same_tail block 1 f));
    }

    next_goes : (snapshot : Bool) → P (next_after snapshot block s).machine (next_after snapshot block s).seat g
    next_goes true = record {
      on_way = notes_on s0 g0 go s g on_way (next_begun s block).walk (next_begun s block).blocks.named (λ ready. unready ready);
      stage = record {
        reads = record { not_ready = reads.not_ready; no_bases = reads.no_bases; reading = reads.reading; pinned = reads.pinned; from = omega arith; upto = (let wide = eight s in omega (arith, wide)) };
        more = λ same. (let wide = eight s in omega (arith, wide, same));
        none_kept = refl;
      };
    }
    next_goes false = record {
      on_way = notes_on s0 g0 go s g on_way (reading_ended s block).walk (reading_ended s block).blocks.named (λ ready. unready ready);
      stage = record { none_kept = refl; no_bases = λ other. cc };
    }

    next_falls : (snapshot : Bool) → s.walk.reading_place + 1 < 2 ^ 16 → walk_measure (next_after snapshot block s).machine (next_after snapshot block s).seat < walk_measure (Next block) s
    next_falls true small = omega (arith, small)
    next_falls false small = (let low = log_small (reading_ended s block) in omega (arith, low))

    next_no_end : (snapshot : Bool) (out : Tail) → (next_after snapshot block s).turn ≡ Done out → ⊥
    next_no_end true out done = cc
    next_no_end false out done = cc

    kind_found : (c : Core) (pin began : ℕ) → Invariant o c → (view_of c.views seat).parts ≢ [] → Knows o c seat s g pin began → IsKind (found_answer c.memory (Load (Image (place_in (seat_shape s) block 1))))
    kind_found c pin began inv unspent knows = record {
      is = subst (λ (image : Shape). (field BLOCK_KIND (slice_index c.memory.now.words (place_in image block 1)) ≡ LOG) ⊎ (field BLOCK_KIND (slice_index c.memory.now.words (place_in image block 1)) ≡ SNAPSHOT))
          (sym (ap shape_by (knows.fits unspent).geometry)) (next_known o c seat s g pin began inv knows unspent reading block at.link).kind;
    }

    pub next_lawful : Lawful o seat walk_script no_record P R (Next block) s g
    next_lawful = lawful_load o seat s g block 1 (valid s0 g0 go s g on_way) (let wide = eight s in omega (arith, wide)) next_named walk_script P R (Next block) refl
        (λ f. next_works (field BLOCK_KIND f == SNAPSHOT)) (λ f. next_after (field BLOCK_KIND f == SNAPSHOT) block s) (λ f. refl)
        (λ c pin began inv unspent knows. record {
          room = (let wide = eight s in let few = at.few_kept in omega (arith, wide, few));
          stage = (kind_found c pin began inv unspent knows, place_small o c seat s g pin began inv knows unspent reading, named_of_image o c seat s g pin began inv knows (valid s0 g0 go s g on_way) unspent block (next_named c pin began inv unspent knows));
          falls = λ turn. next_falls (field BLOCK_KIND (found_answer c.memory (Load (Image (place_in (seat_shape s) block 1)))) == SNAPSHOT) (place_small o c seat s g pin began inv knows unspent reading);
        })
        (λ f found admits. next_computed (field BLOCK_KIND f == SNAPSHOT) f refl (admits.stage).0)
        (λ f found admits turn. next_goes (field BLOCK_KIND f == SNAPSHOT))
        (λ f out found admits done. absurd (next_no_end (field BLOCK_KIND f == SNAPSHOT) out done))
