-- A walk at the front of its chain: it takes the kept table again, or begins with the log or with a snapshot.
use Rattle.std.proofs.Common.{◌≡◌, ◌≢◌, ◌<◌, ◌≤◌, ◌⊎◌, ◌+◌, ◌-◌, ◌*◌, ◌^◌, ◌==◌, ◌&&◌, ◌||◌, not, nat_le, inl, inr, ℕ, Bool, true, false, if◌then◌else◌, List, [], ◌∷◌, ◌++◌, length, refl, sym, ◌∙◌, ap, subst, arith, slice_index, Option, Some, None}
use Rattle.std.proofs.lemmas.Bool.{and_parts, eqb-true, eqb-false, leb-true, not-true}
use Rattle.log_entry.specs.Fields.{field}
use Rattle.log_entry.specs.declared.layouts.TheConstants.{BLOCK_BASE, BLOCK_KIND, LOG, SNAPSHOT, SNAPSHOT_SIZE}
use Rattle.log_image.specs.Image.{Shape, shape_by}
use Rattle.asks.specs.declared.ask.Ask.TheVariants.{Load}
use Rattle.asks.specs.declared.ask.Place.TheVariants.{Image}
use Rattle.pmem_words.specs.declared.keeps.KeptWord.{KeptWord}
use Rattle.pmem_words.specs.declared.machine.Turn.TheVariants.{Go, Done}
use Rattle.pmem_words.specs.Seats.{Seat}
use Rattle.pmem_words.specs.Scripts.{After}
use Rattle.persistence.specs.Memory.{found_answer}
use Rattle.log_core.specs.Entries.{place_in}
use Rattle.log_core.specs.Views.{Ghost, view_of}
use Rattle.log_core.specs.Origin.{Origin}
use Rattle.log_core.specs.Cores.{Core}
use Rattle.log_core.specs.Works.{Work, KeepsTable, StartsFromLog, StartsFromSnapshot, Forgets, IsAtFront, kept_at, word_or_zero, front, front_base, front_kind, seat_shape, tail_index, walk_kept}
use Rattle.log_core.specs.Invariant.{Invariant}
use Rattle.log_core.specs.Knows.{Knows}
use Rattle.log_core.specs.Within.{no_record, Lawful}
use Rattle.log_blocks.specs.declared.walk.Tail.{Tail}
use Rattle.log_blocks.specs.declared.walk.Walk.{Walk}
use Rattle.log_blocks.specs.declared.walk.Walk.TheVariants.{Begin, Size, Run}
use Rattle.log_blocks.specs.Taking.{table_kept, log_begun, snapshot_begun, with_kept}
use Rattle.log_blocks.specs.Walking.{walk_script, begin_after, front_after, keeps_table, walk_measure, begin_measure, whole_log, IsKind, IsOfImage, WalkAdmits, BeginAdmits}
use Rattle.log_blocks.specs.WalkWithin.{HasWalkedOn}
use Rattle.log_blocks.proofs.WalkStanding.{IsUnderWay, IsAtBegin, IsAtSize, WalkStands}
use Rattle.log_blocks.proofs.WalkWay.{MayGo, valid, free, pinned, goes_on, begins_on, eight, log_small}
use Rattle.log_blocks.proofs.KeptLists.{kept_last, kept_other}
use Rattle.log_blocks.proofs.FoundWords.{front_known, named_of_image}
use Rattle.log_blocks.proofs.Loading.{NamesAlways, at_place, seen, IsComputed, no_tail, lawful_load}

never : {P : Type 0} {b : Bool} → b ≡ false → b ≡ true → P
never is also = (let both : false ≡ true = sym is ∙ also in cc)

module _ (o : Origin) (seat : ℕ) (s0 : Seat) (g0 : Ghost) (go : MayGo s0 g0) (s : Seat) (g : Ghost) (on_way : IsUnderWay s0 g0 s g) where
  abbrev P : Walk → Seat → Ghost → Type 0
  P m t h = WalkStands s0 g0 m t h

  abbrev R : Tail → Seat → Ghost → Type 0
  R out t h = HasWalkedOn s0 g0 out t h

  module _ (not_ready : s.walk.ready ≡ false) where
    named : (slot : ℕ) → NamesAlways o seat s g (front s) slot
    named slot c pin began inv unspent knows = (front_known o c seat s g pin began inv knows (valid s0 g0 go s g on_way) (pinned s0 g0 go s g on_way not_ready)).named

    -- the front is of the image
    of_image : (c : Core) (pin began : ℕ) → Invariant o c → (view_of c.views seat).parts ≢ [] → Knows o c seat s g pin began → IsOfImage s (front s)
    of_image c pin began inv unspent knows = named_of_image o c seat s g pin began inv knows (valid s0 g0 go s g on_way) unspent (front s) (front_known o c seat s g pin began inv knows (valid s0 g0 go s g on_way) (pinned s0 g0 go s g on_way not_ready)).named

    -- what is said of a word of that block is of the image's word
    found_kind : (c : Core) (pin began : ℕ) → Invariant o c → (view_of c.views seat).parts ≢ [] → Knows o c seat s g pin began → IsKind (found_answer c.memory (Load (Image (place_in (seat_shape s) (front s) 1)))) × IsOfImage s (front s)
    found_kind c pin began inv unspent knows = (
      record {
        is = subst (λ (image : Shape). (field BLOCK_KIND (slice_index c.memory.now.words (place_in image (front s) 1)) ≡ LOG) ⊎ (field BLOCK_KIND (slice_index c.memory.now.words (place_in image (front s) 1)) ≡ SNAPSHOT))
            (sym (ap shape_by (knows.fits unspent).geometry)) (front_known o c seat s g pin began inv knows (valid s0 g0 go s g on_way) (pinned s0 g0 go s g on_way not_ready)).kind;
      },
      of_image c pin began inv unspent knows,
    )

    -- no tail is found by a seat that is not ready
    same_tail : (slot f : ℕ) → (seen o seat s g (front s) slot f).walk.at_tail ≡ s.walk.at_tail
    same_tail slot f = no_tail s.walk.at_tail _ (ap (λ (b : Bool). b && (f == 0) && (at_place o seat s g (front s) slot == place_in (seat_shape s) s.walk.tail_block (tail_index s))) not_ready)

    -- the second word of the front
    module _ (at : IsAtBegin s) where
      abbrev e : ℕ → Seat
      e f = seen o seat s g (front s) 1 f

      abbrev works : Bool → Bool → List Work
      works true snapshot = KeepsTable ∷ Forgets ∷ []
      works false true = []
      works false false = StartsFromLog ∷ []

      abbrev told : ℕ → After Walk Tail
      told f = front_after (keeps_table s (field BLOCK_BASE f)) (field BLOCK_KIND f == SNAPSHOT) s f

      second_kept : (f : ℕ) → kept_at (e f).walk.kept (front s) 1 ≡ Some f
      second_kept f = kept_last s.walk.kept (front s) 1 f

      base_read : (f : ℕ) → front_base (e f) ≡ field BLOCK_BASE f
      base_read f = ap (λ (found : Option ℕ). field BLOCK_BASE (word_or_zero found)) (second_kept f)

      kind_read : (f : ℕ) → front_kind (e f) ≡ field BLOCK_KIND f
      kind_read f = ap (λ (found : Option ℕ). field BLOCK_KIND (word_or_zero found)) (second_kept f)

      at_front : (f : ℕ) → IsAtFront (e f)
      at_front f = record {
        valid = valid s0 g0 go s g on_way;
        pinned = pinned s0 g0 go s g on_way not_ready;
        front = λ none. (let both : Some f ≡ None = sym (second_kept f) ∙ none in cc);
      }

      log_kind : (f : ℕ) → IsKind f → (field BLOCK_KIND f == SNAPSHOT) ≡ false → field BLOCK_KIND f ≡ LOG
      log_kind f kind other = Rattle.std.proofs.Common.⊎_elim (λ log. log) (λ snapshot. absurd (eqb-false (field BLOCK_KIND f) SNAPSHOT other snapshot)) kind.is

      computed : (table snapshot : Bool) (f : ℕ) → keeps_table s (field BLOCK_BASE f) ≡ table → (field BLOCK_KIND f == SNAPSHOT) ≡ snapshot → IsKind f →
          IsComputed g (e f) (works table snapshot) (front_after table snapshot s f).seat
      computed true snapshot f keeps is kind =
          (let parts = and_parts (not (s.walk.tail_block == 0) && not s.walk.reading) (nat_le (field BLOCK_BASE f) s.walk.tail_base) keeps in
          let first = and_parts (not (s.walk.tail_block == 0)) (not s.walk.reading) parts.0 in
          let low = leb-true (field BLOCK_BASE f) s.walk.tail_base parts.1 in
          let base = base_read f in
          record {
            may = ((at_front f, eqb-false s.walk.tail_block 0 (not-true (s.walk.tail_block == 0) first.0), not-true s.walk.reading first.1, omega (arith, low, base)), (tt, tt));
            going_on = refl;
            gives = ap (λ (b : ℕ). table_kept s b) (sym base)
                ∙ ap (λ (b : Bool). record s { walk = record (walk_kept s.walk (front_base (e f))) { kept = []; at_tail = b }; calling = record s.calling { noting = false } }) (sym (same_tail 1 f));
          })
      computed false true f keeps is kind = record {
        may = tt;
        going_on = refl;
        gives = ap (λ (b : Bool). record s { walk = record s.walk { kept = s.walk.kept ++ record { block = front s; slot = 1; word = f } ∷ []; at_tail = b } }) (sym (same_tail 1 f));
      }
      computed false false f keeps is kind = record {
        may = (record { at_front = at_front f; free = free s0 g0 go s g on_way; no_bases = at.no_bases not_ready; kind_is = kind_read f ∙ log_kind f kind is }, tt);
        going_on = refl;
        gives = ap (λ (b : ℕ). log_begun s b) (sym (base_read f));
      }

      unready : {X : Type 0} → s.walk.ready ≡ true → X
      unready ready = never not_ready ready

      goes : (table snapshot : Bool) (f : ℕ) → (field BLOCK_KIND f == SNAPSHOT) ≡ snapshot → (front_after table snapshot s f).turn ≡ Go →
          P (front_after table snapshot s f).machine (front_after table snapshot s f).seat g
      goes true snapshot f is turn = record {
        on_way = begins_on s0 g0 go s g on_way (table_kept s (field BLOCK_BASE f)).walk false s.blocks.named (λ ready. unready ready);
        stage = record { none_kept = refl; no_bases = λ other. cc };
      }
      goes false true f is turn = record {
        on_way = goes_on s0 g0 go s g on_way (with_kept s (front s) 1 f).walk (λ ready. unready ready);
        stage = record {
          not_ready = not_ready;
          no_bases = at.no_bases not_ready;
          word = f;
          kept = ap (λ (kept : List KeptWord). kept ++ record { block = front s; slot = 1; word = f } ∷ []) at.none_kept;
          base_is = refl;
          kind_is = eqb-true (field BLOCK_KIND f) SNAPSHOT is;
        };
      }
      goes false false f is turn = record {
        on_way = begins_on s0 g0 go s g on_way (log_begun s (field BLOCK_BASE f)).walk (log_begun s (field BLOCK_BASE f)).calling.noting (log_begun s (field BLOCK_BASE f)).blocks.named (λ ready. unready ready);
        stage = record { none_kept = refl; no_bases = λ other. cc };
      }

      falls : (table snapshot : Bool) (f : ℕ) → walk_measure (front_after table snapshot s f).machine (front_after table snapshot s f).seat < 2 * whole_log + 1
      falls true snapshot f = (let low = log_small (table_kept s (field BLOCK_BASE f)) in omega (arith, low))
      falls false true f = omega arith
      falls false false f = (let low = log_small (log_begun s (field BLOCK_BASE f)) in omega (arith, low))

      no_end : (table snapshot : Bool) (f : ℕ) (out : Tail) → (front_after table snapshot s f).turn ≡ Done out → ⊥
      no_end true snapshot f out done = cc
      no_end false true f out done = cc
      no_end false false f out done = cc

      kind_admitted : (f : ℕ) → WalkAdmits Begin s f → IsKind f
      kind_admitted f admits = (front_admits (subst (λ (b : Bool). BeginAdmits b s f) not_ready admits.stage)).0
        where
          front_admits : BeginAdmits false s f → IsKind f × IsOfImage s (front s)
          front_admits both = both

      admitted : (f : ℕ) → IsKind f × IsOfImage s (front s) → WalkAdmits Begin s f
      admitted f kind = record {
        room = (let wide = eight s in let none = ap (λ (kept : List KeptWord). length kept) at.none_kept in omega (arith, wide, none));
        stage = subst (λ (b : Bool). BeginAdmits b s f) (sym not_ready) kind;
        falls = λ turn. subst (λ (r : After Walk Tail). walk_measure r.machine r.seat < begin_measure s.walk.ready s) (sym (ap (λ (b : Bool). begin_after b s f) not_ready))
            (subst (λ (b : Bool). walk_measure (told f).machine (told f).seat < begin_measure b s) (sym not_ready) (falls (keeps_table s (field BLOCK_BASE f)) (field BLOCK_KIND f == SNAPSHOT) f));
      }

      pub front_lawful : Lawful o seat walk_script no_record P R Begin s g
      front_lawful = lawful_load o seat s g (front s) 1 (valid s0 g0 go s g on_way) (let wide = eight s in omega (arith, wide)) (named 1) walk_script P R Begin
          (ap (λ (b : Bool). Load (Image (place_in (seat_shape s) (if b then s.walk.tail_block else front s) (if b then tail_index s else 1)))) not_ready)
          (λ f. works (keeps_table s (field BLOCK_BASE f)) (field BLOCK_KIND f == SNAPSHOT)) told (λ f. ap (λ (b : Bool). begin_after b s f) not_ready)
          (λ c pin began inv unspent knows. admitted _ (found_kind c pin began inv unspent knows))
          (λ f found admits. computed (keeps_table s (field BLOCK_BASE f)) (field BLOCK_KIND f == SNAPSHOT) f refl refl (kind_admitted f admits))
          (λ f found admits turn. goes (keeps_table s (field BLOCK_BASE f)) (field BLOCK_KIND f == SNAPSHOT) f refl turn)
          (λ f out found admits done. absurd (no_end (keeps_table s (field BLOCK_BASE f)) (field BLOCK_KIND f == SNAPSHOT) f out done))

  -- the word with the size of a snapshot
  module _ (base : ℕ) (at : IsAtSize base s) where
    abbrev e_size : ℕ → Seat
    e_size f = seen o seat s g (front s) 2 f

    third_kept : (f : ℕ) → kept_at (e_size f).walk.kept (front s) 2 ≡ Some f
    third_kept f = kept_last s.walk.kept (front s) 2 f

    second_still : (f : ℕ) → kept_at (e_size f).walk.kept (front s) 1 ≡ Some at.word
    second_still f = kept_other s.walk.kept (front s) (front s) 2 1 f (λ same. omega (arith, same))
        ∙ (ap (λ (kept : List KeptWord). kept_at kept (front s) 1) at.kept ∙ kept_last [] (front s) 1 at.word)

    computed_size : (f : ℕ) → IsComputed g (e_size f) (StartsFromSnapshot ∷ []) (snapshot_begun s base (field SNAPSHOT_SIZE f))
    computed_size f = record {
      may = (
        (
          record {
            at_front = record {
              valid = valid s0 g0 go s g on_way;
              pinned = pinned s0 g0 go s g on_way at.not_ready;
              front = λ none. (let both : Some at.word ≡ None = sym (second_still f) ∙ none in cc);
            };
            free = free s0 g0 go s g on_way;
            no_bases = at.no_bases;
            kind_is = ap (λ (found : Option ℕ). field BLOCK_KIND (word_or_zero found)) (second_still f) ∙ at.kind_is;
          },
          λ none. (let both : Some f ≡ None = sym (third_kept f) ∙ none in cc),
        ),
        tt,
      );
      going_on = refl;
      gives = ap (λ (b : ℕ). snapshot_begun s b (field SNAPSHOT_SIZE f)) (sym (ap (λ (found : Option ℕ). field BLOCK_BASE (word_or_zero found)) (second_still f) ∙ at.base_is))
          ∙ ap (λ (size : ℕ). snapshot_begun s (front_base (e_size f)) size) (sym (ap (λ (found : Option ℕ). field SNAPSHOT_SIZE (word_or_zero found)) (third_kept f)));
    }

    pub size_lawful : Lawful o seat walk_script no_record P R (Size base) s g
    size_lawful = lawful_load o seat s g (front s) 2 (valid s0 g0 go s g on_way) (let wide = eight s in omega (arith, wide)) (named at.not_ready 2) walk_script P R (Size base) refl
        (λ f. StartsFromSnapshot ∷ []) (λ f. record { machine = Run; seat = snapshot_begun s base (field SNAPSHOT_SIZE f); turn = Go }) (λ f. refl)
        (λ c pin began inv unspent knows. record {
          room = (let wide = eight s in let one = ap (λ (kept : List KeptWord). length kept) at.kept in omega (arith, wide, one));
          stage = of_image at.not_ready c pin began inv unspent knows;
          falls = λ turn. omega arith;
        })
        (λ f found admits. computed_size f)
        (λ f found admits turn. record {
          on_way = begins_on s0 g0 go s g on_way (snapshot_begun s base (field SNAPSHOT_SIZE f)).walk (snapshot_begun s base (field SNAPSHOT_SIZE f)).calling.noting (snapshot_begun s base (field SNAPSHOT_SIZE f)).blocks.named (λ ready. never at.not_ready ready);
          stage = record {
            reads = record { not_ready = refl; no_bases = at.no_bases; reading = refl; pinned = refl; from = omega arith; upto = (let wide = eight s in omega (arith, wide)) };
            more = λ same. (let wide = eight s in omega (arith, wide, same));
            none_kept = refl;
          };
        })
        (λ f out found admits done. cc)
