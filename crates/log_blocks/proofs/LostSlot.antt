-- An exchange of the tail's slot that lost: the word found there, and what the seat computes with it.
use Rattle.std.proofs.Common.{◌≡◌, ◌≢◌, ◌<◌, ◌≤◌, ◌++◌, ◌==◌, ◌&&◌, ◌||◌, ℕ, Bool, true, false, if◌then◌else◌, List, [], ◌∷◌, refl, sym, ◌∙◌, ap, subst, arith, slice_index}
use Rattle.std.proofs.lemmas.Bool.{eqb-true, eqb-false, eq-eqb, ne_eqb, and_parts}
use Rattle.log_entry.specs.Fields.{field}
use Rattle.log_entry.specs.Shape.{longest_of, is_block_bytes, words_of_block}
use Rattle.log_entry.specs.Words.{entry_unnamed}
use Rattle.log_entry.specs.declared.layouts.TheConstants.{SEAL, ENTRY_KIND, DIRECT, INDIRECT, INDIRECT_BLOCK}
use Rattle.log_image.specs.Image.{Shape, is_in_data}
use Rattle.log_image.specs.Entries.{Meaning, direct_meaning, indirect_meaning}
use Rattle.log_image.specs.Format.{fits, is_direct, is_indirect, is_indirect_block}
use Rattle.pmem_words.specs.declared.keeps.KeptWord.{KeptWord}
use Rattle.pmem_words.specs.Seats.{Seat}
use Rattle.log_core.specs.Entries.{place_in, meaning_by}
use Rattle.log_core.specs.Views.{Ghost, view_of}
use Rattle.log_core.specs.Origin.{Origin, shape}
use Rattle.log_core.specs.Cores.{Core}
use Rattle.log_core.specs.Works.{Work, TakesEntry, TakesSeal, HasFoundSlot, kept_content, word_or_zero, tail_word, tail_meaning, seat_shape, words_of}
use Rattle.log_core.specs.Steps.{kept_with}
use Rattle.log_core.specs.May.{is_log_entry_by}
use Rattle.log_core.specs.Invariant.{Invariant}
use Rattle.log_core.specs.Knows.{Knows}
use Rattle.log_core.specs.Answers.{Enters}
use Rattle.chain_reader.proofs.FitsLemmas.{fits_more}
use Rattle.log_core.proofs.TailEnds.{same_shape, same_words, tail_load}
use Rattle.log_core.proofs.kinds.LosesExchange.{away_facts}
use Rattle.log_core.proofs.kinds.TakesEntry.{form}
use Rattle.log_core.proofs.machines.Entering.{enters_works}
use Rattle.log_blocks.specs.Taking.{with_kept, taken, HasRoom, HasFewBases}
use Rattle.log_blocks.specs.Walking.{IsSlotWord}
use Rattle.log_blocks.specs.WalkWithin.{MayTakeIn, MayWalkOn}
use Rattle.log_blocks.specs.Committing.{away, lost_by, lost_taken}
use Rattle.log_blocks.proofs.KeptLists.{kept_last}
use Rattle.log_blocks.proofs.Loading.{known_from_zero}
use Rattle.log_blocks.proofs.TailExchange.{kept_is}

-- the seat after it, with its count of lost exchanges
abbrev pub counting : ℕ → Seat → Seat
counting lost s = record s { calling = record s.calling { lost = lost } }

abbrev pub lost_seat : ℕ → ℕ → Seat → Seat
lost_seat lost f s = record s {
  walk = record s.walk { kept = record { block = s.walk.tail_block; slot = s.walk.tail_slot; word = f } ∷ []; at_tail = false };
  calling = record s.calling { lost = lost };
}

pub kept_so : (s : Seat) (f lost : ℕ) → s.walk.kept ≡ [] → s.walk.tail_slot < words_of s →
    record s { walk = record s.walk { kept = kept_with (words_of s) s.walk.kept (place_in (seat_shape s) s.walk.tail_block s.walk.tail_slot) f; at_tail = false }; calling = record s.calling { lost = lost } } ≡ lost_seat lost f s
kept_so s f lost none inside = ap (λ (kept : List KeptWord). record s { walk = record s.walk { kept = kept; at_tail = false }; calling = record s.calling { lost = lost } })
    (ap (λ (l : List KeptWord). kept_with (words_of s) l (place_in (seat_shape s) s.walk.tail_block s.walk.tail_slot) f) none ∙ kept_is (words_of s) s.walk.tail_block s.walk.tail_slot f inside)

-- an entry that is direct or not
pub direct_by : (content : ℕ → List ℕ) (word : ℕ) → (field ENTRY_KIND word == DIRECT) ≡ true → meaning_by content word ≡ direct_meaning word
direct_by content word is = ap (λ (b : Bool). if b then direct_meaning word else indirect_meaning (field INDIRECT_BLOCK word) (content (field INDIRECT_BLOCK word))) is

-- of the two kinds of an entry
pub direct_kind : (content : ℕ → List ℕ) (image : Shape) (word : ℕ) → is_log_entry_by content image word ≡ true → field ENTRY_KIND word ≢ INDIRECT → (field ENTRY_KIND word == DIRECT) ≡ true
direct_kind content image word good other = by (is_direct word) refl
    (and_parts (if is_direct word then true else is_indirect word && is_in_data image (field INDIRECT_BLOCK word) && is_indirect_block image (content (field INDIRECT_BLOCK word))) (fits image (longest_of image.block_bytes) (meaning_by content word)) good).0
  where
    by : (b : Bool) → is_direct word ≡ b → (if b then true else is_indirect word && is_in_data image (field INDIRECT_BLOCK word) && is_indirect_block image (content (field INDIRECT_BLOCK word))) ≡ true → (field ENTRY_KIND word == DIRECT) ≡ true
    by true e is = (and_parts (field ENTRY_KIND word == DIRECT) (entry_unnamed word == 0) e).0
    by false e is = absurd (other (eqb-true (field ENTRY_KIND word) INDIRECT
        (and_parts (field ENTRY_KIND word == INDIRECT) (entry_unnamed word == 0)
        (and_parts (is_indirect word) (is_in_data image (field INDIRECT_BLOCK word))
        (and_parts (is_indirect word && is_in_data image (field INDIRECT_BLOCK word)) (is_indirect_block image (content (field INDIRECT_BLOCK word))) is).0).0).0))

pub entry_fits : (content : ℕ → List ℕ) (image : Shape) (word : ℕ) → is_log_entry_by content image word ≡ true → fits image 256 (meaning_by content word) ≡ true
entry_fits content image word good = fits_more image (longest_of image.block_bytes) 256 (meaning_by content word) (omega arith)
    (and_parts (if is_direct word then true else is_indirect word && is_in_data image (field INDIRECT_BLOCK word) && is_indirect_block image (content (field INDIRECT_BLOCK word))) (fits image (longest_of image.block_bytes) (meaning_by content word)) good).1

pub few_words : (bytes : ℕ) → is_block_bytes bytes ≡ true → words_of_block bytes ≤ 512
few_words bytes allowed = by (bytes == 64) (bytes == 512) (bytes == 4096) refl refl refl allowed
  where
    by : (small middle large : Bool) → (bytes == 64) ≡ small → (bytes == 512) ≡ middle → (bytes == 4096) ≡ large → (small || middle || large) ≡ true → words_of_block bytes ≤ 512
    by true middle large is other another some = (let e = eqb-true bytes 64 is in omega (arith, e))
    by false true large is other another some = (let e = eqb-true bytes 512 other in omega (arith, e))
    by false false true is other another some = (let e = eqb-true bytes 4096 another in omega (arith, e))
    by false false false is other another some = cc

module _ (o : Origin) (c : Core) (n : ℕ) (s : Seat) (g : Ghost) (pin began : ℕ) (inv : Invariant o c) (knows : Knows o c n s g pin began) (unspent : (view_of c.views n).parts ≢ [])
    (valid : s.hold.valid ≡ true) (ready : s.walk.ready ≡ true) (takes_in : MayTakeIn s g) (inside : s.walk.tail_slot < words_of s) where
  pub room : HasRoom s.walk
  room = record {
    slot = (let few = few_words o.geometry.block_bytes o.geometry.block_allowed in let same = same_words o c n s g pin began inv knows unspent valid ready in omega (arith, few, same, inside));
    position = (let upto = (knows.walk unspent).to_end in let limit = inv.order.log.limit in omega (arith, upto, limit));
  }

  pub few_bases : HasFewBases (words_of s) s.calling
  few_bases = record { few = takes_in.few; words = knows.calls.bases.most }

  module _ (none_kept : s.walk.kept ≡ []) where
    abbrev word : ℕ
    word = place_in (seat_shape s) s.walk.tail_block s.walk.tail_slot

    abbrev present : ℕ
    present = slice_index c.memory.now.words word

    knows_lost : present ≢ 0 → (lost : ℕ) → Knows o c n (lost_seat lost present s) g pin 0
    knows_lost some lost = (let known = known_from_zero o c n s g pin began knows in
        subst (λ (t : Seat). Knows o c n t g pin 0) (kept_so s present lost none_kept inside)
        (away_facts o c n s g pin 0 word inv known unspent (tail_load o c n s g pin 0 inv known unspent valid ready s.walk.tail_slot word inside refl) (omega arith) some lost))

    tail_is : (f lost : ℕ) → tail_word (lost_seat lost f s) ≡ f
    tail_is f lost = ap word_or_zero (kept_last [] s.walk.tail_block s.walk.tail_slot f)

    pub found_slot : (f lost : ℕ) → f ≢ 0 → HasFoundSlot g (lost_seat lost f s)
    found_slot f lost some = record {
      free = record { not_won = takes_in.free.not_won; none_laid = takes_in.free.none_laid; no_sync = takes_in.free.no_sync; no_head = takes_in.free.no_head };
      valid = valid;
      ready = ready;
      inside = λ last. omega (arith, inside, last);
      used = λ none. some (sym (tail_is f lost) ∙ none);
    }

    -- it is an entry, where it is no seal
    entry_form : present ≢ 0 → present ≢ SEAL → is_log_entry_by c.recorded (shape o) present ≡ true
    entry_form some no_seal = subst (λ (w : ℕ). is_log_entry_by c.recorded (shape o) w ≡ true) (tail_is present 0)
        (form o c n (lost_seat 0 present s) g pin 0 inv unspent (knows_lost some 0) (found_slot present 0 some) (λ seal. no_seal (sym (tail_is present 0) ∙ seal)))

    pub slot_word : IsSlotWord s present
    slot_word = record {
      room = room;
      few = few_bases;
      direct = λ some no_seal other. (let good = entry_form some no_seal in
          let is = direct_kind c.recorded (shape o) present good other in
          ap (λ (image : Shape). fits image 256 (direct_meaning present)) (same_shape o c n s g pin began inv knows unspent valid ready)
          ∙ (ap (λ (m : Meaning). fits (shape o) 256 m) (sym (direct_by c.recorded present is)) ∙ entry_fits c.recorded (shape o) present good));
    }

    pub direct_found : present ≢ 0 → present ≢ SEAL → field ENTRY_KIND present ≢ INDIRECT → (field ENTRY_KIND present == DIRECT) ≡ true
    direct_found some no_seal other = direct_kind c.recorded (shape o) present (entry_form some no_seal) other

    -- what the seat computes with it
    works_by : Bool → Bool → List Work
    works_by true indirect = TakesSeal ∷ []
    works_by false true = []
    works_by false false = TakesEntry ∷ []

    enters_by : (seal indirect : Bool) (f lost : ℕ) → (f == SEAL) ≡ seal → (field ENTRY_KIND f == INDIRECT) ≡ indirect → f ≡ present → f ≢ 0 →
        Enters g (lost_seat lost f s) (lost_by seal indirect f (away (counting lost s))) []
    enters_by true indirect f lost is kind same some =
        enters_works g (lost_seat lost f s) (TakesSeal ∷ []) ((found_slot f lost some, tail_is f lost ∙ eqb-true f SEAL is), tt) refl
    enters_by false true f lost is kind same some = subst (λ (t : Seat). Enters g (lost_seat lost f s) t [])
        (ap (λ (kept : List KeptWord). record s { walk = record s.walk { kept = kept ++ record { block = s.walk.tail_block; slot = s.walk.tail_slot; word = f } ∷ []; at_tail = false }; calling = record s.calling { lost = lost } }) (sym none_kept))
        (enters_works g (lost_seat lost f s) [] tt refl)
    enters_by false false f lost is kind same some =
        (let no_seal = eqb-false f SEAL is in
        let other = eqb-false (field ENTRY_KIND f) INDIRECT kind in
        let direct : (field ENTRY_KIND f == DIRECT) ≡ true = subst (λ (w : ℕ). w ≢ 0 → w ≢ SEAL → field ENTRY_KIND w ≢ INDIRECT → (field ENTRY_KIND w == DIRECT) ≡ true) (sym same) direct_found some no_seal other in
        let meaning : tail_meaning (lost_seat lost f s) ≡ direct_meaning f = ap (λ (w : ℕ). meaning_by (λ block. kept_content (lost_seat lost f s) block) w) (tail_is f lost) ∙ direct_by (λ block. kept_content (lost_seat lost f s) block) f direct in
        subst (λ (t : Seat). Enters g (lost_seat lost f s) t []) (ap (λ (m : Meaning). taken (away (counting lost s)) m) meaning)
        (enters_works g (lost_seat lost f s) (TakesEntry ∷ [])
        ((found_slot f lost some, (λ seal. no_seal (sym (tail_is f lost) ∙ seal)), (λ indirect. absurd (other (ap (field ENTRY_KIND) (sym (tail_is f lost)) ∙ indirect)))), tt) refl))

    -- so it enters
    pub lost_enters : (f lost : ℕ) → f ≡ present → f ≢ 0 → Enters g (lost_seat lost f s) (lost_taken f (counting lost s)) []
    lost_enters f lost same some = enters_by (f == SEAL) (field ENTRY_KIND f == INDIRECT) f lost refl refl same some

    -- and where it is an indirect entry, the seat may walk on
    pub may_walk_on : (f lost : ℕ) → field ENTRY_KIND f ≡ INDIRECT → MayWalkOn f o n (lost_taken f (counting lost s)) g
    may_walk_on f lost kind = subst (λ (t : Seat). MayWalkOn f o n t g) (sym is) (record {
      valid = valid;
      ready = ready;
      takes_in = record {
        free = record { not_won = takes_in.free.not_won; none_laid = takes_in.free.none_laid; no_sync = takes_in.free.no_sync; no_head = takes_in.free.no_head };
        few = takes_in.few;
        no_bases = takes_in.no_bases;
      };
      inside = λ last. omega (arith, inside, last);
      kind = kind;
      kept = ap (λ (kept : List KeptWord). kept ++ record { block = s.walk.tail_block; slot = s.walk.tail_slot; word = f } ∷ []) none_kept;
    })
      where
        no_seal : f ≢ SEAL
        no_seal seal = (let both : field ENTRY_KIND SEAL ≡ INDIRECT = ap (field ENTRY_KIND) (sym seal) ∙ kind in omega (arith, both))

        is : lost_taken f (counting lost s) ≡ with_kept (away (counting lost s)) s.walk.tail_block s.walk.tail_slot f
        is = ap (λ (b : Bool). lost_by b (field ENTRY_KIND f == INDIRECT) f (away (counting lost s))) (ne_eqb f SEAL no_seal)
            ∙ ap (λ (b : Bool). lost_by false b f (away (counting lost s))) (eq-eqb (field ENTRY_KIND f) INDIRECT kind)
