-- Putting an entry in: a seal that was found is not in a block's first slot, and each step lowers the measure of a write.
use Rattle.std.proofs.Common.{◌≡◌, ◌≢◌, ℕ, ◌+◌, ◌-◌, ◌*◌, ◌^◌, ◌<◌, ◌==◌, Bool, true, false, slice_index, refl, ap, subst, ◌∙◌, arith}
use Rattle.std.proofs.lemmas.Bool.{eq-eqb, ne_eqb, eqb-true, eqb-false}
use Rattle.log_entry.specs.Fields.{field}
use Rattle.log_entry.specs.declared.layouts.TheConstants.{EMPTY, ENTRY_KIND, INDIRECT, SEAL}
use Rattle.log_image.specs.Image.{Shape}
use Rattle.pmem_words.specs.Seats.{Seat}
use Rattle.pmem_words.specs.Parts.{onward}
use Rattle.pmem_words.specs.declared.machine.Turn.TheVariants.{Go, Done}
use Rattle.log_core.specs.Entries.{place_in}
use Rattle.log_core.specs.Views.{Ghost}
use Rattle.log_core.specs.Origin.{Origin}
use Rattle.log_core.specs.Works.{seat_shape, words_of}
use Rattle.log_core.specs.May.{MayCommit}
use Rattle.log_core.specs.Within.{no_record, IsFound}
use Rattle.log_core.proofs.BitmapFacts.{same_shape}
use Rattle.log_core.proofs.machines.Framing.{Frames, serves_with}
use Rattle.log_core.proofs.machines.MachineLaws.{Law}
use Rattle.log_blocks.specs.declared.offer.Offer.{Offer}
use Rattle.log_blocks.specs.declared.offer.Offered.{Offered}
use Rattle.log_blocks.specs.declared.offer.Offered.TheVariants.{Overtaken}
use Rattle.log_blocks.specs.Committing.{lost_by, away}
use Rattle.log_blocks.specs.Offering.{offer_of, counted, offer_after, offer_script}
use Rattle.log_blocks.specs.PutWithin.{MayOffer, HasOffered}
use Rattle.log_blocks.specs.Walking.{walk_if, walk_measure, begin_measure, rank_by, log_left}
use Rattle.log_blocks.proofs.FoundTail.{seal_late}
use Rattle.log_blocks.proofs.OfferWithin.{offer_law}
use Rattle.log_blocks.proofs.OneExchange.{IsAtFirst}
use Rattle.write_any.specs.declared.stage.Target.{Target}
use Rattle.write_any.specs.declared.stage.Stage.TheVariants.{Offering}
use Rattle.write_any.specs.Writing.{at_stage, offered_so, round_left, stage_measure, write_measure}
use Rattle.write_any.proofs.Falls.{Falls, rank_small}

-- a seal that was found instead of the empty slot is in a later slot than a block's first
pub record IsLate (s0 : Seat) (out : Offered) : Type 0 where
  pub late : (word : ℕ) → out ≡ Overtaken word → word ≡ SEAL → 3 < s0.walk.tail_slot

module _ (entry : ℕ) (o : Origin) (seat : ℕ) (s0 : Seat) (g0 : Ghost) (may : MayOffer entry o seat s0 g0) where
  late_word : (f : ℕ) → IsFound o seat s0 g0 (offer_script.asks (offer_of entry) s0) f → f ≡ SEAL → 3 < s0.walk.tail_slot
  late_word f found seal =
      (let commit : MayCommit o found.core.history s0 (place_in (seat_shape s0) s0.walk.tail_block s0.walk.tail_slot) entry = may.commits found.core found.pin found.began found.holds found.unspent found.knows in
      seal_late o found.core seat s0 g0 found.pin found.began found.holds found.knows found.unspent commit.at_tail.valid commit.at_tail.ready
      (λ same. (let low = commit.inside in omega (arith, low, same))) f
      (subst (λ (image : Shape). slice_index found.core.memory.now.words (place_in image s0.walk.tail_block s0.walk.tail_slot) ≡ f) (same_shape o found.core seat s0 g0 found.pin found.began found.holds found.knows found.unspent) found.is) seal)

  late_by : (won : Bool) (f word : ℕ) (m : Offer) (s : Seat) (out : Offered) → (offer_after won m s f).turn ≡ Done out → out ≡ Overtaken word → f ≡ word
  late_by true f word m s out done is = cc
  late_by false f word m s out done is = cc

  pub late_keeps : (m : Offer) (s : Seat) (g : Ghost) (f : ℕ) → IsAtFirst (offer_of entry) s0 g0 m s g → Unit {0} → IsFound o seat s g (offer_script.asks m s) f →
      Frames o seat offer_script no_record (λ m s g. IsAtFirst (offer_of entry) s0 g0 m s g) (HasOffered entry o seat s0 g0) (λ m s g. Unit {0}) (λ out s g. IsLate s0 out) m s g f
  late_keeps m s g f stands kept found = record {
    goes = λ go. tt;
    ends = λ out done. record { late = λ word is seal. late_word f here (late_by (f == EMPTY) f word m s out done is ∙ seal) };
  }
    where
      here : IsFound o seat s0 g0 (offer_script.asks (offer_of entry) s0) f
      here = subst (λ (n : Offer). IsFound o seat s0 g0 (offer_script.asks n s0) f) stands.machine
          (subst (λ (u : Seat). IsFound o seat u g0 (offer_script.asks m u) f) stands.seat (subst (λ (i : Ghost). IsFound o seat s i (offer_script.asks m s) f) stands.ghost found))

abbrev pub offering_law : (entry : ℕ) → Law offer_script (offer_of entry)
offering_law entry = record {
  may = MayOffer entry;
  stands = λ o seat s0 g0 m s g. IsAtFirst (offer_of entry) s0 g0 m s g × Unit {0};
  left = λ o seat s0 g0 out s g. HasOffered entry o seat s0 g0 out s g × IsLate s0 out;
  begins = λ o seat s g may. ((offer_law entry).begins o seat s g may, tt);
  serves = λ o seat s0 g0 may. serves_with o seat offer_script no_record (λ m s g. IsAtFirst (offer_of entry) s0 g0 m s g) (HasOffered entry o seat s0 g0) (λ m s g. Unit {0}) (λ out s g. IsLate s0 out)
      (late_keeps entry o seat s0 g0 may) ((offer_law entry).serves o seat s0 g0 may);
  lowers = (offer_law entry).lowers;
}

-- where another seat was faster, the log's end is nearer, or an indirect entry is to be taken in
module _ (s : Seat) (f : ℕ) (ready : s.walk.ready ≡ true) (open_block : s.walk.tail_slot ≢ words_of s) (room : s.walk.position < 2 ^ 40) where
  abbrev lost : Bool → Bool → Seat
  lost seal indirect = lost_by seal indirect f (away (counted s))

  here : 3 < s.walk.tail_slot → log_left s ≡ (2 ^ 40 - s.walk.position) * 3 + 2
  here late = ap (λ (b : Bool). (2 ^ 40 - s.walk.position) * 3 + rank_by b (s.walk.tail_slot == 3)) (ne_eqb s.walk.tail_slot (words_of s) open_block)
      ∙ ap (λ (b : Bool). (2 ^ 40 - s.walk.position) * 3 + rank_by false b) (ne_eqb s.walk.tail_slot 3 (λ three. (omega (arith, late, three))))

  sealed : (indirect : Bool) → log_left (lost true indirect) ≡ (2 ^ 40 - s.walk.position) * 3 + 1
  sealed indirect = ap (λ (b : Bool). (2 ^ 40 - s.walk.position) * 3 + rank_by b (words_of s == 3)) (eq-eqb (words_of s) (words_of s) refl)

  begun : (u : Seat) → u.walk.ready ≡ true → begin_measure u.walk.ready u ≡ log_left u * 1024 + 1000
  begun u is = ap (λ (b : Bool). begin_measure b u) is

  lost_low : (seal indirect : Bool) → (seal ≡ true → 3 < s.walk.tail_slot) → walk_measure (walk_if indirect f) (lost seal indirect) * 2 ^ 24 < round_left s + 1
  lost_low true true late = (let more = here (late refl) in let less = sealed true in omega (arith, more, less))
  lost_low true false late = (let more = here (late refl) in let less = sealed false in let all = begun (lost true false) ready in omega (arith, more, less, all))
  lost_low false true late = omega arith
  lost_low false false late =
      (let all = begun (lost false false) ready in
      let few = rank_small ((lost false false).walk.tail_slot == words_of (lost false false)) ((lost false false).walk.tail_slot == 3) in
      omega (arith, all, few, room))

  pub offering_falls : (t : Target) (p : Offer) → (f ≢ EMPTY → f ≡ SEAL → 3 < s.walk.tail_slot) → Falls t (Offering p) s f
  offering_falls t p late go = by (f == EMPTY) refl go
    where
      by : (won : Bool) → (f == EMPTY) ≡ won → (onward (λ n. at_stage t (Offering n)) (offered_so t) (offer_after won p s f)).turn ≡ Go →
          write_measure (onward (λ n. at_stage t (Offering n)) (offered_so t) (offer_after won p s f)).machine (onward (λ n. at_stage t (Offering n)) (offered_so t) (offer_after won p s f)).seat < stage_measure (Offering p) s
      by true is e = omega arith
      by false is e = lost_low (f == SEAL) (field ENTRY_KIND f == INDIRECT) (λ seal. late (eqb-false f EMPTY is) (eqb-true f SEAL seal))
