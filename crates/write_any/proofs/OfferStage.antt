-- The stage of a write that puts its entry in is lawful.
use Rattle.std.proofs.Common.{◌≡◌, ◌≢◌, inl, inr, ℕ, ◌^◌, ◌<◌, ◌≤◌, ◌==◌, not, Bool, true, false, List, [], length, filter, None, refl, sym, ap, subst, ◌∙◌, arith}
use Rattle.std.proofs.lemmas.Bool.{eqb-true, eqb-false, ne_eqb}
use Rattle.std.proofs.lemmas.List.Sums.{length-filter, count_by-le-length}
use Rattle.log_entry.specs.Fields.{field}
use Rattle.log_entry.specs.declared.layouts.TheConstants.{EMPTY, ENTRY_KIND, INDIRECT, SEAL}
use Rattle.log_image.specs.Chains.{is_listed}
use Rattle.log_image.specs.Entries.{names, direct_meaning}
use Rattle.pmem_words.specs.declared.machine.Turn.TheVariants.{Done}
use Rattle.pmem_words.specs.declared.owned.OwnedBlock.{OwnedBlock}
use Rattle.pmem_words.specs.Seats.{Seat}
use Rattle.log_core.specs.Views.{Ghost}
use Rattle.log_core.specs.Origin.{Origin}
use Rattle.log_core.specs.Steps.{new_meaning}
use Rattle.log_core.specs.Works.{words_of, bases_left}
use Rattle.log_core.specs.Within.{no_record, Lawful}
use Rattle.log_core.proofs.machines.Entering.{enters_same}
use Rattle.log_core.proofs.machines.MachineLaws.{HasBegun, has_begun, lawful_stage}
use Rattle.pins.proofs.PinWithin.{unpin_law}
use Rattle.log_blocks.specs.declared.offer.Offer.{Offer}
use Rattle.log_blocks.specs.declared.offer.Offered.{Offered}
use Rattle.log_blocks.specs.declared.offer.Offered.TheVariants.{Committed, Overtaken}
use Rattle.log_blocks.specs.Committing.{lost_by, away}
use Rattle.log_blocks.specs.Offering.{counted, offer_after, offer_script}
use Rattle.log_blocks.specs.PutWithin.{HasCommitted, HasTakenIn, HasOffered}
use Rattle.log_blocks.specs.Walking.{walk_if}
use Rattle.log_blocks.proofs.WalkServes.{walk_law}
use Rattle.log_blocks.proofs.WalkOn.{walk_on_law}
use Rattle.write_any.specs.declared.stage.Target.TheVariants.{At}
use Rattle.write_any.specs.declared.stage.Stage.TheVariants.{Walking, Offering}
use Rattle.write_any.specs.Writing.{at_stage, write_script, offered_so}
use Rattle.write_any.specs.WriteWithin.{MayWrite, HasWritten, unwritten}
use Rattle.write_any.proofs.Embedding.{at_offer}
use Rattle.write_any.proofs.OfferLaw.{offering_law, offering_falls}
use Rattle.write_any.proofs.EndStages.{may_pin}
use Rattle.write_any.proofs.FirstStages.{takes_in, written_many, few_count}
use Rattle.write_any.proofs.WriteStanding.{IsWriting, AreWritten, BeforeWalk, AtSlot, IsEnding, WriteStands, StageStands}

filter_few : (p : OwnedBlock → Bool) (owned : List OwnedBlock) → length (filter p owned) ≤ length owned
filter_few p owned = (let is = length-filter p owned in let few = count_by-le-length p owned in omega (arith, is, few))

-- a word that was found, taken in or kept
lost_unwritten : (seal indirect : Bool) (word : ℕ) (s : Seat) → unwritten (lost_by seal indirect word s) ≡ unwritten s
lost_unwritten true indirect word s = refl
lost_unwritten false true word s = refl
lost_unwritten false false word s = refl

-- leaves the seat's own blocks, its pin and the partly touched blocks, of which there are none
pub record HasKept (s t : Seat) : Type 0 where
  pub owned : t.blocks.owned ≡ s.blocks.owned
  pub contents : t.blocks.contents ≡ s.blocks.contents
  pub valid : t.hold.valid ≡ s.hold.valid
  pub ready : t.walk.ready ≡ s.walk.ready
  pub won : t.calling.won ≡ s.calling.won
  pub no_bases : s.calling.bases ≡ [] → t.calling.bases ≡ []

lost_keeps : (seal indirect : Bool) (word : ℕ) (s : Seat) → HasKept s (lost_by seal indirect word s)
lost_keeps true indirect word s = record { owned = refl; contents = refl; valid = refl; ready = refl; won = refl; no_bases = λ none. none }
lost_keeps false true word s = record { owned = refl; contents = refl; valid = refl; ready = refl; won = refl; no_bases = λ none. none }
lost_keeps false false word s = record { owned = refl; contents = refl; valid = refl; ready = refl; won = refl; no_bases = λ none. ap (λ (bases : List ℕ). bases_left (direct_meaning word) bases) none }

lost_none : (seal : Bool) (word : ℕ) (s : Seat) → (lost_by seal false word s).walk.kept ≡ []
lost_none true word s = refl
lost_none false word s = refl

-- an exchange that lost ends with the word that it found
ends_by : (won : Bool) (p : Offer) (t : Seat) (a : ℕ) → won ≡ false → (offer_after won p t a).turn ≡ Done (Overtaken a)
ends_by true p t a is = cc
ends_by false p t a is = refl

pub ends_lost : (p : Offer) (t : Seat) (a : ℕ) → a ≢ EMPTY → (offer_script.after p t a).turn ≡ Done (Overtaken a)
ends_lost p t a some = ends_by (a == EMPTY) p t a (ne_eqb a EMPTY some)

module _ (offset : ℕ) (o : Origin) (seat : ℕ) (s0 : Seat) (g0 : Ghost) (may : MayWrite offset o seat s0 g0) where
  -- the entry is in the log, and the pin is to be given up
  committed_fits : (entry position : ℕ) (start : Seat) (ghost : Ghost) (t : Seat) (h : Ghost) → AtSlot offset o seat s0 g0 start ghost → HasCommitted entry position start ghost t h →
      HasBegun unpin_law o seat (IsEnding offset o seat s0 g0 None) Rattle.pins.specs.Unpinning.unpin_of t h
  committed_fits entry position start ghost t h before left =
      (let rest : unwritten t ≡ unwritten s0 = ap unwritten left.left ∙ before.writing.rest in
      has_begun unpin_law o seat (IsEnding offset o seat s0 g0 None) t h
      (record {
        rest = rest;
        cause = ap (λ (u : Seat). u.calling.won) left.left;
        at_tail = ap (λ (u : Seat). u.walk.at_tail) left.left;
        none_kept = ap (λ (u : Seat). u.walk.kept) left.left;
        few = (let some = filter_few (λ (b : OwnedBlock). not (is_listed (names (new_meaning start entry)) b.block)) start.blocks.owned in
            let same = ap (λ (u : Seat). length u.blocks.owned) left.left in
            let most = (written_many offset o seat s0 g0 may start before.owns).1 in
            let count = few_count offset o seat s0 g0 may in omega (arith, some, same, most, count));
        no_marks = ap (λ (i : Ghost). i.marks) left.ghost ∙ before.writing.no_marks;
        number = ap (λ (i : Ghost). i.call.number) left.ghost ∙ before.writing.number;
        no_head = ap (λ (i : Ghost). i.call.put) left.ghost ∙ before.writing.no_head;
      })
      (may_pin offset o seat s0 g0 may t h rest))

  -- another seat was faster, and the walk goes on behind its word
  module _ (word : ℕ) (start : Seat) (ghost : Ghost) (t : Seat) (h : Ghost) (before : AtSlot offset o seat s0 g0 start ghost) (left : HasTakenIn word o seat (counted start) ghost t h) where
    keeps : HasKept start t
    keeps = subst (λ (u : Seat). HasKept start u) (sym left.left)
        (let kept = lost_keeps (word == SEAL) (field ENTRY_KIND word == INDIRECT) word (away (counted start)) in
        record { owned = kept.owned; contents = kept.contents; valid = kept.valid; ready = kept.ready; won = kept.won; no_bases = kept.no_bases })

    lost_writing : IsWriting offset o seat s0 g0 t h
    lost_writing = record {
      rest = ap unwritten left.left ∙ (lost_unwritten (word == SEAL) (field ENTRY_KIND word == INDIRECT) word (away (counted start)) ∙ before.writing.rest);
      not_won = keeps.won ∙ before.writing.not_won;
      no_bases = keeps.no_bases before.writing.no_bases;
      no_marks = ap (λ (i : Ghost). i.marks) left.ghost ∙ before.writing.no_marks;
      number = ap (λ (i : Ghost). i.call.number) left.ghost ∙ before.writing.number;
      no_head = ap (λ (i : Ghost). i.call.put) left.ghost ∙ before.writing.no_head;
    }

    lost_before : BeforeWalk offset o seat s0 g0 t h
    lost_before = record {
      writing = lost_writing;
      owns = inr (record {
        written = subst (λ (l : List OwnedBlock). AreWritten offset o seat s0 g0 l t.blocks.contents) (sym keeps.owned)
            (subst (λ (l : List ℕ). AreWritten offset o seat s0 g0 start.blocks.owned l) (sym keeps.contents) before.owns.written);
      });
    }

    none_kept : (field ENTRY_KIND word == INDIRECT) ≡ false → t.walk.kept ≡ []
    none_kept is = ap (λ (u : Seat). u.walk.kept) left.left ∙ (ap (λ (b : Bool). (lost_by (word == SEAL) b word (away (counted start))).walk.kept) is ∙ lost_none (word == SEAL) word (away (counted start)))

    lost_fits : (indirect : Bool) → (field ENTRY_KIND word == INDIRECT) ≡ indirect → StageStands offset o seat s0 g0 (Walking (walk_if indirect word)) t h
    lost_fits true is = inr (word, has_begun (walk_on_law word) o seat (BeforeWalk offset o seat s0 g0) t h lost_before (left.walks_on (eqb-true (field ENTRY_KIND word) INDIRECT is)))
    lost_fits false is = inl (has_begun walk_law o seat (BeforeWalk offset o seat s0 g0) t h lost_before
        (record {
          valid = keeps.valid ∙ before.here.valid;
          pinned = λ unready. (let ready = keeps.ready ∙ before.here.ready in let both : true ≡ false = sym ready ∙ unready in cc);
          takes_in = takes_in offset o seat s0 g0 may t h lost_writing;
          none_kept = none_kept is;
        }))

  offered_fits : (entry : ℕ) (start : Seat) (ghost : Ghost) (out : Offered) (t : Seat) (h : Ghost) → AtSlot offset o seat s0 g0 start ghost → HasOffered entry o seat start ghost out t h →
      Rattle.log_core.specs.Within.FitsNext no_record (WriteStands offset o seat s0 g0) (HasWritten offset o seat s0 g0) t h (offered_so (At offset) out t)
  offered_fits entry start ghost (Committed position) t h before left = (enters_same h t t refl, (refl, committed_fits entry position start ghost t h before left))
  offered_fits entry start ghost (Overtaken word) t h before left = (enters_same h t t refl, (refl, lost_fits word start ghost t h before left (field ENTRY_KIND word == INDIRECT) refl))

  pub offer_stage : (entry : ℕ) (p : Offer) (s : Seat) (g : Ghost) → HasBegun (offering_law entry) o seat (AtSlot offset o seat s0 g0) p s g →
      Lawful o seat write_script no_record (WriteStands offset o seat s0 g0) (HasWritten offset o seat s0 g0) (at_stage (At offset) (Offering p)) s g
  offer_stage entry = lawful_stage o seat no_record (WriteStands offset o seat s0 g0) (HasWritten offset o seat s0 g0) (offering_law entry) (AtSlot offset o seat s0 g0) (at_offer (At offset))
      (λ p t a admits. admits.part)
      (λ p t h a at told admits. record {
        part = admits;
        joint = tt;
        falls = λ go. offering_falls t a
            (ap (λ (u : Seat). u.walk.ready) at.stands.0.seat ∙ at.before.here.ready)
            (λ same. at.before.inside (sym (ap (λ (u : Seat). u.walk.tail_slot) at.stands.0.seat) ∙ (same ∙ ap words_of at.stands.0.seat)))
            (room p t h a at admits) (At offset) p
            (λ some seal. (let late = (told.ends (Overtaken a) (ends_lost p t a some)).1 in let low = late.late a refl seal in let same = ap (λ (u : Seat). u.walk.tail_slot) at.stands.0.seat in omega (arith, low, same))) go;
      })
      (λ p t h at. (refl, (entry, at)))
      (λ start ghost out t h before may' left. offered_fits entry start ghost out t h before left.0)
    where
      room : (p : Offer) (t : Seat) (h : Ghost) (a : ℕ) → HasBegun (offering_law entry) o seat (AtSlot offset o seat s0 g0) p t h → offer_script.admits p t a → t.walk.position < 2 ^ 40
      room p t h a at admits = by (a == EMPTY) refl
        where
          by : (won : Bool) → (a == EMPTY) ≡ won → t.walk.position < 2 ^ 40
          by true is = (admits.won (eqb-true a EMPTY is)).room.position
          by false is = (admits.lost (eqb-false a EMPTY is)).room.position
