-- The stages of a write that link a log block, or give it back where another seat was faster, are lawful.
use Rattle.std.proofs.Common.{◌≡◌, ◌≢◌, inl, inr, ℕ, ◌*◌, ◌/◌, ◌%◌, ◌^◌, ◌==◌, Bool, true, false, List, [], ◌∷◌, ◌++◌, length, refl, sym, ap, subst, ◌∙◌, arith}
use Rattle.std.proofs.lemmas.Bool.{eq-eqb, ne_eqb, and_from}
use Rattle.std.proofs.lemmas.List.{length-map}
use Rattle.std.specs.Int.{bit_at}
use Rattle.std.proofs.lemmas.Nat.Bits.{bit_at-pow_same}
use Rattle.log_image.specs.Chains.{all_different, is_listed}
use Rattle.log_entry.specs.declared.shapes.Area.TheVariants.{Log}
use Rattle.pmem_words.specs.Owned.{is_among, owned_but, contents_but}
use Rattle.pmem_words.specs.declared.owned.OwnedBlock.{OwnedBlock}
use Rattle.pmem_words.specs.Seats.{Seat}
use Rattle.log_core.specs.Views.{Ghost}
use Rattle.log_core.specs.Origin.{Origin}
use Rattle.log_core.specs.Needs.{owned_numbers}
use Rattle.log_core.specs.Works.{words_of}
use Rattle.log_core.specs.Within.{no_record, Lawful, FitsNext}
use Rattle.log_core.proofs.machines.Entering.{enters_same}
use Rattle.log_core.proofs.machines.MachineLaws.{HasBegun, has_begun, lawful_stage}
use Rattle.log_core.proofs.BlockWords.{q_range}
use Rattle.log_blocks.specs.declared.grow.Grow.{Grow}
use Rattle.log_blocks.specs.declared.grow.Grown.{Grown}
use Rattle.log_blocks.specs.declared.grow.Grown.TheVariants.{Linked, Overtaken as OvertakenBy}
use Rattle.log_blocks.specs.PutWithin.{MayOffer, HasLinked, HasFollowed, HasGrown}
use Rattle.log_blocks.proofs.GrowWithin.{grow_law}
use Rattle.log_blocks.proofs.WalkServes.{walk_law}
use Rattle.write_any.specs.declared.stage.Target.TheVariants.{At}
use Rattle.write_any.specs.declared.stage.Stage.TheVariants.{Growing, GivingLog}
use Rattle.write_any.specs.declared.give_one.GiveOne.{GiveOne}
use Rattle.write_any.specs.GivingOne.{give_one_of}
use Rattle.write_any.specs.GiveOneWithin.{HasGivenOne}
use Rattle.write_any.specs.Writing.{at_stage, write_script, grown_so}
use Rattle.write_any.specs.Composing.{entry_for}
use Rattle.write_any.specs.WriteWithin.{MayWrite, HasWritten, unwritten}
use Rattle.write_any.proofs.Embedding.{at_grow, at_give_log}
use Rattle.write_any.proofs.GiveOne.{one_bit, give_one_law}
use Rattle.write_any.proofs.RoundFalls.{growing_falls, giving_log_falls}
use Rattle.write_any.proofs.OfferLaw.{offering_law}
use Rattle.write_any.proofs.LastLog.{block_is, block_owned, has_last}
use Rattle.write_any.proofs.LastBlock.{owned_front, contents_front, apart_front}
use Rattle.write_any.proofs.FirstStages.{takes_in, has_blocks}
use Rattle.write_any.proofs.WriteStanding.{unmarked, IsWriting, AreWritten, OwnsWritten, OwnsLogBlock, BeforeWalk, AtSlot, BeforeGrow, BeforeGiveLog, WriteStands, StageStands}

-- a block's bit is its own, and no other's
own_bit : (block : ℕ) → is_among (block / 64) (2 ^ (block % 64)) block ≡ true
own_bit block = and_from (block / 64 == block / 64) (bit_at (2 ^ (block % 64)) (block % 64) == 1) (eq-eqb (block / 64) (block / 64) refl) (eq-eqb (bit_at (2 ^ (block % 64)) (block % 64)) 1 (bit_at-pow_same (block % 64)))

other_bit : (block other : ℕ) → other ≢ block → is_among (block / 64) (2 ^ (block % 64)) other ≡ false
other_bit block other apart = by (is_among (block / 64) (2 ^ (block % 64)) other) refl
  where
    by : (b : Bool) → is_among (block / 64) (2 ^ (block % 64)) other ≡ b → b ≡ false
    by true is = absurd (apart (one_bit block other is))
    by false is = refl

module _ (offset : ℕ) (o : Origin) (seat : ℕ) (s0 : Seat) (g0 : Ghost) where
  -- what is left of the list once the log block has left it
  module _ (block : ℕ) (s : Seat) (owns : OwnsLogBlock offset o seat s0 g0 block s) (f : ℕ → Bool) (gone : f block ≡ true) (stay : (b : ℕ) → b ≢ block → f b ≡ false) (wide : words_of s ≡ words_of s0) where
    abbrev last : OwnedBlock
    last = record { block = block; area = Log; filled = owns.filled; fenced = owns.fenced }

    still : (b : ℕ) → is_listed (owned_numbers owns.owned) b ≡ true → f b ≡ false
    still b listed = stay b (apart_front owns.owned last (sym (ap (λ (l : List OwnedBlock). all_different (owned_numbers l)) owns.is) ∙ owns.once) b listed)

    long : length owns.contents ≡ length owns.owned * words_of s
    long = owns.written.composed.long ∙ (ap (λ (n : ℕ). n * words_of s0) (length-map owns.owned unmarked) ∙ ap (λ (n : ℕ). length owns.owned * n) (sym wide))

    pub left_owned : owned_but f s.blocks.owned ≡ owns.owned
    left_owned = ap (λ (l : List OwnedBlock). owned_but f l) owns.is ∙ owned_front (words_of s) f last gone owns.owned still

    pub left_contents : contents_but (words_of s) f s.blocks.owned s.blocks.contents ≡ owns.contents
    left_contents = ap (λ (l : List OwnedBlock). contents_but (words_of s) f l s.blocks.contents) owns.is
        ∙ (ap (λ (l : List ℕ). contents_but (words_of s) f (owns.owned ++ last ∷ []) l) owns.contents_are
        ∙ contents_front (words_of s) f last gone owns.owned owns.contents owns.words still long)

    pub left_written : (t : Seat) → t.blocks.owned ≡ owned_but f s.blocks.owned → t.blocks.contents ≡ contents_but (words_of s) f s.blocks.owned s.blocks.contents → OwnsWritten offset o seat s0 g0 t
    left_written t owned contents = record {
      written = subst (λ (l : List OwnedBlock). AreWritten offset o seat s0 g0 l t.blocks.contents) (sym (owned ∙ left_owned))
          (subst (λ (l : List ℕ). AreWritten offset o seat s0 g0 owns.owned l) (sym (contents ∙ left_contents)) owns.written);
    }

  module _ (may : MayWrite offset o seat s0 g0) where
    module _ (block : ℕ) (start : Seat) (ghost : Ghost) (t : Seat) (h : Ghost) (before : BeforeGiveLog offset o seat s0 g0 block start ghost) (left : HasGivenOne block o seat start ghost tt t h) where
      given_writing : IsWriting offset o seat s0 g0 t h
      given_writing = record {
        rest = ap unwritten left.left ∙ before.writing.rest;
        not_won = ap (λ (u : Seat). u.calling.won) left.left ∙ before.writing.not_won;
        no_bases = ap (λ (u : Seat). u.calling.bases) left.left ∙ before.writing.no_bases;
        no_marks = ap (λ (i : Ghost). i.marks) left.ghost ∙ before.writing.no_marks;
        number = ap (λ (i : Ghost). i.call.number) left.ghost ∙ before.writing.number;
        no_head = ap (λ (i : Ghost). i.call.put) left.ghost ∙ before.writing.no_head;
      }

      given_fits : HasBegun walk_law o seat (BeforeWalk offset o seat s0 g0) Rattle.log_blocks.specs.declared.walk.Walk.TheVariants.Begin t h
      given_fits = has_begun walk_law o seat (BeforeWalk offset o seat s0 g0) t h
          (record {
            writing = given_writing;
            owns = inr (left_written block start before.owns (λ (b : ℕ). is_among (block / 64) (2 ^ (block % 64)) b) (own_bit block) (other_bit block) (ap words_of before.writing.rest) t
                (ap (λ (u : Seat). u.blocks.owned) left.left) (ap (λ (u : Seat). u.blocks.contents) left.left));
          })
          (record {
            valid = ap (λ (u : Seat). u.hold.valid) left.left ∙ before.valid;
            pinned = λ unready. (let ready = ap (λ (u : Seat). u.walk.ready) left.left ∙ before.ready in let both : true ≡ false = sym ready ∙ unready in cc);
            takes_in = takes_in offset o seat s0 g0 may t h given_writing;
            none_kept = ap (λ (u : Seat). u.walk.kept) left.left ∙ before.none_kept;
          })

    pub give_log_stage : (block : ℕ) (p : GiveOne) (s : Seat) (g : Ghost) → HasBegun (give_one_law block) o seat (BeforeGiveLog offset o seat s0 g0 block) p s g →
        Lawful o seat write_script no_record (WriteStands offset o seat s0 g0) (HasWritten offset o seat s0 g0) (at_stage (At offset) (GivingLog p)) s g
    give_log_stage block = lawful_stage o seat no_record (WriteStands offset o seat s0 g0) (HasWritten offset o seat s0 g0) (give_one_law block) (BeforeGiveLog offset o seat s0 g0 block) (at_give_log (At offset))
        (λ p t a admits. admits.part)
        (λ p t h a at told admits. record {
          part = admits;
          joint = tt;
          falls = giving_log_falls (At offset) p t a (ap (λ (u : Seat). u.walk.ready) at.stands.seat ∙ at.before.ready);
        })
        (λ p t h at. (refl, (block, at)))
        (λ start ghost out t h before may' left. (enters_same h t t refl, (refl, inl (given_fits block start ghost t h before left))))

  module _ (may : MayWrite offset o seat s0 g0) (block : ℕ) (start : Seat) (ghost : Ghost) (before : BeforeGrow offset o seat s0 g0 block start ghost) where
    abbrev behind : OwnsLogBlock offset o seat s0 g0 block start
    behind = before.before.owns

    abbrev log : OwnedBlock
    log = record { block = block; area = Log; filled = behind.filled; fenced = behind.fenced }

    -- the own block is linked: the tail is its first slot
    module _ (t : Seat) (h : Ghost) (left : HasLinked block start ghost t h) where
      linked_writing : IsWriting offset o seat s0 g0 t h
      linked_writing = record {
        rest = ap unwritten left.left ∙ before.before.writing.rest;
        not_won = ap (λ (u : Seat). u.calling.won) left.left ∙ before.before.writing.not_won;
        no_bases = ap (λ (u : Seat). u.calling.bases) left.left ∙ before.before.writing.no_bases;
        no_marks = ap (λ (i : Ghost). i.marks) left.ghost ∙ before.before.writing.no_marks;
        number = ap (λ (i : Ghost). i.call.number) left.ghost ∙ before.before.writing.number;
        no_head = ap (λ (i : Ghost). i.call.put) left.ghost ∙ before.before.writing.no_head;
      }

      pub linked_slot : AtSlot offset o seat s0 g0 t h
      linked_slot = record {
        writing = linked_writing;
        here = record {
          valid = ap (λ (u : Seat). u.hold.valid) left.left ∙ before.before.here.valid;
          ready = ap (λ (u : Seat). u.walk.ready) left.left ∙ before.before.here.ready;
          at_tail = ap (λ (u : Seat). u.walk.at_tail) left.left;
          none_kept = ap (λ (u : Seat). u.walk.kept) left.left;
          below = λ end. before.before.here.below (sym (ap (λ (u : Seat). u.walk.position) left.left) ∙ end);
        };
        owns = left_written block start behind (λ (other : ℕ). other == block) (eq-eqb block block refl) (λ b apart. ne_eqb b block apart) (ap words_of before.before.writing.rest) t
            (ap (λ (u : Seat). u.blocks.owned) left.left) (ap (λ (u : Seat). u.blocks.contents) left.left);
        inside = λ same. (let slot = ap (λ (u : Seat). u.walk.tail_slot) left.left in let wide = (q_range t.geometry).0 in omega (arith, slot, same, wide));
      }

    -- another block follows, and the own one is to be given back
    module _ (other : ℕ) (t : Seat) (h : Ghost) (left : HasFollowed other start ghost t h) where
      owned_now : t.blocks.owned ≡ behind.owned ++ log ∷ []
      owned_now = ap (λ (u : Seat). u.blocks.owned) left.left ∙ behind.is

      pub followed_give : BeforeGiveLog offset o seat s0 g0 block t h
      followed_give = record {
        writing = record {
          rest = ap unwritten left.left ∙ before.before.writing.rest;
          not_won = ap (λ (u : Seat). u.calling.won) left.left ∙ before.before.writing.not_won;
          no_bases = ap (λ (u : Seat). u.calling.bases) left.left ∙ before.before.writing.no_bases;
          no_marks = ap (λ (i : Ghost). i.marks) left.ghost ∙ before.before.writing.no_marks;
          number = ap (λ (i : Ghost). i.call.number) left.ghost ∙ before.before.writing.number;
          no_head = ap (λ (i : Ghost). i.call.put) left.ghost ∙ before.before.writing.no_head;
        };
        valid = ap (λ (u : Seat). u.hold.valid) left.left ∙ before.before.here.valid;
        ready = ap (λ (u : Seat). u.walk.ready) left.left ∙ before.before.here.ready;
        none_kept = ap (λ (u : Seat). u.walk.kept) left.left;
        owns = record {
          owned = behind.owned;
          contents = behind.contents;
          words = behind.words;
          written = behind.written;
          filled = behind.filled;
          fenced = behind.fenced;
          is = owned_now;
          contents_are = ap (λ (u : Seat). u.blocks.contents) left.left ∙ behind.contents_are;
          long = behind.long;
          once = ap (λ (u : Seat). all_different (owned_numbers u.blocks.owned)) left.left ∙ behind.once;
          in_log = behind.in_log;
        };
      }

  module _ (may : MayWrite offset o seat s0 g0) (offers : (t : Seat) (h : Ghost) → AtSlot offset o seat s0 g0 t h → MayOffer (entry_for offset t) o seat t h) where
    grown_fits : (block : ℕ) (start : Seat) (ghost : Ghost) (out : Grown) (t : Seat) (h : Ghost) → BeforeGrow offset o seat s0 g0 block start ghost → HasGrown block o seat start ghost out t h →
        FitsNext no_record (WriteStands offset o seat s0 g0) (HasWritten offset o seat s0 g0) t h (grown_so (At offset) out t)
    grown_fits block start ghost Linked t h before left =
        (let slot = linked_slot may block start ghost before t h left in
        (enters_same h t t refl, (refl, (entry_for offset t, has_begun (offering_law (entry_for offset t)) o seat (AtSlot offset o seat s0 g0) t h slot (offers t h slot)))))
    grown_fits block start ghost (OvertakenBy other) t h before left = (
      enters_same h t t refl,
      (
        refl,
        subst (λ (b : ℕ). StageStands offset o seat s0 g0 (GivingLog (give_one_of b)) t h) (sym (block_is offset o seat s0 g0 may block t (followed_give may block start ghost before other t h left).owns))
            (block, has_begun (give_one_law block) o seat (BeforeGiveLog offset o seat s0 g0 block) t h (followed_give may block start ghost before other t h left) (record { owned = block_owned offset o seat s0 g0 may block t (followed_give may block start ghost before other t h left).owns })),
      ),
    )

    pub grow_stage : (block : ℕ) (p : Grow) (s : Seat) (g : Ghost) → HasBegun (grow_law block) o seat (BeforeGrow offset o seat s0 g0 block) p s g →
        Lawful o seat write_script no_record (WriteStands offset o seat s0 g0) (HasWritten offset o seat s0 g0) (at_stage (At offset) (Growing p)) s g
    grow_stage block = lawful_stage o seat no_record (WriteStands offset o seat s0 g0) (HasWritten offset o seat s0 g0) (grow_law block) (BeforeGrow offset o seat s0 g0 block) (at_grow (At offset))
        (λ p t a admits. admits.part)
        (λ p t h a at told admits. record {
          part = admits;
          joint = (
            λ done. (let slot = linked_slot may block at.start at.ghost at.before _ _ (told.ends Linked done) in has_blocks offset o seat s0 g0 may _ slot.writing.rest slot.owns),
            λ other done. has_last offset o seat s0 g0 may block _ (followed_give may block at.start at.ghost at.before other _ _ (told.ends (OvertakenBy other) done)).owns,
          );
          falls = growing_falls (At offset) p t a (ap (λ (u : Seat). u.walk.tail_slot) at.stands.seat ∙ (at.before.before.at_end ∙ sym (ap words_of at.stands.seat)));
        })
        (λ p t h at. (refl, (block, at)))
        (λ start ghost out t h before may' left. grown_fits block start ghost out t h before left)
