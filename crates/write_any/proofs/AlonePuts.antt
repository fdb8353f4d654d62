-- The stages of a write that put a word into the log, where it alone makes steps: the word found is 0, so none is lost.
use Rattle.std.proofs.Common.{◌≡◌, ◌≢◌, ℕ, ◌+◌, ◌<◌, ◌≤◌, ◌==◌, ◌&&◌, not, Bool, true, false, List, [], ◌∷◌, ◌++◌, length, refl, sym, ap, subst, ◌∙◌, arith}
use Rattle.std.proofs.lemmas.Bool.{eqb-false, eq-eqb, ne_eqb}
use Rattle.log_entry.specs.declared.calls.Op.{Op}
use Rattle.log_entry.specs.declared.layouts.TheConstants.{EMPTY, SEAL}
use Rattle.log_image.specs.Image.{words_in}
use Rattle.pmem_words.specs.Parts.{onward}
use Rattle.pmem_words.specs.declared.keeps.Task.{Task}
use Rattle.pmem_words.specs.Seats.{Seat}
use Rattle.persistence.specs.Memory.{found_answer}
use Rattle.log_core.specs.Entries.{LogEntry, place_in}
use Rattle.log_core.specs.Views.{Ghost, view_of, op_of, op_in}
use Rattle.log_core.specs.Origin.{Origin, shape, q_of_origin, LogBlock}
use Rattle.log_core.specs.Files.{Write as WriteOf, entries, end_of, file_at, history_size_at}
use Rattle.log_core.specs.Cores.{Core, is_full}
use Rattle.log_core.specs.Within.{no_record, note_of}
use Rattle.log_core.specs.Steps.{Note, Kind, ExchangesLink, ExchangesSlot, kind_of_ask, new_meaning}
use Rattle.log_core.specs.After.{history_after, history_if, logs_after, log_if, op_or_size}
use Rattle.log_core.specs.May.{May, MayExchangeSlot}
use Rattle.log_core.specs.Works.{seat_shape, words_of}
use Rattle.log_core.proofs.machines.MachineLaws.{HasBegun}
use Rattle.log_core.proofs.HistoryFiles.{start_low}
use Rattle.log_core.proofs.TailEnds.{same_words, walked}
use Rattle.log_blocks.specs.declared.grow.Grow.{Grow}
use Rattle.log_blocks.specs.declared.offer.Offer.{Offer}
use Rattle.log_blocks.specs.Growing.{grow_script, grow_after, linked}
use Rattle.log_blocks.specs.Offering.{offer_script, offer_after}
use Rattle.log_blocks.proofs.GrowWithin.{grow_law}
use Rattle.log_blocks.proofs.TailExchange.{wide, kind_at, kind_at_slot}
use Rattle.write_any.specs.declared.stage.Target.{Target}
use Rattle.write_any.specs.declared.stage.Stage.TheVariants.{Growing, Offering}
use Rattle.write_any.specs.Writing.{at_stage, grown_so, offered_so, stage_after, write_script}
use Rattle.write_any.specs.WriteWithin.{MayWrite, unwritten}
use Rattle.write_any.specs.declared.write.Write.{Write}
use Rattle.pmem_words.specs.declared.written.Written.{Written}
use Rattle.pmem_words.specs.declared.keeps.Task.TheVariants.{Pwrite}
use Rattle.log_entry.specs.declared.calls.Op.TheVariants.{Pwrite as PwriteOp}
use Rattle.write_any.specs.WriteAlone.{write_at_end}
use Rattle.write_any.proofs.AloneMoves.{MovesTo}
use Rattle.write_any.proofs.AloneStanding.{HasBoth, IsToOffer, EndsAlone, WriteStandsAlone}
use Rattle.write_any.proofs.OfferLaw.{offering_law}
use Rattle.write_any.proofs.OpenTail.{last_of, IsOpenTail, slot_empty, link_empty, last_more}
use Rattle.write_any.proofs.Riding.{StepsOn, next_core, ghost_on}
use Rattle.write_any.proofs.WriteStanding.{AtSlot, BeforeGrow}

module _ (offset : ℕ) (o : Origin) (seat number : ℕ) (s0 : Seat) (g0 : Ghost) (may : MayWrite offset o seat s0 g0) (c0 : Core) where
  abbrev K : Core → Write → Seat → Type 0
  K d m v = WriteStandsAlone offset o seat number s0 c0 m v d

  abbrev E : Core → Written → Seat → Type 0
  E d out v = EndsAlone offset o seat number s0 c0 out v d

  -- the log block is linked
  module _ (t : Target) (p : Grow) (s : Seat) (c : Core) (block : ℕ) (at : HasBegun (grow_law block) o seat (BeforeGrow offset o seat s0 g0 block) p s (ghost_on seat number c s))
      (st : StepsOn o seat number write_script (at_stage t (Growing p)) s c) (x : HasBoth offset o seat number s0 c0 s c) where
    abbrev f : ℕ
    f = found_answer c.memory (grow_script.asks p s)

    abbrev d : Core
    d = next_core o seat number write_script (at_stage t (Growing p)) s c

    abbrev note : Note
    note = note_of o seat number write_script no_record (at_stage t (Growing p)) s (view_of c.views seat).ghost f

    valid : s.hold.valid ≡ true
    valid = ap (λ (u : Seat). u.hold.valid) at.stands.seat ∙ at.may.valid

    ready : s.walk.ready ≡ true
    ready = ap (λ (u : Seat). u.walk.ready) at.stands.seat ∙ at.may.ready

    none : f ≡ 0
    none = link_empty o c seat s (ghost_on seat number c s) st.pin st.began st.holds st.knows st.unspent valid ready x.at_end.opens

    eight : 8 ≤ words_of s
    eight = wide o c seat s (ghost_on seat number c s) st.pin st.began st.holds st.knows st.unspent valid ready

    same_q : words_of s ≡ words_in (shape o)
    same_q = same_words o c seat s (ghost_on seat number c s) st.pin st.began st.holds st.knows st.unspent valid ready

    kind_is : kind_of_ask (q_of_origin o) seat (grow_script.asks p s) ≡ ExchangesLink (place_in (seat_shape s) s.walk.tail_block 0) p.block
    kind_is = kind_at o c seat s (ghost_on seat number c s) st.pin st.began st.holds st.knows st.unspent valid ready 0 (let many = eight in omega (arith, many)) p.block

    abbrev new : LogBlock
    new = record { block = p.block; base = s.walk.position; slots = [] }

    history_is : d.history ≡ c.history
    history_is = ap (λ (k : Kind). history_after c.history seat note k f) kind_is

    logs_are : d.logs ≡ c.logs ++ new ∷ []
    logs_are = ap (λ (k : Kind). logs_after c.logs note k f) kind_is ∙ ap (λ (b : Bool). log_if b c.logs p.block s.walk.position) (eq-eqb f 0 none)

    last_is : last_of d.logs ≡ new
    last_is = ap (λ (l : List LogBlock). last_of l) logs_are ∙ last_more c.logs new

    opens : IsOpenTail o d.history d.logs (linked p.block s).walk
    opens = record {
      position = x.at_end.opens.position ∙ ap (λ (h : List WriteOf). end_of o h) (sym history_is);
      base = ap (λ (l : LogBlock). l.base) last_is;
      long = λ other. ap (λ (l : LogBlock). length l.slots + 3) last_is;
      opens = λ other. ap (λ (l : LogBlock). is_full (shape o) l.slots) last_is ∙ ne_eqb 3 (words_in (shape o)) (λ three. (let many = eight in let same = same_q in omega (arith, many, same, three)));
      closes = λ three. absurd (let many = eight in let same = same_q in omega (arith, many, same, three));
    }

    grow_moves : (won : Bool) → (f == EMPTY) ≡ won → MovesTo (K d) (E d) (onward (λ n. at_stage t (Growing n)) (grown_so t) (grow_after won p s f))
    grow_moves true is = record {
      goes = λ go. record { history = history_is ∙ x.at_end.unput.history; none_lost = x.at_end.unput.none_lost; opens = opens; data_space = x.data_space; log_space = x.log_space };
      ends = λ out done. cc;
    }
    grow_moves false is = absurd (eqb-false f EMPTY is none)

    pub growing_moves : MovesTo (K d) (E d) (stage_after t (Growing p) s f)
    growing_moves = grow_moves (f == EMPTY) refl

  -- the entry is put in
  module _ (t : Target) (p : Offer) (s : Seat) (c : Core) (entry : ℕ) (at : HasBegun (offering_law entry) o seat (AtSlot offset o seat s0 g0) p s (ghost_on seat number c s))
      (st : StepsOn o seat number write_script (at_stage t (Offering p)) s c) (x : IsToOffer offset o seat number s0 c0 s c) where
    abbrev f2 : ℕ
    f2 = found_answer c.memory (offer_script.asks p s)

    abbrev d2 : Core
    d2 = next_core o seat number write_script (at_stage t (Offering p)) s c

    abbrev note2 : Note
    note2 = note_of o seat number write_script no_record (at_stage t (Offering p)) s (view_of c.views seat).ghost f2

    same_seat : s ≡ at.start
    same_seat = at.stands.0.seat

    valid2 : s.hold.valid ≡ true
    valid2 = ap (λ (u : Seat). u.hold.valid) same_seat ∙ at.before.here.valid

    ready2 : s.walk.ready ≡ true
    ready2 = ap (λ (u : Seat). u.walk.ready) same_seat ∙ at.before.here.ready

    inside : s.walk.tail_slot < words_of s
    inside = (let upto = (walked o c seat s (ghost_on seat number c s) st.pin st.began st.holds st.knows st.unspent valid2 ready2).upto in
        let same = same_words o c seat s (ghost_on seat number c s) st.pin st.began st.holds st.knows st.unspent valid2 ready2 in
        let other : s.walk.tail_slot ≢ words_of s = (λ end. at.before.inside (sym (ap (λ (u : Seat). u.walk.tail_slot) same_seat) ∙ (end ∙ ap words_of same_seat))) in
        omega (arith, upto, same, other))

    none2 : f2 ≡ 0
    none2 = slot_empty o c seat s (ghost_on seat number c s) st.pin st.began st.holds st.knows st.unspent valid2 ready2 x.opens inside

    kind2 : kind_of_ask (q_of_origin o) seat (offer_script.asks p s) ≡ ExchangesSlot (place_in (seat_shape s) s.walk.tail_block s.walk.tail_slot) p.entry
    kind2 = kind_at_slot o c seat s (ghost_on seat number c s) st.pin st.began st.holds st.knows st.unspent valid2 ready2 inside p.entry

    may_slot : MayExchangeSlot o c.history s (place_in (seat_shape s) s.walk.tail_block s.walk.tail_slot) p.entry
    may_slot = subst (λ (k : Kind). May o c (ghost_on seat number c s) s k) kind2 st.may

    job : s.calling.job ≡ Pwrite offset
    job = ap (λ (u : Seat). u.calling.job) (ap unwritten same_seat ∙ at.before.writing.rest) ∙ may.job

    bytes : s.calling.bytes ≡ s0.calling.bytes
    bytes = ap (λ (u : Seat). u.calling.bytes) (ap unwritten same_seat ∙ at.before.writing.rest)

    no_seal : p.entry ≢ SEAL
    no_seal seal = (let both = sym job ∙ (may_slot.0 seal).job in cc)

    op_is : op_or_size (op_in s) ≡ PwriteOp offset s0.calling.bytes
    op_is = ap (λ (task : Task). op_or_size (op_of task s.calling.bytes)) job ∙ ap (λ (l : List ℕ). op_or_size (op_of (Pwrite offset) l)) bytes

    -- the file's length there
    size_is : s.walk.size ≡ length (file_at o c0.history (end_of o c0.history))
    size_is =
        (let low = start_low o c st.holds in
        let end : s.walk.position ≡ end_of o c.history = x.opens.position in
        (walked o c seat s (ghost_on seat number c s) st.pin st.began st.holds st.knows st.unspent valid2 ready2).size_is
        ∙ (ap (λ (k : ℕ). history_size_at o (entries o c.history) k) end
        ∙ (sym (st.holds.writes.sizes (end_of o c.history) (omega (arith, low)) (omega arith))
        ∙ ap (λ (h : List WriteOf). length (file_at o h (end_of o h))) x.history)))

    abbrev put : LogEntry
    put = record { word = p.entry; meaning = new_meaning s p.entry }

    history2 : d2.history ≡ c0.history ++ write_at_end o seat number offset s0 c0.history put ∷ []
    history2 = ap (λ (k : Kind). history_after c.history seat note2 k f2) kind2
        ∙ (ap (λ (b : Bool). history_if (b && not (p.entry == SEAL)) c.history (record { seat = seat; number = number; op = op_or_size (op_in s); at = s.walk.size; entry = put })) (eq-eqb f2 0 none2)
        ∙ (ap (λ (b : Bool). history_if (not b) c.history (record { seat = seat; number = number; op = op_or_size (op_in s); at = s.walk.size; entry = put })) (ne_eqb p.entry SEAL no_seal)
        ∙ (ap (λ (h : List WriteOf). h ++ record { seat = seat; number = number; op = op_or_size (op_in s); at = s.walk.size; entry = put } ∷ []) x.history
        ∙ (ap (λ (op : Op). c0.history ++ record { seat = seat; number = number; op = op; at = s.walk.size; entry = put } ∷ []) op_is
        ∙ ap (λ (n : ℕ). c0.history ++ record { seat = seat; number = number; op = PwriteOp offset s0.calling.bytes; at = n; entry = put } ∷ []) size_is))))

    end_is : s.walk.position ≡ end_of o c0.history
    end_is = x.opens.position ∙ ap (λ (h : List WriteOf). end_of o h) x.history

    offer_moves : (won : Bool) → (f2 == EMPTY) ≡ won → MovesTo (K d2) (E d2) (onward (λ n. at_stage t (Offering n)) (offered_so t) (offer_after won p s f2))
    offer_moves true is = record {
      goes = λ go. record {
        none_lost = x.none_lost;
        ends = record {
          added = (put, history2);
          position_is = (let end = end_is in omega (arith, end));
          below = λ last. at.before.here.below (sym (ap (λ (u : Seat). u.walk.position) same_seat) ∙ (end_is ∙ last));
          data_space = x.data_space;
          log_space = x.log_space;
        };
      };
      ends = λ out done. cc;
    }
    offer_moves false is = absurd (eqb-false f2 EMPTY is none2)

    pub offering_moves : MovesTo (K d2) (E d2) (stage_after t (Offering p) s f2)
    offering_moves = offer_moves (f2 == EMPTY) refl
