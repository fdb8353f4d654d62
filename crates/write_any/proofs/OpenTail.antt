-- Where a seat stands at the end of the log, and no other seat makes a step: its tail's slot is empty, and its tail's link is 0.
use Rattle.std.proofs.Common.{◌≡◌, ◌≢◌, ◌<◌, ◌+◌, ◌-◌, ◌==◌, ℕ, true, false, List, [], ◌∷◌, ◌++◌, length, length-append, refl, sym, ◌∙◌, ap, arith, slice_index}
use Rattle.std.proofs.lemmas.Bool.{ne_eqb, or_from}
use Rattle.std.proofs.lemmas.List.{get_or_past}
use Rattle.log_image.specs.Image.{Shape, words_in}
use Rattle.persistence.specs.Memory.{cell}
use Rattle.pmem_words.specs.Seats.{Seat, Walk}
use Rattle.log_core.specs.Entries.{place_in}
use Rattle.log_core.specs.Views.{Ghost, view_of}
use Rattle.log_core.specs.Origin.{Origin, shape, LogBlock, no_log}
use Rattle.log_core.specs.Files.{Write, end_of}
use Rattle.log_core.specs.Cores.{Core, nth_log, number_at, is_sealed, is_full, entries_used}
use Rattle.log_core.specs.Order.{nth_generation, LogStands}
use Rattle.log_core.specs.Works.{seat_shape, words_of}
use Rattle.log_core.specs.Invariant.{Invariant}
use Rattle.log_core.specs.Knows.{Knows}
use Rattle.log_core.proofs.LogTails.{TailLog, unsealed, number_again}
use Rattle.log_core.proofs.PinnedChains.{place, kept}
use Rattle.log_core.proofs.TailEnds.{same_shape, same_words, walked, tail, slot_last, last_long, last_used, link_last, last_full}

-- the last of the log blocks
abbrev pub last_of : List LogBlock → LogBlock
last_of logs = nth_log logs (length logs - 1)

-- a walk stands at the end of a history, in the last log block: behind its used slots, which are entries, or at its end
pub record IsOpenTail (o : Origin) (history : List Write) (logs : List LogBlock) (w : Walk) : Type 0 where
  pub position : w.position ≡ end_of o history
  pub base : (last_of logs).base ≡ w.tail_base
  pub long : w.tail_slot ≢ words_in (shape o) → length (last_of logs).slots + 3 ≡ w.tail_slot
  pub opens : w.tail_slot ≢ words_in (shape o) → is_full (shape o) (last_of logs).slots ≡ false
  pub closes : w.tail_slot ≡ words_in (shape o) → is_full (shape o) (last_of logs).slots ≡ true

module _ (o : Origin) (c : Core) (n : ℕ) (s : Seat) (g : Ghost) (pin began : ℕ) (inv : Invariant o c) (knows : Knows o c n s g pin began) (unspent : (view_of c.views n).parts ≢ [])
    (valid : s.hold.valid ≡ true) (ready : s.walk.ready ≡ true) where
  same_q : words_of s ≡ words_in (shape o)
  same_q = same_words o c n s g pin began inv knows unspent valid ready

  -- an empty slot was found at the tail
  pub open_at_slot : s.walk.tail_slot < words_of s → slice_index c.memory.now.words (place_in (seat_shape s) s.walk.tail_block s.walk.tail_slot) ≡ 0 → IsOpenTail o c.history c.logs s.walk
  open_at_slot inside empty =
      (let last = slot_last o c n s g pin began inv knows unspent valid ready inside empty in
      let long : length (last_of c.logs).slots ≡ s.walk.tail_slot - 3 = last_long o c n s g pin began inv knows unspent valid ready inside empty in
      let used : entries_used (last_of c.logs) ≡ s.walk.tail_slot - 3 = last_used o c n s g pin began inv knows unspent valid ready inside empty in
      let from = (walked o c n s g pin began inv knows unspent valid ready).from in
      let same = same_q in
      record {
        position = last.position;
        base = last.base;
        long = λ other. omega (arith, long, from);
        opens = λ other. or_from (is_sealed (last_of c.logs).slots) (length (last_of c.logs).slots + 3 == words_in (shape o)) (unsealed (last_of c.logs).slots (used ∙ sym long))
            (ne_eqb (length (last_of c.logs).slots + 3) (words_in (shape o)) (λ full. omega (arith, full, long, from, inside, same)));
        closes = λ end. absurd (omega (arith, end, inside, same));
      })

  -- a link 0 was found at its end
  pub open_at_link : s.walk.tail_slot ≡ words_of s → slice_index c.memory.now.words (place_in (seat_shape s) s.walk.tail_block 0) ≡ 0 → IsOpenTail o c.history c.logs s.walk
  open_at_link end empty =
      (let last = link_last o c n s g pin began inv knows unspent valid ready end empty in
      let same = same_q in
      record {
        position = last.position;
        base = last.base;
        long = λ other. absurd (other (end ∙ same));
        opens = λ other. absurd (other (end ∙ same));
        closes = λ closed. last_full o c n s g pin began inv knows unspent valid ready end empty;
      })

  -- it stands there
  module _ (opens : IsOpenTail o c.history c.logs s.walk) where
    abbrev number : ℕ
    number = number_at c.logs s.walk.tail_base

    last_number : number ≡ length c.logs - 1
    last_number = (let some = inv.order.log.some in
        ap (λ (b : ℕ). number_at c.logs b) (sym opens.base) ∙ number_again o c inv (length c.logs - 1) (omega (arith, some)))

    tail_here : TailLog c s.walk (nth_generation c.generations (place o c n s g pin began inv knows valid)).cut
    tail_here = tail o c n s g pin began inv knows unspent valid ready

    stands : LogStands (shape o) (λ word. cell c.memory word) (nth_log c.logs number) (nth_log c.logs (number + 1)).block
    stands = inv.order.chains (place o c n s g pin began inv knows valid) (kept o c n s g pin began inv knows valid) number tail_here.late tail_here.inside

    last_is : nth_log c.logs number ≡ last_of c.logs
    last_is = ap (λ (k : ℕ). nth_log c.logs k) last_number

    -- so its slot is empty
    pub slot_empty : s.walk.tail_slot < words_of s → slice_index c.memory.now.words (place_in (seat_shape s) s.walk.tail_block s.walk.tail_slot) ≡ 0
    slot_empty inside =
        (let same = same_q in
        let from = (walked o c n s g pin began inv knows unspent valid ready).from in
        let long = opens.long (λ end. omega (arith, end, inside, same)) in
        let here : length (nth_log c.logs number).slots ≡ s.walk.tail_slot - 3 = ap (λ (l : LogBlock). length l.slots) last_is ∙ omega (arith, long) in
        let grows = stands.slots (s.walk.tail_slot - 3) (omega (arith, inside, same, from)) (λ sealed. omega (arith, here)) in
        ap (λ (image : Shape). slice_index c.memory.now.words (place_in image s.walk.tail_block s.walk.tail_slot)) (same_shape o c n s g pin began inv knows unspent valid ready)
        ∙ (ap (λ (b : ℕ). slice_index c.memory.now.words (place_in (shape o) b s.walk.tail_slot)) (sym tail_here.block_is)
        ∙ (ap (λ (k : ℕ). slice_index c.memory.now.words (place_in (shape o) (nth_log c.logs number).block k)) (let e : s.walk.tail_slot ≡ s.walk.tail_slot - 3 + 3 = omega (arith, from) in e)
        ∙ (grows.present ∙ get_or_past (nth_log c.logs number).slots (s.walk.tail_slot - 3) 0 (omega (arith, here))))))

    -- and its link is 0
    pub link_empty : slice_index c.memory.now.words (place_in (seat_shape s) s.walk.tail_block 0) ≡ 0
    link_empty =
        (let some = inv.order.log.some in
        let last = last_number in
        ap (λ (image : Shape). slice_index c.memory.now.words (place_in image s.walk.tail_block 0)) (same_shape o c n s g pin began inv knows unspent valid ready)
        ∙ (ap (λ (b : ℕ). slice_index c.memory.now.words (place_in (shape o) b 0)) (sym tail_here.block_is)
        ∙ (stands.link.present ∙ ap (λ (l : LogBlock). l.block) (get_or_past c.logs (number + 1) no_log (omega (arith, last, some))))))

-- a new log block behind the others is the last one
pub last_more : (logs : List LogBlock) (log : LogBlock) → last_of (logs ++ log ∷ []) ≡ log
last_more logs log =
    ap (λ (k : ℕ). nth_log (logs ++ log ∷ []) k) (let long = length-append logs (log ∷ []) in let e : length (logs ++ log ∷ []) - 1 ≡ length logs = omega (arith, long) in e)
    ∙ at_end logs
  where
    at_end : (l : List LogBlock) → nth_log (l ++ log ∷ []) (length l) ≡ log
    at_end [] = refl
    at_end (x ∷ l) = at_end l
