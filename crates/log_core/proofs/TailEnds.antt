-- A tail that is found empty is in the last log block, behind its used slots or at its link, and the view is at the end.
use Rattle.std.proofs.Common.{◌≡◌, ◌≢◌, ◌<◌, ◌≤◌, ◌+◌, ◌-◌, ◌/◌, ℕ, true, [], length, sym, ◌∙◌, ap, subst, arith, slice_index}
use Rattle.std.proofs.lemmas.Nat.{div-mul-add}
use Rattle.log_entry.specs.declared.calls.Call.{Call}
use Rattle.log_image.specs.Image.{Shape, words_in, shape_by}
use Rattle.pmem_words.specs.Seats.{Seat, Walk}
use Rattle.persistence.specs.Memory.{cell}
use Rattle.log_core.specs.Entries.{place_in}
use Rattle.log_core.specs.Views.{Ghost, view_of}
use Rattle.log_core.specs.Origin.{Origin, shape, LogBlock}
use Rattle.log_core.specs.Files.{entries, end_of}
use Rattle.log_core.specs.Cores.{Core, generation_at, is_named, nth_log, number_at, log_at, entries_used, is_full}
use Rattle.log_core.specs.Works.{seat_shape, words_of, MayBelieve}
use Rattle.log_core.specs.May.{MayLoadImageWord}
use Rattle.log_core.specs.Order.{nth_generation}
use Rattle.log_core.specs.Walks.{WalkHolds, HasWalked}
use Rattle.log_core.specs.Records.{RecordHolds, StandsAtTail}
use Rattle.log_core.specs.Invariant.{Invariant, around}
use Rattle.log_core.specs.Knows.{Knows}
use Rattle.log_core.proofs.Each.{each_weaker}
use Rattle.log_core.proofs.PinnedChains.{place, kept}
use Rattle.log_core.proofs.LogTails.{TailLog, tail_log, first_empty, last_link, last_end}
use Rattle.log_core.proofs.clauses.Apart.{log_is_named}
use Rattle.log_core.proofs.clauses.Growth.{last_log}

-- a walk stands in the last log block, at the end
pub record IsLastTail (o : Origin) (c : Core) (w : Walk) : Type 0 where
  -- the place of the pinned generation
  pub at : log_at c.logs w.tail_base ≡ last_log c
  pub block : (last_log c).block ≡ w.tail_block
  pub base : (last_log c).base ≡ w.tail_base
  pub position : w.position ≡ end_of o c.history

module _ (o : Origin) (c : Core) (n : ℕ) (s : Seat) (g : Ghost) (pin began : ℕ) (inv : Invariant o c) (f : Knows o c n s g pin began) (unspent : (view_of c.views n).parts ≢ [])
    (valid : MayBelieve s) (ready : s.walk.ready ≡ true) where
  abbrev pub at : ℕ
  at = place o c n s g pin began inv f valid

  w : WalkHolds (around o c) s.hold s.walk
  w = f.walk unspent

  -- the seat has the shape of the image
  pub same_shape : seat_shape s ≡ shape o
  same_shape = ap shape_by (f.fits unspent).geometry

  pub same_words : words_of s ≡ words_in (shape o)
  same_words = ap Rattle.pmem_words.specs.Seats.q_of (f.fits unspent).geometry

  -- the view has walked, and its tail is in the log
  pub walked : HasWalked o (entries o c.history) c.logs s.walk
  walked = w.walked (w.ready_walked ready).0 (w.ready_walked ready).1

  pub tail : TailLog c s.walk (nth_generation c.generations at).cut
  tail = tail_log o c inv at s.walk (kept o c n s g pin began inv f valid) (w.ready_walked ready).0 walked (w.ready_base ready) (w.ready_tail ready)

  abbrev number : ℕ
  number = number_at c.logs s.walk.tail_base

  -- the pinned generation names the tail's block
  pub tail_named : is_named o c.logs (entries o c.history) (nth_generation c.generations at) s.walk.tail_block ≡ true
  tail_named = subst (λ (b : ℕ). is_named o c.logs (entries o c.history) (nth_generation c.generations at) b ≡ true) tail.block_is
      (log_is_named o c.logs (nth_generation c.generations at) number (entries o c.history) tail.late tail.inside)

  -- so a word of that may be loaded
  pub tail_load : (index word : ℕ) → index < words_of s → word ≡ place_in (seat_shape s) s.walk.tail_block index →
      MayLoadImageWord s (λ block. is_named o c.logs (entries o c.history) (generation_at o c.generations s.hold.generation) block) word
  tail_load index word inside is = record {
    valid = valid;
    named = ap (λ (b : ℕ). is_named o c.logs (entries o c.history) (nth_generation c.generations at) b) (ap (λ (k : ℕ). k / words_of s) is ∙ div-mul-add s.walk.tail_block (words_of s) index inside) ∙ tail_named;
  }

  -- the tail's log block, where no other follows it
  module _ (last : number + 1 ≡ length c.logs) where
    last_is : last_log c ≡ nth_log c.logs number
    last_is = ap (λ (k : ℕ). nth_log c.logs k) (let e : length c.logs - 1 ≡ number = omega (arith, last) in e)

    last_block : (last_log c).block ≡ s.walk.tail_block
    last_block = ap (λ (l : LogBlock). l.block) last_is ∙ tail.block_is

    last_base : (last_log c).base ≡ s.walk.tail_base
    last_base = ap (λ (l : LogBlock). l.base) last_is ∙ tail.base_is

    last_at : log_at c.logs s.walk.tail_base ≡ last_log c
    last_at = sym tail.log_is ∙ sym last_is

  module _ (inside : s.walk.tail_slot < words_of s) (empty : slice_index c.memory.now.words (place_in (seat_shape s) s.walk.tail_block s.walk.tail_slot) ≡ 0) where
    abbrev slot : ℕ
    slot = s.walk.tail_slot - 3

    unclosed : s.walk.tail_slot ≢ words_in (shape o)
    unclosed e = (let same = same_words in omega (arith, inside, same, e))

    found : (number + 1 ≡ length c.logs) × (length (nth_log c.logs number).slots ≡ slot) × (entries_used (nth_log c.logs number) ≡ slot)
    found =
        (let from = walked.from in
        let upto = walked.upto in
        let other = unclosed in
        let few = (walked.inside unclosed).1 in
        let used : entries_used (nth_log c.logs number) ≡ entries_used (log_at c.logs s.walk.tail_base) = ap (λ (l : LogBlock). entries_used l) tail.log_is in
        let here : s.walk.tail_slot ≡ slot + 3 = omega (arith, from) in
        let none : (cell c.memory (place_in (shape o) (nth_log c.logs number).block (slot + 3))).present ≡ 0 =
        ap (λ (b : ℕ). slice_index c.memory.now.words (place_in (shape o) b (slot + 3))) tail.block_is
        ∙ (ap (λ (k : ℕ). slice_index c.memory.now.words (place_in (shape o) s.walk.tail_block k)) (sym here)
        ∙ (ap (λ (image : Shape). slice_index c.memory.now.words (place_in image s.walk.tail_block s.walk.tail_slot)) (sym same_shape) ∙ empty)) in
        first_empty o c inv at number (kept o c n s g pin began inv f valid) tail.late tail.inside slot (omega (arith, upto, from, other)) (omega (arith, few, used)) none)

    -- an empty slot at the tail: the view is at the end
    pub slot_last : IsLastTail o c s.walk
    slot_last = record {
      at = last_at found.0;
      block = last_block found.0;
      base = last_base found.0;
      position =
          (let ends = last_end o c inv at number (kept o c n s g pin began inv f valid) tail.late tail.inside found.0 in
          let used = found.2 in
          let position = (walked.inside unclosed).0 in
          let base = tail.base_is in
          omega (arith, ends, used, position, base));
    }

    -- of the last log block, each used slot is an entry before it
    pub last_long : length (last_log c).slots ≡ slot
    last_long = ap (λ (l : LogBlock). length l.slots) (last_is found.0) ∙ found.1

    pub last_used : entries_used (last_log c) ≡ slot
    last_used = ap (λ (l : LogBlock). entries_used l) (last_is found.0) ∙ found.2

  module _ (closed : s.walk.tail_slot ≡ words_of s) (empty : slice_index c.memory.now.words (place_in (seat_shape s) s.walk.tail_block 0) ≡ 0) where
    found_link : number + 1 ≡ length c.logs
    found_link = last_link o c inv at number (kept o c n s g pin began inv f valid) tail.late tail.inside
        (ap (λ (b : ℕ). slice_index c.memory.now.words (place_in (shape o) b 0)) tail.block_is
        ∙ (ap (λ (image : Shape). slice_index c.memory.now.words (place_in image s.walk.tail_block 0)) (sym same_shape) ∙ empty))

    -- a link 0 at the tail's end: the view is at the end
    pub link_last : IsLastTail o c s.walk
    link_last = record {
      at = last_at found_link;
      block = last_block found_link;
      base = last_base found_link;
      position =
          (let ends = last_end o c inv at number (kept o c n s g pin began inv f valid) tail.late tail.inside found_link in
          let position = (walked.at_end (closed ∙ same_words)).1 in
          let used : entries_used (nth_log c.logs number) ≡ entries_used (log_at c.logs s.walk.tail_base) = ap (λ (l : LogBlock). entries_used l) tail.log_is in
          let base = tail.base_is in
          omega (arith, ends, used, position, base));
    }

    -- of the last log block, which is full
    pub last_full : is_full (shape o) (last_log c).slots ≡ true
    last_full = subst (λ (l : LogBlock). is_full (shape o) l.slots ≡ true) (last_at found_link) (walked.at_end (closed ∙ same_words)).0

-- a view that has walked and is at the end stands at its tail
pub stands_at_end : (o : Origin) (c : Core) (n : ℕ) (s : Seat) (g : Ghost) (pin began : ℕ) → Invariant o c → Knows o c n s g pin began → (view_of c.views n).parts ≢ [] → began ≤ end_of o c.history →
    (position block : ℕ) → end_of o c.history ≤ position → block ≢ 0 → StandsAtTail (view_of c.views n).first began position block (view_of c.views n).done
stands_at_end o c n s g pin began inv f unspent low position block past some = record {
  walked = some;
  from_first = (let first = (f.fits unspent).first in let synced = inv.syncs.from_first in let upto = inv.syncs.to_end in omega (arith, first, synced, upto, past));
  begun = omega (arith, low, past);
  records = each_weaker (RecordHolds o c.history c.generations) (λ (call : Call). call.position ≤ position) (view_of c.views n).done
      (λ call holds. (let upto = holds.to_end in omega (arith, upto, past))) (inv.records.records n);
}
