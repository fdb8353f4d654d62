-- A sync's fence at its tail, after all its marks: each slot and link up to the view's position is certain then, whichever head a crash
-- may leave.
use Rattle.std.proofs.Common.{◌≡◌, ◌≢◌, ◌⊎◌, ⊎_elim, inl, inr, ◌<◌, ◌≤◌, ◌+◌, ◌-◌, ◌*◌, ◌/◌, ◌==◌, if◌then◌else◌, ℕ, Bool, true, false, List, [], length, drop, refl, sym, ◌∙◌, ap, subst, arith, slice_index}
use Rattle.std.specs.List.{AllByRecursion, list_any}
use Rattle.std.proofs.lemmas.Bool.{cases_lt, eqb-true, eqb-false}
use Rattle.std.proofs.lemmas.List.{length-drop, get_or_past}
use Rattle.std.proofs.lemmas.Nat.{div-mul-add}
use Rattle.pmem_words.specs.declared.keeps.Task.TheVariants.{Sync}
use Rattle.pmem_words.specs.Seats.{Seat}
use Rattle.asks.specs.declared.ask.Ask.TheVariants.{Fence}
use Rattle.persistence.specs.Memory.{Memory, PendingMark, cell, index_at, pending_of, memory_after}
use Rattle.persistence.proofs.ValueLemmas.{index_at-most}
use Rattle.log_core.specs.Entries.{place_in, head_place}
use Rattle.log_core.specs.Views.{Ghost, MarkedWord, view_of}
use Rattle.log_core.specs.Origin.{Origin, shape, q_of_origin, first_generation, LogBlock, no_log}
use Rattle.log_core.specs.Files.{entries}
use Rattle.log_core.specs.Cores.{Core, nth_log, number_at, entries_used, head_floor}
use Rattle.log_core.specs.Works.{words_of, tail_index}
use Rattle.log_core.specs.Order.{nth_generation}
use Rattle.log_core.specs.Certain.{IsCertain}
use Rattle.log_core.specs.May.{is_marked, walked_trail, IsAllMarked}
use Rattle.log_core.specs.Records.{mark_of}
use Rattle.log_core.specs.Synced.{SyncMarkHolds, IsSynced}
use Rattle.log_core.specs.Walks.{WalkHolds, HasWalked}
use Rattle.log_core.specs.Invariant.{Invariant, KeptIn, around, names_by}
use Rattle.log_core.specs.Knows.{Knows}
use Rattle.log_core.proofs.Each.{any_each, each_both, any_map}
use Rattle.log_core.proofs.LogTails.{TailLog, tail_log, bases_rise}
use Rattle.log_core.proofs.Trails.{is_on, slot_on, link_on}
use Rattle.log_core.proofs.ChainPlaces.{drop_log, slot_present, chain_other, logs_apart, cuts_rise}
use Rattle.log_core.proofs.clauses.Narrows.{floor_inside}
use Rattle.log_core.proofs.clauses.MemoryMoves.{fenced_reaches}
use Rattle.log_core.proofs.clauses.OwnWords.{same_words}
use Rattle.log_core.proofs.clauses.OneView.{same_or_other}
use Rattle.log_core.proofs.kinds.Fences.{value_generation}
use Rattle.log_core.proofs.kinds.MarksFit.{pinned_kept, on_walked}

module _ (o : Origin) (c : Core) (n : ℕ) (s : Seat) (g : Ghost) (pin began : ℕ) (inv : Invariant o c) (f : Knows o c n s g pin began) (unspent : (view_of c.views n).parts ≢ []) (sync : s.calling.job ≡ Sync) (valid : s.hold.valid ≡ true)
    (ready : s.walk.ready ≡ true) (marked : IsAllMarked (walked_trail o c s) g.marks) where
  abbrev m : Memory
  m = memory_after c.memory n Fence

  abbrev place : ℕ
  place = s.hold.generation - first_generation o

  abbrev cut : ℕ
  cut = (nth_generation c.generations place).cut

  abbrev nth : ℕ → LogBlock
  nth number = nth_log c.logs number

  kept : KeptIn o c place
  kept = pinned_kept o c n s g pin began inv f unspent valid

  walk : WalkHolds (around o c) s.hold s.walk
  walk = f.walk unspent

  walked : HasWalked o (entries o c.history) c.logs s.walk
  walked = walk.walked (walk.ready_walked ready).0 (walk.ready_walked ready).1

  tail : TailLog c s.walk cut
  tail = tail_log o c inv place s.walk kept (walk.ready_walked ready).0 walked (walk.ready_base ready) (walk.ready_tail ready)

  abbrev last : ℕ
  last = number_at c.logs s.walk.tail_base

  -- what a mark of the seat comes to: the mark holds, and the floor is at least what it names
  Comes : PendingMark → Type 0
  Comes note = SyncMarkHolds (q_of_origin o) (names_by o c.logs (entries o c.history) c.generations) (λ k. cell c.memory k) c.memory.past s.hold.generation note
      × (index_at c.memory.past note.time note.word ≤ (cell m note.word).floor)

  all_come : AllByRecursion (λ (note : PendingMark). SyncMarkHolds (q_of_origin o) (names_by o c.logs (entries o c.history) c.generations) (λ k. cell c.memory k) c.memory.past s.hold.generation note
      × (index_at c.memory.past note.time note.word ≤ (cell m note.word).floor)) (pending_of n c.memory.pending)
  all_come = each_both _ _ (pending_of n c.memory.pending) (f.syncs.marks sync) (fenced_reaches o c.memory (length c.views) inv.sizes.words n)

  of_mark : (at : ℕ) → is_marked g.marks at ≡ true → list_any (λ (note : PendingMark). note.word == at) (pending_of n c.memory.pending) ≡ true
  of_mark at is = sym (any_map (mark_of (λ k. cell c.memory k) c.memory.past) (λ (mark : MarkedWord). mark.word == at) (pending_of n c.memory.pending)) ∙ (ap (λ (marks : List MarkedWord). is_marked marks at) (sym f.marks) ∙ is)

  -- a marked word that is not the head has no other possible value
  floor_there : (at : ℕ) → at ≢ head_place → is_marked g.marks at ≡ true → (cell m at).floor ≡ length (cell m at).past
  floor_there at other is = any_each _ (λ (note : PendingMark). note.word == at) (pending_of n c.memory.pending) (of_mark at is) all_come by
    where
      by : (note : PendingMark) → (note.word == at) ≡ true → SyncMarkHolds (q_of_origin o) (names_by o c.logs (entries o c.history) c.generations) (λ k. cell c.memory k) c.memory.past s.hold.generation note
          × (index_at c.memory.past note.time note.word ≤ (cell m note.word).floor) → (cell m at).floor ≡ length (cell m at).past
      by note here comes =
          (let same = eqb-true note.word at here in
          let now = (comes.0.other (λ head. other (sym same ∙ head))).0 in
          let there : (cell m note.word).floor ≡ length (cell m note.word).past = (let low = comes.1 in let high = floor_inside m note.word in omega (arith, now, low, high)) in
          subst (λ (w : ℕ). (cell m w).floor ≡ length (cell m w).past) same there)

  -- no head of an earlier generation than the pinned one is possible
  heads_late : place ≤ head_floor m
  heads_late = any_each _ (λ (note : PendingMark). note.word == head_place) (pending_of n c.memory.pending) (of_mark head_place marked.head) all_come by
    where
      by : (note : PendingMark) → (note.word == head_place) ≡ true → SyncMarkHolds (q_of_origin o) (names_by o c.logs (entries o c.history) c.generations) (λ k. cell c.memory k) c.memory.past s.hold.generation note
          × (index_at c.memory.past note.time note.word ≤ (cell m note.word).floor) → place ≤ head_floor m
      by note here comes =
          (let same = eqb-true note.word head_place here in
          let reaches : index_at c.memory.past note.time head_place ≤ head_floor m = subst (λ (w : ℕ). index_at c.memory.past note.time w ≤ (cell m w).floor) same comes.1 in
          let low = comes.0.head same in
          let is = value_generation o c n s g pin began inv f (index_at c.memory.past note.time head_place) (index_at-most c.memory.past note.time head_place) in
          omega (arith, reaches, low, is))

  -- the tail's place: of the tail's slot, or at the block's end of its link
  abbrev at : ℕ
  at = place_in (shape o) s.walk.tail_block (tail_index s)

  words : words_of s ≡ q_of_origin o
  words = same_words o c n s g pin began inv f unspent

  tail_at : ((s.walk.tail_slot ≡ q_of_origin o) × (tail_index s ≡ 0)) ⊎ ((s.walk.tail_slot ≢ q_of_origin o) × (tail_index s ≡ s.walk.tail_slot))
  tail_at = go (s.walk.tail_slot == words_of s) refl
    where
      go : (end : Bool) → (s.walk.tail_slot == words_of s) ≡ end →
          ((s.walk.tail_slot ≡ q_of_origin o) × ((if end then 0 else s.walk.tail_slot) ≡ 0)) ⊎ ((s.walk.tail_slot ≢ q_of_origin o) × ((if end then 0 else s.walk.tail_slot) ≡ s.walk.tail_slot))
      go true is = inl (eqb-true s.walk.tail_slot (words_of s) is ∙ words, refl)
      go false is = inr ((λ same. eqb-false s.walk.tail_slot (words_of s) is (same ∙ sym words)), refl)

  -- the position is within the tail's block
  position_low : s.walk.position ≤ (nth last).base + entries_used (nth last)
  position_low = (let base = tail.base_is in let used = ap (λ (log : LogBlock). entries_used log) tail.log_is in ⊎_elim
      (λ (end : (s.walk.tail_slot ≡ q_of_origin o) × (tail_index s ≡ 0)). (let is = (walked.at_end end.0).1 in omega (arith, is, base, used)))
      (λ (slot : (s.walk.tail_slot ≢ q_of_origin o) × (tail_index s ≡ s.walk.tail_slot)). (let is = (walked.inside slot.0).0 in let low = (walked.inside slot.0).1 in omega (arith, is, low, base, used)))
      tail_at)

  tail_small : tail_index s < q_of_origin o
  tail_small = (let wide = inv.sizes.image.wide in let high = walked.upto in ⊎_elim
      (λ (end : (s.walk.tail_slot ≡ q_of_origin o) × (tail_index s ≡ 0)). (let is = end.1 in omega (arith, is, wide)))
      (λ (slot : (s.walk.tail_slot ≢ q_of_origin o) × (tail_index s ≡ s.walk.tail_slot)). (let is = slot.1 in let other = slot.0 in omega (arith, is, other, high)))
      tail_at)

  -- a log block whose base is below the position is not behind the tail's
  not_behind : (number : ℕ) → number < length c.logs → (nth number).base < s.walk.position → number ≤ last
  not_behind number inside low = ⊎_elim (λ (behind : last < number). absurd (late behind)) (λ (before : number ≤ last). before) (cases_lt last number)
    where
      late : last < number → ⊥
      late behind =
          (let next = inv.order.log.next last (omega (arith, behind, inside)) in
          let high = position_low in
          let rise : (nth (last + 1)).base ≤ (nth number).base = same_or_other (last + 1) number (λ same. (let e = ap (λ (k : ℕ). (nth k).base) same in omega (arith, e)))
          (λ other. (let more = bases_rise o c inv number (last + 1) (omega (arith, behind, other)) inside in omega (arith, more))) in
          omega (arith, next, high, rise, low))

  -- a word of an earlier log block of the chain is not at the tail's place
  earlier_other : (number index : ℕ) → cut ≤ number → number < last → index < q_of_origin o → place_in (shape o) (nth number).block index ≢ at
  earlier_other number index low before small same = logs_apart o c inv place kept number last low before tail.inside
      (sym (div-mul-add (nth number).block (q_of_origin o) index small) ∙ (ap (λ (w : ℕ). w / q_of_origin o) same ∙ (div-mul-add s.walk.tail_block (q_of_origin o) (tail_index s) tail_small ∙ sym tail.block_is)))

  -- nor is a slot of its own block below the position, or any where the tail is the link
  own_other : (k j : ℕ) → (nth last).base + k < s.walk.position → j ≤ k → place_in (shape o) (nth last).block 3 + j ≢ at
  own_other k j below low same = ⊎_elim
      (λ (end : (s.walk.tail_slot ≡ q_of_origin o) × (tail_index s ≡ 0)). (let is = end.1 in omega (arith, is, same, product)))
      (λ (slot : (s.walk.tail_slot ≢ q_of_origin o) × (tail_index s ≡ s.walk.tail_slot)). (let is = slot.1 in let position = (walked.inside slot.0).0 in let base = tail.base_is in let from = walked.from in
      omega (arith, is, position, base, from, below, low, same, product)))
      tail_at
    where
      product : (nth last).block * q_of_origin o ≡ s.walk.tail_block * q_of_origin o
      product = ap (λ (block : ℕ). block * q_of_origin o) tail.block_is

  earlier_dropped : (number earlier index : ℕ) → cut ≤ number → earlier < number - cut → number ≤ last → index < length (nth_log (drop cut c.logs) earlier).slots + 3 → place_in (shape o) (nth_log (drop cut c.logs) earlier).block index ≢ at
  earlier_dropped number earlier index low before upto small = subst (λ (log : LogBlock). index < length log.slots + 3 → place_in (shape o) log.block index ≢ at) (sym (drop_log c.logs cut earlier))
      (λ less. earlier_other (cut + earlier) index (omega arith) (omega (arith, before, upto, low))
      (let fits = inv.order.log.inside (cut + earlier) (let inside = tail.inside in omega (arith, before, upto, low, inside)) in omega (arith, less, fits))) small

  dropped_is : (number : ℕ) → cut ≤ number → nth_log (drop cut c.logs) (number - cut) ≡ nth number
  dropped_is number low = drop_log c.logs cut (number - cut) ∙ ap (λ (k : ℕ). nth k) (omega (arith, low))

  dropped_inside : (number : ℕ) → cut ≤ number → number < length c.logs → number - cut < length (drop cut c.logs)
  dropped_inside number low inside = (let count = length-drop cut c.logs in omega (arith, count, low, inside))

  -- so each slot below the position is marked
  slot_marked : (number k : ℕ) → cut ≤ number → number < length c.logs → k < length (nth number).slots → (nth number).base + k < s.walk.position → is_on (walked_trail o c s) (place_in (shape o) (nth number).block 3 + k) ≡ true
  slot_marked number k low inside used below = subst (λ (log : LogBlock). k < length log.slots → ((j : ℕ) → j ≤ k → place_in (shape o) log.block 3 + j ≢ at) → is_on (walked_trail o c s) (place_in (shape o) log.block 3 + k) ≡ true)
      (dropped_is number low)
      (λ used own. slot_on (shape o) (drop cut c.logs) at (number - cut) k (dropped_inside number low inside) used (λ earlier index before small. earlier_dropped number earlier index low before upto small) own)
      used
      (λ j less. same_or_other number last (λ same. subst (λ (number : ℕ). (nth number).base + k < s.walk.position → place_in (shape o) (nth number).block 3 + j ≢ at) (sym same) (λ below. own_other k j below less) below)
      (λ other same. earlier_other number (3 + j) low (omega (arith, upto, other)) (let fits = inv.order.log.inside number inside in omega (arith, fits, used, less)) (omega (arith, same))))
    where
      upto : number ≤ last
      upto = not_behind number inside (omega (arith, below))

  -- and each link to a log block whose base is below it
  link_marked : (number : ℕ) → cut ≤ number → number < last → is_on (walked_trail o c s) (place_in (shape o) (nth number).block 0) ≡ true
  link_marked number low before = subst (λ (log : LogBlock). is_on (walked_trail o c s) (place_in (shape o) log.block 0) ≡ true) (dropped_is number low)
      (link_on (shape o) (drop cut c.logs) at (number - cut) (let inside = tail.inside in let less = dropped_inside (number + 1) (omega (arith, low)) (omega (arith, before, inside)) in omega (arith, less, low))
      (λ earlier index upto small. earlier_dropped (number + 1) earlier index (omega (arith, low)) (omega (arith, upto, low)) (omega (arith, before)) small))

  certain_there : (at value : ℕ) → is_on (walked_trail o c s) at ≡ true → (cell c.memory at).present ≡ value → IsCertain (cell m at) value
  certain_there at value on present = record {
    present = present;
    before = λ k above below. (let there = floor_there at (chain_other o c inv place kept at (on_walked o c n s g pin began inv f unspent at valid on)) (marked.each at on) in absurd (omega (arith, there, above, below)));
  }

  pub synced_words : IsSynced (shape o) (λ word. cell m word) c.generations c.logs (head_floor m) s.walk.position
  synced_words later number floor inside from less = record {
    slots = λ k used below. subst (λ (w : ℕ). IsCertain (cell m w) (slice_index (nth number).slots k)) (omega arith)
        (certain_there (place_in (shape o) (nth number).block 3 + k) (slice_index (nth number).slots k) (slot_marked number k low less used below)
        (ap (λ (w : ℕ). (cell c.memory w).present) (omega arith) ∙ slot_present o c inv place kept number k low less used));
    link = λ some below. link_certain some below;
  }
    where
      cuts : cut ≤ (nth_generation c.generations later).cut
      cuts = cuts_rise o c inv place later (let high = heads_late in omega (arith, high, floor)) inside

      low : cut ≤ number
      low = (let rise = cuts in omega (arith, rise, from))

      link_certain : (nth (number + 1)).block ≢ 0 → (nth (number + 1)).base < s.walk.position → IsCertain (cell m (place_in (shape o) (nth number).block 0)) (nth (number + 1)).block
      link_certain some below = ⊎_elim
          (λ (next : number + 1 < length c.logs). certain_there (place_in (shape o) (nth number).block 0) (nth (number + 1)).block
          (link_marked number low (let upto = not_behind (number + 1) next below in omega (arith, upto))) (inv.order.chains place kept number low less).link.present)
          (λ (end : length c.logs ≤ number + 1). absurd (some (ap (λ (log : LogBlock). log.block) (get_or_past c.logs (number + 1) no_log end))))
          (cases_lt (number + 1) (length c.logs))
