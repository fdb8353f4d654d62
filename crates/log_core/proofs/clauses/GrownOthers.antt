-- Where a step puts a word more into the last log block: what is known of a seat's owned blocks, of its blocks to give back, of its marks
-- and of syncs.
use Rattle.std.proofs.Common.{◌≡◌, ◌≢◌, ◌<◌, ◌≤◌, ◌+◌, ◌-◌, ◌/◌, ◌++◌, ◌||◌, ℕ, Bool, true, List, [], ◌∷◌, length, sym, ◌∙◌, ap, subst, arith}
use Rattle.std.specs.List.{AllByRecursion}
use Rattle.log_entry.specs.Fields.{field}
use Rattle.log_entry.specs.declared.layouts.TheConstants.{HEAD_GENERATION}
use Rattle.log_image.specs.Chains.{is_listed}
use Rattle.pmem_words.specs.Seats.{Seat, Hold, Giving}
use Rattle.persistence.specs.Memory.{PendingMark, Cell, cell, pending_of}
use Rattle.log_core.specs.Entries.{head_place}
use Rattle.log_core.specs.Views.{View, Ghost, view_of}
use Rattle.log_core.specs.Origin.{Origin, shape, q_of_origin, first_generation, OwnedBy, LeftTo}
use Rattle.log_core.specs.Files.{entries}
use Rattle.log_core.specs.Cores.{Core, current, head_floor}
use Rattle.log_core.specs.Works.{seat_shape, words_of}
use Rattle.log_core.specs.Needs.{owned_numbers}
use Rattle.log_core.specs.Owned.{OwnedHold}
use Rattle.log_core.specs.Owners.{IsListOf}
use Rattle.log_core.specs.Giving.{GivingHolds, AreInNoLater}
use Rattle.log_core.specs.Pins.{PinHolds}
use Rattle.log_core.specs.Records.{MarksFit}
use Rattle.log_core.specs.Synced.{SyncHolds, SyncMarkHolds}
use Rattle.log_core.specs.Invariant.{Invariant, KeptIn, names_by}
use Rattle.log_core.proofs.Heads.{current_is}
use Rattle.log_core.proofs.clauses.Apart.{has_left, has_right}
use Rattle.log_core.proofs.clauses.Others.{notes_early}
use Rattle.log_core.proofs.clauses.Exchanged.{grown_values}
use Rattle.log_core.proofs.clauses.OwnedSame.{KeepsOwned, pending_same, owned_kept, owned_view_kept, value_same, marks_kept}
use Rattle.log_core.proofs.clauses.Growth.{Growth, Grows, joined}
use Rattle.log_core.proofs.clauses.GrownWords.{head_same, floor_same, owned_same, some_same}
use Rattle.log_core.proofs.clauses.GrownNames.{named_is, named_more, not_joined}

module _ (o : Origin) (c : Core) (x : Growth) (inv : Invariant o c) (grows : Grows o c x) where
  -- no word of a seat's block changes
  keeps : KeepsOwned o c x.memory
  keeps = record {
    pending = grows.memory.pending;
    times = grows.memory.times;
    values = grown_values o (length c.views) c.memory x.memory _ x.value grows.memory;
    owned = owned_same o c x inv grows;
  }

  -- the owned blocks of a state of a seat
  pub owned_grown : (k : ℕ) (g : Ghost) (s : Seat) → words_of s ≡ q_of_origin o → seat_shape s ≡ shape o → ((block : ℕ) → is_listed (owned_numbers s.blocks.owned) block ≡ true → c.owner block ≡ OwnedBy k) →
      OwnedHold (λ word. cell c.memory word) c.memory.past c.memory.pending k g s → OwnedHold (λ word. cell x.memory word) x.memory.past x.memory.pending k g s
  owned_grown = owned_kept o c x.memory inv keeps

  -- of another view
  pub owned_view : (k : ℕ) → OwnedHold (λ word. cell x.memory word) x.memory.past x.memory.pending k (view_of c.views k).ghost (view_of c.views k).seat
  owned_view = owned_view_kept o c x.memory inv keeps

  -- the generations up to the present one
  place_inside : (generation : ℕ) → generation ≤ current o c.generations → generation - first_generation o < length c.generations
  place_inside generation low = (let is = current_is o c inv in let count = inv.order.heads.count in omega (arith, low, is, count))

  no_later : (generation : ℕ) (blocks : List ℕ) → ((block : ℕ) → is_listed blocks block ≡ true → c.owner block ≢ OwnedBy x.n) →
      AreInNoLater (names_by o c.logs (entries o c.history) c.generations) (current o c.generations) generation blocks →
      AreInNoLater (names_by o x.logs (entries o x.history) c.generations) (current o c.generations) generation blocks
  no_later generation blocks other r block later listed above low = named_is o c x inv grows (later - first_generation o) block (place_inside later low)
      ∙ (ap (λ (b : Bool). b || is_listed (joined x) block) (r block later listed above low) ∙ not_joined o c x inv grows block (other block listed))

  -- the blocks to give back
  pub giving_grown : (k : ℕ) (giving : Giving) → IsListOf c.owner (giving.replaced ++ giving.limbo) (LeftTo k) →
      GivingHolds (names_by o c.logs (entries o c.history) c.generations) (current o c.generations) (first_generation o + head_floor c.memory) giving →
      GivingHolds (names_by o x.logs (entries o x.history) c.generations) (current o c.generations) (first_generation o + head_floor x.memory) giving
  giving_grown k giving left r = record {
    replaced_past = r.replaced_past;
    replaced = no_later giving.replaced_generation giving.replaced (λ block listed. no_own block (has_left giving.replaced giving.limbo block listed)) r.replaced;
    limbo = no_later giving.limbo_generation giving.limbo (λ block listed. no_own block (has_right giving.replaced giving.limbo block listed)) r.limbo;
    replaced_sure = λ fenced. (let sure = r.replaced_sure fenced in let same = floor_same o c x inv grows in omega (arith, sure, same));
    limbo_sure = (let sure = r.limbo_sure in let same = floor_same o c x inv grows in omega (arith, sure, same));
  }
    where
      no_own : (block : ℕ) → is_listed (giving.replaced ++ giving.limbo) block ≡ true → c.owner block ≢ OwnedBy x.n
      no_own block listed mine = (let both : LeftTo k ≡ OwnedBy x.n = sym (left.listed block listed) ∙ mine in cc)

  -- what is known of the head
  pub pin_grown : (h : Hold) → PinHolds (first_generation o) (current o c.generations) (cell c.memory head_place) h → PinHolds (first_generation o) (current o c.generations) (cell x.memory head_place) h
  pin_grown h r = subst (λ (a : Cell). PinHolds (first_generation o) (current o c.generations) a h) (sym (head_same o c x inv grows)) r

  -- the marks of a seat
  pub marks_grown : (k : ℕ) (v : View) → MarksFit (λ word. cell c.memory word) c.memory.past c.memory.pending k v → MarksFit (λ word. cell x.memory word) x.memory.past x.memory.pending k v
  marks_grown = marks_kept o c x.memory inv keeps

  -- a mark of a running sync, where its generation is kept
  sync_mark_grown : (generation : ℕ) → KeptIn o c (generation - first_generation o) → (note : PendingMark) → note.time ≤ length c.memory.past →
      SyncMarkHolds (q_of_origin o) (names_by o c.logs (entries o c.history) c.generations) (λ word. cell c.memory word) c.memory.past generation note →
      SyncMarkHolds (q_of_origin o) (names_by o x.logs (entries o x.history) c.generations) (λ word. cell x.memory word) x.memory.past generation note
  sync_mark_grown generation kept note early r = record {
    head = λ is. subst (λ (value : ℕ). generation ≤ field HEAD_GENERATION value) (sym (value_same o c x.memory inv keeps note head_place early)) (r.head is);
    named = λ another. named_more o c x inv grows (generation - first_generation o) (note.word / q_of_origin o) kept.inside (r.named another);
    other = λ another. (let both = r.other another in let same = some_same o c x inv grows note.word both.1 in (
      grows.memory.times note.time note.word early ∙ (both.0 ∙ sym (ap (λ (a : Cell). length a.past) same)),
      λ none. both.1 (sym (ap (λ (a : Cell). a.present) same) ∙ none),
    ));
  }

  sync_marks_grown : (h : Hold) → (h.valid ≡ true → KeptIn o c (h.generation - first_generation o)) → (pending : List PendingMark) → (pending ≢ [] → h.valid ≡ true) →
      AllByRecursion (λ (note : PendingMark). note.time ≤ length c.memory.past) pending →
      AllByRecursion (SyncMarkHolds (q_of_origin o) (names_by o c.logs (entries o c.history) c.generations) (λ word. cell c.memory word) c.memory.past h.generation) pending →
      AllByRecursion (SyncMarkHolds (q_of_origin o) (names_by o x.logs (entries o x.history) c.generations) (λ word. cell x.memory word) x.memory.past h.generation) pending
  sync_marks_grown h kept [] valid early all = tt
  sync_marks_grown h kept (note ∷ pending) valid early all = (let pinned = valid (λ none. cc) in (
    sync_mark_grown h.generation (kept pinned) note early.0 all.0,
    sync_marks_grown h kept pending (λ some. pinned) early.1 all.1,
  ))

  -- what a view knows of syncs
  pub sync_grown : (k : ℕ) (v : View) → (v.seat.hold.valid ≡ true → KeptIn o c (v.seat.hold.generation - first_generation o)) →
      SyncHolds (q_of_origin o) (names_by o c.logs (entries o c.history) c.generations) (λ word. cell c.memory word) c.memory.past c.memory.pending c.synced k v →
      SyncHolds (q_of_origin o) (names_by o x.logs (entries o x.history) c.generations) (λ word. cell x.memory word) x.memory.past x.memory.pending c.synced k v
  sync_grown k v kept r = record {
    to = r.to;
    marks = λ sync. subst (λ (pending : List PendingMark). AllByRecursion
        (SyncMarkHolds (q_of_origin o) (names_by o x.logs (entries o x.history) c.generations) (λ word. cell x.memory word) x.memory.past v.seat.hold.generation) pending) (sym (pending_same o c x.memory inv keeps k))
        (sync_marks_grown v.seat.hold kept (pending_of k c.memory.pending) (r.valid sync) (notes_early o c k inv) (r.marks sync));
    valid = λ sync some. r.valid sync (λ none. some (pending_same o c x.memory inv keeps k ∙ none));
    answered = r.answered;
  }
