-- A seat that is to write takes a pin and walks before: it may write still.
use Rattle.log_core.specs.Works.{laid_bytes}
use Rattle.std.proofs.Common.{◌≡◌, ◌<◌, ◌≤◌, slice_index, ℕ, List, [], ◌∷◌, length, None, refl, sym, ap, ◌∙◌, subst, arith}
use Rattle.log_entry.specs.declared.words.Head.{Head}
use Rattle.pmem_words.specs.Seats.{Seat}
use Rattle.log_core.specs.Views.{View, Ghost, op_in}
use Rattle.log_core.specs.Origin.{Origin}
use Rattle.log_core.specs.Steps.{is_begun, ghost_begun}
use Rattle.log_core.specs.Promising.{Promises}
use Rattle.pins.specs.declared.pin.Pin.TheVariants.{Begin as BeginPin}
use Rattle.pins.specs.Pinning.{pin_script}
use Rattle.pins.specs.Within.{HasPinned}
use Rattle.pins.proofs.PinWithin.{pins_within}
use Rattle.log_blocks.specs.declared.walk.Tail.{Tail}
use Rattle.log_blocks.specs.declared.walk.Walk.TheVariants.{Begin as BeginWalk}
use Rattle.log_blocks.specs.Walking.{walk_script}
use Rattle.log_blocks.specs.WalkWithin.{MayWalk, HasWalkedOn}
use Rattle.log_blocks.proofs.WalkServes.{walks_within}
use Rattle.write_any.specs.Composing.{IsWhole}
use Rattle.write_any.specs.WriteWithin.{MayWrite}
use Rattle.world_tests.specs.OneSeat.{MayPinAndWalk, MayWalkAndWrite}
use Rattle.asks.specs.SharedWords.{SharedWords}
use Rattle.pmem_words.specs.Courses.{over}
use Rattle.pmem_words.specs.Drives.{Ends}
use Rattle.pmem_words.specs.PlainWords.{plain}
use Rattle.log_core.specs.Alone.{IsAlone}
use Rattle.world_tests.proofs.OneSeat.{none_put, may_walk, next_alone}

-- the seat but for its pin, its walk, and what a walk may note
abbrev IsWalkedOn : Seat → Seat → Type 0
IsWalkedOn s t = t ≡ record s {
  hold = t.hold;
  walk = t.walk;
  calling = record s.calling { bases = t.calling.bases; base_words = t.calling.base_words; noting = t.calling.noting };
  blocks = record s.blocks { named = t.blocks.named };
}

module _ (offset : ℕ) (o : Origin) (seat : ℕ) (s t : Seat) (g h : Ghost) (may : MayWrite offset o seat s g) where
  writes_still : IsWalkedOn s t → t.calling.bases ≡ [] → h.marks ≡ [] → h.call.put ≡ None → MayWrite offset o seat t h
  writes_still is no_bases no_marks no_head = record {
    number = ap (λ (x : Seat). x.number) is ∙ may.number;
    job = ap (λ (x : Seat). x.calling.job) is ∙ may.job;
    bytes = λ k. subst (λ (x : Seat). slice_index x.calling.bytes k < 256) (sym is) (may.bytes k);
    whole = subst (λ (x : Seat). IsWhole offset x) (sym is) (let whole = may.whole in record { some = whole.some; few = whole.few; starts = whole.starts; inside = whole.inside; bytes = whole.bytes });
    none_owned = ap (λ (x : Seat). x.blocks.owned) is ∙ may.none_owned;
    no_contents = ap (λ (x : Seat). x.blocks.contents) is ∙ may.no_contents;
    no_bases = no_bases;
    free = record {
      not_won = ap (λ (x : Seat). x.calling.won) is ∙ may.free.not_won;
      none_laid = ap (λ (x : Seat). laid_bytes x.calling.job x.calling.bytes) is ∙ may.free.none_laid;
      no_sync = ap (λ (x : Seat). x.calling.sync_to) is ∙ may.free.no_sync;
      no_head = no_head;
    };
    no_marks = no_marks;
  }

-- it may pin
may_pin : (offset : ℕ) (o : Origin) (seat : ℕ) (s : Seat) (g : Ghost) → MayWrite offset o seat s g → MayPinAndWalk o seat s g
may_pin offset o seat s g may = record { number = may.number; no_marks = may.no_marks; free = may.free; no_bases = may.no_bases }

pub pins_to_write : (offset : ℕ) → Promises pin_script (MayWrite offset) HasPinned BeginPin
pins_to_write offset o start seat number rest s v linked = pins_within o start seat number rest s v
    (record { unspent = linked.unspent; begins = linked.begins; number_is = linked.number_is; done = linked.done; fits = record { number = linked.fits.number; no_marks = λ sync. linked.fits.no_marks } })

-- walk then
module _ (offset : ℕ) (o : Origin) (seat : ℕ) (s : Seat) (g : Ghost) (t : Seat) (h : Ghost) (v : View) (number : ℕ) where
  pub pinned_to_write : (out : Head) → MayWrite offset o seat s g → HasPinned o seat s g out t h → MayWalkAndWrite offset o seat t (ghost_begun h v.seat t number)
  pinned_to_write out may left = record {
    write = writes_still offset o seat s t g (ghost_begun h v.seat t number) may
        (subst (λ (x : Seat). IsWalkedOn s x) (sym left.left) refl)
        (ap (λ (x : Seat). x.calling.bases) left.left ∙ may.no_bases)
        (ap (λ (x : Ghost). x.marks) left.ghost ∙ may.no_marks)
        (none_put (is_begun (op_in v.seat) (op_in t)) h.call number (ap (λ (x : Ghost). x.call.put) left.ghost ∙ may.free.no_head));
    walk = may_walk o seat s g out t h v number (may_pin offset o seat s g may) left;
  }

  none_left : (bases : List ℕ) → length bases ≤ 0 → bases ≡ []
  none_left [] few = refl
  none_left (base ∷ bases) few = absurd (omega (arith, few))

  -- and write
  pub walked_to_write : (out : Tail) → MayWalkAndWrite offset o seat s g → HasWalkedOn s g out t h → MayWrite offset o seat t (ghost_begun h v.seat t number)
  walked_to_write out may left = writes_still offset o seat s t g (ghost_begun h v.seat t number) may.write
      (subst (λ (x : Seat). IsWalkedOn s x) (sym left.left) refl)
      (none_left t.calling.bases (let none : length s.calling.bases ≡ 0 = ap length may.write.no_bases in let few = left.few in omega (arith, none, few)))
      (ap (λ (x : Ghost). x.marks) left.ghost ∙ may.write.no_marks)
      (none_put (is_begun (op_in v.seat) (op_in t)) h.call number (ap (λ (x : Ghost). x.call.put) left.ghost ∙ may.write.free.no_head))

pub walks_to_write : (offset : ℕ) → Promises walk_script (MayWalkAndWrite offset) (λ o seat s g out t h. HasWalkedOn s g out t h) BeginWalk
walks_to_write offset o start seat number rest s v linked = walks_within o start seat number rest s v
    (record { unspent = linked.unspent; begins = linked.begins; number_is = linked.number_is; done = linked.done; fits = linked.fits.walk })

-- over a plain memory
module _ (offset : ℕ) (s : Seat) (p : SharedWords) where
  pub pinned_alone : (head : Head) (t : Seat) (q : SharedWords) → ∥ IsAlone (MayWrite offset) s p ∥₁ → Ends pin_script (over pin_script plain) BeginPin s p head t q → ∥ IsAlone (MayWalkAndWrite offset) t q ∥₁
  pinned_alone head t q alone ends = next_alone pin_script (MayWrite offset) HasPinned BeginPin (pins_to_write offset) s p (MayWalkAndWrite offset) head t q
      (λ o seat g h v number may left same. pinned_to_write offset o seat s g t h v number head may left) alone ends

  pub walked_alone : (tail : Tail) (t : Seat) (q : SharedWords) → ∥ IsAlone (MayWalkAndWrite offset) s p ∥₁ → Ends walk_script (over walk_script plain) BeginWalk s p tail t q → ∥ IsAlone (MayWrite offset) t q ∥₁
  walked_alone tail t q alone ends = next_alone walk_script (MayWalkAndWrite offset) (λ o seat s g out t h. HasWalkedOn s g out t h) BeginWalk (walks_to_write offset) s p (MayWrite offset) tail t q
      (λ o seat g h v number may left same. walked_to_write offset o seat s g t h v number tail may left) alone ends
