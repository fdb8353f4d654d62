-- A seat that makes steps alone, over a plain memory with the words of an image.
use Rattle.std.proofs.Common.{None, Some, ◌≡◌, ◌<◌, ◌≤◌, ◌+◌, ◌*◌, ◌/◌, ◌^◌, ℕ, zero, suc, Bool, true, false, List, [], ◌∷◌, length, replicate, refl, sym, ap, ◌∙◌, subst, arith, slice_index, inr}
use Rattle.std.proofs.Math.Logic.{∥∥₁_elim, ∥∥₁_map}
use Rattle.std.proofs.Math.Bridge.{le_prop}
use Rattle.std.specs.List.{AllByRecursion}
use Rattle.std.proofs.lemmas.List.{length-replicate}
use Rattle.log_entry.specs.declared.shapes.Geometry.{Geometry}
use Rattle.log_entry.specs.declared.calls.Call.{Call}
use Rattle.log_image.specs.KeepsStart.{KeepsStart}
use Rattle.asks.specs.SharedWords.{SharedWords, HasWord, CanLoad}
use Rattle.asks.specs.declared.ask.Place.{Place}
use Rattle.asks.specs.declared.ask.Place.TheVariants.{Image, Pin, Map, FenceOf}
use Rattle.asks.specs.declared.ask.Ask.{Ask}
use Rattle.asks.specs.declared.ask.Ask.TheVariants.{Load, Store, Exchange, SetBits, ClearBits, Mark, Fence}
use Rattle.pmem_words.specs.declared.TheConstants.{SEATS}
use Rattle.pmem_words.specs.Seats.{Seat, new_seat}
use Rattle.pmem_words.specs.Scripts.{Script}
use Rattle.pmem_words.specs.Courses.{IsReady, over}
use Rattle.pmem_words.specs.Drives.{IsSafe, Ends}
use Rattle.pmem_words.specs.Leads.{Leads}
use Rattle.pmem_words.specs.PlainWords.{plain, plain_takes}
use Rattle.pmem_words.proofs.LeadsLemmas.{safe_by, ends_by}
use Rattle.log_core.specs.Views.{View, Ghost, view_of, no_ghost, op_in}
use Rattle.log_core.specs.Origin.{Origin}
use Rattle.log_core.specs.Cores.{Core, first_core}
use Rattle.log_core.specs.Works.{Work, MayWorkAll, state_after_all_work}
use Rattle.log_core.specs.Steps.{is_begun, ghost_begun}
use Rattle.log_core.specs.Runs.{MayNumber}
use Rattle.log_core.specs.Starts.{origin_of}
use Rattle.log_core.specs.Within.{no_record, IsLeft}
use Rattle.log_core.specs.Promising.{StartCondition, EndCondition, Promises}
use Rattle.log_core.specs.Alone.{IsAlone, ghost_alone}
use Rattle.log_core.proofs.machines.OnCore.{EndsOnCore, EndsOver, leads_alone, alone_plain}
use Rattle.log_core.proofs.starts.StartMeets.{start_meets}
use Rattle.log_core.proofs.starts.StartKept.{kept_start, same_position}
use Rattle.crash_model.proofs.Resting.{number_next, next_may}
use Rattle.log_entry.specs.declared.words.Head.{Head}
use Rattle.log_core.specs.Views.{RunningCall}
use Rattle.log_core.specs.Steps.{call_if}
use Rattle.log_core.specs.Works.{IsFree, Begins}
use Rattle.pmem_words.specs.declared.keeps.Task.TheVariants.{Pwrite}
use Rattle.pmem_words.specs.Seats.{no_blocks, no_calling, bitmap_words}
use Rattle.log_entry.specs.declared.calls.Op.{Op}
use Rattle.log_entry.specs.declared.calls.Op.TheVariants.{Pwrite as PwriteOp}
use Rattle.log_core.specs.Works.{is_quiet}
use Rattle.log_entry.specs.Shape.{longest_of, limit_of}
use Rattle.log_entry.specs.Legal.{touched_blocks}
use Rattle.std.proofs.lemmas.Bool.{le-ltb}
use Rattle.write_any.specs.WriteWithin.{AreBytes, MayWrite}
use Rattle.pins.specs.declared.pin.Pin.TheVariants.{Begin}
use Rattle.pins.specs.Pinning.{pin_script}
use Rattle.pins.specs.Within.{HasPinned}
use Rattle.pins.proofs.PinWithin.{pins_within}
use Rattle.log_blocks.specs.WalkWithin.{MayWalk}
use Rattle.world_tests.specs.OneSeat.{MayPinAndWalk, writing, FillsBlocks}

-- what a plain memory takes is said once
takes_one : (p : SharedWords) (ask : Ask) → IsProp (plain_takes p ask)
takes_one p (Load (Image word)) = le_prop
takes_one p (Load (Pin seat)) = le_prop
takes_one p (Load (Map word)) = le_prop
takes_one p (Load (FenceOf seat)) = λ x y. refl
takes_one p (Store (Image word) value) = le_prop
takes_one p (Store (Pin seat) value) = le_prop
takes_one p (Store (Map word) value) = le_prop
takes_one p (Store (FenceOf seat) value) = λ x y. absurd x
takes_one p (Exchange (Image word) before next) = le_prop
takes_one p (Exchange (Pin seat) before next) = le_prop
takes_one p (Exchange (Map word) before next) = le_prop
takes_one p (Exchange (FenceOf seat) before next) = λ x y. absurd x
takes_one p (SetBits (Image word) bits) = le_prop
takes_one p (SetBits (Pin seat) bits) = le_prop
takes_one p (SetBits (Map word) bits) = le_prop
takes_one p (SetBits (FenceOf seat) bits) = λ x y. absurd x
takes_one p (ClearBits (Image word) bits) = le_prop
takes_one p (ClearBits (Pin seat) bits) = le_prop
takes_one p (ClearBits (Map word) bits) = le_prop
takes_one p (ClearBits (FenceOf seat) bits) = λ x y. absurd x
takes_one p (Mark word) = le_prop
takes_one p Fence = λ x y. refl

module _ {M Out : Type 0} (script : Script M Out) (P : StartCondition) (R : EndCondition Out) (m : M) (promises : Promises script P R m) (s : Seat) (p : SharedWords) where
  -- what the machine has left, in a core that the memory has the words of
  abbrev pub LeftBy : IsAlone P s p → Out → Seat → SharedWords → Type 0
  LeftBy at out t q = EndsOver (λ o u d. EndsOnCore at.origin at.seat (IsLeft at.rest no_record (R at.origin at.seat s (ghost_alone P s p at))) o u d) out t q

  pub leads_plainly : (at : IsAlone P s p) → Leads script (over script plain) (λ out t q. LeftBy at out t q) m s p
  leads_plainly at =
      alone_plain at.origin (start_meets at.origin at.start) at.seat at.number script no_record
      (λ o u d. EndsOnCore at.origin at.seat (IsLeft at.rest no_record (R at.origin at.seat s (ghost_alone P s p at))) o u d) m s at.core p
      (leads_alone at.origin (start_meets at.origin at.start) at.seat at.number script no_record (IsLeft at.rest no_record (R at.origin at.seat s (ghost_alone P s p at))) m s (view_of at.core.views at.seat) at.core
      (promises at.origin at.start at.seat at.number at.rest s (view_of at.core.views at.seat) at.linked) at.reached at.made refl) at.agrees

  ready_one : ((n : M) (t : Seat) (a : ℕ) → IsProp (script.admits n t a)) → (n : M) (t : Seat) (q : SharedWords) → IsProp (IsReady script plain n t q)
  ready_one one n t q = λ x y. λ i. record { taken = takes_one q (script.asks n t) x.taken y.taken i; admitted = λ a v st. one n t a (x.admitted a v st) (y.admitted a v st) i }

  -- it may be driven, in whichever core that is
  pub safe_alone : ((n : M) (t : Seat) (a : ℕ) → IsProp (script.admits n t a)) → ∥ IsAlone P s p ∥₁ → IsSafe script (over script plain) m s p
  safe_alone one alone answers n t q goes =
      ∥∥₁_elim alone (ready_one one n t q) (λ at. safe_by script (over script plain) (λ out u v. LeftBy at out u v) m s p (leads_plainly at) answers n t q goes)

  -- and another may be driven after it
  module _ (P' : StartCondition) (out : Out) (t : Seat) (q : SharedWords) (may : (o : Origin) (seat : ℕ) (g h : Ghost) (v : View) (number : ℕ) → P o seat s g → R o seat s g out t h → h ≡ v.ghost → P' o seat t (ghost_begun h v.seat t number)) where
    left_alone : (at : IsAlone P s p) → LeftBy at out t q → IsAlone P' t q
    left_alone at left = (let v = view_of left.core.views at.seat in record {
      origin = at.origin;
      start = at.start;
      core = left.core;
      reached = left.ends.reached;
      agrees = left.agrees;
      seat = at.seat;
      made = left.ends.made;
      number = number_next v t;
      rest = v.done;
      linked = record {
        unspent = left.ends.ends.unspent;
        begins = left.ends.ends.seat.computed;
        number_is = next_may v t;
        done = refl;
        fits = may at.origin at.seat (ghost_alone P s p at) v.ghost v (number_next v t) at.linked.fits left.ends.ends.fits refl;
      };
    })

    pub next_alone : ∥ IsAlone P s p ∥₁ → Ends script (over script plain) m s p out t q → ∥ IsAlone P' t q ∥₁
    next_alone alone ends = ∥∥₁_map alone (λ at. left_alone at (ends_by script (over script plain) (λ o u v. LeftBy at o u v) m s p out t q (leads_plainly at) ends))

-- the words of an image, to which nothing has been done
abbrev pub untouched : List ℕ → List ℕ → SharedWords
untouched words taken = record { words = words; taken = taken; pins = replicate SEATS 0 }

-- the one seat of an image, that has only computed
module _ (geometry : Geometry) (words taken : List ℕ) (generation position size : ℕ) (small : (place : ℕ) → slice_index words place < 2 ^ 64) where
  each_small : (words : List ℕ) → ((place : ℕ) → slice_index words place < 2 ^ 64) → AllByRecursion (λ (word : ℕ). word < 2 ^ 64) words
  each_small [] low = tt
  each_small (word ∷ words) low = (low 0, each_small words (λ place. subst (λ (k : ℕ). slice_index (word ∷ words) k < 2 ^ 64) (let e : place + 1 ≡ suc place = omega arith in e) (low (place + 1))))

  abbrev pub begun : Seat
  begun = new_seat geometry 0 1 position

  pub new_alone : (P : StartCondition) (number : ℕ) (works : List Work) (s : Seat) → s ≡ state_after_all_work begun works → MayWorkAll no_ghost begun works → MayNumber (is_begun (op_in begun) (op_in s)) 0 number →
      ((o : Origin) → P o 0 s (ghost_begun no_ghost begun s number)) → KeepsStart geometry words taken generation position size → IsAlone P s (untouched words taken)
  new_alone P number works s gives may number_is fits k =
      (let o = origin_of geometry 1 1 words taken k.chain k.file in
      let same = same_position geometry words taken generation position size 1 1 k in
      record {
        origin = o;
        start = kept_start geometry words taken generation position size 1 1 k (each_small words small) (record { some = omega arith; few = omega arith; made = inr refl });
        core = first_core o;
        reached = record { steps = []; is_run = tt; ends = refl };
        agrees = record { words = refl; taken = refl; long = omega arith; pins = λ seat inside. pins seat inside };
        seat = 0;
        made = omega arith;
        number = number;
        rest = [];
        linked = subst (λ (at : ℕ). Rattle.log_core.specs.Within.IsLinkedToView number [] (P o 0) s (Rattle.log_core.specs.Views.new_view geometry 1 at 1 0)) (sym same)
            (record { unspent = λ none. cc; begins = record { works = works; may = may; gives = gives }; number_is = number_is; done = refl; fits = fits o });
      })
    where
      pins : (seat : ℕ) → seat < 1 → slice_index (replicate SEATS 0) seat ≡ slice_index (replicate 1 0) seat
      pins zero inside = refl
      pins (suc seat) inside = absurd (omega (arith, inside))

-- a seat that may pin and walk may pin
pub pins_so : Promises pin_script MayPinAndWalk HasPinned Begin
pins_so o start seat number rest s v linked = pins_within o start seat number rest s v
    (record { unspent = linked.unspent; begins = linked.begins; number_is = linked.number_is; done = linked.done; fits = record { number = linked.fits.number; no_marks = λ sync. linked.fits.no_marks } })

-- and walk then
pub none_put : (b : Bool) (call : RunningCall) (number : ℕ) → call.put ≡ None → (call_if b call number).put ≡ None
none_put true call number none = refl
none_put false call number none = none

pub may_walk : (o : Origin) (seat : ℕ) (s : Seat) (g : Ghost) (out : Head) (t : Seat) (h : Ghost) (v : View) (number : ℕ) → MayPinAndWalk o seat s g → HasPinned o seat s g out t h → MayWalk o seat t (ghost_begun h v.seat t number)
may_walk o seat s g out t h v number may left = record {
  valid = ap (λ (x : Seat). x.hold.valid) left.left;
  pinned = λ unready. sym (ap (λ (x : Seat). x.hold.generation) left.left);
  takes_in = record {
    free = record {
      not_won = calling.not_won;
      none_laid = calling.none_laid;
      no_sync = calling.no_sync;
      no_head = none_put (is_begun (op_in v.seat) (op_in t)) h.call number (ap (λ (x : Ghost). x.call.put) left.ghost ∙ may.free.no_head);
    };
    few = (let none : length t.calling.bases ≡ 0 = ap (λ (x : Seat). length x.calling.bases) left.left ∙ ap length may.no_bases in omega (arith, none));
    no_bases = λ unready. ap (λ (x : Seat). x.calling.bases) left.left ∙ may.no_bases;
  };
  none_kept = ap (λ (x : Seat). x.walk.kept) left.left;
}
  where
    calling : IsFree g t.calling
    calling = subst (λ (x : Seat). IsFree g x.calling) (sym left.left) may.free

-- a write of whole blocks makes steps
pub makes_steps : (block_bytes offset : ℕ) (bytes : List ℕ) → FillsBlocks block_bytes offset (length bytes) → is_quiet block_bytes (PwriteOp offset bytes) ≡ false
makes_steps block_bytes offset [] fills = absurd (let some = fills.some in let whole = fills.whole in none block_bytes whole some)
  where
    none : (b : ℕ) → 0 ≡ 0 / b * b → 0 < 0 / b → ⊥
    none zero whole some = omega (arith, some)
    none (suc b) whole some = omega (arith, some)
makes_steps block_bytes offset (byte ∷ bytes) fills =
    rw (le-ltb (longest_of block_bytes) (touched_blocks block_bytes offset (length (byte ∷ bytes))) fills.touched, le-ltb (limit_of block_bytes) (offset + length (byte ∷ bytes)) fills.low) refl

-- the one seat of an image, which is idle, or is to write
module _ (geometry : Geometry) (words taken : List ℕ) (generation position size : ℕ) (small : (place : ℕ) → slice_index words place < 2 ^ 64) (kept : ∥ KeepsStart geometry words taken generation position size ∥₁) where
  pub new_idle : ∥ IsAlone MayPinAndWalk (new_seat geometry 0 1 position) (untouched words taken) ∥₁
  new_idle = ∥∥₁_map kept (λ k. new_alone geometry words taken generation position size small MayPinAndWalk 0 [] (new_seat geometry 0 1 position) refl tt refl
      (λ o. record { number = refl; no_marks = refl; free = record { not_won = refl; none_laid = refl; no_sync = refl; no_head = refl }; no_bases = refl }) k)

  module _ (offset : ℕ) (bytes : List ℕ) (bytes_are : AreBytes bytes) (fills : FillsBlocks geometry.block_bytes offset (length bytes)) where
    abbrev s : Seat
    s = writing offset bytes (new_seat geometry 0 1 position)

    new_writing : ∥ IsAlone (MayWrite offset) s (untouched words taken) ∥₁
    new_writing = ∥∥₁_map kept (λ k. new_alone geometry words taken generation position size small (MayWrite offset) 1 (Begins (Pwrite offset) bytes ∷ []) s refl
        (record { none_runs = refl; not_won = refl; no_head = refl; no_marks = refl; none_laid = refl; steps = λ op some. steps op some }, tt) (omega arith)
        (λ o. record {
          number = refl;
          job = refl;
          bytes = bytes_are;
          whole = record { some = fills.some; few = fills.few; starts = fills.starts; inside = fills.inside; bytes = fills.whole };
          none_owned = refl;
          no_contents = refl;
          no_bases = refl;
          free = record { not_won = refl; none_laid = refl; no_sync = refl; no_head = refl };
          no_marks = refl;
        }) k)
      where
        steps : (op : Op) → Some (PwriteOp offset bytes) ≡ Some op → is_quiet geometry.block_bytes op ≡ false
        steps op some = (let same : PwriteOp offset bytes ≡ op = cc in subst (λ (x : Op). is_quiet geometry.block_bytes x ≡ false) same (makes_steps geometry.block_bytes offset bytes fills))

    -- that the blocks found taken are forgotten changes nothing of it
    same_found : record (new_seat geometry 0 1 position) { calling = record (no_calling) { job = Pwrite offset; bytes = bytes } } ≡ s
    same_found = ap (λ (n : ℕ). record s { blocks = record (no_blocks 0) { found = replicate n 0; named = replicate (bitmap_words geometry) 0 } }) (sym (length-replicate (bitmap_words geometry) 0))

    pub may_write : (t : Seat) → t ≡ record (new_seat geometry 0 1 position) { calling = record (no_calling) { job = Pwrite offset; bytes = bytes } } → ∥ IsAlone (MayWrite offset) t (untouched words taken) ∥₁
    may_write t is = subst (λ (x : Seat). ∥ IsAlone (MayWrite offset) x (untouched words taken) ∥₁) (sym (is ∙ same_found)) new_writing
