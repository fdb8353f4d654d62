-- What holds of a seat's state stays where a call begins.
use Rattle.std.proofs.Common.{◌≡◌, ◌≢◌, ◌<◌, ◌≤◌, ◌+◌, ◌==◌, ◌&&◌, ℕ, Bool, true, false, List, [], ◌∷◌, length, map, refl, sym, ◌∙◌, ap, subst, arith, Option, Some, None}
use Rattle.std.specs.List.{AllByRecursion}
use Rattle.std.proofs.lemmas.List.{length-replicate}
use Rattle.log_entry.specs.ByteFile.{read}
use Rattle.log_entry.specs.declared.calls.Call.{Call}
use Rattle.pmem_words.specs.declared.keeps.Task.{Task}
use Rattle.pmem_words.specs.declared.keeps.Task.TheVariants.{Pread}
use Rattle.pmem_words.specs.Seats.{Seat}
use Rattle.persistence.specs.Memory.{PendingMark, cell, pending_of}
use Rattle.log_core.specs.Views.{Ghost, HeadPut, view_of, op_of}
use Rattle.log_core.specs.Origin.{Origin, q_of_origin, first_generation}
use Rattle.log_core.specs.Files.{file_at, entries}
use Rattle.log_core.specs.Cores.{Core}
use Rattle.log_core.specs.Works.{Begins, state_after_work, laid_bytes, MayBegin}
use Rattle.log_core.specs.Steps.{call_if}
use Rattle.log_core.specs.Giving.{ScanHolds}
use Rattle.log_core.specs.Records.{running_at, writes_at, one_if, mark_of, WritesOnce, CallHolds}
use Rattle.log_core.specs.Synced.{SyncMarkHolds}
use Rattle.log_core.specs.Invariant.{names_by}
use Rattle.log_core.specs.Knows.{with_seat, Knows}
use Rattle.log_core.proofs.Facts.{without_kept}

-- a read that begins has no bytes
begins_bare : (task : Task) (bytes : List ℕ) (offset count : ℕ) → laid_bytes task bytes ≡ [] → task ≡ Pread offset count → bytes ≡ []
begins_bare task bytes offset count none same = subst (λ (t : Task). laid_bytes t bytes ≡ []) same none

laid_none : (file bytes : List ℕ) (offset : ℕ) → bytes ≡ [] → bytes ≡ read file offset (length bytes)
laid_none file bytes offset none = subst (λ (b : List ℕ). b ≡ read file offset (length b)) (sym none) refl

-- a list whose image is empty is empty
pub no_notes : {A B : Type 0} (f : A → B) (list : List A) → [] ≡ map f list → list ≡ []
no_notes f [] e = refl
no_notes f (x ∷ list) e = cc

never_both : (either : Option HeadPut) (put : HeadPut) → either ≡ None → either ≡ Some put → ⊥
never_both either put none some = cc

module _ (o : Origin) (c : Core) (n : ℕ) (s : Seat) (g : Ghost) (pin began now : ℕ) (f : Knows o c n s g pin began) (task : Task) (bytes : List ℕ) (number : ℕ) (b : Bool)
    (may : MayBegin g s task bytes) (higher : b ≡ true → g.call.number < number) (begun : op_of task bytes ≢ None → b ≡ true) where
  abbrev pub new : Seat
  new = state_after_work s (Begins task bytes)

  abbrev pub ghost : Ghost
  ghost = record g { call = call_if b g.call number }

  put_none : (b : Bool) → (call_if b g.call number).put ≡ None
  put_none true = refl
  put_none false = may.no_head

  -- a call that begins has found no other generation
  overtaken_low : (b : Bool) → g.call.overtaken < first_generation o + length c.generations → (call_if b g.call number).overtaken < first_generation o + length c.generations
  overtaken_low true low = omega (arith, low)
  overtaken_low false low = low

  number_at_least : (b : Bool) → (b ≡ true → g.call.number < number) → g.call.number ≤ (call_if b g.call number).number
  number_at_least true high = (let h = high refl in omega (arith, h))
  number_at_least false high = omega arith

  number_above : (b : Bool) → b ≡ true → (b ≡ true → g.call.number < number) → g.call.number < (call_if b g.call number).number
  number_above true e high = high refl
  number_above false e high = cc

  -- each record's number stays below
  raised : (calls : List Call) (low high : ℕ) → low ≤ high → AllByRecursion (λ (call : Call). call.seat ≡ s.number → call.number ≤ low) calls → AllByRecursion (λ (call : Call). call.seat ≡ s.number → call.number ≤ high) calls
  raised [] low high le all = all
  raised (call ∷ calls) low high le all = ((λ same. (let h = all.0 same in omega (arith, h, le))), raised calls low high le all.1)

  passed : (calls : List Call) (low high : ℕ) → low < high → AllByRecursion (λ (call : Call). call.seat ≡ s.number → call.number ≤ low) calls → AllByRecursion (λ (call : Call). call.seat ≡ s.number → call.number < high) calls
  passed [] low high lt all = all
  passed (call ∷ calls) low high lt all = ((λ same. (let h = all.0 same in omega (arith, h, lt))), passed calls low high lt all.1)

  scan_begun : (k : ℕ) (h : Rattle.pmem_words.specs.Seats.Hold) → ScanHolds s.giving k h → ScanHolds new.giving k h
  scan_begun k h r = record { replaced = r.replaced; limbo = r.limbo }

  no_running : (position : ℕ) → running_at position s ≡ 0
  no_running position = ap (λ (w : Bool). one_if (w && (s.walk.position == position))) may.not_won

  once_begun : WritesOnce o c.history (with_seat (view_of c.views n) s g) → WritesOnce o c.history (with_seat (view_of c.views n) new ghost)
  once_begun once some position from to = ap (λ (m : ℕ). writes_at position (view_of c.views n).done + m) (sym (no_running position)) ∙ once some position from to

  calls_begun : CallHolds o c.history (with_seat (view_of c.views n) s g) → CallHolds o c.history (with_seat (view_of c.views n) new ghost)
  calls_begun r = record {
    laid = λ offset count same. laid_none (file_at o c.history s.walk.position) bytes offset (begins_bare task bytes offset count may.none_laid same);
    bases = record { most = omega arith; whole = omega arith; from_first = λ some. absurd (some refl); bytes = λ running place at inside. absurd (omega (arith, inside)) };
    reading = λ reading. (refl, may.none_laid, refl, refl, put_none b, λ running. refl);
    numbers = record {
      most = raised (view_of c.views n).done g.call.number (call_if b g.call number).number (number_at_least b higher) r.numbers.most;
      runs = λ running. passed (view_of c.views n).done g.call.number (call_if b g.call number).number (number_above b (begun running) higher) r.numbers.most;
      some = λ running. (let above = number_above b (begun running) higher in omega (arith, above));
    };
    task = record { won_runs = λ won. cc; put_collects = λ some. absurd (some (put_none b)); synced_syncs = λ some. absurd (some refl) };
  }

  notes_none : pending_of n c.memory.pending ≡ []
  notes_none = no_notes (mark_of (λ word. cell c.memory word) c.memory.past) (pending_of n c.memory.pending) (sym may.no_marks ∙ f.marks)

  pub begun_facts : Knows o c n new ghost pin now
  begun_facts = record {
    fits = λ some. (let r = f.fits some in record { number = r.number; seats = r.seats; geometry = r.geometry; first = r.first; found = length-replicate (length s.blocks.found) 0 ∙ r.found; named = r.named; map = r.map });
    kept = f.kept;
    owns = (let r = f.owns in record { owned = r.owned; left = r.left });
    pin_is = f.pin_is;
    pin_holds = f.pin_holds;
    walk = λ some. without_kept o c s s.hold.pin s.hold.valid false (f.walk some);
    noted = λ some. ((λ noting. cc), (λ noting. cc), (λ noting. cc));
    owned = (let r = f.owned in record {
      contents = r.contents;
      areas = r.areas;
      stored = r.stored;
      filled = λ place inside filled. (let q = r.filled place inside filled in record { owned = q.owned; each = q.each });
      fenced = r.fenced;
    });
    giving = (let r = f.giving in record { replaced_past = r.replaced_past; replaced = r.replaced; limbo = r.limbo; replaced_sure = r.replaced_sure; limbo_sure = r.limbo_sure });
    scan_others = λ k other. scan_begun k (view_of c.views k).seat.hold (f.scan_others k other);
    scan_self = scan_begun n s.hold f.scan_self;
    scanned = f.scanned;
    writes = (let r = f.writes in record { recorded = r.recorded; running = λ won. cc });
    writes_once = once_begun f.writes_once;
    put = record { own = λ put same. absurd (never_both (call_if b g.call number).put put (put_none b) same); found = overtaken_low b f.put.found };
    same_put = put_none b ∙ (sym may.no_head ∙ f.same_put);
    calls = calls_begun f.calls;
    tail = λ at. cc;
    marks = f.marks;
    syncs = record {
      to = λ position same. cc;
      marks = λ same. subst (λ (pending : List PendingMark). AllByRecursion (SyncMarkHolds (q_of_origin o) (names_by o c.logs (entries o c.history) c.generations) (λ word. cell c.memory word) c.memory.past s.hold.generation) pending) (sym notes_none) tt;
      valid = λ same some. absurd (some notes_none);
      answered = f.syncs.answered;
    };
  }
