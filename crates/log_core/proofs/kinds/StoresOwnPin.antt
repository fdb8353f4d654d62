-- A store of the own pin word keeps what holds of the seat's state.
use Rattle.std.proofs.Common.{◌≡◌, ℕ, false, [], refl, sym, ◌∙◌}
use Rattle.pmem_words.specs.declared.keeps.Task.TheVariants.{Sync}
use Rattle.pmem_words.specs.Seats.{Seat, Giving}
use Rattle.persistence.specs.Memory.{cell, pending_of}
use Rattle.log_core.specs.Views.{Ghost, view_of}
use Rattle.log_core.specs.Origin.{Origin}
use Rattle.log_core.specs.Cores.{Core}
use Rattle.log_core.specs.May.{MayStoreOwnPin}
use Rattle.log_core.specs.Giving.{ScanHolds}
use Rattle.log_core.specs.Records.{mark_of}
use Rattle.log_core.specs.Knows.{Knows}
use Rattle.log_core.proofs.Facts.{without_kept}
use Rattle.log_core.proofs.kinds.Begun.{no_notes}

abbrev pub pinned_at : Seat → ℕ → Seat
pinned_at s value = record s { hold = record (s.hold) { pin = value; valid = false }; walk = record (s.walk) { kept = [] } }

module _ (o : Origin) (c : Core) (n : ℕ) (s : Seat) (g : Ghost) (pin began value : ℕ) (f : Knows o c n s g pin began) (may : MayStoreOwnPin s g.marks value) where
  -- with no valid pin there is none that a scan has missed
  unseen : (giving : Giving) → ScanHolds giving n (pinned_at s value).hold
  unseen giving = record { replaced = λ inside free valid. cc; limbo = λ inside free valid. cc }

  notes_none : s.calling.job ≡ Sync → pending_of n c.memory.pending ≡ []
  notes_none sync = no_notes (mark_of (λ word. cell c.memory word) c.memory.past) (pending_of n c.memory.pending) (sym (may.no_marks sync) ∙ f.marks)

  pub store_facts : Knows o c n (pinned_at s value) g value began
  store_facts = record {
    fits = λ some. (let r = f.fits some in record { number = r.number; seats = r.seats; geometry = r.geometry; first = r.first; found = r.found; named = r.named; map = r.map });
    kept = λ place valid same. cc;
    owns = (let r = f.owns in record { owned = r.owned; left = r.left });
    pin_is = refl;
    pin_holds = (let r = f.pin_holds in record { was = r.was; valid_is = λ valid. cc; valid_some = λ valid. cc; from_first = r.from_first; to_current = r.to_current });
    walk = λ some. without_kept o c s value false s.walk.at_tail (f.walk some);
    noted = f.noted;
    owned = (let r = f.owned in record {
      contents = r.contents;
      areas = r.areas;
      stored = r.stored;
      filled = λ place inside filled. (let q = r.filled place inside filled in record { owned = q.owned; each = q.each });
      fenced = r.fenced;
    });
    giving = f.giving;
    scan_others = f.scan_others;
    scan_self = unseen s.giving;
    scanned = λ k other. unseen (view_of c.views k).seat.giving;
    writes = (let r = f.writes in record { recorded = r.recorded; running = r.running });
    writes_once = f.writes_once;
    put = f.put;
    same_put = f.same_put;
    calls = (let r = f.calls in record { laid = r.laid; bases = r.bases; reading = r.reading; numbers = r.numbers; task = r.task });
    tail = f.tail;
    marks = f.marks;
    syncs = (let r = f.syncs in record { to = r.to; marks = r.marks; valid = λ sync some. absurd (some (notes_none sync)); answered = r.answered });
  }
