-- The bits of blocks are set for another end than what the chain names: what a core knows of the seat stays.
use Rattle.std.proofs.Common.{◌≡◌, ℕ, List, length, false}
use Rattle.pmem_words.specs.Seats.{Seat}
use Rattle.log_core.specs.Views.{Ghost}
use Rattle.log_core.specs.Origin.{Origin}
use Rattle.log_core.specs.Cores.{Core}
use Rattle.log_core.specs.Works.{NotesNamed, state_after_work}
use Rattle.log_core.specs.Knows.{Knows}
use Rattle.log_core.proofs.Facts.{noted_facts}

pub named_facts : (o : Origin) (c : Core) (n : ℕ) (s : Seat) (g : Ghost) (pin began : ℕ) (words : List ℕ) → Knows o c n s g pin began → length words ≡ length s.blocks.named → Knows o c n (state_after_work s (NotesNamed words)) g pin began
named_facts o c n s g pin began words f same = noted_facts o c n s g pin began f s.walk (record (s.calling) { noting = false }) words same s.giving.pins_seen s.giving.limbo_held (record {
  map = λ some. (f.fits some).map;
  walk = f.walk;
  noted = λ some. ((λ on. cc), (λ on. cc), (λ on. cc));
  scan_others = f.scan_others;
  scan_self = f.scan_self;
  writes = (let r = f.writes in record { recorded = r.recorded; running = r.running });
  writes_once = f.writes_once;
  put = f.put;
  calls = (let r = f.calls in record {
    laid = r.laid;
    bases = (let b = r.bases in record { most = b.most; whole = b.whole; from_first = b.from_first; bytes = b.bytes });
    reading = r.reading;
    numbers = r.numbers;
    task = (let t = r.task in record { won_runs = t.won_runs; put_collects = t.put_collects; synced_syncs = t.synced_syncs });
  });
  tail = f.tail;
  syncs = (let r = f.syncs in record { to = r.to; marks = r.marks; valid = r.valid; answered = r.answered });
})
