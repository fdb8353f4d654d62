-- The pin that holds the kept blocks is noted: what a core knows of the seat stays.
use Rattle.std.proofs.Common.{ℕ, Option}
use Rattle.log_entry.specs.declared.calls.Held.{Held}
use Rattle.pmem_words.specs.Seats.{Seat}
use Rattle.log_core.specs.Views.{Ghost}
use Rattle.log_core.specs.Origin.{Origin}
use Rattle.log_core.specs.Cores.{Core}
use Rattle.log_core.specs.Works.{NotesHeld, state_after_work}
use Rattle.log_core.specs.Knows.{Knows}
use Rattle.log_core.proofs.Facts.{scan_facts}

pub held_facts : (o : Origin) (c : Core) (n : ℕ) (s : Seat) (g : Ghost) (pin began : ℕ) (held : Option Held) → Knows o c n s g pin began → Knows o c n (state_after_work s (NotesHeld held)) g pin began
held_facts o c n s g pin began held f = scan_facts o c n s g pin began f s.giving.pins_seen held
    (λ k other. (let r = f.scan_others k other in record { replaced = r.replaced; limbo = r.limbo })) (let r = f.scan_self in record { replaced = r.replaced; limbo = r.limbo })
