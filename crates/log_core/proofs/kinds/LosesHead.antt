-- An exchange of the head that is lost: the seat has the head that it found, and its call the generation of that.
use Rattle.std.proofs.Common.{◌≡◌, ◌<◌, ◌+◌, ◌||◌, ℕ, Bool, true, false, length, refl, ap, subst, arith}
use Rattle.log_entry.specs.Fields.{field}
use Rattle.log_entry.specs.declared.layouts.TheConstants.{HEAD_GENERATION}
use Rattle.pmem_words.specs.Seats.{Seat}
use Rattle.persistence.specs.Memory.{cell}
use Rattle.log_core.specs.Entries.{head_place}
use Rattle.log_core.specs.Views.{Ghost}
use Rattle.log_core.specs.Origin.{Origin, first_generation}
use Rattle.log_core.specs.Cores.{Core}
use Rattle.log_core.specs.Steps.{head_exchanged}
use Rattle.log_core.specs.Invariant.{Invariant}
use Rattle.log_core.specs.Knows.{Knows}
use Rattle.log_core.proofs.Heads.{head_generation, current_is, last_place}
use Rattle.log_core.proofs.kinds.LoadsHead.{loaded_facts}

or_false : (b : Bool) → (b || false) ≡ b
or_false true = refl
or_false false = refl

-- a call that has found another generation at the head
overtaken_facts : (o : Origin) (c : Core) (n : ℕ) (s : Seat) (g : Ghost) (pin began generation : ℕ) → Knows o c n s g pin began → generation < first_generation o + length c.generations →
    Knows o c n s (record g { call = record (g.call) { overtaken = generation } }) pin began
overtaken_facts o c n s g pin began generation f low = record {
  fits = λ some. (let r = f.fits some in record { number = r.number; seats = r.seats; geometry = r.geometry; first = r.first; found = r.found; named = r.named; map = r.map });
  kept = f.kept;
  owns = f.owns;
  pin_is = f.pin_is;
  pin_holds = f.pin_holds;
  walk = f.walk;
  noted = f.noted;
  owned = (let r = f.owned in record {
    contents = r.contents;
    areas = r.areas;
    stored = r.stored;
    filled = λ place inside filled. (let q = r.filled place inside filled in record { owned = q.owned; each = q.each });
    fenced = r.fenced;
  });
  giving = f.giving;
  scan_others = f.scan_others;
  scan_self = f.scan_self;
  scanned = f.scanned;
  writes = (let r = f.writes in record { recorded = r.recorded; running = r.running });
  writes_once = f.writes_once;
  put = record { own = f.put.own; found = low };
  same_put = f.same_put;
  calls = (let r = f.calls in record { laid = r.laid; bases = r.bases; reading = r.reading; numbers = r.numbers; task = r.task });
  tail = f.tail;
  marks = f.marks;
  syncs = (let r = f.syncs in record { to = r.to; marks = r.marks; valid = r.valid; answered = r.answered });
}

pub lost_facts : (o : Origin) (c : Core) (n : ℕ) (s : Seat) (g : Ghost) (pin began next word : ℕ) (inv : Invariant o c) → Knows o c n s g pin began → word ≡ (cell c.memory head_place).present →
    Knows o c n (head_exchanged s next word false) (record g { call = record (g.call) { overtaken = field HEAD_GENERATION word } }) pin began
lost_facts o c n s g pin began next word inv f found = overtaken_facts o c n (head_exchanged s next word false) g pin began (field HEAD_GENERATION word)
    (subst (λ (valid : Bool). Knows o c n (record s { hold = record (s.hold) { head = word; valid = valid } }) g pin began) (or_false s.hold.valid) (loaded_facts o c n s g pin began word inv f found false (λ e. cc)))
    (let is = ap (field HEAD_GENERATION) found in let generation = head_generation o c inv in let now = current_is o c inv in let last = last_place o c inv in omega (arith, is, generation, now, last))
