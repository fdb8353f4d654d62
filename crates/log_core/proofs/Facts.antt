-- What holds of a seat's state by the invariant; and it stays where the seat gives up its kept words.
use Rattle.std.proofs.Common.{◌<◌, ◌≡◌, ◌≢◌, ℕ, Bool, true, false, List, [], length, refl, arith, ◌∙◌, sym, inr, slice_index, Option}
use Rattle.log_entry.specs.declared.calls.Held.{Held}
use Rattle.pmem_words.specs.declared.keeps.KeptWord.{KeptWord}
use Rattle.pmem_words.specs.Seats.{Seat, Walk, Calling}
use Rattle.persistence.specs.Memory.{cell}
use Rattle.log_core.specs.Views.{View, Ghost, view_of}
use Rattle.log_core.specs.Origin.{Origin, q_of_origin}
use Rattle.log_core.specs.Files.{entries}
use Rattle.log_core.specs.Cores.{Core, generation_at}
use Rattle.log_core.specs.Walks.{WalkHolds, IsFirstLog, IsSnapshotBlock}
use Rattle.log_core.specs.Noted.{NotedHolds, NotedBy}
use Rattle.log_core.specs.Giving.{ScanHolds}
use Rattle.log_core.specs.Records.{WritesFit, WritesOnce, PutFits, CallHolds, TailHolds, StandsAtTail}
use Rattle.log_core.specs.Synced.{SyncHolds}
use Rattle.log_core.specs.Invariant.{Invariant, around, names_by}
use Rattle.log_core.specs.Knows.{Knows, with_seat}
use Rattle.log_core.proofs.clauses.Leaves.{moved}

module _ (o : Origin) (c : Core) (n : ℕ) (inv : Invariant o c) (here : n < length c.views) where
  abbrev v : View
  v = view_of c.views n

  pub facts_of : Knows o c n v.seat v.ghost (slice_index c.memory.now.pins n) (slice_index c.began n)
  facts_of = record {
    fits = inv.sizes.each n here;
    kept = λ place valid same. inr (record { seat = n; valid = valid; same = same });
    owns = inv.owners.seats n;
    pin_is = inv.pins.words n (let few = inv.sizes.few in let many = inv.sizes.words.pins in omega (arith, here, few, many));
    pin_holds = inv.pins.holds n;
    walk = inv.walks n;
    noted = inv.noted n;
    owned = inv.owned n;
    giving = inv.givings.lists n;
    scan_others = λ k other. inv.givings.scans n k;
    scan_self = inv.givings.scans n n;
    scanned = λ k other. inv.givings.scans k n;
    writes = inv.records.writes n;
    writes_once = inv.records.writes_once n;
    put = inv.records.put n;
    same_put = refl;
    calls = inv.records.calls n;
    tail = inv.records.tails n;
    marks = inv.records.marks n;
    syncs = inv.syncs.views_hold n;
  }

-- the walk with other kept words, elsewhere in the chain, with another base of its table, or found to be at the tail or not; its
-- position and its table stay
abbrev pub placed : Walk → List KeptWord → (block base slot : ℕ) → (ready : Bool) → (snapshot_base first : ℕ) → (at_tail : Bool) → Walk
placed w kept block base slot ready snapshot_base first at_tail =
    record w { kept = kept; tail_block = block; tail_base = base; tail_slot = slot; ready = ready; snapshot_base = snapshot_base; first_log = first; at_tail = at_tail }

-- the seat with no kept words
abbrev pub forgotten : Seat → Seat
forgotten s = record s { walk = record (s.walk) { kept = [] } }

-- without kept words, at the tail or not, and with a pin that may be valid no more, the walk is where it was
pub without_kept : (o : Origin) (c : Core) (s : Seat) (pin : ℕ) (valid at_tail : Bool) → WalkHolds (around o c) s.hold s.walk →
    WalkHolds (around o c) (record (s.hold) { pin = pin; valid = valid }) (record (s.walk) { kept = []; at_tail = at_tail })
without_kept o c s pin valid at_tail w = record {
  to_end = w.to_end;
  from_first = w.from_first;
  to_current = w.to_current;
  read = λ reading kept. (let r = w.read reading kept in record { inside = r.inside; block = r.block; from = r.from; upto = r.upto; table = r.table; size_is = r.size_is; position_is = r.position_is });
  kept_words = λ valid. tt;
  unpinned = λ invalid. refl;
  walked = λ some stopped. (let r = w.walked some stopped in record { table = r.table; size_is = r.size_is; base = r.base; block = r.block; from = r.from; upto = r.upto; inside = r.inside; at_end = r.at_end });
  ready_walked = w.ready_walked;
  ready_base = w.ready_base;
  ready_tail = w.ready_tail;
  seeking = w.seeking;
  first_known = w.first_known;
}

-- what is to be shown of a seat where its walk or its call moved, what it noted, or its scan, and neither its pin nor the blocks that it owns
pub record Moves (o : Origin) (c : Core) (n : ℕ) (s : Seat) (g : Ghost) (began : ℕ) : Type 0 where
  pub map : (view_of c.views n).parts ≢ [] → length s.walk.map ≡ 65536
  pub walk : (view_of c.views n).parts ≢ [] → WalkHolds (around o c) s.hold s.walk
  pub noted : (view_of c.views n).parts ≢ [] → NotedBy (around o c) s
  pub scan_others : (k : ℕ) → k ≢ n → ScanHolds s.giving k (view_of c.views k).seat.hold
  pub scan_self : ScanHolds s.giving n s.hold
  pub writes : WritesFit o c.history (with_seat (view_of c.views n) s g)
  pub writes_once : WritesOnce o c.history (with_seat (view_of c.views n) s g)
  pub put : PutFits o c.generations (with_seat (view_of c.views n) s g)
  pub calls : CallHolds o c.history (with_seat (view_of c.views n) s g)
  pub tail : TailHolds (with_seat (view_of c.views n) s g) began
  pub syncs : SyncHolds (q_of_origin o) (names_by o c.logs (entries o c.history) c.generations) (λ word. cell c.memory word) c.memory.past c.memory.pending c.synced n (with_seat (view_of c.views n) s g)

module _ (o : Origin) (c : Core) (n : ℕ) (s : Seat) (g : Ghost) (pin began : ℕ) (f : Knows o c n s g pin began) where
  -- the seat after such a move
  abbrev pub noted_to : Walk → Calling → (named pins_seen : List ℕ) → (limbo_held : Option Held) → Seat
  noted_to walk calling named pins_seen limbo_held = record s { walk = walk; calling = calling; blocks = record (s.blocks) { named = named }; giving = record (s.giving) { pins_seen = pins_seen; limbo_held = limbo_held } }

  pub noted_facts : (walk : Walk) (calling : Calling) (named : List ℕ) → length named ≡ length s.blocks.named → (pins_seen : List ℕ) (limbo_held : Option Held) →
      Moves o c n (noted_to walk calling named pins_seen limbo_held) g began → Knows o c n (noted_to walk calling named pins_seen limbo_held) g pin began
  noted_facts walk calling named long pins_seen limbo_held m = record {
    fits = λ some. (let r = f.fits some in record { number = r.number; seats = r.seats; geometry = r.geometry; first = r.first; found = r.found; named = long ∙ r.named; map = m.map some });
    kept = f.kept;
    owns = (let r = f.owns in record { owned = r.owned; left = r.left });
    pin_is = f.pin_is;
    pin_holds = f.pin_holds;
    walk = m.walk;
    noted = m.noted;
    owned = (let r = f.owned in record {
      contents = r.contents;
      areas = r.areas;
      stored = r.stored;
      filled = λ place inside filled. (let q = r.filled place inside filled in record { owned = q.owned; each = q.each });
      fenced = r.fenced;
    });
    giving = (let r = f.giving in record { replaced_past = r.replaced_past; replaced = r.replaced; limbo = r.limbo; replaced_sure = r.replaced_sure; limbo_sure = r.limbo_sure });
    scan_others = m.scan_others;
    scan_self = m.scan_self;
    scanned = f.scanned;
    writes = m.writes;
    writes_once = m.writes_once;
    put = m.put;
    same_put = f.same_put;
    calls = m.calls;
    tail = m.tail;
    marks = f.marks;
    syncs = m.syncs;
  }

  -- and where the bits of named blocks stay
  abbrev pub moved_to : Walk → Calling → (pins_seen : List ℕ) → (limbo_held : Option Held) → Seat
  moved_to walk calling pins_seen limbo_held = noted_to walk calling s.blocks.named pins_seen limbo_held

  pub moved_facts : (walk : Walk) (calling : Calling) (pins_seen : List ℕ) (limbo_held : Option Held) → Moves o c n (moved_to walk calling pins_seen limbo_held) g began →
      Knows o c n (moved_to walk calling pins_seen limbo_held) g pin began
  moved_facts walk calling pins_seen limbo_held m = noted_facts walk calling s.blocks.named refl pins_seen limbo_held m

  -- a seat whose scan moved, or what it noted of one
  pub scan_facts : (pins_seen : List ℕ) (limbo_held : Option Held) → ((k : ℕ) → k ≢ n → ScanHolds (moved_to s.walk s.calling pins_seen limbo_held).giving k (view_of c.views k).seat.hold) →
      ScanHolds (moved_to s.walk s.calling pins_seen limbo_held).giving n s.hold → Knows o c n (moved_to s.walk s.calling pins_seen limbo_held) g pin began
  scan_facts pins_seen limbo_held others own = moved_facts s.walk s.calling pins_seen limbo_held (record {
    map = λ some. (f.fits some).map;
    walk = f.walk;
    noted = f.noted;
    scan_others = others;
    scan_self = own;
    writes = (let r = f.writes in record { recorded = r.recorded; running = r.running });
    writes_once = f.writes_once;
    put = f.put;
    calls = (let r = f.calls in record { laid = r.laid; bases = r.bases; reading = r.reading; numbers = r.numbers; task = r.task });
    tail = f.tail;
    syncs = (let r = f.syncs in record { to = r.to; marks = r.marks; valid = r.valid; answered = r.answered });
  })

  pub place_facts : (kept : List KeptWord) (block base slot : ℕ) (ready : Bool) (snapshot_base first : ℕ) (at_tail : Bool) (named : List ℕ) → length named ≡ length s.blocks.named → (s.walk.reading ≡ true → at_tail ≡ false) →
      (at_tail ≡ true → StandsAtTail (view_of c.views n).first began s.walk.position block (view_of c.views n).done) →
      ((view_of c.views n).parts ≢ [] → WalkHolds (around o c) s.hold (placed s.walk kept block base slot ready snapshot_base first at_tail)) →
      ((view_of c.views n).parts ≢ [] → NotedHolds (around o c) s.hold (placed s.walk kept block base slot ready snapshot_base first at_tail) s.calling named) →
      Knows o c n (record s { walk = placed s.walk kept block base slot ready snapshot_base first at_tail; blocks = record (s.blocks) { named = named } }) g pin began
  place_facts kept block base slot ready snapshot_base first at_tail named long away tail walks noted =
      noted_facts (placed s.walk kept block base slot ready snapshot_base first at_tail) s.calling named long s.giving.pins_seen s.giving.limbo_held (record {
        map = λ some. (f.fits some).map;
        walk = walks;
        noted = noted;
        scan_others = f.scan_others;
        scan_self = f.scan_self;
        writes = (let r = f.writes in record { recorded = r.recorded; running = r.running });
        writes_once = f.writes_once;
        put = f.put;
        calls = (let r = f.calls in record {
          laid = r.laid;
          bases = r.bases;
          reading = λ reading. (let q = r.reading reading in (away reading, q.1, q.2, q.3, q.4, q.5));
          numbers = r.numbers;
          task = r.task;
        });
        tail = tail;
        syncs = (let r = f.syncs in record { to = r.to; marks = r.marks; valid = r.valid; answered = r.answered });
      })

  pub stays_away : s.walk.reading ≡ true → s.walk.at_tail ≡ false
  stays_away reading = (f.calls.reading reading).0

  pub forget_facts : Knows o c n (forgotten s) g pin began
  forget_facts = place_facts [] s.walk.tail_block s.walk.tail_base s.walk.tail_slot s.walk.ready s.walk.snapshot_base s.walk.first_log s.walk.at_tail s.blocks.named refl stays_away f.tail
      (λ some. without_kept o c s s.hold.pin s.hold.valid s.walk.at_tail (f.walk some)) f.noted

  -- a view that is ready, with another block of its snapshot come to, and another first log block
  abbrev pub sought : (block place first : ℕ) → Walk
  sought block place first = record (s.walk) { reading_block = block; reading_place = place; first_log = first; kept = [] }

  pub sought_facts : (block place first : ℕ) → s.walk.ready ≡ true →
      ((view_of c.views n).parts ≢ [] → block ≢ 0 → IsSnapshotBlock (generation_at o c.generations s.hold.generation) place block) →
      ((view_of c.views n).parts ≢ [] → first ≢ 0 → IsFirstLog o c.generations c.logs s.hold.generation first) → Knows o c n (record s { walk = sought block place first }) g pin began
  sought_facts block place first ready come_to known = moved_facts (sought block place first) s.calling s.giving.pins_seen s.giving.limbo_held (record {
    map = λ some. (f.fits some).map;
    walk = λ some. (let w = f.walk some in record {
      to_end = w.to_end;
      from_first = w.from_first;
      to_current = w.to_current;
      read = λ reading. (let both : true ≡ false = sym reading ∙ (w.ready_walked ready).1 in cc);
      kept_words = λ valid. tt;
      unpinned = λ invalid. refl;
      walked = λ some_block stopped. (let r = w.walked some_block stopped in record { table = r.table; size_is = r.size_is; base = r.base; block = r.block; from = r.from; upto = r.upto; inside = r.inside; at_end = r.at_end });
      ready_walked = w.ready_walked;
      ready_base = w.ready_base;
      ready_tail = w.ready_tail;
      seeking = λ again. come_to some;
      first_known = known some;
    });
    noted = λ some. ((f.noted some).0, (λ on reading. (let both : true ≡ false = sym reading ∙ ((f.walk some).ready_walked ready).1 in cc)), (f.noted some).2);
    scan_others = f.scan_others;
    scan_self = f.scan_self;
    writes = (let r = f.writes in record { recorded = r.recorded; running = r.running });
    writes_once = f.writes_once;
    put = f.put;
    calls = (let r = f.calls in record { laid = r.laid; bases = r.bases; reading = r.reading; numbers = r.numbers; task = r.task });
    tail = f.tail;
    syncs = (let r = f.syncs in record { to = r.to; marks = r.marks; valid = r.valid; answered = r.answered });
  })

-- and with other pin words of the memory
pub pins_known : (o : Origin) (c : Core) (n : ℕ) (s : Seat) (g : Ghost) (pin began : ℕ) (pins : List ℕ) → Knows o c n s g pin began →
    Knows o (moved c (record (c.memory) { now = record (c.memory.now) { pins = pins } }) c.owner) n s g pin began
pins_known o c n s g pin began pins f = record {
  fits = f.fits;
  kept = f.kept;
  owns = f.owns;
  pin_is = f.pin_is;
  pin_holds = f.pin_holds;
  walk = λ some. (let w = f.walk some in record {
    to_end = w.to_end;
    from_first = w.from_first;
    to_current = w.to_current;
    read = w.read;
    kept_words = w.kept_words;
    unpinned = w.unpinned;
    walked = w.walked;
    ready_walked = w.ready_walked;
    ready_base = w.ready_base;
    ready_tail = w.ready_tail;
    seeking = w.seeking;
    first_known = w.first_known;
  });
  noted = f.noted;
  owned = f.owned;
  giving = f.giving;
  scan_others = f.scan_others;
  scan_self = f.scan_self;
  scanned = f.scanned;
  writes = f.writes;
  writes_once = f.writes_once;
  put = f.put;
  same_put = f.same_put;
  calls = f.calls;
  tail = f.tail;
  marks = f.marks;
  syncs = f.syncs;
}
