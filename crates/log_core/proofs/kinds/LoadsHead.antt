-- A load of the head keeps what holds of the seat's state.
use Rattle.std.proofs.Common.{◌≡◌, ◌≢◌, ◌<◌, ◌≤◌, ◌+◌, ◌==◌, ◌&&◌, ◌||◌, not, ℕ, Bool, true, false, if◌then◌else◌, List, [], ◌∷◌, length, refl, sym, ◌∙◌, ap, subst, arith, ◌⊎◌, inl, slice_index}
use Rattle.std.specs.List.{AllByRecursion}
use Rattle.std.proofs.lemmas.Bool.{eqb-true}
use Rattle.log_entry.specs.Fields.{field}
use Rattle.log_entry.specs.declared.layouts.TheConstants.{HEAD_GENERATION}
use Rattle.pmem_words.specs.declared.keeps.KeptWord.{KeptWord}
use Rattle.pmem_words.specs.Seats.{Seat, Hold, Giving}
use Rattle.persistence.specs.Memory.{PendingMark, cell, pending_of}
use Rattle.log_core.specs.Entries.{head_place}
use Rattle.log_core.specs.Views.{Ghost, view_of}
use Rattle.log_core.specs.Origin.{Origin, shape, q_of_origin, first_generation}
use Rattle.log_core.specs.Files.{entries}
use Rattle.log_core.specs.Cores.{Core, current, generation_at, is_named, head_floor, IsPinned}
use Rattle.log_core.specs.Pins.{PinHolds}
use Rattle.log_core.specs.Walks.{IsFirstLog, WalkHolds, IsKeptWord, IsSnapshotBlock}
use Rattle.log_core.specs.Noted.{AreNoted, is_named_before}
use Rattle.log_core.specs.Giving.{GivingHolds, ScanHolds}
use Rattle.log_core.specs.Synced.{SyncMarkHolds}
use Rattle.log_core.specs.Invariant.{Invariant, around, names_by}
use Rattle.log_core.specs.Knows.{Knows}
use Rattle.log_core.proofs.Heads.{head_generation, was_head, some_generation, present_place, floor_low}

-- the hold and the readiness after the load, by whether the pin word holds the head's generation
abbrev pub hold_by : Bool → Hold → ℕ → Hold
hold_by b h word = record h { head = word; generation = if b then h.pin else h.generation; valid = h.valid || b }

abbrev pub ready_by : Bool → Hold → Bool → Bool
ready_by b h ready = if b && not (h.pin == h.generation) then false else ready

abbrev pub first_by : Bool → Hold → ℕ → ℕ
first_by b h block = if b && not (h.pin == h.generation) then 0 else block

abbrev pub loaded_by : Bool → Seat → ℕ → Seat
loaded_by b s word = record s { hold = hold_by b s.hold word; walk = record (s.walk) { ready = ready_by b s.hold s.walk.ready; first_log = first_by b s.hold s.walk.first_log } }

valid_either : (valid : Bool) → (valid || false) ≡ true → valid ≡ true
valid_either true e = refl
valid_either false e = cc

invalid_either : (valid b : Bool) → (valid || b) ≡ false → valid ≡ false
invalid_either true b e = cc
invalid_either false b e = refl

true_either : (b : Bool) → (true || b) ≡ true
true_either b = refl

-- where the view is ready after it, it was, and its generation is the same
ready_was : (b : Bool) (h : Hold) (ready : Bool) → ready_by b h ready ≡ true → ready ≡ true
ready_was false h ready e = e
ready_was true h ready e = by (h.pin == h.generation) e
  where
    by : (same : Bool) → (if not same then false else ready) ≡ true → ready ≡ true
    by true e = e
    by false e = cc

ready_same : (b : Bool) (h : Hold) (ready : Bool) → ready_by b h ready ≡ true → (if b then h.pin else h.generation) ≡ h.generation
ready_same false h ready e = refl
ready_same true h ready e = by (h.pin == h.generation) refl e
  where
    by : (same : Bool) → (h.pin == h.generation) ≡ same → (if not same then false else ready) ≡ true → h.pin ≡ h.generation
    by true is e = eqb-true h.pin h.generation is
    by false is e = cc

-- and where a first log block is known after it, it was, and its generation is the same
first_was : (b : Bool) (h : Hold) (block : ℕ) → first_by b h block ≢ 0 → first_by b h block ≡ block
first_was false h block known = refl
first_was true h block known = by (h.pin == h.generation) known
  where
    by : (same : Bool) → (if not same then 0 else block) ≢ 0 → (if not same then 0 else block) ≡ block
    by true known = refl
    by false known = absurd (known refl)

first_same : (b : Bool) (h : Hold) (block : ℕ) → first_by b h block ≢ 0 → (if b then h.pin else h.generation) ≡ h.generation
first_same false h block known = refl
first_same true h block known = by (h.pin == h.generation) refl known
  where
    by : (same : Bool) → (h.pin == h.generation) ≡ same → (if not same then 0 else block) ≢ 0 → h.pin ≡ h.generation
    by true is known = eqb-true h.pin h.generation is
    by false is known = absurd (known refl)

module _ (o : Origin) (c : Core) (n : ℕ) (s : Seat) (g : Ghost) (pin began word : ℕ) (inv : Invariant o c) (f : Knows o c n s g pin began)
    (found : word ≡ (cell c.memory head_place).present) where
  generation : field HEAD_GENERATION word ≡ current o c.generations
  generation = ap (field HEAD_GENERATION) found ∙ head_generation o c inv

  -- where the pin was valid before, its generation is the same
  valid_same : (b : Bool) → s.hold.valid ≡ true → (if b then s.hold.pin else s.hold.generation) ≡ s.hold.generation
  valid_same false valid = refl
  valid_same true valid = f.pin_holds.valid_is valid

  kept : (b : Bool) → (b ≡ true → s.hold.pin ≡ current o c.generations) → (place : ℕ) → (s.hold.valid || b) ≡ true →
      (if b then s.hold.pin else s.hold.generation) ≡ first_generation o + place → (place + 1 ≡ length c.generations) ⊎ IsPinned o c.views place
  kept true is place valid same = inl (present_place o c inv place (sym (is refl) ∙ same))
  kept false is place valid same = f.kept place (valid_either s.hold.valid valid) same

  pin_facts : (b : Bool) → (b ≡ true → s.hold.pin ≡ current o c.generations) → PinHolds (first_generation o) (current o c.generations) (cell c.memory head_place) (hold_by b s.hold word)
  pin_facts true is = (let e = is refl in let some = some_generation o c inv in let low = floor_low o c inv in record {
    was = λ loaded. subst (λ (w : ℕ). Rattle.log_core.specs.Pins.WasHead (cell c.memory head_place) w) (sym found) (was_head o c inv);
    valid_is = λ valid. refl;
    valid_some = λ valid none. omega (arith, e, some, none);
    from_first = λ some. omega (arith, e, low);
    to_current = λ some. omega (arith, e);
  })
  pin_facts false is = (let r = f.pin_holds in record {
    was = λ loaded. subst (λ (w : ℕ). Rattle.log_core.specs.Pins.WasHead (cell c.memory head_place) w) (sym found) (was_head o c inv);
    valid_is = λ valid. r.valid_is (valid_either s.hold.valid valid);
    valid_some = λ valid. r.valid_some (valid_either s.hold.valid valid);
    from_first = r.from_first;
    to_current = r.to_current;
  })

  -- the kept words are of the pinned chain: there are none where the pin was not valid before
  kept_words : (b valid : Bool) → s.hold.valid ≡ valid → WalkHolds (around o c) s.hold s.walk →
      AllByRecursion (IsKeptWord (shape o) c.memory.now.words (λ block. is_named o c.logs (entries o c.history) (generation_at o c.generations (if b then s.hold.pin else s.hold.generation)) block)
      (Rattle.std.proofs.Common.drop (generation_at o c.generations (if b then s.hold.pin else s.hold.generation)).cut c.logs)) s.walk.kept
  kept_words b true valid w = subst
      (λ (generation : ℕ). AllByRecursion (IsKeptWord (shape o) c.memory.now.words (λ block. is_named o c.logs (entries o c.history) (generation_at o c.generations generation) block)
      (Rattle.std.proofs.Common.drop (generation_at o c.generations generation).cut c.logs)) s.walk.kept)
      (sym (valid_same b valid)) (w.kept_words valid)
  kept_words b false valid w = subst
      (λ (kept : List KeptWord). AllByRecursion (IsKeptWord (shape o) c.memory.now.words (λ block. is_named o c.logs (entries o c.history) (generation_at o c.generations (if b then s.hold.pin else s.hold.generation)) block)
      (Rattle.std.proofs.Common.drop (generation_at o c.generations (if b then s.hold.pin else s.hold.generation)).cut c.logs)) kept)
      (sym (w.unpinned valid)) tt

  walk_loaded : (b : Bool) → WalkHolds (around o c) s.hold s.walk → WalkHolds (around o c) (hold_by b s.hold word) (loaded_by b s word).walk
  walk_loaded b w = record {
    to_end = w.to_end;
    from_first = w.from_first;
    to_current = w.to_current;
    read = λ reading kept. (let r = w.read reading kept in record { inside = r.inside; block = r.block; from = r.from; upto = r.upto; table = r.table; size_is = r.size_is; position_is = r.position_is });
    kept_words = λ valid. kept_words b s.hold.valid refl w;
    unpinned = λ invalid. w.unpinned (invalid_either s.hold.valid b invalid);
    walked = λ some stopped. (let r = w.walked some stopped in record { table = r.table; size_is = r.size_is; base = r.base; block = r.block; from = r.from; upto = r.upto; inside = r.inside; at_end = r.at_end });
    ready_walked = λ ready. (let r = w.ready_walked (ready_was b s.hold s.walk.ready ready) in
        (r.0, r.1, subst (λ (generation : ℕ). generation ≢ 0) (sym (ready_same b s.hold s.walk.ready ready)) r.2));
    ready_base = λ ready. subst (λ (generation : ℕ). s.walk.snapshot_base ≡ (generation_at o c.generations generation).base) (sym (ready_same b s.hold s.walk.ready ready))
        (w.ready_base (ready_was b s.hold s.walk.ready ready));
    ready_tail = λ ready. w.ready_tail (ready_was b s.hold s.walk.ready ready);
    seeking = λ ready come_to. subst (λ (generation : ℕ). IsSnapshotBlock (generation_at o c.generations generation) s.walk.reading_place s.walk.reading_block) (sym (ready_same b s.hold s.walk.ready ready))
        (w.seeking (ready_was b s.hold s.walk.ready ready) come_to);
    first_known = λ known. (let was = first_was b s.hold s.walk.first_log known in
        subst (λ (generation : ℕ). IsFirstLog o c.generations c.logs generation (first_by b s.hold s.walk.first_log)) (sym (first_same b s.hold s.walk.first_log known))
        (subst (λ (block : ℕ). IsFirstLog o c.generations c.logs s.hold.generation block) (sym was) (w.first_known (λ none. known (was ∙ none)))));
  }

  -- a scan that found the seat with no pin that needs its blocks is right: a pin that is now valid is of the present generation
  scanned : (b : Bool) → (b ≡ true → s.hold.pin ≡ current o c.generations) → (giving : Giving) →
      GivingHolds (names_by o c.logs (entries o c.history) c.generations) (current o c.generations) (first_generation o + head_floor c.memory) giving →
      ScanHolds giving n s.hold → ScanHolds giving n (hold_by b s.hold word)
  scanned true is giving holds scan = (let e = is refl in let low = floor_low o c inv in let past = holds.replaced_past in let sure = holds.limbo_sure in record {
    replaced = λ inside free valid. omega (arith, e, past);
    limbo = λ inside free valid. omega (arith, e, low, sure);
  })
  scanned false is giving holds scan = record {
    replaced = λ inside free valid. scan.replaced inside free (valid_either s.hold.valid valid);
    limbo = λ inside free valid. scan.limbo inside free (valid_either s.hold.valid valid);
  }

  some_notes : (note : PendingMark) (pending : List PendingMark) → (note ∷ pending) ≢ []
  some_notes note pending e = cc

  abbrev Marked : ℕ → PendingMark → Type 0
  Marked generation note = SyncMarkHolds (q_of_origin o) (names_by o c.logs (entries o c.history) c.generations) (λ place. cell c.memory place) c.memory.past generation note

  sync_marks : (b : Bool) (pending : List PendingMark) → (pending ≢ [] → s.hold.valid ≡ true) → AllByRecursion (Marked s.hold.generation) pending →
      AllByRecursion (Marked (if b then s.hold.pin else s.hold.generation)) pending
  sync_marks b [] valid all = all
  sync_marks b (note ∷ pending) valid all = subst (λ (generation : ℕ). AllByRecursion (Marked generation) (note ∷ pending))
      (sym (valid_same b (valid (some_notes note pending)))) all

  pub loaded_facts : (b : Bool) → (b ≡ true → s.hold.pin ≡ current o c.generations) → Knows o c n (loaded_by b s word) g pin began
  loaded_facts b is = record {
    fits = λ some. (let r = f.fits some in record { number = r.number; seats = r.seats; geometry = r.geometry; first = r.first; found = r.found; named = r.named; map = r.map });
    kept = kept b is;
    owns = (let r = f.owns in record { owned = r.owned; left = r.left });
    pin_is = f.pin_is;
    pin_holds = pin_facts b is;
    walk = λ some. walk_loaded b (f.walk some);
    noted = λ some. (let r = f.noted some in (
      r.0,
      r.1,
      (λ on ready. subst (λ (generation : ℕ). AreNoted (shape o) s.blocks.named (λ block. is_named_before o c.logs (entries o c.history) (generation_at o c.generations generation) s.walk block)) (sym (ready_same b s.hold s.walk.ready ready))
          (r.2 on (ready_was b s.hold s.walk.ready ready))),
    ));
    owned = (let r = f.owned in record {
      contents = r.contents;
      areas = r.areas;
      stored = r.stored;
      filled = λ place inside filled. (let q = r.filled place inside filled in record { owned = q.owned; each = q.each });
      fenced = r.fenced;
    });
    giving = f.giving;
    scan_others = f.scan_others;
    scan_self = scanned b is s.giving f.giving f.scan_self;
    scanned = λ k other. scanned b is (view_of c.views k).seat.giving (inv.givings.lists k) (f.scanned k other);
    writes = (let r = f.writes in record { recorded = r.recorded; running = r.running });
    writes_once = f.writes_once;
    put = f.put;
    same_put = f.same_put;
    calls = (let r = f.calls in record { laid = r.laid; bases = r.bases; reading = r.reading; numbers = r.numbers; task = r.task });
    tail = f.tail;
    marks = f.marks;
    syncs = (let r = f.syncs in record {
      to = r.to;
      marks = λ sync. sync_marks b (pending_of n c.memory.pending) (r.valid sync) (r.marks sync);
      valid = λ sync some. rw (r.valid sync some) refl;
      answered = r.answered;
    });
  }

  pub load_facts : Knows o c n (loaded_by (s.hold.pin == field HEAD_GENERATION word) s word) g pin began
  load_facts = loaded_facts (s.hold.pin == field HEAD_GENERATION word) (λ same. eqb-true s.hold.pin (field HEAD_GENERATION word) same ∙ generation)
