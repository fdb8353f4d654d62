-- A view gets other records, and its call another state: what has to hold of it, so that the invariant stays.
use Rattle.std.proofs.Common.{◌≡◌, ◌≢◌, ◌<◌, ◌+◌, ◌-◌, ℕ, true, false, List, [], length, refl, sym, ◌∙◌, inl, inr, ⊎_elim, slice_set, slice_index, Option}
use Rattle.std.specs.List.{AllByRecursion}
use Rattle.log_entry.specs.declared.calls.Call.{Call}
use Rattle.pmem_words.specs.Seats.{Calling}
use Rattle.persistence.specs.Memory.{cell}
use Rattle.log_image.specs.Chains.{is_listed}
use Rattle.log_core.specs.Entries.{head_place}
use Rattle.log_core.specs.Views.{View, HeadPut, view_of}
use Rattle.log_core.specs.Origin.{Origin, q_of_origin, first_generation}
use Rattle.log_core.specs.Files.{entries}
use Rattle.log_core.specs.Cores.{Core, current, head_floor, IsPinned}
use Rattle.log_core.specs.Sizes.{Sizes}
use Rattle.log_core.specs.Owners.{SeatOwns}
use Rattle.log_core.specs.Pins.{PinHolds}
use Rattle.log_core.specs.Walks.{WalkHolds}
use Rattle.log_core.specs.Noted.{NotedBy}
use Rattle.log_core.specs.Owned.{OwnedHold}
use Rattle.log_core.specs.Giving.{GivingHolds, ScanHolds}
use Rattle.log_core.specs.Records.{WritesFit, WritesOnce, PutFits, CallHolds, TailHolds, MarksFit, RecordHolds, NeverFall, collected_in, putting}
use Rattle.log_core.specs.Synced.{SyncHolds}
use Rattle.log_core.specs.Invariant.{Invariant, KeptIn, around, names_by, Order, Owners, Pins, Givings, Records, Syncs}
use Rattle.log_core.proofs.NotedGrown.{noted_left}
use Rattle.log_core.proofs.clauses.OneView.{each_set, collected_with}
use Rattle.log_core.proofs.clauses.SetSizes.{sizes_set, seats_once_set}

-- a view with another state of its call, and other records
abbrev pub with_records : View → Calling → Option HeadPut → List Call → View
with_records v calling put done = record v { seat = record (v.seat) { calling = calling }; ghost = record (v.ghost) { call = record (v.ghost.call) { put = put } }; done = done }

-- what the clauses that read records and the running call say of it
pub record Recorded (o : Origin) (c : Core) (n : ℕ) (w : View) : Type 0 where
  pub writes : WritesFit o c.history w
  pub writes_once : WritesOnce o c.history w
  pub mine : AllByRecursion (λ (call : Call). is_listed w.parts call.seat ≡ true) w.done
  pub collected : (generation : ℕ) →
      collected_in generation w.done + putting generation w.ghost.call.put ≡ collected_in generation (view_of c.views n).done + putting generation (view_of c.views n).ghost.call.put
  pub put : PutFits o c.generations w
  pub records : AllByRecursion (RecordHolds o c.history c.generations) w.done
  pub never_fall : (part : ℕ) → NeverFall part 0 0 w.done
  pub calls : CallHolds o c.history w
  pub tail : TailHolds w (slice_index c.began n)
  pub syncs : SyncHolds (q_of_origin o) (names_by o c.logs (entries o c.history) c.generations) (λ word. cell c.memory word) c.memory.past c.memory.pending c.synced n w

module _ (o : Origin) (c : Core) (n : ℕ) (calling : Calling) (put : Option HeadPut) (done : List Call) (inv : Invariant o c) (here : n < length c.views) (unspent : (view_of c.views n).parts ≢ [])
    (facts : Recorded o c n (with_records (view_of c.views n) calling put done)) (ends : calling.noting ≡ false) where
  abbrev v : View
  v = view_of c.views n

  abbrev w : View
  w = with_records v calling put done

  abbrev views : List View
  views = slice_set c.views n w

  abbrev new : Core
  new = record c { views = views }

  -- a generation that is kept now was kept before
  pinned_before : (place seat : ℕ) → (view_of views seat).seat.hold.valid ≡ true →
      (view_of views seat).seat.hold.generation ≡ first_generation o + place → IsPinned o c.views place
  pinned_before place = each_set (λ (k : ℕ) (u : View). u.seat.hold.valid ≡ true → u.seat.hold.generation ≡ first_generation o + place → IsPinned o c.views place) c.views n w here
      (λ valid same. record { seat = n; valid = valid; same = same }) (λ k other valid same. record { seat = k; valid = valid; same = same })

  kept_before : (place : ℕ) → KeptIn o new place → KeptIn o c place
  kept_before place kept = record { inside = kept.inside; why = ⊎_elim (λ floor. inl floor) (λ pin. inr (pinned_before place pin.seat pin.valid pin.same)) kept.why }

  sizes : Sizes o c.memory views c.began
  sizes = sizes_set o c.views n w here unspent refl c.memory c.memory c.began c.began inv.sizes inv.sizes.words refl refl
      (let r = inv.sizes.each n here unspent in record { number = r.number; seats = r.seats; geometry = r.geometry; first = r.first; found = r.found; named = r.named; map = r.map })

  order : Order o c.memory c.history c.generations c.logs (λ place. KeptIn o new place)
  order = record { heads = inv.order.heads; generations_rise = inv.order.generations_rise; log = inv.order.log; chains = λ place kept. inv.order.chains place (kept_before place kept) }

  owners : Owners o c.memory.now.taken views c.history c.generations c.logs c.owner (λ place. KeptIn o new place)
  owners = record {
    bits = inv.owners.bits;
    chain = inv.owners.chain;
    seats = each_set (λ (k : ℕ) (u : View). SeatOwns c.owner k u.seat) c.views n w here (let r = inv.owners.seats n in record { owned = r.owned; left = r.left }) (λ k other. inv.owners.seats k);
    once = λ place kept. inv.owners.once place (kept_before place kept);
  }

  pins : Pins o c.memory views c.generations
  pins = record {
    words = λ seat inside. each_set (λ (k : ℕ) (u : View). k < length c.memory.now.pins → slice_index c.memory.now.pins k ≡ u.seat.hold.pin) c.views n w here (inv.pins.words n) (λ k other. inv.pins.words k) seat inside;
    holds = each_set (λ (k : ℕ) (u : View). PinHolds (first_generation o) (current o c.generations) (cell c.memory head_place) u.seat.hold) c.views n w here (inv.pins.holds n) (λ k other. inv.pins.holds k);
  }

  walk_left : (u : View) → WalkHolds (around o c) u.seat.hold u.seat.walk → WalkHolds (around o new) u.seat.hold u.seat.walk
  walk_left u r = record {
    to_end = r.to_end;
    from_first = r.from_first;
    to_current = r.to_current;
    read = λ reading kept. r.read reading (kept_before (u.seat.walk.reading_generation - first_generation o) kept);
    kept_words = r.kept_words;
    unpinned = r.unpinned;
    walked = r.walked;
    ready_walked = r.ready_walked;
    ready_base = r.ready_base;
    ready_tail = r.ready_tail;
    seeking = r.seeking;
    first_known = r.first_known;
  }

  walks : (seat : ℕ) → (view_of views seat).parts ≢ [] → WalkHolds (around o new) (view_of views seat).seat.hold (view_of views seat).seat.walk
  walks = each_set (λ (k : ℕ) (u : View). u.parts ≢ [] → WalkHolds (around o new) u.seat.hold u.seat.walk) c.views n w here (λ some. walk_left v (inv.walks n some)) (λ k other some. walk_left (view_of c.views k) (inv.walks k some))

  -- the call notes nothing
  not_noting : {P : Type 0} → calling.noting ≡ true → P
  not_noting on = (let both : true ≡ false = sym on ∙ ends in cc)

  noted : (seat : ℕ) → (view_of views seat).parts ≢ [] → NotedBy (around o new) (view_of views seat).seat
  noted = each_set (λ (k : ℕ) (u : View). u.parts ≢ [] → NotedBy (around o new) u.seat) c.views n w here (λ some. (not_noting, (λ on. not_noting on), (λ on. not_noting on)))
      (λ k other some. (let u = (view_of c.views k).seat in noted_left (around o c) (λ place. KeptIn o new place) u.hold u.walk u.calling u.blocks.named kept_before (inv.noted k some)))

  owned : (seat : ℕ) → OwnedHold (λ word. cell c.memory word) c.memory.past c.memory.pending seat (view_of views seat).ghost (view_of views seat).seat
  owned = each_set (λ (k : ℕ) (u : View). OwnedHold (λ word. cell c.memory word) c.memory.past c.memory.pending k u.ghost u.seat) c.views n w here
      (let r = inv.owned n in record {
        contents = r.contents;
        areas = r.areas;
        stored = r.stored;
        filled = λ place inside filled. (let q = r.filled place inside filled in record { owned = q.owned; each = q.each });
        fenced = r.fenced;
      }) (λ k other. inv.owned k)

  givings : Givings o c.memory views c.history c.generations c.logs
  givings = record {
    lists = each_set (λ (k : ℕ) (u : View). GivingHolds (names_by o c.logs (entries o c.history) c.generations) (current o c.generations) (first_generation o + head_floor c.memory) u.seat.giving) c.views n w here
        (inv.givings.lists n) (λ k other. inv.givings.lists k);
    scans = λ seat other. each_set (λ (k : ℕ) (u : View). ScanHolds u.seat.giving other (view_of views other).seat.hold) c.views n w here (scan_by n other) (λ k apart. scan_by k other) seat;
  }
    where
      scan_by : (k other : ℕ) → ScanHolds (view_of c.views k).seat.giving other (view_of views other).seat.hold
      scan_by k other = each_set (λ (t : ℕ) (u : View). ScanHolds (view_of c.views k).seat.giving t u.seat.hold) c.views n w here (inv.givings.scans k n) (λ t apart. inv.givings.scans k t) other

  records : Records o c.memory views c.history c.generations (λ seat. slice_index c.began seat)
  records = record {
    writes = each_set (λ (k : ℕ) (u : View). WritesFit o c.history u) c.views n w here facts.writes (λ k other. inv.records.writes k);
    writes_once = each_set (λ (k : ℕ) (u : View). WritesOnce o c.history u) c.views n w here facts.writes_once (λ k other. inv.records.writes_once k);
    seats_once = seats_once_set o c.views n w here unspent refl c.history inv.records.seats_once facts.mine;
    collected_once = λ generation above below. collected_with c.views n w generation (facts.collected generation) here ∙ inv.records.collected_once generation above below;
    put = each_set (λ (k : ℕ) (u : View). PutFits o c.generations u) c.views n w here facts.put (λ k other. inv.records.put k);
    records = each_set (λ (k : ℕ) (u : View). AllByRecursion (RecordHolds o c.history c.generations) u.done) c.views n w here facts.records (λ k other. inv.records.records k);
    never_fall = λ seat part. each_set (λ (k : ℕ) (u : View). NeverFall part 0 0 u.done) c.views n w here (facts.never_fall part) (λ k other. inv.records.never_fall k part) seat;
    calls = each_set (λ (k : ℕ) (u : View). CallHolds o c.history u) c.views n w here facts.calls (λ k other. inv.records.calls k);
    begun = inv.records.begun;
    tails = each_set (λ (k : ℕ) (u : View). TailHolds u (slice_index c.began k)) c.views n w here facts.tail (λ k other. inv.records.tails k);
    marks = each_set (λ (k : ℕ) (u : View). MarksFit (λ word. cell c.memory word) c.memory.past c.memory.pending k u) c.views n w here (inv.records.marks n) (λ k other. inv.records.marks k);
  }

  syncs : Syncs o c.memory views c.history c.generations c.logs c.synced
  syncs = record {
    from_first = inv.syncs.from_first;
    to_end = inv.syncs.to_end;
    words = inv.syncs.words;
    views_hold = each_set (λ (k : ℕ) (u : View). SyncHolds (q_of_origin o) (names_by o c.logs (entries o c.history) c.generations) (λ word. cell c.memory word) c.memory.past c.memory.pending c.synced k u) c.views n w here
        facts.syncs (λ k other. inv.syncs.views_hold k);
  }

  pub set_records : Invariant o new
  set_records = record {
    sizes = sizes;
    writes = inv.writes;
    order = order;
    owners = owners;
    contents = λ place kept. inv.contents place (kept_before place kept);
    pins = pins;
    walks = walks;
    noted = noted;
    owned = owned;
    givings = givings;
    records = records;
    syncs = syncs;
  }
