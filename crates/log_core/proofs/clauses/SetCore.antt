-- The invariant stays where a step of one seat replaces its view, and changes the memory and the owners: the others are left what they
-- know, and what has to hold of the new view does.
use Rattle.std.proofs.Common.{◌≡◌, ◌≢◌, ◌<◌, ◌≤◌, ◌+◌, ◌-◌, ℕ, true, List, [], length, refl, sym, ◌∙◌, ap, subst, arith, inl, inr, ⊎_elim, ◌⊎◌, slice_set, slice_index}
use Rattle.std.specs.List.{AllByRecursion}
use Rattle.log_entry.specs.declared.calls.Call.{Call}
use Rattle.pmem_words.specs.Seats.{Seat}
use Rattle.persistence.specs.Memory.{Memory, cell}
use Rattle.log_image.specs.Chains.{is_listed}
use Rattle.log_core.specs.Entries.{head_place}
use Rattle.log_core.specs.Views.{View, Ghost, view_of}
use Rattle.log_core.specs.Origin.{Origin, shape, q_of_origin, first_generation, Owner, InChain, OwnedBy, LeftTo}
use Rattle.log_core.specs.Files.{entries, end_of}
use Rattle.log_core.specs.Cores.{Core, current, head_floor, nth_log, IsPinned}
use Rattle.log_core.specs.Sizes.{Sizes}
use Rattle.log_core.specs.Order.{nth_generation}
use Rattle.log_core.specs.Owners.{BitsFit, SeatOwns}
use Rattle.log_core.specs.Contents.{GenerationHolds}
use Rattle.log_core.specs.Pins.{PinHolds}
use Rattle.log_core.specs.Walks.{WalkHolds}
use Rattle.log_core.specs.Noted.{NotedBy}
use Rattle.log_core.specs.Owned.{OwnedHold}
use Rattle.log_core.specs.Giving.{GivingHolds, ScanHolds}
use Rattle.log_core.specs.Records.{WritesFit, WritesOnce, PutFits, CallHolds, TailHolds, MarksFit, RecordHolds, NeverFall}
use Rattle.log_core.specs.Synced.{SyncHolds}
use Rattle.log_core.specs.Invariant.{Invariant, KeptIn, around, names_by, Order, Owners, Pins, Givings, Records, Syncs}
use Rattle.log_core.specs.Knows.{with_seat, Knows}
use Rattle.log_core.proofs.clauses.OneView.{each_set, collected_set, all_at}
use Rattle.log_core.proofs.clauses.SetSizes.{sizes_set, seats_once_set}
use Rattle.log_core.proofs.Heads.{kept_place}
use Rattle.log_core.proofs.NotedGrown.{noted_left}
use Rattle.log_core.proofs.clauses.Narrows.{heads_narrow, log_narrows, recorded_narrow, synced_narrows}
use Rattle.log_core.proofs.clauses.Leaves.{Leaves, LeavesOwners, moved, others_stay, chain_others, owned_others, left_others}
use Rattle.log_core.proofs.clauses.Apart.{header_cells, named_cells, log_cells, data_is_named}
use Rattle.log_core.proofs.clauses.Others.{walk_left, pin_kept, floor_rises, pin_left, giving_left, owned_left, marks_left, sync_left}

module _ (o : Origin) (c : Core) (n : ℕ) (s : Seat) (g : Ghost) (m : Memory) (owner : ℕ → Owner) (began : List ℕ) (inv : Invariant o c) (here : n < length c.views)
    (unspent : (view_of c.views n).parts ≢ []) (leaves : Leaves o c n m) (changes : LeavesOwners o c n m (with_seat (view_of c.views n) s g) owner) (bits : BitsFit (shape o) m.now.taken owner)
    (facts : Knows o (moved c m owner) n s g (slice_index m.now.pins n) (slice_index began n))
    (same_began : length began ≡ length c.began) (other_began : (k : ℕ) → k ≢ n → slice_index began k ≡ slice_index c.began k) (low_began : (k : ℕ) → slice_index began k ≤ end_of o c.history) where
  abbrev w : View
  w = with_seat (view_of c.views n) s g

  abbrev views : List View
  views = slice_set c.views n w

  abbrev new : Core
  new = record c { memory = m; views = views; owner = owner; began = began }

  floor_up : head_floor c.memory ≤ head_floor m
  floor_up = floor_rises o c n m inv leaves

  -- a generation that is kept now was kept before
  pinned : (place seat : ℕ) → (view_of views seat).seat.hold.valid ≡ true → (view_of views seat).seat.hold.generation ≡ first_generation o + place → place < length c.generations → KeptIn o c place
  pinned place seat = each_set (λ (k : ℕ) (v : View). v.seat.hold.valid ≡ true → v.seat.hold.generation ≡ first_generation o + place → place < length c.generations → KeptIn o c place)
      c.views n w here (λ valid same inside. kept_place o c inv place (facts.kept place valid same))
      (λ k other valid same inside. record { inside = inside; why = inr (record { seat = k; valid = valid; same = same }) }) seat

  pub kept_before : (place : ℕ) → KeptIn o new place → KeptIn o c place
  kept_before place kept = ⊎_elim
      (λ floor. record { inside = kept.inside; why = inl (let rises = floor_up in omega (arith, floor, rises)) })
      (λ pin. pinned place pin.seat pin.valid pin.same kept.inside)
      kept.why

  -- so it was with the memory and the owners alone changed
  moved_before : (place : ℕ) → KeptIn o new place → KeptIn o (moved c m owner) place
  moved_before place kept = ⊎_elim
      (λ floor. record { inside = kept.inside; why = inl floor })
      (λ pin. moved_pinned place pin.seat pin.valid pin.same kept.inside)
      kept.why
    where
      head_last : head_floor m ≤ length (cell c.memory head_place).past
      head_last = (let narrows = header_cells o c n m inv leaves head_place (omega arith) in let inside = narrows.inside in let long = ap length narrows.past in omega (arith, inside, long))

      by_place : (place : ℕ) → (place + 1 ≡ length c.generations) ⊎ IsPinned o c.views place → KeptIn o (moved c m owner) place
      by_place place (inl last) = record { inside = omega (arith, last); why = inl (let low = head_last in let heads = inv.order.heads.count in omega (arith, low, heads, last)) }
      by_place place (inr pin) = record { inside = (kept_place o c inv place (inr pin)).inside; why = inr pin }

      moved_pinned : (place seat : ℕ) → (view_of views seat).seat.hold.valid ≡ true → (view_of views seat).seat.hold.generation ≡ first_generation o + place → place < length c.generations → KeptIn o (moved c m owner) place
      moved_pinned place seat = each_set (λ (k : ℕ) (v : View). v.seat.hold.valid ≡ true → v.seat.hold.generation ≡ first_generation o + place → place < length c.generations → KeptIn o (moved c m owner) place)
          c.views n w here (λ valid same inside. by_place place (facts.kept place valid same))
          (λ k other valid same inside. record { inside = inside; why = inr (record { seat = k; valid = valid; same = same }) }) seat

  sizes : Sizes o m views began
  sizes = sizes_set o c.views n w here unspent refl c.memory m c.began began inv.sizes leaves.fits same_began refl (facts.fits unspent)

  order : Order o m c.history c.generations c.logs (λ place. KeptIn o new place)
  order = record {
    heads = heads_narrow o (λ word. cell c.memory word) (λ word. cell m word) c.generations c.logs (header_cells o c n m inv leaves) inv.order.heads;
    generations_rise = inv.order.generations_rise;
    log = inv.order.log;
    chains = λ place kept number low inside. log_narrows (shape o) (λ word. cell c.memory word) (λ word. cell m word) (nth_log c.logs number) (nth_log c.logs (number + 1)).block
        (let wide = inv.sizes.image.wide in omega (arith, wide)) (λ k less. log_cells o c n m inv leaves place number k (kept_before place kept) low inside less)
        (inv.order.chains place (kept_before place kept) number low inside);
  }

  seat_owns : (k : ℕ) → k ≢ n → SeatOwns c.owner k (view_of c.views k).seat → SeatOwns owner k (view_of c.views k).seat
  seat_owns k other owns = record {
    owned = others_stay c.owner owner _ (OwnedBy k) (λ block. changes.was block (OwnedBy k) (owned_others n k other)) (λ block. changes.is block (OwnedBy k) (owned_others n k other)) owns.owned;
    left = others_stay c.owner owner _ (LeftTo k) (λ block. changes.was block (LeftTo k) (left_others n k other)) (λ block. changes.is block (LeftTo k) (left_others n k other)) owns.left;
  }

  owners : Owners o m.now.taken views c.history c.generations c.logs owner (λ place. KeptIn o new place)
  owners = record {
    bits = bits;
    chain = record {
      named = λ block is. inv.owners.chain.named block (changes.was block InChain (chain_others n) is);
      all = λ block named. changes.is block InChain (chain_others n) (inv.owners.chain.all block named);
    };
    seats = each_set (λ (k : ℕ) (v : View). SeatOwns owner k v.seat) c.views n w here facts.owns (λ k other. seat_owns k other (inv.owners.seats k));
    once = λ place kept. inv.owners.once place (kept_before place kept);
  }

  contents : (place : ℕ) → KeptIn o new place → GenerationHolds o (λ word. cell m word) c.history c.recorded owner c.logs (nth_generation c.generations place)
  contents place kept = (let r = inv.contents place (kept_before place kept) in record {
    taken = λ block named. changes.taken place block kept named (r.taken block named);
    whole = r.whole;
    words = recorded_narrow (shape o) (λ word. cell c.memory word) (λ word. cell m word) c.recorded _
        (λ block k listed inside. named_cells o c n m inv leaves place block k (kept_before place kept) (data_is_named o c.logs (entries o c.history) (nth_generation c.generations place) block listed) inside) r.words;
    entries_say = r.entries_say;
    snapshot = r.snapshot;
    files = r.files;
  })

  pins_hold : Pins o m views c.generations
  pins_hold = record {
    words = λ seat inside. each_set (λ (k : ℕ) (v : View). k < length m.now.pins → slice_index m.now.pins k ≡ v.seat.hold.pin) c.views n w here
        (λ low. facts.pin_is)
        (λ k other low. leaves.pins k other ∙ inv.pins.words k (let many = leaves.fits.pins in let were = inv.sizes.words.pins in omega (arith, low, many, were))) seat inside;
    holds = each_set (λ (k : ℕ) (v : View). PinHolds (first_generation o) (current o c.generations) (cell m head_place) v.seat.hold) c.views n w here facts.pin_holds (λ k other. pin_left o c n m inv leaves (view_of c.views k).seat.hold (inv.pins.holds k));
  }

  -- the walk of the seat, where fewer generations may be kept
  walk_mine : WalkHolds (around o (moved c m owner)) s.hold s.walk → WalkHolds (around o new) s.hold s.walk
  walk_mine old = record {
    to_end = old.to_end;
    from_first = old.from_first;
    to_current = old.to_current;
    read = λ reading kept. old.read reading (moved_before (s.walk.reading_generation - first_generation o) kept);
    kept_words = old.kept_words;
    unpinned = old.unpinned;
    walked = old.walked;
    ready_walked = old.ready_walked;
    ready_base = old.ready_base;
    ready_tail = old.ready_tail;
    seeking = old.seeking;
    first_known = old.first_known;
  }

  walks : (seat : ℕ) → (view_of views seat).parts ≢ [] → WalkHolds (around o new) (view_of views seat).seat.hold (view_of views seat).seat.walk
  walks = each_set (λ (k : ℕ) (v : View). v.parts ≢ [] → WalkHolds (around o new) v.seat.hold v.seat.walk) c.views n w here
      (λ some. walk_mine (facts.walk some)) (λ k other some. walk_left o c n m inv leaves views owner began kept_before (view_of c.views k).seat.hold (view_of c.views k).seat.walk (pin_kept o c n m inv leaves k) (inv.walks k some))

  noted : (seat : ℕ) → (view_of views seat).parts ≢ [] → NotedBy (around o new) (view_of views seat).seat
  noted = each_set (λ (k : ℕ) (v : View). v.parts ≢ [] → NotedBy (around o new) v.seat) c.views n w here
      (λ some. noted_left (around o (moved c m owner)) (λ place. KeptIn o new place) s.hold s.walk s.calling s.blocks.named moved_before (facts.noted some))
      (λ k other some. (let u = (view_of c.views k).seat in noted_left (around o c) (λ place. KeptIn o new place) u.hold u.walk u.calling u.blocks.named kept_before (inv.noted k some)))

  owned : (seat : ℕ) → OwnedHold (λ word. cell m word) m.past m.pending seat (view_of views seat).ghost (view_of views seat).seat
  owned = each_set (λ (k : ℕ) (v : View). OwnedHold (λ word. cell m word) m.past m.pending k v.ghost v.seat) c.views n w here facts.owned (λ k other. owned_left o c n m inv leaves k other)

  scans : (seat other : ℕ) → ScanHolds (view_of views seat).seat.giving other (view_of views other).seat.hold
  scans seat other = each_set (λ (k : ℕ) (v : View). ScanHolds v.seat.giving other (view_of views other).seat.hold) c.views n w here
      (each_set (λ (t : ℕ) (u : View). ScanHolds s.giving t u.seat.hold) c.views n w here facts.scan_self (λ t apart. facts.scan_others t apart) other)
      (λ k apart. each_set (λ (t : ℕ) (u : View). ScanHolds (view_of c.views k).seat.giving t u.seat.hold) c.views n w here (facts.scanned k apart) (λ t other. inv.givings.scans k t) other) seat

  givings : Givings o m views c.history c.generations c.logs
  givings = record {
    lists = each_set (λ (k : ℕ) (v : View). GivingHolds (names_by o c.logs (entries o c.history) c.generations) (current o c.generations) (first_generation o + head_floor m) v.seat.giving) c.views n w here
        facts.giving (λ k other. giving_left o c n m inv leaves (view_of c.views k).seat.giving (inv.givings.lists k));
    scans = scans;
  }

  records : Records o m views c.history c.generations (λ seat. slice_index began seat)
  records = record {
    writes = each_set (λ (k : ℕ) (v : View). WritesFit o c.history v) c.views n w here facts.writes (λ k other. inv.records.writes k);
    writes_once = each_set (λ (k : ℕ) (v : View). WritesOnce o c.history v) c.views n w here facts.writes_once (λ k other. inv.records.writes_once k);
    seats_once = seats_once_set o c.views n w here unspent refl c.history inv.records.seats_once
        (all_at (λ (v : View). AllByRecursion (λ (call : Call). is_listed v.parts call.seat ≡ true) v.done) c.views n here inv.records.seats_once.records);
    collected_once = λ generation above below. collected_set c.views n w generation refl facts.same_put here ∙ inv.records.collected_once generation above below;
    put = each_set (λ (k : ℕ) (v : View). PutFits o c.generations v) c.views n w here facts.put (λ k other. inv.records.put k);
    records = each_set (λ (k : ℕ) (v : View). AllByRecursion (RecordHolds o c.history c.generations) v.done) c.views n w here (inv.records.records n) (λ k other. inv.records.records k);
    never_fall = λ seat part. each_set (λ (k : ℕ) (v : View). NeverFall part 0 0 v.done) c.views n w here (inv.records.never_fall n part) (λ k other. inv.records.never_fall k part) seat;
    calls = each_set (λ (k : ℕ) (v : View). CallHolds o c.history v) c.views n w here facts.calls (λ k other. inv.records.calls k);
    begun = low_began;
    tails = each_set (λ (k : ℕ) (v : View). TailHolds v (slice_index began k)) c.views n w here facts.tail
        (λ k other. subst (λ (end : ℕ). TailHolds (view_of c.views k) end) (sym (other_began k other)) (inv.records.tails k));
    marks = each_set (λ (k : ℕ) (v : View). MarksFit (λ word. cell m word) m.past m.pending k v) c.views n w here facts.marks (λ k other. marks_left o c n m inv leaves k other (inv.records.marks k));
  }

  syncs : Syncs o m views c.history c.generations c.logs c.synced
  syncs = record {
    from_first = inv.syncs.from_first;
    to_end = inv.syncs.to_end;
    words = λ place number low inside cut less. (let kept : KeptIn o c place = record { inside = inside; why = inl (let rises = floor_up in omega (arith, low, rises)) } in
        synced_narrows (shape o) (λ word. cell c.memory word) (λ word. cell m word) c.synced (nth_log c.logs number) (nth_log c.logs (number + 1)) (inv.order.log.inside number less)
        (λ k within. log_cells o c n m inv leaves place number k kept cut less within) (inv.syncs.words place number (let rises = floor_up in omega (arith, low, rises)) inside cut less));
    views_hold = each_set (λ (k : ℕ) (v : View). SyncHolds (q_of_origin o) (names_by o c.logs (entries o c.history) c.generations) (λ word. cell m word) m.past m.pending c.synced k v) c.views n w here facts.syncs
        (λ k other. sync_left o c n m inv leaves k other (inv.syncs.views_hold k));
  }

  pub set_core : Invariant o new
  set_core = record {
    sizes = sizes;
    writes = inv.writes;
    order = order;
    owners = owners;
    contents = contents;
    pins = pins_hold;
    walks = walks;
    noted = noted;
    owned = owned;
    givings = givings;
    records = records;
    syncs = syncs;
  }
