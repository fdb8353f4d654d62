-- The invariant stays where a step of a seat puts a word more into the last log block, and blocks into the chain: the rest of the core is
-- left what it knows, and what has to hold of the new view does.
use Rattle.std.proofs.Common.{◌≡◌, ◌≢◌, ◌<◌, ◌≤◌, ◌+◌, ◌-◌, ℕ, true, nat_lt, List, [], ◌∷◌, length, refl, sym, ◌∙◌, ap, subst, arith, inl, inr, ⊎_elim, slice_set, slice_index}
use Rattle.std.specs.List.{AllByRecursion}
use Rattle.std.proofs.lemmas.List.{length-set}
use Rattle.log_entry.specs.declared.calls.Call.{Call}
use Rattle.pmem_words.specs.Seats.{Seat}
use Rattle.persistence.specs.Memory.{PendingMark, cell}
use Rattle.log_image.specs.Chains.{is_listed}
use Rattle.log_core.specs.Entries.{head_place}
use Rattle.log_core.specs.Views.{View, Ghost, view_of, spent_view}
use Rattle.log_core.specs.Origin.{Origin, shape, q_of_origin, first_generation, Owner, OwnedBy, LeftTo}
use Rattle.log_core.specs.Files.{Write, entries, end_of}
use Rattle.log_core.specs.Cores.{Core, current, head_floor}
use Rattle.log_core.specs.Sizes.{Sizes, SeatFits}
use Rattle.log_core.specs.Owners.{BitsFit, SeatOwns}
use Rattle.log_core.specs.Pins.{PinHolds}
use Rattle.log_core.specs.Walks.{WalkHolds}
use Rattle.log_core.specs.Noted.{NotedBy}
use Rattle.log_core.specs.Owned.{OwnedHold}
use Rattle.log_core.specs.Giving.{GivingHolds, ScanHolds}
use Rattle.log_core.specs.Records.{WritesFit, WritesOnce, SeatsOnce, PutFits, CallHolds, TailHolds, MarksFit, RecordHolds, NeverFall, one_if}
use Rattle.log_core.specs.Synced.{SyncHolds}
use Rattle.log_core.specs.Invariant.{Invariant, KeptIn, around, names_by, Order, Owners, Pins, Givings, Records, Syncs}
use Rattle.log_core.specs.Knows.{with_seat, Knows}
use Rattle.log_core.proofs.Heads.{kept_place}
use Rattle.log_core.proofs.Each.{each_weaker}
use Rattle.log_core.proofs.clauses.OneView.{each_set, parts_set, collected_set, all_set, all_at}
use Rattle.log_core.proofs.clauses.Growth.{Growth, Grows, grown, owner_grown}
use Rattle.log_core.proofs.clauses.GrownWords.{floor_same}
use Rattle.log_core.proofs.clauses.GrownNames.{bits_grown, chain_grown, once_grown, list_same}
use Rattle.log_core.proofs.clauses.GrownOrder.{heads_grown, rise_grown, chains_grown, synced_grown}
use Rattle.log_core.proofs.clauses.GrownContents.{contents_grown}
use Rattle.log_core.proofs.NotedGrown.{noted_left}
use Rattle.log_core.proofs.clauses.GrownNoted.{noted_grown}
use Rattle.log_core.proofs.clauses.GrownWalks.{walk_grown}
use Rattle.log_core.proofs.clauses.GrownOthers.{owned_view, giving_grown, pin_grown, marks_grown, sync_grown}
use Rattle.log_core.proofs.clauses.GrownRecords.{writes_grown, once_of_others, own_part, record_grown, calls_grown}

-- no view's position is past the end
pub position_low : (o : Origin) (c : Core) → Invariant o c → (k : ℕ) → (view_of c.views k).seat.walk.position ≤ end_of o c.history
position_low o c inv k = by (view_of c.views k).parts refl
  where
    by : (parts : List ℕ) → (view_of c.views k).parts ≡ parts → (view_of c.views k).seat.walk.position ≤ end_of o c.history
    by [] is = subst (λ (v : View). v.seat.walk.position ≤ end_of o c.history) (sym (inv.sizes.spent k is)) (omega arith)
    by (part ∷ parts) is = (inv.walks k (λ none. (let both = sym is ∙ none in cc))).to_end

module _ (o : Origin) (c : Core) (x : Growth) (s : Seat) (g : Ghost) (began : List ℕ) (inv : Invariant o c) (grows : Grows o c x) (here : x.n < length c.views)
    (unspent : (view_of c.views x.n).parts ≢ [])
    (facts : Knows o (grown c x) x.n s g (slice_index x.memory.now.pins x.n) (slice_index began x.n))
    (same_began : length began ≡ length c.began) (other_began : (k : ℕ) → k ≢ x.n → slice_index began k ≡ slice_index c.began k) (low_began : (k : ℕ) → slice_index began k ≤ end_of o c.history) where
  abbrev n : ℕ
  n = x.n

  abbrev w : View
  w = with_seat (view_of c.views n) s g

  abbrev views : List View
  views = slice_set c.views n w

  abbrev new : Core
  new = record (grown c x) { views = views; began = began }

  count : length views ≡ length c.views
  count = length-set c.views n w

  -- a generation that is kept now was kept before
  pinned : (place seat : ℕ) → (view_of views seat).seat.hold.valid ≡ true → (view_of views seat).seat.hold.generation ≡ first_generation o + place → place < length c.generations → KeptIn o c place
  pinned place seat = each_set (λ (k : ℕ) (v : View). v.seat.hold.valid ≡ true → v.seat.hold.generation ≡ first_generation o + place → place < length c.generations → KeptIn o c place)
      c.views n w here (λ valid same inside. kept_place o c inv place (facts.kept place valid same))
      (λ k other valid same inside. record { inside = inside; why = inr (record { seat = k; valid = valid; same = same }) }) seat

  kept_before : (place : ℕ) → KeptIn o new place → KeptIn o c place
  kept_before place kept = ⊎_elim
      (λ floor. record { inside = kept.inside; why = inl (let same = floor_same o c x inv grows in omega (arith, floor, same)) })
      (λ pin. pinned place pin.seat pin.valid pin.same kept.inside)
      kept.why

  -- and so it was with the old views
  grown_before : (place : ℕ) → KeptIn o new place → KeptIn o (grown c x) place
  grown_before place kept = (let before = kept_before place kept in record {
    inside = before.inside;
    why = ⊎_elim (λ floor. inl (let same = floor_same o c x inv grows in omega (arith, floor, same))) (λ pin. inr pin) before.why;
  })

  pin_kept : (k : ℕ) → (view_of c.views k).seat.hold.valid ≡ true → KeptIn o c ((view_of c.views k).seat.hold.generation - first_generation o)
  pin_kept k valid = kept_place o c inv ((view_of c.views k).seat.hold.generation - first_generation o)
      (inr (record { seat = k; valid = valid; same = (let low = (inv.pins.holds k).from_first ((inv.pins.holds k).valid_some valid) in omega (arith, low)) }))

  sizes : Sizes o x.memory views began
  sizes = (let m = grows.memory.fits in record {
    seats = inv.sizes.seats;
    image = inv.sizes.image;
    words = record {
      words = m.words;
      taken = m.taken;
      pins = m.pins;
      floors = m.floors;
      reached = m.reached;
      small = m.small;
      small_past = m.small_past;
      pending = subst (λ (k : ℕ). AllByRecursion (λ (note : PendingMark). (note.seat < k) × (note.word < length o.words) × (note.time ≤ length x.memory.past)) x.memory.pending) (sym count) m.pending;
    };
    some = subst (λ (k : ℕ). 0 < k) (sym count) inv.sizes.some;
    few = subst (λ (k : ℕ). k ≤ o.seats) (sym count) inv.sizes.few;
    begun = same_began ∙ (inv.sizes.begun ∙ sym count);
    made = λ some. subst (λ (k : ℕ). (view_of views 0).made ≡ k) (sym count)
        (each_set (λ (k : ℕ) (v : View). k ≡ 0 → v.parts ≢ [] → v.made ≡ length c.views) c.views n w here
        (λ zero_is parts. subst (λ (k : ℕ). (view_of c.views k).parts ≢ [] → (view_of c.views k).made ≡ length c.views) (sym zero_is) inv.sizes.made parts)
        (λ k other zero_is parts. subst (λ (j : ℕ). (view_of c.views j).parts ≢ [] → (view_of c.views j).made ≡ length c.views) (sym zero_is) inv.sizes.made parts) 0 refl some);
    few_made = λ number. subst (λ (k : ℕ). (view_of views number).made ≤ k) (sym count)
        (each_set (λ (k : ℕ) (v : View). v.made ≤ length c.views) c.views n w here (inv.sizes.few_made n) (λ k other. inv.sizes.few_made k) number);
    spent = each_set (λ (k : ℕ) (v : View). v.parts ≡ [] → v ≡ spent_view) c.views n w here (λ none. absurd (unspent none)) (λ k other none. inv.sizes.spent k none);
    each = λ number inside some. each_set (λ (k : ℕ) (v : View). k < length c.views → v.parts ≢ [] → SeatFits o k v) c.views n w here
        (λ low parts. facts.fits parts) (λ k other low parts. inv.sizes.each k low parts) number (subst (λ (k : ℕ). number < k) count inside) some;
  })

  order : Order o x.memory x.history c.generations x.logs (λ place. KeptIn o new place)
  order = record {
    heads = heads_grown o c x inv grows;
    generations_rise = rise_grown o c x inv grows;
    log = grows.order;
    chains = λ place kept. chains_grown o c x inv grows place (kept_before place kept);
  }

  owners : Owners o x.memory.now.taken views x.history c.generations x.logs (λ block. owner_grown c x block) (λ place. KeptIn o new place)
  owners = record {
    bits = subst (λ (taken : List ℕ). BitsFit (shape o) taken (λ block. owner_grown c x block)) (sym grows.memory.taken) (bits_grown o c x inv grows inv.owners.bits);
    chain = chain_grown o c x inv grows;
    seats = each_set (λ (k : ℕ) (v : View). SeatOwns (λ block. owner_grown c x block) k v.seat) c.views n w here facts.owns (λ k other. record {
      owned = list_same o c x inv grows _ (OwnedBy k) (λ e. cc) (λ e. other (ap owned_number e)) (inv.owners.seats k).owned;
      left = list_same o c x inv grows _ (LeftTo k) (λ e. cc) (λ e. cc) (inv.owners.seats k).left;
    });
    once = λ place kept. once_grown o c x inv grows place (kept_before place kept);
  }
    where
      owned_number : Owner → ℕ
      owned_number (OwnedBy k) = k
      owned_number _ = 0

  pins_hold : Pins o x.memory views c.generations
  pins_hold = record {
    words = λ seat inside. each_set (λ (k : ℕ) (v : View). k < length x.memory.now.pins → slice_index x.memory.now.pins k ≡ v.seat.hold.pin) c.views n w here
        (λ low. facts.pin_is)
        (λ k other low. ap (λ (pins : List ℕ). slice_index pins k) grows.memory.pins ∙ inv.pins.words k (let many = ap (λ (pins : List ℕ). length pins) grows.memory.pins in omega (arith, low, many))) seat inside;
    holds = each_set (λ (k : ℕ) (v : View). PinHolds (first_generation o) (current o c.generations) (cell x.memory head_place) v.seat.hold) c.views n w here facts.pin_holds
        (λ k other. pin_grown o c x inv grows (view_of c.views k).seat.hold (inv.pins.holds k));
  }

  walk_mine : WalkHolds (around o (grown c x)) s.hold s.walk → WalkHolds (around o new) s.hold s.walk
  walk_mine old = record {
    to_end = old.to_end;
    from_first = old.from_first;
    to_current = old.to_current;
    read = λ reading kept. old.read reading (grown_before (s.walk.reading_generation - first_generation o) kept);
    kept_words = old.kept_words;
    unpinned = old.unpinned;
    walked = old.walked;
    ready_walked = old.ready_walked;
    ready_base = old.ready_base;
    ready_tail = old.ready_tail;
    seeking = old.seeking;
    first_known = old.first_known;
  }

  walks : (seat : ℕ) → (view_of views seat).parts ≢ [] → WalkHolds (around o new) (view_of views seat).seat.hold (view_of views seat).seat.walk
  walks = each_set (λ (k : ℕ) (v : View). v.parts ≢ [] → WalkHolds (around o new) v.seat.hold v.seat.walk) c.views n w here
      (λ some. walk_mine (facts.walk some)) (λ k other some. walk_grown o c x inv grows views began kept_before (view_of c.views k).seat.hold (pin_kept k) (view_of c.views k).seat.walk (inv.walks k some))

  noted : (seat : ℕ) → (view_of views seat).parts ≢ [] → NotedBy (around o new) (view_of views seat).seat
  noted = each_set (λ (k : ℕ) (v : View). v.parts ≢ [] → NotedBy (around o new) v.seat) c.views n w here
      (λ some. noted_left (around o (grown c x)) (λ place. KeptIn o new place) s.hold s.walk s.calling s.blocks.named grown_before (facts.noted some))
      (λ k other some. (let u = (view_of c.views k).seat in noted_grown o c x inv grows views began kept_before u.hold u.walk u.calling u.blocks.named (inv.walks k some) (inv.noted k some)))

  scans : (seat other : ℕ) → ScanHolds (view_of views seat).seat.giving other (view_of views other).seat.hold
  scans seat other = each_set (λ (k : ℕ) (v : View). ScanHolds v.seat.giving other (view_of views other).seat.hold) c.views n w here
      (each_set (λ (t : ℕ) (u : View). ScanHolds s.giving t u.seat.hold) c.views n w here facts.scan_self (λ t apart. facts.scan_others t apart) other)
      (λ k apart. each_set (λ (t : ℕ) (u : View). ScanHolds (view_of c.views k).seat.giving t u.seat.hold) c.views n w here (facts.scanned k apart) (λ t other. inv.givings.scans k t) other) seat

  givings : Givings o x.memory views x.history c.generations x.logs
  givings = record {
    lists = each_set (λ (k : ℕ) (v : View). GivingHolds (names_by o x.logs (entries o x.history) c.generations) (current o c.generations) (first_generation o + head_floor x.memory) v.seat.giving) c.views n w here
        facts.giving (λ k other. giving_grown o c x inv grows k (view_of c.views k).seat.giving (inv.owners.seats k).left (inv.givings.lists k));
    scans = scans;
  }

  seats_once : SeatsOnce x.history views
  seats_once = record {
    once = λ seat. parts_set c.views n w seat refl here ∙ (inv.records.seats_once.once seat ∙ ap (λ (k : ℕ). one_if (nat_lt seat k)) (sym count));
    own = each_set (λ (k : ℕ) (v : View). v.parts ≢ [] → is_listed v.parts k ≡ true) c.views n w here (inv.records.seats_once.own n) (λ k other. inv.records.seats_once.own k);
    writes = subst (λ (k : ℕ). AllByRecursion (λ (write : Write). write.seat < k) x.history) (sym count) grows.seats;
    records = all_set (λ (v : View). AllByRecursion (λ (call : Call). is_listed v.parts call.seat ≡ true) v.done) c.views n w
        (all_at (λ (v : View). AllByRecursion (λ (call : Call). is_listed v.parts call.seat ≡ true) v.done) c.views n here inv.records.seats_once.records) inv.records.seats_once.records;
  }

  early : (k : ℕ) → AllByRecursion (λ (call : Call). call.position ≤ end_of o c.history) (view_of c.views k).done
  early k = each_weaker (RecordHolds o c.history c.generations) (λ (call : Call). call.position ≤ end_of o c.history) (view_of c.views k).done (λ call r. r.to_end) (inv.records.records k)

  records_more : (k : ℕ) → AllByRecursion (RecordHolds o x.history c.generations) (view_of c.views k).done
  records_more k = each_weaker (RecordHolds o c.history c.generations) (RecordHolds o x.history c.generations) (view_of c.views k).done
      (λ call r. record_grown o n c.history x.history x.named grows.history c.generations call r) (inv.records.records k)

  records : Records o x.memory views x.history c.generations (λ seat. slice_index began seat)
  records = record {
    writes = each_set (λ (k : ℕ) (v : View). WritesFit o x.history v) c.views n w here facts.writes
        (λ k other. writes_grown o n c.history x.history x.named grows.history (view_of c.views k) (position_low o c inv k) (inv.records.writes k));
    writes_once = each_set (λ (k : ℕ) (v : View). WritesOnce o x.history v) c.views n w here facts.writes_once
        (λ k other. once_of_others o n c.history x.history x.named grows.history (view_of c.views k) (position_low o c inv k)
        (λ some. own_part c.history c.views inv.records.seats_once n unspent k other some) (early k) (inv.records.writes_once k));
    seats_once = seats_once;
    collected_once = λ generation above below. collected_set c.views n w generation refl facts.same_put here ∙ inv.records.collected_once generation above below;
    put = each_set (λ (k : ℕ) (v : View). PutFits o c.generations v) c.views n w here facts.put (λ k other. inv.records.put k);
    records = each_set (λ (k : ℕ) (v : View). AllByRecursion (RecordHolds o x.history c.generations) v.done) c.views n w here (records_more n) (λ k other. records_more k);
    never_fall = λ seat part. each_set (λ (k : ℕ) (v : View). NeverFall part 0 0 v.done) c.views n w here (inv.records.never_fall n part) (λ k other. inv.records.never_fall k part) seat;
    calls = each_set (λ (k : ℕ) (v : View). CallHolds o x.history v) c.views n w here facts.calls
        (λ k other. calls_grown o n c.history x.history x.named grows.history (view_of c.views k) (position_low o c inv k) (inv.records.calls k));
    begun = λ k. (let low = low_began k in let more = grows.history.longer in omega (arith, low, more));
    tails = each_set (λ (k : ℕ) (v : View). TailHolds v (slice_index began k)) c.views n w here facts.tail
        (λ k other. subst (λ (end : ℕ). TailHolds (view_of c.views k) end) (sym (other_began k other)) (inv.records.tails k));
    marks = each_set (λ (k : ℕ) (v : View). MarksFit (λ word. cell x.memory word) x.memory.past x.memory.pending k v) c.views n w here facts.marks
        (λ k other. marks_grown o c x inv grows k (view_of c.views k) (inv.records.marks k));
  }

  syncs : Syncs o x.memory views x.history c.generations x.logs c.synced
  syncs = record {
    from_first = inv.syncs.from_first;
    to_end = (let low = inv.syncs.to_end in let more = grows.history.longer in omega (arith, low, more));
    words = λ place number low inside cut less. (let same = floor_same o c x inv grows in let floor : head_floor c.memory ≤ place = omega (arith, low, same) in
        synced_grown o c x inv grows place number (record { inside = inside; why = inl floor }) floor cut less);
    views_hold = each_set (λ (k : ℕ) (v : View). SyncHolds (q_of_origin o) (names_by o x.logs (entries o x.history) c.generations) (λ word. cell x.memory word) x.memory.past x.memory.pending c.synced k v) c.views n w here facts.syncs
        (λ k other. sync_grown o c x inv grows k (view_of c.views k) (pin_kept k) (inv.syncs.views_hold k));
  }

  -- so the invariant holds
  pub grow_core : Invariant o new
  grow_core = record {
    sizes = sizes;
    writes = grows.holds;
    order = order;
    owners = owners;
    contents = λ place kept. contents_grown o c x inv grows place (kept_before place kept);
    pins = pins_hold;
    walks = walks;
    noted = noted;
    owned = each_set (λ (k : ℕ) (v : View). OwnedHold (λ word. cell x.memory word) x.memory.past x.memory.pending k v.ghost v.seat) c.views n w here facts.owned (λ k other. owned_view o c x inv grows k);
    givings = givings;
    records = records;
    syncs = syncs;
  }
