-- A split keeps the invariant: the new view has made no step, and the others are as they were, but for how many seats are made.
use Rattle.std.proofs.Common.{◌≡◌, ◌≢◌, ◌<◌, ◌≤◌, ◌+◌, ◌-◌, ◌==◌, ◌||◌, inl, inr, ⊎_elim, ℕ, zero, suc, Bool, true, false, nat_lt, List, [], ◌∷◌, ◌++◌, length, refl, sym, ◌∙◌, ap, subst, arith, slice_index, slice_set}
use Rattle.std.specs.List.{AllByRecursion}
use Rattle.std.proofs.lemmas.Bool.{cases_lt, false≢true, or_left, eq-eqb, eqb-true}
use Rattle.std.proofs.lemmas.Bool.Decides.{nat_tests}
use Rattle.std.proofs.lemmas.List.{length-set, length_push, length-replicate, get_or_append_left, get_or_push, get_or_past}
use Rattle.log_entry.specs.declared.calls.Call.{Call}
use Rattle.pmem_words.specs.Seats.{bitmap_words}
use Rattle.pmem_words.proofs.MapLaws.{length_unmapped}
use Rattle.persistence.specs.Memory.{PendingMark, cell}
use Rattle.log_image.specs.Chains.{is_listed}
use Rattle.log_core.specs.Entries.{head_place}
use Rattle.log_core.specs.Views.{View, new_view, view_of, spent_view}
use Rattle.log_core.specs.Origin.{Origin, q_of_origin, first_position, first_generation}
use Rattle.log_core.specs.Files.{Write, no_write, write_at, entries, end_of}
use Rattle.log_core.specs.Cores.{Core, current, head_floor, IsPinned}
use Rattle.log_core.specs.Sizes.{SeatFits, Sizes}
use Rattle.log_core.specs.Owners.{SeatOwns}
use Rattle.log_core.specs.Pins.{PinHolds}
use Rattle.log_core.specs.Walks.{WalkHolds}
use Rattle.log_core.specs.Noted.{NotedBy}
use Rattle.log_core.specs.Owned.{OwnedHold}
use Rattle.log_core.specs.Giving.{GivingHolds, ScanHolds}
use Rattle.log_core.specs.Records.{one_if, WritesFit, WritesOnce, SeatsOnce, PutFits, RecordHolds, NeverFall, CallHolds, TailHolds, MarksFit, parts_with, collected_by}
use Rattle.log_core.specs.Synced.{SyncHolds}
use Rattle.log_core.specs.Steps.{Splits, view_left, view_right}
use Rattle.log_core.specs.After.{after}
use Rattle.log_core.specs.Runs.{MaySplit}
use Rattle.log_core.specs.Invariant.{Invariant, KeptIn, around, names_by, Records}
use Rattle.log_core.proofs.Each.{each_weaker, each_push, each_at}
use Rattle.log_core.proofs.Heads.{some_generation}
use Rattle.log_core.proofs.NotedGrown.{noted_left}
use Rattle.log_core.proofs.clauses.Others.{unspent_made}
use Rattle.log_core.proofs.clauses.OneView.{each_set, parts_set, collected_set, all_set, all_at, same_or_other}
use Rattle.log_core.proofs.starts.StartSeats.{no_pin, walks_at, gives_none, scans_none, not_syncing, not_put, no_position, no_call_holds}

-- one element more at the end adds its part
parts_push : (views : List View) (w : View) (seat : ℕ) → parts_with (views ++ w ∷ []) seat ≡ parts_with views seat + parts_with (w ∷ []) seat
parts_push [] w seat = omega arith
parts_push (v ∷ views) w seat = (let rest = parts_push views w seat in omega (arith, rest))

collected_push : (views : List View) (w : View) (generation : ℕ) → collected_by generation (views ++ w ∷ []) ≡ collected_by generation views + collected_by generation (w ∷ [])
collected_push [] w generation = omega arith
collected_push (v ∷ views) w generation = (let rest = collected_push views w generation in omega (arith, rest))

-- past its end a list has 0
index_push_zero : (began : List ℕ) (k : ℕ) → slice_index (began ++ 0 ∷ []) k ≡ slice_index began k
index_push_zero [] zero = refl
index_push_zero [] (suc k) = refl
index_push_zero (b ∷ began) zero = refl
index_push_zero (b ∷ began) (suc k) = index_push_zero began k

-- the seats made, with one more
one_more : (count seat : ℕ) → one_if (nat_lt seat count) + (one_if (count == seat) + 0 + 0) ≡ one_if (nat_lt seat (count + 1))
one_more count seat = grind (arith, nat_tests)

module _ (o : Origin) (c : Core) (inv : Invariant o c) (may : MaySplit o c 0) where
  abbrev first_view : View
  first_view = view_of c.views 0

  abbrev count : ℕ
  count = length c.views

  abbrev left : View
  left = view_left first_view

  abbrev fresh_view : View
  fresh_view = new_view o.geometry o.seats (first_position o) 0 count

  abbrev views : List View
  views = slice_set c.views 0 left ++ view_right first_view ∷ []

  abbrev new : Core
  new = record c { views = views; began = c.began ++ 0 ∷ [] }

  fits : SeatFits o 0 first_view
  fits = inv.sizes.each 0 may.made may.unspent

  made_is : first_view.made ≡ count
  made_is = inv.sizes.made may.unspent

  right_is : view_right first_view ≡ fresh_view
  right_is = rw (fits.geometry, fits.seats, fits.first, made_is) refl

  long : length views ≡ count + 1
  long = length_push (slice_set c.views 0 left) (view_right first_view) ∙ ap (λ (k : ℕ). k + 1) (length-set c.views 0 left)

  -- a fact of each view, by the two that are new
  pub each_grown : (P : ℕ → View → Type 0) → P 0 left → P count fresh_view → ((k : ℕ) → k ≢ 0 → P k (view_of c.views k)) → (k : ℕ) → P k (view_of views k)
  each_grown P first last others k = ⊎_elim (λ (low : k < count). at_old low) (λ (high : count ≤ k). same_or_other k count (λ same. at_end same) (λ other. past high other)) (cases_lt k count)
    where
      at_old : k < count → P k (view_of views k)
      at_old low = subst (λ (v : View). P k v) (sym (get_or_append_left (slice_set c.views 0 left) (view_right first_view ∷ []) spent_view k (let same = length-set c.views 0 left in omega (arith, low, same))))
          (each_set P c.views 0 left may.made first others k)

      at_end : k ≡ count → P k (view_of views k)
      at_end same = subst (λ (v : View). P k v) (sym (get_or_push (slice_set c.views 0 left) (view_right first_view) spent_view k (length-set c.views 0 left ∙ sym same) ∙ right_is))
          (subst (λ (j : ℕ). P j fresh_view) (sym same) last)

      past : count ≤ k → k ≢ count → P k (view_of views k)
      past high other = (let few = may.made in let many = long in
          subst (λ (v : View). P k v) (get_or_past c.views k spent_view high ∙ sym (get_or_past views k spent_view (omega (arith, high, other, many))))
          (others k (λ zero_is. (let none : count ≡ 0 = omega (arith, zero_is, high) in omega (arith, none, few)))))

  -- no view is pinned that was not
  pinned_before : (place seat : ℕ) → (view_of views seat).seat.hold.valid ≡ true → (view_of views seat).seat.hold.generation ≡ first_generation o + place → IsPinned o c.views place
  pinned_before place = each_grown (λ (k : ℕ) (v : View). v.seat.hold.valid ≡ true → v.seat.hold.generation ≡ first_generation o + place → IsPinned o c.views place)
      (λ valid same. record { seat = 0; valid = valid; same = same }) (λ valid same. absurd (false≢true valid)) (λ k other valid same. record { seat = k; valid = valid; same = same })

  kept_before : (place : ℕ) → KeptIn o new place → KeptIn o c place
  kept_before place kept = record { inside = kept.inside; why = ⊎_elim (λ floor. inl floor) (λ pin. inr (pinned_before place pin.seat pin.valid pin.same)) kept.why }

  more : {k : ℕ} → k < count → k < length views
  more {k} low = (let e = long in omega (arith, low, e))

  sizes : Sizes o c.memory views (c.began ++ 0 ∷ [])
  sizes = record {
    seats = inv.sizes.seats;
    image = inv.sizes.image;
    words = (let r = inv.sizes.words in record {
      words = r.words;
      taken = r.taken;
      pins = r.pins;
      floors = r.floors;
      reached = r.reached;
      small = r.small;
      small_past = r.small_past;
      pending = each_weaker (λ (note : PendingMark). (note.seat < count) × (note.word < length o.words) × (note.time ≤ length c.memory.past))
          (λ (note : PendingMark). (note.seat < length views) × (note.word < length o.words) × (note.time ≤ length c.memory.past)) c.memory.pending (λ note known. (more known.0, known.1, known.2)) r.pending;
    });
    some = (let e = long in omega (arith, e));
    few = (let e = long in let room = may.room in let made = made_is in omega (arith, e, room, made));
    begun = length_push c.began 0 ∙ (ap (λ (k : ℕ). k + 1) inv.sizes.begun ∙ sym long);
    made = λ some. each_grown (λ (k : ℕ) (v : View). k ≡ 0 → v.made ≡ length views) (λ zero_is. ap (λ (k : ℕ). k + 1) made_is ∙ sym long)
        (λ zero_is. (let low = may.made in absurd (omega (arith, zero_is, low)))) (λ k other zero_is. absurd (other zero_is)) 0 refl;
    few_made = each_grown (λ (k : ℕ) (v : View). v.made ≤ length views) (let e = long in let made = made_is in omega (arith, e, made)) (omega arith)
        (λ k other. (let e = long in let low = inv.sizes.few_made k in omega (arith, e, low)));
    spent = each_grown (λ (k : ℕ) (v : View). v.parts ≡ [] → v ≡ spent_view) (λ none. absurd (may.unspent none)) (λ none. cc) (λ k other. inv.sizes.spent k);
    each = λ number inside. each_grown (λ (k : ℕ) (v : View). v.parts ≢ [] → SeatFits o k v)
        (λ some. record { number = fits.number; seats = fits.seats; geometry = fits.geometry; first = fits.first; found = fits.found; named = fits.named; map = fits.map })
        (λ some. record { number = refl; seats = refl; geometry = refl; first = refl; found = length-replicate (bitmap_words o.geometry) 0; named = length-replicate (bitmap_words o.geometry) 0; map = length_unmapped })
        (λ k other some. inv.sizes.each k (unspent_made c.views k some) some) number;
  }

  owns : (k : ℕ) → SeatOwns c.owner k (view_of views k).seat
  owns = each_grown (λ (k : ℕ) (v : View). SeatOwns c.owner k v.seat) (let r = inv.owners.seats 0 in record { owned = r.owned; left = r.left }) none (λ k other. inv.owners.seats k)
    where
      past_end : view_of c.views count ≡ spent_view
      past_end = get_or_past c.views count spent_view (omega arith)

      -- nobody has a block by the new seat's number
      none : SeatOwns c.owner count fresh_view.seat
      none = (let r = subst (λ (v : View). SeatOwns c.owner count v.seat) past_end (inv.owners.seats count) in record { owned = r.owned; left = r.left })

  noted : (k : ℕ) → (view_of views k).parts ≢ [] → NotedBy (around o new) (view_of views k).seat
  noted = each_grown (λ (k : ℕ) (v : View). v.parts ≢ [] → NotedBy (around o new) v.seat)
      (λ some. fewer_noted first_view (inv.noted 0 some)) (λ some. ((λ on. cc), (λ on. cc), (λ on. cc))) (λ k other some. fewer_noted (view_of c.views k) (inv.noted k some))
    where
      fewer_noted : (v : View) → NotedBy (around o c) v.seat → NotedBy (around o new) v.seat
      fewer_noted v r = noted_left (around o c) (λ place. KeptIn o new place) v.seat.hold v.seat.walk v.seat.calling v.seat.blocks.named kept_before r

  walks : (k : ℕ) → (view_of views k).parts ≢ [] → WalkHolds (around o new) (view_of views k).seat.hold (view_of views k).seat.walk
  walks = each_grown (λ (k : ℕ) (v : View). v.parts ≢ [] → WalkHolds (around o new) v.seat.hold v.seat.walk)
      (λ some. fewer first_view (inv.walks 0 some)) (λ some. walks_at (around o new) (first_position o) (omega arith)) (λ k other some. fewer (view_of c.views k) (inv.walks k some))
    where
      fewer : (v : View) → WalkHolds (around o c) v.seat.hold v.seat.walk → WalkHolds (around o new) v.seat.hold v.seat.walk
      fewer v r = record {
        to_end = r.to_end;
        from_first = r.from_first;
        to_current = r.to_current;
        read = λ reading kept. r.read reading (kept_before (v.seat.walk.reading_generation - first_generation o) kept);
        kept_words = r.kept_words;
        unpinned = r.unpinned;
        walked = r.walked;
        ready_walked = r.ready_walked;
        ready_base = r.ready_base;
        ready_tail = r.ready_tail;
        seeking = r.seeking;
        first_known = r.first_known;
      }

  scans : (seat other : ℕ) → ScanHolds (view_of views seat).seat.giving other (view_of views other).seat.hold
  scans seat other = each_grown (λ (k : ℕ) (v : View). ScanHolds v.seat.giving other (view_of views other).seat.hold)
      (of_other 0) (scans_none other (view_of views other).seat.hold) (λ k apart. of_other k) seat
    where
      of_other : (k : ℕ) → ScanHolds (view_of c.views k).seat.giving other (view_of views other).seat.hold
      of_other k = each_grown (λ (t : ℕ) (u : View). ScanHolds (view_of c.views k).seat.giving t u.seat.hold) (inv.givings.scans k 0)
          (record { replaced = λ inside clear valid. absurd (false≢true valid); limbo = λ inside clear valid. absurd (false≢true valid) }) (λ t apart. inv.givings.scans k t) other

  -- each write of the history is of an older seat
  write_low : (position : ℕ) → first_position o < position → position ≤ end_of o c.history → (write_at o c.history position).seat < count
  write_low position above below = each_at (λ (w : Write). w.seat < count) c.history no_write (position - (first_position o + 1)) (omega (arith, above, below)) inv.records.seats_once.writes

  seats_once : SeatsOnce c.history views
  seats_once = record {
    once = λ seat. parts_push (slice_set c.views 0 left) (view_right first_view) seat
        ∙ (ap (λ (k : ℕ). parts_with (slice_set c.views 0 left) seat + k) (ap (λ (v : View). parts_with (v ∷ []) seat) right_is)
        ∙ (ap (λ (k : ℕ). k + parts_with (fresh_view ∷ []) seat) (parts_set c.views 0 left seat refl may.made ∙ inv.records.seats_once.once seat)
        ∙ (one_more count seat ∙ ap (λ (k : ℕ). one_if (nat_lt seat k)) (sym long))));
    own = each_grown (λ (k : ℕ) (v : View). v.parts ≢ [] → is_listed v.parts k ≡ true) (inv.records.seats_once.own 0)
        (λ some. or_left (count == count) false (eq-eqb count count refl)) (λ k other. inv.records.seats_once.own k);
    writes = each_weaker (λ (w : Write). w.seat < count) (λ (w : Write). w.seat < length views) c.history (λ w low. more low) inv.records.seats_once.writes;
    records = each_push RecordsOwn (slice_set c.views 0 left) (view_right first_view) (all_set RecordsOwn c.views 0 left (all_at RecordsOwn c.views 0 may.made inv.records.seats_once.records) inv.records.seats_once.records) tt;
  }
    where
      RecordsOwn : View → Type 0
      RecordsOwn v = AllByRecursion (λ (call : Call). is_listed v.parts call.seat ≡ true) v.done

  records : Records o c.memory views c.history c.generations (λ seat. slice_index (c.began ++ 0 ∷ []) seat)
  records = record {
    writes = each_grown (λ (k : ℕ) (v : View). WritesFit o c.history v) (let r = inv.records.writes 0 in record { recorded = r.recorded; running = r.running })
        (record { recorded = tt; running = λ won. absurd (false≢true won) }) (λ k other. inv.records.writes k);
    writes_once = each_grown (λ (k : ℕ) (v : View). WritesOnce o c.history v) (inv.records.writes_once 0)
        (λ some position above below. not_mine (write_at o c.history position).seat (write_low position above below)) (λ k other. inv.records.writes_once k);
    seats_once = seats_once;
    collected_once = λ generation above below. collected_push (slice_set c.views 0 left) (view_right first_view) generation
        ∙ (let old = collected_set c.views 0 left generation refl refl may.made in let one = inv.records.collected_once generation above below in omega (arith, old, one));
    put = each_grown (λ (k : ℕ) (v : View). PutFits o c.generations v) (inv.records.put 0)
        (record { own = λ head is. absurd (not_put head is); found = (let some = inv.order.heads.some in omega (arith, some)) }) (λ k other. inv.records.put k);
    records = each_grown (λ (k : ℕ) (v : View). AllByRecursion (RecordHolds o c.history c.generations) v.done) (inv.records.records 0) tt (λ k other. inv.records.records k);
    never_fall = λ seat part. each_grown (λ (k : ℕ) (v : View). NeverFall part 0 0 v.done) (inv.records.never_fall 0 part) tt (λ k other. inv.records.never_fall k part) seat;
    calls = each_grown (λ (k : ℕ) (v : View). CallHolds o c.history v) (let r = inv.records.calls 0 in record { laid = r.laid; bases = r.bases; reading = r.reading; numbers = r.numbers; task = r.task })
        (no_call_holds o c.history o.geometry o.seats (first_position o) 0 count (count ∷ [])) (λ k other. inv.records.calls k);
    begun = λ seat. subst (λ (began : ℕ). began ≤ end_of o c.history) (sym (index_push_zero c.began seat)) (inv.records.begun seat);
    tails = each_grown (λ (k : ℕ) (v : View). TailHolds v (slice_index (c.began ++ 0 ∷ []) k)) (tail_of 0) (λ at_tail. absurd (false≢true at_tail)) (λ k other. tail_of k);
    marks = each_grown (λ (k : ℕ) (v : View). MarksFit (λ word. cell c.memory word) c.memory.past c.memory.pending k v) (inv.records.marks 0)
        (subst (λ (v : View). MarksFit (λ word. cell c.memory word) c.memory.past c.memory.pending count v) (get_or_past c.views count spent_view (omega arith)) (inv.records.marks count)) (λ k other. inv.records.marks k);
  }
    where
      not_mine : (seat : ℕ) → seat < count → 0 ≡ one_if ((count == seat) || false)
      not_mine seat low = by (count == seat) refl
        where
          by : (b : Bool) → (count == seat) ≡ b → 0 ≡ one_if (b || false)
          by true e = (let same = eqb-true count seat e in absurd (omega (arith, same, low)))
          by false e = refl

      tail_of : (k : ℕ) → TailHolds (view_of c.views k) (slice_index (c.began ++ 0 ∷ []) k)
      tail_of k = subst (λ (began : ℕ). TailHolds (view_of c.views k) began) (sym (index_push_zero c.began k)) (inv.records.tails k)

  pub split_holds : Invariant o (after o c (Splits 0))
  split_holds = record {
    sizes = sizes;
    writes = inv.writes;
    order = (let r = inv.order in record { heads = r.heads; generations_rise = r.generations_rise; log = r.log; chains = λ place kept. r.chains place (kept_before place kept) });
    owners = (let r = inv.owners in record { bits = r.bits; chain = r.chain; seats = owns; once = λ place kept. r.once place (kept_before place kept) });
    contents = λ place kept. inv.contents place (kept_before place kept);
    pins = record {
      words = λ seat inside. each_grown (λ (k : ℕ) (v : View). k < length c.memory.now.pins → slice_index c.memory.now.pins k ≡ v.seat.hold.pin) (inv.pins.words 0)
          (λ inside. inv.pins.words count inside ∙ ap (λ (v : View). v.seat.hold.pin) (get_or_past c.views count spent_view (omega arith))) (λ k other. inv.pins.words k) seat inside;
      holds = each_grown (λ (k : ℕ) (v : View). PinHolds (first_generation o) (current o c.generations) (cell c.memory head_place) v.seat.hold) (inv.pins.holds 0)
          (no_pin (first_generation o) (current o c.generations) (cell c.memory head_place)) (λ k other. inv.pins.holds k);
    };
    walks = walks;
    noted = noted;
    owned = each_grown (λ (k : ℕ) (v : View). OwnedHold (λ word. cell c.memory word) c.memory.past c.memory.pending k v.ghost v.seat) (inv.owned 0)
        (record { contents = omega arith; areas = tt; stored = tt; filled = λ place inside. absurd (omega (arith, inside)); fenced = λ place word inside. absurd (omega (arith, inside)) }) (λ k other. inv.owned k);
    givings = record {
      lists = each_grown (λ (k : ℕ) (v : View). GivingHolds (names_by o c.logs (entries o c.history) c.generations) (current o c.generations) (first_generation o + head_floor c.memory) v.seat.giving) (inv.givings.lists 0)
          (let some = inv.order.heads.some in gives_none (names_by o c.logs (entries o c.history) c.generations) (current o c.generations) (first_generation o + head_floor c.memory) (some_generation o c inv) (omega (arith, some)))
          (λ k other. inv.givings.lists k);
      scans = scans;
    };
    records = records;
    syncs = record {
      from_first = inv.syncs.from_first;
      to_end = inv.syncs.to_end;
      words = inv.syncs.words;
      views_hold = each_grown (λ (k : ℕ) (v : View). SyncHolds (q_of_origin o) (names_by o c.logs (entries o c.history) c.generations) (λ word. cell c.memory word) c.memory.past c.memory.pending c.synced k v)
          (let r = inv.syncs.views_hold 0 in record { to = r.to; marks = r.marks; valid = r.valid; answered = r.answered })
          (record { to = λ position is. absurd (no_position position is); marks = λ job. absurd (not_syncing job); valid = λ job. absurd (not_syncing job); answered = tt }) (λ k other. inv.syncs.views_hold k);
    };
  }
