-- The clauses over views at a start.
use Rattle.std.proofs.Common.{◌≡◌, ◌≢◌, ◌⊎◌, ℕ, zero, suc, ◌+◌, ◌<◌, ◌≤◌, ◌==◌, Bool, true, false, List, [], ◌∷◌, length, map, get_or, replicate, Some, None, refl, sym, ap, ◌∙◌, arith, inl, inr, ◌^◌}
use Rattle.std.specs.Prelude.{nat_lt, nat_le, ◌&&◌}
use Rattle.std.specs.List.{range_with_len, AllByRecursion}
use Rattle.std.proofs.lemmas.Bool.{false≢true, eq-eqb, or_left}
use Rattle.std.proofs.lemmas.List.{length-replicate}
use Rattle.std.proofs.lemmas.List.FromFn.{get_or-map-range_with_len}
use Rattle.std.proofs.lemmas.Bool.Decides.{nat_tests}
use Rattle.log_entry.specs.declared.shapes.Geometry.{Geometry}
use Rattle.log_entry.specs.declared.calls.Call.{Call}
use Rattle.pmem_words.specs.declared.keeps.Task.TheVariants.{Idle, Pread, Sync}
use Rattle.log_image.specs.Chains.{is_listed}
use Rattle.log_core.specs.Entries.{head_place}
use Rattle.pmem_words.specs.Seats.{Hold, new_seat, no_hold, no_giving, unwalked, bitmap_words}
use Rattle.log_image.proofs.HoldingLemmas.{zeros_after}
use Rattle.pmem_words.proofs.MapLaws.{length_unmapped}
use Rattle.persistence.specs.Memory.{Cell, cell}
use Rattle.log_core.specs.Views.{View, new_view, spent_view, view_of, no_ghost, no_geometry, HeadPut}
use Rattle.log_core.specs.Origin.{Origin, q_of_origin, start_generation, first_position, first_generation, first_memory, first_views, first_logs, made_by}
use Rattle.log_core.specs.Files.{Write, entries}
use Rattle.log_core.specs.Cores.{first_core, current, head_floor}
use Rattle.log_core.specs.Sizes.{HasSeats, HasImage, SeatFits, Sizes}
use Rattle.log_core.specs.Pins.{PinWordsFit, PinHolds}
use Rattle.log_core.specs.Walks.{Around, WalkHolds, WalksHold}
use Rattle.log_core.specs.Noted.{NotedBy, AllNoted}
use Rattle.log_core.specs.Owned.{OwnedHold, OwnedAllHold}
use Rattle.log_core.specs.Giving.{GivingHolds, ScanHolds}
use Rattle.log_core.specs.Records.{one_if, WritesFit, WritesOnce, SeatsOnce, PutFits, RecordHolds, NeverFall, CallHolds, TailHolds, MarksFit, parts_with}
use Rattle.log_core.specs.Synced.{SyncHolds, SyncsHold}
use Rattle.log_core.specs.Invariant.{Pins, Givings, Records, around, names_by}
use Rattle.log_core.proofs.starts.StartViews.{view_at, each_view, views_made}

-- as many seats as there may be, at least one
some_made : (o : Origin) → HasSeats o → (0 < o.made) × (o.made ≤ o.seats)
some_made o seats = go seats.made
  where
    go : (o.made ≡ 1) ⊎ (o.made ≡ o.seats) → (0 < o.made) × (o.made ≤ o.seats)
    go (inl one) = (omega (arith, one), omega (arith, one, seats.some))
    go (inr all) = (omega (arith, all, seats.some), omega (arith, all))

pub start_sizes : (o : Origin) → HasSeats o → HasImage o → AllByRecursion (λ (word : ℕ). word < 2 ^ 64) o.words → Sizes o (first_memory o) (first_views o) (replicate o.made 0)
start_sizes o seats image small = record {
  seats = seats;
  image = image;
  words = record { words = refl; taken = refl; pins = length-replicate o.seats 0; floors = length-replicate (length o.words) 0; reached = λ word. (let e = zeros_after [] (length o.words) word in omega (arith, e)); small = small; small_past = tt; pending = tt };
  some = omega (arith, views_made o, (some_made o seats).0);
  few = omega (arith, views_made o, (some_made o seats).1);
  begun = length-replicate o.made 0 ∙ sym (views_made o);
  made = made_of;
  few_made = each_view o (λ n v. v.made ≤ length (first_views o)) (λ n before. made_low n) (λ n. omega arith);
  spent = each_view o (λ n v. v.parts ≡ [] → v ≡ spent_view) (λ n before none. cc) (λ n none. refl);
  each = λ number inside. each_view o (λ n v. v.parts ≢ [] → SeatFits o n v) (λ n before unspent. fits n) (λ n unspent. absurd (unspent refl)) number;
}
  where
    made_of : (view_of (first_views o) 0).parts ≢ [] → (view_of (first_views o) 0).made ≡ length (first_views o)
    made_of unspent = ap (λ (v : View). v.made) (get_or-map-range_with_len (view_at o) 0 o.made 0 0 spent_view (some_made o seats).0 (omega arith)) ∙ sym (views_made o)

    made_low : (n : ℕ) → made_by o.made n ≤ length (first_views o)
    made_low zero = omega (arith, views_made o)
    made_low (suc n) = omega arith

    fits : (n : ℕ) → SeatFits o n (view_at o n)
    fits n = record { number = refl; seats = refl; geometry = refl; first = refl; found = length-replicate (bitmap_words o.geometry) 0; named = length-replicate (bitmap_words o.geometry) 0; map = length_unmapped }

-- pins
pub no_pin : (first now : ℕ) (head : Cell) → PinHolds first now head no_hold
no_pin first now head = record {
  was = λ some. absurd (some refl);
  valid_is = λ valid. absurd (false≢true valid);
  valid_some = λ valid. absurd (false≢true valid);
  from_first = λ some. absurd (some refl);
  to_current = λ some. absurd (some refl);
}

pub start_pins : (o : Origin) → Pins o (first_memory o) (first_views o) (start_generation o ∷ [])
start_pins o = record { words = words; holds = each_view o (λ n v. PinHolds first now head v.seat.hold) (λ n before. no_pin first now head) (λ n. no_pin first now head) }
  where
    first : ℕ
    first = first_generation o

    now : ℕ
    now = current o (start_generation o ∷ [])

    head : Cell
    head = cell (first_memory o) head_place

    words : PinWordsFit (first_memory o).now.pins (first_views o)
    words seat inside = each_view o (λ n v. get_or (replicate o.seats 0) n 0 ≡ v.seat.hold.pin) (λ n before. zeros_after [] o.seats n) (λ n. zeros_after [] o.seats n) seat

-- walks
pub walks_at : (a : Around) (position : ℕ) → position ≤ a.end → WalkHolds a no_hold (unwalked position)
walks_at a position below = record {
  to_end = below;
  from_first = λ reading. absurd (false≢true reading);
  to_current = λ reading. absurd (false≢true reading);
  read = λ reading kept. absurd (false≢true reading);
  kept_words = λ valid. absurd (false≢true valid);
  unpinned = λ invalid. refl;
  walked = λ tail still. absurd (tail refl);
  ready_walked = λ ready. absurd (false≢true ready);
  ready_base = λ ready. absurd (false≢true ready);
  ready_tail = λ ready. absurd (false≢true ready);
  seeking = λ ready. absurd (false≢true ready);
  first_known = λ known. absurd (known refl);
}

pub start_walks : (o : Origin) → WalksHold (around o (first_core o)) (first_views o)
start_walks o = each_view o (λ n v. v.parts ≢ [] → WalkHolds (around o (first_core o)) v.seat.hold v.seat.walk)
    (λ n before unspent. walks_at (around o (first_core o)) (first_position o) (omega arith)) (λ n unspent. absurd (unspent refl))

-- nothing is noted
pub start_noted : (o : Origin) → AllNoted (around o (first_core o)) (first_views o)
start_noted o = each_view o (λ n v. v.parts ≢ [] → NotedBy (around o (first_core o)) v.seat)
    (λ n before unspent. ((λ on. absurd (false≢true on)), (λ on. absurd (false≢true on)), (λ on. absurd (false≢true on)))) (λ n unspent. absurd (unspent refl))

-- owned blocks
pub start_owned : (o : Origin) → OwnedAllHold (λ word. cell (first_memory o) word) [] [] (first_views o)
start_owned o = each_view o (λ n v. OwnedHold (λ word. cell (first_memory o) word) [] [] n v.ghost v.seat)
    (λ n before. record { contents = omega arith; areas = tt; stored = tt; filled = λ place inside. absurd (omega (arith, inside)); fenced = λ place word inside. absurd (omega (arith, inside)) })
    (λ n. record { contents = omega arith; areas = tt; stored = tt; filled = λ place inside. absurd (omega (arith, inside)); fenced = λ place word inside. absurd (omega (arith, inside)) })

-- giving back
pub gives_none : (names : ℕ → ℕ → Bool) (now least : ℕ) → 0 < now → 0 < least → GivingHolds names now least no_giving
gives_none names now least some above = record {
  replaced_past = some;
  replaced = λ block later inside. absurd (false≢true inside);
  limbo = λ block later inside. absurd (false≢true inside);
  replaced_sure = λ fenced. above;
  limbo_sure = above;
}

pub scans_none : (other : ℕ) (h : Hold) → ScanHolds no_giving other h
scans_none other h = record { replaced = λ inside. absurd (omega (arith, inside)); limbo = λ inside. absurd (omega (arith, inside)) }

pub start_givings : (o : Origin) → 0 < first_generation o → Givings o (first_memory o) (first_views o) [] (start_generation o ∷ []) (first_logs o)
start_givings o some = record {
  lists = each_view o (λ n v. GivingHolds names now least v.seat.giving) (λ n before. gives_none names now least later above) (λ n. gives_none names now least later above);
  scans = λ seat other. each_view o (λ n v. ScanHolds v.seat.giving other (view_of (first_views o) other).seat.hold)
      (λ n before. scans_none other (view_of (first_views o) other).seat.hold) (λ n. scans_none other (view_of (first_views o) other).seat.hold) seat;
}
  where
    names : ℕ → ℕ → Bool
    names = names_by o (first_logs o) (entries o []) (start_generation o ∷ [])

    now : ℕ
    now = current o (start_generation o ∷ [])

    least : ℕ
    least = first_generation o + head_floor (first_memory o)

    later : 0 < now
    later = omega (arith, some)

    above : 0 < least
    above = omega (arith, some)

-- records
abbrev pub fresh : Geometry → ℕ → ℕ → ℕ → ℕ → List ℕ → View
fresh g seats position made number parts = record { seat = new_seat g number seats position; ghost = no_ghost; first = position; made = made; done = []; parts = parts }

-- a seat that has made no step reads nothing
pub not_reading : (offset count : ℕ) → Idle ≡ Pread offset count → ⊥
not_reading offset count same = cc

pub not_syncing : Idle ≡ Sync → ⊥
not_syncing same = cc

pub not_put : (put : HeadPut) → None ≡ Some put → ⊥
not_put put same = cc

pub no_position : (position : ℕ) → None ≡ Some position → ⊥
no_position position same = cc

pub no_call_holds : (o : Origin) (history : List Write) (g : Geometry) (seats position made number : ℕ) (parts : List ℕ) → CallHolds o history (fresh g seats position made number parts)
no_call_holds o history g seats position made number parts = record {
  laid = λ offset count job. absurd (not_reading offset count job);
  bases = record { most = omega arith; whole = omega arith; from_first = λ some. absurd (some refl); bytes = λ running place at inside. absurd (omega (arith, inside)) };
  reading = λ reading. absurd (false≢true reading);
  numbers = record { most = tt; runs = λ some. tt; some = λ some. absurd (some refl) };
  task = record { won_runs = λ won. absurd (false≢true won); put_collects = λ some. absurd (some refl); synced_syncs = λ some. absurd (some refl) };
}

-- each seat made is a part of its own view alone
parts_of : (g : Geometry) (seats position made first count seat : ℕ) →
    parts_with (map (λ (number : ℕ). new_view g seats position (made_by made number) number) (range_with_len first count)) seat ≡ one_if (nat_le first seat && nat_lt seat (first + count))
parts_of g seats position made first zero seat = grind (arith, nat_tests)
parts_of g seats position made first (suc count) seat =
    ap (λ (more : ℕ). one_if (first == seat) + 0 + more) (parts_of g seats position made (first + 1) count seat) ∙ added first count seat
  where
    added : (first count seat : ℕ) → one_if (first == seat) + 0 + one_if (nat_le (first + 1) seat && nat_lt seat (first + 1 + count)) ≡ one_if (nat_le first seat && nat_lt seat (first + suc count))
    added first count seat = grind (arith, nat_tests)

start_once : (o : Origin) → SeatsOnce [] (first_views o)
start_once o = record {
  once = λ seat. parts_of o.geometry o.seats (first_position o) o.made 0 o.made seat ∙ from_zero o.made seat ∙ ap (λ (count : ℕ). one_if (nat_lt seat count)) (sym (views_made o));
  own = each_view o (λ n v. v.parts ≢ [] → is_listed v.parts n ≡ true) (λ n before unspent. or_left (n == n) false (eq-eqb n n refl)) (λ n unspent. absurd (unspent refl));
  writes = tt;
  records = none_recorded (range_with_len 0 o.made);
}
  where
    from_zero : (count seat : ℕ) → one_if (nat_le 0 seat && nat_lt seat (0 + count)) ≡ one_if (nat_lt seat count)
    from_zero count seat = grind (arith, nat_tests)

    none_recorded : (numbers : List ℕ) → AllByRecursion (λ (v : View). AllByRecursion (λ (call : Call). is_listed v.parts call.seat ≡ true) v.done) (map (view_at o) numbers)
    none_recorded [] = tt
    none_recorded (number ∷ numbers) = (tt, none_recorded numbers)

pub start_records : (o : Origin) → Records o (first_memory o) (first_views o) [] (start_generation o ∷ []) (λ seat. get_or (replicate o.made 0) seat 0)
start_records o = record {
  writes = each_view o (λ n v. WritesFit o [] v) (λ n before. record { recorded = tt; running = λ won. absurd (false≢true won) }) (λ n. record { recorded = tt; running = λ won. absurd (false≢true won) });
  writes_once = each_view o (λ n v. WritesOnce o [] v) (λ n before unspent position above below. absurd (omega (arith, above, below))) (λ n unspent. absurd (unspent refl));
  seats_once = start_once o;
  collected_once = λ generation above below. absurd (omega (arith, above, below));
  put = each_view o (λ n v. PutFits o (start_generation o ∷ []) v)
      (λ n before. record { own = λ put is. absurd (not_put put is); found = omega arith }) (λ n. record { own = λ put is. absurd (not_put put is); found = omega arith });
  records = each_view o (λ n v. AllByRecursion (RecordHolds o [] (start_generation o ∷ [])) v.done) (λ n before. tt) (λ n. tt);
  never_fall = λ seat part. each_view o (λ n v. NeverFall part 0 0 v.done) (λ n before. tt) (λ n. tt) seat;
  calls = each_view o (λ n v. CallHolds o [] v) (λ n before. no_call_holds o [] o.geometry o.seats (first_position o) (made_by o.made n) n (n ∷ [])) (λ n. no_call_holds o [] no_geometry 0 0 0 0 []);
  begun = λ seat. (let e = zeros_after [] o.made seat in omega (arith, e));
  tails = λ seat. each_view o (λ n v. TailHolds v (get_or (replicate o.made 0) seat 0))
      (λ n before at_tail. absurd (false≢true at_tail)) (λ n at_tail. absurd (false≢true at_tail)) seat;
  marks = each_view o (λ n v. MarksFit (λ word. cell (first_memory o) word) [] [] n v) (λ n before. refl) (λ n. refl);
}

pub start_syncs : (o : Origin) → SyncsHold (q_of_origin o) (names_by o (first_logs o) (entries o []) (start_generation o ∷ [])) (λ word. cell (first_memory o) word) [] [] (first_position o) (first_views o)
start_syncs o = each_view o (λ n v. SyncHolds (q_of_origin o) (names_by o (first_logs o) (entries o []) (start_generation o ∷ [])) (λ word. cell (first_memory o) word) [] [] (first_position o) n v)
    (λ n before. record { to = λ position is. absurd (no_position position is); marks = λ job. absurd (not_syncing job); valid = λ job. absurd (not_syncing job); answered = tt })
    (λ n. record { to = λ position is. absurd (no_position position is); marks = λ job. absurd (not_syncing job); valid = λ job. absurd (not_syncing job); answered = tt })
