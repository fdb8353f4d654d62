-- The walk, the hold and the kept blocks of a view that another was joined into.
use Rattle.std.proofs.Common.{subst, ◌≡◌, ◌≢◌, ◌≤◌, ◌+◌, ◌-◌, ◌==◌, ℕ, Bool, true, false, nat_lt, List, [], refl, sym, ◌∙◌, arith, slice_set}
use Rattle.std.proofs.lemmas.Bool.{false≢true}
use Rattle.std.proofs.lemmas.List.Folds.{list_any-append}
use Rattle.log_image.specs.Chains.{is_listed}
use Rattle.pmem_words.specs.Seats.{Seat, Hold}
use Rattle.persistence.specs.Memory.{cell}
use Rattle.log_core.specs.Entries.{head_place}
use Rattle.log_core.specs.Views.{View, view_of, spent_view}
use Rattle.log_core.specs.Origin.{Origin, first_generation, Owner}
use Rattle.log_core.specs.Files.{entries}
use Rattle.log_core.specs.Cores.{Core, generation_at, current, head_floor}
use Rattle.log_core.specs.Pins.{PinHolds}
use Rattle.log_core.specs.Walks.{IsFirstLog, WalkHolds, IsSnapshotBlock}
use Rattle.log_core.specs.Noted.{NotedBy}
use Rattle.log_core.specs.Owned.{OwnedHold}
use Rattle.log_core.specs.Giving.{GivingHolds, ScanHolds}
use Rattle.log_core.specs.Steps.{walk_of, generation_found, view_joined}
use Rattle.log_core.specs.After.{owner_joined}
use Rattle.log_core.specs.Runs.{MayJoin}
use Rattle.log_core.specs.Invariant.{Invariant, KeptIn, around, names_by}
use Rattle.log_core.proofs.clauses.Apart.{either_of}
use Rattle.log_core.proofs.starts.StartSeats.{scans_none}
use Rattle.log_core.proofs.NotedGrown.{noted_left}
use Rattle.log_core.proofs.kinds.IdleViews.{idle_collection}
use Rattle.log_core.proofs.kinds.JoinedViews.{each_joined, seat_unpinned, other_unpinned, never_valid, kept_before}

module _ (o : Origin) (c : Core) (seat other : ℕ) (inv : Invariant o c) (may : MayJoin c seat other) where
  abbrev v : View
  v = view_of c.views seat

  abbrev u : View
  u = view_of c.views other

  abbrev joined : View
  joined = view_joined v u

  abbrev views : List View
  views = slice_set (slice_set c.views seat joined) other spent_view

  abbrev owner : ℕ → Owner
  owner block = owner_joined seat other (c.owner block)

  abbrev new : Core
  new = record c { views = views; owner = λ block. owner_joined seat other (c.owner block) }

  abbrev further : Bool
  further = nat_lt v.seat.walk.position u.seat.walk.position

  -- the hold of the view that stays has the generation of the walk that it takes
  abbrev hold : Hold
  hold = joined.seat.hold

  pub pin_holds : PinHolds (first_generation o) (current o c.generations) (cell c.memory head_place) hold
  pin_holds = (let r = inv.pins.holds seat in record {
    was = r.was;
    valid_is = λ valid. (never_valid o c seat other inv may) valid;
    valid_some = λ valid. (never_valid o c seat other inv may) valid;
    from_first = from further;
    to_current = upto further;
  })
    where
      from : (b : Bool) → generation_found b v.seat.hold.generation u.seat.hold.generation ≢ 0 → first_generation o ≤ generation_found b v.seat.hold.generation u.seat.hold.generation
      from true some = (inv.pins.holds other).from_first some
      from false some = (inv.pins.holds seat).from_first some

      upto : (b : Bool) → generation_found b v.seat.hold.generation u.seat.hold.generation ≢ 0 → generation_found b v.seat.hold.generation u.seat.hold.generation ≤ current o c.generations
      upto true some = (inv.pins.holds other).to_current some
      upto false some = (inv.pins.holds seat).to_current some

  -- a walk goes to a hold with no valid pin and the same generation
  walk_goes : (x : Seat) (h : Hold) → x.hold.valid ≡ false → h.valid ≡ false → h.generation ≡ x.hold.generation → WalkHolds (around o c) x.hold x.walk → WalkHolds (around o new) h (record (x.walk) { at_tail = false })
  walk_goes x h none invalid same r = record {
    to_end = r.to_end;
    from_first = r.from_first;
    to_current = r.to_current;
    read = λ reading kept. (let q = r.read reading ((kept_before o c seat other inv may) (x.walk.reading_generation - first_generation o) kept) in record { inside = q.inside; block = q.block; from = q.from; upto = q.upto; table = q.table; size_is = q.size_is; position_is = q.position_is });
    kept_words = λ valid. absurd (false≢true (sym invalid ∙ valid));
    unpinned = λ invalid. r.unpinned none;
    walked = λ some stopped. (let q = r.walked some stopped in record { table = q.table; size_is = q.size_is; base = q.base; block = q.block; from = q.from; upto = q.upto; inside = q.inside; at_end = q.at_end });
    ready_walked = λ ready. (let q = r.ready_walked ready in (q.0, q.1, (λ zero_is. q.2 (sym same ∙ zero_is))));
    ready_base = λ ready. rw same (r.ready_base ready);
    ready_tail = r.ready_tail;
    seeking = λ ready come_to. subst (λ (generation : ℕ). IsSnapshotBlock (generation_at o c.generations generation) x.walk.reading_place x.walk.reading_block) (sym same) (r.seeking ready come_to);
    first_known = λ known. subst (λ (generation : ℕ). IsFirstLog o c.generations c.logs generation x.walk.first_log) (sym same) (r.first_known known);
  }

  walk_joined : (b : Bool) → WalkHolds (around o new) (record (v.seat.hold) { generation = generation_found b v.seat.hold.generation u.seat.hold.generation }) (walk_of b v.seat.walk u.seat.walk)
  walk_joined true = walk_goes u.seat (record (v.seat.hold) { generation = u.seat.hold.generation }) (other_unpinned o c seat other inv may) (seat_unpinned o c seat other inv may) refl (inv.walks other may.unspent_too)
  walk_joined false = walk_goes v.seat (record (v.seat.hold) { generation = v.seat.hold.generation }) (seat_unpinned o c seat other inv may) (seat_unpinned o c seat other inv may) refl (inv.walks seat may.unspent)

  pub walks : (k : ℕ) → (view_of views k).parts ≢ [] → WalkHolds (around o new) (view_of views k).seat.hold (view_of views k).seat.walk
  walks = (each_joined o c seat other inv may) (λ (k : ℕ) (w : View). w.parts ≢ [] → WalkHolds (around o new) w.seat.hold w.seat.walk)
      (λ some. walk_joined further) (λ none. absurd (none refl))
      (λ k not_seat not_other some. (let r = inv.walks k some in record {
        to_end = r.to_end;
        from_first = r.from_first;
        to_current = r.to_current;
        read = λ reading kept. r.read reading ((kept_before o c seat other inv may) ((view_of c.views k).seat.walk.reading_generation - first_generation o) kept);
        kept_words = r.kept_words;
        unpinned = r.unpinned;
        walked = r.walked;
        ready_walked = r.ready_walked;
        ready_base = r.ready_base;
        ready_tail = r.ready_tail;
        seeking = r.seeking;
        first_known = r.first_known;
      }))

  -- no call runs that notes anything
  pub noted : (k : ℕ) → (view_of views k).parts ≢ [] → NotedBy (around o new) (view_of views k).seat
  noted = (each_joined o c seat other inv may) (λ (k : ℕ) (w : View). w.parts ≢ [] → NotedBy (around o new) w.seat)
      (λ some. ((inv.noted seat may.unspent).0, (λ on. idle on), (λ on. idle on))) (λ none. absurd (none refl))
      (λ k not_seat not_other some. (let u = (view_of c.views k).seat in noted_left (around o c) (λ place. KeptIn o new place) u.hold u.walk u.calling u.blocks.named (kept_before o c seat other inv may) (inv.noted k some)))
    where
      idle : {P : Type 0} → v.seat.calling.noting ≡ true → P
      idle on = idle_collection v.seat may.idle.no_call ((inv.noted seat may.unspent).0 on)

  pub owned : (k : ℕ) → OwnedHold (λ word. cell c.memory word) c.memory.past c.memory.pending k (view_of views k).ghost (view_of views k).seat
  owned = (each_joined o c seat other inv may) (λ (k : ℕ) (w : View). OwnedHold (λ word. cell c.memory word) c.memory.past c.memory.pending k w.ghost w.seat)
      (let r = inv.owned seat in record { contents = r.contents; areas = r.areas; stored = r.stored; filled = λ place inside filled. (let q = r.filled place inside filled in record { owned = q.owned; each = q.each }); fenced = r.fenced })
      (record { contents = omega arith; areas = tt; stored = tt; filled = λ place inside. absurd (omega (arith, inside)); fenced = λ place word inside. absurd (omega (arith, inside)) })
      (λ k not_seat not_other. inv.owned k)

  abbrev names : ℕ → ℕ → Bool
  names = names_by o c.logs (entries o c.history) c.generations

  pub giving : GivingHolds names (current o c.generations) (first_generation o + head_floor c.memory) joined.seat.giving
  giving = (let r = inv.givings.lists seat in let t = inv.givings.lists other in record {
    replaced_past = r.replaced_past;
    replaced = r.replaced;
    limbo = λ block later listed above below. either_of (is_listed v.seat.giving.limbo block) (is_listed u.seat.giving.limbo block) (sym (list_any-append (λ (n : ℕ). n == block) v.seat.giving.limbo u.seat.giving.limbo) ∙ listed)
        (λ here. r.limbo block later here (omega (arith, above)) below) (λ there. t.limbo block later there (omega (arith, above)) below);
    replaced_sure = r.replaced_sure;
    limbo_sure = (let first = r.limbo_sure in let second = t.limbo_sure in omega (arith, first, second));
  })

  pub scans : (k t : ℕ) → ScanHolds (view_of views k).seat.giving t (view_of views t).seat.hold
  scans k t = (each_joined o c seat other inv may) (λ (k : ℕ) (w : View). ScanHolds w.seat.giving t (view_of views t).seat.hold)
      (record { replaced = λ inside. absurd (omega (arith, inside)); limbo = λ inside. absurd (omega (arith, inside)) }) (scans_none t (view_of views t).seat.hold) (λ k not_seat not_other. of_other k) k
    where
      of_other : (k : ℕ) → ScanHolds (view_of c.views k).seat.giving t (view_of views t).seat.hold
      of_other k = (each_joined o c seat other inv may) (λ (t : ℕ) (w : View). ScanHolds (view_of c.views k).seat.giving t w.seat.hold)
          (record { replaced = λ inside clear valid. (never_valid o c seat other inv may) valid; limbo = λ inside clear valid. (never_valid o c seat other inv may) valid })
          (record { replaced = λ inside clear valid. absurd (false≢true valid); limbo = λ inside clear valid. absurd (false≢true valid) })
          (λ t not_seat not_other. inv.givings.scans k t) t
