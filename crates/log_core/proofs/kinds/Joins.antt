-- A join keeps the invariant: the view that stays has the walk of the one that has come further, and the records, the parts and the kept
-- blocks of both; the other one is spent.
use Rattle.std.proofs.Common.{◌≡◌, ◌<◌, ◌≤◌, ◌+◌, ℕ, Bool, length, sym, ◌∙◌, arith, slice_index}
use Rattle.log_entry.specs.declared.calls.Reply.TheVariants.{Synced}
use Rattle.log_entry.specs.declared.calls.Call.{Call}
use Rattle.log_image.proofs.ListLemmas.{each_join}
use Rattle.persistence.specs.Memory.{cell}
use Rattle.log_core.specs.Entries.{head_place}
use Rattle.log_core.specs.Views.{View, view_of}
use Rattle.log_core.specs.Origin.{Origin, q_of_origin, first_generation, Owner, Free, Header, InChain, OwnedBy, LeftTo}
use Rattle.log_core.specs.Files.{entries}
use Rattle.log_core.specs.Cores.{Core, current, head_floor}
use Rattle.log_core.specs.Pins.{PinHolds}
use Rattle.log_core.specs.Giving.{GivingHolds}
use Rattle.log_core.specs.Synced.{SyncHolds}
use Rattle.log_core.specs.Steps.{Joins}
use Rattle.log_core.specs.After.{after}
use Rattle.log_core.specs.Runs.{MayJoin}
use Rattle.log_core.specs.Invariant.{Invariant, names_by}
use Rattle.log_core.proofs.Heads.{some_generation}
use Rattle.log_core.proofs.clauses.JoinedOwners.{joined_was, joined_is, joined_taken, joined_bits}
use Rattle.log_core.proofs.starts.StartSeats.{no_pin, gives_none, not_syncing, no_position}
use Rattle.log_core.proofs.kinds.JoinedViews.{each_joined, kept_before, sizes, owns}
use Rattle.log_core.proofs.kinds.JoinedWalks.{noted, pin_holds, walks, owned, giving, scans}
use Rattle.log_core.proofs.kinds.JoinedRecords.{records, no_sync_to}
use Rattle.log_core.proofs.kinds.IdleViews.{idle_sync}

module _ (o : Origin) (c : Core) (seat other : ℕ) (inv : Invariant o c) (may : MayJoin c seat other) where
  abbrev v : View
  v = view_of c.views seat

  abbrev u : View
  u = view_of c.views other

  abbrev names : ℕ → ℕ → Bool
  names = names_by o c.logs (entries o c.history) c.generations

  pub join_holds : Invariant o (after o c (Joins seat other))
  join_holds = record {
    sizes = (sizes o c seat other inv may);
    writes = inv.writes;
    order = (let r = inv.order in record { heads = r.heads; generations_rise = r.generations_rise; log = r.log; chains = λ place kept. r.chains place ((kept_before o c seat other inv may) place kept) });
    owners = (let r = inv.owners in record {
      bits = joined_bits seat other may.apart c.owner (Rattle.log_core.specs.Origin.shape o) c.memory.now.taken r.bits;
      chain = record {
        named = λ block is. r.chain.named block (joined_was seat other may.apart (c.owner block) InChain (λ n e. cc) is);
        all = λ block named. joined_is seat other may.apart (c.owner block) InChain (λ n e. cc) (r.chain.all block named);
      };
      seats = (owns o c seat other inv may);
      once = λ place kept. r.once place ((kept_before o c seat other inv may) place kept);
    });
    contents = λ place kept. (let r = inv.contents place ((kept_before o c seat other inv may) place kept) in record {
      taken = λ block named. joined_taken seat other may.apart (c.owner block) (r.taken block named);
      whole = r.whole;
      words = r.words;
      entries_say = r.entries_say;
      snapshot = r.snapshot;
      files = r.files;
    });
    pins = record {
      words = λ k inside. (each_joined o c seat other inv may) (λ (k : ℕ) (w : View). k < length c.memory.now.pins → slice_index c.memory.now.pins k ≡ w.seat.hold.pin) (inv.pins.words seat) (λ inside. inv.pins.words other inside ∙ may.idle_too.unpinned)
          (λ k not_seat not_other. inv.pins.words k) k inside;
      holds = (each_joined o c seat other inv may) (λ (k : ℕ) (w : View). PinHolds (first_generation o) (current o c.generations) (cell c.memory head_place) w.seat.hold) (pin_holds o c seat other inv may) (no_pin (first_generation o) (current o c.generations) (cell c.memory head_place))
          (λ k not_seat not_other. inv.pins.holds k);
    };
    walks = walks o c seat other inv may;
    noted = noted o c seat other inv may;
    owned = owned o c seat other inv may;
    givings = record {
      lists = (each_joined o c seat other inv may) (λ (k : ℕ) (w : View). GivingHolds names (current o c.generations) (first_generation o + head_floor c.memory) w.seat.giving) (giving o c seat other inv may)
          (let some = inv.order.heads.some in gives_none names (current o c.generations) (first_generation o + head_floor c.memory) (some_generation o c inv) (omega (arith, some))) (λ k not_seat not_other. inv.givings.lists k);
      scans = (scans o c seat other inv may);
    };
    records = (records o c seat other inv may);
    syncs = record {
      from_first = inv.syncs.from_first;
      to_end = inv.syncs.to_end;
      words = inv.syncs.words;
      views_hold = (each_joined o c seat other inv may) (λ (k : ℕ) (w : View). SyncHolds (q_of_origin o) names (λ word. cell c.memory word) c.memory.past c.memory.pending c.synced k w)
          (record {
            to = λ position is. absurd (no_position position (sym (no_sync_to o c seat other inv may) ∙ is));
            marks = λ sync. absurd (idle_sync v.seat may.idle.no_call sync);
            valid = λ sync. absurd (idle_sync v.seat may.idle.no_call sync);
            answered = each_join (λ (call : Call). (position : ℕ) → call.reply ≡ Synced position → position ≤ c.synced) v.done u.done (inv.syncs.views_hold seat).answered (inv.syncs.views_hold other).answered;
          })
          (record { to = λ position is. absurd (no_position position is); marks = λ job. absurd (not_syncing job); valid = λ job. absurd (not_syncing job); answered = tt }) (λ k not_seat not_other. inv.syncs.views_hold k);
    };
  }
