-- The synced position rises, and a sync that stands there answers it: the invariant stays.
use Rattle.std.proofs.Common.{◌≡◌, ◌≢◌, ◌⊎◌, ⊎_elim, inl, inr, ◌<◌, ◌≤◌, ◌+◌, ℕ, true, false, max, [], length, refl, sym, ◌∙◌, subst, arith, slice_index, slice_set, Some}
use Rattle.std.proofs.lemmas.Bool.{cases_lt}
use Rattle.log_entry.specs.declared.calls.Reply.TheVariants.{Synced}
use Rattle.log_entry.specs.declared.calls.Call.{Call}
use Rattle.pmem_words.specs.declared.keeps.Task.TheVariants.{Sync}
use Rattle.pmem_words.specs.Seats.{Calling}
use Rattle.persistence.specs.Memory.{cell}
use Rattle.log_core.specs.Views.{View, view_of}
use Rattle.log_core.specs.Origin.{Origin, shape, q_of_origin}
use Rattle.log_core.specs.Files.{entries, end_of}
use Rattle.log_core.specs.Cores.{Core, nth_log, head_floor}
use Rattle.log_core.specs.Synced.{SyncHolds, IsSynced}
use Rattle.log_core.specs.Invariant.{Invariant, names_by}
use Rattle.log_core.specs.Knows.{with_seat, Knows}
use Rattle.log_core.proofs.Each.{each_weaker}
use Rattle.log_core.proofs.Facts.{facts_of, moved_facts}
use Rattle.log_core.proofs.clauses.Leaves.{no_changes, changes_leave, pins_leave}
use Rattle.log_core.proofs.clauses.SetCore.{set_core}

-- a position below the greater of two is below one of them
below_max : (synced position at : ℕ) → at < max synced position → (at < synced) ⊎ (at < position)
below_max synced position at low = ⊎_elim (λ (below : at < synced). inl below) (λ (above : synced ≤ at). inr (omega (arith, low, above))) (cases_lt at synced)

module _ (o : Origin) (d : Core) (inv : Invariant o d) (position : ℕ) (words : IsSynced (shape o) (λ word. cell d.memory word) d.generations d.logs (head_floor d.memory) position) (low : position ≤ end_of o d.history) where
  abbrev raised : Core
  raised = record d { synced = max d.synced position }

  sync_holds : (seat : ℕ) (v : View) → SyncHolds (q_of_origin o) (names_by o d.logs (entries o d.history) d.generations) (λ word. cell d.memory word) d.memory.past d.memory.pending d.synced seat v →
      SyncHolds (q_of_origin o) (names_by o d.logs (entries o d.history) d.generations) (λ word. cell d.memory word) d.memory.past d.memory.pending (max d.synced position) seat v
  sync_holds seat v r = record {
    to = λ to is. (let old = r.to to is in (old.0, (let low = old.1 in omega (arith, low))));
    marks = r.marks;
    valid = r.valid;
    answered = each_weaker (λ (call : Call). (to : ℕ) → call.reply ≡ Synced to → to ≤ d.synced) (λ (call : Call). (to : ℕ) → call.reply ≡ Synced to → to ≤ max d.synced position) v.done
        (λ call old to is. (let low = old to is in omega (arith, low))) r.answered;
  }

  pub raised_holds : Invariant o raised
  raised_holds = record {
    sizes = inv.sizes;
    writes = inv.writes;
    order = inv.order;
    owners = inv.owners;
    contents = inv.contents;
    pins = inv.pins;
    walks = inv.walks;
    noted = inv.noted;
    owned = inv.owned;
    givings = inv.givings;
    records = inv.records;
    syncs = record {
      from_first = (let first = inv.syncs.from_first in omega (arith, first));
      to_end = (let end = inv.syncs.to_end in omega (arith, end, low));
      words = λ place number floor inside cut less. record {
        slots = λ k used below. ⊎_elim (λ old. (inv.syncs.words place number floor inside cut less).slots k used old) (λ new. (words place number floor inside cut less).slots k used new)
            (below_max d.synced position ((nth_log d.logs number).base + k) below);
        link = λ some below. ⊎_elim (λ old. (inv.syncs.words place number floor inside cut less).link some old) (λ new. (words place number floor inside cut less).link some new)
            (below_max d.synced position (nth_log d.logs (number + 1)).base below);
      };
      views_hold = λ seat. sync_holds seat (view_of d.views seat) (inv.syncs.views_hold seat);
    };
  }

  -- the sync of a seat that stands there
  module _ (n : ℕ) (here : n < length d.views) (unspent : (view_of d.views n).parts ≢ []) (sync : (view_of d.views n).seat.calling.job ≡ Sync) (stands : position ≡ (view_of d.views n).seat.walk.position)
      (at_tail : (view_of d.views n).seat.walk.at_tail ≡ true) where
    abbrev v : View
    v = view_of d.views n

    abbrev answering : Calling
    answering = record (v.seat.calling) { sync_to = Some position }

    same_position : (to : ℕ) → Some position ≡ Some to → position ≡ to
    same_position to e = cc

    away : v.seat.walk.reading ≡ true → ⊥
    away reading = (let both : true ≡ false = sym at_tail ∙ ((inv.records.calls n).reading reading).0 in cc)

    answer_facts : Knows o raised n (record (v.seat) { calling = answering }) v.ghost (slice_index d.memory.now.pins n) (slice_index d.began n)
    answer_facts = (let f = facts_of o raised n raised_holds here in
        moved_facts o raised n v.seat v.ghost (slice_index d.memory.now.pins n) (slice_index d.began n) f v.seat.walk answering v.seat.giving.pins_seen v.seat.giving.limbo_held (record {
          map = λ some. (f.fits some).map;
          walk = f.walk;
          noted = f.noted;
          scan_others = f.scan_others;
          scan_self = f.scan_self;
          writes = (let r = f.writes in record { recorded = r.recorded; running = r.running });
          writes_once = f.writes_once;
          put = f.put;
          calls = (let r = f.calls in record {
            laid = r.laid;
            bases = (let b = r.bases in record { most = b.most; whole = b.whole; from_first = b.from_first; bytes = b.bytes });
            reading = λ reading. absurd (away reading);
            numbers = r.numbers;
            task = record { won_runs = r.task.won_runs; put_collects = r.task.put_collects; synced_syncs = λ some. sync };
          });
          tail = f.tail;
          syncs = (let r = f.syncs in record {
            to = λ to is. (sym (same_position to is) ∙ stands, (let e = same_position to is in omega (arith, e)));
            marks = r.marks;
            valid = r.valid;
            answered = r.answered;
          });
        }))

    pub answered_holds : Invariant o (record raised { views = slice_set d.views n (with_seat v (record (v.seat) { calling = answering }) v.ghost) })
    answered_holds = set_core o raised n (record (v.seat) { calling = answering }) v.ghost d.memory d.owner d.began raised_holds here unspent (pins_leave o raised n raised_holds d.memory.now.pins refl (λ k other. refl))
        (changes_leave o raised n d.memory _ d.owner (no_changes raised n)) inv.owners.bits answer_facts refl (λ k other. refl) inv.records.begun

  -- so it is with a view that the core has
  pub answered_from : (n : ℕ) (u : View) → view_of d.views n ≡ u → n < length d.views → u.parts ≢ [] → u.seat.calling.job ≡ Sync → position ≡ u.seat.walk.position → u.seat.walk.at_tail ≡ true →
      Invariant o (record raised { views = slice_set d.views n (with_seat u (record (u.seat) { calling = record (u.seat.calling) { sync_to = Some position } }) u.ghost) })
  answered_from n u is here = subst (λ (w : View). w.parts ≢ [] → w.seat.calling.job ≡ Sync → position ≡ w.seat.walk.position → w.seat.walk.at_tail ≡ true →
      Invariant o (record raised { views = slice_set d.views n (with_seat w (record (w.seat) { calling = record (w.seat.calling) { sync_to = Some position } }) w.ghost) })) is
      (λ unspent sync stands at_tail. answered_holds n here unspent sync stands at_tail)
