-- The kept table is taken again after a valid pin: the view is ready in the pinned chain.
use Rattle.std.proofs.Common.{if◌then◌else◌, ◌==◌, Bool, ◌≡◌, ◌≢◌, ◌<◌, ◌≤◌, ℕ, true, false, [], length, refl, sym, ◌∙◌, ap, subst, arith, Option, Some, None}
use Rattle.log_entry.specs.Fields.{field}
use Rattle.log_entry.specs.declared.layouts.TheConstants.{HEAD_GENERATION, BLOCK_BASE, BLOCK_KIND, LOG, SNAPSHOT}
use Rattle.pmem_words.specs.Seats.{Seat}
use Rattle.log_core.specs.Views.{Ghost, view_of}
use Rattle.log_core.specs.Origin.{LogBlock, Origin}
use Rattle.log_core.specs.Cores.{log_at, Core}
use Rattle.log_core.specs.Works.{walk_kept, KeepsTable, IsAtFront, kept_at, word_or_zero, front, front_base, front_kind, state_after_work}
use Rattle.log_core.specs.Order.{nth_generation, front_of}
use Rattle.log_core.specs.Invariant.{Invariant, KeptIn}
use Rattle.log_core.specs.Knows.{Knows}
use Rattle.log_core.proofs.Facts.{moved_facts}
use Rattle.log_core.proofs.PinnedChains.{place, some_generation, from_first, kept, IsChainWord, chain_kept}
use Rattle.log_core.proofs.Fronts.{head_front, front_says, front_log, front_snapshot}
use Rattle.log_core.specs.Walks.{IsFirstLog, HasWalked}
use Rattle.log_core.specs.Files.{entries}
use Rattle.std.proofs.lemmas.Bool.{eqb-true}
use Rattle.log_core.proofs.LogTails.{log_again}

module _ (o : Origin) (c : Core) (n : ℕ) (s : Seat) (g : Ghost) (pin began : ℕ) (inv : Invariant o c) (f : Knows o c n s g pin began) (at_front : IsAtFront s) where
  abbrev at : ℕ
  at = place o c n s g pin began inv f at_front.valid

  in_chain : KeptIn o c at
  in_chain = kept o c n s g pin began inv f at_front.valid

  has_generation : s.hold.generation ≢ 0
  has_generation = some_generation o c n s g pin began inv f at_front.valid

  pub front_is : front s ≡ front_of c.logs (nth_generation c.generations at)
  front_is = head_front o c inv s.hold.head at (f.pin_holds.was (λ none. has_generation (sym at_front.pinned ∙ ap (field HEAD_GENERATION) none)))
      (at_front.pinned ∙ from_first o c n s g pin began inv f at_front.valid)

  module _ (unspent : (view_of c.views n).parts ≢ []) where
    front_kept : (slot word : ℕ) → kept_at s.walk.kept (front s) slot ≡ Some word → IsChainWord o c n s g pin began inv f at_front.valid (front_of c.logs (nth_generation c.generations at)) slot word
    front_kept slot word is = subst (λ (block : ℕ). IsChainWord o c n s g pin began inv f at_front.valid block slot word) front_is (chain_kept o c n s g pin began inv f at_front.valid unspent (front s) slot word is)

    base_by : (found : Option ℕ) → kept_at s.walk.kept (front s) 1 ≡ found → found ≢ None → field BLOCK_BASE (word_or_zero found) ≡ (nth_generation c.generations at).base
    base_by None is none = absurd (none refl)
    base_by (Some word) is none = front_says o c inv at in_chain word (front_kept 1 word is)

    -- the front's base, as it was read, is the generation's
    pub base_is : front_base s ≡ (nth_generation c.generations at).base
    base_is = base_by (kept_at s.walk.kept (front s) 1) refl at_front.front

    kind_by : (found : Option ℕ) → kept_at s.walk.kept (front s) 1 ≡ found → field BLOCK_KIND (word_or_zero found) ≡ LOG → length (nth_generation c.generations at).snapshots ≡ 0
    kind_by None is log = (let none : 0 ≡ LOG = log in absurd (omega (arith, none)))
    kind_by (Some word) is log = front_log o c inv at in_chain word (front_kept 1 word is) log

    snapshot_by : (found : Option ℕ) → kept_at s.walk.kept (front s) 1 ≡ found → field BLOCK_KIND (word_or_zero found) ≡ SNAPSHOT → 0 < length (nth_generation c.generations at).snapshots
    snapshot_by None is kind = (let none : 0 ≡ SNAPSHOT = kind in absurd (omega (arith, none)))
    snapshot_by (Some word) is kind = front_snapshot o c inv at in_chain word (front_kept 1 word is) kind

    -- where it is a snapshot block the chain has one
    pub snapshot_front : front_kind s ≡ SNAPSHOT → 0 < length (nth_generation c.generations at).snapshots
    snapshot_front kind = snapshot_by (kept_at s.walk.kept (front s) 1) refl kind

    -- where it is a log block the chain has no snapshot
    pub front_kinds : front_kind s ≡ LOG → length (nth_generation c.generations at).snapshots ≡ 0
    front_kinds log = kind_by (kept_at s.walk.kept (front s) 1) refl log

  pub table_facts : s.walk.tail_block ≢ 0 → s.walk.reading ≡ false → front_base s ≤ s.walk.tail_base → Knows o c n (state_after_work s KeepsTable) g pin began
  table_facts walked stopped low = moved_facts o c n s g pin began f (walk_kept s.walk (front_base s)) (record (s.calling) { noting = false }) s.giving.pins_seen s.giving.limbo_held (record {
    map = λ some. (f.fits some).map;
    walk = λ some. (let w = f.walk some in record {
      to_end = w.to_end;
      from_first = w.from_first;
      to_current = w.to_current;
      read = λ reading. (let both : true ≡ false = sym reading ∙ stopped in cc);
      kept_words = w.kept_words;
      unpinned = w.unpinned;
      walked = λ some_block still. (let r = w.walked some_block still in record { table = r.table; size_is = r.size_is; base = r.base; block = r.block; from = r.from; upto = r.upto; inside = r.inside; at_end = r.at_end });
      ready_walked = λ ready. (walked, stopped, has_generation);
      ready_base = λ ready. base_is some;
      ready_tail = λ ready. low;
      seeking = λ ready come_to. absurd (come_to refl);
      first_known = first_by (front_base s == s.walk.tail_base) refl some (w.walked walked stopped) w.first_known;
    });
    noted = λ some. ((λ on. cc), (λ on. cc), (λ on. cc));
    scan_others = f.scan_others;
    scan_self = f.scan_self;
    writes = (let r = f.writes in record { recorded = r.recorded; running = r.running });
    writes_once = f.writes_once;
    put = f.put;
    calls = (let r = f.calls in record {
      laid = r.laid;
      bases = (let b = r.bases in record { most = b.most; whole = b.whole; from_first = b.from_first; bytes = b.bytes });
      reading = λ reading. (let both : true ≡ false = sym reading ∙ stopped in cc);
      numbers = r.numbers;
      task = (let t = r.task in record { won_runs = t.won_runs; put_collects = t.put_collects; synced_syncs = t.synced_syncs });
    });
    tail = f.tail;
    syncs = (let r = f.syncs in record { to = r.to; marks = r.marks; valid = r.valid; answered = r.answered });
  })
    where
      -- a tail at the base of the chain's first log block is in that block
      first_by : (b : Bool) → (front_base s == s.walk.tail_base) ≡ b → (view_of c.views n).parts ≢ [] → HasWalked o (entries o c.history) c.logs s.walk →
          (s.walk.first_log ≢ 0 → IsFirstLog o c.generations c.logs s.hold.generation s.walk.first_log) → (if b then s.walk.tail_block else s.walk.first_log) ≢ 0 →
          IsFirstLog o c.generations c.logs s.hold.generation (if b then s.walk.tail_block else s.walk.first_log)
      first_by false e some has before known = before known
      first_by true e some has before known = record {
        some = has_generation;
        is = sym has.block ∙ ap (λ (l : LogBlock). l.block)
            (ap (λ (base : ℕ). log_at c.logs base) (sym (eqb-true (front_base s) s.walk.tail_base e) ∙ (base_is some ∙ sym (inv.order.generations_rise.cut_base at in_chain.inside)))
            ∙ log_again o c inv (nth_generation c.generations at).cut (inv.order.generations_rise.cut_inside at in_chain.inside));
      }
