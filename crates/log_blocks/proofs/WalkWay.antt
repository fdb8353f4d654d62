-- What a walk has kept of its seat, from step to step.
use Rattle.std.proofs.Common.{◌≡◌, ◌<◌, ◌≤◌, ◌+◌, ◌*◌, ℕ, Bool, true, false, List, length, refl, sym, ◌∙◌, ap, arith}
use Rattle.log_entry.specs.Fields.{field}
use Rattle.log_entry.specs.declared.layouts.TheConstants.{HEAD_GENERATION}
use Rattle.pmem_words.specs.Seats.{Seat, Walk as WalkPart}
use Rattle.log_core.specs.Views.{Ghost}
use Rattle.log_core.specs.Works.{words_of, IsFree}
use Rattle.log_core.proofs.BlockWords.{q_range}
use Rattle.log_blocks.specs.Walking.{rank_by, log_left, whole_log}
use Rattle.log_blocks.specs.WalkWithin.{MayTakeIn}
use Rattle.log_blocks.proofs.WalkStanding.{IsUnderWay}

-- what a walk has of the seat with which it begins
pub record MayGo (s : Seat) (g : Ghost) : Type 0 where
  pub valid : s.hold.valid ≡ true
  pub takes_in : MayTakeIn s g
  pub pinned : s.walk.ready ≡ false → field HEAD_GENERATION s.hold.head ≡ s.hold.generation

-- a block has at least eight words
pub eight : (s : Seat) → 8 ≤ words_of s
eight s = (q_range s.geometry).0

pub most : (s : Seat) → words_of s ≤ 512
most s = (q_range s.geometry).1

-- what is left of the log
pub rank_small : (closed first : Bool) → rank_by closed first ≤ 2
rank_small true first = omega arith
rank_small false true = omega arith
rank_small false false = omega arith

pub log_small : (s : Seat) → log_left s * 1024 + 1000 < whole_log
log_small s = (let rank = rank_small (Rattle.std.specs.Prelude.nat_eq s.walk.tail_slot (words_of s)) (Rattle.std.specs.Prelude.nat_eq s.walk.tail_slot 3) in omega (arith, rank))

module _ (s0 : Seat) (g0 : Ghost) (may : MayGo s0 g0) (s : Seat) (g : Ghost) (on_way : IsUnderWay s0 g0 s g) where
  pub valid : s.hold.valid ≡ true
  valid = ap (λ (t : Seat). t.hold.valid) on_way.left ∙ may.valid

  pub free : IsFree g s.calling
  free = (let r = may.takes_in.free in record {
    not_won = ap (λ (t : Seat). t.calling.won) on_way.left ∙ r.not_won;
    none_laid = ap (λ (t : Seat). Rattle.log_core.specs.Works.laid_bytes t.calling.job t.calling.bytes) on_way.left ∙ r.none_laid;
    no_sync = ap (λ (t : Seat). t.calling.sync_to) on_way.left ∙ r.no_sync;
    no_head = ap (λ (h : Ghost). h.call.put) on_way.ghost ∙ r.no_head;
  })

  pub pinned : s.walk.ready ≡ false → field HEAD_GENERATION s.hold.head ≡ s.hold.generation
  pinned not_ready = ap (λ (t : Seat). field HEAD_GENERATION t.hold.head) on_way.left ∙ (by s0.walk.ready refl ∙ sym (ap (λ (t : Seat). t.hold.generation) on_way.left))
    where
      by : (b : Bool) → s0.walk.ready ≡ b → field HEAD_GENERATION s0.hold.head ≡ s0.hold.generation
      by true ready = (let now = (on_way.rises ready).0 in let both : true ≡ false = sym now ∙ not_ready in cc)
      by false ready = may.pinned ready

  pub few : length s.calling.bases ≤ 2
  few = (let low = on_way.few in let two = may.takes_in.few in omega (arith, low, two))

  -- the walk goes on to this place, with these partly touched blocks and these blocks noted
  pub goes_to : (w : WalkPart) (bases words : List ℕ) (noting : Bool) (named : List ℕ) → length bases ≤ length s.calling.bases → (s.walk.ready ≡ true → (w.ready ≡ true) × (s.walk.position ≤ w.position)) →
      IsUnderWay s0 g0 (record s { walk = w; calling = record s.calling { bases = bases; base_words = words; noting = noting }; blocks = record s.blocks { named = named } }) g
  goes_to w bases words noting named fewer rises = record {
    left = ap (λ (t : Seat). record t { walk = w; calling = record t.calling { bases = bases; base_words = words; noting = noting }; blocks = record t.blocks { named = named } }) on_way.left;
    ghost = on_way.ghost;
    few = (let low = on_way.few in omega (arith, low, fewer));
    rises = λ ready. (let now = on_way.rises ready in let next = rises now.0 in (next.0, (let low = now.1 in let high = next.1 in omega (arith, low, high))));
  }

  pub goes_on : (w : WalkPart) → (s.walk.ready ≡ true → (w.ready ≡ true) × (s.walk.position ≤ w.position)) → IsUnderWay s0 g0 (record s { walk = w }) g
  goes_on w rises = goes_to w s.calling.bases s.calling.base_words s.calling.noting s.blocks.named (omega arith) rises

  pub notes_on : (w : WalkPart) (named : List ℕ) → (s.walk.ready ≡ true → (w.ready ≡ true) × (s.walk.position ≤ w.position)) → IsUnderWay s0 g0 (record s { walk = w; blocks = record s.blocks { named = named } }) g
  notes_on w named rises = goes_to w s.calling.bases s.calling.base_words s.calling.noting named (omega arith) rises

  pub begins_on : (w : WalkPart) (noting : Bool) (named : List ℕ) → (s.walk.ready ≡ true → (w.ready ≡ true) × (s.walk.position ≤ w.position)) →
      IsUnderWay s0 g0 (record s { walk = w; calling = record s.calling { noting = noting }; blocks = record s.blocks { named = named } }) g
  begins_on w noting named rises = goes_to w s.calling.bases s.calling.base_words noting named (omega arith) rises
