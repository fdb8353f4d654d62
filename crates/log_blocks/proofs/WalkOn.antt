-- A walk that goes on from an indirect entry that was found at the tail comes further.
use Rattle.std.proofs.Common.{◌≡◌, ◌<◌, ◌≤◌, ◌+◌, ◌==◌, nat_lt, inl, ℕ, Bool, true, false, [], refl, sym, ap, ◌∙◌, subst, arith}
use Rattle.log_entry.specs.Fields.{field}
use Rattle.log_entry.specs.declared.layouts.TheConstants.{EMPTY, SEAL, ENTRY_KIND, INDIRECT, INDIRECT_BLOCK}
use Rattle.pmem_words.specs.declared.machine.Turn.TheVariants.{Done}
use Rattle.pmem_words.specs.Seats.{Seat}
use Rattle.pmem_words.specs.Scripts.{After}
use Rattle.log_core.specs.Views.{Ghost}
use Rattle.log_core.specs.Origin.{Origin}
use Rattle.log_core.specs.Works.{words_of}
use Rattle.log_core.specs.Within.{no_record, IsFound, Serves}
use Rattle.log_core.proofs.machines.Framing.{Frames, serves_with, serves_as}
use Rattle.log_core.proofs.machines.MachineLaws.{Law, promised}
use Rattle.log_blocks.specs.declared.walk.Tail.{Tail}
use Rattle.log_blocks.specs.declared.walk.Walk.{Walk}
use Rattle.log_blocks.specs.declared.walk.Walk.TheVariants.{Begin, Size, Run, Link, Next, Indirect}
use Rattle.log_blocks.specs.Taking.{with_kept}
use Rattle.log_blocks.specs.Walking.{walk_script, walk_lowers, walk_after, begin_after, tail_after, slot_after, indirect_after}
use Rattle.log_blocks.specs.WalkWithin.{MayWalkOn, HasWalkedOn, HasPassed, WalksOnWithin}
use Rattle.log_blocks.proofs.WalkStanding.{WalkStands}
use Rattle.log_blocks.proofs.WalkWay.{MayGo, eight}
use Rattle.log_blocks.proofs.WalkServes.{walk_serves, at_first}

never : {P : Type 0} {b : Bool} → b ≡ false → b ≡ true → P
never is also = (let both : false ≡ true = sym is ∙ also in cc)

-- once the entry is taken in the position is a later one than at first
abbrev pub HasCome : Seat → Walk → Seat → Ghost → Type 0
HasCome s0 (Indirect block word) t h = s0.walk.position ≤ t.walk.position
HasCome s0 m t h = s0.walk.position < t.walk.position

module _ (o : Origin) (seat : ℕ) (s0 : Seat) (g0 : Ghost) (go : MayGo s0 g0) (ready0 : s0.walk.ready ≡ true) where
  abbrev P : Walk → Seat → Ghost → Type 0
  P m t h = WalkStands s0 g0 m t h

  abbrev R : Tail → Seat → Ghost → Type 0
  R out t h = HasWalkedOn s0 g0 out t h

  abbrev IsLater : Tail → Seat → Ghost → Type 0
  IsLater out t h = s0.walk.position < t.walk.position

  later : (m : Walk) (t : Seat) (h : Ghost) → s0.walk.position < t.walk.position → HasCome s0 m t h
  later Begin t h less = less
  later (Size base) t h less = less
  later Run t h less = less
  later Link t h less = less
  later (Next block) t h less = less
  later (Indirect block word) t h less = omega (arith, less)

  -- no step at the tail goes back
  slot_rises : (seal indirect : Bool) (s : Seat) (f : ℕ) → s.walk.position ≤ (slot_after seal indirect s f).seat.walk.position
  slot_rises true indirect s f = omega arith
  slot_rises false true s f = omega arith
  slot_rises false false s f = omega arith

  tail_rises : (empty last : Bool) (s : Seat) (f : ℕ) → s.walk.position ≤ (tail_after empty last s f).seat.walk.position
  tail_rises true last s f = omega arith
  tail_rises false true s f = omega arith
  tail_rises false false s f = slot_rises (f == SEAL) (field ENTRY_KIND f == INDIRECT) s f

  begin_rises : (s : Seat) (f : ℕ) → s.walk.ready ≡ true → s.walk.position ≤ (walk_after Begin s f).seat.walk.position
  begin_rises s f ready = subst (λ (r : After Walk Tail). s.walk.position ≤ r.seat.walk.position) (sym (ap (λ (b : Bool). begin_after b s f) ready)) (tail_rises (f == EMPTY) (s.walk.tail_slot == words_of s) s f)

  indirect_comes : (more : Bool) (block word : ℕ) (s : Seat) (h : Ghost) → s0.walk.position ≤ s.walk.position → HasCome s0 (indirect_after more block word s).machine (indirect_after more block word s).seat h
  indirect_comes true block word s h low = low
  indirect_comes false block word s h low = omega (arith, low)

  no_end : (more : Bool) (block word : ℕ) (s : Seat) (out : Tail) → (indirect_after more block word s).turn ≡ Done out → ⊥
  no_end true block word s out done = cc
  no_end false block word s out done = cc

  -- it stays ready
  ready_now : (m : Walk) (s : Seat) (g : Ghost) → P m s g → s.walk.ready ≡ true
  ready_now m s g stands = (stands.on_way.rises ready0).0

  keeps : (m : Walk) (s : Seat) (g : Ghost) (f : ℕ) → P m s g → HasCome s0 m s g → IsFound o seat s g (walk_script.asks m s) f → Frames o seat walk_script no_record P R (HasCome s0) IsLater m s g f
  keeps Begin s g f stands come found = (let rise = begin_rises s f (ready_now Begin s g stands) in record {
    goes = λ turn. later (walk_after Begin s f).machine (walk_after Begin s f).seat _ (omega (arith, come, rise));
    ends = λ out done. omega (arith, come, rise);
  })
  keeps (Size base) s g f stands come found = never stands.stage.not_ready (ready_now (Size base) s g stands)
  keeps Run s g f stands come found = never stands.stage.reads.not_ready (ready_now Run s g stands)
  keeps Link s g f stands come found = never stands.stage.reads.not_ready (ready_now Link s g stands)
  keeps (Next block) s g f stands come found = never stands.stage.reads.not_ready (ready_now (Next block) s g stands)
  keeps (Indirect block word) s g f stands come found = record {
    goes = λ turn. indirect_comes (nat_lt (word + 1) (words_of s)) block word (with_kept s block word f) _ come;
    ends = λ out done. absurd (no_end (nat_lt (word + 1) (words_of s)) block word (with_kept s block word f) out done);
  }

  pub walk_on_serves : Serves o seat walk_script no_record (λ m s g. P m s g × HasCome s0 m s g) (λ out s g. HasPassed s0 g0 out s g)
  walk_on_serves = serves_as o seat walk_script no_record (λ m s g. P m s g × HasCome s0 m s g) (λ out s g. R out s g × IsLater out s g) (λ out s g. HasPassed s0 g0 out s g)
      (λ out s g both. record { walked = both.0; further = both.1 })
      (serves_with o seat walk_script no_record P R (HasCome s0) IsLater keeps (walk_serves o seat s0 g0 go))

pub on_go : (word : ℕ) (o : Origin) (seat : ℕ) (s : Seat) (g : Ghost) → MayWalkOn word o seat s g → MayGo s g
on_go word o seat s g may = record { valid = may.valid; takes_in = may.takes_in; pinned = λ other. (let both : true ≡ false = sym may.ready ∙ other in cc) }

pub walk_on_begins : (word : ℕ) (o : Origin) (seat : ℕ) (s : Seat) (g : Ghost) → MayWalkOn word o seat s g → WalkStands s g (Indirect (field INDIRECT_BLOCK word) 0) s g × (s.walk.position ≤ s.walk.position)
walk_on_begins word o seat s g may = (
  record {
    on_way = at_first s g;
    stage = record {
      ready = may.ready;
      unclosed = may.inside;
      inside = (let wide = eight s in omega (arith, wide));
      word = word;
      kind = may.kind;
      block_is = refl;
      words = [];
      kept = may.kept;
      count_is = refl;
      apart = inl refl;
    };
  },
  omega arith,
)

abbrev pub walk_on_law : (word : ℕ) → Law walk_script (Indirect (field INDIRECT_BLOCK word) 0)
walk_on_law word = record {
  may = MayWalkOn word;
  stands = λ o seat s0 g0 m s g. WalkStands s0 g0 m s g × HasCome s0 m s g;
  left = λ o seat s0 g0 out s g. HasPassed s0 g0 out s g;
  begins = λ o seat s g may. walk_on_begins word o seat s g may;
  serves = λ o seat s0 g0 may. walk_on_serves o seat s0 g0 (on_go word o seat s0 g0 may) may.ready;
  lowers = walk_lowers;
}

pub walks_on_within : WalksOnWithin
walks_on_within word = promised walk_script (Indirect (field INDIRECT_BLOCK word) 0) (walk_on_law word)
