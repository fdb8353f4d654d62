-- The law of a walk within a core.
use Rattle.std.proofs.Common.{◌≡◌, ◌<◌, ◌≤◌, ◌==◌, ℕ, Bool, true, false, if◌then◌else◌, refl, arith}
use Rattle.std.proofs.lemmas.Bool.{eqb-false}
use Rattle.pmem_words.specs.Seats.{Seat}
use Rattle.log_core.specs.Views.{Ghost}
use Rattle.log_core.specs.Origin.{Origin}
use Rattle.log_core.specs.Works.{words_of, tail_index}
use Rattle.log_core.specs.Within.{no_record, Lawful, Serves}
use Rattle.log_core.proofs.machines.MachineLaws.{Law, promised}
use Rattle.log_blocks.specs.declared.walk.Tail.{Tail}
use Rattle.log_blocks.specs.declared.walk.Walk.{Walk}
use Rattle.log_blocks.specs.declared.walk.Walk.TheVariants.{Begin, Size, Run, Link, Next, Indirect}
use Rattle.log_blocks.specs.Walking.{walk_script, walk_lowers}
use Rattle.log_blocks.specs.WalkWithin.{MayWalk, HasWalkedOn, WalksWithin}
use Rattle.log_blocks.proofs.Loading.{lawful_known}
use Rattle.log_blocks.proofs.FoundTail.{tail_upto}
use Rattle.log_blocks.proofs.WalkStanding.{WalkStands, IsUnderWay}
use Rattle.log_blocks.proofs.WalkWay.{MayGo, valid, eight}
use Rattle.log_blocks.proofs.WalkFront.{front_lawful, size_lawful}
use Rattle.log_blocks.proofs.WalkSnapshot.{run_lawful, link_lawful, next_lawful}
use Rattle.log_blocks.proofs.WalkTail.{tail_lawful}
use Rattle.log_blocks.proofs.WalkIndirect.{indirect_lawful, blocks_apart}

module _ (o : Origin) (seat : ℕ) (s0 : Seat) (g0 : Ghost) (go : MayGo s0 g0) where
  abbrev P : Walk → Seat → Ghost → Type 0
  P m t h = WalkStands s0 g0 m t h

  abbrev R : Tail → Seat → Ghost → Type 0
  R out t h = HasWalkedOn s0 g0 out t h

  -- the tail's place is one of its block
  index_inside : (s : Seat) → s.walk.tail_slot ≤ words_of s → tail_index s < words_of s
  index_inside s upto = by (s.walk.tail_slot == words_of s) refl
    where
      by : (b : Bool) → (s.walk.tail_slot == words_of s) ≡ b → (if b then 0 else s.walk.tail_slot) < words_of s
      by true e = (let wide = eight s in omega (arith, wide))
      by false e = (let other = eqb-false s.walk.tail_slot (words_of s) e in omega (arith, upto, other))

  begin_serves : (s : Seat) (g : Ghost) (b : Bool) → s.walk.ready ≡ b → P Begin s g → Lawful o seat walk_script no_record P R Begin s g
  begin_serves s g false not_ready stands = front_lawful o seat s0 g0 go s g stands.on_way not_ready stands.stage
  begin_serves s g true ready stands = lawful_known o seat walk_script no_record P R Begin s g
      (λ c pin began inv unspent knows. tail_lawful o seat s0 g0 go s g stands.on_way ready stands.stage
      (index_inside s (tail_upto o c seat s g pin began inv knows unspent (valid s0 g0 go s g stands.on_way) ready)))

  pub walk_serves : Serves o seat walk_script no_record P R
  walk_serves Begin s g stands = begin_serves s g s.walk.ready refl stands
  walk_serves (Size base) s g stands = size_lawful o seat s0 g0 go s g stands.on_way base stands.stage
  walk_serves Run s g stands = run_lawful o seat s0 g0 go s g stands.on_way stands.stage.reads stands.stage
  walk_serves Link s g stands = link_lawful o seat s0 g0 go s g stands.on_way stands.stage.reads stands.stage
  walk_serves (Next block) s g stands = next_lawful o seat s0 g0 go s g stands.on_way stands.stage.reads block stands.stage
  walk_serves (Indirect block count) s g stands = lawful_known o seat walk_script no_record P R (Indirect block count) s g
      (λ c pin began inv unspent knows. indirect_lawful o seat s0 g0 go s g stands.on_way block count stands.stage
      (blocks_apart o seat s0 g0 go s g stands.on_way block count stands.stage c pin began inv unspent knows)
      (tail_upto o c seat s g pin began inv knows unspent (valid s0 g0 go s g stands.on_way) stands.stage.ready))

-- nothing of the seat has changed at first
pub at_first : (s : Seat) (g : Ghost) → IsUnderWay s g s g
at_first s g = record { left = refl; ghost = refl; few = omega arith; rises = λ ready. (ready, omega arith) }

pub may_go : (o : Origin) (seat : ℕ) (s : Seat) (g : Ghost) → MayWalk o seat s g → MayGo s g
may_go o seat s g may = record { valid = may.valid; takes_in = may.takes_in; pinned = may.pinned }

pub walk_begins : (o : Origin) (seat : ℕ) (s : Seat) (g : Ghost) → MayWalk o seat s g → WalkStands s g Begin s g
walk_begins o seat s g may = record { on_way = at_first s g; stage = record { none_kept = may.none_kept; no_bases = may.takes_in.no_bases } }

abbrev pub walk_law : Law walk_script Begin
walk_law = record {
  may = MayWalk;
  stands = λ o seat s0 g0 m s g. WalkStands s0 g0 m s g;
  left = λ o seat s0 g0 out s g. HasWalkedOn s0 g0 out s g;
  begins = λ o seat s g may. walk_begins o seat s g may;
  serves = λ o seat s0 g0 may. walk_serves o seat s0 g0 (may_go o seat s0 g0 may);
  lowers = walk_lowers;
}

pub walks_within : WalksWithin
walks_within = promised walk_script Begin walk_law
