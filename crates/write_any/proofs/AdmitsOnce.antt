-- What a write admits is said once.
use Rattle.std.proofs.Common.{◌≡◌, ◌⊎◌, inl, inr, ℕ, Bool, true, false, List, [], ◌∷◌, length, refl, sym, ap, ◌∙◌, arith}
use Rattle.std.proofs.Math.Bool.{Bool-set}
use Rattle.std.proofs.Math.Bridge.{le_prop}
use Rattle.std.proofs.Math.Nat.{ℕ_set}
use Rattle.std.proofs.Math.Path.{path_j, sym_refl}
use Rattle.log_entry.specs.Fields.{field}
use Rattle.log_entry.specs.declared.layouts.TheConstants.{BLOCK_KIND, LOG, SNAPSHOT}
use Rattle.pmem_words.specs.Seats.{Seat}
use Rattle.pins.specs.declared.pin.Pin.{Pin}
use Rattle.pins.specs.declared.pin.Pin.TheVariants.{Begin, Publish, Confirm}
use Rattle.pins.specs.Pinning.{pin_admits}
use Rattle.block_bitmap.specs.declared.fill.Fill.{Fill}
use Rattle.block_bitmap.specs.declared.fill.Fill.TheVariants.{Store, Mark, Fence}
use Rattle.block_bitmap.specs.Filling.{fill_admits}
use Rattle.log_blocks.specs.declared.walk.Walk.{Walk}
use Rattle.log_blocks.specs.declared.walk.Walk.TheVariants.{Begin as BeginWalk, Size, Run, Link, Next, Indirect}
use Rattle.log_blocks.specs.Walking.{BeginAdmits, StageAdmits, WalkAdmits}
use Rattle.log_blocks.specs.Offering.{OfferAdmits}
use Rattle.log_blocks.specs.Growing.{GrowAdmits}
use Rattle.write_any.specs.declared.stage.Stage.{Stage}
use Rattle.write_any.specs.declared.stage.Stage.TheVariants.{Pinning, Walking, Taking, TakingRuns, Filling, TakingLog, FillingLog, Growing, GivingLog, Offering, Unpinning, Giving}
use Rattle.write_any.specs.declared.stage.Target.{Target}
use Rattle.write_any.specs.declared.write.Write.{Write}
use Rattle.write_any.specs.Writing.{part_admits, JointAdmits, write_script}

-- a list is empty in one way
emptied : {A : Type 0} (l : List A) → length l ≡ 0 → [] ≡ l
emptied [] none = refl
emptied (x ∷ l) none = absurd (omega (arith, none))

back : {A : Type 0} (l : List A) (e : [] ≡ l) → emptied l (sym (ap length e)) ≡ e
unfolding emptied
back l e = path_j (λ y p. emptied y (sym (ap length p)) ≡ p) refl e

twice : {A : Type 0} {a b : A} (p : a ≡ b) → sym (sym p) ≡ p
twice p = path_j (λ y q. sym (sym q) ≡ q) (ap (λ (e : _). sym e) sym_refl ∙ sym_refl) p

none_one : {A : Type 0} (l : List A) → IsProp (l ≡ [])
none_one l x y =
    sym (twice x) ∙ (ap (λ (e : [] ≡ l). sym e) (sym (back l (sym x)) ∙ (ap (λ (n : length l ≡ 0). emptied l n) (ℕ_set (length l) 0 _ _) ∙ back l (sym y))) ∙ twice y)

-- a block is of one kind
kind_one : (f : ℕ) → IsProp ((field BLOCK_KIND f ≡ LOG) ⊎ (field BLOCK_KIND f ≡ SNAPSHOT))
kind_one f (inl x) (inl y) = ap inl (ℕ_set (field BLOCK_KIND f) LOG x y)
kind_one f (inl x) (inr y) = absurd (omega (arith, x, y))
kind_one f (inr x) (inl y) = absurd (omega (arith, x, y))
kind_one f (inr x) (inr y) = ap inr (ℕ_set (field BLOCK_KIND f) SNAPSHOT x y)

pub pin_one : (p : Pin) (s : Seat) (a : ℕ) → IsProp (pin_admits p s a)
pin_one Begin s a = λ x y. refl
pin_one Publish s a = λ x y. refl
pin_one Confirm s a = le_prop

fill_one : (p : Fill) (s : Seat) (a : ℕ) → IsProp (fill_admits p s a)
fill_one (Store place left word) s a = hlevel le_prop
fill_one (Mark place left word) s a = hlevel le_prop
fill_one Fence s a = λ x y. refl

begin_one : (ready : Bool) (s : Seat) (f : ℕ) → IsProp (BeginAdmits ready s f)
begin_one true s f = hlevel (ℕ_set, Bool-set, le_prop)
begin_one false s f = hlevel (ℕ_set, Bool-set, le_prop, kind_one)

stage_one : (p : Walk) (s : Seat) (f : ℕ) → IsProp (StageAdmits p s f)
stage_one BeginWalk s f = begin_one s.walk.ready s f
stage_one (Size base) s f = le_prop
stage_one Run s f = hlevel (ℕ_set, Bool-set, le_prop)
stage_one Link s f = le_prop
stage_one (Next block) s f = hlevel (ℕ_set, Bool-set, le_prop, kind_one)
stage_one (Indirect block word) s f = hlevel (ℕ_set, Bool-set, le_prop)

pub walk_one : (p : Walk) (s : Seat) (f : ℕ) → IsProp (WalkAdmits p s f)
walk_one p s f = λ x y. λ i. record { room = le_prop x.room y.room i; stage = stage_one p s f x.stage y.stage i; falls = λ go. le_prop (x.falls go) (y.falls go) i }

offer_one : (entry : ℕ) (s : Seat) (f : ℕ) → IsProp (OfferAdmits entry s f)
offer_one entry s f = hlevel (ℕ_set, Bool-set, le_prop, none_one)

grow_one : (block : ℕ) (s : Seat) (f : ℕ) → IsProp (GrowAdmits block s f)
grow_one block s f = hlevel (ℕ_set, Bool-set, le_prop)

part_one : (stage : Stage) (s : Seat) (a : ℕ) → IsProp (part_admits stage s a)
part_one (Pinning p) s a = pin_one p s a
part_one (Walking p) s a = walk_one p s a
part_one (Taking p) s a = hlevel le_prop
part_one (TakingRuns p) s a = hlevel le_prop
part_one (Filling p) s a = fill_one p s a
part_one (TakingLog p) s a = hlevel le_prop
part_one (FillingLog p) s a = fill_one p s a
part_one (Growing p) s a = grow_one p.block s a
part_one (GivingLog p) s a = le_prop
part_one (Offering p) s a = offer_one p.entry s a
part_one (Unpinning refusal p) s a = λ x y. refl
part_one (Giving refusal p) s a = hlevel le_prop

joint_one : (t : Target) (stage : Stage) (s : Seat) (a : ℕ) → IsProp (JointAdmits t stage s a)
joint_one t (Pinning p) s a = λ x y. refl
joint_one t (Walking p) s a = hlevel (ℕ_set, le_prop)
joint_one t (Taking p) s a = hlevel (ℕ_set, le_prop)
joint_one t (TakingRuns p) s a = hlevel (ℕ_set, le_prop)
joint_one t (Filling p) s a = hlevel (ℕ_set, le_prop)
joint_one t (TakingLog p) s a = hlevel (ℕ_set, le_prop)
joint_one t (FillingLog p) s a = hlevel (ℕ_set, le_prop)
joint_one t (Growing p) s a = hlevel (ℕ_set, le_prop)
joint_one t (GivingLog p) s a = λ x y. refl
joint_one t (Offering p) s a = λ x y. refl
joint_one t (Unpinning refusal p) s a = λ x y. refl
joint_one t (Giving refusal p) s a = λ x y. refl

pub write_one : (m : Write) (s : Seat) (a : ℕ) → IsProp (write_script.admits m s a)
write_one m s a = λ x y. λ i. record { part = part_one m.stage s a x.part y.part i; joint = joint_one m.target m.stage s a x.joint y.joint i; falls = λ go. le_prop (x.falls go) (y.falls go) i }
