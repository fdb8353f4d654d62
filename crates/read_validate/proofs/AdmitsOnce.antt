-- What a look admits is said once, where what a pin and a walk admit is.
use Rattle.std.proofs.Common.{◌≡◌, ℕ, ◌<◌, refl}
use Rattle.std.proofs.Math.Bridge.{le_prop}
use Rattle.pmem_words.specs.Seats.{Seat}
use Rattle.pins.specs.declared.pin.Pin.{Pin}
use Rattle.pins.specs.Pinning.{pin_script}
use Rattle.log_blocks.specs.declared.walk.Walk.{Walk}
use Rattle.log_blocks.specs.Walking.{walk_script}
use Rattle.read_validate.specs.declared.look.Look.{Look}
use Rattle.read_validate.specs.declared.query.Query.{Query}
use Rattle.read_validate.specs.declared.query.Query.TheVariants.{Size, Range}
use Rattle.read_validate.specs.declared.query.Stage.{Stage}
use Rattle.read_validate.specs.declared.query.Stage.TheVariants.{Pinning, Walking, Reading, Unpinning}
use Rattle.read_validate.specs.declared.range.ReadRange.{ReadRange}
use Rattle.read_validate.specs.Looking.{part_admits, MayReadAt, JointAdmits, look_script}
use Rattle.read_validate.specs.Ranges.{IsInRange, range_script}

range_once : (end place : ℕ) (s : Seat) → IsProp (IsInRange end place s)
range_once end place s = λ x y. λ i. record { upto = le_prop x.upto y.upto i; room = le_prop x.room y.room i }

range_one : (p : ReadRange) (s : Seat) (a : ℕ) → IsProp (range_script.admits p s a)
range_one p s a = λ x y. λ i. (le_prop x.0 y.0 i, range_once p.end p.place s x.1 y.1 i)

read_one : (q : Query) (s : Seat) → IsProp (MayReadAt q s)
read_one Size s = λ x y. refl
read_one (Range offset count) s = λ x y. λ i. λ some. range_once _ _ s (x some) (y some) i

joint_one : (q : Query) (stage : Stage) (s : Seat) (a : ℕ) → IsProp (JointAdmits q stage s a)
joint_one q (Pinning p) s a = λ x y. refl
joint_one q (Walking p) s a = λ x y. λ i. λ out done. read_one q (walk_script.after p s a).seat (x out done) (y out done) i
joint_one q (Reading p) s a = λ x y. refl
joint_one q (Unpinning p) s a = λ x y. refl

module _ (pin_one : (p : Pin) (s : Seat) (a : ℕ) → IsProp (pin_script.admits p s a)) (walk_one : (p : Walk) (s : Seat) (a : ℕ) → IsProp (walk_script.admits p s a)) where
  part_one : (stage : Stage) (s : Seat) (a : ℕ) → IsProp (part_admits stage s a)
  part_one (Pinning p) s a = pin_one p s a
  part_one (Walking p) s a = walk_one p s a
  part_one (Reading p) s a = range_one p s a
  part_one (Unpinning p) s a = λ x y. refl

  pub look_one : (m : Look) (s : Seat) (a : ℕ) → IsProp (look_script.admits m s a)
  look_one m s a = λ x y. λ i. record { part = part_one m.stage s a x.part y.part i; joint = joint_one m.query m.stage s a x.joint y.joint i; falls = λ go. le_prop (x.falls go) (y.falls go) i }
