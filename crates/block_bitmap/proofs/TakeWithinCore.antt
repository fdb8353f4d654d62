-- The law of taking blocks within a core.
use Rattle.std.proofs.Common.{◌≡◌, ◌<◌, ◌+◌, ◌/◌, ℕ, true, [], refl, sym, ap, arith, append-nil, ◌∙◌, Option, Some, None}
use Rattle.log_entry.specs.declared.shapes.Area.{Area}
use Rattle.log_entry.specs.Geometry.{first_of}
use Rattle.pmem_words.specs.Seats.{Seat}
use Rattle.log_core.specs.Views.{Ghost}
use Rattle.log_core.specs.Origin.{Origin}
use Rattle.log_core.specs.Works.{seat_shape}
use Rattle.log_core.specs.Needs.{is_in_area, owned_in}
use Rattle.log_core.specs.Within.{no_record, ghost_found, IsFound}
use Rattle.log_core.proofs.machines.Framing.{Frames, serves_with, serves_as}
use Rattle.log_core.proofs.machines.MachineLaws.{Law, promised}
use Rattle.block_bitmap.specs.declared.take.Take.{Take}
use Rattle.block_bitmap.specs.TakeScript.{take_of, take_script, asks_at}
use Rattle.block_bitmap.specs.TakeLowering.{take_lowers}
use Rattle.block_bitmap.specs.TakeAlone.{found_as}
use Rattle.block_bitmap.specs.TakeWithin.{MayLack, HasEnded, HasTakenBlocks, TakesWithin}
use Rattle.block_bitmap.proofs.TakeStanding.{TakeStands}
use Rattle.block_bitmap.proofs.TakeWords.{area_from, some_in}
use Rattle.block_bitmap.proofs.TakeSteps.{none_taken}
use Rattle.block_bitmap.proofs.TakeServes.{take_serves}

-- a pass that has not begun has taken nothing
pub take_begins : (area : Area) (count : ℕ) (s : Seat) (g h : Ghost) → MayLack area count s g → TakeStands area count s (take_of area count) s h
take_begins area count s g h may = record {
  area_is = refl;
  may = record { some = may.some; lacks = may.lacks; room = may.room };
  to = (let some = some_in s.geometry area in omega (arith, some));
  blocks = [];
  grown = record { seat = sym (ap (found_as s.blocks.found) (none_taken area s)); in_area = λ block some. cc; more = sym (append-nil (owned_in s area)) };
  many = omega arith;
  passed = λ block less inside. absurd (before block less inside);
  known = tt;
}
  where
    before : (block : ℕ) → block / 64 < first_of s.geometry area / 64 + 0 → is_in_area (seat_shape s) area block ≡ true → ⊥
    before block less inside = (let from = (area_from s.geometry area block inside).0 in omega (arith, less, from))

-- the marks are as they were
pub record HasMarks (g0 g : Ghost) : Type 0 where
  pub marks : g.marks ≡ g0.marks

-- a step of taking marks nothing
marks_at : (o : Origin) (seat : ℕ) (known : Option ℕ) (m : Take) (s : Seat) (g : Ghost) (f : ℕ) → (ghost_found o seat (asks_at known m s) s g f).marks ≡ g.marks
marks_at o seat None m s g f = refl
marks_at o seat (Some known) m s g f = refl

pub take_keeps : (area : Area) (count : ℕ) (o : Origin) (seat : ℕ) (s0 : Seat) (g0 : Ghost) (m : Take) (s : Seat) (g : Ghost) (f : ℕ) → TakeStands area count s0 m s g → HasMarks g0 g → IsFound o seat s g (take_script.asks m s) f →
    Frames o seat take_script no_record (TakeStands area count s0) (HasEnded area count s0) (λ m s g. HasMarks g0 g) (λ out s g. HasMarks g0 g) m s g f
take_keeps area count o seat s0 g0 m s g f stands same found = record {
  goes = λ go. record { marks = marks_at o seat m.known m s g f ∙ same.marks };
  ends = λ out done. record { marks = marks_at o seat m.known m s g f ∙ same.marks };
}

abbrev pub take_law : (area : Area) (count : ℕ) → Law take_script (take_of area count)
take_law area count = record {
  may = λ o seat s g. MayLack area count s g;
  stands = λ o seat s0 g0 m s g. TakeStands area count s0 m s g × HasMarks g0 g;
  left = λ o seat s0 g0 out s g. HasTakenBlocks area count o seat s0 g0 out s g;
  begins = λ o seat s g may. (take_begins area count s g g may, record { marks = refl });
  serves = λ o seat s0 g0 may. serves_as o seat take_script no_record (λ m s g. TakeStands area count s0 m s g × HasMarks g0 g) (λ out s g. HasEnded area count s0 out s g × HasMarks g0 g) (HasTakenBlocks area count o seat s0 g0)
      (λ out s g left. record { ended = left.0; marks = left.1.marks })
      (serves_with o seat take_script no_record (TakeStands area count s0) (HasEnded area count s0) (λ m s g. HasMarks g0 g) (λ out s g. HasMarks g0 g) (take_keeps area count o seat s0 g0) (take_serves o seat area count s0));
  lowers = take_lowers;
}

pub takes_within : TakesWithin
takes_within area count = promised take_script (take_of area count) (take_law area count)
