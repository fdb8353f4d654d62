-- Parts of a trace's calls.
use Rattle.std.proofs.Common.{◌≡◌, ◌==◌, ℕ, Bool, true, false, List, [], ◌∷◌, length, take, refl, sym, ◌∙◌, ap, arith}
use Rattle.std.proofs.Math.Seq.{take-length}
use Rattle.log_entry.specs.OfTrace.{Asked, answered_for, asked_for, WholeIsPart, LongPartIsWhole}
use Rattle.log_entry.specs.Rows.{at, asks, PartOfTrace}
use Rattle.log_entry.specs.declared.calls.Op.TheVariants.{Size, Sync}
use Rattle.log_entry.specs.declared.calls.Reply.TheVariants.{Size as FileSize}

pub whole_is_part : WholeIsPart
whole_is_part calls trace of_trace seat = of_trace seat ∙ (sym (take-length (asked_for seat trace)) ∙ ap (λ (asked : List Asked). take (length asked) (asked_for seat trace)) (sym (of_trace seat)))

pub long_part_is_whole : LongPartIsWhole
long_part_is_whole calls trace part long seat = part seat ∙ (ap (λ (count : ℕ). take count (asked_for seat trace)) (long seat) ∙ take-length (asked_for seat trace))

-- the first of a seat's two calls is a part; the second has another number, and the first is not both
pub part_of_trace : PartOfTrace
part_of_trace = (
  λ seat. by seat (0 == seat) refl,
  λ part. (let same = ap first_number (part 0) in omega (arith, same)),
  λ whole. (let long = ap (λ (asked : List Asked). length asked) (whole 0) in omega (arith, long)),
)
  where
    first_number : List Asked → ℕ
    first_number [] = 0
    first_number (asked ∷ rest) = asked.number

    by : (seat : ℕ) (own : Bool) → (0 == seat) ≡ own →
        answered_for seat (at 0 1 Size (FileSize 0) ∷ []) ≡ take (length (answered_for seat (at 0 1 Size (FileSize 0) ∷ []))) (asked_for seat (asks 1 Size ∷ asks 2 Sync ∷ []))
    by seat true is = rw is refl
    by seat false is = rw is refl
