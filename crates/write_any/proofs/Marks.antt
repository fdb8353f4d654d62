-- Marks of owned blocks change nothing else of them.
use Rattle.std.proofs.Common.{◌≡◌, ℕ, zero, suc, ◌+◌, Bool, List, [], ◌∷◌, slice_set, refl, ap, ◌∙◌}
use Rattle.pmem_words.specs.Owned.{owned_at, with_filled, with_fenced, fenced_all}
use Rattle.pmem_words.specs.declared.owned.OwnedBlock.{OwnedBlock}
use Rattle.pmem_words.specs.Seats.{Seat}
use Rattle.block_bitmap.specs.Filled.{filled_from, filled_anew, filled_seat}
use Rattle.write_any.proofs.Composed.{bare}
use Rattle.write_any.proofs.WriteStanding.{unmarked, unmarked_all}

pub set_marked : (owned : List OwnedBlock) (place : ℕ) (o : OwnedBlock) → unmarked o ≡ unmarked (owned_at owned place) → unmarked_all (slice_set owned place o) ≡ unmarked_all owned
set_marked [] place o same = refl
set_marked (x ∷ xs) zero o same = ap (λ (y : OwnedBlock). y ∷ unmarked_all xs) same
set_marked (x ∷ xs) (suc place) o same = ap (λ (l : List OwnedBlock). unmarked x ∷ l) (set_marked xs place o same)

pub filled_marks : (owned : List OwnedBlock) (place : ℕ) (b : Bool) → unmarked_all (with_filled owned place b) ≡ unmarked_all owned
filled_marks owned place b = set_marked owned place (record (owned_at owned place) { filled = b }) refl

pub fenced_marks : (owned : List OwnedBlock) (place : ℕ) (b : Bool) → unmarked_all (with_fenced owned place b) ≡ unmarked_all owned
fenced_marks owned place b = set_marked owned place (record (owned_at owned place) { fenced = b }) refl

pub all_marks : (owned : List OwnedBlock) → unmarked_all (fenced_all owned) ≡ unmarked_all owned
all_marks [] = refl
all_marks (o ∷ owned) = ap (λ (l : List OwnedBlock). unmarked o ∷ l) (all_marks owned)

-- and filling changes these marks alone
pub from_marks : (s : Seat) (place n : ℕ) → unmarked_all (filled_from s place n).blocks.owned ≡ unmarked_all s.blocks.owned
from_marks s place zero = refl
from_marks s place (suc n) = from_marks (filled_anew s place) (place + 1) n
    ∙ (filled_marks _ place _ ∙ (fenced_marks _ place _ ∙ filled_marks s.blocks.owned place _))

pub filled_seat_marks : (s : Seat) (place n : ℕ) → unmarked_all (filled_seat s place n).blocks.owned ≡ unmarked_all s.blocks.owned
filled_seat_marks s place n = all_marks (filled_from s place n).blocks.owned ∙ from_marks s place n

pub from_bare : (s : Seat) (place n : ℕ) → bare (filled_from s place n) ≡ bare s
from_bare s place zero = refl
from_bare s place (suc n) = from_bare (filled_anew s place) (place + 1) n

pub filled_seat_bare : (s : Seat) (place n : ℕ) → bare (filled_seat s place n) ≡ bare s
filled_seat_bare s place n = from_bare s place n
