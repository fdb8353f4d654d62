-- Rows of blocks that are taken, stored, marked and fenced.
use Rattle.std.proofs.Common.{◌≡◌, ◌≤◌, ◌<◌, ◌+◌, ◌/◌, ◌==◌, ◌||◌, ◌%◌, not, ℕ, zero, suc, Bool, true, refl, arith, Option, None, Some, ap}
use Rattle.std.proofs.lemmas.Bool.{false≢true, and_parts, eqb-true}
use Rattle.std.specs.Int.{bit_at}
use Rattle.log_entry.specs.declared.shapes.Area.{Area}
use Rattle.log_entry.specs.declared.shapes.Area.TheVariants.{Data, Log, Spare}
use Rattle.pmem_words.specs.Owned.{is_among}
use Rattle.pmem_words.specs.declared.keeps.Task.TheVariants.{Pwrite}
use Rattle.log_core.specs.Views.{Stored, view_of}
use Rattle.log_core.specs.Works.{seat_shape, stored_at, content_word}
use Rattle.log_core.specs.Needs.{is_in_area, lacking}
use Rattle.log_core.specs.worked_rows.Rows.{walked, taken_by_one, longer_writer, marked_words, BitsTaken, FenceFollows}
use Rattle.log_core.proofs.row_checks.RowChecks.{all_below, below_implied}

-- a block whose bit is in the first word is below 64
pub in_first : (block : ℕ) → (block / 64 == 0) ≡ true → block < 64
in_first block same = (let none = eqb-true (block / 64) 0 same in omega (arith, none))

-- the blocks of bits of the first word pass a test, where the 64 blocks there do
pub all_among : (bits : ℕ) (test : ℕ → Bool) → all_below 64 (λ block. not (is_among 0 bits block) || test block) ≡ true → (block : ℕ) → is_among 0 bits block ≡ true → test block ≡ true
all_among bits test all block among =
    below_implied 64 (λ other. is_among 0 bits other) test block all (in_first block (and_parts (block / 64 == 0) (bit_at bits (block % 64) == 1) among).0) among

none_more : (area : Area) → 2 ≤ lacking (view_of walked.views 0).seat (Pwrite 0) area → ⊥
none_more Data many = omega (arith, many)
none_more Log many = omega (arith, many)
none_more Spare many = omega (arith, many)

none_after : (area : Area) → is_in_area (seat_shape (view_of taken_by_one.views 0).seat) area 2 ≡ true → 1 ≤ lacking (view_of taken_by_one.views 0).seat (Pwrite 0) area → ⊥
none_after Data within some = omega (arith, some)
none_after Log within some = false≢true within
none_after Spare within some = omega (arith, some)

not_both : (area : Area) → is_in_area (seat_shape longer_writer) area 4 ≡ true → 2 ≤ lacking longer_writer (Pwrite 0) area → ⊥
not_both Data within many = false≢true within
not_both Log within many = omega (arith, many)
not_both Spare within many = omega (arith, many)

pub bits_taken : BitsTaken
bits_taken = (
  refl,
  refl,
  refl,
  refl,
  refl,
  refl,
  refl,
  record { inside = omega arith; area = Data; in_area = all_among 2 (λ block. is_in_area (seat_shape (view_of walked.views 0).seat) Data block) refl; few = omega arith },
  λ may. none_more may.area may.few,
  λ may. none_after may.area (may.in_area 2 refl) may.few,
  record { inside = omega arith; area = Data; in_area = all_among 6 (λ block. is_in_area (seat_shape longer_writer) Data block) refl; few = omega arith },
  λ may. not_both may.area (may.in_area 4 refl) may.few,
)

-- each word is stored and marked
each_marked : (word : ℕ) → word < 8
    → stored_at (view_of marked_words.views 0).ghost.stored (8 + word) ≡ Some (record { word = 8 + word; value = content_word (view_of marked_words.views 0).seat 0 word; marked = true })
each_marked zero less = refl
each_marked (suc zero) less = refl
each_marked (suc (suc zero)) less = refl
each_marked (suc (suc (suc zero))) less = refl
each_marked (suc (suc (suc (suc zero)))) less = refl
each_marked (suc (suc (suc (suc (suc zero))))) less = refl
each_marked (suc (suc (suc (suc (suc (suc zero)))))) less = refl
each_marked (suc (suc (suc (suc (suc (suc (suc zero))))))) less = refl
each_marked (suc (suc (suc (suc (suc (suc (suc (suc word)))))))) less = absurd (omega (arith, less))

marked_by : Option Stored → Bool
marked_by None = true
marked_by (Some stored) = stored.marked

pub fence_follows : FenceFollows
unfolding marked_by
fence_follows = (
  refl,
  refl,
  refl,
  refl,
  refl,
  refl,
  each_marked,
  record { owned = omega arith; each = each_marked },
  λ may. false≢true (ap marked_by (may.each 0 (omega arith))),
  refl,
  refl,
  refl,
  refl,
  refl,
  refl,
  refl,
  refl,
)
