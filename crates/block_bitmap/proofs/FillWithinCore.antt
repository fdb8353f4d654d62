-- The law of filling owned blocks within a core; and what a fill leaves has one possible value in each word.
use Rattle.std.proofs.Common.{◌≡◌, ◌<◌, ℕ, true, List, length, refl, ap, subst, arith}
use Rattle.pmem_words.specs.Owned.{owned_at}
use Rattle.pmem_words.specs.Seats.{Seat, q_of}
use Rattle.persistence.specs.Memory.{Cell, Replaced, PendingMark, cell}
use Rattle.log_core.specs.Views.{Ghost}
use Rattle.log_core.specs.Owned.{OwnedHold}
use Rattle.log_core.specs.Certain.{IsCertain}
use Rattle.log_core.proofs.machines.MachineLaws.{Law, promised}
use Rattle.log_core.proofs.machines.Serving.{reached_keeps}
use Rattle.log_core.proofs.machines.GoneOn.{knows_on}
use Rattle.log_core.proofs.starts.StartMeets.{start_meets}
use Rattle.block_bitmap.specs.OwnedWords.{image_word, content_at}
use Rattle.block_bitmap.specs.Filling.{fill_of, fill_script, fill_lowers}
use Rattle.block_bitmap.specs.Filled.{filled_seat}
use Rattle.block_bitmap.specs.FillWithin.{MayFill, IsFilled, FillsWithin, FilledAreCertain}
use Rattle.block_bitmap.proofs.FillStanding.{StoreStands, FillStands}
use Rattle.log_core.proofs.BlockWords.{q_range}
use Rattle.block_bitmap.proofs.FilledSeats.{fenced_many, filled_geometry, same_word, same_content}
use Rattle.block_bitmap.proofs.FillServes.{fill_serves}

-- a fill that has not begun has stored nothing
pub fill_begins : (first count : ℕ) (s : Seat) (g : Ghost) → MayFill first count s g → StoreStands first count s first count 0 s g
fill_begins first count s g may = record {
  here = record {
    some = may.some;
    owned = may.owned;
    inside = (let low = (q_range s.geometry).0 in omega (arith, low));
    calm = may.calm;
    done = 0;
    at = omega arith;
    many = omega arith;
  };
  seat = refl;
  stored = λ k none. absurd (omega (arith, none));
}

abbrev pub fill_law : (first count : ℕ) → Law fill_script (fill_of first count)
fill_law first count = record {
  may = λ o seat s g. MayFill first count s g;
  stands = λ o seat s0 g0 m s g. FillStands first count s0 m s g;
  left = λ o seat s0 g0 out s g. IsFilled first count s0 out s g;
  begins = λ o seat s g may. fill_begins first count s g may;
  serves = λ o seat s0 g0 may. fill_serves o seat first count s0;
  lowers = fill_lowers;
}

pub fills_within : FillsWithin
fills_within first count = promised fill_script (fill_of first count) (fill_law first count)

-- in a fenced block no other value than its content is possible
filled_certain : (cells : ℕ → Cell) (past : List Replaced) (pending : List PendingMark) (seat first count : ℕ) (start : Seat) (g : Ghost) → OwnedHold cells past pending seat g (filled_seat start first count) → (place word : ℕ)
    → (place < length (filled_seat start first count).blocks.owned) × ((owned_at (filled_seat start first count).blocks.owned place).filled ≡ true) × ((owned_at (filled_seat start first count).blocks.owned place).fenced ≡ true)
    → word < q_of start.geometry → IsCertain (cells (image_word start place word)) (content_at start place word)
filled_certain cells past pending seat first count start g held place word each inside =
    (let t : Seat = filled_seat start first count in
    let wide : q_of t.geometry ≡ q_of start.geometry = ap q_of (filled_geometry start first count) in
    let certain : IsCertain (cells (image_word t place word)) (content_at t place word) = held.fenced place word each.0 each.2 (omega (arith, inside, wide)) in
    let many = fenced_many start first count in
    subst (λ (k : ℕ). IsCertain (cells k) (content_at start place word)) (same_word start first count place word (let here = each.0 in omega (arith, many, here)))
    (subst (λ (value : ℕ). IsCertain (cells (image_word t place word)) value) (same_content start first count place word) certain))

pub filled_are_certain : FilledAreCertain
filled_are_certain o start seat first count rest begun s v left c reached at place word low high inside =
    (let inv = reached_keeps o (start_meets o start) c reached in
    let cells : ℕ → Cell = (λ (k : ℕ). cell c.memory k) in
    let known = knows_on o c seat inv v at left.unspent s left.seat in
    let here : OwnedHold cells c.memory.past c.memory.pending seat v.ghost s = known.owned in
    let each = left.fits.each place low high in
    filled_certain cells c.memory.past c.memory.pending seat first count begun v.ghost (subst (λ (t : Seat). OwnedHold cells c.memory.past c.memory.pending seat v.ghost t) left.fits.seat here) place word
    (subst (λ (t : Seat). (place < length t.blocks.owned) × ((owned_at t.blocks.owned place).filled ≡ true) × ((owned_at t.blocks.owned place).fenced ≡ true)) left.fits.seat each) inside)
