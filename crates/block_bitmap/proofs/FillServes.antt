-- Filling owned blocks is lawful within a core.
use Rattle.std.proofs.Common.{◌≡◌, ◌<◌, ◌||◌, ℕ, Bool, true, false, length, refl, sym, ap, subst}
use Rattle.pmem_words.specs.Owned.{owned_at}
use Rattle.pmem_words.specs.Seats.{Seat}
use Rattle.log_core.specs.Views.{Ghost}
use Rattle.log_core.specs.Origin.{Origin}
use Rattle.log_core.specs.Steps.{Fences, effect, is_head_marked}
use Rattle.log_core.specs.Within.{no_record, Lawful, Serves}
use Rattle.log_core.proofs.kinds.Fences.{no_sync_fenced}
use Rattle.log_core.proofs.machines.Entering.{enters_same}
use Rattle.block_bitmap.specs.declared.fill.Fill.TheVariants.{Store, Mark, Fence}
use Rattle.block_bitmap.specs.OwnedWords.{all_fenced}
use Rattle.block_bitmap.specs.Filling.{fill_script}
use Rattle.block_bitmap.specs.FillWithin.{IsCalm, IsFilled}
use Rattle.block_bitmap.proofs.FillStanding.{FenceStands, FillStands}
use Rattle.block_bitmap.proofs.FilledSeats.{each_fenced}
use Rattle.block_bitmap.proofs.FillStores.{store_lawful}
use Rattle.block_bitmap.proofs.FillMarks.{mark_lawful}

module _ (o : Origin) (seat first count : ℕ) (start : Seat) where
  -- the fence leaves all but the owned blocks
  fences : (s : Seat) (g : Ghost) (f : ℕ) → IsCalm s g → effect g.marks s Fences f ≡ all_fenced s
  fences s g f calm = (λ i. record s {
    calling = record (s.calling) { sync_to = no_sync_fenced s.calling.job s.walk.at_tail s.walk.position s.calling.sync_to calm.no_sync i };
    blocks = (all_fenced s).blocks;
    giving = record (s.giving) { head_fenced = by s.giving.head_fenced (is_head_marked s.giving.replaced_generation g.marks) calm.no_head i };
  })
    where
      by : (fenced is_marked : Bool) → (is_marked ≡ true → fenced ≡ true) → (fenced || is_marked) ≡ fenced
      by true is_marked no_head = refl
      by false true no_head = sym (no_head refl)
      by false false no_head = refl

  fence_lawful : (s : Seat) (g : Ghost) → FenceStands first count start s g → Lawful o seat fill_script no_record (FillStands first count start) (IsFilled first count start) Fence s g
  fence_lawful s g stands = record {
    may = λ c pin began inv unspent knows. record { in_sync = λ sync at_tail none. absurd (stands.calm.no_sync sync) };
    admitted = λ c pin began inv unspent knows. tt;
    enters = λ f found admits. enters_same _ _ (all_fenced s) (fences s g f stands.calm);
    goes = λ f found admits go. cc;
    ends = λ f out found admits done. record {
      seat = ap all_fenced stands.seat;
      each = λ place low high. subst (λ (t : Seat). (place < length t.blocks.owned) × ((owned_at t.blocks.owned place).filled ≡ true) × ((owned_at t.blocks.owned place).fenced ≡ true)) (sym (ap all_fenced stands.seat)) (each_fenced start first count place stands.owned low high);
      no_marks = refl;
    };
  }

  pub fill_serves : Serves o seat fill_script no_record (FillStands first count start) (IsFilled first count start)
  fill_serves (Store place left word) s g stands = store_lawful o seat first count start place left word s g stands
  fill_serves (Mark place left word) s g stands = mark_lawful o seat first count start place left word s g stands
  fill_serves Fence s g stands = fence_lawful s g stands
