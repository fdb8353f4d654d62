-- Taking, filling and giving back leave what contracts see of the call, too.
use Rattle.std.proofs.Common.{◌≡◌, ℕ, refl, Option, Some, None}
use Rattle.log_entry.specs.declared.shapes.Area.{Area}
use Rattle.pmem_words.specs.Seats.{Seat}
use Rattle.log_core.specs.Views.{Ghost}
use Rattle.log_core.specs.Origin.{Origin}
use Rattle.log_core.specs.Within.{no_record, ghost_found}
use Rattle.log_core.proofs.machines.Framing.{serves_with}
use Rattle.log_core.proofs.machines.MachineLaws.{Law}
use Rattle.block_bitmap.specs.declared.take.Take.{Take}
use Rattle.block_bitmap.specs.declared.fill.Fill.{Fill}
use Rattle.block_bitmap.specs.declared.fill.Fill.TheVariants.{Store, Mark, Fence}
use Rattle.block_bitmap.specs.declared.give.GiveFrom.{GiveFrom}
use Rattle.block_bitmap.specs.TakeScript.{take_of, take_script, asks_at}
use Rattle.block_bitmap.specs.Filling.{fill_of, fill_script}
use Rattle.block_bitmap.specs.Giving.{give_of, give_script}
use Rattle.block_bitmap.proofs.TakeWithinCore.{take_law}
use Rattle.block_bitmap.proofs.FillWithinCore.{fill_law}
use Rattle.block_bitmap.proofs.GiveWithinCore.{give_law}

-- the call has put no other head in place, and its number is the same
pub record HasSamePut (g0 g : Ghost) : Type 0 where
  pub put : g.call.put ≡ g0.call.put
  pub number : g.call.number ≡ g0.call.number

-- contracts see the same of the call
pub record HasSameCall (g0 g : Ghost) : Type 0 where
  pub call : g.call ≡ g0.call

-- a part's law, and a fact of what contracts see that each of its steps keeps
module _ {M Out : Type 0} {first : M} where
  abbrev pub with_fact : (script : Rattle.pmem_words.specs.Scripts.Script M Out) (law : Law script first) (K : Ghost → Ghost → Type 0) → ((g : Ghost) → K g g)
      → ((o : Origin) (seat : ℕ) (m : M) (s : Seat) (g0 g : Ghost) (f : ℕ) → K g0 g → K g0 (ghost_found o seat (script.asks m s) s g f)) → Law script first
  with_fact script law K same keeps = record {
    may = law.may;
    stands = λ o seat s0 g0 m s g. law.stands o seat s0 g0 m s g × K g0 g;
    left = λ o seat s0 g0 out s g. law.left o seat s0 g0 out s g × K g0 g;
    begins = λ o seat s g may. (law.begins o seat s g may, same g);
    serves = λ o seat s0 g0 may. serves_with o seat script no_record (law.stands o seat s0 g0) (law.left o seat s0 g0) (λ m s g. K g0 g) (λ out s g. K g0 g)
        (λ m s g f stands kept found. record { goes = λ go. keeps o seat m s g0 g f kept; ends = λ out done. keeps o seat m s g0 g f kept }) (law.serves o seat s0 g0 may);
    lowers = law.lowers;
  }

pub put_at : (o : Origin) (seat : ℕ) (known : Option ℕ) (m : Take) (s : Seat) (g0 g : Ghost) (f : ℕ) → HasSamePut g0 g → HasSamePut g0 (ghost_found o seat (asks_at known m s) s g f)
put_at o seat None m s g0 g f same = record { put = same.put; number = same.number }
put_at o seat (Some known) m s g0 g f same = record { put = same.put; number = same.number }

pub call_at_fill : (o : Origin) (seat : ℕ) (m : Fill) (s : Seat) (g0 g : Ghost) (f : ℕ) → HasSameCall g0 g → HasSameCall g0 (ghost_found o seat (fill_script.asks m s) s g f)
call_at_fill o seat (Store place left word) s g0 g f same = record { call = same.call }
call_at_fill o seat (Mark place left word) s g0 g f same = record { call = same.call }
call_at_fill o seat Fence s g0 g f same = record { call = same.call }

abbrev pub taking_law : (area : Area) (count : ℕ) → Law take_script (take_of area count)
taking_law area count = with_fact take_script (take_law area count) HasSamePut (λ g. record { put = refl; number = refl }) (λ o seat m s g0 g f same. put_at o seat m.known m s g0 g f same)

abbrev pub filling_law : (first count : ℕ) → Law fill_script (fill_of first count)
filling_law first count = with_fact fill_script (fill_law first count) HasSameCall (λ g. record { call = refl }) call_at_fill

abbrev pub giving_law : (from : GiveFrom) → Law give_script (give_of from)
giving_law from = with_fact give_script (give_law from) HasSameCall (λ g. record { call = refl }) (λ o seat m s g0 g f same. record { call = same.call })
