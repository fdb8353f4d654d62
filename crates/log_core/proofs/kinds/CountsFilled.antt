-- An owned block is counted as filled: what a core knows of the seat stays.
use Rattle.std.proofs.Common.{ℕ, true, refl}
use Rattle.pmem_words.specs.Owned.{owned_at}
use Rattle.pmem_words.specs.declared.owned.OwnedBlock.{OwnedBlock}
use Rattle.pmem_words.specs.Seats.{Seat}
use Rattle.persistence.specs.Memory.{cell}
use Rattle.log_core.specs.Views.{Ghost}
use Rattle.log_core.specs.Origin.{Origin}
use Rattle.log_core.specs.Cores.{Core}
use Rattle.log_core.specs.Works.{CountsFilled, state_after_work, MayCountFilled}
use Rattle.log_core.specs.Knows.{Knows}
use Rattle.log_core.proofs.clauses.OwnedLists.{IsSameBlock, numbers_set}
use Rattle.log_core.proofs.clauses.OwnBlocks.{owned_with_block, blocks_facts}

pub count_filled_facts : (o : Origin) (c : Core) (n : ℕ) (s : Seat) (g : Ghost) (pin began place : ℕ) → Knows o c n s g pin began → MayCountFilled g s place → Knows o c n (state_after_work s (CountsFilled place)) g pin began
count_filled_facts o c n s g pin began place f may = blocks_facts o c n s g pin began f (state_after_work s (CountsFilled place)).blocks refl refl
    (numbers_set s.blocks.owned place filled same)
    (owned_with_block (λ word. cell c.memory word) c.memory.past c.memory.pending n g s f.owned place filled s.blocks.contents may.owned same refl
    (λ other k apart low. refl) (λ is k low. may.each k low) (λ fenced k low. f.owned.fenced place k may.owned fenced low))
  where
    filled : OwnedBlock
    filled = record (owned_at s.blocks.owned place) { filled = true }

    same : IsSameBlock (owned_at s.blocks.owned place) filled
    same = record { block = refl; area = refl }
