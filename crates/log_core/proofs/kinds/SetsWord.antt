-- A word of an owned block is set: what a core knows of the seat stays.
use Rattle.std.proofs.Common.{◌≡◌, ◌≢◌, ◌<◌, ◌+◌, ◌*◌, ◌/◌, ℕ, false, List, length, refl, sym, ◌∙◌, ap, subst, slice_set}
use Rattle.std.proofs.lemmas.List.{length-set, get_or-set_same, get_or-set_other, set-set}
use Rattle.std.proofs.lemmas.Nat.{div-mul-add}
use Rattle.pmem_words.specs.Owned.{owned_at, with_filled, with_fenced}
use Rattle.pmem_words.specs.declared.owned.OwnedBlock.{OwnedBlock}
use Rattle.pmem_words.specs.Seats.{Seat}
use Rattle.persistence.specs.Memory.{cell}
use Rattle.log_core.specs.Views.{Ghost}
use Rattle.log_core.specs.Origin.{Origin}
use Rattle.log_core.specs.Cores.{Core}
use Rattle.log_core.specs.Works.{words_of, SetsWord, state_after_work, MaySetWord}
use Rattle.log_core.specs.Knows.{Knows}
use Rattle.log_core.proofs.clauses.OwnedLists.{IsSameBlock, numbers_set}
use Rattle.log_core.proofs.clauses.OwnedStored.{unfilled}
use Rattle.log_core.proofs.clauses.OwnBlocks.{with_owned, owned_with_block, blocks_facts}

-- a block that is neither filled nor fenced
unfilled_at : (owned : List OwnedBlock) (place : ℕ) → place < length owned → with_fenced (with_filled owned place false) place false ≡ slice_set owned place (unfilled (owned_at owned place))
unfilled_at owned place inside =
    ap (λ (b : OwnedBlock). slice_set (with_filled owned place false) place (record b { fenced = false })) (get_or-set_same owned place (record (owned_at owned place) { filled = false }) _ inside)
    ∙ set-set owned place (record (owned_at owned place) { filled = false }) (unfilled (owned_at owned place))

-- words of other blocks are others
other_place : (q place word other k : ℕ) → word < q → k < q → other ≢ place → other * q + k ≢ place * q + word
other_place q place word other k low small apart same =
    apart (sym (div-mul-add other q k small) ∙ (ap (λ (index : ℕ). index / q) same ∙ div-mul-add place q word low))

pub set_word_facts : (o : Origin) (c : Core) (n : ℕ) (s : Seat) (g : Ghost) (pin began place word value : ℕ) → Knows o c n s g pin began → MaySetWord s place word value → Knows o c n (state_after_work s (SetsWord place word value)) g pin began
set_word_facts o c n s g pin began place word value f may =
    subst (λ (owned : List OwnedBlock). Knows o c n (record s { blocks = record (s.blocks) { owned = owned; contents = words } }) g pin began) (sym (unfilled_at s.blocks.owned place may.owned))
    (blocks_facts o c n s g pin began f (with_owned s place block words).blocks refl refl (numbers_set s.blocks.owned place block same)
    (owned_with_block (λ word. cell c.memory word) c.memory.past c.memory.pending n g s f.owned place block words may.owned same (length-set s.blocks.contents (place * words_of s + word) value)
    (λ other k apart low. get_or-set_other s.blocks.contents (place * words_of s + word) (other * words_of s + k) value 0 (other_place (words_of s) place word other k may.inside low apart))
    (λ filled k low. cc) (λ fenced k low. cc)))
  where
    block : OwnedBlock
    block = unfilled (owned_at s.blocks.owned place)

    same : IsSameBlock (owned_at s.blocks.owned place) block
    same = record { block = refl; area = refl }

    words : List ℕ
    words = slice_set s.blocks.contents (place * words_of s + word) value
