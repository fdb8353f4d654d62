-- What is known of owned blocks stays where each of another list is one of those before, or is neither filled nor fenced.
use Rattle.std.proofs.Common.{◌≡◌, ◌⊎◌, ℕ, ◌+◌, ◌*◌, ◌<◌, true, false, List, length, sym, ap, ◌∙◌, subst, ⊎_elim, slice_index, Some}
use Rattle.std.specs.List.{AllByRecursion}
use Rattle.std.proofs.lemmas.Bool.{false≢true}
use Rattle.pmem_words.specs.Owned.{owned_at}
use Rattle.pmem_words.specs.declared.owned.OwnedBlock.{OwnedBlock}
use Rattle.pmem_words.specs.Seats.{Seat, Blocks}
use Rattle.persistence.specs.Memory.{Replaced, PendingMark, Cell}
use Rattle.log_core.specs.Entries.{place_in}
use Rattle.log_core.specs.Views.{Ghost, Stored}
use Rattle.log_core.specs.Works.{seat_shape, words_of, owned_block, content_word, stored_at, MayCountFilled}
use Rattle.log_core.specs.Needs.{owned_numbers}
use Rattle.log_core.specs.Steps.{area_of}
use Rattle.log_core.specs.Owned.{StoredHolds, OwnedHold}
use Rattle.log_core.specs.Certain.{IsCertain}

-- the blocks of a state of a seat
abbrev pub owning : Seat → Blocks → Seat
owning s b = record s { blocks = b }

-- a place of another list has the block of a place before, with its content, and the words stored in it
pub record SamePlace (s : Seat) (b : Blocks) (before after : List Stored) (place : ℕ) : Type 0 where
  pub from : ℕ
  pub inside : from < length s.blocks.owned
  pub same : owned_at b.owned place ≡ owned_at s.blocks.owned from
  pub words : (word : ℕ) → word < words_of s → slice_index b.contents (place * words_of s + word) ≡ content_word s from word
  pub stored : (word : ℕ) → word < words_of s → stored_at after (place_in (seat_shape s) (owned_block s from) word) ≡ stored_at before (place_in (seat_shape s) (owned_block s from) word)

module _ (s : Seat) (b : Blocks) (g h : Ghost) (place : ℕ) (p : SamePlace s b g.stored h.stored place) (inside : place < length b.owned) where
  same_block : owned_block (owning s b) place ≡ owned_block s p.from
  same_block = ap (λ (o : OwnedBlock). o.block) p.same

  pub same_filled : MayCountFilled g s p.from → MayCountFilled h (owning s b) place
  same_filled may = record {
    owned = inside;
    each = λ word low. subst (λ (block : ℕ). stored_at h.stored (place_in (seat_shape s) block word) ≡ Some (record { word = place_in (seat_shape s) block word; value = content_word (owning s b) place word; marked = true })) (sym same_block)
        (p.stored word low ∙ (may.each word low ∙ ap (λ (value : ℕ). Some (record { word = place_in (seat_shape s) (owned_block s p.from) word; value = value; marked = true })) (sym (p.words word low))));
  }

  pub same_fenced : (cells : ℕ → Cell) → ((word : ℕ) → word < words_of s → IsCertain (cells (place_in (seat_shape s) (owned_block s p.from) word)) (content_word s p.from word)) →
      (word : ℕ) → word < words_of s → IsCertain (cells (place_in (seat_shape s) (owned_block (owning s b) place) word)) (content_word (owning s b) place word)
  same_fenced cells certain word low = subst (λ (block : ℕ). IsCertain (cells (place_in (seat_shape s) block word)) (content_word (owning s b) place word)) (sym same_block)
      (subst (λ (value : ℕ). IsCertain (cells (place_in (seat_shape s) (owned_block s p.from) word)) value) (sym (p.words word low)) (certain word low))

-- a place whose block is neither filled nor fenced
pub record IsNewPlace (b : Blocks) (place : ℕ) : Type 0 where
  pub unfilled : (owned_at b.owned place).filled ≡ false
  pub unfenced : (owned_at b.owned place).fenced ≡ false

-- each place is a new one, or the place of a block before
abbrev pub PlacesFit : Seat → Blocks → List Stored → List Stored → Type 0
PlacesFit s b before after = (place : ℕ) → place < length b.owned → SamePlace s b before after place ⊎ IsNewPlace b place

module _ (cells : ℕ → Cell) (past : List Replaced) (pending : List PendingMark) (n : ℕ) (s : Seat) (b : Blocks) (g h : Ghost) (old : OwnedHold cells past pending n g s) where
  pub owned_stays : length b.contents ≡ length b.owned * words_of s →
      AllByRecursion (λ (o : OwnedBlock). o.area ≡ area_of (seat_shape s) o.block) b.owned →
      AllByRecursion (StoredHolds cells past pending n (words_of s) (owned_numbers b.owned)) h.stored →
      PlacesFit s b g.stored h.stored → OwnedHold cells past pending n h (owning s b)
  owned_stays contents areas stored places = record {
    contents = contents;
    areas = areas;
    stored = stored;
    filled = λ place inside is. ⊎_elim
        (λ p. same_filled s b g h place p inside (old.filled p.from p.inside (ap (λ (o : OwnedBlock). o.filled) (sym p.same) ∙ is)))
        (λ p. absurd (false≢true (sym p.unfilled ∙ is)))
        (places place inside);
    fenced = λ place word inside is low. ⊎_elim
        (λ p. same_fenced s b g h place p inside cells (λ other below. old.fenced p.from other p.inside (ap (λ (o : OwnedBlock). o.fenced) (sym p.same) ∙ is) below) word low)
        (λ p. absurd (false≢true (sym p.unfenced ∙ is)))
        (places place inside);
  }
