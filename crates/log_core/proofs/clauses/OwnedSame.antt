-- A memory in which the words of seats' blocks are the same, and no earlier value of a word: what is known of owned blocks and of marks stays.
use Rattle.std.proofs.Common.{◌≡◌, ◌≢◌, ◌<◌, ◌≤◌, ◌/◌, ℕ, true, List, [], ◌∷◌, length, map, refl, sym, ◌∙◌, ap, subst, arith}
use Rattle.std.specs.List.{AllByRecursion}
use Rattle.std.proofs.lemmas.Nat.{div-mul-add}
use Rattle.log_image.specs.Image.{Shape}
use Rattle.log_image.specs.Chains.{is_listed}
use Rattle.pmem_words.specs.Seats.{Seat}
use Rattle.persistence.specs.Memory.{Memory, PendingMark, Cell, cell, index_at, pending_of}
use Rattle.persistence.specs.Survivors.{value_at}
use Rattle.persistence.proofs.ValueLemmas.{index_at-most}
use Rattle.log_core.specs.Entries.{place_in}
use Rattle.log_core.specs.Views.{View, Ghost, Stored, view_of, spent_view}
use Rattle.log_core.specs.Origin.{Origin, shape, q_of_origin, OwnedBy}
use Rattle.log_core.specs.Cores.{Core}
use Rattle.log_core.specs.Sizes.{SeatFits}
use Rattle.log_core.specs.Works.{seat_shape, words_of, owned_block}
use Rattle.log_core.specs.Needs.{owned_numbers}
use Rattle.log_core.specs.Owned.{OwnedHold, StoredHolds}
use Rattle.log_core.specs.Records.{MarksFit, mark_of}
use Rattle.log_core.specs.Invariant.{Invariant}
use Rattle.log_core.proofs.Each.{each_weaker, map_same}
use Rattle.log_core.proofs.clauses.MarkedNow.{marked_now_narrows}
use Rattle.log_core.proofs.clauses.Narrows.{same_narrows, certain_narrows}
use Rattle.log_core.proofs.clauses.Others.{owned_listed, unspent_made, notes_early}

-- the memory after a step that stores into no seat's block and makes neither marks nor fences
pub record KeepsOwned (o : Origin) (c : Core) (m : Memory) : Type 0 where
  pub pending : m.pending ≡ c.memory.pending
  pub times : (time k : ℕ) → time ≤ length c.memory.past → index_at m.past time k ≡ index_at c.memory.past time k
  pub values : (k j : ℕ) → j ≤ length (cell c.memory k).past → value_at (cell m k) j ≡ value_at (cell c.memory k) j
  pub owned : (seat k : ℕ) → c.owner (k / q_of_origin o) ≡ OwnedBy seat → cell m k ≡ cell c.memory k

module _ (o : Origin) (c : Core) (m : Memory) (inv : Invariant o c) (keeps : KeepsOwned o c m) where
  pub pending_same : (k : ℕ) → pending_of k m.pending ≡ pending_of k c.memory.pending
  pending_same k = ap (pending_of k) keeps.pending

  -- the owned blocks of a state of seat k
  module _ (k : ℕ) (g : Ghost) (s : Seat) (words : words_of s ≡ q_of_origin o) (image : seat_shape s ≡ shape o) (owns : (block : ℕ) → is_listed (owned_numbers s.blocks.owned) block ≡ true → c.owner block ≡ OwnedBy k) where
    stored_kept : (stored : Stored) → StoredHolds (λ word. cell c.memory word) c.memory.past c.memory.pending k (q_of_origin o) (owned_numbers s.blocks.owned) stored →
        StoredHolds (λ word. cell m word) m.past m.pending k (q_of_origin o) (owned_numbers s.blocks.owned) stored
    stored_kept stored r = (let same = keeps.owned k stored.word (owns (stored.word / q_of_origin o) r.mine) in record {
      mine = r.mine;
      present = ap (λ (a : Cell). a.present) same ∙ r.present;
      marked = λ is. marked_now_narrows (λ w. cell c.memory w) (λ w. cell m w) c.memory.past m.past c.memory.pending m.pending k stored.word (same_narrows c.memory m stored.word same) (pending_same k)
          (each_weaker (λ (note : PendingMark). note.time ≤ length c.memory.past) (λ (note : PendingMark). index_at m.past note.time stored.word ≡ index_at c.memory.past note.time stored.word) (pending_of k c.memory.pending)
          (λ note early. keeps.times note.time stored.word early) (notes_early o c k inv)) (r.marked is);
    })

    block_same : (place word : ℕ) → place < length s.blocks.owned → word < words_of s → cell m (place_in (seat_shape s) (owned_block s place) word) ≡ cell c.memory (place_in (seat_shape s) (owned_block s place) word)
    block_same place word inside less = subst (λ (i : Shape). cell m (place_in i (owned_block s place) word) ≡ cell c.memory (place_in i (owned_block s place) word)) (sym image)
        (keeps.owned k (place_in (shape o) (owned_block s place) word)
        (ap c.owner (div-mul-add (owned_block s place) (q_of_origin o) word (subst (λ (q : ℕ). word < q) words less)) ∙ owns (owned_block s place) (owned_listed s.blocks.owned place inside)))

    pub owned_kept : OwnedHold (λ word. cell c.memory word) c.memory.past c.memory.pending k g s → OwnedHold (λ word. cell m word) m.past m.pending k g s
    owned_kept r = record {
      contents = r.contents;
      areas = r.areas;
      stored = subst (λ (q : ℕ). AllByRecursion (StoredHolds (λ word. cell m word) m.past m.pending k q (owned_numbers s.blocks.owned)) g.stored) (sym words)
          (each_weaker _ _ g.stored stored_kept
          (subst (λ (q : ℕ). AllByRecursion (StoredHolds (λ word. cell c.memory word) c.memory.past c.memory.pending k q (owned_numbers s.blocks.owned)) g.stored) words r.stored));
      filled = r.filled;
      fenced = λ place word inside fenced less. certain_narrows _ _ _ (same_narrows c.memory m _ (block_same place word inside less)) (r.fenced place word inside fenced less);
    }

  -- of another view
  pub owned_view_kept : (k : ℕ) → OwnedHold (λ word. cell m word) m.past m.pending k (view_of c.views k).ghost (view_of c.views k).seat
  owned_view_kept k = by (view_of c.views k).parts refl
    where
      not_nil : (part : ℕ) (parts : List ℕ) → (part ∷ parts) ≢ []
      not_nil part parts e = cc

      fitting : SeatFits o k (view_of c.views k) → OwnedHold (λ word. cell m word) m.past m.pending k (view_of c.views k).ghost (view_of c.views k).seat
      fitting fits = owned_kept k (view_of c.views k).ghost (view_of c.views k).seat (ap Rattle.pmem_words.specs.Seats.q_of fits.geometry)
          (ap Rattle.log_image.specs.Image.shape_by fits.geometry) (λ block listed. (inv.owners.seats k).owned.listed block listed) (inv.owned k)

      spent : view_of c.views k ≡ spent_view → OwnedHold (λ word. cell m word) m.past m.pending k (view_of c.views k).ghost (view_of c.views k).seat
      spent is = subst (λ (v : View). OwnedHold (λ word. cell m word) m.past m.pending k v.ghost v.seat) (sym is)
          (record { contents = omega arith; areas = tt; stored = tt; filled = λ place inside. absurd (omega (arith, inside)); fenced = λ place word inside. absurd (omega (arith, inside)) })

      by : (parts : List ℕ) → (view_of c.views k).parts ≡ parts → OwnedHold (λ word. cell m word) m.past m.pending k (view_of c.views k).ghost (view_of c.views k).seat
      by [] is = spent (inv.sizes.spent k is)
      by (part ∷ parts) is = (let some : (view_of c.views k).parts ≢ [] = λ none. not_nil part parts (sym is ∙ none) in fitting (inv.sizes.each k (unspent_made c.views k some) some))

  -- a mark is of the value that it was of
  pub value_same : (note : PendingMark) (word : ℕ) → note.time ≤ length c.memory.past → value_at (cell m word) (index_at m.past note.time word) ≡ value_at (cell c.memory word) (index_at c.memory.past note.time word)
  value_same note word early = ap (λ (at : ℕ). value_at (cell m word) at) (keeps.times note.time word early)
      ∙ keeps.values word (index_at c.memory.past note.time word) (index_at-most c.memory.past note.time word)

  pub marks_kept : (k : ℕ) (v : View) → MarksFit (λ word. cell c.memory word) c.memory.past c.memory.pending k v → MarksFit (λ word. cell m word) m.past m.pending k v
  marks_kept k v fit = fit
      ∙ sym (ap (λ (pending : List PendingMark). map (mark_of (λ word. cell m word) m.past) pending) (pending_same k)
      ∙ map_same (mark_of (λ word. cell m word) m.past) (mark_of (λ word. cell c.memory word) c.memory.past) (pending_of k c.memory.pending)
      (each_weaker (λ (note : PendingMark). note.time ≤ length c.memory.past) (λ (note : PendingMark). mark_of (λ word. cell m word) m.past note ≡ mark_of (λ word. cell c.memory word) c.memory.past note) (pending_of k c.memory.pending)
      (λ note early. ap (λ (value : ℕ). record { word = note.word; value = value }) (value_same note note.word early)) (notes_early o c k inv)))
