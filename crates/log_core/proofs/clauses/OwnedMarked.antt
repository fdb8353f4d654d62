-- What is known of the words of a seat's owned blocks, after a mark of a word.
use Rattle.std.proofs.Common.{◌≡◌, ◌==◌, ◌++◌, ℕ, Bool, true, false, if◌then◌else◌, List, [], ◌∷◌, length, refl, sym, ◌∙◌, ap, subst}
use Rattle.std.specs.List.{AllByRecursion}
use Rattle.std.proofs.lemmas.Bool.{eqb-true}
use Rattle.pmem_words.specs.Seats.{Seat}
use Rattle.persistence.specs.Memory.{PendingMark, Replaced, Cell, pending_of, values_of}
use Rattle.log_core.specs.Entries.{place_in}
use Rattle.log_core.specs.Views.{Ghost, Stored}
use Rattle.log_core.specs.Works.{seat_shape, words_of, owned_block, content_word, stored_at}
use Rattle.log_core.specs.Needs.{owned_numbers}
use Rattle.log_core.specs.Steps.{stored_marked}
use Rattle.log_core.specs.Owned.{StoredHolds, OwnedHold}
use Rattle.log_core.proofs.Each.{each_weaker, each_map}
use Rattle.log_core.proofs.clauses.Narrows.{Narrows, certain_narrows}
use Rattle.log_core.proofs.clauses.MarkedNow.{marked_now_narrows, marked_now_more, marked_now_here}
use Rattle.log_core.proofs.clauses.OwnedLists.{stored_at_marked}

module _ (before after : ℕ → Cell) (past : List Replaced) (pending left : List PendingMark) (seat word : ℕ) (g : Ghost) (s : Seat) (held : OwnedHold before past pending seat g s)
    (narrows : (k : ℕ) → Narrows (before k) (after k)) (long : (k : ℕ) → length (after k).past ≡ length (values_of past k))
    (more : pending_of seat left ≡ pending_of seat pending ++ record { seat = seat; word = word; time = length past } ∷ []) where
  same_times : (k : ℕ) (list : List PendingMark) → AllByRecursion (λ (note : PendingMark). Rattle.persistence.specs.Memory.index_at past note.time k ≡ Rattle.persistence.specs.Memory.index_at past note.time k) list
  same_times k [] = tt
  same_times k (note ∷ list) = (refl, same_times k list)

  marked_if : Stored → Stored
  marked_if r = if r.word == word then record r { marked = true } else r

  stays : (r : Stored) → StoredHolds before past pending seat (words_of s) (owned_numbers s.blocks.owned) r →
      StoredHolds after past left seat (words_of s) (owned_numbers s.blocks.owned) (if r.word == word then record r { marked = true } else r)
  stays r holds = by (r.word == word) refl
    where
      by : (b : Bool) → (r.word == word) ≡ b → StoredHolds after past left seat (words_of s) (owned_numbers s.blocks.owned) (if b then record r { marked = true } else r)
      by true e = record {
        mine = holds.mine;
        present = (narrows r.word).present ∙ holds.present;
        marked = λ marked. subst (λ (k : ℕ). Rattle.log_core.specs.Owned.IsMarkedNow after past left seat k) (sym (eqb-true r.word word e)) (marked_now_here after past pending left seat word (long word) more);
      }
      by false e = record {
        mine = holds.mine;
        present = (narrows r.word).present ∙ holds.present;
        marked = λ marked. marked_now_more after past pending left seat r.word _ more
            (marked_now_narrows before after past past pending pending seat r.word (narrows r.word) refl (same_times r.word (pending_of seat pending)) (holds.marked marked));
      }

  pub owned_marked : (h : Ghost) → h.stored ≡ stored_marked g.stored word → OwnedHold after past left seat h s
  owned_marked h kept = record {
    contents = held.contents;
    areas = held.areas;
    stored = subst (λ (list : List Stored). AllByRecursion (StoredHolds after past left seat (words_of s) (owned_numbers s.blocks.owned)) list) (sym kept)
        (each_map (StoredHolds after past left seat (words_of s) (owned_numbers s.blocks.owned)) (λ (r : Stored). if r.word == word then record r { marked = true } else r) g.stored
        (each_weaker (StoredHolds before past pending seat (words_of s) (owned_numbers s.blocks.owned))
        (λ (r : Stored). StoredHolds after past left seat (words_of s) (owned_numbers s.blocks.owned) (if r.word == word then record r { marked = true } else r)) g.stored stays held.stored));
    filled = λ place inside filled. (let old = held.filled place inside filled in record {
      owned = old.owned;
      each = λ k low. ap (λ (list : List Stored). stored_at list (place_in (seat_shape s) (owned_block s place) k)) kept
          ∙ stored_at_marked g.stored word (place_in (seat_shape s) (owned_block s place) k) (content_word s place k) (old.each k low);
    });
    fenced = λ place k inside fenced low. certain_narrows (before (place_in (seat_shape s) (owned_block s place) k)) (after (place_in (seat_shape s) (owned_block s place) k)) (content_word s place k)
        (narrows (place_in (seat_shape s) (owned_block s place) k)) (held.fenced place k inside fenced low);
  }
