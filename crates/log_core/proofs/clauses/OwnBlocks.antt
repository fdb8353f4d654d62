-- A seat that computes on its owned blocks: what is known of their words, and what a core knows of the seat.
use Rattle.std.proofs.Common.{◌≡◌, ◌≢◌, ◌<◌, ◌+◌, ◌*◌, ℕ, true, List, length, sym, ◌∙◌, ap, subst, slice_index, slice_set, Some}
use Rattle.std.specs.List.{AllByRecursion}
use Rattle.std.proofs.lemmas.List.{length-set, get_or-set_same, get_or-set_other}
use Rattle.pmem_words.specs.Owned.{owned_at}
use Rattle.pmem_words.specs.declared.owned.OwnedBlock.{OwnedBlock}
use Rattle.pmem_words.specs.Seats.{Seat, Blocks}
use Rattle.persistence.specs.Memory.{PendingMark, Replaced, Cell, cell}
use Rattle.log_core.specs.Entries.{place_in}
use Rattle.log_core.specs.Views.{Ghost}
use Rattle.log_core.specs.Origin.{Origin, OwnedBy}
use Rattle.log_core.specs.Cores.{Core}
use Rattle.log_core.specs.Works.{seat_shape, words_of, owned_block, content_word, stored_at}
use Rattle.log_core.specs.Needs.{owned_numbers}
use Rattle.log_core.specs.Certain.{IsCertain}
use Rattle.log_core.specs.Owners.{IsListOf}
use Rattle.log_core.specs.Noted.{NotedHolds}
use Rattle.log_core.specs.Owned.{StoredHolds, OwnedHold}
use Rattle.log_core.specs.Invariant.{around}
use Rattle.log_core.specs.Knows.{Knows}
use Rattle.log_core.proofs.clauses.OneView.{same_or_other}
use Rattle.log_core.proofs.clauses.OwnedLists.{IsSameBlock, numbers_set, areas_set}

-- the seat with other marks of one owned block, and with other contents
abbrev pub with_owned : Seat → ℕ → OwnedBlock → List ℕ → Seat
with_owned s place b words = record s { blocks = record (s.blocks) { owned = slice_set s.blocks.owned place b; contents = words } }

module _ (cells : ℕ → Cell) (past : List Replaced) (pending : List PendingMark) (seat : ℕ) (g : Ghost) (s : Seat) (held : OwnedHold cells past pending seat g s)
    (place : ℕ) (b : OwnedBlock) (words : List ℕ) (here : place < length s.blocks.owned) (same : IsSameBlock (owned_at s.blocks.owned place) b) (long : length words ≡ length s.blocks.contents)
    (others : (other k : ℕ) → other ≢ place → k < words_of s → slice_index words (other * words_of s + k) ≡ content_word s other k)
    (filled : b.filled ≡ true → (k : ℕ) → k < words_of s → stored_at g.stored (place_in (seat_shape s) (owned_block s place) k)
    ≡ Some (record { word = place_in (seat_shape s) (owned_block s place) k; value = slice_index words (place * words_of s + k); marked = true }))
    (fenced : b.fenced ≡ true → (k : ℕ) → k < words_of s → IsCertain (cells (place_in (seat_shape s) (owned_block s place) k)) (slice_index words (place * words_of s + k))) where
  abbrev t : Seat
  t = with_owned s place b words

  count : length t.blocks.owned ≡ length s.blocks.owned
  count = length-set s.blocks.owned place b

  numbers : owned_numbers t.blocks.owned ≡ owned_numbers s.blocks.owned
  numbers = numbers_set s.blocks.owned place b same

  at_here : owned_at t.blocks.owned place ≡ b
  at_here = get_or-set_same s.blocks.owned place b _ here

  at_other : (other : ℕ) → other ≢ place → owned_at t.blocks.owned other ≡ owned_at s.blocks.owned other
  at_other other apart = get_or-set_other s.blocks.owned place other b _ apart

  -- a block that is filled is, with its contents now
  filled_at : (other : ℕ) → other < length s.blocks.owned → (owned_at t.blocks.owned other).filled ≡ true → (k : ℕ) → k < words_of s → stored_at g.stored (place_in (seat_shape s) (owned_block t other) k)
      ≡ Some (record { word = place_in (seat_shape s) (owned_block t other) k; value = slice_index words (other * words_of s + k); marked = true })
  filled_at other inside is k low = same_or_other other place
      (λ is_here. subst (λ (p : ℕ). (owned_at t.blocks.owned p).filled ≡ true → stored_at g.stored (place_in (seat_shape s) (owned_block t p) k) ≡ Some (record { word = place_in (seat_shape s) (owned_block t p) k; value = slice_index words (p * words_of s + k); marked = true }))
      (sym is_here)
      (λ now. subst (λ (block : ℕ). stored_at g.stored (place_in (seat_shape s) block k) ≡ Some (record { word = place_in (seat_shape s) block k; value = slice_index words (place * words_of s + k); marked = true }))
      (sym (ap (λ (o : OwnedBlock). o.block) at_here ∙ same.block)) (filled (subst (λ (o : OwnedBlock). o.filled ≡ true) at_here now) k low)) is)
      (λ apart. subst (λ (o : OwnedBlock). stored_at g.stored (place_in (seat_shape s) o.block k) ≡ Some (record { word = place_in (seat_shape s) o.block k; value = slice_index words (other * words_of s + k); marked = true })) (sym (at_other other apart))
      (subst (λ (v : ℕ). stored_at g.stored (place_in (seat_shape s) (owned_block s other) k) ≡ Some (record { word = place_in (seat_shape s) (owned_block s other) k; value = v; marked = true })) (sym (others other k apart low))
      ((held.filled other inside (subst (λ (o : OwnedBlock). o.filled ≡ true) (at_other other apart) is)).each k low)))

  fenced_at : (other : ℕ) → other < length s.blocks.owned → (owned_at t.blocks.owned other).fenced ≡ true → (k : ℕ) → k < words_of s → IsCertain (cells (place_in (seat_shape s) (owned_block t other) k)) (slice_index words (other * words_of s + k))
  fenced_at other inside is k low = same_or_other other place
      (λ is_here. subst (λ (p : ℕ). (owned_at t.blocks.owned p).fenced ≡ true → IsCertain (cells (place_in (seat_shape s) (owned_block t p) k)) (slice_index words (p * words_of s + k))) (sym is_here)
      (λ now. subst (λ (block : ℕ). IsCertain (cells (place_in (seat_shape s) block k)) (slice_index words (place * words_of s + k)))
      (sym (ap (λ (o : OwnedBlock). o.block) at_here ∙ same.block)) (fenced (subst (λ (o : OwnedBlock). o.fenced ≡ true) at_here now) k low)) is)
      (λ apart. subst (λ (o : OwnedBlock). IsCertain (cells (place_in (seat_shape s) o.block k)) (slice_index words (other * words_of s + k))) (sym (at_other other apart))
      (subst (λ (v : ℕ). IsCertain (cells (place_in (seat_shape s) (owned_block s other) k)) v) (sym (others other k apart low))
      (held.fenced other k inside (subst (λ (o : OwnedBlock). o.fenced ≡ true) (at_other other apart) is) low)))

  pub owned_with_block : OwnedHold cells past pending seat g t
  owned_with_block = record {
    contents = long ∙ (held.contents ∙ ap (λ (m : ℕ). m * words_of s) (sym count));
    areas = areas_set (seat_shape s) s.blocks.owned place b same held.areas;
    stored = subst (λ (list : List ℕ). AllByRecursion (StoredHolds cells past pending seat (words_of s) list) g.stored) (sym numbers) held.stored;
    filled = λ other inside is. record { owned = inside; each = filled_at other (subst (λ (m : ℕ). other < m) count inside) is };
    fenced = λ other k inside is low. fenced_at other (subst (λ (m : ℕ). other < m) count inside) is k low;
  }

-- the same blocks are owned, with other marks and contents
pub blocks_facts : (o : Origin) (c : Core) (n : ℕ) (s : Seat) (g : Ghost) (pin began : ℕ) → Knows o c n s g pin began → (b : Blocks) → length b.found ≡ length s.blocks.found → b.named ≡ s.blocks.named →
    owned_numbers b.owned ≡ owned_numbers s.blocks.owned → OwnedHold (λ word. cell c.memory word) c.memory.past c.memory.pending n g (record s { blocks = b }) → Knows o c n (record s { blocks = b }) g pin began
blocks_facts o c n s g pin began f b found named numbers owned = record {
  fits = λ some. (let r = f.fits some in record { number = r.number; seats = r.seats; geometry = r.geometry; first = r.first; found = found ∙ r.found; named = ap (λ (words : List ℕ). length words) named ∙ r.named; map = r.map });
  kept = f.kept;
  owns = record { owned = subst (λ (list : List ℕ). IsListOf c.owner list (OwnedBy n)) (sym numbers) f.owns.owned; left = f.owns.left };
  pin_is = f.pin_is;
  pin_holds = f.pin_holds;
  walk = f.walk;
  noted = λ some. subst (λ (words : List ℕ). NotedHolds (around o c) s.hold s.walk s.calling words) (sym named) (f.noted some);
  owned = owned;
  giving = f.giving;
  scan_others = f.scan_others;
  scan_self = f.scan_self;
  scanned = f.scanned;
  writes = (let r = f.writes in record { recorded = r.recorded; running = r.running });
  writes_once = f.writes_once;
  put = f.put;
  same_put = f.same_put;
  calls = (let r = f.calls in record { laid = r.laid; bases = r.bases; reading = r.reading; numbers = r.numbers; task = r.task });
  tail = f.tail;
  marks = f.marks;
  syncs = (let r = f.syncs in record { to = r.to; marks = r.marks; valid = r.valid; answered = r.answered });
}
