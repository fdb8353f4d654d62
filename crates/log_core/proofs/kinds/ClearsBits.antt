-- A clearing of bits of owned blocks gives these back: nobody has them then, and nothing is known of their words.
use Rattle.std.proofs.Common.{◌≡◌, ◌≢◌, ℕ, ◌*◌, ◌<◌, ◌||◌, ⊎_elim, inl, inr, not, Bool, true, false, List, [], length, refl, sym, subst, slice_index}
use Rattle.std.specs.List.{range_with_len}
use Rattle.std.proofs.lemmas.List.{length-set}
use Rattle.log_image.proofs.NameLemmas.{test_in}
use Rattle.pmem_words.specs.Owned.{is_among}
use Rattle.pmem_words.specs.Seats.{Seat}
use Rattle.asks.specs.Asks.{without_bits}
use Rattle.asks.specs.declared.ask.Place.TheVariants.{Map}
use Rattle.asks.specs.declared.ask.Ask.TheVariants.{ClearBits}
use Rattle.persistence.specs.Memory.{Memory, cell, memory_after}
use Rattle.log_image.specs.Chains.{is_listed}
use Rattle.log_core.specs.Views.{Ghost, Stored, view_of}
use Rattle.log_core.specs.Origin.{Origin, shape, Owner, OwnedBy}
use Rattle.log_core.specs.Cores.{Core}
use Rattle.log_core.specs.Works.{words_of}
use Rattle.log_core.specs.Needs.{owned_numbers}
use Rattle.log_core.specs.Steps.{ClearsBits, is_of_owned, give_if, not_found, stored_but, effect, ghost_after}
use Rattle.log_core.specs.May.{MayClearBits}
use Rattle.log_core.specs.Owners.{BitsFit, IsListOf}
use Rattle.log_core.specs.Invariant.{Invariant}
use Rattle.log_core.specs.Knows.{Knows}
use Rattle.log_core.proofs.clauses.Leaves.{Leaves, Changes, moved}
use Rattle.log_core.proofs.clauses.SetBlocks.{notes_stay, set_blocks}
use Rattle.log_core.proofs.BitmapFacts.{word_inside}
use Rattle.log_core.proofs.clauses.BitmapLeaves.{bitmap_leaves}
use Rattle.log_core.proofs.BlockLists.{among_range, numbers_but}
use Rattle.log_core.proofs.clauses.ClearedOwners.{owner_cleared, cleared_bits, cleared_each, cleared_list}
use Rattle.log_core.proofs.clauses.OwnedBut.{left_hold}

other_true : (a b : Bool) → (not a || b) ≡ true → a ≡ true → b ≡ true
other_true true b either is = either
other_true false b either is = cc

-- where bits are of owned blocks alone, each block among them is owned
pub all_owned : (s : Seat) (word bits : ℕ) → is_of_owned s word bits ≡ true → (block : ℕ) → is_among word bits block ≡ true → is_listed (owned_numbers s.blocks.owned) block ≡ true
all_owned s word bits all block among = other_true (is_among word bits block) (is_listed (owned_numbers s.blocks.owned) block)
    (test_in (λ (other : ℕ). not (is_among word bits other) || is_listed (owned_numbers s.blocks.owned) other) (range_with_len (word * 64) 64) block all (among_range word bits block among)) among

module _ (o : Origin) (c : Core) (n : ℕ) (s : Seat) (g : Ghost) (pin began word bits : ℕ) (inv : Invariant o c) (f : Knows o c n s g pin began) (unspent : (view_of c.views n).parts ≢ []) (may : MayClearBits s o.seats word bits)
    (of_owned : is_of_owned s word bits ≡ true) where
  abbrev value : ℕ
  value = slice_index c.memory.now.taken word

  abbrev left : Memory
  left = memory_after c.memory n (ClearBits (Map word) bits)

  abbrev owner : ℕ → Owner
  owner block = owner_cleared c.owner word bits block

  abbrev after : Seat
  after = effect g.marks s (ClearsBits word bits) value

  abbrev stored : List Stored
  stored = stored_but (words_of s) (λ (block : ℕ). is_among word bits block) g.stored

  abbrev given : Seat
  given = not_found (give_if true s word bits) word bits

  inside : word < length c.memory.now.taken
  inside = word_inside o c n s g pin began inv f unspent word may.inside

  mine : (block : ℕ) → is_among word bits block ≡ true → is_listed (owned_numbers s.blocks.owned) block ≡ true
  mine = all_owned s word bits of_owned

  pub clears_leaves : Leaves o c n left
  clears_leaves = bitmap_leaves o c n word (without_bits value bits) inv

  pub clears_changes : Changes c n owner
  clears_changes = record {
    each = λ block. ⊎_elim (λ same. inl same) (λ both. inr (inr both.0, inl both.1))
        (cleared_each (shape o) c.memory.now.taken c.owner word bits (owned_numbers s.blocks.owned) (OwnedBy n) inv.owners.bits inside may.small f.owns.owned mine (λ e. cc) (λ e. cc) block);
  }

  pub clears_bits : BitsFit (shape o) left.now.taken owner
  clears_bits = cleared_bits (shape o) c.memory.now.taken c.owner word bits (owned_numbers s.blocks.owned) (OwnedBy n) inv.owners.bits inside may.small f.owns.owned mine (λ e. cc) (λ e. cc)

  given_facts : Knows o (moved c left owner) n given (ghost_after g s after (ClearsBits word bits) value) pin began
  given_facts = set_blocks o c n s g pin began left owner inv clears_leaves clears_changes f given.blocks s.giving.head_fenced g.marks stored g.call.lacked (record {
    found = length-set s.blocks.found word (without_bits (slice_index s.blocks.found word) bits);
    named = refl;
    owns = subst (λ (blocks : List ℕ). IsListOf owner blocks (OwnedBy n)) (sym (numbers_but (λ block. is_among word bits block) s.blocks.owned))
        (cleared_list (shape o) c.memory.now.taken c.owner word bits (owned_numbers s.blocks.owned) (OwnedBy n) inv.owners.bits inside may.small f.owns.owned mine (λ e. cc) (λ e. cc));
    owned = left_hold (λ at. cell left at) left.past left.pending n s g (ghost_after g s after (ClearsBits word bits) value) f.owned (λ block. is_among word bits block) refl given.blocks.found;
    sure = f.giving.replaced_sure;
    marks_fit = f.marks;
  }) (notes_stay o c n s g pin began left owner inv clears_leaves clears_changes f (λ sync. refl))

  pub clears_facts : Knows o (moved c left owner) n after (ghost_after g s after (ClearsBits word bits) value) pin began
  clears_facts = subst (λ (mine : Bool). Knows o (moved c left owner) n (not_found (give_if mine s word bits) word bits) (ghost_after g s after (ClearsBits word bits) value) pin began) (sym of_owned) given_facts
