-- A setting of bits takes the blocks whose bits were clear: each of them is the seat's then, with no word stored in it.
use Rattle.std.proofs.Common.{◌≡◌, ◌≢◌, ℕ, ◌<◌, true, [], length, refl, slice_index, bit_or}
use Rattle.std.proofs.lemmas.List.{length-set}
use Rattle.log_image.specs.Image.{total}
use Rattle.pmem_words.specs.Owned.{is_among}
use Rattle.pmem_words.specs.Seats.{Seat}
use Rattle.asks.specs.declared.ask.Place.TheVariants.{Map}
use Rattle.asks.specs.declared.ask.Ask.TheVariants.{SetBits}
use Rattle.persistence.specs.Memory.{Memory, cell, memory_after}
use Rattle.log_core.specs.Views.{Ghost, view_of}
use Rattle.log_core.specs.Origin.{Origin, shape, Owner}
use Rattle.log_core.specs.Cores.{Core}
use Rattle.log_core.specs.Works.{seat_shape}
use Rattle.log_core.specs.Steps.{SetsBits, gained, effect, lacked_after, ghost_after}
use Rattle.log_core.specs.May.{MaySetBits}
use Rattle.log_core.specs.Owners.{BitsFit}
use Rattle.log_core.specs.Invariant.{Invariant}
use Rattle.log_core.specs.Knows.{Knows}
use Rattle.log_core.proofs.clauses.Leaves.{Leaves, Changes, moved}
use Rattle.log_core.proofs.clauses.SetBlocks.{notes_stay, set_blocks}
use Rattle.log_core.proofs.BitmapFacts.{word_inside, block_inside}
use Rattle.log_core.proofs.clauses.BitmapLeaves.{bitmap_leaves}
use Rattle.log_core.proofs.clauses.SetOwners.{owner_set, set_bits, set_changes, set_list}
use Rattle.log_core.proofs.clauses.SetOwned.{taken_hold}

module _ (o : Origin) (c : Core) (n : ℕ) (s : Seat) (g : Ghost) (pin began word bits : ℕ) (inv : Invariant o c) (f : Knows o c n s g pin began) (unspent : (view_of c.views n).parts ≢ []) (may : MaySetBits s word bits) where
  abbrev value : ℕ
  value = slice_index c.memory.now.taken word

  abbrev left : Memory
  left = memory_after c.memory n (SetBits (Map word) bits)

  abbrev owner : ℕ → Owner
  owner block = owner_set c.owner n word bits value block

  abbrev after : Seat
  after = effect g.marks s (SetsBits word bits) value

  inside : word < length c.memory.now.taken
  inside = word_inside o c n s g pin began inv f unspent word may.inside

  in_image : (block : ℕ) → is_among word bits block ≡ true → (0 < block) × (block < total (shape o))
  in_image block among = block_inside o c n s g pin began inv f unspent may.area block (may.in_area block among)

  pub sets_leaves : Leaves o c n left
  sets_leaves = bitmap_leaves o c n word (bit_or value bits) inv

  pub sets_changes : Changes c n owner
  sets_changes = record { each = set_changes (shape o) c.memory.now.taken c.owner n word bits inv.owners.bits inside in_image }

  pub sets_bits : BitsFit (shape o) left.now.taken owner
  sets_bits = set_bits (shape o) c.memory.now.taken c.owner n word bits inv.owners.bits inside in_image

  pub sets_facts : Knows o (moved c left owner) n after (ghost_after g s after (SetsBits word bits) value) pin began
  sets_facts = set_blocks o c n s g pin began left owner inv sets_leaves sets_changes f after.blocks s.giving.head_fenced g.marks g.stored (lacked_after g.call.lacked after (SetsBits word bits)) (record {
    found = length-set s.blocks.found word (bit_or (slice_index s.blocks.found word) (bit_or value bits));
    named = refl;
    owns = set_list (shape o) c.memory.now.taken c.owner n word bits inv.owners.bits inside in_image (seat_shape s) s.blocks.owned f.owns.owned;
    owned = taken_hold (λ at. cell left at) left.past left.pending n s g (ghost_after g s after (SetsBits word bits) value) f.owned refl (gained word bits value) after.blocks.found;
    sure = f.giving.replaced_sure;
    marks_fit = f.marks;
  }) (notes_stay o c n s g pin began left owner inv sets_leaves sets_changes f (λ sync. refl))
