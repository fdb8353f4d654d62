-- A load of a bitmap word changes only what the seat has found taken.
use Rattle.std.proofs.Common.{ℕ, List, refl, sym, subst, slice_index, bit_or}
use Rattle.std.proofs.lemmas.List.{length-set, set-get_or}
use Rattle.pmem_words.specs.Seats.{Seat}
use Rattle.asks.specs.declared.ask.Place.TheVariants.{Map}
use Rattle.asks.specs.declared.ask.Ask.TheVariants.{Load}
use Rattle.persistence.specs.Memory.{Memory, memory_after}
use Rattle.log_core.specs.Views.{Ghost}
use Rattle.log_core.specs.Origin.{Origin, shape}
use Rattle.log_core.specs.Cores.{Core}
use Rattle.log_core.specs.Steps.{LoadsBitmapWord, effect, lacked_after, ghost_after}
use Rattle.log_core.specs.Owners.{BitsFit}
use Rattle.log_core.specs.Invariant.{Invariant}
use Rattle.log_core.specs.Knows.{Knows}
use Rattle.log_core.proofs.clauses.Leaves.{Leaves, moved, no_changes}
use Rattle.log_core.proofs.clauses.SetBlocks.{notes_stay, set_blocks}
use Rattle.log_core.proofs.clauses.BitmapLeaves.{bitmap_leaves}

module _ (o : Origin) (c : Core) (n : ℕ) (s : Seat) (g : Ghost) (pin began word : ℕ) (inv : Invariant o c) (f : Knows o c n s g pin began) where
  abbrev value : ℕ
  value = slice_index c.memory.now.taken word

  abbrev left : Memory
  left = memory_after c.memory n (Load (Map word))

  abbrev after : Seat
  after = effect g.marks s (LoadsBitmapWord word) value

  pub map_leaves : Leaves o c n left
  map_leaves = bitmap_leaves o c n word value inv

  pub map_bits : BitsFit (shape o) left.now.taken (λ block. c.owner block)
  map_bits = subst (λ (taken : List ℕ). BitsFit (shape o) taken (λ block. c.owner block)) (sym (set-get_or c.memory.now.taken word 0)) inv.owners.bits

  pub map_facts : Knows o (moved c left (λ block. c.owner block)) n after (ghost_after g s after (LoadsBitmapWord word) value) pin began
  map_facts = set_blocks o c n s g pin began left (λ block. c.owner block) inv map_leaves (no_changes c n) f after.blocks s.giving.head_fenced g.marks g.stored (lacked_after g.call.lacked after (LoadsBitmapWord word)) (record {
    found = length-set s.blocks.found word (bit_or (slice_index s.blocks.found word) value);
    named = refl;
    owns = f.owns.owned;
    owned = (let r = f.owned in record {
      contents = r.contents;
      areas = r.areas;
      stored = r.stored;
      filled = λ place inside filled. (let q = r.filled place inside filled in record { owned = q.owned; each = q.each });
      fenced = r.fenced;
    });
    sure = f.giving.replaced_sure;
    marks_fit = f.marks;
  }) (notes_stay o c n s g pin began left (λ block. c.owner block) inv map_leaves (no_changes c n) f (λ sync. refl))
