-- A step on a word of the bitmap leaves every word of the image as it is.
use Rattle.std.proofs.Common.{ℕ, refl, ◌∙◌, slice_set}
use Rattle.std.proofs.lemmas.List.{length-set}
use Rattle.persistence.specs.Memory.{Memory}
use Rattle.log_core.specs.Origin.{Origin}
use Rattle.log_core.specs.Cores.{Core}
use Rattle.log_core.specs.Invariant.{Invariant}
use Rattle.log_core.proofs.clauses.Narrows.{same_narrows}
use Rattle.log_core.proofs.clauses.Leaves.{Leaves}

-- the memory with another word of the bitmap
abbrev pub with_map_word : Memory → ℕ → ℕ → Memory
with_map_word memory word value = record memory { now = record (memory.now) { taken = slice_set memory.now.taken word value } }

pub bitmap_leaves : (o : Origin) (c : Core) (n word value : ℕ) → Invariant o c → Leaves o c n (with_map_word c.memory word value)
bitmap_leaves o c n word value inv = record {
  fits = record {
    words = inv.sizes.words.words;
    taken = length-set c.memory.now.taken word value ∙ inv.sizes.words.taken;
    pins = inv.sizes.words.pins;
    floors = inv.sizes.words.floors;
    reached = inv.sizes.words.reached;
    small = inv.sizes.words.small;
    small_past = inv.sizes.words.small_past;
    pending = inv.sizes.words.pending;
  };
  pins = λ k other. refl;
  cells = λ at other. same_narrows c.memory (with_map_word c.memory word value) at refl;
  values = λ at k inside. refl;
  pending = λ k other. refl;
  times = λ time at past. refl;
}
