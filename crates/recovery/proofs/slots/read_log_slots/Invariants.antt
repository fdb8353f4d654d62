use Rattle.std.proofs.Common.{◌<◌, ◌+◌, ◌^◌, ℕ, List}
use Rattle.log_image.specs.Entries.{Meaning}
use Rattle.log_image.specs.Image.{shape_by}
use Rattle.recovery.specs.Slots.{HasEntries}
use Rattle.recovery.proofs.SlotsLemmas.{ReadTo}
use Rattle.recovery.proofs.slots.read_log_slots.Given as goal

abbrev pub invariant-loop-i : goal.invariant-loop-i
invariant-loop-i l = record {
  below : l.position + l.entries < 2 ^ 40;
  read : (chain : List ℕ) (size : ℕ) (entries : List Meaning) → HasEntries (shape_by l.geometry) l.fn.table l.fn.taken chain size entries →
      ReadTo l.words (shape_by l.geometry) l.block l.position chain size entries l.slots l.table l.taken l.after_seal l.i l.entries;
}
