use Rattle.std.proofs.Common.{◌≡◌, ◌+◌, ◌∷◌, length, take}
use Rattle.std.specs.List.{flat_map}
use Rattle.log_image.specs.Entries.{run_words, run_blocks}
use Rattle.log_core.specs.Works.{with_entry, blocks_noted}
use Rattle.chain_reader.proofs.RunsLemmas.{first_runs}
use Rattle.log_blocks.specs.Taking.{kept_words}
use Rattle.log_blocks.proofs.taking.take_indirect.Given as goal

abbrev pub invariant-loop-place : goal.invariant-loop-place
invariant-loop-place l = record {
  seat : l.seat ≡ record l.fn.seat {
    walk = record l.fn.seat.walk { map = with_entry (first_runs l.fn.block (kept_words l.fn.seat) l.place) l.fn.seat.walk.map };
    blocks = blocks_noted l.fn.seat (l.fn.block ∷ flat_map run_blocks (take l.place (run_words (kept_words l.fn.seat))));
  };
  past : l.past ≡ l.virt + length (flat_map run_blocks (take l.place (run_words (kept_words l.fn.seat))));
}
