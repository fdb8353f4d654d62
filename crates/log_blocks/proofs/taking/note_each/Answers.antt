use Rattle.std.proofs.Common.{ℕ, List, ap, arith}
use Rattle.pmem_words.specs.Seats.{Seat}
use Rattle.log_blocks.proofs.EntryMaps.{run_noted}
use Rattle.log_blocks.proofs.taking.note_each.Goals as goal

pub loop-block-preserved : goal.loop-block-preserved
loop-block-preserved c =
    (let s : Seat = c.args.seat.now in
    record {
      seat = rw (c.note.ensures, c.loop-block.invariant.seat) (ap (λ (words : List ℕ). record s { blocks = record s.blocks { named = words } }) (run_noted s.calling.noting s.blocks.named c.args.first c.loop-block.block c.loop-block.invariant.from));
      from = (let low = c.loop-block.invariant.from in omega (arith, low));
    })
