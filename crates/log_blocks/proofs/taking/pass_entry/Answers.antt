use Rattle.std.proofs.Common.{◌≡◌, ◌+◌, ◌*◌, ◌-◌, max, length, refl}
use Rattle.pmem_words.specs.Seats.{Seat}
use Rattle.log_blocks.specs.Taking.{dropped}
use Rattle.log_blocks.proofs.EntryMaps.{entry_passed}
use Rattle.log_blocks.proofs.taking.pass_entry.Goals as goal

pub returns : goal.returns
returns c = λ entry is.
    let grown : Seat = record c.args.seat.now { walk = record c.args.seat.now.walk { size = max c.args.seat.now.walk.size ((c.args.virt + c.args.count) * c.args.seat.now.geometry.block_bytes - c.args.leftover) } } in
    let dropped_both : c.drop_touched-2.new.seat ≡ dropped entry.virt (length entry.blocks) 0 (dropped entry.virt (length entry.blocks) 1 grown) =
    rw (is.virt_is, is.count_is, c.drop_touched-2.ensures, c.drop_touched.ensures, c.grow.ensures, c.saturating_sub.ensures, c.from.ensures, c.block_bytes.ensures.value, c.geometry.ensures) refl in
    let left = entry_passed entry grown c.requires.few c.drop_touched-2.new.seat dropped_both in
    rw (c.clear_kept.ensures, c.set_at_tail.ensures, c.set_tail_slot.ensures, c.tail_slot.ensures, c.set_position.ensures, c.position.ensures, left, is.virt_is, is.count_is, is.leftover_is) refl
