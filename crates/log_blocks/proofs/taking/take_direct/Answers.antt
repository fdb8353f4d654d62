use Rattle.std.proofs.Common.{◌≡◌, ◌+◌, ℕ, List, Option, sym, ap, ◌∙◌, arith}
use Rattle.std.proofs.lemmas.List.FromFn.{length-range_with_len}
use Rattle.log_entry.specs.Fields.{field}
use Rattle.log_entry.specs.declared.layouts.TheConstants.{DIRECT_VIRT, DIRECT_BLOCK, DIRECT_COUNT}
use Rattle.log_image.specs.Entries.{direct_meaning, names}
use Rattle.pmem_words.specs.Maps.{with_run}
use Rattle.pmem_words.specs.Seats.{Seat}
use Rattle.log_core.specs.Works.{seat_shape, with_entry, blocks_noted}
use Rattle.chain_reader.proofs.FitsLemmas.{RunNumbers, direct_numbers}
use Rattle.log_blocks.specs.Taking.{passed}
use Rattle.log_blocks.proofs.EntryMaps.{direct_is, direct_inside}
use Rattle.log_blocks.proofs.taking.take_direct.Goals as goal

pub apply-requires-clause-in_file : goal.apply-requires-clause-in_file
apply-requires-clause-in_file c =
    let is : RunNumbers (field DIRECT_VIRT c.args.word) (field DIRECT_BLOCK c.args.word) (field DIRECT_COUNT c.args.word + 1) = direct_numbers (seat_shape c.args.seat.now) 256 c.args.word (omega arith) c.requires.fits in
    omega (arith, is.in_file)

pub pass_entry-requires-clause-inside : goal.pass_entry-requires-clause-inside
pass_entry-requires-clause-inside c =
    let is : RunNumbers (field DIRECT_VIRT c.args.word) (field DIRECT_BLOCK c.args.word) (field DIRECT_COUNT c.args.word + 1) = direct_numbers (seat_shape c.args.seat.now) 256 c.args.word (omega arith) c.requires.fits in
    omega (arith, is.in_file)

pub note_run-requires : goal.note_run-requires
note_run-requires c = (let inside = direct_inside c.args.seat.now.geometry c.args.word c.requires.fits in rw c.apply.ensures (omega (arith, inside)))

pub returns : goal.returns
returns c =
    (let s : Seat = c.args.seat.now in
    let is : with_run c.of-virt.result c.of-block.result (c.of-count.result + 1) s.walk.map ≡ with_entry (direct_meaning c.args.word) s.walk.map =
    direct_is c.args.word c.of-virt.result c.of-block.result c.of-count.result s.walk.map c.of-virt.ensures c.of-block.ensures c.of-count.ensures in
    let passed_so : c.pass_entry.new.seat ≡ passed c.note_run.new.seat (direct_meaning c.args.word) =
    c.pass_entry.ensures (direct_meaning c.args.word) (record {
      virt_is = sym c.of-virt.ensures;
      count_is = length-range_with_len (field DIRECT_BLOCK c.args.word) (field DIRECT_COUNT c.args.word + 1) ∙ ap (λ (n : ℕ). n + 1) (sym c.of-count.ensures);
      leftover_is = sym c.of.ensures;
    }) in
    passed_so ∙ (rw (c.note_run.ensures, c.apply.ensures, c.of-block.ensures, c.of-count.ensures)
    (ap (λ (map : List (Option ℕ)). passed (record s { walk = record s.walk { map = map }; blocks = blocks_noted s (names (direct_meaning c.args.word)) }) (direct_meaning c.args.word)) (rw (c.of-block.ensures, c.of-count.ensures) at is))))
