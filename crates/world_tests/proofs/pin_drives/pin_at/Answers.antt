use Rattle.std.proofs.Common.{sym, ◌∙◌}
use Rattle.std.specs.Prelude.{slice_index_or}
use Rattle.std.proofs.lemmas.List.{get_or_read}
use Rattle.pmem_words.specs.Seats.{new_seat}
use Rattle.log_core.specs.Views.{no_geometry}
use Rattle.world_tests.proofs.PinDrives.{pin_safe, pin_ended, pin_rests, pin_valid, pin_is}
use Rattle.world_tests.proofs.pin_drives.pin_at.Goals as goal

pub drive-requires : goal.drive-requires
drive-requires c = pin_safe c.args.image.now c.args.seats.now c.args.seat c.requires.inside c.requires.resting c.requires.may c.new.result (slice_index_or c.args.seats.now c.args.seat c.index-seats-seat.result) c.requires.room c.new.ensures
    (sym c.index-seats-seat.is ∙ get_or_read c.args.seats.now c.args.seat c.index-seats-seat.result c.requires.inside c.index-seats-seat.is (new_seat no_geometry 0 0 0))

pub returns-clause-resting : goal.returns-clause-resting
returns-clause-resting c = pin_rests c.args.image.now c.args.seats.now c.args.seat c.requires.inside c.requires.resting c.requires.may c.drive.result c.drive.new.seat c.drive.new.memory
    (pin_ended c.args.image.now c.args.seats.now c.args.seat c.requires.inside c.requires.resting c.requires.may c.new.result (slice_index_or c.args.seats.now c.args.seat c.index-seats-seat.result) c.requires.room c.new.ensures (sym c.index-seats-seat.is ∙ get_or_read c.args.seats.now c.args.seat c.index-seats-seat.result c.requires.inside c.index-seats-seat.is (new_seat no_geometry 0 0 0)) c.drive.result c.drive.new.seat c.drive.new.memory c.drive.ensures)

pub returns-clause-valid : goal.returns-clause-valid
returns-clause-valid c = pin_valid c.args.image.now c.args.seats.now c.args.seat c.requires.inside c.requires.resting c.requires.may c.drive.result c.drive.new.seat c.drive.new.memory
    (pin_ended c.args.image.now c.args.seats.now c.args.seat c.requires.inside c.requires.resting c.requires.may c.new.result (slice_index_or c.args.seats.now c.args.seat c.index-seats-seat.result) c.requires.room c.new.ensures (sym c.index-seats-seat.is ∙ get_or_read c.args.seats.now c.args.seat c.index-seats-seat.result c.requires.inside c.index-seats-seat.is (new_seat no_geometry 0 0 0)) c.drive.result c.drive.new.seat c.drive.new.memory c.drive.ensures)

pub returns-clause-pinned : goal.returns-clause-pinned
returns-clause-pinned c = pin_is c.args.image.now c.args.seats.now c.args.seat c.requires.inside c.requires.resting c.requires.may c.drive.result c.drive.new.seat c.drive.new.memory
    (pin_ended c.args.image.now c.args.seats.now c.args.seat c.requires.inside c.requires.resting c.requires.may c.new.result (slice_index_or c.args.seats.now c.args.seat c.index-seats-seat.result) c.requires.room c.new.ensures (sym c.index-seats-seat.is ∙ get_or_read c.args.seats.now c.args.seat c.index-seats-seat.result c.requires.inside c.index-seats-seat.is (new_seat no_geometry 0 0 0)) c.drive.result c.drive.new.seat c.drive.new.memory c.drive.ensures)
