use Rattle.std.proofs.Common.{arith}
use Rattle.std.proofs.lemmas.List.{get_or_read}
use Rattle.pmem_words.specs.Seats.{new_seat}
use Rattle.log_core.specs.Views.{no_geometry}
use Rattle.crash_model.specs.Worlds.{world_of}
use Rattle.crash_model.proofs.Standing.{seat_made, image_takes, world_made}
use Rattle.crash_model.proofs.world.World.perform.Goals as goal

pub index-requires : goal.index-requires
index-requires c = let fits = rw (← c.self.view_is) at c.requires.fits in
    let made = seat_made (world_of c.self.inside.image c.self.inside.seats.items) c.args.seat c.args.ask fits in
    omega (arith, made, c.self.inside.seats.ok.0)

pub perform-requires : goal.perform-requires
perform-requires c = let fits = rw (← c.self.view_is) at c.requires.fits in
    let room = rw (← c.self.view_is) at c.requires.room in
    image_takes (world_of c.self.inside.image c.self.inside.seats.items) c.args.seat c.args.ask fits c.index.result.now
    (get_or_read c.self.inside.seats.items c.args.seat c.index.result.now (seat_made (world_of c.self.inside.image c.self.inside.seats.items) c.args.seat c.args.ask fits) c.index.ensures (new_seat no_geometry 0 0 0)) room

pub returns-clause-same : goal.returns-clause-same
returns-clause-same c = let fits = rw (← c.self.view_is) at c.requires.fits in
    rw (← c.self.view_is) (world_made (world_of c.self.inside.image c.self.inside.seats.items) c.args.seat c.args.ask fits c.index.result.now
    (get_or_read c.self.inside.seats.items c.args.seat c.index.result.now (seat_made (world_of c.self.inside.image c.self.inside.seats.items) c.args.seat c.args.ask fits) c.index.ensures (new_seat no_geometry 0 0 0)) c.perform.new.self c.perform.ensures.left)
