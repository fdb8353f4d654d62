use Rattle.std.proofs.Common.{sym, ap, subst}
use Rattle.pmem_words.specs.Seats.{Seat}
use Rattle.pmem_words.specs.Parts.{Into, End}
use Rattle.pins.specs.declared.unpin.Unpin.{Unpin}
use Rattle.log_blocks.specs.declared.walk.Walk.{Walk}
use Rattle.read_validate.specs.declared.query.Seen.{Seen}
use Rattle.read_validate.specs.declared.query.Stage.TheVariants.{Walking, Unpinning}
use Rattle.read_validate.specs.Looking.{MayReadAt, at_stage}
use Rattle.read_validate.proofs.Embedding.{at_pin, at_walk, at_range, at_unpin}
use Rattle.read_validate.proofs.RunParts.{part_safe, joint_at, runs_on, runs_out, gone_on}
use Rattle.read_validate.proofs.look.Look.run_part.Goals as goal

-- each part may be driven
pub drive-requires : goal.drive-requires
drive-requires g c = part_safe g.W.Memory.store c.args.self.now (at_pin c.args.self.now.query) c.in-Pinning.is c.requires (λ n t a admits. admits.part)

pub drive-requires-in-Walking : goal.drive-requires-in-Walking
drive-requires-in-Walking g c = part_safe g.W.Memory.store c.args.self.now (at_walk c.args.self.now.query) c.in-Walking.is c.requires (λ n t a admits. admits.part)

pub drive-requires-in-Reading : goal.drive-requires-in-Reading
drive-requires-in-Reading g c = part_safe g.W.Memory.store c.args.self.now (at_range c.args.self.now.query) c.in-Reading.is c.requires (λ n t a admits. admits.part)

pub drive-requires-in-Unpinning : goal.drive-requires-in-Unpinning
drive-requires-in-Unpinning g c = part_safe g.W.Memory.store c.args.self.now (at_unpin c.args.self.now.query) c.in-Unpinning.is c.requires (λ n t a admits. admits.part)

-- what is needed where the walk has ended
pub walked-requires : goal.walked-requires
walked-requires g c = subst (λ (u : Seat). MayReadAt c.args.self.now.query u) c.drive-in-Walking.ensures.leaves ((joint_at g.W.Memory.store c.args.self.now (at_walk c.args.self.now.query) c.in-Walking.is c.requires c.drive-in-Walking.ensures).joint c.drive-in-Walking.result c.drive-in-Walking.ensures.ends)

-- and the look has gone on, or has ended
pub returns-in-Pinning : goal.returns-in-Pinning
returns-in-Pinning g c = gone_on g.W.Memory.store c.go_on.ensures.turn c.go_on.ensures.look
    (runs_on g.W.Memory.store c.args.self.now (at_pin c.args.self.now.query) c.in-Pinning.is c.requires c.drive.ensures (ap (λ (p : Walk). Into (at_stage c.args.self.now.query (Walking p)) c.drive.new.seat) (sym c.new.ensures)))

pub returns-in-Walking : goal.returns-in-Walking
returns-in-Walking g c = gone_on g.W.Memory.store c.go_on-in-Walking.ensures.turn c.go_on-in-Walking.ensures.look
    (runs_on g.W.Memory.store c.args.self.now (at_walk c.args.self.now.query) c.in-Walking.is c.requires c.drive-in-Walking.ensures c.walked.ensures)

pub returns-in-Reading : goal.returns-in-Reading
returns-in-Reading g c = gone_on g.W.Memory.store c.go_on-in-Reading.ensures.turn c.go_on-in-Reading.ensures.look
    (runs_on g.W.Memory.store c.args.self.now (at_range c.args.self.now.query) c.in-Reading.is c.requires c.drive-in-Reading.ensures (ap (λ (p : Unpin). Into (at_stage c.args.self.now.query (Unpinning p)) c.drive-in-Reading.new.seat) (sym c.new-in-Reading.ensures)))

pub returns-in-Unpinning : goal.returns-in-Unpinning
returns-in-Unpinning g c = runs_out g.W.Memory.store c.args.self.now (at_unpin c.args.self.now.query) c.in-Unpinning.is c.requires c.drive-in-Unpinning.ensures
    (ap (λ (w : Seen). End w c.drive-in-Unpinning.new.seat) (sym c.seen.ensures))
