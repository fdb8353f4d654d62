use Rattle.std.proofs.Common.{◌==◌, length, sym, ap, subst, ◌∙◌}
use Rattle.pmem_words.specs.Seats.{Seat}
use Rattle.pmem_words.specs.Parts.{Into, End}
use Rattle.pmem_words.specs.declared.machine.Turn.TheVariants.{Done}
use Rattle.pmem_words.specs.declared.written.Written.{Written}
use Rattle.log_blocks.specs.declared.grow.Grow.{Grow}
use Rattle.log_blocks.specs.declared.walk.Walk.{Walk}
use Rattle.write_any.specs.declared.stage.Stage.{Stage}
use Rattle.write_any.specs.declared.stage.Stage.TheVariants.{Walking, Growing}
use Rattle.write_any.specs.Composing.{HasBlocks, HasLast}
use Rattle.write_any.specs.Writing.{CanGoOn, HasLogBlock, offset_of, at_stage}
use Rattle.write_any.proofs.Embedding.{at_pin, at_walk, at_take, at_take_runs, at_fill, at_take_log, at_fill_log, at_grow, at_give_log, at_offer, at_unpin, at_give}
use Rattle.write_any.proofs.RunParts.{part_safe, joint_at, runs_on, runs_out, gone_on, gives, gives_none}
use Rattle.write_any.proofs.write.Write.run_part.Goals as goal

-- each part may be driven
pub drive-requires : goal.drive-requires
drive-requires g c = part_safe g.W.Memory.store c.args.self.now (at_pin c.args.self.now.target) c.in-Pinning.is c.requires (λ n t a admits. admits.part)

pub drive-requires-in-Walking : goal.drive-requires-in-Walking
drive-requires-in-Walking g c = part_safe g.W.Memory.store c.args.self.now (at_walk c.args.self.now.target) c.in-Walking.is c.requires (λ n t a admits. admits.part)

pub drive-out-requires : goal.drive-out-requires
drive-out-requires g c = part_safe g.W.Memory.store c.args.self.now (at_take c.args.self.now.target) c.in-Taking.is c.requires (λ n t a admits. admits.part)

pub drive-out-requires-in-TakingRuns : goal.drive-out-requires-in-TakingRuns
drive-out-requires-in-TakingRuns g c = part_safe g.W.Memory.store c.args.self.now (at_take_runs c.args.self.now.target) c.in-TakingRuns.is c.requires (λ n t a admits. admits.part)

pub drive-requires-in-Filling : goal.drive-requires-in-Filling
drive-requires-in-Filling g c = part_safe g.W.Memory.store c.args.self.now (at_fill c.args.self.now.target) c.in-Filling.is c.requires (λ n t a admits. admits.part)

pub drive-out-requires-in-TakingLog : goal.drive-out-requires-in-TakingLog
drive-out-requires-in-TakingLog g c = part_safe g.W.Memory.store c.args.self.now (at_take_log c.args.self.now.target) c.in-TakingLog.is c.requires (λ n t a admits. admits.part)

pub drive-requires-in-FillingLog : goal.drive-requires-in-FillingLog
drive-requires-in-FillingLog g c = part_safe g.W.Memory.store c.args.self.now (at_fill_log c.args.self.now.target) c.in-FillingLog.is c.requires (λ n t a admits. admits.part)

pub drive-out-requires-in-Growing : goal.drive-out-requires-in-Growing
drive-out-requires-in-Growing g c = part_safe g.W.Memory.store c.args.self.now (at_grow c.args.self.now.target) c.in-Growing.is c.requires (λ n t a admits. admits.part)

pub drive-requires-in-GivingLog : goal.drive-requires-in-GivingLog
drive-requires-in-GivingLog g c = part_safe g.W.Memory.store c.args.self.now (at_give_log c.args.self.now.target) c.in-GivingLog.is c.requires (λ n t a admits. admits.part)

pub drive-out-requires-in-Offering : goal.drive-out-requires-in-Offering
drive-out-requires-in-Offering g c = part_safe g.W.Memory.store c.args.self.now (at_offer c.args.self.now.target) c.in-Offering.is c.requires (λ n t a admits. admits.part)

pub drive-requires-in-Unpinning : goal.drive-requires-in-Unpinning
drive-requires-in-Unpinning g c = part_safe g.W.Memory.store c.args.self.now (at_unpin c.args.self.now.target c.in-Unpinning.refusal) c.in-Unpinning.is c.requires (λ n t a admits. admits.part)

pub drive-requires-in-Giving : goal.drive-requires-in-Giving
drive-requires-in-Giving g c = part_safe g.W.Memory.store c.args.self.now (at_give c.args.self.now.target c.in-Giving.refusal) c.in-Giving.is c.requires (λ n t a admits. admits.part)

-- what is needed where it has ended
pub walked-requires : goal.walked-requires
walked-requires g c = subst (λ (u : Seat). CanGoOn (offset_of c.args.self.now.target) u) c.drive-in-Walking.ensures.leaves ((joint_at g.W.Memory.store c.args.self.now (at_walk c.args.self.now.target) c.in-Walking.is c.requires c.drive-in-Walking.ensures).joint c.drive-in-Walking.result c.drive-in-Walking.ensures.ends)

pub taken-requires : goal.taken-requires
taken-requires g c = λ done. subst (λ (u : Seat). HasBlocks (offset_of c.args.self.now.target) u) c.drive-out.ensures.leaves ((joint_at g.W.Memory.store c.args.self.now (at_take c.args.self.now.target) c.in-Taking.is c.requires c.drive-out.ensures).joint (c.drive-out.ensures.ends ∙ ap Done done))

pub taken_runs-requires : goal.taken_runs-requires
taken_runs-requires g c = λ done. subst (λ (u : Seat). HasBlocks (offset_of c.args.self.now.target) u) c.drive-out-in-TakingRuns.ensures.leaves ((joint_at g.W.Memory.store c.args.self.now (at_take_runs c.args.self.now.target) c.in-TakingRuns.is c.requires c.drive-out-in-TakingRuns.ensures).joint (c.drive-out-in-TakingRuns.ensures.ends ∙ ap Done done))

pub at_tail-requires : goal.at_tail-requires
at_tail-requires g c = subst (λ (u : Seat). HasBlocks (offset_of c.args.self.now.target) u) c.drive-in-Filling.ensures.leaves ((joint_at g.W.Memory.store c.args.self.now (at_fill c.args.self.now.target) c.in-Filling.is c.requires c.drive-in-Filling.ensures).joint c.drive-in-Filling.ensures.ends)

pub taken_log-requires : goal.taken_log-requires
taken_log-requires g c = λ done. subst (λ (u : Seat). HasLogBlock u) c.drive-out-in-TakingLog.ensures.leaves ((joint_at g.W.Memory.store c.args.self.now (at_take_log c.args.self.now.target) c.in-TakingLog.is c.requires c.drive-out-in-TakingLog.ensures).joint (c.drive-out-in-TakingLog.ensures.ends ∙ ap Done done))

pub last_block-requires : goal.last_block-requires
last_block-requires g c = subst (λ (u : Seat). HasLast u) c.drive-in-FillingLog.ensures.leaves ((joint_at g.W.Memory.store c.args.self.now (at_fill_log c.args.self.now.target) c.in-FillingLog.is c.requires c.drive-in-FillingLog.ensures).joint c.drive-in-FillingLog.ensures.ends)

pub grown-requires-clause-linked : goal.grown-requires-clause-linked
grown-requires-clause-linked g c = λ linked. subst (λ (u : Seat). HasBlocks (offset_of c.args.self.now.target) u) c.drive-out-in-Growing.ensures.leaves ((joint_at g.W.Memory.store c.args.self.now (at_grow c.args.self.now.target) c.in-Growing.is c.requires c.drive-out-in-Growing.ensures).joint.0 (c.drive-out-in-Growing.ensures.ends ∙ ap Done linked))

pub grown-requires-clause-overtaken : goal.grown-requires-clause-overtaken
grown-requires-clause-overtaken g c = λ block overtaken. subst (λ (u : Seat). HasLast u) c.drive-out-in-Growing.ensures.leaves ((joint_at g.W.Memory.store c.args.self.now (at_grow c.args.self.now.target) c.in-Growing.is c.requires c.drive-out-in-Growing.ensures).joint.1 block (c.drive-out-in-Growing.ensures.ends ∙ ap Done overtaken))

-- and the write has gone on, or has ended
pub returns-in-Pinning : goal.returns-in-Pinning
returns-in-Pinning g c = gone_on g.W.Memory.store c.go_on.ensures.turn c.go_on.ensures.write
    (runs_on g.W.Memory.store c.args.self.now (at_pin c.args.self.now.target) c.in-Pinning.is c.requires c.drive.ensures (ap (λ (p : Walk). Into (at_stage c.args.self.now.target (Walking p)) c.drive.new.seat) (sym c.new.ensures)))

pub returns-in-Walking : goal.returns-in-Walking
returns-in-Walking g c = gone_on g.W.Memory.store c.go_on-in-Walking.ensures.turn c.go_on-in-Walking.ensures.write
    (runs_on g.W.Memory.store c.args.self.now (at_walk c.args.self.now.target) c.in-Walking.is c.requires c.drive-in-Walking.ensures (ap (λ (n : Stage). Into (at_stage c.args.self.now.target n) c.drive-in-Walking.new.seat) (sym c.walked.ensures)))

pub returns-in-Taking : goal.returns-in-Taking
returns-in-Taking g c = gone_on g.W.Memory.store c.go_on-in-Taking.ensures.turn c.go_on-in-Taking.ensures.write
    (runs_on g.W.Memory.store c.args.self.now (at_take c.args.self.now.target) c.in-Taking.is c.requires c.drive-out.ensures (c.taken.ensures))

pub returns-in-TakingRuns : goal.returns-in-TakingRuns
returns-in-TakingRuns g c = gone_on g.W.Memory.store c.go_on-in-TakingRuns.ensures.turn c.go_on-in-TakingRuns.ensures.write
    (runs_on g.W.Memory.store c.args.self.now (at_take_runs c.args.self.now.target) c.in-TakingRuns.is c.requires c.drive-out-in-TakingRuns.ensures (c.taken_runs.ensures))

pub returns-in-Filling : goal.returns-in-Filling
returns-in-Filling g c = gone_on g.W.Memory.store c.go_on-in-Filling.ensures.turn c.go_on-in-Filling.ensures.write
    (runs_on g.W.Memory.store c.args.self.now (at_fill c.args.self.now.target) c.in-Filling.is c.requires c.drive-in-Filling.ensures (ap (λ (n : Stage). Into (at_stage c.args.self.now.target n) c.drive-in-Filling.new.seat) (sym c.at_tail.ensures)))

pub returns-in-TakingLog : goal.returns-in-TakingLog
returns-in-TakingLog g c = gone_on g.W.Memory.store c.go_on-in-TakingLog.ensures.turn c.go_on-in-TakingLog.ensures.write
    (runs_on g.W.Memory.store c.args.self.now (at_take_log c.args.self.now.target) c.in-TakingLog.is c.requires c.drive-out-in-TakingLog.ensures (c.taken_log.ensures))

pub returns-in-FillingLog : goal.returns-in-FillingLog
returns-in-FillingLog g c = gone_on g.W.Memory.store c.go_on-in-FillingLog.ensures.turn c.go_on-in-FillingLog.ensures.write
    (runs_on g.W.Memory.store c.args.self.now (at_fill_log c.args.self.now.target) c.in-FillingLog.is c.requires c.drive-in-FillingLog.ensures (ap (λ (p : Grow). Into (at_stage c.args.self.now.target (Growing p)) c.drive-in-FillingLog.new.seat) (sym (c.new-in-FillingLog.ensures ∙ ap Rattle.log_blocks.specs.Growing.grow_of c.last_block.ensures))))

pub returns-in-Growing : goal.returns-in-Growing
returns-in-Growing g c = gone_on g.W.Memory.store c.go_on-in-Growing.ensures.turn c.go_on-in-Growing.ensures.write
    (runs_on g.W.Memory.store c.args.self.now (at_grow c.args.self.now.target) c.in-Growing.is c.requires c.drive-out-in-Growing.ensures (c.grown.ensures))

pub returns-in-GivingLog : goal.returns-in-GivingLog
returns-in-GivingLog g c = gone_on g.W.Memory.store c.go_on-in-GivingLog.ensures.turn c.go_on-in-GivingLog.ensures.write
    (runs_on g.W.Memory.store c.args.self.now (at_give_log c.args.self.now.target) c.in-GivingLog.is c.requires c.drive-in-GivingLog.ensures (ap (λ (p : Walk). Into (at_stage c.args.self.now.target (Walking p)) c.drive-in-GivingLog.new.seat) (sym c.new-in-GivingLog.ensures)))

pub returns-in-Offering : goal.returns-in-Offering
returns-in-Offering g c = gone_on g.W.Memory.store c.go_on-in-Offering.ensures.turn c.go_on-in-Offering.ensures.write
    (runs_on g.W.Memory.store c.args.self.now (at_offer c.args.self.now.target) c.in-Offering.is c.requires c.drive-out-in-Offering.ensures (c.offered.ensures c.args.self.now.target c.drive-out-in-Offering.new.seat))

pub returns-in-Some : goal.returns-in-Some
returns-in-Some g c = gone_on g.W.Memory.store c.go_on-in-Some.ensures.turn c.go_on-in-Some.ensures.write
    (runs_on g.W.Memory.store c.args.self.now (at_unpin c.args.self.now.target c.in-Unpinning.refusal) c.in-Unpinning.is c.requires c.drive-in-Unpinning.ensures (gives (length c.drive-in-Unpinning.new.seat.blocks.owned == 0) c.args.self.now.target c.in-Unpinning.refusal c.in-Some.stage c.drive-in-Unpinning.new.seat (sym c.in-Some.is ∙ c.unpinned.ensures)))

pub returns-in-None : goal.returns-in-None
returns-in-None g c = runs_out g.W.Memory.store c.args.self.now (at_unpin c.args.self.now.target c.in-Unpinning.refusal) c.in-Unpinning.is c.requires c.drive-in-Unpinning.ensures
    (gives_none (length c.drive-in-Unpinning.new.seat.blocks.owned == 0) c.args.self.now.target c.in-Unpinning.refusal c.drive-in-Unpinning.new.seat (sym c.in-None.is ∙ c.unpinned.ensures) ∙ ap (λ (w : Written). End w c.drive-in-Unpinning.new.seat) (sym c.written.ensures))

pub returns-in-Giving : goal.returns-in-Giving
returns-in-Giving g c = runs_out g.W.Memory.store c.args.self.now (at_give c.args.self.now.target c.in-Giving.refusal) c.in-Giving.is c.requires c.drive-in-Giving.ensures
    (ap (λ (w : Written). End w c.drive-in-Giving.new.seat) (sym c.written-in-Giving.ensures))
