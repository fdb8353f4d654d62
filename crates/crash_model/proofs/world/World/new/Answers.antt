use Rattle.std.proofs.Common.{ℕ, ◌<◌, ◌^◌, List, slice_index, subst}
use Rattle.crash_model.proofs.Standing.{made_stands}
use Rattle.crash_model.proofs.Resting.{made_rests}
use Rattle.crash_model.proofs.world.World.new.Goals as goal

pub fresh-requires : goal.fresh-requires
fresh-requires c =
    made_stands
    c.args.start.geometry c.into_parts-words.result.0.items c.into_parts-words.result.1.items c.args.start.generation c.args.start.position c.args.start.size c.args.seats (subst (λ (words : List ℕ). (place : ℕ) → slice_index words place < 2 ^ 64) c.deref.ensures.value c.bound.ensures) c.requires.some c.requires.few
    c.into_parts-words.ensures.kept c.geometry-geometry.result.now c.position-position.result c.in_ok-cells.cells c.geometry-geometry.ensures c.position-position.ensures c.in_ok-cells.ensures

pub returns-clause-rests : goal.returns-clause-rests
returns-clause-rests c = rw c.fresh.ensures (made_rests
    c.args.start.geometry c.into_parts-words.result.0.items c.into_parts-words.result.1.items c.args.start.generation c.args.start.position c.args.start.size c.args.seats (subst (λ (words : List ℕ). (place : ℕ) → slice_index words place < 2 ^ 64) c.deref.ensures.value c.bound.ensures) c.requires.some c.requires.few
    c.into_parts-words.ensures.kept c.geometry-geometry.result.now c.position-position.result c.in_ok-cells.cells c.in_ok-states.states.items c.geometry-geometry.ensures c.position-position.ensures c.in_ok-cells.ensures c.in_ok-states.ensures)
