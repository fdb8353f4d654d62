use Rattle.std.proofs.Common.{◌++◌, Option, ap, subst, ◌∙◌}
use Rattle.pmem_words.specs.Seats.{Seat}
use Rattle.pmem_words.specs.Courses.{over}
use Rattle.pmem_words.proofs.Stages.{goes_join, ends_from, safe_from, safe_stage, last_admitted, ran_stage, ended_stage}
use Rattle.partial_blocks.specs.declared.read_bases.ReadBases.{ReadBases}
use Rattle.partial_blocks.specs.ReadingBases.{read_bases_script, read_bases_lowers, went_on, MayLook}
use Rattle.partial_blocks.proofs.Embedding.{at_base}
use Rattle.partial_blocks.proofs.read_bases.ReadBases.run.Goals as goal

pub drive-requires : goal.drive-requires
drive-requires g c = safe_stage g.W.Memory.store (at_base c.loop-next.reading.offset) (λ m s a admits. admits.part) _ _ _
    (safe_from read_bases_script (over read_bases_script g.W.Memory.store) c.loop-next.invariant.0 _ _ _ _ _ _ c.loop-next.invariant.1 c.requires)

pub begin-requires : goal.begin-requires
begin-requires g c = subst (λ (u : Seat). MayLook c.loop-next.reading.offset u) c.drive.ensures.leaves
    ((last_admitted g.W.Memory.store (at_base c.loop-next.reading.offset) c.drive.ensures
    (safe_from read_bases_script (over read_bases_script g.W.Memory.store) c.loop-next.invariant.0 _ _ _ _ _ _ c.loop-next.invariant.1 c.requires)).joint c.drive.ensures.ends)

pub loop-next-smaller : goal.loop-next-smaller
loop-next-smaller g c = (ran_stage g.W.Memory.store (at_base c.loop-next.reading.offset) read_bases_lowers
    (safe_from read_bases_script (over read_bases_script g.W.Memory.store) c.loop-next.invariant.0 _ _ _ _ _ _ c.loop-next.invariant.1 c.requires)
    c.drive.ensures (c.begin.ensures ∙ ap (λ (r : Option ReadBases). went_on r c.begin.new.seat) c.in-Some.is)).nearer

pub loop-next-preserved : goal.loop-next-preserved
loop-next-preserved g c =
    let ran = ran_stage g.W.Memory.store (at_base c.loop-next.reading.offset) read_bases_lowers
    (safe_from read_bases_script (over read_bases_script g.W.Memory.store) c.loop-next.invariant.0 _ _ _ _ _ _ c.loop-next.invariant.1 c.requires)
    c.drive.ensures (c.begin.ensures ∙ ap (λ (r : Option ReadBases). went_on r c.begin.new.seat) c.in-Some.is) in
    (c.loop-next.invariant.0 ++ ran.answers, goes_join read_bases_script (over read_bases_script g.W.Memory.store) c.loop-next.invariant.0 _ _ _ _ _ _ ran.answers _ _ _ c.loop-next.invariant.1 ran.goes)

pub returns-in-None : goal.returns-in-None
returns-in-None g c = ends_from read_bases_script (over read_bases_script g.W.Memory.store) c.loop-next.invariant.0 _ _ _ _ _ _ _ _ _ c.loop-next.invariant.1
    (ended_stage g.W.Memory.store (at_base c.loop-next.reading.offset) c.drive.ensures (c.begin.ensures ∙ ap (λ (r : Option ReadBases). went_on r c.begin.new.seat) c.in-None.is))
