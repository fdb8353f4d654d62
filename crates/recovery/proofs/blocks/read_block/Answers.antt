use Rattle.std.proofs.Common.{◌++◌, ◌∷◌, [], ◌∙◌, ap, ℕ, List}
use Rattle.log_image.specs.Image.{shape_by}
use Rattle.std.specs.Global.{Vec}
use Rattle.recovery.proofs.CheckLemmas.{block_read}
use Rattle.recovery.proofs.blocks.read_block.Goals as goal

pub returns-in-Err : goal.returns-in-Err
returns-in-Err c = record { answer = λ place agrees new. c.in-Err.ensures.answer place agrees }

pub returns-in-Ok-push : goal.returns-in-Ok-push
returns-in-Ok-push c = record {
  answer = λ place agrees new. block_read c.in-Ok.next c.args.words.now (shape_by c.args.geometry) place c.args.block c.check_block.new.reading c.push.new.self
      (c.in-Ok-push.ensures.items ∙ ap (λ (chain : Vec ℕ). chain.items ++ c.args.block ∷ []) c.in-Ok.ensures.chain ∙ ap (λ (l : List ℕ). l ++ c.args.block ∷ []) agrees.chain)
      (c.in-Ok.ensures.answer place agrees);
}
