use Rattle.std.proofs.Common.{◌≡◌, ℕ, List, ◌++◌, codes, decimal, append_assoc}
use Rattle.std.proofs.lemmas.Result.{IfOk-equal}
use Rattle.log_entry.specs.declared.calls.Collected.{Collected}
use Rattle.history_report.specs.Report.{collection_text, held_text}
use Rattle.history_report.proofs.answers.push_collection.Goals as goal

-- the pieces of the text, behind what stands before it
joined : (out named whole : List ℕ) (done : Collected) → named ≡ out ++ (codes "generation " ++ decimal done.generation) → whole ≡ named ++ (codes " freed " ++ (decimal done.freed ++ (codes " kept " ++ decimal done.kept))) → whole ++ held_text done.held ≡ out ++ collection_text done
unfolding collection_text
joined out named whole done first second = rw (second, first) (simp append_assoc)

pub returns : goal.returns
returns c = IfOk-equal _ _ _ _ c.push_held.ensures (joined _ _ _ c.args.done (rw c.from.ensures at c.in_ok-push_named.ensures) c.in_ok-push_blocks.ensures)
