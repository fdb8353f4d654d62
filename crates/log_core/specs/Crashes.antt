-- What every crash leaves of a run.
use Rattle.std.specs.Prelude.{ℕ, ◌+◌, ◌^◌, ◌<◌, ◌≤◌, ◌≡◌, List, length, take}
use Rattle.std.specs.List.{AllByRecursion}
use Rattle.log_entry.specs.declared.calls.Reply.TheVariants.{Synced}
use Rattle.log_entry.specs.declared.calls.Call.{Call}
use Rattle.log_image.specs.Header.{shape_of}
use Rattle.log_image.specs.Chains.{IsChain}
use Rattle.log_image.specs.Stands.{Stands}
use Rattle.log_image.specs.Tails.{tail_of, IsCleared}
use Rattle.log_image.specs.Recovered.{Recovered, StopInTurn, left_at_last}
use Rattle.log_image.specs.declared.starts.Start.{Start}
use Rattle.persistence.specs.Survivors.{Survives}
use Rattle.log_core.specs.Views.{view_of}
use Rattle.log_core.specs.Origin.{Origin, first_position}
use Rattle.log_core.specs.Files.{file_after_writes, end_of}
use Rattle.log_core.specs.Cores.{Core}
use Rattle.log_core.specs.Steps.{Step}
use Rattle.log_core.specs.Runs.{IsRun, end}
use Rattle.log_core.specs.Starts.{IsStart}

-- the file after the first writes of a history, as many as this
abbrev pub file_after_first : Origin → Core → ℕ → List ℕ
file_after_first o c writes = file_after_writes o.file (take writes c.history)

-- words that are of one file at one position: they stand for it, so no condition of opening refuses them; so do the words that are cleared
-- after their tail; and each start that is recovered from them is of that file and that position
pub record OpensAs (words file : List ℕ) (position : ℕ) : Type 0 where
  pub stands : Stands words file position
  pub cleared : (chain others : List ℕ) → IsChain words (shape_of words) chain → IsCleared (shape_of words) (tail_of words (shape_of words) chain) words others → Stands others file position
  pub recovered : (start : Start) (found : List ℕ) (elsewhere : ℕ) → Recovered words start found elsewhere → (found ≡ file) × (elsewhere ≡ position)

-- words that a crash left of a core: they have the first writes of the history, all up to one, among them all up to the synced position, and
-- no other. Each has 64 bits, and they are of the file after those writes, at its position. So are those that clearings of them leave which
-- are stopped, one after the other. No sync of any view was answered with a position past the synced one
pub record IsRecovered (o : Origin) (c : Core) (words : List ℕ) : Type 0 where
  pub writes : ℕ
  pub to_end : writes ≤ length c.history
  pub synced : c.synced ≤ first_position o + writes
  pub small : AllByRecursion (λ (word : ℕ). word < 2 ^ 64) words
  pub opens : OpensAs words (file_after_first o c writes) (first_position o + writes)
  pub stopped : (stops : List (List ℕ)) → StopInTurn words stops → OpensAs (left_at_last words stops) (file_after_first o c writes) (first_position o + writes)
  pub answered : (seat : ℕ) → AllByRecursion (λ (call : Call). (position : ℕ) → call.reply ≡ Synced position → position ≤ c.synced) (view_of c.views seat).done

-- so it is of all words that any crash may leave, after every run
abbrev pub CrashesAreRecovered : Type 0
CrashesAreRecovered = (o : Origin) (steps : List Step) (words : List ℕ) → IsStart o → IsRun o steps → Survives (end o steps).memory words → IsRecovered o (end o steps) words

-- after every run the present words stand for the file after all writes of the history
abbrev pub PresentWordsHaveAll : Type 0
PresentWordsHaveAll = (o : Origin) (steps : List Step) → IsStart o → IsRun o steps →
    Stands (end o steps).memory.now.words (file_after_first o (end o steps) (length (end o steps).history)) (end_of o (end o steps).history)
