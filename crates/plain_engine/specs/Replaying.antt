-- The history of some calls on an engine.
use Rattle.std.specs.Prelude.{ℕ, ◌≡◌, ◌+◌, List, [], ◌∷◌}
use Rattle.log_entry.specs.Legal.{Legal, last_file, last_position_of}
use Rattle.log_entry.specs.OfTrace.{OfTrace}
use Rattle.log_entry.specs.Order.{IsInOrder}
use Rattle.log_entry.specs.declared.calls.Call.{Call}
use Rattle.log_entry.specs.declared.calls.Job.{Job}
use Rattle.log_image.specs.Header.{generation_of}
use Rattle.plain_engine.specs.Served.{AreServed}
use Rattle.plain_engine.specs.Engine.{shape_in, Running, KeepsFirstBlock}
use Rattle.plain_engine.specs.declared.engine.PlainEngine.{PlainEngine}

-- the jobs are one seat's, numbered in turn from this number on
abbrev pub AreNumbered : ℕ → ℕ → List Job → Type 0
AreNumbered seat number [] = Unit {0}
AreNumbered seat number (job ∷ jobs) = (job.seat ≡ seat) × (job.number ≡ number) × AreNumbered seat (number + 1) jobs

-- the jobs are those of seat 0, from its first call on
abbrev pub AreOneSeat : List Job → Type 0
AreOneSeat jobs = AreNumbered 0 1 jobs

-- the calls are the jobs', each once, in one legal history that starts from the file and the position that the engine had, in the
-- order of a report; the engine then runs on the history's last file, at its last position, and block 0 is the same; and each call
-- was served in turn, so that one says that there is no space exactly where there is none, and the least clear blocks are taken
pub record Replays (old new : PlainEngine) (chain file : List ℕ) (jobs : List Job) (calls : List Call) : Type 0 where
  pub of_trace : OfTrace calls jobs
  pub legal : Legal old.geometry.block_bytes file old.position calls
  pub in_order : IsInOrder calls
  pub geometry : new.geometry ≡ old.geometry
  pub position : new.position ≡ last_position_of old.position calls
  pub generation : generation_of new.words.items ≡ generation_of old.words.items
  pub first_block : KeepsFirstBlock (shape_in old) old.words.items new.words.items
  pub longer : List ℕ
  pub runs : Running new longer (last_file file calls)
  pub served : AreServed (shape_in old) old.words.items chain file old.position calls new.words.items longer
