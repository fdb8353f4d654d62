-- What no call on a seat says of its task.
use Rattle.std.proofs.Common.{◌≡◌, ◌≢◌, ◌==◌, ◌&&◌, ℕ, Bool, false, List, [], refl, sym, ◌∙◌, ap, Option, Some, None}
use Rattle.log_entry.specs.declared.calls.Op.TheVariants.{Pread as PreadOp, Sync as SyncOp, Collect as CollectOp}
use Rattle.pmem_words.specs.declared.keeps.Task.{Task}
use Rattle.pmem_words.specs.declared.keeps.Task.TheVariants.{Pread, Sync, Collect}
use Rattle.pmem_words.specs.Seats.{Seat}
use Rattle.log_core.specs.Views.{op_of, op_in}
use Rattle.log_core.specs.Works.{laid_bytes}
use Rattle.log_core.specs.Records.{one_if, running_at}

-- a seat on which no call runs makes no sync and no collection, and has laid nothing
pub idle_sync : (s : Seat) → op_in s ≡ None → s.calling.job ≢ Sync
idle_sync s none sync = (let some : Some SyncOp ≡ None = sym (ap (λ (job : Task). op_of job s.calling.bytes) sync) ∙ none in cc)

pub idle_collection : {P : Type 0} (s : Seat) → op_in s ≡ None → s.calling.job ≡ Collect → P
idle_collection s none collects = (let some : Some CollectOp ≡ None = sym (ap (λ (job : Task). op_of job s.calling.bytes) collects) ∙ none in cc)

pub idle_read : (s : Seat) (offset count : ℕ) → op_in s ≡ None → s.calling.job ≢ Pread offset count
idle_read s offset count none read = (let some : Some (PreadOp offset count) ≡ None = sym (ap (λ (job : Task). op_of job s.calling.bytes) read) ∙ none in cc)

pub idle_laid : (job : Task) (bytes : List ℕ) → op_of job bytes ≡ None → laid_bytes job bytes ≡ []
idle_laid (Pread offset count) bytes none = cc
idle_laid _ bytes none = refl

pub not_some : (to : Option ℕ) → (to ≢ None → ⊥) → to ≡ None
not_some None never = refl
not_some (Some position) never = absurd (never (λ e. cc))

pub running_none : (position : ℕ) (s : Seat) → s.calling.won ≡ false → running_at position s ≡ 0
running_none position s none = ap (λ (won : Bool). one_if (won && (s.walk.position == position))) none
