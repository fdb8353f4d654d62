-- Rows of files by their positions, of what a call lacks, and of replies.
use Rattle.std.proofs.Common.{◌≡◌, ◌⊎◌, [], ◌∷◌, refl, inl, inr, arith, ap}
use Rattle.std.proofs.lemmas.Bool.{false≢true, true≢false}
use Rattle.log_entry.specs.declared.calls.Reply.TheVariants.{Appended, NotWritten}
use Rattle.log_entry.specs.declared.calls.WriteRefusal.TheVariants.{NoSpace}
use Rattle.log_entry.specs.declared.shapes.Area.TheVariants.{Data, Log}
use Rattle.log_core.specs.Answers.{HasLacked}
use Rattle.log_core.specs.worked_rows.Rows.{lacked, FilesByPosition, EarlyFiles, WalkedTrail, LacksBlocks, QuietCalls, RepliesFit, LimitsFit}
use Rattle.log_core.proofs.row_checks.RowTells.{is_for_data, is_refused, said, offset_said, none_not_some}

pub files_by_position : FilesByPosition
files_by_position = (refl, refl, refl, refl, refl, refl, refl, refl, refl, refl, refl, refl, refl)

pub early_files : EarlyFiles
early_files = (refl, refl, refl, refl, refl, refl, refl, refl, refl, refl, refl, refl)

pub trail_walked : WalkedTrail
trail_walked = (refl, refl, refl, refl)

pub lacks_blocks : LacksBlocks
lacks_blocks = (refl, refl, refl, refl, refl, refl, refl, refl, refl, refl, refl, refl, refl, refl, refl, refl, refl, refl, refl, refl, refl)

pub quiet_calls : QuietCalls
quiet_calls = (refl, refl, refl, refl, refl, refl, refl, refl, refl, refl, refl, refl, refl, refl, refl, refl, refl)

-- what a write's refusal for want of data blocks takes
no_data : ((NotWritten (NoSpace Data) ≡ NotWritten (NoSpace Data)) × HasLacked (lacked (Log ∷ [])) Data) ⊎ ((NotWritten (NoSpace Data) ≡ NotWritten (NoSpace Log)) × HasLacked (lacked (Log ∷ [])) Log) → ⊥
no_data (inl lacks) = false≢true lacks.1
no_data (inr other) = true≢false (ap is_for_data other.0)

not_accepted : ((Appended 256 1 ≡ NotWritten (NoSpace Data)) × HasLacked (lacked []) Data) ⊎ ((Appended 256 1 ≡ NotWritten (NoSpace Log)) × HasLacked (lacked []) Log) → ⊥
not_accepted (inl lacks) = false≢true (ap is_refused lacks.0)
not_accepted (inr other) = false≢true (ap is_refused other.0)

pub replies_fit : RepliesFit
replies_fit = (
  refl,
  λ fits. (let size = ap said fits in omega (arith, size)),
  (refl, refl),
  λ fits. omega (arith, fits.1),
  (refl, refl),
  refl,
  inl (refl, refl),
  no_data,
  not_accepted,
  refl,
  (refl, refl, refl),
  λ fits. fits.2.0 refl,
  λ fits. none_not_some 7 fits.1,
)

pub limits_fit : LimitsFit
limits_fit = (
  (refl, refl, (λ same. omega (arith, same), omega arith, refl)),
  λ fits. omega (arith, fits.2.1),
  λ fits. omega (arith, fits.2.2),
  λ fits. (let same = fits.2 in omega (arith, same)),
  (refl, refl, (λ same. omega (arith, same), λ same. omega (arith, same), refl)),
  λ fits. false≢true fits.2.2,
  (refl, refl, (λ same. omega (arith, same), refl)),
  λ fits. (let same = fits.2.1 in omega (arith, same)),
  refl,
  λ fits. (let at = ap offset_said fits in omega (arith, at)),
  refl,
  refl,
  λ fits. fits,
)
