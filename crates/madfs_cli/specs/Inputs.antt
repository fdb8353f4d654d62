-- What a command has of what it reads, and why it has nothing of it.
use Rattle.std.specs.Prelude.{ℕ, ◌≡◌, List, Option, Some, Err}
use Rattle.io_ends.specs.Faults.{Rose}
use Rattle.io_ends.specs.Taking.{IsAtEnd}
use Rattle.madfs_cli.specs.Traces.{ReadsCalls}
use Rattle.opening_rules.specs.declared.refusals.BadImage.{BadImage as ImageRefusal}
use Rattle.madfs_cli.specs.Images.{RefusesImage}
use Rattle.madfs_cli.specs.declared.statuses.Status.{Status}
use Rattle.madfs_cli.specs.declared.statuses.Status.TheVariants.{Done, Usage, BadImage, BadTrace, ReadFault, WriteFault, NoMemory}

-- why no jobs were read: the reading of all that was left refuses it, or a read failed, or want of memory
abbrev pub IsNotRead : Option (List ℕ) → ℕ → ℕ → Status → Type 0
IsNotRead left before now (BadTrace why) = (bytes : List ℕ) → left ≡ Some bytes → ReadsCalls bytes (Err why)
IsNotRead left before now ReadFault = Rose before now
IsNotRead left before now NoMemory = Unit {0}
IsNotRead left before now Done = ⊥
IsNotRead left before now Usage = ⊥
IsNotRead left before now (BadImage why) = ⊥
IsNotRead left before now WriteFault = ⊥

-- why no image was opened: all that was left is refused as an image, or a read failed, or want of memory
abbrev pub IsNotOpened : Option (List ℕ) → ℕ → ℕ → Status → Type 0
IsNotOpened left before now (BadImage why) = (bytes : List ℕ) → left ≡ Some bytes → RefusesImage bytes why
IsNotOpened left before now ReadFault = Rose before now
IsNotOpened left before now NoMemory = Unit {0}
IsNotOpened left before now Done = ⊥
IsNotOpened left before now Usage = ⊥
IsNotOpened left before now (BadTrace why) = ⊥
IsNotOpened left before now WriteFault = ⊥

-- an image was read to its end, and what it had left is not refused, where it tells that
pub record WasAccepted (before after : Option (List ℕ)) : Type 0 where
  pub at_end : IsAtEnd after
  pub accepted : (bytes : List ℕ) (why : ImageRefusal) → before ≡ Some bytes → RefusesImage bytes why → ⊥
