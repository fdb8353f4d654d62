-- The bytes of one virtual block, and bytes that are given in part.
use Rattle.std.specs.Prelude.{ℕ, ◌≡◌, List, ◌++◌, Option, Some, None, replicate}
use Rattle.io_ends.specs.Giving.{Gives}
use Rattle.log_image.specs.Image.{Shape, block_content}

-- the bytes of the physical block that holds it, or zeros where none does
abbrev pub held_bytes : List ℕ → Shape → Option ℕ → List ℕ
held_bytes words shape None = replicate shape.block_bytes 0
held_bytes words shape (Some block) = block_content words shape block

-- a front of these bytes was given, and the rest of them is this
pub record GivesFront (before after : Option (List ℕ)) (rest bytes : List ℕ) : Type 0 where
  pub front : List ℕ
  pub gives : Gives before after front
  pub bytes_are : front ++ rest ≡ bytes
