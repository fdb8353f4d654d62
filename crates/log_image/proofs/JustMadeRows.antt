-- A just-made image stands for the empty file.
use Rattle.std.proofs.Common.{ℕ, List, [], ◌∷◌, refl, arith}
use Rattle.log_image.specs.Image.{Shape}
use Rattle.log_image.specs.Header.{shape_of}
use Rattle.log_image.specs.Stands.{HoldsFile, StandsBy, Stands}
use Rattle.log_image.specs.Rows.{two_blocks}

-- no entries hold the empty file
pub holds_nothing : (words : List ℕ) (shape : Shape) → HoldsFile words shape [] []
holds_nothing words shape = record { mapped = λ virt block is. cc; unmapped = λ virt is at inside. refl }

pub just_made_by : StandsBy two_blocks (3 ∷ []) [] 0
just_made_by = record {
  header = record { magic = refl; version = refl; unnamed = refl; allowed = refl; whole = refl; head_unnamed = refl; generation = omega arith };
  stands = record {
    is_chain = record { linked = (refl, refl); different = refl; snapshots = tt; logs = (refl, refl, tt) };
    format = record { areas = refl; kinds = refl; snapshots = refl; logs = refl; named_once = refl; below_limit = omega arith };
    ends_at = refl;
    ends_with = refl;
    holds = holds_nothing two_blocks (shape_of two_blocks);
  };
}

pub just_made : Stands two_blocks [] 0
just_made = (3 ∷ [], just_made_by)
