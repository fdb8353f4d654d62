-- Two runs of the same calls: what each finds lacking is told by the chain, its tail and the taken blocks at the start.
use Rattle.std.specs.Prelude.{ℕ, ◌≡◌, ◌<◌, List, map, Option}
use Rattle.log_entry.specs.Legal.{Legal}
use Rattle.log_entry.specs.declared.calls.Call.{Call}
use Rattle.log_entry.specs.declared.calls.Op.{Op}
use Rattle.log_entry.specs.declared.shapes.Area.{Area}
use Rattle.log_image.specs.Image.{Shape, total}
use Rattle.log_image.specs.Tails.{tail_of}
use Rattle.log_image.specs.Taken.{is_taken}
use Rattle.plain_engine.specs.Serving.{refused_area}
use Rattle.plain_engine.specs.Served.{AreServed}

-- the two chains are the same, with the same tail, and the same blocks of the image are taken
pub record NameAlike (shape : Shape) (words chain other other_chain : List ℕ) : Type 0 where
  pub chain_is : other_chain ≡ chain
  pub tail : tail_of other shape other_chain ≡ tail_of words shape chain
  pub taken : (block : ℕ) → block < total shape → is_taken other shape other_chain block ≡ is_taken words shape chain block

-- what the calls ask
abbrev pub ops_of : List Call → List Op
ops_of calls = map (λ (call : Call). call.op) calls

-- the area in which each says that there is no space, if it says so
abbrev pub refused_areas : List Call → List (Option Area)
refused_areas calls = map (λ (call : Call). refused_area call.reply) calls

-- of two runs that ask the same of the same file at the same position, by chains that name alike, each call of the one says what
-- that of the other says of space, and the chains name alike at the end
abbrev pub RunsLackAlike : Type 0
RunsLackAlike = (shape : Shape) (words chain other other_chain file : List ℕ) (position : ℕ) (calls others : List Call) (last last_chain other_last other_last_chain : List ℕ) →
    NameAlike shape words chain other other_chain → ops_of others ≡ ops_of calls → Legal shape.block_bytes file position calls → Legal shape.block_bytes file position others →
    AreServed shape words chain file position calls last last_chain → AreServed shape other other_chain file position others other_last other_last_chain →
    (refused_areas others ≡ refused_areas calls) × NameAlike shape last last_chain other_last other_last_chain
