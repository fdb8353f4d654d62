-- Calls that are served one after another: what each makes of the words and of the blocks that their chain names, and that one says
-- that there is no space exactly where there is none.
use Rattle.std.specs.Prelude.{ℕ, ◌≡◌, List, [], ◌∷◌}
use Rattle.log_entry.specs.Legal.{file_after, position_after}
use Rattle.log_entry.specs.declared.calls.Call.{Call}
use Rattle.log_image.specs.Image.{Shape}
use Rattle.log_image.specs.Header.{shape_of}
use Rattle.log_image.specs.Stands.{StandsBy}
use Rattle.plain_engine.specs.Names.{NamesAfter}
use Rattle.plain_engine.specs.Serving.{wanted_blocks, lacking_for, refused_area, written_blocks}

-- a call on words that stand for a file at a position by a chain: the words after it stand for the file after it, by a chain, in the
-- same shape; its reply says that an area has no space exactly where the blocks that it wants find none by the words before it; and
-- the chain, its tail and the blocks that it names are those before it, with the least clear blocks that the call writes
pub record IsServed (shape : Shape) (words chain file : List ℕ) (position : ℕ) (call : Call) (after longer : List ℕ) : Type 0 where
  pub stands : StandsBy after longer (file_after file call.op call.reply) (position_after position call.op call.reply)
  pub same_shape : shape_of after ≡ shape
  pub space : refused_area call.reply ≡ lacking_for words shape chain (wanted_blocks shape.block_bytes position file call.op)
  pub names : NamesAfter shape words chain (written_blocks shape.block_bytes file call.op call.reply) after longer

-- calls from such words on, the first call first, to the words and the chain at the end
abbrev pub AreServed : Shape → List ℕ → List ℕ → List ℕ → ℕ → List Call → List ℕ → List ℕ → Type 0
AreServed shape words chain file position [] last last_chain = (words ≡ last) × (chain ≡ last_chain)
AreServed shape words chain file position (call ∷ calls) last last_chain =
    (after : List ℕ) × (longer : List ℕ) × IsServed shape words chain file position call after longer
    × AreServed shape after longer (file_after file call.op call.reply) (position_after position call.op call.reply) calls last last_chain
