use Rattle.std.proofs.Common.{ℕ, List, sym, subst}
use Rattle.log_entry.specs.Geometry.{HasShape}
use Rattle.log_image.specs.Header.{shape_of}
use Rattle.chain_reader.proofs.TestLemmas.{collected_stands}
use Rattle.chain_reader.proofs.tests.read_collected.Goals as goal

pub read_chain-requires-clause-stands : goal.read_chain-requires-clause-stands
read_chain-requires-clause-stands c = collected_stands c.args.words.now c.requires.words

pub read_chain-requires-clause-geometry : goal.read_chain-requires-clause-geometry
read_chain-requires-clause-geometry c =
    subst (λ (l : List ℕ). HasShape c.args.geometry (shape_of l).data_blocks (shape_of l).log_blocks (shape_of l).block_bytes) (sym c.requires.words) c.requires.shape
