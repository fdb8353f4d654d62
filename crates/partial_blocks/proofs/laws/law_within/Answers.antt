use Rattle.partial_blocks.proofs.ReadBaseServes.{reads_base_within}
use Rattle.partial_blocks.proofs.ReadBasesServes.{reads_bases_within}
use Rattle.partial_blocks.proofs.laws.law_within.Goals as goal

pub returns-clause-reads_base : goal.returns-clause-reads_base
returns-clause-reads_base c = reads_base_within

pub returns-clause-reads_bases : goal.returns-clause-reads_bases
returns-clause-reads_bases c = reads_bases_within
