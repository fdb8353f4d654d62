-- A read of bases does what the read of each does.
use Rattle.std.proofs.Common.{ℕ, refl}
use Rattle.pmem_words.specs.Parts.{Embeds}
use Rattle.partial_blocks.specs.ReadingBase.{read_base_script}
use Rattle.partial_blocks.specs.ReadingBases.{reading, bases_next, read_bases_script}

pub at_base : (offset : ℕ) → Embeds read_base_script read_bases_script (λ n. reading offset n) (λ out t. bases_next offset t)
at_base offset = record { asks = λ m s. refl; after = λ m s a. refl }
