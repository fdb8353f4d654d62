-- Which blocks are of a run, or of several runs by their words.
use Rattle.std.specs.Prelude.{ℕ, ◌-◌, ◌&&◌, ◌||◌, nat_le, nat_lt, Bool, List, [], ◌∷◌}
use Rattle.log_entry.specs.Fields.{field}
use Rattle.log_entry.specs.declared.layouts.TheConstants.{RUN_BLOCK, RUN_COUNT}
use Rattle.pmem_words.specs.declared.keeps.KeptWord.{KeptWord}

-- a block is one of so many from the first on
abbrev pub is_in_run : ℕ → ℕ → ℕ → Bool
is_in_run first count block = nat_le first block && nat_lt (block - first) count

-- or it is of a run that one of these words says
abbrev pub is_in_runs : ℕ → ℕ → List KeptWord → ℕ → Bool
is_in_runs first count [] block = is_in_run first count block
is_in_runs first count (run ∷ runs) block = is_in_run (field RUN_BLOCK run.word) (field RUN_COUNT run.word) block || is_in_runs first count runs block
