-- What opening answers.
use Rattle.std.specs.Prelude.{ℕ, ◌*◌, ◌≡◌, List, length, Result, Ok, Err}
use Rattle.opening_rules.specs.Opening.{Refuses, Accepts, RefusesBytes, AcceptsBytes}
use Rattle.recovery.specs.declared.refusals.OpenRefusal.{OpenRefusal}
use Rattle.recovery.specs.declared.refusals.OpenRefusal.TheVariants.{Bad, NoMemory}
use Rattle.recovery.specs.declared.opened.Opened.{Opened}

-- an opened image has these words, of which no condition holds; a refusal is that of the first condition that holds
abbrev pub OpensWords : Result Opened OpenRefusal → List ℕ → Type 0
OpensWords (Ok opened) words = (opened.words.items ≡ words) × ((rest : List ℕ) × Accepts (8 * length words) words rest)
OpensWords (Err (Bad why)) words = Refuses (8 * length words) words why
OpensWords (Err NoMemory) words = Unit {0}

-- the same of an image's bytes
abbrev pub OpensBytes : Result Opened OpenRefusal → List ℕ → Type 0
OpensBytes (Ok opened) bytes = (rest : List ℕ) × AcceptsBytes bytes opened.words.items rest
OpensBytes (Err (Bad why)) bytes = RefusesBytes bytes why
OpensBytes (Err NoMemory) bytes = Unit {0}
