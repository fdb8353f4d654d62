-- What stays along a run: an earlier moment of it is a run, its writes are among the later ones, and the first generation is the start's.
use Rattle.std.proofs.Common.{◌≡◌, ◌<◌, ◌≤◌, ℕ, Bool, true, false, List, [], ◌∷◌, ◌++◌, length, refl, ◌∙◌, arith, length-append}
use Rattle.persistence.specs.Memory.{found}
use Rattle.log_core.specs.Origin.{Origin, q_of_origin, Generation, start_generation, LogBlock}
use Rattle.log_core.specs.Files.{Write}
use Rattle.log_core.specs.Cores.{Core}
use Rattle.log_core.specs.Steps.{Note, Step, Does, Splits, Joins, Kind, LoadsHead, StoresOwnPin, LoadsPinWord, LoadsImageWord, LoadsBitmapWord, SetsBits, ClearsBits, StoresWord, ExchangesSlot, ExchangesLink, ExchangesHead, MarksWord, Fences, NoKind, kind_of_ask}
use Rattle.log_core.specs.After.{after, history_if, history_after, generations_if, generations_after}
use Rattle.log_core.specs.Order.{nth_generation}
use Rattle.log_core.specs.Runs.{IsRun, end}

pub earlier_run : (o : Origin) (later earlier : List Step) → IsRun o (later ++ earlier) → IsRun o earlier
earlier_run o [] earlier run = run
earlier_run o (step ∷ later) earlier run = earlier_run o later earlier run.0

-- no step takes back a write
longer_if : (won : Bool) (history : List Write) (w : Write) → length history ≤ length (history_if won history w)
longer_if true history w = (let long = length-append history (w ∷ []) in omega (arith, long))
longer_if false history w = omega arith

longer_by : (history : List Write) (seat : ℕ) (note : Note) (kind : Kind) (f : ℕ) → length history ≤ length (history_after history seat note kind f)
longer_by history seat note (ExchangesSlot word entry) f = longer_if _ history _
longer_by history seat note LoadsHead f = omega arith
longer_by history seat note (StoresOwnPin value) f = omega arith
longer_by history seat note (LoadsPinWord other) f = omega arith
longer_by history seat note (LoadsImageWord word) f = omega arith
longer_by history seat note (LoadsBitmapWord word) f = omega arith
longer_by history seat note (SetsBits word bits) f = omega arith
longer_by history seat note (ClearsBits word bits) f = omega arith
longer_by history seat note (StoresWord word value) f = omega arith
longer_by history seat note (ExchangesLink word block) f = omega arith
longer_by history seat note (ExchangesHead before next) f = omega arith
longer_by history seat note (MarksWord word) f = omega arith
longer_by history seat note Fences f = omega arith
longer_by history seat note NoKind f = omega arith

longer : (o : Origin) (c : Core) (step : Step) → length c.history ≤ length (after o c step).history
longer o c (Does seat ask note) = longer_by c.history seat note (kind_of_ask (q_of_origin o) seat ask) (found c.memory ask)
longer o c (Splits seat) = omega arith
longer o c (Joins seat other) = omega arith

pub history_grows : (o : Origin) (later earlier : List Step) → length (end o earlier).history ≤ length (end o (later ++ earlier)).history
history_grows o [] earlier = omega arith
history_grows o (step ∷ later) earlier = (let rest = history_grows o later earlier in let one = longer o (end o (later ++ earlier)) step in omega (arith, rest, one))

-- the generations have a first one, which stays
pub record SameFirst (before after : List Generation) : Type 0 where
  pub some : 0 < length after
  pub same : nth_generation after 0 ≡ nth_generation before 0

first_if : (won : Bool) (generations : List Generation) (g : Generation) → 0 < length generations → SameFirst generations (generations_if won generations g)
first_if won [] g some = absurd (omega (arith, some))
first_if true (old ∷ generations) g some = record { some = omega arith; same = refl }
first_if false (old ∷ generations) g some = record { some = some; same = refl }

first_by : (generations : List Generation) (logs : List LogBlock) (note : Note) (kind : Kind) (f : ℕ) → 0 < length generations → SameFirst generations (generations_after generations logs note kind f)
first_by generations logs note (ExchangesHead before next) f some = first_if _ generations _ some
first_by generations logs note LoadsHead f some = record { some = some; same = refl }
first_by generations logs note (StoresOwnPin value) f some = record { some = some; same = refl }
first_by generations logs note (LoadsPinWord other) f some = record { some = some; same = refl }
first_by generations logs note (LoadsImageWord word) f some = record { some = some; same = refl }
first_by generations logs note (LoadsBitmapWord word) f some = record { some = some; same = refl }
first_by generations logs note (SetsBits word bits) f some = record { some = some; same = refl }
first_by generations logs note (ClearsBits word bits) f some = record { some = some; same = refl }
first_by generations logs note (StoresWord word value) f some = record { some = some; same = refl }
first_by generations logs note (ExchangesSlot word entry) f some = record { some = some; same = refl }
first_by generations logs note (ExchangesLink word block) f some = record { some = some; same = refl }
first_by generations logs note (MarksWord word) f some = record { some = some; same = refl }
first_by generations logs note Fences f some = record { some = some; same = refl }
first_by generations logs note NoKind f some = record { some = some; same = refl }

first_after : (o : Origin) (c : Core) (step : Step) → 0 < length c.generations → SameFirst c.generations (after o c step).generations
first_after o c (Does seat ask note) some = first_by c.generations c.logs note (kind_of_ask (q_of_origin o) seat ask) (found c.memory ask) some
first_after o c (Splits seat) some = record { some = some; same = refl }
first_after o c (Joins seat other) some = record { some = some; same = refl }

pub first_stays : (o : Origin) (steps : List Step) → SameFirst (start_generation o ∷ []) (end o steps).generations
first_stays o [] = record { some = omega arith; same = refl }
first_stays o (step ∷ steps) = (let before = first_stays o steps in let next = first_after o (end o steps) step before.some in record { some = next.some; same = next.same ∙ before.same })
