-- A look whose seat alone makes steps.
use Rattle.std.specs.Prelude.{◌≡◌}
use Rattle.asks.specs.SharedWords.{SharedWords}
use Rattle.pmem_words.specs.Courses.{over}
use Rattle.pmem_words.specs.Leads.{Leads}
use Rattle.pmem_words.specs.PlainWords.{plain}
use Rattle.pmem_words.specs.Seats.{Seat}
use Rattle.log_core.specs.Files.{file_at, end_of}
use Rattle.log_core.specs.Alone.{IsAlone, LeftAlone}
use Rattle.read_validate.specs.declared.query.Query.{Query}
use Rattle.read_validate.specs.declared.query.Seen.{Seen}
use Rattle.read_validate.specs.Looking.{look_of, look_script}
use Rattle.read_validate.specs.LookWithin.{MayLook, HasLooked}
use Rattle.read_validate.specs.LookSees.{IsSeenIn}

-- it has seen the file at its end, and the words of the image and of the bitmap are as before
pub record HasLookedAlone (query : Query) (s : Seat) (p : SharedWords) (at : IsAlone (MayLook query) s p) (out : Seen) (t : Seat) (q : SharedWords) : Type 0 where
  pub left : LeftAlone (MayLook query) (HasLooked query) s p at out t q
  pub position : out.position ≡ end_of at.origin at.core.history
  pub seen : IsSeenIn query (file_at at.origin at.core.history (end_of at.origin at.core.history)) out t
  pub words : q.words ≡ p.words
  pub taken : q.taken ≡ p.taken

abbrev pub LooksAlone : Type 0
LooksAlone = (query : Query) (s : Seat) (p : SharedWords) (at : IsAlone (MayLook query) s p) → Leads look_script (over look_script plain) (HasLookedAlone query s p at) (look_of query) s p
