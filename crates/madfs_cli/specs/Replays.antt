-- What a run of a trace's calls makes of an image.
use Rattle.std.specs.Prelude.{ℕ, ◌^◌, ◌≡◌, ◌<◌, ◌≤◌, List, [], ◌∷◌, length, slice_index, Ok}
use Rattle.log_entry.specs.WordBytes.{word_bytes}
use Rattle.log_entry.specs.Legal.{Legal, last_file, last_position_of}
use Rattle.log_entry.specs.OfTrace.{OfTrace}
use Rattle.log_entry.specs.Order.{IsInOrder}
use Rattle.log_entry.specs.declared.calls.Call.{Call}
use Rattle.log_entry.specs.declared.calls.Job.{Job}
use Rattle.log_image.specs.Image.{Shape, words_in}
use Rattle.log_image.specs.Header.{shape_of, generation_of}
use Rattle.log_image.specs.Stands.{StandsBy}
use Rattle.log_image.specs.Tails.{tail_of, IsClear}
use Rattle.log_image.specs.JustMade.{first_log, IsJustMade}
use Rattle.log_image.specs.Laws.{StaysCleared}
use Rattle.madfs_cli.specs.Traces.{ReadsCalls}
use Rattle.history_report.specs.Report.{report_text}
use Rattle.plain_engine.specs.Served.{AreServed}
use Rattle.madfs_cli.specs.Images.{Clears, IsFileAt}

-- the words stand for a file
abbrev pub StandForAFile : List ℕ → Type 0
StandForAFile words = (chain : List ℕ) × (file : List ℕ) × (position : ℕ) × StandsBy words chain file position

-- the words of block 0 past the header's four are the same
abbrev pub KeepsPastHeader : List ℕ → List ℕ → Type 0
KeepsPastHeader old new = (place : ℕ) → 4 ≤ place → place < words_in (shape_of old) → slice_index new place ≡ slice_index old place

-- from words that stand for this file at this position by this chain: the text is the report of the jobs' calls, each once, in one
-- legal history that keeps their order; the words after it stand for the history's last file and position, in the same shape and
-- generation, with nothing after the tail and block 0 past the header as before; and the calls are served in turn, so that one says
-- that there is no space exactly where the run's own image has none, and the blocks that its chain names are those before it, with the
-- least clear ones that the call writes
pub record IsRunOf (words chain file : List ℕ) (position : ℕ) (jobs : List Job) (text after : List ℕ) : Type 0 where
  pub calls : List Call
  pub of_trace : OfTrace calls jobs
  pub legal : Legal (shape_of words).block_bytes file position calls
  pub in_order : IsInOrder calls
  pub text_is : text ≡ report_text calls (last_position_of position calls) (length (last_file file calls))
  pub same_shape : shape_of after ≡ shape_of words
  pub same_generation : generation_of after ≡ generation_of words
  pub longer : List ℕ
  pub stands : StandsBy after longer (last_file file calls) (last_position_of position calls)
  pub clear : IsClear after (shape_of after) (tail_of after (shape_of after) longer)
  pub past_header : KeepsPastHeader words after
  pub served : AreServed (shape_of words) words chain file position calls after longer

-- the text is the report of the trace that these bytes are, run on a just-made image of this shape
pub record IsTryOf (shape : Shape) (trace text : List ℕ) : Type 0 where
  pub words : List ℕ
  pub just_made : IsJustMade shape words
  pub jobs : List Job
  pub read : ReadsCalls trace (Ok jobs)
  pub after : List ℕ
  pub run : IsRunOf words (first_log shape ∷ []) [] 0 jobs text after

-- the first bytes are an image that opens; clearing leaves words of it that stand for the same file; the text is the report of the
-- trace that the second bytes are, run on them; and the last bytes are the image after it, whose words are below 2^64, with block 0
-- past the header as in the first, and which opens again, to the history's last file at its last position
pub record IsReplayOf (image trace text fresh : List ℕ) : Type 0 where
  pub chain : List ℕ
  pub cleared : List ℕ
  pub clears : Clears image chain cleared
  pub file : List ℕ
  pub position : ℕ
  pub stands : StandsBy clears.words chain file position
  pub stays : StaysCleared clears.words cleared chain file position
  pub jobs : List Job
  pub read : ReadsCalls trace (Ok jobs)
  pub after : List ℕ
  pub run : IsRunOf cleared chain file position jobs text after
  pub past_header : KeepsPastHeader clears.words after
  pub small : (place : ℕ) → slice_index after place < 2 ^ 64
  pub fresh_is : fresh ≡ word_bytes after
  pub opens : IsFileAt fresh (last_file file run.calls) (last_position_of position run.calls)
