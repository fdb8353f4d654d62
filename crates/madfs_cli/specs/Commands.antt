-- Which lists of words are a command, and what each command reads and writes.
use Rattle.std.specs.Prelude.{ℕ, ◌^◌, ◌≡◌, ◌<◌, ◌≤◌, Bool, true, false, List, [], ◌∷◌, Some, None, codes}
use Rattle.std.specs.List.{slice_get}
use Rattle.log_entry.specs.Text.{number_of}
use Rattle.log_entry.specs.Geometry.{shape_refusal}
use Rattle.log_image.specs.Image.{Shape, shape_by}
use Rattle.madfs_cli.specs.declared.commands.Command.{Command}
use Rattle.madfs_cli.specs.declared.commands.Command.TheVariants.{Make, Cat}
use Rattle.madfs_cli.specs.declared.commands.Making.{Making}
use Rattle.madfs_cli.specs.declared.commands.Making.TheVariants.{Mkfs, Try, Replay, Dump, Generate}

-- what a command asks: a new image of a shape; the run of a trace on a just-made image of a shape, or on an image; the file of
-- an image; the text of an image; a trace from a number
pub data Request : Type 0 where
  MakeImage : (shape : Shape) → Request
  TryTrace : (shape : Shape) → Request
  ReplayTrace : Request
  ShowFile : Request
  ShowImage : Request
  MakeTrace : (number seats calls : ℕ) → Request

-- three words are the numbers of a shape that an image may have
pub record SayShape (data_word log_word bytes_word : List ℕ) (shape : Shape) : Type 0 where
  pub data_is : number_of data_word ≡ Some shape.data_blocks
  pub log_is : number_of log_word ≡ Some shape.log_blocks
  pub bytes_are : number_of bytes_word ≡ Some shape.block_bytes
  pub shaped : shape_refusal shape.data_blocks shape.log_blocks shape.block_bytes ≡ None

-- the second, third and fourth word are these numbers
pub record SaysShapeAt (words : List (List ℕ)) (shape : Shape) : Type 0 where
  pub data_word : List ℕ
  pub log_word : List ℕ
  pub bytes_word : List ℕ
  pub data_at : slice_get words 1 ≡ Some data_word
  pub log_at : slice_get words 2 ≡ Some log_word
  pub bytes_at : slice_get words 3 ≡ Some bytes_word
  pub shape_is : SayShape data_word log_word bytes_word shape

-- the words are `mkfs`, the blocks of the data and the log area, and the bytes of a block
pub record IsMkfs (words : List (List ℕ)) (shape : Shape) : Type 0 where
  pub data_word : List ℕ
  pub log_word : List ℕ
  pub bytes_word : List ℕ
  pub words_are : words ≡ codes "mkfs" ∷ data_word ∷ log_word ∷ bytes_word ∷ []
  pub shape_is : SayShape data_word log_word bytes_word shape

-- the words are `try`, the same numbers, and one seat
pub record IsTry (words : List (List ℕ)) (shape : Shape) : Type 0 where
  pub data_word : List ℕ
  pub log_word : List ℕ
  pub bytes_word : List ℕ
  pub seats_word : List ℕ
  pub words_are : words ≡ codes "try" ∷ data_word ∷ log_word ∷ bytes_word ∷ seats_word ∷ []
  pub shape_is : SayShape data_word log_word bytes_word shape
  pub one_seat : number_of seats_word ≡ Some 1

-- the words are `replay` and one seat
pub record IsReplay (words : List (List ℕ)) : Type 0 where
  pub seats_word : List ℕ
  pub words_are : words ≡ codes "replay" ∷ seats_word ∷ []
  pub one_seat : number_of seats_word ≡ Some 1

-- the numbers are those of work that may be asked: at most 20,000 calls of 1 to 16 seats
pub record IsWork (number seats calls : ℕ) : Type 0 where
  pub small : number < 2 ^ 32
  pub some_seats : 1 ≤ seats
  pub few_seats : seats ≤ 16
  pub few_calls : calls ≤ 20000

-- three words are the numbers of work that may be asked
pub record SayWork (number_word seats_word calls_word : List ℕ) (number seats calls : ℕ) : Type 0 where
  pub number_is : number_of number_word ≡ Some number
  pub seats_are : number_of seats_word ≡ Some seats
  pub calls_are : number_of calls_word ≡ Some calls
  pub allowed : IsWork number seats calls

-- the second, third and fourth word are these numbers
pub record SaysWorkAt (words : List (List ℕ)) (number seats calls : ℕ) : Type 0 where
  pub number_word : List ℕ
  pub seats_word : List ℕ
  pub calls_word : List ℕ
  pub number_at : slice_get words 1 ≡ Some number_word
  pub seats_at : slice_get words 2 ≡ Some seats_word
  pub calls_at : slice_get words 3 ≡ Some calls_word
  pub work_is : SayWork number_word seats_word calls_word number seats calls

-- the words are `generate`, a number, the seats and the calls
pub record IsGenerate (words : List (List ℕ)) (number seats calls : ℕ) : Type 0 where
  pub number_word : List ℕ
  pub seats_word : List ℕ
  pub calls_word : List ℕ
  pub words_are : words ≡ codes "generate" ∷ number_word ∷ seats_word ∷ calls_word ∷ []
  pub work_is : SayWork number_word seats_word calls_word number seats calls

-- the words ask this
abbrev pub Asks : List (List ℕ) → Request → Type 0
Asks words (MakeImage shape) = IsMkfs words shape
Asks words (TryTrace shape) = IsTry words shape
Asks words ReplayTrace = IsReplay words
Asks words ShowFile = words ≡ codes "cat" ∷ []
Asks words ShowImage = words ≡ codes "dump" ∷ []
Asks words (MakeTrace number seats calls) = IsGenerate words number seats calls

-- the words are a command
abbrev pub IsCommand : List (List ℕ) → Type 0
IsCommand words = (request : Request) × Asks words request

-- what is asked for whose output is made whole before it is written
abbrev pub made_request : Making → Request
made_request (Mkfs shape) = MakeImage (shape_by shape)
made_request (Try shape) = TryTrace (shape_by shape)
made_request Replay = ReplayTrace
made_request Dump = ShowImage
made_request (Generate work) = MakeTrace work.number work.seats work.calls

-- what a command of the program asks
abbrev pub request_of : Command → Request
request_of (Make making) = made_request making
request_of Cat = ShowFile

-- the words are this command
abbrev pub Says : List (List ℕ) → Command → Type 0
Says words command = Asks words (request_of command)

-- the command reads an image
abbrev pub reads_image : Request → Bool
reads_image (MakeImage shape) = false
reads_image (TryTrace shape) = false
reads_image ReplayTrace = true
reads_image ShowFile = true
reads_image ShowImage = true
reads_image (MakeTrace number seats calls) = false

-- the command reads a trace
abbrev pub reads_trace : Request → Bool
reads_trace (MakeImage shape) = false
reads_trace (TryTrace shape) = true
reads_trace ReplayTrace = true
reads_trace ShowFile = false
reads_trace ShowImage = false
reads_trace (MakeTrace number seats calls) = false

-- the command writes an image
abbrev pub writes_image : Request → Bool
writes_image (MakeImage shape) = true
writes_image (TryTrace shape) = false
writes_image ReplayTrace = true
writes_image ShowFile = false
writes_image ShowImage = false
writes_image (MakeTrace number seats calls) = false
