-- What a command leaves for each way in which it ends.
use Rattle.std.specs.Prelude.{ℕ, ◌≡◌, ◌<◌, ◌⊎◌, Bool, true, false, List, [], length, Option, Some, Err}
use Rattle.io_ends.specs.Faults.{Rose}
use Rattle.io_ends.specs.Giving.{Gives, GivesPrefix}
use Rattle.madfs_cli.specs.Traces.{ReadsCalls}
use Rattle.trace_reader.specs.TraceText.{trace_text}
use Rattle.trace_reader.specs.Generator.{generated}
use Rattle.trace_reader.specs.declared.refusals.BadTrace.{BadTrace as TraceRefusal}
use Rattle.opening_rules.specs.declared.refusals.BadImage.{BadImage as ImageRefusal}
use Rattle.madfs_cli.specs.Commands.{Request, MakeImage, TryTrace, ReplayTrace, ShowFile, ShowImage, MakeTrace, reads_image, reads_trace, writes_image}
use Rattle.madfs_cli.specs.Replays.{IsTryOf, IsReplayOf}
use Rattle.madfs_cli.specs.Images.{RefusesImage, IsFileOf, IsDumpOf, made_text, IsNewImage}
use Rattle.madfs_cli.specs.declared.statuses.Status.{Status}
use Rattle.madfs_cli.specs.declared.statuses.Status.TheVariants.{Done, Usage, BadImage, BadTrace, ReadFault, WriteFault, NoMemory}

-- what a command makes of the bytes of an image and of a trace: a text, and the bytes of an image
abbrev pub IsOutput : Request → List ℕ → List ℕ → List ℕ → List ℕ → Type 0
IsOutput (MakeImage shape) image trace text fresh = (text ≡ made_text shape) × IsNewImage shape fresh
IsOutput (TryTrace shape) image trace text fresh = IsTryOf shape trace text × (fresh ≡ [])
IsOutput ReplayTrace image trace text fresh = IsReplayOf image trace text fresh
IsOutput ShowFile image trace text fresh = IsFileOf image text × (fresh ≡ [])
IsOutput ShowImage image trace text fresh = IsDumpOf image text × (fresh ≡ [])
IsOutput (MakeTrace number seats calls) image trace text fresh = (text ≡ trace_text (generated number seats calls)) × (fresh ≡ [])

-- a source before and after a command: what it had left, where it tells that, and its count of faults
pub record TakenFrom : Type 0 where
  pub left : Option (List ℕ)
  pub faults_before : ℕ
  pub faults_after : ℕ

-- a sink before and after a command: what it was given, where it tells that, and its count of faults
pub record GivenTo : Type 0 where
  pub given_before : Option (List ℕ)
  pub given_after : Option (List ℕ)
  pub faults_before : ℕ
  pub faults_after : ℕ

-- the things that a command may read and write
pub record Seen : Type 0 where
  pub image : TakenFrom
  pub trace : TakenFrom
  pub report : GivenTo
  pub fresh : GivenTo

-- the bytes that a command reads of a source; none of one that it does not read
abbrev pub HasInput : Bool → Option (List ℕ) → List ℕ → Type 0
HasInput true left bytes = left ≡ Some bytes
HasInput false left bytes = bytes ≡ []

-- a text and the bytes of an image are what the command makes of its inputs, where those tell their bytes
abbrev pub IsOutputOf : Request → TakenFrom → TakenFrom → List ℕ → List ℕ → Type 0
IsOutputOf request image_source trace_source text fresh = (image trace : List ℕ) → HasInput (reads_image request) image_source.left image → HasInput (reads_trace request) trace_source.left trace →
    IsOutput request image trace text fresh

-- all of it was written
pub record WritesAll (request : Request) (seen : Seen) : Type 0 where
  pub text : List ℕ
  pub image : List ℕ
  pub output : IsOutputOf request seen.image seen.trace text image
  pub report_given : Gives seen.report.given_before seen.report.given_after text
  pub image_given : Gives seen.fresh.given_before seen.fresh.given_after image

-- the text was written in part, and nothing of the image; or the text whole, and the image in part
abbrev pub IsPart : GivenTo → GivenTo → List ℕ → List ℕ → Type 0
IsPart report fresh text image =
    (GivesPrefix report.given_before report.given_after text × (fresh.given_after ≡ fresh.given_before))
    ⊎ (Gives report.given_before report.given_after text × GivesPrefix fresh.given_before fresh.given_after image)

-- a first part of it was written
pub record WritesPart (request : Request) (seen : Seen) : Type 0 where
  pub text : List ℕ
  pub image : List ℕ
  pub output : IsOutputOf request seen.image seen.trace text image
  pub part : IsPart seen.report seen.fresh text image

-- nothing was written
abbrev pub WritesNone : Seen → Type 0
WritesNone seen = (seen.report.given_after ≡ seen.report.given_before) × (seen.fresh.given_after ≡ seen.fresh.given_before)

-- a read failed of a source that the command reads
abbrev pub ReadFailed : Request → TakenFrom → TakenFrom → Type 0
ReadFailed request image trace =
    ((reads_image request ≡ true) × Rose image.faults_before image.faults_after) ⊎ ((reads_trace request ≡ true) × Rose trace.faults_before trace.faults_after)

-- a write of the report failed, and then nothing of the image was written; or one of the image, where the command writes one
abbrev pub WriteFailed : Request → GivenTo → GivenTo → Type 0
WriteFailed request report fresh =
    (Rose report.faults_before report.faults_after × (fresh.given_after ≡ fresh.given_before)) ⊎ ((writes_image request ≡ true) × Rose fresh.faults_before fresh.faults_after)

-- how a command ends
abbrev pub Ends : Request → Seen → Status → Type 0
Ends request seen Done = WritesAll request seen
Ends request seen (BadImage why) = (reads_image request ≡ true) × ((bytes : List ℕ) → seen.image.left ≡ Some bytes → RefusesImage bytes why)
Ends request seen (BadTrace why) = (reads_trace request ≡ true) × ((bytes : List ℕ) → seen.trace.left ≡ Some bytes → ReadsCalls bytes (Err why))
Ends request seen ReadFault = ReadFailed request seen.image seen.trace
Ends request seen WriteFault = WriteFailed request seen.report seen.fresh × WritesPart request seen
Ends request seen NoMemory = WritesNone seen ⊎ WritesPart request seen
Ends request seen Usage = ⊥

-- the image that the command reads tells its bytes and is refused, for this
pub record ImageRefused (request : Request) (image : TakenFrom) (why : ImageRefusal) : Type 0 where
  pub reads : reads_image request ≡ true
  pub bytes : List ℕ
  pub left : image.left ≡ Some bytes
  pub refused : RefusesImage bytes why

-- the trace that the command reads tells its bytes and is refused, for this
pub record TraceRefused (request : Request) (trace : TakenFrom) (why : TraceRefusal) : Type 0 where
  pub reads : reads_trace request ≡ true
  pub bytes : List ℕ
  pub left : trace.left ≡ Some bytes
  pub refused : ReadsCalls bytes (Err why)

-- the inputs of a command tell their bytes and are not refused
pub record HasGoodInputs (request : Request) (image trace : TakenFrom) : Type 0 where
  pub image_bytes : reads_image request ≡ true → (bytes : List ℕ) × (image.left ≡ Some bytes)
  pub image_good : (why : ImageRefusal) → ImageRefused request image why → ⊥
  pub trace_bytes : reads_trace request ≡ true → (bytes : List ℕ) × (trace.left ≡ Some bytes)
  pub trace_good : (why : TraceRefusal) → TraceRefused request trace why → ⊥

-- what holds of the way in which a command ends: its cause; a refused image or trace ends so, but for a fault or want of memory
-- before; and with inputs that are not refused and no fault it is done, but for want of memory
pub record IsOutcome (request : Request) (seen : Seen) (status : Status) : Type 0 where
  pub ends : Ends request seen status
  pub bad_image_comes : (why : ImageRefusal) → ImageRefused request seen.image why → (status ≡ BadImage why) ⊎ (status ≡ ReadFault) ⊎ (status ≡ NoMemory)
  pub bad_trace_comes : (why : TraceRefusal) → TraceRefused request seen.trace why → (status ≡ BadTrace why) ⊎ ((other : ImageRefusal) × (status ≡ BadImage other)) ⊎ (status ≡ ReadFault) ⊎ (status ≡ NoMemory)
  pub complete : HasGoodInputs request seen.image seen.trace → (ReadFailed request seen.image seen.trace → ⊥) → (WriteFailed request seen.report seen.fresh → ⊥) → (status ≡ Done) ⊎ (status ≡ NoMemory)

-- why there is no output
abbrev pub IsNotMade : Request → TakenFrom → TakenFrom → Status → Type 0
IsNotMade request image trace Done = ⊥
IsNotMade request image trace (BadImage why) = (reads_image request ≡ true) × ((bytes : List ℕ) → image.left ≡ Some bytes → RefusesImage bytes why)
IsNotMade request image trace (BadTrace why) =
    (reads_trace request ≡ true) × ((bytes : List ℕ) → trace.left ≡ Some bytes → ReadsCalls bytes (Err why)) × ((other : ImageRefusal) → ImageRefused request image other → ⊥)
IsNotMade request image trace ReadFault = ReadFailed request image trace
IsNotMade request image trace WriteFault = ⊥
IsNotMade request image trace NoMemory = Unit {0}
IsNotMade request image trace Usage = ⊥

-- how writing a text and the bytes of an image ends
abbrev pub OutputEnds : GivenTo → GivenTo → List ℕ → List ℕ → Status → Type 0
OutputEnds report fresh text image Done = Gives report.given_before report.given_after text × Gives fresh.given_before fresh.given_after image
OutputEnds report fresh text image WriteFault =
    ((Rose report.faults_before report.faults_after × (fresh.given_after ≡ fresh.given_before)) ⊎ ((0 < length image) × Rose fresh.faults_before fresh.faults_after)) × IsPart report fresh text image
OutputEnds report fresh text image NoMemory = IsPart report fresh text image
OutputEnds report fresh text image Usage = ⊥
OutputEnds report fresh text image (BadImage why) = ⊥
OutputEnds report fresh text image (BadTrace why) = ⊥
OutputEnds report fresh text image ReadFault = ⊥
