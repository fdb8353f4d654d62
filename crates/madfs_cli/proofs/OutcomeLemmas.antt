-- What the making of an output and the writing of it say of how a command ends.
use Rattle.std.proofs.Common.{◌≡◌, ◌<◌, ℕ, Bool, true, false, List, [], length, Option, Some, Result, None, Ok, Err, IfOk, OnOk, refl, sym, ap, ◌∙◌, inl, inr, ◌⊎◌, arith}
use Rattle.std.proofs.lemmas.List.{append-nil}
use Rattle.io_ends.specs.Faults.{Rose}
use Rattle.io_ends.specs.Giving.{Gives}
use Rattle.log_entry.specs.declared.calls.Job.{Job}
use Rattle.madfs_cli.specs.Traces.{ReadsCalls}
use Rattle.trace_reader.specs.declared.refusals.BadTrace.{BadTrace as TraceRefusal}
use Rattle.opening_rules.specs.declared.refusals.BadImage.{BadImage as ImageRefusal}
use Rattle.madfs_cli.specs.Inputs.{IsNotRead, IsNotOpened}
use Rattle.madfs_cli.specs.Commands.{Request, ReplayTrace, ShowFile, writes_image}
use Rattle.log_image.specs.Image.{Shape}
use Rattle.log_image.specs.Laws.{StandForOne}
use Rattle.madfs_cli.specs.Images.{RefusesImage, OpensTo}
use Rattle.madfs_cli.specs.Replays.{IsTryOf, StandForAFile}
use Rattle.madfs_cli.specs.Outcomes.{TakenFrom, GivenTo, Seen, IsOutputOf, WriteFailed, WritesNone, Ends, ImageRefused, TraceRefused, IsOutcome, IsNotMade, OutputEnds}
use Rattle.madfs_cli.specs.declared.outputs.Output.{Output}
use Rattle.madfs_cli.specs.declared.statuses.Status.{Status}
use Rattle.madfs_cli.specs.declared.statuses.Status.TheVariants.{Done, Usage, BadImage, BadTrace, ReadFault, WriteFault, NoMemory}
use Rattle.madfs_cli.proofs.ImageLemmas.{one_image_refusal, file_shown}

-- bytes that are a trace are not refused
trace_not_both : (bytes : List ℕ) (jobs : List Job) (why : TraceRefusal) → ReadsCalls bytes (Ok jobs) → ReadsCalls bytes (Err why) → ⊥
trace_not_both bytes jobs why read refused = cc (sym read ∙ refused)

-- there is one refusal of a trace
one_trace_refusal : (bytes : List ℕ) (why other : TraceRefusal) → ReadsCalls bytes (Err why) → ReadsCalls bytes (Err other) → why ≡ other
one_trace_refusal bytes why other refused again = let same : ◌≡◌ {A = Result (List Job) TraceRefusal} (Err why) (Err other) = sym refused ∙ again in cc

-- where there is an image to write, the command writes one
some_image : (writes : Bool) (image : List ℕ) → (writes ≡ false → image ≡ []) → 0 < length image → writes ≡ true
some_image true image none some = refl
some_image false image none some = let empty : length image ≡ 0 = ap length (none refl) in absurd (omega (arith, empty, some))

-- how the write of an output ends
output_ends : (request : Request) (seen : Seen) (text image : List ℕ) (status : Status) → IsOutputOf request seen.image seen.trace text image → (writes_image request ≡ false → image ≡ []) → OutputEnds seen.report seen.fresh text image status → Ends request seen status
output_ends request seen text image Done output none ends = record { text = text; image = image; output = output; report_given = ends.0; image_given = ends.1 }
output_ends request seen text image WriteFault output none ends = (failed ends.0, record { text = text; image = image; output = output; part = ends.1 })
  where
    failed : ((Rose seen.report.faults_before seen.report.faults_after × (seen.fresh.given_after ≡ seen.fresh.given_before)) ⊎ ((0 < length image) × Rose seen.fresh.faults_before seen.fresh.faults_after)) → WriteFailed request seen.report seen.fresh
    failed (inl report) = inl report
    failed (inr fresh) = inr (some_image (writes_image request) image none fresh.0, fresh.1)
output_ends request seen text image NoMemory output none ends = inr (record { text = text; image = image; output = output; part = ends })
output_ends request seen text image Usage output none ends = absurd ends
output_ends request seen text image (BadImage why) output none ends = absurd ends
output_ends request seen text image (BadTrace why) output none ends = absurd ends
output_ends request seen text image ReadFault output none ends = absurd ends

-- an output was made, and its write ends so
pub made_outcome : (request : Request) (seen : Seen) (text image : List ℕ) (status : Status) → IsOutputOf request seen.image seen.trace text image → (writes_image request ≡ false → image ≡ []) →
    ((why : ImageRefusal) → ImageRefused request seen.image why → ⊥) → ((why : TraceRefusal) → TraceRefused request seen.trace why → ⊥) → OutputEnds seen.report seen.fresh text image status → IsOutcome request seen status
made_outcome request seen text image status output none image_good trace_good ends = record {
  ends = output_ends request seen text image status output none ends;
  bad_image_comes = λ why refused. absurd (image_good why refused);
  bad_trace_comes = λ why refused. absurd (trace_good why refused);
  complete = λ good no_read no_write. by status (output_ends request seen text image status output none ends) no_write ends;
}
  where
    by : (status : Status) → Ends request seen status → (WriteFailed request seen.report seen.fresh → ⊥) → OutputEnds seen.report seen.fresh text image status → (status ≡ Done) ⊎ (status ≡ NoMemory)
    by Done ended no_write ends = inl refl
    by WriteFault ended no_write ends = absurd (no_write ended.0)
    by NoMemory ended no_write ends = inr refl
    by Usage ended no_write ends = absurd ends
    by (BadImage why) ended no_write ends = absurd ends
    by (BadTrace why) ended no_write ends = absurd ends
    by ReadFault ended no_write ends = absurd ends

-- no output was made, for this
pub not_made_outcome : (request : Request) (seen : Seen) (status : Status) → IsNotMade request seen.image seen.trace status → WritesNone seen → IsOutcome request seen status
not_made_outcome request seen Done not_made none = absurd not_made
not_made_outcome request seen Usage not_made none = absurd not_made
not_made_outcome request seen WriteFault not_made none = absurd not_made
not_made_outcome request seen (BadImage why) not_made none = record {
  ends = not_made;
  bad_image_comes = λ other refused. inl (ap BadImage (one_image_refusal refused.bytes why other (not_made.1 refused.bytes refused.left) refused.refused));
  bad_trace_comes = λ other refused. inr (inl (why, refl));
  complete = λ good no_read no_write. let bytes = good.image_bytes not_made.0 in absurd (good.image_good why (record { reads = not_made.0; bytes = bytes.0; left = bytes.1; refused = not_made.1 bytes.0 bytes.1 }));
}
not_made_outcome request seen (BadTrace why) not_made none = record {
  ends = (not_made.0, not_made.1);
  bad_image_comes = λ other refused. absurd (not_made.2 other refused);
  bad_trace_comes = λ other refused. inl (ap BadTrace (one_trace_refusal refused.bytes why other (not_made.1 refused.bytes refused.left) refused.refused));
  complete = λ good no_read no_write. let bytes = good.trace_bytes not_made.0 in absurd (good.trace_good why (record { reads = not_made.0; bytes = bytes.0; left = bytes.1; refused = not_made.1 bytes.0 bytes.1 }));
}
not_made_outcome request seen ReadFault not_made none = record {
  ends = not_made;
  bad_image_comes = λ other refused. inr (inl refl);
  bad_trace_comes = λ other refused. inr (inr (inl refl));
  complete = λ good no_read no_write. absurd (no_read not_made);
}
not_made_outcome request seen NoMemory not_made none = record {
  ends = inl none;
  bad_image_comes = λ other refused. inr (inr refl);
  bad_trace_comes = λ other refused. inr (inr (inr refl));
  complete = λ good no_read no_write. inr refl;
}

-- a trace that was read is not refused
pub trace_read : (request : Request) (trace : TakenFrom) (why : TraceRefusal) → ((bytes : List ℕ) → trace.left ≡ Some bytes → (jobs : List Job) × ReadsCalls bytes (Ok jobs)) → TraceRefused request trace why → ⊥
trace_read request trace why read refused =
    let known = read refused.bytes refused.left in
    trace_not_both refused.bytes known.0 why known.1 refused.refused

-- the same of an output that was made
pub trace_good : (request : Request) (trace : TakenFrom) (result : Result Output Status) → OnOk result ((bytes : List ℕ) → trace.left ≡ Some bytes → (jobs : List Job) × ReadsCalls bytes (Ok jobs)) →
    OnOk result ((why : TraceRefusal) → TraceRefused request trace why → ⊥)
trace_good request trace (Ok output) read = λ why refused. trace_read request trace why read refused
trace_good request trace (Err status) read = tt

-- what a run on a just-made image, and on an image, says of the reading of its trace
pub try_reads : (shape : Shape) (left : Option (List ℕ)) (result : Result Output Status) → IfOk result (λ output. (bytes : List ℕ) → left ≡ Some bytes → IsTryOf shape bytes output.text.items) →
    OnOk result ((bytes : List ℕ) → left ≡ Some bytes → (jobs : List Job) × ReadsCalls bytes (Ok jobs))
try_reads shape left (Ok output) report = λ bytes known. ((report bytes known).jobs, (report bytes known).read)
try_reads shape left (Err status) report = tt

pub image_good : (request : Request) (image : TakenFrom) (result : Result Output Status) → OnOk result ((bytes : List ℕ) (why : ImageRefusal) → image.left ≡ Some bytes → RefusesImage bytes why → ⊥) →
    OnOk result ((why : ImageRefusal) → ImageRefused request image why → ⊥)
image_good request image (Ok output) accepted = λ why refused. accepted refused.bytes why refused.left refused.refused
image_good request image (Err status) accepted = tt

-- no trace was read, after an image that opened
pub jobs_not_made : (image trace : TakenFrom) (status : Status) → IsNotRead trace.left trace.faults_before trace.faults_after status → ((why : ImageRefusal) → ImageRefused ReplayTrace image why → ⊥) → IsNotMade ReplayTrace image trace status
jobs_not_made image trace (BadTrace why) not_read good = (refl, not_read, good)
jobs_not_made image trace ReadFault not_read good = inr (refl, not_read)
jobs_not_made image trace NoMemory not_read good = tt
jobs_not_made image trace Done not_read good = absurd not_read
jobs_not_made image trace Usage not_read good = absurd not_read
jobs_not_made image trace (BadImage why) not_read good = absurd not_read
jobs_not_made image trace WriteFault not_read good = absurd not_read

-- no image was opened to show its file
pub image_not_made : (image trace : TakenFrom) (status : Status) → IsNotOpened image.left image.faults_before image.faults_after status → IsNotMade ShowFile image trace status
image_not_made image trace (BadImage why) not_opened = (refl, not_opened)
image_not_made image trace ReadFault not_opened = inl (refl, not_opened)
image_not_made image trace NoMemory not_opened = tt
image_not_made image trace Done not_opened = absurd not_opened
image_not_made image trace Usage not_opened = absurd not_opened
image_not_made image trace (BadTrace why) not_opened = absurd not_opened
image_not_made image trace WriteFault not_opened = absurd not_opened

-- where nothing changed, nothing was given
pub nothing_given : (before after : Option (List ℕ)) → after ≡ before → Gives before after []
nothing_given None after same = same
nothing_given (Some written) after same = same ∙ ap Some (sym (append-nil written))

-- the file of what clearing leaves was written, and the write ended so
pub file_outcome : StandForOne → (image trace : TakenFrom) (report fresh : GivenTo) (cleared : List ℕ) (status : Status) (stands : StandForAFile cleared) → ((bytes : List ℕ) → image.left ≡ Some bytes → OpensTo bytes cleared) →
    ((bytes : List ℕ) (why : ImageRefusal) → image.left ≡ Some bytes → RefusesImage bytes why → ⊥) → OutputEnds report fresh stands.1 [] status → IsOutcome ShowFile (record { image = image; trace = trace; report = report; fresh = fresh }) status
file_outcome one image trace report fresh cleared status stands opened accepted ends =
    made_outcome ShowFile (record { image = image; trace = trace; report = report; fresh = fresh }) stands.1 [] status
    (λ bytes text has_image has_trace. (file_shown bytes cleared stands.1 (opened bytes has_image) (λ chain file position also. (one cleared stands.0 chain stands.1 file stands.2 position stands.3 also).1), refl))
    (λ writes. refl) (λ why refused. accepted refused.bytes why refused.left refused.refused) (λ why refused. no_trace refused.reads) ends
  where
    no_trace : false ≡ true → ⊥
    no_trace same = cc
