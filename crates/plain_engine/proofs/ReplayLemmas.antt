-- The calls answered so far, one more, and all of them.
use Rattle.std.proofs.Common.{◌≡◌, ℕ, ◌+◌, List, [], ◌∷◌, ◌++◌, refl, sym, ap, ◌∙◌, subst}
use Rattle.log_entry.specs.Legal.{Legal, Answers, last_file, last_position_of, file_after, position_after}
use Rattle.log_image.specs.Image.{Shape, shape_by}
use Rattle.log_image.specs.Stands.{StandsBy}
use Rattle.log_entry.specs.declared.shapes.Geometry.{Geometry}
use Rattle.log_entry.specs.declared.calls.Call.{Call}
use Rattle.log_entry.specs.declared.calls.Job.{Job}
use Rattle.log_entry.specs.declared.calls.Reply.{Reply}
use Rattle.log_entry.proofs.HistoryLemmas.{Mirrors, Legal-push, last_file-push, last_position_of-push, AreOfOneSeat, OfTrace-Mirrors, IsInOrder-one_seat}
use Rattle.log_image.specs.Header.{generation_of}
use Rattle.plain_engine.specs.Engine.{shape_in, Running, KeepsFirstBlock}
use Rattle.plain_engine.specs.Serving.{Serves, wanted_blocks, lacking_for, refused_area, written_blocks}
use Rattle.plain_engine.specs.Names.{NamesAfter}
use Rattle.plain_engine.specs.Served.{IsServed, AreServed}
use Rattle.plain_engine.specs.Replaying.{AreNumbered, AreOneSeat, Replays}
use Rattle.plain_engine.specs.declared.engine.PlainEngine.{PlainEngine}
use Rattle.plain_engine.proofs.EngineLemmas.{first_then}

-- these calls are legal from the file and the position of the engine before, and the engine now runs where they end
pub record SoFar (before engine : PlainEngine) (chain file : List ℕ) (calls : List Call) : Type 0 where
  pub geometry : engine.geometry ≡ before.geometry
  pub legal : Legal before.geometry.block_bytes file before.position calls
  pub position : engine.position ≡ last_position_of before.position calls
  pub generation : generation_of engine.words.items ≡ generation_of before.words.items
  pub first_block : KeepsFirstBlock (shape_in before) before.words.items engine.words.items
  pub longer : List ℕ
  pub runs : Running engine longer (last_file file calls)
  pub served : AreServed (shape_in before) before.words.items chain file before.position calls engine.words.items longer

-- no call yet
pub SoFar-none : (engine : PlainEngine) (chain file : List ℕ) (calls : List Call) → calls ≡ [] → Running engine chain file → SoFar engine engine chain file calls
SoFar-none engine chain file calls none runs = subst (λ (l : List Call). SoFar engine engine chain file l) (sym none) (record { geometry = refl; legal = tt; position = refl; generation = refl; first_block = λ place inside. refl; longer = chain; runs = runs; served = (refl, refl) })

-- the record of a job
abbrev pub record_of : Job → ℕ → Reply → Call
record_of job position reply = record { position = position; seat = job.seat; number = job.number; op = job.op; reply = reply }

-- one more call served after others
pub AreServed-push : (shape : Shape) (words chain file : List ℕ) (position : ℕ) (calls : List Call) (last last_chain : List ℕ) (call : Call) (after longer : List ℕ) → AreServed shape words chain file position calls last last_chain →
    IsServed shape last last_chain (last_file file calls) (last_position_of position calls) call after longer → AreServed shape words chain file position (calls ++ call ∷ []) after longer
AreServed-push shape words chain file position [] last last_chain call after longer served step =
    let by_words : IsServed shape words last_chain file position call after longer = subst (λ (l : List ℕ). IsServed shape l last_chain file position call after longer) (sym served.0) step in
    (after, longer, subst (λ (l : List ℕ). IsServed shape words l file position call after longer) (sym served.1) by_words, (refl, refl))
AreServed-push shape words chain file position (first ∷ calls) last last_chain call after longer served step =
    (served.0, served.1, served.2, AreServed-push shape served.0 served.1 (file_after file first.op first.reply) (position_after position first.op first.reply) calls last last_chain call after longer served.3 step)

-- one call of an engine, as a step of its words
step_of : (before engine next : PlainEngine) (file : List ℕ) (calls : List Call) (job : Job) (reply : Reply) (position : ℕ) → engine.geometry ≡ before.geometry → engine.position ≡ last_position_of before.position calls → (longer : List ℕ) →
    (serves : Serves engine next longer (last_file file calls) job.op reply) →
    IsServed (shape_in before) engine.words.items longer (last_file file calls) (last_position_of before.position calls) (record_of job position reply) next.words.items serves.longer
step_of before engine next file calls job reply position geometry at longer serves = record {
  stands = subst (λ (n : ℕ). StandsBy next.words.items serves.longer (file_after (last_file file calls) job.op reply) n) (serves.position ∙ ap (λ (n : ℕ). position_after n job.op reply) at) serves.runs.stands;
  same_shape = serves.runs.fits.same_shape ∙ ap (λ (g : Geometry). shape_by g) (serves.geometry ∙ geometry);
  space = subst (λ (g : Geometry). refused_area reply ≡ lacking_for engine.words.items (shape_by g) longer (wanted_blocks g.block_bytes (last_position_of before.position calls) (last_file file calls) job.op)) geometry
      (subst (λ (n : ℕ). refused_area reply ≡ lacking_for engine.words.items (shape_by engine.geometry) longer (wanted_blocks engine.geometry.block_bytes n (last_file file calls) job.op)) at serves.space);
  names = subst (λ (g : Geometry). NamesAfter (shape_by g) engine.words.items longer (written_blocks g.block_bytes (last_file file calls) job.op reply) next.words.items serves.longer) geometry serves.names;
}

-- one more
pub SoFar-push : (before engine next : PlainEngine) (chain file : List ℕ) (calls : List Call) (job : Job) (reply : Reply) (position : ℕ) → position ≡ next.position → SoFar before engine chain file calls →
    ((chain file : List ℕ) → Running engine chain file → Serves engine next chain file job.op reply) → SoFar before next chain file (calls ++ record_of job position reply ∷ [])
SoFar-push before engine next chain file calls job reply position is far serving =
    let serves : Serves engine next far.longer (last_file file calls) job.op reply = serving far.longer (last_file file calls) far.runs in
    let answers : Answers before.geometry.block_bytes (last_position_of before.position calls) (last_file file calls) job.op reply =
    subst (λ (g : Geometry). Answers g.block_bytes (last_position_of before.position calls) (last_file file calls) job.op reply) far.geometry
    (subst (λ (n : ℕ). Answers engine.geometry.block_bytes n (last_file file calls) job.op reply) far.position serves.answers) in
    let after : next.position ≡ position_after (last_position_of before.position calls) job.op reply = serves.position ∙ ap (λ (n : ℕ). position_after n job.op reply) far.position in
    record {
      geometry = serves.geometry ∙ far.geometry;
      legal = Legal-push before.geometry.block_bytes file before.position calls (record_of job position reply) far.legal answers (is ∙ after);
      position = after ∙ sym (last_position_of-push before.position calls (record_of job position reply));
      generation = serves.generation ∙ far.generation;
      first_block = first_then before.geometry engine.geometry before.words.items engine.words.items next.words.items far.geometry far.first_block serves.first_block;
      longer = serves.longer;
      runs = subst (λ (l : List ℕ). Running next serves.longer l) (sym (last_file-push file calls (record_of job position reply))) serves.runs;
      served = AreServed-push (shape_in before) before.words.items chain file before.position calls engine.words.items far.longer (record_of job position reply) next.words.items serves.longer far.served (step_of before engine next file calls job reply position far.geometry far.position far.longer serves);
    }

-- the calls of one seat's jobs are one seat's
one_seat : (number : ℕ) (jobs : List Job) (calls : List Call) → AreNumbered 0 number jobs → Mirrors calls jobs → AreOfOneSeat 0 number calls
one_seat number [] [] numbered mirrors = tt
one_seat number (job ∷ jobs) (call ∷ calls) numbered mirrors = (mirrors.0 ∙ numbered.0, mirrors.1 ∙ numbered.1, one_seat (number + 1) jobs calls numbered.2 mirrors.3)
one_seat number [] (call ∷ calls) numbered mirrors = absurd mirrors
one_seat number (job ∷ jobs) [] numbered mirrors = absurd mirrors

-- all of them
pub Replays-all : (before engine : PlainEngine) (chain file : List ℕ) (jobs : List Job) (calls : List Call) → AreOneSeat jobs → Mirrors calls jobs → SoFar before engine chain file calls → Replays before engine chain file jobs calls
Replays-all before engine chain file jobs calls numbered mirrors far = record {
  of_trace = OfTrace-Mirrors calls jobs mirrors;
  legal = far.legal;
  in_order = IsInOrder-one_seat before.geometry.block_bytes file before.position 0 1 calls far.legal (one_seat 1 jobs calls numbered mirrors);
  geometry = far.geometry;
  position = far.position;
  generation = far.generation;
  first_block = far.first_block;
  longer = far.longer;
  runs = far.runs;
  served = far.served;
}
