-- What the calls on an engine say of a run, and of the run on an image that opens.
use Rattle.std.proofs.Common.{◌≡◌, ◌<◌, ◌^◌, ℕ, List, get_or, sym, ap, ◌∙◌, subst, Ok}
use Rattle.log_entry.specs.WordBytes.{word_bytes}
use Rattle.log_entry.specs.Legal.{Legal, last_file, last_position_of}
use Rattle.log_entry.specs.declared.calls.Call.{Call}
use Rattle.log_entry.specs.declared.calls.Job.{Job}
use Rattle.log_entry.specs.declared.shapes.Geometry.{Geometry}
use Rattle.log_entry.specs.Kinds.{HaveKinds}
use Rattle.log_entry.proofs.HistoryLemmas.{HaveKinds-Legal}
use Rattle.log_image.specs.Image.{Shape, words_in, shape_by}
use Rattle.log_image.specs.Header.{shape_of, generation_of}
use Rattle.log_image.specs.Positions.{position_of}
use Rattle.log_image.specs.Stands.{StandsBy}
use Rattle.log_image.specs.Tails.{tail_of, IsClear}
use Rattle.log_image.specs.Laws.{StaysCleared}
use Rattle.madfs_cli.specs.Traces.{ReadsCalls}
use Rattle.history_report.specs.Report.{report_text}
use Rattle.opening_rules.specs.Opening.{chain_of}
use Rattle.opening_rules.proofs.Accepted.{file_of, stands_by}
use Rattle.plain_engine.specs.Engine.{Running}
use Rattle.plain_engine.specs.Served.{AreServed}
use Rattle.plain_engine.specs.Replaying.{Replays}
use Rattle.plain_engine.specs.declared.engine.PlainEngine.{PlainEngine}
use Rattle.madfs_cli.specs.Images.{OpensTo}
use Rattle.madfs_cli.specs.Replays.{IsRunOf, IsReplayOf}
use Rattle.madfs_cli.proofs.ImageLemmas.{clears_stand, file_opens, first_kept}

-- the shape of an engine's words
engine_shape : (words : List ℕ) (engine : PlainEngine) (chain file : List ℕ) → engine.words.items ≡ words → Running engine chain file → shape_of words ≡ shape_by engine.geometry
engine_shape words engine chain file same running = subst (λ (l : List ℕ). shape_of l ≡ shape_by engine.geometry) same running.fits.same_shape

pub run_of : (words : List ℕ) (engine new : PlainEngine) (chain file : List ℕ) (position : ℕ) (jobs : List Job) (calls : List Call) (text : List ℕ) (at size : ℕ) (after : List ℕ) →
    engine.words.items ≡ words → position ≡ engine.position → Running engine chain file → Replays engine new chain file jobs calls →
    text ≡ report_text calls at size → at ≡ new.position → size ≡ new.table.size → after ≡ new.words.items → IsRunOf words chain file position jobs text after
run_of words engine new chain file position jobs calls text at size after same from running replays told at_is size_is after_is =
    let shape : shape_of words ≡ shape_by engine.geometry = engine_shape words engine chain file same running in
    let last : new.position ≡ last_position_of position calls = replays.position ∙ ap (λ (n : ℕ). last_position_of n calls) (sym from) in
    record {
      calls = calls;
      of_trace = replays.of_trace;
      legal = subst (λ (n : ℕ). Legal n file position calls) (sym (ap (λ (s : Shape). s.block_bytes) shape)) (subst (λ (n : ℕ). Legal engine.geometry.block_bytes file n calls) (sym from) replays.legal);
      in_order = replays.in_order;
      text_is = told ∙ ap (λ (n : ℕ). report_text calls n size) (at_is ∙ last) ∙ ap (λ (n : ℕ). report_text calls (last_position_of position calls) n) (size_is ∙ replays.runs.fits.size);
      same_shape = ap shape_of after_is ∙ replays.runs.fits.same_shape ∙ ap (λ (g : Geometry). shape_by g) replays.geometry ∙ sym shape;
      same_generation = ap generation_of after_is ∙ replays.generation ∙ ap generation_of same;
      longer = replays.longer;
      stands = subst (λ (l : List ℕ). StandsBy l replays.longer (last_file file calls) (last_position_of position calls)) (sym after_is) (subst (λ (n : ℕ). StandsBy new.words.items replays.longer (last_file file calls) n) last replays.runs.stands);
      clear = subst (λ (l : List ℕ). IsClear l (shape_of l) (tail_of l (shape_of l) replays.longer)) (sym after_is)
          (subst (λ (s : Shape). IsClear new.words.items s (tail_of new.words.items s replays.longer)) (sym replays.runs.fits.same_shape) replays.runs.fits.clear);
      past_header = λ place past inside. ap (λ (l : List ℕ). get_or l place 0) after_is
          ∙ replays.first_block place (subst (λ (s : Shape). place < words_in s) shape inside) ∙ ap (λ (l : List ℕ). get_or l place 0) same;
      served = subst (λ (s : Shape). AreServed s words chain file position calls after replays.longer) (sym shape)
          (subst (λ (l : List ℕ). AreServed (shape_by engine.geometry) l chain file position calls after replays.longer) same
          (subst (λ (n : ℕ). AreServed (shape_by engine.geometry) engine.words.items chain file n calls after replays.longer) (sym from)
          (subst (λ (l : List ℕ). AreServed (shape_by engine.geometry) engine.words.items chain file engine.position calls l replays.longer) (sym after_is) replays.served)));
    }

-- the calls of a run have replies of their kinds
pub kinds_of : (engine new : PlainEngine) (chain file : List ℕ) (jobs : List Job) (calls shown : List Call) → Replays engine new chain file jobs calls → shown ≡ calls → HaveKinds shown
kinds_of engine new chain file jobs calls shown replays same = rw same (HaveKinds-Legal engine.geometry.block_bytes file engine.position calls replays.legal)

-- a run on what clearing leaves of an image
pub replayed : (image cleared trace text after fresh : List ℕ) (jobs : List Job) → OpensTo image cleared → ReadsCalls trace (Ok jobs) →
    ((chain file : List ℕ) (position : ℕ) → StandsBy cleared chain file position → IsRunOf cleared chain file position jobs text after) → ((place : ℕ) → get_or after place 0 < 2 ^ 64) → fresh ≡ word_bytes after → IsReplayOf image trace text fresh
replayed image cleared trace text after fresh jobs opens read runs small fresh_is =
    let clears = opens.clears in
    let stays : StaysCleared clears.words cleared opens.chain (file_of clears.words clears.rest) (position_of clears.words (shape_of clears.words) (chain_of clears.words clears.rest)) =
    subst (λ (l : List ℕ). StaysCleared clears.words cleared l (file_of clears.words clears.rest) (position_of clears.words (shape_of clears.words) (chain_of clears.words clears.rest))) (sym clears.chain_is) (clears_stand image opens.chain cleared clears) in
    let run : IsRunOf cleared opens.chain (file_of clears.words clears.rest) (position_of clears.words (shape_of clears.words) (chain_of clears.words clears.rest)) jobs text after =
    runs opens.chain (file_of clears.words clears.rest) (position_of clears.words (shape_of clears.words) (chain_of clears.words clears.rest)) stays.reads.stands in
    record {
      chain = opens.chain;
      cleared = cleared;
      clears = clears;
      file = file_of clears.words clears.rest;
      position = position_of clears.words (shape_of clears.words) (chain_of clears.words clears.rest);
      stands = subst (λ (l : List ℕ). StandsBy clears.words l (file_of clears.words clears.rest) (position_of clears.words (shape_of clears.words) (chain_of clears.words clears.rest))) (sym clears.chain_is) (stands_by clears.words clears.rest clears.accepts.accepts);
      stays = stays;
      jobs = jobs;
      read = read;
      after = after;
      run = run;
      past_header = λ place past inside. run.past_header place past (subst (λ (s : Shape). place < words_in s) (sym stays.reads.same_shape) inside) ∙ first_kept image opens.chain cleared clears place inside;
      small = small;
      fresh_is = fresh_is;
      opens = file_opens fresh after run.longer (last_file (file_of clears.words clears.rest) run.calls)
          (last_position_of (position_of clears.words (shape_of clears.words) (chain_of clears.words clears.rest)) run.calls) fresh_is small run.stands;
    }
