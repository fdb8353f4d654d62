-- A walk that moves, away from its tail, while its call may still take in what it finds: what a core knows of the seat.
use Rattle.std.proofs.Common.{◌≡◌, ◌≢◌, ◌==◌, ◌&&◌, ◌+◌, ◌⊎◌, inl, ⊎_elim, ℕ, Bool, true, false, List, [], length, sym, ◌∙◌, ap, subst, arith, Some, None}
use Rattle.log_entry.specs.ByteFile.{read}
use Rattle.pmem_words.specs.declared.keeps.Task.{Task}
use Rattle.pmem_words.specs.declared.keeps.Task.TheVariants.{Pread}
use Rattle.pmem_words.specs.Seats.{Seat, Walk}
use Rattle.log_core.specs.Views.{Ghost, view_of, op_in}
use Rattle.log_core.specs.Origin.{Origin}
use Rattle.log_core.specs.Files.{file_at}
use Rattle.log_core.specs.Cores.{Core}
use Rattle.log_core.specs.Works.{IsFree, laid_bytes, words_of}
use Rattle.log_core.specs.Walks.{WalkHolds}
use Rattle.log_core.specs.Noted.{NotedHolds}
use Rattle.log_core.specs.Records.{BasesHold, one_if, writes_at}
use Rattle.log_core.specs.Invariant.{around}
use Rattle.log_core.specs.Knows.{Knows}
use Rattle.log_core.proofs.Facts.{noted_facts}

-- a read that has laid nothing has no bytes
no_bytes : (task : Task) (offset count : ℕ) (bytes : List ℕ) → laid_bytes task bytes ≡ [] → task ≡ Pread offset count → bytes ≡ []
no_bytes task offset count bytes none is = subst (λ (t : Task). laid_bytes t bytes ≡ []) is none

-- and bases of the call may have been given up, and more blocks noted
pub move_with_bases : (o : Origin) (c : Core) (n : ℕ) (s : Seat) (g : Ghost) (pin began : ℕ) (w : Walk) (bases base_words : List ℕ) (noting : Bool) (named : List ℕ) → length named ≡ length s.blocks.named → Knows o c n s g pin began → IsFree g s.calling → (op_in s ≢ None → bases ≡ []) ⊎ (w.reading ≡ false) →
    BasesHold o c.history (view_of c.views n).first (words_of s) w.position (record (s.calling) { bases = bases; base_words = base_words; noting = noting }) → w.at_tail ≡ false →
    ((view_of c.views n).parts ≢ [] → length w.map ≡ 65536) → ((view_of c.views n).parts ≢ [] → WalkHolds (around o c) s.hold w) →
    ((view_of c.views n).parts ≢ [] → NotedHolds (around o c) s.hold w (record (s.calling) { noting = noting }) named) →
    Knows o c n (record s { walk = w; calling = record (s.calling) { bases = bases; base_words = base_words; noting = noting }; blocks = record (s.blocks) { named = named } }) g pin began
move_with_bases o c n s g pin began w bases base_words noting named same f free no_bases hold away long walks noted =
    noted_facts o c n s g pin began f w (record (s.calling) { bases = bases; base_words = base_words; noting = noting }) named same s.giving.pins_seen s.giving.limbo_held (record {
      map = long;
      walk = walks;
      noted = noted;
      scan_others = f.scan_others;
      scan_self = f.scan_self;
      writes = (let r = f.writes in record { recorded = r.recorded; running = λ won. (let both : true ≡ false = sym won ∙ free.not_won in cc) });
      writes_once = λ some position low upto. ap (λ (won : Bool). writes_at position (view_of c.views n).done + one_if (won && (w.position == position))) free.not_won
          ∙ (ap (λ (won : Bool). writes_at position (view_of c.views n).done + one_if (won && (s.walk.position == position))) (sym free.not_won) ∙ f.writes_once some position low upto);
      put = record { own = λ head is. (let both : None ≡ Some head = sym free.no_head ∙ is in cc); found = f.put.found };
      calls = (let r = f.calls in record {
        laid = λ offset count is. (let none = no_bytes s.calling.job offset count s.calling.bytes free.none_laid is in
            none ∙ ap (λ (bytes : List ℕ). read (file_at o c.history w.position) offset (length bytes)) (sym none));
        bases = hold;
        reading = λ reading. (away, free.none_laid, free.not_won, free.no_sync, free.no_head, ⊎_elim (λ none. none) (λ stopped. (let both : true ≡ false = sym reading ∙ stopped in cc)) no_bases);
        numbers = r.numbers;
        task = (let t = r.task in record { won_runs = t.won_runs; put_collects = t.put_collects; synced_syncs = t.synced_syncs });
      });
      tail = λ at. (let both : true ≡ false = sym at ∙ away in cc);
      syncs = (let r = f.syncs in record {
        to = λ position is. (let both : None ≡ Some position = sym free.no_sync ∙ is in cc);
        marks = r.marks;
        valid = r.valid;
        answered = r.answered;
      });
    })

pub move_facts : (o : Origin) (c : Core) (n : ℕ) (s : Seat) (g : Ghost) (pin began : ℕ) (w : Walk) (noting : Bool) (named : List ℕ) → length named ≡ length s.blocks.named → Knows o c n s g pin began → IsFree g s.calling → (op_in s ≢ None → s.calling.bases ≡ []) →
    BasesHold o c.history (view_of c.views n).first (words_of s) w.position (record (s.calling) { noting = noting }) → w.at_tail ≡ false → ((view_of c.views n).parts ≢ [] → length w.map ≡ 65536) →
    ((view_of c.views n).parts ≢ [] → WalkHolds (around o c) s.hold w) →
    ((view_of c.views n).parts ≢ [] → NotedHolds (around o c) s.hold w (record (s.calling) { noting = noting }) named) →
    Knows o c n (record s { walk = w; calling = record (s.calling) { noting = noting }; blocks = record (s.blocks) { named = named } }) g pin began
move_facts o c n s g pin began w noting named same f free no_bases bases away long walks noted =
    move_with_bases o c n s g pin began w s.calling.bases s.calling.base_words noting named same f free (inl no_bases) bases away long walks noted

-- of no bases everything holds
pub no_bases_hold : (o : Origin) (c : Core) (n : ℕ) (s : Seat) (g : Ghost) (pin began position : ℕ) (noting : Bool) → Knows o c n s g pin began → s.calling.bases ≡ [] →
    BasesHold o c.history (view_of c.views n).first (words_of s) position (record (s.calling) { noting = noting })
no_bases_hold o c n s g pin began position noting f none = (let r = f.calls.bases in record {
  most = r.most;
  whole = r.whole;
  from_first = λ some. absurd (some none);
  bytes = λ running place at inside. (let empty : length s.calling.bases ≡ 0 = ap (λ (l : List ℕ). length l) none in absurd (omega (arith, inside, empty)));
})
