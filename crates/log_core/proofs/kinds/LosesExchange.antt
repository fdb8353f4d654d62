-- An exchange at the tail that loses changes nothing but the seat's kept words: what it found is one more.
use Rattle.std.proofs.Common.{◌≡◌, ◌≢◌, ◌≤◌, ◌==◌, ◌&&◌, ◌||◌, ℕ, Bool, true, false, [], refl, ◌∙◌, ap, subst, slice_index}
use Rattle.std.proofs.lemmas.Bool.{ne_eqb}
use Rattle.pmem_words.specs.Seats.{Seat}
use Rattle.log_core.specs.Entries.{place_in}
use Rattle.log_core.specs.Views.{Ghost, view_of}
use Rattle.log_core.specs.Origin.{Origin}
use Rattle.log_core.specs.Files.{entries, end_of}
use Rattle.log_core.specs.Cores.{Core, generation_at, is_named}
use Rattle.log_core.specs.Works.{seat_shape, words_of, tail_index}
use Rattle.log_core.specs.Steps.{kept_with, is_tail_found}
use Rattle.log_core.specs.May.{MayLoadImageWord}
use Rattle.log_core.specs.Invariant.{Invariant}
use Rattle.log_core.specs.Knows.{Knows}
use Rattle.log_core.proofs.Facts.{moved_facts}
use Rattle.log_core.proofs.kinds.LoadsImageWord.{image_facts}

-- a test or none
or_none : (a b : Bool) → b ≡ false → (a || b) ≡ a
or_none true b none = refl
or_none false b none = none

module _ (o : Origin) (c : Core) (n : ℕ) (s : Seat) (g : Ghost) (pin began word : ℕ) (inv : Invariant o c) (f : Knows o c n s g pin began) (unspent : (view_of c.views n).parts ≢ [])
    (may : MayLoadImageWord s (λ block. is_named o c.logs (entries o c.history) (generation_at o c.generations s.hold.generation) block) word) (low : began ≤ end_of o c.history)
    (some : slice_index c.memory.now.words word ≢ 0) where
  abbrev found : ℕ
  found = slice_index c.memory.now.words word

  no_tail : is_tail_found s word found ≡ false
  no_tail = ap (λ (b : Bool). s.walk.ready && b && (word == place_in (seat_shape s) s.walk.tail_block (tail_index s))) (ne_eqb found 0 some) ∙ never s.walk.ready
    where
      never : (b : Bool) → (b && false && (word == place_in (seat_shape s) s.walk.tail_block (tail_index s))) ≡ false
      never true = refl
      never false = refl

  -- a word more is kept
  pub lost_facts : Knows o c n (record s { walk = record (s.walk) { kept = kept_with (words_of s) s.walk.kept word found } }) g pin began
  lost_facts = subst (λ (b : Bool). Knows o c n (record s { walk = record (s.walk) { kept = kept_with (words_of s) s.walk.kept word found; at_tail = b } }) g pin began)
      (or_none s.walk.at_tail (is_tail_found s word found) no_tail) (image_facts o c n s g pin began word inv f unspent may low)

  -- and the view is at its tail no more
  pub away_facts : (lost : ℕ) →
      Knows o c n (record s { walk = record (s.walk) { kept = kept_with (words_of s) s.walk.kept word found; at_tail = false }; calling = record (s.calling) { lost = lost } }) g pin began
  away_facts lost = (let l = lost_facts in
      moved_facts o c n (record s { walk = record (s.walk) { kept = kept_with (words_of s) s.walk.kept word found } }) g pin began l
      (record (s.walk) { kept = kept_with (words_of s) s.walk.kept word found; at_tail = false }) (record (s.calling) { lost = lost }) s.giving.pins_seen s.giving.limbo_held (record {
        map = λ unspent. (l.fits unspent).map;
        walk = λ unspent. (let w = l.walk unspent in record {
          to_end = w.to_end;
          from_first = w.from_first;
          to_current = w.to_current;
          read = λ reading kept. (let r = w.read reading kept in record { inside = r.inside; block = r.block; from = r.from; upto = r.upto; table = r.table; size_is = r.size_is; position_is = r.position_is });
          kept_words = w.kept_words;
          unpinned = w.unpinned;
          walked = λ some_block stopped. (let r = w.walked some_block stopped in record { table = r.table; size_is = r.size_is; base = r.base; block = r.block; from = r.from; upto = r.upto; inside = r.inside; at_end = r.at_end });
          ready_walked = w.ready_walked;
          ready_base = w.ready_base;
          ready_tail = w.ready_tail;
          seeking = w.seeking;
          first_known = w.first_known;
        });
        noted = l.noted;
        scan_others = l.scan_others;
        scan_self = l.scan_self;
        writes = (let r = l.writes in record { recorded = r.recorded; running = r.running });
        writes_once = l.writes_once;
        put = l.put;
        calls = (let r = l.calls in record {
          laid = r.laid;
          bases = (let b = r.bases in record { most = b.most; whole = b.whole; from_first = b.from_first; bytes = b.bytes });
          reading = λ reading. (let q = r.reading reading in (refl, q.1, q.2, q.3, q.4, q.5));
          numbers = r.numbers;
          task = (let t = r.task in record { won_runs = t.won_runs; put_collects = t.put_collects; synced_syncs = t.synced_syncs });
        });
        tail = λ at. cc;
        syncs = (let r = l.syncs in record { to = r.to; marks = r.marks; valid = r.valid; answered = r.answered });
      }))
