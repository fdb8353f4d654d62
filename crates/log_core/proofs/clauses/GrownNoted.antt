-- What collections have noted, where a step puts a word more into the last log block.
use Rattle.std.proofs.Common.{◌≡◌, ◌-◌, ◌++◌, ℕ, true, List, take, ◌+◌, sym, ◌∙◌, ap}
use Rattle.log_image.specs.Entries.{Meaning, all_names}
use Rattle.log_image.specs.Chains.{is_listed}
use Rattle.pmem_words.specs.Seats.{Hold, Walk, Calling}
use Rattle.log_core.specs.Views.{View}
use Rattle.log_core.specs.Origin.{Origin, shape, first_generation, Generation}
use Rattle.log_core.specs.Files.{entries}
use Rattle.log_core.specs.Cores.{Core, generation_at, data_names}
use Rattle.log_core.specs.Order.{nth_generation}
use Rattle.log_core.specs.Walks.{WalkHolds}
use Rattle.log_core.specs.Noted.{NotedHolds}
use Rattle.log_core.specs.Invariant.{Invariant, KeptIn, around}
use Rattle.log_core.proofs.NotedGrown.{named_same}
use Rattle.log_core.proofs.SameContents.{same_read}
use Rattle.log_core.proofs.clauses.Apart.{has_left, data_is_named}
use Rattle.log_core.proofs.clauses.Growth.{Growth, Grows, grown, recorded_grown}
use Rattle.log_core.proofs.clauses.GrownNames.{named_recorded}
use Rattle.log_core.proofs.clauses.GrownWalks.{with_views}

module _ (o : Origin) (c : Core) (x : Growth) (inv : Invariant o c) (grows : Grows o c x) (views : List View) (began : List ℕ)
    (kept_before : (place : ℕ) → KeptIn o (with_views o c x inv grows views began) place → KeptIn o c place) where
  module _ (h : Hold) (w : Walk) (call : Calling) (words : List ℕ) (walk : WalkHolds (around o c) h w) (r : NotedHolds (around o c) h w call words) where
    abbrev place : ℕ
    place = w.reading_generation - first_generation o

    abbrev g : Generation
    g = nth_generation c.generations place

    before : KeptIn o (with_views o c x inv grows views began) place → KeptIn o c place
    before kept = kept_before place kept

    in_snapshot : KeptIn o c place → (b : ℕ) → is_listed g.snapshots b ≡ true → recorded_grown c x b ≡ c.recorded b
    in_snapshot kept b listed = named_recorded o c x inv grows place b kept
        (data_is_named o c.logs (entries o c.history) g b (has_left g.snapshots (data_names o (entries o c.history) g) b listed))

    pub noted_grown : NotedHolds (around o (with_views o c x inv grows views began)) h w call words
    noted_grown = (
      r.0,
      (λ on reading kept block low. r.1 on reading (before kept) block low ∙ sym (ap (λ (l : List Meaning). is_listed (take (w.reading_place + 1) g.snapshots ++ all_names l) block)
          (same_read (shape o) c.recorded (λ b. recorded_grown c x b) g.snapshots w.reading_block w.reading_slot (λ b listed. in_snapshot (before kept) b listed)))),
      (λ on ready block low. r.2 on ready block low ∙ sym (named_same o x.n c (grown c x) x.linked x.named grows.logs grows.history inv.order.log.count
          (generation_at o c.generations h.generation) w (walk.ready_walked ready).0 walk.to_end (walk.walked (walk.ready_walked ready).0 (walk.ready_walked ready).1) block)),
    )
