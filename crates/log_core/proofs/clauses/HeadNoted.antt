-- What collections have noted, where an exchange of the head is won.
use Rattle.std.proofs.Common.{◌≡◌, ◌≢◌, ◌<◌, ◌-◌, ◌+◌, ◌++◌, ℕ, true, List, [], length, take, sym, ◌∙◌, ap, subst, arith, slice_index}
use Rattle.log_image.specs.Entries.{Meaning, all_names}
use Rattle.log_image.specs.Chains.{is_listed}
use Rattle.pmem_words.specs.Seats.{Seat, Hold, Walk, Calling}
use Rattle.persistence.specs.Memory.{Memory, cell}
use Rattle.log_core.specs.Entries.{head_place}
use Rattle.log_core.specs.Views.{View, Ghost, view_of}
use Rattle.log_core.specs.Origin.{Origin, shape, first_generation, Generation}
use Rattle.log_core.specs.Files.{entries}
use Rattle.log_core.specs.Cores.{Core, current, data_names}
use Rattle.log_core.specs.May.{MayExchangeHead}
use Rattle.log_core.specs.Order.{nth_generation}
use Rattle.log_core.specs.Pins.{PinHolds}
use Rattle.log_core.specs.Walks.{WalkHolds}
use Rattle.log_core.specs.Noted.{AreNoted, NotedHolds, is_named_before, is_read_before}
use Rattle.log_core.specs.Invariant.{Invariant, KeptIn, around}
use Rattle.log_core.specs.Knows.{Knows}
use Rattle.log_core.proofs.SameContents.{same_read}
use Rattle.log_core.proofs.clauses.Apart.{has_left, data_is_named}
use Rattle.log_core.proofs.clauses.HeadMoved.{HeadMoves}
use Rattle.log_core.proofs.clauses.HeadContents.{recorded_same}
use Rattle.log_core.proofs.clauses.HeadOthers.{old_gen, same_gen, moved_core}

module _ (o : Origin) (c : Core) (n : ℕ) (s : Seat) (g : Ghost) (pin began before next : ℕ) (inv : Invariant o c) (unspent : (view_of c.views n).parts ≢ [])
    (f : Knows o c n s g pin began) (may : MayExchangeHead o c g s before next) (won : slice_index c.memory.now.words head_place ≡ before) (m : Memory) (moves : HeadMoves o (length c.views) c.memory m next)
    (views : List View) (ends : List ℕ)
    (kept_before : (place : ℕ) → place < length c.generations → KeptIn o (moved_core o c n s g pin began before next inv unspent f may won m moves views ends) place → KeptIn o c place) where
  abbrev new : Core
  new = moved_core o c n s g pin began before next inv unspent f may won m moves views ends

  module _ (h : Hold) (w : Walk) (call : Calling) (words : List ℕ) (pinned : PinHolds (first_generation o) (current o c.generations) (cell c.memory head_place) h)
      (walk : WalkHolds (around o c) h w) (r : NotedHolds (around o c) h w call words) where
    abbrev place : ℕ
    place = w.reading_generation - first_generation o

    abbrev old : Generation
    old = nth_generation c.generations place

    inside : w.reading ≡ true → place < length c.generations
    inside reading = (let low = walk.to_current reading in let from = walk.from_first reading in omega (arith, low, from))

    in_snapshot : KeptIn o c place → (b : ℕ) → is_listed old.snapshots b ≡ true → new.recorded b ≡ c.recorded b
    in_snapshot kept b listed = recorded_same o c n s g pin began before next inv unspent f may won m moves place b kept
        (data_is_named o c.logs (entries o c.history) old b (has_left old.snapshots (data_names o (entries o c.history) old) b listed))

    pub noted_moved : NotedHolds (around o new) h w call words
    noted_moved = (
      r.0,
      (λ on reading kept block low. (let was = kept_before place (inside reading) kept in
          r.1 on reading was block low ∙ sym (ap (λ (x : Generation). is_read_before new.recorded x w block) (old_gen o c n s g pin began before next inv unspent f may won m moves place (inside reading))
          ∙ ap (λ (l : List Meaning). is_listed (take (w.reading_place + 1) old.snapshots ++ all_names l) block)
          (same_read (shape o) c.recorded new.recorded old.snapshots w.reading_block w.reading_slot (λ b listed. in_snapshot was b listed))))),
      (λ on ready. subst (λ (x : Generation). AreNoted (shape o) words (λ b. is_named_before o c.logs (entries o c.history) x w b))
          (sym (same_gen o c n s g pin began before next inv unspent f may won m moves h.generation (pinned.to_current (walk.ready_walked ready).2))) (r.2 on ready)),
    )
