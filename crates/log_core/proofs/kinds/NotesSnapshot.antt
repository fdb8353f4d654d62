-- A snapshot is read, and what it names is noted: what a core knows of the seat.
use Rattle.std.proofs.Common.{◌≡◌, ◌≢◌, ◌<◌, ◌/◌, ◌+◌, ◌-◌, ◌++◌, ◌||◌, ℕ, Bool, true, false, List, [], ◌∷◌, length, take, refl, sym, ◌∙◌, ap, subst, arith}
use Rattle.std.proofs.Math.Seq.{take-suc}
use Rattle.std.proofs.lemmas.Grind.{flat_map-append}
use Rattle.std.proofs.Math.Seq.{take-length}
use Rattle.log_entry.specs.declared.layouts.TheConstants.{LOG, SNAPSHOT}
use Rattle.log_image.specs.Entries.{Meaning, direct_meaning, names, all_names}
use Rattle.log_image.specs.Blocks.{entry_count}
use Rattle.log_image.specs.Chains.{is_listed}
use Rattle.pmem_words.specs.Noted.{noted_more}
use Rattle.pmem_words.specs.Seats.{Seat}
use Rattle.log_core.specs.Views.{Ghost, view_of}
use Rattle.log_core.specs.Origin.{Origin, shape, first_generation, start_base, Generation}
use Rattle.log_core.specs.Files.{entries}
use Rattle.log_core.specs.Cores.{Core, nth_log, number_at}
use Rattle.log_core.specs.Works.{ReadsRun, NextSnapshot, EndsReading, IsReading, HasReadBlock, kept_word, state_after_work}
use Rattle.log_core.specs.Order.{nth_generation}
use Rattle.log_core.specs.Walks.{read_meanings}
use Rattle.log_core.specs.Noted.{AreNoted, NotedHolds, is_read_before, is_named_before}
use Rattle.log_core.specs.Invariant.{Invariant, KeptIn, around}
use Rattle.log_core.specs.Knows.{Knows}
use Rattle.log_core.proofs.PinnedChains.{place, kept}
use Rattle.log_core.proofs.SnapshotReads.{Onward, Last, Later}
use Rattle.log_core.proofs.SnapshotLinks.{no_log, next_block, last_block}
use Rattle.log_core.proofs.LogTails.{number_again}
use Rattle.log_core.proofs.NotedBits.{length_more, more_noted}
use Rattle.log_core.proofs.NotedNames.{listed_last, listed_middle, listed_end, first_names}
use Rattle.log_core.proofs.NotedGrown.{noted_inside}
use Rattle.log_core.proofs.clauses.MovedWalks.{move_facts}
use Rattle.log_core.proofs.WalkMaps.{length_with_entry}
use Rattle.log_core.proofs.kinds.ReadsSnapshot.{has_read, held, more, onward, all_read, slot_is, run_read, next_read, walk_ended, reads_on, free, no_bases, away, placed_at}

module _ (o : Origin) (c : Core) (n : ℕ) (s : Seat) (g : Ghost) (pin began : ℕ) (inv : Invariant o c) (f : Knows o c n s g pin began) (reading : IsReading s) where
  abbrev at : ℕ
  at = place o c n s g pin began inv f reading.valid

  abbrev pinned : Generation
  pinned = nth_generation c.generations at

  in_chain : KeptIn o c at
  in_chain = kept o c n s g pin began inv f reading.valid

  abbrev block : ℕ
  block = s.walk.reading_block

  abbrev slot : ℕ
  slot = s.walk.reading_slot

  abbrev link : ℕ
  link = kept_word s block 0

  abbrev noting : Bool
  noting = s.calling.noting

  abbrev blocks_before : List ℕ
  blocks_before = take (s.walk.reading_place + 1) pinned.snapshots

  abbrev read_before : List Meaning
  read_before = read_meanings c.recorded pinned.snapshots block slot

  module _ (some : (view_of c.views n).parts ≢ []) where
    noted_read : noting ≡ true → AreNoted (shape o) s.blocks.named (λ b. is_read_before c.recorded pinned s.walk b)
    noted_read on = subst (λ (number : ℕ). KeptIn o c (number - first_generation o) → AreNoted (shape o) s.blocks.named (λ b. is_read_before c.recorded (nth_generation c.generations (number - first_generation o)) s.walk b))
        reading.pinned ((f.noted some).1 on reading.reading) in_chain

    -- where the names up to another place in the snapshot are more by these blocks
    notes_on : (map : List (Rattle.std.proofs.Common.Option ℕ)) (next slot number : ℕ) (blocks : List ℕ) →
        ((b : ℕ) → (is_listed blocks b || is_read_before c.recorded pinned s.walk b) ≡ is_read_before c.recorded pinned (placed_at o c n s g pin began inv f reading some map next slot number) b) →
        NotedHolds (around o c) s.hold (placed_at o c n s g pin began inv f reading some map next slot number) s.calling (noted_more noting s.blocks.named blocks)
    notes_on map next slot number blocks same = (
      (f.noted some).0,
      (λ on again kept. subst (λ (gen : ℕ). AreNoted (shape o) (noted_more noting s.blocks.named blocks) (λ b. is_read_before c.recorded (nth_generation c.generations (gen - first_generation o)) (placed_at o c n s g pin began inv f reading some map next slot number) b))
          (sym reading.pinned) (λ b low. more_noted noting s.blocks.named blocks b on (noted_inside o c n s g pin began f some b low) ∙ (ap (λ (t : Bool). is_listed blocks b || t) (noted_read on b low) ∙ same b))),
      (λ on ready. (let both : true ≡ false = sym reading.reading ∙ ((f.walk some).ready_walked ready).1 in cc)),
    )

    run_noted : kept_word s block slot ≢ 0 → NotedHolds (around o c) s.hold (state_after_work s ReadsRun).walk s.calling (state_after_work s ReadsRun).blocks.named
    run_noted used = notes_on (state_after_work s ReadsRun).walk.map block (slot + 1) s.walk.reading_place (names (direct_meaning (kept_word s block slot))) (λ b.
        sym (ap (λ (l : List Meaning). is_listed (blocks_before ++ all_names l) b) (more o c n s g pin began inv f reading some used)
        ∙ (ap (λ (l : List ℕ). is_listed (blocks_before ++ l) b) (flat_map-append names read_before (direct_meaning (kept_word s block slot) ∷ []))
        ∙ (listed_last blocks_before (all_names read_before) (names (direct_meaning (kept_word s block slot)) ++ []) b
        ∙ ap (λ (t : Bool). t || is_listed (blocks_before ++ all_names read_before) b) (listed_end (names (direct_meaning (kept_word s block slot))) b)))))

    -- the entries read are the block's
    read_is : (kind : ℕ) → HasReadBlock s kind → read_before ≡ read_meanings c.recorded pinned.snapshots block (3 + entry_count (c.recorded block))
    read_is kind done = ap (λ (k : ℕ). read_meanings c.recorded pinned.snapshots block k) (slot_is o c n s g pin began inv f reading some kind done)

    next_noted : HasReadBlock s SNAPSHOT → NotedHolds (around o c) s.hold (state_after_work s NextSnapshot).walk s.calling (state_after_work s NextSnapshot).blocks.named
    next_noted done = notes_on s.walk.map link 3 (s.walk.reading_place + 1) (link ∷ []) (λ b. sym (same b (onward o c n s g pin began inv f reading some SNAPSHOT done)))
      where
        later_is : take (s.walk.reading_place + 1 + 1) pinned.snapshots ≡ blocks_before ++ link ∷ []
        later_is = (let next = next_block o c n s g pin began inv f reading.valid some (held o c n s g pin began inv f reading some) SNAPSHOT done.followed refl in
            ap (λ (k : ℕ). take k pinned.snapshots) (let one : s.walk.reading_place + 1 + 1 ≡ Rattle.std.proofs.Common.suc (s.walk.reading_place + 1) = omega arith in one)
            ∙ (take-suc pinned.snapshots (s.walk.reading_place + 1) 0 next.inside ∙ ap (λ (b : ℕ). blocks_before ++ b ∷ []) next.block_is))

        same : (b : ℕ) → Onward c.recorded pinned.snapshots (nth_log c.logs pinned.cut).block block link →
            is_listed (take (s.walk.reading_place + 1 + 1) pinned.snapshots ++ all_names (read_meanings c.recorded pinned.snapshots link 3)) b
            ≡ (is_listed (link ∷ []) b || is_listed (blocks_before ++ all_names read_before) b)
        same b (Last is read) = absurd (no_log o c n s g pin began inv f reading.valid some (held o c n s g pin began inv f reading some) SNAPSHOT done.followed is refl)
        same b (Later later read) = ap (λ (l : List ℕ). is_listed (l ++ all_names (read_meanings c.recorded pinned.snapshots link 3)) b) later_is
            ∙ (ap (λ (l : List Meaning). is_listed ((blocks_before ++ link ∷ []) ++ all_names l) b) (sym (read_is SNAPSHOT done ∙ read))
            ∙ listed_middle blocks_before (all_names read_before) (link ∷ []) b)

    end_noted : HasReadBlock s LOG → NotedHolds (around o c) s.hold (state_after_work s EndsReading).walk s.calling (state_after_work s EndsReading).blocks.named
    end_noted done = (
      (f.noted some).0,
      (λ on again. cc),
      (λ on ready b low. more_noted noting s.blocks.named (link ∷ []) b on (noted_inside o c n s g pin began f some b low)
          ∙ (ap (λ (t : Bool). is_listed (link ∷ []) b || t) (noted_read on b low ∙ all b) ∙ sym (named_is b))),
    )
      where
        last : (s.walk.reading_place + 1 ≡ length pinned.snapshots) × (link ≡ (nth_log c.logs pinned.cut).block)
        last = last_block o c n s g pin began inv f reading.valid some (held o c n s g pin began inv f reading some) LOG done.followed refl

        -- the whole snapshot was read
        all : (b : ℕ) → is_listed (blocks_before ++ all_names read_before) b ≡ is_listed (pinned.snapshots ++ (pinned.shared ++ [])) b
        all b = ap (λ (l : List ℕ). is_listed (l ++ all_names read_before) b) (ap (λ (k : ℕ). take k pinned.snapshots) last.0 ∙ take-length pinned.snapshots)
            ∙ (ap (λ (l : List Meaning). is_listed (pinned.snapshots ++ all_names l) b) (read_is LOG done ∙ (all_read o c n s g pin began inv f reading some done).1)
            ∙ (ap (λ (l : List ℕ). is_listed (pinned.snapshots ++ l) b) (sym (inv.contents at in_chain).snapshot.shared_is)
            ∙ sym (listed_last pinned.snapshots pinned.shared [] b)))

        position_is : s.walk.position ≡ pinned.base
        position_is = (has_read o c n s g pin began inv f reading some).position_is

        number_is : number_at c.logs s.walk.position ≡ pinned.cut
        number_is = ap (λ (base : ℕ). number_at c.logs base) (position_is ∙ sym (inv.order.generations_rise.cut_base at in_chain.inside))
            ∙ number_again o c inv pinned.cut (inv.order.generations_rise.cut_inside at in_chain.inside)

        named_is : (b : ℕ) → is_named_before o c.logs (entries o c.history) pinned (state_after_work s EndsReading).walk b ≡ (is_listed (link ∷ []) b || is_listed (pinned.snapshots ++ (pinned.shared ++ [])) b)
        named_is b = ap (λ (k : ℕ). Rattle.log_core.specs.Cores.is_named o (take (k + 1) c.logs) (take (s.walk.position - start_base o) (entries o c.history)) pinned b) number_is
            ∙ (ap (λ (k : ℕ). Rattle.log_core.specs.Cores.is_named o (take (pinned.cut + 1) c.logs) (take (k - start_base o) (entries o c.history)) pinned b) position_is
            ∙ (ap (λ (l : List ℕ). is_listed l b) (first_names o c.logs (entries o c.history) pinned (inv.order.generations_rise.cut_inside at in_chain.inside))
            ∙ (ap (λ (first : ℕ). is_listed ((pinned.snapshots ++ first ∷ []) ++ (pinned.shared ++ [])) b) (sym last.1)
            ∙ listed_middle pinned.snapshots (pinned.shared ++ []) (link ∷ []) b)))

  pub run_facts : kept_word s block slot ≢ 0 → Knows o c n (state_after_work s ReadsRun) g pin began
  run_facts used = move_facts o c n s g pin began (state_after_work s ReadsRun).walk noting (state_after_work s ReadsRun).blocks.named (length_more noting s.blocks.named _) f
      (free o c n s g pin began inv f reading) (no_bases o c n s g pin began inv f reading) f.calls.bases (away o c n s g pin began inv f reading)
      (λ some. length_with_entry (direct_meaning (kept_word s block slot)) s.walk.map ∙ (f.fits some).map)
      (λ some. reads_on o c n s g pin began inv f reading some (state_after_work s ReadsRun).walk.map block (slot + 1) s.walk.reading_place (run_read o c n s g pin began inv f reading some used)) (λ some. run_noted some used)

  pub next_facts : HasReadBlock s SNAPSHOT → Knows o c n (state_after_work s NextSnapshot) g pin began
  next_facts done = move_facts o c n s g pin began (state_after_work s NextSnapshot).walk noting (state_after_work s NextSnapshot).blocks.named (length_more noting s.blocks.named _) f
      (free o c n s g pin began inv f reading) (no_bases o c n s g pin began inv f reading) f.calls.bases (away o c n s g pin began inv f reading) (λ some. (f.fits some).map)
      (λ some. reads_on o c n s g pin began inv f reading some s.walk.map link 3 (s.walk.reading_place + 1) (next_read o c n s g pin began inv f reading some done)) (λ some. next_noted some done)

  pub end_facts : HasReadBlock s LOG → Knows o c n (state_after_work s EndsReading) g pin began
  end_facts done = move_facts o c n s g pin began (state_after_work s EndsReading).walk noting (state_after_work s EndsReading).blocks.named (length_more noting s.blocks.named _) f
      (free o c n s g pin began inv f reading) (no_bases o c n s g pin began inv f reading) f.calls.bases (away o c n s g pin began inv f reading) (λ some. (f.fits some).map)
      (λ some. walk_ended o c n s g pin began inv f reading some done) (λ some. end_noted some done)
