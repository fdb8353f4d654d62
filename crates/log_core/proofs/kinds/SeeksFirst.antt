-- The first log block is looked for over the blocks of the snapshot, while the table stays: from its front, to the next one, and to the
-- log block after the last one.
use Rattle.std.proofs.Common.{◌≡◌, ◌<◌, ◌+◌, ℕ, List, [], ◌∷◌, length, refl, sym, ◌∙◌, ap, arith, slice_index}
use Rattle.log_entry.specs.declared.layouts.TheConstants.{LOG, SNAPSHOT}
use Rattle.pmem_words.specs.Seats.{Seat}
use Rattle.log_core.specs.Views.{Ghost}
use Rattle.log_core.specs.Origin.{Origin, Generation}
use Rattle.log_core.specs.Cores.{Core, nth_log}
use Rattle.log_core.specs.Works.{SeeksFirst, SeeksNext, FindsFirst, MaySeek, IsSeeking, front, kept_word, state_after_work}
use Rattle.log_core.specs.Order.{nth_generation}
use Rattle.log_core.specs.Snapshots.{first_or}
use Rattle.log_core.specs.Walks.{IsSnapshotBlock}
use Rattle.log_core.specs.Invariant.{Invariant}
use Rattle.log_core.specs.Knows.{Knows}
use Rattle.log_core.proofs.Facts.{sought_facts}
use Rattle.log_core.proofs.PinnedChains.{place, some_generation}
use Rattle.log_core.proofs.SnapshotLinks.{next_block, last_block}
use Rattle.log_core.proofs.kinds.KeepsTable.{front_is, snapshot_front}

module _ (o : Origin) (c : Core) (n : ℕ) (s : Seat) (g : Ghost) (pin began : ℕ) (inv : Invariant o c) (f : Knows o c n s g pin began) where
  module _ (may : MaySeek s) where
    abbrev pinned : Generation
    pinned = nth_generation c.generations (place o c n s g pin began inv f may.at_front.valid)

    at_first : (snapshots : List ℕ) → pinned.snapshots ≡ snapshots → 0 < length pinned.snapshots → IsSnapshotBlock pinned 0 (front s)
    at_first [] is some = absurd (let none = ap (λ (l : List ℕ). length l) is in omega (arith, some, none))
    at_first (block ∷ blocks) is some = record {
      inside = some;
      block_is = ap (λ (l : List ℕ). slice_index l 0) is ∙ sym (front_is o c n s g pin began inv f may.at_front ∙ ap (λ (l : List ℕ). first_or l (nth_log c.logs pinned.cut).block) is);
    }

    pub seek_first_facts : Knows o c n (state_after_work s SeeksFirst) g pin began
    seek_first_facts = sought_facts o c n s g pin began f (front s) 0 s.walk.first_log may.ready (λ some come_to. at_first pinned.snapshots refl (snapshot_front o c n s g pin began inv f may.at_front some may.kind_is))
        (λ some. (f.walk some).first_known)

  pub seek_next_facts : IsSeeking s SNAPSHOT → Knows o c n (state_after_work s SeeksNext) g pin began
  seek_next_facts may = sought_facts o c n s g pin began f (kept_word s s.walk.reading_block 0) (s.walk.reading_place + 1) s.walk.first_log may.ready
      (λ some come_to. next_block o c n s g pin began inv f may.valid some ((f.walk some).seeking may.ready may.come_to) SNAPSHOT may.followed refl)
      (λ some. (f.walk some).first_known)

  pub find_first_facts : IsSeeking s LOG → Knows o c n (state_after_work s FindsFirst) g pin began
  find_first_facts may = sought_facts o c n s g pin began f 0 0 (kept_word s s.walk.reading_block 0) may.ready (λ some come_to. absurd (come_to refl))
      (λ some known. record {
        some = some_generation o c n s g pin began inv f may.valid;
        is = (last_block o c n s g pin began inv f may.valid some ((f.walk some).seeking may.ready may.come_to) LOG may.followed refl).1;
      })
