-- A walk begins at the first log block of a chain without a snapshot.
use Rattle.std.proofs.Common.{◌≡◌, ◌≢◌, ◌<◌, ◌≤◌, ◌+◌, ◌-◌, ◌++◌, ◌==◌, take, ℕ, List, [], ◌∷◌, length, refl, sym, ◌∙◌, ap, subst, arith, None}
use Rattle.log_entry.specs.declared.layouts.TheConstants.{LOG}
use Rattle.log_image.specs.Entries.{all_names}
use Rattle.log_image.specs.Chains.{is_listed}
use Rattle.pmem_words.specs.Seats.{Seat}
use Rattle.pmem_words.proofs.MapLaws.{length_unmapped, map_at_unmapped}
use Rattle.log_core.specs.Views.{Ghost, view_of}
use Rattle.log_core.specs.Origin.{Origin, start_base, LogBlock, Generation}
use Rattle.log_core.specs.Files.{entries}
use Rattle.log_core.specs.Cores.{Core, nth_log, log_at, number_at, is_named}
use Rattle.log_core.specs.Works.{StartsFromLog, MayStart, is_collection, front, front_base, state_after_work}
use Rattle.log_core.specs.After.{snapshot_meanings}
use Rattle.log_core.specs.Order.{nth_generation}
use Rattle.log_core.specs.Snapshots.{first_or}
use Rattle.log_core.specs.Walks.{WalkHolds}
use Rattle.log_core.specs.Noted.{NotedHolds, is_named_before}
use Rattle.log_core.specs.Invariant.{Invariant, around}
use Rattle.log_core.specs.Knows.{Knows}
use Rattle.log_core.proofs.LogTails.{log_again, number_again}
use Rattle.log_core.proofs.NotedBits.{length_first, first_noted}
use Rattle.log_core.proofs.NotedNames.{or_false, first_names}
use Rattle.log_core.proofs.NotedGrown.{collects, noted_inside}
use Rattle.log_core.proofs.clauses.MovedWalks.{move_facts, no_bases_hold}
use Rattle.log_core.proofs.PinnedChains.{place, kept, some_generation}
use Rattle.log_core.proofs.kinds.KeepsTable.{front_is, front_kinds, base_is}

module _ (o : Origin) (c : Core) (n : ℕ) (s : Seat) (g : Ghost) (pin began : ℕ) (inv : Invariant o c) (f : Knows o c n s g pin began) (may : MayStart g s LOG) where
  abbrev pinned : Generation
  pinned = nth_generation c.generations (place o c n s g pin began inv f may.at_front.valid)

  module _ (some : (view_of c.views n).parts ≢ []) where
    w : WalkHolds (around o c) s.hold s.walk
    w = f.walk some

    -- the chain has no snapshot
    no_snapshot : length pinned.snapshots ≡ 0
    no_snapshot = front_kinds o c n s g pin began inv f may.at_front some may.kind_is

    empty : (pinned.base ≡ 0) × (pinned.size ≡ 0) × ((virt : ℕ) → Rattle.log_core.specs.Files.history_map_at o (entries o c.history) pinned.base virt ≡ None)
    empty = (inv.contents (place o c n s g pin began inv f may.at_front.valid) (kept o c n s g pin began inv f may.at_front.valid)).snapshot.empty no_snapshot

    base : front_base s ≡ pinned.base
    base = base_is o c n s g pin began inv f may.at_front some

    front_log : front s ≡ (nth_log c.logs pinned.cut).block
    front_log = front_is o c n s g pin began inv f may.at_front ∙ first_of pinned.snapshots no_snapshot
      where
        first_of : (snapshots : List ℕ) → length snapshots ≡ 0 → first_or snapshots (nth_log c.logs pinned.cut).block ≡ (nth_log c.logs pinned.cut).block
        first_of [] none = refl
        first_of (block ∷ rest) none = absurd (omega (arith, none))

    cut_log : log_at c.logs (front_base s) ≡ nth_log c.logs pinned.cut
    cut_log = (let inside = (kept o c n s g pin began inv f may.at_front.valid).inside in
        ap (λ (b : ℕ). log_at c.logs b) (base ∙ sym (inv.order.generations_rise.cut_base (place o c n s g pin began inv f may.at_front.valid) inside))
        ∙ log_again o c inv pinned.cut (inv.order.generations_rise.cut_inside (place o c n s g pin began inv f may.at_front.valid) inside))

    walk_begun : WalkHolds (around o c) s.hold (state_after_work s StartsFromLog).walk
    walk_begun = record {
      to_end = subst (λ (b : ℕ). b ≤ Rattle.log_core.specs.Files.end_of o c.history) (sym base)
          (inv.order.generations_rise.to_end (place o c n s g pin began inv f may.at_front.valid) (kept o c n s g pin began inv f may.at_front.valid).inside);
      from_first = λ reading. cc;
      to_current = λ reading. cc;
      read = λ reading. cc;
      kept_words = λ valid. tt;
      unpinned = λ invalid. refl;
      walked = λ some_block stopped. record {
        table = λ virt. map_at_unmapped virt ∙ sym (subst (λ (b : ℕ). Rattle.log_core.specs.Files.history_map_at o (entries o c.history) b virt ≡ None) (sym base) (empty.2 virt));
        size_is = sym (subst (λ (b : ℕ). Rattle.log_core.specs.Files.history_size_at o (entries o c.history) b ≡ 0) (sym base)
            (sym (inv.contents (place o c n s g pin began inv f may.at_front.valid) (kept o c n s g pin began inv f may.at_front.valid)).snapshot.size_is ∙ empty.1));
        base = ap (λ (l : LogBlock). l.base) cut_log ∙ (inv.order.generations_rise.cut_base (place o c n s g pin began inv f may.at_front.valid) (kept o c n s g pin began inv f may.at_front.valid).inside ∙ sym base);
        block = ap (λ (l : LogBlock). l.block) cut_log ∙ sym front_log;
        from = omega arith;
        upto = (let wide = inv.sizes.image.wide in omega (arith, wide));
        inside = λ other. (omega arith, omega arith);
        at_end = λ short. (let wide = inv.sizes.image.wide in absurd (omega (arith, wide, short)));
      };
      ready_walked = λ ready. (no_zero, refl, some_generation o c n s g pin began inv f may.at_front.valid);
      ready_base = λ ready. base;
      ready_tail = λ ready. omega arith;
      seeking = λ ready come_to. absurd (come_to refl);
      first_known = λ known. record { some = some_generation o c n s g pin began inv f may.at_front.valid; is = front_log };
    }
      where
        no_zero : front s ≢ 0
        no_zero none = Rattle.log_core.proofs.LogTails.some_block o c inv (place o c n s g pin began inv f may.at_front.valid) pinned.cut (kept o c n s g pin began inv f may.at_front.valid) (omega arith)
            (inv.order.generations_rise.cut_inside (place o c n s g pin began inv f may.at_front.valid) (kept o c n s g pin began inv f may.at_front.valid).inside) (sym front_log ∙ none)

    -- up to there the chain names its front alone
    noted_begun : NotedHolds (around o c) s.hold (state_after_work s StartsFromLog).walk (state_after_work s StartsFromLog).calling (state_after_work s StartsFromLog).blocks.named
    noted_begun = (
      collects s.calling.job,
      (λ on reading. cc),
      (λ on ready b low. first_noted (is_collection s.calling.job) s.blocks.named (front s) b on (noted_inside o c n s g pin began f some b low) ∙ sym (named_is b)),
    )
      where
        cut_inside : pinned.cut < length c.logs
        cut_inside = inv.order.generations_rise.cut_inside (place o c n s g pin began inv f may.at_front.valid) (kept o c n s g pin began inv f may.at_front.valid).inside

        number_is : number_at c.logs (front_base s) ≡ pinned.cut
        number_is = ap (λ (b : ℕ). number_at c.logs b) (base ∙ sym (inv.order.generations_rise.cut_base (place o c n s g pin began inv f may.at_front.valid) (kept o c n s g pin began inv f may.at_front.valid).inside))
            ∙ number_again o c inv pinned.cut cut_inside

        none : (l : List ℕ) → length l ≡ 0 → l ≡ []
        none [] e = refl
        none (x ∷ l) e = absurd (omega (arith, e))

        no_shared : pinned.shared ≡ []
        no_shared = (inv.contents (place o c n s g pin began inv f may.at_front.valid) (kept o c n s g pin began inv f may.at_front.valid)).snapshot.shared_is
            ∙ ap (λ (l : List ℕ). all_names (snapshot_meanings c.recorded l)) (none pinned.snapshots no_snapshot)

        named_is : (b : ℕ) → is_named_before o c.logs (entries o c.history) pinned (state_after_work s StartsFromLog).walk b ≡ (front s == b)
        named_is b = ap (λ (k : ℕ). is_named o (take (k + 1) c.logs) (take (front_base s - start_base o) (entries o c.history)) pinned b) number_is
            ∙ (ap (λ (k : ℕ). is_named o (take (pinned.cut + 1) c.logs) (take (k - start_base o) (entries o c.history)) pinned b) base
            ∙ (ap (λ (l : List ℕ). is_listed l b) (first_names o c.logs (entries o c.history) pinned cut_inside)
            ∙ (ap (λ (l : List ℕ). is_listed ((l ++ (nth_log c.logs pinned.cut).block ∷ []) ++ (pinned.shared ++ [])) b) (none pinned.snapshots no_snapshot)
            ∙ (ap (λ (l : List ℕ). is_listed (((nth_log c.logs pinned.cut).block ∷ []) ++ (l ++ [])) b) no_shared
            ∙ (or_false ((nth_log c.logs pinned.cut).block == b) ∙ ap (λ (x : ℕ). x == b) (sym front_log))))))

  pub log_facts : Knows o c n (state_after_work s StartsFromLog) g pin began
  log_facts = move_facts o c n s g pin began (state_after_work s StartsFromLog).walk (is_collection s.calling.job) (state_after_work s StartsFromLog).blocks.named
      (length_first (is_collection s.calling.job) s.blocks.named (front s)) f may.free (λ running. may.no_bases)
      (no_bases_hold o c n s g pin began (front_base s) (is_collection s.calling.job) f may.no_bases) refl (λ some. length_unmapped) (λ some. walk_begun some) (λ some. noted_begun some)
