-- Each mark that may be made is of a word of the image, and fits the sync that makes it.
use Rattle.std.proofs.Common.{◌≡◌, ◌≢◌, ◌<◌, ◌+◌, ◌-◌, ◌==◌, ℕ, true, [], length, drop, sym, ◌∙◌, ap, subst, arith}
use Rattle.std.specs.List.{list_any}
use Rattle.log_entry.specs.Fields.{field}
use Rattle.log_entry.specs.declared.layouts.TheConstants.{HEAD_GENERATION}
use Rattle.pmem_words.specs.declared.keeps.Task.TheVariants.{Sync, Collect}
use Rattle.pmem_words.specs.Seats.{Seat}
use Rattle.persistence.specs.Memory.{cell, index_at}
use Rattle.persistence.specs.Survivors.{value_at}
use Rattle.persistence.proofs.ValueLemmas.{index_at-now}
use Rattle.log_core.specs.Entries.{place_in, head_place}
use Rattle.log_core.specs.Views.{Ghost, view_of}
use Rattle.log_core.specs.Origin.{Origin, shape, q_of_origin, first_generation}
use Rattle.log_core.specs.Files.{entries}
use Rattle.log_core.specs.Cores.{Core, current, TrailWord, trail}
use Rattle.log_core.specs.Works.{tail_index}
use Rattle.log_core.specs.Order.{nth_generation}
use Rattle.log_core.specs.May.{MayMark, OfOwned, OfNewHead, OfHead, OfTrail, walked_trail}
use Rattle.log_core.specs.Synced.{SyncMarkHolds}
use Rattle.log_core.specs.Invariant.{Invariant, KeptIn, names_by}
use Rattle.log_core.specs.Knows.{Knows}
use Rattle.log_core.proofs.Heads.{last_value, head_generation, kept_place}
use Rattle.log_core.proofs.Trails.{before_is_on, on_trail}
use Rattle.log_core.proofs.ChainPlaces.{ChainPlace, head_inside, on_chain, chain_named, chain_other, chain_inside}
use Rattle.log_core.proofs.clauses.OwnWords.{word_inside}

-- a mark now of a word, where the seat's generation is this one
pub record FitsMark (o : Origin) (c : Core) (n : ℕ) (s : Seat) (word : ℕ) : Type 0 where
  pub inside : word < length o.words
  pub fits : s.calling.job ≡ Sync →
      SyncMarkHolds (q_of_origin o) (names_by o c.logs (entries o c.history) c.generations) (λ k. cell c.memory k) c.memory.past s.hold.generation (record { seat = n; word = word; time = length c.memory.past })
  pub valid : s.calling.job ≡ Sync → s.hold.valid ≡ true

module _ (o : Origin) (c : Core) (n : ℕ) (s : Seat) (g : Ghost) (pin began : ℕ) (inv : Invariant o c) (f : Knows o c n s g pin began) (unspent : (view_of c.views n).parts ≢ []) where
  -- the head's present generation is not below that of a valid pin
  head_fits : (word : ℕ) → word ≡ head_place → s.hold.valid ≡ true →
      SyncMarkHolds (q_of_origin o) (names_by o c.logs (entries o c.history) c.generations) (λ k. cell c.memory k) c.memory.past s.hold.generation (record { seat = n; word = word; time = length c.memory.past })
  head_fits word is valid = record {
    head = λ here. (let now : field HEAD_GENERATION (value_at (cell c.memory head_place) (index_at c.memory.past (length c.memory.past) head_place)) ≡ current o c.generations =
        ap (λ (k : ℕ). field HEAD_GENERATION (value_at (cell c.memory head_place) k)) (index_at-now c.memory.past head_place) ∙ (ap (field HEAD_GENERATION) (last_value (cell c.memory head_place)) ∙ head_generation o c inv) in
        let low = f.pin_holds.to_current (f.pin_holds.valid_some valid) in omega (arith, now, low));
    named = λ other. absurd (other is);
    other = λ other. absurd (other is);
  }

  -- the place of the pinned generation, which is kept
  pub pinned_same : s.hold.valid ≡ true → s.hold.generation ≡ first_generation o + (s.hold.generation - first_generation o)
  pinned_same valid = (let low = f.pin_holds.from_first (f.pin_holds.valid_some valid) in omega (arith, low))

  pub pinned_kept : s.hold.valid ≡ true → KeptIn o c (s.hold.generation - first_generation o)
  pinned_kept valid = kept_place o c inv (s.hold.generation - first_generation o) (f.kept (s.hold.generation - first_generation o) valid (pinned_same valid))

  -- a used slot or a link of the pinned chain before the tail
  pub on_walked : (word : ℕ) → s.hold.valid ≡ true → list_any (λ (t : TrailWord). t.place == word) (walked_trail o c s) ≡ true → ChainPlace o c (nth_generation c.generations (s.hold.generation - first_generation o)).cut word
  on_walked word valid on = on_chain o c inv (s.hold.generation - first_generation o) (pinned_kept valid) word
      (on_trail (shape o) (drop (nth_generation c.generations (s.hold.generation - first_generation o)).cut c.logs) word
      (before_is_on (place_in (shape o) s.walk.tail_block (tail_index s)) word (trail (shape o) (drop (nth_generation c.generations (s.hold.generation - first_generation o)).cut c.logs)) on))

  trail_fits : (word : ℕ) → s.hold.valid ≡ true → ChainPlace o c (nth_generation c.generations (s.hold.generation - first_generation o)).cut word → FitsMark o c n s word
  trail_fits word valid on = record {
    inside = chain_inside o c inv (s.hold.generation - first_generation o) (pinned_kept valid) word on;
    fits = λ sync. record {
      head = λ is. absurd (chain_other o c inv (s.hold.generation - first_generation o) (pinned_kept valid) word on is);
      named = λ other. chain_named o c inv (s.hold.generation - first_generation o) (pinned_kept valid) word on;
      other = λ other. (index_at-now c.memory.past word, on.some);
    };
    valid = λ sync. valid;
  }

  pub mark_fits : (word : ℕ) → MayMark (walked_trail o c s) g s word → FitsMark o c n s word
  mark_fits word (OfOwned owned no_sync) = record {
    inside = word_inside o c n s g pin began inv f unspent word owned;
    fits = λ sync. absurd (no_sync sync);
    valid = λ sync. absurd (no_sync sync);
  }
  mark_fits word (OfNewHead is put) = record {
    inside = subst (λ (w : ℕ). w < length o.words) (sym is) (head_inside o c inv);
    fits = λ sync. absurd (no_collect sync);
    valid = λ sync. absurd (no_collect sync);
  }
    where
      no_collect : s.calling.job ≡ Sync → ⊥
      no_collect sync = (let both : Sync ≡ Collect = sym sync ∙ f.calls.task.put_collects put in cc)
  mark_fits word (OfHead is sync valid) = record { inside = subst (λ (w : ℕ). w < length o.words) (sym is) (head_inside o c inv); fits = λ again. head_fits word is valid; valid = λ again. valid }
  mark_fits word (OfTrail on sync valid) = trail_fits word valid (on_walked word valid on)
