-- The walks of all seats, where a step puts a word more into the last log block.
use Rattle.std.proofs.Common.{◌⊎◌, ◌%◌, ◌<◌, ◌≡◌, ◌≢◌, ◌≤◌, ◌+◌, ◌-◌, ◌/◌, ⊎_elim, inl, inr, ℕ, true, List, length, drop, sym, ◌∙◌, ap, subst, arith, slice_index}
use Rattle.std.specs.List.{AllByRecursion}
use Rattle.std.proofs.lemmas.Nat.{div-mul-add}
use Rattle.log_image.specs.Image.{words_in}
use Rattle.log_image.specs.Entries.{Meaning}
use Rattle.log_image.specs.Maps.{map_of}
use Rattle.log_image.specs.Blocks.{entry_count}
use Rattle.log_image.specs.Chains.{is_listed}
use Rattle.pmem_words.specs.declared.keeps.KeptWord.{KeptWord}
use Rattle.pmem_words.specs.Seats.{Hold, Walk}
use Rattle.persistence.specs.Memory.{Cell}
use Rattle.log_core.specs.Entries.{place_in}
use Rattle.log_core.specs.Views.{View}
use Rattle.log_core.specs.Origin.{no_log, Origin, shape, first_generation, Generation, LogBlock}
use Rattle.log_core.specs.Files.{entries, end_of}
use Rattle.log_core.specs.Cores.{generation_at, Core, is_named, is_full, entries_used, log_at, log_blocks, data_names}
use Rattle.log_core.specs.Order.{nth_generation}
use Rattle.log_core.specs.Walks.{IsFirstLog, WalkHolds, HasWalked, HasRead, IsKeptWord}
use Rattle.log_core.specs.Invariant.{Invariant, KeptIn, around}
use Rattle.log_core.proofs.Each.{each_weaker}
use Rattle.log_core.proofs.SameContents.{same_read}
use Rattle.log_core.proofs.SnapshotReads.{is_of_snapshot}
use Rattle.log_core.proofs.clauses.Apart.{has_left, has_log, data_is_named}
use Rattle.log_core.proofs.clauses.OneView.{same_or_other}
use Rattle.log_core.proofs.clauses.Growth.{Growth, Grows, LogLater, grown, recorded_grown, last_log}
use Rattle.log_core.proofs.clauses.GrownWords.{last_inside, last_late, other_cell}
use Rattle.log_core.proofs.clauses.GrownNames.{named_more, named_recorded}
use Rattle.log_core.proofs.clauses.GrownContents.{map_same, size_same}
use Rattle.std.proofs.lemmas.List.{get_or_past}
use Rattle.std.proofs.lemmas.Bool.{cases_lt}

module _ (o : Origin) (c : Core) (x : Growth) (inv : Invariant o c) (grows : Grows o c x) where
  abbrev gen : ℕ → Generation
  gen place = nth_generation c.generations place

  -- a kept word of a block that a kept generation names: where it is the new one, it was found 0
  pub word_grown : (place : ℕ) → KeptIn o c place → (kept : KeptWord) →
      IsKeptWord (shape o) c.memory.now.words (λ block. is_named o c.logs (entries o c.history) (gen place) block) (drop (gen place).cut c.logs) kept →
      IsKeptWord (shape o) x.memory.now.words (λ block. is_named o x.logs (entries o x.history) (gen place) block) (drop (gen place).cut x.logs) kept
  word_grown place in_chain kept r = record {
    named = named_more o c x inv grows place kept.block in_chain.inside r.named;
    inside = r.inside;
    word_is = ⊎_elim
        (λ (same : kept.word ≡ slice_index c.memory.now.words (place_in (shape o) kept.block kept.slot)). same_or_other (place_in (shape o) kept.block kept.slot) (place_in (shape o) (last_log c).block x.index)
        (λ here. inr (same ∙ (ap (λ (at : ℕ). slice_index c.memory.now.words at) here ∙ grows.memory.was), here_listed here))
        (λ other. inl (same ∙ sym (ap (λ (a : Cell). a.present) (other_cell o c x inv grows (place_in (shape o) kept.block kept.slot) other)))))
        (λ (zero_word : (kept.word ≡ 0) × (is_listed (log_blocks (drop (gen place).cut c.logs)) kept.block ≡ true)). inr (zero_word.0, still_listed kept.block zero_word.1))
        r.word_is;
    early = λ at. same_or_other (place_in (shape o) kept.block kept.slot) (place_in (shape o) (last_log c).block x.index)
        (λ here. absurd (not_there here at))
        (λ other. r.early at ∙ sym (ap (λ (a : Cell). a.present) (other_cell o c x inv grows (place_in (shape o) kept.block kept.slot) other)));
  }
    where
      -- the word that is put in is a slot or a link
      not_there : place_in (shape o) kept.block kept.slot ≡ place_in (shape o) (last_log c).block x.index → (kept.slot ≡ 1) ⊎ (kept.slot ≡ 2) → ⊥
      not_there here at =
          (let same : kept.slot ≡ x.index = sym (Rattle.std.proofs.lemmas.Nat.mod-mul-add kept.block (words_in (shape o)) kept.slot r.inside)
          ∙ (ap (λ (k : ℕ). k % words_in (shape o)) here ∙ Rattle.std.proofs.lemmas.Nat.mod-mul-add (last_log c).block (words_in (shape o)) x.index grows.index) in
          ⊎_elim (λ one. grows.first (sym same ∙ one)) (λ two. grows.second (sym same ∙ two)) at)

      still_listed : (block : ℕ) → is_listed (log_blocks (drop (gen place).cut c.logs)) block ≡ true → is_listed (log_blocks (drop (gen place).cut x.logs)) block ≡ true
      still_listed block listed = subst (λ (l : List ℕ). is_listed l block ≡ true) (sym (grows.logs.blocks (gen place).cut (inv.order.generations_rise.cut_inside place in_chain.inside)))
          (has_left (log_blocks (drop (gen place).cut c.logs)) x.linked block listed)

      here_listed : place_in (shape o) kept.block kept.slot ≡ place_in (shape o) (last_log c).block x.index → is_listed (log_blocks (drop (gen place).cut x.logs)) kept.block ≡ true
      here_listed here = still_listed kept.block (subst (λ (b : ℕ). is_listed (log_blocks (drop (gen place).cut c.logs)) b ≡ true)
          (sym (div-mul-add (last_log c).block (words_in (shape o)) x.index grows.index) ∙ (ap (λ (at : ℕ). at / words_in (shape o)) (sym here) ∙ div-mul-add kept.block (words_in (shape o)) kept.slot r.inside))
          (has_log c.logs (gen place).cut (length c.logs - 1) (last_late o c inv place in_chain) (last_inside o c inv)))

  -- a view that has walked
  pub walked_grown : (w : Walk) → w.tail_block ≢ 0 → w.position ≤ end_of o c.history → HasWalked o (entries o c.history) c.logs w → HasWalked o (entries o x.history) x.logs w
  walked_grown w some low r = record {
    table = λ virt. r.table virt ∙ sym (map_same o c x inv grows w.position virt low);
    size_is = r.size_is ∙ sym (size_same o c x inv grows w.position low);
    base = later.base ∙ r.base;
    block = later.block ∙ r.block;
    from = r.from;
    upto = r.upto;
    inside = λ other. (let both = r.inside other in (both.0, (let few = both.1 in let more = later.used in omega (arith, few, more))));
    at_end = λ last. (let both = r.at_end last in let same = later.full both.0 in (
      subst (λ (l : LogBlock). is_full (shape o) l.slots ≡ true) (sym same) both.0,
      both.1 ∙ ap (λ (l : LogBlock). w.tail_base + entries_used l) (sym same),
    ));
  }
    where
      later : LogLater (shape o) (log_at c.logs w.tail_base) (log_at x.logs w.tail_base)
      later = grows.logs.at w.tail_base (λ none. some (sym r.block ∙ none))

  -- what is read of a snapshot of a kept generation
  pub read_grown : (place : ℕ) → KeptIn o c place → (w : Walk) → HasRead c.recorded (gen place) w → HasRead (λ block. recorded_grown c x block) (gen place) w
  read_grown place kept w r = record {
    inside = r.inside;
    block = r.block;
    from = r.from;
    upto = subst (λ (words : List ℕ). w.reading_slot ≤ 3 + entry_count words) (sym (in_snapshot w.reading_block (is_of_snapshot c.recorded (gen place) w r))) r.upto;
    table = λ virt. r.table virt ∙ ap (λ (l : List Meaning). map_of l virt) (sym (same_read (shape o) c.recorded (λ block. recorded_grown c x block) (gen place).snapshots w.reading_block w.reading_slot in_snapshot));
    size_is = r.size_is;
    position_is = r.position_is;
  }
    where
      in_snapshot : (block : ℕ) → is_listed (gen place).snapshots block ≡ true → recorded_grown c x block ≡ c.recorded block
      in_snapshot block listed = named_recorded o c x inv grows place block kept
          (data_is_named o c.logs (entries o c.history) (gen place) block (has_left (gen place).snapshots (data_names o (entries o c.history) (gen place)) block listed))

  -- a first log block stays where it is: it is one of the log's, as it is not 0
  first_grown : (generation block : ℕ) → block ≢ 0 → IsFirstLog o c.generations c.logs generation block → IsFirstLog o c.generations x.logs generation block
  first_grown generation block known r = record { some = r.some; is = r.is ∙ sym (grows.logs.each cut inside).block }
    where
      cut : ℕ
      cut = (generation_at o c.generations generation).cut

      inside : cut < length c.logs
      inside = ⊎_elim (λ low. low) (λ past. absurd (known (r.is ∙ ap (λ (l : LogBlock). l.block) (get_or_past c.logs cut no_log past)))) (cases_lt cut (length c.logs))

  -- the core with other views
  abbrev pub with_views : List View → List ℕ → Core
  with_views views began = record (grown c x) { views = views; began = began }

  module _ (views : List View) (began : List ℕ) (kept_before : (place : ℕ) → KeptIn o (with_views views began) place → KeptIn o c place) (h : Hold)
      (pinned : h.valid ≡ true → KeptIn o c (h.generation - first_generation o)) where
    -- the kept words of a valid pin
    pub kept_grown : (w : Walk) → WalkHolds (around o c) h w → h.valid ≡ true →
        AllByRecursion (IsKeptWord (shape o) x.memory.now.words (λ block. is_named o x.logs (entries o x.history) (gen (h.generation - first_generation o)) block)
        (drop (gen (h.generation - first_generation o)).cut x.logs)) w.kept
    kept_grown w r valid = each_weaker _ _ w.kept (word_grown (h.generation - first_generation o) (pinned valid)) (r.kept_words valid)

    -- a walk whose valid pin is of a kept generation
    pub walk_grown : (w : Walk) → WalkHolds (around o c) h w → WalkHolds (around o (with_views views began)) h w
    walk_grown w r = record {
      to_end = (let low = r.to_end in let more = grows.history.longer in omega (arith, low, more));
      from_first = r.from_first;
      to_current = r.to_current;
      read = λ reading kept. (let before = kept_before (w.reading_generation - first_generation o) kept in read_grown (w.reading_generation - first_generation o) before w (r.read reading before));
      kept_words = λ valid. kept_grown w r valid;
      unpinned = r.unpinned;
      walked = λ some stopped. walked_grown w some r.to_end (r.walked some stopped);
      ready_walked = r.ready_walked;
      ready_base = r.ready_base;
      ready_tail = r.ready_tail;
      seeking = r.seeking;
      first_known = λ known. first_grown h.generation w.first_log known (r.first_known known);
    }
