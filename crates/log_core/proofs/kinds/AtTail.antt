-- What was found at the tail is taken in, at the same position: a seal, and the walk is at the end of its block; or the link of a block, and
-- the walk goes on at the next one.
use Rattle.std.proofs.Common.{◌≡◌, ◌≢◌, ◌<◌, ◌≤◌, ◌+◌, ◌-◌, nat_lt, ℕ, Bool, true, false, List, [], ◌∷◌, length, take, refl, sym, ◌∙◌, ap, subst, arith, slice_index, Some, ◌⊎◌, inl, inr, ◌==◌, ◌||◌}
use Rattle.std.proofs.lemmas.Bool.{ltb-true, ltb-false, or_left}
use Rattle.log_image.specs.Image.{words_in}
use Rattle.pmem_words.specs.Seats.{Seat}
use Rattle.log_core.specs.Entries.{place_in}
use Rattle.log_core.specs.Views.{Ghost, view_of}
use Rattle.log_image.specs.Chains.{is_listed}
use Rattle.log_core.specs.Origin.{Origin, shape, start_base, first_generation, LogBlock, no_log}
use Rattle.log_core.specs.Files.{entries}
use Rattle.log_core.specs.Cores.{Core, generation_at, is_named, nth_log, log_at, number_at, entries_used, is_sealed, is_full}
use Rattle.log_core.specs.Works.{Follows, kept_at, kept_word, words_of, state_after_work, TakesSeal, tail_word}
use Rattle.log_core.specs.Order.{nth_generation}
use Rattle.log_core.specs.Walks.{WalkHolds, HasWalked, IsKeptWord}
use Rattle.log_core.specs.Noted.{NotedHolds, is_named_before}
use Rattle.log_core.specs.Invariant.{Invariant, KeptIn, around}
use Rattle.log_core.specs.Knows.{Knows}
use Rattle.log_core.proofs.Facts.{place_facts, stays_away}
use Rattle.log_core.proofs.Heads.{kept_place}
use Rattle.log_core.proofs.KeptWords.{some_word, present_word, kept_holds}
use Rattle.log_core.proofs.NotedBits.{length_more, more_noted}
use Rattle.log_core.proofs.NotedNames.{log_more}
use Rattle.log_core.proofs.NotedGrown.{noted_inside}
use Rattle.log_core.proofs.LogTails.{TailLog, tail_log, log_again, number_again, entries_short, sealed_at, sealed_short}
use Rattle.log_entry.specs.declared.layouts.TheConstants.{SEAL}
use Rattle.persistence.specs.Memory.{cell}
use Rattle.log_core.specs.Certain.{IsGrowing}

-- past the last log block there is none
no_block : (logs : List LogBlock) (number : ℕ) → length logs ≤ number → (nth_log logs number).block ≡ 0
no_block logs number past = ap (λ (l : LogBlock). l.block) (Rattle.std.proofs.lemmas.List.get_or_past logs number no_log past)

module _ (o : Origin) (c : Core) (n : ℕ) (s : Seat) (g : Ghost) (pin began : ℕ) (inv : Invariant o c) (f : Knows o c n s g pin began)
    (valid_pin : s.hold.valid ≡ true) (ready : s.walk.ready ≡ true) where
  abbrev place : ℕ
  place = s.hold.generation - first_generation o

  kept : KeptIn o c place
  kept = kept_place o c inv place (f.kept place valid_pin (let low = f.pin_holds.from_first (f.pin_holds.valid_some valid_pin) in omega (arith, low)))

  module _ (some : (view_of c.views n).parts ≢ []) where
    w : WalkHolds (around o c) s.hold s.walk
    w = f.walk some

    same_words : words_of s ≡ words_in (shape o)
    same_words = ap Rattle.pmem_words.specs.Seats.q_of (f.fits some).geometry

    walked : HasWalked o (entries o c.history) c.logs s.walk
    walked = w.walked (w.ready_walked ready).0 (w.ready_walked ready).1

    log : TailLog c s.walk (nth_generation c.generations place).cut
    log = tail_log o c inv place s.walk kept (w.ready_walked ready).0 walked (w.ready_base ready) (w.ready_tail ready)

    module _ (open_block : s.walk.tail_slot ≢ words_of s) (seal : tail_word s ≡ SEAL) where
      abbrev block : LogBlock
      block = nth_log c.logs (number_at c.logs s.walk.tail_base)

      -- the seal stands at the tail's slot
      found : SEAL ≡ slice_index c.memory.now.words (place_in (shape o) s.walk.tail_block s.walk.tail_slot)
      found = present_word (λ e. omega (arith, e)) (kept_holds
          (IsKeptWord (shape o) c.memory.now.words (λ named. is_named o c.logs (entries o c.history) (generation_at o c.generations s.hold.generation) named)
          (Rattle.std.proofs.Common.drop (generation_at o c.generations s.hold.generation).cut c.logs)) s.walk.kept s.walk.tail_block s.walk.tail_slot SEAL (w.kept_words valid_pin)
          (some_word (kept_at s.walk.kept s.walk.tail_block s.walk.tail_slot) SEAL seal (λ e. omega (arith, e)))).word_is

      abbrev slot : ℕ
      slot = s.walk.tail_slot - 3

      unclosed : s.walk.tail_slot ≢ words_in (shape o)
      unclosed e = open_block (e ∙ sym same_words)

      used_same : entries_used block ≡ entries_used (log_at c.logs s.walk.tail_base)
      used_same = ap (λ (l : LogBlock). entries_used l) log.log_is

      few : slot ≤ entries_used block
      few = (let inside = (walked.inside unclosed).1 in let same = used_same in omega (arith, inside, same))

      sealed_slot : slice_index block.slots slot ≡ SEAL
      sealed_slot =
          (let upto = walked.upto in
          let from = walked.from in
          let other = unclosed in
          let small = few in
          let short = entries_short block.slots in
          let grows : IsGrowing (cell c.memory (place_in (shape o) block.block (slot + 3))) (slice_index block.slots slot) =
          (inv.order.chains place kept (number_at c.logs s.walk.tail_base) log.late log.inside).slots slot (omega (arith, upto, from, other)) (λ sealed. omega (arith, small, short)) in
          let at : s.walk.tail_slot ≡ slot + 3 = omega (arith, from) in
          sym grows.present ∙ (ap (λ (b : ℕ). slice_index c.memory.now.words (place_in (shape o) b (slot + 3))) log.block_is
          ∙ (ap (λ (k : ℕ). slice_index c.memory.now.words (place_in (shape o) s.walk.tail_block k)) (sym at) ∙ sym found)))

      sealed : is_sealed block.slots ≡ true
      sealed = sealed_at block.slots slot sealed_slot

      -- the entries of the block are those before it
      all_before : entries_used block ≡ slot
      all_before =
          (let last = (inv.order.log.seal_last (number_at c.logs s.walk.tail_base) slot sealed_slot).0 in
          let short = sealed_short block.slots sealed in
          let small = few in
          omega (arith, last, short, small))

      walk_sealed : WalkHolds (around o c) s.hold (state_after_work s TakesSeal).walk
      walk_sealed = record {
        to_end = w.to_end;
        from_first = w.from_first;
        to_current = w.to_current;
        read = λ reading in_chain. (let r = w.read reading in_chain in record { inside = r.inside; block = r.block; from = r.from; upto = r.upto; table = r.table; size_is = r.size_is; position_is = r.position_is });
        kept_words = λ valid. tt;
        unpinned = λ invalid. refl;
        walked = λ some_block stopped. (let r = walked in record {
          table = r.table;
          size_is = r.size_is;
          base = r.base;
          block = r.block;
          from = (let wide = inv.sizes.image.wide in let same = same_words in omega (arith, wide, same));
          upto = (let same = same_words in omega (arith, same));
          inside = λ other. absurd (other same_words);
          at_end = λ closed. (
            subst (λ (l : LogBlock). is_full (shape o) l.slots ≡ true) log.log_is (or_left (is_sealed block.slots) (length block.slots + 3 == words_in (shape o)) sealed),
            (let position = (r.inside unclosed).0 in let used = all_before in let same = used_same in omega (arith, position, used, same)),
          );
        });
        ready_walked = w.ready_walked;
        ready_base = w.ready_base;
        ready_tail = w.ready_tail;
        seeking = w.seeking;
        first_known = w.first_known;
      }

    module _ (closed : s.walk.tail_slot ≡ words_of s) (linked : kept_word s s.walk.tail_block 0 ≢ 0) where
      abbrev next : ℕ
      next = kept_word s s.walk.tail_block 0

      abbrev number : ℕ
      number = number_at c.logs s.walk.tail_base

      -- the link names the next log block
      next_block : (nth_log c.logs (number + 1)).block ≡ next
      next_block =
          (let found : next ≡ slice_index c.memory.now.words (place_in (shape o) s.walk.tail_block 0) = present_word linked (kept_holds
          (IsKeptWord (shape o) c.memory.now.words (λ named. is_named o c.logs (entries o c.history) (generation_at o c.generations s.hold.generation) named)
          (Rattle.std.proofs.Common.drop (generation_at o c.generations s.hold.generation).cut c.logs)) s.walk.kept s.walk.tail_block 0 next (w.kept_words valid_pin)
          (some_word (kept_at s.walk.kept s.walk.tail_block 0) next refl linked)).word_is in
          sym (inv.order.chains place kept number log.late log.inside).link.present
          ∙ (ap (λ (b : ℕ). slice_index c.memory.now.words (place_in (shape o) b 0)) log.block_is ∙ sym found))

      next_inside : number + 1 < length c.logs
      next_inside = go (nat_lt (number + 1) (length c.logs)) refl
        where
          go : (b : Bool) → nat_lt (number + 1) (length c.logs) ≡ b → number + 1 < length c.logs
          go true e = ltb-true (number + 1) (length c.logs) e
          go false e = absurd (linked (sym next_block ∙ no_block c.logs (number + 1) (ltb-false (number + 1) (length c.logs) e)))

      position_is : s.walk.position ≡ s.walk.tail_base + entries_used (log_at c.logs s.walk.tail_base)
      position_is = (walked.at_end (closed ∙ same_words)).1

      -- which begins at the walk's position
      next_base : (nth_log c.logs (number + 1)).base ≡ s.walk.position
      next_base =
          (let rise = inv.order.log.next number next_inside in
          let base = log.base_is in
          let used : entries_used (nth_log c.logs number) ≡ entries_used (log_at c.logs s.walk.tail_base) = ap (λ (l : LogBlock). entries_used l) log.log_is in
          let position = position_is in
          omega (arith, rise, base, used, position))

      next_log : log_at c.logs s.walk.position ≡ nth_log c.logs (number + 1)
      next_log = ap (λ (base : ℕ). log_at c.logs base) (sym next_base) ∙ log_again o c inv (number + 1) next_inside

      walk_followed : WalkHolds (around o c) s.hold (state_after_work s Follows).walk
      walk_followed = record {
        to_end = w.to_end;
        from_first = w.from_first;
        to_current = w.to_current;
        read = λ reading in_chain. (let r = w.read reading in_chain in record { inside = r.inside; block = r.block; from = r.from; upto = r.upto; table = r.table; size_is = r.size_is; position_is = r.position_is });
        kept_words = λ valid. tt;
        unpinned = λ invalid. refl;
        walked = λ some_block stopped. (let r = walked in record {
          table = r.table;
          size_is = r.size_is;
          base = ap (λ (l : LogBlock). l.base) next_log ∙ next_base;
          block = ap (λ (l : LogBlock). l.block) next_log ∙ next_block;
          from = omega arith;
          upto = (let wide = inv.sizes.image.wide in omega (arith, wide));
          inside = λ other. (omega arith, omega arith);
          at_end = λ short. (let wide = inv.sizes.image.wide in absurd (omega (arith, wide, short)));
        });
        ready_walked = λ again. (let r = w.ready_walked again in (linked, r.1, r.2));
        ready_base = w.ready_base;
        ready_tail = λ again. (let low = w.ready_tail again in let position = position_is in omega (arith, low, position));
        seeking = w.seeking;
        first_known = w.first_known;
      }

      -- the chain names that log block more
      noted_followed : NotedHolds (around o c) s.hold (state_after_work s Follows).walk s.calling (state_after_work s Follows).blocks.named
      noted_followed = (
        (f.noted some).0,
        (λ on reading. (let both : true ≡ false = sym reading ∙ (w.ready_walked ready).1 in cc)),
        (λ on again b low. more_noted s.calling.noting s.blocks.named (next ∷ []) b on (noted_inside o c n s g pin began f some b low)
            ∙ (ap (λ (t : Bool). is_listed (next ∷ []) b || t) ((f.noted some).2 on again b low) ∙ sym (names_more b))),
      )
        where
          number_next : number_at c.logs s.walk.position ≡ number + 1
          number_next = ap (λ (base : ℕ). number_at c.logs base) (sym next_base) ∙ number_again o c inv (number + 1) next_inside

          names_more : (b : ℕ) → is_named_before o c.logs (entries o c.history) (nth_generation c.generations place) (state_after_work s Follows).walk b
              ≡ (is_listed (next ∷ []) b || is_named_before o c.logs (entries o c.history) (nth_generation c.generations place) s.walk b)
          names_more b = ap (λ (k : ℕ). is_named o (take (k + 1) c.logs) (take (s.walk.position - start_base o) (entries o c.history)) (nth_generation c.generations place) b) number_next
              ∙ (log_more o c.logs (take (s.walk.position - start_base o) (entries o c.history)) (nth_generation c.generations place) number (let late = log.late in omega (arith, late)) next_inside b
              ∙ ap (λ (other : ℕ). is_listed (other ∷ []) b || is_named_before o c.logs (entries o c.history) (nth_generation c.generations place) s.walk b) next_block)

  pub seal_facts : s.walk.tail_slot ≢ words_of s → tail_word s ≡ SEAL → Knows o c n (state_after_work s TakesSeal) g pin began
  seal_facts open_block seal = place_facts o c n s g pin began f [] s.walk.tail_block s.walk.tail_base (words_of s) s.walk.ready s.walk.snapshot_base s.walk.first_log s.walk.at_tail s.blocks.named refl (stays_away o c n s g pin began f) f.tail
      (λ some. walk_sealed some open_block seal) f.noted

  pub follow_facts : s.walk.tail_slot ≡ words_of s → kept_word s s.walk.tail_block 0 ≢ 0 → Knows o c n (state_after_work s Follows) g pin began
  follow_facts closed linked = place_facts o c n s g pin began f [] (kept_word s s.walk.tail_block 0) s.walk.position 3 s.walk.ready s.walk.snapshot_base s.walk.first_log s.walk.at_tail (state_after_work s Follows).blocks.named (length_more s.calling.noting s.blocks.named _) (stays_away o c n s g pin began f)
      (λ at. (let r = f.tail at in record { walked = linked; from_first = r.from_first; begun = r.begun; records = r.records }))
      (λ some. walk_followed some closed linked) (λ some. noted_followed some closed linked)
