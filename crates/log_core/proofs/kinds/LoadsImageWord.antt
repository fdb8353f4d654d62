-- A load of a word of the pinned chain: it is kept as it was found, and where it is the empty tail the view is at the end.
use Rattle.std.proofs.Common.{◌≡◌, ◌≢◌, ◌<◌, ◌≤◌, ◌+◌, ◌-◌, ◌*◌, ◌/◌, ◌%◌, ◌==◌, ◌&&◌, ◌||◌, ℕ, Bool, true, false, if◌then◌else◌, List, [], ◌∷◌, ◌++◌, length, refl, sym, ◌∙◌, ap, subst, arith, inl, inr, slice_index}
use Rattle.std.proofs.lemmas.Bool.{eqb-true, and_parts, or_from, cases_Bool}
use Rattle.std.proofs.Math.Nat.{mod-add-div}
use Rattle.log_entry.specs.declared.calls.Call.{Call}
use Rattle.log_image.specs.Image.{Shape, words_in, total, shape_by}
use Rattle.pmem_words.specs.Seats.{Seat}
use Rattle.persistence.specs.Memory.{cell}
use Rattle.log_core.specs.Entries.{place_in}
use Rattle.log_core.specs.Views.{Ghost, view_of}
use Rattle.log_core.specs.Origin.{Origin, shape, first_generation, Owner, Free, LogBlock}
use Rattle.log_core.specs.Files.{entries, end_of}
use Rattle.log_core.specs.Cores.{Core, generation_at, is_named, nth_log, log_at, number_at, entries_used}
use Rattle.log_core.specs.Works.{seat_shape, words_of, tail_index}
use Rattle.log_core.specs.Steps.{kept_with, is_tail_found}
use Rattle.log_core.specs.May.{MayLoadImageWord}
use Rattle.log_core.specs.Contents.{IsStillTaken}
use Rattle.log_core.specs.Walks.{WalkHolds, HasWalked, IsKeptWord}
use Rattle.log_core.specs.Records.{RecordHolds, StandsAtTail}
use Rattle.log_core.specs.Invariant.{Invariant, KeptIn, around}
use Rattle.log_core.specs.Knows.{Knows}
use Rattle.log_core.proofs.Facts.{place_facts, stays_away}
use Rattle.log_core.proofs.Each.{each_weaker, each_push}
use Rattle.log_core.proofs.Heads.{kept_place}
use Rattle.log_core.proofs.LogTails.{tail_log, empty_slot, empty_link}
use Rattle.log_core.proofs.clauses.Apart.{either_of}
use Rattle.log_core.proofs.clauses.OwnWords.{word_below}
use Rattle.log_core.proofs.clauses.OneView.{same_or_other}

-- a word is the one of its place in its block
pub place_again : (q word : ℕ) → word / q * q + word % q ≡ word
place_again q word = (let whole = mod-add-div word q in omega (arith, whole))

module _ (o : Origin) (c : Core) (n : ℕ) (s : Seat) (g : Ghost) (pin began word : ℕ) (inv : Invariant o c) (f : Knows o c n s g pin began) (unspent : (view_of c.views n).parts ≢ [])
    (may : MayLoadImageWord s (λ block. is_named o c.logs (entries o c.history) (generation_at o c.generations s.hold.generation) block) word) where
  abbrev value : ℕ
  value = slice_index c.memory.now.words word

  abbrev found : Bool
  found = is_tail_found s word value

  same_shape : seat_shape s ≡ shape o
  same_shape = ap shape_by (f.fits unspent).geometry

  same_words : words_of s ≡ words_in (shape o)
  same_words = ap Rattle.pmem_words.specs.Seats.q_of (f.fits unspent).geometry

  w : WalkHolds (around o c) s.hold s.walk
  w = f.walk unspent

  -- the pinned generation is kept
  abbrev place : ℕ
  place = s.hold.generation - first_generation o

  from_first : first_generation o ≤ s.hold.generation
  from_first = f.pin_holds.from_first (f.pin_holds.valid_some may.valid)

  kept : KeptIn o c place
  kept = kept_place o c inv place (f.kept place may.valid (let low = from_first in omega (arith, low)))

  -- the word is one of the image
  pub named_inside : word < length o.words
  named_inside =
      (let image = inv.sizes.image in
      let wide = image.wide in
      let whole = image.whole in
      let taken = (inv.contents place kept).taken (word / words_of s) may.named in
      let block : word / words_of s < total (shape o) = inv.owners.bits.inside (word / words_of s) (λ free. never_free (subst (λ (whose : Owner). IsStillTaken whose) free taken)) in
      let low : word < total (shape o) * words_in (shape o) = word_below (words_in (shape o)) (total (shape o)) word (omega (arith, wide)) (subst (λ (q : ℕ). word / q < total (shape o)) same_words block) in
      omega (arith, whole, low))
    where
      never_free : IsStillTaken Free → ⊥
      never_free (inl chain) = cc
      never_free (inr left) = (let e = left.1 in cc)

  -- the word is kept as it was found
  kept_word : IsKeptWord (shape o) c.memory.now.words (λ block. is_named o c.logs (entries o c.history) (generation_at o c.generations s.hold.generation) block)
      (Rattle.std.proofs.Common.drop (generation_at o c.generations s.hold.generation).cut c.logs) (record { block = word / words_of s; slot = word % words_of s; word = value })
  kept_word = record {
    named = may.named;
    inside = subst (λ (q : ℕ). word % q < words_in (shape o)) (sym same_words) (let wide = inv.sizes.image.wide in Rattle.std.proofs.Math.Nat.mod-lt word (omega (arith, wide)));
    word_is = inl present;
    early = λ at. present;
  }
    where
      present : value ≡ slice_index c.memory.now.words (word / words_of s * words_in (shape o) + word % words_of s)
      present = subst (λ (q : ℕ). value ≡ slice_index c.memory.now.words (word / q * words_in (shape o) + word % q)) (sym same_words)
          (ap (λ (at : ℕ). slice_index c.memory.now.words at) (sym (place_again (words_in (shape o)) word)))

  walk_loaded : (at_tail : Bool) → WalkHolds (around o c) s.hold (record (s.walk) { kept = kept_with (words_of s) s.walk.kept word value; at_tail = at_tail })
  walk_loaded at_tail = record {
    to_end = w.to_end;
    from_first = w.from_first;
    to_current = w.to_current;
    read = λ reading kept. (let r = w.read reading kept in record { inside = r.inside; block = r.block; from = r.from; upto = r.upto; table = r.table; size_is = r.size_is; position_is = r.position_is });
    kept_words = λ valid. each_push
        (IsKeptWord (shape o) c.memory.now.words (λ block. is_named o c.logs (entries o c.history) (generation_at o c.generations s.hold.generation) block)
        (Rattle.std.proofs.Common.drop (generation_at o c.generations s.hold.generation).cut c.logs)) s.walk.kept (record { block = word / words_of s; slot = word % words_of s; word = value }) (w.kept_words valid) kept_word;
    unpinned = λ invalid. (let both : true ≡ false = sym may.valid ∙ invalid in cc);
    walked = λ some stopped. (let r = w.walked some stopped in record { table = r.table; size_is = r.size_is; base = r.base; block = r.block; from = r.from; upto = r.upto; inside = r.inside; at_end = r.at_end });
    ready_walked = w.ready_walked;
    ready_base = w.ready_base;
    ready_tail = w.ready_tail;
    seeking = w.seeking;
    first_known = w.first_known;
  }

  -- where the empty tail was found the view was ready, the word is 0, and it is the tail's
  found_parts : found ≡ true → (s.walk.ready ≡ true) × (value ≡ 0) × (word ≡ place_in (shape o) s.walk.tail_block (tail_index s))
  found_parts e =
      (let both = and_parts (s.walk.ready && (value == 0)) (word == place_in (seat_shape s) s.walk.tail_block (tail_index s)) e in
      let first = and_parts s.walk.ready (value == 0) both.0 in
      (first.0, eqb-true value 0 first.1, subst (λ (image : Shape). word ≡ place_in image s.walk.tail_block (tail_index s)) same_shape (eqb-true word (place_in (seat_shape s) s.walk.tail_block (tail_index s)) both.1)))

  -- so the view is at the end
  pub at_end : found ≡ true → s.walk.position ≡ end_of o c.history
  at_end e =
      (let parts = found_parts e in
      let ready = w.ready_walked parts.0 in
      let walked : HasWalked o (entries o c.history) c.logs s.walk = w.walked ready.0 ready.1 in
      let log = tail_log o c inv place s.walk kept ready.0 walked (w.ready_base parts.0) (w.ready_tail parts.0) in
      let number_base = log.base_is in
      same_or_other s.walk.tail_slot (words_in (shape o))
      (λ closed.
      (let ends = (walked.at_end closed).1 in
      let index : tail_index s ≡ 0 = at_link closed in
      let empty : (cell c.memory (place_in (shape o) (nth_log c.logs (number_at c.logs s.walk.tail_base)).block 0)).present ≡ 0 =
      ap (λ (block : ℕ). slice_index c.memory.now.words (place_in (shape o) block 0)) log.block_is
      ∙ (ap (λ (k : ℕ). slice_index c.memory.now.words (place_in (shape o) s.walk.tail_block k)) (sym index) ∙ (ap (λ (at : ℕ). slice_index c.memory.now.words at) (sym parts.2) ∙ parts.1)) in
      let last = empty_link o c inv place (number_at c.logs s.walk.tail_base) kept log.late log.inside empty in
      let used : entries_used (nth_log c.logs (number_at c.logs s.walk.tail_base)) ≡ entries_used (log_at c.logs s.walk.tail_base) = ap (λ (l : LogBlock). entries_used l) log.log_is in
      omega (arith, ends, last, used, number_base)))
      (λ unclosed.
      (let inside = walked.inside unclosed in
      let upto = walked.upto in
      let from = walked.from in
      let index : tail_index s ≡ s.walk.tail_slot = at_slot unclosed in
      let slot : s.walk.tail_slot - 3 + 3 ≡ s.walk.tail_slot = omega (arith, from) in
      let empty : (cell c.memory (place_in (shape o) (nth_log c.logs (number_at c.logs s.walk.tail_base)).block (s.walk.tail_slot - 3 + 3))).present ≡ 0 =
      ap (λ (block : ℕ). slice_index c.memory.now.words (place_in (shape o) block (s.walk.tail_slot - 3 + 3))) log.block_is
      ∙ (ap (λ (k : ℕ). slice_index c.memory.now.words (place_in (shape o) s.walk.tail_block k)) (slot ∙ sym index) ∙ (ap (λ (at : ℕ). slice_index c.memory.now.words at) (sym parts.2) ∙ parts.1)) in
      let used : entries_used (nth_log c.logs (number_at c.logs s.walk.tail_base)) ≡ entries_used (log_at c.logs s.walk.tail_base) = ap (λ (l : LogBlock). entries_used l) log.log_is in
      let few = inside.1 in
      let last = empty_slot o c inv place (number_at c.logs s.walk.tail_base) kept log.late log.inside (s.walk.tail_slot - 3) (omega (arith, upto, from, unclosed)) (omega (arith, few, used)) empty in
      let position = inside.0 in
      omega (arith, position, last, number_base))))
    where
      at_link : s.walk.tail_slot ≡ words_in (shape o) → tail_index s ≡ 0
      at_link closed = rw (Rattle.std.proofs.lemmas.Bool.eq-eqb s.walk.tail_slot (words_of s) (closed ∙ sym same_words)) refl

      at_slot : s.walk.tail_slot ≢ words_in (shape o) → tail_index s ≡ s.walk.tail_slot
      at_slot unclosed = rw (Rattle.std.proofs.lemmas.Bool.ne_eqb s.walk.tail_slot (words_of s) (λ e. unclosed (e ∙ same_words))) refl

  -- while a snapshot is read no tail is found
  not_found : s.walk.reading ≡ true → found ≡ false
  not_found reading = go found refl
    where
      go : (b : Bool) → found ≡ b → b ≡ false
      go false e = refl
      go true e = (let both : true ≡ false = sym reading ∙ (w.ready_walked (found_parts e).0).1 in cc)

  -- what a view at its tail has
  stands_at_tail : began ≤ end_of o c.history → found ≡ true → StandsAtTail (view_of c.views n).first began s.walk.position s.walk.tail_block (view_of c.views n).done
  stands_at_tail low here = (let same = at_end here in record {
    walked = (w.ready_walked (found_parts here).0).0;
    from_first = (let first = (f.fits unspent).first in let synced = inv.syncs.from_first in let upto = inv.syncs.to_end in omega (arith, first, synced, upto, same));
    begun = omega (arith, low, same);
    records = each_weaker (RecordHolds o c.history c.generations) (λ (call : Call). call.position ≤ s.walk.position) (view_of c.views n).done
        (λ call holds. (let upto = holds.to_end in omega (arith, upto, same))) (inv.records.records n);
  })

  abbrev pub loaded : Seat
  loaded = record s { walk = record (s.walk) { kept = kept_with (words_of s) s.walk.kept word value; at_tail = s.walk.at_tail || found } }

  pub image_facts : began ≤ end_of o c.history → Knows o c n loaded g pin began
  image_facts low = place_facts o c n s g pin began f (kept_with (words_of s) s.walk.kept word value) s.walk.tail_block s.walk.tail_base s.walk.tail_slot s.walk.ready s.walk.snapshot_base s.walk.first_log (s.walk.at_tail || found) s.blocks.named refl
      (λ reading. or_from s.walk.at_tail found (stays_away o c n s g pin began f reading) (not_found reading))
      (λ at. either_of s.walk.at_tail found at f.tail (λ here. stands_at_tail low here))
      (λ some. walk_loaded (s.walk.at_tail || found)) f.noted
