-- An exchange of a slot keeps the invariant: for a seal or an entry, won or lost.
use Rattle.std.proofs.Common.{◌≡◌, ◌≢◌, ◌<◌, ◌≤◌, ◌+◌, ◌-◌, ◌^◌, ◌==◌, ◌&&◌, not, min, if◌then◌else◌, ℕ, Bool, true, false, List, [], length, refl, sym, subst, slice_index, slice_set}
use Rattle.std.proofs.lemmas.Bool.{eqb-true, eqb-false, and_parts}
use Rattle.log_entry.specs.Fields.{field}
use Rattle.log_entry.specs.Shape.{longest_of}
use Rattle.log_entry.specs.declared.layouts.TheConstants.{EMPTY, SEAL, INDIRECT_BLOCK}
use Rattle.log_image.specs.Image.{Shape, is_in_data}
use Rattle.log_image.specs.Entries.{names}
use Rattle.log_image.specs.Chains.{is_listed}
use Rattle.log_image.specs.Format.{fits, is_direct, is_indirect, is_indirect_block}
use Rattle.pmem_words.specs.Seats.{Seat}
use Rattle.asks.specs.declared.ask.Place.TheVariants.{Image}
use Rattle.asks.specs.declared.ask.Ask.TheVariants.{Exchange}
use Rattle.persistence.specs.Memory.{Memory, memory_after}
use Rattle.log_core.specs.Entries.{place_in, meaning_by}
use Rattle.log_core.specs.Views.{Ghost, view_of, op_in}
use Rattle.log_core.specs.Origin.{Origin, InChain}
use Rattle.log_core.specs.Files.{Write, entries, end_of}
use Rattle.log_core.specs.Cores.{Core, generation_at, is_named}
use Rattle.log_core.specs.Works.{seat_shape, words_of}
use Rattle.log_core.specs.Steps.{content_of, kept_with, slot_sealed, slot_exchanged, new_meaning, stored_but, stored_if}
use Rattle.log_core.specs.After.{history_if, slot_if, owner_if, recorded_if, op_or_size}
use Rattle.log_core.specs.May.{IsAtTail, MayExchangeSlot, MayLoadImageWord, is_log_entry_by}
use Rattle.log_core.specs.Invariant.{Invariant}
use Rattle.log_core.specs.Knows.{with_seat, Knows}
use Rattle.log_core.proofs.TailEnds.{tail_load}
use Rattle.log_core.proofs.clauses.Exchanged.{exchange_lost}
use Rattle.log_core.proofs.clauses.Leaves.{no_changes, changes_leave, pins_leave}
use Rattle.log_core.proofs.clauses.SetCore.{set_core}
use Rattle.log_core.proofs.clauses.GrowCore.{grow_core}
use Rattle.log_core.proofs.kinds.LosesExchange.{away_facts}
use Rattle.log_core.proofs.kinds.SealsSlot.{x as sealing, seal_grows, seal_knows}
use Rattle.log_core.proofs.kinds.CommitsEntry.{x as committing, commit_grows}
use Rattle.log_core.proofs.kinds.CommitsSeat.{commit_knows}

-- the word of an entry is not 0
entry_some : (content : ℕ → List ℕ) (image : Shape) (entry : ℕ) → is_log_entry_by content image entry ≡ true → entry ≢ EMPTY
entry_some content image entry good none =
    (let form = (and_parts (if is_direct entry then true else is_indirect entry && is_in_data image (field INDIRECT_BLOCK entry) && is_indirect_block image (content (field INDIRECT_BLOCK entry)))
    (fits image (longest_of image.block_bytes) (meaning_by content entry)) good).0 in
    let both : false ≡ true = subst (λ (word : ℕ). (if is_direct word then true else is_indirect word && is_in_data image (field INDIRECT_BLOCK word) && is_indirect_block image (content (field INDIRECT_BLOCK word))) ≡ true) none form in cc)

module _ (o : Origin) (c : Core) (n : ℕ) (s : Seat) (g : Ghost) (word entry number : ℕ) (began : List ℕ) (inv : Invariant o c) (here : n < length c.views) (unspent : (view_of c.views n).parts ≢ [])
    (f : Knows o c n s g (slice_index c.memory.now.pins n) (slice_index began n)) (may : MayExchangeSlot o c.history s word entry) (number_is : g.call.number ≡ number)
    (same_began : length began ≡ length c.began) (other_began : (k : ℕ) → k ≢ n → slice_index began k ≡ slice_index c.began k) (low_began : (k : ℕ) → slice_index began k ≤ end_of o c.history) where
  abbrev found : ℕ
  found = slice_index c.memory.now.words word

  abbrev pin : ℕ
  pin = slice_index c.memory.now.pins n

  abbrev start : ℕ
  start = slice_index began n

  -- the write of the call
  abbrev w : Write
  w = record { seat = n; number = number; op = op_or_size (op_in s); at = s.walk.size; entry = record { word = entry; meaning = new_meaning s entry } }

  -- the core after it, for a seal or not, won or not
  abbrev pub after_slot : Bool → Bool → Memory → Core
  after_slot seal won memory = record c {
    memory = memory;
    views = slice_set c.views n (with_seat (view_of c.views n) (if seal then slot_sealed s word found won else slot_exchanged s word entry found won)
        (record g { stored = stored_if (won && not seal) (stored_but (words_of s) (λ (block : ℕ). is_listed (names (new_meaning s entry)) block) g.stored) g.stored }));
    history = history_if (won && not seal) c.history w;
    logs = slot_if won c.logs entry;
    owner = λ block. owner_if (won && not seal) (names (new_meaning s entry)) InChain (c.owner block) block;
    recorded = λ block. recorded_if (won && not seal) (names (new_meaning s entry)) s (c.recorded block) block;
    began = began;
  }

  -- where it is lost
  lost_keeps : (lost : ℕ) → MayLoadImageWord s (λ block. is_named o c.logs (entries o c.history) (generation_at o c.generations s.hold.generation) block) word → (found == 0) ≡ false →
      Invariant o (record c {
        memory = memory_after c.memory n (Exchange (Image word) 0 entry);
        views = slice_set c.views n (with_seat (view_of c.views n) (record s { walk = record (s.walk) { kept = kept_with (words_of s) s.walk.kept word found; at_tail = false }; calling = record (s.calling) { lost = lost } }) g);
        began = began;
      })
  lost_keeps lost load is = subst (λ (memory : Memory). Invariant o (record c {
    memory = memory;
    views = slice_set c.views n (with_seat (view_of c.views n) (record s { walk = record (s.walk) { kept = kept_with (words_of s) s.walk.kept word found; at_tail = false }; calling = record (s.calling) { lost = lost } }) g);
    began = began;
  }))
      (sym (exchange_lost o c.memory (length c.views) inv.sizes.words n word entry is))
      (set_core o c n _ g c.memory c.owner began inv here unspent (pins_leave o c n inv c.memory.now.pins refl (λ k other. refl)) (changes_leave o c n c.memory _ c.owner (no_changes c n)) inv.owners.bits
      (away_facts o c n s g pin start word inv f unspent load (low_began n) (eqb-false found 0 is) lost) same_began other_began low_began)

  -- the tail's word may be loaded
  load_at : (at_tail : IsAtTail s) → word ≡ place_in (seat_shape s) s.walk.tail_block s.walk.tail_slot → s.walk.tail_slot < words_of s →
      MayLoadImageWord s (λ block. is_named o c.logs (entries o c.history) (generation_at o c.generations s.hold.generation) block) word
  load_at at_tail slot inside = tail_load o c n s g pin start inv f unspent at_tail.valid at_tail.ready s.walk.tail_slot word inside slot

  pub slot_keeps : (seal : Bool) → (entry == SEAL) ≡ seal → (won : Bool) → (found == 0) ≡ won → Invariant o (after_slot seal won (memory_after c.memory n (Exchange (Image word) 0 entry)))
  slot_keeps true seal true won = (let is = eqb-true entry SEAL seal in let fits = may.0 is in let empty = eqb-true found 0 won in
      grow_core o c (sealing o c n s g pin start word entry inv f unspent is fits empty) _ _ began inv (seal_grows o c n s g pin start word entry inv f unspent is fits empty) here unspent
      (seal_knows o c n s g pin start word entry inv f unspent is fits empty (low_began n) refl) same_began other_began low_began)
  slot_keeps true seal false lost = (let fits = may.0 (eqb-true entry SEAL seal) in lost_keeps s.calling.lost (load_at fits.at_tail fits.slot fits.inside) lost)
  slot_keeps false other true won = (let no_seal = eqb-false entry SEAL other in let fits = may.1 no_seal in let empty = eqb-true found 0 won in
      let some = entry_some (λ block. content_of s block) (seat_shape s) entry fits.form in
      grow_core o c (committing o c n s g pin start word entry number inv f here unspent some no_seal fits empty) _ _ began inv
      (commit_grows o c n s g pin start word entry number inv f here unspent some no_seal fits empty) here unspent
      (commit_knows o c n s g pin start word entry number inv f here unspent some no_seal fits empty number_is (low_began n) refl) same_began other_began low_began)
  slot_keeps false other false lost = (let fits = may.1 (eqb-false entry SEAL other) in lost_keeps (min (s.calling.lost + 1) (2 ^ 32 - 1)) (load_at fits.at_tail fits.slot fits.inside) lost)
