-- Putting an entry in at the tail is lawful within a core.
use Rattle.log_entry.specs.declared.calls.Op.{Op}
use Rattle.log_entry.specs.declared.calls.Op.TheVariants.{Pwrite as PwriteOp, Append as AppendOp, Pread as PreadOp, Size as SizeOp, Sync as SyncOp, Collect as CollectOp}
use Rattle.log_entry.specs.Legal.{is_write}
use Rattle.log_core.specs.Files.{accepted_reply}
use Rattle.log_core.specs.Views.{op_of}
use Rattle.pmem_words.specs.declared.keeps.Task.{Task}
use Rattle.chain_reader.proofs.FitsLemmas.{inside_data}
use Rattle.std.proofs.Common.{Some, ◌≡◌, ◌≢◌, ◌+◌, ◌-◌, ◌^◌, ◌==◌, ◌&&◌, not, min, ℕ, Bool, true, false, if◌then◌else◌, List, [], ◌∷◌, refl, sym, ◌∙◌, ap, subst, arith, slice_index}
use Rattle.std.proofs.lemmas.Bool.{eqb-true, eqb-false, eq-eqb, and_parts}
use Rattle.log_entry.specs.Fields.{field}
use Rattle.log_entry.specs.Shape.{longest_of}
use Rattle.log_entry.specs.declared.layouts.TheConstants.{SEAL, ENTRY_KIND, DIRECT, INDIRECT_BLOCK}
use Rattle.log_image.specs.Image.{Shape, is_in_data}
use Rattle.log_image.specs.Entries.{Meaning, names}
use Rattle.log_image.specs.Chains.{is_listed}
use Rattle.log_image.specs.Format.{fits, is_direct, is_indirect, is_indirect_block}
use Rattle.asks.specs.declared.ask.Ask.TheVariants.{Exchange}
use Rattle.asks.specs.declared.ask.Place.TheVariants.{Image}
use Rattle.pmem_words.specs.Seats.{Seat}
use Rattle.pmem_words.specs.declared.machine.Turn.TheVariants.{Go, Done}
use Rattle.log_core.specs.Entries.{place_in, meaning_by}
use Rattle.log_core.specs.Views.{Ghost, Stored, view_of}
use Rattle.log_core.specs.Origin.{Origin, q_of_origin}
use Rattle.log_core.specs.Cores.{Core}
use Rattle.log_core.specs.Works.{Forgets, seat_shape, words_of}
use Rattle.log_core.specs.Steps.{ExchangesSlot, kind_of_ask, slot_exchanged, slot_sealed, stored_but, stored_if, content_of, new_meaning}
use Rattle.log_core.specs.May.{MayCommit, MayExchangeSlot, is_log_entry_by}
use Rattle.log_core.specs.Invariant.{Invariant}
use Rattle.log_core.specs.Knows.{Knows}
use Rattle.log_core.specs.Within.{no_record, IsFound, Serves}
use Rattle.log_core.specs.Answers.{Enters}
use Rattle.log_core.proofs.clauses.FencedContents.{content_long, fenced_owned}
use Rattle.log_core.proofs.machines.Entering.{enters_works}
use Rattle.log_core.proofs.machines.MachineLaws.{Law, promised}
use Rattle.log_blocks.specs.declared.offer.Offered.{Offered}
use Rattle.log_blocks.specs.Committing.{committed, lost_taken, IsOffered}
use Rattle.log_blocks.specs.Offering.{offer_of, counted, offer_after, OfferAdmits, offer_script, offer_lowers}
use Rattle.log_blocks.specs.PutWithin.{MayOffer, HasOffered, OffersWithin}
use Rattle.log_blocks.proofs.OneExchange.{IsAtFirst, at_first, outcome, serves_at_first}
use Rattle.log_blocks.proofs.TailExchange.{kind_at_slot, wide}
use Rattle.log_blocks.proofs.NewEntries.{new_direct, new_indirect}
use Rattle.log_blocks.proofs.LostSlot.{counting, kept_so, entry_fits, room, few_bases, slot_word, lost_enters, may_walk_on}

-- an entry that a log block may have is no seal
no_seal_by : (content : ℕ → List ℕ) (image : Shape) (entry : ℕ) → is_log_entry_by content image entry ≡ true → entry ≢ SEAL
no_seal_by content image entry good seal =
    (let form = (and_parts (if is_direct entry then true else is_indirect entry && is_in_data image (field INDIRECT_BLOCK entry) && is_indirect_block image (content (field INDIRECT_BLOCK entry)))
    (fits image (longest_of image.block_bytes) (meaning_by content entry)) good).0 in
    let both : false ≡ true = subst (λ (word : ℕ). (if is_direct word then true else is_indirect word && is_in_data image (field INDIRECT_BLOCK word) && is_indirect_block image (content (field INDIRECT_BLOCK word))) ≡ true) seal form in cc)

-- and where it is not direct, its block is an indirect one
runs_by : (content : ℕ → List ℕ) (image : Shape) (entry : ℕ) → is_log_entry_by content image entry ≡ true → field ENTRY_KIND entry ≢ DIRECT → is_indirect_block image (content (field INDIRECT_BLOCK entry)) ≡ true
runs_by content image entry good other = by (is_direct entry) refl
    (and_parts (if is_direct entry then true else is_indirect entry && is_in_data image (field INDIRECT_BLOCK entry) && is_indirect_block image (content (field INDIRECT_BLOCK entry))) (fits image (longest_of image.block_bytes) (meaning_by content entry)) good).0
  where
    by : (b : Bool) → is_direct entry ≡ b → (if b then true else is_indirect entry && is_in_data image (field INDIRECT_BLOCK entry) && is_indirect_block image (content (field INDIRECT_BLOCK entry))) ≡ true → is_indirect_block image (content (field INDIRECT_BLOCK entry)) ≡ true
    by true e is = absurd (other (eqb-true (field ENTRY_KIND entry) DIRECT (and_parts (field ENTRY_KIND entry == DIRECT) (Rattle.log_entry.specs.Words.entry_unnamed entry == 0) e).0))
    by false e is = (and_parts (is_indirect entry && is_in_data image (field INDIRECT_BLOCK entry)) (is_indirect_block image (content (field INDIRECT_BLOCK entry))) is).1

listed_first : (number : ℕ) (more : List ℕ) → is_listed (number ∷ more) number ≡ true
listed_first number more = rw (eq-eqb number number refl) refl

module _ (o : Origin) (seat : ℕ) (s : Seat) (g : Ghost) (entry : ℕ) (may : MayOffer entry o seat s g) where
  abbrev word : ℕ
  word = place_in (seat_shape s) s.walk.tail_block s.walk.tail_slot

  -- the words that leave the stored ones where it is won
  abbrev left_stored : Bool → List Stored
  left_stored won = stored_if won (stored_but (words_of s) (λ (block : ℕ). is_listed (names (new_meaning s entry)) block) g.stored) g.stored

  module _ (c : Core) (pin began : ℕ) (inv : Invariant o c) (unspent : (view_of c.views seat).parts ≢ []) (knows : Knows o c seat s g pin began) where
    here : MayCommit o c.history s word entry
    here = may.commits c pin began inv unspent knows

    not_seal : entry ≢ SEAL
    not_seal = no_seal_by (λ block. content_of s block) (seat_shape s) entry here.form

    kind_is : kind_of_ask (q_of_origin o) seat (Exchange (Image word) 0 entry) ≡ ExchangesSlot word entry
    kind_is = kind_at_slot o c seat s g pin began inv knows unspent here.at_tail.valid here.at_tail.ready here.inside entry

    may_slot : MayExchangeSlot o c.history s word entry
    may_slot = ((λ seal. absurd (not_seal seal)), (λ other. here))

    offered : IsOffered entry s
    offered = record {
      not_noting = quiet s.calling.noting refl;
      none_kept = may.none_kept;
      wide = (let many = wide o c seat s g pin began inv knows unspent here.at_tail.valid here.at_tail.ready in omega (arith, many));
      room = room o c seat s g pin began inv knows unspent here.at_tail.valid here.at_tail.ready may.takes_in here.inside;
      few = few_bases o c seat s g pin began inv knows unspent here.at_tail.valid here.at_tail.ready may.takes_in here.inside;
      direct = λ direct. subst (λ (m : Meaning). fits (seat_shape s) 256 m ≡ true) (new_direct s entry direct) (entry_fits (λ block. content_of s block) (seat_shape s) entry here.form);
      indirect = λ other. (let block = field INDIRECT_BLOCK entry in
          let meaning = new_indirect s entry other in
          let owned = fenced_owned s.blocks.owned block (here.owned block (subst (λ (m : Meaning). is_listed (names m) block ≡ true) (sym meaning) (listed_first block _))) in
          record {
            inside = (let low = (inside_data (seat_shape s) block (here.in_data block (subst (λ (m : Meaning). is_listed (names m) block ≡ true) (sym meaning) (listed_first block _)))).1 in omega (arith, low));
            owned = owned;
            whole = content_long _ _ _ seat g s knows.owned block owned;
            runs = runs_by (λ b. content_of s b) (seat_shape s) entry here.form other;
            fits = subst (λ (m : Meaning). fits (seat_shape s) 256 m ≡ true) meaning (entry_fits (λ b. content_of s b) (seat_shape s) entry here.form);
          });
    }
      where
        -- a call that notes is a collection, and puts in no entry
        quiet : (b : Bool) → s.calling.noting ≡ b → b ≡ false
        quiet false e = refl
        quiet true e = no_write here.op (sym here.job ∙ ap (λ (task : Task). op_of task s.calling.bytes) ((knows.noted unspent).0 e)) here.is_write
          where
            no_write : (op : Op) → Some op ≡ Some CollectOp → is_write op (accepted_reply op s.walk.size) ≡ true → true ≡ false
            no_write CollectOp is write = cc
            no_write (PwriteOp offset bytes) is write = cc
            no_write (AppendOp bytes) is write = cc
            no_write (PreadOp offset count) is write = cc
            no_write SizeOp is write = cc
            no_write SyncOp is write = cc

    admits_present : OfferAdmits entry s (slice_index c.memory.now.words word)
    admits_present = record {
      none_kept = may.none_kept;
      won = λ empty. offered;
      lost = λ some. slot_word o c seat s g pin began inv knows unspent here.at_tail.valid here.at_tail.ready may.takes_in here.inside may.none_kept;
    }

  abbrev Found : ℕ → Type 0
  Found f = IsFound o seat s g (Exchange (Image word) 0 entry) f

  -- the effect of the exchange, by whether the entry is a seal and it won
  abbrev exchanged : Bool → Bool → ℕ → Seat
  exchanged seal won f = if seal then slot_sealed s word f won else slot_exchanged s word entry f won

  never_seal : (f : ℕ) → Found f → (entry == SEAL) ≡ true → ⊥
  never_seal f found is = not_seal found.core found.pin found.began found.holds found.unspent found.knows (eqb-true entry SEAL is)

  enters_by : (seal won : Bool) (f : ℕ) → (entry == SEAL) ≡ seal → (f == 0) ≡ won → Found f →
      Enters (record g { stored = left_stored (won && not seal) }) (exchanged seal won f) (offer_after won (offer_of entry) s f).seat []
  enters_by true won f seal is found = absurd (never_seal f found seal)
  enters_by false true f seal is found = enters_works (record g { stored = left_stored true }) (slot_exchanged s word entry f true) (Forgets ∷ []) (tt, tt) refl
  enters_by false false f seal is found =
      (let at = here found.core found.pin found.began found.holds found.unspent found.knows in
      let lost : ℕ = min (s.calling.lost + 1) (2 ^ 32 - 1) in
      subst (λ (e : Seat). Enters g e (lost_taken f (counting lost s)) []) (sym (kept_so s f lost may.none_kept at.inside))
      (lost_enters o found.core seat s g found.pin found.began found.holds found.knows found.unspent at.at_tail.valid at.at_tail.ready may.takes_in at.inside may.none_kept f lost (sym found.is) (eqb-false f 0 is)))

  ends_by : (seal won : Bool) (f : ℕ) (out : Offered) → (entry == SEAL) ≡ seal → (f == 0) ≡ won → Found f → (offer_after won (offer_of entry) s f).turn ≡ Done out →
      HasOffered entry o seat s g out (offer_after won (offer_of entry) s f).seat (record g { stored = left_stored (won && not seal) })
  ends_by true won f out seal is found done = absurd (never_seal f found seal)
  ends_by false true f out seal is found done = subst (λ (x : Offered). HasOffered entry o seat s g x (committed entry s) (record g { stored = left_stored true })) (outcome done)
      (record { position_is = refl; left = refl; ghost = refl })
  ends_by false false f out seal is found done = subst (λ (x : Offered). HasOffered entry o seat s g x (lost_taken f (counted s)) g) (outcome done)
      (let at = here found.core found.pin found.began found.holds found.unspent found.knows in
      let other = eqb-false f 0 is in
      record {
        some = omega (arith, other);
        left = refl;
        ghost = refl;
        walks_on = λ kind. may_walk_on o found.core seat s g found.pin found.began found.holds found.knows found.unspent at.at_tail.valid at.at_tail.ready may.takes_in at.inside may.none_kept f (min (s.calling.lost + 1) (2 ^ 32 - 1)) kind;
      })

  stops : (won : Bool) (f : ℕ) → (offer_after won (offer_of entry) s f).turn ≡ Go → ⊥
  stops true f go = cc
  stops false f go = cc

  pub offer_serves : Serves o seat offer_script no_record (λ m t h. IsAtFirst (offer_of entry) s g m t h) (HasOffered entry o seat s g)
  offer_serves = serves_at_first o seat offer_script (HasOffered entry o seat s g) (offer_of entry) s g (ExchangesSlot word entry) kind_is may_slot admits_present
      (λ f found admits. enters_by (entry == SEAL) (f == 0) f refl refl found) (λ f go. stops (f == 0) f go) (λ f out found admits done. ends_by (entry == SEAL) (f == 0) f out refl refl found done)

abbrev pub offer_law : (entry : ℕ) → Law offer_script (offer_of entry)
offer_law entry = record {
  may = MayOffer entry;
  stands = λ o seat s0 g0 m s g. IsAtFirst (offer_of entry) s0 g0 m s g;
  left = HasOffered entry;
  begins = λ o seat s g may. at_first (offer_of entry) s g;
  serves = λ o seat s0 g0 may. offer_serves o seat s0 g0 entry may;
  lowers = offer_lowers;
}

pub offers_within : OffersWithin
offers_within entry = promised offer_script (offer_of entry) (offer_law entry)
