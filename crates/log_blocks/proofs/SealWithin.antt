-- Sealing the tail's block is lawful within a core.
use Rattle.std.proofs.Common.{◌≡◌, ◌≢◌, ◌==◌, ◌&&◌, ℕ, Bool, true, false, List, [], ◌∷◌, refl, sym, subst, arith, slice_index}
use Rattle.std.proofs.lemmas.Bool.{eqb-false}
use Rattle.log_entry.specs.declared.layouts.TheConstants.{SEAL}
use Rattle.log_image.specs.Entries.{names}
use Rattle.log_image.specs.Chains.{is_listed}
use Rattle.asks.specs.declared.ask.Ask.TheVariants.{Exchange}
use Rattle.asks.specs.declared.ask.Place.TheVariants.{Image}
use Rattle.pmem_words.specs.Seats.{Seat}
use Rattle.pmem_words.specs.declared.machine.Turn.TheVariants.{Go, Done}
use Rattle.log_core.specs.Entries.{place_in}
use Rattle.log_core.specs.Views.{Ghost, Stored, view_of}
use Rattle.log_core.specs.Origin.{Origin, q_of_origin}
use Rattle.log_core.specs.Cores.{Core}
use Rattle.log_core.specs.Works.{Forgets, seat_shape, words_of}
use Rattle.log_core.specs.Steps.{ExchangesSlot, kind_of_ask, slot_sealed, new_meaning, stored_but, stored_if}
use Rattle.log_core.specs.May.{MaySeal, MayExchangeSlot}
use Rattle.log_core.specs.Invariant.{Invariant}
use Rattle.log_core.specs.Knows.{Knows}
use Rattle.log_core.specs.Within.{no_record, IsFound, Serves}
use Rattle.log_core.specs.Answers.{Enters}
use Rattle.log_core.proofs.machines.Entering.{enters_works}
use Rattle.log_core.proofs.machines.MachineLaws.{Law, promised}
use Rattle.log_blocks.specs.declared.seal.Sealed.{Sealed}
use Rattle.log_blocks.specs.Committing.{lost_taken}
use Rattle.log_blocks.specs.Sealing.{seal_of, sealed, seal_after, SealAdmits, seal_script, seal_lowers}
use Rattle.log_blocks.specs.PutWithin.{MayPutSeal, HasSealed, SealsWithin}
use Rattle.log_blocks.proofs.OneExchange.{IsAtFirst, at_first, outcome, serves_at_first}
use Rattle.log_blocks.proofs.TailExchange.{kind_at_slot}
use Rattle.log_blocks.proofs.LostSlot.{kept_so, slot_word, lost_enters, may_walk_on}

module _ (o : Origin) (seat : ℕ) (s : Seat) (g : Ghost) (may : MayPutSeal o seat s g) where
  abbrev word : ℕ
  word = place_in (seat_shape s) s.walk.tail_block s.walk.tail_slot

  seals : MaySeal s word
  seals = record { at_tail = may.at_tail; slot = refl; later = may.later; inside = may.inside; job = may.job }

  module _ (c : Core) (pin began : ℕ) (inv : Invariant o c) (unspent : (view_of c.views seat).parts ≢ []) (knows : Knows o c seat s g pin began) where
    kind_is : kind_of_ask (q_of_origin o) seat (Exchange (Image word) 0 SEAL) ≡ ExchangesSlot word SEAL
    kind_is = kind_at_slot o c seat s g pin began inv knows unspent seals.at_tail.valid seals.at_tail.ready seals.inside SEAL

    may_slot : MayExchangeSlot o c.history s word SEAL
    may_slot = ((λ seal. seals), (λ other. absurd (other refl)))

    admits_present : SealAdmits s (slice_index c.memory.now.words word)
    admits_present = record {
      none_kept = may.none_kept;
      lost = λ some. slot_word o c seat s g pin began inv knows unspent seals.at_tail.valid seals.at_tail.ready may.takes_in seals.inside may.none_kept;
    }

  abbrev Found : ℕ → Type 0
  Found f = IsFound o seat s g (Exchange (Image word) 0 SEAL) f

  enters_by : (won : Bool) (f : ℕ) → (f == 0) ≡ won → Found f → Enters g (slot_sealed s word f won) (seal_after won seal_of s f).seat []
  enters_by true f is found = enters_works g (slot_sealed s word f true) (Forgets ∷ []) (tt, tt) refl
  enters_by false f is found =
      subst (λ (e : Seat). Enters g e (lost_taken f s) []) (sym (kept_so s f s.calling.lost may.none_kept seals.inside))
      (lost_enters o found.core seat s g found.pin found.began found.holds found.knows found.unspent seals.at_tail.valid seals.at_tail.ready may.takes_in seals.inside may.none_kept f s.calling.lost (sym found.is) (eqb-false f 0 is))

  ends_by : (won : Bool) (f : ℕ) (out : Sealed) → (f == 0) ≡ won → Found f → (seal_after won seal_of s f).turn ≡ Done out → HasSealed o seat s g out (seal_after won seal_of s f).seat g
  ends_by true f out is found done = subst (λ (x : Sealed). HasSealed o seat s g x (sealed s) g) (outcome done) (record { left = refl; ghost = refl })
  ends_by false f out is found done = subst (λ (x : Sealed). HasSealed o seat s g x (lost_taken f s) g) (outcome done)
      (let other = eqb-false f 0 is in
      record {
        some = omega (arith, other);
        left = refl;
        ghost = refl;
        walks_on = λ kind. may_walk_on o found.core seat s g found.pin found.began found.holds found.knows found.unspent seals.at_tail.valid seals.at_tail.ready may.takes_in seals.inside may.none_kept f s.calling.lost kind;
      })

  stops : (won : Bool) (f : ℕ) → (seal_after won seal_of s f).turn ≡ Go → ⊥
  stops true f go = cc
  stops false f go = cc

  -- no word leaves the stored ones
  abbrev others : List Stored
  others = stored_but (words_of s) (λ (block : ℕ). is_listed (names (new_meaning s SEAL)) block) g.stored

  none_left : (won : Bool) → (won && false) ≡ false
  none_left true = refl
  none_left false = refl

  pub seal_serves : Serves o seat seal_script no_record (λ m t h. IsAtFirst seal_of s g m t h) (HasSealed o seat s g)
  seal_serves = serves_at_first o seat seal_script (HasSealed o seat s g) seal_of s g (ExchangesSlot word SEAL) kind_is may_slot admits_present
      (λ f found admits. enters_of (f == 0) f refl found) (λ f go. stops (f == 0) f go) (λ f out found admits done. ends_of (f == 0) f out refl found done)
    where
      enters_of : (won : Bool) (f : ℕ) → (f == 0) ≡ won → Found f → Enters (record g { stored = stored_if (won && false) others g.stored }) (slot_sealed s word f won) (seal_after won seal_of s f).seat []
      enters_of won f is found = subst (λ (b : Bool). Enters (record g { stored = stored_if b others g.stored }) (slot_sealed s word f won) (seal_after won seal_of s f).seat []) (sym (none_left won)) (enters_by won f is found)

      ends_of : (won : Bool) (f : ℕ) (out : Sealed) → (f == 0) ≡ won → Found f → (seal_after won seal_of s f).turn ≡ Done out →
          HasSealed o seat s g out (seal_after won seal_of s f).seat (record g { stored = stored_if (won && false) others g.stored })
      ends_of won f out is found done = subst (λ (b : Bool). HasSealed o seat s g out (seal_after won seal_of s f).seat (record g { stored = stored_if b others g.stored })) (sym (none_left won)) (ends_by won f out is found done)

abbrev pub seal_law : Law seal_script seal_of
seal_law = record {
  may = MayPutSeal;
  stands = λ o seat s0 g0 m s g. IsAtFirst seal_of s0 g0 m s g;
  left = HasSealed;
  begins = λ o seat s g may. at_first seal_of s g;
  serves = λ o seat s0 g0 may. seal_serves o seat s0 g0 may;
  lowers = seal_lowers;
}

pub seals_within : SealsWithin
seals_within = promised seal_script seal_of seal_law
