-- What putting an entry in at the tail means.
use Rattle.std.specs.Prelude.{ℕ, ◌+◌, ◌-◌, ◌^◌, ◌≡◌, ◌≢◌, ◌==◌, min, Bool, true, false, []}
use Rattle.log_entry.specs.declared.layouts.TheConstants.{EMPTY}
use Rattle.pmem_words.specs.Seats.{Seat}
use Rattle.pmem_words.specs.Scripts.{After, Script, Lowers}
use Rattle.pmem_words.specs.declared.machine.Turn.TheVariants.{Go, Done}
use Rattle.log_blocks.specs.declared.offer.Offer.{Offer}
use Rattle.log_blocks.specs.declared.offer.Offered.{Offered}
use Rattle.log_blocks.specs.declared.offer.Offered.TheVariants.{Committed, Overtaken}
use Rattle.log_blocks.specs.Committing.{slot_exchange, committed, IsOffered, lost_taken}
use Rattle.log_blocks.specs.Walking.{IsSlotWord}

abbrev pub offer_of : ℕ → Offer
offer_of entry = record { entry = entry }

-- one exchange more was lost
abbrev pub counted : Seat → Seat
counted s = record s { calling = record s.calling { lost = min (s.calling.lost + 1) (2 ^ 32 - 1) } }

abbrev pub offer_after : Bool → Offer → Seat → ℕ → After Offer Offered
offer_after true m s f = record { machine = m; seat = committed m.entry s; turn = Done (Committed (s.walk.position + 1)) }
offer_after false m s f = record { machine = m; seat = lost_taken f (counted s); turn = Done (Overtaken f) }

-- where the exchange won the entry can be taken in, and else the word that was found
pub record OfferAdmits (entry : ℕ) (s : Seat) (f : ℕ) : Type 0 where
  pub none_kept : s.walk.kept ≡ []
  pub won : f ≡ EMPTY → IsOffered entry s
  pub lost : f ≢ EMPTY → IsSlotWord s f

abbrev pub offer_script : Script Offer Offered
offer_script = record {
  asks = λ m s. slot_exchange m.entry s;
  admits = λ m s f. OfferAdmits m.entry s f;
  after = λ m s f. offer_after (f == EMPTY) m s f;
  measure = λ m s. 0;
}

-- it ends at its first answer
offer_ends : (m : Offer) (s : Seat) (f : ℕ) (won : Bool) → (offer_after won m s f).turn ≡ Go → ⊥
offer_ends m s f true go = cc
offer_ends m s f false go = cc

pub offer_lowers : Lowers offer_script
offer_lowers m s f admits go = absurd (offer_ends m s f (f == EMPTY) go)
