-- What sealing the tail's block means.
use Rattle.std.specs.Prelude.{ℕ, ◌≡◌, ◌≢◌, ◌==◌, Bool, true, false, []}
use Rattle.log_entry.specs.declared.layouts.TheConstants.{EMPTY, SEAL}
use Rattle.pmem_words.specs.Seats.{Seat}
use Rattle.pmem_words.specs.Scripts.{After, Script, Lowers}
use Rattle.pmem_words.specs.declared.machine.Turn.TheVariants.{Go, Done}
use Rattle.log_core.specs.Works.{words_of}
use Rattle.log_blocks.specs.declared.seal.Seal.{Seal}
use Rattle.log_blocks.specs.declared.seal.Sealed.{Sealed}
use Rattle.log_blocks.specs.declared.seal.Sealed.TheVariants.{Sealed as IsSealed, Overtaken}
use Rattle.log_blocks.specs.Committing.{slot_exchange, lost_taken}
use Rattle.log_blocks.specs.Walking.{IsSlotWord}

abbrev pub seal_of : Seal
seal_of = record {}

-- the tail's block takes no entry any more, and the view is at its end
abbrev pub sealed : Seat → Seat
sealed s = record s { walk = record s.walk { tail_slot = words_of s; at_tail = true; kept = [] } }

abbrev pub seal_after : Bool → Seal → Seat → ℕ → After Seal Sealed
seal_after true m s f = record { machine = m; seat = sealed s; turn = Done IsSealed }
seal_after false m s f = record { machine = m; seat = lost_taken f s; turn = Done (Overtaken f) }

-- where the exchange lost, the word that was found can be taken in
pub record SealAdmits (s : Seat) (f : ℕ) : Type 0 where
  pub none_kept : s.walk.kept ≡ []
  pub lost : f ≢ EMPTY → IsSlotWord s f

abbrev pub seal_script : Script Seal Sealed
seal_script = record {
  asks = λ m s. slot_exchange SEAL s;
  admits = λ m s f. SealAdmits s f;
  after = λ m s f. seal_after (f == EMPTY) m s f;
  measure = λ m s. 0;
}

-- it ends at its first answer
seal_ends : (m : Seal) (s : Seat) (f : ℕ) (won : Bool) → (seal_after won m s f).turn ≡ Go → ⊥
seal_ends m s f true go = cc
seal_ends m s f false go = cc

pub seal_lowers : Lowers seal_script
seal_lowers m s f admits go = absurd (seal_ends m s f (f == EMPTY) go)
