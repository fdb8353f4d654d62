-- A write of whole blocks serves where no other seat makes a step.
use Rattle.std.proofs.Common.{ℕ, Option, Some, None, refl}
use Rattle.log_entry.specs.declared.calls.WriteRefusal.{WriteRefusal}
use Rattle.asks.specs.SharedWords.{SharedWords}
use Rattle.pmem_words.specs.Courses.{over}
use Rattle.pmem_words.specs.PlainWords.{plain}
use Rattle.pmem_words.proofs.LeadsLemmas.{leads_weaker}
use Rattle.pmem_words.specs.Seats.{Seat}
use Rattle.log_core.specs.Cores.{Core}
use Rattle.log_core.specs.Alone.{IsAlone}
use Rattle.log_core.proofs.machines.OnCore.{EndsOver}
use Rattle.write_any.specs.Writing.{write_script}
use Rattle.write_any.specs.WriteAlone.{BeginsWrite, HasAdded, HasWrittenAlone, WritesAlone}
use Rattle.write_any.proofs.AloneAnswers.{answered_by}
use Rattle.write_any.proofs.AloneLeads.{HasEnded, alone_ends}
use Rattle.write_any.proofs.AloneStanding.{EndsBy}

module _ (offset : ℕ) (s : Seat) (p : SharedWords) (at : IsAlone (BeginsWrite offset) s p) where
  -- the history has the write more, or none
  added_by : (d : Core) (refusal : Option WriteRefusal) (position : ℕ) → EndsBy offset at.origin at.seat at.number s at.core refusal position d → HasAdded refusal at.origin at.seat at.number offset s at.core.history d.history
  added_by d None position x = x.added
  added_by d (Some why) position x = x.history

pub writes_alone : WritesAlone
writes_alone offset s p at = leads_weaker write_script (over write_script plain) (EndsOver (HasEnded offset s p at)) (HasWrittenAlone offset s p at)
    (λ out t q ends. record {
      core = ends.core;
      reached = ends.ends.0.reached;
      agrees = ends.agrees;
      history = added_by offset s p at ends.core out.refusal out.position ends.ends.1.ends;
      none_lost = ends.ends.1.none_lost;
      left = ends.ends.0.ends;
      answered = λ file position stands. answered_by offset at.origin at.seat at.number s at.core ends.core at.start at.linked.fits.may.whole at.reached ends.ends.0.reached p.words file position at.agrees.words stands q ends.agrees.words out out.refusal refl ends.ends.1.ends;
    })
    (alone_ends offset s p at)
