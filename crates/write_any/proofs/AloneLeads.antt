-- A write that alone makes steps comes to its end over a memory of one caller, with what it has made of the core.
use Rattle.std.proofs.Common.{◌≡◌, ◌≢◌, inl, ℕ, false, true, List, slice_index, refl, sym, ap, ◌∙◌, arith}
use Rattle.log_image.specs.Image.{shape_by}
use Rattle.log_image.specs.Chains.{is_listed}
use Rattle.asks.specs.SharedWords.{SharedWords}
use Rattle.pmem_words.specs.Courses.{over}
use Rattle.pmem_words.specs.Leads.{Leads}
use Rattle.pmem_words.specs.PlainWords.{plain}
use Rattle.pmem_words.specs.declared.owned.OwnedBlock.{OwnedBlock}
use Rattle.pmem_words.specs.declared.written.Written.{Written}
use Rattle.pmem_words.specs.Seats.{Seat}
use Rattle.log_core.specs.Views.{View, Ghost, view_of, op_in}
use Rattle.log_core.specs.Origin.{Origin, shape, OwnedBy}
use Rattle.log_core.specs.Cores.{Core, first_core}
use Rattle.log_core.specs.Needs.{owned_numbers}
use Rattle.log_core.specs.Steps.{is_begun}
use Rattle.log_core.specs.After.{began_if}
use Rattle.log_core.specs.Files.{end_of}
use Rattle.log_core.specs.Invariant.{Invariant}
use Rattle.log_core.specs.Knows.{Knows}
use Rattle.log_core.specs.Within.{no_record, IsLeft}
use Rattle.log_core.specs.Promising.{Promises}
use Rattle.log_core.specs.Alone.{IsAlone}
use Rattle.log_core.proofs.machines.OnCore.{EndsOnCore, EndsOver, leads_alone, alone_plain}
use Rattle.log_core.proofs.machines.Serving.{reached_keeps, knows_here}
use Rattle.log_core.proofs.starts.StartMeets.{start_meets}
use Rattle.write_any.specs.declared.stage.Target.TheVariants.{At}
use Rattle.write_any.specs.Writing.{write_of, write_script}
use Rattle.write_any.specs.WriteWithin.{HasWritten}
use Rattle.write_any.specs.WriteAlone.{BeginsWrite}
use Rattle.write_any.proofs.AloneStages.{stage_moves}
use Rattle.write_any.proofs.AloneStanding.{IsStarting, EndsAlone, WriteStandsAlone}
use Rattle.write_any.proofs.Riding.{ghost_on, rides_along}
use Rattle.write_any.proofs.WriteServes.{write_law, write_serves, writes_whole}
use Rattle.write_any.proofs.WriteStanding.{WriteStands}

-- a call that begins may write
writes_begin : (offset : ℕ) → Promises write_script (BeginsWrite offset) (HasWritten offset) (write_of (At offset))
writes_begin offset o start seat number rest s v linked = writes_whole offset o start seat number rest s v
    (record { unspent = linked.unspent; begins = linked.begins; number_is = linked.number_is; done = linked.done; fits = linked.fits.may })

module _ (offset : ℕ) (s : Seat) (p : SharedWords) (at : IsAlone (BeginsWrite offset) s p) where
  abbrev pub o : Origin
  o = at.origin

  abbrev pub c0 : Core
  c0 = at.core

  first_holds : Invariant o (first_core o)
  first_holds = start_meets o at.start

  pub holds : Invariant o c0
  holds = reached_keeps o first_holds c0 at.reached

  abbrev pub g0 : Ghost
  g0 = ghost_on at.seat at.number c0 s

  abbrev v0 : View
  v0 = view_of c0.views at.seat

  pub knows : Knows o c0 at.seat s g0 (slice_index c0.memory.now.pins at.seat) (slice_index (began_if (is_begun (op_in v0.seat) (op_in s)) c0.began at.seat (end_of o c0.history)) at.seat)
  knows = knows_here o first_holds at.seat at.number c0 s holds at.made at.linked.unspent at.linked.begins at.linked.number_is

  pub shape_is : shape_by s.geometry ≡ shape o
  shape_is = ap shape_by (knows.fits at.linked.unspent).geometry

  none_mine : (block : ℕ) → c0.owner block ≢ OwnedBy at.seat
  none_mine block mine = (let listed = knows.owns.owned.all block mine in
      let never : false ≡ true = sym (ap (λ (l : List OwnedBlock). is_listed (owned_numbers l) block) at.linked.fits.may.none_owned) ∙ listed in cc)

  starting : IsStarting offset o at.seat at.number s c0 s c0
  starting = record {
    unput = record {
      history = refl;
      logs = refl;
      none_lost = at.linked.fits.none_lost;
      bits = record { owners = λ block. inl refl; taken = λ block low set free. (let none = at.linked.fits.none_found block in omega (arith, set, none)) };
    };
    none_owned = at.linked.fits.may.none_owned;
  }

  abbrev pub Left : Written → Seat → View → Type 0
  Left = IsLeft at.rest no_record (HasWritten offset o at.seat s g0)

  abbrev pub HasEnded : Written → Seat → Core → Type 0
  HasEnded out t d = EndsOnCore o at.seat Left out t d × EndsAlone offset o at.seat at.number s c0 out t d

  pub alone_ends : Leads write_script (over write_script plain) (EndsOver HasEnded) (write_of (At offset)) s p
  alone_ends = alone_plain o first_holds at.seat at.number write_script no_record HasEnded (write_of (At offset)) s c0 p
      (rides_along o first_holds at.seat at.number write_script (WriteStands offset o at.seat s g0) (HasWritten offset o at.seat s g0) (write_serves offset o at.seat s g0 at.linked.fits.may)
      (λ m t d. WriteStandsAlone offset o at.seat at.number s c0 m t d) (λ out t d. EndsAlone offset o at.seat at.number s c0 out t d)
      (λ m t c stands st stepped x. (let moves = stage_moves offset o at.seat at.number s g0 at.linked.fits.may c0 holds shape_is none_mine m.target m.stage t c stands.1 st stepped x in
      record { goes = moves.goes; ends = moves.ends }))
      (λ out t d. EndsOnCore o at.seat Left out t d) (write_of (At offset)) s c0 ((write_law offset).begins o at.seat s g0 at.linked.fits.may) starting
      (leads_alone o first_holds at.seat at.number write_script no_record Left (write_of (At offset)) s v0 c0
      (writes_begin offset o at.start at.seat at.number at.rest s v0 at.linked) at.reached at.made refl))
      at.agrees
