-- A record that a call may add says what is so of the generations, and how often it counts as putting one in place.
use Rattle.std.proofs.Common.{◌≡◌, ◌≢◌, ◌<◌, ◌≤◌, ◌+◌, ◌-◌, ◌==◌, ℕ, true, [], length, refl, sym, ◌∙◌, ap, subst, arith, Option, Some, None}
use Rattle.log_entry.specs.declared.calls.Op.{Op}
use Rattle.log_entry.specs.declared.calls.Op.TheVariants.{Collect}
use Rattle.log_entry.specs.declared.calls.CollectRefusal.{CollectRefusal}
use Rattle.log_entry.specs.declared.calls.CollectRefusal.TheVariants.{Nothing, NoSpace, Overtaken, GenerationLimit}
use Rattle.log_entry.specs.declared.calls.Reply.{Reply}
use Rattle.log_entry.specs.declared.calls.Reply.TheVariants.{Wrote, Appended, NotWritten, Bytes, Size, Synced, Collected, NotCollected}
use Rattle.log_entry.specs.declared.calls.Call.{Call}
use Rattle.pmem_words.specs.declared.keeps.Task.{Task}
use Rattle.pmem_words.specs.Seats.{Seat}
use Rattle.log_core.specs.Views.{Ghost, HeadPut, view_of, op_of}
use Rattle.log_core.specs.Origin.{Origin, first_generation}
use Rattle.log_core.specs.Cores.{Core}
use Rattle.log_core.specs.Order.{nth_generation}
use Rattle.log_core.specs.Records.{SaysOfGenerations, one_if, collects, putting}
use Rattle.log_core.specs.Answers.{Fits, FitsCollect, FitsNotCollected, MayAdd}
use Rattle.log_core.specs.Invariant.{Invariant}
use Rattle.log_core.proofs.Heads.{last_place, current_is}
use Rattle.log_core.proofs.Replies.{collected_fits, not_collected_fits}

module _ (o : Origin) (c : Core) (n : ℕ) (inv : Invariant o c) (unspent : (view_of c.views n).parts ≢ []) (call : Call) (may : MayAdd (view_of c.views n).ghost (view_of c.views n).seat call) where
  abbrev s : Seat
  s = (view_of c.views n).seat

  abbrev g : Ghost
  g = (view_of c.views n).ghost

  -- of a view that is ready there is the generation
  module _ (ready : s.walk.ready ≡ true) where
    some_generation : s.hold.generation ≢ 0
    some_generation = ((inv.walks n unspent).ready_walked ready).2

    from_first : first_generation o ≤ s.hold.generation
    from_first = (inv.pins.holds n).from_first some_generation

    inside : s.hold.generation < first_generation o + length c.generations
    inside = (let low = (inv.pins.holds n).to_current some_generation in let is = current_is o c inv in let last = last_place o c inv in omega (arith, low, is, last))

    refused : (why : CollectRefusal) → FitsNotCollected g s why → SaysOfGenerations o c.generations s.walk.position (NotCollected why)
    refused Nothing fits = (
      s.hold.generation - first_generation o,
      (let low = from_first in let high = inside in omega (arith, low, high)),
      fits ∙ (inv.walks n unspent).ready_base ready,
    )
    refused NoSpace fits = tt
    refused (Overtaken generation) fits = (
      (let low = from_first in let later = fits.1 in omega (arith, low, later)),
      subst (λ (found : ℕ). found < first_generation o + length c.generations) fits.2 (inv.records.put n).found,
    )
    refused GenerationLimit fits = (let high = inside in let few = inv.order.heads.few in let greatest = fits.1 in omega (arith, high, few, greatest))

  said : (reply : Reply) → Fits g s call.op reply → SaysOfGenerations o c.generations s.walk.position reply
  said (Collected done) fits = (let r = collected_fits g s call.op done fits in let own = (inv.records.put n).own r.put r.put_is in
      subst (λ (generation : ℕ). (first_generation o < generation) × (generation < first_generation o + length c.generations)
      × (s.walk.position ≡ (nth_generation c.generations (generation - first_generation o)).base)) (sym r.generation)
      (own.0, own.1, sym own.2 ∙ own.3))
  said (NotCollected why) fits = (let r = not_collected_fits g s call.op why fits in refused r.1 why r.2)
  said (Wrote count) fits = tt
  said (Appended at count) fits = tt
  said (NotWritten why) fits = tt
  said (Bytes bytes) fits = tt
  said (Size size) fits = tt
  said (Synced upto) fits = tt

  pub says_so : SaysOfGenerations o c.generations call.position call.reply
  says_so = subst (λ (position : ℕ). SaysOfGenerations o c.generations position call.reply) (sym may.position) (said call.reply may.fits)

  -- a call that is no collection put no head in place
  none_put : (reply : Reply) → Fits g s call.op reply → (FitsCollect g s reply → ⊥) → g.call.put ≡ None
  none_put reply fits never = go g.call.put refl
    where
      go : (put : Option HeadPut) → g.call.put ≡ put → put ≡ None
      go None is = refl
      go (Some head) is =
          (let job = (inv.records.calls n).task.put_collects (λ none. (let both : None ≡ Some head = sym none ∙ is in cc)) in
          let asks : Some Collect ≡ Some call.op = sym (ap (λ (task : Task). op_of task s.calling.bytes) job) ∙ may.op in
          let op : call.op ≡ Collect = cc in
          absurd (never (subst (λ (op : Op). Fits g s op reply) op fits)))

  counted : (generation : ℕ) (reply : Reply) → Fits g s call.op reply → collects generation reply ≡ putting generation g.call.put
  counted generation (Collected done) fits = (let r = collected_fits g s call.op done fits in
      ap (λ (number : ℕ). one_if (number == generation)) r.generation ∙ ap (λ (put : Option HeadPut). putting generation put) (sym r.put_is))
  counted generation (NotCollected why) fits = ap (λ (put : Option HeadPut). putting generation put) (sym (not_collected_fits g s call.op why fits).0)
  counted generation (Wrote count) fits = ap (λ (put : Option HeadPut). putting generation put) (sym (none_put (Wrote count) fits (λ never. never)))
  counted generation (Appended at count) fits = ap (λ (put : Option HeadPut). putting generation put) (sym (none_put (Appended at count) fits (λ never. never)))
  counted generation (NotWritten why) fits = ap (λ (put : Option HeadPut). putting generation put) (sym (none_put (NotWritten why) fits (λ never. never)))
  counted generation (Bytes bytes) fits = ap (λ (put : Option HeadPut). putting generation put) (sym (none_put (Bytes bytes) fits (λ never. never)))
  counted generation (Size size) fits = ap (λ (put : Option HeadPut). putting generation put) (sym (none_put (Size size) fits (λ never. never)))
  counted generation (Synced upto) fits = ap (λ (put : Option HeadPut). putting generation put) (sym (none_put (Synced upto) fits (λ never. never)))

  -- the record counts as the head did that the call put in place
  pub same_count : (generation : ℕ) → collects generation call.reply ≡ putting generation g.call.put
  same_count generation = counted generation call.reply may.fits
