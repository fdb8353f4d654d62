-- The law of reading a range within a core: each word that it loads is one of a block that the pinned chain names.
use Rattle.std.proofs.Common.{◌≡◌, ◌≢◌, ℕ, ◌/◌, ◌%◌, ◌≤◌, ◌==◌, Bool, true, false, [], Some, refl, sym, ap, ◌∙◌, arith}
use Rattle.std.proofs.lemmas.Bool.{eqb-true, eqb-false}
use Rattle.asks.specs.declared.ask.Ask.TheVariants.{Load}
use Rattle.asks.specs.declared.ask.Place.TheVariants.{Image}
use Rattle.log_image.specs.Image.{words_in}
use Rattle.pmem_words.specs.Maps.{map_at}
use Rattle.pmem_words.specs.Seats.{Seat}
use Rattle.log_core.specs.Views.{Ghost, view_of}
use Rattle.log_core.specs.Origin.{Origin, shape, Generation}
use Rattle.log_core.specs.Files.{entries}
use Rattle.log_core.specs.Cores.{Core, is_named, data_names}
use Rattle.log_core.specs.Order.{nth_generation}
use Rattle.log_core.specs.Walks.{WalkHolds, HasWalked}
use Rattle.log_core.specs.Invariant.{Invariant, KeptIn, around}
use Rattle.log_core.specs.Knows.{Knows}
use Rattle.log_core.specs.Within.{no_record, Serves}
use Rattle.log_core.proofs.PinnedChains.{place, kept}
use Rattle.log_core.proofs.MappedBlocks.{mapped_named}
use Rattle.log_core.proofs.clauses.Apart.{has_right, data_is_named}
use Rattle.log_core.proofs.machines.MachineLaws.{Law}
use Rattle.log_blocks.proofs.Loading.{NamesAlways, lawful_load}
use Rattle.read_validate.specs.declared.range.ReadRange.{ReadRange}
use Rattle.read_validate.specs.RangeLowering.{range_lowers}
use Rattle.read_validate.specs.Ranges.{virt_of, range_script}
use Rattle.read_validate.proofs.RangePlaces.{in_word}
use Rattle.read_validate.proofs.RangeStanding.{MayReadRange, IsReading, HasReadRange}
use Rattle.read_validate.proofs.RangeStep.{block, told, works, computed, goes, ends}

-- a block that the table of a ready seat gives is one that its chain names
module _ (o : Origin) (c : Core) (n : ℕ) (s : Seat) (g : Ghost) (pin began : ℕ) (inv : Invariant o c) (f : Knows o c n s g pin began) (unspent : (view_of c.views n).parts ≢ []) (valid : s.hold.valid ≡ true) (ready : s.walk.ready ≡ true) where
  abbrev at : ℕ
  at = place o c n s g pin began inv f valid

  abbrev in_chain : KeptIn o c at
  in_chain = kept o c n s g pin began inv f valid

  abbrev pinned : Generation
  pinned = nth_generation c.generations at

  w : WalkHolds (around o c) s.hold s.walk
  w = f.walk unspent

  walked : HasWalked o (entries o c.history) c.logs s.walk
  walked = w.walked (w.ready_walked ready).0 (w.ready_walked ready).1

  base_low : pinned.base ≤ s.walk.position
  base_low = by (s.walk.tail_slot == words_in (shape o)) refl
    where
      by : (b : Bool) → (s.walk.tail_slot == words_in (shape o)) ≡ b → pinned.base ≤ s.walk.position
      by true e = (let there = (walked.at_end (eqb-true s.walk.tail_slot (words_in (shape o)) e)).1 in let base = w.ready_base ready in let low = w.ready_tail ready in omega (arith, there, base, low))
      by false e = (let there = (walked.inside (eqb-false s.walk.tail_slot (words_in (shape o)) e)).0 in let base = w.ready_base ready in let low = w.ready_tail ready in omega (arith, there, base, low))

  pub mapped_is_named : (virt block : ℕ) → map_at s.walk.map virt ≡ Some block → is_named o c.logs (entries o c.history) pinned block ≡ true
  mapped_is_named virt block is = data_is_named o c.logs (entries o c.history) pinned block
      (has_right pinned.snapshots (data_names o (entries o c.history) pinned) block
      (mapped_named o c inv at in_chain s.walk.position virt block base_low (sym (walked.table virt) ∙ is)))

module _ (offset count : ℕ) (first : ReadRange) (o : Origin) (seat : ℕ) (s0 : Seat) (g0 : Ghost) (may : MayReadRange offset count first s0) where
  -- so may it be read on the way
  still : (m : ReadRange) (s : Seat) (g : Ghost) → IsReading offset count s0 g0 m s g → MayReadRange offset count m s
  still m s g on = record {
    valid = ap (λ (u : Seat). u.hold.valid) on.rest ∙ may.valid;
    ready = ap (λ (u : Seat). u.walk.ready) on.rest ∙ may.ready;
    at_tail = ap (λ (u : Seat). u.walk.at_tail) on.rest ∙ may.at_tail;
    none_kept = ap (λ (u : Seat). u.walk.kept) on.rest ∙ may.none_kept;
    job = ap (λ (u : Seat). u.calling.job) on.rest ∙ may.job;
    few = may.few;
    at = on.at;
  }

  pub range_serves : Serves o seat range_script no_record (IsReading offset count s0 g0) (HasReadRange offset count s0 g0)
  range_serves m s g on =
      (let now = still m s g on in
      let word = in_word s m.place 0 (let low = Rattle.std.proofs.lemmas.Nat.mod_below m.place 8 (omega arith) in omega (arith, low)) in
      let named : NamesAlways o seat s g now.at.block (m.place % s.geometry.block_bytes / 8) = λ c pin began inv unspent knows.
      mapped_is_named o c seat s g pin began inv knows unspent now.valid now.ready (virt_of s m.place) now.at.block now.at.mapped in
      lawful_load o seat s g now.at.block (m.place % s.geometry.block_bytes / 8) now.valid word.3 named range_script (IsReading offset count s0 g0) (HasReadRange offset count s0 g0) m
      (ap (λ (k : ℕ). Load (Image k)) now.at.word)
      (works offset count o seat m s g now) (told offset count o seat m s g now) (λ f. refl)
      (λ c pin began inv unspent knows. (
        now.at.low,
        record {
          upto = (let low = now.at.low in omega (arith, low));
          room = (let at = now.at.place in let end_is = now.at.end_is in let few = now.few in let low = now.at.low in omega (arith, at, end_is, few, low));
        },
      ))
      (λ f found admits. computed offset count o seat m s g now (found.knows.fits found.unspent).map f)
      (λ f found admits go. goes offset count o seat m s g now s0 g0 on.rest on.ghost f go)
      (λ f out found admits done. ends offset count o seat m s g now s0 g0 on.rest on.ghost f out done))

abbrev pub range_law : (offset count : ℕ) (first : ReadRange) → Law range_script first
range_law offset count first = record {
  may = λ o seat s g. MayReadRange offset count first s;
  stands = λ o seat s0 g0 m s g. IsReading offset count s0 g0 m s g;
  left = λ o seat s0 g0 out s g. HasReadRange offset count s0 g0 out s g;
  begins = λ o seat s g may. record { rest = refl; ghost = refl; at = may.at };
  serves = λ o seat s0 g0 may. range_serves offset count first o seat s0 g0 may;
  lowers = range_lowers;
}
