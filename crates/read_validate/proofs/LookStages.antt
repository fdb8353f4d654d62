-- Each stage of a look is lawful.
use Rattle.std.proofs.Common.{◌≡◌, ℕ, ◌+◌, ◌-◌, ◌<◌, ◌≤◌, ◌==◌, Bool, true, false, List, [], ◌∷◌, length, replicate, refl, sym, ap, subst, ◌∙◌, arith}
use Rattle.std.proofs.lemmas.Bool.{eqb-true, eqb-false}
use Rattle.pmem_words.specs.declared.keeps.Task.TheVariants.{Pread, Sync}
use Rattle.pmem_words.specs.Seats.{Seat, Calling}
use Rattle.log_core.specs.Views.{Ghost}
use Rattle.log_core.specs.Origin.{Origin}
use Rattle.log_core.specs.Works.{Lays, MayLay, IsFree}
use Rattle.log_core.specs.Within.{no_record, Lawful, FitsNext}
use Rattle.log_core.proofs.machines.Entering.{enters_same, enters_works}
use Rattle.log_core.proofs.machines.MachineLaws.{IsUnmoved, HasBegun, has_begun, lawful_stage}
use Rattle.pins.specs.declared.pin.Pin.{Pin}
use Rattle.pins.specs.declared.unpin.Unpin.{Unpin}
use Rattle.pins.specs.Endings.{pinned}
use Rattle.pins.specs.Steps.{pin_stored}
use Rattle.pins.specs.Within.{MayPin}
use Rattle.pins.proofs.PinWithin.{pin_law, unpin_law}
use Rattle.log_blocks.specs.declared.walk.Tail.{Tail}
use Rattle.log_blocks.specs.declared.walk.Walk.{Walk}
use Rattle.log_blocks.specs.declared.walk.Walk.TheVariants.{Begin}
use Rattle.log_blocks.specs.WalkWithin.{HasWalkedOn}
use Rattle.read_validate.specs.declared.look.Look.{Look}
use Rattle.read_validate.specs.declared.query.Query.{Query}
use Rattle.read_validate.specs.declared.query.Query.TheVariants.{Size, Range}
use Rattle.read_validate.specs.declared.query.Seen.{Seen}
use Rattle.read_validate.specs.declared.query.Stage.TheVariants.{Pinning, Walking, Reading, Unpinning}
use Rattle.read_validate.specs.declared.range.ReadRange.{ReadRange}
use Rattle.read_validate.specs.Looking.{at_stage, count_in, walked_so, range_by, reading_so, MayReadAt, JointAdmits, look_script}
use Rattle.read_validate.specs.LookWithin.{Asks, MayLook, HasRead, HasLooked, unlooked}
use Rattle.read_validate.specs.Ranges.{IsInRange, next_mapped, reading_at, zeros_laid}
use Rattle.read_validate.proofs.Embedding.{at_pin, at_walk, at_range, at_unpin}
use Rattle.read_validate.proofs.LookFalls.{pin_falls, walk_falls, range_falls, unpin_falls}
use Rattle.read_validate.proofs.LookStanding.{BeforeWalk, BeforeReading, BeforeUnpin, LookStands}
use Rattle.read_validate.proofs.NextMapped.{next_at_most}
use Rattle.read_validate.proofs.RangeLaw.{range_law}
use Rattle.read_validate.proofs.RangeStep.{goes_at, laid_at}
use Rattle.read_validate.proofs.WholeMaps.{mapping_law}
use Rattle.read_validate.proofs.ZerosLaid.{HasWholeMap, may_lay_zeros}

-- a call that looks is no sync
not_sync : (query : Query) (s : Seat) → Asks query s → s.calling.job ≡ Sync → ⊥
not_sync Size s asks sync = asks sync
not_sync (Range offset count) s asks sync = (let both : Pread offset count ≡ Sync = sym asks.0 ∙ sync in cc)

read_unpinned : (query : Query) (s0 s : Seat) → HasRead query s0 s → HasRead query s0 (pin_stored s 0)
read_unpinned Size s0 s read = read
read_unpinned (Range offset count) s0 s read = read

-- with no byte laid before it, a range begins at its offset
zeros_at : (offset count end : ℕ) (s : Seat) → Rattle.log_core.specs.Works.MayReadFile s → s.calling.job ≡ Pread offset count → HasWholeMap s → offset + length s.calling.bytes ≡ offset →
    offset ≤ end → end ≡ offset + count_in offset count s → 0 < count_in offset count s → MayLay s (replicate (next_mapped end offset s - offset) 0)
zeros_at offset count end s reads job whole is = subst (λ (p : ℕ). p ≤ end → end ≡ offset + count_in offset count s → 0 < count_in offset count s → MayLay s (replicate (next_mapped end p s - p) 0)) is
    (may_lay_zeros offset count end s reads job whole)

-- a seat after its walk, with the tail found
pub record IsAtTail (s0 : Seat) (g0 : Ghost) (s : Seat) (g : Ghost) : Type 0 where
  pub rest : unlooked s ≡ unlooked s0
  pub bytes : s.calling.bytes ≡ s0.calling.bytes
  pub ghost : g ≡ g0
  pub valid : s.hold.valid ≡ true
  pub ready : s.walk.ready ≡ true
  pub at_tail : s.walk.at_tail ≡ true
  pub none_kept : s.walk.kept ≡ []
  pub whole : HasWholeMap s

pub may_pin : (query : Query) (o : Origin) (seat : ℕ) (s0 : Seat) (g0 : Ghost) → MayLook query o seat s0 g0 → (s : Seat) (g : Ghost) → unlooked s ≡ unlooked s0 → MayPin o seat s g
may_pin query o seat s0 g0 may s g rest = record {
  number = ap (λ (u : Seat). u.number) rest ∙ may.number;
  no_marks = λ sync. absurd (not_sync query s0 may.asks (sym (ap (λ (u : Seat). u.calling.job) rest) ∙ sync));
}

unpins : (query : Query) (o : Origin) (seat : ℕ) (s0 : Seat) (g0 : Ghost) → MayLook query o seat s0 g0 → (s : Seat) (g : Ghost) → BeforeUnpin query s0 g0 s g →
    LookStands query o seat s0 g0 (at_stage query (Unpinning Rattle.pins.specs.Unpinning.unpin_of)) s g
unpins query o seat s0 g0 may s g before = (refl, has_begun unpin_law o seat (BeforeUnpin query s0 g0) s g before (may_pin query o seat s0 g0 may s g before.rest))

-- the range may be read where the tail is
may_read : (query : Query) (s0 : Seat) (g0 : Ghost) (s : Seat) (g : Ghost) → Asks query s0 → IsAtTail s0 g0 s g → MayReadAt query s
may_read Size s0 g0 s g asks at = tt
may_read (Range offset count) s0 g0 s g asks at = λ some. (let none = ap (λ (l : List ℕ). length l) (at.bytes ∙ asks.1) in let few = asks.2 in
    record { upto = omega arith; room = omega (arith, none, few) })

module _ (offset count : ℕ) (o : Origin) (seat : ℕ) (s0 : Seat) (g0 : Ghost) (may : MayLook (Range offset count) o seat s0 g0) (s : Seat) (g : Ghost) (at : IsAtTail s0 g0 s g) where
  abbrev query : Query
  query = Range offset count

  abbrev end : ℕ
  end = offset + count_in offset count s

  abbrev next : ℕ
  next = next_mapped end offset s

  abbrev Stands : Look → Seat → Ghost → Type 0
  Stands m t h = LookStands (Range offset count) o seat s0 g0 m t h

  abbrev Ends : Seen → Seat → Ghost → Type 0
  Ends = HasLooked (Range offset count) o seat s0 g0

  none_laid : length s.calling.bytes ≡ 0
  none_laid = ap (λ (l : List ℕ). length l) (at.bytes ∙ may.asks.1)

  starts : offset + length s.calling.bytes ≡ offset
  starts = (let none = none_laid in omega (arith, none))

  job : s.calling.job ≡ Pread offset count
  job = ap (λ (u : Seat). u.calling.job) at.rest ∙ may.asks.0

  zeros : 0 < count_in offset count s → MayLay s (replicate (next - offset) 0)
  zeros some = zeros_at offset count end s (record { valid = at.valid; own_table = at.ready; at_tail = at.at_tail }) job at.whole starts (omega arith) refl some

  reading_fits : 0 < count_in offset count s → (done : Bool) → (next == end) ≡ done → FitsNext no_record Stands Ends s g (reading_so (Range offset count) (reading_at done end next s) (zeros_laid end offset s))
  reading_fits some true is = (
    enters_works g s (Lays (replicate (next - offset) 0) ∷ []) (zeros some, tt) refl,
    unpins (Range offset count) o seat s0 g0 may (zeros_laid end offset s) g (record {
      rest = at.rest;
      ghost = at.ghost;
      at_tail = at.at_tail;
      read = laid_at offset count end s offset starts (omega arith) refl (eqb-true next end is);
    }),
  )
  reading_fits some false is = (
    enters_works g s (Lays (replicate (next - offset) 0) ∷ []) (zeros some, tt) refl,
    (
      refl,
      (
        record { place = next; end = end; word = Rattle.read_validate.specs.Ranges.word_at next s },
        has_begun (range_law offset count (record { place = next; end = end; word = Rattle.read_validate.specs.Ranges.word_at next s })) o seat (BeforeReading s0 g0) (zeros_laid end offset s) g
            (record { rest = at.rest; ghost = at.ghost })
            (record {
              valid = at.valid;
              ready = at.ready;
              at_tail = at.at_tail;
              none_kept = at.none_kept;
              job = job;
              few = may.asks.2;
              at = goes_at offset count end s offset starts (omega arith) refl (let other = eqb-false next end is in let most = next_at_most end offset s (omega arith) in omega (arith, other, most));
            }),
      ),
    ),
  )

  range_fits : (none : Bool) → (count_in offset count s == 0) ≡ none → FitsNext no_record Stands Ends s g (range_by none (Range offset count) offset end s)
  range_fits true is = (
    enters_same g s s refl,
    unpins (Range offset count) o seat s0 g0 may s g (record {
      rest = at.rest;
      ghost = at.ghost;
      at_tail = at.at_tail;
      read = (let none = none_laid in let zero = eqb-true (count_in offset count s) 0 is in none ∙ sym zero);
    }),
  )
  range_fits false is = reading_fits (let other = eqb-false (count_in offset count s) 0 is in omega (arith, other)) (next == end) refl

walked_fits : (query : Query) (o : Origin) (seat : ℕ) (s0 : Seat) (g0 : Ghost) → MayLook query o seat s0 g0 → (s : Seat) (g : Ghost) → IsAtTail s0 g0 s g →
    FitsNext no_record (LookStands query o seat s0 g0) (HasLooked query o seat s0 g0) s g (walked_so query s)
walked_fits Size o seat s0 g0 may s g at = (
  enters_same g s s refl,
  unpins Size o seat s0 g0 may s g (record { rest = at.rest; ghost = at.ghost; at_tail = at.at_tail; read = at.bytes }),
)
walked_fits (Range offset count) o seat s0 g0 may s g at = range_fits offset count o seat s0 g0 may s g at (count_in offset count s == 0) refl

module _ (query : Query) (o : Origin) (seat : ℕ) (s0 : Seat) (g0 : Ghost) (may : MayLook query o seat s0 g0) where
  abbrev Along : Look → Seat → Ghost → Type 0
  Along m s g = LookStands query o seat s0 g0 m s g

  abbrev Left : Seen → Seat → Ghost → Type 0
  Left = HasLooked query o seat s0 g0

  -- a pin is taken
  module _ (t : Seat) (h : Ghost) (at : t ≡ pinned s0 t.hold.head) (same : h ≡ g0) where
    free : IsFree h t.calling
    free = subst (λ (c : Calling). IsFree h c) (sym (ap (λ (u : Seat). u.calling) at)) (subst (λ (i : Ghost). IsFree i s0.calling) (sym same) may.free)

    walk_fits : HasBegun mapping_law o seat (BeforeWalk s0 g0) Begin t h
    walk_fits = has_begun mapping_law o seat (BeforeWalk s0 g0) t h (record { seat = at; ghost = same })
        (record {
          valid = ap (λ (u : Seat). u.hold.valid) at;
          pinned = λ unready. sym (ap (λ (u : Seat). u.hold.generation) at);
          takes_in = (let none = ap (λ (u : Seat). u.calling.bases) at ∙ may.no_bases in
              record { free = free; few = (let no = ap (λ (l : List ℕ). length l) none in omega (arith, no)); no_bases = λ unready. none });
          none_kept = ap (λ (u : Seat). u.walk.kept) at;
        })

  pub pin_stage : (p : Pin) (s : Seat) (g : Ghost) → HasBegun pin_law o seat (IsUnmoved s0 g0) p s g → Lawful o seat look_script no_record Along Left (at_stage query (Pinning p)) s g
  pin_stage = lawful_stage o seat no_record Along Left pin_law (IsUnmoved s0 g0) (at_pin query)
      (λ p t a admits. admits.part)
      (λ p t h a at told admits. record { part = admits; joint = tt; falls = pin_falls query p t a admits })
      (λ p t h at. (refl, at))
      (λ start ghost out t h before may' left. (
        enters_same h t t refl,
        (refl, walk_fits t h (left.left ∙ ap (λ (u : Seat). pinned u t.hold.head) before.seat) (left.ghost ∙ before.ghost)),
      ))

  -- the tail is found
  at_the_tail : (start : Seat) (ghost : Ghost) (out : Tail) (t : Seat) (h : Ghost) → BeforeWalk s0 g0 start ghost → HasWalkedOn start ghost out t h → HasWholeMap t → IsAtTail s0 g0 t h
  at_the_tail start ghost out t h before left whole = record {
    rest = ap unlooked left.left ∙ ap unlooked before.seat;
    bytes = ap (λ (u : Seat). u.calling.bytes) left.left ∙ ap (λ (u : Seat). u.calling.bytes) before.seat;
    ghost = left.ghost ∙ before.ghost;
    valid = ap (λ (u : Seat). u.hold.valid) left.left ∙ ap (λ (u : Seat). u.hold.valid) before.seat;
    ready = left.ready;
    at_tail = left.at_tail;
    none_kept = left.none_kept;
    whole = whole;
  }

  pub walk_stage : (p : Walk) (s : Seat) (g : Ghost) → HasBegun mapping_law o seat (BeforeWalk s0 g0) p s g → Lawful o seat look_script no_record Along Left (at_stage query (Walking p)) s g
  walk_stage = lawful_stage o seat no_record Along Left mapping_law (BeforeWalk s0 g0) (at_walk query)
      (λ p t a admits. admits.part)
      (λ p t h a at told admits.
      (let joint : JointAdmits query (Walking p) t a = λ out done. (let left = told.ends out done in may_read query s0 g0 _ _ may.asks (at_the_tail at.start at.ghost out _ _ at.before left.0 left.1)) in
      record { part = admits; joint = joint; falls = walk_falls query p t a admits joint }))
      (λ p t h at. (refl, at))
      (λ start ghost out t h before may' left. walked_fits query o seat s0 g0 may t h (at_the_tail start ghost out t h before left.0 left.1))

  pub unpin_stage : (p : Unpin) (s : Seat) (g : Ghost) → HasBegun unpin_law o seat (BeforeUnpin query s0 g0) p s g → Lawful o seat look_script no_record Along Left (at_stage query (Unpinning p)) s g
  unpin_stage = lawful_stage o seat no_record Along Left unpin_law (BeforeUnpin query s0 g0) (at_unpin query)
      (λ p t a admits. admits.part)
      (λ p t h a at told admits. record { part = admits; joint = tt; falls = unpin_falls query p t a })
      (λ p t h at. (refl, at))
      (λ start ghost out t h before may' left. (
        enters_same h t t refl,
        record {
          out_is = refl;
          read = subst (λ (u : Seat). HasRead query s0 u) (sym left.left) (read_unpinned query s0 start before.read);
          unpinned = ap (λ (u : Seat). u.hold.pin) left.left;
          at_tail = ap (λ (u : Seat). u.walk.at_tail) left.left ∙ before.at_tail;
          none_kept = ap (λ (u : Seat). u.walk.kept) left.left;
          rest = ap unlooked left.left ∙ before.rest;
          ghost = left.ghost ∙ before.ghost;
        },
      ))

-- all words of the range are loaded
module _ (offset count : ℕ) (o : Origin) (seat : ℕ) (s0 : Seat) (g0 : Ghost) (may : MayLook (Range offset count) o seat s0 g0) (first : ReadRange) where
  pub range_stage : (p : ReadRange) (s : Seat) (g : Ghost) → HasBegun (range_law offset count first) o seat (BeforeReading s0 g0) p s g →
      Lawful o seat look_script no_record (LookStands (Range offset count) o seat s0 g0) (HasLooked (Range offset count) o seat s0 g0) (at_stage (Range offset count) (Reading p)) s g
  range_stage = lawful_stage o seat no_record (LookStands (Range offset count) o seat s0 g0) (HasLooked (Range offset count) o seat s0 g0) (range_law offset count first) (BeforeReading s0 g0) (at_range (Range offset count))
      (λ p t a admits. admits.part)
      (λ p t h a at told admits. record { part = admits; joint = tt; falls = range_falls (Range offset count) p t a admits })
      (λ p t h at. (refl, (first, at)))
      (λ start ghost out t h before may' left. (
        enters_same h t t refl,
        unpins (Range offset count) o seat s0 g0 may t h (record {
          rest = ap unlooked left.rest ∙ before.rest;
          ghost = left.ghost ∙ before.ghost;
          at_tail = ap (λ (u : Seat). u.walk.at_tail) left.rest ∙ may'.at_tail;
          read = left.long;
        }),
      ))
