-- What a write keeps where it alone makes steps, from one step to the next.
use Rattle.std.proofs.Common.{◌≡◌, ℕ, ◌+◌, ◌==◌, nat_lt, Bool, true, false, List, Option, Some, None, refl, sym, ap, subst, ◌∙◌}
use Rattle.std.proofs.lemmas.Bool.{eqb-true}
use Rattle.log_entry.specs.Fields.{field}
use Rattle.log_entry.specs.declared.layouts.TheConstants.{BLOCK_BASE, BLOCK_KIND, EMPTY, ENTRY_KIND, INDIRECT, SEAL, SNAPSHOT}
use Rattle.log_entry.specs.declared.calls.WriteRefusal.{WriteRefusal}
use Rattle.pmem_words.specs.Scripts.{After}
use Rattle.pmem_words.specs.Parts.{Next, Into, End, moved, onward_at, onward}
use Rattle.pmem_words.specs.declared.machine.Turn.{Turn}
use Rattle.pmem_words.specs.declared.machine.Turn.TheVariants.{Go, Done}
use Rattle.pmem_words.specs.Seats.{Seat, Walk as WalkState}
use Rattle.log_core.specs.Origin.{Origin, LogBlock}
use Rattle.log_core.specs.Files.{Write as WriteOf}
use Rattle.log_core.specs.Cores.{Core}
use Rattle.log_core.specs.Works.{words_of}
use Rattle.pins.specs.declared.pin.Pin.{Pin}
use Rattle.pins.specs.declared.pin.Pin.TheVariants.{Begin as BeginPin, Publish, Confirm}
use Rattle.pins.specs.Pinning.{pin_after}
use Rattle.log_blocks.specs.declared.walk.Tail.{Tail}
use Rattle.log_blocks.specs.declared.walk.Walk.{Walk}
use Rattle.log_blocks.specs.declared.walk.Walk.TheVariants.{Begin, Size, Run, Link, Next as NextBlock, Indirect}
use Rattle.log_blocks.specs.Taking.{with_kept, tail_found}
use Rattle.log_blocks.specs.Walking.{walk_after, keeps_table, front_after, run_after, next_after, slot_after, tail_after, begin_after, indirect_after}
use Rattle.write_any.specs.WriteAlone.{HasAdded}
use Rattle.write_any.proofs.AloneStanding.{IsUnput, IsAtLogEnd, EndsBy}
use Rattle.write_any.proofs.AloneSteps.{Stays, bits_same}
use Rattle.write_any.proofs.OpenTail.{IsOpenTail}

-- what is to hold where the whole goes on, and where it ends with an outcome
module _ {C Out : Type 0} (K : C → Seat → Type 0) (E : Out → Seat → Type 0) where
  abbrev pub FitsOn : Next C Out → Type 0
  FitsOn (Into m s) = K m s
  FitsOn (End out s) = E out s

  pub record MovesTo (r : After C Out) : Type 0 where
    pub goes : r.turn ≡ Go → K r.machine r.seat
    pub ends : (out : Out) → r.turn ≡ Done out → E out r.seat

  moves_moved : (m : C) (n : Next C Out) → FitsOn n → MovesTo (moved m n)
  moves_moved m (Into c s) h = record { goes = λ go. h; ends = λ out done. cc }
  moves_moved m (End out s) h = record { goes = λ go. cc; ends = λ other done. (let same : out ≡ other = cc in subst (λ (x : Out). E x s) same h) }

  module _ {A OutA : Type 0} (inject : A → C) (next : OutA → Seat → Next C Out) where
    moves_at : (m : A) (s : Seat) (t : Turn OutA) → (t ≡ Go → K (inject m) s) → ((out : OutA) → t ≡ Done out → FitsOn (next out s)) → MovesTo (onward_at inject next m s t)
    moves_at m s Go goes ends = record { goes = λ go. goes refl; ends = λ out done. cc }
    moves_at m s (Done out) goes ends = moves_moved (inject m) (next out s) (ends out refl)

    -- a step of a stage fits where the part's own steps do, and what follows its end
    pub moves_onward : (r : After A OutA) → (r.turn ≡ Go → K (inject r.machine) r.seat) → ((out : OutA) → r.turn ≡ Done out → FitsOn (next out r.seat)) → MovesTo (onward inject next r)
    moves_onward r goes ends = moves_at r.machine r.seat r.turn goes ends

-- a step of the pin and of the walk changes neither the owned blocks nor the bits found, and loses no exchange
pub record IsAside (s t : Seat) : Type 0 where
  pub lost : t.calling.lost ≡ s.calling.lost
  pub owned : t.blocks.owned ≡ s.blocks.owned
  pub found : t.blocks.found ≡ s.blocks.found

pub pin_aside : (p : Pin) (s : Seat) (f : ℕ) → IsAside s (pin_after p s f).seat
pin_aside BeginPin s f = record { lost = refl; owned = refl; found = refl }
pin_aside Publish s f = record { lost = refl; owned = refl; found = refl }
pin_aside Confirm s f = record { lost = refl; owned = refl; found = refl }

front_aside : (keeps snapshot : Bool) (s : Seat) (f : ℕ) → IsAside s (front_after keeps snapshot s f).seat
front_aside true snapshot s f = record { lost = refl; owned = refl; found = refl }
front_aside false true s f = record { lost = refl; owned = refl; found = refl }
front_aside false false s f = record { lost = refl; owned = refl; found = refl }

slot_aside : (seal indirect : Bool) (s : Seat) (f : ℕ) → IsAside s (slot_after seal indirect s f).seat
slot_aside true indirect s f = record { lost = refl; owned = refl; found = refl }
slot_aside false true s f = record { lost = refl; owned = refl; found = refl }
slot_aside false false s f = record { lost = refl; owned = refl; found = refl }

tail_aside : (empty last : Bool) (s : Seat) (f : ℕ) → IsAside s (tail_after empty last s f).seat
tail_aside true last s f = record { lost = refl; owned = refl; found = refl }
tail_aside false true s f = record { lost = refl; owned = refl; found = refl }
tail_aside false false s f = slot_aside (f == SEAL) (field ENTRY_KIND f == INDIRECT) s f

begin_aside : (ready : Bool) (s : Seat) (f : ℕ) → IsAside s (begin_after ready s f).seat
begin_aside true s f = tail_aside (f == EMPTY) (s.walk.tail_slot == words_of s) s f
begin_aside false s f = front_aside (keeps_table s (field BLOCK_BASE f)) (field BLOCK_KIND f == SNAPSHOT) s f

run_aside : (empty : Bool) (s : Seat) (f : ℕ) → IsAside s (run_after empty s f).seat
run_aside true s f = record { lost = refl; owned = refl; found = refl }
run_aside false s f = record { lost = refl; owned = refl; found = refl }

next_aside : (snapshot : Bool) (block : ℕ) (s : Seat) → IsAside s (next_after snapshot block s).seat
next_aside true block s = record { lost = refl; owned = refl; found = refl }
next_aside false block s = record { lost = refl; owned = refl; found = refl }

indirect_aside : (more : Bool) (block word : ℕ) (s t : Seat) → IsAside s t → IsAside s (indirect_after more block word t).seat
indirect_aside true block word s t aside = aside
indirect_aside false block word s t aside = record { lost = aside.lost; owned = aside.owned; found = aside.found }

pub walk_aside : (p : Walk) (s : Seat) (f : ℕ) → IsAside s (walk_after p s f).seat
walk_aside Begin s f = begin_aside s.walk.ready s f
walk_aside (Size base) s f = record { lost = refl; owned = refl; found = refl }
walk_aside Run s f = run_aside (f == EMPTY) s f
walk_aside Link s f = record { lost = refl; owned = refl; found = refl }
walk_aside (NextBlock block) s f = next_aside (field BLOCK_KIND f == SNAPSHOT) block s
walk_aside (Indirect block word) s f = indirect_aside (nat_lt (word + 1) (words_of s)) block word s (with_kept s block word f) (record { lost = refl; owned = refl; found = refl })

-- a walk ends at its begin, at an empty word
pub record IsWalkEnd (p : Walk) (s : Seat) (f : ℕ) : Type 0 where
  pub begins : p ≡ Begin
  pub ready : s.walk.ready ≡ true
  pub empty : f ≡ EMPTY
  pub seat : (walk_after p s f).seat ≡ tail_found s

slot_goes : (seal indirect : Bool) (s : Seat) (f : ℕ) (out : Tail) → (slot_after seal indirect s f).turn ≡ Done out → ⊥
slot_goes true indirect s f out done = cc
slot_goes false true s f out done = cc
slot_goes false false s f out done = cc

front_goes : (keeps snapshot : Bool) (s : Seat) (f : ℕ) (out : Tail) → (front_after keeps snapshot s f).turn ≡ Done out → ⊥
front_goes true snapshot s f out done = cc
front_goes false true s f out done = cc
front_goes false false s f out done = cc

tail_ends : (empty last : Bool) (s : Seat) (f : ℕ) (out : Tail) → (f == EMPTY) ≡ empty → (tail_after empty last s f).turn ≡ Done out → (f ≡ EMPTY) × ((tail_after empty last s f).seat ≡ tail_found s)
tail_ends true last s f out is done = (eqb-true f EMPTY is, refl)
tail_ends false true s f out is done = cc
tail_ends false false s f out is done = absurd (slot_goes (f == SEAL) (field ENTRY_KIND f == INDIRECT) s f out done)

begin_ends : (ready : Bool) (s : Seat) (f : ℕ) (out : Tail) → s.walk.ready ≡ ready → (begin_after ready s f).turn ≡ Done out → (ready ≡ true) × (f ≡ EMPTY) × ((begin_after ready s f).seat ≡ tail_found s)
begin_ends true s f out is done = (let ends = tail_ends (f == EMPTY) (s.walk.tail_slot == words_of s) s f out refl done in (refl, ends.0, ends.1))
begin_ends false s f out is done = absurd (front_goes (keeps_table s (field BLOCK_BASE f)) (field BLOCK_KIND f == SNAPSHOT) s f out done)

run_goes : (empty : Bool) (s : Seat) (f : ℕ) (out : Tail) → (run_after empty s f).turn ≡ Done out → ⊥
run_goes true s f out done = cc
run_goes false s f out done = cc

next_goes : (snapshot : Bool) (block : ℕ) (s : Seat) (out : Tail) → (next_after snapshot block s).turn ≡ Done out → ⊥
next_goes true block s out done = cc
next_goes false block s out done = cc

indirect_goes : (more : Bool) (block word : ℕ) (s : Seat) (out : Tail) → (indirect_after more block word s).turn ≡ Done out → ⊥
indirect_goes true block word s out done = cc
indirect_goes false block word s out done = cc

pub walk_end : (p : Walk) (s : Seat) (f : ℕ) (out : Tail) → (walk_after p s f).turn ≡ Done out → IsWalkEnd p s f
walk_end Begin s f out done = (let ends = begin_ends s.walk.ready s f out refl done in record { begins = refl; ready = ends.0; empty = ends.1; seat = ends.2 })
walk_end (Size base) s f out done = cc
walk_end Run s f out done = absurd (run_goes (f == EMPTY) s f out done)
walk_end Link s f out done = cc
walk_end (NextBlock block) s f out done = absurd (next_goes (field BLOCK_KIND f == SNAPSHOT) block s out done)
walk_end (Indirect block word) s f out done = absurd (indirect_goes (nat_lt (word + 1) (words_of s)) block word (with_kept s block word f) out done)

-- the end of the log stays where history, log and walk do
pub open_moves : (o : Origin) (history later : List WriteOf) (logs more : List LogBlock) (w x : WalkState) → later ≡ history → more ≡ logs → x.position ≡ w.position → x.tail_base ≡ w.tail_base → x.tail_slot ≡ w.tail_slot →
    IsOpenTail o history logs w → IsOpenTail o later more x
open_moves o history later logs more w x same_history same_logs position base slot opens =
    subst (λ (h : List WriteOf). IsOpenTail o h more x) (sym same_history)
    (subst (λ (l : List LogBlock). IsOpenTail o history l x) (sym same_logs) (record {
      position = position ∙ opens.position;
      base = opens.base ∙ sym base;
      long = λ other. opens.long (λ end. other (slot ∙ end)) ∙ sym slot;
      opens = λ other. opens.opens (λ end. other (slot ∙ end));
      closes = λ end. opens.closes (sym slot ∙ end);
    }))

module _ (offset : ℕ) (o : Origin) (seat number : ℕ) (s0 : Seat) (c0 : Core) where
  pub unput_stays : (s t : Seat) (c d : Core) → Stays c d → t.calling.lost ≡ s.calling.lost → t.blocks.found ≡ s.blocks.found → IsUnput offset o seat number s0 c0 s c → IsUnput offset o seat number s0 c0 t d
  unput_stays s t c d stays lost found x = record {
    history = stays.history ∙ x.history;
    logs = stays.logs ∙ x.logs;
    none_lost = lost ∙ x.none_lost;
    bits = bits_same o seat c0.owner s.blocks.found t.blocks.found c.owner d.owner found stays.owner x.bits;
  }

  pub at_end_stays : (s t : Seat) (c d : Core) → Stays c d → t.calling.lost ≡ s.calling.lost → t.blocks.found ≡ s.blocks.found → t.walk ≡ s.walk → IsAtLogEnd offset o seat number s0 c0 s c → IsAtLogEnd offset o seat number s0 c0 t d
  at_end_stays s t c d stays lost found walk x = record {
    unput = unput_stays s t c d stays lost found x.unput;
    opens = open_moves o c.history d.history c.logs d.logs s.walk t.walk stays.history stays.logs (ap (λ (w : WalkState). w.position) walk) (ap (λ (w : WalkState). w.tail_base) walk) (ap (λ (w : WalkState). w.tail_slot) walk) x.opens;
  }

  -- how it ends stays so
  pub ends_stay : (refusal : Option WriteRefusal) (position : ℕ) (c d : Core) → d.history ≡ c.history → EndsBy offset o seat number s0 c0 refusal position c → EndsBy offset o seat number s0 c0 refusal position d
  ends_stay None position c d same x = record {
    added = subst (λ (h : List WriteOf). HasAdded None o seat number offset s0 c0.history h) (sym same) x.added;
    position_is = x.position_is;
    below = x.below;
    data_space = x.data_space;
    log_space = x.log_space;
  }
  ends_stay (Some why) position c d same x = record { history = same ∙ x.history; position_is = x.position_is; cause = x.cause }
