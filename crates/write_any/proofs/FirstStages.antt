-- The first stages of a write are lawful: it takes a pin and goes to the tail.
use Rattle.std.proofs.Common.{◌≡◌, ◌≢◌, ◌⊎◌, inl, inr, ℕ, ◌+◌, ◌*◌, ◌^◌, ◌<◌, ◌≤◌, ◌==◌, Bool, true, false, List, length, Some, refl, sym, ap, subst, ◌∙◌, arith}
use Rattle.std.proofs.lemmas.Bool.{eqb-true, eqb-false}
use Rattle.std.proofs.lemmas.List.{nil_from_length, length-map}
use Rattle.log_entry.specs.Shape.{longest_of}
use Rattle.log_entry.specs.Legal.{last_position}
use Rattle.log_entry.specs.declared.shapes.Area.TheVariants.{Data, Log}
use Rattle.log_entry.specs.declared.calls.WriteRefusal.TheVariants.{PositionLimit}
use Rattle.pmem_words.specs.declared.keeps.Task.{Task}
use Rattle.pmem_words.specs.declared.owned.OwnedBlock.{OwnedBlock}
use Rattle.pmem_words.specs.Seats.{Seat}
use Rattle.log_core.specs.Views.{Ghost}
use Rattle.log_core.specs.Origin.{Origin}
use Rattle.log_core.specs.Works.{words_of, laid_bytes, IsFree}
use Rattle.log_core.specs.Within.{no_record, Lawful}
use Rattle.log_core.proofs.machines.Entering.{enters_same}
use Rattle.log_core.proofs.machines.MachineLaws.{IsUnmoved, HasBegun, has_begun, lawful_stage}
use Rattle.pins.specs.declared.pin.Pin.{Pin}
use Rattle.pins.specs.Endings.{pinned}
use Rattle.pins.proofs.PinWithin.{pin_law, unpin_law}
use Rattle.block_bitmap.specs.TakeWithin.{MayLack}
use Rattle.block_bitmap.specs.TakeScript.{take_of}
use Rattle.log_blocks.specs.declared.walk.Tail.{Tail}
use Rattle.log_blocks.specs.declared.walk.Walk.{Walk}
use Rattle.log_blocks.specs.WalkWithin.{MayTakeIn, HasWalkedOn}
use Rattle.log_blocks.specs.PutWithin.{MayOffer}
use Rattle.log_blocks.proofs.WalkServes.{walk_law}
use Rattle.log_blocks.proofs.WalkOn.{walk_on_law}
use Rattle.write_any.specs.declared.stage.Target.TheVariants.{At}
use Rattle.write_any.specs.declared.stage.Stage.TheVariants.{Pinning, Walking, Taking}
use Rattle.write_any.specs.declared.write.Write.{Write}
use Rattle.write_any.specs.Composing.{block_count, virt_at, entry_for, IsWhole, HasBlocks}
use Rattle.write_any.specs.Writing.{at_stage, write_script, CanGoOn, walked_by, tail_by}
use Rattle.write_any.specs.WriteWithin.{MayWrite, HasWritten, unwritten}
use Rattle.write_any.proofs.Embedding.{at_pin, at_walk}
use Rattle.write_any.proofs.OfferLaw.{offering_law}
use Rattle.write_any.proofs.LimitLaw.{taking_log_law}
use Rattle.write_any.proofs.TakenInOrder.{ordered_law}
use Rattle.write_any.proofs.Falls.{pin_falls, walk_falls}
use Rattle.write_any.proofs.EndStages.{may_pin}
use Rattle.write_any.proofs.WriteStanding.{unmarked, unmarked_all, IsHere, IsWriting, AreWritten, AreOneRun, AreRunsOf, OwnsNone, OwnsWritten, BeforeWalk, BeforeTake, AtEnd, AtSlot, IsEnding, WriteStands, StageStands}

module _ (offset : ℕ) (o : Origin) (seat : ℕ) (s0 : Seat) (g0 : Ghost) (may : MayWrite offset o seat s0 g0) where
  abbrev Stands : Write → Seat → Ghost → Type 0
  Stands m s g = WriteStands offset o seat s0 g0 m s g

  -- the call may still take in what it finds
  pub free_so : (t : Seat) (h : Ghost) → IsWriting offset o seat s0 g0 t h → IsFree h t.calling
  free_so t h w = record {
    not_won = w.not_won;
    none_laid = ap (λ (job : Task). laid_bytes job t.calling.bytes) (ap (λ (u : Seat). u.calling.job) w.rest ∙ may.job);
    no_sync = ap (λ (u : Seat). u.calling.sync_to) w.rest ∙ may.free.no_sync;
    no_head = w.no_head;
  }

  pub takes_in : (t : Seat) (h : Ghost) → IsWriting offset o seat s0 g0 t h → MayTakeIn t h
  takes_in t h w = record { free = free_so t h w; few = (let none = ap (λ (l : List ℕ). length l) w.no_bases in omega (arith, none)); no_bases = λ unready. w.no_bases }

  -- the call's bytes fill blocks
  pub whole_so : (t : Seat) → unwritten t ≡ unwritten s0 → IsWhole offset t
  whole_so t rest =
      (let count = ap block_count rest in
      let virt = ap (λ (u : Seat). virt_at offset u) rest in
      let most = ap (λ (u : Seat). longest_of u.geometry.block_bytes) rest in
      record {
        some = (let some = may.whole.some in omega (arith, some, count));
        few = (let few = may.whole.few in omega (arith, few, count, most));
        starts = may.whole.starts ∙ sym (ap (λ (u : Seat). virt_at offset u * u.geometry.block_bytes) rest);
        inside = (let inside = may.whole.inside in omega (arith, inside, count, virt));
        bytes = ap (λ (u : Seat). length u.calling.bytes) rest ∙ (may.whole.bytes ∙ sym (ap (λ (u : Seat). block_count u * u.geometry.block_bytes) rest));
      })

  pub few_count : block_count s0 ≤ 256
  few_count = (let few = may.whole.few in omega (arith, few))

  -- blocks that are written are as many as are touched, or one more
  pub form_many : (owned : List OwnedBlock) (contents : List ℕ) → AreWritten offset o seat s0 g0 owned contents → (block_count s0 ≤ length owned) × (length owned ≤ block_count s0 + 1)
  form_many owned contents written = by written.composed.form
    where
      same : length (unmarked_all owned) ≡ length owned
      same = length-map owned unmarked

      by : AreOneRun offset o seat s0 g0 (unmarked_all owned) ⊎ AreRunsOf offset o seat s0 g0 (unmarked_all owned) contents → (block_count s0 ≤ length owned) × (length owned ≤ block_count s0 + 1)
      by (inl one) = (let many = one.many in let long = same in (omega (arith, many, long), omega (arith, many, long)))
      by (inr runs) = (let many = runs.many in let long = same in (omega (arith, many, long), omega (arith, many, long)))

  pub written_many : (s : Seat) → OwnsWritten offset o seat s0 g0 s → (block_count s0 ≤ length s.blocks.owned) × (length s.blocks.owned ≤ block_count s0 + 1)
  written_many s owns = form_many s.blocks.owned s.blocks.contents owns.written

  pub has_blocks : (s : Seat) → unwritten s ≡ unwritten s0 → OwnsWritten offset o seat s0 g0 s → HasBlocks offset s
  has_blocks s rest owns = (let many = written_many s owns in let count = ap block_count rest in let few = few_count in record {
    whole = whole_so s rest;
    least = (let least = many.0 in omega (arith, least, count));
    most = (let most = many.1 in omega (arith, most, few));
  })

  -- a pin is taken
  module _ (t : Seat) (h : Ghost) (at : t ≡ pinned s0 t.hold.head) (same : h ≡ g0) where
    pinned_writing : IsWriting offset o seat s0 g0 t h
    pinned_writing = record {
      rest = ap unwritten at;
      not_won = ap (λ (u : Seat). u.calling.won) at ∙ may.free.not_won;
      no_bases = ap (λ (u : Seat). u.calling.bases) at ∙ may.no_bases;
      no_marks = ap (λ (i : Ghost). i.marks) same ∙ may.no_marks;
      number = ap (λ (i : Ghost). i.call.number) same;
      no_head = ap (λ (i : Ghost). i.call.put) same ∙ may.free.no_head;
    }

    walk_fits : HasBegun walk_law o seat (BeforeWalk offset o seat s0 g0) Rattle.log_blocks.specs.declared.walk.Walk.TheVariants.Begin t h
    walk_fits = has_begun walk_law o seat (BeforeWalk offset o seat s0 g0) t h
        (record { writing = pinned_writing; owns = inl (record { owned = ap (λ (u : Seat). u.blocks.owned) at ∙ may.none_owned; contents = ap (λ (u : Seat). u.blocks.contents) at ∙ may.no_contents }) })
        (record { valid = ap (λ (u : Seat). u.hold.valid) at; pinned = λ unready. sym (ap (λ (u : Seat). u.hold.generation) at); takes_in = takes_in t h pinned_writing; none_kept = ap (λ (u : Seat). u.walk.kept) at })

  pub pin_stage : (p : Pin) (s : Seat) (g : Ghost) → HasBegun pin_law o seat (IsUnmoved s0 g0) p s g →
      Lawful o seat write_script no_record Stands (HasWritten offset o seat s0 g0) (at_stage (At offset) (Pinning p)) s g
  pin_stage = lawful_stage o seat no_record Stands (HasWritten offset o seat s0 g0) pin_law (IsUnmoved s0 g0) (at_pin (At offset))
      (λ p t a admits. admits.part)
      (λ p t h a at told admits. record { part = admits; joint = tt; falls = pin_falls (At offset) p t a admits })
      (λ p t h at. (refl, at))
      (λ start ghost out t h before may' left. (
        enters_same h t t refl,
        (refl, inl (walk_fits t h (left.left ∙ ap (λ (u : Seat). pinned u t.hold.head) before.seat) (left.ghost ∙ before.ghost))),
      ))

  -- the tail is found; the blocks that the call lacks, and the entry that it may put in, are for the next stages to show
  module _ (lacks_data : (t : Seat) (h : Ghost) → BeforeTake offset o seat s0 g0 t h → MayLack Data (block_count s0) t h)
      (lacks_log : (t : Seat) (h : Ghost) → AtEnd offset o seat s0 g0 t h → MayLack Log 1 t h)
      (offers : (t : Seat) (h : Ghost) → AtSlot offset o seat s0 g0 t h → MayOffer (entry_for offset t) o seat t h) where
    pub tail_fits : (end : Bool) (t : Seat) (h : Ghost) → (t.walk.tail_slot == words_of t) ≡ end → IsWriting offset o seat s0 g0 t h → IsHere t → OwnsWritten offset o seat s0 g0 t →
        StageStands offset o seat s0 g0 (tail_by end (At offset) t) t h
    tail_fits true t h e writing here owns =
        (let before : AtEnd offset o seat s0 g0 t h = record { writing = writing; here = here; owns = owns; at_end = eqb-true t.walk.tail_slot (words_of t) e } in
        has_begun taking_log_law o seat (AtEnd offset o seat s0 g0) t h before (lacks_log t h before))
    tail_fits false t h e writing here owns =
        (let before : AtSlot offset o seat s0 g0 t h = record { writing = writing; here = here; owns = owns; inside = eqb-false t.walk.tail_slot (words_of t) e } in
        (entry_for offset t, has_begun (offering_law (entry_for offset t)) o seat (AtSlot offset o seat s0 g0) t h before (offers t h before)))

    -- where a walk has ended
    module _ (start : Seat) (ghost : Ghost) (out : Tail) (t : Seat) (h : Ghost) (before : BeforeWalk offset o seat s0 g0 start ghost) (valid : start.hold.valid ≡ true) (left : HasWalkedOn start ghost out t h) where
      walked_writing : IsWriting offset o seat s0 g0 t h
      walked_writing = record {
        rest = ap unwritten left.left ∙ before.writing.rest;
        not_won = ap (λ (u : Seat). u.calling.won) left.left ∙ before.writing.not_won;
        no_bases = nil_from_length t.calling.bases (let few = left.few in let none = ap (λ (l : List ℕ). length l) before.writing.no_bases in omega (arith, few, none));
        no_marks = ap (λ (i : Ghost). i.marks) left.ghost ∙ before.writing.no_marks;
        number = ap (λ (i : Ghost). i.call.number) left.ghost ∙ before.writing.number;
        no_head = ap (λ (i : Ghost). i.call.put) left.ghost ∙ before.writing.no_head;
      }

      owned_same : t.blocks.owned ≡ start.blocks.owned
      owned_same = ap (λ (u : Seat). u.blocks.owned) left.left

      contents_same : t.blocks.contents ≡ start.blocks.contents
      contents_same = ap (λ (u : Seat). u.blocks.contents) left.left

      -- its blocks are those that it had
      walked_owns : 0 < length t.blocks.owned → OwnsWritten offset o seat s0 g0 t
      walked_owns some = by before.owns
        where
          by : OwnsNone offset o seat s0 g0 start ⊎ OwnsWritten offset o seat s0 g0 start → OwnsWritten offset o seat s0 g0 t
          by (inl none) = absurd (let no = ap (λ (l : List OwnedBlock). length l) (owned_same ∙ none.owned) in omega (arith, no, some))
          by (inr owns) = record {
            written = subst (λ (l : List OwnedBlock). AreWritten offset o seat s0 g0 l t.blocks.contents) (sym owned_same)
                (subst (λ (l : List ℕ). AreWritten offset o seat s0 g0 start.blocks.owned l) (sym contents_same) owns.written);
          }

      walked_none : length t.blocks.owned ≡ 0 → OwnsNone offset o seat s0 g0 t
      walked_none empty = by before.owns
        where
          by : OwnsNone offset o seat s0 g0 start ⊎ OwnsWritten offset o seat s0 g0 start → OwnsNone offset o seat s0 g0 t
          by (inl none) = record { owned = owned_same ∙ none.owned; contents = contents_same ∙ none.contents }
          by (inr owns) = absurd (let many = (written_many start owns).0 in let some = may.whole.some in let same = ap (λ (l : List OwnedBlock). length l) owned_same in omega (arith, many, some, same, empty))

      can_go_on : CanGoOn offset t
      can_go_on = record { whole = whole_so t walked_writing.rest; blocks = λ some. has_blocks t walked_writing.rest (walked_owns some) }

      few_owned : length t.blocks.owned < 2 ^ 17
      few_owned = by (length t.blocks.owned == 0) refl
        where
          by : (none : Bool) → (length t.blocks.owned == 0) ≡ none → length t.blocks.owned < 2 ^ 17
          by true e = (let no = eqb-true (length t.blocks.owned) 0 e in omega (arith, no))
          by false e = (let some = eqb-false (length t.blocks.owned) 0 e in let many = (written_many t (walked_owns (omega (arith, some)))).1 in let few = few_count in omega (arith, many, few))

      is_here : t.walk.position ≢ last_position → IsHere t
      is_here below = record { valid = ap (λ (u : Seat). u.hold.valid) left.left ∙ valid; ready = left.ready; at_tail = left.at_tail; none_kept = left.none_kept; below = below }

      -- so it is refused, takes its blocks, or goes on with those that it has
      walked_fits : (limit none : Bool) → (t.walk.position == last_position) ≡ limit → (length t.blocks.owned == 0) ≡ none → StageStands offset o seat s0 g0 (walked_by limit none (At offset) t) t h
      walked_fits true none e f = has_begun unpin_law o seat (IsEnding offset o seat s0 g0 (Some PositionLimit)) t h
          (record {
            rest = walked_writing.rest;
            cause = (walked_writing.not_won, eqb-true t.walk.position last_position e);
            at_tail = left.at_tail;
            none_kept = left.none_kept;
            few = few_owned;
            no_marks = walked_writing.no_marks;
            number = walked_writing.number;
            no_head = walked_writing.no_head;
          })
          (may_pin offset o seat s0 g0 may t h walked_writing.rest)
      walked_fits false true e f =
          (let here = is_here (eqb-false t.walk.position last_position e) in
          let before : BeforeTake offset o seat s0 g0 t h = record { writing = walked_writing; here = here; owns = walked_none (eqb-true (length t.blocks.owned) 0 f) } in
          subst (λ (n : ℕ). StageStands offset o seat s0 g0 (Taking (take_of Data n)) t h) (sym (ap block_count walked_writing.rest))
          (has_begun (ordered_law Data (block_count s0)) o seat (BeforeTake offset o seat s0 g0) t h before (lacks_data t h before)))
      walked_fits false false e f =
          tail_fits (t.walk.tail_slot == words_of t) t h refl walked_writing (is_here (eqb-false t.walk.position last_position e))
          (walked_owns (let some = eqb-false (length t.blocks.owned) 0 f in omega (arith, some)))

      walked_next : Stands (at_stage (At offset) (walked_by (t.walk.position == last_position) (length t.blocks.owned == 0) (At offset) t)) t h
      walked_next = (refl, walked_fits (t.walk.position == last_position) (length t.blocks.owned == 0) refl refl)

    pub walk_stage : (p : Walk) (s : Seat) (g : Ghost) → HasBegun walk_law o seat (BeforeWalk offset o seat s0 g0) p s g →
        Lawful o seat write_script no_record Stands (HasWritten offset o seat s0 g0) (at_stage (At offset) (Walking p)) s g
    walk_stage = lawful_stage o seat no_record Stands (HasWritten offset o seat s0 g0) walk_law (BeforeWalk offset o seat s0 g0) (at_walk (At offset))
        (λ p t a admits. admits.part)
        (λ p t h a at told admits. record {
          part = admits;
          joint = λ out done. can_go_on at.start at.ghost out _ _ at.before at.may.valid (told.ends out done);
          falls = walk_falls (At offset) p t a admits;
        })
        (λ p t h at. (refl, inl at))
        (λ start ghost out t h before may' left. (enters_same h t t refl, walked_next start ghost out t h before may'.valid left))

    pub walk_on_stage : (word : ℕ) (p : Walk) (s : Seat) (g : Ghost) → HasBegun (walk_on_law word) o seat (BeforeWalk offset o seat s0 g0) p s g →
        Lawful o seat write_script no_record Stands (HasWritten offset o seat s0 g0) (at_stage (At offset) (Walking p)) s g
    walk_on_stage word = lawful_stage o seat no_record Stands (HasWritten offset o seat s0 g0) (walk_on_law word) (BeforeWalk offset o seat s0 g0) (at_walk (At offset))
        (λ p t a admits. admits.part)
        (λ p t h a at told admits. record {
          part = admits;
          joint = λ out done. can_go_on at.start at.ghost out _ _ at.before at.may.valid (told.ends out done).walked;
          falls = walk_falls (At offset) p t a admits;
        })
        (λ p t h at. (refl, inr (word, at)))
        (λ start ghost out t h before may' left. (enters_same h t t refl, walked_next start ghost out t h before may'.valid left.walked))
