-- What a write has lost since it first found the tail: at most two exchanges for each position that it was moved by, and one.
use Rattle.std.proofs.Common.{◌≡◌, ℕ, ◌+◌, ◌-◌, ◌*◌, ◌^◌, ◌≤◌, ◌==◌, nat_lt, Bool, true, false, refl, sym, ap, subst, ◌∙◌, arith}
use Rattle.std.proofs.Math.Nat.{min-le_left}
use Rattle.std.proofs.lemmas.Bool.{eq-eqb}
use Rattle.log_entry.specs.Fields.{field}
use Rattle.log_entry.specs.declared.layouts.TheConstants.{EMPTY, ENTRY_KIND, INDIRECT, SEAL}
use Rattle.pmem_words.specs.Scripts.{After}
use Rattle.pmem_words.specs.Seats.{Seat, Walk as WalkState, Calling}
use Rattle.pmem_words.specs.declared.machine.Turn.TheVariants.{Go, Done}
use Rattle.log_core.specs.Works.{words_of}
use Rattle.log_blocks.specs.declared.walk.Tail.{Tail}
use Rattle.log_blocks.specs.declared.walk.Walk.{Walk}
use Rattle.log_blocks.specs.declared.walk.Walk.TheVariants.{Begin, Size, Run, Link, Next, Indirect}
use Rattle.log_blocks.specs.Taking.{with_kept}
use Rattle.log_blocks.specs.Committing.{committed, lost_by, away}
use Rattle.log_blocks.specs.Offering.{counted}
use Rattle.log_blocks.specs.Walking.{walk_if, walk_after, begin_after, tail_after, slot_after, indirect_after}
use Rattle.write_any.specs.LosingFew.{others_position, HasLostFew}

-- at a block's end and in its first slot no seal of the position is to be found any more
abbrev pub past_seal : Bool → Bool → ℕ
past_seal true first = 1
past_seal false true = 1
past_seal false false = 0

abbrev pub seals_passed : Seat → ℕ
seals_passed s = past_seal (s.walk.tail_slot == words_of s) (s.walk.tail_slot == 3)

pub past_few : (end first : Bool) → past_seal end first ≤ 1
past_few true first = omega arith
past_few false true = omega arith
past_few false false = omega arith

past_first : (end : Bool) → past_seal end true ≡ 1
past_first true = refl
past_first false = refl

-- a call that has put nothing in. It had lost so many exchanges at a position, and has lost at most two for each position from there on, and
-- some more
pub record HasLost (first before more : ℕ) (walk : WalkState) (calling : Calling) : Type 0 where
  pub ready : walk.ready ≡ true
  pub not_won : calling.won ≡ false
  pub from : first ≤ walk.position
  pub few : calling.lost ≤ before + (2 * (walk.position - first) + more)

module _ (first before : ℕ) where
  abbrev pub Lost : ℕ → Seat → Type 0
  Lost more s = HasLost first before more s.walk s.calling

  -- one more where a seal may have been found at this position
  abbrev pub LostAtTail : Seat → Type 0
  LostAtTail s = Lost (seals_passed s) s

  -- behind an indirect entry that was found the position is still to rise
  abbrev pub WalkLost : Walk → Seat → Type 0
  WalkLost Begin s = LostAtTail s
  WalkLost (Size base) s = ⊥
  WalkLost Run s = ⊥
  WalkLost Link s = ⊥
  WalkLost (Next block) s = ⊥
  WalkLost (Indirect block word) s = Lost 2 s

  -- a step of a walk keeps it
  pub record WalkKeeps (r : After Walk Tail) : Type 0 where
    pub goes : r.turn ≡ Go → WalkLost r.machine r.seat
    pub ends : (out : Tail) → r.turn ≡ Done out → LostAtTail r.seat

  at_most_two : (s : Seat) → LostAtTail s → Lost 2 s
  at_most_two s x = record {
    ready = x.ready;
    not_won = x.not_won;
    from = x.from;
    few = (let few = x.few in let one = past_few (s.walk.tail_slot == words_of s) (s.walk.tail_slot == 3) in omega (arith, few, one));
  }

  -- two lost exchanges are paid by the next position
  pub next_position : (more : ℕ) (walk next : WalkState) (calling now : Calling) → more ≤ 2 → HasLost first before more walk calling → next.ready ≡ walk.ready → next.position ≡ walk.position + 1 → now.won ≡ calling.won → now.lost ≡ calling.lost →
      (less : ℕ) → HasLost first before less next now
  next_position more walk next calling now two x ready position won lost less = record {
    ready = ready ∙ x.ready;
    not_won = won ∙ x.not_won;
    from = (let from = x.from in omega (arith, from, position));
    few = (let from = x.from in let few = x.few in omega (arith, from, few, position, lost, two));
  }

  slot_keeps : (seal indirect : Bool) (s : Seat) (f : ℕ) → LostAtTail s → WalkKeeps (slot_after seal indirect s f)
  slot_keeps true indirect s f x = record {
    goes = λ go. record {
      ready = x.ready;
      not_won = x.not_won;
      from = x.from;
      few = (let few = x.few in let one = past_few (s.walk.tail_slot == words_of s) (s.walk.tail_slot == 3) in
          let end = ap (λ (b : Bool). past_seal b (words_of s == 3)) (eq-eqb (words_of s) (words_of s) refl) in omega (arith, few, one, end));
    };
    ends = λ out done. cc;
  }
  slot_keeps false true s f x = record { goes = λ go. (let two = at_most_two s x in record { ready = two.ready; not_won = two.not_won; from = two.from; few = two.few }); ends = λ out done. cc }
  slot_keeps false false s f x = record {
    goes = λ go. next_position (seals_passed s) s.walk (slot_after false false s f).seat.walk s.calling (slot_after false false s f).seat.calling
        (let one = past_few (s.walk.tail_slot == words_of s) (s.walk.tail_slot == 3) in omega (arith, one)) x refl refl refl refl (seals_passed (slot_after false false s f).seat);
    ends = λ out done. cc;
  }

  tail_keeps : (empty last : Bool) (s : Seat) (f : ℕ) → LostAtTail s → WalkKeeps (tail_after empty last s f)
  tail_keeps true last s f x = record { goes = λ go. cc; ends = λ out done. record { ready = x.ready; not_won = x.not_won; from = x.from; few = x.few } }
  tail_keeps false true s f x = record {
    goes = λ go. record {
      ready = x.ready;
      not_won = x.not_won;
      from = x.from;
      few = (let few = x.few in let one = past_few (s.walk.tail_slot == words_of s) (s.walk.tail_slot == 3) in let start = past_first (3 == words_of s) in omega (arith, few, one, start));
    };
    ends = λ out done. cc;
  }
  tail_keeps false false s f x = slot_keeps (f == SEAL) (field ENTRY_KIND f == INDIRECT) s f x

  begin_keeps : (ready : Bool) (s : Seat) (f : ℕ) → s.walk.ready ≡ ready → LostAtTail s → WalkKeeps (begin_after ready s f)
  begin_keeps true s f is x = tail_keeps (f == EMPTY) (s.walk.tail_slot == words_of s) s f x
  begin_keeps false s f is x = absurd (let ready = x.ready in let both : true ≡ false = sym ready ∙ is in cc)

  indirect_keeps : (more : Bool) (block word : ℕ) (s : Seat) → Lost 2 s → WalkKeeps (indirect_after more block word s)
  indirect_keeps true block word s x = record { goes = λ go. x; ends = λ out done. cc }
  indirect_keeps false block word s x = record {
    goes = λ go. next_position 2 s.walk (indirect_after false block word s).seat.walk s.calling (indirect_after false block word s).seat.calling (omega arith) x refl refl refl refl (seals_passed (indirect_after false block word s).seat);
    ends = λ out done. cc;
  }

  pub walk_keeps : (p : Walk) (s : Seat) (f : ℕ) → WalkLost p s → WalkKeeps (walk_after p s f)
  walk_keeps Begin s f x = begin_keeps s.walk.ready s f refl x
  walk_keeps (Size base) s f x = absurd x
  walk_keeps Run s f x = absurd x
  walk_keeps Link s f x = absurd x
  walk_keeps (Next block) s f x = absurd x
  walk_keeps (Indirect block word) s f x = indirect_keeps (nat_lt (word + 1) (words_of s)) block word (with_kept s block word f) (record { ready = x.ready; not_won = x.not_won; from = x.from; few = x.few })

  -- an exchange that lost: a seal is not found twice at a position, and any other word ends in the next one
  counted_few : (s : Seat) → (counted s).calling.lost ≤ s.calling.lost + 1
  counted_few s = min-le_left (s.calling.lost + 1) (2 ^ 32 - 1)

  pub overtaken_keeps : (seal indirect : Bool) (f : ℕ) (s : Seat) → (seal ≡ true → seals_passed s ≡ 0) → LostAtTail s → WalkLost (walk_if indirect f) (lost_by seal indirect f (away (counted s)))
  overtaken_keeps true true f s late x = record {
    ready = x.ready;
    not_won = x.not_won;
    from = x.from;
    few = (let few = x.few in let none = late refl in let more = counted_few s in omega (arith, few, none, more));
  }
  overtaken_keeps true false f s late x = record {
    ready = x.ready;
    not_won = x.not_won;
    from = x.from;
    few = (let few = x.few in let none = late refl in let more = counted_few s in
        let end = ap (λ (b : Bool). past_seal b (words_of s == 3)) (eq-eqb (words_of s) (words_of s) refl) in omega (arith, few, none, more, end));
  }
  overtaken_keeps false true f s late x = record {
    ready = x.ready;
    not_won = x.not_won;
    from = x.from;
    few = (let few = x.few in let one = past_few (s.walk.tail_slot == words_of s) (s.walk.tail_slot == 3) in let more = counted_few s in omega (arith, few, one, more));
  }
  overtaken_keeps false false f s late x = record {
    ready = x.ready;
    not_won = x.not_won;
    from = (let from = x.from in omega (arith, from));
    few = (let from = x.from in let few = x.few in let one = past_few (s.walk.tail_slot == words_of s) (s.walk.tail_slot == 3) in let more = counted_few s in omega (arith, from, few, one, more));
  }

  -- a block that is linked, or was found to follow, begins with its first slot
  pub first_slot : (s : Seat) (walk : WalkState) (last : Bool) → LostAtTail s → walk.ready ≡ s.walk.ready → walk.position ≡ s.walk.position → HasLost first before (past_seal last true) walk s.calling
  first_slot s walk last x ready position = record {
    ready = ready ∙ x.ready;
    not_won = x.not_won;
    from = (let from = x.from in omega (arith, from, position));
    few = (let few = x.few in let one = past_few (s.walk.tail_slot == words_of s) (s.walk.tail_slot == 3) in let start = past_first last in omega (arith, few, one, start, position));
  }

  -- where it is refused, and where its entry is in the log
  pub refused_few : (s : Seat) → LostAtTail s → HasLostFew first before s
  refused_few s x = record {
    from = subst (λ (won : Bool). first ≤ others_position won s.walk.position) (sym x.not_won) x.from;
    few = subst (λ (won : Bool). s.calling.lost ≤ before + (2 * (others_position won s.walk.position - first) + 1)) (sym x.not_won)
        (let few = x.few in let one = past_few (s.walk.tail_slot == words_of s) (s.walk.tail_slot == 3) in omega (arith, few, one));
  }

  pub committed_few : (entry : ℕ) (s : Seat) → LostAtTail s → HasLostFew first before (committed entry s)
  committed_few entry s x = record {
    from = (let from = x.from in omega (arith, from));
    few = (let from = x.from in let few = x.few in let one = past_few (s.walk.tail_slot == words_of s) (s.walk.tail_slot == 3) in omega (arith, from, few, one));
  }
