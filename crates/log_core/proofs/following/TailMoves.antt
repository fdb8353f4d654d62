-- What is at its tail after a step was there before, or is at the end.
use Rattle.std.proofs.Common.{◌≡◌, ◌≢◌, ◌⊎◌, inl, inr, ◌<◌, ◌+◌, ◌==◌, ◌&&◌, ◌||◌, ◌%◌, not, if◌then◌else◌, ℕ, Bool, true, false, List, [], ◌∷◌, ◌++◌, refl, sym, ◌∙◌, ap, subst, arith, slice_index, length-append}
use Rattle.std.proofs.lemmas.Bool.{eqb-true, eqb-false}
use Rattle.log_entry.specs.declared.layouts.TheConstants.{SEAL}
use Rattle.pmem_words.specs.Seats.{Seat}
use Rattle.asks.specs.declared.ask.Place.TheVariants.{Image, Pin, Map, FenceOf}
use Rattle.asks.specs.declared.ask.Ask.{Ask}
use Rattle.asks.specs.declared.ask.Ask.TheVariants.{Load, Store, Exchange, SetBits, ClearBits, Mark, Fence}
use Rattle.persistence.specs.Memory.{found, found_answer}
use Rattle.log_core.specs.Entries.{head_place}
use Rattle.log_core.specs.Views.{Ghost, MarkedWord, view_of, op_in}
use Rattle.log_core.specs.Origin.{Origin, q_of_origin}
use Rattle.log_core.specs.Files.{end_of}
use Rattle.log_core.specs.Cores.{Core}
use Rattle.log_core.specs.Steps.{Note, Kind, LoadsHead, StoresOwnPin, LoadsPinWord, LoadsImageWord, LoadsBitmapWord, SetsBits, ClearsBits, StoresWord, ExchangesSlot, ExchangesLink, ExchangesHead, MarksWord, Fences, NoKind, kind_of_ask, effect, is_of_owned, give_if, not_found, is_tail_found, slot_sealed, slot_exchanged, link_exchanged, head_exchanged}
use Rattle.log_core.specs.After.{history_if, history_after, write_of}
use Rattle.log_core.specs.May.{May, MayExchangeSlot, MayExchangeLink}
use Rattle.log_core.specs.Invariant.{Invariant}
use Rattle.log_core.specs.Knows.{Knows}
use Rattle.log_core.proofs.TailEnds.{slot_last, link_last}
use Rattle.log_core.proofs.kinds.LoadsImageWord.{at_end}
use Rattle.log_core.proofs.following.TailWorks.{IsSameTail, StandsWon}

-- what a step makes of a state: it asks the same, and where it is at its tail it was so before, or is at the end, and has put in an entry where
-- the end is another
pub record TailMoves (s t : Seat) (before end : ℕ) : Type 0 where
  pub same_op : op_in t ≡ op_in s
  pub stands : StandsWon t
  pub tail : t.walk.at_tail ≡ true → (IsSameTail s t × (t.calling.won ≡ true → s.calling.won ≡ true)) ⊎ ((t.walk.position ≡ end) × (t.calling.won ≡ true → before < t.walk.position))

-- as where it leaves call and walk as they were
same_moves : (s t : Seat) (before end : ℕ) → op_in t ≡ op_in s → (t.walk.at_tail ≡ s.walk.at_tail) × (t.walk.position ≡ s.walk.position) × (t.calling.won ≡ s.calling.won) → StandsWon s → TailMoves s t before end
same_moves s t before end same is stands = record {
  same_op = same;
  stands = λ won. is.0 ∙ stands (sym is.2 ∙ won);
  tail = λ at. inl ((sym is.0 ∙ at, is.1), λ won. sym is.2 ∙ won);
}

-- what an ask of these kinds finds, and its answer
abbrev IsFoundBy : Core → Kind → ℕ → ℕ → Type 0
IsFoundBy c (LoadsImageWord word) answered found = answered ≡ slice_index c.memory.now.words word
IsFoundBy c (ExchangesSlot word entry) answered found = (answered ≡ slice_index c.memory.now.words word) × (found ≡ answered)
IsFoundBy c (ExchangesLink word block) answered found = answered ≡ slice_index c.memory.now.words word
IsFoundBy c _ answered found = Unit {0}

found_by_ask : (o : Origin) (c : Core) (n : ℕ) (ask : Ask) → IsFoundBy c (kind_of_ask (q_of_origin o) n ask) (found_answer c.memory ask) (found c.memory ask)
found_by_ask o c n (Load (Image word)) = go (word == head_place)
  where
    go : (head : Bool) → IsFoundBy c (if head then LoadsHead else LoadsImageWord word) (slice_index c.memory.now.words word) (slice_index c.memory.now.words word)
    go true = tt
    go false = refl
found_by_ask o c n (Load (Pin other)) = tt
found_by_ask o c n (Load (Map word)) = tt
found_by_ask o c n (Load (FenceOf other)) = tt
found_by_ask o c n (Store (Image word) value) = tt
found_by_ask o c n (Store (Pin other) value) = go (other == n)
  where
    go : (own : Bool) → IsFoundBy c (if own then StoresOwnPin value else NoKind) 0 (found c.memory (Store (Pin other) value))
    go true = tt
    go false = tt
found_by_ask o c n (Store (Map word) value) = tt
found_by_ask o c n (Store (FenceOf other) value) = tt
found_by_ask o c n (Exchange (Image word) before next) = go (word == head_place) (before == 0) (word % q_of_origin o == 0)
  where
    go : (head none link : Bool) → IsFoundBy c (if head then ExchangesHead before next else if not none then NoKind else if link then ExchangesLink word next else ExchangesSlot word next)
        (slice_index c.memory.now.words word) (slice_index c.memory.now.words word)
    go true none link = tt
    go false false link = tt
    go false true true = refl
    go false true false = (refl, refl)
found_by_ask o c n (Exchange (Pin other) before next) = tt
found_by_ask o c n (Exchange (Map word) before next) = tt
found_by_ask o c n (Exchange (FenceOf other) before next) = tt
found_by_ask o c n (SetBits (Image word) bits) = tt
found_by_ask o c n (SetBits (Pin other) bits) = tt
found_by_ask o c n (SetBits (Map word) bits) = tt
found_by_ask o c n (SetBits (FenceOf other) bits) = tt
found_by_ask o c n (ClearBits (Image word) bits) = tt
found_by_ask o c n (ClearBits (Pin other) bits) = tt
found_by_ask o c n (ClearBits (Map word) bits) = tt
found_by_ask o c n (ClearBits (FenceOf other) bits) = tt
found_by_ask o c n (Mark word) = tt
found_by_ask o c n Fence = tt

module _ (o : Origin) (c : Core) (n : ℕ) (note : Note) (g : Ghost) (pin began : ℕ) (inv : Invariant o c) (knows : Knows o c n note.before g pin began) (unspent : (view_of c.views n).parts ≢ []) (marks : List MarkedWord)
    (stands : StandsWon note.before) where
  abbrev s : Seat
  s = note.before

  abbrev words : List ℕ
  words = c.memory.now.words

  abbrev finish : ℕ
  finish = end_of o c.history

  abbrev Moves : Kind → ℕ → ℕ → Type 0
  Moves kind f h = TailMoves s (effect marks s kind f) finish (end_of o (history_after c.history n note kind h))

  cleared_moves : (own : Bool) (word bits : ℕ) → TailMoves s (not_found (give_if own s word bits) word bits) finish finish
  cleared_moves true word bits = same_moves s (not_found (give_if true s word bits) word bits) finish finish refl (refl, refl, refl) stands
  cleared_moves false word bits = same_moves s (not_found (give_if false s word bits) word bits) finish finish refl (refl, refl, refl) stands

  head_moves : (won : Bool) (next f : ℕ) → TailMoves s (head_exchanged s next f won) finish finish
  head_moves true next f = same_moves s (head_exchanged s next f true) finish finish refl (refl, refl, refl) stands
  head_moves false next f = same_moves s (head_exchanged s next f false) finish finish refl (refl, refl, refl) stands

  -- a view that comes to its tail now has put in nothing
  found_now : (t : Seat) → t.walk.position ≡ s.walk.position → t.calling.won ≡ s.calling.won → s.walk.position ≡ finish → (at : Bool) → s.walk.at_tail ≡ at →
      (IsSameTail s t × (t.calling.won ≡ true → s.calling.won ≡ true)) ⊎ ((t.walk.position ≡ finish) × (t.calling.won ≡ true → finish < t.walk.position))
  found_now t place same_won at_finish true is = inl ((is, place), λ won. sym same_won ∙ won)
  found_now t place same_won at_finish false is = inr (place ∙ at_finish, λ won. (let never : false ≡ true = sym is ∙ stands (sym same_won ∙ won) in cc))

  link_moves : (won : Bool) (word block : ℕ) → (slice_index words word == 0) ≡ won → MayExchangeLink s word block → TailMoves s (link_exchanged s word block (slice_index words word) won) finish finish
  link_moves true word block e may = record {
    same_op = refl;
    stands = λ won. refl;
    tail = λ at. found_now (link_exchanged s word block (slice_index words word) true) refl refl
        (link_last o c n s g pin began inv knows unspent may.valid may.ready may.at_end (ap (λ (w : ℕ). slice_index words w) (sym may.link) ∙ eqb-true (slice_index words word) 0 e)).position s.walk.at_tail refl;
  }
  link_moves false word block e may = same_moves s (link_exchanged s word block (slice_index words word) false) finish finish refl (refl, refl, refl) stands

  slot_moves : (seal won : Bool) (word entry : ℕ) → (entry == SEAL) ≡ seal → (slice_index words word == 0) ≡ won → MayExchangeSlot o c.history s word entry →
      TailMoves s (if seal then slot_sealed s word (slice_index words word) won else slot_exchanged s word entry (slice_index words word) won) finish (end_of o (history_if (won && not seal) c.history (write_of n note entry)))
  slot_moves true true word entry is e may = record {
    same_op = refl;
    stands = λ won. refl;
    tail = λ at. inl (((may.0 (eqb-true entry SEAL is)).at_tail.at_tail, refl), λ won. won);
  }
  slot_moves true false word entry is e may = record {
    same_op = refl;
    stands = λ won. (let never : false ≡ true = sym (may.0 (eqb-true entry SEAL is)).at_tail.not_won ∙ won in cc);
    tail = λ at. (let never : false ≡ true = at in cc);
  }
  slot_moves false true word entry is e may = record { same_op = refl; stands = λ won. refl; tail = λ at. inr (next, λ won. more) }
    where
      commit : Rattle.log_core.specs.May.MayCommit o c.history s word entry
      commit = may.1 (eqb-false entry SEAL is)

      at_finish : s.walk.position ≡ finish
      at_finish = (slot_last o c n s g pin began inv knows unspent commit.at_tail.valid commit.at_tail.ready commit.inside (ap (λ (w : ℕ). slice_index words w) (sym commit.slot) ∙ eqb-true (slice_index words word) 0 e)).position

      next : s.walk.position + 1 ≡ end_of o (c.history ++ write_of n note entry ∷ [])
      next = (let last = at_finish in let long = length-append c.history (write_of n note entry ∷ []) in omega (arith, last, long))

      more : finish < s.walk.position + 1
      more = (let last = at_finish in omega (arith, last))
  slot_moves false false word entry is e may = record {
    same_op = refl;
    stands = λ won. (let never : false ≡ true = sym (may.1 (eqb-false entry SEAL is)).at_tail.not_won ∙ won in cc);
    tail = λ at. (let never : false ≡ true = at in cc);
  }

  by_kind : (kind : Kind) (f h : ℕ) → IsFoundBy c kind f h → May o c g s kind → Moves kind f h
  by_kind LoadsHead f h found may = same_moves s (effect marks s LoadsHead f) finish finish refl (refl, refl, refl) stands
  by_kind (StoresOwnPin value) f h found may = same_moves s (effect marks s (StoresOwnPin value) f) finish finish refl (refl, refl, refl) stands
  by_kind (LoadsPinWord other) f h found may = same_moves s (effect marks s (LoadsPinWord other) f) finish finish refl (refl, refl, refl) stands
  by_kind (LoadsBitmapWord word) f h found may = same_moves s (effect marks s (LoadsBitmapWord word) f) finish finish refl (refl, refl, refl) stands
  by_kind (SetsBits word bits) f h found may = same_moves s (effect marks s (SetsBits word bits) f) finish finish refl (refl, refl, refl) stands
  by_kind (StoresWord word value) f h found may = same_moves s (effect marks s (StoresWord word value) f) finish finish refl (refl, refl, refl) stands
  by_kind (MarksWord word) f h found may = same_moves s (effect marks s (MarksWord word) f) finish finish refl (refl, refl, refl) stands
  by_kind Fences f h found may = same_moves s (effect marks s Fences f) finish finish refl (refl, refl, refl) stands
  by_kind (LoadsImageWord word) f h found may = record {
    same_op = refl;
    stands = λ won. rw (stands won) refl;
    tail = λ at. go s.walk.at_tail refl at;
  }
    where
      go : (before : Bool) → s.walk.at_tail ≡ before → (before || is_tail_found s word f) ≡ true →
          (IsSameTail s (effect marks s (LoadsImageWord word) f) × (s.calling.won ≡ true → s.calling.won ≡ true)) ⊎ ((s.walk.position ≡ finish) × (s.calling.won ≡ true → finish < s.walk.position))
      go true is at = inl ((is, refl), λ won. won)
      go false is at = inr (at_end o c n s g pin began word inv knows unspent may (ap (λ (value : ℕ). is_tail_found s word value) (sym found) ∙ at), λ won. (let never : false ≡ true = sym is ∙ stands won in cc))
  by_kind (ClearsBits word bits) f h found may = cleared_moves (is_of_owned s word bits) word bits
  by_kind (ExchangesSlot word entry) f h found may = subst (λ (k : ℕ). Moves (ExchangesSlot word entry) f k) (sym found.1)
      (subst (λ (k : ℕ). Moves (ExchangesSlot word entry) k k) (sym found.0) (slot_moves (entry == SEAL) (slice_index words word == 0) word entry refl refl may))
  by_kind (ExchangesLink word block) f h found may = subst (λ (k : ℕ). Moves (ExchangesLink word block) k h) (sym found) (link_moves (slice_index words word == 0) word block refl may)
  by_kind (ExchangesHead before next) f h found may = head_moves (f == before) next f
  by_kind NoKind f h found may = absurd may

  -- so it is of each ask
  pub moves_by_ask : (ask : Ask) → May o c g s (kind_of_ask (q_of_origin o) n ask) → Moves (kind_of_ask (q_of_origin o) n ask) (found_answer c.memory ask) (found c.memory ask)
  moves_by_ask ask may = by_kind (kind_of_ask (q_of_origin o) n ask) (found_answer c.memory ask) (found c.memory ask) (found_by_ask o c n ask) may
