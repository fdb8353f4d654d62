-- A plain memory that has a core's words takes the asks that the core's takes, answers them alike, and has the core's words afterwards.
use Rattle.std.proofs.Common.{◌≡◌, ◌<◌, ◌≤◌, ℕ, List, ◌∷◌, length, refl, sym, ◌∙◌, ap, subst, arith, slice_index, slice_set}
use Rattle.std.proofs.lemmas.List.{length-set, get_or-set_same, get_or-set_other}
use Rattle.pmem_words.specs.declared.TheConstants.{SEATS}
use Rattle.asks.specs.Asks.{place, becomes, answer}
use Rattle.asks.specs.SharedWords.{SharedWords, word_at, with_word, HasWord, CanLoad, found_by, answer_of, words_after}
use Rattle.pmem_words.specs.PlainWords.{plain_takes}
use Rattle.asks.specs.declared.ask.Place.{Place}
use Rattle.asks.specs.declared.ask.Place.TheVariants.{Image, Pin, Map, FenceOf}
use Rattle.asks.specs.declared.ask.Ask.{Ask}
use Rattle.asks.specs.declared.ask.Ask.TheVariants.{Load, Store, Exchange, SetBits, ClearBits, Mark, Fence}
use Rattle.persistence.specs.Memory.{Memory, Replaced, PendingMark, found_answer, memory_after}
use Rattle.persistence.specs.Cells.{MemoryTakes}
use Rattle.log_core.specs.Origin.{Origin}
use Rattle.log_core.specs.Cores.{Core}
use Rattle.log_core.specs.Steps.{Step}
use Rattle.log_core.specs.After.{after}
use Rattle.log_core.specs.Runs.{Allowed, IsReached}
use Rattle.log_core.specs.Within.{Agrees}
use Rattle.log_core.proofs.clauses.OneView.{same_or_other}

module _ (p : SharedWords) (memory : Memory) (agrees : Agrees p memory) where
  -- a word that the core's memory has is found alike in both
  same_word : (at : Place) → CanLoad (length memory.now.pins) memory.now at → word_at p at ≡ word_at memory.now at
  same_word (Image word) has = ap (λ (words : List ℕ). slice_index words word) agrees.words
  same_word (Pin seat) has = agrees.pins seat has
  same_word (Map word) has = ap (λ (words : List ℕ). slice_index words word) agrees.taken
  same_word (FenceOf seat) has = refl

  -- and both agree after a number is put there
  agrees_with : (at : Place) (value : ℕ) (past : List Replaced) (floors : List ℕ) (pending : List PendingMark) →
      Agrees (with_word p at value) (record { now = with_word memory.now at value; past = past; floors = floors; pending = pending })
  agrees_with (Image word) value past floors pending = record {
    words = ap (λ (words : List ℕ). slice_set words word value) agrees.words;
    taken = agrees.taken;
    long = agrees.long;
    pins = agrees.pins;
  }
  agrees_with (Map word) value past floors pending = record {
    words = agrees.words;
    taken = ap (λ (words : List ℕ). slice_set words word value) agrees.taken;
    long = agrees.long;
    pins = agrees.pins;
  }
  agrees_with (FenceOf seat) value past floors pending = record { words = agrees.words; taken = agrees.taken; long = agrees.long; pins = agrees.pins }
  agrees_with (Pin seat) value past floors pending = record {
    words = agrees.words;
    taken = agrees.taken;
    long = (let many = length-set memory.now.pins seat value in let more = length-set p.pins seat value in let long = agrees.long in omega (arith, many, more, long));
    pins = λ other inside. each_pin other (subst (λ (n : ℕ). other < n) (length-set memory.now.pins seat value) inside);
  }
    where
      each_pin : (other : ℕ) → other < length memory.now.pins → slice_index (slice_set p.pins seat value) other ≡ slice_index (slice_set memory.now.pins seat value) other
      each_pin other inside = same_or_other other seat
          (λ same. subst (λ (k : ℕ). slice_index (slice_set p.pins k value) other ≡ slice_index (slice_set memory.now.pins k value) other) same
          (get_or-set_same p.pins other value 0 (let long = agrees.long in omega (arith, long, inside)) ∙ sym (get_or-set_same memory.now.pins other value 0 inside)))
          (λ apart. get_or-set_other p.pins seat other value 0 apart ∙ (agrees.pins other inside ∙ sym (get_or-set_other memory.now.pins seat other value 0 apart)))

  -- where the core's memory has no more pin words than there may be, the other memory has each word that it has
  module _ (few : length memory.now.pins ≤ SEATS) where
    has_word : (at : Place) → HasWord (length memory.now.pins) memory.now at → HasWord SEATS p at
    has_word (Image word) has = subst (λ (words : List ℕ). word < length words) (sym agrees.words) has
    has_word (Pin seat) has = omega (arith, few, has)
    has_word (Map word) has = subst (λ (words : List ℕ). word < length words) (sym agrees.taken) has
    has_word (FenceOf seat) has = has

    can_load : (at : Place) → CanLoad (length memory.now.pins) memory.now at → CanLoad SEATS p at
    can_load (Image word) has = has_word (Image word) has
    can_load (Pin seat) has = has_word (Pin seat) has
    can_load (Map word) has = has_word (Map word) has
    can_load (FenceOf seat) has = tt

    -- so it takes each ask that the core's takes
    pub takes_too : (ask : Ask) → MemoryTakes memory ask → plain_takes p ask
    takes_too (Load at) takes = can_load at takes
    takes_too (Store at value) takes = has_word at takes
    takes_too (Exchange at before next) takes = has_word at takes
    takes_too (SetBits at bits) takes = has_word at takes
    takes_too (ClearBits at bits) takes = has_word at takes
    takes_too (Mark word) takes = has_word (Image word) takes
    takes_too Fence takes = tt

  -- a word that gets a value may be loaded
  loads_too : (at : Place) → HasWord (length memory.now.pins) memory.now at → CanLoad (length memory.now.pins) memory.now at
  loads_too (Image word) has = has
  loads_too (Pin seat) has = has
  loads_too (Map word) has = has
  loads_too (FenceOf seat) has = tt

  finds_word : (ask : Ask) → MemoryTakes memory ask → CanLoad (length memory.now.pins) memory.now (place 0 ask)
  finds_word (Load at) takes = takes
  finds_word (Store at value) takes = loads_too at takes
  finds_word (Exchange at before next) takes = loads_too at takes
  finds_word (SetBits at bits) takes = loads_too at takes
  finds_word (ClearBits at bits) takes = loads_too at takes
  finds_word (Mark word) takes = takes
  finds_word Fence takes = tt

  same_found : (ask : Ask) → MemoryTakes memory ask → found_by p ask ≡ found_by memory.now ask
  same_found ask takes = same_word (place 0 ask) (finds_word ask takes)

  -- it answers alike, and they agree after the ask
  pub same_answer : (ask : Ask) → MemoryTakes memory ask → answer_of p ask ≡ found_answer memory ask
  same_answer ask takes = ap (λ (found : ℕ). answer ask found) (same_found ask takes)

  pub agrees_after : (seat : ℕ) (ask : Ask) → MemoryTakes memory ask → Agrees (words_after p ask) (memory_after memory seat ask)
  agrees_after seat ask takes =
      (let new = memory_after memory seat ask in
      subst (λ (found : ℕ). Agrees (with_word p (place 0 ask) (becomes ask found)) new) (sym (same_found ask takes))
      (agrees_with (place 0 ask) (becomes ask (found_by memory.now ask)) new.past new.floors new.pending))

-- an allowed step leads from a reached core to a reached core
pub reached_next : (o : Origin) (c : Core) (step : Step) → IsReached o c → Allowed o c step → IsReached o (after o c step)
reached_next o c step reached allowed = record {
  steps = step ∷ reached.steps;
  is_run = (reached.is_run, subst (λ (x : Core). Allowed o x step) (sym reached.ends) allowed);
  ends = ap (λ (x : Core). after o x step) reached.ends;
}
