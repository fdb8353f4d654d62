-- So does every run.
use Rattle.std.proofs.Common.{◌≡◌, ◌≢◌, ◌<◌, ◌==◌, ◌%◌, not, ℕ, Bool, true, false, if◌then◌else◌, List, [], ◌∷◌, length, refl, sym, subst, slice_index}
use Rattle.std.proofs.lemmas.Bool.{eqb-true}
use Rattle.asks.specs.declared.ask.Place.TheVariants.{Image, Pin, Map, FenceOf}
use Rattle.asks.specs.declared.ask.Ask.{Ask}
use Rattle.asks.specs.declared.ask.Ask.TheVariants.{Load, Store, Exchange, SetBits, ClearBits, Mark, Fence}
use Rattle.persistence.specs.Memory.{found, found_answer}
use Rattle.log_core.specs.Entries.{head_place}
use Rattle.log_core.specs.Views.{View, view_of}
use Rattle.log_core.specs.Origin.{Origin, q_of_origin}
use Rattle.log_core.specs.Cores.{Core, first_core}
use Rattle.log_core.specs.Steps.{Note, Step, Does, Splits, Joins, Kind, LoadsHead, StoresOwnPin, LoadsImageWord, NoKind, ExchangesHead, ExchangesLink, ExchangesSlot, kind_of_ask}
use Rattle.log_core.specs.After.{stepped, after}
use Rattle.log_core.specs.Runs.{MayStep, MaySplit, IsRun, end}
use Rattle.log_core.specs.Invariant.{Invariant}
use Rattle.log_core.specs.Laws.{StepKeeps}
use Rattle.log_core.proofs.kinds.StepHolds.{head_holds, image_word_holds, pin_holds, seen_holds, bitmap_word_holds, set_bits_holds, clear_bits_holds, stored_holds, mark_holds, head_exchange_holds}
use Rattle.log_core.proofs.kinds.FenceHolds.{fence_holds}
use Rattle.log_core.proofs.kinds.ExchangeHolds.{link_holds, slot_holds}
use Rattle.log_core.proofs.kinds.Splits.{split_holds}
use Rattle.log_core.proofs.kinds.Joins.{join_holds}

module _ (o : Origin) (c : Core) (n : ℕ) (inv : Invariant o c) (here : n < length c.views) (unspent : (view_of c.views n).parts ≢ []) (note : Note) where
  abbrev mine : View
  mine = view_of c.views n

  -- what a step of this kind, with this ask and what it finds, has to keep
  abbrev KeepsAsk : Ask → Kind → ℕ → ℕ → Type 0
  KeepsAsk ask kind f answered = (step : MayStep o c mine kind note answered) → Invariant o (stepped o c n ask note kind f)

  by_head : (word : ℕ) (b : Bool) → (word == head_place) ≡ b → KeepsAsk (Load (Image word)) (if b then LoadsHead else LoadsImageWord word) (slice_index c.memory.now.words word) (slice_index c.memory.now.words word)
  by_head word true e = subst (λ (w : ℕ). KeepsAsk (Load (Image w)) LoadsHead (slice_index c.memory.now.words w) (slice_index c.memory.now.words w)) (sym (eqb-true word head_place e))
      (head_holds o c n inv here unspent note)
  by_head word false e = image_word_holds o c n inv here unspent note word

  by_own : (other value f : ℕ) (b : Bool) → (other == n) ≡ b → KeepsAsk (Store (Pin other) value) (if b then StoresOwnPin value else NoKind) f 0
  by_own other value f true e = subst (λ (k : ℕ). KeepsAsk (Store (Pin k) value) (StoresOwnPin value) f 0) (sym (eqb-true other n e))
      (pin_holds o c n inv here unspent note value f)
  by_own other value f false e = λ step. absurd step.may

  -- an exchange of an image word: of the head, or else from 0
  by_exchange : (word before next f : ℕ) (head none link : Bool) → (word == head_place) ≡ head → (before == 0) ≡ none → slice_index c.memory.now.words word ≡ f →
      KeepsAsk (Exchange (Image word) before next) (if head then ExchangesHead before next else if not none then NoKind else if link then ExchangesLink word next else ExchangesSlot word next) f f
  by_exchange word before next f true none link at e is = subst (λ (k : ℕ). KeepsAsk (Exchange (Image word) before next) (ExchangesHead before next) k k) is
      (subst (λ (w : ℕ). KeepsAsk (Exchange (Image w) before next) (ExchangesHead before next) (slice_index c.memory.now.words w) (slice_index c.memory.now.words w)) (sym (eqb-true word head_place at))
      (head_exchange_holds o c n inv here unspent note before next))
  by_exchange word before next f false false link at e is = λ step. absurd step.may
  by_exchange word before next f false true true at e is = subst (λ (k : ℕ). KeepsAsk (Exchange (Image word) k next) (ExchangesLink word next) f f) (sym (eqb-true before 0 e))
      (subst (λ (k : ℕ). KeepsAsk (Exchange (Image word) 0 next) (ExchangesLink word next) k k) is (link_holds o c n inv here unspent note word next))
  by_exchange word before next f false true false at e is = subst (λ (k : ℕ). KeepsAsk (Exchange (Image word) k next) (ExchangesSlot word next) f f) (sym (eqb-true before 0 e))
      (subst (λ (k : ℕ). KeepsAsk (Exchange (Image word) 0 next) (ExchangesSlot word next) k k) is (slot_holds o c n inv here unspent note word next))

  each_ask : (ask : Ask) → KeepsAsk ask (kind_of_ask (q_of_origin o) n ask) (found c.memory ask) (found_answer c.memory ask)
  each_ask (Load (Image word)) = by_head word (word == head_place) refl
  each_ask (Load (Pin other)) = seen_holds o c n inv here unspent note other
  each_ask (Load (Map word)) = bitmap_word_holds o c n inv here unspent note word
  each_ask (Load (FenceOf other)) = λ step. absurd step.may
  each_ask (Store (Image word) value) = stored_holds o c n inv here unspent note word value
  each_ask (Store (Pin other) value) = by_own other value (found c.memory (Store (Pin other) value)) (other == n) refl
  each_ask (Store (Map word) value) = λ step. absurd step.may
  each_ask (Store (FenceOf other) value) = λ step. absurd step.may
  each_ask (Exchange (Image word) before next) = by_exchange word before next (slice_index c.memory.now.words word) (word == head_place) (before == 0) (word % q_of_origin o == 0) refl refl refl
  each_ask (Exchange (Pin other) before next) = λ step. absurd step.may
  each_ask (Exchange (Map word) before next) = λ step. absurd step.may
  each_ask (Exchange (FenceOf other) before next) = λ step. absurd step.may
  each_ask (SetBits (Image word) bits) = λ step. absurd step.may
  each_ask (SetBits (Pin other) bits) = λ step. absurd step.may
  each_ask (SetBits (Map word) bits) = set_bits_holds o c n inv here unspent note word bits
  each_ask (SetBits (FenceOf other) bits) = λ step. absurd step.may
  each_ask (ClearBits (Image word) bits) = λ step. absurd step.may
  each_ask (ClearBits (Pin other) bits) = λ step. absurd step.may
  each_ask (ClearBits (Map word) bits) = clear_bits_holds o c n inv here unspent note word bits
  each_ask (ClearBits (FenceOf other) bits) = λ step. absurd step.may
  each_ask (Mark word) = mark_holds o c n inv here unspent note word
  each_ask Fence = fence_holds o c n inv here unspent note

-- a split is of seat 0
split_keeps : (o : Origin) (c : Core) (seat : ℕ) → Invariant o c → MaySplit o c seat → Invariant o (after o c (Splits seat))
split_keeps o c seat inv may = subst (λ (k : ℕ). MaySplit o c k → Invariant o (after o c (Splits k))) (sym may.first) (λ first. split_holds o c inv first) may

pub step_keeps : StepKeeps
step_keeps o c (Does seat ask note) inv allowed =
    each_ask o c seat inv allowed.made allowed.unspent note ask allowed.step
step_keeps o c (Splits seat) inv allowed = split_keeps o c seat inv allowed
step_keeps o c (Joins seat other) inv allowed = join_holds o c seat other inv allowed

-- and every run, from a core that meets the invariant
pub run_from : (o : Origin) (steps : List Step) → Invariant o (first_core o) → IsRun o steps → Invariant o (end o steps)
run_from o [] start run = start
run_from o (step ∷ steps) start run = step_keeps o (end o steps) step (run_from o steps start run.0) run.1
