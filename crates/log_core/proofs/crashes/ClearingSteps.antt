-- A clearing changes no word up to the tail, so none there has another value for a crash to leave.
use Rattle.std.proofs.Common.{◌≡◌, ◌<◌, ◌≤◌, ◌==◌, ⊎_elim, if◌then◌else◌, ℕ, Bool, true, false, List, [], ◌∷◌, length, map, filter, refl, sym, ◌∙◌, ap, subst, arith, slice_index, slice_set}
use Rattle.std.specs.List.{AllByRecursion}
use Rattle.std.proofs.lemmas.Bool.{false≢true, eqb-true, cases_lt}
use Rattle.std.proofs.lemmas.List.{get_or-set_same, get_or-set_other, get_or_past, length-set}
use Rattle.log_image.specs.Header.{shape_of}
use Rattle.log_image.specs.Tails.{tail_of, is_after}
use Rattle.log_image.proofs.ListLemmas.{each_join}
use Rattle.asks.specs.declared.ask.Place.TheVariants.{Image, Pin, Map, FenceOf}
use Rattle.asks.specs.declared.ask.Ask.{Ask}
use Rattle.asks.specs.declared.ask.Ask.TheVariants.{Load, Store, Exchange, SetBits, ClearBits, Mark, Fence}
use Rattle.persistence.specs.Memory.{Memory, Replaced, cell, values_of, memory_after}
use Rattle.persistence.specs.Survivors.{IsPossible}
use Rattle.log_core.specs.Stops.{ClearsOnly, at_rest, memory_after_all, ClearingsStop}
use Rattle.log_core.proofs.clauses.OneView.{same_or_other}

-- the only value of a word that has had no other
one_value : (past : List ℕ) (present floor value : ℕ) → past ≡ [] → IsPossible (record { present = present; past = past; floor = floor }) value → value ≡ present
one_value [] present floor value none possible = (let low = possible.inside in let first : possible.index ≡ 0 = omega (arith, low) in sym possible.same ∙ ap (λ (k : ℕ). slice_index (present ∷ []) k) first)
one_value (other ∷ past) present floor value none possible = cc

-- a word set to what it is stays so
set_as_is : (words : List ℕ) (word place : ℕ) → slice_index (slice_set words word (slice_index words word)) place ≡ slice_index words place
set_as_is words word place = same_or_other place word
    (λ same. subst (λ (k : ℕ). slice_index (slice_set words word (slice_index words word)) k ≡ slice_index words k) (sym same) here)
    (λ other. get_or-set_other words word place (slice_index words word) 0 other)
  where
    here : slice_index (slice_set words word (slice_index words word)) word ≡ slice_index words word
    here = ⊎_elim (λ (low : word < length words). get_or-set_same words word (slice_index words word) 0 low)
        (λ (high : length words ≤ word). (let long = length-set words word (slice_index words word) in get_or_past (slice_set words word (slice_index words word)) word 0 (omega (arith, long, high)) ∙ sym (get_or_past words word 0 high)))
        (cases_lt word (length words))

module _ (words chain : List ℕ) where
  abbrev after : ℕ → Bool
  after place = is_after (shape_of words) (tail_of words (shape_of words) chain) place

  abbrev Clears : Ask → Type 0
  Clears ask = ClearsOnly (shape_of words) (tail_of words (shape_of words) chain) ask

  -- the words up to the tail are as they were, and only words after it have had another value
  record Keeps (m : Memory) : Type 0 where
    long : length m.now.words ≡ length words
    same : (place : ℕ) → after place ≡ false → slice_index m.now.words place ≡ slice_index words place
    past : AllByRecursion (λ (r : Replaced). after r.word ≡ true) m.past

  ask_keeps : (m : Memory) (ask : Ask) → Clears ask → Keeps m → Keeps (memory_after m 0 ask)
  ask_keeps m (Store (Image place) value) clears keeps = record {
    long = length-set m.now.words place value ∙ keeps.long;
    same = λ other left. get_or-set_other m.now.words place other value 0 (λ is. false≢true (sym left ∙ (ap after is ∙ clears.1))) ∙ keeps.same other left;
    past = each_join (λ (r : Replaced). after r.word ≡ true) m.past (record { word = place; value = slice_index m.now.words place } ∷ []) keeps.past (clears.1, tt);
  }
  ask_keeps m (Store (Pin seat) value) clears keeps = absurd clears
  ask_keeps m (Store (Map word) value) clears keeps = absurd clears
  ask_keeps m (Store (FenceOf seat) value) clears keeps = absurd clears
  ask_keeps m (Mark word) clears keeps = record {
    long = length-set m.now.words word (slice_index m.now.words word) ∙ keeps.long;
    same = λ place left. set_as_is m.now.words word place ∙ keeps.same place left;
    past = keeps.past;
  }
  ask_keeps m Fence clears keeps = record { long = keeps.long; same = keeps.same; past = keeps.past }
  ask_keeps m (Load p) clears keeps = absurd clears
  ask_keeps m (Exchange p before next) clears keeps = absurd clears
  ask_keeps m (SetBits p bits) clears keeps = absurd clears
  ask_keeps m (ClearBits p bits) clears keeps = absurd clears

  asks_keep : (m : Memory) (asks : List Ask) → AllByRecursion Clears asks → Keeps m → Keeps (memory_after_all m asks)
  asks_keep m [] clears keeps = keeps
  asks_keep m (ask ∷ asks) clears keeps = asks_keep (memory_after m 0 ask) asks clears.1 (ask_keeps m ask clears.0 keeps)

  -- a word up to the tail has had no other value
  none_before : (past : List Replaced) (place : ℕ) → AllByRecursion (λ (r : Replaced). after r.word ≡ true) past → after place ≡ false → values_of past place ≡ []
  none_before [] place all left = refl
  none_before (r ∷ past) place all left = by (r.word == place) refl (none_before past place all.1 left)
    where
      by : (b : Bool) → (r.word == place) ≡ b → values_of past place ≡ [] → map (λ (s : Replaced). s.value) (if b then r ∷ filter (λ (s : Replaced). s.word == place) past else filter (λ (s : Replaced). s.word == place) past) ≡ []
      by true is none = absurd (false≢true (sym left ∙ (ap after (sym (eqb-true r.word place is)) ∙ all.0)))
      by false is none = none

pub clearings_stop : ClearingsStop
clearings_stop words chain others asks of_words clears left = (
  chain,
  of_words,
  record {
    same_length = left.same_length ∙ keeps.long;
    each = λ place stays. ⊎_elim
        (λ (low : place < length others). one_value (values_of m.past place) (slice_index m.now.words place) (cell m place).floor (slice_index others place) (none_before words chain m.past place keeps.past stays) (left.each place low) ∙ keeps.same place stays)
        (λ (high : length others ≤ place). (let long = left.same_length in let same = keeps.long in get_or_past others place 0 high ∙ sym (get_or_past words place 0 (omega (arith, high, long, same)))))
        (cases_lt place (length others));
  },
)
  where
    m : Memory
    m = memory_after_all (at_rest words) asks

    keeps : Keeps words chain m
    keeps = asks_keep words chain (at_rest words) asks clears (record { long = refl; same = λ place stays. refl; past = tt })
