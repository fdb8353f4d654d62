-- What a step other than a fence does to the cells.
use Rattle.std.proofs.Common.{◌≡◌, ◌≢◌, ℕ, ◌<◌, ◌≤◌, ◌==◌, Bool, true, false, if◌then◌else◌, List, [], ◌∷◌, ◌++◌, length, slice_index, inl, inr, refl, sym, ap, ◌∙◌}
use Rattle.std.proofs.lemmas.Bool.{ne_eqb}
use Rattle.std.proofs.lemmas.List.{get_or-set_same, get_or-set_other}
use Rattle.asks.specs.Asks.{becomes}
use Rattle.asks.specs.SharedWords.{SharedWords, word_at, with_word}
use Rattle.asks.specs.declared.ask.Place.{Place}
use Rattle.asks.specs.declared.ask.Place.TheVariants.{Image, Pin, Map, FenceOf}
use Rattle.asks.specs.declared.ask.Ask.TheVariants.{Load, Store, Exchange, SetBits, ClearBits, Mark, Fence}
use Rattle.asks.proofs.WordLemmas.{with_same}
use Rattle.persistence.specs.Memory.{Memory, PendingMark, Replaced, Cell, cell, values_of, index_at, replaced_at}
use Rattle.persistence.specs.Steps.{IsOrderly, with_value, StoresGrowCells, OthersLeaveCells}
use Rattle.persistence.proofs.ValueLemmas.{values_of-push_same, values_of-push_other, index_at-grown}

-- a memory after something was done at a place: the word, whether that is a new value, and the marks
abbrev pub done_at : Memory → Place → ℕ → Bool → List PendingMark → Memory
done_at memory at value grows pending = record {
  now = with_word memory.now at value;
  past = replaced_at grows at (word_at memory.now at) memory.past;
  floors = memory.floors;
  pending = pending;
}

-- the words and the values of another place
present_other : (now : SharedWords) (at : Place) (value word : ℕ) → at ≢ Image word → slice_index (with_word now at value).words word ≡ slice_index now.words word
present_other now (Image v) value word other = get_or-set_other now.words v word value 0 (λ same. other (ap Image (sym same)))
present_other now (Pin i) value word other = refl
present_other now (Map v) value word other = refl
present_other now (FenceOf i) value word other = refl

past_other : (past : List Replaced) (grows : Bool) (at : Place) (value word : ℕ) → at ≢ Image word → values_of (replaced_at grows at value past) word ≡ values_of past word
past_other past false at value word other = refl
past_other past true (Image v) value word other = values_of-push_other past (record { word = v; value = value }) word (λ same. other (ap Image (sym same)))
past_other past true (Pin i) value word other = refl
past_other past true (Map v) value word other = refl
past_other past true (FenceOf i) value word other = refl

-- the number of a floor stays
floor_stays : (past : List Replaced) (grows : Bool) (at : Place) (value time word : ℕ) → time ≤ length past → index_at (replaced_at grows at value past) time word ≡ index_at past time word
floor_stays past false at value time word reached = refl
floor_stays past true (Image v) value time word reached = index_at-grown past (record { word = v; value = value } ∷ []) time word reached
floor_stays past true (Pin i) value time word reached = refl
floor_stays past true (Map v) value time word reached = refl
floor_stays past true (FenceOf i) value time word reached = refl

-- a cell by its parts
same_cell : (c d : Cell) → c.present ≡ d.present → c.past ≡ d.past → c.floor ≡ d.floor → c ≡ d
same_cell c d present past floor = λ i. record { present = present i; past = past i; floor = floor i }

-- what is done at another place leaves the cell
other_place : (memory : Memory) (at : Place) (value : ℕ) (grows : Bool) (pending : List PendingMark) (word : ℕ) → IsOrderly memory → at ≢ Image word
    → cell (done_at memory at value grows pending) word ≡ cell memory word
other_place memory at value grows pending word order other =
    same_cell (cell (done_at memory at value grows pending) word) (cell memory word)
    (present_other memory.now at value word other)
    (past_other memory.past grows at (word_at memory.now at) word other)
    (floor_stays memory.past grows at (word_at memory.now at) (slice_index memory.floors word) word (order.reached word))

-- and so does a word that is put back where it was found
same_word : (memory : Memory) (at : Place) (value : ℕ) (grows : Bool) (pending : List PendingMark) (word : ℕ) → value ≡ word_at memory.now at → grows ≡ false
    → cell (done_at memory at value grows pending) word ≡ cell memory word
same_word memory at value grows pending word same still =
    ap (λ (v : ℕ). cell (done_at memory at v grows pending) word) same
    ∙ ap (λ (b : Bool). cell (done_at memory at (word_at memory.now at) b pending) word) still
    ∙ ap (λ (now : SharedWords). cell (record memory { now = now }) word) (with_same memory.now at)

-- a value that is stored into the word
grown_at : (memory : Memory) (word value : ℕ) (pending : List PendingMark) → IsOrderly memory → word < length memory.now.words
    → cell (done_at memory (Image word) value true pending) word ≡ with_value (cell memory word) value
grown_at memory word value pending order inside =
    same_cell (cell (done_at memory (Image word) value true pending) word) (with_value (cell memory word) value)
    (get_or-set_same memory.now.words word value 0 inside)
    (values_of-push_same memory.past (record { word = word; value = slice_index memory.now.words word }))
    (floor_stays memory.past true (Image word) (slice_index memory.now.words word) (slice_index memory.floors word) word (order.reached word))

stored_at : (memory : Memory) (at : Place) (word value : ℕ) (grows : Bool) (pending : List PendingMark) → IsOrderly memory → word < length memory.now.words → at ≡ Image word → grows ≡ true
    → cell (done_at memory at value grows pending) word ≡ with_value (cell memory word) value
stored_at memory at word value grows pending order inside here new =
    ap (λ (b : Bool). cell (done_at memory at value b pending) word) new
    ∙ ap (λ (p : Place). cell (done_at memory p value true pending) word) here
    ∙ grown_at memory word value pending order inside

pub stores_grow_cells : StoresGrowCells
stores_grow_cells memory seat (Load p) word order inside here new = cc
stores_grow_cells memory seat (Store p value) word order inside here new = stored_at memory p word value true memory.pending order inside here refl
stores_grow_cells memory seat (Exchange p before after) word order inside here new =
    stored_at memory p word (if word_at memory.now p == before then after else word_at memory.now p) (word_at memory.now p == before) memory.pending order inside here new
stores_grow_cells memory seat (SetBits p bits) word order inside here new =
    stored_at memory p word (becomes (SetBits p bits) (word_at memory.now p)) true memory.pending order inside here refl
stores_grow_cells memory seat (ClearBits p bits) word order inside here new =
    stored_at memory p word (becomes (ClearBits p bits) (word_at memory.now p)) true memory.pending order inside here refl
stores_grow_cells memory seat (Mark marked) word order inside here new = cc
stores_grow_cells memory seat Fence word order inside here new = cc

-- an exchange that finds another value
lost : (memory : Memory) (p : Place) (before after word : ℕ) (wins : Bool) → wins ≡ false
    → cell (done_at memory p (if wins then after else word_at memory.now p) wins memory.pending) word ≡ cell memory word
lost memory p before after word wins none =
    same_word memory p (if wins then after else word_at memory.now p) wins memory.pending word
    (ap (λ (b : Bool). if b then after else word_at memory.now p) none) none

pub others_leave_cells : OthersLeaveCells
others_leave_cells memory seat (Load p) word order leaves = same_word memory p (word_at memory.now p) false memory.pending word refl refl
others_leave_cells memory seat (Store p value) word order leaves = other_place memory p value true memory.pending word order leaves
others_leave_cells memory seat (Exchange p before after) word order (inl other) =
    lost memory p before after word (word_at memory.now p == before) (ne_eqb (word_at memory.now p) before other)
others_leave_cells memory seat (Exchange p before after) word order (inr elsewhere) =
    other_place memory p (if word_at memory.now p == before then after else word_at memory.now p) (word_at memory.now p == before) memory.pending word order elsewhere
others_leave_cells memory seat (SetBits p bits) word order leaves = other_place memory p (becomes (SetBits p bits) (word_at memory.now p)) true memory.pending word order leaves
others_leave_cells memory seat (ClearBits p bits) word order leaves = other_place memory p (becomes (ClearBits p bits) (word_at memory.now p)) true memory.pending word order leaves
others_leave_cells memory seat (Mark marked) word order leaves =
    same_word memory (Image marked) (word_at memory.now (Image marked)) false (memory.pending ++ record { seat = seat; word = marked; time = length memory.past } ∷ []) word refl refl
others_leave_cells memory seat Fence word order leaves = absurd leaves
