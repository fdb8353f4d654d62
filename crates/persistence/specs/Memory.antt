-- The persistence model. A memory has the present words and, of each image word, the values that it held before, in their order.
-- Each image word has a floor among its values: a crash leaves one of those from the floor on. A mark by a seat notes which value
-- is the present one; the seat's fence raises the floors to what the seat has noted. Pin words and bitmap words outlast no crash.
use Rattle.std.specs.Prelude.{ℕ, ◌==◌, max, Bool, true, false, not, if◌then◌else◌, List, [], ◌∷◌, ◌++◌, length, map, filter, take, slice_index, slice_set}
use Rattle.asks.specs.Asks.{place, answer}
use Rattle.asks.specs.SharedWords.{SharedWords, found_by, words_after}
use Rattle.asks.specs.declared.ask.Place.{Place}
use Rattle.asks.specs.declared.ask.Place.TheVariants.{Image, Pin, Map, FenceOf}
use Rattle.asks.specs.declared.ask.Ask.{Ask}
use Rattle.asks.specs.declared.ask.Ask.TheVariants.{Load, Store, Exchange, SetBits, ClearBits, Mark, Fence}

-- a value that an image word held until another replaced it
pub record Replaced : Type 0 where
  pub word : ℕ
  pub value : ℕ

-- a mark: by which seat, of which image word, and how many values had been replaced by then, of all words together
pub record PendingMark : Type 0 where
  pub seat : ℕ
  pub word : ℕ
  pub time : ℕ

-- the present words; the values replaced so far, the oldest first; for each image word the time of its floor, as a count of values
-- replaced; and the marks that no fence of their seat has followed yet, the oldest first
pub record Memory : Type 0 where
  pub now : SharedWords
  pub past : List Replaced
  pub floors : List ℕ
  pub pending : List PendingMark

-- the values that a word held, the oldest first
abbrev pub values_of : List Replaced → ℕ → List ℕ
values_of past word = map (λ (r : Replaced). r.value) (filter (λ (r : Replaced). r.word == word) past)

-- the number that a word's present value had at a time, among the word's values from 0 on
abbrev pub index_at : List Replaced → ℕ → ℕ → ℕ
index_at past time word = length (values_of (take time past) word)

-- one image word: its present value, those before it, and which of them all is the least that a crash may leave
pub record Cell : Type 0 where
  pub present : ℕ
  pub past : List ℕ
  pub floor : ℕ

abbrev pub cell : Memory → ℕ → Cell
cell memory word = record {
  present = slice_index memory.now.words word;
  past = values_of memory.past word;
  floor = index_at memory.past (slice_index memory.floors word) word;
}

-- whether an ask gives its word a value, by what is found there
abbrev pub stores : Ask → ℕ → Bool
stores (Load p) found = false
stores (Store p value) found = true
stores (Exchange p before after) found = found == before
stores (SetBits p bits) found = true
stores (ClearBits p bits) found = true
stores (Mark word) found = false
stores Fence found = false

-- the values replaced so far, after one more at a place where there is one
abbrev pub replaced_at : Bool → Place → ℕ → List Replaced → List Replaced
replaced_at true (Image word) found past = past ++ record { word = word; value = found } ∷ []
replaced_at true (Pin seat) found past = past
replaced_at true (Map word) found past = past
replaced_at true (FenceOf seat) found past = past
replaced_at false p found past = past

-- the values replaced after an ask
abbrev pub past_after : List Replaced → Ask → ℕ → List Replaced
past_after past ask found = replaced_at (stores ask found) (place 0 ask) found past

-- the floors after a fence of this seat over these marks: each rises to the time of the seat's marks of its word
abbrev pub floors_raised_by : ℕ → List PendingMark → List ℕ → List ℕ
floors_raised_by seat [] floors = floors
floors_raised_by seat (note ∷ pending) floors =
    floors_raised_by seat pending (if note.seat == seat then slice_set floors note.word (max (slice_index floors note.word) note.time) else floors)

abbrev pub floors_after : List ℕ → ℕ → Ask → List PendingMark → List ℕ
floors_after floors seat Fence pending = floors_raised_by seat pending floors
floors_after floors seat (Load p) pending = floors
floors_after floors seat (Store p value) pending = floors
floors_after floors seat (Exchange p before after) pending = floors
floors_after floors seat (SetBits p bits) pending = floors
floors_after floors seat (ClearBits p bits) pending = floors
floors_after floors seat (Mark word) pending = floors

-- the marks after an ask of this seat: a mark is added, and a fence forgets those of its seat
abbrev pub pending_after : List PendingMark → ℕ → Ask → ℕ → List PendingMark
pending_after pending seat (Mark word) time = pending ++ record { seat = seat; word = word; time = time } ∷ []
pending_after pending seat Fence time = filter (λ (note : PendingMark). not (note.seat == seat)) pending
pending_after pending seat (Load p) time = pending
pending_after pending seat (Store p value) time = pending
pending_after pending seat (Exchange p before after) time = pending
pending_after pending seat (SetBits p bits) time = pending
pending_after pending seat (ClearBits p bits) time = pending

-- the number that an ask finds, and its answer
abbrev pub found : Memory → Ask → ℕ
found memory ask = found_by memory.now ask

abbrev pub found_answer : Memory → Ask → ℕ
found_answer memory ask = answer ask (found memory ask)

-- the memory after an ask: of memory, seat and ask alone
abbrev pub memory_after : Memory → ℕ → Ask → Memory
memory_after memory seat ask = record {
  now = words_after memory.now ask;
  past = past_after memory.past ask (found memory ask);
  floors = floors_after memory.floors seat ask memory.pending;
  pending = pending_after memory.pending seat ask (length memory.past);
}

-- the marks of one seat, the oldest first
abbrev pub pending_of : ℕ → List PendingMark → List PendingMark
pending_of seat pending = filter (λ (note : PendingMark). note.seat == seat) pending
