-- What a fence does to the floors, and what every memory of a run keeps.
use Rattle.std.proofs.Common.{◌++◌, append-nil, cond, ◌≡◌, ◌≢◌, ℕ, zero, suc, ◌<◌, ◌≤◌, ◌==◌, ◌⊎◌, max, not, Bool, true, false, if◌then◌else◌, Contains, List, [], ◌∷◌, length, length-append, filter, get_or, slice_index, slice_set, inl, inr, refl, sym, ap, ◌∙◌, eq-eqb, arith}
use Rattle.std.proofs.lemmas.Bool.{eqb-true, ne_eqb}
use Rattle.std.proofs.lemmas.Bool.Decides.{eqb_tells, leb_tells}
use Rattle.std.proofs.lemmas.List.{length-set, get_or-set_same, get_or-set_other, set_past}
use Rattle.std.proofs.lemmas.List.Elements.{All-push, All-weaker, All-filter, filter-append}
use Rattle.asks.specs.Asks.{becomes}
use Rattle.asks.specs.SharedWords.{SharedWords, word_at, with_word}
use Rattle.asks.specs.declared.ask.Place.{Place}
use Rattle.asks.specs.declared.ask.Place.TheVariants.{Image, Pin, Map, FenceOf}
use Rattle.asks.specs.declared.ask.Ask.TheVariants.{Load, Store, Exchange, SetBits, ClearBits, Mark, Fence}
use Rattle.persistence.specs.Memory.{Memory, PendingMark, Replaced, index_at, floors_raised_by, replaced_at, memory_after, pending_of}
use Rattle.persistence.specs.Steps.{IsOrderly, StepsKeepOrder, FencesRaiseFloors, FencesForgetOwnMarks}
use Rattle.persistence.proofs.ValueLemmas.{index_at-later}

-- the floors after one mark
abbrev pub raised_by : Bool → PendingMark → List ℕ → List ℕ
raised_by mine note floors = if mine then slice_set floors note.word (max (slice_index floors note.word) note.time) else floors

length-raised_by : (mine : Bool) (note : PendingMark) (floors : List ℕ) → length (raised_by mine note floors) ≡ length floors
length-raised_by true note floors = length-set floors note.word (max (slice_index floors note.word) note.time)
length-raised_by false note floors = refl

-- one word after a mark of the seat
raised_here : (note : PendingMark) (floors : List ℕ) (word : ℕ) → word ≡ note.word → word < length floors → slice_index (raised_by true note floors) word ≡ max (slice_index floors word) note.time
raised_here note floors word same inside =
    rw same (get_or-set_same floors note.word (max (slice_index floors note.word) note.time) 0 (rw (← same) inside))

-- and a word that is not that mark's, or that is not there
raised_away : (mine : Bool) (note : PendingMark) (floors : List ℕ) (word : ℕ) → (word ≢ note.word) ⊎ (length floors ≤ word) → slice_index (raised_by mine note floors) word ≡ slice_index floors word
raised_away false note floors word away = refl
raised_away true note floors word (inl other) = get_or-set_other floors note.word word (max (slice_index floors note.word) note.time) 0 other
raised_away true note floors word (inr outside) =
    elim (eqb_tells word note.word) [
      | inl h ↦ ap (λ (l : List ℕ). slice_index l word) (set_past floors note.word (max (slice_index floors note.word) note.time) (rw (← h.1) outside))
      | inr h ↦ get_or-set_other floors note.word word (max (slice_index floors note.word) note.time) 0 h.1
    ]

-- where a word's floor is after one mark: where it was, or at the mark's time
one_mark : (mine : Bool) (note : PendingMark) (floors : List ℕ) (word : ℕ)
    → (slice_index (raised_by mine note floors) word ≡ slice_index floors word)
    ⊎ ((mine ≡ true) × (word ≡ note.word) × (slice_index (raised_by mine note floors) word ≡ note.time) × (slice_index floors word ≤ note.time))
one_mark false note floors word = inl refl
one_mark true note floors word =
    elim (eqb_tells word note.word) [
      | inl h ↦
          elim (leb_tells (length floors) word) [
            | inl out ↦ inl (raised_away true note floors word (inr out.1))
            | inr here ↦
                let most = raised_here note floors word h.1 here.1 in
                elim (leb_tells (slice_index floors word) note.time) [
                  | inl low ↦ inr (refl, h.1, omega (arith, most, low.1), low.1)
                  | inr high ↦ inl (omega (arith, most, high.1))
                ]
          ]
      | inr h ↦ inl (raised_away true note floors word (inl h.1))
    ]

length-floors_raised_by : (seat : ℕ) (pending : List PendingMark) (floors : List ℕ) → length (floors_raised_by seat pending floors) ≡ length floors
length-floors_raised_by seat [] floors = refl
length-floors_raised_by seat (note ∷ pending) floors = length-floors_raised_by seat pending (raised_by (note.seat == seat) note floors) ∙ length-raised_by (note.seat == seat) note floors

-- no floor is lowered
not_lowered : (seat : ℕ) (pending : List PendingMark) (floors : List ℕ) (word : ℕ) → slice_index floors word ≤ slice_index (floors_raised_by seat pending floors) word
not_lowered seat [] floors word = omega arith
not_lowered seat (note ∷ pending) floors word =
    let later = not_lowered seat pending (raised_by (note.seat == seat) note floors) word in
    elim (one_mark (note.seat == seat) note floors word) [ inl same ↦ omega (arith, later, same) | inr h ↦ omega (arith, later, h.2, h.3) ]

-- each mark of the seat is reached
mark_reached : (note : PendingMark) (floors : List ℕ) (word : ℕ) → word ≡ note.word → word < length floors → note.time ≤ slice_index (raised_by true note floors) word
mark_reached note floors word same inside = let most = raised_here note floors word same inside in omega (arith, most)

reached : (seat : ℕ) (pending : List PendingMark) (floors : List ℕ) (word k : ℕ) (note : PendingMark) → word < length floors → k < length pending → get_or pending k note ≡ note → note.seat ≡ seat → note.word ≡ word
    → note.time ≤ slice_index (floors_raised_by seat pending floors) word
reached seat [] floors word k note inside below is mine here = absurd (omega (arith, below))
reached seat (first ∷ pending) floors word zero note inside below is mine here =
    let own : (first.seat == seat) ≡ true = eq-eqb first.seat seat (ap (λ (n : PendingMark). n.seat) is ∙ mine) in
    let first_reached : first.time ≤ slice_index (raised_by (first.seat == seat) first floors) word =
    rw own (mark_reached first floors word (sym (ap (λ (n : PendingMark). n.word) is ∙ here)) inside) in
    let later = not_lowered seat pending (raised_by (first.seat == seat) first floors) word in
    let time : first.time ≡ note.time = ap (λ (n : PendingMark). n.time) is in
    omega (arith, first_reached, later, time)
reached seat (first ∷ pending) floors word (suc k) note inside below is mine here =
    reached seat pending (raised_by (first.seat == seat) first floors) word k note (rw (length-raised_by (first.seat == seat) first floors) inside) (omega (arith, below)) is mine here

-- and a floor is where it was, or at one of them
attained : (seat : ℕ) (pending : List PendingMark) (floors : List ℕ) (word : ℕ)
    → (slice_index (floors_raised_by seat pending floors) word ≡ slice_index floors word)
    ⊎ ((note : PendingMark) × Contains pending note × (note.seat ≡ seat) × (note.word ≡ word) × (slice_index (floors_raised_by seat pending floors) word ≡ note.time))
attained seat [] floors word = inl refl
attained seat (first ∷ pending) floors word =
    elim (attained seat pending (raised_by (first.seat == seat) first floors) word) [
      | inl same ↦
          elim (one_mark (first.seat == seat) first floors word) [
            | inl before ↦ inl (same ∙ before)
            | inr h ↦ inr (first, (0, omega arith, refl), eqb-true first.seat seat h.0, sym h.1, same ∙ h.2)
          ]
      | inr h ↦ inr (h.0, (suc h.1.0, omega (arith, h.1.1), h.1.2), h.2, h.3, h.4)
    ]

-- what a fence does to one word
pub fences_raise_floors : FencesRaiseFloors
fences_raise_floors memory seat word order inside = (
  refl,
  refl,
  record {
    not_lower = index_at-later memory.past (slice_index memory.floors word) (slice_index (floors_raised_by seat memory.pending memory.floors) word) word (not_lowered seat memory.pending memory.floors word);
    reaches = λ note stands mine here.
        index_at-later memory.past note.time (slice_index (floors_raised_by seat memory.pending memory.floors) word) word
        (reached seat memory.pending memory.floors word stands.0 note (omega (arith, inside, order.floors)) stands.1 stands.2 mine here);
    attained =
        elim (attained seat memory.pending memory.floors word) [
          | inl same ↦ inl (ap (λ (t : ℕ). index_at memory.past t word) same)
          | inr h ↦ inr (h.0, h.1, h.2, h.3, ap (λ (t : ℕ). index_at memory.past t word) h.4)
        ];
  },
)

-- what is replaced is added behind the rest
past_grows : (grows : Bool) (at : Place) (value : ℕ) (past : List Replaced) → length past ≤ length (replaced_at grows at value past)
past_grows false at value past = omega arith
past_grows true (Image v) value past = rw (length-append past (record { word = v; value = value } ∷ [])) (omega arith)
past_grows true (Pin i) value past = omega arith
past_grows true (Map v) value past = omega arith
past_grows true (FenceOf i) value past = omega arith

pub words_stay : (now : SharedWords) (at : Place) (value : ℕ) → length (with_word now at value).words ≡ length now.words
words_stay now (Image v) value = length-set now.words v value
words_stay now (Pin i) value = refl
words_stay now (Map v) value = refl
words_stay now (FenceOf i) value = refl

-- a step that leaves the floors and the marks
order_at : (memory : Memory) (at : Place) (value : ℕ) (grows : Bool) → IsOrderly memory
    → IsOrderly (record memory { now = with_word memory.now at value; past = replaced_at grows at (word_at memory.now at) memory.past })
order_at memory at value grows order =
    let more = past_grows grows at (word_at memory.now at) memory.past in
    record {
      floors = order.floors ∙ sym (words_stay memory.now at value);
      reached = λ word. omega (arith, order.reached word, more);
      noted = All-weaker (λ (note : PendingMark). note.time ≤ length memory.past) (λ (note : PendingMark). note.time ≤ length (replaced_at grows at (word_at memory.now at) memory.past)) (λ note before. omega (arith, before, more)) memory.pending order.noted;
    }

order_marked : (memory : Memory) (seat marked : ℕ) → IsOrderly memory → IsOrderly (memory_after memory seat (Mark marked))
order_marked memory seat marked order = record {
  floors = order.floors ∙ sym (words_stay memory.now (Image marked) (word_at memory.now (Image marked)));
  reached = order.reached;
  noted = All-push (λ (note : PendingMark). note.time ≤ length memory.past) memory.pending (record { seat = seat; word = marked; time = length memory.past }) order.noted (omega arith);
}

order_fenced : (memory : Memory) (seat : ℕ) → IsOrderly memory → IsOrderly (memory_after memory seat Fence)
order_fenced memory seat order = record {
  floors = length-floors_raised_by seat memory.pending memory.floors ∙ order.floors;
  reached = λ word.
      elim (attained seat memory.pending memory.floors word) [
        | inl same ↦ omega (arith, same, order.reached word)
        | inr h ↦ let known = order.noted h.1.0 h.0 h.1.1 in let time = ap (λ (n : PendingMark). n.time) h.1.2 in omega (arith, h.4, known, time)
      ];
  noted = All-filter (λ (note : PendingMark). not (note.seat == seat)) (λ (note : PendingMark). note.time ≤ length memory.past) memory.pending order.noted;
}

pub steps_keep_order : StepsKeepOrder
steps_keep_order memory seat (Load p) order = order_at memory p (word_at memory.now p) false order
steps_keep_order memory seat (Store p value) order = order_at memory p value true order
steps_keep_order memory seat (Exchange p before after) order =
    order_at memory p (if word_at memory.now p == before then after else word_at memory.now p) (word_at memory.now p == before) order
steps_keep_order memory seat (SetBits p bits) order = order_at memory p (becomes (SetBits p bits) (word_at memory.now p)) true order
steps_keep_order memory seat (ClearBits p bits) order = order_at memory p (becomes (ClearBits p bits) (word_at memory.now p)) true order
steps_keep_order memory seat (Mark marked) order = order_marked memory seat marked order
steps_keep_order memory seat Fence order = order_fenced memory seat order

-- the marks that a fence leaves
forget_own : (seat : ℕ) (pending : List PendingMark) → filter (λ (note : PendingMark). note.seat == seat) (filter (λ (note : PendingMark). not (note.seat == seat)) pending) ≡ []
forget_own seat [] = refl
forget_own seat (note ∷ pending) =
    elim (eqb_tells note.seat seat) [
      | inl h ↦ rw h.0 (forget_own seat pending)
      | inr h ↦ rw (h.0, h.0) (forget_own seat pending)
    ]

forget_none : (seat other : ℕ) (pending : List PendingMark) → other ≢ seat
    → filter (λ (note : PendingMark). note.seat == other) (filter (λ (note : PendingMark). not (note.seat == seat)) pending) ≡ filter (λ (note : PendingMark). note.seat == other) pending
forget_none seat other [] different = refl
forget_none seat other (note ∷ pending) different =
    elim (eqb_tells note.seat seat) [
      | inl h ↦ rw (h.0, ne_eqb note.seat other (λ same. different (sym same ∙ h.1))) (forget_none seat other pending different)
      | inr h ↦
          elim (eqb_tells note.seat other) [
            | inl own ↦ rw (h.0, own.0) (ap (λ (l : List PendingMark). note ∷ l) (forget_none seat other pending different))
            | inr away ↦ rw (h.0, away.0) (forget_none seat other pending different)
          ]
    ]

pub fences_forget_own_marks : FencesForgetOwnMarks
fences_forget_own_marks memory seat = (
  forget_own seat memory.pending,
  λ other different. forget_none seat other memory.pending different,
)

-- one mark more: of the seat, and of another
pub pending_of-push_own : (pending : List PendingMark) (note : PendingMark) → pending_of note.seat (pending ++ note ∷ []) ≡ pending_of note.seat pending ++ note ∷ []
pending_of-push_own pending note =
    filter-append (λ (n : PendingMark). n.seat == note.seat) pending (note ∷ [])
    ∙ ap (λ (b : Bool). pending_of note.seat pending ++ cond b (note ∷ []) []) (eq-eqb note.seat note.seat refl)

pub pending_of-push_other : (seat : ℕ) (pending : List PendingMark) (note : PendingMark) → seat ≢ note.seat → pending_of seat (pending ++ note ∷ []) ≡ pending_of seat pending
pending_of-push_other seat pending note other =
    filter-append (λ (n : PendingMark). n.seat == seat) pending (note ∷ [])
    ∙ ap (λ (b : Bool). pending_of seat pending ++ cond b (note ∷ []) []) (ne_eqb note.seat seat (λ same. other (sym same)))
    ∙ append-nil (pending_of seat pending)
