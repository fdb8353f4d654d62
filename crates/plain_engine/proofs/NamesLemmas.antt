-- Which blocks the chain names after the parts of a write, and its tail.
use Rattle.std.proofs.Common.{◌≡◌, ◌≢◌, ◌<◌, ◌≤◌, ◌+◌, ◌==◌, ◌&&◌, ◌||◌, ℕ, Bool, true, false, List, [], ◌∷◌, ◌++◌, Some, None, nat_le, nat_lt, if◌then◌else◌, refl, sym, ap, ◌∙◌, arith}
use Rattle.std.proofs.lemmas.Bool.{eq-eqb, ne_eqb}
use Rattle.block_table.specs.FileMap.{FileMap}
use Rattle.log_image.specs.Image.{Shape, words_in, total}
use Rattle.log_image.specs.Tails.{Tail, AtSlot, AtLink, tail_of}
use Rattle.log_image.specs.Taken.{bit_of, is_taken, HasTaken}
use Rattle.image_steps.specs.Steps.{next_tail}
use Rattle.plain_engine.specs.Clear.{IsFirstClear}
use Rattle.plain_engine.specs.Running.{Runs}
use Rattle.plain_engine.specs.Space.{least_data, least_log}
use Rattle.plain_engine.specs.Names.{is_in_run, is_linked, slot_chain, slot_tail, entry_tail, MakesSlot, TakesRun, NamesAfter}
use Rattle.plain_engine.proofs.SpaceLemmas.{next_is_least, least_log_same}

-- a block is taken where it was, or where its bit was set
taken_by_mark : (words new : List ℕ) (shape : Shape) (chain longer taken marked : List ℕ) (block : ℕ) (mark : Bool) → HasTaken words shape chain taken → HasTaken new shape longer marked → block < total shape →
    bit_of marked block ≡ (if mark then 1 else bit_of taken block) → is_taken new shape longer block ≡ (is_taken words shape chain block || mark)
taken_by_mark words new shape chain longer taken marked block mark has also inside is =
    go (is_taken new shape longer block) (is_taken words shape chain block) mark (sym (also.bits block inside) ∙ is ∙ ap (λ (n : ℕ). if mark then 1 else n) (has.bits block inside))
  where
    go : (a b m : Bool) → ◌≡◌ {A = ℕ} (if a then 1 else 0) (if m then 1 else (if b then 1 else 0)) → a ≡ (b || m)
    go true true m is = refl
    go true false true is = refl
    go true false false is = absurd (omega (arith, is))
    go false true true is = absurd (omega (arith, is))
    go false true false is = absurd (omega (arith, is))
    go false false true is = absurd (omega (arith, is))
    go false false false is = refl

-- the tail is the tail
at_slot : (shape : Shape) (words taken : List ℕ) (table : FileMap) (position tail_block tail_slot first_clear : ℕ) (chain file : List ℕ) → Runs shape words taken table position tail_block tail_slot first_clear chain file → tail_slot ≢ words_in shape → tail_of words shape chain ≡ AtSlot tail_block tail_slot
at_slot shape words taken table position tail_block tail_slot first_clear chain file runs opens = runs.fits.tail ∙ ap (λ (b : Bool). if b then AtLink tail_block else AtSlot tail_block tail_slot) (ne_eqb tail_slot (words_in shape) opens)

at_link : (shape : Shape) (words taken : List ℕ) (table : FileMap) (position tail_block tail_slot first_clear : ℕ) (chain file : List ℕ) → Runs shape words taken table position tail_block tail_slot first_clear chain file → tail_slot ≡ words_in shape → tail_of words shape chain ≡ AtLink tail_block
at_link shape words taken table position tail_block tail_slot first_clear chain file runs closes = runs.fits.tail ∙ ap (λ (b : Bool). if b then AtLink tail_block else AtSlot tail_block tail_slot) (eq-eqb tail_slot (words_in shape) closes)

-- the tail was a slot
pub slot_kept : (shape : Shape) (words taken : List ℕ) (table : FileMap) (position tail_block tail_slot first_clear : ℕ) (chain file : List ℕ) → Runs shape words taken table position tail_block tail_slot first_clear chain file → tail_slot ≢ words_in shape → MakesSlot shape words chain words chain
slot_kept shape words taken table position tail_block tail_slot first_clear chain file runs opens =
    let at : tail_of words shape chain ≡ AtSlot tail_block tail_slot = at_slot shape words taken table position tail_block tail_slot first_clear chain file runs opens in
    record {
      chain_is = sym (ap (λ (h : Tail). slot_chain h (least_log words shape chain) chain) at);
      tail = at ∙ sym (ap (λ (h : Tail). slot_tail h (least_log words shape chain)) at);
      taken = λ block inside. or_none (is_taken words shape chain block) ∙ sym (ap (λ (h : Tail). is_taken words shape chain block || is_linked h (least_log words shape chain) block) at);
    }
  where
    or_none : (b : Bool) → b ≡ (b || false)
    or_none true = refl
    or_none false = refl

-- the least clear block of the log area is linked
pub slot_linked : (shape : Shape) (words new taken marked : List ℕ) (table : FileMap) (position tail_block tail_slot first_clear next : ℕ) (chain file : List ℕ) → Runs shape words taken table position tail_block tail_slot first_clear chain file → tail_slot ≡ words_in shape → 8 ≤ words_in shape →
    IsFirstClear taken (1 + shape.data_blocks) (1 + shape.data_blocks + shape.log_blocks) next → Runs shape new marked table position next 3 first_clear (chain ++ next ∷ []) file →
    ((other : ℕ) → bit_of marked other ≡ (if other == next then 1 else bit_of taken other)) → MakesSlot shape words chain new (chain ++ next ∷ [])
slot_linked shape words new taken marked table position tail_block tail_slot first_clear next chain file runs closes long first new_runs marks =
    let at : tail_of words shape chain ≡ AtLink tail_block = at_link shape words taken table position tail_block tail_slot first_clear chain file runs closes in
    let least : least_log words shape chain ≡ next = next_is_least words shape chain taken next runs.fits.bitmap first in
    let there : tail_of new shape (chain ++ next ∷ []) ≡ AtSlot next 3 = at_slot shape new marked table position next 3 first_clear (chain ++ next ∷ []) file new_runs (λ e. omega (arith, e, long)) in
    record {
      chain_is = sym (ap (λ (h : Tail). slot_chain h (least_log words shape chain) chain) at ∙ ap (λ (n : ℕ). chain ++ n ∷ []) least);
      tail = there ∙ sym (ap (λ (h : Tail). slot_tail h (least_log words shape chain)) at ∙ ap (λ (n : ℕ). AtSlot n 3) least);
      taken = λ block inside. taken_by_mark words new shape chain (chain ++ next ∷ []) taken marked block (block == next) runs.fits.bitmap new_runs.fits.bitmap inside (marks block)
          ∙ sym (ap (λ (h : Tail). is_taken words shape chain block || is_linked h (least_log words shape chain) block) at ∙ ap (λ (n : ℕ). is_taken words shape chain block || block == n) least);
    }

-- an entry takes a run's blocks
pub run_taken : (shape : Shape) (words new taken marked : List ℕ) (table new_table : FileMap) (position after tail_block tail_slot first_clear new_clear block count : ℕ) (chain file new_file : List ℕ) → Runs shape words taken table position tail_block tail_slot first_clear chain file → tail_slot ≢ words_in shape →
    Runs shape new marked new_table after tail_block (tail_slot + 1) new_clear chain new_file → ((other : ℕ) → bit_of marked other ≡ (if nat_le block other && nat_lt other (block + count) then 1 else bit_of taken other)) → TakesRun shape words chain new block count
run_taken shape words new taken marked table new_table position after tail_block tail_slot first_clear new_clear block count chain file new_file runs opens new_runs marks = record {
  tail = λ at slot is. new_runs.fits.tail ∙ same_tail at slot (sym is ∙ at_slot shape words taken table position tail_block tail_slot first_clear chain file runs opens);
  taken = λ other inside. taken_by_mark words new shape chain chain taken marked other (nat_le block other && nat_lt other (block + count)) runs.fits.bitmap new_runs.fits.bitmap inside (marks other);
}
  where
    same_tail : (at slot : ℕ) → AtSlot at slot ≡ AtSlot tail_block tail_slot → next_tail shape tail_block tail_slot ≡ next_tail shape at slot
    same_tail at slot is =
        let one : tail_block ≡ at = cc in
        let two : tail_slot ≡ slot = cc in
        ap (λ (b : ℕ). next_tail shape b tail_slot) one ∙ ap (λ (s : ℕ). next_tail shape at s) two

-- the names stay
pub names_stay : (shape : Shape) (words new chain : List ℕ) → ((block : ℕ) → is_taken new shape chain block ≡ is_taken words shape chain block) → tail_of new shape chain ≡ tail_of words shape chain → NamesAfter shape words chain None new chain
names_stay shape words new chain same same_tail = record { chain_is = refl; tail = same_tail; taken = λ block inside. same block }

-- the blocks are stored, a slot is made, and the entry is put there
pub names_written : (shape : Shape) (words stored slotted new chain longer : List ℕ) (block count : ℕ) → 8 ≤ words_in shape → least_data words shape chain ≡ block → ((other : ℕ) → is_taken stored shape chain other ≡ is_taken words shape chain other) → tail_of stored shape chain ≡ tail_of words shape chain →
    MakesSlot shape stored chain slotted longer → TakesRun shape slotted longer new block count → NamesAfter shape words chain (Some count) new longer
names_written shape words stored slotted new chain longer block count long first same same_tail made run =
    let least : least_log stored shape chain ≡ least_log words shape chain = least_log_same words stored shape chain same in
    record {
      chain_is = made.chain_is ∙ ap (λ (h : Tail). slot_chain h (least_log stored shape chain) chain) same_tail ∙ ap (λ (n : ℕ). slot_chain (tail_of words shape chain) n chain) least;
      tail = after_entry (tail_of words shape chain) (least_log words shape chain) (tail_of slotted shape longer) (tail_of new shape longer)
          (made.tail ∙ ap (λ (h : Tail). slot_tail h (least_log stored shape chain)) same_tail ∙ ap (λ (n : ℕ). slot_tail (tail_of words shape chain) n) least) run.tail;
      taken = λ other inside. run.taken other inside
          ∙ ap (λ (b : Bool). b || is_in_run block count other)
          (made.taken other inside ∙ ap (λ (b : Bool). b || is_linked (tail_of stored shape chain) (least_log stored shape chain) other) (same other)
          ∙ ap (λ (h : Tail). is_taken words shape chain other || is_linked h (least_log stored shape chain) other) same_tail
          ∙ ap (λ (n : ℕ). is_taken words shape chain other || is_linked (tail_of words shape chain) n other) least)
          ∙ regroup (is_taken words shape chain other) (is_linked (tail_of words shape chain) (least_log words shape chain) other) (is_in_run block count other)
          ∙ ap (λ (n : ℕ). (is_taken words shape chain other || is_in_run n count other) || is_linked (tail_of words shape chain) (least_log words shape chain) other) (sym first);
    }
  where
    after_entry : (before : Tail) (next : ℕ) (slot after : Tail) → slot ≡ slot_tail before next → ((at place : ℕ) → slot ≡ AtSlot at place → after ≡ next_tail shape at place) → after ≡ entry_tail shape before next
    after_entry (AtSlot at place) next slot after is each = each at place is
    after_entry (AtLink at) next slot after is each = each next 3 is ∙ ap (λ (b : Bool). if b then AtLink next else AtSlot next 4) (ne_eqb 4 (words_in shape) (λ e. omega (arith, e, long)))

    regroup : (a b c : Bool) → ((a || b) || c) ≡ ((a || c) || b)
    regroup true b c = refl
    regroup false true true = refl
    regroup false true false = refl
    regroup false false c = either c
      where
        either : (b : Bool) → b ≡ (b || false)
        either true = refl
        either false = refl
