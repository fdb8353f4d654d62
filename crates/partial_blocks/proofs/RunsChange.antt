-- Composing the runs of blocks changes the block behind them alone, and a call may compute it.
use Rattle.std.proofs.Common.{◌≡◌, ◌≢◌, ◌⊎◌, inl, inr, ℕ, zero, suc, ◌+◌, ◌-◌, ◌*◌, ◌^◌, ◌<◌, ◌≤◌, List, [], length, slice_index, slice_set, refl, ap, ◌∙◌, arith, mul-le-mul_right}
use Rattle.std.proofs.lemmas.List.{get_or-set_other, length-set}
use Rattle.log_entry.specs.Words.{run_word, indirect_word}
use Rattle.pmem_words.specs.Owned.{owned_at}
use Rattle.pmem_words.specs.Seats.{Seat}
use Rattle.log_core.specs.Views.{Ghost}
use Rattle.log_core.specs.Works.{words_of, owned_block, content_word}
use Rattle.log_core.specs.Answers.{Enters}
use Rattle.log_core.proofs.BlockWords.{q_range}
use Rattle.log_core.proofs.machines.Parts.{enters_more}
use Rattle.log_core.proofs.writes.RunLists.{runs_of}
use Rattle.log_core.proofs.writes.IndirectBlocks.{indirect_content, run_small}
use Rattle.partial_blocks.specs.Composing.{word_set}
use Rattle.partial_blocks.specs.Holding.{bare, unmarked_all, ChangesOnly}
use Rattle.partial_blocks.specs.Runs.{HasRuns, run_at, runs_at, runs_set, runs_composed, firsts, ComposesRuns, MayComposeRuns}
use Rattle.partial_blocks.proofs.Composed.{both_marks, both_other}
use Rattle.partial_blocks.proofs.EntersComposed.{enters_word}
use Rattle.partial_blocks.proofs.RunsHeld.{runs_range, run_range, runs_words, runs_words_long, are_held, indirect_words}
use Rattle.partial_blocks.proofs.WordsSet.{words_apart}

pub word_long : (place word value : ℕ) (s : Seat) → length (word_set place word value s).blocks.owned ≡ length s.blocks.owned
word_long place word value s = length-set _ place _ ∙ length-set s.blocks.owned place _

pub runs_bare : (count place : ℕ) (s : Seat) → bare (runs_set count place s) ≡ bare s
runs_bare count zero s = refl
runs_bare count (suc place) s = runs_bare count place s

pub runs_long : (count place : ℕ) (s : Seat) → length (runs_set count place s).blocks.owned ≡ length s.blocks.owned
runs_long count zero s = word_long count 1 (run_word (run_at 0 s)) s
runs_long count (suc place) s = word_long count (runs_at (suc place) s) (run_word (run_at (suc place) s)) (runs_set count place s) ∙ runs_long count place s

runs_marks : (count place : ℕ) (s : Seat) → unmarked_all (runs_set count place s).blocks.owned ≡ unmarked_all s.blocks.owned
runs_marks count zero s = both_marks s.blocks.owned count
runs_marks count (suc place) s = both_marks (runs_set count place s).blocks.owned count ∙ runs_marks count place s

runs_other : (count place : ℕ) (s : Seat) (other : ℕ) → other ≢ count → owned_at (runs_set count place s).blocks.owned other ≡ owned_at s.blocks.owned other
runs_other count zero s other apart = both_other s.blocks.owned count other apart
runs_other count (suc place) s other apart = both_other (runs_set count place s).blocks.owned count other apart ∙ runs_other count place s other apart

runs_contents : (count place : ℕ) (s : Seat) → (runs_set count place s).blocks.contents ≡ runs_words s s.blocks.contents (count * words_of s) place
runs_contents count zero s = refl
runs_contents count (suc place) s =
    ap (λ (u : Seat). slice_set (runs_set count place s).blocks.contents (count * words_of u + runs_at (suc place) s) (run_word (run_at (suc place) s))) (runs_bare count place s)
    ∙ ap (λ (l : List ℕ). slice_set l (count * words_of s + runs_at (suc place) s) (run_word (run_at (suc place) s))) (runs_contents count place s)

-- the words of other blocks
runs_apart : (s : Seat) (words : List ℕ) (from q place k : ℕ) → place + 1 < q → (k < from) ⊎ (from + q ≤ k) → slice_index (runs_words s words from place) k ≡ slice_index words k
runs_apart s words from q zero k low apart = get_or-set_other words (from + 1) k (run_word (run_at 0 s)) 0 (λ same. other apart same)
  where
    other : (k < from) ⊎ (from + q ≤ k) → k ≡ from + 1 → ⊥
    other (inl before) same = omega (arith, before, same)
    other (inr behind) same = omega (arith, behind, same, low)
runs_apart s words from q (suc place) k low apart =
    get_or-set_other (runs_words s words from place) (from + runs_at (suc place) s) k (run_word (run_at (suc place) s)) 0 (λ same. other apart same)
    ∙ runs_apart s words from q place k (omega (arith, low)) apart
  where
    other : (k < from) ⊎ (from + q ≤ k) → k ≡ from + runs_at (suc place) s → ⊥
    other (inl before) same = omega (arith, before, same)
    other (inr behind) same = (let most = (runs_range s (suc place)).1 in omega (arith, behind, same, low, most))

module _ (virt count leftover : ℕ) (s : Seat) (has : HasRuns count leftover s) where
  abbrev q : ℕ
  q = words_of s

  abbrev last : ℕ
  last = count - 1

  abbrev from : ℕ
  from = count * words_of s

  abbrev t : Seat
  t = runs_composed virt count leftover s

  all : count ≡ last + 1
  all = (let some = has.some in omega (arith, some))

  abbrev first : ℕ
  first = indirect_word (record { virt = virt; count = count; runs = runs_at last s; leftover = leftover })

  abbrev whole : List ℕ
  whole = slice_set (runs_words s s.blocks.contents from last) (from + 0) first

  rest : bare t ≡ bare s
  rest = runs_bare count last s

  whole_is : t.blocks.contents ≡ whole
  whole_is = ap (λ (u : Seat). slice_set (runs_set count last s).blocks.contents (count * words_of u + 0) first) (runs_bare count last s)
      ∙ ap (λ (l : List ℕ). slice_set l (from + 0) first) (runs_contents count last s)

  module _ (long : length s.blocks.contents ≡ length s.blocks.owned * words_of s) (none : (word : ℕ) → 0 < word → word < words_of s → content_word s count word ≡ 0) where
    fits : from + q ≤ length s.blocks.contents
    fits = (let more = has.more in let next : (count + 1) * q ≤ length s.blocks.owned * q = mul-le-mul_right q (omega (arith, more)) in let split : (count + 1) * q ≡ count * q + q = omega arith in omega (arith, long, next, split))

    none_behind : (k : ℕ) → from < k → k < from + q → slice_index s.blocks.contents k ≡ 0
    none_behind k low high = ap (λ (n : ℕ). slice_index s.blocks.contents n) (let same : k ≡ from + (k - from) = omega (arith, low) in same) ∙ none (k - from) (omega (arith, low)) (omega (arith, low, high))

    words_held : (index : ℕ) → index < q → content_word t count index ≡ slice_index (indirect_content q virt leftover (runs_of (firsts s last))) index
    words_held index low = ap (λ (n : ℕ). slice_index t.blocks.contents (count * n + index)) (ap words_of rest)
        ∙ (ap (λ (l : List ℕ). slice_index l (from + index)) whole_is
        ∙ indirect_words s s.blocks.contents from q fits last count virt leftover (are_held s s.blocks.contents from q fits none_behind last) all index low)

  others : (place word : ℕ) → (place ≡ count → ⊥) → word < q → content_word t place word ≡ content_word s place word
  others place word apart low = ap (λ (n : ℕ). slice_index t.blocks.contents (place * n + word)) (ap words_of rest)
      ∙ (ap (λ (l : List ℕ). slice_index l (place * q + word)) whole_is
      ∙ (get_or-set_other (runs_words s s.blocks.contents from last) (from + 0) (place * q + word) first 0 (λ same. never (words_apart q count place word apart low) same)
      ∙ runs_apart s s.blocks.contents from q last (place * q + word) (let room = has.room in let is = all in omega (arith, room, is)) (words_apart q count place word apart low)))
    where
      never : (place * q + word < count * q) ⊎ (count * q + q ≤ place * q + word) → place * q + word ≡ from + 0 → ⊥
      never (inl before) same = omega (arith, before, same)
      never (inr behind) same = (let room = has.room in omega (arith, behind, same, room))

  only : ChangesOnly (λ place. place ≡ count) s t
  only = record {
    rest = rest;
    owned = both_marks (runs_set count last s).blocks.owned count ∙ runs_marks count last s;
    marks = λ other apart. both_other (runs_set count last s).blocks.owned count other apart ∙ runs_other count last s other apart;
    long = ap (λ (l : List ℕ). length l) whole_is ∙ (length-set (runs_words s s.blocks.contents from last) (from + 0) first ∙ runs_words_long s s.blocks.contents from last);
    others = others;
  }

  -- each word may be set
  module _ (g : Ghost) (low_virt : virt < 2 ^ 16) (numbers : (k : ℕ) → k < count → owned_block s k < 2 ^ 16) where
    run_fits : (place : ℕ) → place < count → run_word (run_at place s) < 2 ^ 64
    run_fits place low = (let range = run_range s (2 ^ 16) place (λ k before. numbers k (omega (arith, before, low))) in
        run_small (run_at place s) range.0 (let short = range.1 in let wide = (q_range s.geometry).1 in let few = has.room in omega (arith, short, low, few, wide)))

    first_fits : first < 2 ^ 64
    first_fits = (let most = (runs_range s last).1 in let wide = (q_range s.geometry).1 in let few = has.room in let some = has.some in let left = has.low in omega (arith, low_virt, most, some, few, wide, left))

    set_inside : (place : ℕ) → count < length (runs_set count place s).blocks.owned
    set_inside place = (let long = runs_long count place s in let inside = has.more in omega (arith, long, inside))

    enters_runs : (place : ℕ) → place < count → Enters g s (runs_set count place s) []
    enters_runs zero low = enters_word g s count 1 (run_word (run_at 0 s)) (record { owned = has.more; inside = (let few = has.room in omega (arith, low, few)); small = run_fits 0 low })
    enters_runs (suc place) low = enters_more g s (runs_set count place s) (runs_set count (suc place) s) [] (enters_runs place (omega (arith, low)))
        (enters_word g (runs_set count place s) count (runs_at (suc place) s) (run_word (run_at (suc place) s)) (record {
          owned = set_inside place;
          inside = (let most = (runs_range s (suc place)).1 in let same = ap words_of (runs_bare count place s) in let few = has.room in omega (arith, most, same, low, few));
          small = run_fits (suc place) low;
        }))

    pub enters_composed_runs : Enters g s (runs_composed virt count leftover s) []
    enters_composed_runs = enters_more g s (runs_set count last s) (runs_composed virt count leftover s) [] (enters_runs last (let is = all in omega (arith, is)))
        (enters_word g (runs_set count last s) count 0 first (record {
          owned = set_inside last;
          inside = (let same = ap words_of (runs_bare count last s) in let few = has.room in omega (arith, same, few));
          small = first_fits;
        }))

pub composes_runs : ComposesRuns
composes_runs virt count leftover s has long none = (words_held virt count leftover s has long none, only virt count leftover s has)

pub may_compose_runs : MayComposeRuns
may_compose_runs virt count leftover s g has low numbers = enters_composed_runs virt count leftover s has g low numbers
