-- The seat while its blocks are filled, one after the other.
use Rattle.std.proofs.Common.{ℕ, zero, suc, ◌≡◌, ◌≢◌, ◌+◌, ◌*◌, ◌<◌, ◌≤◌, ◌||◌, ◌⊎◌, inl, inr, true, false, length, slice_index, refl, ap, ◌∙◌, arith}
use Rattle.std.proofs.lemmas.Bool.{cases_eq, or_right}
use Rattle.std.proofs.lemmas.List.{get_or-set_same, get_or-set_other, get_or-map, length-map}
use Rattle.pmem_words.specs.Owned.{owned_at, with_filled}
use Rattle.pmem_words.specs.declared.owned.OwnedBlock.{OwnedBlock}
use Rattle.pmem_words.specs.Seats.{Seat, q_of}
use Rattle.block_bitmap.specs.OwnedWords.{owned_block_at, image_word, content_at, unfilled}
use Rattle.block_bitmap.specs.Filled.{filled_anew, filled_from, filled_seat}
use Rattle.block_bitmap.proofs.FillStanding.{stored_to}
use Rattle.block_bitmap.proofs.OwnedFlags.{none, unfilled_many, anew_each, anew_many, still_unfilled}

-- one block more at the end
pub filled_more : (s : Seat) (first n : ℕ) → filled_from s first (suc n) ≡ filled_anew (filled_from s first n) (first + n)
filled_more s first zero = ap (filled_anew s) (let same : first ≡ first + 0 = omega arith in same)
filled_more s first (suc n) = filled_more (filled_anew s first) (first + 1) n ∙ ap (filled_anew (filled_from s first (suc n))) (let same : first + 1 + n ≡ first + suc n = omega arith in same)

pub filled_many : (s : Seat) (first n : ℕ) → length (filled_from s first n).blocks.owned ≡ length s.blocks.owned
filled_many s first zero = refl
filled_many s first (suc n) = filled_many (filled_anew s first) (first + 1) n ∙ anew_many s first

pub filled_geometry : (s : Seat) (first n : ℕ) → (filled_from s first n).geometry ≡ s.geometry
filled_geometry s first zero = refl
filled_geometry s first (suc n) = filled_geometry (filled_anew s first) (first + 1) n

pub filled_contents : (s : Seat) (first n : ℕ) → (filled_from s first n).blocks.contents ≡ s.blocks.contents
filled_contents s first zero = refl
filled_contents s first (suc n) = filled_contents (filled_anew s first) (first + 1) n

pub filled_blocks : (s : Seat) (first n k : ℕ) → owned_block_at (filled_from s first n) k ≡ owned_block_at s k
filled_blocks s first zero k = refl
filled_blocks s first (suc n) k = filled_blocks (filled_anew s first) (first + 1) n k ∙ anew_each s first k

-- stored once more, a block is as after the first store
pub stored_unfilled : (s : Seat) (p word : ℕ) → p < length s.blocks.owned → unfilled (stored_to s p word) p ≡ unfilled s p
stored_unfilled s p zero inside = refl
stored_unfilled s p (suc word) inside = still_unfilled s p inside

-- another place is as before
anew_other : (s : Seat) (p k : ℕ) → k ≢ p → owned_at (filled_anew s p).blocks.owned k ≡ owned_at s.blocks.owned k
anew_other s p k apart =
    get_or-set_other (unfilled s p).blocks.owned p k (record (owned_at (unfilled s p).blocks.owned p) { filled = true }) none apart
    ∙ get_or-set_other (with_filled s.blocks.owned p false) p k (record (owned_at (with_filled s.blocks.owned p false) p) { fenced = false }) none apart
    ∙ get_or-set_other s.blocks.owned p k (record (owned_at s.blocks.owned p) { filled = false }) none apart

anew_here : (s : Seat) (p : ℕ) → p < length s.blocks.owned → (owned_at (filled_anew s p).blocks.owned p).filled ≡ true
anew_here s p inside = ap (λ (o : OwnedBlock). o.filled)
    (get_or-set_same (unfilled s p).blocks.owned p (record (owned_at (unfilled s p).blocks.owned p) { filled = true }) none (let many = unfilled_many s p in omega (arith, inside, many)))

-- each of the blocks is filled
each_filled : (s : Seat) (first n k : ℕ) → first + n ≤ length s.blocks.owned → first ≤ k → k < first + n → (owned_at (filled_from s first n).blocks.owned k).filled ≡ true
each_filled s first zero k inside low high = absurd (omega (arith, low, high))
each_filled s first (suc n) k inside low high =
    ap (λ (t : Seat). (owned_at t.blocks.owned k).filled) (filled_more s first n) ∙ by (cases_eq k (first + n)) (λ below. each_filled s first n k (omega (arith, inside)) low below)
  where
    t : Seat
    t = filled_from s first n

    by : (k ≡ first + n) ⊎ (k ≢ first + n) → (k < first + n → (owned_at t.blocks.owned k).filled ≡ true) → (owned_at (filled_anew t (first + n)).blocks.owned k).filled ≡ true
    by (inl same) before = ap (λ (j : ℕ). (owned_at (filled_anew t (first + n)).blocks.owned j).filled) same ∙ anew_here t (first + n) (let many = filled_many s first n in omega (arith, many, inside))
    by (inr apart) before = ap (λ (o : OwnedBlock). o.filled) (anew_other t (first + n) k apart) ∙ before (omega (arith, high, apart))

abbrev fence : OwnedBlock → OwnedBlock
fence o = record o { fenced = o.fenced || o.filled }

-- and fenced at the end
pub each_fenced : (s : Seat) (first n k : ℕ) → first + n ≤ length s.blocks.owned → first ≤ k → k < first + n
    → (k < length (filled_seat s first n).blocks.owned) × ((owned_at (filled_seat s first n).blocks.owned k).filled ≡ true) × ((owned_at (filled_seat s first n).blocks.owned k).fenced ≡ true)
each_fenced s first n k inside low high =
    (let t : Seat = filled_from s first n in
    let many = filled_many s first n in
    let long = length-map t.blocks.owned fence in
    let here : k < length t.blocks.owned = omega (arith, many, inside, high) in
    let is = get_or-map fence t.blocks.owned k none none here in
    let filled = each_filled s first n k inside low high in
    (omega (arith, long, here), ap (λ (o : OwnedBlock). o.filled) is ∙ filled, ap (λ (o : OwnedBlock). o.fenced) is ∙ or_right (owned_at t.blocks.owned k).fenced (owned_at t.blocks.owned k).filled filled))

pub fenced_many : (s : Seat) (first n : ℕ) → length (filled_seat s first n).blocks.owned ≡ length s.blocks.owned
fenced_many s first n = length-map (filled_from s first n).blocks.owned fence ∙ filled_many s first n

-- the words of a block stand where they stood, and have their content
module _ (s : Seat) (first n : ℕ) where
  abbrev t : Seat
  t = filled_from s first n

  same_q : q_of t.geometry ≡ q_of s.geometry
  same_q = ap q_of (filled_geometry s first n)

  pub same_word : (place word : ℕ) → place < length s.blocks.owned → image_word (filled_seat s first n) place word ≡ image_word s place word
  same_word place word here =
      (let many = filled_many s first n in
      let is = ap (λ (o : OwnedBlock). o.block) (get_or-map fence t.blocks.owned place none none (omega (arith, many, here))) in
      let block : owned_block_at (filled_seat s first n) place ≡ owned_block_at s place = is ∙ filled_blocks s first n place in
      (λ i. block i * same_q i + word))

  pub same_content : (place word : ℕ) → content_at (filled_seat s first n) place word ≡ content_at s place word
  same_content place word = (λ i. slice_index (filled_contents s first n i) (place * same_q i + word))
