-- The marks of owned blocks, filled and fenced, change nothing else of them.
use Rattle.std.proofs.Common.{ℕ, ◌≡◌, ◌≢◌, ◌<◌, ◌≤◌, ◌⊎◌, inl, inr, Bool, true, false, List, length, slice_set, refl, sym, ap, subst, ◌∙◌, arith}
use Rattle.std.proofs.lemmas.Bool.{cases_eq, cases_lt}
use Rattle.std.proofs.lemmas.List.{get_or-set_same, get_or-set_other, set-set, set_past, length-set}
use Rattle.log_entry.specs.declared.shapes.Area.TheVariants.{Data}
use Rattle.pmem_words.specs.Owned.{owned_at, with_filled, with_fenced}
use Rattle.pmem_words.specs.declared.owned.OwnedBlock.{OwnedBlock}
use Rattle.pmem_words.specs.Seats.{Seat}
use Rattle.block_bitmap.specs.OwnedWords.{owned_block_at, unfilled, with_filled_block}
use Rattle.block_bitmap.specs.Filled.{filled_anew}

abbrev pub none : OwnedBlock
none = record { block = 0; area = Data; filled = false; fenced = false }

-- a block in place of another of the same number
pub same_blocks : (owned : List OwnedBlock) (p k : ℕ) (o : OwnedBlock) → o.block ≡ (owned_at owned p).block → (owned_at (slice_set owned p o) k).block ≡ (owned_at owned k).block
same_blocks owned p k o same = by (cases_eq k p) (cases_lt p (length owned))
  where
    by : (k ≡ p) ⊎ (k ≢ p) → (p < length owned) ⊎ (length owned ≤ p) → (owned_at (slice_set owned p o) k).block ≡ (owned_at owned k).block
    by (inl here) (inl inside) = subst (λ (j : ℕ). (owned_at (slice_set owned p o) j).block ≡ (owned_at owned j).block) (sym here) (ap (λ (x : OwnedBlock). x.block) (get_or-set_same owned p o none inside) ∙ same)
    by (inl here) (inr past) = ap (λ (list : List OwnedBlock). (owned_at list k).block) (set_past owned p o past)
    by (inr apart) order = ap (λ (x : OwnedBlock). x.block) (get_or-set_other owned p k o none apart)

-- both marks at once
pub both_marks : (owned : List OwnedBlock) (p : ℕ) (filled fenced : Bool) → p < length owned
    → with_fenced (with_filled owned p filled) p fenced ≡ slice_set owned p (record (owned_at owned p) { filled = filled; fenced = fenced })
both_marks owned p filled fenced inside =
    ap (λ (o : OwnedBlock). slice_set (with_filled owned p filled) p (record o { fenced = fenced })) (get_or-set_same owned p (record (owned_at owned p) { filled = filled }) none inside)
    ∙ set-set owned p (record (owned_at owned p) { filled = filled }) (record (owned_at owned p) { filled = filled; fenced = fenced })

-- taken away once more
pub unmarked_twice : (owned : List OwnedBlock) (p : ℕ) → p < length owned
    → with_fenced (with_filled (with_fenced (with_filled owned p false) p false) p false) p false ≡ with_fenced (with_filled owned p false) p false
unmarked_twice owned p inside =
    (let first = both_marks owned p false false inside in
    let o : OwnedBlock = record (owned_at owned p) { filled = false; fenced = false } in
    let still : p < length (slice_set owned p o) = (let long = length-set owned p o in omega (arith, long, inside)) in
    ap (λ (list : List OwnedBlock). with_fenced (with_filled list p false) p false) first
    ∙ both_marks (slice_set owned p o) p false false still
    ∙ ap (λ (x : OwnedBlock). slice_set (slice_set owned p o) p (record x { filled = false; fenced = false })) (get_or-set_same owned p o none inside)
    ∙ set-set owned p o o
    ∙ sym first)

-- the seat with these owned blocks
abbrev pub owning : Seat → List OwnedBlock → Seat
owning s owned = record s { blocks = record s.blocks { owned = owned } }

-- the owned blocks after a store, and after the last mark, are the same ones

pub unfilled_each : (s : Seat) (p k : ℕ) → owned_block_at (unfilled s p) k ≡ owned_block_at s k
unfilled_each s p k =
    same_blocks (with_filled s.blocks.owned p false) p k (record (owned_at (with_filled s.blocks.owned p false) p) { fenced = false }) refl
    ∙ same_blocks s.blocks.owned p k (record (owned_at s.blocks.owned p) { filled = false }) refl

pub unfilled_many : (s : Seat) (p : ℕ) → length (unfilled s p).blocks.owned ≡ length s.blocks.owned
unfilled_many s p = length-set (with_filled s.blocks.owned p false) p (record (owned_at (with_filled s.blocks.owned p false) p) { fenced = false })
    ∙ length-set s.blocks.owned p (record (owned_at s.blocks.owned p) { filled = false })

pub counted_each : (s : Seat) (p k : ℕ) → owned_block_at (with_filled_block s p) k ≡ owned_block_at s k
counted_each s p k = same_blocks s.blocks.owned p k (record (owned_at s.blocks.owned p) { filled = true }) refl

pub anew_each : (s : Seat) (p k : ℕ) → owned_block_at (filled_anew s p) k ≡ owned_block_at s k
anew_each s p k = counted_each (unfilled s p) p k ∙ unfilled_each s p k

pub anew_many : (s : Seat) (p : ℕ) → length (filled_anew s p).blocks.owned ≡ length s.blocks.owned
anew_many s p = length-set (unfilled s p).blocks.owned p (record (owned_at (unfilled s p).blocks.owned p) { filled = true }) ∙ unfilled_many s p

pub still_unfilled : (s : Seat) (p : ℕ) → p < length s.blocks.owned → unfilled (unfilled s p) p ≡ unfilled s p
still_unfilled s p inside = ap (owning s) (unmarked_twice s.blocks.owned p inside)
