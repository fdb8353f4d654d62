-- A block behind the blocks of a write: its marks, its content, and its words by its number.
use Rattle.std.proofs.Common.{◌≡◌, ◌≢◌, ℕ, zero, suc, ◌+◌, ◌-◌, ◌*◌, ◌^◌, ◌<◌, ◌≤◌, ◌==◌, ◌&&◌, ◌||◌, Bool, true, false, List, [], ◌∷◌, ◌++◌, length, take, drop, replicate, slice_index, slice_set, if◌then◌else◌, refl, sym, ap, ◌∙◌, arith}
use Rattle.std.proofs.lemmas.Bool.{eq-eqb, ne_eqb, or_left, or_right}
use Rattle.std.proofs.lemmas.List.{drop-append-le, length-drop, nil_from_length, take_all}
use Rattle.log_image.specs.Chains.{is_listed}
use Rattle.pmem_words.specs.Owned.{owned_at, with_filled, with_fenced, fenced_all}
use Rattle.pmem_words.specs.declared.owned.OwnedBlock.{OwnedBlock}
use Rattle.log_core.specs.Needs.{owned_numbers}
use Rattle.log_core.specs.Steps.{content_from}
use Rattle.log_core.specs.May.{is_fenced}
use Rattle.write_any.proofs.WriteStanding.{AreFenced}

pub at_last : (owned : List OwnedBlock) (last : OwnedBlock) → owned_at (owned ++ last ∷ []) (length owned) ≡ last
at_last [] last = refl
at_last (x ∷ owned) last = at_last owned last

set_last : (owned : List OwnedBlock) (last new : OwnedBlock) → slice_set (owned ++ last ∷ []) (length owned) new ≡ owned ++ new ∷ []
set_last [] last new = refl
set_last (x ∷ owned) last new = ap (λ (l : List OwnedBlock). x ∷ l) (set_last owned last new)

pub filled_last : (owned : List OwnedBlock) (last : OwnedBlock) (b : Bool) → with_filled (owned ++ last ∷ []) (length owned) b ≡ owned ++ record last { filled = b } ∷ []
filled_last owned last b = ap (λ (o : OwnedBlock). slice_set (owned ++ last ∷ []) (length owned) (record o { filled = b })) (at_last owned last) ∙ set_last owned last (record last { filled = b })

pub fenced_last : (owned : List OwnedBlock) (last : OwnedBlock) (b : Bool) → with_fenced (owned ++ last ∷ []) (length owned) b ≡ owned ++ record last { fenced = b } ∷ []
fenced_last owned last b = ap (λ (o : OwnedBlock). slice_set (owned ++ last ∷ []) (length owned) (record o { fenced = b })) (at_last owned last) ∙ set_last owned last (record last { fenced = b })

-- blocks that are fenced stay as they are at a fence
pub fenced_behind : (owned : List OwnedBlock) (last : OwnedBlock) → AreFenced owned → fenced_all (owned ++ last ∷ []) ≡ owned ++ record last { fenced = last.fenced || last.filled } ∷ []
fenced_behind [] last each = refl
fenced_behind (x ∷ owned) last each =
    ap (λ (b : Bool). record x { fenced = b || x.filled } ∷ fenced_all (owned ++ last ∷ [])) (each 0 (omega arith))
    ∙ (ap (λ (b : Bool). record x { fenced = b } ∷ fenced_all (owned ++ last ∷ [])) (sym (each 0 (omega arith)))
    ∙ ap (λ (l : List OwnedBlock). x ∷ l) (fenced_behind owned last (λ place low. each (suc place) (omega (arith, low)))))

-- the second word of the block behind
pub second_set : (contents : List ℕ) (q word : ℕ) → 2 ≤ q → slice_set (contents ++ replicate q 0) (length contents + 1) word ≡ contents ++ 0 ∷ word ∷ replicate (q - 2) 0
second_set [] q word enough = ap (λ (n : ℕ). slice_set (replicate n 0) 1 word) (let same : q ≡ suc (suc (q - 2)) = omega (arith, enough) in same)
second_set (x ∷ contents) q word enough =
    ap (λ (k : ℕ). slice_set (x ∷ contents ++ replicate q 0) k word) (let same : suc (length contents) + 1 ≡ suc (length contents + 1) = omega arith in same)
    ∙ ap (λ (l : List ℕ). x ∷ l) (second_set contents q word enough)

-- its words are those behind the others'
pub content_last : (q : ℕ) (owned : List OwnedBlock) (last : OwnedBlock) (contents words : List ℕ) → ((b : ℕ) → is_listed (owned_numbers owned) b ≡ true → b ≢ last.block) → length contents ≡ length owned * q → length words ≡ q →
    content_from q last.block (owned ++ last ∷ []) (contents ++ words) ≡ words
content_last q [] last contents words apart long wide =
    ap (λ (b : Bool). if b then take q (contents ++ words) else []) (eq-eqb last.block last.block refl)
    ∙ (ap (λ (l : List ℕ). take q (l ++ words)) (nil_from_length contents (omega (arith, long))) ∙ take_all q words (omega (arith, wide)))
content_last q (o ∷ owned) last contents words apart long wide =
    (let first : q ≤ length contents = omega (arith, long) in
    ap (λ (b : Bool). if b then take q (contents ++ words) else content_from q last.block (owned ++ last ∷ []) (drop q (contents ++ words)))
    (ne_eqb o.block last.block (apart o.block (or_left (o.block == o.block) (is_listed (owned_numbers owned) o.block) (eq-eqb o.block o.block refl))))
    ∙ (ap (λ (l : List ℕ). content_from q last.block (owned ++ last ∷ []) l) (drop-append-le q contents words first)
    ∙ content_last q owned last (drop q contents) words (λ b listed. apart b (or_right (o.block == b) (is_listed (owned_numbers owned) b) listed)) (length-drop q contents ∙ (let all = long in omega (arith, all))) wide))

pub last_fenced : (owned : List OwnedBlock) (last : OwnedBlock) → last.fenced ≡ true → is_fenced (owned ++ last ∷ []) last.block ≡ true
last_fenced [] last fenced = rw (eq-eqb last.block last.block refl, fenced) refl
last_fenced (x ∷ owned) last fenced = later ((x.block == last.block) && x.fenced) (last_fenced owned last fenced)
  where
    later : (first : Bool) → is_fenced (owned ++ last ∷ []) last.block ≡ true → (first || is_fenced (owned ++ last ∷ []) last.block) ≡ true
    later true rest = refl
    later false rest = rest

-- words below 2 ^ 64 behind others
pub small_behind : (contents words : List ℕ) → ((k : ℕ) → slice_index contents k < 2 ^ 64) → ((k : ℕ) → slice_index words k < 2 ^ 64) → (k : ℕ) → slice_index (contents ++ words) k < 2 ^ 64
small_behind [] words small each k = each k
small_behind (x ∷ contents) words small each zero = small 0
small_behind (x ∷ contents) words small each (suc k) = small_behind contents words (λ j. small (suc j)) each k
