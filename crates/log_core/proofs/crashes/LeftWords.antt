-- The words that a crash may leave of one cell.
use Rattle.std.proofs.Common.{◌≡◌, ◌<◌, ◌^◌, ◌==◌, ◌⊎◌, inl, inr, ℕ, true, List, [], ◌∷◌, length, filter, sym, ◌∙◌, ap, subst, arith, slice_index}
use Rattle.std.proofs.lemmas.List.{get_or_append_left}
use Rattle.std.specs.List.{AllByRecursion}
use Rattle.persistence.specs.Memory.{Memory, Replaced, Cell, cell, values_of}
use Rattle.persistence.specs.Survivors.{value_at, IsPossible, Survives}
use Rattle.log_core.specs.Origin.{Origin}
use Rattle.log_core.specs.Sizes.{MemoryFits}
use Rattle.log_core.specs.Certain.{IsCertain, IsGrowing}
use Rattle.log_core.proofs.Each.{each_weaker, each_at, each_filter, each_map, each_place}
use Rattle.log_core.proofs.Heads.{last_value}
use Rattle.log_core.proofs.clauses.OneView.{same_or_other}

-- a value before the present one
value_before : (c : Cell) (k : ℕ) → k < length c.past → value_at c k ≡ slice_index c.past k
value_before c k inside = get_or_append_left c.past (c.present ∷ []) 0 k inside

-- the present one, or one before it
pub which : {P : Type 0} (c : Cell) (word : ℕ) (left : IsPossible c word) → (word ≡ c.present → P) → (left.index < length c.past → word ≡ slice_index c.past left.index → P) → P
which c word left now before = same_or_other left.index (length c.past)
    (λ last. now (sym left.same ∙ (ap (λ (k : ℕ). value_at c k) last ∙ last_value c)))
    (λ other. (let inside = left.inside in let early : left.index < length c.past = omega (arith, inside, other) in
    before early (sym left.same ∙ value_before c left.index early)))

-- of a certain word this value alone
pub certain_left : (c : Cell) (value word : ℕ) → IsCertain c value → IsPossible c word → word ≡ value
certain_left c value word certain left = which c word left
    (λ now. now ∙ certain.present)
    (λ early before. before ∙ certain.before left.index left.above early)

-- of a slot or a link this value, or 0
pub growing_left : (c : Cell) (value word : ℕ) → IsGrowing c value → IsPossible c word → (word ≡ value) ⊎ (word ≡ 0)
growing_left c value word growing left = which c word left
    (λ now. inl (now ∙ growing.present))
    (λ early before. inr (before ∙ growing.before left.index left.above early))

-- each word has 64 bits
module _ (o : Origin) (memory : Memory) (views : ℕ) (fits : MemoryFits o memory views) (words : List ℕ) (left : Survives memory words) where
  past_small : (word : ℕ) → AllByRecursion (λ (value : ℕ). value < 2 ^ 64) (values_of memory.past word)
  past_small word = each_map (λ (value : ℕ). value < 2 ^ 64) (λ (r : Replaced). r.value) (filter (λ (r : Replaced). r.word == word) memory.past)
      (each_filter (λ (r : Replaced). r.value < 2 ^ 64) (λ (r : Replaced). r.word == word) memory.past
      (each_weaker (λ (r : Replaced). r.value < 2 ^ 64) (λ (r : Replaced). (r.word == word) ≡ true → r.value < 2 ^ 64) memory.past (λ r small here. small) fits.small_past))

  pub words_small : AllByRecursion (λ (word : ℕ). word < 2 ^ 64) words
  words_small = each_place (λ (word : ℕ). word < 2 ^ 64) words 0 (λ word inside. which (cell memory word) (slice_index words word) (left.each word inside)
      (λ now. subst (λ (value : ℕ). value < 2 ^ 64) (sym now) (each_at (λ (value : ℕ). value < 2 ^ 64) memory.now.words 0 word (let long = left.same_length in omega (arith, inside, long)) fits.small))
      (λ early before. subst (λ (value : ℕ). value < 2 ^ 64) (sym before) (each_at (λ (value : ℕ). value < 2 ^ 64) (values_of memory.past word) 0 (left.each word inside).index early (past_small word))))
