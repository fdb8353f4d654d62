-- A kept word that is found by its place is one of the list.
use Rattle.std.proofs.Common.{◌≡◌, ◌≢◌, ◌⊎◌, inl, inr, ◌==◌, ◌&&◌, ℕ, Bool, true, false, if◌then◌else◌, List, [], ◌∷◌, refl, ◌∙◌, ap, subst, Option, Some, None}
use Rattle.std.specs.List.{AllByRecursion}
use Rattle.std.specs.Option.{option_or}
use Rattle.std.proofs.lemmas.Bool.{eqb-true}
use Rattle.pmem_words.specs.declared.keeps.KeptWord.{KeptWord}
use Rattle.log_core.specs.Works.{kept_at, word_or_zero}

-- a word that is not 0 was found
pub some_word : (found : Option ℕ) (word : ℕ) → word_or_zero found ≡ word → word ≢ 0 → found ≡ Some word
some_word None word is some = absurd (some (Rattle.std.proofs.Common.sym is))
some_word (Some other) word is some = ap (λ (w : ℕ). Some w) is

-- what holds of each kept word holds of the one at a place
pub kept_holds : (P : KeptWord → Type 0) (kept : List KeptWord) (block slot word : ℕ) → AllByRecursion P kept → kept_at kept block slot ≡ Some word → P (record { block = block; slot = slot; word = word })
kept_holds P [] block slot word all is = cc
kept_holds P (k ∷ later) block slot word all is = go (kept_at later block slot) (λ found. kept_holds P later block slot word all.1 found) is
  where
    here : (b e : Bool) → (k.block == block) ≡ b → (k.slot == slot) ≡ e → (if b && e then Some k.word else None) ≡ Some word → P (record { block = block; slot = slot; word = word })
    here true true same_block same_slot is =
        subst (λ (number : ℕ). P (record { block = number; slot = slot; word = word })) (eqb-true k.block block same_block)
        (subst (λ (number : ℕ). P (record { block = k.block; slot = number; word = word })) (eqb-true k.slot slot same_slot)
        (subst (λ (number : ℕ). P (record { block = k.block; slot = k.slot; word = number })) (ap (λ (o : Option ℕ). word_or_zero o) is) all.0))
    here true false same_block other is = cc
    here false e other same_slot is = cc

    go : (found : Option ℕ) → (found ≡ Some word → P (record { block = block; slot = slot; word = word })) → option_or found (if k.block == block && k.slot == slot then Some k.word else None) ≡ Some word → P (record { block = block; slot = slot; word = word })
    go (Some other) rest is = rest is
    go None rest is = here (k.block == block) (k.slot == slot) refl refl is

-- a word that is not 0 was kept as it is now
pub present_word : {found now : ℕ} {Listed : Type 0} → found ≢ 0 → (found ≡ now) ⊎ ((found ≡ 0) × Listed) → found ≡ now
present_word some (inl same) = same
present_word some (inr none) = absurd (some none.0)
