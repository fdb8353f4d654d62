-- A table with one entry more.
use Rattle.std.proofs.Common.{◌≡◌, ◌<◌, ◌≤◌, ◌+◌, ◌-◌, ◌++◌, nat_le, ℕ, zero, suc, Bool, true, false, if◌then◌else◌, List, [], ◌∷◌, length, refl, sym, ◌∙◌, ap, arith, Option, Some, None}
use Rattle.std.proofs.lemmas.Bool.{cases_lt}
use Rattle.std.proofs.lemmas.List.{get_or_past}
use Rattle.std.proofs.lemmas.Option.{slice_get_past}
use Rattle.std.specs.List.{slice_get}
use Rattle.std.specs.Option.{option_or}
use Rattle.log_image.specs.Entries.{Meaning}
use Rattle.log_image.specs.Maps.{block_in, map_of}
use Rattle.pmem_words.specs.Maps.{map_at}
use Rattle.log_core.specs.Works.{with_entry_from, with_entry}

pub option_or_assoc : (first second third : Option ℕ) → option_or (option_or first second) third ≡ option_or first (option_or second third)
option_or_assoc None second third = refl
option_or_assoc (Some x) second third = refl

or_none : (found : Option ℕ) → found ≡ option_or found None
or_none None = refl
or_none (Some block) = refl

-- the map of more entries: what the later ones give, else what the earlier ones do
pub map_more : (first second : List Meaning) (virt : ℕ) → map_of (first ++ second) virt ≡ option_or (map_of second virt) (map_of first virt)
map_more [] second virt = or_none (map_of second virt)
map_more (entry ∷ first) second virt = ap (λ (found : Option ℕ). option_or found (block_in entry virt)) (map_more first second virt)
    ∙ option_or_assoc (map_of second virt) (map_of first virt) (block_in entry virt)

-- with one more
pub map_of_more : (entries : List Meaning) (meaning : Meaning) (virt : ℕ) → map_of (entries ++ meaning ∷ []) virt ≡ option_or (block_in meaning virt) (map_of entries virt)
map_of_more entries meaning virt = map_more entries (meaning ∷ []) virt

-- past its blocks an entry names nothing
pub past_entry : (meaning : Meaning) (virt : ℕ) → meaning.virt + length meaning.blocks ≤ virt → block_in meaning virt ≡ None
past_entry meaning virt past = go (nat_le meaning.virt virt)
  where
    go : (b : Bool) → (if b then slice_get meaning.blocks (virt - meaning.virt) else None) ≡ None
    go true = slice_get_past meaning.blocks (virt - meaning.virt) (omega (arith, past))
    go false = refl

pub length_with_entry : (meaning : Meaning) (map : List (Option ℕ)) → length (with_entry meaning map) ≡ length map
length_with_entry meaning map = from 0 map
  where
    from : (virt : ℕ) (map : List (Option ℕ)) → length (with_entry_from virt meaning map) ≡ length map
    from virt [] = refl
    from virt (held ∷ map) = ap suc (from (virt + 1) map)

-- what stands at a place of a list with an entry
at_entry : (first : ℕ) (meaning : Meaning) (map : List (Option ℕ)) (virt : ℕ) → virt < length map → map_at (with_entry_from first meaning map) virt ≡ option_or (block_in meaning (first + virt)) (map_at map virt)
at_entry first meaning [] virt inside = absurd (omega (arith, inside))
at_entry first meaning (held ∷ map) zero inside = ap (λ (v : ℕ). option_or (block_in meaning v) held) (let same : first ≡ first + 0 = omega arith in same)
at_entry first meaning (held ∷ map) (suc virt) inside = at_entry (first + 1) meaning map virt (omega (arith, inside))
    ∙ ap (λ (v : ℕ). option_or (block_in meaning v) (map_at map virt)) (let same : first + 1 + virt ≡ first + suc virt = omega arith in same)

-- a table of a map is, with an entry, of the map with that
pub entry_taken : (meaning : Meaning) (map : List (Option ℕ)) (held : ℕ → Option ℕ) → meaning.virt + length meaning.blocks ≤ length map → ((virt : ℕ) → map_at map virt ≡ held virt) →
    (virt : ℕ) → map_at (with_entry meaning map) virt ≡ option_or (block_in meaning virt) (held virt)
entry_taken meaning map held within same virt = Rattle.std.proofs.Common.⊎_elim
    (λ inside. at_entry 0 meaning map virt inside ∙ (ap (λ (v : ℕ). option_or (block_in meaning v) (map_at map virt)) (let zero_more : 0 + virt ≡ virt = omega arith in zero_more)
    ∙ ap (λ (found : Option ℕ). option_or (block_in meaning virt) found) (same virt)))
    (λ past. get_or_past (with_entry meaning map) virt None (let long = length_with_entry meaning map in omega (arith, past, long))
    ∙ (sym (get_or_past map virt None past) ∙ (same virt ∙ sym (ap (λ (found : Option ℕ). option_or found (held virt)) (past_entry meaning virt (omega (arith, within, past)))))))
    (cases_lt virt (length map))
