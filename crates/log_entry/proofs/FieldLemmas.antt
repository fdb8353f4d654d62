-- Fields of a word, read by a shift and a mask and set by a shift, and a word that is a sum of fields.
use Rattle.std.proofs.Common.{◌≡◌, ℕ, ◌+◌, ◌-◌, ◌*◌, ◌/◌, ◌%◌, ◌^◌, ◌<◌, ◌≤◌, bit_and, ap, ◌∙◌, arith}
use Rattle.std.proofs.lemmas.Nat.{one_shl, and_mask, shl_whole, shr_high, mod_low}

-- a shift down and a mask read a field
pub shifted_and_masked : (word low width : ℕ) → width < 64 → bit_and (word / 2 ^ low) (1 * 2 ^ width % 18446744073709551616 - 1) ≡ word / 2 ^ low % 2 ^ width
shifted_and_masked word low width narrow = ap (λ (mask : ℕ). bit_and (word / 2 ^ low) (mask - 1)) (one_shl width 64 narrow) ∙ and_mask (word / 2 ^ low) width

-- a shift up loses no bit of a number that fits above it
pub shifted_whole : (value low width : ℕ) → value < 2 ^ width → low + width ≤ 64 → value * 2 ^ low % 18446744073709551616 ≡ value * 2 ^ low
shifted_whole value low width fits within = shl_whole value width low 64 fits (omega (arith, within))

-- a field comes back from a sum of what lies above it, itself, and what lies below it
pub field_of_sum : (high value lower low width : ℕ) → lower < 2 ^ low → value < 2 ^ width → ((high * 2 ^ width + value) * 2 ^ low + lower) / 2 ^ low % 2 ^ width ≡ value
field_of_sum high value lower low width below fits = ap (λ (rest : ℕ). rest % 2 ^ width) (shr_high (high * 2 ^ width + value) low lower below) ∙ mod_low high width value fits
