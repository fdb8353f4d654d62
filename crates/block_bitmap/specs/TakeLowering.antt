-- Each answer after which taking goes on lowers the measure.
use Rattle.std.specs.Prelude.{ℕ, zero, suc, ◌≡◌, ◌+◌, ◌-◌, ◌*◌, ◌%◌, ◌<◌, ◌≤◌, ◌==◌, nat_lt, Bool, true, false, List, [], ◌∷◌, length, take, bit_or, Option, Some, None, refl}
use Rattle.std.specs.Int.{bit_at}
use Rattle.std.proofs.Common.{arith, ap}
use Rattle.std.proofs.lemmas.Bool.{ltb-true, eqb-false, ne_eqb}
use Rattle.std.proofs.lemmas.Nat.Bits.{bit_at_or}
use Rattle.pmem_words.specs.Seats.{Seat}
use Rattle.pmem_words.specs.Scripts.{Lowers}
use Rattle.pmem_words.specs.declared.machine.Turn.TheVariants.{Go}
use Rattle.log_core.specs.Works.{seat_shape}
use Rattle.block_bitmap.specs.declared.take.Take.{Take}
use Rattle.block_bitmap.specs.TakeBits.{blocks_of_word, bits_of, clear_in, area_in}
use Rattle.block_bitmap.specs.TakeLists.{no_more, fewer, at_most, word_blocks, clear_narrow, first_bit}
use Rattle.block_bitmap.specs.TakeScript.{word_of, last_word, open_at, gained_at, less, with_found, seat_set, known_set, moved_on, settled_by, ended_or, after_at, measure_at, take_script}

moved_lowers : (b : Bool) (m : Take) (s : Seat) (bound : ℕ) → nat_lt (word_of m s) (last_word m.area s) ≡ b → (moved_on b m s).turn ≡ Go → (last_word m.area s - word_of m s) * 66 ≤ bound →
    measure_at (moved_on b m s).machine.known (moved_on b m s).machine (moved_on b m s).seat < bound
moved_lowers true m s bound e go most = (let before = ltb-true (word_of m s) (last_word m.area s) e in omega (arith, before, most))
moved_lowers false m s bound e go most = cc

settled_lowers : (blocks : List ℕ) (m : Take) (s : Seat) (known bound : ℕ) → open_at m s known ≡ blocks → (settled_by blocks m s known).turn ≡ Go → (last_word m.area s - word_of m s) * 66 ≤ bound →
    (0 < length blocks → (last_word m.area s - word_of m s) * 66 + length blocks < bound) →
    measure_at (settled_by blocks m s known).machine.known (settled_by blocks m s known).machine (settled_by blocks m s known).seat < bound
settled_lowers [] m s known bound is go most some = moved_lowers (nat_lt (word_of m s) (last_word m.area s)) m s bound refl go most
settled_lowers (block ∷ blocks) m s known bound is go most some = (let below = some (omega arith) in let count = ap length is in omega (arith, below, count))

-- where blocks are asked for, fewer of the word are not known to be taken afterwards
fewer_by : (count : ℕ) (free blocks : List ℕ) (known found : ℕ) → 0 < count → clear_in known blocks ≡ free →
    0 < length (clear_in (bit_or known (bit_or found (bits_of (take count free)))) blocks) → length (clear_in (bit_or known (bit_or found (bits_of (take count free)))) blocks) < length free
fewer_by count [] blocks known found some is more =
    (let less = no_more (λ block. bit_at known (block % 64) == 0) (λ block. bit_at (bit_or known (bit_or found (bits_of (take count [])))) (block % 64) == 0) (λ block. clear_narrow known (bit_or found (bits_of (take count []))) (block % 64)) blocks in
    let none = ap length is in absurd (omega (arith, less, none, more)))
fewer_by zero (block ∷ free) blocks known found some is more = absurd (omega (arith, some))
fewer_by (suc count) (block ∷ free) blocks known found some is more =
    (let bits = bits_of (block ∷ take count free) in
    let refused : (bit_at (bit_or known (bit_or found bits)) (block % 64) == 0) ≡ false =
    ne_eqb (bit_at (bit_or known (bit_or found bits)) (block % 64)) 0 (λ none. omega (arith, none, bit_at_or known (bit_or found bits) (block % 64), bit_at_or found bits (block % 64), first_bit block (take count free))) in
    let less = fewer (λ other. bit_at known (other % 64) == 0) (λ other. bit_at (bit_or known (bit_or found bits)) (other % 64) == 0) (λ other. clear_narrow known (bit_or found bits) (other % 64)) block refused free blocks is in
    let count_is = ap length is in omega (arith, less, count_is))

ended_lowers : (b : Bool) (m : Take) (s : Seat) (known bound : ℕ) → (ended_or b m s known).turn ≡ Go → (last_word m.area s - word_of m s) * 66 ≤ bound →
    (b ≡ false → 0 < length (open_at m s known) → (last_word m.area s - word_of m s) * 66 + length (open_at m s known) < bound) →
    measure_at (ended_or b m s known).machine.known (ended_or b m s known).machine (ended_or b m s known).seat < bound
ended_lowers true m s known bound go most some = cc
ended_lowers false m s known bound go most some = settled_lowers (open_at m s known) m s known bound refl go most (some refl)

lowers_at : (known : Option ℕ) (m : Take) (s : Seat) (a : ℕ) → (after_at known m s a).turn ≡ Go → measure_at (after_at known m s a).machine.known (after_at known m s a).machine (after_at known m s a).seat < measure_at known m s
lowers_at None m s a go = settled_lowers (open_at m s a) m (with_found (word_of m s) a s) a (measure_at None m s) refl go (omega arith)
    (λ some. (let few = at_most (λ block. bit_at a (block % 64) == 0) (area_in (seat_shape s) m.area (word_of m s)) in let most = at_most (λ block. Rattle.log_core.specs.Needs.is_in_area (seat_shape s) m.area block) (blocks_of_word (word_of m s)) in let all = word_blocks (word_of m s) in omega (arith, few, most, all)))
lowers_at (Some known) m s a go =
    ended_lowers (m.count - length (gained_at m s known a) == 0) (less m (length (gained_at m s known a))) (seat_set m s known a) (known_set m s known a) (measure_at (Some known) m s) go (omega arith)
    (λ left some. (let none = eqb-false (m.count - length (gained_at m s known a)) 0 left in let below = fewer_by m.count (open_at m s known) (area_in (seat_shape s) m.area (word_of m s)) known a (omega (arith, none)) refl some in omega (arith, below)))

pub take_lowers : Lowers take_script
take_lowers m s a h go = lowers_at m.known m s a go
