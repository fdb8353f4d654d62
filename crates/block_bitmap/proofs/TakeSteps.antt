-- What the steps of taking make of a seat.
use Rattle.std.proofs.Common.{◌≡◌, ◌<◌, ◌≤◌, ◌+◌, ◌-◌, ◌*◌, ◌/◌, ◌%◌, ◌^◌, ◌==◌, ℕ, zero, suc, Bool, true, false, List, [], ◌∷◌, ◌++◌, length, nat_lt, refl, sym, ap, ◌∙◌, arith, append-nil, append_assoc, ◌≢◌}
use Rattle.std.specs.Prelude.{take, map, replicate, bit_and, bit_or, Option, Some, None}
use Rattle.std.proofs.lemmas.List.{replicate-append-replicate, length-take}
use Rattle.std.proofs.lemmas.Bool.{lt-ltb, le-ltb, eq-eqb, ne_eqb}
use Rattle.std.specs.Int.{bit_at}
use Rattle.log_entry.specs.Geometry.{count_of, first_of}
use Rattle.log_entry.specs.declared.shapes.Geometry.{Geometry}
use Rattle.pmem_words.specs.declared.machine.Turn.TheVariants.{Go, Done}
use Rattle.log_core.specs.Works.{seat_shape}
use Rattle.block_bitmap.specs.declared.take.Take.{Take}
use Rattle.block_bitmap.specs.declared.take.Taken.TheVariants.{Taken as HasTaken, NoSpace}
use Rattle.pmem_words.specs.declared.owned.OwnedBlock.{OwnedBlock}
use Rattle.pmem_words.specs.Seats.{Seat, q_of}
use Rattle.log_entry.specs.declared.shapes.Area.{Area}
use Rattle.log_image.specs.Image.{shape_by}
use Rattle.block_bitmap.specs.TakeBits.{blocks_in, bits_of, clear_in, open_blocks}
use Rattle.block_bitmap.specs.TakeScript.{word_of, last_word, open_at, fresh, with_taken_blocks, moved_on, settled_by, settled, wanted_at, gained_at, less, with_found, seat_set, known_set, ended_or, after_at}
use Rattle.block_bitmap.specs.TakeLists.{at_most}
use Rattle.block_bitmap.proofs.TakeChosen.{wanted_again, clear_is}
use Rattle.block_bitmap.proofs.TakeLowest.{none_in, without_lowest, bit_of_lowest, lowest_in, lowest_bit, or_zero, or_assoc}

-- the seat that owns one block more
abbrev pub with_one : Area → ℕ → Seat → Seat
with_one area block s = record s {
  blocks = record s.blocks {
    owned = s.blocks.owned ++ fresh area block ∷ [];
    contents = s.blocks.contents ++ replicate (q_of s.geometry) 0;
  };
}

-- a seat with these two lists
abbrev owning : Seat → List OwnedBlock → List ℕ → Seat
owning s owned contents = record s { blocks = record s.blocks { owned = owned; contents = contents } }

-- the first block is taken before the others
pub taken_first : (area : Area) (block : ℕ) (blocks : List ℕ) (s : Seat) → with_taken_blocks area (block ∷ blocks) s ≡ with_taken_blocks area blocks (with_one area block s)
taken_first area block blocks s =
    (let q = q_of s.geometry in
    let count : (suc (length blocks)) * q ≡ q + length blocks * q = omega arith in
    ap (λ (owned : List OwnedBlock). owning s owned (s.blocks.contents ++ replicate (suc (length blocks) * q) 0)) (sym (append_assoc s.blocks.owned (fresh area block ∷ []) (map (fresh area) blocks)))
    ∙ ap (λ (n : ℕ). owning s (s.blocks.owned ++ fresh area block ∷ [] ++ map (fresh area) blocks) (s.blocks.contents ++ replicate n 0)) count
    ∙ ap (λ (more : List ℕ). owning s (s.blocks.owned ++ fresh area block ∷ [] ++ map (fresh area) blocks) (s.blocks.contents ++ more)) (sym (replicate-append-replicate q (length blocks * q) 0))
    ∙ ap (λ (contents : List ℕ). owning s (s.blocks.owned ++ fresh area block ∷ [] ++ map (fresh area) blocks) contents) (sym (append_assoc s.blocks.contents (replicate q 0) (replicate (length blocks * q) 0))))

-- no block, no change
pub none_taken : (area : Area) (s : Seat) → with_taken_blocks area [] s ≡ s
none_taken area s =
    (let none : 0 * q_of s.geometry ≡ 0 = omega arith in
    ap (λ (owned : List OwnedBlock). owning s owned (s.blocks.contents ++ replicate (0 * q_of s.geometry) 0)) (append-nil s.blocks.owned)
    ∙ ap (λ (n : ℕ). owning s s.blocks.owned (s.blocks.contents ++ replicate n 0)) none
    ∙ ap (λ (contents : List ℕ). owning s s.blocks.owned contents) (append-nil s.blocks.contents))

-- one bit more is chosen
pub one_chosen : (word least rest left : ℕ) → 0 < rest → rest < 2 ^ 64 → 0 < left →
    bit_or (bit_or least (bit_of_lowest rest)) (bits_of (take (left - 1) (blocks_in word (without_lowest rest)))) ≡ bit_or least (bits_of (take left (blocks_in word rest)))
one_chosen word least rest zero some small more = absurd (omega (arith, more))
one_chosen word least rest (suc left) some small more =
    (let chosen = bits_of (take left (blocks_in word (without_lowest rest))) in
    let fewer : suc left - 1 ≡ left = omega arith in
    ap (λ (n : ℕ). bit_or (bit_or least (bit_of_lowest rest)) (bits_of (take n (blocks_in word (without_lowest rest))))) fewer
    ∙ or_assoc least (bit_of_lowest rest) chosen
    ∙ ap (λ (bit : ℕ). bit_or least (bit_or bit chosen)) (sym (lowest_bit word rest some small))
    ∙ ap (λ (blocks : List ℕ). bit_or least (bits_of (take (suc left) blocks))) (sym (lowest_in word rest some small)))

take_none : (left : ℕ) → bits_of (take left []) ≡ 0
take_none zero = refl
take_none (suc left) = refl

-- nothing is left to choose
pub all_chosen_so : (word least left : ℕ) → bit_or least (bits_of (take left (blocks_in word 0))) ≡ least
all_chosen_so word least left = ap (λ (blocks : List ℕ). bit_or least (bits_of (take left blocks))) (none_in word) ∙ ap (bit_or least) (take_none left) ∙ or_zero least

pub none_wanted : (word least rest : ℕ) → bit_or least (bits_of (take 0 (blocks_in word rest))) ≡ least
none_wanted word least rest = or_zero least

-- where the machine goes from a word, by the bits that are left to take there
module _ (m : Take) (s : Seat) (known word bits : ℕ) (g : Geometry) (at : word ≡ word_of m s) (same : g ≡ s.geometry) (is : blocks_in word bits ≡ open_blocks (shape_by g) m.area word known) where
  open_are : open_at m s known ≡ blocks_in word bits
  open_are = sym (is ∙ ap (λ (h : Geometry). open_blocks (shape_by h) m.area word known) same ∙ ap (λ (w : ℕ). open_blocks (seat_shape s) m.area w known) at)

  pub settled_some : 0 < bits → bits < 2 ^ 64 → settled m s known ≡ record { machine = record m { known = Some known }; seat = s; turn = Go }
  settled_some some small = ap (λ (blocks : List ℕ). settled_by blocks m s known) (open_are ∙ lowest_in word bits some small)

  pub settled_none : bits ≡ 0 → settled m s known ≡ moved_on (nat_lt (word_of m s) (last_word m.area s)) m s
  settled_none none = ap (λ (blocks : List ℕ). settled_by blocks m s known) (open_are ∙ ap (blocks_in word) none ∙ none_in word)

  pub settled_next : bits ≡ 0 → word < last_word m.area s → settled m s known ≡ record { machine = record m { passed = m.passed + 1; known = None }; seat = s; turn = Go }
  settled_next none less = settled_none none ∙ ap (λ (b : Bool). moved_on b m s) (lt-ltb (word_of m s) (last_word m.area s) (omega (arith, at, less)))

  pub settled_last : bits ≡ 0 → last_word m.area s ≤ word → settled m s known ≡ record { machine = m; seat = s; turn = Done (NoSpace m.area) }
  settled_last none most = settled_none none ∙ ap (λ (b : Bool). moved_on b m s) (le-ltb (word_of m s) (last_word m.area s) (omega (arith, at, most)))

pub last_at : (area : Area) (s : Seat) (g : Geometry) (last : ℕ) → g ≡ s.geometry → last ≡ (first_of g area + count_of g area - 1) / 64 → last ≡ last_word area s
last_at area s g last same is = is ∙ ap (λ (h : Geometry). (first_of h area + count_of h area - 1) / 64) same

-- no more are taken than are wanted
pub few_gained : (m : Take) (s : Seat) (known found : ℕ) → length (gained_at m s known found) ≤ m.count
few_gained m s known found = (let gained = at_most (λ block. bit_at found (block % 64) == 0) (wanted_at m s known) in let wanted = length-take m.count (open_at m s known) in omega (arith, gained, wanted))

-- the bits that were found clear are those of the blocks that are taken
pub gained_is : (m : Take) (s : Seat) (known word bits found : ℕ) → word ≡ word_of m s → bits ≡ bits_of (wanted_at m s known) → found < 2 ^ 64 → blocks_in word (bit_and bits (2 ^ 64 - 1 - found)) ≡ gained_at m s known found
gained_is m s known word bits found at is small =
    clear_is word bits found small
    ∙ ap (clear_in found) (ap (λ (w : ℕ). blocks_in w bits) at ∙ ap (blocks_in (word_of m s)) is ∙ wanted_again (seat_shape s) m.area (word_of m s) known m.count)

-- what setting bits makes of the seat
pub set_is : (m : Take) (s : Seat) (known word bits found : ℕ) → word ≡ word_of m s → bits ≡ bits_of (wanted_at m s known) → found < 2 ^ 64 →
    with_found word (bit_or found bits) (with_taken_blocks m.area (blocks_in word (bit_and bits (2 ^ 64 - 1 - found))) s) ≡ seat_set m s known found
set_is m s known word bits found at is small =
    ap (λ (gained : List ℕ). with_found word (bit_or found bits) (with_taken_blocks m.area gained s)) (gained_is m s known word bits found at is small)
    ∙ ap (λ (w : ℕ). with_found w (bit_or found bits) (with_taken_blocks m.area (gained_at m s known found) s)) at
    ∙ ap (λ (b : ℕ). with_found (word_of m s) (bit_or found b) (with_taken_blocks m.area (gained_at m s known found) s)) is

module _ (m : Take) (s : Seat) (known found count : ℕ) (at : m.known ≡ Some known) (is : count ≡ length (gained_at m s known found)) where
  pub after_all : m.count - count ≡ 0 → after_at m.known m s found ≡ record { machine = less m count; seat = seat_set m s known found; turn = Done HasTaken }
  after_all none =
      ap (λ (k : Option ℕ). after_at k m s found) at
      ∙ ap (λ (b : Bool). ended_or b (less m (length (gained_at m s known found))) (seat_set m s known found) (known_set m s known found)) (eq-eqb (m.count - length (gained_at m s known found)) 0 (omega (arith, is, none)))
      ∙ ap (λ (n : ℕ). record { machine = less m n; seat = seat_set m s known found; turn = Done HasTaken }) (sym is)

  pub after_some : m.count - count ≢ 0 → after_at m.known m s found ≡ settled (less m count) (seat_set m s known found) (known_set m s known found)
  after_some some =
      ap (λ (k : Option ℕ). after_at k m s found) at
      ∙ ap (λ (b : Bool). ended_or b (less m (length (gained_at m s known found))) (seat_set m s known found) (known_set m s known found)) (ne_eqb (m.count - length (gained_at m s known found)) 0 (λ none. some (omega (arith, is, none))))
      ∙ ap (λ (n : ℕ). settled (less m n) (seat_set m s known found) (known_set m s known found)) (sym is)

-- the seat stays as it is while the machine goes on
settled_seat_by : (blocks : List ℕ) (n : Take) (v : Seat) (k : ℕ) → (settled_by blocks n v k).seat ≡ v
settled_seat_by [] n v k = moved (nat_lt (word_of n v) (last_word n.area v))
  where
    moved : (b : Bool) → (moved_on b n v).seat ≡ v
    moved true = refl
    moved false = refl
settled_seat_by (block ∷ blocks) n v k = refl

pub settled_seat : (n : Take) (v : Seat) (k : ℕ) → (settled n v k).seat ≡ v
settled_seat n v k = settled_seat_by (open_at n v k) n v k

module _ (m : Take) (s t u : Seat) (known word bits found count : ℕ) (at : word ≡ word_of m s) (is : bits ≡ bits_of (wanted_at m s known)) (small : found < 2 ^ 64) (has : m.known ≡ Some known)
    (taken : t ≡ with_taken_blocks m.area (blocks_in word (bit_and bits (2 ^ 64 - 1 - found))) s) (told : u ≡ with_found word (bit_or found bits) t) (counted : count ≡ length (blocks_in word (bit_and bits (2 ^ 64 - 1 - found)))) where
  seat_is : u ≡ seat_set m s known found
  seat_is = told ∙ ap (with_found word (bit_or found bits)) taken ∙ set_is m s known word bits found at is small

  count_is : count ≡ length (gained_at m s known found)
  count_is = counted ∙ ap length (gained_is m s known word bits found at is small)

  -- the machine has taken all, or goes on
  pub told_all : m.count - count ≡ 0 → record { machine = less m count; seat = u; turn = Done HasTaken } ≡ after_at m.known m s found
  told_all none = ap (λ (x : Seat). record { machine = less m count; seat = x; turn = Done HasTaken }) seat_is ∙ sym (after_all m s known found count has count_is none)

  pub told_some : m.count - count ≢ 0 → settled (less m count) u (bit_or known (bit_or found bits)) ≡ after_at m.known m s found
  told_some some = ap (λ (x : Seat). settled (less m count) x (bit_or known (bit_or found bits))) seat_is
      ∙ ap (λ (b : ℕ). settled (less m count) (seat_set m s known found) (bit_or known (bit_or found b))) is
      ∙ sym (after_some m s known found count has count_is some)
