-- The core's steps on the bitmap, as taking makes them.
use Rattle.std.proofs.Common.{◌≡◌, ◌<◌, ◌+◌, ◌*◌, ◌/◌, ◌%◌, ◌==◌, ◌&&◌, ◌||◌, nat_lt, nat_le, if◌then◌else◌, ℕ, zero, suc, Bool, true, false, List, [], ◌∷◌, ◌++◌, length, map, take, slice_index, slice_set, refl, sym, ap, ◌∙◌, arith}
use Rattle.std.specs.Prelude.{filter, replicate, bit_or}
use Rattle.std.specs.Int.{bit_at}
use Rattle.std.specs.List.{range_with_len}
use Rattle.std.proofs.lemmas.Bool.{eq-eqb, eqb-true, eqb-false, ne_eqb, and_parts, and_left, le-leb, lt-leb, lt-ltb, cases_eq, or_cases, false_from_ne_true, leb-true, ltb-true}
use Rattle.log_entry.specs.declared.shapes.Area.{Area}
use Rattle.log_entry.specs.declared.shapes.Area.TheVariants.{Data, Log, Spare}
use Rattle.log_image.specs.Image.{Shape, total, is_in_data}
use Rattle.pmem_words.specs.Owned.{is_among}
use Rattle.pmem_words.specs.declared.owned.OwnedBlock.{OwnedBlock}
use Rattle.pmem_words.specs.Seats.{Seat}
use Rattle.log_image.specs.Chains.{is_listed}
use Rattle.log_core.specs.Views.{MarkedWord}
use Rattle.log_core.specs.Works.{seat_shape, words_of}
use Rattle.log_core.specs.Needs.{is_in_area}
use Rattle.log_core.specs.Steps.{SetsBits, gained, area_of, taken_block, effect}
use Rattle.log_core.proofs.BlockLists.{has_filter}
use Rattle.block_bitmap.specs.declared.take.Take.{Take}
use Rattle.block_bitmap.specs.TakeBits.{blocks_of_word, blocks_in, bits_of, clear_in, area_in, open_blocks}
use Rattle.block_bitmap.specs.TakeScript.{word_of, open_at, wanted_at, gained_at, seat_set, fresh}
use Rattle.block_bitmap.proofs.TakeRanges.{agree, filter_both}
use Rattle.block_bitmap.proofs.TakeChosen.{wanted_again}

-- the blocks among the bits of a word are the word's
among_is : (word bits : ℕ) → filter (λ (block : ℕ). is_among word bits block) (range_with_len (word * 64) 64) ≡ blocks_in word bits
unfolding blocks_of_word
among_is word bits = agree (λ (block : ℕ). is_among word bits block) (λ (block : ℕ). bit_at bits (block % 64) == 1) (word * 64) 64
    (λ block low high. ap (λ (b : Bool). b && (bit_at bits (block % 64) == 1)) (eq-eqb (block / 64) word (omega (arith, low, high))))

gained_in : (word bits found : ℕ) → gained word bits found ≡ clear_in found (blocks_in word bits)
gained_in word bits found = sym (filter_both (λ (block : ℕ). bit_at found (block % 64) == 0) (λ (block : ℕ). is_among word bits block) (range_with_len (word * 64) 64)) ∙ ap (clear_in found) (among_is word bits)

-- a block of a front is of the list
pub has_front : (n : ℕ) (blocks : List ℕ) (block : ℕ) → is_listed (take n blocks) block ≡ true → is_listed blocks block ≡ true
has_front zero blocks block some = cc
has_front (suc n) [] block some = some
has_front (suc n) (first ∷ blocks) block some = by (first == block) some (has_front n blocks block)
  where
    by : (same : Bool) → (same || is_listed (take n blocks) block) ≡ true → (is_listed (take n blocks) block ≡ true → is_listed blocks block ≡ true) → (same || is_listed blocks block) ≡ true
    by true some rest = refl
    by false some rest = rest some

-- blocks that are open are of the area
pub open_in_area : (image : Shape) (area : Area) (word known block : ℕ) → is_listed (open_blocks image area word known) block ≡ true → is_in_area image area block ≡ true
open_in_area image area word known block some =
    (let outer = and_parts (bit_at known (block % 64) == 0) (is_listed (area_in image area word) block) (sym (has_filter (λ (x : ℕ). bit_at known (x % 64) == 0) (area_in image area word) block) ∙ some) in
    (and_parts (is_in_area image area block) (is_listed (blocks_of_word word) block) (sym (has_filter (λ (x : ℕ). is_in_area image area x) (blocks_of_word word) block) ∙ outer.1)).0)

-- the area of a block of an area
area_is : (image : Shape) (area : Area) (block : ℕ) → is_in_area image area block ≡ true → area_of image block ≡ area
area_is image Data block is = ap (λ (b : Bool). if b then Data else if nat_le block (image.data_blocks + image.log_blocks) then Log else Spare) is
area_is image Log block is =
    (let both = and_parts (nat_lt image.data_blocks block) (nat_le block (image.data_blocks + image.log_blocks)) is in
    ap (λ (b : Bool). if b then Data else if nat_le block (image.data_blocks + image.log_blocks) then Log else Spare) {x = is_in_data image block} {y = false} (not_data (ltb-true image.data_blocks block both.0))
    ∙ ap (λ (b : Bool). if b then Log else Spare) both.1)
  where
    not_data : image.data_blocks < block → is_in_data image block ≡ false
    not_data above = Rattle.std.proofs.lemmas.Bool.and_right (nat_le 1 block) (nat_le block image.data_blocks) (lt-leb block image.data_blocks above)
area_is image Spare block is =
    (let both = and_parts (nat_lt (image.data_blocks + image.log_blocks) block) (nat_lt block (total image)) is in
    let above = ltb-true (image.data_blocks + image.log_blocks) block both.0 in
    ap (λ (b : Bool). if b then Data else if nat_le block (image.data_blocks + image.log_blocks) then Log else Spare) {x = is_in_data image block} {y = false} (Rattle.std.proofs.lemmas.Bool.and_right (nat_le 1 block) (nat_le block image.data_blocks) (lt-leb block image.data_blocks (omega (arith, above))))
    ∙ ap (λ (b : Bool). if b then Log else Spare) (lt-leb block (image.data_blocks + image.log_blocks) above))

-- so each block that is taken has the machine's area
fresh_is : (image : Shape) (area : Area) (blocks : List ℕ) → ((block : ℕ) → is_listed blocks block ≡ true → is_in_area image area block ≡ true) → map (taken_block image) blocks ≡ map (fresh area) blocks
fresh_is image area [] each = refl
fresh_is image area (block ∷ blocks) each =
    ap (λ (a : Area). record { block = block; area = a; filled = false; fenced = false } ∷ map (taken_block image) blocks) (area_is image area block (each block (Rattle.std.proofs.lemmas.Bool.or_left (block == block) (is_listed blocks block) (eq-eqb block block refl))))
    ∙ ap (λ (rest : List OwnedBlock). fresh area block ∷ rest) (fresh_is image area blocks (λ other some. each other (Rattle.std.proofs.lemmas.Bool.or_right (block == other) (is_listed blocks other) some)))

module _ (m : Take) (s : Seat) (known : ℕ) where
  -- each wanted block is of the area
  pub wanted_in_area : (block : ℕ) → is_listed (wanted_at m s known) block ≡ true → is_in_area (seat_shape s) m.area block ≡ true
  wanted_in_area block some = open_in_area (seat_shape s) m.area (word_of m s) known block (has_front m.count (open_at m s known) block some)

  pub gained_in_area : (found block : ℕ) → is_listed (gained_at m s known found) block ≡ true → is_in_area (seat_shape s) m.area block ≡ true
  gained_in_area found block some = wanted_in_area block (and_parts (bit_at found (block % 64) == 0) (is_listed (wanted_at m s known) block) (sym (has_filter (λ (x : ℕ). bit_at found (x % 64) == 0) (wanted_at m s known) block) ∙ some)).1

  -- the blocks of the bits that are set
  pub wanted_among : filter (λ (block : ℕ). is_among (word_of m s) (bits_of (wanted_at m s known)) block) (range_with_len (word_of m s * 64) 64) ≡ wanted_at m s known
  wanted_among = among_is (word_of m s) (bits_of (wanted_at m s known)) ∙ wanted_again (seat_shape s) m.area (word_of m s) known m.count

  gained_are : (found : ℕ) → gained (word_of m s) (bits_of (wanted_at m s known)) found ≡ gained_at m s known found
  gained_are found = gained_in (word_of m s) (bits_of (wanted_at m s known)) found ∙ ap (clear_in found) (wanted_again (seat_shape s) m.area (word_of m s) known m.count)

  -- setting bits makes of the seat what the machine makes of it
  pub effect_is : (marks : List MarkedWord) (found : ℕ) → effect marks s (SetsBits (word_of m s) (bits_of (wanted_at m s known))) found ≡ seat_set m s known found
  effect_is marks found =
      ap (λ (blocks : List ℕ). record s {
        blocks = record (s.blocks) {
          owned = s.blocks.owned ++ map (taken_block (seat_shape s)) blocks;
          contents = s.blocks.contents ++ replicate (length blocks * words_of s) 0;
          found = slice_set s.blocks.found (word_of m s) (bit_or (slice_index s.blocks.found (word_of m s)) (bit_or found (bits_of (wanted_at m s known))));
        };
      }) (gained_are found)
      ∙ ap (λ (owned : List OwnedBlock). record s {
        blocks = record (s.blocks) {
          owned = s.blocks.owned ++ owned;
          contents = s.blocks.contents ++ replicate (length (gained_at m s known found) * words_of s) 0;
          found = slice_set s.blocks.found (word_of m s) (bit_or (slice_index s.blocks.found (word_of m s)) (bit_or found (bits_of (wanted_at m s known))));
        };
      }) (fresh_is (seat_shape s) m.area (gained_at m s known found) (gained_in_area found))
