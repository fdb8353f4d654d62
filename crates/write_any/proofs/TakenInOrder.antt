-- A seat that owns no block takes blocks in the order of their numbers.
use Rattle.std.proofs.Common.{◌≡◌, ℕ, ◌+◌, ◌-◌, ◌*◌, ◌%◌, ◌<◌, ◌≤◌, ◌==◌, ◌⊎◌, inl, inr, nat_lt, Bool, true, false, List, [], ◌∷◌, ◌++◌, length, take, sym, ap, subst, ◌∙◌, arith, Option, Some, None}
use Rattle.std.specs.Prelude.{bit_or}
use Rattle.std.specs.Int.{bit_at}
use Rattle.std.proofs.lemmas.Bool.{eqb-true, and_parts, and_from, or_cases, false_from_ne_true}
use Rattle.std.proofs.lemmas.Nat.Bits.{bit_at_or}
use Rattle.log_entry.specs.declared.shapes.Area.{Area}
use Rattle.log_image.specs.Image.{Shape}
use Rattle.log_image.specs.Chains.{is_listed}
use Rattle.pmem_words.specs.Seats.{Seat}
use Rattle.pmem_words.specs.declared.owned.OwnedBlock.{OwnedBlock}
use Rattle.pmem_words.specs.declared.machine.Turn.TheVariants.{Go}
use Rattle.log_core.specs.Views.{Ghost}
use Rattle.log_core.specs.Origin.{Origin}
use Rattle.log_core.specs.Works.{seat_shape}
use Rattle.log_core.specs.Needs.{is_in_area, owned_numbers}
use Rattle.log_core.specs.Within.{no_record, IsFound}
use Rattle.log_core.proofs.BlockLists.{has_filter}
use Rattle.log_core.proofs.machines.Framing.{Frames, serves_with}
use Rattle.log_core.proofs.machines.MachineLaws.{Law}
use Rattle.block_bitmap.specs.declared.take.Take.{Take}
use Rattle.block_bitmap.specs.declared.take.Taken.{Taken}
use Rattle.block_bitmap.specs.TakeBits.{blocks_of_word, bits_of, area_in, open_blocks}
use Rattle.block_bitmap.specs.TakeScript.{take_of, take_script, word_of, last_word, open_at, wanted_at, gained_at, with_found, seat_set, known_set, less, moved_on, settled_by, settled, ended_or, after_at}
use Rattle.block_bitmap.specs.TakeLists.{clear_narrow}
use Rattle.block_bitmap.proofs.TakeChosen.{wanted_again}
use Rattle.block_bitmap.proofs.TakeEffects.{has_front}
use Rattle.block_bitmap.proofs.TakeGrowth.{numbers_more}
use Rattle.block_bitmap.proofs.TakeMarks.{has_both}
use Rattle.write_any.proofs.PartLaws.{taking_law}
use Rattle.write_any.proofs.RisingNumbers.{Rises, range_bounds, range_rises, filter_rises, front_rises, above_front, join_rises}

-- the open blocks of a word rise, and are the word's; each is still open where less was known
module _ (image : Shape) (area : Area) (word : ℕ) where
  open_rises : (known : ℕ) → Rises (open_blocks image area word known)
  unfolding blocks_of_word
  open_rises known = filter_rises (λ (block : ℕ). bit_at known (block % 64) == 0) (area_in image area word) (filter_rises (λ (block : ℕ). is_in_area image area block) (blocks_of_word word) (range_rises (word * 64) 64))

  open_parts : (known block : ℕ) → is_listed (open_blocks image area word known) block ≡ true → ((bit_at known (block % 64) == 0) ≡ true) × (is_listed (area_in image area word) block ≡ true)
  open_parts known block listed = and_parts (bit_at known (block % 64) == 0) (is_listed (area_in image area word) block) (sym (has_filter (λ (x : ℕ). bit_at known (x % 64) == 0) (area_in image area word) block) ∙ listed)

  open_again : (known block : ℕ) → (bit_at known (block % 64) == 0) ≡ true → is_listed (area_in image area word) block ≡ true → is_listed (open_blocks image area word known) block ≡ true
  open_again known block clear listed = has_filter (λ (x : ℕ). bit_at known (x % 64) == 0) (area_in image area word) block ∙ and_from (bit_at known (block % 64) == 0) (is_listed (area_in image area word) block) clear listed

  open_bounds : (known block : ℕ) → is_listed (open_blocks image area word known) block ≡ true → (word * 64 ≤ block) × (block < (word + 1) * 64)
  unfolding blocks_of_word
  open_bounds known block listed =
      (let inside = (and_parts (is_in_area image area block) (is_listed (blocks_of_word word) block) (sym (has_filter (λ (x : ℕ). is_in_area image area x) (blocks_of_word word) block) ∙ (open_parts known block listed).1)).1 in
      let bounds = range_bounds (word * 64) 64 block inside in
      (bounds.0, (let high = bounds.1 in omega (arith, high))))

  open_narrow : (known more block : ℕ) → is_listed (open_blocks image area word (bit_or known more)) block ≡ true → is_listed (open_blocks image area word known) block ≡ true
  open_narrow known more block listed = (let parts = open_parts (bit_or known more) block listed in open_again known block (clear_narrow known more (block % 64) parts.0) parts.1)

  -- a chosen block has its bit among theirs
  chosen_bit : (known count block : ℕ) → is_listed (take count (open_blocks image area word known)) block ≡ true → bit_at (bits_of (take count (open_blocks image area word known))) (block % 64) ≡ 1
  chosen_bit known count block listed =
      (let bits : ℕ = bits_of (take count (open_blocks image area word known)) in
      eqb-true (bit_at bits (block % 64)) 1
      (and_parts (bit_at bits (block % 64) == 1) (is_listed (blocks_of_word word) block)
      (sym (has_filter (λ (x : ℕ). bit_at bits (x % 64) == 1) (blocks_of_word word) block) ∙ (ap (λ (l : List ℕ). is_listed l block) (wanted_again image area word known count) ∙ listed))).0)

  -- so what is open once these are known is behind them
  not_chosen : (known count found block : ℕ) → is_listed (open_blocks image area word (bit_or known (bit_or found (bits_of (take count (open_blocks image area word known)))))) block ≡ true →
      is_listed (take count (open_blocks image area word known)) block ≡ false
  not_chosen known count found block listed = false_from_ne_true (is_listed (take count (open_blocks image area word known)) block)
      (λ chosen. (let bits : ℕ = bits_of (take count (open_blocks image area word known)) in
      let clear = eqb-true (bit_at (bit_or known (bit_or found bits)) (block % 64)) 0 (open_parts (bit_or known (bit_or found bits)) block listed).0 in
      let one = chosen_bit known count block chosen in
      omega (arith, clear, one, bit_at_or known (bit_or found bits) (block % 64), bit_at_or found bits (block % 64))))

-- below the word at hand, or below each of its blocks that are open
abbrev pub IsBelow : Option ℕ → Take → Seat → ℕ → Type 0
IsBelow None m s block = block < word_of m s * 64
IsBelow (Some known) m s block = (block < (word_of m s + 1) * 64) × ((other : ℕ) → is_listed (open_at m s known) other ≡ true → block < other)

-- the owned blocks rise, and are below those that may still be taken
pub record IsInOrder (m : Take) (s : Seat) : Type 0 where
  pub rises : Rises (owned_numbers s.blocks.owned)
  pub below : (block : ℕ) → is_listed (owned_numbers s.blocks.owned) block ≡ true → IsBelow m.known m s block

pub record GoesInOrder (first : Seat) (m : Take) (s : Seat) : Type 0 where
  pub order : first.blocks.owned ≡ [] → IsInOrder m s

pub record HasRisen (first s : Seat) : Type 0 where
  pub rises : first.blocks.owned ≡ [] → Rises (owned_numbers s.blocks.owned)

-- on from a word, by what is open there
module _ (m : Take) (s : Seat) (known : ℕ) (rises : Rises (owned_numbers s.blocks.owned)) (low : (block : ℕ) → is_listed (owned_numbers s.blocks.owned) block ≡ true → block < (word_of m s + 1) * 64)
    (below : (block : ℕ) → is_listed (owned_numbers s.blocks.owned) block ≡ true → (other : ℕ) → is_listed (open_at m s known) other ≡ true → block < other) where
  moved_goes : (b : Bool) → (moved_on b m s).turn ≡ Go → IsInOrder (moved_on b m s).machine (moved_on b m s).seat
  moved_goes true go = record { rises = rises; below = λ block listed. (let less = low block listed in omega (arith, less)) }
  moved_goes false go = cc

  moved_rises : (b : Bool) → Rises (owned_numbers (moved_on b m s).seat.blocks.owned)
  moved_rises true = rises
  moved_rises false = rises

  settled_goes : (blocks : List ℕ) → (settled_by blocks m s known).turn ≡ Go → IsInOrder (settled_by blocks m s known).machine (settled_by blocks m s known).seat
  settled_goes [] go = moved_goes (nat_lt (word_of m s) (last_word m.area s)) go
  settled_goes (block ∷ blocks) go = record { rises = rises; below = λ block listed. (low block listed, below block listed) }

  settled_rises : (blocks : List ℕ) → Rises (owned_numbers (settled_by blocks m s known).seat.blocks.owned)
  settled_rises [] = moved_rises (nat_lt (word_of m s) (last_word m.area s))
  settled_rises (block ∷ blocks) = rises

module _ (m : Take) (s : Seat) (f : ℕ) where
  -- a word was loaded
  module _ (rises : Rises (owned_numbers s.blocks.owned)) (under : (block : ℕ) → is_listed (owned_numbers s.blocks.owned) block ≡ true → block < word_of m s * 64) where
    abbrev loaded : Seat
    loaded = with_found (word_of m s) f s

    load_low : (block : ℕ) → is_listed (owned_numbers s.blocks.owned) block ≡ true → block < (word_of m s + 1) * 64
    load_low block listed = (let less = under block listed in omega (arith, less))

    load_below : (block : ℕ) → is_listed (owned_numbers s.blocks.owned) block ≡ true → (other : ℕ) → is_listed (open_at m loaded f) other ≡ true → block < other
    load_below block listed other there = (let less = under block listed in let from = (open_bounds (seat_shape s) m.area (word_of m s) f other there).0 in omega (arith, less, from))

    load_goes : (settled m loaded f).turn ≡ Go → IsInOrder (settled m loaded f).machine (settled m loaded f).seat
    load_goes go = settled_goes m loaded f rises load_low load_below (open_at m loaded f) go

    load_rises : Rises (owned_numbers (settled m loaded f).seat.blocks.owned)
    load_rises = settled_rises m loaded f rises load_low load_below (open_at m loaded f)

  -- bits of wanted blocks were set
  module _ (known : ℕ) (rises : Rises (owned_numbers s.blocks.owned))
      (under : (block : ℕ) → is_listed (owned_numbers s.blocks.owned) block ≡ true → (block < (word_of m s + 1) * 64) × ((other : ℕ) → is_listed (open_at m s known) other ≡ true → block < other)) where
    abbrev gained : List ℕ
    gained = gained_at m s known f

    abbrev set : Seat
    set = seat_set m s known f

    abbrev left : Take
    left = less m (length (gained_at m s known f))

    abbrev now : ℕ
    now = known_set m s known f

    gained_wanted : (block : ℕ) → is_listed gained block ≡ true → is_listed (wanted_at m s known) block ≡ true
    gained_wanted block listed = (and_parts (bit_at f (block % 64) == 0) (is_listed (wanted_at m s known) block) (sym (has_filter (λ (x : ℕ). bit_at f (x % 64) == 0) (wanted_at m s known) block) ∙ listed)).1

    gained_open : (block : ℕ) → is_listed gained block ≡ true → is_listed (open_at m s known) block ≡ true
    gained_open block listed = has_front m.count (open_at m s known) block (gained_wanted block listed)

    gained_rises : Rises gained
    gained_rises = filter_rises (λ (block : ℕ). bit_at f (block % 64) == 0) (wanted_at m s known) (front_rises m.count (open_at m s known) (open_rises (seat_shape s) m.area (word_of m s) known))

    numbers_are : owned_numbers set.blocks.owned ≡ owned_numbers s.blocks.owned ++ gained
    numbers_are = numbers_more m.area s.blocks.owned gained

    set_rises : Rises (owned_numbers set.blocks.owned)
    set_rises = subst Rises (sym numbers_are) (join_rises (owned_numbers s.blocks.owned) gained rises gained_rises (λ x y owned listed. (under x owned).1 y (gained_open y listed)))

    either : (block : ℕ) → is_listed (owned_numbers set.blocks.owned) block ≡ true → (is_listed (owned_numbers s.blocks.owned) block ≡ true) ⊎ (is_listed gained block ≡ true)
    either block listed = or_cases (is_listed (owned_numbers s.blocks.owned) block) (is_listed gained block) (sym (ap (λ (l : List ℕ). is_listed l block) numbers_are ∙ has_both (owned_numbers s.blocks.owned) gained block) ∙ listed)

    set_low : (block : ℕ) → is_listed (owned_numbers set.blocks.owned) block ≡ true → block < (word_of m s + 1) * 64
    set_low block listed = by (either block listed)
      where
        by : (is_listed (owned_numbers s.blocks.owned) block ≡ true) ⊎ (is_listed gained block ≡ true) → block < (word_of m s + 1) * 64
        by (inl owned) = (under block owned).0
        by (inr new) = (open_bounds (seat_shape s) m.area (word_of m s) known block (gained_open block new)).1

    set_below : (block : ℕ) → is_listed (owned_numbers set.blocks.owned) block ≡ true → (other : ℕ) → is_listed (open_at left set now) other ≡ true → block < other
    set_below block listed other there = by (either block listed)
      where
        still : is_listed (open_at m s known) other ≡ true
        still = open_narrow (seat_shape s) m.area (word_of m s) known (bit_or f (bits_of (wanted_at m s known))) other there

        by : (is_listed (owned_numbers s.blocks.owned) block ≡ true) ⊎ (is_listed gained block ≡ true) → block < other
        by (inl owned) = (under block owned).1 other still
        by (inr new) = above_front m.count (open_at m s known) (open_rises (seat_shape s) m.area (word_of m s) known) block other (gained_wanted block new) still
            (not_chosen (seat_shape s) m.area (word_of m s) known m.count f other there)

    set_goes : (b : Bool) → (ended_or b left set now).turn ≡ Go → IsInOrder (ended_or b left set now).machine (ended_or b left set now).seat
    set_goes true go = cc
    set_goes false go = settled_goes left set now set_rises set_low set_below (open_at left set now) go

    set_ends : (b : Bool) → Rises (owned_numbers (ended_or b left set now).seat.blocks.owned)
    set_ends true = set_rises
    set_ends false = settled_rises left set now set_rises set_low set_below (open_at left set now)

-- each step of taking keeps the order
order_goes : (known : Option ℕ) (m : Take) (s : Seat) (f : ℕ) → Rises (owned_numbers s.blocks.owned) → ((block : ℕ) → is_listed (owned_numbers s.blocks.owned) block ≡ true → IsBelow known m s block) →
    (after_at known m s f).turn ≡ Go → IsInOrder (after_at known m s f).machine (after_at known m s f).seat
order_goes None m s f rises below go = load_goes m s f rises below go
order_goes (Some known) m s f rises below go = set_goes m s f known rises below (m.count - length (gained_at m s known f) == 0) go

order_ends : (known : Option ℕ) (m : Take) (s : Seat) (f : ℕ) → Rises (owned_numbers s.blocks.owned) → ((block : ℕ) → is_listed (owned_numbers s.blocks.owned) block ≡ true → IsBelow known m s block) →
    Rises (owned_numbers (after_at known m s f).seat.blocks.owned)
order_ends None m s f rises below = load_rises m s f rises below
order_ends (Some known) m s f rises below = set_ends m s f known rises below (m.count - length (gained_at m s known f) == 0)

pub order_keeps : (o : Origin) (seat : ℕ) (first : Seat) (P : Take → Seat → Ghost → Type 0) (R : Taken → Seat → Ghost → Type 0) (m : Take) (s : Seat) (g : Ghost) (f : ℕ) → P m s g → GoesInOrder first m s → IsFound o seat s g (take_script.asks m s) f →
    Frames o seat take_script no_record P R (λ m s g. GoesInOrder first m s) (λ out s g. HasRisen first s) m s g f
order_keeps o seat first P R m s g f stands goes found = record {
  goes = λ go. record { order = λ none. (let order = goes.order none in order_goes m.known m s f order.rises order.below go) };
  ends = λ out done. record { rises = λ none. (let order = goes.order none in order_ends m.known m s f order.rises order.below) };
}

pub order_begins : (area : Area) (count : ℕ) (s : Seat) → GoesInOrder s (take_of area count) s
order_begins area count s = record {
  order = λ none. record {
    rises = subst (λ (l : List OwnedBlock). Rises (owned_numbers l)) (sym none) tt;
    below = λ block listed. (let never : false ≡ true = sym (ap (λ (l : List OwnedBlock). is_listed (owned_numbers l) block) none) ∙ listed in cc);
  };
}

-- the law of taking, with the order of the blocks
abbrev pub ordered_law : (area : Area) (count : ℕ) → Law take_script (take_of area count)
ordered_law area count = record {
  may = (taking_law area count).may;
  stands = λ o seat s0 g0 m s g. (taking_law area count).stands o seat s0 g0 m s g × GoesInOrder s0 m s;
  left = λ o seat s0 g0 out s g. (taking_law area count).left o seat s0 g0 out s g × HasRisen s0 s;
  begins = λ o seat s g may. ((taking_law area count).begins o seat s g may, order_begins area count s);
  serves = λ o seat s0 g0 may. serves_with o seat take_script no_record ((taking_law area count).stands o seat s0 g0) ((taking_law area count).left o seat s0 g0) (λ m s g. GoesInOrder s0 m s) (λ out s g. HasRisen s0 s)
      (order_keeps o seat s0 ((taking_law area count).stands o seat s0 g0) ((taking_law area count).left o seat s0 g0)) ((taking_law area count).serves o seat s0 g0 may);
  lowers = (taking_law area count).lowers;
}
