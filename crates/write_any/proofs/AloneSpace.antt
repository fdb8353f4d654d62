-- How many blocks are clear where a write begins that alone makes steps, by what it has taken and found taken.
use Rattle.std.proofs.Common.{◌≡◌, ◌≢◌, inl, inr, ℕ, ◌+◌, ◌-◌, ◌<◌, ◌≤◌, ◌/◌, ◌%◌, ◌==◌, ◌||◌, not, Bool, true, false, List, [], ◌∷◌, length, slice_index, refl, sym, ap, subst, ◌∙◌, arith}
use Rattle.std.specs.Int.{bit_at}
use Rattle.std.specs.List.{range_with_len}
use Rattle.std.proofs.lemmas.Bool.{eqb-true, eq-eqb, and_parts, and_from, or_left, false_from_ne_true}
use Rattle.std.proofs.lemmas.List.{length-map}
use Rattle.log_entry.specs.Geometry.{count_of, first_of}
use Rattle.log_entry.specs.declared.shapes.Area.{Area}
use Rattle.log_entry.specs.declared.shapes.Area.TheVariants.{Data, Log}
use Rattle.log_image.specs.Image.{Shape, shape_by, total}
use Rattle.log_image.specs.Chains.{all_different, is_listed}
use Rattle.log_image.specs.Taken.{bit_of}
use Rattle.log_image.proofs.NameLemmas.{range_different}
use Rattle.pmem_words.specs.Owned.{owned_at}
use Rattle.pmem_words.specs.declared.owned.OwnedBlock.{OwnedBlock}
use Rattle.pmem_words.specs.Seats.{Seat}
use Rattle.log_core.specs.Origin.{Origin, shape, Owner, OwnedBy}
use Rattle.log_core.specs.Cores.{Core}
use Rattle.log_core.specs.Needs.{is_in_area, is_one_run, is_found_taken, owned_numbers, owned_in}
use Rattle.log_core.specs.Owners.{SeatOwns}
use Rattle.log_core.specs.Works.{seat_shape}
use Rattle.log_core.specs.Invariant.{Invariant}
use Rattle.log_core.proofs.BitmapFacts.{area_inside}
use Rattle.log_core.proofs.BlockLists.{has_filter, different_filter, in_range}
use Rattle.log_core.proofs.clauses.Others.{owned_listed}
use Rattle.block_bitmap.specs.TakeAlone.{free_blocks}
use Rattle.block_bitmap.proofs.TakeWords.{area_from, area_at}
use Rattle.write_any.specs.Composing.{block_count, are_one_run}
use Rattle.write_any.proofs.AloneBits.{IsTakenSince, KnowsBits, clear_free, free_clear}
use Rattle.write_any.proofs.AloneStanding.{NoData, NoLog, HasApart}
use Rattle.write_any.proofs.ComposedBlocks.{one_run_each}
use Rattle.write_any.proofs.RisingNumbers.{range_bounds, each_in}
use Rattle.write_any.proofs.SameNumbers.{AreIn, no_more_in, all_in, same_run, one_run_from}

-- blocks that are one run in the order of their list are one run
pub one_run_numbers : (owned : List OwnedBlock) → 0 < length owned → are_one_run owned ≡ true → is_one_run (owned_numbers owned) ≡ true
one_run_numbers owned some one = one_run_from (owned_numbers owned) (owned_at owned 0).block (owned_listed owned 0 some) each
  where
    many : length (owned_numbers owned) ≡ length owned
    many = length-map owned (λ (o : OwnedBlock). o.block)

    each : (y : ℕ) → (owned_at owned 0).block ≤ y → y < (owned_at owned 0).block + length (owned_numbers owned) → is_listed (owned_numbers owned) y ≡ true
    each y low high =
        (let inside : y - (owned_at owned 0).block < length owned = (let same = many in omega (arith, low, high, same)) in
        let here = one_run_each owned one (y - (owned_at owned 0).block) inside in
        subst (λ (n : ℕ). is_listed (owned_numbers owned) n ≡ true) (omega (arith, here, low)) (owned_listed owned (y - (owned_at owned 0).block) inside))

-- a list without numbers, and one that has one
none_in : (l : List ℕ) → ((x : ℕ) → is_listed l x ≡ true → ⊥) → length l ≡ 0
none_in [] never = refl
none_in (x ∷ l) never = absurd (never x (or_left (x == x) (is_listed l x) (eq-eqb x x refl)))

some_in : (l : List ℕ) (x : ℕ) → is_listed l x ≡ true → 0 < length l
some_in [] x listed = cc
some_in (y ∷ l) x listed = omega arith

module _ (offset : ℕ) (o : Origin) (seat number : ℕ) (s0 : Seat) (c0 : Core) (inv0 : Invariant o c0) (shape_is : shape_by s0.geometry ≡ shape o) (none_mine : (block : ℕ) → c0.owner block ≢ OwnedBy seat) where
  abbrev clear : Area → List ℕ
  clear area = free_blocks s0.geometry area c0.memory.now.taken

  abbrev is_clear : ℕ → Bool
  is_clear block = bit_of c0.memory.now.taken block == 0

  clear_once : (area : Area) → all_different (clear area) ≡ true
  clear_once area = different_filter is_clear (range_with_len (first_of s0.geometry area) (count_of s0.geometry area)) (range_different (first_of s0.geometry area) (count_of s0.geometry area))

  inside_image : (area : Area) (block : ℕ) → is_in_area (shape_by s0.geometry) area block ≡ true → block < total (shape o)
  inside_image area block is = subst (λ (image : Shape). block < total image) shape_is (area_inside (shape_by s0.geometry) area block is).1

  module _ (t : Seat) (owner : ℕ → Owner) (bits : KnowsBits o seat c0.owner t.blocks.found owner) (owns : SeatOwns owner seat t) (same : seat_shape t ≡ shape_by s0.geometry) where
    abbrev numbers : List ℕ
    numbers = owned_numbers t.blocks.owned

    -- a block that the seat owns was clear
    owned_clear : (area : Area) (block : ℕ) → is_listed numbers block ≡ true → is_in_area (shape_by s0.geometry) area block ≡ true → is_listed (clear area) block ≡ true
    owned_clear area block listed is = by (bits.owners block)
      where
        by : IsTakenSince seat (c0.owner block) (owner block) → is_listed (clear area) block ≡ true
        by (inl stays) = absurd (none_mine block (sym stays ∙ owns.owned.listed block listed))
        by (inr was) = (let from = area_from s0.geometry area block is in
            has_filter is_clear (range_with_len (first_of s0.geometry area) (count_of s0.geometry area)) block
            ∙ and_from (is_clear block) (is_listed (range_with_len (first_of s0.geometry area) (count_of s0.geometry area)) block)
            (eq-eqb (bit_of c0.memory.now.taken block) 0 (free_clear o c0.memory.now.taken c0.owner inv0.owners.bits block (inside_image area block is) was.1))
            (in_range (first_of s0.geometry area) (count_of s0.geometry area) block from.0 from.1))

    -- where it has found each of the area's blocks taken, it owns each that was clear
    is_in : (area : Area) (block : ℕ) → is_listed (clear area) block ≡ true → (is_in_area (shape_by s0.geometry) area block ≡ true) × (bit_of c0.memory.now.taken block ≡ 0)
    is_in area block listed =
        (let parts = and_parts (is_clear block) (is_listed (range_with_len (first_of s0.geometry area) (count_of s0.geometry area)) block)
        (sym (has_filter is_clear (range_with_len (first_of s0.geometry area) (count_of s0.geometry area)) block) ∙ listed) in
        let bounds = range_bounds (first_of s0.geometry area) (count_of s0.geometry area) block parts.1 in
        (area_at s0.geometry area block bounds.0 bounds.1, eqb-true (bit_of c0.memory.now.taken block) 0 parts.0))

    found_set : (area : Area) (block : ℕ) → is_found_taken t area ≡ true → is_in_area (shape_by s0.geometry) area block ≡ true → bit_of t.blocks.found block ≡ 1
    found_set area block all is = by (is_in_area (seat_shape t) area block) (ap (λ (image : Shape). is_in_area image area block) same ∙ is)
        (each_in (λ (b : ℕ). not (is_in_area (seat_shape t) area b) || (bit_at (slice_index t.blocks.found (b / 64)) (b % 64) == 1)) 1 (total (seat_shape t) - 1) all block
        (let low = (area_inside (shape_by s0.geometry) area block is).0 in omega (arith, low))
        (let high : block < total (seat_shape t) = subst (λ (image : Shape). block < total image) (sym same) (area_inside (shape_by s0.geometry) area block is).1 in omega (arith, high)))
      where
        by : (b : Bool) → b ≡ true → (not b || (bit_of t.blocks.found block == 1)) ≡ true → bit_of t.blocks.found block ≡ 1
        by true e set = eqb-true (bit_of t.blocks.found block) 1 set
        by false e set = cc

    clear_owned : (area : Area) → is_found_taken t area ≡ true → AreIn (clear area) numbers
    clear_owned area all block listed = by (bits.owners block)
      where
        there : (is_in_area (shape_by s0.geometry) area block ≡ true) × (bit_of c0.memory.now.taken block ≡ 0)
        there = is_in area block listed

        by : IsTakenSince seat (c0.owner block) (owner block) → is_listed numbers block ≡ true
        by (inl stays) = absurd (bits.taken block (inside_image area block there.0) (found_set area block all there.0) (stays ∙ clear_free o c0.memory.now.taken c0.owner inv0.owners.bits block there.1))
        by (inr was) = owns.owned.all block was.0

    -- the seat owns data blocks, none twice
    module _ (in_data : (block : ℕ) → is_listed numbers block ≡ true → is_in_area (shape_by s0.geometry) Data block ≡ true) (once : all_different numbers ≡ true) where
      were_clear : AreIn numbers (clear Data)
      were_clear block listed = owned_clear Data block listed (in_data block listed)

      few : length numbers ≤ length (clear Data)
      few = no_more_in numbers (clear Data) once were_clear

      -- too few are clear
      pub few_clear : length numbers < block_count s0 → is_found_taken t Data ≡ true → NoData offset o seat number s0 c0
      few_clear less all = inl (let most = no_more_in (clear Data) numbers (clear_once Data) (clear_owned Data all) in omega (arith, most, less))

      -- enough are, and they are one run
      pub one_run_clear : length numbers ≡ block_count s0 → is_one_run numbers ≡ true → NoData offset o seat number s0 c0 → ⊥
      one_run_clear many one (inl less) = (let most = few in omega (arith, most, less, many))
      one_run_clear many one (inr (as_many, apart)) =
          (let run = same_run numbers (clear Data) were_clear (many ∙ sym as_many) one in let both : true ≡ false = sym run ∙ apart in cc)

      -- or they are not, where no more are clear
      pub apart_clear : length numbers ≡ block_count s0 → is_one_run numbers ≡ false → HasApart offset o seat number s0 c0
      apart_clear many apart = record {
        least = (let most = few in omega (arith, most, many));
        apart = λ as_many. false_from_ne_true (is_one_run (clear Data)) (λ one.
            (let run = same_run (clear Data) numbers (all_in numbers (clear Data) once were_clear (omega (arith, as_many, many))) (as_many ∙ sym many) one in let both : true ≡ false = sym run ∙ apart in cc));
      }

      -- one more is clear
      pub more_clear : block_count s0 < length numbers → NoData offset o seat number s0 c0 → ⊥
      more_clear more (inl less) = (let most = few in omega (arith, most, less, more))
      more_clear more (inr (as_many, apart)) = (let most = few in omega (arith, most, as_many, more))

      -- or none
      pub no_more_clear : length numbers ≡ block_count s0 → is_found_taken t Data ≡ true → HasApart offset o seat number s0 c0 → NoData offset o seat number s0 c0
      no_more_clear many all x = (let most = no_more_in (clear Data) numbers (clear_once Data) (clear_owned Data all) in
          let least = x.least in
          let as_many : length (clear Data) ≡ block_count s0 = omega (arith, most, least, many) in
          inr (as_many, x.apart as_many))

    -- a log block was clear, or none
    pub log_clear : (block : ℕ) → is_listed (owned_in t Log) block ≡ true → NoLog offset o seat number s0 c0 → ⊥
    log_clear block listed none =
        (let parts = and_parts (is_in_area (seat_shape t) Log block) (is_listed numbers block) (sym (has_filter (λ (b : ℕ). is_in_area (seat_shape t) Log b) numbers block) ∙ listed) in
        let some = some_in (clear Log) block (owned_clear Log block parts.1 (ap (λ (image : Shape). is_in_area image Log block) (sym same) ∙ parts.0)) in
        let no = none.none_clear in omega (arith, some, no))

    pub no_log_clear : owned_in t Log ≡ [] → is_found_taken t Log ≡ true → length (clear Log) ≡ 0
    no_log_clear none all = none_in (clear Log) (λ block listed.
        (let there = is_in Log block listed in
        let mine = has_filter (λ (b : ℕ). is_in_area (seat_shape t) Log b) numbers block
        ∙ and_from (is_in_area (seat_shape t) Log block) (is_listed numbers block) (ap (λ (image : Shape). is_in_area image Log block) same ∙ there.0) (clear_owned Log all block listed) in
        let never : false ≡ true = sym (ap (λ (l : List ℕ). is_listed l block) none) ∙ mine in cc))
