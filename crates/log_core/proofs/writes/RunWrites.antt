-- When a write of whole blocks into one run of owned blocks may be committed, with a direct entry.
use Rattle.std.proofs.Common.{◌≡◌, ◌≢◌, ◌<◌, ◌≤◌, ◌+◌, ◌-◌, ◌*◌, ◌^◌, nat_le, nat_lt, ℕ, zero, suc, Bool, true, false, if◌then◌else◌, List, [], ◌∷◌, length, slice_index, refl, sym, ap, ◌∙◌, subst, arith}
use Rattle.std.specs.List.{range_with_len}
use Rattle.std.proofs.Math.Nat.{le_of_mul-le-mul_right}
use Rattle.std.proofs.lemmas.Bool.{leb-true, ltb-false, and_parts}
use Rattle.std.proofs.lemmas.List.FromFn.{length-range_with_len, get_or-range_with_len}
use Rattle.log_entry.specs.Shape.{longest_of, limit_of}
use Rattle.log_entry.specs.Legal.{last_position, touched_blocks}
use Rattle.log_entry.specs.declared.calls.Op.TheVariants.{Pwrite as PwriteOp}
use Rattle.log_entry.specs.WordBytes.{word_bytes}
use Rattle.log_entry.specs.Words.{entry_word}
use Rattle.log_entry.specs.declared.entries.Entry.TheVariants.{Direct}
use Rattle.log_image.specs.Image.{is_in_data}
use Rattle.log_image.specs.Entries.{Meaning, names}
use Rattle.log_image.specs.Chains.{is_listed, all_different}
use Rattle.log_image.proofs.NameLemmas.{range_different}
use Rattle.pmem_words.specs.declared.keeps.Task.TheVariants.{Pwrite}
use Rattle.pmem_words.specs.Seats.{Seat}
use Rattle.log_core.specs.Entries.{place_in}
use Rattle.log_core.specs.Views.{Ghost, view_of}
use Rattle.log_core.specs.Origin.{Origin}
use Rattle.log_core.specs.Cores.{Core}
use Rattle.log_core.specs.Works.{seat_shape, words_of, is_quiet}
use Rattle.log_core.specs.Steps.{content_of, new_meaning}
use Rattle.log_core.specs.May.{is_fenced, IsAtTail, MayExchangeSlot}
use Rattle.log_core.specs.Invariant.{Invariant}
use Rattle.log_core.specs.Knows.{Knows}
use Rattle.log_core.proofs.writes.OwnAreas.{owns_whole, owned_in_data}
use Rattle.log_core.proofs.writes.PlacedBytes.{HasBytes, blocks_fenced, blocks_hold}
use Rattle.log_core.proofs.writes.EntryWords.{direct_small, direct_meaning_by, direct_form}
use Rattle.log_core.proofs.writes.WholeWrites.{IsWholeWrite, whole_touched, some_block_bytes, may_exchange_whole}

-- a view at its tail's slot runs a `pwrite` of whole blocks that no position refuses
pub record IsWriting (s : Seat) (word virt count : ℕ) : Type 0 where
  pub at_tail : IsAtTail s
  pub slot : word ≡ place_in (seat_shape s) s.walk.tail_block s.walk.tail_slot
  pub inside : s.walk.tail_slot < words_of s
  pub below_last : s.walk.position ≢ last_position
  pub job : s.calling.job ≡ Pwrite (virt * s.geometry.block_bytes)
  pub long : length s.calling.bytes ≡ count * s.geometry.block_bytes
  pub some : 0 < count
  pub few : count ≤ longest_of s.geometry.block_bytes
  pub within : virt + count ≤ 65536

-- whole blocks that are not refused on their arguments alone are some, no more than a write may touch, and within the file
pub not_quiet : (size virt count : ℕ) (bytes : List ℕ) → 0 < size → length bytes ≡ count * size → is_quiet size (PwriteOp (virt * size) bytes) ≡ false →
    (0 < count) × (count ≤ longest_of size) × (virt + count ≤ 65536)
not_quiet size virt count [] big long loud = cc
not_quiet size virt zero (byte ∷ bytes) big long loud = absurd (omega (arith, long))
not_quiet size virt (suc count) (byte ∷ bytes) big long loud = (
  omega arith,
  (let few = ltb-false (longest_of size) (touched_blocks size (virt * size) (length (byte ∷ bytes))) parts.0 in omega (arith, few, touched)),
  le_of_mul-le-mul_right (let low = ltb-false (limit_of size) (virt * size + length (byte ∷ bytes)) parts.1 in
      let all : (virt + suc count) * size ≡ virt * size + suc count * size = omega arith in omega (arith, low, all, long)) big,
)
  where
    touched : touched_blocks size (virt * size) (length (byte ∷ bytes)) ≡ suc count
    touched = ap (λ (n : ℕ). touched_blocks size (virt * size) n) long ∙ whole_touched size virt (suc count) big (omega arith)

    neither : (a b : Bool) → (if a then true else b) ≡ false → (a ≡ false) × (b ≡ false)
    neither true b e = cc
    neither false b e = (refl, e)

    parts : (nat_lt (longest_of size) (touched_blocks size (virt * size) (length (byte ∷ bytes))) ≡ false) × (nat_lt (limit_of size) (virt * size + length (byte ∷ bytes)) ≡ false)
    parts = neither (nat_lt (longest_of size) (touched_blocks size (virt * size) (length (byte ∷ bytes)))) (nat_lt (limit_of size) (virt * size + length (byte ∷ bytes))) loud

-- as many blocks from one on are owned and hold its bytes, one after another
pub record IsRunWrite (s : Seat) (word virt block count : ℕ) : Type 0 where
  pub writing : IsWriting s word virt count
  pub each : (place : ℕ) → place < count → HasBytes s (block + place) (place * s.geometry.block_bytes)

module _ (o : Origin) (c : Core) (n : ℕ) (s : Seat) (g : Ghost) (pin began : ℕ) (inv : Invariant o c) (unspent : (view_of c.views n).parts ≢ []) (f : Knows o c n s g pin began) where
  -- a block that holds bytes is of the data area
  pub has_in_data : (block from : ℕ) → HasBytes s block from → is_in_data (seat_shape s) block ≡ true
  has_in_data block from has = subst (λ (b : ℕ). is_in_data (seat_shape s) b ≡ true) has.block_is (owned_in_data o c n s g pin began inv unspent f has.place has.inside has.area)

  pub in_data_small : (block : ℕ) → is_in_data (seat_shape s) block ≡ true → block < 2 ^ 16
  in_data_small block is = (let low = leb-true block s.geometry.data_blocks (and_parts (nat_le 1 block) (nat_le block s.geometry.data_blocks) is).1 in
      let few = s.geometry.few_blocks in omega (arith, low, few))

  module _ (word virt block count : ℕ) (w : IsRunWrite s word virt block count) where
    small_virt : virt < 2 ^ 16
    small_virt = (let within = w.writing.within in let some = w.writing.some in omega (arith, within, some))

    first_has : HasBytes s block (0 * s.geometry.block_bytes)
    first_has = subst (λ (b : ℕ). HasBytes s b (0 * s.geometry.block_bytes)) (let same : block + 0 ≡ block = omega arith in same) (w.each 0 w.writing.some)

    small_block : block < 2 ^ 16
    small_block = in_data_small block (has_in_data block (0 * s.geometry.block_bytes) first_has)

    short : count ≤ 256
    short = (let few = w.writing.few in omega (arith, few))

    no_leftover : 0 < 4096
    no_leftover = omega arith

    abbrev pub run_entry : ℕ
    run_entry = entry_word (Direct virt block count 0)

    abbrev m : Meaning
    m = record { holder = []; virt = virt; blocks = range_with_len block count; leftover = 0 }

    means : new_meaning s run_entry ≡ m
    means = direct_meaning_by virt block count 0 small_virt small_block w.writing.some short no_leftover (λ b. content_of s b)

    run_long : length (range_with_len block count) ≡ count
    run_long = length-range_with_len block count

    in_data : (k : ℕ) → block ≤ k → k < block + count → is_in_data (seat_shape s) k ≡ true
    in_data k from below = subst (λ (b : ℕ). is_in_data (seat_shape s) b ≡ true) (let same : block + (k - block) ≡ k = omega (arith, from) in same)
        (has_in_data (block + (k - block)) ((k - block) * s.geometry.block_bytes) (w.each (k - block) (omega (arith, from, below))))

    each : (place : ℕ) → place < length (range_with_len block count) → HasBytes s (slice_index (range_with_len block count) place) (place * s.geometry.block_bytes)
    each place low = subst (λ (b : ℕ). HasBytes s b (place * s.geometry.block_bytes)) (sym (get_or-range_with_len block count place 0 inside)) (w.each place inside)
      where
        inside : place < count
        inside = omega (arith, low, run_long)

    pub run_is_whole : IsWholeWrite s word run_entry
    run_is_whole = record {
      at_tail = w.writing.at_tail;
      slot = w.writing.slot;
      inside = w.writing.inside;
      below_last = w.writing.below_last;
      small = direct_small virt block count 0 small_virt small_block w.writing.some short no_leftover;
      form = direct_form virt block count 0 small_virt small_block w.writing.some short no_leftover (λ b. content_of s b) (seat_shape s) w.writing.few w.writing.within in_data (some_block_bytes s.geometry.block_bytes s.geometry.block_allowed);
      offset = virt * s.geometry.block_bytes;
      job = w.writing.job;
      starts = ap (λ (told : Meaning). told.virt * s.geometry.block_bytes) (sym means);
      long = w.writing.long ∙ (ap (λ (k : ℕ). k * s.geometry.block_bytes) (sym run_long) ∙ ap (λ (told : Meaning). length told.blocks * s.geometry.block_bytes) (sym means));
      no_leftover = ap (λ (told : Meaning). told.leftover) means;
      owned = subst (λ (told : Meaning). (b : ℕ) → is_listed (names told) b ≡ true → is_fenced s.blocks.owned b ≡ true) (sym means)
          (blocks_fenced s (owns_whole o c n s g pin began inv unspent f) (range_with_len block count) each);
      once = subst (λ (told : Meaning). all_different (names told) ≡ true) (sym means) (range_different block count);
      holds = subst (λ (told : Meaning). (place at : ℕ) → place < length told.blocks → at < s.geometry.block_bytes →
          slice_index (word_bytes (content_of s (slice_index told.blocks place))) at ≡ slice_index s.calling.bytes (place * s.geometry.block_bytes + at)) (sym means)
          (blocks_hold s (owns_whole o c n s g pin began inv unspent f) (range_with_len block count) each);
    }

    -- so the word of its direct entry may be put into the tail's slot
    pub may_exchange_run : MayExchangeSlot o c.history s word run_entry
    may_exchange_run = may_exchange_whole o c n s g pin began inv unspent f word run_entry run_is_whole
