-- When a write of whole blocks may be committed: by the seat's state alone.
use Rattle.std.proofs.Common.{◌≡◌, ◌≢◌, ◌<◌, ◌≤◌, ◌+◌, ◌-◌, ◌*◌, ◌/◌, ◌^◌, ◌==◌, ◌||◌, ◌⊎◌, inl, inr, nat_lt, max, ℕ, Bool, true, false, List, [], length, slice_index, if◌then◌else◌, Some, None, refl, ap, ◌∙◌, arith, mul-le-mul_right}
use Rattle.std.proofs.lemmas.Bool.{le-ltb, ne_eqb, eqb-true}
use Rattle.std.proofs.lemmas.Nat.{div-mul-add}
use Rattle.log_entry.specs.Shape.{is_block_bytes, longest_of, limit_of}
use Rattle.log_entry.specs.WordBytes.{word_bytes}
use Rattle.log_entry.specs.Legal.{last_position, touched_blocks, write_refusal}
use Rattle.log_entry.specs.declared.calls.Op.TheVariants.{Pwrite as PwriteOp}
use Rattle.log_entry.specs.declared.calls.WriteRefusal.TheVariants.{TooLong, TooLarge, PositionLimit}
use Rattle.log_image.specs.Entries.{Meaning, names}
use Rattle.log_image.specs.Chains.{is_listed, all_different}
use Rattle.pmem_words.specs.declared.keeps.Task.TheVariants.{Pwrite}
use Rattle.pmem_words.specs.Seats.{Seat}
use Rattle.log_core.specs.Entries.{place_in}
use Rattle.log_core.specs.Views.{Ghost, view_of, op_of, op_in}
use Rattle.log_core.specs.Origin.{Origin}
use Rattle.log_core.specs.Cores.{Core}
use Rattle.log_core.specs.Works.{seat_shape, words_of}
use Rattle.log_core.specs.Steps.{content_of, new_meaning}
use Rattle.log_core.specs.May.{is_fenced, is_log_entry_by, IsAtTail, MayCommit, MayExchangeSlot}
use Rattle.log_core.specs.Invariant.{Invariant}
use Rattle.log_core.specs.Knows.{Knows}
use Rattle.log_core.proofs.FileLimits.{fits_inside}
use Rattle.log_core.proofs.PinnedChains.{place}
use Rattle.log_core.proofs.writes.LaidWrites.{Within, IsLaidWrite, may_commit_laid, may_exchange_laid}
use Rattle.log_core.proofs.writes.GivenBlocks.{Fitting, fitting, form_fits}

-- a `pwrite` of whole blocks that no position refuses, and an entry for the tail's slot. It begins with its call's first virtual block, and
-- its last one is full. The blocks that it names are owned and fenced, none twice, and hold the call's bytes, one block after another
pub record IsWholeWrite (s : Seat) (word entry : ℕ) : Type 0 where
  pub at_tail : IsAtTail s
  pub slot : word ≡ place_in (seat_shape s) s.walk.tail_block s.walk.tail_slot
  pub inside : s.walk.tail_slot < words_of s
  pub below_last : s.walk.position ≢ last_position
  pub small : entry < 2 ^ 64
  pub form : is_log_entry_by (λ block. content_of s block) (seat_shape s) entry ≡ true
  pub offset : ℕ
  pub job : s.calling.job ≡ Pwrite offset
  pub starts : offset ≡ (new_meaning s entry).virt * s.geometry.block_bytes
  pub long : length s.calling.bytes ≡ length (new_meaning s entry).blocks * s.geometry.block_bytes
  pub no_leftover : (new_meaning s entry).leftover ≡ 0
  pub owned : (block : ℕ) → is_listed (names (new_meaning s entry)) block ≡ true → is_fenced s.blocks.owned block ≡ true
  pub once : all_different (names (new_meaning s entry)) ≡ true
  pub holds : (place at : ℕ) → place < length (new_meaning s entry).blocks → at < s.geometry.block_bytes →
      slice_index (word_bytes (content_of s (slice_index (new_meaning s entry).blocks place))) at ≡ slice_index s.calling.bytes (place * s.geometry.block_bytes + at)

pub some_block_bytes : (bytes : ℕ) → is_block_bytes bytes ≡ true → 0 < bytes
some_block_bytes bytes allowed = by (bytes == 64) (bytes == 512) (bytes == 4096) refl refl refl allowed
  where
    by : (small middle large : Bool) → (bytes == 64) ≡ small → (bytes == 512) ≡ middle → (bytes == 4096) ≡ large → (small || middle || large) ≡ true → 0 < bytes
    by true middle large is other another some = (let e = eqb-true bytes 64 is in omega (arith, e))
    by false true large is other another some = (let e = eqb-true bytes 512 other in omega (arith, e))
    by false false true is other another some = (let e = eqb-true bytes 4096 another in omega (arith, e))
    by false false false is other another some = cc

-- whole blocks touch as many as they are
pub whole_touched : (bytes virt count : ℕ) → 0 < bytes → 1 ≤ count → touched_blocks bytes (virt * bytes) (count * bytes) ≡ count
whole_touched bytes virt count some few =
    (let room : 1 * bytes ≤ count * bytes = mul-le-mul_right bytes few in
    let last_is : virt * bytes + count * bytes - 1 ≡ (virt + (count - 1)) * bytes + (bytes - 1) =
    (let apart : count * bytes ≡ (count - 1) * bytes + bytes = ap (λ (n : ℕ). n * bytes) (let same : count ≡ count - 1 + 1 = omega (arith, few) in same) ∙ omega arith in omega (arith, apart, some)) in
    let last : (virt * bytes + count * bytes - 1) / bytes ≡ virt + (count - 1) = ap (λ (n : ℕ). n / bytes) last_is ∙ div-mul-add (virt + (count - 1)) bytes (bytes - 1) (omega (arith, some)) in
    let first : virt * bytes / bytes ≡ virt = ap (λ (n : ℕ). n / bytes) (let same : virt * bytes ≡ virt * bytes + 0 = omega arith in same) ∙ div-mul-add virt bytes 0 some in
    omega (arith, last, first, few))

not_refused : (bytes position blocks end : ℕ) → blocks ≤ longest_of bytes → end ≤ limit_of bytes → position ≢ last_position → write_refusal bytes position blocks end ≡ None
not_refused bytes position blocks end few low other = by (nat_lt (longest_of bytes) blocks) (nat_lt (limit_of bytes) end) (position == last_position)
    (le-ltb (longest_of bytes) blocks few) (le-ltb (limit_of bytes) end low) (ne_eqb position last_position other)
  where
    by : (long large last : Bool) → long ≡ false → large ≡ false → last ≡ false →
        (if long then Some (TooLong blocks) else if large then Some (TooLarge end) else if last then Some PositionLimit else None) ≡ None
    by long large last e f h = rw (e, f, h) refl

module _ (s : Seat) (word entry : ℕ) (w : IsWholeWrite s word entry) where
  abbrev m : Meaning
  m = new_meaning s entry

  abbrev size : ℕ
  size = s.geometry.block_bytes

  abbrev bytes : List ℕ
  bytes = s.calling.bytes

  parts : Fitting (seat_shape s) (longest_of size) m
  parts = fitting (seat_shape s) (longest_of size) m (form_fits (λ block. content_of s block) (seat_shape s) entry w.form)

  some_size : 0 < size
  some_size = some_block_bytes size s.geometry.block_allowed

  some_bytes : 0 < length bytes
  some_bytes = (let few : 1 * size ≤ length m.blocks * size = mul-le-mul_right size parts.some in let big = some_size in let all = w.long in omega (arith, few, big, all))

  ends : w.offset + length bytes ≡ (m.virt + length m.blocks) * size
  ends = (let from = w.starts in let all = w.long in omega (arith, from, all))

  job_is : op_in s ≡ Some (PwriteOp w.offset bytes)
  job_is = ap (λ task. op_of task bytes) w.job

  within : w.offset + length bytes ≤ limit_of size
  within = (let most : (m.virt + length m.blocks) * size ≤ 65536 * size = mul-le-mul_right size (fits_inside (seat_shape s) (longest_of size) m (form_fits (λ block. content_of s block) (seat_shape s) entry w.form)) in
      let all = ends in omega (arith, most, all))

  touched : touched_blocks size w.offset (length bytes) ≡ length m.blocks
  touched = ap (λ (n : ℕ). touched_blocks size n (length bytes)) w.starts
      ∙ (ap (λ (n : ℕ). touched_blocks size (m.virt * size) n) w.long ∙ whole_touched size m.virt (length m.blocks) some_size parts.some)

  nothing_refuses : write_refusal size s.walk.position (touched_blocks size w.offset (length bytes)) (w.offset + length bytes) ≡ None
  nothing_refuses = not_refused size s.walk.position (touched_blocks size w.offset (length bytes)) (w.offset + length bytes) (let few = parts.few in let many = touched in omega (arith, few, many)) within w.below_last

  -- so it lays its bytes over whole blocks, and needs no base
  pub whole_lays : IsLaidWrite s word entry
  whole_lays = record {
    at_tail = w.at_tail;
    slot = w.slot;
    inside = w.inside;
    small = w.small;
    form = w.form;
    op = PwriteOp w.offset bytes;
    offset = w.offset;
    job = job_is;
    lays = Within;
    some = some_bytes;
    allowed = nothing_refuses;
    starts = (let from = w.starts in omega (arith, from));
    ends = (let all = ends in omega (arith, all));
    end_is = ap (λ (k : ℕ). max s.walk.size k) (let all = ends in let none = w.no_leftover in omega (arith, all, none));
    owned = w.owned;
    once = w.once;
    new = λ place at byte low inside among same. w.holds place at low inside ∙ ap (λ (k : ℕ). slice_index bytes k)
        (let from = w.starts in let split : (m.virt + place) * size ≡ m.virt * size + place * size = omega arith in omega (arith, from, same, split));
    old = λ place at low inside outside. absurd (none_outside place at low inside outside);
  }
    where
      none_outside : (place at : ℕ) → place < length m.blocks → at < size → ((m.virt + place) * size + at < w.offset) ⊎ (w.offset + length bytes ≤ (m.virt + place) * size + at) → ⊥
      none_outside place at low inside (inl before) = (let from = w.starts in let split : (m.virt + place) * size ≡ m.virt * size + place * size = omega arith in omega (arith, from, before, split))
      none_outside place at low inside (inr behind) = (let all = ends in
          let most : (m.virt + place + 1) * size ≤ (m.virt + length m.blocks) * size = mul-le-mul_right size (omega (arith, low)) in omega (arith, all, behind, most, inside))

module _ (o : Origin) (c : Core) (n : ℕ) (s : Seat) (g : Ghost) (pin began : ℕ) (inv : Invariant o c) (unspent : (view_of c.views n).parts ≢ []) (f : Knows o c n s g pin began)
    (word entry : ℕ) (w : IsWholeWrite s word entry) where
  -- and its entry may be put into the tail's slot
  pub may_commit_whole : MayCommit o c.history s word entry
  may_commit_whole = may_commit_laid o c n s g pin began inv unspent f word entry (whole_lays s word entry w)

  pub may_exchange_whole : MayExchangeSlot o c.history s word entry
  may_exchange_whole = may_exchange_laid o c n s g pin began inv unspent f word entry (whole_lays s word entry w)
