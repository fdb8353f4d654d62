-- When a write of any bytes may be committed: by the seat's state alone.
use Rattle.std.proofs.Common.{◌≡◌, ◌≢◌, ◌<◌, ◌≤◌, ◌+◌, ◌-◌, ◌*◌, ◌^◌, ◌==◌, ◌⊎◌, inl, inr, max, ℕ, Bool, true, false, List, [], ◌∷◌, length, slice_index, Option, Some, None, refl, sym, ap, ◌∙◌, subst, arith, mul-le-mul_right}
use Rattle.std.proofs.lemmas.Bool.{eqb-true, eqb-false, cases_lt}
use Rattle.log_entry.specs.WordBytes.{word_bytes}
use Rattle.log_entry.specs.ByteFile.{write}
use Rattle.log_entry.specs.Legal.{is_some_bytes, is_write, file_after}
use Rattle.log_entry.specs.declared.calls.Op.{Op}
use Rattle.log_entry.specs.declared.calls.Op.TheVariants.{Pwrite, Append}
use Rattle.log_entry.specs.declared.shapes.Geometry.{Geometry}
use Rattle.log_image.specs.Image.{is_in_data, words_in}
use Rattle.log_image.specs.Entries.{Meaning, names}
use Rattle.log_image.specs.Maps.{block_in, entry_end}
use Rattle.log_image.specs.Chains.{is_listed, all_different}
use Rattle.log_image.proofs.NameLemmas.{test_in}
use Rattle.pmem_words.specs.Maps.{map_at}
use Rattle.pmem_words.specs.Seats.{Seat}
use Rattle.log_core.specs.Entries.{place_in}
use Rattle.log_core.specs.Views.{Ghost, view_of, op_in}
use Rattle.log_core.specs.Origin.{Origin, shape, Generation}
use Rattle.log_core.specs.Files.{entries, file_at, accepted_reply, byte_in}
use Rattle.log_core.specs.Cores.{Core}
use Rattle.log_core.specs.Works.{seat_shape, words_of}
use Rattle.log_core.specs.Steps.{content_of, new_meaning}
use Rattle.log_core.specs.May.{is_fenced, is_log_entry_by, refusal_at, IsAtTail, MayCommit, MayExchangeSlot}
use Rattle.log_core.specs.Order.{nth_generation}
use Rattle.log_core.specs.Contents.{HoldsFileAt}
use Rattle.log_core.specs.Walks.{WalkHolds, HasWalked}
use Rattle.log_core.specs.Invariant.{Invariant, around}
use Rattle.log_core.specs.Knows.{Knows}
use Rattle.log_core.proofs.PinnedChains.{place, kept}
use Rattle.log_core.proofs.TailEnds.{walked}
use Rattle.log_core.proofs.writes.LaidBytes.{length_laid, byte_inside, byte_before, byte_behind, append_laid}
use Rattle.log_core.proofs.writes.GivenBlocks.{IsGiven, given, not_given, names_in_data, no_seal}

-- what a call lays over the file, and from where on
pub data LaysAt (s : Seat) (offset : ℕ) : Op → Type 0 where
  Within : LaysAt s offset (Pwrite offset s.calling.bytes)
  AtEnd : offset ≡ s.walk.size → LaysAt s offset (Append s.calling.bytes)

-- a byte of a virtual block is the one that the call knows by the bases
pub record IsBaseByte (s : Seat) (virt at byte : ℕ) : Type 0 where
  pub base : ℕ
  pub inside : base < length s.calling.bases
  pub virt_is : slice_index s.calling.bases base ≡ virt
  pub known : base * s.geometry.block_bytes + at < 8 * length s.calling.base_words
  pub is : byte ≡ slice_index (word_bytes s.calling.base_words) (base * s.geometry.block_bytes + at)

-- a byte of a virtual block as it is: by the bases, or 0 where the view's map has no block for it
pub data IsOldByte (s : Seat) (virt at byte : ℕ) : Type 0 where
  ByBase : IsBaseByte s virt at byte → IsOldByte s virt at byte
  Unmapped : map_at s.walk.map virt ≡ None → byte ≡ 0 → IsOldByte s virt at byte

-- a write that nothing refuses, and an entry for the tail's slot whose virtual blocks have the bytes' places, and which ends where they
-- do or before the file's end. The blocks that it names are owned and fenced, none twice; they hold the call's bytes, and elsewhere the
-- bytes that there are
pub record IsLaidWrite (s : Seat) (word entry : ℕ) : Type 0 where
  pub at_tail : IsAtTail s
  pub slot : word ≡ place_in (seat_shape s) s.walk.tail_block s.walk.tail_slot
  pub inside : s.walk.tail_slot < words_of s
  pub small : entry < 2 ^ 64
  pub form : is_log_entry_by (λ block. content_of s block) (seat_shape s) entry ≡ true
  pub op : Op
  pub offset : ℕ
  pub job : op_in s ≡ Some op
  pub lays : LaysAt s offset op
  pub some : 0 < length s.calling.bytes
  pub allowed : refusal_at s.geometry.block_bytes s.walk.position s.walk.size op ≡ None
  pub starts : (new_meaning s entry).virt * s.geometry.block_bytes ≤ offset
  pub ends : offset + length s.calling.bytes ≤ ((new_meaning s entry).virt + length (new_meaning s entry).blocks) * s.geometry.block_bytes
  pub end_is : max s.walk.size (entry_end (seat_shape s) (new_meaning s entry)) ≡ max s.walk.size (offset + length s.calling.bytes)
  pub owned : (block : ℕ) → is_listed (names (new_meaning s entry)) block ≡ true → is_fenced s.blocks.owned block ≡ true
  pub once : all_different (names (new_meaning s entry)) ≡ true
  pub new : (place at byte : ℕ) → place < length (new_meaning s entry).blocks → at < s.geometry.block_bytes → byte < length s.calling.bytes →
      ((new_meaning s entry).virt + place) * s.geometry.block_bytes + at ≡ offset + byte →
      slice_index (word_bytes (content_of s (slice_index (new_meaning s entry).blocks place))) at ≡ slice_index s.calling.bytes byte
  pub old : (place at : ℕ) → place < length (new_meaning s entry).blocks → at < s.geometry.block_bytes →
      (((new_meaning s entry).virt + place) * s.geometry.block_bytes + at < offset) ⊎ (offset + length s.calling.bytes ≤ ((new_meaning s entry).virt + place) * s.geometry.block_bytes + at) →
      IsOldByte s ((new_meaning s entry).virt + place) at (slice_index (word_bytes (content_of s (slice_index (new_meaning s entry).blocks place))) at)

pub some_list : (bytes : List ℕ) → 0 < length bytes → is_some_bytes bytes ≡ true
some_list [] some = absurd (omega (arith, some))
some_list (byte ∷ bytes) some = refl

-- what such a call does to a file, and that it is a write
lays_is : (s : Seat) (offset : ℕ) (op : Op) (file : List ℕ) → LaysAt s offset op → 0 < length s.calling.bytes → s.walk.size ≡ length file →
    file_after file op (accepted_reply op s.walk.size) ≡ write file offset s.calling.bytes
lays_is s offset op file lays some size = elim lays as (λ o l. file_after file o (accepted_reply o s.walk.size) ≡ write file offset s.calling.bytes) [
  | Within ↦ refl
  | AtEnd is ↦ append_laid file offset s.calling.bytes some (is ∙ size)
]

lays_write : (s : Seat) (offset : ℕ) (op : Op) → LaysAt s offset op → 0 < length s.calling.bytes → is_write op (accepted_reply op s.walk.size) ≡ true
lays_write s offset op lays some = elim lays as (λ o l. is_write o (accepted_reply o s.walk.size) ≡ true) [
  | Within ↦ some_list s.calling.bytes some
  | AtEnd is ↦ some_list s.calling.bytes some
]

module _ (s : Seat) (word entry : ℕ) (w : IsLaidWrite s word entry) (file : List ℕ) (same_size : s.walk.size ≡ length file)
    (known : (virt at byte : ℕ) → at < s.geometry.block_bytes → IsOldByte s virt at byte → byte ≡ slice_index file (virt * s.geometry.block_bytes + at)) where
  abbrev m : Meaning
  m = new_meaning s entry

  abbrev size : ℕ
  size = s.geometry.block_bytes

  abbrev bytes : List ℕ
  bytes = s.calling.bytes

  abbrev next : List ℕ
  next = write file w.offset bytes

  -- the file after it: its size, the bytes of the entry's blocks, and the bytes elsewhere
  next_size : max s.walk.size (entry_end (seat_shape s) m) ≡ length next
  next_size = w.end_is ∙ (ap (λ (k : ℕ). max k (w.offset + length bytes)) same_size ∙ sym (length_laid file w.offset bytes w.some))

  next_holds : (virt block at : ℕ) → block_in m virt ≡ Some block → at < size → byte_in (λ other. content_of s other) (Some block) at ≡ slice_index next (virt * size + at)
  next_holds virt block at found low =
      ap (λ (b : ℕ). slice_index (word_bytes (content_of s b)) at) (sym here.is)
      ∙ (go (cases_lt spot w.offset) (cases_lt spot (w.offset + length bytes)) ∙ ap (λ (k : ℕ). slice_index next (k * size + at)) virt_same)
    where
      here : IsGiven m virt block
      here = given m virt block found

      spot : ℕ
      spot = (m.virt + (virt - m.virt)) * size + at

      held : ℕ
      held = slice_index (word_bytes (content_of s (slice_index m.blocks (virt - m.virt)))) at

      virt_same : m.virt + (virt - m.virt) ≡ virt
      virt_same = (let late = here.from in omega (arith, late))

      before : spot < w.offset → held ≡ slice_index next spot
      before low_spot = known (m.virt + (virt - m.virt)) at held low (w.old (virt - m.virt) at here.inside low (inl low_spot)) ∙ sym (byte_before file w.offset bytes w.some spot low_spot)

      behind : w.offset + length bytes ≤ spot → held ≡ slice_index next spot
      behind past = known (m.virt + (virt - m.virt)) at held low (w.old (virt - m.virt) at here.inside low (inr past)) ∙ sym (byte_behind file w.offset bytes w.some spot past)

      among : w.offset ≤ spot → spot < w.offset + length bytes → held ≡ slice_index next spot
      among late early = w.new (virt - m.virt) at (spot - w.offset) here.inside low (omega (arith, late, early)) (let same : spot ≡ w.offset + (spot - w.offset) = omega (arith, late) in same)
          ∙ (sym (byte_inside file w.offset bytes w.some (spot - w.offset) (omega (arith, late, early)))
          ∙ ap (λ (k : ℕ). slice_index next k) (let same : w.offset + (spot - w.offset) ≡ spot = omega (arith, late) in same))

      go : (spot < w.offset) ⊎ (w.offset ≤ spot) → (spot < w.offset + length bytes) ⊎ (w.offset + length bytes ≤ spot) → held ≡ slice_index next spot
      go (inl low_spot) second = before low_spot
      go (inr late) (inl early) = among late early
      go (inr late) (inr past) = behind past

  next_rest : (virt at : ℕ) → block_in m virt ≡ None → at < size → slice_index file (virt * size + at) ≡ slice_index next (virt * size + at)
  next_rest virt at none low = go (not_given m virt none)
    where
      go : (virt < m.virt) ⊎ (m.virt + length m.blocks ≤ virt) → slice_index file (virt * size + at) ≡ slice_index next (virt * size + at)
      go (inl before) = sym (byte_before file w.offset bytes w.some (virt * size + at)
          (let few : (virt + 1) * size ≤ m.virt * size = mul-le-mul_right size (omega (arith, before)) in let from = w.starts in omega (arith, few, from, low)))
      go (inr behind) = sym (byte_behind file w.offset bytes w.some (virt * size + at)
          (let few : (m.virt + length m.blocks) * size ≤ virt * size = mul-le-mul_right size behind in let all = w.ends in omega (arith, few, all)))

module _ (o : Origin) (c : Core) (n : ℕ) (s : Seat) (g : Ghost) (pin began : ℕ) (inv : Invariant o c) (unspent : (view_of c.views n).parts ≢ []) (f : Knows o c n s g pin began) where
  -- the size of a view that is ready is the file's at its position
  module _ (valid : s.hold.valid ≡ true) (ready : s.walk.ready ≡ true) where
    walk_holds : WalkHolds (around o c) s.hold s.walk
    walk_holds = f.walk unspent

    has_walked : HasWalked o (entries o c.history) c.logs s.walk
    has_walked = walked o c n s g pin began inv f unspent valid ready

    past_tail : s.walk.tail_base ≤ s.walk.position
    past_tail = go (s.walk.tail_slot == words_in (shape o)) refl
      where
        go : (b : Bool) → (s.walk.tail_slot == words_in (shape o)) ≡ b → s.walk.tail_base ≤ s.walk.position
        go true e = (let at = (has_walked.at_end (eqb-true s.walk.tail_slot (words_in (shape o)) e)).1 in omega (arith, at))
        go false e = (let at = (has_walked.inside (eqb-false s.walk.tail_slot (words_in (shape o)) e)).0 in omega (arith, at))

    abbrev chain : Generation
    chain = nth_generation c.generations (place o c n s g pin began inv f valid)

    base_low : chain.base ≤ s.walk.position
    base_low = (let base = walk_holds.ready_base ready in let tail = walk_holds.ready_tail ready in let past = past_tail in omega (arith, base, tail, past))

    held : HoldsFileAt o c.history c.recorded s.walk.position
    held = (inv.contents (place o c n s g pin began inv f valid) (kept o c n s g pin began inv f valid)).files s.walk.position base_low walk_holds.to_end

    pub size_is_file : s.walk.size ≡ length (file_at o c.history s.walk.position)
    size_is_file = has_walked.size_is ∙ sym held.size_is

    -- and where its map has no block the file is 0
    pub unmapped_zero : s.walk.at_tail ≡ true → (virt at : ℕ) → map_at s.walk.map virt ≡ None → at < o.geometry.block_bytes → 0 ≡ slice_index (file_at o c.history s.walk.position) (virt * o.geometry.block_bytes + at)
    unmapped_zero at_tail virt at none low = ap (λ (found : Option ℕ). byte_in c.recorded found at) (sym (sym (has_walked.table virt) ∙ none))
        ∙ (held.held (subst (λ (first : ℕ). first ≤ s.walk.position) (f.fits unspent).first (f.tail at_tail).from_first)).each virt at low

  module _ (word entry : ℕ) (w : IsLaidWrite s word entry) where
    abbrev file : List ℕ
    file = file_at o c.history s.walk.position

    size_same : s.walk.size ≡ length file
    size_same = size_is_file w.at_tail.valid w.at_tail.ready

    bytes_same : o.geometry.block_bytes ≡ s.geometry.block_bytes
    bytes_same = ap (λ (geometry : Geometry). geometry.block_bytes) (sym (f.fits unspent).geometry)

    -- what the call knows by its bases is the file's
    bases_known : (virt at byte : ℕ) → at < s.geometry.block_bytes → IsBaseByte s virt at byte → byte ≡ slice_index file (virt * s.geometry.block_bytes + at)
    bases_known virt at byte low by = by.is ∙ (subst (λ (size : ℕ). slice_index (word_bytes s.calling.base_words) (by.base * size + at) ≡ slice_index file (slice_index s.calling.bases by.base * size + at)) bytes_same
        (f.calls.bases.bytes (λ none. (let both : None ≡ Some w.op = sym none ∙ w.job in cc)) by.base at by.inside (subst (λ (size : ℕ). at < size) (sym bytes_same) low)
        (subst (λ (size : ℕ). by.base * size + at < 8 * length s.calling.base_words) (sym bytes_same) by.known))
        ∙ ap (λ (v : ℕ). slice_index file (v * s.geometry.block_bytes + at)) by.virt_is)

    old_known : (virt at byte : ℕ) → at < s.geometry.block_bytes → IsOldByte s virt at byte → byte ≡ slice_index file (virt * s.geometry.block_bytes + at)
    old_known virt at byte low (ByBase by) = bases_known virt at byte low by
    old_known virt at byte low (Unmapped none is) = is ∙ subst (λ (size : ℕ). 0 ≡ slice_index file (virt * size + at)) bytes_same
        (unmapped_zero w.at_tail.valid w.at_tail.ready w.at_tail.at_tail virt at none (subst (λ (size : ℕ). at < size) (sym bytes_same) low))

    after_is : file_after file w.op (accepted_reply w.op s.walk.size) ≡ write file w.offset s.calling.bytes
    after_is = lays_is s w.offset w.op file w.lays w.some size_same

    -- so its entry may be put into the tail's slot
    pub may_commit_laid : MayCommit o c.history s word entry
    may_commit_laid = record {
      at_tail = w.at_tail;
      slot = w.slot;
      inside = w.inside;
      small = w.small;
      op = w.op;
      job = w.job;
      is_write = lays_write s w.offset w.op w.lays w.some;
      allowed = w.allowed;
      form = w.form;
      owned = w.owned;
      in_data = λ block listed. test_in (is_in_data (seat_shape s)) (names (new_meaning s entry)) block (names_in_data (λ other. content_of s other) (seat_shape s) entry w.form) listed;
      once = w.once;
      size_is = next_size s word entry w file size_same old_known ∙ ap (λ (l : List ℕ). length l) (sym after_is);
      holds = λ virt block at found low. next_holds s word entry w file size_same old_known virt block at found low ∙ ap (λ (l : List ℕ). slice_index l (virt * s.geometry.block_bytes + at)) (sym after_is);
      rest = λ virt at none low. next_rest s word entry w file size_same old_known virt at none low ∙ ap (λ (l : List ℕ). slice_index l (virt * s.geometry.block_bytes + at)) (sym after_is);
    }

    pub may_exchange_laid : MayExchangeSlot o c.history s word entry
    may_exchange_laid = (λ seal. absurd (no_seal (λ block. content_of s block) (seat_shape s) entry w.form seal), λ other. may_commit_laid)
