-- A write of any bytes whose blocks hold it may be committed.
use Rattle.std.proofs.Common.{◌≡◌, ◌≢◌, ◌<◌, ◌≤◌, ◌+◌, ◌-◌, ◌*◌, ◌^◌, ◌==◌, ◌||◌, ◌⊎◌, max, ℕ, Bool, true, false, List, [], ◌∷◌, length, slice_index, refl, sym, ap, ◌∙◌, subst, arith}
use Rattle.std.specs.List.{range_with_len, list_all, AllByRecursion}
use Rattle.std.proofs.lemmas.Bool.{eqb-true, eq-eqb}
use Rattle.std.proofs.lemmas.Grind.{same_number_lists}
use Rattle.std.proofs.lemmas.List.FromFn.{length-range_with_len, get_or-range_with_len}
use Rattle.log_entry.specs.Shape.{longest_of}
use Rattle.log_entry.specs.WordBytes.{word_bytes}
use Rattle.log_entry.specs.Words.{entry_word}
use Rattle.log_entry.specs.declared.entries.Entry.TheVariants.{Direct, Indirect}
use Rattle.log_entry.specs.declared.words.RunWord.{RunWord}
use Rattle.log_image.specs.Image.{is_in_data}
use Rattle.log_image.specs.Entries.{Meaning, names, indirect_meaning}
use Rattle.log_image.specs.Maps.{entry_end}
use Rattle.log_image.specs.Format.{fits, is_indirect_block}
use Rattle.log_image.specs.Chains.{is_listed, all_different}
use Rattle.log_image.proofs.NameLemmas.{or_right, range_different}
use Rattle.pmem_words.specs.Seats.{Seat}
use Rattle.log_core.specs.Views.{Ghost, view_of}
use Rattle.log_core.specs.Origin.{Origin}
use Rattle.log_core.specs.Cores.{Core}
use Rattle.log_core.specs.Works.{seat_shape, words_of, owned_block}
use Rattle.log_core.specs.Steps.{content_of, new_meaning}
use Rattle.log_core.specs.May.{is_fenced, is_log_entry_by, MayCommit}
use Rattle.log_core.specs.Invariant.{Invariant}
use Rattle.log_core.specs.Knows.{Knows}
use Rattle.log_core.proofs.BlockWords.{q_range}
use Rattle.log_core.proofs.WordBytesAt.{eight_words}
use Rattle.log_core.proofs.writes.LaidWrites.{IsOldByte, IsLaidWrite, may_commit_laid}
use Rattle.log_core.proofs.writes.GivenBlocks.{fits_by}
use Rattle.log_core.proofs.writes.EntryWords.{direct_small, direct_meaning_by, direct_form}
use Rattle.log_core.proofs.writes.OwnAreas.{owns_whole, owned_in_data}
use Rattle.log_core.proofs.writes.OwnContents.{OwnsWhole, content_length, content_at, content_byte, fenced_at}
use Rattle.log_core.proofs.writes.PlacedBytes.{listed_place}
use Rattle.log_core.proofs.writes.RunLists.{blocks_of, IsSmallRun, few_runs, some_runs, small_runs}
use Rattle.log_core.proofs.writes.IndirectBlocks.{indirect_content, indirect_says, indirect_is, indirect_long, holder_small, holder_means, holder_form}
use Rattle.log_core.proofs.writes.RunWrites.{in_data_small}
use Rattle.partial_blocks.specs.Touching.{first_touched, last_touched, touched_count}
use Rattle.partial_blocks.specs.Holding.{content_byte as held_byte}
use Rattle.partial_blocks.specs.Entries.{leftover_of}
use Rattle.partial_blocks.specs.Committing.{IsDataBlock, IsTouching, IsOneRun, AreRunsOf, CommitsRun, CommitsRuns}
use Rattle.partial_blocks.proofs.OwnedOnce.{holder_once}
use Rattle.partial_blocks.proofs.TouchedPlaces.{some_size, ordered, begins_in, ends_in, ends_late, block_behind}

module _ (s : Seat) (word offset : ℕ) (w : IsTouching s word offset) where
  abbrev size : ℕ
  size = s.geometry.block_bytes

  abbrev count : ℕ
  count = touched_count offset s

  abbrev first : ℕ
  first = first_touched offset s

  abbrev end : ℕ
  end = offset + length s.calling.bytes

  some : 0 < count
  some = omega arith

  -- the touched blocks end one behind the last
  past_is : (first + count) * size ≡ (last_touched offset s + 1) * size
  past_is = ap (λ (n : ℕ). n * size) (let order = ordered offset s w.in_file in let same : first + count ≡ last_touched offset s + 1 = omega (arith, order) in same)

  low_leftover : leftover_of offset s < size
  low_leftover = (let late = ends_late offset s w.in_file in let all = past_is in let order = ordered offset s w.in_file in
      let last : (first + count - 1) * size ≡ last_touched offset s * size = ap (λ (n : ℕ). n * size) (let same : first + count - 1 ≡ last_touched offset s = omega (arith, order) in same) in
      let split : (last_touched offset s + 1) * size ≡ last_touched offset s * size + size = omega arith in
      let big = some_size offset s w.in_file in
      omega (arith, late, last, split, big))

  small_leftover : leftover_of offset s < 4096
  small_leftover = (let low = low_leftover in let wide = (q_range s.geometry).1 in let eight = eight_words size s.geometry.block_allowed in omega (arith, low, wide, eight))

  within : first + count ≤ 65536
  within = (let order = ordered offset s w.in_file in let all = w.in_file.inside in let most = w.in_file.some in let big = some_size offset s w.in_file in
      let last : last_touched offset s ≤ 65535 = block_behind (end - 1) size 65535 big (omega (arith, all, most, big)) in
      omega (arith, order, last))

  small_virt : first < 2 ^ 16
  small_virt = (let all = within in let more = some in omega (arith, all, more))

  short : count ≤ 256
  short = (let few = w.few in omega (arith, few))

  -- an entry for these blocks, by their places, has the call's bytes laid over them
  module _ (owns : OwnsWhole s) (entry : ℕ) (holder blocks : List ℕ) (means : new_meaning s entry ≡ record { holder = holder; virt = first; blocks = blocks; leftover = leftover_of offset s })
      (long : length blocks ≡ count) (block_at : (place : ℕ) → place < count → slice_index blocks place ≡ owned_block s place)
      (small : entry < 2 ^ 64) (form : is_log_entry_by (λ block. content_of s block) (seat_shape s) entry ≡ true)
      (fenced : (block : ℕ) → is_listed (names (record { holder = holder; virt = first; blocks = blocks; leftover = leftover_of offset s })) block ≡ true → is_fenced s.blocks.owned block ≡ true)
      (once : all_different (names (record { holder = holder; virt = first; blocks = blocks; leftover = leftover_of offset s })) ≡ true) where
    abbrev m : Meaning
    m = record { holder = holder; virt = first; blocks = blocks; leftover = leftover_of offset s }

    below : (place : ℕ) → place < length blocks → place < count
    below place low = (let same = long in omega (arith, low, same))

    byte_is : (place at : ℕ) → place < length blocks → at < size → slice_index (word_bytes (content_of s (slice_index blocks place))) at ≡ held_byte s place at
    byte_is place at low inside = ap (λ (b : ℕ). slice_index (word_bytes (content_of s b)) at) (block_at place (below place low))
        ∙ content_byte s owns place (w.owned place (below place low)).inside at (let eight = eight_words size s.geometry.block_allowed in omega (arith, inside, eight))

    ends_at : entry_end (seat_shape s) m ≡ end
    ends_at = (let all = past_is in let fits = ends_in offset s w.in_file in
        let blocks_end : (first + length blocks) * size ≡ (last_touched offset s + 1) * size = ap (λ (n : ℕ). (first + n) * size) long ∙ all in
        omega (arith, blocks_end, all, fits))

    pub touched_is_laid : IsLaidWrite s word entry
    touched_is_laid = record {
      at_tail = w.at_tail;
      slot = w.slot;
      inside = w.inside;
      small = small;
      form = form;
      op = w.op;
      offset = offset;
      job = w.job;
      lays = w.lays;
      some = w.in_file.some;
      allowed = w.allowed;
      starts = subst (λ (told : Meaning). told.virt * size ≤ offset) (sym means) (begins_in offset s w.in_file);
      ends = subst (λ (told : Meaning). end ≤ (told.virt + length told.blocks) * size) (sym means)
          (let fits = ends_in offset s w.in_file in let same : (first + length blocks) * size ≡ (first + count) * size = ap (λ (n : ℕ). (first + n) * size) long in omega (arith, fits, same));
      end_is = ap (λ (told : Meaning). max s.walk.size (entry_end (seat_shape s) told)) means ∙ ap (λ (n : ℕ). max s.walk.size n) ends_at;
      owned = subst (λ (told : Meaning). (block : ℕ) → is_listed (names told) block ≡ true → is_fenced s.blocks.owned block ≡ true) (sym means) fenced;
      once = subst (λ (told : Meaning). all_different (names told) ≡ true) (sym means) once;
      new = subst (λ (told : Meaning). (place at byte : ℕ) → place < length told.blocks → at < size → byte < length s.calling.bytes → (told.virt + place) * size + at ≡ offset + byte →
          slice_index (word_bytes (content_of s (slice_index told.blocks place))) at ≡ slice_index s.calling.bytes byte) (sym means)
          (λ place at byte low inside among same. byte_is place at low inside ∙ (w.holds place (below place low)).new at byte inside among same);
      old = subst (λ (told : Meaning). (place at : ℕ) → place < length told.blocks → at < size → ((told.virt + place) * size + at < offset) ⊎ (end ≤ (told.virt + place) * size + at) →
          IsOldByte s (told.virt + place) at (slice_index (word_bytes (content_of s (slice_index told.blocks place))) at)) (sym means)
          (λ place at low inside outside. subst (λ (byte : ℕ). IsOldByte s (first + place) at byte) (sym (byte_is place at low inside)) ((w.holds place (below place low)).old at inside outside));
    }

  -- blocks that stand at places are fenced
  placed_fenced : OwnsWhole s → (blocks : List ℕ) → length blocks ≡ count → ((place : ℕ) → place < count → slice_index blocks place ≡ owned_block s place) → (block : ℕ) → is_listed blocks block ≡ true → is_fenced s.blocks.owned block ≡ true
  placed_fenced owns blocks long block_at block listed = (let r = listed_place blocks block listed in
      let low : r.0 < count = (let inside = r.1 in omega (arith, inside, long)) in
      let here = w.owned r.0 low in
      subst (λ (b : ℕ). is_fenced s.blocks.owned b ≡ true) (sym (block_at r.0 low) ∙ r.2) (fenced_at s owns r.0 here.inside here.fenced))

module _ (o : Origin) (c : Core) (n : ℕ) (s : Seat) (g : Ghost) (pin began : ℕ) (inv : Invariant o c) (unspent : (view_of c.views n).parts ≢ []) (f : Knows o c n s g pin began) (word offset : ℕ) (w : IsTouching s word offset) where
  abbrev many : ℕ
  many = touched_count offset s

  owns : OwnsWhole s
  owns = owns_whole o c n s g pin began inv unspent f

  place_in_data : (place : ℕ) → IsDataBlock s place → is_in_data (seat_shape s) (owned_block s place) ≡ true
  place_in_data place is = owned_in_data o c n s g pin began inv unspent f place is.inside is.area

  -- one run
  module _ (one : IsOneRun offset s) where
    abbrev block : ℕ
    block = owned_block s 0

    small_block : block < 2 ^ 16
    small_block = in_data_small o c n s g pin began inv unspent f block (place_in_data 0 (w.owned 0 (some s word offset w)))

    run_long : length (range_with_len block many) ≡ many
    run_long = length-range_with_len block many

    run_at : (place : ℕ) → place < many → slice_index (range_with_len block many) place ≡ owned_block s place
    run_at place low = get_or-range_with_len block many place 0 low ∙ sym (one place low)

    run_in_data : (k : ℕ) → block ≤ k → k < block + many → is_in_data (seat_shape s) k ≡ true
    run_in_data k from below = (let low : k - block < many = omega (arith, from, below) in
        subst (λ (b : ℕ). is_in_data (seat_shape s) b ≡ true) (one (k - block) low ∙ (let same : block + (k - block) ≡ k = omega (arith, from) in same)) (place_in_data (k - block) (w.owned (k - block) low)))

    pub may_commit_direct : MayCommit o c.history s word (entry_word (Direct (first_touched offset s) block many (leftover_of offset s)))
    may_commit_direct = may_commit_laid o c n s g pin began inv unspent f word (entry_word (Direct (first_touched offset s) block many (leftover_of offset s)))
        (touched_is_laid s word offset w owns (entry_word (Direct (first_touched offset s) block many (leftover_of offset s))) [] (range_with_len block many)
        (direct_meaning_by (first_touched offset s) block many (leftover_of offset s) (small_virt s word offset w) small_block (some s word offset w) (short s word offset w) (small_leftover s word offset w) (λ b. content_of s b))
        run_long run_at
        (direct_small (first_touched offset s) block many (leftover_of offset s) (small_virt s word offset w) small_block (some s word offset w) (short s word offset w) (small_leftover s word offset w))
        (direct_form (first_touched offset s) block many (leftover_of offset s) (small_virt s word offset w) small_block (some s word offset w) (short s word offset w) (small_leftover s word offset w) (λ b. content_of s b) (seat_shape s)
        w.few (within s word offset w) run_in_data (low_leftover s word offset w))
        (placed_fenced s word offset w owns (range_with_len block many) run_long run_at)
        (range_different block many))

  -- several runs
  module _ (runs : List RunWord) (r : AreRunsOf offset s runs) where
    abbrev blocks : List ℕ
    blocks = blocks_of runs

    abbrev holder : ℕ
    holder = owned_block s many

    abbrev virt : ℕ
    virt = first_touched offset s

    abbrev leftover : ℕ
    leftover = leftover_of offset s

    abbrev content : List ℕ
    content = indirect_content (words_of s) virt leftover runs

    blocks_in_data : (block : ℕ) → is_listed blocks block ≡ true → is_in_data (seat_shape s) block ≡ true
    blocks_in_data block listed = (let at = listed_place blocks block listed in
        let low : at.0 < many = (let inside = at.1 in let long = r.long in omega (arith, inside, long)) in
        subst (λ (b : ℕ). is_in_data (seat_shape s) b ≡ true) (sym (r.blocks at.0 low) ∙ at.2) (place_in_data at.0 (w.owned at.0 low)))

    holder_in_data : is_in_data (seat_shape s) holder ≡ true
    holder_in_data = place_in_data many r.holder

    small_holder : holder < 2 ^ 16
    small_holder = in_data_small o c n s g pin began inv unspent f holder holder_in_data

    some_blocks : 0 < length blocks
    some_blocks = (let more = some s word offset w in let long = r.long in omega (arith, more, long))

    few_blocks : length blocks ≤ longest_of s.geometry.block_bytes
    few_blocks = (let few = w.few in let long = r.long in omega (arith, few, long))

    all_within : virt + length blocks ≤ 65536
    all_within = (let all = within s word offset w in let long = r.long in omega (arith, all, long))

    room : length runs < words_of s
    room = (let few = few_blocks in let fewer = few_runs runs r.are_runs in let more = some_blocks in omega (arith, few, fewer, more))

    small_count : length blocks < 2 ^ 16
    small_count = (let few = short s word offset w in let long = r.long in omega (arith, few, long))

    few : length runs < 2 ^ 16
    few = (let fewer = few_runs runs r.are_runs in let low = small_count in omega (arith, fewer, low))

    all : AllByRecursion (IsSmallRun (length blocks)) runs
    all = small_runs runs r.are_runs (λ block listed. in_data_small o c n s g pin began inv unspent f block (blocks_in_data block listed))

    low_virt : virt < 2 ^ 16
    low_virt = small_virt s word offset w

    low_left : leftover < 4096
    low_left = small_leftover s word offset w

    content_is : content_of s holder ≡ content
    content_is = same_number_lists (content_of s holder) content
        (content_length s owns many r.holder.inside ∙ sym (indirect_long (words_of s) virt leftover (length blocks) runs low_virt small_count low_left few small_count all (let low = room in omega (arith, low))))
        (λ index low. (let inside : index < words_of s = (let long = content_length s owns many r.holder.inside in omega (arith, low, long)) in
        content_at s owns many r.holder.inside index inside ∙ r.words index inside))

    says : indirect_meaning holder (content_of s holder) ≡ record { holder = holder ∷ []; virt = virt; blocks = blocks; leftover = leftover }
    says = ap (λ (l : List ℕ). indirect_meaning holder l) content_is ∙ indirect_says (words_of s) virt leftover (length blocks) runs low_virt small_count low_left few small_count all holder

    all_in : (p : ℕ → Bool) (l : List ℕ) → ((b : ℕ) → is_listed l b ≡ true → p b ≡ true) → list_all p l ≡ true
    all_in p [] each = refl
    all_in p (x ∷ l) each = rw (each x (ap (λ (b : Bool). b || is_listed l x) (eq-eqb x x refl))) (all_in p l (λ b listed. each b (or_right (x == b) (is_listed l b) listed)))

    m_fits : fits (seat_shape s) (longest_of s.geometry.block_bytes) (record { holder = holder ∷ []; virt = virt; blocks = blocks; leftover = leftover }) ≡ true
    m_fits = fits_by (seat_shape s) (longest_of s.geometry.block_bytes) (record { holder = holder ∷ []; virt = virt; blocks = blocks; leftover = leftover }) some_blocks few_blocks all_within
        (all_in (is_in_data (seat_shape s)) blocks blocks_in_data) (low_leftover s word offset w)

    names_fenced : (block : ℕ) → is_listed (holder ∷ blocks) block ≡ true → is_fenced s.blocks.owned block ≡ true
    names_fenced block listed = go (holder == block) refl listed
      where
        go : (same : Bool) → (holder == block) ≡ same → (same || is_listed blocks block) ≡ true → is_fenced s.blocks.owned block ≡ true
        go true e more = subst (λ (b : ℕ). is_fenced s.blocks.owned b ≡ true) (eqb-true holder block e) (fenced_at s owns many r.holder.inside r.holder.fenced)
        go false e more = placed_fenced s word offset w owns blocks r.long r.blocks block more

    -- none of them twice
    once : all_different (holder ∷ blocks) ≡ true
    once = holder_once s.blocks.owned owns.once blocks many r.holder.inside r.long r.blocks

    pub may_commit_indirect : MayCommit o c.history s word (entry_word (Indirect holder))
    may_commit_indirect = may_commit_laid o c n s g pin began inv unspent f word (entry_word (Indirect holder))
        (touched_is_laid s word offset w owns (entry_word (Indirect holder)) (holder ∷ []) blocks
        (holder_means holder small_holder (λ b. content_of s b) ∙ says) r.long r.blocks
        (holder_small holder small_holder)
        (holder_form holder small_holder (λ b. content_of s b) (seat_shape s) holder_in_data
        (subst (λ (l : List ℕ). is_indirect_block (seat_shape s) l ≡ true) (sym content_is)
        (indirect_is (words_of s) virt leftover (length blocks) runs low_virt small_count low_left few small_count all (seat_shape s) refl (some_runs runs some_blocks) room))
        (ap (λ (told : Meaning). fits (seat_shape s) (longest_of s.geometry.block_bytes) told) says ∙ m_fits))
        names_fenced once)

pub commits_run : CommitsRun
commits_run o c n s g pin began inv unspent f word offset w one = may_commit_direct o c n s g pin began inv unspent f word offset w one

pub commits_runs : CommitsRuns
commits_runs o c n s g pin began inv unspent f word offset w runs r = may_commit_indirect o c n s g pin began inv unspent f word offset w runs r
