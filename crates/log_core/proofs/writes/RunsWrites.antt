-- When a write of whole blocks into owned blocks of several runs may be committed, with an indirect entry.
use Rattle.std.proofs.Common.{◌≡◌, ◌≢◌, ◌<◌, ◌≤◌, ◌+◌, ◌*◌, ◌^◌, ◌==◌, ◌||◌, ℕ, Bool, true, false, List, [], ◌∷◌, length, slice_index, refl, sym, ap, ◌∙◌, subst, arith}
use Rattle.std.specs.List.{list_all, AllByRecursion}
use Rattle.std.proofs.lemmas.Bool.{eqb-true, eq-eqb}
use Rattle.std.proofs.lemmas.Grind.{same_number_lists}
use Rattle.log_entry.specs.Shape.{longest_of}
use Rattle.log_entry.specs.WordBytes.{word_bytes}
use Rattle.log_entry.specs.Words.{entry_word}
use Rattle.log_entry.specs.declared.entries.Entry.TheVariants.{Indirect}
use Rattle.log_entry.specs.declared.words.RunWord.{RunWord}
use Rattle.log_entry.specs.declared.shapes.Area.TheVariants.{Data}
use Rattle.log_image.specs.Image.{is_in_data}
use Rattle.log_image.specs.Entries.{Meaning, names, indirect_meaning}
use Rattle.log_image.specs.Format.{fits, is_indirect_block}
use Rattle.log_image.specs.Chains.{is_listed, all_different}
use Rattle.log_image.proofs.NameLemmas.{or_right}
use Rattle.pmem_words.specs.Owned.{owned_at}
use Rattle.pmem_words.specs.Seats.{Seat}
use Rattle.log_core.specs.Views.{Ghost, view_of}
use Rattle.log_core.specs.Origin.{Origin}
use Rattle.log_core.specs.Cores.{Core}
use Rattle.log_core.specs.Works.{seat_shape, words_of, owned_block, content_word}
use Rattle.log_core.specs.Steps.{content_of, new_meaning}
use Rattle.log_core.specs.May.{is_fenced, MayExchangeSlot}
use Rattle.log_core.specs.Invariant.{Invariant}
use Rattle.log_core.specs.Knows.{Knows}
use Rattle.log_core.proofs.writes.OwnAreas.{owns_whole, owned_in_data}
use Rattle.log_core.proofs.writes.OwnContents.{OwnsWhole, content_length, content_at, fenced_at}
use Rattle.log_core.proofs.writes.PlacedBytes.{HasBytes, listed_place, blocks_fenced, blocks_hold}
use Rattle.log_core.proofs.writes.GivenBlocks.{fits_by}
use Rattle.log_core.proofs.writes.RunLists.{blocks_of, AreRuns, IsSmallRun, few_runs, some_runs, small_runs}
use Rattle.log_core.proofs.writes.IndirectBlocks.{indirect_content, indirect_says, indirect_is, indirect_long, holder_small, holder_means, holder_form}
use Rattle.log_core.proofs.writes.RunWrites.{IsWriting, has_in_data, in_data_small}
use Rattle.log_core.proofs.writes.WholeWrites.{IsWholeWrite, some_block_bytes, may_exchange_whole}

-- the block is the owned one at this place, a fenced one of the data area, with these words
pub record HasWords (s : Seat) (block : ℕ) (words : List ℕ) : Type 0 where
  pub place : ℕ
  pub inside : place < length s.blocks.owned
  pub block_is : owned_block s place ≡ block
  pub fenced : (owned_at s.blocks.owned place).fenced ≡ true
  pub area : (owned_at s.blocks.owned place).area ≡ Data
  pub each : (index : ℕ) → index < words_of s → content_word s place index ≡ slice_index words index

-- the blocks of these runs are owned and hold the call's bytes, one after another; and one block more has the words of the runs
pub record IsRunsWrite (s : Seat) (word virt holder : ℕ) (runs : List RunWord) : Type 0 where
  pub writing : IsWriting s word virt (length (blocks_of runs))
  pub are_runs : AreRuns runs
  pub once : all_different (holder ∷ blocks_of runs) ≡ true
  pub each : (place : ℕ) → place < length (blocks_of runs) → HasBytes s (slice_index (blocks_of runs) place) (place * s.geometry.block_bytes)
  pub held : HasWords s holder (indirect_content (words_of s) virt 0 runs)

module _ (o : Origin) (c : Core) (n : ℕ) (s : Seat) (g : Ghost) (pin began : ℕ) (inv : Invariant o c) (unspent : (view_of c.views n).parts ≢ []) (f : Knows o c n s g pin began) where
  module _ (word virt holder : ℕ) (runs : List RunWord) (w : IsRunsWrite s word virt holder runs) where
    abbrev blocks : List ℕ
    blocks = blocks_of runs

    abbrev content : List ℕ
    content = indirect_content (words_of s) virt 0 runs

    abbrev pub runs_entry : ℕ
    runs_entry = entry_word (Indirect holder)

    owns : OwnsWhole s
    owns = owns_whole o c n s g pin began inv unspent f

    -- the blocks, and the one that holds the runs, are of the data area
    blocks_in_data : (block : ℕ) → is_listed blocks block ≡ true → is_in_data (seat_shape s) block ≡ true
    blocks_in_data block listed = (let at = listed_place blocks block listed in
        subst (λ (b : ℕ). is_in_data (seat_shape s) b ≡ true) at.2 (has_in_data o c n s g pin began inv unspent f (slice_index blocks at.0) (at.0 * s.geometry.block_bytes) (w.each at.0 at.1)))

    holder_in_data : is_in_data (seat_shape s) holder ≡ true
    holder_in_data = subst (λ (b : ℕ). is_in_data (seat_shape s) b ≡ true) w.held.block_is (owned_in_data o c n s g pin began inv unspent f w.held.place w.held.inside w.held.area)

    holder_fenced : is_fenced s.blocks.owned holder ≡ true
    holder_fenced = subst (λ (b : ℕ). is_fenced s.blocks.owned b ≡ true) w.held.block_is (fenced_at s owns w.held.place w.held.inside w.held.fenced)

    small_holder : holder < 2 ^ 16
    small_holder = in_data_small o c n s g pin began inv unspent f holder holder_in_data

    -- the numbers are within their ranges
    short : length blocks ≤ 256
    short = (let few = w.writing.few in omega (arith, few))

    room : length runs < words_of s
    room = (let few = w.writing.few in let fewer = few_runs runs w.are_runs in let some = w.writing.some in omega (arith, few, fewer, some))

    some_run : 1 ≤ length runs
    some_run = some_runs runs w.writing.some

    small_virt : virt < 2 ^ 16
    small_virt = (let within = w.writing.within in let some = w.writing.some in omega (arith, within, some))

    small_count : length blocks < 2 ^ 16
    small_count = (let few = short in omega (arith, few))

    small_leftover : 0 < 4096
    small_leftover = omega arith

    few : length runs < 2 ^ 16
    few = (let fewer = few_runs runs w.are_runs in let low = short in omega (arith, fewer, low))

    all : AllByRecursion (IsSmallRun (length blocks)) runs
    all = small_runs runs w.are_runs (λ block listed. in_data_small o c n s g pin began inv unspent f block (blocks_in_data block listed))

    -- the words of the holding block, and what they say
    content_is : content_of s holder ≡ content
    content_is = subst (λ (b : ℕ). content_of s b ≡ content) w.held.block_is (same_number_lists (content_of s (owned_block s w.held.place)) content
        (content_length s owns w.held.place w.held.inside ∙ sym (indirect_long (words_of s) virt 0 (length blocks) runs small_virt small_count small_leftover few small_count all (let low = room in omega (arith, low))))
        (λ index low. (let inside : index < words_of s = (let long = content_length s owns w.held.place w.held.inside in omega (arith, low, long)) in
        content_at s owns w.held.place w.held.inside index inside ∙ w.held.each index inside)))

    abbrev m : Meaning
    m = record { holder = holder ∷ []; virt = virt; blocks = blocks; leftover = 0 }

    says : indirect_meaning holder (content_of s holder) ≡ m
    says = ap (λ (l : List ℕ). indirect_meaning holder l) content_is ∙ indirect_says (words_of s) virt 0 (length blocks) runs small_virt small_count small_leftover few small_count all holder

    means : new_meaning s runs_entry ≡ m
    means = holder_means holder small_holder (λ b. content_of s b) ∙ says

    all_in : (p : ℕ → Bool) (l : List ℕ) → ((b : ℕ) → is_listed l b ≡ true → p b ≡ true) → list_all p l ≡ true
    all_in p [] each = refl
    all_in p (first ∷ l) each = rw (each first (ap (λ (b : Bool). b || is_listed l first) (eq-eqb first first refl))) (all_in p l (λ b listed. each b (or_right (first == b) (is_listed l b) listed)))

    m_fits : fits (seat_shape s) (longest_of s.geometry.block_bytes) m ≡ true
    m_fits = fits_by (seat_shape s) (longest_of s.geometry.block_bytes) m w.writing.some w.writing.few w.writing.within (all_in (is_in_data (seat_shape s)) blocks blocks_in_data) (some_block_bytes s.geometry.block_bytes s.geometry.block_allowed)

    names_fenced : (block : ℕ) → is_listed (holder ∷ blocks) block ≡ true → is_fenced s.blocks.owned block ≡ true
    names_fenced block listed = go (holder == block) refl listed
      where
        go : (same : Bool) → (holder == block) ≡ same → (same || is_listed blocks block) ≡ true → is_fenced s.blocks.owned block ≡ true
        go true e some = subst (λ (b : ℕ). is_fenced s.blocks.owned b ≡ true) (eqb-true holder block e) holder_fenced
        go false e some = blocks_fenced s owns blocks w.each block some

    pub runs_are_whole : IsWholeWrite s word runs_entry
    runs_are_whole = record {
      at_tail = w.writing.at_tail;
      slot = w.writing.slot;
      inside = w.writing.inside;
      below_last = w.writing.below_last;
      small = holder_small holder small_holder;
      form = holder_form holder small_holder (λ b. content_of s b) (seat_shape s) holder_in_data
          (subst (λ (l : List ℕ). is_indirect_block (seat_shape s) l ≡ true) (sym content_is)
          (indirect_is (words_of s) virt 0 (length blocks) runs small_virt small_count small_leftover few small_count all (seat_shape s) refl some_run room))
          (ap (λ (told : Meaning). fits (seat_shape s) (longest_of s.geometry.block_bytes) told) says ∙ m_fits);
      offset = virt * s.geometry.block_bytes;
      job = w.writing.job;
      starts = ap (λ (told : Meaning). told.virt * s.geometry.block_bytes) (sym means);
      long = w.writing.long ∙ ap (λ (told : Meaning). length told.blocks * s.geometry.block_bytes) (sym means);
      no_leftover = ap (λ (told : Meaning). told.leftover) means;
      owned = subst (λ (told : Meaning). (b : ℕ) → is_listed (names told) b ≡ true → is_fenced s.blocks.owned b ≡ true) (sym means) names_fenced;
      once = subst (λ (told : Meaning). all_different (names told) ≡ true) (sym means) w.once;
      holds = subst (λ (told : Meaning). (place at : ℕ) → place < length told.blocks → at < s.geometry.block_bytes →
          slice_index (word_bytes (content_of s (slice_index told.blocks place))) at ≡ slice_index s.calling.bytes (place * s.geometry.block_bytes + at)) (sym means)
          (blocks_hold s owns blocks w.each);
    }

    -- so the word of its indirect entry may be put into the tail's slot
    pub may_exchange_runs : MayExchangeSlot o c.history s word runs_entry
    may_exchange_runs = may_exchange_whole o c n s g pin began inv unspent f word runs_entry runs_are_whole
