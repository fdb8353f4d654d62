-- A write that has its blocks written may offer its entry at an empty slot.
use Rattle.std.proofs.Common.{◌≡◌, ◌≢◌, ◌⊎◌, inl, inr, ℕ, ◌+◌, ◌*◌, ◌<◌, ◌≤◌, not, Bool, true, false, List, [], ◌∷◌, ◌++◌, length, length-append, slice_index, refl, sym, ap, subst, ◌∙◌, arith}
use Rattle.std.proofs.Math.ListN.{get_or-map}
use Rattle.std.proofs.Math.Seq.{get_or-append_seam}
use Rattle.std.proofs.lemmas.Bool.{eq-eqb, ne_eqb, cases_lt, and_from}
use Rattle.std.proofs.lemmas.List.{length-map, get_or_append_left}
use Rattle.std.proofs.lemmas.Grind.{same_number_lists}
use Rattle.log_entry.specs.Words.{entry_word}
use Rattle.log_entry.specs.declared.entries.Entry.TheVariants.{Direct, Indirect}
use Rattle.log_entry.specs.declared.shapes.Area.TheVariants.{Data}
use Rattle.log_image.specs.Chains.{all_different, is_listed}
use Rattle.log_image.proofs.SetWordLemmas.{not_last}
use Rattle.pmem_words.specs.Owned.{owned_at}
use Rattle.pmem_words.specs.declared.keeps.Task.TheVariants.{Pwrite}
use Rattle.pmem_words.specs.declared.owned.OwnedBlock.{OwnedBlock}
use Rattle.pmem_words.specs.Seats.{Seat}
use Rattle.log_core.specs.Entries.{place_in}
use Rattle.log_core.specs.Views.{Ghost, view_of}
use Rattle.log_core.specs.Origin.{Origin}
use Rattle.log_core.specs.Cores.{Core}
use Rattle.log_core.specs.Works.{seat_shape, words_of, owned_block}
use Rattle.log_core.specs.Needs.{owned_numbers}
use Rattle.log_core.specs.May.{MayCommit}
use Rattle.log_core.specs.Invariant.{Invariant}
use Rattle.log_core.specs.Knows.{Knows}
use Rattle.log_core.proofs.ChainWords.{front_different}
use Rattle.log_core.proofs.TailEnds.{walked, same_words}
use Rattle.log_core.proofs.writes.OwnAreas.{owns_whole}
use Rattle.log_core.proofs.writes.PlacedBytes.{HasBytes}
use Rattle.log_core.proofs.writes.RunLists.{blocks_of}
use Rattle.log_core.proofs.writes.IndirectBlocks.{indirect_content}
use Rattle.log_core.proofs.writes.WholeWrites.{may_commit_whole}
use Rattle.log_core.proofs.writes.RunWrites.{IsWriting, IsRunWrite, run_is_whole}
use Rattle.log_core.proofs.writes.RunsWrites.{IsRunsWrite, HasWords, runs_are_whole}
use Rattle.log_blocks.specs.PutWithin.{MayOffer}
use Rattle.write_any.specs.Composing.{block_count, virt_at, entry_by, entry_for, IsWhole}
use Rattle.write_any.specs.WriteWithin.{MayWrite}
use Rattle.write_any.proofs.FirstStages.{takes_in, whole_so}
use Rattle.write_any.proofs.WriteStanding.{unmarked, unmarked_all, HoldsBytes, AreOneRun, AreRunsOf, AreComposed, AtSlot}

-- an owned block but for its marks, and its number, by its place
unmarked_at : (owned : List OwnedBlock) (place : ℕ) → owned_at (unmarked_all owned) place ≡ unmarked (owned_at owned place)
unmarked_at owned place = get_or-map unmarked owned place (owned_at [] 0)

number_at : (owned : List OwnedBlock) (place : ℕ) → slice_index (owned_numbers owned) place ≡ (owned_at owned place).block
number_at owned place = get_or-map (λ (o : OwnedBlock). o.block) owned place (owned_at [] 0)

-- different numbers stay so when the last becomes the first
last_first : (front : List ℕ) (last : ℕ) → all_different (front ++ last ∷ []) ≡ true → all_different (last ∷ front) ≡ true
last_first front last once = and_from (not (is_listed front last)) (all_different front) (by (is_listed front last) refl) (front_different front (last ∷ []) once)
  where
    by : (b : Bool) → is_listed front last ≡ b → not b ≡ true
    by true is = absurd (not_last front last [] once last is refl)
    by false is = refl

module _ (offset : ℕ) (o : Origin) (seat : ℕ) (s0 : Seat) (g0 : Ghost) (may : MayWrite offset o seat s0 g0) where
  -- in a core that knows the seat
  module _ (t : Seat) (h : Ghost) (slot : AtSlot offset o seat s0 g0 t h) (c : Core) (pin began : ℕ) (inv : Invariant o c) (unspent : (view_of c.views seat).parts ≢ []) (f : Knows o c seat t h pin began) where
    abbrev word : ℕ
    word = place_in (seat_shape t) t.walk.tail_block t.walk.tail_slot

    abbrev owned : List OwnedBlock
    owned = t.blocks.owned

    composed : AreComposed offset o seat s0 g0 (unmarked_all owned) t.blocks.contents
    composed = slot.owns.written.composed

    whole : IsWhole offset t
    whole = whole_so offset o seat s0 g0 may t slot.writing.rest

    count_is : block_count t ≡ block_count s0
    count_is = ap block_count slot.writing.rest

    long : length (unmarked_all owned) ≡ length owned
    long = length-map owned unmarked

    inside_block : t.walk.tail_slot < words_of t
    inside_block =
        (let upto = (walked o c seat t h pin began inv f unspent slot.here.valid slot.here.ready).upto in
        let same = same_words o c seat t h pin began inv f unspent slot.here.valid slot.here.ready in
        let other = slot.inside in
        omega (arith, upto, same, other))

    -- it runs a `pwrite` of whole blocks
    writing : IsWriting t word (virt_at offset t) (block_count t)
    writing = record {
      at_tail = record { valid = slot.here.valid; ready = slot.here.ready; not_won = slot.writing.not_won; at_tail = slot.here.at_tail };
      slot = refl;
      inside = inside_block;
      below_last = slot.here.below;
      job = ap (λ (u : Seat). u.calling.job) slot.writing.rest ∙ (may.job ∙ ap (λ (n : ℕ). Pwrite n) whole.starts);
      long = whole.bytes;
      some = whole.some;
      few = whole.few;
      within = whole.inside;
    }

    -- each owned block is a data block, and fenced
    area_at : (place : ℕ) → place < length owned → (owned_at owned place).area ≡ Data
    area_at place inside = sym (ap (λ (b : OwnedBlock). b.area) (unmarked_at owned place)) ∙ composed.in_data place (let same = long in omega (arith, inside, same))

    -- and holds the bytes of the virtual block at its place
    holds : (place block : ℕ) → owned_block t place ≡ block → place < block_count t → place < length owned → HasBytes t block (place * t.geometry.block_bytes)
    holds place block is low inside = record {
      place = place;
      inside = inside;
      block_is = is;
      fenced = slot.owns.written.fenced place inside;
      area = area_at place inside;
      bytes = subst (λ (u : Seat). HoldsBytes offset o seat u g0 t.blocks.contents place) (sym slot.writing.rest) (composed.holds place (let same = count_is in omega (arith, low, same)));
    }

    -- blocks that are one run
    module _ (one : AreOneRun offset o seat s0 g0 (unmarked_all owned)) where
      one_many : length owned ≡ block_count t
      one_many = sym long ∙ (one.many ∙ sym count_is)

      follows : (place : ℕ) → place < block_count t → owned_block t place ≡ owned_block t 0 + place
      follows place low = sym (ap (λ (b : OwnedBlock). b.block) (unmarked_at owned place))
          ∙ (one.each place (let same = count_is in omega (arith, low, same)) ∙ ap (λ (b : OwnedBlock). b.block + place) (unmarked_at owned 0))

      run : IsRunWrite t word (virt_at offset t) (owned_block t 0) (block_count t)
      run = record { writing = writing; each = λ place low. holds place (owned_block t 0 + place) (follows place low) low (let many = one_many in omega (arith, low, many)) }

      commits_run : MayCommit o c.history t word (entry_for offset t)
      commits_run = subst (λ (entry : ℕ). MayCommit o c.history t word entry)
          (sym (ap (λ (b : Bool). entry_word (entry_by b offset t)) (eq-eqb (block_count t) (length owned) (sym one_many))))
          (may_commit_whole o c seat t h pin began inv unspent f word (entry_word (Direct (virt_at offset t) (owned_block t 0) (block_count t) 0))
          (run_is_whole o c seat t h pin began inv unspent f word (virt_at offset t) (owned_block t 0) (block_count t) run))

    -- blocks of several runs, and one that holds the runs' words
    module _ (runs : AreRunsOf offset o seat s0 g0 (unmarked_all owned) t.blocks.contents) where
      abbrev blocks : List ℕ
      blocks = blocks_of runs.runs

      abbrev holder : ℕ
      holder = owned_block t (block_count t)

      runs_many : length owned ≡ block_count t + 1
      runs_many = sym long ∙ (runs.many ∙ ap (λ (n : ℕ). n + 1) (sym count_is))

      blocks_long : length blocks ≡ block_count t
      blocks_long = runs.long ∙ sym count_is

      block_at : (place : ℕ) → place < block_count t → slice_index blocks place ≡ owned_block t place
      block_at place low = runs.blocks place (let same = count_is in omega (arith, low, same)) ∙ ap (λ (b : OwnedBlock). b.block) (unmarked_at owned place)

      numbers_long : length (owned_numbers owned) ≡ length (blocks ++ holder ∷ [])
      numbers_long = (let all = length-map owned (λ (b : OwnedBlock). b.block) in let joined = length-append blocks (holder ∷ []) in let many = runs_many in let same = blocks_long in
          omega (arith, all, joined, many, same))

      numbers_are : owned_numbers owned ≡ blocks ++ holder ∷ []
      numbers_are = same_number_lists (owned_numbers owned) (blocks ++ holder ∷ []) numbers_long (λ k low. by k low (cases_lt k (block_count t)))
        where
          by : (k : ℕ) → k < length (owned_numbers owned) → (k < block_count t) ⊎ (block_count t ≤ k) → slice_index (owned_numbers owned) k ≡ slice_index (blocks ++ holder ∷ []) k
          by k low (inl before) = number_at owned k ∙ (sym (block_at k before) ∙ sym (get_or_append_left blocks (holder ∷ []) 0 k (let same = blocks_long in omega (arith, before, same))))
          by k low (inr past) =
              (let all = length-map owned (λ (b : OwnedBlock). b.block) in let many = runs_many in let same = blocks_long in
              let last : k ≡ length blocks = omega (arith, low, past, all, many, same) in
              number_at owned k
              ∙ (ap (λ (n : ℕ). owned_block t n) (last ∙ blocks_long)
              ∙ sym (ap (λ (n : ℕ). slice_index (blocks ++ holder ∷ []) n) last ∙ get_or-append_seam blocks holder [] 0)))

      written_runs : IsRunsWrite t word (virt_at offset t) holder runs.runs
      written_runs = record {
        writing = subst (λ (n : ℕ). IsWriting t word (virt_at offset t) n) (sym blocks_long) writing;
        are_runs = runs.are_runs;
        once = last_first blocks holder (sym (ap (λ (l : List ℕ). all_different l) numbers_are) ∙ (owns_whole o c seat t h pin began inv unspent f).once);
        each = λ place low. (let before : place < block_count t = (let same = blocks_long in omega (arith, low, same)) in
            holds place (slice_index blocks place) (sym (block_at place before)) before (let many = runs_many in omega (arith, before, many)));
        held = held;
      }
        where
          inside : block_count t < length owned
          inside = (let many = runs_many in omega (arith, many))

          held : HasWords t holder (indirect_content (words_of t) (virt_at offset t) 0 runs.runs)
          held = record {
            place = block_count t;
            inside = inside;
            block_is = refl;
            fenced = slot.owns.written.fenced (block_count t) inside;
            area = area_at (block_count t) inside;
            each = subst (λ (u : Seat). (index : ℕ) → index < words_of u → slice_index t.blocks.contents (block_count u * words_of u + index) ≡ slice_index (indirect_content (words_of u) (virt_at offset u) 0 runs.runs) index)
                (sym slot.writing.rest) runs.words;
          }

      commits_runs : MayCommit o c.history t word (entry_for offset t)
      commits_runs = subst (λ (entry : ℕ). MayCommit o c.history t word entry)
          (sym (ap (λ (b : Bool). entry_word (entry_by b offset t)) (ne_eqb (block_count t) (length owned) (λ same. (let many = runs_many in omega (arith, same, many))))))
          (may_commit_whole o c seat t h pin began inv unspent f word (entry_word (Indirect holder))
          (runs_are_whole o c seat t h pin began inv unspent f word (virt_at offset t) holder runs.runs written_runs))

    commits_by : AreOneRun offset o seat s0 g0 (unmarked_all owned) ⊎ AreRunsOf offset o seat s0 g0 (unmarked_all owned) t.blocks.contents → MayCommit o c.history t word (entry_for offset t)
    commits_by (inl one) = commits_run one
    commits_by (inr runs) = commits_runs runs

  pub offers : (t : Seat) (h : Ghost) → AtSlot offset o seat s0 g0 t h → MayOffer (entry_for offset t) o seat t h
  offers t h slot = record {
    takes_in = takes_in offset o seat s0 g0 may t h slot.writing;
    none_kept = slot.here.none_kept;
    commits = λ c pin began inv unspent f. commits_by t h slot c pin began inv unspent f slot.owns.written.composed.form;
  }
