-- The entry of a run of blocks.
use Rattle.std.proofs.Common.{◌≡◌, ◌≢◌, ◌<◌, ◌≤◌, ◌+◌, ◌*◌, ◌==◌, ◌&&◌, ◌||◌, ◌^◌, ◌⊎◌, inl, inr, max, ℕ, zero, suc, Bool, true, false, List, [], ◌∷◌, ◌++◌, length, set, nat_le, nat_lt, if◌then◌else◌, refl, sym, ap, ◌∙◌, subst, arith}
use Rattle.std.specs.List.{range_with_len, list_all}
use Rattle.std.proofs.lemmas.Bool.{cases_lt, le-leb, lt-ltb}
use Rattle.std.proofs.lemmas.Bool.Decides.{nat_tests}
use Rattle.block_table.specs.FileMap.{FileMap}
use Rattle.log_entry.specs.Fields.{field}
use Rattle.log_entry.specs.Words.{entry_word}
use Rattle.log_entry.specs.declared.entries.Entry.TheVariants.{Direct}
use Rattle.log_entry.specs.declared.layouts.TheConstants.{ENTRY_KIND, DIRECT_VIRT, DIRECT_BLOCK, DIRECT_COUNT, DIRECT_LEFTOVER, DIRECT_UNNAMED}
use Rattle.log_image.specs.Image.{Shape, words_in, is_in_log}
use Rattle.log_image.specs.Entries.{Meaning, direct_meaning, meaning}
use Rattle.log_image.specs.Maps.{entry_end}
use Rattle.log_image.specs.Positions.{entries_of}
use Rattle.log_image.specs.Format.{is_log_entry}
use Rattle.log_image.specs.Taken.{bit_of, is_taken}
use Rattle.image_steps.specs.Steps.{IsEntryOf, fits_log}
use Rattle.log_image.specs.Chains.{is_listed}
use Rattle.std.proofs.lemmas.List.{get_or-set_other}
use Rattle.log_image.proofs.EntrySteps.{direct_entries}
use Rattle.chain_reader.specs.Tables.{HasMap, HasSize}
use Rattle.plain_engine.specs.Running.{Runs, AllTakenBefore}
use Rattle.plain_engine.specs.Engine.{KeepsFirstBlock}
use Rattle.plain_engine.proofs.BoundsLemmas.{past_first}
use Rattle.plain_engine.proofs.RunningSteps.{entry_put}

-- the fields of the word of a direct entry
pub record HasFields (word virt block count leftover : ℕ) : Type 0 where
  pub kind : field ENTRY_KIND word ≡ 1
  pub virt_is : field DIRECT_VIRT word ≡ virt
  pub block_is : field DIRECT_BLOCK word ≡ block
  pub count_is : field DIRECT_COUNT word + 1 ≡ count
  pub leftover_is : field DIRECT_LEFTOVER word ≡ leftover
  pub unnamed : field DIRECT_UNNAMED word ≡ 0

pub word_fields : (virt block count leftover : ℕ) → virt < 65536 → block < 65536 → 1 ≤ count → count ≤ 256 → leftover < 4096 → HasFields (entry_word (Direct virt block count leftover)) virt block count leftover
word_fields virt block count leftover small_virt small_block some few left = record {
  kind = omega (arith, small_virt, small_block, some, few, left);
  virt_is = omega (arith, small_virt, small_block, some, few, left);
  block_is = omega (arith, small_virt, small_block, some, few, left);
  count_is = omega (arith, small_virt, small_block, some, few, left);
  leftover_is = omega (arith, small_virt, small_block, some, few, left);
  unnamed = omega (arith, small_virt, small_block, some, few, left);
}

-- a number is in a range
pub in_range_test : (first count number : ℕ) → is_listed (range_with_len first count) number ≡ (nat_le first number && nat_lt number (first + count))
in_range_test first zero number = never first number
  where
    never : (first number : ℕ) → false ≡ (nat_le first number && nat_lt number (first + 0))
    never first number = grind (arith, nat_tests)
in_range_test first (suc count) number = ap (λ (b : Bool). first == number || b) (in_range_test (first + 1) count number) ∙ step first count number
  where
    step : (first count number : ℕ) → (first == number || (nat_le (first + 1) number && nat_lt number (first + 1 + count))) ≡ (nat_le first number && nat_lt number (first + suc count))
    step first count number = (let same : first + suc count ≡ first + 1 + count = omega arith in rw same (grind (arith, nat_tests)))

-- a direct entry that fits is an entry, and means what it says
pub entry_is : (shape : Shape) (image : List ℕ) (word : ℕ) → fits_log shape word ≡ true → (is_log_entry image shape word ≡ true) × (meaning image shape word ≡ direct_meaning word)
entry_is shape image word fitting =
    let both : (list_all (is_log_entry image shape) (word ∷ []) ≡ true) × (meaning image shape word ∷ [] ≡ direct_meaning word ∷ []) = direct_entries shape image (word ∷ []) (ap (λ (b : Bool). b && true) fitting) in
    (alone (is_log_entry image shape word) both.0, cc)
  where
    alone : (b : Bool) → (b && true) ≡ true → b ≡ true
    alone true is = refl
    alone false is = is

-- the entry of a run of blocks is put into the tail's slot
pub commit_runs : (shape : Shape) (words taken new_taken : List ℕ) (table new_table : FileMap) (position tail_block tail_slot first_clear : ℕ) (chain file new_file : List ℕ) (word block count : ℕ) → Runs shape words taken table position tail_block tail_slot first_clear chain file →
    tail_slot ≢ words_in shape → position + 1 < 2 ^ 40 → fits_log shape word ≡ true → IsEntryOf words shape chain file new_file word → (direct_meaning word).blocks ≡ range_with_len block count →
    length new_taken ≡ length taken → ((other : ℕ) → bit_of new_taken other ≡ (if nat_le block other && nat_lt other (block + count) then 1 else bit_of taken other)) →
    ((entries : List Meaning) → HasMap table entries → HasMap new_table (entries ++ meaning words shape word ∷ [])) →
    ((before : ℕ) (entries : List Meaning) → HasSize table shape before entries → HasSize new_table shape before (entries ++ meaning words shape word ∷ [])) →
    AllTakenBefore words shape chain block →
    Runs shape (set words (tail_block * words_in shape + tail_slot) word) new_taken new_table (position + 1) tail_block (tail_slot + 1) (block + count) chain new_file
commit_runs shape words taken new_taken table new_table position tail_block tail_slot first_clear chain file new_file word block count runs slot room fitting entry is_run same_bits marks maps sizes least =
    let means : meaning words shape word ≡ direct_meaning word = (entry_is shape words word fitting).1 in
    entry_put shape words taken new_taken table new_table position tail_block tail_slot first_clear (block + count) chain file new_file word runs slot room entry same_bits
    (λ other. marks other ∙ ap (λ (b : Bool). if b then 1 else bit_of taken other) (sym (in_range_test block count other) ∙ ap (λ (l : List ℕ). is_listed l other) (sym is_run)))
    (subst (λ (m : Meaning). HasMap new_table (entries_of words shape chain ++ m ∷ [])) means (maps (entries_of words shape chain) runs.fits.map))
    ((sizes table.size [] (record { same = refl })).same ∙ ap (λ (m : Meaning). max table.size (entry_end shape m)) means ∙ ap (λ (n : ℕ). max n (entry_end shape (direct_meaning word))) runs.fits.size ∙ sym entry.size)
    (λ other some before. go other some before (cases_lt other block))
  where
    go : (other : ℕ) → 1 ≤ other → other < block + count → (other < block) ⊎ (block ≤ other) → (is_taken words shape chain other ≡ true) ⊎ (is_listed (direct_meaning word).blocks other ≡ true)
    go other some before (inl low) = inl (least other some low)
    go other some before (inr high) = inr (ap (λ (l : List ℕ). is_listed l other) is_run ∙ in_range_test block count other ∙ rw (le-leb block other high, lt-ltb other (block + count) before) refl)

-- the blocks of a run's entry
pub run_blocks_are : (virt block count leftover : ℕ) → virt < 65536 → block < 65536 → 1 ≤ count → count ≤ 256 → leftover < 4096 → (direct_meaning (entry_word (Direct virt block count leftover))).blocks ≡ range_with_len block count
run_blocks_are virt block count leftover small_virt small_block some few left =
    let is : HasFields (entry_word (Direct virt block count leftover)) virt block count leftover = word_fields virt block count leftover small_virt small_block some few left in
    ap (λ (n : ℕ). range_with_len n (field DIRECT_COUNT (entry_word (Direct virt block count leftover)) + 1)) is.block_is ∙ ap (λ (n : ℕ). range_with_len block n) is.count_is

-- the same, by what the code has
pub commit_by : (shape : Shape) (words seen taken seen_taken marked : List ℕ) (table new_table : FileMap) (position tail_block tail_slot first_clear : ℕ) (chain file new_file : List ℕ) (word virt block count leftover size : ℕ) → Runs shape words taken table position tail_block tail_slot first_clear chain file →
    tail_slot ≢ words_in shape → position + 1 < 2 ^ 40 → virt < 65536 → block < 65536 → 1 ≤ count → count ≤ 256 → leftover < 4096 → entry_word (Direct virt block count leftover) ≡ word → fits_log shape (entry_word (Direct virt block count leftover)) ≡ true →
    IsEntryOf words shape chain file new_file (entry_word (Direct virt block count leftover)) → size ≡ words_in shape → seen ≡ words → seen_taken ≡ taken → length marked ≡ length seen_taken →
    ((other : ℕ) → bit_of marked other ≡ (if nat_le block other && nat_lt other (block + count) then 1 else bit_of seen_taken other)) →
    ((entries : List Meaning) → HasMap table entries → HasMap new_table (entries ++ meaning seen shape word ∷ [])) →
    ((before : ℕ) (entries : List Meaning) → HasSize table shape before entries → HasSize new_table shape before (entries ++ meaning seen shape word ∷ [])) →
    AllTakenBefore words shape chain block →
    Runs shape (set words (tail_block * size + tail_slot) word) marked new_table (position + 1) tail_block (tail_slot + 1) (block + count) chain new_file
commit_by shape words seen taken seen_taken marked table new_table position tail_block tail_slot first_clear chain file new_file word virt block count leftover size runs slot room small_virt small_block some few left same fitting entry is_size is_seen is_taken_seen long marks maps sizes least =
    subst (λ (n : ℕ). Runs shape (set words (tail_block * n + tail_slot) word) marked new_table (position + 1) tail_block (tail_slot + 1) (block + count) chain new_file) (sym is_size)
    (commit_runs shape words taken marked table new_table position tail_block tail_slot first_clear chain file new_file word block count runs slot room
    (subst (λ (w : ℕ). fits_log shape w ≡ true) same fitting) (subst (λ (w : ℕ). IsEntryOf words shape chain file new_file w) same entry)
    (subst (λ (w : ℕ). (direct_meaning w).blocks ≡ range_with_len block count) same (run_blocks_are virt block count leftover small_virt small_block some few left))
    (long ∙ ap length is_taken_seen)
    (subst (λ (l : List ℕ). (other : ℕ) → bit_of marked other ≡ (if nat_le block other && nat_lt other (block + count) then 1 else bit_of l other)) is_taken_seen marks)
    (subst (λ (l : List ℕ). (entries : List Meaning) → HasMap table entries → HasMap new_table (entries ++ meaning l shape word ∷ [])) is_seen maps)
    (subst (λ (l : List ℕ). (before : ℕ) (entries : List Meaning) → HasSize table shape before entries → HasSize new_table shape before (entries ++ meaning l shape word ∷ [])) is_seen sizes)
    least)

-- a slot of the tail is inside the image
pub slot_place : (tail_block tail_slot size small whole : ℕ) → size ≡ small → tail_slot ≤ small → tail_slot ≢ small → tail_block * small + small ≤ whole → tail_block * size + tail_slot < whole
slot_place tail_block tail_slot size small whole same inside other room = omega (arith, ap (λ (n : ℕ). tail_block * n) same, inside, other, room)

-- block 0 has none of the tail's words
pub commit_first : (shape : Shape) (words : List ℕ) (tail_block tail_slot size word : ℕ) → size ≡ words_in shape → is_in_log shape tail_block ≡ true → KeepsFirstBlock shape words (set words (tail_block * size + tail_slot) word)
commit_first shape words tail_block tail_slot size word is_size area = λ place inside.
    let far : words_in shape ≤ tail_block * words_in shape = past_first shape tail_block area in
    get_or-set_other words (tail_block * size + tail_slot) place word 0 (λ e. omega (arith, e, inside, far, ap (λ (n : ℕ). tail_block * n) is_size))
