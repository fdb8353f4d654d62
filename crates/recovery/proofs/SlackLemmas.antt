-- Bytes of a virtual block past the end of the file.
use Rattle.std.proofs.Common.{◌≡◌, ◌<◌, ◌≤◌, ◌+◌, ◌-◌, ◌*◌, ◌/◌, ℕ, Bool, true, false, List, length, drop, get_or, Some, None, sym, ap, ◌∙◌, subst, arith, IsTrue, inl, inr}
use Rattle.std.proofs.Math.Nat.{mul-le-mul_right}
use Rattle.std.proofs.lemmas.Bool.{cases_lt}
use Rattle.std.proofs.lemmas.Bool.Decides.{nat_tests}
use Rattle.std.proofs.lemmas.List.{get_or-drop, length-drop}
use Rattle.block_table.specs.FileMap.{FileMap, block_at}
use Rattle.block_table.specs.Runs.{IsUnmappedFrom, IsNextRun}
use Rattle.block_table.specs.declared.map_run.MapRun.{MapRun}
use Rattle.log_entry.specs.Shape.{is_block_bytes}
use Rattle.log_entry.specs.WordBytes.{word_bytes}
use Rattle.log_entry.proofs.WordBytesLemmas.{eight_each}
use Rattle.log_image.specs.Image.{Shape, words_in, block_words, block_content}
use Rattle.log_image.specs.Entries.{Meaning}
use Rattle.log_image.specs.Maps.{map_of}
use Rattle.opening_rules.specs.Slack.{HasSlack, HasNoSlack}
use Rattle.chain_reader.specs.Tables.{HasMap}
use Rattle.recovery.specs.Slacks.{is_some_nonzero}
use Rattle.recovery.proofs.ByteLemmas.{nonzero_found, nonzero_none}

-- a byte at or past the file's end, by how far it stands past the kept bytes
past_kept : (size first kept place : ℕ) → kept ≡ size - first → size ≤ first + (kept + place)
past_kept size first kept place is = omega arith

-- and the other way round
kept_before : (size first kept at : ℕ) → kept ≡ size - first → size ≤ first + at → kept ≤ at
kept_before size first kept at is past = omega arith

-- a block's words are its bytes
pub whole_block : (bytes : ℕ) → IsTrue (is_block_bytes bytes) → 8 * (bytes / 8) ≡ bytes
whole_block bytes allowed = grind (arith, nat_tests)

-- a block has the byte
pub slack_found : (words : List ℕ) (shape : Shape) (entries : List Meaning) (size virt block kept : ℕ) → map_of entries virt ≡ Some block →
    8 * length (block_words words shape block) ≡ shape.block_bytes → kept ≡ size - virt * shape.block_bytes →
    is_some_nonzero (drop kept (block_content words shape block)) ≡ true → HasSlack words shape entries size virt block
slack_found words shape entries size virt block kept mapped whole is some =
    let content : List ℕ = block_content words shape block in
    let found = nonzero_found (drop kept content) some in
    let long : length content ≡ shape.block_bytes = eight_each (block_words words shape block) ∙ whole in
    let left : found.0 < length content - kept = subst (λ (count : ℕ). found.0 < count) (length-drop kept content) found.1 in
    record {
      mapped = mapped;
      at = kept + found.0;
      inside = omega (arith, long, left);
      past_end = past_kept size (virt * shape.block_bytes) kept found.0 is;
      nonzero = λ zero. found.2 (get_or-drop kept content found.0 0 ∙ zero);
    }

-- a block does not have it
pub slack_none : (words : List ℕ) (shape : Shape) (entries : List Meaning) (size virt block other kept : ℕ) → map_of entries virt ≡ Some block →
    kept ≡ size - virt * shape.block_bytes → is_some_nonzero (drop kept (block_content words shape block)) ≡ false → HasSlack words shape entries size virt other → ⊥
slack_none words shape entries size virt block other kept mapped is none slack =
    let same : block ≡ other = let e : Some block ≡ Some other = sym mapped ∙ slack.mapped in cc in
    let content : List ℕ = block_content words shape block in
    let place : kept + (slack.at - kept) ≡ slack.at = omega (arith, kept_before size (virt * shape.block_bytes) kept slack.at is slack.past_end) in
    let zero : get_or content slack.at 0 ≡ 0 = ap (λ (at : ℕ). get_or content at 0) (sym place) ∙ sym (get_or-drop kept content (slack.at - kept) 0) ∙ nonzero_none (drop kept content) none (slack.at - kept) in
    slack.nonzero (subst (λ (b : ℕ). get_or (block_content words shape b) slack.at 0 ≡ 0) same zero)

-- no virtual block that lies wholly before the end has it
pub slack_before : (words : List ℕ) (shape : Shape) (entries : List Meaning) (size from earlier other : ℕ) → from * shape.block_bytes ≤ size → earlier < from →
    HasSlack words shape entries size earlier other → ⊥
slack_before words shape entries size from earlier other before below slack = omega (arith, mul-le-mul_right shape.block_bytes below, before, slack.inside, slack.past_end)

-- what the answer for a block says, where its bytes are those of its words
pub slack_yes : (words : List ℕ) (shape : Shape) (entries : List Meaning) (size virt block kept : ℕ) (some : Bool) (content : List ℕ) → map_of entries virt ≡ Some block →
    content ≡ block_words words shape block → length content ≡ words_in shape → IsTrue (is_block_bytes shape.block_bytes) → kept ≡ size - virt * shape.block_bytes →
    some ≡ is_some_nonzero (drop kept (word_bytes content)) → some ≡ true → HasSlack words shape entries size virt block
slack_yes words shape entries size virt block kept some content mapped same whole allowed is answer found =
    let long : 8 * length (block_words words shape block) ≡ shape.block_bytes = ap (λ (l : List ℕ). 8 * length l) (sym same) ∙ ap (λ (n : ℕ). 8 * n) whole ∙ whole_block shape.block_bytes allowed in
    slack_found words shape entries size virt block kept mapped long is (ap (λ (l : List ℕ). is_some_nonzero (drop kept (word_bytes l))) (sym same) ∙ sym answer ∙ found)

pub slack_no : (words : List ℕ) (shape : Shape) (entries : List Meaning) (size virt block other kept : ℕ) (some : Bool) (content : List ℕ) → map_of entries virt ≡ Some block →
    content ≡ block_words words shape block → kept ≡ size - virt * shape.block_bytes →
    some ≡ is_some_nonzero (drop kept (word_bytes content)) → some ≡ false → HasSlack words shape entries size virt other → ⊥
slack_no words shape entries size virt block other kept some content mapped same is answer none =
    slack_none words shape entries size virt block other kept mapped is (ap (λ (l : List ℕ). is_some_nonzero (drop kept (word_bytes l))) (sym same) ∙ sym answer ∙ none)

-- the first virtual block of a run is mapped to its first block
pub run_mapped : (table : FileMap) (entries : List Meaning) (from : ℕ) (run : MapRun) → HasMap table entries → IsNextRun table from run → map_of entries run.virt ≡ Some run.block
run_mapped table entries from run maps next =
    let place : run.virt + 0 ≡ run.virt = omega arith in
    let block : run.block + 0 ≡ run.block = omega arith in
    let held : block_at table (run.virt + 0) ≡ Some (run.block + 0) = next.run.held 0 (omega (arith, next.run.some)) in
    sym (maps.each run.virt) ∙ ap (block_at table) (sym place) ∙ held ∙ ap (λ (b : ℕ). Some b) block

-- none has it before the next run
pub slack_before_run : (words : List ℕ) (shape : Shape) (table : FileMap) (entries : List Meaning) (size from : ℕ) (run : MapRun) → HasMap table entries → IsNextRun table from run →
    ((earlier other : ℕ) → earlier < from → HasSlack words shape entries size earlier other → ⊥) → (earlier other : ℕ) → earlier < run.virt → HasSlack words shape entries size earlier other → ⊥
slack_before_run words shape table entries size from run maps next before earlier other below slack =
    elim (cases_lt earlier from) [
      | inl under ↦ before earlier other under slack
      | inr over ↦ (let none : None ≡ Some other = sym (next.first earlier over below) ∙ maps.each earlier ∙ slack.mapped in cc)
    ]

-- nor up to the first virtual block of the next run
pub slack_up_to_run : (words : List ℕ) (shape : Shape) (table : FileMap) (entries : List Meaning) (size from : ℕ) (run : MapRun) → HasMap table entries → IsNextRun table from run →
    ((earlier other : ℕ) → earlier < from → HasSlack words shape entries size earlier other → ⊥) → ((other : ℕ) → HasSlack words shape entries size run.virt other → ⊥) →
    (earlier other : ℕ) → earlier < run.virt + 1 → HasSlack words shape entries size earlier other → ⊥
slack_up_to_run words shape table entries size from run maps next before here earlier other below slack =
    elim (cases_lt earlier run.virt) [
      | inl under ↦ slack_before_run words shape table entries size from run maps next before earlier other under slack
      | inr over ↦ (let same : earlier ≡ run.virt = omega (arith, over, below) in here other (subst (λ (virt : ℕ). HasSlack words shape entries size virt other) same slack))
    ]

-- nor where no run is left
pub slack_nowhere : (words : List ℕ) (shape : Shape) (table : FileMap) (entries : List Meaning) (size from : ℕ) → HasMap table entries → IsUnmappedFrom table from →
    ((earlier other : ℕ) → earlier < from → HasSlack words shape entries size earlier other → ⊥) → HasNoSlack words shape entries size
slack_nowhere words shape table entries size from maps unmapped before virt block slack =
    elim (cases_lt virt from) [
      | inl under ↦ before virt block under slack
      | inr over ↦ (let none : None ≡ Some block = sym (unmapped virt over) ∙ maps.each virt ∙ slack.mapped in cc)
    ]
