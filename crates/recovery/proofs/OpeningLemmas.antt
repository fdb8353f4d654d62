-- What an image holds of which no condition holds.
use Rattle.std.proofs.Common.{◌≡◌, ◌<◌, ◌≤◌, ◌+◌, ◌-◌, ◌*◌, ◌^◌, ℕ, zero, suc, Bool, true, List, [], ◌∷◌, ◌++◌, length, get_or, Err, refl, sym, ap, ◌∙◌, subst, arith}
use Rattle.std.specs.List.{list_all}
use Rattle.std.proofs.lemmas.List.{append-nil, length-append, get_or_default}
use Rattle.log_entry.proofs.WordBytesLemmas.{eight_each}
use Rattle.log_entry.specs.Fields.{field}
use Rattle.log_entry.specs.declared.layouts.TheConstants.{HEAD_GENERATION}
use Rattle.log_entry.specs.WordBytes.{word_bytes}
use Rattle.log_entry.specs.declared.shapes.Geometry.{Geometry}
use Rattle.log_image.specs.Image.{Shape, block_words}
use Rattle.log_image.specs.Header.{shape_of, generation_of}
use Rattle.log_image.specs.Entries.{Meaning, all_names}
use Rattle.log_image.specs.Positions.{entries_of, position_of, size_at_end}
use Rattle.log_image.specs.Taken.{HasTaken, HasBits}
use Rattle.log_image.specs.Tails.{Tail as ImageTail, last_block, tail_in, tail_of}
use Rattle.log_image.specs.Stands.{StandsBy}
use Rattle.log_image.proofs.HoldingLemmas.{both_left, both_right}
use Rattle.opening_rules.specs.Walks.{end_place}
use Rattle.opening_rules.specs.Opening.{Refuses, AcceptsBytes, chain_of}
use Rattle.opening_rules.proofs.Accepted.{accepted_chain, file_of, stands_by}
use Rattle.recovery.specs.declared.refusals.OpenRefusal.{OpenRefusal}
use Rattle.recovery.specs.declared.refusals.OpenRefusal.TheVariants.{Bad, NoMemory}
use Rattle.recovery.specs.declared.tails.Tail.{Tail}
use Rattle.recovery.specs.declared.reading.Reading.{Reading}
use Rattle.recovery.specs.Openings.{IsOpened, as_tail}
use Rattle.recovery.specs.OpenAnswers.{OpensWords, OpensBytes}
use Rattle.recovery.specs.Passing.{PassesConditions, PassAnswers}

-- the last of some blocks, by its place
last_at : (block : ℕ) (rest : List ℕ) → get_or (block ∷ rest) (length rest) 0 ≡ last_block block rest
last_at block [] = refl
last_at block (next ∷ rest) = last_at next rest

pub last_of_chain : (chain : List ℕ) (block : ℕ) (rest : List ℕ) → chain ≡ block ∷ rest → get_or chain (length chain - 1) 0 ≡ last_block 0 chain
last_of_chain chain block rest same =
    let place : length (block ∷ rest) - 1 ≡ length rest = omega arith in
    subst (λ (l : List ℕ). get_or l (length l - 1) 0 ≡ last_block 0 l) (sym same) (rw place (last_at block rest))

-- the tail in the last block is that of the chain
pub tail_by : (words : List ℕ) (shape : Shape) (chain : List ℕ) (block : ℕ) (rest : List ℕ) (count last : ℕ) (content : List ℕ) (tail : ImageTail) → chain ≡ block ∷ rest → count ≡ length chain →
    last ≡ get_or chain (count - 1) last → content ≡ block_words words shape last → shape ≡ shape_of words → tail ≡ tail_in last content → tail ≡ tail_of words (shape_of words) chain
tail_by words shape chain block rest count last content tail same counted at content_is shape_is is =
    let some : length chain ≡ suc (length rest) = ap length same ∙ omega arith in
    let place : last ≡ get_or chain (length chain - 1) 0 = at ∙ ap (λ (n : ℕ). get_or chain (n - 1) last) counted ∙ get_or_default chain (length chain - 1) last 0 (omega (arith, some)) in
    is ∙ ap (tail_in last) (content_is ∙ ap (λ (s : Shape). block_words words s last) shape_is)
    ∙ ap (λ (b : ℕ). tail_in b (block_words words (shape_of words) b)) (place ∙ last_of_chain chain block rest same)

-- what all blocks are, each is
pub each_of_chain : (p : ℕ → Bool) (chain : List ℕ) (place : ℕ) → list_all p chain ≡ true → place < length chain → p (get_or chain place 0) ≡ true
each_of_chain p [] place all inside = absurd (omega (arith, inside))
each_of_chain p (block ∷ chain) zero all inside = both_left (p block) (list_all p chain) all
each_of_chain p (block ∷ chain) (suc place) all inside = each_of_chain p chain place (both_right (p block) (list_all p chain) all) (omega (arith, inside))

-- the bitmap has the blocks that the chain names
taken_by : (words : List ℕ) (shape : Shape) (chain taken blocks : List ℕ) (entries : List Meaning) → HasBits shape taken (blocks ++ all_names entries) → blocks ≡ chain → entries ≡ entries_of words shape chain → HasTaken words shape chain taken
taken_by words shape chain taken blocks entries bits same_blocks same_entries =
    subst (λ (l : List ℕ). HasBits shape taken (l ++ all_names (entries_of words shape chain))) same_blocks (subst (λ (l : List Meaning). HasBits shape taken (blocks ++ all_names l)) same_entries bits)

-- what an image holds
pub holds_by : (words : List ℕ) (geometry : Geometry) (reading : Reading) (generation : ℕ) (tail : Tail) → PassesConditions (8 * length words) words geometry reading →
    generation_of words ≡ generation → as_tail tail ≡ tail_of words (shape_of words) reading.chain.items → IsOpened geometry words reading.taken.items generation reading.position reading.table.size tail
holds_by words geometry reading generation tail passed same_generation same_tail =
    let walked = accepted_chain (8 * length words) words passed.rest passed.accepts in
    let chain : List ℕ = chain_of words passed.rest in
    let agrees = passed.ends.agrees in
    let stands : StandsBy words chain (file_of words passed.rest) (position_of words (shape_of words) chain) = stands_by words passed.rest passed.accepts in
    let position : position_of words (shape_of words) chain ≡ reading.position = sym (agrees.position ∙ walked.position) in
    let size : size_at_end words (shape_of words) chain ≡ reading.table.size = sym (agrees.size ∙ walked.size) in
    let before : (end_place words (shape_of words) passed.rest).before ≡ chain = sym agrees.chain ∙ passed.ends.chain in
    record {
      rest = passed.rest;
      accepts = passed.accepts;
      file = file_of words passed.rest;
      stands = subst (λ (at : ℕ). StandsBy words chain (file_of words passed.rest) at) position stands;
      same_size = sym stands.stands.ends_with ∙ size;
      same_geometry = record {
        same_data = ap (λ (shape : Shape). shape.data_blocks) passed.shape;
        same_log = ap (λ (shape : Shape). shape.log_blocks) passed.shape;
        same_bytes = ap (λ (shape : Shape). shape.block_bytes) passed.shape;
      };
      same_generation = same_generation;
      bitmap = taken_by words (shape_of words) chain reading.taken.items (end_place words (shape_of words) passed.rest).before (end_place words (shape_of words) passed.rest).entries agrees.bits before walked.entries;
      same_tail = subst (λ (l : List ℕ). as_tail tail ≡ tail_of words (shape_of words) l) passed.ends.chain same_tail;
    }

-- the generation, as it is read
pub generation_by : (words : List ℕ) (word generation : ℕ) → 4 ≤ length words → word ≡ get_or words 3 word → generation ≡ field HEAD_GENERATION word → generation_of words ≡ generation
generation_by words word generation long read is = ap (field HEAD_GENERATION) (get_or_default words 3 0 word (omega (arith, long)) ∙ sym read) ∙ sym is

-- a refusal of words
pub words_refused : (words : List ℕ) (refusal : OpenRefusal) → PassAnswers (Err refusal) (8 * length words) words → OpensWords (Err refusal) words
words_refused words (Bad why) refuses = refuses
words_refused words NoMemory refuses = tt

-- as many bytes as eight for each word and the rest
pub length-with_rest : (words rest : List ℕ) → length (word_bytes words ++ rest) ≡ 8 * length words + length rest
length-with_rest words rest = omega (arith, eight_each words, length-append (word_bytes words) rest)

-- a refusal of the bytes of words with fewer than 8 after them
pub bytes_refused : (words rest : List ℕ) (bytes : ℕ) (refusal : OpenRefusal) → PassAnswers (Err refusal) bytes words → bytes ≡ 8 * length words + length rest → length rest < 8 → ((index : ℕ) → get_or words index 0 < 2 ^ 64) →
    OpensBytes (Err refusal) (word_bytes words ++ rest)
bytes_refused words rest bytes NoMemory refuses count few small = tt
bytes_refused words rest bytes (Bad why) refuses count few small = record {
  words = words;
  are_words = record { rest = rest; bytes_are = refl; few = few; small = small };
  refuses = subst (λ (n : ℕ). Refuses n words why) (count ∙ sym (length-with_rest words rest)) refuses;
}

none_left : (bytes rest : List ℕ) → length rest ≡ 0 → bytes ++ rest ≡ bytes
none_left bytes [] none = append-nil bytes
none_left bytes (byte ∷ rest) none = absurd (omega (arith, none))

-- an accepted image of such bytes
pub bytes_accepted : (words rest : List ℕ) (bytes : ℕ) (geometry : Geometry) (reading : Reading) (opened : List ℕ) → PassesConditions bytes words geometry reading → bytes ≡ 8 * length words + length rest → opened ≡ words →
    ((index : ℕ) → get_or words index 0 < 2 ^ 64) → (chain : List ℕ) × AcceptsBytes (word_bytes words ++ rest) opened chain
bytes_accepted words rest bytes geometry reading opened passed count same small =
    rw same (
      passed.rest,
      record {
        bytes_are = none_left (word_bytes words) rest (omega (arith, count, passed.exact));
        small = small;
        accepts = rw passed.exact at passed.accepts;
      },
    )
