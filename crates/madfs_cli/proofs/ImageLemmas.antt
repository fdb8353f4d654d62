-- What an opened image says of the image that a command reads.
use Rattle.std.proofs.Common.{◌≡◌, ◌+◌, ◌*◌, ◌/◌, ◌^◌, ◌<◌, ◌≤◌, ◌==◌, nat_lt, ℕ, Bool, true, false, if◌then◌else◌, List, [], ◌∷◌, ◌++◌, length, get_or, None, Err, length-append, refl, sym, ap, ◌∙◌, subst, ◌⊎◌, inl, inr, Some, Option, arith}
use Rattle.std.specs.List.{list_all}
use Rattle.std.proofs.lemmas.Bool.{ltb-true, ne_eqb, le-ltb}
use Rattle.std.proofs.Math.Nat.{mul-le-mul_right}
use Rattle.io_ends.specs.Taking.{TakesAll, TakesCount}
use Rattle.log_entry.specs.WordBytes.{word_bytes}
use Rattle.log_entry.specs.Geometry.{shape_refusal}
use Rattle.log_entry.proofs.WordBytesLemmas.{eight_each}
use Rattle.log_image.specs.Image.{Shape, words_in, total, is_in_log, block_words}
use Rattle.log_image.specs.Blocks.{slots_of, entry_words, is_closed}
use Rattle.log_image.specs.Header.{shape_of, HasHeader}
use Rattle.log_image.specs.Chains.{IsChain, IsLinked}
use Rattle.log_image.specs.Tails.{AtSlot, AtLink, last_block, tail_in, tail_of, is_after, IsCleared}
use Rattle.log_image.specs.Positions.{position_of}
use Rattle.log_image.specs.JustMade.{first_log, IsJustMade}
use Rattle.log_image.specs.Laws.{JustMadeStands, StaysCleared}
use Rattle.log_image.specs.Stands.{StandsBy}
use Rattle.log_image.specs.Recovered.{Recovered}
use Rattle.log_image.specs.declared.starts.Start.{Start}
use Rattle.log_image.proofs.ImageLemmas.{allowed_shape}
use Rattle.log_image.proofs.MadeImages.{by_bytes}
use Rattle.log_image.proofs.HoldingLemmas.{both_left, both_right}
use Rattle.log_image.proofs.OneChain.{one_chain}
use Rattle.log_image.proofs.ClearedImages.{clearing_keeps}
use Rattle.opening_rules.specs.Opening.{RefusesBytes, AcceptsBytes, chain_of}
use Rattle.opening_rules.specs.declared.refusals.BadImage.{BadImage}
use Rattle.opening_rules.proofs.Accepted.{file_of, stands_by, accepted_stands}
use Rattle.opening_rules.proofs.Standing.{standing_is_accepted}
use Rattle.opening_rules.proofs.WholeWords.{one_refusal_of_bytes, not_both_of_bytes}
use Rattle.recovery.specs.OpenAnswers.{OpensBytes}
use Rattle.recovery.specs.declared.refusals.OpenRefusal.{OpenRefusal}
use Rattle.recovery.specs.declared.refusals.OpenRefusal.TheVariants.{Bad, NoMemory}
use Rattle.image_tools.specs.DumpText.{dump_text}
use Rattle.madfs_cli.specs.Replays.{StandForAFile}
use Rattle.madfs_cli.specs.Images.{image_limit, RefusesImage, Clears, OpensTo, IsFileAt, IsFileOf, IsDumpOf, IsNewImage}

-- what clearing leaves of an image that opens
pub opens_to : (bytes words rest : List ℕ) (start : Start) → AcceptsBytes bytes words rest → ((chain file : List ℕ) (position : ℕ) → StandsBy words chain file position → Recovered words start file position) → OpensTo bytes start.words.items
opens_to bytes words rest start accepts recovers =
    let stands = accepted_stands words rest accepts.accepts in
    let recovered = recovers (chain_of words rest) stands.0 stands.1 stands.2 in
    let one : recovered.chain ≡ chain_of words rest = one_chain words (shape_of words) recovered.chain (chain_of words rest) recovered.of_words stands.2.stands.is_chain in
    record {
      chain = chain_of words rest;
      clears = record {
        words = words;
        rest = rest;
        accepts = accepts;
        chain_is = refl;
        cleared_is = subst (λ (l : List ℕ). IsCleared (shape_of words) (tail_of words (shape_of words) l) words start.words.items) one recovered.cleared;
      };
    }

-- the words that clearing leaves stand for the same file
pub clears_stand : (bytes chain cleared : List ℕ) → (clears : Clears bytes chain cleared) → StaysCleared clears.words cleared (chain_of clears.words clears.rest) (file_of clears.words clears.rest) (position_of clears.words (shape_of clears.words) (chain_of clears.words clears.rest))
clears_stand bytes chain cleared clears =
    clearing_keeps clears.words cleared (chain_of clears.words clears.rest) (file_of clears.words clears.rest) (position_of clears.words (shape_of clears.words) (chain_of clears.words clears.rest))
    (stands_by clears.words clears.rest clears.accepts.accepts)
    (subst (λ (l : List ℕ). IsCleared (shape_of clears.words) (tail_of clears.words (shape_of clears.words) l) clears.words cleared) clears.chain_is clears.cleared_is)

-- so they stand for a file
pub opened_stands : (bytes cleared : List ℕ) → OpensTo bytes cleared → StandForAFile cleared
opened_stands bytes cleared opens =
    let clears = opens.clears in
    (chain_of clears.words clears.rest, file_of clears.words clears.rest, position_of clears.words (shape_of clears.words) (chain_of clears.words clears.rest), (clears_stand bytes opens.chain cleared clears).reads.stands)

within_limit : (blocks bytes : ℕ) → blocks ≤ 65535 → (bytes ≡ 64) ⊎ ((bytes ≡ 512) ⊎ (bytes ≡ 4096)) → 8 * (blocks * (bytes / 8)) ≤ 268431360
within_limit blocks bytes few is = by_bytes (λ (n : ℕ). 8 * (blocks * (n / 8)) ≤ 268431360) bytes is (omega (arith, few)) (omega (arith, few)) (omega (arith, few))

-- words with a header are no more bytes than an image may have
few_bytes : (bytes words : List ℕ) → bytes ≡ word_bytes words → HasHeader words → length bytes ≤ image_limit
few_bytes bytes words same header =
    let shape = shape_of words in
    let allowed = allowed_shape shape.data_blocks shape.log_blocks shape.block_bytes header.allowed in
    let few : 8 * length words ≤ image_limit = subst (λ (n : ℕ). 8 * n ≤ image_limit) (sym header.whole) (within_limit (total shape) shape.block_bytes allowed.few allowed.bytes_are) in
    subst (λ (n : ℕ). n ≤ image_limit) (sym (ap length same ∙ eight_each words)) few

-- the file of what clearing leaves is the image's
pub file_shown : (bytes cleared text : List ℕ) → OpensTo bytes cleared → ((chain file : List ℕ) (position : ℕ) → StandsBy cleared chain file position → text ≡ file) → IsFileOf bytes text
file_shown bytes cleared text opens shown =
    let clears = opens.clears in
    let same : text ≡ file_of clears.words clears.rest =
    shown (chain_of clears.words clears.rest) (file_of clears.words clears.rest) (position_of clears.words (shape_of clears.words) (chain_of clears.words clears.rest)) (clears_stand bytes opens.chain cleared clears).reads.stands in (
      position_of clears.words (shape_of clears.words) (chain_of clears.words clears.rest),
      record {
        few = few_bytes bytes clears.words clears.accepts.bytes_are (stands_by clears.words clears.rest clears.accepts.accepts).header;
        words = clears.words;
        rest = clears.rest;
        accepts = clears.accepts;
        stands = subst (λ (l : List ℕ). StandsBy clears.words (chain_of clears.words clears.rest) l (position_of clears.words (shape_of clears.words) (chain_of clears.words clears.rest))) (sym same) (stands_by clears.words clears.rest clears.accepts.accepts);
      },
    )

-- the bytes of words that stand for a file are an image that opens to it
pub file_opens : (bytes words chain file : List ℕ) (position : ℕ) → bytes ≡ word_bytes words → ((place : ℕ) → get_or words place 0 < 2 ^ 64) → StandsBy words chain file position → IsFileAt bytes file position
file_opens bytes words chain file position same small stands =
    let accepted = standing_is_accepted words chain file position stands in
    record {
      few = few_bytes bytes words same stands.header;
      words = words;
      rest = accepted.0;
      accepts = record { bytes_are = same; small = small; accepts = accepted.1 };
      stands = accepted.3;
    }

-- those of a just-made image open to the empty file
pub made_opens : (shape : Shape) (bytes words : List ℕ) → JustMadeStands → shape_refusal shape.data_blocks shape.log_blocks shape.block_bytes ≡ None → IsJustMade shape words → bytes ≡ word_bytes words →
    ((place : ℕ) → get_or words place 0 < 2 ^ 64) → IsNewImage shape bytes
made_opens shape bytes words stands allowed made same small = record {
  words = words;
  just_made = made;
  bytes_are = same;
  opens = file_opens bytes words (first_log shape ∷ []) [] 0 same small (stands shape words allowed made).1;
}

-- the text of what clearing leaves
pub dump_shown : (bytes cleared text : List ℕ) → OpensTo bytes cleared → ((chain : List ℕ) → IsChain cleared (shape_of cleared) chain → text ≡ dump_text cleared (shape_of cleared) chain) → IsDumpOf bytes text
dump_shown bytes cleared text opens shown =
    let clears = opens.clears in
    let is : IsChain cleared (shape_of cleared) opens.chain = subst (λ (l : List ℕ). IsChain cleared (shape_of cleared) l) (sym clears.chain_is) (clears_stand bytes opens.chain cleared clears).reads.stands.stands.is_chain in
    record { chain = opens.chain; cleared = cleared; clears = clears; text_is = shown opens.chain is }

-- an image has one refusal
pub one_image_refusal : (bytes : List ℕ) (why other : BadImage) → RefusesImage bytes why → RefusesImage bytes other → why ≡ other
one_image_refusal bytes why other (inl long) (inl also) = long.1 ∙ sym also.1
one_image_refusal bytes why other (inl long) (inr short) = absurd (omega (arith, long.0, short.0))
one_image_refusal bytes why other (inr short) (inl long) = absurd (omega (arith, long.0, short.0))
one_image_refusal bytes why other (inr refused) (inr again) = one_refusal_of_bytes bytes why other refused.1 again.1

-- an image that opens is not refused
pub not_refused : (bytes words rest : List ℕ) (why : BadImage) → length bytes ≤ image_limit → AcceptsBytes bytes words rest → RefusesImage bytes why → ⊥
not_refused bytes words rest why few accepts (inl long) = omega (arith, long.0, few)
not_refused bytes words rest why few accepts (inr refused) = not_both_of_bytes bytes words rest why refused.1 accepts

-- all that was left is these bytes
pub all_taken : (before after : Option (List ℕ)) (taken bytes : List ℕ) → TakesAll before after taken → before ≡ Some bytes → taken ≡ bytes
all_taken None after taken bytes takes known = cc
all_taken (Some left) after taken bytes takes known = cc (takes.0, known)

-- a source that gave one byte more than the limit had more
pub too_long : (before after : Option (List ℕ)) (bytes : List ℕ) → TakesCount before after (image_limit + 1) → before ≡ Some bytes → image_limit < length bytes
too_long before None bytes takes known = cc (takes.2, known)
too_long before (Some left) bytes takes known =
    let same : bytes ≡ takes.0 ++ left = some_same bytes (takes.0 ++ left) (sym known ∙ takes.2) in
    omega (arith, ap length same, length-append takes.0 left, takes.1)
  where
    some_same : (a b : List ℕ) → Some a ≡ Some b → a ≡ b
    some_same a b same = cc

-- a refusal of the bytes that were read, which are no more than an image may have
pub image_refused : (bytes read : List ℕ) (refusal : OpenRefusal) (why : BadImage) → refusal ≡ Bad why → OpensBytes (Err refusal) read → read ≡ bytes → length bytes ≤ image_limit → RefusesImage bytes why
image_refused bytes read (Bad other) why same refuses is few =
    let one : other ≡ why = cc in
    inr (few, subst (λ (l : List ℕ). RefusesBytes l why) is (subst (λ (w : BadImage). RefusesBytes read w) one refuses))
image_refused bytes read NoMemory why same refuses is few = cc

-- the last block of a chain is in the log area, where all of them are
last_in_log : (shape : Shape) (block : ℕ) (rest : List ℕ) → is_in_log shape block ≡ true → list_all (is_in_log shape) rest ≡ true → is_in_log shape (last_block block rest) ≡ true
last_in_log shape block [] first all = first
last_in_log shape block (next ∷ rest) first all = last_in_log shape next rest (both_left (is_in_log shape next) (list_all (is_in_log shape) rest) all) (both_right (is_in_log shape next) (list_all (is_in_log shape) rest) all)

end_in_log : (words : List ℕ) (shape : Shape) (chain : List ℕ) → IsLinked words shape chain → list_all (is_in_log shape) chain ≡ true → is_in_log shape (last_block 0 chain) ≡ true
end_in_log words shape [] linked all = absurd linked
end_in_log words shape (first ∷ rest) linked all = last_in_log shape first rest (both_left (is_in_log shape first) (list_all (is_in_log shape) rest) all) (both_right (is_in_log shape first) (list_all (is_in_log shape) rest) all)

-- no word of block 0 is after a tail of a block of the log area
not_after : (shape : Shape) (block : ℕ) (words : List ℕ) (place : ℕ) → is_in_log shape block ≡ true → place < words_in shape → is_after shape (tail_in block words) place ≡ false
not_after shape block words place log inside = go (is_closed (slots_of words))
  where
    past : words_in shape ≤ block * words_in shape
    past =
        let low : shape.data_blocks < block = ltb-true shape.data_blocks block (both_left (nat_lt shape.data_blocks block) (nat_lt block (total shape)) log) in
        let times : 1 * words_in shape ≤ block * words_in shape = mul-le-mul_right (words_in shape) (omega (arith, low)) in
        omega (arith, times)

    go : (closed : Bool) → is_after shape (if closed then AtLink block else AtSlot block (3 + length (entry_words (slots_of words)))) place ≡ false
    go true = refl
    go false =
        let link : (place == block * words_in shape) ≡ false = ne_eqb place (block * words_in shape) (λ e. omega (arith, e, inside, past)) in
        let slot : nat_lt (block * words_in shape + (3 + length (entry_words (slots_of words)))) place ≡ false = le-ltb (block * words_in shape + (3 + length (entry_words (slots_of words)))) place (omega (arith, inside, past)) in
        rw (link, slot) refl

-- clearing changes no word of block 0
pub first_kept : (bytes chain cleared : List ℕ) → (clears : Clears bytes chain cleared) → (place : ℕ) → place < words_in (shape_of clears.words) → get_or cleared place 0 ≡ get_or clears.words place 0
first_kept bytes chain cleared clears place inside =
    let stands : StandsBy clears.words chain (file_of clears.words clears.rest) (position_of clears.words (shape_of clears.words) (chain_of clears.words clears.rest)) =
    subst (λ (l : List ℕ). StandsBy clears.words l (file_of clears.words clears.rest) (position_of clears.words (shape_of clears.words) (chain_of clears.words clears.rest))) (sym clears.chain_is) (stands_by clears.words clears.rest clears.accepts.accepts) in
    clears.cleared_is.each place
    ∙ ap (λ (b : Bool). if b then 0 else get_or clears.words place 0)
    (not_after (shape_of clears.words) (last_block 0 chain) (block_words clears.words (shape_of clears.words) (last_block 0 chain)) place
    (end_in_log clears.words (shape_of clears.words) chain stands.stands.is_chain.linked stands.stands.format.areas) inside)
