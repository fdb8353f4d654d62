use Rattle.std.proofs.Common.{◌≡◌, ◌<◌, ◌≤◌, ◌+◌, ◌*◌, ◌++◌, true, ℕ, List, [], ◌∷◌, length, take, sym, ◌∙◌, ap, subst, arith, slice_index, append_assoc}
use Rattle.std.proofs.lemmas.List.{take_all, length-append}
use Rattle.pmem_words.specs.declared.keeps.KeptWord.{KeptWord}
use Rattle.pmem_words.specs.declared.owned.OwnedBlock.{OwnedBlock}
use Rattle.pmem_words.specs.Seats.{Seat, q_of, kept_room}
use Rattle.log_entry.specs.Shape.{words_of_block}
use Rattle.log_entry.specs.declared.shapes.Geometry.{Geometry}
use Rattle.log_image.specs.Chains.{is_listed}
use Rattle.log_core.specs.Needs.{owned_numbers}
use Rattle.log_core.specs.Works.{words_of}
use Rattle.log_core.specs.Steps.{content_of}
use Rattle.log_blocks.specs.Committing.{owned_place, rows}
use Rattle.log_blocks.proofs.KeptLists.{length_rows}
use Rattle.log_blocks.proofs.OwnedContent.{within, HasContent, has_content, content_word, content_short, rows_more}
use Rattle.log_blocks.proofs.committing.keep_content.Goals as goal

-- the seat with these words kept behind those that it had
abbrev keeping : Seat → List KeptWord → Seat
keeping s more = record s { walk = record s.walk { kept = s.walk.kept ++ more } }

q_is : (s : Seat) (geometry : Geometry) (q : ℕ) → geometry ≡ s.geometry → q ≡ words_of_block geometry.block_bytes → q ≡ words_of s
q_is s geometry q same is = is ∙ ap (λ (g : Geometry). words_of_block g.block_bytes) same

place_is : (s : Seat) (block : ℕ) (owned : List OwnedBlock) (place : ℕ) → owned ≡ s.blocks.owned → place ≡ owned_place block owned → place ≡ owned_place block s.blocks.owned
place_is s block owned place same is = is ∙ ap (owned_place block) same

long_is : (s t : Seat) (more : List KeptWord) → t ≡ keeping s more → length t.blocks.contents ≡ length t.blocks.owned * q_of t.geometry → length s.blocks.contents ≡ length s.blocks.owned * words_of s
long_is s t more same long = subst (λ (u : Seat). length u.blocks.contents ≡ length u.blocks.owned * q_of u.geometry) same long

-- the word stands in the contents
module _ (s : Seat) (block place q word : ℕ) (has : HasContent (words_of s) block s.blocks.owned s.blocks.contents) (long : length s.blocks.contents ≡ length s.blocks.owned * words_of s)
    (at : place ≡ owned_place block s.blocks.owned) (is : q ≡ words_of s) (low : word < q) where
  inside : place * q + word < length s.blocks.contents
  inside = (let upto : owned_place block s.blocks.owned * words_of s + words_of s ≤ length s.blocks.owned * words_of s = within (owned_place block s.blocks.owned) (length s.blocks.owned) (words_of s) has.inside in
      let same : place * q ≡ owned_place block s.blocks.owned * words_of s = ap (λ (p : ℕ). p * q) at ∙ ap (λ (n : ℕ). owned_place block s.blocks.owned * n) is in
      omega (arith, upto, same, is, low, long))

  value_is : slice_index s.blocks.contents (place * q + word) ≡ slice_index (content_of s block) word
  value_is = ap (λ (p : ℕ). slice_index s.blocks.contents (p * q + word)) at ∙ (ap (λ (n : ℕ). slice_index s.blocks.contents (owned_place block s.blocks.owned * n + word)) is
      ∙ sym (content_word (words_of s) block s.blocks.owned s.blocks.contents has word (let same = is in omega (arith, low, same))))

in_contents : (s t : Seat) (more : List KeptWord) (block : ℕ) (owned : List OwnedBlock) (geometry : Geometry) (contents : List ℕ) (place q word : ℕ) → t ≡ keeping s more → length t.blocks.contents ≡ length t.blocks.owned * q_of t.geometry →
    is_listed (owned_numbers s.blocks.owned) block ≡ true → owned ≡ s.blocks.owned → place ≡ owned_place block owned → geometry ≡ s.geometry → q ≡ words_of_block geometry.block_bytes → word < q → contents ≡ t.blocks.contents → place * q + word < length contents
in_contents s t more block owned geometry contents place q word is many listed same_owned at same_geometry q_same low same =
    (let long = long_is s t more is many in
    let here = inside s block place q word (has_content (words_of s) block s.blocks.owned s.blocks.contents long listed) long (place_is s block owned place same_owned at) (q_is s geometry q same_geometry q_same) low in
    let all = ap (λ (l : List ℕ). length l) (same ∙ ap (λ (u : Seat). u.blocks.contents) is) in
    omega (arith, here, all))

pub bounds-contents-place : goal.bounds-contents-place
bounds-contents-place c = in_contents c.args.seat.now c.loop-word.seat _ c.args.block c.owned.result.now c.geometry.result.now c.contents.result.now c.place_of-place.result c.q-q.result c.loop-word.word
    c.loop-word.invariant.seat c.contents.ensures.len c.requires.owned c.owned.ensures c.place_of-place.ensures c.geometry.ensures c.q-q.ensures c.loop-word-test.true c.contents.ensures.words

pub offset_bounds-contents-place : goal.offset_bounds-contents-place
offset_bounds-contents-place c = (let low = in_contents c.args.seat.now c.loop-word.seat _ c.args.block c.owned.result.now c.geometry.result.now c.contents.result.now c.place_of-place.result c.q-q.result c.loop-word.word
    c.loop-word.invariant.seat c.contents.ensures.len c.requires.owned c.owned.ensures c.place_of-place.ensures c.geometry.ensures c.q-q.ensures c.loop-word-test.true c.contents.ensures.words in let small = c.contents.type_inv.1 in omega (arith, low, small))

pub overflow_add-value : goal.overflow_add-value
overflow_add-value c = (let low = in_contents c.args.seat.now c.loop-word.seat _ c.args.block c.owned.result.now c.geometry.result.now c.contents.result.now c.place_of-place.result c.q-q.result c.loop-word.word
    c.loop-word.invariant.seat c.contents.ensures.len c.requires.owned c.owned.ensures c.place_of-place.ensures c.geometry.ensures c.q-q.ensures c.loop-word-test.true c.contents.ensures.words in let small = c.contents.type_inv.0 in omega (arith, low, small))

pub overflow_mul-value : goal.overflow_mul-value
overflow_mul-value c = (let low = in_contents c.args.seat.now c.loop-word.seat _ c.args.block c.owned.result.now c.geometry.result.now c.contents.result.now c.place_of-place.result c.q-q.result c.loop-word.word
    c.loop-word.invariant.seat c.contents.ensures.len c.requires.owned c.owned.ensures c.place_of-place.ensures c.geometry.ensures c.q-q.ensures c.loop-word-test.true c.contents.ensures.words in let small = c.contents.type_inv.0 in omega (arith, low, small))

-- there is room for each word
room : (s t : Seat) (kept : List KeptWord) (content : List ℕ) (block word q : ℕ) → t ≡ keeping s (rows block 0 (take word content)) → q ≡ words_of s → word < q → length s.walk.kept + words_of s ≤ kept_room s.geometry → length t.walk.kept < kept_room t.geometry
room s t kept content block word q same is low many = subst (λ (u : Seat). length u.walk.kept < kept_room u.geometry) (sym same)
    (let both = length-append s.walk.kept (rows block 0 (take word content)) in
    let long = length_rows block 0 (take word content) in
    let few = Rattle.std.proofs.lemmas.List.length-take word content in
    omega (arith, both, long, few, is, low, many))

pub keep-requires : goal.keep-requires
keep-requires c = room c.args.seat.now c.loop-word.seat [] (content_of c.args.seat.now c.args.block) c.args.block c.loop-word.word c.q-q.result c.loop-word.invariant.seat
    (q_is c.args.seat.now c.geometry.result.now c.q-q.result c.geometry.ensures c.q-q.ensures) c.loop-word-test.true c.requires.room

pub loop-word-preserved : goal.loop-word-preserved
loop-word-preserved c =
    (let s : Seat = c.args.seat.now in
    let long = long_is s c.loop-word.seat _ c.loop-word.invariant.seat c.contents.ensures.len in
    let has = has_content (words_of s) c.args.block s.blocks.owned s.blocks.contents long c.requires.owned in
    let at = place_is s c.args.block c.owned.result.now c.place_of-place.result c.owned.ensures c.place_of-place.ensures in
    let q = q_is s c.geometry.result.now c.q-q.result c.geometry.ensures c.q-q.ensures in
    let same : c.contents.result.now ≡ s.blocks.contents = c.contents.ensures.words ∙ ap (λ (t : Seat). t.blocks.contents) c.loop-word.invariant.seat in
    let value : slice_index c.contents.result.now (c.place_of-place.result * c.q-q.result + c.loop-word.word) ≡ slice_index (content_of s c.args.block) c.loop-word.word =
    ap (λ (l : List ℕ). slice_index l (c.place_of-place.result * c.q-q.result + c.loop-word.word)) same ∙ value_is s c.args.block c.place_of-place.result c.q-q.result c.loop-word.word has long at q c.loop-word-test.true in
    record {
      seat = c.keep.ensures
          ∙ (ap (λ (t : Seat). record t { walk = record t.walk { kept = t.walk.kept ++ record { block = c.args.block; slot = c.loop-word.word; word = slice_index c.contents.result.now (c.place_of-place.result * c.q-q.result + c.loop-word.word) } ∷ [] } }) c.loop-word.invariant.seat
          ∙ ap (λ (kept : List KeptWord). record s { walk = record s.walk { kept = kept } })
          (append_assoc s.walk.kept (rows c.args.block 0 (take c.loop-word.word (content_of s c.args.block))) _
          ∙ ap (λ (more : List KeptWord). s.walk.kept ++ more)
          (ap (λ (word : ℕ). rows c.args.block 0 (take c.loop-word.word (content_of s c.args.block)) ++ record { block = c.args.block; slot = c.loop-word.word; word = word } ∷ []) value
          ∙ rows_more c.args.block (content_of s c.args.block) c.loop-word.word (let low = c.loop-word-test.true in let whole = has.long in omega (arith, low, whole, q)))));
    })

pub returns : goal.returns
returns c = c.loop-word.invariant.seat
    ∙ ap (λ (words : List ℕ). keeping c.args.seat.now (rows c.args.block 0 words))
    (take_all c.loop-word.word (content_of c.args.seat.now c.args.block)
    (let short = content_short (words_of c.args.seat.now) c.args.block c.args.seat.now.blocks.owned c.args.seat.now.blocks.contents in
    let q = q_is c.args.seat.now c.geometry.result.now c.q-q.result c.geometry.ensures c.q-q.ensures in
    let past = c.loop-word-test.false in omega (arith, short, q, past)))
