use Rattle.std.proofs.Common.{◌≡◌, ◌+◌, ◌*◌, ℕ, List, Option, Some, length, suc, sym, ap, ◌∙◌, arith}
use Rattle.log_entry.specs.declared.shapes.Geometry.{Geometry}
use Rattle.pmem_words.specs.Seats.{Seat, Calling, q_of}
use Rattle.log_core.specs.Works.{words_of}
use Rattle.partial_blocks.specs.Touching.{base_place}
use Rattle.partial_blocks.specs.Composing.{base_word, words_laid}
use Rattle.partial_blocks.proofs.WordsLaid.{base_inside, same_base_word, same_laid, laid_more}
use Rattle.partial_blocks.proofs.composing.lay_block.Goals as goal

pub base_word-old-requires : goal.base_word-old-requires
base_word-old-requires c = λ place found.
    let i = c.loop-word.invariant in
    let s : Seat = c.args.seat.now in
    let low = c.loop-word-test.true in
    let q_is = c.q-q.ensures ∙ ap q_of c.geometry.ensures in
    let base : base_place s.calling.bases c.args.virt ≡ Some place = sym (c.base_place-base.ensures ∙ ap (λ (l : List ℕ). base_place l c.args.virt) c.bases.ensures) ∙ found in
    let there = (base_inside s c.args.virt place c.loop-word.word c.requires.whole base (omega (arith, low, q_is))).1 in
    let wide : place * q_of c.loop-word.seat.geometry ≡ place * words_of s = ap (λ (g : Geometry). place * q_of g) i.geometry in
    let long : length c.loop-word.seat.calling.base_words ≡ length s.calling.base_words = ap (λ (u : Calling). length u.base_words) i.calling in
    omega (arith, there, wide, long)

pub loop-word-preserved : goal.loop-word-preserved
loop-word-preserved c =
    let i = c.loop-word.invariant in
    let s : Seat = c.args.seat.now in
    let word : ℕ = c.loop-word.word in
    let old = c.base_word-old.ensures ∙ (same_base_word s c.loop-word.seat c.base_place-base.result word i.geometry i.calling
    ∙ ap (λ (b : Option ℕ). base_word s b word) (c.base_place-base.ensures ∙ ap (λ (l : List ℕ). base_place l c.args.virt) c.bases.ensures)) in
    let bytes_are = c.bytes.ensures ∙ ap (λ (u : Calling). u.bytes) i.calling in
    let size = c.from-2.ensures ∙ (c.block_bytes.ensures.value ∙ ap (λ (g : Geometry). g.block_bytes) c.geometry-2.ensures) in
    let start = ap (λ (n : ℕ). n * c.from-2.result) c.from.ensures ∙ ap (λ (n : ℕ). c.args.virt * n) size in
    let at : c.from.result * c.from-2.result + 8 * c.from-in-loop-word.result ≡ c.args.virt * s.geometry.block_bytes + 8 * word = (let here = c.from-in-loop-word.ensures in omega (arith, start, here)) in
    let value = c.laid_word-new.ensures ∙ same_laid c.args.offset _ s.calling.bytes _ (c.args.virt * s.geometry.block_bytes + 8 * word) _ (base_word s (base_place s.calling.bases c.args.virt) word) bytes_are at old in
    let next : word + 1 ≡ suc word = omega arith in
    let is = c.set_word.ensures ∙ laid_more c.args.offset c.args.place c.args.virt word (word + 1) c.laid_word-new.result s c.loop-word.seat next i.seat value in
    record {
      seat = is;
      many = ap (λ (u : Seat). length u.blocks.owned) c.set_word.ensures ∙ (Rattle.std.proofs.lemmas.List.length-set _ c.args.place _ ∙ (Rattle.std.proofs.lemmas.List.length-set c.loop-word.seat.blocks.owned c.args.place _ ∙ i.many));
      geometry = ap (λ (u : Seat). u.geometry) c.set_word.ensures ∙ i.geometry;
      calling = ap (λ (u : Seat). u.calling) c.set_word.ensures ∙ i.calling;
    }

pub returns : goal.returns
returns c =
    let q_is = c.q-q.ensures ∙ ap q_of c.geometry.ensures in
    let past = c.loop-word-test.false in
    let end = c.loop-word.auto.word-end in
    let all : c.loop-word.word ≡ q_of c.args.seat.now.geometry = omega (arith, q_is, past, end) in
    c.loop-word.invariant.seat ∙ ap (λ (n : ℕ). words_laid c.args.offset c.args.place c.args.virt n c.args.seat.now) all
