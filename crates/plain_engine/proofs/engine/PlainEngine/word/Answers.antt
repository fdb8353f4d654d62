use Rattle.std.proofs.Common.{◌≡◌, ◌∙◌, ◌<◌, ◌≤◌, ◌+◌, ◌*◌, ◌/◌, ◌%◌, ℕ, Some, inl, inr, length, get_or, ap, sym, arith}
use Rattle.std.proofs.lemmas.Grind.{common_steps}
use Rattle.log_image.specs.Image.{words_in, total, shape_by}
use Rattle.log_image.proofs.BlockLemmas.{block_inside}
use Rattle.std.proofs.Math.Nat.{mod-lt}
use Rattle.block_table.specs.FileMap.{block_at}
use Rattle.plain_engine.specs.Bytes.{byte_of}
use Rattle.plain_engine.specs.declared.engine.PlainEngine.{PlainEngine}
use Rattle.plain_engine.proofs.BoundsLemmas.{Bounds, bounds, data_inside}
use Rattle.plain_engine.proofs.StoreLemmas.{eight_words}
use Rattle.plain_engine.proofs.ReadLemmas.{word_present, word_absent}
use Rattle.plain_engine.proofs.engine.PlainEngine.word.Goals as goal

in_bounds : (e : PlainEngine) → Bounds (shape_by e.geometry) e.words.items e.taken.items e.table e.position e.tail_block e.tail_slot
in_bounds e = bounds (shape_by e.geometry) e.words.items e.taken.items e.table e.position e.tail_block e.tail_slot e.first_clear e.kept

pub returns-then-virt-ge65536 : goal.returns-then-virt-ge65536
returns-then-virt-ge65536 c = λ chain file runs k small.
    let e = c.args.self.now in
    let b = in_bounds e in
    word_absent (shape_by e.geometry) e.words.items e.taken.items e.table e.position e.tail_block e.tail_slot e.first_clear chain file runs (eight_words e.geometry.block_bytes e.geometry.block_allowed) (omega (arith, b.long))
    c.args.index c.from-count.result k (c.from-count.ensures ∙ c.q.ensures) (inl c.if-virt-ge65536.true) small

pub returns-in-Some : goal.returns-in-Some
returns-in-Some c = λ chain file runs k small.
    let e = c.args.self.now in
    let b = in_bounds e in
    let found : block_at e.table (c.args.index / c.from-count.result) ≡ Some c.in-Some.block = sym c.block.ensures ∙ c.in-Some.is in
    let whole : c.in-Some.block * words_in (shape_by e.geometry) + words_in (shape_by e.geometry) ≤ length e.words.items =
    omega (arith, b.whole, block_inside (words_in (shape_by e.geometry)) c.in-Some.block (total (shape_by e.geometry)) (data_inside (shape_by e.geometry) c.in-Some.block (b.held (c.args.index / c.from-count.result) c.in-Some.block found).0)) in
    let here : c.index.result.now ≡ get_or e.words.items (c.in-Some.block * c.from-count.result + c.args.index % c.from-count.result) 0 = grind (arith, common_steps, c.index.ensures) in
    ap (λ (w : ℕ). byte_of w k) here
    ∙ word_present (shape_by e.geometry) e.words.items e.taken.items e.table e.position e.tail_block e.tail_slot e.first_clear chain file runs (eight_words e.geometry.block_bytes e.geometry.block_allowed) (omega (arith, b.long))
    c.args.index c.from-count.result c.in-Some.block k (c.from-count.ensures ∙ c.q.ensures) found whole small

pub index-requires : goal.index-requires
index-requires c =
    let e = c.args.self.now in
    let b = in_bounds e in
    let found : block_at e.table (c.args.index / c.from-count.result) ≡ Some c.in-Some.block = sym c.block.ensures ∙ c.in-Some.is in
    let count : c.from-count.result ≡ words_in (shape_by e.geometry) = c.from-count.ensures ∙ c.q.ensures in
    let rest : c.args.index % c.from-count.result < c.from-count.result = mod-lt c.args.index (omega (arith, count, b.long)) in
    omega (arith, rest, count, ap (λ (n : ℕ). c.in-Some.block * n) count, b.whole, e.words.ok.0, block_inside (words_in (shape_by e.geometry)) c.in-Some.block (total (shape_by e.geometry)) (data_inside (shape_by e.geometry) c.in-Some.block (b.held (c.args.index / c.from-count.result) c.in-Some.block found).0))

pub returns-in-None : goal.returns-in-None
returns-in-None c = λ chain file runs k small.
    let e = c.args.self.now in
    let b = in_bounds e in
    word_absent (shape_by e.geometry) e.words.items e.taken.items e.table e.position e.tail_block e.tail_slot e.first_clear chain file runs (eight_words e.geometry.block_bytes e.geometry.block_allowed) (omega (arith, b.long))
    c.args.index c.from-count.result k (c.from-count.ensures ∙ c.q.ensures) (inr (sym c.block.ensures ∙ c.in-None.is)) small
