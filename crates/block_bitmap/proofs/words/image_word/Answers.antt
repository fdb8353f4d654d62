use Rattle.std.proofs.Common.{◌≡◌, ◌≤◌, ◌*◌, arith, ap, ◌∙◌}
use Rattle.pmem_words.specs.Seats.{q_of}
use Rattle.log_core.proofs.BlockWords.{q_range, few_words}
use Rattle.block_bitmap.proofs.words.image_word.Goals as goal

pub overflow_mul-result : goal.overflow_mul-result
overflow_mul-result c =
    let same : c.q.result ≡ q_of c.args.seat.now.geometry = c.q.ensures ∙ ap q_of c.geometry.ensures in
    let short = (q_range c.args.seat.now.geometry).1 in
    let few : c.owned_block_at.result * c.q.result ≤ 65535 * 512 = few_words c.owned_block_at.result c.q.result c.owned_block_at.type_inv (omega (arith, same, short)) in
    rw c.from.ensures (omega (arith, few))

pub overflow_add-result : goal.overflow_add-result
overflow_add-result c =
    let same : c.q.result ≡ q_of c.args.seat.now.geometry = c.q.ensures ∙ ap q_of c.geometry.ensures in
    let short = (q_range c.args.seat.now.geometry).1 in
    let few : c.owned_block_at.result * c.q.result ≤ 65535 * 512 = few_words c.owned_block_at.result c.q.result c.owned_block_at.type_inv (omega (arith, same, short)) in
    rw c.from.ensures (omega (arith, few))
