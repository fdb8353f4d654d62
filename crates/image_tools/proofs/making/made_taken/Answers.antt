use Rattle.std.proofs.Common.{◌≡◌, ◌+◌, ◌*◌, ◌/◌, ◌%◌, ◌^◌, ℕ, List, length, get_or, set, sym, ap, ◌∙◌, subst, arith}
use Rattle.std.specs.Int.RustNames.{bit_or}
use Rattle.std.specs.Int.{div_ceil}
use Rattle.log_image.specs.Image.{total, shape_by}
use Rattle.image_tools.specs.Made.{HasBitsOf}
use Rattle.image_tools.proofs.BitLemmas.{two_bits, word_in}
use Rattle.std.proofs.lemmas.List.{get_or_read, length-set, length-replicate}
use Rattle.image_tools.proofs.making.made_taken.Goals as goal

pub returns : goal.returns
returns c =
    let log : c.first-log.result ≡ c.args.geometry.data_blocks + 1 = omega (arith, c.first-log.ensures) in
    let count : c.div_ceil.result ≡ div_ceil (total (shape_by c.args.geometry)) 64 = c.div_ceil.ensures ∙ ap (λ (n : ℕ). div_ceil n 64) c.total.ensures.value in
    subst (λ (n : ℕ). HasBitsOf (total (shape_by c.args.geometry)) n (set (set c.in_ok-taken.taken.items 0 1) (c.first-log.result / 64) (bit_or c.index_mut-2.result.now (1 * 2 ^ (c.first-log.result % 64) % 18446744073709551616)))) log
    (subst (λ (l : List ℕ). HasBitsOf (total (shape_by c.args.geometry)) c.first-log.result (set (set l 0 1) (c.first-log.result / 64) (bit_or c.index_mut-2.result.now (1 * 2 ^ (c.first-log.result % 64) % 18446744073709551616)))) (sym c.in_ok-taken.ensures)
    (two_bits (total (shape_by c.args.geometry)) c.first-log.result c.div_ceil.result c.index_mut-2.result.now (omega (arith, log, c.args.geometry.some_log)) count
    (get_or_read (set c.in_ok-taken.taken.items 0 1) (c.first-log.result / 64) c.index_mut-2.result.now
    (omega (arith, length-set {A = ℕ} c.in_ok-taken.taken.items 0 1, ap length c.in_ok-taken.ensures, length-replicate {A = ℕ} c.div_ceil.result 0, word_in (total (shape_by c.args.geometry)) c.first-log.result c.div_ceil.result (omega (arith, log, c.args.geometry.some_log)) count))
    c.index_mut-2.ensures.value 0
    ∙ ap (λ (l : List ℕ). get_or (set l 0 1) (c.first-log.result / 64) 0) c.in_ok-taken.ensures)))
